-- Small sheets, computed: the specification's own examples as they are printed in the former reading, and padded in exact mode, the listing example of document 01, an island, and refusals.
use Rattle.std.specs.Prelude.{ℕ, ◌+◌, ◌≡◌, refl, List, [], ◌∷◌, ◌++◌, map, take, drop, replicate, pos, negsuc}
use Rattle.laws.specs.Lists.{run, kept, all, same, all_at, holds, place}
use Rattle.laws.specs.Text.{text}
use Rattle.record.specs.declared.Mode.{Mode}
use Rattle.record.specs.declared.Mode.TheVariants.{Loose, Exact, Former}
use Rattle.record.specs.declared.refusal.Refusal.TheVariants as Refusal
use Rattle.record.specs.Refusals.{number_of}
use Rattle.record.specs.Record.{ends_cr, content, content_is, line_is, line_of}
use Rattle.number.specs.Words.{unled, trimmed, word_of}
use Rattle.number.specs.Number as Number
use Rattle.heading.specs.declared.Header.{Header}
use Rattle.header.specs.Header.{first_words, kind_said, is_named, head_scale, head_name, headed}
use Rattle.heading.specs.Heading.{name_byte, is_name}
use Rattle.token.specs.Lex.{keywords, may_lie_outside, lift, unlift, unmarked, is_marked, key_of, lex_of}
use Rattle.kinds.specs.Kinds.{row_width, own_width, schedule, next_in, next_of, fixed, fixed_vertices, codes, is_listed, want_at}
use Rattle.machine.specs.Machine.{want_of, vertices_of, fields_end, field_of, island_of, is_shut, ring_step, vertex_of, key_step, step_of, one_of}
use Rattle.sheet.specs.Tables.{Tables, move_at, move_from, ◌followed◌, set_last, put, ring_after}
use Rattle.sheet.specs.Reading.{Reading, sheet, refused, walk, walk_from, sections_of, meaning, reading, sections_at, eof_at, section_bytes, joined}

-- `reading` with every definition opened, so that it computes
unfoldable pub computed : Mode → List ℕ → Reading
unfolding run kept all same all_at holds place ends_cr content content_is line_is line_of unled trimmed word_of Number.value Number.ended Number.parted Number.lean Number.integer_is Number.integer_at Number.integer_of Number.sign_of Number.signs Number.signed Number.thousandths Number.is_token Number.is_neat Number.real_is Number.real_at Number.real_signed Number.real_of first_words name_byte is_name kind_said is_named head_scale head_name headed keywords may_lie_outside schedule next_in next_of fixed fixed_vertices codes is_listed lift unlift unmarked is_marked key_of lex_of want_at want_of vertices_of fields_end field_of island_of is_shut ring_step vertex_of key_step step_of one_of set_last put ring_after walk walk_from sections_of meaning reading sections_at eof_at section_bytes joined
computed mode bs = reading mode bs

-- ---- the specification's own examples (1.1.3, 1.1.6, 1.1.9 to 1.1.12)

-- padded, each record with CR LF
unfoldable pub padded : List ℕ
padded =
    text "MAPPA\r\nD458_021200\r\n    2000.000\r\nBORDO\r\n120\r\n  18\r\n"
    ++ text "       0.000\r\n   14935.000\r\n  -29985.000\r\n   14936.000\r\n  -29986.000\r\n   0\r\n"
    ++ text "   6\r\n   14941.747\r\n  -29983.615\r\n   14939.626\r\n  -29987.401\r\n   14936.901\r\n"
    ++ text "  -29990.673\r\n   14933.682\r\n  -29988.247\r\n   14937.623\r\n  -29980.518\r\n   14941.747\r\n"
    ++ text "  -29983.615\r\nTESTO\r\nCorricioni\r\n  40\r\n       0.000\r\n  -13763.925\r\n"
    ++ text "   49312.319\r\nTESTO\r\n(731)\r\n  18\r\n       0.000\r\n    9592.299\r\n"
    ++ text "  -27610.764\r\nSIMBOLO\r\n  14\r\n       4.673\r\n  -14497.567\r\n   49620.796\r\n"
    ++ text "FIDUCIALE\r\n5\r\n  20\r\n   15951.230\r\n  -30505.861\r\n   15959.230\r\n"
    ++ text "  -30497.861\r\nLINEA\r\n   6\r\n   4\r\n   15181.145\r\n  -29700.213\r\n"
    ++ text "   15179.456\r\n  -29699.078\r\n   15181.315\r\n  -29698.258\r\n   15181.145\r\n  -29700.213\r\n"
    ++ text "EOF\r\n"

-- as they are printed, with their notes behind numbers, each record with LF
printed : List ℕ
printed =
    text "MAPPA\nD458_021200\n2000.000\nBORDO\n120\n18\n"
    ++ text "0.000\n14935.000\n-29985.000\n14936.000\n-29986.000\n0          numero di isole\n"
    ++ text "6          numero di vertici\n14941.747\n-29983.615\n14939.626\n-29987.401\n14936.901\n"
    ++ text "-29990.673\n14933.682\n-29988.247\n14937.623\n-29980.518\n14941.747\n"
    ++ text "-29983.615\nTESTO\nCorricioni\n 40\n      0.000\n-13763.925\n"
    ++ text " 49312.319\nTESTO\n(731)\n 18\n      0.000\n9592.299\n"
    ++ text " -27610.764\nSIMBOLO\n  14\n      4.673\n-14497.567\n 49620.796\n"
    ++ text "FIDUCIALE\n5\n20\n15951.230\n-30505.861\n15959.230\n"
    ++ text "-30497.861\nLINEA\n6\n4\n15181.145\n-29700.213\n"
    ++ text "15179.456\n-29699.078\n15181.315\n-29698.258\n15181.145\n-29700.213\n"
    ++ text "EOF\n"

-- what both mean
abbrev pub specimen_header : Header
specimen_header = record { kind = 1; name = text "D458_021200"; scale = pos 2000000 }

unfoldable pub specimen_tables : Tables
specimen_tables =
    record {
      rows =
          pos 1 ∷ pos 0 ∷ pos 0 ∷ pos 18 ∷ pos 0 ∷ pos 14935000 ∷ negsuc 29984999 ∷ pos 14936000 ∷ negsuc 29985999 ∷ pos 3 ∷ pos 0 ∷ pos 6 ∷ pos 0 ∷ pos 0 ∷ pos 0 ∷
          pos 2 ∷ pos 0 ∷ pos 0 ∷ pos 40 ∷ pos 0 ∷ negsuc 13763924 ∷ pos 49312319 ∷ pos 0 ∷ pos 0 ∷ pos 10 ∷ pos 0 ∷ pos 0 ∷ pos 3 ∷ pos 0 ∷ pos 6 ∷
          pos 2 ∷ pos 0 ∷ pos 0 ∷ pos 18 ∷ pos 0 ∷ pos 9592299 ∷ negsuc 27610763 ∷ pos 0 ∷ pos 0 ∷ pos 5 ∷ pos 0 ∷ pos 0 ∷ pos 13 ∷ pos 0 ∷ pos 6 ∷
          pos 3 ∷ pos 0 ∷ pos 14 ∷ pos 0 ∷ pos 4673 ∷ negsuc 14497566 ∷ pos 49620796 ∷ pos 0 ∷ pos 0 ∷ pos 0 ∷ pos 0 ∷ pos 0 ∷ pos 18 ∷ pos 0 ∷ pos 6 ∷
          pos 4 ∷ pos 0 ∷ pos 20 ∷ pos 0 ∷ pos 0 ∷ pos 15951230 ∷ negsuc 30505860 ∷ pos 15959230 ∷ negsuc 30497860 ∷ pos 1 ∷ pos 0 ∷ pos 0 ∷ pos 18 ∷ pos 0 ∷ pos 6 ∷
          pos 5 ∷ pos 0 ∷ pos 6 ∷ pos 0 ∷ pos 0 ∷ pos 0 ∷ pos 0 ∷ pos 0 ∷ pos 0 ∷ pos 0 ∷ pos 0 ∷ pos 4 ∷ pos 19 ∷ pos 0 ∷ pos 6 ∷ [];
      letters = text "120Corricioni(731)5";
      islands = [];
      points = pos 14941747 ∷ negsuc 29983614 ∷ pos 14939626 ∷ negsuc 29987400 ∷ pos 14936901 ∷ negsuc 29990672 ∷ pos 14933682 ∷ negsuc 29988246 ∷ pos 14937623 ∷ negsuc 29980517 ∷ pos 14941747 ∷ negsuc 29983614 ∷ pos 15181145 ∷ negsuc 29700212 ∷ pos 15179456 ∷ negsuc 29699077 ∷ pos 15181315 ∷ negsuc 29698257 ∷ pos 15181145 ∷ negsuc 29700212 ∷ [];
    }

specimen : Reading
unfolding specimen_tables
specimen = sheet specimen_header specimen_tables

specimen-exact : reading Exact padded ≡ specimen
unfolding computed padded specimen
specimen-exact = refl

specimen-loose : reading Loose padded ≡ specimen
unfolding computed padded specimen
specimen-loose = refl

-- notes are the former reading's; loose mode refuses the first of them
specimen-printed : (reading Former printed ≡ specimen) × (reading Loose printed ≡ refused Refusal.Number 12 88)
unfolding computed printed specimen
specimen-printed = (refl, refl)

-- ---- the listing example of document 01: a TESTO may say EOF, and the last record has no line end

unfoldable pub listed : List ℕ
listed =
    text "MAPPA\nZ999_000100\n1000.000\nBORDO\n7\n18\n"
    ++ text "0.000\n1.000\n1.000\n1.000\n1.000\n0\n"
    ++ text "5\n0.000\n0.000\n10.000\n0.000\n10.000\n"
    ++ text "20.000\n0.000\n20.000\n0.000\n0.000\nTESTO\\\n"
    ++ text "EOF\n18\n0.000\n3.000\n-0.005\nEOF"

pub listed-is : reading Loose listed
    ≡ sheet (record { kind = 1; name = text "Z999_000100"; scale = pos 1000000 })
    (record {
      rows =
          pos 1 ∷ pos 0 ∷ pos 0 ∷ pos 18 ∷ pos 0 ∷ pos 1000 ∷ pos 1000 ∷ pos 1000 ∷ pos 1000 ∷ pos 1 ∷ pos 0 ∷ pos 5 ∷ pos 0 ∷ pos 0 ∷ pos 0 ∷
          pos 2 ∷ pos 1 ∷ pos 0 ∷ pos 18 ∷ pos 0 ∷ pos 3000 ∷ negsuc 4 ∷ pos 0 ∷ pos 0 ∷ pos 3 ∷ pos 0 ∷ pos 0 ∷ pos 1 ∷ pos 0 ∷ pos 5 ∷ [];
      letters = text "7EOF";
      islands = [];
      points = pos 0 ∷ pos 0 ∷ pos 10000 ∷ pos 0 ∷ pos 10000 ∷ pos 20000 ∷ pos 0 ∷ pos 20000 ∷ pos 0 ∷ pos 0 ∷ [];
    })
unfolding computed listed
listed-is = refl

-- ---- an island: its count, and its ring behind the outer one

bordered : List ℕ
bordered = text "MAPPA\nZ999_000100\n1000.000\n" ++ text "BORDO\n7\n18\n0.000\n1.000\n1.000\n1.000\n1.000\n1\n9\n4\n0.000\n0.000\n9.000\n0.000\n9.000\n9.000\n0.000\n9.000\n0.000\n0.000\n2.000\n2.000\n3.000\n2.000\n3.000\n3.000\n2.000\n2.000\n" ++ text "EOF"

bordered_tables : Tables
bordered_tables =
    record {
      rows =
          pos 1 ∷ pos 0 ∷ pos 0 ∷ pos 18 ∷ pos 0 ∷ pos 1000 ∷ pos 1000 ∷ pos 1000 ∷ pos 1000 ∷ pos 1 ∷ pos 1 ∷ pos 9 ∷ pos 0 ∷ pos 0 ∷ pos 0 ∷ [];
      letters = text "7";
      islands = 4 ∷ [];
      points = pos 0 ∷ pos 0 ∷ pos 9000 ∷ pos 0 ∷ pos 9000 ∷ pos 9000 ∷ pos 0 ∷ pos 9000 ∷ pos 0 ∷ pos 0 ∷ pos 2000 ∷ pos 2000 ∷ pos 3000 ∷ pos 2000 ∷ pos 3000 ∷ pos 3000 ∷ pos 2000 ∷ pos 2000 ∷ [];
    }

bordered-is : reading Loose bordered ≡ sheet (record { kind = 1; name = text "Z999_000100"; scale = pos 1000000 }) bordered_tables
unfolding computed bordered bordered_tables
bordered-is = refl

-- ---- a scanned sheet (1.1.13, 1.1.14): a raster's name and its four points as they stand, which are no ring; a survey book's line

unfoldable pub scanned : List ℕ
scanned =
    text "MAPPA\r\nZ999_000100\r\n    1000.000\r\nRIFERIMENTO_RASTER\r\nD458_013100.tif\r\n    9177.503\r\n  -25867.907\r\n"
    ++ text "    9160.700\r\n  -25874.732\r\n    8810.099\r\n  -26512.373\r\n    8811.408\r\n  -26529.665\r\n"
    ++ text "LIBRETTO\r\n1234567\r\n   1\r\n   2\r\n       1.000\r\n       2.000\r\n       3.000\r\n       4.000\r\nEOF\r\n"

unfoldable pub scanned_tables : Tables
scanned_tables =
    record {
      rows =
          pos 6 ∷ pos 0 ∷ pos 0 ∷ pos 0 ∷ pos 0 ∷ pos 0 ∷ pos 0 ∷ pos 0 ∷ pos 0 ∷ pos 15 ∷ pos 0 ∷ pos 4 ∷ pos 0 ∷ pos 0 ∷ pos 0 ∷
          pos 7 ∷ pos 0 ∷ pos 1 ∷ pos 0 ∷ pos 0 ∷ pos 0 ∷ pos 0 ∷ pos 0 ∷ pos 0 ∷ pos 7 ∷ pos 0 ∷ pos 2 ∷ pos 15 ∷ pos 0 ∷ pos 4 ∷ [];
      letters = text "D458_013100.tif1234567";
      islands = [];
      points = pos 9177503 ∷ negsuc 25867906 ∷ pos 9160700 ∷ negsuc 25874731 ∷ pos 8810099 ∷ negsuc 26512372 ∷ pos 8811408 ∷ negsuc 26529664 ∷ pos 1000 ∷ pos 2000 ∷ pos 3000 ∷ pos 4000 ∷ [];
    }

abbrev pub scanned_header : Header
scanned_header = record { kind = 1; name = text "Z999_000100"; scale = pos 1000000 }

pub scanned-exact : reading Exact scanned ≡ sheet scanned_header scanned_tables
unfolding computed scanned scanned_tables
scanned-exact = refl

scanned-loose : reading Loose scanned ≡ sheet scanned_header scanned_tables
unfolding computed scanned scanned_tables
scanned-loose = refl

-- a raster of three points is refused where the fourth's x is due, one of five where a keyword is due
raster-points : (reading Loose (text "MAPPA\nZ999_000100\n1000.000\nRIFERIMENTO_RASTER\nx\n0.000\n0.000\n0.000\n0.000\n0.000\n0.000\nEOF\n") ≡ refused Refusal.Number 12 84)
    × (reading Loose (text "MAPPA\nZ999_000100\n1000.000\nRIFERIMENTO_RASTER\nx\n0.000\n0.000\n0.000\n0.000\n0.000\n0.000\n0.000\n0.000\n0.000\n0.000\nEOF\n") ≡ refused Refusal.Keyword 14 96)
unfolding computed
raster-points = (refl, refl)

-- a survey book's line: exact mode lists type 1 alone; one vertex is too few
book-refused : (reading Exact (text "MAPPA\r\nZ999_000100\r\n    1000.000\r\nLIBRETTO\r\n0\r\n   2\r\n") ≡ refused Refusal.Code 6 47)
    × (reading Loose (text "MAPPA\nZ999_000100\n1000.000\nLIBRETTO\n0\n2\n1\n") ≡ refused Refusal.Count 7 40)
unfolding computed
book-refused = (refl, refl)

-- ---- one refusal of each number but 1 (a file of 16 MiB is not computed: `reading-long`)

-- the numbers by which they are called here
numbers : map number_of (Refusal.TooLong ∷ Refusal.Cut ∷ Refusal.LineEnd ∷ Refusal.Length ∷ Refusal.Byte ∷ Refusal.Header ∷ Refusal.Keyword ∷ Refusal.Number ∷ Refusal.Letters ∷ Refusal.Code ∷ Refusal.Count ∷ Refusal.OpenRing ∷ Refusal.AfterEof ∷ [])
    ≡ 1 ∷ 2 ∷ 3 ∷ 4 ∷ 5 ∷ 6 ∷ 7 ∷ 8 ∷ 9 ∷ 10 ∷ 11 ∷ 12 ∷ 13 ∷ []
numbers = refl

-- the empty file: cut at record 1
two-empty : reading Loose ([]) ≡ refused Refusal.Cut 1 0
unfolding computed
two-empty = refl

-- EOF stands for itself only where a keyword is due
two-eof : reading Loose (text "EOF") ≡ refused Refusal.Cut 1 0
unfolding computed
two-eof = refl

-- the record that is wanted is one more than the last, its offset the file's length
two-end : reading Loose (text "MAPPA\nZ999_000100\n1000.000\n") ≡ refused Refusal.Cut 4 27
unfolding computed
two-end = refl

-- exact mode demands the CR
three : reading Exact (text "MAPPA\n") ≡ refused Refusal.LineEnd 1 0
unfolding computed
three = refl

-- 256 bytes of content
four : reading Loose (replicate 256 65 ++ 10 ∷ []) ≡ refused Refusal.Length 1 0
unfolding computed
four = refl

-- another CR is a byte of the content
five : reading Loose (text "MAPPA\r\r\n") ≡ refused Refusal.Byte 1 0
unfolding computed
five = refl

-- two blanks in a first word
six-first : reading Loose (text "MAPPA  FONDIARIO\n") ≡ refused Refusal.Header 1 0
unfolding computed
six-first = refl

-- kind 3 without QU
six-name : reading Loose (text "QUADRO D'UNIONE\nZ999_000100\n") ≡ refused Refusal.Header 2 16
unfolding computed
six-name = refl

-- the scale is not above 0
six-scale : reading Loose (text "MAPPA\nZ999_000100\n-0.000\n") ≡ refused Refusal.Header 3 18
unfolding computed
six-scale = refl

-- RIFERIMENTO_RASTER takes no backslash
pub seven : reading Loose (text "MAPPA\nZ999_000100\n1000.000\nRIFERIMENTO_RASTER\\\n") ≡ refused Refusal.Keyword 4 27
unfolding computed
seven = refl

-- BORDO takes no backslash
seven-mark : reading Loose (text "MAPPA\nZ999_000100\n1000.000\nBORDO\\\n") ≡ refused Refusal.Keyword 4 27
unfolding computed
seven-mark = refl

-- a malformed number
eight : reading Loose (text "MAPPA\nZ999_000100\n1000.000\nSIMBOLO\n18x\n") ≡ refused Refusal.Number 5 35
unfolding computed
eight = refl

-- letters of blanks
nine : reading Loose (text "MAPPA\nZ999_000100\n1000.000\nTESTO\n  \n") ≡ refused Refusal.Letters 5 33
unfolding computed
nine = refl

-- a blank at an end, in exact mode
nine-exact : reading Exact (text "MAPPA\r\nZ999_000100\r\n    1000.000\r\nTESTO\r\n a\r\n") ≡ refused Refusal.Letters 5 41
unfolding computed
nine-exact = refl

-- symbol 12 is not listed
ten : reading Exact (text "MAPPA\r\nZ999_000100\r\n    1000.000\r\nSIMBOLO\r\n  12\r\n") ≡ refused Refusal.Code 5 43
unfolding computed
ten = refl

-- one island and seven vertices
eleven : reading Loose (text "MAPPA\nZ999_000100\n1000.000\nBORDO\n7\n18\n0.000\n1.000\n1.000\n1.000\n1.000\n1\n7\n") ≡ refused Refusal.Count 13 70
unfolding computed
eleven = refl

-- vertices 8, one island: 5 leaves three for the outer ring
eleven-island : reading Loose (text "MAPPA\nZ999_000100\n1000.000\nBORDO\n7\n18\n0.000\n1.000\n1.000\n1.000\n1.000\n1\n8\n5\n") ≡ refused Refusal.Count 14 72
unfolding computed
eleven-island = refl

-- an open island, refused at the record of its last y
twelve : reading Loose (text "MAPPA\nZ999_000100\n1000.000\nBORDO\n7\n18\n0.000\n1.000\n1.000\n1.000\n1.000\n1\n9\n4\n0.000\n0.000\n9.000\n0.000\n9.000\n9.000\n0.000\n9.000\n0.000\n0.000\n2.000\n2.000\n3.000\n2.000\n3.000\n3.000\n2.000\n4.000\nEOF\n") ≡ refused Refusal.OpenRing 32 176
unfolding computed
twelve = refl

-- in exact mode nothing follows the EOF record
pub thirteen : reading Exact (text "MAPPA\r\nZ999_000100\r\n    1000.000\r\nEOF\r\nx") ≡ refused Refusal.AfterEof 5 39
unfolding computed
thirteen = refl

-- ---- two maps in one file

joined_is : reading Loose (joined Loose bordered listed)
    ≡ reading Loose (text "MAPPA\nZ999_000100\n1000.000\n" ++ text "BORDO\n7\n18\n0.000\n1.000\n1.000\n1.000\n1.000\n1\n9\n4\n0.000\n0.000\n9.000\n0.000\n9.000\n9.000\n0.000\n9.000\n0.000\n0.000\n2.000\n2.000\n3.000\n2.000\n3.000\n3.000\n2.000\n2.000\n" ++ text "BORDO\n7\n18\n0.000\n1.000\n1.000\n1.000\n1.000\n0\n5\n0.000\n0.000\n10.000\n0.000\n10.000\n20.000\n0.000\n20.000\n0.000\n0.000\nTESTO\\\nEOF\n18\n0.000\n3.000\n-0.005\n" ++ text "EOF")
unfolding computed bordered listed
joined_is = refl

-- a scanned sheet before another and behind it: the raster's points stay its own, and the second's starts are moved on
joined-scanned : (reading Exact (joined Exact scanned padded) ≡ sheet scanned_header (scanned_tables followed specimen_tables))
    × (reading Loose (joined Loose padded scanned) ≡ sheet specimen_header (specimen_tables followed scanned_tables))
unfolding computed scanned padded scanned_tables specimen_tables move_from move_at
joined-scanned = (refl, refl)

-- ---- sheets of one element each, and refusals beside them

abbrev header : Header
header = record { kind = 1; name = text "Z999_000100"; scale = pos 1000000 }

-- LIBRETTO takes no backslash
seven-libretto : reading Loose (text "MAPPA\nZ999_000100\n1000.000\nLIBRETTO\\\n") ≡ refused Refusal.Keyword 4 27
unfolding computed
seven-libretto = refl

-- a blank at a keyword's end: dropped in loose mode, 7 in exact mode; behind the `\`, not before it
seven-blank : (reading Exact (text "MAPPA\r\nZ999_000100\r\n    1000.000\r\nTESTO \r\n") ≡ refused Refusal.Keyword 4 34)
    × (reading Exact (text "MAPPA\r\nZ999_000100\r\n    1000.000\r\n EOF\r\n") ≡ refused Refusal.Keyword 4 34)
    × (reading Loose (text "MAPPA\nZ999_000100\n1000.000\nTESTO \\\n") ≡ refused Refusal.Keyword 4 27)
unfolding computed
seven-blank = (refl, refl, refl)

-- `EOF` without a line end where an x is due
two-x : reading Loose (text "MAPPA\nZ999_000100\n1000.000\nLINEA\n6\n2\nEOF") ≡ refused Refusal.Cut 7 37
unfolding computed
two-x = refl

-- a text's inner blanks are kept as they are, in loose and in exact mode
inner-blanks : Tables
inner-blanks =
    record {
      rows = pos 2 ∷ pos 1 ∷ pos 0 ∷ pos 18 ∷ pos 0 ∷ pos 1000 ∷ pos 2000 ∷ pos 0 ∷ pos 0 ∷ pos 6 ∷ pos 0 ∷ pos 0 ∷ pos 0 ∷ pos 0 ∷ pos 0 ∷ [];
      letters = text "Via  3";
      islands = [];
      points = [];
    }

inner_file : List ℕ
inner_file = text "MAPPA\nZ999_000100\n1000.000\nTESTO\\ \n  Via  3 \n18\n0.000\n1.000\n2.000\nEOF"

inner-loose : reading Loose inner_file ≡ sheet header inner-blanks
unfolding computed inner_file inner-blanks
inner-loose = refl

inner-exact : reading Exact (text "MAPPA\r\nZ999_000100\r\n    1000.000\r\nTESTO\\\r\nVia  3\r\n  18\r\n       0.000\r\n       1.000\r\n       2.000\r\nEOF\r\n") ≡ sheet header inner-blanks
unfolding computed inner-blanks
inner-exact = refl

-- a symbol of a code
symbol : ℕ → Reading
symbol code =
    sheet header
    (record {
      rows = pos 3 ∷ pos 0 ∷ pos code ∷ pos 0 ∷ pos 0 ∷ pos 1000 ∷ pos 2000 ∷ pos 0 ∷ pos 0 ∷ pos 0 ∷ pos 0 ∷ pos 0 ∷ pos 0 ∷ pos 0 ∷ pos 0 ∷ [];
      letters = [];
      islands = [];
      points = [];
    })

-- loose mode takes symbol 12, which is not listed, and drops what follows EOF; exact mode takes 13
twelve-loose : reading Loose (text "MAPPA\nZ999_000100\n1000.000\nSIMBOLO\n12\n0.000\n1.000\n2.000\nEOF\nx") ≡ symbol 12
unfolding computed symbol
twelve-loose = refl

thirteen-listed : reading Exact (text "MAPPA\r\nZ999_000100\r\n    1000.000\r\nSIMBOLO\r\n  13\r\n       0.000\r\n       1.000\r\n       2.000\r\nEOF\r\n") ≡ symbol 13
unfolding computed symbol
thirteen-listed = refl

-- form comes before code and count
eight-first : (reading Exact (text "MAPPA\r\nZ999_000100\r\n    1000.000\r\nSIMBOLO\r\n 012\r\n") ≡ refused Refusal.Number 5 43)
    × (reading Exact (text "MAPPA\r\nZ999_000100\r\n    1000.000\r\nLINEA\r\n   6\r\n1\r\n") ≡ refused Refusal.Number 6 47)
unfolding computed
eight-first = (refl, refl)

-- a line of one vertex
eleven-line : reading Loose (text "MAPPA\nZ999_000100\n1000.000\nLINEA\n6\n1\n") ≡ refused Refusal.Count 6 35
unfolding computed
eleven-line = refl

-- an outer ring that is open in x alone, refused at the record of its last y, before its island
twelve-outer : reading Loose (text "MAPPA\nZ999_000100\n1000.000\nBORDO\n7\n18\n0.000\n1.000\n1.000\n1.000\n1.000\n1\n8\n4\n0.000\n0.000\n9.000\n0.000\n9.000\n9.000\n1.000\n0.000\nx\n") ≡ refused Refusal.OpenRing 22 116
unfolding computed
twelve-outer = refl

-- two islands of different sizes, each ring with its own count
two-islands : reading Loose (text "MAPPA\nZ999_000100\n1000.000\nBORDO\n7\n18\n0.000\n1.000\n1.000\n1.000\n1.000\n2\n13\n4\n5\n" ++ text "0.000\n0.000\n9.000\n0.000\n9.000\n9.000\n0.000\n0.000\n1.000\n1.000\n2.000\n1.000\n2.000\n2.000\n1.000\n1.000\n3.000\n3.000\n4.000\n3.000\n4.000\n4.000\n3.000\n4.000\n3.000\n3.000\nEOF")
    ≡ sheet header
    (record {
      rows = pos 1 ∷ pos 0 ∷ pos 0 ∷ pos 18 ∷ pos 0 ∷ pos 1000 ∷ pos 1000 ∷ pos 1000 ∷ pos 1000 ∷ pos 1 ∷ pos 2 ∷ pos 13 ∷ pos 0 ∷ pos 0 ∷ pos 0 ∷ [];
      letters = text "7";
      islands = 4 ∷ 5 ∷ [];
      points = pos 0 ∷ pos 0 ∷ pos 9000 ∷ pos 0 ∷ pos 9000 ∷ pos 9000 ∷ pos 0 ∷ pos 0 ∷ pos 1000 ∷ pos 1000 ∷ pos 2000 ∷ pos 1000 ∷ pos 2000 ∷ pos 2000 ∷ pos 1000 ∷ pos 1000 ∷ pos 3000 ∷ pos 3000 ∷ pos 4000 ∷ pos 3000 ∷ pos 4000 ∷ pos 4000 ∷ pos 3000 ∷ pos 4000 ∷ pos 3000 ∷ pos 3000 ∷ [];
    })
unfolding computed
two-islands = refl

-- ---- starts (document 02, T-07)

-- a row that has no letters, islands or points says where they would begin: the symbol behind the specimen's first three rows
specimen-starts : take 3 (drop (row_width + row_width + row_width + own_width) specimen_tables.rows) ≡ pos 18 ∷ pos 0 ∷ pos 6 ∷ []
unfolding specimen_tables
specimen-starts = refl

-- a border of one letter, one island and nine points, followed by a text: the text's starts are moved on by those, and nothing else of it
bordered-followed : (bordered_tables followed inner-blanks).rows
    ≡ pos 1 ∷ pos 0 ∷ pos 0 ∷ pos 18 ∷ pos 0 ∷ pos 1000 ∷ pos 1000 ∷ pos 1000 ∷ pos 1000 ∷ pos 1 ∷ pos 1 ∷ pos 9 ∷ pos 0 ∷ pos 0 ∷ pos 0 ∷
    pos 2 ∷ pos 1 ∷ pos 0 ∷ pos 18 ∷ pos 0 ∷ pos 1000 ∷ pos 2000 ∷ pos 0 ∷ pos 0 ∷ pos 6 ∷ pos 0 ∷ pos 0 ∷ pos 1 ∷ pos 1 ∷ pos 9 ∷ []
unfolding bordered_tables inner-blanks move_from move_at
bordered-followed = refl

-- the other way round the border's starts are moved on by six letters
inner-followed : (inner-blanks followed bordered_tables).rows
    ≡ pos 2 ∷ pos 1 ∷ pos 0 ∷ pos 18 ∷ pos 0 ∷ pos 1000 ∷ pos 2000 ∷ pos 0 ∷ pos 0 ∷ pos 6 ∷ pos 0 ∷ pos 0 ∷ pos 0 ∷ pos 0 ∷ pos 0 ∷
    pos 1 ∷ pos 0 ∷ pos 0 ∷ pos 18 ∷ pos 0 ∷ pos 1000 ∷ pos 1000 ∷ pos 1000 ∷ pos 1000 ∷ pos 1 ∷ pos 1 ∷ pos 9 ∷ pos 6 ∷ pos 0 ∷ pos 0 ∷ []
unfolding bordered_tables inner-blanks move_from move_at
inner-followed = refl

-- and the joined file is read so
joined-followed : reading Loose (joined Loose bordered inner_file) ≡ sheet header (bordered_tables followed inner-blanks)
unfolding computed bordered inner_file bordered_tables inner-blanks move_from move_at
joined-followed = refl
