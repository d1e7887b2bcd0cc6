-- What the contracts of `write` and `cxf_write`, as their sources write them, permit on some sheets: document 01, "Refusal numbers"; document 02, T-05, T-07. Assumes nothing.
use Prim.Native.Nat.{ℕ}
use mathlib.Core.Path.{◌≡◌, refl, ◌∙◌, ap}
use mathlib.Core.List.{List, [], ◌∷◌, ◌++◌}
use lib.ListN.{length, drop}
use lib.IntN.{ℤ, pos, negsuc}
use Rattle.std.specs.Prelude.{Result, Ok, Err}
use contract.Lifetimes.{Lfts}
use borrow.Fn.World.{ArgsD, ResD}
use denote.Triple.Clauses.{AtExit}
use Rattle.laws.specs.Text.{text}
use Rattle.layout.specs.Examples.{computed, scanned-written}
use Rattle.heading.specs.declared.Header.{Header}
use Rattle.heading.specs.Heading.{no_header, is_header}
use Rattle.sheet.specs.Tables.{Tables}
use Rattle.sheet.specs.Examples.{scanned, scanned_tables}
use Rattle.made.specs.declared.Flaw.{Flaw}
use Rattle.made.specs.declared.Flaw.TheVariants.{BadHeader, Faulty, Unlisted}
use Rattle.made.specs.Made.{tables_of, judge_of}
use Rattle.made.specs.Made as Made
use Rattle.made.specs.Examples.{judged, raster, ring}
use Rattle.layout.specs.Sheet.{sheet_text}
use Rattle.writer.specs.declared.Unwritten.{Unwritten}
use Rattle.writer.specs.declared.Unwritten.TheVariants.{NoRoom, Refused}
use Rattle.writer.specs.Write.{write_of}
use Rattle.writer.specs.contracts.write as write
use Rattle.writer.proofs.write.Reads as write-reads
use Rattle.told.specs.Told.{write_told}
use Rattle.told.specs.Asked.{header_of}
use Rattle.cabi.specs.contracts.cxf_write as cxf-write
use Rattle.cabi.proofs.cxf_write.Reads as cxf-write-reads

-- ---- sheets, and the answers to them, computed

abbrev pub header : Header
header = record { kind = 1; name = text "Z999_000100"; scale = pos 1000000 }

-- a text that lies outside, and a symbol behind it, which may be wrong: `outside` is 0 or 1, 12 is no listed code
abbrev pub label : List ℤ
label = pos 2 ∷ pos 1 ∷ pos 0 ∷ pos 18 ∷ pos 0 ∷ pos 3000 ∷ negsuc 4 ∷ pos 0 ∷ pos 0 ∷ pos 1 ∷ pos 0 ∷ pos 0 ∷ pos 0 ∷ pos 0 ∷ pos 0 ∷ []

abbrev pub symbol : ℕ → ℕ → ℕ → List ℤ
symbol outside code first = pos 3 ∷ pos outside ∷ pos code ∷ pos 0 ∷ pos 0 ∷ pos 5 ∷ pos 5 ∷ pos 0 ∷ pos 0 ∷ pos 0 ∷ pos 0 ∷ pos 0 ∷ pos first ∷ pos 0 ∷ pos 0 ∷ []

abbrev pub sheet_with : ℕ → ℕ → Tables
sheet_with outside code = tables_of (label ++ symbol outside code 1) (text "7") [] []

-- the symbol, which has no letters, says that they would begin at 0
abbrev pub false_start : Tables
false_start = tables_of (label ++ symbol 0 14 0) (text "7") [] []

abbrev pub file : List ℕ
file = text "MAPPA\r\nZ999_000100\r\n    1000.000\r\nTESTO\\\r\n7\r\n  18\r\n       0.000\r\n       3.000\r\n      -0.005\r\nSIMBOLO\r\n  14\r\n       0.000\r\n       0.005\r\n       0.005\r\nEOF\r\n"

spelt : sheet_text header 2 (sheet_with 0 14) ≡ file
unfolding computed
spelt = refl

spare : write_of header 2 (sheet_with 0 14) 160 ≡ Ok 155
unfolding write_of computed judged
spare = refl

enough : write_of header 2 (sheet_with 0 14) 155 ≡ Ok 155
unfolding write_of computed judged
enough = refl

short : write_of header 2 (sheet_with 0 14) 154 ≡ Err (NoRoom 155)
unfolding write_of computed judged
short = refl

-- refused, whatever the room
faulty : (room : ℕ) → write_of header 2 (sheet_with 2 14) room ≡ Err (Refused (Faulty 1))
unfolding write_of judged
faulty room = refl

misplaced : (room : ℕ) → write_of header 2 false_start room ≡ Err (Refused (Faulty 1))
unfolding write_of judged
misplaced room = refl

unlisted : (room : ℕ) → write_of header 2 (sheet_with 0 12) room ≡ Err (Refused (Unlisted 1))
unfolding write_of judged
unlisted room = refl

-- 15 comes before 10
both : (room : ℕ) → write_of header 2 (sheet_with 2 12) room ≡ Err (Refused (Faulty 1))
unfolding write_of judged
both room = refl

-- a scanned sheet, and a raster of so many vertices behind a symbol
scanned-spelt : write_of header 2 scanned_tables 275 ≡ Ok 275
unfolding write_of computed judged scanned_tables
scanned-spelt = refl

abbrev pub raster_of : ℕ → Tables
raster_of vertices = tables_of (symbol 0 14 0 ++ raster 0 0 vertices) (text "7") [] (ring 0 ++ ring 0)

few-corners : (room : ℕ) → write_of header 2 (raster_of 3) room ≡ Err (Refused (Faulty 1))
unfolding write_of judged
few-corners room = refl

many-corners : (room : ℕ) → write_of header 2 (raster_of 5) room ≡ Err (Refused (Faulty 1))
unfolding write_of judged
many-corners room = refl

-- a header that is none, whatever is to be written
no-header : (count : ℕ) (t : Tables) (room : ℕ) → write_of no_header count t room ≡ Err (Refused BadHeader)
unfolding write_of judge_of is_header
no-header count t room = refl

-- ---- `write`

module _ (κs : Lfts 3) (a : ArgsD write.signature κs) (r : ResD write.signature κs) (e : AtExit write.ended κs) (post : write-reads.Learnt κs a r e) where
  -- what is handed in, and the output as it is lent and at exit
  abbrev pub tables : Tables
  tables = Made.tables a.0.now.lent

  abbrev pub lent : List ℕ
  lent = a.1.0.now

  abbrev pub left : List ℕ
  left = e.1.0.now

  untouched : {f : Flaw} → r ≡ Err (Refused f) → left ≡ lent
  untouched q = post.1 ∙ rw q refl

  module _ (h : a.0.now.header ≡ header) (n : a.0.now.count ≡ 2) where
    module _ (t : tables ≡ sheet_with 0 14) where
      pub write-answers : length lent ≡ 160 → r ≡ Ok 155
      write-answers room = post.0 ∙ rw (h, n, t, room) spare

      -- shuts out a writer that stores nothing
      pub write-stores : length lent ≡ 160 → left ≡ file ++ drop 155 lent
      write-stores room = post.1 ∙ rw (write-answers room, h, n, t, spelt) refl

      -- shuts out a 14 without need
      pub write-no-14-without-need : length lent ≡ 155 → r ≡ Ok 155
      write-no-14-without-need room = post.0 ∙ rw (h, n, t, room) enough

      -- shuts out a made-up needed length
      pub write-needs : length lent ≡ 154 → r ≡ Err (NoRoom 155)
      write-needs room = post.0 ∙ rw (h, n, t, room) short

      pub write-needs-untouched : length lent ≡ 154 → left ≡ lent
      write-needs-untouched room = post.1 ∙ rw (write-needs room) refl

    pub write-scanned : tables ≡ scanned_tables → length lent ≡ 275 → (r ≡ Ok 275) × (left ≡ scanned ++ drop 275 lent)
    unfolding scanned
    write-scanned t room =
        let q : r ≡ Ok 275 = post.0 ∙ rw (h, n, t, room) scanned-spelt in
        (q, post.1 ∙ rw (q, h, n, t, scanned-written) refl)

    -- a raster has four corners
    pub write-few-corners : tables ≡ raster_of 3 → (r ≡ Err (Refused (Faulty 1))) × (left ≡ lent)
    write-few-corners t =
        let q : r ≡ Err (Refused (Faulty 1)) = post.0 ∙ rw (h, n, t) (few-corners _) in
        (q, untouched q)

    pub write-many-corners : tables ≡ raster_of 5 → (r ≡ Err (Refused (Faulty 1))) × (left ≡ lent)
    write-many-corners t =
        let q : r ≡ Err (Refused (Faulty 1)) = post.0 ∙ rw (h, n, t) (many-corners _) in
        (q, untouched q)

    pub write-faulty : tables ≡ sheet_with 2 14 → r ≡ Err (Refused (Faulty 1))
    write-faulty t = post.0 ∙ rw (h, n, t) (faulty _)

    pub write-faulty-untouched : tables ≡ sheet_with 2 14 → left ≡ lent
    write-faulty-untouched t = untouched (write-faulty t)

    -- T-07: a row with a false start is not well made
    pub write-false-start : tables ≡ false_start → r ≡ Err (Refused (Faulty 1))
    write-false-start t = post.0 ∙ rw (h, n, t) (misplaced _)

    pub write-false-start-untouched : tables ≡ false_start → left ≡ lent
    write-false-start-untouched t = untouched (write-false-start t)

    pub write-unlisted : tables ≡ sheet_with 0 12 → r ≡ Err (Refused (Unlisted 1))
    write-unlisted t = post.0 ∙ rw (h, n, t) (unlisted _)

    pub write-unlisted-untouched : tables ≡ sheet_with 0 12 → left ≡ lent
    write-unlisted-untouched t = untouched (write-unlisted t)

    pub write-faulty-before-unlisted : tables ≡ sheet_with 2 12 → r ≡ Err (Refused (Faulty 1))
    write-faulty-before-unlisted t = post.0 ∙ rw (h, n, t) (both _)

    pub write-faulty-before-unlisted-untouched : tables ≡ sheet_with 2 12 → left ≡ lent
    write-faulty-before-unlisted-untouched t = untouched (write-faulty-before-unlisted t)

  pub write-no-header : a.0.now.header ≡ no_header → r ≡ Err (Refused BadHeader)
  write-no-header h = post.0 ∙ rw h (no-header _ _ _)

  pub write-no-header-untouched : a.0.now.header ≡ no_header → left ≡ lent
  write-no-header-untouched h = untouched (write-no-header h)

-- ---- `cxf_write`

module _ (κs : Lfts 6) (a : ArgsD cxf-write.signature κs) (r : ResD cxf-write.signature κs) (e : AtExit cxf-write.ended κs) (post : cxf-write-reads.Learnt κs a r e) where
  abbrev pub cxf_tables : Tables
  cxf_tables = tables_of a.1.1.1.1.0.now a.1.1.1.1.1.0.now a.1.1.1.1.1.1.0.now a.1.1.1.1.1.1.1.0.now

  abbrev pub cxf_lent : List ℕ
  cxf_lent = a.1.1.1.1.1.1.1.1.0.now

  abbrev pub cxf_left : List ℕ
  cxf_left = e.1.1.1.1.1.1.1.1.0.now

  -- what the library answers
  abbrev within : Result ℕ Unwritten
  within = write_of (header_of a.0 a.1.0.now a.1.1.0) a.1.1.1.0 cxf_tables (length cxf_lent)

  cxf-told : (x : Result ℕ Unwritten) → within ≡ x → r ≡ write_told x
  cxf-told x q = post.0 ∙ ap write_told q

  cxf-untouched : (f : Flaw) → within ≡ Err (Refused f) → cxf_left ≡ cxf_lent
  cxf-untouched f q = post.1 ∙ rw q refl

  -- a name of 12 bytes is no name
  long-name : a.1.0.now ≡ text "Z999_0001000" → within ≡ Err (Refused BadHeader)
  unfolding header_of
  long-name name = rw name (no-header _ _ _)

  pub cxf-write-long-name : a.1.0.now ≡ text "Z999_0001000" → r ≡ record { number = 6; row = 0; length = 0 }
  cxf-write-long-name name = cxf-told (Err (Refused BadHeader)) (long-name name)

  pub cxf-write-long-name-untouched : a.1.0.now ≡ text "Z999_0001000" → cxf_left ≡ cxf_lent
  cxf-write-long-name-untouched name = cxf-untouched BadHeader (long-name name)

  module _ (kind : a.0 ≡ 1) (name : a.1.0.now ≡ text "Z999_000100") (scale : a.1.1.0 ≡ pos 1000000) (n : a.1.1.1.0 ≡ 2) where
    its-header : header_of a.0 a.1.0.now a.1.1.0 ≡ header
    unfolding header_of
    its-header = rw (kind, name, scale) refl

    module _ (t : cxf_tables ≡ sheet_with 0 14) where
      pub cxf-write-answers : length cxf_lent ≡ 160 → r ≡ record { number = 0; row = 0; length = 155 }
      cxf-write-answers room = cxf-told (Ok 155) (rw (its-header, n, t, room) spare)

      pub cxf-write-stores : length cxf_lent ≡ 160 → cxf_left ≡ file ++ drop 155 cxf_lent
      cxf-write-stores room = post.1 ∙ rw (its-header, n, t, room, spare, spelt) refl

      pub cxf-write-no-14-without-need : length cxf_lent ≡ 155 → r ≡ record { number = 0; row = 0; length = 155 }
      cxf-write-no-14-without-need room = cxf-told (Ok 155) (rw (its-header, n, t, room) enough)

      pub cxf-write-needs : length cxf_lent ≡ 154 → r ≡ record { number = 14; row = 0; length = 155 }
      cxf-write-needs room = cxf-told (Err (NoRoom 155)) (rw (its-header, n, t, room) short)

      pub cxf-write-needs-untouched : length cxf_lent ≡ 154 → cxf_left ≡ cxf_lent
      cxf-write-needs-untouched room = post.1 ∙ rw (its-header, n, t, room, short) refl

    pub cxf-write-scanned : cxf_tables ≡ scanned_tables → length cxf_lent ≡ 275 → (r ≡ record { number = 0; row = 0; length = 275 }) × (cxf_left ≡ scanned ++ drop 275 cxf_lent)
    unfolding scanned
    cxf-write-scanned t room = (cxf-told (Ok 275) (rw (its-header, n, t, room) scanned-spelt), post.1 ∙ rw (its-header, n, t, room, scanned-spelt, scanned-written) refl)

    pub cxf-write-few-corners : cxf_tables ≡ raster_of 3 → (r ≡ record { number = 15; row = 1; length = 0 }) × (cxf_left ≡ cxf_lent)
    cxf-write-few-corners t = (cxf-told (Err (Refused (Faulty 1))) (rw (its-header, n, t) (few-corners _)), cxf-untouched (Faulty 1) (rw (its-header, n, t) (few-corners _)))

    pub cxf-write-faulty : cxf_tables ≡ sheet_with 2 14 → r ≡ record { number = 15; row = 1; length = 0 }
    cxf-write-faulty t = cxf-told (Err (Refused (Faulty 1))) (rw (its-header, n, t) (faulty _))

    pub cxf-write-faulty-untouched : cxf_tables ≡ sheet_with 2 14 → cxf_left ≡ cxf_lent
    cxf-write-faulty-untouched t = cxf-untouched (Faulty 1) (rw (its-header, n, t) (faulty _))

    pub cxf-write-false-start : cxf_tables ≡ false_start → (r ≡ record { number = 15; row = 1; length = 0 }) × (cxf_left ≡ cxf_lent)
    cxf-write-false-start t = (cxf-told (Err (Refused (Faulty 1))) (rw (its-header, n, t) (misplaced _)), cxf-untouched (Faulty 1) (rw (its-header, n, t) (misplaced _)))

    pub cxf-write-unlisted : cxf_tables ≡ sheet_with 0 12 → r ≡ record { number = 10; row = 1; length = 0 }
    cxf-write-unlisted t = cxf-told (Err (Refused (Unlisted 1))) (rw (its-header, n, t) (unlisted _))

    pub cxf-write-unlisted-untouched : cxf_tables ≡ sheet_with 0 12 → cxf_left ≡ cxf_lent
    cxf-write-unlisted-untouched t = cxf-untouched (Unlisted 1) (rw (its-header, n, t) (unlisted _))

    pub cxf-write-faulty-before-unlisted : cxf_tables ≡ sheet_with 2 12 → r ≡ record { number = 15; row = 1; length = 0 }
    cxf-write-faulty-before-unlisted t = cxf-told (Err (Refused (Faulty 1))) (rw (its-header, n, t) (both _))

    pub cxf-write-faulty-before-unlisted-untouched : cxf_tables ≡ sheet_with 2 12 → cxf_left ≡ cxf_lent
    cxf-write-faulty-before-unlisted-untouched t = cxf-untouched (Faulty 1) (rw (its-header, n, t) (both _))
