-- SUP files of small sheets, computed from their tables: document 02, T-01, and T-07 (one border followed by another). Assumes nothing.
use Rattle.std.specs.Prelude.{ℕ, ◌+◌, ◌*◌, ◌/◌, ◌≡◌, refl, List, [], ◌∷◌, ◌++◌, length, take, replicate, ℤ, pos, neg_ℤ, Ok, Err}
use Rattle.laws.specs.Text.{text}
use Rattle.heading.specs.declared.Header.{Header}
use Rattle.sheet.specs.Tables.{Tables, move_at, move_from, ◌followed◌}
use Rattle.made.specs.Made.{tables_of}
use Rattle.made.specs.Examples.{header, at_first, labelled}
use Rattle.tally.specs.Tally.{no_figures}
use Rattle.sup.specs.declared.NoSup.TheVariants.{PastTotal, WideFigure}
use Rattle.sup.specs.Sup.{sup_text}
use Rattle.sup.specs.Answer.{sheet_sup, printed_sup, sup_of}
use Rattle.sup.specs.AnswerExamples.{computed as computed_answer}

-- the definitions opened, so that they compute
unfoldable pub computed : Header → ℕ → Tables → List ℕ → List ℕ
unfolding sheet_sup computed_answer move_at move_from
computed h count t date = sheet_sup h count t date

abbrev today : List ℕ
today = text "20261115"

-- ---- rings and borders

-- a border of one ring, its points one behind the other
abbrev bare : List ℕ → List ℤ → Tables
bare code outer =
    tables_of
    (pos 1 ∷ pos 0 ∷ pos 0 ∷ pos 18 ∷ pos 0 ∷ pos 1 ∷ pos 1 ∷ pos 1 ∷ pos 1 ∷ pos (length code) ∷ pos 0 ∷ pos (length outer / 2) ∷ at_first)
    code [] outer

-- with one island
abbrev holed : List ℕ → List ℤ → List ℤ → Tables
holed code outer inner =
    tables_of
    (pos 1 ∷ pos 0 ∷ pos 0 ∷ pos 18 ∷ pos 0 ∷ pos 1 ∷ pos 1 ∷ pos 1 ∷ pos 1 ∷ pos (length code) ∷ pos 1 ∷ pos (length outer / 2 + length inner / 2) ∷ at_first)
    code (length inner / 2 ∷ []) (outer ++ inner)

abbrev origin : List ℤ
origin = pos 0 ∷ pos 0 ∷ []

-- D = 2 * width * height
abbrev box : ℕ → ℕ → List ℤ
box width height = origin ++ pos width ∷ pos 0 ∷ pos width ∷ pos height ∷ pos 0 ∷ pos height ∷ origin

-- D = width * height
abbrev triangle : ℕ → ℕ → List ℤ
triangle width height = origin ++ pos width ∷ pos 0 ∷ pos width ∷ pos height ∷ origin

-- from the middle of a square to a corner, along so many of its sides (27 at most), and back: D = sides * 2 * reach * reach
abbrev corners : ℕ → List ℤ
corners reach = pos reach ∷ pos reach ∷ neg_ℤ (pos reach) ∷ pos reach ∷ neg_ℤ (pos reach) ∷ neg_ℤ (pos reach) ∷ pos reach ∷ neg_ℤ (pos reach) ∷ []

abbrev around : ℕ → ℕ → List ℤ
around sides reach =
    let c = corners reach in
    origin ++ (take (2 * (sides + 1)) (c ++ c ++ c ++ c ++ c ++ c ++ c) ++ origin)

-- so many square metres, and so many less than nothing
abbrev of_metres : List ℕ → ℕ → Tables
of_metres code n = bare code (box 1000 (1000 * n))

abbrev below_metres : List ℕ → ℕ → Tables
below_metres code n = holed code (triangle 0 0) (box 1000 (1000 * n))

-- ---- texts in full, most of them as tests/sup_cases.out has them by hand

-- an empty sheet has no figure but 0
empty-text : sheet_sup (header 1) 0 (tables_of [] [] [] []) today ≡ sup_text (header 1) today no_figures []
unfolding computed
empty-text = refl

-- a parcel alone: no CONFINE is 0
abbrev no-confine : Tables
no-confine = bare (text "7") (box 10000 20000)

no-confine-text : sheet_sup (header 1) 1 no-confine today
    ≡ text "Z999_000100  20261115\r\nN.FABBRIC           0\r\nN.PARTIC            1\r\nN.STRADE            0\r\nN.ACQUE             0\r\nN.SVIL-ALL          0\r\nFABBRIC             0\r\n7                 200\r\nPARTIC            200\r\nSTRADE              0\r\nACQUE               0\r\nSVIL-ALL            0\r\nTOTALE            200\r\nCONFINE             0\r\nSBILANCIO         200\r\n"
unfolding computed
no-confine-text = refl

-- halves on both sides of zero: D = 999,999, 1,000,000 and 1,000,001, then -1,000,000, -1,000,001, -3,000,000 and -3,000,001. Their sum is
-- -5,000,002, which prints -3, though the lines make -2
abbrev halves : Tables
halves =
    bare (text "a") (triangle 999999 1) followed bare (text "b") (triangle 1000000 1) followed bare (text "c") (triangle 1000001 1)
    followed holed (text "d") (triangle 0 0) (triangle 1000000 1) followed holed (text "e") (triangle 0 0) (triangle 1000001 1)
    followed holed (text "f") (triangle 0 0) (triangle 3000000 1) followed holed (text "g") (triangle 0 0) (triangle 3000001 1)

halves-text : sheet_sup (header 1) 7 halves today
    ≡ text "Z999_000100  20261115\r\nN.FABBRIC           0\r\nN.PARTIC            7\r\nN.STRADE            0\r\nN.ACQUE             0\r\nN.SVIL-ALL          0\r\nFABBRIC             0\r\na                   0\r\nb                   1\r\nc                   1\r\nd                   0\r\ne                  -1\r\nf                  -1\r\ng                  -2\r\nPARTIC             -3\r\nSTRADE              0\r\nACQUE               0\r\nSVIL-ALL            0\r\nTOTALE             -3\r\nCONFINE             0\r\nSBILANCIO          -3\r\n"
unfolding computed
halves-text = refl

-- a sheet with everything, which balances: CONFINE 10,000 with an island of 100, a parcel of 9,000 less 200, a road of 400, a water of 700; the
-- building of 6 less 20 is no part of it
abbrev balancing : Tables
balancing =
    holed (text "12+") (box 2000 3000) (box 4000 5000) followed bare (text "ACQUA") (box 70000 10000) followed holed (text "12") (box 100000 90000) (box 20000 10000)
    followed bare (text "STRADA") (box 40000 10000) followed holed (text "Z999_000100") (box 100000 100000) (box 10000 10000)

balancing-text : sheet_sup (header 1) 5 balancing today
    ≡ text "Z999_000100  20261115\r\nN.FABBRIC           1\r\nN.PARTIC            1\r\nN.STRADE            1\r\nN.ACQUE             1\r\nN.SVIL-ALL          1\r\nFABBRIC           -14\r\n12               8800\r\nPARTIC           8800\r\nSTRADE            400\r\nACQUE             700\r\nSVIL-ALL          100\r\nTOTALE          10000\r\nCONFINE         10000\r\nSBILANCIO           0\r\n"
unfolding computed
balancing-text = refl

-- a text is in no line; blank, `/`, digits, capitals, small letters; `1` is a beginning of six others, and of the three named so the nets rise
abbrev many_codes : Tables
many_codes =
    of_metres (text "10") 10 followed of_metres (text "1A") 11 followed of_metres (text "1") 5 followed of_metres (text "2") 12 followed of_metres (text "1/a") 13 followed of_metres (text "1 0") 14
    followed tables_of (labelled 1 18) (text "0") [] [] followed of_metres (text "100") 15 followed below_metres (text "1") 7 followed of_metres (text "1a") 16 followed of_metres (text "B") 17
    followed of_metres (text "1") 3

codes-text : sheet_sup (header 1) 12 many_codes today
    ≡ text "Z999_000100  20261115\r\nN.FABBRIC           0\r\nN.PARTIC           11\r\nN.STRADE            0\r\nN.ACQUE             0\r\nN.SVIL-ALL          0\r\nFABBRIC             0\r\n1                  -7\r\n1                   3\r\n1                   5\r\n1 0                14\r\n1/a                13\r\n10                 10\r\n100                15\r\n1A                 11\r\n1a                 16\r\n2                  12\r\nB                  17\r\nPARTIC            109\r\nSTRADE              0\r\nACQUE               0\r\nSVIL-ALL            0\r\nTOTALE            109\r\nCONFINE             0\r\nSBILANCIO         109\r\n"
unfolding computed
codes-text = refl

-- T-02: on a map a parcel of eleven letters is listed and counted; with a final `+` it is a building, with `S` in front in kind 2 a road
abbrev elevens : Tables
elevens = of_metres (text "12345678901") 5 followed of_metres (text "1234567890+") 2 followed of_metres (text "S1234567890") 3

eleven-text : (sheet_sup (header 1) 3 elevens today
    ≡ text "Z999_000100  20261115\r\nN.FABBRIC           1\r\nN.PARTIC            2\r\nN.STRADE            0\r\nN.ACQUE             0\r\nN.SVIL-ALL          0\r\nFABBRIC             2\r\n12345678901         5\r\nS1234567890         3\r\nPARTIC              8\r\nSTRADE              0\r\nACQUE               0\r\nSVIL-ALL            0\r\nTOTALE              8\r\nCONFINE             0\r\nSBILANCIO           8\r\n")
    × (sup_of (header 2) 3 elevens today 345 ≡ Ok 345)
unfolding computed
eleven-text = (refl, refl)

-- kind 3 lists OTHER: D = 999,999 before 1,000,000, then 30 less 4; all else stays its own class's
abbrev union_header : Header
union_header = record { kind = 3; name = text "Z999_0001QU"; scale = pos 1000000 }

abbrev union_sheet : Tables
union_sheet =
    holed (text "Z999_0001QU") (box 10000 5000) (box 1000 1000) followed holed (text "Z999_000200") (box 10000 3000) (box 2000 2000)
    followed bare (text "Z999_000100") (triangle 1000000 1) followed of_metres (text "7") 8 followed of_metres (text "7+") 2 followed of_metres (text "STRADA") 3
    followed of_metres (text "ACQUA") 4 followed of_metres (text "1234567890123") 1 followed bare (text "Z999_000100") (triangle 999999 1)

union-text : sheet_sup union_header 9 union_sheet today
    ≡ text "Z999_0001QU  20261115\r\nN.FABBRIC           1\r\nN.PARTIC            2\r\nN.STRADE            1\r\nN.ACQUE             1\r\nN.SVIL-ALL          1\r\nFABBRIC             2\r\nZ999_000100         0\r\nZ999_000100         1\r\nZ999_000200        26\r\nPARTIC              9\r\nSTRADE              3\r\nACQUE               4\r\nSVIL-ALL            1\r\nTOTALE             27\r\nCONFINE            27\r\nSBILANCIO           0\r\n"
unfolding computed
union-text = refl

written : (sup_of (header 1) 7 halves today 483 ≡ Ok 483) × (sup_of (header 1) 12 many_codes today 575 ≡ Ok 575) × (sup_of union_header 9 union_sheet today 391 ≡ Ok 391)
unfolding computed
written = (refl, refl, refl)

-- ---- 23: a figure over 10 characters, with the first such line; before 14

-- 25 sides are 10,000,000,000 m2, with an island of 1 m2 one less; `1` stands at line 8, `2` at line 9
wide-plus : (sup_of (header 1) 2 (bare (text "2") (around 25 20000000) followed of_metres (text "1") 1) today 0 ≡ Err (WideFigure 9))
    × (sup_of (header 1) 1 (holed (text "2") (around 25 20000000) (box 1000 1000)) today 345 ≡ Ok 345)
unfolding computed
wide-plus = (refl, refl)

-- the minus counts: 10 sides are 1,000,000,000 m2, below zero one too many; 1 m2 more and they fit
wide-minus : (sup_of (header 1) 1 (holed (text "2") (triangle 0 0) (around 10 10000000)) today 0 ≡ Err (WideFigure 8))
    × (sup_of (header 1) 1 (holed (text "2") (box 1000 1000) (around 10 10000000)) today 345 ≡ Ok 345)
unfolding computed
wide-minus = (refl, refl)

-- the first line: FABBRIC before a parcel; PARTIC of two parcels that fit, TOTALE of a parcel and a road that fit; SBILANCIO alone
wide-lines : (sup_of (header 1) 2 (bare (text "1") (around 25 20000000) followed bare (text "7+") (around 25 20000000)) today 0 ≡ Err (WideFigure 7))
    × (sup_of (header 1) 2 (bare (text "1") (around 15 20000000) followed bare (text "2") (around 15 20000000)) today 0 ≡ Err (WideFigure 10))
    × (sup_of (header 1) 2 (bare (text "1") (around 15 20000000) followed bare (text "STRADA") (around 15 20000000)) today 0 ≡ Err (WideFigure 13))
    × (sup_of (header 1) 1 (bare (text "Z999_000100") (around 10 10000000)) today 0 ≡ Err (WideFigure 14))
unfolding computed
wide-lines = (refl, refl, refl, refl)

-- ---- 18 for the combined total, on the other side of zero

-- a sheet needs some 11,000 vertices for it: here the figures of its tally, the islands of a road and of a parcel
abbrev sunken : ℕ → ℕ → List ℤ
sunken road parcel =
    replicate 8 (pos 0) ++ (pos 1 ∷ pos 0 ∷ pos 1 ∷ pos road ∷ replicate 8 (pos 0)) ++ (pos 1 ∷ pos 0 ∷ pos 1 ∷ pos parcel ∷ [])

-- -9,000,000,000,000,000,000 passes, and PARTIC is then too wide; one less does not. A union sheet has no such sum
past-below : (printed_sup (header 1) today (sunken 4200000000000000000 4800000000000000000) [] 0 ≡ Err (WideFigure 8))
    × (printed_sup (header 1) today (sunken 4200000000000000001 4800000000000000000) [] 0 ≡ Err PastTotal)
    × (printed_sup union_header today (sunken 4200000000000000001 4800000000000000000) [] 0 ≡ Err (WideFigure 8))
unfolding computed
past-below = (refl, refl, refl)
