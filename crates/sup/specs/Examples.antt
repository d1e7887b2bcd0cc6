-- The text of SUP files, computed: document 02, T-01. Assumes nothing.
use Rattle.std.specs.Prelude.{ℕ, ◌≡◌, refl, List, [], ◌∷◌, true, false, ℤ, pos, neg_ℤ}
use Rattle.laws.specs.Text.{text}
use Rattle.heading.specs.declared.Header.{Header}
use Rattle.tally.specs.Tally.{limit, no_figures}
use Rattle.spelling.specs.Spelling.{digits, count_text, aligned, minus}
use Rattle.spelling.specs.Figures.{whole_text, is_narrow, figure_text}
use Rattle.sup.specs.Metres.{metres_of}
use Rattle.sup.specs.Lines.{left_field, fields_line, date_text, lines_text}
use Rattle.sup.specs.Sup.{exact_total, exact_confine, is_limited, head_lines, CodeNet, listed_lines, balance, foot_lines, figure_lines, sup_text, figures_in, wide_from, first_wide}

-- the definitions opened, so that they compute
unfoldable pub computed : Header → List ℕ → List ℤ → List CodeNet → List ℕ × ℕ
unfolding sup_text fields_line left_field date_text lines_text figure_lines head_lines listed_lines foot_lines balance exact_total exact_confine metres_of figure_text whole_text aligned minus count_text digits figures_in wide_from is_narrow is_limited
computed h date f s = (sup_text h date f s, first_wide h.kind f s)

abbrev sheet : ℕ → List ℕ → Header
sheet kind name = record { kind = kind; name = name; scale = pos 1000000 }

abbrev border : List ℕ → ℤ → CodeNet
border code net = record { code = code; net = net }

-- the figures of a tally, class by class
abbrev four : ℕ → ℕ → ℕ → ℕ → List ℤ → List ℤ
four a b c d s = pos a ∷ pos b ∷ pos c ∷ pos d ∷ s

-- a square of 100 m with an island of 10 m; of its 10,000 m2 a parcel has 9,000, a road 800, a water 100, and the island 100; a building of
-- 50 m2 counts nowhere
balanced : List ℤ
balanced =
    four 1 20000000000 1 200000000 (four 0 0 0 0 (four 1 1600000000 0 0 (four 1 200000000 0 0 (four 1 100000000 0 0 (four 2 18200000000 1 200000000 [])))))

a-sheet : sup_text (sheet 1 (text "Z999_000100")) (text "20261115") balanced (border (text "10") (pos 17999999999) ∷ border (text "9") (pos 1) ∷ [])
    ≡ text "Z999_000100  20261115\r\nN.FABBRIC           1\r\nN.PARTIC            2\r\nN.STRADE            1\r\nN.ACQUE             1\r\nN.SVIL-ALL          1\r\nFABBRIC            50\r\n10               9000\r\n9                   0\r\nPARTIC           9000\r\nSTRADE            800\r\nACQUE             100\r\nSVIL-ALL          100\r\nTOTALE          10000\r\nCONFINE         10000\r\nSBILANCIO           0\r\n"
unfolding computed balanced
a-sheet = refl

-- an empty sheet: every figure is 0
empty-sheet : sup_text (sheet 1 (text "Z999_000100")) (text "20261115") no_figures []
    ≡ text "Z999_000100  20261115\r\nN.FABBRIC           0\r\nN.PARTIC            0\r\nN.STRADE            0\r\nN.ACQUE             0\r\nN.SVIL-ALL          0\r\nFABBRIC             0\r\nPARTIC              0\r\nSTRADE              0\r\nACQUE               0\r\nSVIL-ALL            0\r\nTOTALE              0\r\nCONFINE             0\r\nSBILANCIO           0\r\n"
unfolding computed
empty-sheet = refl

-- kind 3: TOTALE and CONFINE are the sum of the OTHER borders, net; parcels and the border of the sheet keep their own lines and are no part of it
union : List ℤ
union = four 1 20000000000 0 0 (four 2 6000000000 1 2000000000 (four 0 0 0 0 (four 0 0 0 0 (four 0 0 0 0 (four 1 600000000 0 0 [])))))

union-sheet : sup_text (sheet 3 (text "Z999_0001QU")) (text "20261115") union (border (text "Z999_000100") (pos 4000000000) ∷ border (text "Z999_000200") (pos 0) ∷ [])
    ≡ text "Z999_0001QU  20261115\r\nN.FABBRIC           0\r\nN.PARTIC            1\r\nN.STRADE            0\r\nN.ACQUE             0\r\nN.SVIL-ALL          0\r\nFABBRIC             0\r\nZ999_000100      2000\r\nZ999_000200         0\r\nPARTIC            300\r\nSTRADE              0\r\nACQUE               0\r\nSVIL-ALL            0\r\nTOTALE           2000\r\nCONFINE          2000\r\nSBILANCIO           0\r\n"
unfolding computed union
union-sheet = refl

-- islands larger than their outer rings: the nets are negative and round toward minus infinity; no CONFINE border gives 0
negative : List ℤ
negative = four 0 0 0 0 (four 0 0 0 0 (four 1 0 1 1000000 (four 1 0 1 1000001 (four 0 0 0 0 (four 1 0 1 42000000 [])))))

negative-sheet : sup_text (sheet 2 (text "Z999A000100")) (text "19990712") negative (border (text "7") (neg_ℤ (pos 42000000)) ∷ [])
    ≡ text "Z999A000100  19990712\r\nN.FABBRIC           0\r\nN.PARTIC            1\r\nN.STRADE            1\r\nN.ACQUE             1\r\nN.SVIL-ALL          0\r\nFABBRIC             0\r\n7                 -21\r\nPARTIC            -21\r\nSTRADE              0\r\nACQUE              -1\r\nSVIL-ALL            0\r\nTOTALE            -22\r\nCONFINE             0\r\nSBILANCIO         -22\r\n"
unfolding computed negative
negative-sheet = refl

-- TOTALE rounds its exact sum once: four times 0.25 m2 print 0 each and 1 together
once : List ℤ
once = four 1 2000000 1 500000 (four 0 0 0 0 (four 1 500000 0 0 (four 1 500000 0 0 (four 0 0 0 0 (four 1 500000 0 0 [])))))

rounded-once : (exact_total 1 once ≡ pos 2000000) × (metres_of (pos 500000) ≡ pos 0) × (balance 1 once ≡ pos 0)
unfolding computed once
rounded-once = (refl, refl, refl)

-- the difference is that of the printed figures: 0.5 m2 against 0.49 print 1, though they differ by less than that
printed : (balance 1 (four 1 999998 0 0 (four 0 0 0 0 (four 0 0 0 0 (four 0 0 0 0 (four 0 0 0 0 (four 1 1000000 0 0 [])))))) ≡ pos 1)
unfolding computed
printed = refl

-- 18: on either side, and the limit itself passes
combined : (is_limited (pos limit) ≡ true) × (is_limited (pos 9000000000000000001) ≡ false) × (is_limited (neg_ℤ (pos limit)) ≡ true) × (is_limited (neg_ℤ (pos 9000000000000000001)) ≡ false)
unfolding computed
combined = (refl, refl, refl, refl)

-- 23: the first line in the printed order, from 1; the lines of the listed borders begin with the eighth
wide-listed : first_wide 1 balanced (border (text "1") (pos 0) ∷ border (text "2") (pos 20000000000000000) ∷ []) ≡ 9
unfolding computed balanced
wide-listed = refl

none-wide : first_wide 1 balanced [] ≡ 0
unfolding computed balanced
none-wide = refl

-- a code of eleven letters fills its field
eleven : left_field (text "Z999_000100") ≡ text "Z999_000100"
unfolding computed
eleven = refl
