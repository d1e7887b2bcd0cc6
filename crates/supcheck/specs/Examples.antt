-- SUP files that came with a delivery, computed: document 02, T-10. Assumes nothing.
use Rattle.std.specs.Prelude.{ℕ, ◌≡◌, refl, List, [], ◌∷◌, ◌++◌, take, ℤ, pos, Ok, Err}
use Prim.Native.String.{String}
use Rattle.laws.specs.Lists.{same, holds}
use Rattle.laws.specs.Text.{text}
use Rattle.number.specs.Number.{value}
use Rattle.heading.specs.declared.Header.{Header}
use Rattle.sheet.specs.Tables.{Tables}
use Rattle.made.specs.declared.Flaw.TheVariants.{BadHeader}
use Rattle.made.specs.Made.{tables_of}
use Rattle.made.specs.Examples.{header}
use Rattle.tally.specs.declared.Untallied.TheVariants.{Sheet}
use Rattle.tally.specs.Tally.{limit}
use Rattle.sup.specs.Sup.{CodeNet, sup_text}
use Rattle.sup.specs.AnswerExamples.{computed as computed_sup}
use Rattle.supcheck.specs.declared.Unaccepted.TheVariants.{Refused, PastTotal, WrongLine}
use Rattle.supline.specs.Right.{line_from, right_field, figure_said, figure_in, date_in, is_fields, is_near, is_right_line, is_right_date}
use Rattle.supcheck.specs.Due.{due_under, head_dues, head_due, listed_dues, listed_due, total_allowance, confine_allowance, foot_dues, foot_due, due_with, balance_in, due_lines}
use Rattle.supcheck.specs.Checked.{SupChecked, right_from, right_lines, checked_lines, total_checked, sup_checked}

-- the definitions opened, so that they compute
unfoldable pub computed : Header → ℕ → Tables → List ℕ → SupChecked
unfolding sup_checked total_checked checked_lines right_lines right_from due_lines due_with balance_in head_due head_dues listed_due listed_dues foot_due foot_dues total_allowance confine_allowance due_under is_right_line is_right_date is_fields is_near figure_in figure_said right_field date_in line_from same holds value computed_sup
computed h count t s = sup_checked h count t s

-- ---- two parcels under the code 7, of 2.5 m2 and a little more; a road of a little less than 2 m2; the sheet's border of 10 m2

abbrev four : ℕ → ℕ → ℕ → ℕ → List ℤ → List ℤ
four a b c d s = pos a ∷ pos b ∷ pos c ∷ pos d ∷ s

figures : List ℤ
figures = four 1 20000000 0 0 (four 0 0 0 0 (four 1 3999999 0 0 (four 0 0 0 0 (four 0 0 0 0 (four 2 10000001 0 0 [])))))

abbrev border : List ℕ → ℕ → CodeNet
border code net = record { code = code; net = pos net }

abbrev parcels : List CodeNet
parcels = border (text "7") 5000000 ∷ border (text "7") 5000001 ∷ []

abbrev line : String → List ℕ
line s = text s ++ 13 ∷ 10 ∷ []

-- its first eight lines, the figure of the first parcel given; the other; those behind
abbrev front : String → List ℕ
front first =
    line "Z999_000100  20261115" ++ (line "N.FABBRIC           0" ++ (line "N.PARTIC            2" ++ (line "N.STRADE            1" ++ (line "N.ACQUE             0"
    ++ (line "N.SVIL-ALL          0" ++ (line "FABBRIC             0" ++ line first))))))

abbrev rear : String → String → String → String → List ℕ
rear partic total confine balance =
    line partic ++ (line "STRADE              2" ++ (line "ACQUE               0" ++ (line "SVIL-ALL            0" ++ (line total ++ (line confine ++ line balance)))))

abbrev own : List ℕ
own = rear "PARTIC              5" "TOTALE              7" "CONFINE            10" "SBILANCIO          -3"

checked : List ℕ → SupChecked
unfolding computed figures
checked s = checked_lines (header 1) figures parcels s

-- T-01's own file
t01 : sup_text (header 1) (text "20261115") figures parcels ≡ front "7                   3" ++ (line "7                   3" ++ own)
unfolding computed figures
t01 = refl

own-file : checked (front "7                   3" ++ (line "7                   3" ++ own)) ≡ Ok tt
unfolding checked
own-file = refl

-- "Equal codes are matched in order of exact area; their printed areas need not rise"; the first by at most 1 m2
areas : (checked (front "7                   3" ++ (line "7                   2" ++ own)) ≡ Ok tt)
    × (checked (front "7                   2" ++ (line "7                   3" ++ own)) ≡ Ok tt)
    × (checked (front "7                   1" ++ (line "7                   3" ++ own)) ≡ Err (WrongLine 8))
    × (checked (front "7                   4" ++ (line "7                   3" ++ own)) ≡ Err (WrongLine 8))
    × (checked (front "7                   3" ++ (line "7                   4" ++ own)) ≡ Err (WrongLine 9))
unfolding checked
areas = (refl, refl, refl, refl, refl)

abbrev listed : List ℕ
listed = front "7                   3" ++ line "7                   3"

-- PARTIC of two borders: 4 to 7 are within 2 m2 of 5.0000005, 3 is not; TOTALE of three parts: 4 to 10; CONFINE of one border: 9 to 11
totals : (checked (listed ++ rear "PARTIC              4" "TOTALE              4" "CONFINE            11" "SBILANCIO          -7") ≡ Ok tt)
    × (checked (listed ++ rear "PARTIC              7" "TOTALE             10" "CONFINE             9" "SBILANCIO           1") ≡ Ok tt)
    × (checked (listed ++ rear "PARTIC              3" "TOTALE              7" "CONFINE            10" "SBILANCIO          -3") ≡ Err (WrongLine 10))
    × (checked (listed ++ rear "PARTIC              8" "TOTALE              7" "CONFINE            10" "SBILANCIO          -3") ≡ Err (WrongLine 10))
    × (checked (listed ++ rear "PARTIC              5" "TOTALE              3" "CONFINE            10" "SBILANCIO          -7") ≡ Err (WrongLine 14))
    × (checked (listed ++ rear "PARTIC              5" "TOTALE             11" "CONFINE            10" "SBILANCIO           1") ≡ Err (WrongLine 14))
    × (checked (listed ++ rear "PARTIC              5" "TOTALE              7" "CONFINE             8" "SBILANCIO          -1") ≡ Err (WrongLine 15))
    × (checked (listed ++ rear "PARTIC              5" "TOTALE              7" "CONFINE            12" "SBILANCIO          -5") ≡ Err (WrongLine 15))
unfolding checked
totals = (refl, refl, refl, refl, refl, refl, refl, refl)

-- "SBILANCIO is exactly the file's TOTALE less its CONFINE"
balances : (checked (listed ++ rear "PARTIC              5" "TOTALE              7" "CONFINE            10" "SBILANCIO          -2") ≡ Err (WrongLine 16))
    × (checked (listed ++ rear "PARTIC              5" "TOTALE              8" "CONFINE            10" "SBILANCIO          -3") ≡ Err (WrongLine 16))
    × (checked (listed ++ rear "PARTIC              5" "TOTALE              8" "CONFINE            10" "SBILANCIO          -2") ≡ Ok tt)
unfolding checked
balances = (refl, refl, refl)

-- a leading zero, a plus, a minus zero, a figure that is not right aligned
forms : (checked (front "7                  03" ++ (line "7                   3" ++ own)) ≡ Err (WrongLine 8))
    × (checked (front "7                  +3" ++ (line "7                   3" ++ own)) ≡ Err (WrongLine 8))
    × (checked (front "7                  3 " ++ (line "7                   3" ++ own)) ≡ Err (WrongLine 8))
    × (checked (front "8                   3" ++ (line "7                   3" ++ own)) ≡ Err (WrongLine 8))
    × (checked (front " 7                  3" ++ (line "7                   3" ++ own)) ≡ Err (WrongLine 8))
    × (checked (listed ++ rear "PARTIC              5" "TOTALE             10" "CONFINE            10" "SBILANCIO          -0") ≡ Err (WrongLine 16))
    × (checked (listed ++ rear "PARTIC              5" "TOTALE             10" "CONFINE            10" "SBILANCIO           0") ≡ Ok tt)
unfolding checked
forms = (refl, refl, refl, refl, refl, refl, refl)

-- one past the last where lines are missing, or where bytes follow the last; LF alone
ends : (checked [] ≡ Err (WrongLine 1)) × (checked (take 46 (listed ++ own)) ≡ Err (WrongLine 3)) × (checked (take 367 (listed ++ own)) ≡ Err (WrongLine 16))
    × (checked (take 366 (listed ++ own) ++ 10 ∷ []) ≡ Err (WrongLine 16)) × (checked (listed ++ (own ++ 10 ∷ [])) ≡ Err (WrongLine 17))
unfolding checked
ends = (refl, refl, refl, refl, refl)

-- a count is T-01's; no building, no area; the date is any that T-01 takes, under the sheet's name
abbrev begun : String → String → String → List ℕ
begun date buildings area =
    line date ++ (line buildings ++ (line "N.PARTIC            2" ++ (line "N.STRADE            1" ++ (line "N.ACQUE             0" ++ (line "N.SVIL-ALL          0" ++ (line area
    ++ (line "7                   3" ++ (line "7                   3" ++ own))))))))

heads : (checked (begun "Z999_000100  00000131" "N.FABBRIC           0" "FABBRIC             0") ≡ Ok tt)
    × (checked (begun "Z999_000100  20261315" "N.FABBRIC           0" "FABBRIC             0") ≡ Err (WrongLine 1))
    × (checked (begun "Z999_000200  20261115" "N.FABBRIC           0" "FABBRIC             0") ≡ Err (WrongLine 1))
    × (checked (begun "Z999_000100  20261115" "N.FABBRIC           1" "FABBRIC             0") ≡ Err (WrongLine 2))
    × (checked (begun "Z999_000100  20261115" "N.FABBRIC           0" "FABBRIC             1") ≡ Err (WrongLine 7))
unfolding checked
heads = (refl, refl, refl, refl, refl)

-- "a code over 11 letters makes its line wrong"
long-code : checked_lines (header 1) figures (border (text "123456789012") 5000000 ∷ []) (front "123456789012        3" ++ own) ≡ Err (WrongLine 8)
unfolding computed figures
long-code = refl

-- ---- "For kind 3 the allowance on both totals is 1 m2 per OTHER border": two of together 5.0000005 m2; the sheet's border counts nowhere

union : List ℤ
union = four 1 20000000 0 0 (four 2 10000001 0 0 (four 0 0 0 0 (four 0 0 0 0 (four 0 0 0 0 (four 0 0 0 0 [])))))

abbrev others : List CodeNet
others = border (text "Z999_000100") 5000000 ∷ border (text "Z999_000100") 5000001 ∷ []

abbrev delivered : String → String → String → List ℕ
delivered total confine balance =
    line "Z999_000100  20261115" ++ (line "N.FABBRIC           0" ++ (line "N.PARTIC            0" ++ (line "N.STRADE            0" ++ (line "N.ACQUE             0"
    ++ (line "N.SVIL-ALL          0" ++ (line "FABBRIC             0" ++ (line "Z999_000100         3" ++ (line "Z999_000100         2" ++ (line "PARTIC              0"
    ++ (line "STRADE              0" ++ (line "ACQUE               0" ++ (line "SVIL-ALL            0" ++ (line total ++ (line confine ++ line balance))))))))))))))

unions : (checked_lines (header 3) union others (delivered "TOTALE              7" "CONFINE             4" "SBILANCIO           3") ≡ Ok tt)
    × (checked_lines (header 3) union others (delivered "TOTALE              3" "CONFINE             4" "SBILANCIO          -1") ≡ Err (WrongLine 14))
    × (checked_lines (header 3) union others (delivered "TOTALE              7" "CONFINE             8" "SBILANCIO          -1") ≡ Err (WrongLine 15))
    × (checked_lines (header 3) union others (delivered "TOTALE              7" "CONFINE             4" "SBILANCIO           0") ≡ Err (WrongLine 16))
unfolding computed union
unions = (refl, refl, refl, refl)

-- ---- the sheet's own refusals come first, whatever the file

refusals : (sup_checked (header 4) 0 (tables_of [] [] [] []) [] ≡ Err (Refused (Sheet BadHeader))) × (sup_checked (header 1) 0 (tables_of [] [] [] []) [] ≡ Err (WrongLine 1))
unfolding computed
refusals = (refl, refl)

-- 18 of TOTALE before any look at the file: the limit passes, one more does not
past-total : (total_checked (header 1) (four 0 0 0 0 (four 0 0 0 0 (four 1 1 0 0 (four 0 0 0 0 (four 0 0 0 0 (four 1 limit 0 0 [])))))) [] [] ≡ Err PastTotal)
    × (total_checked (header 1) (four 0 0 0 0 (four 0 0 0 0 (four 1 0 0 0 (four 0 0 0 0 (four 0 0 0 0 (four 1 limit 0 0 [])))))) [] [] ≡ Err (WrongLine 1))
unfolding computed
past-total = (refl, refl)
