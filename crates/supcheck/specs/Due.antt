-- The lines that are due in a SUP file that came with a delivery: document 02, T-10. Names, order and totals are T-01's own. Assumes nothing: these are
-- definitions. `f` are the 24 figures of the sheet's tally, `c` the borders that the file lists, in T-01's order: "Equal codes are matched in order of
-- exact area; their printed areas need not rise".
use Rattle.std.specs.Prelude.{ℕ, ◌+◌, List, [], ◌∷◌, ◌++◌, cond, length, eqb, ℤ, pos, ◌+ℤ◌, ◌-ℤ◌}
use Rattle.classes.specs.declared.Class.TheVariants.{Confine, Other, Road, Water, Building, Parcel}
use Rattle.sup.specs.Lines.{FigureLine}
use Rattle.sup.specs.Sup.{CodeNet, borders_in, islands_in, inner_in, net_in, union_kind, exact_total, exact_confine, head_lines, listed_lines, foot_lines}
use Rattle.supline.specs.Right.{Due, due, counted, DueLine, due_line, line_from, figure_in}

-- T-01's lines by name, each with what is due there
unfoldable pub due_under : List FigureLine → List Due → List DueLine
due_under [] d = []
due_under (x ∷ l) [] = []
due_under (x ∷ l) (y ∷ d) = due_line x.name y ∷ due_under l d

-- ---- before the listed borders

-- the counts are T-01's; "each class total by at most 1 m2 per border counted"
unfoldable pub head_dues : List ℤ → List Due
head_dues f =
    counted (borders_in f Building)
    ∷ counted (borders_in f Parcel)
    ∷ counted (borders_in f Road)
    ∷ counted (borders_in f Water)
    ∷ counted (islands_in f Confine)
    ∷ due (net_in f Building) (borders_in f Building)
    ∷ []

unfoldable pub head_due : List ℤ → List DueLine
head_due f = due_under (head_lines f) (head_dues f)

-- ---- the listed borders

-- "a listed border's area differs from its exact net by at most 1 m2"
unfoldable pub listed_dues : List CodeNet → List Due
listed_dues [] = []
listed_dues (b ∷ c) = due b.net (pos 1) ∷ listed_dues c

unfoldable pub listed_due : List CodeNet → List DueLine
listed_due c = due_under (listed_lines c) (listed_dues c)

-- ---- behind them

-- "TOTALE by at most its parts' allowances together"; "For kind 3 the allowance on both totals is 1 m2 per OTHER border"
unfoldable pub total_allowance : ℕ → List ℤ → ℤ
total_allowance kind f =
    cond (eqb kind union_kind) (borders_in f Other) (borders_in f Parcel +ℤ (borders_in f Road +ℤ (borders_in f Water +ℤ islands_in f Confine)))

-- "CONFINE by at most 1 m2 per CONFINE border"
unfoldable pub confine_allowance : ℕ → List ℤ → ℤ
confine_allowance kind f = cond (eqb kind union_kind) (borders_in f Other) (borders_in f Confine)

-- "per island for SVIL-ALL"; the last is the balance `b`
unfoldable pub foot_dues : ℕ → List ℤ → ℤ → List Due
foot_dues kind f b =
    due (net_in f Parcel) (borders_in f Parcel)
    ∷ due (net_in f Road) (borders_in f Road)
    ∷ due (net_in f Water) (borders_in f Water)
    ∷ due (inner_in f Confine) (islands_in f Confine)
    ∷ due (exact_total kind f) (total_allowance kind f)
    ∷ due (exact_confine kind f) (confine_allowance kind f)
    ∷ counted b
    ∷ []

unfoldable pub foot_due : ℕ → List ℤ → ℤ → List DueLine
foot_due kind f b = due_under (foot_lines kind f) (foot_dues kind f b)

-- ---- all lines but the first

-- where the balance is to be `b`
unfoldable pub due_with : ℕ → List ℤ → List CodeNet → ℤ → List DueLine
due_with kind f c b = head_due f ++ (listed_due c ++ foot_due kind f b)

-- "SBILANCIO is exactly the file's TOTALE less its CONFINE": before these two stand the date, six lines, the m listed borders and four lines, or five
unfoldable pub balance_in : ℕ → List ℕ → ℤ
balance_in m s = figure_in (line_from s (11 + m)) -ℤ figure_in (line_from s (12 + m))

-- in a file s
unfoldable pub due_lines : ℕ → List ℤ → List CodeNet → List ℕ → List DueLine
due_lines kind f c s = due_with kind f c (balance_in (length c) s)
