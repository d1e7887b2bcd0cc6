-- For private contracts alone: lines whose names stand one behind the other, and the figure of one border. Assumes nothing: these are definitions.
use Rattle.std.specs.Prelude.{ℕ, zero, suc, List, [], ◌∷◌, ◌++◌, Bool, true, false, not, ◌&&◌, ◌||◌, take, drop, ℤ}
use Rattle.heading.specs.declared.Header.{Header}
use Rattle.sheet.specs.Tables.{Tables}
use Rattle.row.specs.declared.Stand.{Stand}
use Rattle.row.specs.Walk.{stand_after, left_at}
use Rattle.spelling.specs.Figures.{is_narrow, figure_text}
use Rattle.order.specs.SupBorders.{is_in_sup}
use Rattle.order.specs.SupOrder.{net_left}
use Rattle.sup.specs.Metres.{metres_of}
use Rattle.sup.specs.Lines.{name_width, fields_line}

unfoldable pub are_narrow : List ℤ → Bool
are_narrow [] = true
are_narrow (z ∷ s) = is_narrow z && are_narrow s

unfoldable pub named_text : List ℕ → List ℤ → List ℕ
named_text names [] = []
named_text names (z ∷ s) = fields_line (take name_width names) (figure_text z) ++ named_text (drop name_width names) s

-- ---- the first row of what is left

-- its figure
unfoldable pub metres_left : Tables → ℤ
metres_left t = metres_of (net_left t)

unfoldable pub is_wide_listed : Header → Tables → Bool
is_wide_listed h t = is_in_sup h t && not (is_narrow (metres_left t))

-- any of n rows, the first of which stands at d
unfoldable pub is_any_wide_from : Header → Tables → ℕ → Stand → Bool
is_any_wide_from h t zero d = false
is_any_wide_from h t (suc n) d = is_wide_listed h (left_at t d) || is_any_wide_from h t n (stand_after t.rows d)
