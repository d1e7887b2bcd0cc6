-- Windows on the borders of a SUP file in order (document 02, T-01 and T-10): the next so many, from past one on. Assumes nothing: these are definitions.
use Rattle.std.specs.Prelude.{ℕ, ◌≤◌, ◌≡◌, List, Bool, true, take, length, Option, Some, None}
use Rattle.heading.specs.declared.Header.{Header}
use Rattle.sheet.specs.Tables.{Tables}
use Rattle.row.specs.declared.Stand.{Stand}
use Rattle.row.specs.Walk.{word_most}
use Rattle.order.specs.declared.Window.{Window}
use Rattle.order.specs.Sorting.{sort_by, filter}
use Rattle.order.specs.SupBorders.{sup_borders}
use Rattle.order.specs.SupOrder.{goes_before}

abbrev pub window_width : ℕ
window_width = 384

-- behind a border that was had before
unfoldable pub is_past : Tables → Option Stand → Stand → Bool
is_past t None d = true
is_past t (Some e) d = goes_before t e d

-- the next ones, as many as a window holds
unfoldable pub window_of : Header → ℕ → Tables → Option Stand → List Stand
window_of h count t since = take window_width (sort_by (goes_before t) (filter (is_past t since) (sup_borders h count t)))

abbrev pub in_window : Window → List Stand
in_window w = take w.count w.items

-- each table's length is a number of the code, so that a walk over rows that were judged never wraps
pub record Small (t : Tables) : Type 0 where
  pub rows : length t.rows ≤ word_most
  pub letters : length t.letters ≤ word_most
  pub islands : length t.islands ≤ word_most
  pub points : length t.points ≤ word_most

-- a window on these
pub record Shows (w : Window) (s : List Stand) : Type 0 where
  pub items-are : in_window w ≡ s
  pub count-is : w.count ≡ length s
