-- One turn of the walk that fills a window: whether its row is looked at, and taken in (document 02, T-01). Assumes nothing: these are definitions.
use Rattle.std.specs.Prelude.{ℕ, List, [], Bool, not, ◌&&◌, ◌||◌, ltb, Option, Some, None}
use Rattle.heading.specs.declared.Header.{Header}
use Rattle.sheet.specs.Tables.{Tables}
use Rattle.made.specs.Made.{letters_of}
use Rattle.row.specs.declared.Stand.{Stand}
use Rattle.row.specs.Walk.{left_at}
use Rattle.order.specs.Compare.{is_after, by_bytes}
use Rattle.order.specs.SupBorders.{is_in_sup}
use Rattle.order.specs.SupOrder.{goes_before}
use Rattle.order.specs.Windows.{window_width, is_past}

-- the letters of the border that was had last
unfoldable pub since_letters : Tables → Option Stand → List ℕ
since_letters t None = []
since_letters t (Some e) = letters_of (left_at t e)

-- letters that do not come after the guide, on a walk that has one
unfoldable pub is_up_to : List ℕ → Bool → List ℕ → Bool
is_up_to guide guided s = not (guided && is_after (by_bytes s guide))

-- nor before `from`
unfoldable pub is_within : List ℕ → List ℕ → Bool → List ℕ → Bool
is_within from guide guided s = not (is_after (by_bytes from s)) && is_up_to guide guided s

-- the row is past `since`, comes before the last of a full window, and is listed
unfoldable pub joins_window : Header → Tables → Option Stand → ℕ → Stand → Stand → Bool
joins_window h t since n last d = is_past t since d && ((ltb n window_width || goes_before t d last) && is_in_sup h (left_at t d))
