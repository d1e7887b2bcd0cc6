-- `area::total_area` meets its contract: `total` is the area of the rings passed, at most `edge-limit` for each of their vertices. Assumes nothing.
use Prim.Native.Nat.{◌+◌, ◌*◌, ◌≤◌}
use mathlib.Core.Path.{◌≡◌}
use lib.ListN.{drop}
use Rattle.std.proofs.Common.{Ok}
use Rattle.laws.specs.Whole.{Within}
use Rattle.plane.specs.Rings.{most}
use Rattle.plane.specs.Areas.{edge-limit}
use Rattle.made.specs.Made.{sum}
use Rattle.area.specs.BorderRings.{areas_together, total_from}
use Rattle.area.proofs.total_area.Given as goal

abbrev pub invariant-loop-size : goal.invariant-loop-size
invariant-loop-size l =
    (total_from l.points l.from l.sizes ≡ areas_together (Ok l.total) (total_from l.points l.at (drop l.size-index l.sizes))) × (l.at + sum (drop l.size-index l.sizes) ≤ most) × Within (l.at * edge-limit) l.total
