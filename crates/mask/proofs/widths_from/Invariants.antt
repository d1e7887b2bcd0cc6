-- `mask::widths_from` meets its contract: its loop. Assumes nothing.
use mathlib.Core.Path.{◌≡◌}
use lib.ListN.{drop}
use Rattle.area.specs.BorderRings.{total_from}
use Rattle.mask.specs.Width.{width_of}
use Rattle.mask.proofs.widths_from.Given as goal

abbrev pub invariant-loop-size : goal.invariant-loop-size
invariant-loop-size l = width_of (total_from l.points l.from l.sizes) ≡ width_of (total_from l.points l.at (drop l.size-index l.sizes))
