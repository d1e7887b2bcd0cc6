-- `made::are_closed`: the rings passed are closed, and those that are left are held in `rest`. Assumes nothing.
use Rattle.std.proofs.Common.{◌≡◌, ◌*◌, ◌≤◌, length, drop}
use Rattle.made.specs.Made.{sum, are_closed}
use Rattle.made.proofs.rings.are_closed.Given as goal

abbrev pub invariant-loop-size : goal.invariant-loop-size
invariant-loop-size l =
    record {
      same : are_closed l.sizes l.s ≡ are_closed (drop l.size-index l.sizes) l.rest;
      held : 2 * sum (drop l.size-index l.sizes) ≤ length l.rest;
    }
