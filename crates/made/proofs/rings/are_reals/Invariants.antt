-- `made::are_reals`: the numbers passed are right. Assumes nothing.
use Rattle.std.proofs.Common.{◌≡◌, length}
use Rattle.made.specs.Made.{are_reals}
use Rattle.made.proofs.rings.are_reals.Given as goal

abbrev pub invariant-loop-rest : goal.invariant-loop-rest
invariant-loop-rest l = are_reals l.s ≡ are_reals l.rest

abbrev pub decreases-loop-rest : goal.decreases-loop-rest
decreases-loop-rest l = length l.rest
