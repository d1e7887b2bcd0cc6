-- `made::outer_of`: `rest` is what the islands passed leave. Assumes nothing.
use Rattle.std.proofs.Common.{◌≡◌, ◌-◌, drop}
use Rattle.made.specs.Made.{sum}
use Rattle.made.proofs.outer_of.Given as goal

abbrev pub invariant-loop-n : goal.invariant-loop-n
invariant-loop-n l = l.v - sum l.s ≡ l.rest - sum (drop l.n-index l.s)
