-- `pass` meets its contract: see `Passing`. Assumes nothing.
use Rattle.sorting.proofs.SinkLaws.{Passing}
use Rattle.sorting.proofs.pass.Given as goal

abbrev pub invariant-loop-i : goal.invariant-loop-i
invariant-loop-i l = Passing l.gap l.initial.s l.s l.i
