-- `put_figures` meets its contract: the lines before `i` have their figures. Assumes nothing.
use Rattle.sup.proofs.RawWays.{Figuring}
use Rattle.sup.proofs.raw.put_figures.Given as goal

abbrev pub invariant-loop-i : goal.invariant-loop-i
invariant-loop-i l = Figuring l.initial.s l.s l.i
