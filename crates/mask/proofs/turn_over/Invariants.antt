-- `mask::turn_over` meets its contract: its loop. Assumes nothing.
use Rattle.mask.proofs.TurnWays.{Overing}
use Rattle.mask.proofs.turn_over.Given as goal

abbrev pub invariant-loop-r : goal.invariant-loop-r
invariant-loop-r l = Overing l.initial.rows l.cells l.rows l.r
