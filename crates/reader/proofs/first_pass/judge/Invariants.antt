-- `reader::judge` meets its contract. Assumes nothing.
use Prim.Native.Nat.{◌-◌}
use lib.ListN.{length}
use Rattle.sheet.specs.Reading.{walk_from}
use Rattle.reader.specs.Columns.{due_from}
use Rattle.reader.proofs.Aiming.{Stands}
use Rattle.reader.proofs.first_pass.judge.Given as goal

abbrev pub invariant-loop-turn : goal.invariant-loop-turn
invariant-loop-turn l = Stands l.mode l.src (walk_from l.mode l.src l.start) (due_from l.mode l.src l.start) l.d

abbrev pub decreases-loop-turn : goal.decreases-loop-turn
decreases-loop-turn l = length l.src - l.d.at
