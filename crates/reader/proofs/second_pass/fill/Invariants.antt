-- `reader::fill` meets its contract. Assumes nothing.
use Prim.Native.Nat.{◌-◌}
use lib.ListN.{length}
use Rattle.sheet.specs.Reading.{walk_from}
use Rattle.reader.proofs.Filled.{Filled}
use Rattle.reader.proofs.second_pass.fill.Given as goal

abbrev pub invariant-loop-turn : goal.invariant-loop-turn
invariant-loop-turn l = Filled l.mode l.src (walk_from l.mode l.src l.start) l.initial.rows l.initial.letters l.initial.islands l.initial.points l.rows l.letters l.islands l.points l.d

abbrev pub decreases-loop-turn : goal.decreases-loop-turn
decreases-loop-turn l = length l.src - l.d.at
