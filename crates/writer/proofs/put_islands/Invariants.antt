-- `put_islands` meets its contract. What is to come are the counts from `i` on, whose sum is an integer too. Assumes nothing.
use Prim.Native.Nat.{◌-◌, ◌≤◌}
use lib.ListN.{length, drop}
use Rattle.made.specs.Made.{sum}
use Rattle.layout.specs.Sheet.{integers_text}
use Rattle.writer.proofs.Putting.{Putting}
use Rattle.writer.proofs.put_islands.Given as goal

abbrev pub invariant-loop-n : goal.invariant-loop-n
invariant-loop-n l = Putting l.initial.out l.at (integers_text l.s) l.out l.next (integers_text (drop l.n-index l.s)) × (sum (drop l.n-index l.s) ≤ 9999)
