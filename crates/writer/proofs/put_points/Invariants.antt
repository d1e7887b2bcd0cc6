-- `put_points` meets its contract. What is to come are the numbers from `i` on, which are reals. Assumes nothing.
use Prim.Native.Nat.{◌-◌}
use mathlib.Core.Bool.{true}
use mathlib.Core.Path.{◌≡◌}
use lib.ListN.{length, drop}
use Rattle.made.specs.Made.{are_reals}
use Rattle.layout.specs.Sheet.{reals_text}
use Rattle.writer.proofs.Putting.{Putting}
use Rattle.writer.proofs.put_points.Given as goal

abbrev pub invariant-loop-z : goal.invariant-loop-z
invariant-loop-z l = Putting l.initial.out l.at (reals_text l.s) l.out l.next (reals_text (drop l.z-index l.s)) × (are_reals (drop l.z-index l.s) ≡ true)
