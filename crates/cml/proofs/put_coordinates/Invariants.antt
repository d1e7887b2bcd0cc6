-- `put_coordinates` meets its contract: a loop over the coordinates. Assumes nothing.
use Prim.Native.Nat.{◌-◌}
use mathlib.Core.Bool.{true}
use mathlib.Core.Path.{◌≡◌}
use lib.ListN.{length, drop}
use Rattle.made.specs.Made.{are_reals}
use Rattle.writer.proofs.Putting.{Putting}
use Rattle.cml.specs.Spaced.{spaced_text}
use Rattle.cml.proofs.put_coordinates.Given as goal

abbrev pub invariant-loop-j : goal.invariant-loop-j
invariant-loop-j l = Putting l.initial.out l.at (spaced_text 0 l.s) l.out l.next (spaced_text l.j (drop l.j l.s)) × (are_reals (drop l.j l.s) ≡ true)
