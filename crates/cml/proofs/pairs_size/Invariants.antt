-- `pairs_size` meets its contract: a loop over the vertices. Assumes nothing.
use Prim.Native.Nat.{◌+◌, ◌-◌, ◌*◌, ◌≤◌}
use mathlib.Core.Bool.{true}
use mathlib.Core.Path.{◌≡◌}
use lib.ListN.{length, drop}
use Rattle.made.specs.Made.{are_reals}
use Rattle.cml.specs.Spaced.{gaps_to, spaced_text}
use Rattle.cml.proofs.pairs_size.Given as goal

abbrev pub invariant-loop-i : goal.invariant-loop-i
invariant-loop-i l = (l.total + (l.i + gaps_to l.i) + length (spaced_text (2 * l.i) (drop (2 * l.i) l.s)) ≡ length (spaced_text 0 l.s)) × (are_reals (drop (2 * l.i) l.s) ≡ true) × (l.total ≤ 24 * l.i) × (l.i ≤ l.n)
