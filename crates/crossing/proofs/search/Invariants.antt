-- `crossing::search` meets its contract. The rows passed have no faulty pair; in the row at work the pairs passed are good, and a, b are its edge's ends.
use mathlib.Core.Path.{◌≡◌}
use mathlib.Core.Bool.{false}
use Prim.Native.Nat.{ℕ, ◌≤◌, ◌<◌, ◌-◌}
use lib.Dec.{ltb}
use Rattle.crossing.specs.Search.{faulty-pair, second-edge}
use Rattle.crossing.proofs.search.Given as goal

abbrev pub invariant-loop-j : goal.invariant-loop-j
invariant-loop-j l = (l.i ≤ l.j) × (l.j ≤ l.edges) × ((k : ℕ) → k < l.j → l.i ≤ k → faulty-pair l.points l.from l.edges l.i k ≡ false)

abbrev pub decreases-loop-j : goal.decreases-loop-j
decreases-loop-j l = l.edges - l.j

abbrev pub invariant-rows : goal.invariant-rows
invariant-rows l = (l.i ≤ l.edges) × ((k : ℕ) → k < l.i → ltb (second-edge l.points l.from l.edges k) l.edges ≡ false)

abbrev pub decreases-rows : goal.decreases-rows
decreases-rows l = l.edges - l.i
