-- A border drawn otherwise (document 02, T-03): each of its rings as it was, begun elsewhere, or turned round. Assumes nothing: these are definitions.
use Rattle.std.specs.Prelude.{List, [], ◌∷◌, ℕ, ◌+◌, ◌-◌, ℤ}
use Rattle.grid.specs.Same.{BegunAt, TurnedRound}

-- a ring of e edges from vertex `from` on; begun at its vertex 0 it is as it was
pub data RingRedrawn (ps qs : List ℤ) (from e : ℕ) : Type 0 where
  begun-at : (j : ℕ) → BegunAt ps from qs from e j → RingRedrawn ps qs from e
  turned_round : TurnedRound ps from qs from e → RingRedrawn ps qs from e

-- rings of these sizes, one behind the other
abbrev pub Redrawn : List ℤ → List ℤ → ℕ → List ℕ → Type 0
Redrawn ps qs from [] = Unit {0}
Redrawn ps qs from (n ∷ ns) = RingRedrawn ps qs from (n - 1) × Redrawn ps qs (from + n) ns
