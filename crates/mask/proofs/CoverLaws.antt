-- The rule ring by ring (document 02, T-03): what lies inside an odd number of rings is set, so a courtyard is not. Assumes nothing.
use mathlib.Core.Path.{◌≡◌, refl, sym, ◌∙◌, ap, ap₂}
use mathlib.Core.Bool.{true, false}
use mathlib.Core.List.{List, [], ◌∷◌}
use Prim.Native.Nat.{ℕ, ◌+◌, ◌-◌, ◌/◌, ◌%◌, ◌^◌, ◌<◌}
use native.Mathlib.Nat.{zero-add}
use lib.ListN.{get_or}
use lib.IntN.{ℤ}
use Rattle.grid.specs.Inside.{centre-x, centre-y, one_if, is_odd, crossings, in-ring, ring-covers}
use Rattle.grid.specs.Words.{grid_side, row_words, differs, all_cells_set, set_bits}
use Rattle.grid.proofs.OddLaws.{odd-add, odd-one}
use Rattle.grid.proofs.WordLaws.{words-set}
use Rattle.grid.proofs.HoldLaws.{bit_is}
use Rattle.mask.specs.Covers.{all-crossings, in-border, covers, rings-round}

-- the edges that count are odd in number where the centre lies in an odd number of the rings
pub parity : (ps : List ℤ) (from : ℕ) (sizes : List ℕ) (x y : ℤ) → is_odd (all-crossings ps from sizes x y) ≡ is_odd (rings-round ps from sizes x y)
unfolding all-crossings rings-round in-ring
parity ps from [] x y = refl
parity ps from (n ∷ ns) x y =
    let a = crossings ps from (n - 1) x y in
    odd-add a (all-crossings ps (from + n) ns x y)
    ∙ ap₂ differs (sym (odd-one (is_odd a))) (parity ps (from + n) ns x y)
    ∙ sym (odd-add (one_if (is_odd a)) (rings-round ps (from + n) ns x y))

module _ (ps : List ℤ) (outer : ℕ) (islands : List ℕ) (x y : ℤ) where
  by-rings : in-border ps (outer ∷ islands) x y ≡ differs (in-ring ps 0 outer x y) (is_odd (rings-round ps outer islands x y))
  unfolding in-border rings-round
  by-rings =
      parity ps 0 (outer ∷ islands) x y ∙ rw (zero-add outer) (odd-add (one_if (in-ring ps 0 outer x y)) (rings-round ps outer islands x y))
      ∙ ap (λ b. differs b (is_odd (rings-round ps outer islands x y))) (odd-one (in-ring ps 0 outer x y))

  -- **"a centre that the same rule, ring by ring, puts inside the outer ring and inside exactly one island is never set"**
  pub courtyard : in-ring ps 0 outer x y ≡ true → rings-round ps outer islands x y ≡ 1 → in-border ps (outer ∷ islands) x y ≡ false
  courtyard h k = by-rings ∙ rw (h, k)

  -- **and one inside the outer ring and no island is**
  pub built : in-ring ps 0 outer x y ≡ true → rings-round ps outer islands x y ≡ 0 → in-border ps (outer ∷ islands) x y ≡ true
  built h k = by-rings ∙ rw (h, k)

-- ---- of the bits

module _ (ps : List ℤ) (outer : ℕ) (islands : List ℕ) (cx cy : ℤ) (s r c : ℕ) (h : r < grid_side) (k : c < grid_side) (i : ring-covers ps 0 outer cx cy s r c ≡ true) where
  pub courtyard-bit : rings-round ps outer islands (centre-x cx s c) (centre-y cy s r) ≡ 1 → get_or (row_words (covers ps (outer ∷ islands) cx cy s) grid_side) r 0 / 2 ^ (63 - c) % 2 ≡ 0
  unfolding covers ring-covers
  courtyard-bit j = bit_is (covers ps (outer ∷ islands) cx cy s) r c h k ∙ ap one_if (courtyard ps outer islands (centre-x cx s c) (centre-y cy s r) i j)

  pub built-bit : rings-round ps outer islands (centre-x cx s c) (centre-y cy s r) ≡ 0 → get_or (row_words (covers ps (outer ∷ islands) cx cy s) grid_side) r 0 / 2 ^ (63 - c) % 2 ≡ 1
  unfolding covers ring-covers
  built-bit j = bit_is (covers ps (outer ∷ islands) cx cy s) r c h k ∙ ap one_if (built ps outer islands (centre-x cx s c) (centre-y cy s r) i j)

-- the number of cells that the definition sets is the sum of each row's set bits
pub cells-counted : (ps : List ℤ) (sizes : List ℕ) (cx cy : ℤ) (s : ℕ) → set_bits (row_words (covers ps sizes cx cy s) grid_side) ≡ all_cells_set (covers ps sizes cx cy s) grid_side
cells-counted ps sizes cx cy s = words-set (covers ps sizes cx cy s) grid_side
