-- The predicates' cases, one lemma for each answer of the code, and that two vertices of a narrow ring are close. Assumes nothing.
use mathlib.Core.Path.{◌≡◌, refl, sym, subst₂}
use mathlib.Core.List.{List}
use mathlib.Core.Bool.{Bool, true, false, not, ◌&&◌}
use Prim.Native.Nat.{ℕ, ◌+◌, ◌<◌}
use native.Mathlib.Omega.{arith}
use lib.Dec.{eqb}
use lib.IntN.{ℤ, pos}
use lib.Signed.{lt_z}
use borrow.Author.Tests.{eq-eqb, ne_eqb}
use Rattle.laws.proofs.Chains.{or-none, and-off-second}
use Rattle.laws.proofs.Parts.{ints, lt-false}
use Rattle.laws.proofs.Bounds.{within-between}
use Rattle.plane.specs.Rings.{x-at, y-at, all_near}
use Rattle.plane.specs.Areas.{east, north}
use Rattle.plane.proofs.RingLaws.{near-each}
use Rattle.plane.proofs.AreaLaws.{east-within, north-within}
use Rattle.crossing.specs.declared.Point.{Point}
use Rattle.crossing.specs.Edges.{point_at, Close, one_side, beside-line, boxes-overlap, equal-ends, neighbours-overlap, edges-meet}
use Rattle.crossing.specs.Search.{faulty-pair}

-- ---- sides

module _ (s t : ℤ) where
  pub side_left : lt_z (pos 0) s ≡ true → lt_z (pos 0) t ≡ one_side s t
  unfolding one_side
  side_left e = let f : lt_z s (pos 0) ≡ false = lt-false s (pos 0) (omega (arith, ints)) in simp (e, f) (or-none (lt_z (pos 0) t))

  pub side_right : lt_z (pos 0) s ≡ false → lt_z s (pos 0) ≡ true → lt_z t (pos 0) ≡ one_side s t
  unfolding one_side
  side_right e f = simp (e, f)

  pub side-on : lt_z (pos 0) s ≡ false → lt_z s (pos 0) ≡ false → false ≡ one_side s t
  unfolding one_side
  side-on e f = simp (e, f)

-- ---- edges that are no neighbours

module _ (a b c d : Point) where
  pub meet-not-boxes : boxes-overlap a b c d ≡ false → false ≡ edges-meet a b c d
  unfolding edges-meet
  meet-not-boxes e =
      and-off-second (not (beside-line a b c d)) (not (beside-line c d a b) && boxes-overlap a b c d)
      (sym (and-off-second (not (beside-line c d a b)) (boxes-overlap a b c d) e))

  pub meet-not-beside : beside-line a b c d ≡ true → false ≡ edges-meet a b c d
  unfolding edges-meet
  meet-not-beside e = simp e

  pub meet-if : {r : Bool} → boxes-overlap a b c d ≡ true → beside-line a b c d ≡ false → r ≡ beside-line c d a b → not r ≡ edges-meet a b c d
  unfolding edges-meet
  meet-if {r} e f g = simp (e, f, ← g) (and-true (not r))
    where
      and-true : (t : Bool) → t ≡ (t && true)
      and-true true = refl
      and-true false = refl

-- ---- two vertices of a ring that is not too wide

module _ (ps : List ℤ) (from n : ℕ) (near : all_near ps from n ≡ true) where
  close : (i j : ℕ) → i < n → j < n → Close (point_at ps (from + i)) (point_at ps (from + j))
  unfolding east north
  close i j h k = record {
    wide = within-between (x-at ps from) (x-at ps (from + i)) (x-at ps (from + j)) (east-within ps from i (near-each ps from n near i h)) (east-within ps from j (near-each ps from n near j k));
    high = within-between (y-at ps from) (y-at ps (from + i)) (y-at ps (from + j)) (north-within ps from i (near-each ps from n near i h)) (north-within ps from j (near-each ps from n near j k));
  }

  pub close-as : (i j : ℕ) → i < n → j < n → (p q : Point) → p ≡ point_at ps (from + i) → q ≡ point_at ps (from + j) → Close p q
  close-as i j h k p q e f = subst₂ Close (sym e) (sym f) (close i j h k)

-- ---- a pair of edges

module _ (ps : List ℤ) (from edges i j : ℕ) where
  pub faulty-itself : i ≡ j → equal-ends (point_at ps (from + i)) (point_at ps (from + (i + 1))) ≡ faulty-pair ps from edges i j
  unfolding faulty-pair
  faulty-itself e = simp (eq-eqb i j e)

  pub faulty-next : i + 1 ≡ j → neighbours-overlap (point_at ps (from + i)) (point_at ps (from + (i + 1))) (point_at ps (from + (j + 1))) ≡ faulty-pair ps from edges i j
  unfolding faulty-pair
  faulty-next e = simp (ne_eqb i j (omega arith), eq-eqb (i + 1) j e)

  pub faulty-ends : (i ≡ j → ⊥) → (i + 1 ≡ j → ⊥) → i ≡ 0 → j + 1 ≡ edges → neighbours-overlap (point_at ps (from + j)) (point_at ps (from + (j + 1))) (point_at ps (from + (i + 1))) ≡ faulty-pair ps from edges i j
  unfolding faulty-pair
  faulty-ends f g e q = simp (ne_eqb i j f, ne_eqb (i + 1) j g, eq-eqb i 0 e, eq-eqb (j + 1) edges q)

  pub faulty-other : (i ≡ j → ⊥) → (i + 1 ≡ j → ⊥) → (eqb i 0 && eqb (j + 1) edges) ≡ false → edges-meet (point_at ps (from + i)) (point_at ps (from + (i + 1))) (point_at ps (from + j)) (point_at ps (from + (j + 1))) ≡ faulty-pair ps from edges i j
  unfolding faulty-pair
  faulty-other f g e = simp (ne_eqb i j f, ne_eqb (i + 1) j g, e)

  pub not_first : (i ≡ 0 → ⊥) → (eqb i 0 && eqb (j + 1) edges) ≡ false
  not_first f = simp (ne_eqb i 0 f)

  pub not_last : (j + 1 ≡ edges → ⊥) → (eqb i 0 && eqb (j + 1) edges) ≡ false
  not_last f = sym (and-off-second (eqb i 0) (eqb (j + 1) edges) (ne_eqb (j + 1) edges f))
