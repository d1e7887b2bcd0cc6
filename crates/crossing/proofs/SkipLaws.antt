-- Edges that are passed over, one by one and run after run, and that those which are make no faulty pair. Assumes nothing.
use mathlib.Core.Path.{◌≡◌, refl, sym, ◌∙◌, subst}
use mathlib.Core.List.{List}
use mathlib.Core.Logic.{⊎_elim}
use mathlib.Core.Bool.{Bool, true, false}
use Prim.Native.Nat.{ℕ, ◌+◌, ◌-◌, ◌≤◌, ◌<◌}
use native.Mathlib.Nat.{le_refl, eq-or-lt_of_le}
use native.Mathlib.Omega.{arith}
use lib.Dec.{ltb}
use lib.IntN.{ℤ}
use borrow.Author.Tests.{ltb-true, ltb-false}
use Rattle.crossing.specs.declared.Point.{Point}
use Rattle.crossing.specs.Edges.{point_at, edges-meet}
use Rattle.crossing.specs.Search.{faulty-pair}
use Rattle.crossing.specs.Boxes.{Skip, meets_at}
use Rattle.crossing.proofs.EdgeLaws.{faulty-other, not_last}

module _ (p : ℕ → Bool) (j stop : ℕ) where
  pub skip-none : j ≤ stop → Skip p j stop j
  skip-none h = record { on = le_refl j; inside = h; none = λ k x y. let z : ⊥ = omega arith in absurd z }

  pub skip-one : (r : ℕ) → Skip p j stop r → r < stop → p r ≡ false → Skip p j stop (r + 1)
  skip-one r w h e =
      record {
        on = omega (arith, w.on);
        inside = omega arith;
        none = λ k x y.
            ⊎_elim (λ (q : k ≡ r). subst (λ (u : ℕ). p u ≡ false) (sym q) e) (λ (l : k < r). w.none k l y)
            (eq-or-lt_of_le (let z : k ≤ r = omega arith in z));
      }

  -- a run, then another
  pub skip-then : (m end r : ℕ) → Skip p j stop m → Skip p m end r → end ≤ stop → Skip p j stop r
  skip-then m end r v w h = record { on = omega (arith, v.on, w.on); inside = omega (arith, w.inside); none = λ k x y. go k x y (ltb k m) refl }
    where
      go : (k : ℕ) → k < r → j ≤ k → (t : Bool) → ltb k m ≡ t → p k ≡ false
      go k x y true q = v.none k (ltb-true k m q) y
      go k x y false q = w.none k x (ltb-false k m q)

-- edges that are no neighbours of edge i, and before the last
pub onward-meets : (ps : List ℤ) (from edges i j r : ℕ) (a b : Point) → a ≡ point_at ps (from + i) → b ≡ point_at ps (from + (i + 1)) → i + 2 ≤ j → j + 1 < edges → Skip (meets_at ps from a b) j (edges - 1) r → Skip (faulty-pair ps from edges i) j edges r
onward-meets ps from edges i j r a b start end apart more w =
    record {
      on = w.on;
      inside = omega (arith, w.inside);
      none = λ k x y.
          let h = w.inside in
          let e : edges-meet (point_at ps (from + i)) (point_at ps (from + (i + 1))) (point_at ps (from + k)) (point_at ps (from + (k + 1))) ≡ false = rw (start, end) at (w.none k x y) in
          sym (faulty-other ps from edges i k (λ q. omega arith) (λ q. omega arith) (not_last ps from edges i k (λ q. omega arith))) ∙ e;
    }

-- the search's row: the pair at j is good, and those passed over
pub row_on : (p : ℕ → Bool) (i j edges r : ℕ) → ((k : ℕ) → k < j → i ≤ k → p k ≡ false) → p j ≡ false → Skip p (j + 1) edges r → (k : ℕ) → k < r → i ≤ k → p k ≡ false
row_on p i j edges r h e w k x y = go (ltb k (j + 1)) refl
  where
    go : (t : Bool) → ltb k (j + 1) ≡ t → p k ≡ false
    go true q =
        let l : k ≤ j = omega (arith, ltb-true k (j + 1) q) in
        ⊎_elim (λ (z : k ≡ j). subst (λ (u : ℕ). p u ≡ false) (sym z) e) (λ (z : k < j). h k z y) (eq-or-lt_of_le l)
    go false q = w.none k x (ltb-false k (j + 1) q)
