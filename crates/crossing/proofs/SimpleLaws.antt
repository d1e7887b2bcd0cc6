-- A ring is called simple exactly if it is simple in document 01's words ("Ring check"), over exact fractions: `simple-iff`. The pair that is answered breaks these words, `faulty-broken`, and none before it does, `faulty-first`. Assumes nothing.
use mathlib.Core.Path.{◌≡◌, refl, sym, ap, ap₂, subst, ◌∙◌}
use mathlib.Core.Logic.{◌⊎◌, ◌↔◌}
use mathlib.Core.List.{List}
use mathlib.Core.Bool.{Bool, true, false, ◌&&◌}
use Prim.Native.Nat.{ℕ, ◌+◌, ◌-◌, ◌≤◌, ◌<◌}
use native.Mathlib.Omega.{arith}
use lib.Dec.{eqb}
use lib.IntN.{ℤ}
use borrow.Author.Tests.{eqb-true, eqb-false, eq-eqb}
use Rattle.laws.specs.Whole.{eq_z}
use Rattle.laws.proofs.Choice.{true≢false, false≢true, and_left, and_right, and_both}
use Rattle.laws.proofs.Bits.{eq_z-yes, eq_z-same}
use Rattle.plane.specs.Rings.{narrow}
use Rattle.crossing.specs.declared.Point.{Point}
use Rattle.std.proofs.Common.{Option, Some, None, Result, Ok, Err}
use Rattle.plane.specs.declared.NoArea.{NoArea}
use Rattle.plane.specs.declared.NoArea.TheVariants.{Wide, Missing}
use Rattle.crossing.specs.declared.FaultyPair.{FaultyPair}
use Rattle.crossing.specs.Edges.{point_at, equal-ends}
use Rattle.crossing.specs.Search.{fault_at, faulty-pair, verdict_of}
use Rattle.crossing.specs.Shared.{Shared, OnlyAt}
use Rattle.crossing.specs.SimpleRing.{SimpleRing, Broken, ends-equal, next_more, closing-more, others-share}
use Rattle.crossing.proofs.EdgeLaws.{faulty-itself, faulty-next, faulty-ends, faulty-other}
use Rattle.crossing.proofs.SharedLaws.{not-both, shared-meet}
use Rattle.crossing.proofs.NeighbourLaws.{neighbours-good, neighbours-faulty, elsewhere-not-only}
use Rattle.crossing.proofs.MeetLaws.{meet-shared}
use Rattle.crossing.proofs.VerdictLaws.{verdict-simple-is, verdict-faulty-is, verdict-not-faulty}

ends-yes : (a b : Point) → a ≡ b → equal-ends a b ≡ true
unfolding equal-ends
ends-yes a b e = and_both (eq_z a.x b.x) (eq_z a.y b.y) (eq_z-yes a.x b.x (ap (λ (p : Point). p.x) e)) (eq_z-yes a.y b.y (ap (λ (p : Point). p.y) e))

ends_same : (a b : Point) → equal-ends a b ≡ true → a ≡ b
unfolding equal-ends
ends_same a b e =
    let x = eq_z-same a.x b.x (and_left (eq_z a.x b.x) (eq_z a.y b.y) e) in
    let y = eq_z-same a.y b.y (and_right (eq_z a.x b.x) (eq_z a.y b.y) e) in
    ap₂ {C = Point} (λ (p q : ℤ). record { x = p; y = q }) x y

-- ---- a faulty pair breaks the words, and a good one does not

module _ (ps : List ℤ) (from edges i j : ℕ) where
  pub pair-broken : i ≤ j → faulty-pair ps from edges i j ≡ true → Broken ps from edges i j
  pair-broken o e = go (eqb i j) (eqb (i + 1) j) (eqb i 0 && eqb (j + 1) edges) refl refl refl
    where
      go : (p q r : Bool) → eqb i j ≡ p → eqb (i + 1) j ≡ q → (eqb i 0 && eqb (j + 1) edges) ≡ r → Broken ps from edges i j
      go true q r x y z =
          let h = eqb-true i j x in
          ends-equal h (ends_same (point_at ps (from + i)) (point_at ps (from + (i + 1))) (faulty-itself ps from edges i j h ∙ e))
      go false true r x y z =
          let h = eqb-true (i + 1) j y in
          next_more h (neighbours-faulty (point_at ps (from + i)) (point_at ps (from + (i + 1))) (point_at ps (from + (j + 1))) (faulty-next ps from edges i j h ∙ e))
      go false false true x y z =
          let a = eqb-false i j x in
          let b = eqb-false (i + 1) j y in
          let h = eqb-true i 0 (and_left (eqb i 0) (eqb (j + 1) edges) z) in
          let l = eqb-true (j + 1) edges (and_right (eqb i 0) (eqb (j + 1) edges) z) in
          closing-more h (omega arith) l (neighbours-faulty (point_at ps (from + j)) (point_at ps (from + (j + 1))) (point_at ps (from + (i + 1))) (faulty-ends ps from edges i j a b h l ∙ e))
      go false false false x y z =
          let a = eqb-false i j x in
          let b = eqb-false (i + 1) j y in
          others-share (omega arith) (λ h l. true≢false (sym (and_both (eqb i 0) (eqb (j + 1) edges) (eq-eqb i 0 h) (eq-eqb (j + 1) edges l)) ∙ z))
          (meet-shared (point_at ps (from + i)) (point_at ps (from + (i + 1))) (point_at ps (from + j)) (point_at ps (from + (j + 1))) (faulty-other ps from edges i j a b z ∙ e))

  pub pair-whole : faulty-pair ps from edges i j ≡ false → Broken ps from edges i j → ⊥
  pair-whole e (ends-equal x y) = false≢true (sym e ∙ sym (faulty-itself ps from edges i j x) ∙ ends-yes (point_at ps (from + i)) (point_at ps (from + (i + 1))) y)
  pair-whole e (next_more x s) =
      elsewhere-not-only (point_at ps (from + i)) (point_at ps (from + (i + 1))) (point_at ps (from + (j + 1))) s
      (neighbours-good (point_at ps (from + i)) (point_at ps (from + (i + 1))) (point_at ps (from + (j + 1))) (faulty-next ps from edges i j x ∙ e))
  pair-whole e (closing-more x y z s) =
      elsewhere-not-only (point_at ps (from + j)) (point_at ps (from + (j + 1))) (point_at ps (from + (i + 1))) s
      (neighbours-good (point_at ps (from + j)) (point_at ps (from + (j + 1))) (point_at ps (from + (i + 1))) (faulty-ends ps from edges i j (λ h. omega arith) (λ h. omega arith) x z ∙ e))
  pair-whole e (others-share x y s) =
      let ends : (eqb i 0 && eqb (j + 1) edges) ≡ false = not-both (eqb i 0) (eqb (j + 1) edges) (λ h l. y (eqb-true i 0 h) (eqb-true (j + 1) edges l)) in
      let meet = shared-meet (point_at ps (from + i)) (point_at ps (from + (i + 1))) (point_at ps (from + j)) (point_at ps (from + (j + 1))) s in
      false≢true (sym e ∙ sym (faulty-other ps from edges i j (λ h. omega arith) (λ h. omega arith) ends) ∙ meet)

  broken-not-simple : j < edges → Broken ps from edges i j → SimpleRing ps from edges → ⊥
  broken-not-simple h (ends-equal x y) r = r.ends-differ i (omega arith) y
  broken-not-simple h (next_more x s) r =
      elsewhere-not-only (point_at ps (from + i)) (point_at ps (from + (i + 1))) (point_at ps (from + (j + 1))) s
      (subst (λ (k : ℕ). OnlyAt (point_at ps (from + i)) (point_at ps (from + (i + 1))) (point_at ps (from + (k + 1)))) x (r.next-only i (omega arith)))
  broken-not-simple h (closing-more x y z s) r =
      elsewhere-not-only (point_at ps (from + j)) (point_at ps (from + (j + 1))) (point_at ps (from + (i + 1))) s
      (subst (λ (k : ℕ). OnlyAt (point_at ps (from + j)) (point_at ps (from + (j + 1))) (point_at ps (from + (k + 1)))) (sym x) (r.closing-only j y z))
  broken-not-simple h (others-share x y s) r = r.others_apart i j x h y s

-- ---- a ring that is called simple

module _ (ps : List ℤ) (from n : ℕ) (simple : verdict_of ps from n ≡ Ok None) where
  pub simple-ends : (k : ℕ) → k < n - 1 → equal-ends (point_at ps (from + k)) (point_at ps (from + (k + 1))) ≡ false
  simple-ends k h = faulty-itself ps from (n - 1) k k (omega arith) ∙ verdict-simple-is ps from n simple k k (omega arith) h

  -- edge k and the next share only the vertex between them
  pub simple-neighbours : (k : ℕ) → k + 1 < n - 1 → OnlyAt (point_at ps (from + k)) (point_at ps (from + (k + 1))) (point_at ps (from + (k + 1 + 1)))
  simple-neighbours k h =
      neighbours-good (point_at ps (from + k)) (point_at ps (from + (k + 1))) (point_at ps (from + (k + 1 + 1)))
      (faulty-next ps from (n - 1) k (k + 1) (omega arith) ∙ verdict-simple-is ps from n simple k (k + 1) (omega arith) h)

  -- the last edge and the first, of more than two, share only the vertex where the ring closes
  pub simple-closing : (l : ℕ) → 1 < l → l + 1 ≡ n - 1 → OnlyAt (point_at ps (from + l)) (point_at ps (from + (l + 1))) (point_at ps (from + (0 + 1)))
  simple-closing l h e =
      neighbours-good (point_at ps (from + l)) (point_at ps (from + (l + 1))) (point_at ps (from + (0 + 1)))
      (faulty-ends ps from (n - 1) 0 l (λ q. omega arith) (λ q. omega arith) (omega arith) e ∙ verdict-simple-is ps from n simple 0 l (omega arith) (omega arith))

  -- two edges that are no neighbours share no point
  pub simple-apart : (k l : ℕ) → k + 1 < l → l < n - 1 → (k ≡ 0 → l + 1 ≡ n - 1 → ⊥) → Shared (point_at ps (from + k)) (point_at ps (from + (k + 1))) (point_at ps (from + l)) (point_at ps (from + (l + 1))) → ⊥
  simple-apart k l h m f s = pair-whole ps from (n - 1) k l (verdict-simple-is ps from n simple k l (omega arith) m) (others-share h f s)

  pub simple-ring : SimpleRing ps from (n - 1)
  simple-ring = record {
    ends-differ = λ k h e. false≢true (sym (simple-ends k h) ∙ ends-yes (point_at ps (from + k)) (point_at ps (from + (k + 1))) e);
    next-only = simple-neighbours;
    closing-only = simple-closing;
    others_apart = simple-apart;
  }

-- ---- a ring that is called faulty

module _ (ps : List ℤ) (from n i j : ℕ) (faulty : verdict_of ps from n ≡ Ok (fault_at i j)) where
  -- the pair that is answered breaks the words
  pub faulty-broken : Broken ps from (n - 1) i j
  faulty-broken = let r = verdict-faulty-is ps from n i j faulty in pair-broken ps from (n - 1) i j r.ordered r.faulty

  -- no pair before it does
  pub faulty-first : (k l : ℕ) → k ≤ l → l < n - 1 → (k < i) ⊎ ((k ≡ i) × (l < j)) → Broken ps from (n - 1) k l → ⊥
  faulty-first k l h m o = pair-whole ps from (n - 1) k l ((verdict-faulty-is ps from n i j faulty).before k l h m o)

  pub faulty-not-simple : SimpleRing ps from (n - 1) → ⊥
  faulty-not-simple = broken-not-simple ps from (n - 1) i j (verdict-faulty-is ps from n i j faulty).inside faulty-broken

-- a ring that is not refused is called simple exactly if it is
pub simple-iff : (ps : List ℤ) (from n : ℕ) → narrow ps from n ≡ true → (verdict_of ps from n ≡ Ok None) ↔ SimpleRing ps from (n - 1)
simple-iff ps from n h = (simple-ring ps from n, λ r. verdict-not-faulty ps from n h (λ i j q. faulty-not-simple ps from n i j q r))
