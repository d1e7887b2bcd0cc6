-- The verdict, from what the search says; and what an answer says of the ring: `verdict-faulty-is`, `verdict-simple-is`, `verdict-not-faulty`. Assumes nothing.
use mathlib.Core.Path.{◌≡◌, refl, sym, ◌∙◌}
use mathlib.Core.List.{List}
use mathlib.Core.Bool.{Bool, true, false}
use Prim.Native.Nat.{ℕ, ◌-◌, ◌≤◌, ◌<◌}
use native.Mathlib.Omega.{arith}
use lib.ListN.{length}
use lib.Dec.{ltb}
use lib.IntN.{ℤ}
use borrow.Author.Tests.{lt-ltb, le-ltb, ltb-true, ltb-false}
use Rattle.plane.specs.Rings.{held, narrow}
use Rattle.plane.proofs.RingLaws.{narrow-held}
use Rattle.std.proofs.Common.{Option, Some, None, Result, Ok, Err}
use Rattle.plane.specs.declared.NoArea.{NoArea}
use Rattle.plane.specs.declared.NoArea.TheVariants.{Wide, Missing}
use Rattle.crossing.specs.declared.FaultyPair.{FaultyPair}
use Rattle.crossing.specs.Search.{fault_at, faulty-pair, FirstFault, FirstPair, first_edge, second-edge, searched, verdict_of}
use Rattle.crossing.proofs.SearchLaws.{pair_is, simple-is}

-- what the search has found is the verdict
module _ (ps : List ℤ) (from edges i j : ℕ) (f : FirstFault ps from edges i j) where
  pub searched-none : edges ≤ i → None ≡ searched ps from edges
  unfolding searched
  searched-none l =
      let t : ltb (first_edge ps from edges) edges ≡ false = le-ltb (first_edge ps from edges) edges (omega (arith, f.lowest)) in
      simp t

  pub searched_faulty : i < edges → fault_at i j ≡ searched ps from edges
  unfolding searched
  searched_faulty l =
      let t : ltb (first_edge ps from edges) edges ≡ true = lt-ltb (first_edge ps from edges) edges (omega (arith, f.lowest)) in
      let q : i ≡ first_edge ps from edges = f.lowest in
      let r : j ≡ second-edge ps from edges i = f.then l in
      simp t (cc)

module _ (ps : List ℤ) (from n : ℕ) where
  -- an answer that is no refusal is the search's
  verdict-searched : (v : Option FaultyPair) → verdict_of ps from n ≡ Ok v → searched ps from (n - 1) ≡ v
  unfolding verdict_of
  verdict-searched v q = go (held (length ps) from n) (narrow ps from n) refl refl
    where
      go : (h t : Bool) → held (length ps) from n ≡ h → narrow ps from n ≡ t → searched ps from (n - 1) ≡ v
      go false t e w = let r : ◌≡◌ {A = Result (Option FaultyPair) NoArea} (Err Missing) (Ok v) = simp e at q in let z : ◌≡◌ {A = ℕ} 0 1 = cc in absurd (omega arith)
      go true false e w = let r : ◌≡◌ {A = Result (Option FaultyPair) NoArea} (Err Wide) (Ok v) = simp (e, w) at q in let z : ◌≡◌ {A = ℕ} 0 1 = cc in absurd (omega arith)
      go true true e w = let r : ◌≡◌ {A = Result (Option FaultyPair) NoArea} (Ok (searched ps from (n - 1))) (Ok v) = simp (e, w) at q in cc

  -- every pair before the one that is answered is good, and that one is faulty
  pub verdict-faulty-is : (i j : ℕ) → verdict_of ps from n ≡ Ok (fault_at i j) → FirstPair ps from (n - 1) i j
  verdict-faulty-is i j q = pair_is ps from (n - 1) i j (verdict-searched (fault_at i j) q)

  -- no pair of a ring that is called simple is faulty
  pub verdict-simple-is : verdict_of ps from n ≡ Ok None → (k l : ℕ) → k ≤ l → l < n - 1 → faulty-pair ps from (n - 1) k l ≡ false
  verdict-simple-is q = simple-is ps from (n - 1) (verdict-searched None q)

  -- a ring that is not refused, and not called faulty, is called simple
  pub verdict-not-faulty : narrow ps from n ≡ true → ((i j : ℕ) → verdict_of ps from n ≡ Ok (fault_at i j) → ⊥) → verdict_of ps from n ≡ Ok None
  unfolding verdict_of searched
  verdict-not-faulty h f = go (ltb i (n - 1)) refl
    where
      i : ℕ
      i = first_edge ps from (n - 1)

      go : (t : Bool) → ltb i (n - 1) ≡ t → verdict_of ps from n ≡ Ok None
      go true e = absurd (f i (second-edge ps from (n - 1) i) (simp (narrow-held ps from n h, h, e)))
      go false e = simp (narrow-held ps from n h, h, e)
