-- The laws of `least`, and the first faulty pair by them. Assumes nothing.
use mathlib.Core.Path.{◌≡◌, refl, sym, ap, subst, subst₂}
use mathlib.Core.Logic.{⊎_elim}
use mathlib.Core.List.{List}
use mathlib.Core.Bool.{Bool, true, false}
use Prim.Native.Nat.{ℕ, zero, suc, ◌+◌, ◌-◌, ◌≤◌, ◌<◌}
use native.Mathlib.Nat.{le_refl, eq-or-lt_of_le}
use native.Mathlib.Omega.{arith}
use lib.Dec.{ltb}
use lib.IntN.{ℤ}
use borrow.Author.Tests.{lt-ltb, le-ltb, ltb-true, ltb-false}
use Rattle.laws.proofs.Choice.{cond-elim}
use Rattle.std.proofs.Common.{Option, Some, None, Result, Ok, Err}
use Rattle.plane.specs.declared.NoArea.{NoArea}
use Rattle.plane.specs.declared.NoArea.TheVariants.{Wide, Missing}
use Rattle.crossing.specs.declared.FaultyPair.{FaultyPair}
use Rattle.crossing.specs.Search.{fault_at, faulty-pair, least, second-edge, first_edge, searched, FirstFault, FirstPair}

module _ (p : ℕ → Bool) where
  pub least-none : (a f : ℕ) → ((k : ℕ) → a ≤ k → k < a + f → p k ≡ false) → least p a f ≡ a + f
  unfolding least
  least-none a zero h = omega arith
  least-none a (suc f) h =
      let e : p a ≡ false = h a (omega arith) (omega arith) in
      let r : least p (suc a) f ≡ suc a + f = least-none (suc a) f (λ k l m. h k (omega arith) (omega arith)) in
      simp (e, r) (omega arith)

  pub least-is : (a f r : ℕ) → a ≤ r → r < a + f → ((k : ℕ) → a ≤ k → k < r → p k ≡ false) → p r ≡ true → least p a f ≡ r
  unfolding least
  least-is a zero r l m h t = let e : ⊥ = omega arith in absurd e
  least-is a (suc f) r l m h t =
      ⊎_elim (λ (q : a ≡ r). let e : p a ≡ true = subst (λ (k : ℕ). p k ≡ true) (sym q) t in simp e q)
      (λ (q : a < r).
      let e : p a ≡ false = h a (le_refl a) q in
      let u : least p (suc a) f ≡ r = least-is (suc a) f r q (omega arith) (λ k x y. h k (omega arith) y) t in
      simp (e, u))
      (eq-or-lt_of_le l)

  pub least-from : (a f : ℕ) → a ≤ least p a f
  unfolding least
  least-from a zero = le_refl a
  least-from a (suc f) =
      cond-elim (λ (r : ℕ). a ≤ r) (p a) a (least p (suc a) f) (λ e. le_refl a) (λ e. let h = least-from (suc a) f in omega arith)

  pub least-before : (a f k : ℕ) → a ≤ k → k < least p a f → p k ≡ false
  unfolding least
  least-before a zero k l m = let z : ⊥ = omega arith in absurd z
  least-before a (suc f) k l m =
      cond-elim (λ (r : ℕ). k < r → p k ≡ false) (p a) a (least p (suc a) f)
      (λ e m'. let z : ⊥ = omega arith in absurd z)
      (λ e m'.
      ⊎_elim (λ (q : a ≡ k). subst (λ (x : ℕ). p x ≡ false) q e) (λ (q : a < k). least-before (suc a) f k q m') (eq-or-lt_of_le l))
      m

  pub least-holds : (a f : ℕ) → least p a f < a + f → p (least p a f) ≡ true
  unfolding least
  least-holds a zero m = let z : ⊥ = omega arith in absurd z
  least-holds a (suc f) m =
      cond-elim (λ (r : ℕ). r < a + suc f → p r ≡ true) (p a) a (least p (suc a) f) (λ e m'. e) (λ e m'. least-holds (suc a) f (omega arith)) m

module _ (ps : List ℤ) (from edges : ℕ) where
  -- row i has no faulty pair
  pub row-none : (i : ℕ) → i ≤ edges → ((b : ℕ) → i ≤ b → b < edges → faulty-pair ps from edges i b ≡ false) → ltb (second-edge ps from edges i) edges ≡ false
  unfolding second-edge
  row-none i l h =
      let e : least (faulty-pair ps from edges i) i (edges - i) ≡ i + (edges - i) = least-none (faulty-pair ps from edges i) i (edges - i) (λ k a b. h k a (omega arith)) in
      le-ltb (least (faulty-pair ps from edges i) i (edges - i)) edges (omega arith)

  pub pair_found : (i j : ℕ) → i ≤ j → j < edges → ((a : ℕ) → a < i → ltb (second-edge ps from edges a) edges ≡ false) → ((b : ℕ) → i ≤ b → b < j → faulty-pair ps from edges i b ≡ false) → faulty-pair ps from edges i j ≡ true → FirstFault ps from edges i j
  unfolding first_edge second-edge
  pair_found i j l m h k t =
      let e : second-edge ps from edges i ≡ j = least-is (faulty-pair ps from edges i) i (edges - i) j l (omega arith) k t in
      record {
        lowest = sym (least-is (λ a. ltb (second-edge ps from edges a) edges) 0 edges i (omega arith) (omega arith) (λ a x y. h a y) (lt-ltb (second-edge ps from edges i) edges (omega arith)));
        then = λ x. sym e;
      }

  pub none_found : (i j : ℕ) → i ≡ edges → ((a : ℕ) → a < i → ltb (second-edge ps from edges a) edges ≡ false) → FirstFault ps from edges i j
  unfolding first_edge second-edge
  none_found i j q h =
      let e : first_edge ps from edges ≡ 0 + edges = least-none (λ a. ltb (second-edge ps from edges a) edges) 0 edges (λ a x y. h a (omega arith)) in
      record {
        lowest = omega arith;
        then = λ x. let z : ⊥ = omega arith in absurd z;
      }

  -- a row without a faulty pair
  row-good : (k : ℕ) → ltb (second-edge ps from edges k) edges ≡ false → (l : ℕ) → k ≤ l → l < edges → faulty-pair ps from edges k l ≡ false
  unfolding second-edge
  row-good k e l x y =
      let h = ltb-false (second-edge ps from edges k) edges e in
      least-before (faulty-pair ps from edges k) k (edges - k) l x (omega arith)

  found : ltb (first_edge ps from edges) edges ≡ true → FirstPair ps from edges (first_edge ps from edges) (second-edge ps from edges (first_edge ps from edges))
  unfolding first_edge second-edge
  found e =
      let f = first_edge ps from edges in
      let row : ℕ → Bool = (λ k. ltb (second-edge ps from edges k) edges) in
      let a = ltb-true f edges e in
      let t : ltb (second-edge ps from edges f) edges ≡ true = least-holds row 0 edges (omega arith) in
      let b = ltb-true (second-edge ps from edges f) edges t in
      record {
        ordered = least-from (faulty-pair ps from edges f) f (edges - f);
        inside = b;
        faulty = least-holds (faulty-pair ps from edges f) f (edges - f) (omega arith);
        before = λ k l x y.
            ⊎_elim (λ (m : k < f). row-good k (least-before row 0 edges k (omega arith) m) l x y)
            (λ w.
            subst (λ (u : ℕ). faulty-pair ps from edges u l ≡ false) (sym w.0)
            (least-before (faulty-pair ps from edges f) f (edges - f) l (omega (arith, w.0)) w.1));
      }

  -- the pair that is answered
  pub pair_is : (i j : ℕ) → searched ps from edges ≡ fault_at i j → FirstPair ps from edges i j
  unfolding searched
  pair_is i j q = go (ltb (first_edge ps from edges) edges) refl
    where
      go : (t : Bool) → ltb (first_edge ps from edges) edges ≡ t → FirstPair ps from edges i j
      go true e =
          let r : searched ps from edges ≡ fault_at (first_edge ps from edges) (second-edge ps from edges (first_edge ps from edges)) = rw e refl in
          let w : ◌≡◌ {A = FaultyPair} (record { first = first_edge ps from edges; second = second-edge ps from edges (first_edge ps from edges) }) (record { first = i; second = j }) = cc in
          let x : first_edge ps from edges ≡ i = ap (λ (p : FaultyPair). p.first) w in
          let y : second-edge ps from edges (first_edge ps from edges) ≡ j = ap (λ (p : FaultyPair). p.second) w in
          subst₂ (FirstPair ps from edges) x y (found e)
      go false e =
          let r : searched ps from edges ≡ None = rw e refl in
          let z : ◌≡◌ {A = ℕ} 0 1 = cc in
          absurd (omega arith)

  -- a ring that is called simple has no faulty pair
  pub simple-is : searched ps from edges ≡ None → (k l : ℕ) → k ≤ l → l < edges → faulty-pair ps from edges k l ≡ false
  unfolding searched first_edge
  simple-is q k l x y = go (ltb (first_edge ps from edges) edges) refl
    where
      go : (t : Bool) → ltb (first_edge ps from edges) edges ≡ t → faulty-pair ps from edges k l ≡ false
      go true e =
          let r : searched ps from edges ≡ fault_at (first_edge ps from edges) (second-edge ps from edges (first_edge ps from edges)) = rw e refl in
          let z : ◌≡◌ {A = ℕ} 0 1 = cc in
          absurd (omega arith)
      go false e =
          let h = ltb-false (first_edge ps from edges) edges e in
          row-good k (least-before (λ a. ltb (second-edge ps from edges a) edges) 0 edges k (omega arith) (omega arith)) l x y
