-- The verdict on a ring depends on its vertices alone, not on the table in which they stand: document 01, "Ring check". Assumes nothing.
use mathlib.Core.Path.{◌≡◌, refl, ap}
use mathlib.Core.List.{List}
use mathlib.Core.Bool.{Bool, true, false, cond, ◌&&◌}
use Prim.Native.Nat.{ℕ, zero, suc, ◌+◌, ◌-◌, ◌≤◌, ◌<◌}
use native.Mathlib.Omega.{arith}
use lib.Dec.{ltb}
use lib.ListN.{length}
use lib.IntN.{ℤ}
use borrow.Author.Tests.{ltb-true}
use Rattle.plane.specs.Rings.{x-at, y-at, held, all_near, narrow}
use Rattle.plane.proofs.RingLaws.{held-has}
use Rattle.plane.proofs.AlikeLaws.{all-near-alike, same_alike}
use Rattle.std.proofs.Common.{Option, Some, None, Result, Ok, Err}
use Rattle.plane.specs.declared.NoArea.{NoArea}
use Rattle.plane.specs.declared.NoArea.TheVariants.{Wide, Missing}
use Rattle.crossing.specs.declared.FaultyPair.{FaultyPair}
use Rattle.crossing.specs.Edges.{point_at}
use Rattle.crossing.specs.Search.{fault_at, faulty-pair, least, second-edge, first_edge, searched, verdict_of}

least-alike : (f g : ℕ → Bool) (a n : ℕ) → ((i : ℕ) → a ≤ i → i < a + n → f i ≡ g i) → least f a n ≡ least g a n
unfolding least
least-alike f g a zero h = refl
least-alike f g a (suc n) h = rw (h a (omega arith) (omega arith), least-alike f g (suc a) n (λ i l m. h i (omega arith) (omega arith)))

-- two rings of e edges, the one from p on in ps, the other from q on in qs, whose pairs of edges are faulty alike
module _ (ps qs : List ℤ) (p q e : ℕ) (pairs : (i j : ℕ) → i < e → j < e → faulty-pair ps p e i j ≡ faulty-pair qs q e i j) where
  second_alike : (i : ℕ) → i < e → second-edge ps p e i ≡ second-edge qs q e i
  unfolding second-edge
  second_alike i h = least-alike (faulty-pair ps p e i) (faulty-pair qs q e i) i (e - i) (λ j a b. pairs i j h (omega arith))

  first_alike : first_edge ps p e ≡ first_edge qs q e
  unfolding first_edge
  first_alike =
      least-alike (λ i. ltb (second-edge ps p e i) e) (λ i. ltb (second-edge qs q e i) e) 0 e (λ i a b. ap (λ (k : ℕ). ltb k e) (second_alike i (omega arith)))

  searched-alike : searched ps p e ≡ searched qs q e
  unfolding searched
  searched-alike = rw first_alike (go (ltb (first_edge qs q e) e) refl)
    where
      go : (b : Bool) → ltb (first_edge qs q e) e ≡ b
          → cond b (fault_at (first_edge qs q e) (second-edge ps p e (first_edge qs q e))) None ≡ cond b (fault_at (first_edge qs q e) (second-edge qs q e (first_edge qs q e))) None
      go true h = ap (fault_at (first_edge qs q e)) (second_alike (first_edge qs q e) (ltb-true (first_edge qs q e) e h))
      go false h = refl

-- the verdicts on them: both are held or neither is, and where they are, they are near and faulty alike
pub verdict-by : (ps qs : List ℤ) (p q n : ℕ) → held (length ps) p n ≡ held (length qs) q n
    → (held (length qs) q n ≡ true → (all_near ps p n ≡ all_near qs q n) × ((i j : ℕ) → i < n - 1 → j < n - 1 → faulty-pair ps p (n - 1) i j ≡ faulty-pair qs q (n - 1) i j))
    → verdict_of ps p n ≡ verdict_of qs q n
unfolding verdict_of narrow
verdict-by ps qs p q n h a = rw h (go (held (length qs) q n) refl)
  where
    go : (b : Bool) → held (length qs) q n ≡ b
        → cond b (cond (b && all_near ps p n) (Ok (searched ps p (n - 1))) (Err Wide)) (Err Missing) ≡ cond b (cond (b && all_near qs q n) (Ok (searched qs q (n - 1))) (Err Wide)) (Err Missing)
    go true e = let x = a e in rw (x.0, searched-alike ps qs p q (n - 1) x.1)
    go false e = refl

-- the ring of n vertices from p on in ps, and that from q on in qs
module _ (ps qs : List ℤ) (p q n : ℕ) (same : (k : ℕ) → k < n → (x-at ps (p + k) ≡ x-at qs (q + k)) × (y-at ps (p + k) ≡ y-at qs (q + k))) where
  point-alike : (k : ℕ) → k < n → point_at ps (p + k) ≡ point_at qs (q + k)
  point-alike k h = let a = same k h in rw (a.0, a.1)

  faulty-alike : (e : ℕ) → e + 1 ≤ n → (i j : ℕ) → i < e → j < e → faulty-pair ps p e i j ≡ faulty-pair qs q e i j
  unfolding faulty-pair
  faulty-alike e m i j h k =
      rw (point-alike i (omega arith), point-alike (i + 1) (omega arith), point-alike j (omega arith), point-alike (j + 1) (omega arith))

  -- both are held or neither is
  pub verdict-alike : held (length ps) p n ≡ held (length qs) q n → verdict_of ps p n ≡ verdict_of qs q n
  verdict-alike h =
      verdict-by ps qs p q n h (λ e. let f = held-has (length qs) q n e in
      (all-near-alike ps qs p q n (same_alike ps qs p q n same), faulty-alike (n - 1) (omega (arith, f.0))))
