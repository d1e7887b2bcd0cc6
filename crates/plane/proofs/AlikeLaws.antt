-- Two rings whose vertices lie alike, each taken from its ring's first, have the same area: `area-alike`. Assumes nothing.
use mathlib.Core.Path.{◌≡◌, refl, ap₂}
use mathlib.Core.List.{List}
use mathlib.Core.Bool.{Bool, true, false, ◌&&◌}
use Prim.Native.Nat.{ℕ, zero, suc, ◌+◌, ◌-◌, ◌≤◌, ◌<◌}
use native.Mathlib.Nat.{add-zero}
use native.Mathlib.Omega.{arith}
use lib.Dec.{leb}
use lib.ListN.{length}
use lib.IntN.{ℤ, nat_abs, ◌-ℤ◌}
use Rattle.plane.specs.Rings.{reach, x-at, y-at, held, near, near_first, all_near, narrow}
use Rattle.plane.specs.Areas.{east, north, edge-term, signed-sum, area_of}
use Rattle.plane.proofs.RingLaws.{held-has}

-- nearness is one of the differences alone
near_by : (ps : List ℤ) (from k : ℕ) → near_first ps from k ≡ (leb (nat_abs (east ps from k)) reach && leb (nat_abs (north ps from k)) reach)
unfolding near_first near east north
near_by ps from k = refl

-- the ring from p on in ps, and that from q on in qs
module _ (ps qs : List ℤ) (p q : ℕ) where
  abbrev Alike : ℕ → Type 0
  Alike k = (east ps p k ≡ east qs q k) × (north ps p k ≡ north qs q k)

  near-alike : (k : ℕ) → Alike k → near_first ps p k ≡ near_first qs q k
  near-alike k a = rw (near_by ps p k, near_by qs q k, a.0, a.1)

  pub all-near-alike : (n : ℕ) → ((k : ℕ) → k < n → Alike k) → all_near ps p n ≡ all_near qs q n
  unfolding all_near
  all-near-alike zero a = refl
  all-near-alike (suc n) a = rw (all-near-alike n (λ k h. a k (omega arith)), near-alike n (a n (omega arith)))

  sum_alike : (n : ℕ) → ((k : ℕ) → k < n → Alike k) → (e : ℕ) → e + 1 ≤ n → signed-sum ps p e ≡ signed-sum qs q e
  unfolding signed-sum edge-term
  sum_alike n a zero h = refl
  sum_alike n a (suc e) h =
      let x = a e (omega arith) in
      let y = a (e + 1) (omega arith) in
      rw (sum_alike n a e (omega arith), x.0, x.1, y.0, y.1)

  -- both are held or neither is, and where they are, their vertices lie alike
  pub area-alike : (n : ℕ) → held (length ps) p n ≡ held (length qs) q n → (held (length qs) q n ≡ true → (k : ℕ) → k < n → Alike k) → area_of ps p n ≡ area_of qs q n
  unfolding area_of narrow
  area-alike n h a = go (held (length qs) q n) refl
    where
      go : (t : Bool) → held (length qs) q n ≡ t → area_of ps p n ≡ area_of qs q n
      go true e =
          let f = held-has (length qs) q n e in
          rw (h, e, all-near-alike n (a e), sum_alike n (a e) (n - 1) (omega arith))
      go false e = rw (h, e)

  -- rings with the same vertices lie alike
  pub same_alike : (n : ℕ) → ((k : ℕ) → k < n → (x-at ps (p + k) ≡ x-at qs (q + k)) × (y-at ps (p + k) ≡ y-at qs (q + k))) → (k : ℕ) → k < n → Alike k
  unfolding east north
  same_alike n v k h =
      let a = v k h in
      let b : (x-at ps p ≡ x-at qs q) × (y-at ps p ≡ y-at qs q) = rw (add-zero p, add-zero q) at (v 0 (omega arith)) in
      (ap₂ (λ (x y : ℤ). x -ℤ y) a.0 b.0, ap₂ (λ (x y : ℤ). x -ℤ y) a.1 b.1)
