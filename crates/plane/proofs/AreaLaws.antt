-- The laws of areas: bounds of what is computed of near vertices, and the answer's three cases. Assumes nothing.
use mathlib.Core.Path.{◌≡◌, refl, ap}
use mathlib.Core.List.{List}
use mathlib.Core.Bool.{Bool, true, false}
use Prim.Native.Nat.{ℕ, zero, suc, ◌+◌, ◌-◌, ◌*◌, ◌≤◌, ◌<◌}
use native.Mathlib.Numerals.{add-one}
use native.Mathlib.Nat.{le_refl, mul-le-mul}
use native.Mathlib.Omega.{arith}
use lib.ListN.{length}
use lib.IntN.{ℤ, pos, nat_abs, ◌+ℤ◌}
use lib.Signed.{le_z}
use borrow.Author.Tests.{leb-true, le-leb}
use Rattle.laws.specs.Whole.{Within}
use Rattle.laws.proofs.Choice.{and_left, and_right}
use Rattle.laws.proofs.Bounds.{within-mul, within-sub, within-add, within-le, within-lit}
use Rattle.std.proofs.Common.{Result, Ok, Err}
use Rattle.plane.specs.declared.NoArea.TheVariants.{Wide, Missing}
use Rattle.plane.specs.Rings.{most, reach, x-at, y-at, held, near, near_first, all_near, narrow}
use Rattle.plane.specs.Areas.{edge-limit, sum-limit, east, north, edge-term, signed-sum, area_of}
use Rattle.plane.proofs.RingLaws.{held-has, near-each, narrow-held, narrow-near}

module _ (ps : List ℤ) (from : ℕ) where
  -- a near vertex, taken from the first
  pub east-within : (k : ℕ) → near_first ps from k ≡ true → Within reach (east ps from k)
  unfolding near_first near east
  east-within k e = record { within = leb-true (nat_abs (east ps from k)) reach (and_left (near (x-at ps from) (x-at ps (from + k))) (near (y-at ps from) (y-at ps (from + k))) e) }

  pub north-within : (k : ℕ) → near_first ps from k ≡ true → Within reach (north ps from k)
  unfolding near_first near north
  north-within k e = record { within = leb-true (nat_abs (north ps from k)) reach (and_right (near (x-at ps from) (x-at ps (from + k))) (near (y-at ps from) (y-at ps (from + k))) e) }

  pub edge-within : (k : ℕ) → near_first ps from k ≡ true → near_first ps from (k + 1) ≡ true → Within edge-limit (edge-term ps from k)
  unfolding edge-term
  edge-within k e q = within-sub (within-mul (east-within k e) (north-within (k + 1) q)) (within-mul (east-within (k + 1) q) (north-within k e))

  pub sum_more : (k : ℕ) → signed-sum ps from (k + 1) ≡ signed-sum ps from k +ℤ edge-term ps from k
  unfolding signed-sum
  sum_more k = rw add-one

  -- the sum over e edges
  pub sum-within : (n : ℕ) → all_near ps from n ≡ true → (e : ℕ) → e < n → Within (e * edge-limit) (signed-sum ps from e)
  unfolding signed-sum
  sum-within n a zero h = within-lit tt
  sum-within n a (suc e) h =
      within-le (omega arith) (within-add (sum-within n a e (omega arith)) (edge-within e (near-each ps from n a e (omega arith)) (near-each ps from n a (e + 1) (omega arith))))

module _ (ps : List ℤ) (from n : ℕ) where
  pub area-missing : held (length ps) from n ≡ false → Err Missing ≡ area_of ps from n
  unfolding area_of
  area-missing h = simp h

  pub area-wide : held (length ps) from n ≡ true → narrow ps from n ≡ false → Err Wide ≡ area_of ps from n
  unfolding area_of
  area-wide h e = simp (h, e)

  pub area-doubled : {d : ℤ} → held (length ps) from n ≡ true → narrow ps from n ≡ true → d ≡ pos (nat_abs (signed-sum ps from (n - 1))) → Ok d ≡ area_of ps from n
  unfolding area_of
  area-doubled h e q = simp (h, e) (ap Ok q)

  -- what an answer that is an area says
  pub area-is : (d : ℤ) → area_of ps from n ≡ Ok d → (narrow ps from n ≡ true) × (d ≡ pos (nat_abs (signed-sum ps from (n - 1))))
  area-is d q = go (held (length ps) from n) (narrow ps from n) refl refl
    where
      go : (h t : Bool) → held (length ps) from n ≡ h → narrow ps from n ≡ t → (t ≡ true) × (d ≡ pos (nat_abs (signed-sum ps from (n - 1))))
      go false t e f = let r = area-missing e in let z : ◌≡◌ {A = ℕ} 0 1 = cc in absurd (omega arith)
      go true false e f = let r = area-wide e f in let z : ◌≡◌ {A = ℕ} 0 1 = cc in absurd (omega arith)
      go true true e f = let r = area-doubled {d = pos (nat_abs (signed-sum ps from (n - 1)))} e f refl in (refl, cc)

  -- each edge adds at most `edge-limit`, and a ring of n vertices has n - 1; an area is not below 0
  pub area-size : (d : ℤ) → area_of ps from n ≡ Ok d → (1 ≤ n) × Within ((n - 1) * edge-limit) d × (le_z (pos 0) d ≡ true)
  area-size d q =
      let r = area-is d q in
      let h = held-has (length ps) from n (narrow-held ps from n r.0) in
      let w = sum-within ps from n (narrow-near ps from n r.0) (n - 1) (omega arith) in
      (h.0, rw r.1 (record { within = w.within }), rw r.1 (le-leb 0 (nat_abs (signed-sum ps from (n - 1))) (omega arith)))

  -- so it is at most 9,998 times 800,000,000,000,000
  pub area-bound : (d : ℤ) → area_of ps from n ≡ Ok d → Within sum-limit d × (le_z (pos 0) d ≡ true)
  area-bound d q =
      let r = area-size d q in
      let h = held-has (length ps) from n (narrow-held ps from n (area-is d q).0) in
      let f : n - 1 ≤ most - 1 = omega arith in
      (within-le (mul-le-mul f (le_refl edge-limit)) r.1, r.2)
