-- The ways through the loop that sums a ring's area, each with what the code has in hand there. Assumes nothing.
use mathlib.Core.Path.{◌≡◌, refl, sym, ap, ap₂, ◌∙◌, subst}
use mathlib.Core.List.{List}
use mathlib.Core.Bool.{Bool, true, false, not}
use Prim.Native.Nat.{ℕ, ◌+◌, ◌-◌, ◌*◌, ◌≤◌, ◌<◌, ◌^◌}
use native.Mathlib.Nat.{add-zero}
use native.Mathlib.Omega.{arith}
use lib.Dec.{lit<}
use lib.ListN.{length}
use lib.IntN.{ℤ, pos, nat_abs, ◌+ℤ◌, ◌-ℤ◌, ◌*ℤ◌}
use lib.Signed.{mag}
use mir.Syntax.{w64}
use mir.Val.{SFits, to_z, of_z}
use mir.Facts.{to_z-of_z}
use borrow.Author.Tests.{not-true, not-false, le-leb, leb-true}
use Rattle.laws.specs.Whole.{Within}
use Rattle.laws.proofs.Parts.{num, diff, eq-parts}
use Rattle.laws.proofs.Bounds.{within-lit, within-le, within-add, within-fits}
use Rattle.laws.proofs.Bits.{Holds, holds_as, read-within, back}
use Rattle.laws.proofs.Chains.{and-off, and-off-second}
use Rattle.laws.proofs.Choice.{and_both}
use Rattle.std.proofs.Common.{Result, Ok, Err}
use Rattle.plane.specs.declared.NoArea.TheVariants.{Wide}
use Rattle.plane.specs.Rings.{reach, x-at, y-at, held, near, near_first, all_near}
use Rattle.plane.specs.Areas.{edge-limit, sum-limit, east, north, edge-term, signed-sum, area_of}
use Rattle.plane.proofs.RingLaws.{held-has, near_none, near-each, near-more, narrow-is, narrow-far}
use Rattle.plane.proofs.AreaLaws.{east-within, north-within, edge-within, sum_more, area-wide, area-doubled}

-- a signed number in a local
abbrev bits : ℤ → ℤ
bits z = to_z w64 (of_z w64 z)

-- a local's value v is z, which is at most n from 0
pub record Is (n : ℕ) (z v : ℤ) : Type 0 where
  pub near : Within n z
  pub reads : v ≡ z

is-within : {n : ℕ} {z v : ℤ} → Is n z v → Within n v
is-within {n} p = subst (λ (x : ℤ). Within n x) (sym p.reads) p.near

is-held : {n : ℕ} {z : ℤ} {b : ℕ} → Holds n z b → Is n z (to_z w64 b)
is-held p = record { near = p.near; reads = p.reads }

-- vertices 0 to k are near the first; k, taken from the first, and the sum over the edges up to it are in the locals
pub record Summed (ps : List ℤ) (from n : ℕ) (x1 y1 s : ℤ) (k : ℕ) : Type 0 where
  pub within : k + 1 ≤ n
  pub nears : all_near ps from (k + 1) ≡ true
  pub easts : Is reach (east ps from k) x1
  pub norths : Is reach (north ps from k) y1
  pub sums : Is (k * edge-limit) (signed-sum ps from k) s

pub near_within : (a b : ℤ) → near a b ≡ true → Within reach (b -ℤ a)
unfolding near
near_within a b e = record { within = leb-true (nat_abs (b -ℤ a)) reach e }

none : (z : ℤ) → nat_abs (z -ℤ z) ≡ 0
none z = omega (arith, num z, diff z z)

at_first : (z y : ℤ) → y ≡ z → Is reach (y -ℤ z) (pos 0)
at_first z y e = rw (e, eq-parts (z -ℤ z) (pos 0) (omega (arith, num z, diff z z))) (record { near = within-lit tt; reads = refl })

module _ (ps : List ℤ) (from n : ℕ) (h : held (length ps) from n ≡ true) where
  own-near : near_first ps from 0 ≡ true
  unfolding near_first near
  own-near =
      rw (add-zero from) (and_both (near (x-at ps from) (x-at ps from)) (near (y-at ps from) (y-at ps from))
      (le-leb (nat_abs (x-at ps from -ℤ x-at ps from)) reach (omega (arith, none (x-at ps from))))
      (le-leb (nat_abs (y-at ps from -ℤ y-at ps from)) reach (omega (arith, none (y-at ps from)))))

  pub summed-start : Summed ps from n (pos 0) (pos 0) (pos 0) 0
  unfolding signed-sum east north
  summed-start =
      record {
        within = omega (arith, held-has (length ps) from n h);
        nears = near-more ps from 0 (near_none ps from) own-near;
        easts = at_first (x-at ps from) (x-at ps (from + 0)) (ap (x-at ps) (add-zero from));
        norths = at_first (y-at ps from) (y-at ps (from + 0)) (ap (y-at ps) (add-zero from));
        sums = record { near = within-lit tt; reads = refl };
      }

  module _ {x1 y1 s : ℤ} {k : ℕ} (w : Summed ps from n x1 y1 s k) where
    pub summed-small : Within sum-limit s
    summed-small = within-le (omega (arith, w.within, held-has (length ps) from n h)) (is-within w.sums)

    pub summed-end : n ≤ k + 1 → {r : ℤ} → mag r < 2 ^ 63 → r ≡ pos (nat_abs s) → Ok (bits r) ≡ area_of ps from n
    summed-end l {r} m e =
        let q : k + 1 ≡ n = omega (arith, w.within) in
        let p : k ≡ n - 1 = omega arith in
        area-doubled ps from n h (sym (narrow-is ps from n h (rw q at w.nears))) (back r m ∙ e ∙ ap (λ (z : ℤ). pos (nat_abs z)) (w.sums.reads ∙ ap (signed-sum ps from) p))

    -- the next vertex, its coordinates a and b, the first's x and y
    module _ (l : k + 1 < n) {x a : ℤ} (fx : mag x < 2 ^ 63) (fa : mag a < 2 ^ 63) (ex : x ≡ x-at ps from) (ea : a ≡ x-at ps (from + (k + 1)))
        {t : Bool} (p : t ≡ near (bits x) (bits a)) where
      in-x : t ≡ near (x-at ps from) (x-at ps (from + (k + 1)))
      in-x = rw (back x fx, back a fa, ex, ea) at p

      pub summed-far-x : not t ≡ true → Err Wide ≡ area_of ps from n
      unfolding near_first
      summed-far-x e =
          area-wide ps from n h (sym (narrow-far ps from n (k + 1) l
          (sym (and-off (near (x-at ps from) (x-at ps (from + (k + 1)))) (near (y-at ps from) (y-at ps (from + (k + 1)))) (sym in-x ∙ not-true t e)))))

      module _ {y b : ℤ} (fy : mag y < 2 ^ 63) (fb : mag b < 2 ^ 63) (ey : y ≡ y-at ps from) (eb : b ≡ y-at ps (from + (k + 1)))
          {u : Bool} (q : u ≡ near (bits y) (bits b)) where
        in-y : u ≡ near (y-at ps from) (y-at ps (from + (k + 1)))
        in-y = rw (back y fy, back b fb, ey, eb) at q

        pub summed-far-y : not u ≡ true → Err Wide ≡ area_of ps from n
        unfolding near_first
        summed-far-y e =
            area-wide ps from n h (sym (narrow-far ps from n (k + 1) l
            (sym (and-off-second (near (x-at ps from) (x-at ps (from + (k + 1)))) (near (y-at ps from) (y-at ps (from + (k + 1)))) (sym in-y ∙ not-true u e)))))

        module _ (e : not t ≡ false) (f : not u ≡ false) where
          next-near : near_first ps from (k + 1) ≡ true
          unfolding near_first
          next-near = and_both (near (x-at ps from) (x-at ps (from + (k + 1)))) (near (y-at ps from) (y-at ps (from + (k + 1)))) (sym in-x ∙ not-false t e) (sym in-y ∙ not-false u f)

          module _ {i j : ℤ} (d : i ≡ bits a -ℤ bits x) (g : j ≡ bits b -ℤ bits y) where
            next-east : Holds reach (east ps from (k + 1)) (of_z w64 i)
            unfolding east
            next-east = holds_as (rw (back a fa, back x fx, ex, ea) at d) (lit< tt) (east-within ps from (k + 1) next-near)

            next-north : Holds reach (north ps from (k + 1)) (of_z w64 j)
            unfolding north
            next-north = holds_as (rw (back b fb, back y fy, ey, eb) at g) (lit< tt) (north-within ps from (k + 1) next-near)

            -- the numbers that the edge is asked of
            pub summed-edge : Within reach x1 × Within reach y1 × Within reach (bits i) × Within reach (bits j)
            summed-edge = (is-within w.easts, is-within w.norths, read-within next-east, read-within next-north)

            module _ {z : ℤ} (r : z ≡ x1 *ℤ bits j -ℤ bits i *ℤ y1) where
              term : Holds edge-limit (edge-term ps from k) (of_z w64 z)
              unfolding edge-term
              term =
                  holds_as (rw (w.easts.reads, next-north.reads, next-east.reads, w.norths.reads) at r) (lit< tt)
                  (edge-within ps from k (near-each ps from (k + 1) w.nears k (omega arith)) next-near)

              small : k * edge-limit + edge-limit < 2 ^ 63
              small = omega (arith, w.within, held-has (length ps) from n h)

              pub summed-add : SFits w64 (s +ℤ bits z)
              summed-add = rw (w.sums.reads, term.reads) (within-fits small (within-add w.sums.near term.near))

              pub summed-on : Summed ps from n (bits i) (bits j) (bits (s +ℤ bits z)) (k + 1)
              summed-on =
                  record {
                    within = omega arith;
                    nears = near-more ps from (k + 1) w.nears next-near;
                    easts = is-held next-east;
                    norths = is-held next-north;
                    sums =
                        rw (sum_more ps from k)
                        (record { near = within-le (omega arith) (within-add w.sums.near term.near); reads = to_z-of_z summed-add ∙ ap₂ (λ (a b : ℤ). a +ℤ b) w.sums.reads term.reads });
                  }
