-- The ways through the functions of crate `area`, each with what the code has in hand there. Assumes nothing.
use mathlib.Core.Path.{◌≡◌, refl, sym, ◌∙◌, ap, subst}
use mathlib.Core.List.{List, [], ◌∷◌}
use mathlib.Core.Bool.{Bool, true, false, cond, ◌&&◌}
use Prim.Native.Nat.{ℕ, zero, suc, ◌+◌, ◌-◌, ◌*◌, ◌^◌, ◌≤◌, ◌<◌}
use native.Mathlib.Omega.{arith}
use lib.ListN.{length, get_or, take, drop}
use lib.IntN.{ℤ, pos, ◌+ℤ◌, ◌-ℤ◌}
use lib.Dec.{lit<, leb, ltb}
use lib.Signed.{mag}
use mir.Syntax.{w64}
use mir.Val.{SFits, to_z, of_z}
use borrow.Author.Tests.{le-leb, lt-leb, lt-ltb, le-ltb, ltb-true}
use Rattle.std.proofs.Common.{Option, Some, None, Result, Ok, Err}
use Rattle.laws.specs.Lists.{tail}
use Rattle.laws.specs.Whole.{Within}
use Rattle.laws.proofs.ListLaws.{left, left-none, rest-is}
use Rattle.laws.proofs.Choice.{and_left}
use Rattle.laws.proofs.Parts.{num, ints, eq-parts}
use Rattle.laws.proofs.Parts as Parts
use Rattle.laws.proofs.Bounds.{within-le, within-lit}
use Rattle.laws.proofs.Bits.{Holds, holds-bits, holds-within, ask-add, holds-add, read-within, back, diff-bits, ask-diff, holds-diff}
use Rattle.plane.specs.declared.NoArea.{NoArea}
use Rattle.plane.specs.declared.NoArea.TheVariants.{Missing}
use Rattle.plane.specs.Rings.{most}
use Rattle.plane.specs.Areas.{edge-limit, area_of}
use Rattle.plane.proofs.AreaLaws.{area-size}
use Rattle.made.specs.Made.{sum, ring_sizes}
use Rattle.made.proofs.TableWays.{sum-on}
use Rattle.area.specs.declared.Areas.{Areas}
use Rattle.area.specs.declared.RingPlace.{RingPlace}
use Rattle.area.specs.BorderRings.{areas_together, total_from, both_areas, of_rings, areas_of, net_of, ring_place, ring_of}
use Rattle.area.proofs.AreaLaws.{Fair, areas-room, areas-fair}

-- ---- the areas of rings one behind the other

add_none : (a : ℤ) → a +ℤ pos 0 ≡ a
add_none a = eq-parts (a +ℤ pos 0) a (omega (arith, num a, Parts.sum a (pos 0)))

add-both : (a b c : ℤ) → a +ℤ (b +ℤ c) ≡ (a +ℤ b) +ℤ c
add-both a b c = eq-parts (a +ℤ (b +ℤ c)) ((a +ℤ b) +ℤ c) (omega (arith, num a, num b, num c, Parts.sum a b, Parts.sum b c, Parts.sum a (b +ℤ c), Parts.sum (a +ℤ b) c))

plus-plus : (a b : ℤ) (x : Result ℤ NoArea) → areas_together (Ok a) (areas_together (Ok b) x) ≡ areas_together (Ok (a +ℤ b)) x
plus-plus a b (Ok c) = ap Ok (add-both a b c)
plus-plus a b (Err e) = refl

abbrev sum-bits : ℕ → ℤ → ℕ
sum-bits total d = of_z w64 (to_z w64 total +ℤ to_z w64 (of_z w64 d))

-- the ring of n vertices at `at`, whose area is d, is passed
pub record Passed (ps : List ℤ) (from : ℕ) (sizes : List ℕ) (total at i n : ℕ) (d : ℤ) : Type 0 where
  pub fits : SFits w64 (to_z w64 total +ℤ to_z w64 (of_z w64 d))
  pub on : total_from ps from sizes ≡ areas_together (Ok (to_z w64 (sum-bits total d))) (total_from ps (at + n) (drop (i + 1) sizes))
  pub left : at + n + sum (drop (i + 1) sizes) ≤ most
  pub bound : Within ((at + n) * edge-limit) (to_z w64 (sum-bits total d))

pub total-none : (from : ℕ) → Within (from * edge-limit) (pos 0)
total-none from = within-le (omega arith) (within-lit {n = 0} tt)

module _ (ps : List ℤ) (from : ℕ) (sizes : List ℕ) where
  pub total-start : total_from ps from sizes ≡ areas_together (Ok (pos 0)) (total_from ps from sizes)
  total-start = go (total_from ps from sizes)
    where
      go : (x : Result ℤ NoArea) → x ≡ areas_together (Ok (pos 0)) x
      go (Ok a) = ap Ok (eq-parts a (pos 0 +ℤ a) (omega (arith, num a, Parts.sum (pos 0) a)))
      go (Err e) = refl

  module _ (total at i : ℕ) (q : total_from ps from sizes ≡ areas_together (Ok (to_z w64 total)) (total_from ps at (drop i sizes))) where
    pub total-over : length sizes ≤ i → Ok (to_z w64 total) ≡ total_from ps from sizes
    unfolding total_from
    total-over h = sym (q ∙ rw (left-none sizes i h) (ap Ok (add_none (to_z w64 total))))

    module _ (h : i < length sizes) (n : ℕ) (e : n ≡ get_or sizes i 0) (r : Result ℤ NoArea) (a : r ≡ area_of ps at n) where
      total-next : total_from ps from sizes ≡ areas_together (Ok (to_z w64 total)) (areas_together r (total_from ps (at + n) (drop (i + 1) sizes)))
      unfolding total_from
      total-next = q ∙ rw (left sizes i 0 h, ← e, ← a)

      pub total-refused : (x : NoArea) → r ≡ Err x → Err x ≡ total_from ps from sizes
      total-refused x m = sym (total-next ∙ rw m)

      module _ (d : ℤ) (m : r ≡ Ok d) (k : at + sum (drop i sizes) ≤ most) (w : Within (at * edge-limit) (to_z w64 total)) where
        total_left : at + n + sum (drop (i + 1) sizes) ≤ most
        total_left = omega (arith, sum-on sizes i h)

        below : at * edge-limit + n * edge-limit < 2 ^ 63
        below = omega (arith, total_left)

        area-holds : Holds (n * edge-limit) d (of_z w64 d)
        area-holds = holds-within (omega (arith, total_left)) (within-le (omega arith) (area-size ps at n d (sym a ∙ m)).1)

        total-fits : SFits w64 (to_z w64 total +ℤ to_z w64 (of_z w64 d))
        total-fits = ask-add {x = total} (holds-bits w) area-holds below

        both_hold : Holds (at * edge-limit + n * edge-limit) (to_z w64 total +ℤ d) (sum-bits total d)
        both_hold = holds-add {x = total} (holds-bits w) area-holds below

        total-within : Within ((at + n) * edge-limit) (to_z w64 (sum-bits total d))
        total-within = within-le (omega arith) (read-within both_hold)

        total-step : total_from ps from sizes ≡ areas_together (Ok (to_z w64 (sum-bits total d))) (total_from ps (at + n) (drop (i + 1) sizes))
        total-step = total-next ∙ rw (both_hold.reads, m) (plus-plus (to_z w64 total) d (total_from ps (at + n) (drop (i + 1) sizes)))

        pub total-passed : Passed ps from sizes total at i n d
        total-passed = record { fits = total-fits; on = total-step; left = total_left; bound = total-within }

pub ruleset total-ways = (total-over, total-refused)

-- ---- outer ring and islands, and the net

module _ (v : ℕ) (islands : List ℕ) (ps : List ℤ) where
  module _ (h : v ≤ most) (n : ℕ) (e : n ≡ v - sum islands) (r : Result ℤ NoArea) (a : r ≡ area_of ps 0 n) where
    module _ (outer : ℤ) (m : r ≡ Ok outer) where
      pub inner_room : n + sum islands ≤ most
      inner_room = rw e (areas-room v islands ps h outer (rw (← e) (sym a ∙ m)))

  module _ (r : Result Areas NoArea) (a : r ≡ areas_of v islands ps) where
    module _ (outer inner : ℤ) (m : r ≡ Ok (both_areas outer inner)) (f : mag outer < 2 ^ 63) (g : mag inner < 2 ^ 63) where
      net-within : Within (most * edge-limit) (outer -ℤ inner)
      net-within =
          let w = subst Fair (sym a ∙ m) (areas-fair v islands ps) in
          let p = w.1 in
          let q = w.3 in
          record { within = omega (arith, ints, w.0.within, w.2.within, num outer, num inner, Parts.diff outer inner) }

      pub net-fits : SFits w64 (to_z w64 (of_z w64 outer) -ℤ to_z w64 (of_z w64 inner))
      net-fits = ask-diff outer inner f g (lit< tt) net-within

      pub net-is : Ok (to_z w64 (diff-bits outer inner)) ≡ net_of (areas_of v islands ps)
      net-is = rw (← a, m, (holds-diff outer inner f g (lit< tt) net-within).reads)

-- ---- the places of the rings

pub sum-parts : (k : ℕ) (s : List ℕ) → sum (take k s) + sum (drop k s) ≡ sum s
unfolding sum
sum-parts zero s = omega arith
sum-parts (suc k) [] = refl
sum-parts (suc k) (n ∷ s) = omega (arith, sum-parts k s)

island-at : (v : ℕ) (islands : List ℕ) → sum islands < v → (i : ℕ) → i < length islands → (from count : ℕ) → from ≡ v - sum (drop i islands) → count ≡ get_or islands i 0
    → Some (ring_place from count) ≡ ring_of v islands (suc i)
unfolding ring_of ring_sizes sum
island-at v islands f i h from count p q =
    let e : from ≡ v - sum islands + sum (take i islands) = omega (arith, sum-parts i islands) in
    rw (lt-ltb (sum islands) v f, le-leb (suc i) (length islands) h, e, q)

module _ (v : ℕ) (islands : List ℕ) (ring outer : ℕ) (e : outer ≡ v - sum islands) where
  pub ring-none : outer ≡ 0 → None ≡ ring_of v islands ring
  unfolding ring_of
  ring-none z = rw (le-ltb (sum islands) v (omega arith))

  module _ (f : outer ≡ 0 → ⊥) where
    pub ring-outer : ring ≡ 0 → Some (ring_place 0 outer) ≡ ring_of v islands ring
    unfolding ring_of ring_sizes sum
    ring-outer z = rw (lt-ltb (sum islands) v (omega arith), z, le-leb 0 (length islands) (omega arith), e)

    pub ring-past : length islands < ring → None ≡ ring_of v islands ring
    unfolding ring_of
    ring-past h = rw (lt-ltb (sum islands) v (omega arith), lt-leb ring (length islands) h)

    pub ring-island : (ring ≡ 0 → ⊥) → ring ≤ length islands → (from count : ℕ) → from ≡ v - sum (tail islands (ring - 1)) → count ≡ get_or islands (ring - 1) 0
        → Some (ring_place from count) ≡ ring_of v islands ring
    ring-island g h from count p q =
        let z : suc (ring - 1) ≡ ring = omega arith in
        subst (λ (k : ℕ). Some (ring_place from count) ≡ ring_of v islands k) z (island-at v islands (omega arith) (ring - 1) (omega arith) from count (rw (rest-is islands (ring - 1)) at p) q)

pub ruleset ring-ways = (ring-none, ring-outer, ring-past, ring-island)

sizes-all : (v : ℕ) (islands : List ℕ) → sum islands < v → sum (ring_sizes v islands) ≡ v
unfolding ring_sizes sum
sizes-all v islands h = omega arith

-- a ring begins within the border
pub ring-within : (v : ℕ) (islands : List ℕ) (ring : ℕ) (p : RingPlace) → ring_of v islands ring ≡ Some p → p.from ≤ v
unfolding ring_of
ring-within v islands ring p f = go (ltb (sum islands) v && leb ring (length islands)) refl f
  where
    go : (b : Bool) → (ltb (sum islands) v && leb ring (length islands)) ≡ b → cond b (Some (ring_place (sum (take ring (ring_sizes v islands))) (get_or (ring_sizes v islands) ring 0))) None ≡ Some p → p.from ≤ v
    go true g q =
        let h = ltb-true (sum islands) v (and_left (ltb (sum islands) v) (leb ring (length islands)) g) in
        let w : ◌≡◌ {A = RingPlace} (ring_place (sum (take ring (ring_sizes v islands))) (get_or (ring_sizes v islands) ring 0)) p = cc in
        let z : sum (take ring (ring_sizes v islands)) ≡ p.from = ap (λ (x : RingPlace). x.from) w in
        omega (arith, z, sizes-all v islands h, sum-parts ring (ring_sizes v islands))
    go false g q = absurd (let z : ◌≡◌ {A = ℕ} 0 1 = cc in omega arith)
