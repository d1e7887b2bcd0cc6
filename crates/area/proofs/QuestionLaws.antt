-- A question about the areas of a well made border is answered: 19 is for a row that is no border, and a ring past the islands. Assumes nothing.
use mathlib.Core.Path.{◌≡◌, refl}
use mathlib.Core.List.{List, [], ◌∷◌}
use mathlib.Core.Bool.{true}
use Prim.Native.Nat.{ℕ, zero, suc, ◌+◌, ◌-◌, ◌*◌, ◌≤◌, ◌<◌}
use native.Mathlib.Omega.{arith}
use lib.ListN.{length, get_or, take}
use lib.Seq.{length-take-le}
use lib.IntN.{ℤ}
use borrow.Author.Tests.{leb-true, le-leb, lt-leb, lt-ltb, eq-eqb, ne_eqb}
use Rattle.laws.specs.Lists.{all}
use Rattle.laws.proofs.ListLaws.{all-each}
use Rattle.kinds.specs.Kinds.{islands_place, vertices_place}
use Rattle.sheet.specs.Tables.{Tables}
use Rattle.std.proofs.Common.{Option, Some, None, Result, Ok, Err}
use Rattle.plane.specs.declared.NoArea.{NoArea}
use Rattle.plane.specs.declared.NoArea.TheVariants.{Wide, Missing}
use Rattle.plane.specs.Rings.{most}
use Rattle.plane.specs.Areas.{area_of}
use Rattle.made.specs.Made.{count_at, kind_of, islands_of, sum, four_at_least, ring_sizes, is_made}
use Rattle.made.proofs.RowWays.{made_held, made_counted}
use Rattle.area.specs.declared.Areas.{Areas}
use Rattle.area.specs.declared.AreaRefusal.TheVariants as AreaRefusal
use Rattle.area.specs.BorderRings.{areas_of, net_of, ring_of}
use Rattle.area.specs.Questions.{ring_of_row, answer_of, ring_or_missing, area_found, net_area_of}
use Rattle.area.proofs.AreaLaws.{There, area-there, areas-there}

-- a ring ends within the rings
pub sum-part : (s : List ℕ) (i : ℕ) → sum (take i s) + get_or s i 0 ≤ sum s
unfolding sum
sum-part [] zero = omega arith
sum-part [] (suc i) = omega arith
sum-part (n ∷ s) zero = omega arith
sum-part (n ∷ s) (suc i) = omega (arith, sum-part s i)

module _ (v : ℕ) (islands : List ℕ) (f : all four_at_least islands ≡ true) (o : sum islands + 4 ≤ v) (ring : ℕ) (l : ring ≤ length islands) where
  abbrev from : ℕ
  from = sum (take ring (ring_sizes v islands))

  abbrev vertices : ℕ
  vertices = get_or (ring_sizes v islands) ring 0

  within : from + vertices ≤ v
  unfolding ring_sizes sum
  within = let h = sum-part ((v - sum islands) ∷ islands) ring in omega arith

  four : 4 ≤ vertices
  unfolding ring_sizes
  four = go ring l
    where
      go : (i : ℕ) → i ≤ length islands → 4 ≤ get_or ((v - sum islands) ∷ islands) i 0
      go zero h = omega arith
      go (suc i) h = leb-true 4 (get_or islands i 0) (all-each four_at_least islands i f h)

  ring-there : (ps : List ℤ) (first : ℕ) → v ≤ most → 2 * (first + v) ≤ length ps → There (area_of ps (first + from) vertices)
  ring-there ps first m p = area-there ps (first + from) vertices (omega (arith, four)) (omega (arith, within)) (omega (arith, within))

there-not : (x : Result ℤ NoArea) → There x → answer_of x ≡ Err AreaRefusal.Missing → ⊥
there-not (Ok d) p e = let z : ◌≡◌ {A = ℕ} 0 1 = cc in omega arith
there-not (Err Wide) p e = let z : ◌≡◌ {A = ℕ} 0 1 = cc in omega arith
there-not (Err Missing) p e = p

net-there : (x : Result Areas NoArea) → (x ≡ Err Missing → ⊥) → net_of x ≡ Err Missing → ⊥
net-there (Ok r) f e = let z : ◌≡◌ {A = ℕ} 0 1 = cc in omega arith
net-there (Err Wide) f e = let z : ◌≡◌ {A = ℕ} 0 1 = cc in omega arith
net-there (Err Missing) f e = f refl

module _ (t : Tables) (e : is_made t ≡ true) (k : kind_of t ≡ 1) where
  pub net-answered : net_area_of t ≡ Err Missing → ⊥
  unfolding net_area_of
  net-answered q = net-there (areas_of (count_at t vertices_place) (islands_of t) t.points) (areas-there t e k) (rw (eq-eqb (kind_of t) 1 k) at q)

  module _ (ring : ℕ) where
    abbrev v : ℕ
    v = count_at t vertices_place

    abbrev i : List ℕ
    i = islands_of t

    islands-held : length i ≡ count_at t islands_place
    islands-held = length-take-le (count_at t islands_place) t.islands (made_held t e).islands

    outer-left : sum i < v
    outer-left = let o = (made_counted t e k).outer in omega arith

    -- of a table of points that holds the row's vertices from `first` on
    pub ring-answered : ring ≤ count_at t islands_place → (ps : List ℤ) (first : ℕ) → 2 * (first + v) ≤ length ps → area_found ps (ring_or_missing (ring_of_row t first ring)) ≡ Err AreaRefusal.Missing → ⊥
    unfolding ring_of_row ring_of
    ring-answered l ps first p q =
        let h : ring ≤ length i = omega (arith, islands-held) in
        let c = made_counted t e k in
        there-not (area_of ps (first + from v i c.islands c.outer ring h) (vertices v i c.islands c.outer ring h))
        (ring-there v i c.islands c.outer ring h ps first c.vertices p)
        (rw (eq-eqb (kind_of t) 1 k, lt-ltb (sum i) v outer-left, le-leb ring (length i) h) at q)

    pub ring-past : count_at t islands_place < ring → (first : ℕ) → ring_of_row t first ring ≡ None
    unfolding ring_of_row ring_of
    ring-past l first =
        let h : length i < ring = omega (arith, islands-held) in
        rw (eq-eqb (kind_of t) 1 k, lt-ltb (sum i) v outer-left, lt-leb ring (length i) h)

-- a row that is no border has no areas
module _ (t : Tables) (k : kind_of t ≡ 1 → ⊥) where
  pub net-none : net_area_of t ≡ Err Missing
  unfolding net_area_of
  net-none = rw (ne_eqb (kind_of t) 1 k)

  pub ring-none : (first ring : ℕ) → ring_of_row t first ring ≡ None
  unfolding ring_of_row
  ring-none first ring = rw (ne_eqb (kind_of t) 1 k)
