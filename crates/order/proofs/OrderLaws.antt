-- The borders of a SUP file in order: the same borders, and sorted (document 02, T-01). Assumes nothing.
use Prim.Native.Nat.{ℕ, zero, suc, ◌+◌, ◌≤◌, ◌<◌}
use mathlib.Core.Path.{◌≡◌, refl, ap, ◌∙◌}
use mathlib.Core.List.{List, [], Perm}
use mathlib.Core.Bool.{Bool, true, false}
use native.Mathlib.Omega.{arith}
use lib.ListN.{length}
use lib.IntN.{ℤ}
use Rattle.std.specs.Prelude.{Ok}
use Rattle.heading.specs.declared.Header.{Header}
use Rattle.record.specs.declared.Mode.TheVariants.{Loose}
use Rattle.sheet.specs.Tables.{Tables}
use Rattle.made.specs.Made.{tables_of, none_before, judge_rows}
use Rattle.row.specs.declared.Stand.{Stand}
use Rattle.row.specs.Walk.{first_stand, next_stand, stand_after, left_at}
use Rattle.row.proofs.Walk.{Walk, walk_start, walk-on, walk-stands, stands-small}
use Rattle.row.proofs.NextWays.{after_next}
use Rattle.border.specs.Borders.{border_of}
use Rattle.std.specs.declared.cmp.Ordering.TheVariants.{Equal}
use Rattle.order.specs.Compare.{by_number}
use Rattle.order.specs.Sorting.{filter, EachOf, Sorted, Rising}
use Rattle.order.specs.SupBorders.{is_in_sup, with_if, sup_borders, sup_borders_from}
use Rattle.order.specs.SupOrder.{by_code_and_net, paper_before, comes_at, goes_before, sup_in_order}
use Rattle.order.specs.Windows.{Small}
use Rattle.order.proofs.CompareLaws.{or_same, number-eq, one-before}
use Rattle.order.proofs.SortLaws.{sorted-map, sort-perm, each-sort, sort_sorted, Climbs, climbs-from, sort-rising, length-sort, count-sort}
use Rattle.order.proofs.TotalLaws.{comes-total, before-code, before-through, before-turn}

-- which borders are listed is a matter of rows and letters
sup-own : (h : Header) (rows : List ℤ) (letters islands : List ℕ) (points : List ℤ) (n : ℕ) (d : Stand)
    → sup_borders_from h (tables_of rows letters islands points) n d ≡ sup_borders_from h (tables_of rows letters [] []) n d
unfolding sup_borders_from is_in_sup border_of
sup-own h rows letters islands points zero d = refl
sup-own h rows letters islands points (suc n) d = rw (sup-own h rows letters islands points n (stand_after rows d))

-- ---- the same borders

-- the list in order is a permutation of the listed borders
pub in-order-same : (h : Header) (count : ℕ) (t : Tables) → Perm (sup_in_order h count t) (sup_borders h count t)
unfolding sup_in_order
in-order-same h count t = sort-perm (goes_before t) (sup_borders h count t)

-- as many of them pass any test
pub in-order-count : (p : Stand → Bool) (h : Header) (count : ℕ) (t : Tables) → length (filter p (sup_in_order h count t)) ≡ length (filter p (sup_borders h count t))
unfolding sup_in_order
in-order-count p h count t = count-sort (goes_before t) p (sup_borders h count t)

pub in-order-length : (h : Header) (count : ℕ) (t : Tables) → length (sup_in_order h count t) ≡ length (sup_borders h count t)
unfolding sup_in_order
in-order-length h count t = length-sort (goes_before t) [] (sup_borders h count t) ∙ omega arith

-- as `sup_count` counts them
pub in-order-counted : (h : Header) (count : ℕ) (rows : List ℤ) (letters islands : List ℕ) (points : List ℤ)
    → length (sup_in_order h count (tables_of rows letters islands points)) ≡ length (sup_borders h count (tables_of rows letters [] []))
in-order-counted h count rows letters islands points =
    in-order-length h count (tables_of rows letters islands points) ∙ ap length (sup-own h rows letters islands points count first_stand)

-- what holds of every listed border holds of each in order
pub in-order-each : (P : Stand → Type 0) (h : Header) (count : ℕ) (t : Tables) → EachOf P (sup_borders h count t) → EachOf P (sup_in_order h count t)
unfolding sup_in_order
in-order-each P h count t e = each-sort (goes_before t) P [] (sup_borders h count t) EachOf.each_nil e

-- ---- sorted

-- by code, equal codes by exact area
pub in-order-sorted : (h : Header) (count : ℕ) (t : Tables) → Sorted (paper_before t) (sup_in_order h count t)
unfolding sup_in_order
in-order-sorted h count t =
    sorted-map (λ a b. before-code t a b) (sort_sorted (goes_before t) (before-through t) (before-turn t) (sup_borders h count t))

-- two rows are never the same
rows_apart : (t : Tables) (a b : Stand) → b.row < a.row → goes_before t a b ≡ false → goes_before t b a ≡ true
unfolding goes_before comes_at
rows_apart t a b h e = one-before (comes_at t) (comes-total t) a b unlike e
  where
    unlike : comes_at t a b ≡ Equal → ⊥
    unlike q =
        let k = or_same (by_code_and_net t a b) (by_number a.row b.row) q in
        omega (arith, number-eq a.row b.row k.1)

abbrev Climbing : Tables → ℕ → List Stand → Type 0
Climbing t m s = Climbs (goes_before t) (before-through t) (before-turn t) (λ (d : Stand). d.row) (rows_apart t) m s

next-later : (t : Tables) (d : Stand) → stand_after t.rows d ≡ next_stand t.rows d → suc d.row ≤ (stand_after t.rows d).row
unfolding next_stand
next-later t d q = rw q (omega arith)

-- in a judged sheet no sum of a walk wraps
pub walk_after : {t : Tables} {count : ℕ} {d : Stand} {k : ℕ} → Small t → Walk Loose t count d k → k < count → stand_after t.rows d ≡ next_stand t.rows d
walk_after {t} {d = d} m w l = after_next t.rows d w.stands.row_in (stands-small (walk-stands w l) m.rows m.letters m.islands m.points)

listed-climb : (h : Header) (t : Tables) (count : ℕ) → Small t → (n : ℕ) (d : Stand) (k : ℕ) → k + n ≡ count → Walk Loose t count d k → Climbing t d.row (sup_borders_from h t n d)
unfolding sup_borders_from
listed-climb h t count m zero d k e w = Climbs.stop
listed-climb h t count m (suc n) d k e w =
    let l : k < count = omega arith in
    let q = walk_after m w l in
    go (is_in_sup h (left_at t d)) (listed-climb h t count m n (stand_after t.rows d) (k + 1) (omega arith) (walk-on w l (stand_after t.rows d) q)) (next-later t d q)
  where
    go : (b : Bool) → Climbing t (stand_after t.rows d).row (sup_borders_from h t n (stand_after t.rows d)) → suc d.row ≤ (stand_after t.rows d).row
        → Climbing t d.row (with_if b d (sup_borders_from h t n (stand_after t.rows d)))
    go true c r = let z : d.row ≤ d.row = omega arith in Climbs.step {x = d} z (climbs-from (goes_before t) (before-through t) (before-turn t) (λ (d : Stand). d.row) (rows_apart t) r c)
    go false c r = climbs-from (goes_before t) (before-through t) (before-turn t) (λ (d : Stand). d.row) (rows_apart t) (omega arith) c

-- in a judged sheet each comes before those behind it, as rows decide where code and area are equal
pub in-order-rising : (h : Header) (count : ℕ) (t : Tables) → Small t → judge_rows Loose count none_before t ≡ Ok tt → Rising (goes_before t) (sup_in_order h count t)
unfolding sup_in_order
in-order-rising h count t m f =
    sort-rising (goes_before t) (before-through t) (before-turn t) (λ (d : Stand). d.row) (rows_apart t) [] Rising.rising-nil EachOf.each_nil
    (listed-climb h t count m count first_stand 0 (omega arith) (walk_start Loose t count f))
