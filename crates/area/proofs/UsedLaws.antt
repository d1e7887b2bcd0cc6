-- The areas of a row (document 01, "Areas"): what stands behind the used part never matters, and the row may be asked about alone; and the same
-- of any question on a ring that looks at the ring's own vertices. Assumes nothing.
use mathlib.Core.Path.{◌≡◌, refl, sym, ◌∙◌, ap}
use mathlib.Core.List.{List, ◌∷◌}
use mathlib.Core.Bool.{Bool, true, false, cond, ◌&&◌}
use Prim.Native.Nat.{ℕ, zero, suc, ◌+◌, ◌-◌, ◌*◌, ◌/◌, ◌≤◌, ◌<◌}
use native.Mathlib.Omega.{arith}
use lib.Dec.{leb, ltb, eqb}
use lib.ListN.{length, get_or, take, drop, length-drop, take-append-drop}
use lib.Seq.{length-take-le, get_or-take, get_or-drop}
use lib.IntN.{ℤ, pos}
use borrow.Author.Tests.{le-leb, ltb-true}
use Rattle.std.proofs.Common.{Option, Some, None, Result, Ok, Err}
use Rattle.laws.proofs.Choice.{and_left, cond-elim}
use Rattle.record.specs.declared.Mode.TheVariants.{Loose}
use Rattle.kinds.specs.Kinds.{vertices_place}
use Rattle.heading.specs.declared.Header.{Header}
use Rattle.sheet.specs.Tables.{Tables}
use Rattle.plane.specs.Rings.{x-at, y-at, held}
use Rattle.plane.specs.Areas.{area_of}
use Rattle.plane.proofs.AlikeLaws.{area-alike, same_alike}
use Rattle.made.specs.declared.Flaw.{Flaw}
use Rattle.made.specs.Made.{count_at, kind_of, islands_of, points_of, own_of, sum, ring_sizes, is_made, judge_of, used_of}
use Rattle.made.proofs.RowWays.{made_held}
use Rattle.made.proofs.OwnLaws.{cell-own, islands-own}
use Rattle.row.specs.declared.Stand.{Stand}
use Rattle.row.specs.declared.Unfound.{Unfound}
use Rattle.row.specs.declared.Unfound.TheVariants as Unfound
use Rattle.row.specs.Walk.{next_stand, stand_of, left_at}
use Rattle.row.specs.Alone.{row_alone}
use Rattle.row.proofs.UsedLaws.{Question, asked-used, asked-alone}
use Rattle.area.specs.declared.RingPlace.{RingPlace}
use Rattle.area.specs.BorderRings.{areas_of, ring_place, ring_of}
use Rattle.area.specs.Questions.{answer_of, ring_from, ring_or_missing, ring_of_row, net_area_of, ring_found, ring_at, area_found, ring_area_at, net_found, net_area_at}
use Rattle.area.proofs.AreaLaws.{areas-own}
use Rattle.area.proofs.QuestionLaws.{sum-part}

-- ---- a row's areas, by its own part

module _ (t : Tables) (m : is_made t ≡ true) where
  pub areas-owned : areas_of (count_at (own_of t) vertices_place) (islands_of (own_of t)) (points_of t) ≡ areas_of (count_at t vertices_place) (islands_of t) t.points
  areas-owned =
      let v = count_at t vertices_place in
      rw (islands-own t, cell-own t vertices_place (omega arith))
      (sym (areas-own v (islands_of t) (points_of t) (drop (2 * v) t.points) (omega (arith, length-take-le (2 * v) t.points (made_held t m).points)))
      ∙ ap (areas_of v (islands_of t)) (take-append-drop (2 * v) t.points))

  net-owned : net_area_of (own_of t) ≡ net_area_of t
  unfolding net_area_of
  net-owned = rw (areas-owned, cell-own t 0 (omega arith))

ring-owned : (t : Tables) (first ring : ℕ) → ring_of_row (own_of t) first ring ≡ ring_of_row t first ring
unfolding ring_of_row
ring-owned t first ring = rw (islands-own t, cell-own t 0 (omega arith), cell-own t vertices_place (omega arith))

-- ---- a ring in two tables of points

pub record SameRing (ps qs : List ℤ) (p q n : ℕ) : Type 0 where
  pub held-alike : held (length ps) p n ≡ held (length qs) q n
  pub vertices : (k : ℕ) → k < n → (x-at ps (p + k) ≡ x-at qs (q + k)) × (y-at ps (p + k) ≡ y-at qs (q + k))

area_same : (ps qs : List ℤ) (p q n : ℕ) → SameRing ps qs p q n → area_of ps p n ≡ area_of qs q n
area_same ps qs p q n s = area-alike ps qs p q n s.held-alike (λ e. same_alike ps qs p q n s.vertices)

-- v vertices that stand in a table from vertex `first` on, and a ring among them: in the table, and in their own points
module _ (ps : List ℤ) (start first v from n : ℕ) (e : start ≡ 2 * first) (a : from + n ≤ v) (b : 2 * (first + v) ≤ length ps) where
  abbrev own : List ℤ
  own = take (2 * v) (drop start ps)

  number-own : (i j : ℕ) → i < 2 * v → j ≡ start + i → get_or ps j (pos 0) ≡ get_or own i (pos 0)
  number-own i j h z = ap (λ (k : ℕ). get_or ps k (pos 0)) z ∙ sym (get_or-take (2 * v) (drop start ps) i (pos 0) h ∙ get_or-drop start ps i (pos 0))

  length-own : length own ≡ 2 * v
  length-own = length-take-le (2 * v) (drop start ps) (omega (arith, length-drop start ps))

  slice-same : SameRing ps own (first + from) (0 + from) n
  unfolding held
  slice-same =
      record {
        held-alike = rw (le-leb (2 * (first + from + n)) (length ps) (omega arith), le-leb (2 * (0 + from + n)) (length own) (omega (arith, length-own)));
        vertices = λ k h. (number-own (2 * (0 + from + k)) (2 * (first + from + k)) (omega arith) (omega arith), number-own (2 * (0 + from + k) + 1) (2 * (first + from + k) + 1) (omega arith) (omega arith));
      }

-- ---- questions on a ring of a row

-- it lies among the row's vertices
abbrev RingIn : ℕ → Option RingPlace → Type 0
RingIn v (Some p) = (p.from + p.count ≤ v) × (0 < v)
RingIn v None = Unit {0}

ring_in : (v : ℕ) (islands : List ℕ) (ring : ℕ) → RingIn v (ring_of v islands ring)
unfolding ring_of ring_sizes sum
ring_in v islands ring =
    cond-elim (RingIn v) (ltb (sum islands) v && leb ring (length islands)) _ _
    (λ e. let h = ltb-true (sum islands) v (and_left (ltb (sum islands) v) (leb ring (length islands)) e) in
    let s = sum-part ((v - sum islands) ∷ islands) ring in
    (omega arith, omega arith))
    (λ _. tt)

-- a stand is at a whole point
points-even : (k : ℕ) (rows : List ℤ) → (stand_of k rows).points ≡ 2 * ((stand_of k rows).points / 2)
unfolding stand_of next_stand
points-even zero rows = refl
points-even (suc k) rows = omega (arith, points-even k rows)

module _ {A : Type 0} (g : List ℤ → Result RingPlace Unfound → A) (same : (ps qs : List ℤ) (p q n : ℕ) → SameRing ps qs p q n → g ps (Ok (ring_place p n)) ≡ g qs (Ok (ring_place q n)))
    (missing : (ps qs : List ℤ) → g ps (Err Unfound.Missing) ≡ g qs (Err Unfound.Missing)) (refused : (ps qs : List ℤ) (v : Flaw) → g ps (Err (Unfound.Refused v)) ≡ g qs (Err (Unfound.Refused v))) (ring : ℕ) where
  module _ (t : Tables) (k : ℕ) (m : is_made (left_at t (stand_of k t.rows)) ≡ true) where
    abbrev x : Tables
    x = left_at t (stand_of k t.rows)

    abbrev first : ℕ
    first = (stand_of k t.rows).points / 2

    abbrev v : ℕ
    v = count_at x vertices_place

    abbrev qs : List ℤ
    qs = (own_of x).points

    here : (r : Option RingPlace) → RingIn v r → g t.points (ring_or_missing (ring_from first r)) ≡ g qs (ring_or_missing (ring_from 0 r))
    here (Some p) i =
        let e = points-even k t.rows in
        same t.points qs (first + p.from) (0 + p.from) p.count
        (slice-same t.points (stand_of k t.rows).points first v p.from p.count e i.0 (omega (arith, i.1, (made_held x m).points, length-drop (stand_of k t.rows).points t.points)))
    here None i = missing t.points qs

    ring-own : g t.points (ring_or_missing (ring_of_row x first ring)) ≡ g qs (ring_or_missing (ring_of_row (own_of x) 0 ring))
    unfolding ring_of_row
    ring-own = by (eqb (kind_of x) 1) ∙ sym (ap (λ (r : Option RingPlace). g qs (ring_or_missing r)) (ring-owned x 0 ring))
      where
        by : (b : Bool) → g t.points (ring_or_missing (cond b (ring_from first (ring_of v (islands_of x) ring)) None)) ≡ g qs (ring_or_missing (cond b (ring_from 0 (ring_of v (islands_of x) ring)) None))
        by true = here (ring_of v (islands_of x) ring) (ring_in v (islands_of x) ring)
        by false = missing t.points qs

  pub rings : Question (λ (x : Tables) (s : Result Stand Unfound). g x.points (ring_found x ring s))
  rings = record { own = ring-own; missing = λ t u. missing t.points u.points; refused = λ t u v. refused t.points u.points v }

-- ---- the questions about areas

areas : (ring : ℕ) → Question (λ (x : Tables) (s : Result Stand Unfound). area_found x.points (ring_found x ring s))
areas ring = rings area_found (λ ps qs p q n s. ap answer_of (area_same ps qs p q n s)) (λ ps qs. refl) (λ ps qs v. refl) ring

nets : Question net_found
nets = record { own = λ t k m. sym (ap answer_of (net-owned (left_at t (stand_of k t.rows)) m)); missing = λ t u. refl; refused = λ t u v. refl }

-- **what stands behind the used part never matters**, of any tables
module _ (h : Header) (n : ℕ) (t : Tables) (k : ℕ) where
  pub area-used : (ring : ℕ) → ring_area_at h n (used_of n t) k ring ≡ ring_area_at h n t k ring
  unfolding ring_area_at ring_at
  area-used ring = asked-used (λ x s. area_found x.points (ring_found x ring s)) (areas ring) h n t k

  pub net-used : net_area_at h n (used_of n t) k ≡ net_area_at h n t k
  unfolding net_area_at
  net-used = asked-used net_found nets h n t k

-- **asked of the row alone**, a row of a well made sheet
module _ (h : Header) (n : ℕ) (t : Tables) (k : ℕ) (e : judge_of Loose h n t ≡ Ok tt) (l : k < n) where
  pub area-alone : (ring : ℕ) → ring_area_at h 1 (row_alone k t) 0 ring ≡ ring_area_at h n t k ring
  unfolding ring_area_at ring_at
  area-alone ring = asked-alone h n t k e l (λ x s. area_found x.points (ring_found x ring s)) (areas ring)

  pub net-alone : net_area_at h 1 (row_alone k t) 0 ≡ net_area_at h n t k
  unfolding net_area_at
  net-alone = asked-alone h n t k e l net_found nets
