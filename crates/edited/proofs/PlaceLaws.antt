-- Doubled areas, ring checks and classes are the same wherever the sheet lies (document 02, T-08): each is asked of the row alone, and the row alone moved
-- has the same vertices from its first on. Assumes nothing.
use mathlib.Core.Path.{◌≡◌, refl, sym, ◌∙◌, ap, ap₂}
use mathlib.Core.List.{List, [], ◌∷◌, ◌++◌, append-nil}
use mathlib.Core.Bool.{Bool, true}
use Prim.Native.Nat.{ℕ, zero, suc, ◌+◌, ◌-◌, ◌*◌, ◌≤◌, ◌<◌}
use native.Mathlib.Nat.{sub-zero}
use native.Mathlib.Omega.{arith}
use lib.Dec.{eqb}
use lib.ListN.{length, get_or, take, drop, length-append, get_or-append}
use lib.Seq.{length-take-le, get_or-take, take_all, take-take, take-append-le, drop-length}
use lib.IntN.{ℤ, pos}
use Rattle.std.proofs.Common.{Result, Ok, Err}
use Rattle.laws.specs.Lists.{over}
use Rattle.laws.proofs.ListLaws.{left-none}
use Rattle.record.specs.declared.Mode.TheVariants.{Loose}
use Rattle.kinds.specs.Kinds.{row_width, own_width, islands_place, vertices_place}
use Rattle.heading.specs.declared.Header.{Header}
use Rattle.sheet.specs.Tables.{Tables, ◌then◌, no_starts, start_cells}
use Rattle.plane.specs.Moved.{moved}
use Rattle.plane.proofs.MovedLaws.{length_moved, area-moved}
use Rattle.made.specs.declared.Flaw.{Flaw}
use Rattle.made.specs.Made.{nat_of, cell_at, count_at, kind_of, letters_of, islands_of, points_of, first_of, own_of, rest_of, alone_of, none_before, is_made, Before, past_row, judge_rows, judge_of, used_of}
use Rattle.made.proofs.RowWays.{Held, made_held}
use Rattle.made.proofs.OwnLaws.{cell-first}
use Rattle.made.proofs.UsedLaws.{fine-on}
use Rattle.row.specs.declared.Stand.{Stand}
use Rattle.row.specs.declared.Stand.{Stand}
use Rattle.row.specs.declared.Unfound.{Unfound}
use Rattle.row.specs.Walk.{first_stand, next_stand, stand_of, left_at}
use Rattle.row.specs.Seek.{sought_after, sought_of}
use Rattle.row.specs.Alone.{row_alone}
use Rattle.row.proofs.Walk.{left-next}
use Rattle.row.proofs.SeekLaws.{fine-rows}
use Rattle.row.proofs.UsedLaws.{alone-fine}
use Rattle.area.specs.declared.RingPlace.{RingPlace}
use Rattle.area.specs.Questions.{answer_of, ring_or_missing, ring_of_row, net_area_of, ring_found, ring_at, area_found, ring_area_at, net_found, net_area_at}
use Rattle.area.proofs.AreaLaws.{areas-moved}
use Rattle.area.proofs.UsedLaws.{area-alone, net-alone}
use Rattle.classes.specs.Classes.{class_of}
use Rattle.border.specs.Borders.{border_of}
use Rattle.ring.specs.RingCheck.{checked_of, check_found, ring_check_at}
use Rattle.ring.proofs.UsedLaws.{check-alone}
use Rattle.edit.specs.Moves.{moved_cells, moved_row, moved_tables, is_move}
use Rattle.edit.specs.Rows.{each_row}
use Rattle.edit.proofs.ColumnLaws.{rest_at}
use Rattle.edit.proofs.RowMoves.{cells-late, length-row}
use Rattle.edit.proofs.MoveLaws.{moved_first, kept-early, kept-late, moved-first, moved-rest, moved-step, moved-fine}
use Rattle.edited.proofs.RingLaws.{verdict-moved}

-- ---- a row by what the rows before it leave

rest-last : (k : ℕ) (t : Tables) → rest_of (rest_at k t) ≡ rest_at k (rest_of t)
unfolding rest_at
rest-last zero t = refl
rest-last (suc k) t = rest-last k (rest_of t)

pub left-rest : (k : ℕ) (t : Tables) → left_at t (stand_of k t.rows) ≡ rest_at k t
unfolding rest_at stand_of
left-rest zero t = refl
left-rest (suc k) t = left-next t (stand_of k t.rows) ∙ ap rest_of (left-rest k t) ∙ rest-last k t

made-rest : (n k : ℕ) (b : Before) (t : Tables) → judge_rows Loose n b t ≡ Ok tt → k < n → is_made (rest_at k t) ≡ true
unfolding rest_at
made-rest zero k b t e h = absurd (omega arith)
made-rest (suc n) zero b t e h = (fine-on Loose n b t e).0
made-rest (suc n) (suc k) b t e h = made-rest n k (past_row b t) (rest_of t) (fine-on Loose n b t e).1 (omega arith)

module _ (dx dy : ℤ) where
  rest-moved-at : (k n : ℕ) (b : Before) (t : Tables) → judge_rows Loose n b t ≡ Ok tt → k ≤ n → rest_at k (moved_tables dx dy n t) ≡ moved_tables dx dy (n - k) (rest_at k t)
  unfolding rest_at
  rest-moved-at zero n b t e h = ap (λ (j : ℕ). moved_tables dx dy j t) (sym (sub-zero n))
  rest-moved-at (suc k) zero b t e h = absurd (omega arith)
  rest-moved-at (suc k) (suc n) b t e h =
      let g = fine-on Loose n b t e in
      let r = made_held t g.0 in
      let z : suc n - suc k ≡ n - k = omega arith in
      ap (λ (x : Tables). rest_at k (rest_of x)) (moved-step dx dy n t r) ∙ ap (rest_at k) (moved-rest dx dy t r (moved_tables dx dy n (rest_of t)))
      ∙ rest-moved-at k n (past_row b t) (rest_of t) g.1 (omega arith) ∙ ap (λ (j : ℕ). moved_tables dx dy j (rest_at k (rest_of t))) (sym z)

  -- a row that is moved, by what stands there
  row-moved-at : (k n : ℕ) (t : Tables) → judge_rows Loose n none_before t ≡ Ok tt → k < n
      → rest_at k (moved_tables dx dy n t) ≡ moved_first dx dy (rest_at k t) then moved_tables dx dy (n - suc k) (rest_of (rest_at k t))
  row-moved-at k n t e h =
      let z : n - k ≡ suc (n - suc k) = omega arith in
      rest-moved-at k n none_before t e (omega arith) ∙ ap (λ (j : ℕ). moved_tables dx dy j (rest_at k t)) z ∙ moved-step dx dy (n - suc k) (rest_at k t) (made_held (rest_at k t) (made-rest n k none_before t e h))

class_same : (h : Header) (x y : Tables) → letters_of x ≡ letters_of y → (border_of h x).class ≡ (border_of h y).class
unfolding border_of
class_same h x y e = ap (class_of h.kind h.name) e

-- **the class of every border is the same**
pub class-moved : (h : Header) (n : ℕ) (t : Tables) (dx dy : ℤ) (k : ℕ) → judge_of Loose h n t ≡ Ok tt → k < n
    → (border_of h (left_at (moved_tables dx dy n t) (stand_of k (moved_tables dx dy n t).rows))).class ≡ (border_of h (left_at t (stand_of k t.rows))).class
class-moved h n t dx dy k e l =
    let j = fine-rows h n t e in
    let x = rest_at k t in
    let u = moved_tables dx dy (n - suc k) (rest_of x) in
    let r = made_held x (made-rest n k none_before t j l) in
    let same : letters_of (moved_first dx dy x then u) ≡ letters_of x = ap (λ (y : Tables). y.letters) (moved-first dx dy x r u) in
    ap (λ (y : Tables). (border_of h y).class) (left-rest k (moved_tables dx dy n t) ∙ row-moved-at dx dy k n t j l) ∙ class_same h (moved_first dx dy x then u) x same
    ∙ sym (ap (λ (y : Tables). (border_of h y).class) (left-rest k t))

-- ---- the row alone

cells-append : (dx dy : ℤ) (kind p : ℕ) (a b : List ℤ) → moved_cells dx dy kind p (a ++ b) ≡ moved_cells dx dy kind p a ++ moved_cells dx dy kind (p + length a) b
unfolding moved_cells
cells-append dx dy kind p [] b = let e : p + 0 ≡ p = omega arith in rw e
cells-append dx dy kind p (z ∷ a) b = let e : p + suc (length a) ≡ suc p + length a = omega arith in rw (e, cells-append dx dy kind (suc p) a b)

cells-take : (dx dy : ℤ) (kind p n : ℕ) (s : List ℤ) → take n (moved_cells dx dy kind p s) ≡ moved_cells dx dy kind p (take n s)
unfolding moved_cells
cells-take dx dy kind p zero s = refl
cells-take dx dy kind p (suc n) [] = refl
cells-take dx dy kind p (suc n) (z ∷ s) = rw (cells-take dx dy kind (suc p) n s)

module _ (dx dy : ℤ) (x : Tables) (r : Held x) where
  abbrev a : List ℤ
  a = take own_width x.rows

  abbrev y : Tables
  y = alone_of x

  a-long : length a ≡ own_width
  a-long = length-take-le own_width x.rows (omega (arith, r.row))

  y-long : length y.rows ≡ row_width
  y-long = omega (arith, length-append a (start_cells no_starts), a-long)

  y-cell : (p : ℕ) → p < own_width → cell_at y p ≡ cell_at x p
  y-cell p h = get_or-append a (start_cells no_starts) (pos 0) p (omega (arith, a-long)) ∙ get_or-take own_width x.rows p (pos 0) h

  y-count : (p : ℕ) → p < own_width → count_at y p ≡ count_at x p
  y-count p h = ap nat_of (y-cell p h)

  points-long : length (points_of x) ≡ 2 * count_at x vertices_place
  points-long = length-take-le (2 * count_at x vertices_place) x.points r.points

  y-used : (used_of 1 y).points ≡ points_of x
  unfolding used_of
  y-used =
      append-nil (points_of y) ∙ ap (λ (n : ℕ). take (2 * n) (points_of x)) (y-count vertices_place (omega arith)) ∙ take_all (2 * count_at x vertices_place) (points_of x) (omega (arith, points-long))

  y-rows : (moved_tables dx dy 1 y).rows ≡ moved_cells dx dy (kind_of x) 0 a ++ start_cells no_starts
  unfolding moved_tables each_row moved_row
  y-rows =
      let t : take row_width y.rows ≡ y.rows = take_all row_width y.rows (omega (arith, y-long)) in
      let d : drop row_width y.rows ≡ [] = left-none y.rows row_width (omega (arith, y-long)) in
      let z : 0 + length a ≡ 12 = omega (arith, a-long) in
      rw (d, append-nil (moved_cells dx dy (kind_of y) 0 (take row_width y.rows)), t, y-count 0 (omega arith), cells-append dx dy (kind_of x) 0 a (start_cells no_starts), z, cells-late dx dy (kind_of x) 12 (start_cells no_starts) (omega arith))

  y-points : (moved_tables dx dy 1 y).points ≡ moved dx dy (points_of x)
  unfolding moved_tables
  y-points = rw (y-used, length_moved dx dy (points_of x), drop-length (points_of x), append-nil (moved dx dy (points_of x)))

  own-cells : take own_width (moved_row dx dy x.rows) ≡ moved_cells dx dy (kind_of x) 0 a
  unfolding moved_row
  own-cells = cells-take dx dy (kind_of x) 0 own_width (take row_width x.rows) ∙ ap (moved_cells dx dy (kind_of x) 0) (take-take own_width row_width x.rows (omega arith))

  pub alone-first : (u : Tables) → alone_of (moved_first dx dy x then u) ≡ moved_tables dx dy 1 y
  unfolding moved_tables
  alone-first u =
      let o = moved_first dx dy x then u in
      let f = moved-first dx dy x r u in
      let w : length (moved_row dx dy x.rows) ≡ row_width = length-row dx dy x.rows r.row in
      let rows_as : take own_width o.rows ≡ moved_cells dx dy (kind_of x) 0 a = take-append-le own_width (moved_row dx dy x.rows) u.rows (omega (arith, w)) ∙ own-cells in
      rw (rows_as, ap (λ (v : Tables). v.letters) f, ap (λ (v : Tables). v.islands) f, ap (λ (v : Tables). v.points) f, y-rows, y-points)

pub alone-moved : (h : Header) (n : ℕ) (t : Tables) (dx dy : ℤ) (k : ℕ) → judge_of Loose h n t ≡ Ok tt → k < n → row_alone k (moved_tables dx dy n t) ≡ moved_tables dx dy 1 (row_alone k t)
alone-moved h n t dx dy k e l =
    let j = fine-rows h n t e in
    let x = rest_at k t in
    let r = made_held x (made-rest n k none_before t j l) in
    ap alone_of (left-rest k (moved_tables dx dy n t) ∙ row-moved-at dx dy k n t j l) ∙ alone-first dx dy x r (moved_tables dx dy (n - suc k) (rest_of x))
    ∙ ap (λ (v : Tables). moved_tables dx dy 1 (alone_of v)) (sym (left-rest k t))

-- ---- questions on it

sought-one : (h : Header) (v : Tables) → judge_of Loose h 1 v ≡ Ok tt → sought_of h 1 v 0 ≡ Ok first_stand
unfolding sought_of stand_of
sought-one h v e = rw e

area-as : (dx dy : ℤ) (ps : List ℤ) (x : Result RingPlace Unfound) → area_found (moved dx dy ps) x ≡ area_found ps x
area-as dx dy ps (Ok p) = ap answer_of (area-moved dx dy ps p.from p.count)
area-as dx dy ps (Err e) = refl

check-as : (dx dy : ℤ) (ps : List ℤ) (x : Result RingPlace Unfound) → check_found (moved dx dy ps) x ≡ check_found ps x
check-as dx dy ps (Ok p) = ap checked_of (verdict-moved dx dy ps p.from p.count)
check-as dx dy ps (Err e) = refl

module _ (h : Header) (dx dy : ℤ) (y : Tables) (fy : judge_of Loose h 1 y ≡ Ok tt) (fz : judge_of Loose h 1 (moved_tables dx dy 1 y) ≡ Ok tt)
    (pz : (moved_tables dx dy 1 y).points ≡ moved dx dy y.points) where
  abbrev z : Tables
  z = moved_tables dx dy 1 y

  held : Held y
  held = made_held y (fine-on Loose 0 none_before y (fine-rows h 1 y fy)).0

  first-z : first_of z ≡ moved_first dx dy y
  first-z = ap first_of (moved-step dx dy 0 y held) ∙ moved-first dx dy y held (moved_tables dx dy 0 (rest_of y))

  cell-z : (p : ℕ) → p < row_width → cell_at z p ≡ cell_at (moved_first dx dy y) p
  cell-z p l = sym (cell-first z p l) ∙ ap (λ (v : Tables). cell_at v p) first-z

  kind-z : kind_of z ≡ kind_of y
  kind-z = ap nat_of (cell-z 0 (omega arith) ∙ kept-early dx dy y held 0 (omega arith))

  vertices-z : count_at z vertices_place ≡ count_at y vertices_place
  vertices-z = ap nat_of (cell-z 11 (omega arith) ∙ kept-late dx dy y held 11 (omega arith) (omega arith))

  islands-z : islands_of z ≡ islands_of y
  islands-z = ap (λ (v : Tables). v.islands) first-z

  ring-z : (first ring : ℕ) → ring_of_row z first ring ≡ ring_of_row y first ring
  unfolding ring_of_row
  ring-z first ring = rw (kind-z, vertices-z, islands-z)

  area-one : (ring : ℕ) → ring_area_at h 1 z 0 ring ≡ ring_area_at h 1 y 0 ring
  unfolding ring_area_at ring_at
  area-one ring =
      ap (λ (s : Result Stand Unfound). area_found z.points (ring_found z ring s)) (sought-one h z fz) ∙ ap₂ area_found pz (ap ring_or_missing (ring-z 0 ring)) ∙ area-as dx dy y.points (ring_or_missing (ring_of_row y 0 ring))
      ∙ sym (ap (λ (s : Result Stand Unfound). area_found y.points (ring_found y ring s)) (sought-one h y fy))

  check-one : (ring : ℕ) → ring_check_at h 1 z 0 ring ≡ ring_check_at h 1 y 0 ring
  unfolding ring_check_at ring_at
  check-one ring =
      ap (λ (s : Result Stand Unfound). check_found z.points (ring_found z ring s)) (sought-one h z fz) ∙ ap₂ check_found pz (ap ring_or_missing (ring-z 0 ring)) ∙ check-as dx dy y.points (ring_or_missing (ring_of_row y 0 ring))
      ∙ sym (ap (λ (s : Result Stand Unfound). check_found y.points (ring_found y ring s)) (sought-one h y fy))

  net-one : net_area_at h 1 z 0 ≡ net_area_at h 1 y 0
  unfolding net_area_at net_area_of
  net-one =
      ap (net_found z) (sought-one h z fz) ∙ rw (kind-z, vertices-z, islands-z, pz, areas-moved dx dy y.points (count_at y vertices_place) (islands_of y))
      (sym (ap (net_found y) (sought-one h y fy)))

-- **of every row of a sheet that is moved**
module _ (h : Header) (n : ℕ) (t : Tables) (dx dy : ℤ) (e : judge_of Loose h n t ≡ Ok tt) (m : is_move dx dy n t ≡ true) (k : ℕ) (l : k < n) where
  abbrev w : Tables
  w = moved_tables dx dy n t

  fine-w : judge_of Loose h n w ≡ Ok tt
  fine-w = moved-fine Loose h n t dx dy e m

  alone : row_alone k w ≡ moved_tables dx dy 1 (row_alone k t)
  alone = alone-moved h n t dx dy k e l

  fine-y : judge_of Loose h 1 (row_alone k t) ≡ Ok tt
  fine-y = alone-fine h n t k e l

  fine-z : judge_of Loose h 1 (moved_tables dx dy 1 (row_alone k t)) ≡ Ok tt
  fine-z = ap (judge_of Loose h 1) (sym alone) ∙ alone-fine h n w k fine-w l

  points-z : (moved_tables dx dy 1 (row_alone k t)).points ≡ moved dx dy (row_alone k t).points
  points-z =
      let x = left_at t (stand_of k t.rows) in
      y-points dx dy x (made_held x (ap is_made (left-rest k t) ∙ made-rest n k none_before t (fine-rows h n t e) l))

  pub area-kept : (ring : ℕ) → ring_area_at h n w k ring ≡ ring_area_at h n t k ring
  area-kept ring =
      sym (area-alone h n w k fine-w l ring) ∙ ap (λ (v : Tables). ring_area_at h 1 v 0 ring) alone ∙ area-one h dx dy (row_alone k t) fine-y fine-z points-z ring ∙ area-alone h n t k e l ring

  pub net-kept : net_area_at h n w k ≡ net_area_at h n t k
  net-kept = sym (net-alone h n w k fine-w l) ∙ ap (λ (v : Tables). net_area_at h 1 v 0) alone ∙ net-one h dx dy (row_alone k t) fine-y fine-z points-z ∙ net-alone h n t k e l

  pub check-kept : (ring : ℕ) → ring_check_at h n w k ring ≡ ring_check_at h n t k ring
  check-kept ring =
      sym (check-alone h n w k fine-w l ring) ∙ ap (λ (v : Tables). ring_check_at h 1 v 0 ring) alone ∙ check-one h dx dy (row_alone k t) fine-y fine-z points-z ring ∙ check-alone h n t k e l ring
