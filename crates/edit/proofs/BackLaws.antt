-- An accepted move followed by its opposite gives the sheet as it stood, and is accepted (document 02, T-08). Assumes nothing.
use mathlib.Core.Path.{◌≡◌, refl, sym, ◌∙◌, ap, ap₂}
use mathlib.Core.List.{List, [], ◌∷◌, ◌++◌}
use mathlib.Core.Bool.{Bool, true, false, cond, not, ◌&&◌, ◌||◌}
use Prim.Native.Nat.{ℕ, zero, suc, ◌+◌, ◌*◌, ◌≤◌, ◌<◌}
use native.Mathlib.Omega.{arith}
use lib.Dec.{leb, eqb}
use lib.ListN.{length, get_or, take, drop, take-append-drop, length-drop, get_or-append}
use lib.Seq.{length-take-le, take_at, drop_at, drop-append_seam}
use lib.IntN.{ℤ, pos, neg_ℤ, nat_abs, ◌+ℤ◌}
use borrow.Author.Tests.{leb-true, le-leb, ne_eqb}
use Rattle.std.proofs.Common.{Result, Ok, Err}
use Rattle.laws.specs.Lists.{below, over}
use Rattle.laws.proofs.Choice.{and_left, and_right, and_both}
use Rattle.laws.proofs.ListLaws.{below_at, below_all}
use Rattle.laws.proofs.Parts.{num, sum, neg-P, neg-N, eq-parts}
use Rattle.record.specs.declared.Mode.TheVariants.{Loose}
use Rattle.number.specs.Number.{is_real}
use Rattle.kinds.specs.Kinds.{row_width, own_width, vertices_place, want_at}
use Rattle.heading.specs.declared.Header.{Header}
use Rattle.plane.specs.Moved.{moved}
use Rattle.plane.proofs.MovedLaws.{length_moved}
use Rattle.sheet.specs.Tables.{Tables}
use Rattle.made.specs.declared.Flaw.{Flaw}
use Rattle.made.specs.Made.{nat_of, cell_at, count_at, kind_of, islands_of, points_of, rest_of, has_field, in_range, is_cell, cell_test, are_numbers, are_letters, are_counts, are_reals, are_closed, ring_sizes, are_points, is_made, none_before, judge_rows, judge_of, used_of, Before, past_row}
use Rattle.made.proofs.RowWays.{made_held}
use Rattle.made.proofs.UsedLaws.{fine-on}
use Rattle.row.proofs.SeekLaws.{fine-rows}
use Rattle.edit.specs.Rows.{every_row, each_row}
use Rattle.edit.specs.Moves.{move_most, is_part, is_moved, part_at, moved_cell, moved_cells, moved_row, moved_rows, cell_stays, row_stays, rows_stay, moved_tables, is_move, moved_after, move_of}
use Rattle.edit.specs.Used.{vertex_count}
use Rattle.edit.proofs.RowMoves.{length-row}
use Rattle.edit.proofs.SheetMoves.{used-points, judged-long}
use Rattle.edit.proofs.MoveLaws.{row-cell, still, still-late, reals-append, moved-fine}

there_back : (z d : ℤ) → (z +ℤ d) +ℤ neg_ℤ d ≡ z
there_back z d = eq-parts ((z +ℤ d) +ℤ neg_ℤ d) z (omega (arith, num z, num d, num (neg_ℤ d), neg-P d, neg-N d, sum z d, sum (z +ℤ d) (neg_ℤ d)))

part-back : (d : ℤ) → is_part (neg_ℤ d) ≡ is_part d
unfolding is_part
part-back d = ap (λ (n : ℕ). leb n move_most) (let e : nat_abs (neg_ℤ d) ≡ nat_abs d = omega (arith, num d, num (neg_ℤ d), neg-P d, neg-N d) in e)

module _ (dx dy : ℤ) where
  abbrev ex : ℤ
  ex = neg_ℤ dx

  abbrev ey : ℤ
  ey = neg_ℤ dy

  -- ---- a row

  cell-back : (kind p : ℕ) (z : ℤ) → moved_cell ex ey kind p (moved_cell dx dy kind p z) ≡ z
  unfolding moved_cell part_at
  cell-back kind p z = go (is_moved kind p) (eqb p 5 || eqb p 7)
    where
      go : (a b : Bool) → cond a (cond a (z +ℤ cond b dx dy) z +ℤ cond b ex ey) (cond a (z +ℤ cond b dx dy) z) ≡ z
      go true true = there_back z dx
      go true false = there_back z dy
      go false b = refl

  cells-back : (kind p : ℕ) (s : List ℤ) → moved_cells ex ey kind p (moved_cells dx dy kind p s) ≡ s
  unfolding moved_cells
  cells-back kind p [] = refl
  cells-back kind p (z ∷ s) = ap₂ (λ (a : ℤ) (b : List ℤ). a ∷ b) (cell-back kind p z) (cells-back kind (suc p) s)

  module _ (rows u : List ℤ) (l : row_width ≤ length rows) where
    long : length (moved_row dx dy rows) ≡ row_width
    long = length-row dx dy rows l

    kind-kept : nat_of (get_or (moved_row dx dy rows ++ u) 0 (pos 0)) ≡ nat_of (get_or rows 0 (pos 0))
    kind-kept =
        ap nat_of (get_or-append (moved_row dx dy rows) u (pos 0) 0 (omega (arith, long)) ∙ row-cell dx dy rows l 0 (omega arith) ∙ still dx dy (nat_of (get_or rows 0 (pos 0))) 0 (get_or rows 0 (pos 0)) (omega arith))

    row_back : moved_row ex ey (moved_row dx dy rows ++ u) ≡ take row_width rows
    unfolding moved_row
    row_back =
        ap₂ (λ (k : ℕ) (s : List ℤ). moved_cells ex ey k 0 s) kind-kept (take_at (moved_row dx dy rows) u row_width long)
        ∙ cells-back (nat_of (get_or rows 0 (pos 0))) 0 (take row_width rows)

  rows_back : (n : ℕ) (rows : List ℤ) → row_width * n ≤ length rows → moved_rows ex ey n (moved_rows dx dy n rows) ≡ rows
  unfolding each_row
  rows_back zero rows l = refl
  rows_back (suc n) rows l =
      let u = moved_rows dx dy n (drop row_width rows) in
      ap₂ (λ (a b : List ℤ). a ++ b) (row_back rows u (omega arith))
      (ap (moved_rows ex ey n) (drop_at (moved_row dx dy rows) u row_width (length-row dx dy rows (omega arith))) ∙ rows_back n (drop row_width rows) (omega (arith, length-drop row_width rows)))
      ∙ take-append-drop row_width rows

  -- the counts of vertices are as they were
  vertices-kept : (n : ℕ) (rows : List ℤ) → row_width * n ≤ length rows → vertex_count n (moved_rows dx dy n rows) ≡ vertex_count n rows
  unfolding vertex_count each_row
  vertices-kept zero rows l = refl
  vertices-kept (suc n) rows l =
      let u = moved_rows dx dy n (drop row_width rows) in
      let k = length-row dx dy rows (omega arith) in
      ap₂ (λ (a b : ℕ). a + b)
      (ap nat_of (get_or-append (moved_row dx dy rows) u (pos 0) vertices_place (omega (arith, k)) ∙ row-cell dx dy rows (omega arith) vertices_place (omega arith) ∙ still-late dx dy (nat_of (get_or rows 0 (pos 0))) vertices_place (get_or rows vertices_place (pos 0)) (omega arith)))
      (ap (vertex_count n) (drop_at (moved_row dx dy rows) u row_width k) ∙ vertices-kept n (drop row_width rows) (omega (arith, length-drop row_width rows)))

  -- ---- points

  points-back : (s : List ℤ) → moved ex ey (moved dx dy s) ≡ s
  unfolding moved
  points-back [] = refl
  points-back (x ∷ []) = refl
  points-back (x ∷ y ∷ s) = ap₂ (λ (a : ℤ) (b : List ℤ). a ∷ b) (there_back x dx) (ap₂ (λ (a : ℤ) (b : List ℤ). a ∷ b) (there_back y dy) (points-back s))

  -- ---- the sheet

  module _ (n : ℕ) (t : Tables) (a : row_width * n ≤ length t.rows) (b : 2 * vertex_count n t.rows ≤ length t.points) where
    abbrev q : List ℤ
    q = moved dx dy (used_of n t).points

    q-long : length q ≡ 2 * vertex_count n t.rows
    q-long = length_moved dx dy (used_of n t).points ∙ ap length (used-points n t) ∙ length-take-le (2 * vertex_count n t.rows) t.points b

    -- the points that the moved rows use
    pub used-moved-points : (used_of n (moved_tables dx dy n t)).points ≡ q
    unfolding moved_tables
    used-moved-points =
        used-points n (moved_tables dx dy n t)
        ∙ ap (λ (k : ℕ). take (2 * k) (q ++ drop (length q) t.points)) (vertices-kept n t.rows a)
        ∙ take_at q (drop (length q) t.points) (2 * vertex_count n t.rows) q-long

    -- **moved there and back, all tables are as they stood**
    pub tables-back : moved_tables ex ey n (moved_tables dx dy n t) ≡ t
    unfolding moved_tables
    tables-back =
        let c : (used_of n (moved_tables dx dy n t)).points ≡ q = used-moved-points in
        let e : moved ex ey q ≡ (used_of n t).points = points-back (used_of n t).points in
        let f : length (used_of n t).points ≡ length q = sym (length_moved dx dy (used_of n t).points) in
        let g : over (moved ex ey (used_of n (moved_tables dx dy n t)).points) (over q t.points) ≡ t.points
        = ap (λ (x : List ℤ). over (moved ex ey x) (over q t.points)) c ∙ ap (λ (x : List ℤ). over x (over q t.points)) e
        ∙ ap (λ (j : ℕ). (used_of n t).points ++ drop j (q ++ drop (length q) t.points)) f
        ∙ ap (λ (x : List ℤ). (used_of n t).points ++ x) (drop-append_seam q (drop (length q) t.points))
        ∙ ap₂ (λ (x : List ℤ) (j : ℕ). x ++ drop j t.points) (used-points n t) q-long ∙ take-append-drop (2 * vertex_count n t.rows) t.points in
        ap₂ (λ (r p : List ℤ). record { rows = r; letters = t.letters; islands = t.islands; points = p }) (rows_back n t.rows a) g

-- ---- it is accepted

-- a number that may move is a real
real-cell : (kind p : ℕ) (z : ℤ) → is_cell kind p z ≡ true → is_moved kind p ≡ true → is_real z ≡ true
unfolding is_moved is_cell in_range want_at
real-cell kind p z c e =
    let low = leb-true 5 p (and_left (leb 5 p) (leb p 8) (and_left (leb 5 p && leb p 8) (has_field kind p) e)) in
    let high = leb-true p 8 (and_right (leb 5 p) (leb p 8) (and_left (leb 5 p && leb p 8) (has_field kind p) e)) in
    rw (ne_eqb p 0 (λ q. omega arith), ne_eqb p 1 (λ q. omega arith), and_right (leb 5 p && leb p 8) (has_field kind p) e, ne_eqb p 9 (λ q. omega arith), le-leb 4 p (omega arith), le-leb p 8 high) at c

not-or : (a b : Bool) → (a ≡ true → b ≡ true) → (not a || b) ≡ true
not-or true b f = f refl
not-or false b f = refl

numbers : (t : Tables) → is_made t ≡ true → are_numbers t.rows ≡ true
unfolding is_made
numbers t m =
    let N = are_numbers t.rows in
    let L = are_letters (count_at t 9) t.letters in
    let C = are_counts (kind_of t) (count_at t 10) (count_at t 11) t.islands in
    let P = are_points (kind_of t) (count_at t 11) (islands_of t) t.points in
    and_left N L (and_left (N && L) C (and_left (N && L && C) P m))

low-place : (kind p : ℕ) → is_moved kind p ≡ true → p < own_width
unfolding is_moved
low-place kind p e = let h = leb-true p 8 (and_right (leb 5 p) (leb p 8) (and_left (leb 5 p && leb p 8) (has_field kind p) e)) in omega arith

was-real : (t : Tables) → is_made t ≡ true → (p : ℕ) → is_moved (kind_of t) p ≡ true → is_real (cell_at t p) ≡ true
unfolding are_numbers
was-real t m p e =
    real-cell (kind_of t) p (cell_at t p)
    (below_at own_width (cell_test t.rows) p (and_right (leb row_width (length t.rows)) (below own_width (cell_test t.rows)) (numbers t m)) (low-place (kind_of t) p e)) e

cell-real : (dx dy : ℤ) (kind p : ℕ) (z : ℤ) → is_moved kind p ≡ true → is_real z ≡ true → is_real (moved_cell dx dy kind p z +ℤ part_at (neg_ℤ dx) (neg_ℤ dy) p) ≡ true
unfolding moved_cell part_at
cell-real dx dy kind p z e f = rw e (go (eqb p 5 || eqb p 7))
  where
    go : (b : Bool) → is_real ((z +ℤ cond b dx dy) +ℤ cond b (neg_ℤ dx) (neg_ℤ dy)) ≡ true
    go true = rw (there_back z dx) f
    go false = rw (there_back z dy) f

own-real : (t : Tables) → is_made t ≡ true → are_reals (points_of t) ≡ true
unfolding is_made are_points
own-real t m =
    let v = count_at t vertices_place in
    let A = leb (2 * v) (length t.points) in
    let B = are_reals (take (2 * v) t.points) in
    let C = not (eqb (kind_of t) 1) || are_closed (ring_sizes v (islands_of t)) t.points in
    let F = are_numbers t.rows && are_letters (count_at t 9) t.letters && are_counts (kind_of t) (count_at t 10) v t.islands in
    and_right A B (and_left (A && B) C (and_right F (A && B && C) m))

module _ (dx dy : ℤ) where
  -- of a row that is well made
  row-stays-back : (t : Tables) (u : List ℤ) → is_made t ≡ true → row_stays (neg_ℤ dx) (neg_ℤ dy) (moved_row dx dy t.rows ++ u) ≡ true
  unfolding row_stays
  row-stays-back t u m =
      let r = made_held t m in
      below_all row_width (cell_stays (neg_ℤ dx) (neg_ℤ dy) (moved_row dx dy t.rows ++ u)) (λ p l.
      let k = length-row dx dy t.rows r.row in
      let at : get_or (moved_row dx dy t.rows ++ u) p (pos 0) ≡ moved_cell dx dy (kind_of t) p (cell_at t p) = get_or-append (moved_row dx dy t.rows) u (pos 0) p (omega (arith, k)) ∙ row-cell dx dy t.rows r.row p l in
      rw (kind-kept dx dy t.rows u r.row, at) (not-or (is_moved (kind_of t) p) _ (λ e. cell-real dx dy (kind_of t) p (cell_at t p) e (was-real t m p e))))

  rows-stay-back : (n : ℕ) (b : Before) (t : Tables) → judge_rows Loose n b t ≡ Ok tt → rows_stay (neg_ℤ dx) (neg_ℤ dy) n (moved_rows dx dy n t.rows) ≡ true
  unfolding every_row each_row
  rows-stay-back zero b t e = refl
  rows-stay-back (suc n) b t e =
      let g = fine-on Loose n b t e in
      let u = moved_rows dx dy n (drop row_width t.rows) in
      and_both (row_stays (neg_ℤ dx) (neg_ℤ dy) (moved_row dx dy t.rows ++ u)) (rows_stay (neg_ℤ dx) (neg_ℤ dy) n (drop row_width (moved_row dx dy t.rows ++ u)))
      (row-stays-back t u g.0)
      (ap (rows_stay (neg_ℤ dx) (neg_ℤ dy) n) (drop_at (moved_row dx dy t.rows) u row_width (length-row dx dy t.rows (made_held t g.0).row)) ∙ rows-stay-back n (past_row b t) (rest_of t) g.1)

-- the points that well made rows use are reals
pub used-real : (n : ℕ) (b : Before) (t : Tables) → judge_rows Loose n b t ≡ Ok tt → are_reals (used_of n t).points ≡ true
unfolding used_of are_reals
used-real zero b t e = refl
used-real (suc n) b t e =
    let g = fine-on Loose n b t e in
    reals-append (points_of t) (used_of n (rest_of t)).points ∙ and_both (are_reals (points_of t)) (are_reals (used_of n (rest_of t)).points) (own-real t g.0) (used-real n (past_row b t) (rest_of t) g.1)

-- **an accepted move followed by its opposite** is accepted, and gives the sheet as it stood
module _ (h : Header) (n : ℕ) (t : Tables) (dx dy : ℤ) (a : move_of h n t dx dy ≡ Ok n) where
  both : (judge_of Loose h n t ≡ Ok tt) × (is_move dx dy n t ≡ true)
  unfolding move_of
  both = go (judge_of Loose h n t) refl (is_move dx dy n t) refl a
    where
      go : (v : Result Unit Flaw) → judge_of Loose h n t ≡ v → (b : Bool) → is_move dx dy n t ≡ b → moved_after v n b ≡ Ok n → (judge_of Loose h n t ≡ Ok tt) × (is_move dx dy n t ≡ true)
      go (Ok u) p true q e = (p, q)
      go (Ok u) p false q e = absurd (let z : ◌≡◌ {A = ℕ} 0 1 = cc in omega arith)
      go (Err f) p b q e = absurd (let z : ◌≡◌ {A = ℕ} 0 1 = cc in omega arith)

  fits : (row_width * n ≤ length t.rows) × (2 * vertex_count n t.rows ≤ length t.points)
  fits = judged-long h n t dx dy (Ok tt) (sym both.0) refl

  pub back-given : moved_tables (neg_ℤ dx) (neg_ℤ dy) n (moved_tables dx dy n t) ≡ t
  back-given = tables-back dx dy n t fits.0 fits.1

  is-back : is_move (neg_ℤ dx) (neg_ℤ dy) n (moved_tables dx dy n t) ≡ true
  unfolding is_move moved_tables
  is-back =
      let p = both.1 in
      let x = and_left (is_part dx) (is_part dy && (rows_stay dx dy n t.rows && are_reals (moved dx dy (used_of n t).points))) p in
      let r = and_right (is_part dx) (is_part dy && (rows_stay dx dy n t.rows && are_reals (moved dx dy (used_of n t).points))) p in
      let y = and_left (is_part dy) (rows_stay dx dy n t.rows && are_reals (moved dx dy (used_of n t).points)) r in
      let j = fine-rows h n t both.0 in
      and_both (is_part (neg_ℤ dx)) _ (part-back dx ∙ x) (and_both (is_part (neg_ℤ dy)) _ (part-back dy ∙ y)
      (and_both (rows_stay (neg_ℤ dx) (neg_ℤ dy) n (moved_rows dx dy n t.rows)) _ (rows-stay-back dx dy n none_before t j)
      (ap (λ (s : List ℤ). are_reals (moved (neg_ℤ dx) (neg_ℤ dy) s)) (used-moved-points dx dy n t fits.0 fits.1) ∙ ap are_reals (points-back dx dy (used_of n t).points) ∙ used-real n none_before t j)))

  pub back-accepted : move_of h n (moved_tables dx dy n t) (neg_ℤ dx) (neg_ℤ dy) ≡ Ok n
  unfolding move_of
  back-accepted = rw (moved-fine Loose h n t dx dy both.0 both.1, is-back)
