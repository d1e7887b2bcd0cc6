-- A well made sheet that is moved is well made (document 02, T-08): a row and its points first, then row by row. Assumes nothing.
use mathlib.Core.Path.{◌≡◌, refl, sym, ◌∙◌, ap, ap₂}
use mathlib.Core.List.{List, [], ◌∷◌, ◌++◌, append_assoc}
use mathlib.Core.Bool.{Bool, true, false, cond, not, ◌&&◌, ◌||◌}
use Prim.Native.Nat.{ℕ, zero, suc, ◌+◌, ◌-◌, ◌*◌, ◌≤◌, ◌<◌}
use native.Mathlib.Omega.{arith}
use lib.Dec.{leb, eqb}
use lib.ListN.{length, get_or, take, drop, length-append, length-drop, take-append-drop}
use lib.Seq.{length-take-le, get_or-take, take_all, drop-drop}
use lib.IntN.{ℤ, pos, ◌+ℤ◌, ◌-ℤ◌}
use borrow.Author.Tests.{leb-true, le-leb, lt-leb, ne_eqb, eqb-true}
use Rattle.std.proofs.Common.{Result, Ok, Err}
use Rattle.laws.specs.Lists.{below}
use Rattle.laws.specs.Whole.{eq_z}
use Rattle.laws.proofs.Choice.{true≢false, and_left, and_right, and_both, and-false, cond-first}
use Rattle.laws.proofs.ListLaws.{left-none, below_at, below_all}
use Rattle.laws.proofs.Parts.{num, sum, diff, eq-parts}
use Rattle.laws.proofs.Bits.{eq_z-yes, eq_z-no, eq_z-same}
use Rattle.record.specs.declared.Mode.{Mode}
use Rattle.number.specs.Number.{is_real}
use Rattle.kinds.specs.Kinds.{row_width, own_width, code_place, letters_place, islands_place, vertices_place, first_letter_place, first_island_place, first_point_place, want_at}
use Rattle.heading.specs.declared.Header.{Header}
use Rattle.heading.specs.Heading.{is_header}
use Rattle.plane.specs.Moved.{moved}
use Rattle.plane.proofs.MovedLaws.{length_moved, x-moved, y-moved}
use Rattle.sheet.specs.Tables.{Tables, ◌then◌, Starts}
use Rattle.made.specs.declared.Flaw.TheVariants.{BadHeader}
use Rattle.made.specs.Made.{tables_of, nat_of, cell_at, count_at, kind_of, letters_of, islands_of, points_of, first_of, rest_of, has_field, in_range, is_cell, is_cell_at, cell_test, are_numbers, are_letters, sum as total_of, are_counts, are_reals, is_closed, are_closed, ring_sizes, are_points, is_made, are_starts, Before, none_before, past_row, is_coded, judge_rows, judge_of, used_of}
use Rattle.made.proofs.RowWays.{Held, made_held, border-outer}
use Rattle.made.proofs.OwnLaws.{first-first, cell-first, made-first, first_then, rest_then}
use Rattle.made.proofs.UsedLaws.{fine-on, fine_before}
use Rattle.edit.specs.Rows.{every_row, each_row}
use Rattle.edit.specs.Moves.{is_part, is_moved, part_at, moved_cell, moved_cells, moved_row, cell_stays, row_stays, rows_stay, moved_tables, is_move}
use Rattle.edit.proofs.RowMoves.{length-row}

-- ---- the numbers of a row

module _ (dx dy : ℤ) (kind : ℕ) where
  cells_at : (p : ℕ) (s : List ℤ) (i : ℕ) → i < length s → get_or (moved_cells dx dy kind p s) i (pos 0) ≡ moved_cell dx dy kind (p + i) (get_or s i (pos 0))
  unfolding moved_cells
  cells_at p [] i h = absurd (omega arith)
  cells_at p (z ∷ s) zero h = let e : p + 0 ≡ p = omega arith in rw e
  cells_at p (z ∷ s) (suc i) h =
      let e : p + suc i ≡ suc p + i = omega arith in
      rw e (cells_at (suc p) s i (omega arith))

  -- before the x and behind the second y nothing moves
  pub still : (p : ℕ) (z : ℤ) → (p < 5) → moved_cell dx dy kind p z ≡ z
  unfolding moved_cell is_moved
  still p z h = rw (lt-leb 5 p h)

  pub still-late : (p : ℕ) (z : ℤ) → 9 ≤ p → moved_cell dx dy kind p z ≡ z
  unfolding moved_cell is_moved
  still-late p z h = rw (lt-leb p 8 h, and-false (leb 5 p))

module _ (dx dy : ℤ) (rows : List ℤ) (l : row_width ≤ length rows) where
  pub row-cell : (p : ℕ) → p < row_width → get_or (moved_row dx dy rows) p (pos 0) ≡ moved_cell dx dy (nat_of (get_or rows 0 (pos 0))) p (get_or rows p (pos 0))
  unfolding moved_row
  row-cell p h =
      let z : 0 + p ≡ p = omega arith in
      cells_at dx dy (nat_of (get_or rows 0 (pos 0))) 0 (take row_width rows) p (omega (arith, length-take-le row_width rows l))
      ∙ ap₂ (λ (j : ℕ) (x : ℤ). moved_cell dx dy (nat_of (get_or rows 0 (pos 0))) j x) z (get_or-take row_width rows p (pos 0) h)

-- ---- points

drop-moved : (dx dy : ℤ) (n : ℕ) (s : List ℤ) → drop (2 * n) (moved dx dy s) ≡ moved dx dy (drop (2 * n) s)
unfolding moved
drop-moved dx dy zero s = refl
drop-moved dx dy (suc n) [] = let e : 2 * suc n ≡ suc (suc (2 * n)) = omega arith in rw e
drop-moved dx dy (suc n) (x ∷ []) = let e : 2 * suc n ≡ suc (suc (2 * n)) = omega arith in rw e
drop-moved dx dy (suc n) (x ∷ y ∷ s) = let e : 2 * suc n ≡ suc (suc (2 * n)) = omega arith in rw e (drop-moved dx dy n s)

pub moved-append : (dx dy : ℤ) (n : ℕ) (a b : List ℤ) → length a ≡ 2 * n → moved dx dy (a ++ b) ≡ moved dx dy a ++ moved dx dy b
unfolding moved
moved-append dx dy zero [] b h = refl
moved-append dx dy zero (x ∷ a) b h = absurd (omega arith)
moved-append dx dy (suc n) [] b h = absurd (omega arith)
moved-append dx dy (suc n) (x ∷ []) b h = absurd (omega arith)
moved-append dx dy (suc n) (x ∷ y ∷ a) b h = ap (λ (s : List ℤ). (x +ℤ dx) ∷ (y +ℤ dy) ∷ s) (moved-append dx dy n a b (omega arith))

pub reals-append : (a b : List ℤ) → are_reals (a ++ b) ≡ (are_reals a && are_reals b)
unfolding are_reals
reals-append [] b = refl
reals-append (z ∷ a) b = ap (λ (x : Bool). is_real z && x) (reals-append a b) ∙ nest (is_real z) (are_reals a) (are_reals b)
  where
    nest : (x y w : Bool) → (x && (y && w)) ≡ ((x && y) && w)
    nest true y w = refl
    nest false y w = refl

-- equal numbers stay equal, others do not become so
pub same-shift : (a b d : ℤ) → eq_z (a +ℤ d) (b +ℤ d) ≡ eq_z a b
same-shift a b d = go (eq_z a b) refl
  where
    go : (t : Bool) → eq_z a b ≡ t → eq_z (a +ℤ d) (b +ℤ d) ≡ t
    go true e = eq_z-yes (a +ℤ d) (b +ℤ d) (ap (λ (x : ℤ). x +ℤ d) (eq_z-same a b e))
    go false e = eq_z-no (a +ℤ d) (b +ℤ d) (λ f. true≢false (sym (eq_z-yes a b (cancel f)) ∙ e))
      where
        cancel : a +ℤ d ≡ b +ℤ d → a ≡ b
        cancel f = sym (back a) ∙ ap (λ (x : ℤ). x -ℤ d) f ∙ back b
          where
            back : (z : ℤ) → (z +ℤ d) -ℤ d ≡ z
            back z = eq-parts ((z +ℤ d) -ℤ d) z (omega (arith, num z, num d, sum z d, diff (z +ℤ d) d))

module _ (dx dy : ℤ) where
  ring-moved : (n : ℕ) (s : List ℤ) → 2 * n ≤ length s → is_closed n (moved dx dy s) ≡ is_closed n s
  unfolding is_closed
  ring-moved zero s h = rw (eq_z-yes (get_or (moved dx dy s) 0 (pos 0)) (get_or (moved dx dy s) 0 (pos 0)) refl, eq_z-yes (get_or (moved dx dy s) 1 (pos 0)) (get_or (moved dx dy s) 1 (pos 0)) refl, eq_z-yes (get_or s 0 (pos 0)) (get_or s 0 (pos 0)) refl, eq_z-yes (get_or s 1 (pos 0)) (get_or s 1 (pos 0)) refl)
  ring-moved (suc n) s h =
      let a = x-moved dx dy s (suc n - 1) (omega arith) in
      let b = y-moved dx dy s (suc n - 1) (omega arith) in
      let c = x-moved dx dy s 0 (omega arith) in
      let d = y-moved dx dy s 0 (omega arith) in
      rw (a, b, c, d, same-shift (get_or s (2 * (suc n - 1)) (pos 0)) (get_or s 0 (pos 0)) dx, same-shift (get_or s (2 * (suc n - 1) + 1) (pos 0)) (get_or s 1 (pos 0)) dy)

  pub closed-moved : (ns : List ℕ) (s : List ℤ) → 2 * total_of ns ≤ length s → are_closed ns (moved dx dy s) ≡ are_closed ns s
  unfolding are_closed total_of
  closed-moved [] s h = refl
  closed-moved (n ∷ ns) s h =
      ap₂ (λ (a b : Bool). a && b) (ring-moved n s (omega arith)) (ap (are_closed ns) (drop-moved dx dy n s) ∙ closed-moved ns (drop (2 * n) s) (omega (arith, length-drop (2 * n) s)))

-- ---- a row alone, moved

abbrev pub moved_first : ℤ → ℤ → Tables → Tables
moved_first dx dy t = tables_of (moved_row dx dy t.rows) (letters_of t) (islands_of t) (moved dx dy (points_of t))

module _ (dx dy : ℤ) (t : Tables) (r : Held t) where
  abbrev o : Tables
  o = moved_first dx dy t

  pub kept-early : (p : ℕ) → p < 5 → cell_at o p ≡ cell_at t p
  kept-early p h = row-cell dx dy t.rows r.row p (omega arith) ∙ still dx dy (kind_of t) p (cell_at t p) h

  pub kept-late : (p : ℕ) → 9 ≤ p → p < row_width → cell_at o p ≡ cell_at t p
  kept-late p h l = row-cell dx dy t.rows r.row p l ∙ still-late dx dy (kind_of t) p (cell_at t p) h

  kept-count : (p : ℕ) → 9 ≤ p → p < row_width → count_at o p ≡ count_at t p
  kept-count p h l = ap nat_of (kept-late p h l)

  pub first-held : Held o
  first-held =
      record {
        row = omega (arith, length-row dx dy t.rows r.row);
        letters = rw (kept-count 9 (omega arith) (omega arith)) (omega (arith, length-take-le (count_at t letters_place) t.letters r.letters));
        islands = rw (kept-count 10 (omega arith) (omega arith)) (omega (arith, length-take-le (count_at t islands_place) t.islands r.islands));
        points = rw (kept-count 11 (omega arith) (omega arith)) (omega (arith, length_moved dx dy (points_of t), length-take-le (2 * count_at t vertices_place) t.points r.points));
      }

  -- it is its own first row, with nothing behind it
  pub first-self : first_of o ≡ o
  first-self =
      rw (
        kept-count 9 (omega arith) (omega arith),
        kept-count 10 (omega arith) (omega arith),
        kept-count 11 (omega arith) (omega arith),
        take_all row_width (moved_row dx dy t.rows) (omega (arith, length-row dx dy t.rows r.row)),
        take_all (count_at t letters_place) (letters_of t) (omega (arith, length-take-le (count_at t letters_place) t.letters r.letters)),
        take_all (count_at t islands_place) (islands_of t) (omega (arith, length-take-le (count_at t islands_place) t.islands r.islands)),
        take_all (2 * count_at t vertices_place) (moved dx dy (points_of t)) (omega (arith, length_moved dx dy (points_of t), length-take-le (2 * count_at t vertices_place) t.points r.points)),
      )

  rest-none : (u : Tables) → rest_of o then u ≡ u
  rest-none u =
      rw (
        kept-count 9 (omega arith) (omega arith),
        kept-count 10 (omega arith) (omega arith),
        kept-count 11 (omega arith) (omega arith),
        left-none (moved_row dx dy t.rows) row_width (omega (arith, length-row dx dy t.rows r.row)),
        left-none (letters_of t) (count_at t letters_place) (omega (arith, length-take-le (count_at t letters_place) t.letters r.letters)),
        left-none (islands_of t) (count_at t islands_place) (omega (arith, length-take-le (count_at t islands_place) t.islands r.islands)),
        left-none (moved dx dy (points_of t)) (2 * count_at t vertices_place) (omega (arith, length_moved dx dy (points_of t), length-take-le (2 * count_at t vertices_place) t.points r.points)),
      )

  module _ (u : Tables) where
    pub moved-first : first_of (o then u) ≡ o
    moved-first = first_then o u first-held ∙ first-self

    pub moved-rest : rest_of (o then u) ≡ u
    moved-rest = rest_then o u first-held ∙ rest-none u

-- ---- it is well made

moved-cell-made : (kind p : ℕ) (z : ℤ) → is_moved kind p ≡ true → is_real z ≡ true → is_cell kind p z ≡ true
unfolding is_moved is_cell in_range want_at
moved-cell-made kind p z e f =
    let low = leb-true 5 p (and_left (leb 5 p) (leb p 8) (and_left (leb 5 p && leb p 8) (has_field kind p) e)) in
    let high = leb-true p 8 (and_right (leb 5 p) (leb p 8) (and_left (leb 5 p && leb p 8) (has_field kind p) e)) in
    rw (ne_eqb p 0 (λ q. omega arith), ne_eqb p 1 (λ q. omega arith), and_right (leb 5 p && leb p 8) (has_field kind p) e, ne_eqb p 9 (λ q. omega arith), le-leb 4 p (omega arith), le-leb p 8 high) f

-- a number that moves is a real before and behind, another stays
cell-made : (dx dy : ℤ) (kind p : ℕ) (z : ℤ) → is_cell kind p z ≡ true → (not (is_moved kind p) || is_real (z +ℤ part_at dx dy p)) ≡ true → is_cell kind p (moved_cell dx dy kind p z) ≡ true
unfolding moved_cell
cell-made dx dy kind p z c s = go (is_moved kind p) refl s
  where
    go : (b : Bool) → is_moved kind p ≡ b → (not b || is_real (z +ℤ part_at dx dy p)) ≡ true → is_cell kind p (cond b (z +ℤ part_at dx dy p) z) ≡ true
    go true e f = moved-cell-made kind p (z +ℤ part_at dx dy p) e f
    go false e f = c

module _ (dx dy : ℤ) (t : Tables) (m : is_made t ≡ true) (st : row_stays dx dy t.rows ≡ true) (rs : are_reals (moved dx dy (points_of t)) ≡ true) where
  abbrev h : Held t
  h = made_held t m

  abbrev f : Tables
  f = first_of t

  abbrev w : Tables
  w = moved_first dx dy t

  abbrev v : ℕ
  v = count_at t vertices_place

  abbrev i : ℕ
  i = count_at t islands_place

  made-f : is_made f ≡ true
  made-f = made-first t ∙ m

  abbrev NF : Bool
  NF = are_numbers f.rows

  abbrev LF : Bool
  LF = are_letters (count_at f letters_place) (letters_of t)

  abbrev CF : Bool
  CF = are_counts (kind_of f) (count_at f islands_place) (count_at f vertices_place) (islands_of t)

  abbrev PF : Bool
  PF = are_points (kind_of f) (count_at f vertices_place) (islands_of f) (points_of t)

  all-f : ((NF && LF && CF) && PF) ≡ true
  unfolding is_made
  all-f = made-f

  nlc : ((NF && LF) && CF) ≡ true
  nlc = and_left (NF && LF && CF) PF all-f

  nl : (NF && LF) ≡ true
  nl = and_left (NF && LF) CF nlc

  count-f : (p : ℕ) → p < row_width → count_at f p ≡ count_at t p
  count-f p l = ap nat_of (cell-first t p l)

  count-w : (p : ℕ) → 9 ≤ p → p < row_width → count_at w p ≡ count_at t p
  count-w p g l = ap nat_of (kept-late dx dy t h p g l)

  kind-w : kind_of w ≡ kind_of t
  kind-w = ap nat_of (kept-early dx dy t h 0 (omega arith))

  N-w : are_numbers w.rows ≡ true
  unfolding are_numbers row_stays
  N-w =
      and_both (leb row_width (length w.rows)) (below own_width (cell_test w.rows)) (le-leb row_width (length w.rows) (omega (arith, length-row dx dy t.rows h.row)))
      (below_all own_width (cell_test w.rows) (λ p l.
      let was : is_cell_at (kind_of f) f.rows p ≡ true = below_at own_width (cell_test f.rows) p (and_right (leb row_width (length f.rows)) (below own_width (cell_test f.rows)) (and_left NF LF nl)) l in
      let here : is_cell (kind_of t) p (cell_at t p) ≡ true = rw (count-f 0 (omega arith), cell-first t p (omega arith)) at was in
      let stay = below_at row_width (cell_stays dx dy t.rows) p st (omega arith) in
      rw (kind-w, row-cell dx dy t.rows h.row p (omega arith)) (cell-made dx dy (kind_of t) p (cell_at t p) here stay)))

  L-w : are_letters (count_at w letters_place) (letters_of t) ≡ true
  L-w = ap (λ (n : ℕ). are_letters n (letters_of t)) (count-w 9 (omega arith) (omega arith) ∙ sym (count-f 9 (omega arith))) ∙ and_right NF LF nl

  C-t : are_counts (kind_of t) i v (islands_of t) ≡ true
  C-t = rw (count-f 0 (omega arith), count-f 10 (omega arith), count-f 11 (omega arith)) at (and_right (NF && LF) CF nlc)

  C-w : are_counts (kind_of w) (count_at w islands_place) (count_at w vertices_place) (islands_of t) ≡ true
  C-w = rw (kind-w, count-w 10 (omega arith) (omega arith), count-w 11 (omega arith) (omega arith)) C-t

  P-t : are_points (kind_of t) v (islands_of t) (points_of t) ≡ true
  P-t = rw (ap (λ (x : Tables). x.islands) (first-first t), count-f 0 (omega arith), count-f 11 (omega arith)) at (and_right (NF && LF && CF) PF all-f)

  points-long : length (points_of t) ≡ 2 * v
  points-long = length-take-le (2 * v) t.points h.points

  moved-long : length (moved dx dy (points_of t)) ≡ 2 * v
  moved-long = length_moved dx dy (points_of t) ∙ points-long

  islands-w : islands_of w ≡ islands_of t
  islands-w = rw (count-w 10 (omega arith) (omega arith)) (take_all i (islands_of t) (omega (arith, length-take-le i t.islands h.islands)))

  rings-w : (not (eqb (kind_of t) 1) || are_closed (ring_sizes v (islands_of t)) (moved dx dy (points_of t))) ≡ (not (eqb (kind_of t) 1) || are_closed (ring_sizes v (islands_of t)) (points_of t))
  unfolding ring_sizes total_of
  rings-w = go (eqb (kind_of t) 1) refl
    where
      go : (b : Bool) → eqb (kind_of t) 1 ≡ b
          → (not b || are_closed (ring_sizes v (islands_of t)) (moved dx dy (points_of t))) ≡ (not b || are_closed (ring_sizes v (islands_of t)) (points_of t))
      go true k =
          let u = border-outer i v (islands_of t) (rw (eqb-true (kind_of t) 1 k) at C-t) in
          let j : take i (islands_of t) ≡ islands_of t = take_all i (islands_of t) (omega (arith, length-take-le i t.islands h.islands)) in
          closed-moved dx dy (ring_sizes v (islands_of t)) (points_of t) (omega (arith, points-long, ap total_of j))
      go false k = refl

  P-w : are_points (kind_of w) (count_at w vertices_place) (islands_of w) (moved dx dy (points_of t)) ≡ true
  unfolding are_points
  P-w =
      let a = leb (2 * v) (length (points_of t)) in
      let b = are_reals (take (2 * v) (points_of t)) in
      let c = not (eqb (kind_of t) 1) || are_closed (ring_sizes v (islands_of t)) (points_of t) in
      rw (kind-w, count-w 11 (omega arith) (omega arith), islands-w, rings-w, take_all (2 * v) (moved dx dy (points_of t)) (omega (arith, moved-long)), rs, le-leb (2 * v) (length (moved dx dy (points_of t))) (omega (arith, moved-long)))
      (and_right (a && b) c P-t)

  pub moved_made : is_made w ≡ true
  unfolding is_made
  moved_made =
      and_both (are_numbers w.rows && are_letters (count_at w letters_place) (letters_of t) && are_counts (kind_of w) (count_at w islands_place) (count_at w vertices_place) (islands_of t)) _
      (and_both (are_numbers w.rows && are_letters (count_at w letters_place) (letters_of t)) _ (and_both (are_numbers w.rows) _ N-w L-w) C-w) P-w

same-starts : (s : Starts) (a c : Tables) → cell_at a first_letter_place ≡ cell_at c first_letter_place → cell_at a first_island_place ≡ cell_at c first_island_place → cell_at a first_point_place ≡ cell_at c first_point_place
    → are_starts s a.rows ≡ are_starts s c.rows
unfolding are_starts
same-starts s a c x y z = rw (x, y, z)

-- ---- row by row

module _ (dx dy : ℤ) where
  -- the first row moved, and the others moved behind it
  pub moved-step : (n : ℕ) (t : Tables) → Held t → moved_tables dx dy (suc n) t ≡ moved_first dx dy t then moved_tables dx dy n (rest_of t)
  unfolding moved_tables used_of each_row
  moved-step n t r =
      let v = count_at t vertices_place in
      let q = (used_of n (rest_of t)).points in
      let k : length (points_of t) ≡ 2 * v = length-take-le (2 * v) t.points r.points in
      let e : moved dx dy (points_of t ++ q) ≡ moved dx dy (points_of t) ++ moved dx dy q = moved-append dx dy v (points_of t) q k in
      let j : length (moved dx dy (points_of t) ++ moved dx dy q) ≡ 2 * v + length (moved dx dy q) = omega (arith, length-append (moved dx dy (points_of t)) (moved dx dy q), length_moved dx dy (points_of t)) in
      rw (
        e,
        j,
        ← drop-drop (length (moved dx dy q)) (2 * v) t.points,
        append_assoc (moved dx dy (points_of t)) (moved dx dy q) (drop (length (moved dx dy q)) (drop (2 * v) t.points)),
        take-append-drop (count_at t letters_place) t.letters,
        take-append-drop (count_at t islands_place) t.islands,
      )

  stays_step : (n : ℕ) (t : Tables) → Held t → are_reals (moved dx dy (used_of (suc n) t).points) ≡ true
      → (are_reals (moved dx dy (points_of t)) ≡ true) × (are_reals (moved dx dy (used_of n (rest_of t)).points) ≡ true)
  unfolding used_of
  stays_step n t r e =
      let v = count_at t vertices_place in
      let q = (used_of n (rest_of t)).points in
      let k : length (points_of t) ≡ 2 * v = length-take-le (2 * v) t.points r.points in
      let f : (are_reals (moved dx dy (points_of t)) && are_reals (moved dx dy q)) ≡ true = sym (ap are_reals (moved-append dx dy v (points_of t) q k) ∙ reals-append (moved dx dy (points_of t)) (moved dx dy q)) ∙ e in
      (and_left (are_reals (moved dx dy (points_of t))) (are_reals (moved dx dy q)) f, and_right (are_reals (moved dx dy (points_of t))) (are_reals (moved dx dy q)) f)

  pub rows-moved-fine : (mode : Mode) (n : ℕ) (b : Before) (t : Tables) → judge_rows mode n b t ≡ Ok tt → rows_stay dx dy n t.rows ≡ true → are_reals (moved dx dy (used_of n t).points) ≡ true
      → judge_rows mode n b (moved_tables dx dy n t) ≡ Ok tt
  unfolding judge_rows every_row
  rows-moved-fine mode zero b t e s p = refl
  rows-moved-fine mode (suc n) b t e s p =
      let g = fine-on mode n b t e in
      let r = made_held t g.0 in
      let q = stays_step n t r p in
      let x = moved_first dx dy t in
      let u = moved_tables dx dy n (rest_of t) in
      let same : first_of (x then u) ≡ x = moved-first dx dy t r u in
      let cell : (k : ℕ) → k < row_width → cell_at (x then u) k ≡ cell_at x k = λ k l. sym (cell-first (x then u) k l) ∙ ap (λ (y : Tables). cell_at y k) same in
      let early : (k : ℕ) → k < 5 → cell_at (x then u) k ≡ cell_at t k = λ k l. cell k (omega arith) ∙ kept-early dx dy t r k l in
      let late : (k : ℕ) → 9 ≤ k → k < row_width → cell_at (x then u) k ≡ cell_at t k = λ k g l. cell k l ∙ kept-late dx dy t r k g l in
      let made : is_made (x then u) ≡ true = sym (made-first (x then u)) ∙ ap is_made same
      ∙ moved_made dx dy t g.0 (and_left (row_stays dx dy t.rows) (rows_stay dx dy n (drop row_width t.rows)) s) q.0 in
      let starts : are_starts b.starts (x then u).rows ≡ true = same-starts b.starts (x then u) t (late 12 (omega arith) (omega arith)) (late 13 (omega arith) (omega arith)) (late 14 (omega arith) (omega arith)) ∙ g.2 in
      let code : is_coded mode (kind_of (x then u)) (count_at (x then u) code_place) ≡ true = rw (early 0 (omega arith), early 2 (omega arith)) g.3 in
      let past : past_row b (x then u) ≡ past_row b t = rw (late 9 (omega arith) (omega arith), late 10 (omega arith) (omega arith), late 11 (omega arith) (omega arith)) in
      ap (judge_rows mode (suc n) b) (moved-step n t r)
      ∙ fine_before mode n b (x then u) made starts code
      (ap₂ (judge_rows mode n) past (moved-rest dx dy t r u) ∙ rows-moved-fine mode n (past_row b t) (rest_of t) g.1 (and_right (row_stays dx dy t.rows) (rows_stay dx dy n (drop row_width t.rows)) s) q.1)

-- **a well made sheet that is moved is well made**, in every mode
module _ (mode : Mode) (h : Header) (n : ℕ) (t : Tables) (dx dy : ℤ) (e : judge_of mode h n t ≡ Ok tt) (m : is_move dx dy n t ≡ true) where
  pub move-has : (rows_stay dx dy n t.rows ≡ true) × (are_reals (moved dx dy (used_of n t).points) ≡ true)
  unfolding is_move
  move-has =
      let a = and_right (is_part dx) (is_part dy && (rows_stay dx dy n t.rows && are_reals (moved dx dy (used_of n t).points))) m in
      let b = and_right (is_part dy) (rows_stay dx dy n t.rows && are_reals (moved dx dy (used_of n t).points)) a in
      (and_left (rows_stay dx dy n t.rows) (are_reals (moved dx dy (used_of n t).points)) b, and_right (rows_stay dx dy n t.rows) (are_reals (moved dx dy (used_of n t).points)) b)

  pub moved-fine : judge_of mode h n (moved_tables dx dy n t) ≡ Ok tt
  unfolding judge_of
  moved-fine =
      let j = cond-first (is_header h) (judge_rows mode n none_before t) (Err BadHeader) (Ok tt) (λ z. let y : ◌≡◌ {A = ℕ} 0 1 = cc in omega arith) e in
      rw j.0 (rows-moved-fine dx dy mode n none_before t j.1 move-has.0 move-has.1)
