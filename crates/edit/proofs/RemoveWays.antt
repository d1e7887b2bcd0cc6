-- The ways through the function that takes a row out of a judged sheet, and through the one that judges it. Assumes nothing.
use mathlib.Core.Path.{◌≡◌, refl, sym, ◌∙◌, ap, ap₂}
use mathlib.Core.List.{List, [], ◌++◌, append_assoc, append-nil}
use mathlib.Core.Bool.{true, ◌&&◌}
use Prim.Native.Nat.{ℕ, suc, ◌+◌, ◌-◌, ◌*◌, ◌≤◌, ◌<◌, ◌^◌, zero-le}
use native.Mathlib.Omega.{arith}
use lib.ListN.{length, get_or, take, drop, length-append, length-drop, get_or-append}
use lib.Seq.{get_or-drop, get_or-take, length-take-le, take-append-add, take_at, drop_at}
use lib.IntN.{ℤ, pos, negsuc}
use lib.Signed.{mag, le_z}
use Rattle.std.proofs.Common.{Result, Ok, Err}
use Rattle.laws.specs.Lists.{tail}
use Rattle.laws.proofs.Choice.{and_both}
use Rattle.laws.proofs.ListLaws.{rest-is, left-none}
use Rattle.laws.proofs.Bits.{back}
use Rattle.laws.proofs.TableLaws.{length_over}
use Rattle.record.specs.declared.Mode.TheVariants.{Loose}
use Rattle.kinds.specs.Kinds.{row_width, letters_place, islands_place, vertices_place, first_letter_place, first_island_place, first_point_place}
use Rattle.heading.specs.declared.Header.{Header}
use Rattle.sheet.specs.Tables.{Tables, Starts}
use Rattle.made.specs.Made.{nat_of, count_at, starts_at, counts_of, none_before, judge_rows, used_of}
use Rattle.made.proofs.UsedLaws.{total, used-front, Long, fine-long}
use Rattle.made.proofs.StartLaws.{Starting, starts-are, starts-total, past_rows}
use Rattle.row.specs.declared.Stand.{Stand}
use Rattle.row.specs.declared.Stand.{Stand}
use Rattle.row.specs.declared.Unfound.{Unfound}
use Rattle.row.specs.Walk.{word_most, cell_in, stand_of, Stands}
use Rattle.row.specs.Seek.{sought_of}
use Rattle.row.proofs.Walk.{walk-to, walk-own}
use Rattle.row.proofs.SeekLaws.{fine-rows, stood}
use Rattle.edit.specs.Rows.{every_row, each_row}
use Rattle.edit.specs.Removals.{fall_from, without, removed_tables, removed_after, remove_of}
use Rattle.edit.specs.Closing.{closed_up, start_most, is_up, fallen_row, end_stand}
use Rattle.edit.proofs.PartWays.{bits}
use borrow.Author.Tests.{le-leb}
use Rattle.edit.proofs.RowLoops.{every-all}
use Rattle.edit.proofs.LowerWays.{length-fall}
use Rattle.edit.proofs.FallLaws.{fall-take, each-fallen}
use Rattle.edit.proofs.ColumnLaws.{rest_at, count-rest, letters_column, islands_column, points_column, tot-last, tot-upto, closed, rows-flat}

-- ---- a count

count_small : (z : ℤ) → mag z < 2 ^ 63 → nat_of z ≤ start_most
count_small (pos n) h = omega arith
count_small (negsuc n) h = omega arith

pub counted_is : (z : ℤ) → mag z < 2 ^ 63 → (r : ℕ) → r ≡ nat_of (bits z) → (r ≡ nat_of z) × (r ≤ start_most)
counted_is z m r e = let f : r ≡ nat_of z = rw (back z m) at e in (f, rw f (count_small z m))

-- ---- where rows stand and end, by the sums of the counts

module _ (n : ℕ) (t : Tables) (e : judge_rows Loose n none_before t ≡ Ok tt) where
  starting : (k : ℕ) → k < n → Starting (past_rows k none_before t).starts (drop (row_width * k) t.rows)
  starting k h = starts-are (past_rows k none_before t).starts (drop (row_width * k) t.rows) (starts-total Loose n none_before t e k h)

  first-at : (k : ℕ) → k < n → (cell_in (drop (row_width * k) t.rows) first_letter_place ≡ total letters_place k t)
      × (cell_in (drop (row_width * k) t.rows) first_island_place ≡ total islands_place k t) × (cell_in (drop (row_width * k) t.rows) first_point_place ≡ total vertices_place k t)
  first-at k h =
      let s = starting k h in
      let x : 0 + total letters_place k t ≡ total letters_place k t = omega arith in
      let y : 0 + total islands_place k t ≡ total islands_place k t = omega arith in
      let z : 0 + total vertices_place k t ≡ total vertices_place k t = omega arith in
      (ap nat_of s.letters ∙ x, ap nat_of s.islands ∙ y, ap nat_of s.points ∙ z)

  module _ (h : 1 ≤ n) where
    last-first : (cell_in (drop (row_width * (n - 1)) t.rows) first_letter_place ≡ total letters_place (n - 1) t)
        × (cell_in (drop (row_width * (n - 1)) t.rows) first_island_place ≡ total islands_place (n - 1) t) × (cell_in (drop (row_width * (n - 1)) t.rows) first_point_place ≡ total vertices_place (n - 1) t)
    last-first = first-at (n - 1) (omega arith)

    suc-last : suc (n - 1) ≡ n
    suc-last = omega arith

    end-l : (end_stand n t.rows).letters ≡ total letters_place n t
    unfolding end_stand
    end-l = ap₂ (λ (a b : ℕ). a + b) last-first.0 (sym (count-rest (n - 1) t letters_place)) ∙ tot-last letters_column (n - 1) t ∙ ap (λ (j : ℕ). total letters_place j t) suc-last

    end-i : (end_stand n t.rows).islands ≡ total islands_place n t
    unfolding end_stand
    end-i = ap₂ (λ (a b : ℕ). a + b) last-first.1 (sym (count-rest (n - 1) t islands_place)) ∙ tot-last islands_column (n - 1) t ∙ ap (λ (j : ℕ). total islands_place j t) suc-last

    end-p : (end_stand n t.rows).points ≡ 2 * total vertices_place n t
    unfolding end_stand
    end-p =
        let z : 2 * (total vertices_place (n - 1) t + count_at (rest_at (n - 1) t) vertices_place) ≡ 2 * total vertices_place (n - 1) t + 2 * count_at (rest_at (n - 1) t) vertices_place = omega arith in
        ap₂ (λ (a b : ℕ). 2 * (a + b)) last-first.2 (sym (count-rest (n - 1) t vertices_place)) ∙ z ∙ tot-last points_column (n - 1) t ∙ ap (λ (j : ℕ). 2 * total vertices_place j t) suc-last

    end-r : (end_stand n t.rows).row ≡ row_width * n
    unfolding end_stand
    end-r = refl

    pub end-asks : length t.rows ≤ word_most → length t.letters ≤ word_most → length t.islands ≤ word_most → length t.points ≤ word_most
        → (1 ≤ n) × (row_width * n ≤ length t.rows) × Stands word_most word_most word_most word_most (end_stand n t.rows)
    end-asks a b c d =
        let l = fine-long Loose n none_before t e in (
          h,
          l.rows_in,
          record {
            row_in = omega (arith, l.rows_in, end-r);
            letters-in = omega (arith, l.letters-in, end-l);
            islands-in = omega (arith, l.islands-in, end-i);
            points-in = omega (arith, l.points-in, end-p);
          },
        )

-- ---- the row that is taken out

module _ (n k : ℕ) (t : Tables) (e : judge_rows Loose n none_before t ≡ Ok tt) (h : k < n) (d : Stand) (q : d ≡ stand_of k t.rows) where
  abbrev m : ℕ
  m = n - 1

  all-rows : suc m ≡ n
  all-rows = omega arith

  fine-all : judge_rows Loose (suc m) none_before t ≡ Ok tt
  fine-all = ap (λ (j : ℕ). judge_rows Loose j none_before t) all-rows ∙ e

  d-is : d ≡ record { row = row_width * k; letters = total letters_place k t; islands = total islands_place k t; points = 2 * total vertices_place k t }
  d-is =
      let f = first-at n t e k h in
      q ∙ walk-own (walk-to Loose t n e k (omega arith)) h ∙ rw (f.0, f.1, f.2)

  long : Long n t
  long = fine-long Loose n none_before t e

  d-row : d.row ≡ row_width * k
  d-row = ap (λ (x : Stand). x.row) d-is

  pub own-there : (p : ℕ) → p < row_width → d.row + p < length t.rows
  own-there p g = omega (arith, d-row, long.rows_in)

  own-count : (p c : ℕ) → c ≡ nat_of (get_or t.rows (d.row + p) (pos 0)) → c ≡ count_at (rest_at k t) p
  own-count p c f = f ∙ ap (λ (j : ℕ). nat_of (get_or t.rows (j + p) (pos 0))) d-row ∙ ap nat_of (sym (get_or-drop (row_width * k) t.rows p (pos 0))) ∙ sym (count-rest k t p)

  module _ (x : Stand) (ex : x ≡ end_stand n t.rows) where
    x-l : x.letters ≡ total letters_place n t
    x-l = ap (λ (y : Stand). y.letters) ex ∙ end-l n t e (omega arith)

    x-i : x.islands ≡ total islands_place n t
    x-i = ap (λ (y : Stand). y.islands) ex ∙ end-i n t e (omega arith)

    x-p : x.points ≡ 2 * total vertices_place n t
    x-p = ap (λ (y : Stand). y.points) ex ∙ end-p n t e (omega arith)

    x-r : x.row ≡ row_width * n
    x-r = ap (λ (y : Stand). y.row) ex ∙ end-r n t e (omega arith)

    module _ (c : ℕ) (f : c ≡ nat_of (get_or t.rows (d.row + 9) (pos 0))) where
      pub letters-asks : (d.letters + c ≤ x.letters) × (x.letters ≤ length t.letters)
      letters-asks =
          (omega (arith, ap (λ (y : Stand). y.letters) d-is, own-count 9 c f, x-l, tot-upto letters_column n k t h), omega (arith, x-l, long.letters-in))

      pub letters-done : (u : List ℕ) → u ≡ closed_up d.letters c x.letters t.letters → u ≡ (removed_tables n k t).letters
      letters-done u g =
          g ∙ rw (ap (λ (y : Stand). y.letters) d-is, own-count 9 c f, x-l) (ap (λ (j : ℕ). closed_up (total letters_place k t) (count_at (rest_at k t) letters_place) (total letters_place j t) t.letters) (sym all-rows) ∙ closed letters_column Loose m k none_before t fine-all (omega arith))

    module _ (c : ℕ) (f : c ≡ nat_of (get_or t.rows (d.row + 10) (pos 0))) where
      pub islands-asks : (d.islands + c ≤ x.islands) × (x.islands ≤ length t.islands)
      islands-asks =
          (omega (arith, ap (λ (y : Stand). y.islands) d-is, own-count 10 c f, x-i, tot-upto islands_column n k t h), omega (arith, x-i, long.islands-in))

      pub islands-done : (u : List ℕ) → u ≡ closed_up d.islands c x.islands t.islands → u ≡ (removed_tables n k t).islands
      islands-done u g =
          g ∙ rw (ap (λ (y : Stand). y.islands) d-is, own-count 10 c f, x-i) (ap (λ (j : ℕ). closed_up (total islands_place k t) (count_at (rest_at k t) islands_place) (total islands_place j t) t.islands) (sym all-rows) ∙ closed islands_column Loose m k none_before t fine-all (omega arith))

    module _ (c : ℕ) (f : c ≡ nat_of (get_or t.rows (d.row + 11) (pos 0))) where
      pub points-asks : (d.points + 2 * c ≤ x.points) × (x.points ≤ length t.points)
      points-asks =
          (omega (arith, ap (λ (y : Stand). y.points) d-is, own-count 11 c f, x-p, tot-upto points_column n k t h), omega (arith, x-p, long.points-in))

      pub points-done : (u : List ℤ) → u ≡ closed_up d.points (2 * c) x.points t.points → u ≡ (removed_tables n k t).points
      points-done u g =
          g ∙ rw (ap (λ (y : Stand). y.points) d-is, own-count 11 c f, x-p) (ap (λ (j : ℕ). closed_up (2 * total vertices_place k t) (2 * count_at (rest_at k t) vertices_place) (2 * total vertices_place j t) t.points) (sym all-rows) ∙ closed points_column Loose m k none_before t fine-all (omega arith))

    pub rows-asks : (d.row + 15 ≤ x.row) × (x.row ≤ length t.rows)
    rows-asks = (omega (arith, d-row, x-r), omega (arith, x-r, long.rows_in))

    -- the rows closed up, and those behind the row
    abbrev R : List ℤ
    R = t.rows

    abbrev X : List ℤ
    X = take (row_width * (m - k)) (drop (row_width * suc k) R)

    abbrev Y : List ℤ
    Y = drop (row_width * m) R

    front_long : length (take (row_width * k) R) ≡ row_width * k
    front_long = length-take-le (row_width * k) R (omega (arith, long.rows_in))

    X-long : length X ≡ row_width * (m - k)
    X-long = length-take-le (row_width * (m - k)) (drop (row_width * suc k) R) (omega (arith, long.rows_in, length-drop (row_width * suc k) R))

    kept-long : length (take (row_width * k) R ++ X) ≡ row_width * m
    kept-long = omega (arith, length-append (take (row_width * k) R) X, front_long, X-long)

    module _ (v : List ℤ) (ev : v ≡ closed_up d.row 15 x.row R) where
      v-is : v ≡ take (row_width * k) R ++ (X ++ Y)
      v-is =
          let a : x.row - 15 ≡ length (take (row_width * k) R) + row_width * (m - k) = omega (arith, x-r, front_long) in
          let b : row_width * k + 15 ≡ row_width * suc k = omega arith in
          let f : take (x.row - 15) (take (row_width * k) R ++ drop (row_width * suc k) R) ≡ take (row_width * k) R ++ X
          = ap (λ (j : ℕ). take j (take (row_width * k) R ++ drop (row_width * suc k) R)) a ∙ take-append-add (take (row_width * k) R) (drop (row_width * suc k) R) (row_width * (m - k)) in
          ev ∙ rw (d-row, b, f, kept-long) (append_assoc (take (row_width * k) R) X Y)

      behind-is : tail v d.row ≡ X ++ Y
      behind-is = rest-is v d.row ∙ rw (v-is, d-row) (drop_at (take (row_width * k) R) (X ++ Y) (row_width * k) front_long)

      pub behind-in : d.row ≤ length v
      behind-in = rw v-is (omega (arith, d-row, length-append (take (row_width * k) R) (X ++ Y), front_long))

      cell-behind : (j p : ℕ) → j < m - k → p < 15 → get_or (drop (row_width * j) (X ++ Y)) p (pos 0) ≡ get_or (drop (row_width * (suc k + j)) R) p (pos 0)
      cell-behind j p g i =
          let z : row_width * suc k + (row_width * j + p) ≡ row_width * (suc k + j) + p = omega arith in
          get_or-drop (row_width * j) (X ++ Y) p (pos 0) ∙ get_or-append X Y (pos 0) (row_width * j + p) (omega (arith, X-long))
          ∙ get_or-take (row_width * (m - k)) (drop (row_width * suc k) R) (row_width * j + p) (pos 0) (omega arith) ∙ get_or-drop (row_width * suc k) R (row_width * j + p) (pos 0)
          ∙ ap (λ (q : ℕ). get_or R q (pos 0)) z ∙ sym (get_or-drop (row_width * (suc k + j)) R p (pos 0))

      up_at : (z : ℤ) (n : ℕ) → z ≡ pos n → le_z (pos 0) z ≡ true
      up_at z n f = rw f (le-leb 0 n zero-le)

      row_up : (j : ℕ) → j < m - k → is_up (drop (row_width * j) (X ++ Y)) ≡ true
      unfolding is_up
      row_up j g =
          let s = starting n t e (suc k + j) (omega arith) in
          and_both (le_z (pos 0) (get_or (drop (row_width * j) (X ++ Y)) 12 (pos 0)))
          (le_z (pos 0) (get_or (drop (row_width * j) (X ++ Y)) 13 (pos 0)) && le_z (pos 0) (get_or (drop (row_width * j) (X ++ Y)) 14 (pos 0)))
          (up_at (get_or (drop (row_width * j) (X ++ Y)) 12 (pos 0)) _ (cell-behind j 12 g (omega arith) ∙ s.letters))
          (and_both (le_z (pos 0) (get_or (drop (row_width * j) (X ++ Y)) 13 (pos 0))) (le_z (pos 0) (get_or (drop (row_width * j) (X ++ Y)) 14 (pos 0)))
          (up_at (get_or (drop (row_width * j) (X ++ Y)) 13 (pos 0)) _ (cell-behind j 13 g (omega arith) ∙ s.islands))
          (up_at (get_or (drop (row_width * j) (X ++ Y)) 14 (pos 0)) _ (cell-behind j 14 g (omega arith) ∙ s.points)))

      pub lower-asks : (row_width * (n - 1 - k) ≤ length (tail v d.row)) × (every_row is_up (n - 1 - k) (tail v d.row) ≡ true)
      lower-asks = rw behind-is (omega (arith, length-append X Y, X-long), every-all is_up (m - k) (X ++ Y) row_up)

      module _ (l i p : ℕ) (fl : l ≡ nat_of (get_or R (d.row + 9) (pos 0))) (fi : i ≡ nat_of (get_or R (d.row + 10) (pos 0))) (fp : p ≡ nat_of (get_or R (d.row + 11) (pos 0)))
          (u : List ℤ) (eu : u ≡ each_row (fallen_row (starts_at l i p)) (n - 1 - k) (tail v d.row)) where
        abbrev s : Starts
        s = counts_of (rest_at k t)

        s-is : starts_at l i p ≡ s
        s-is = rw (own-count 9 l fl, own-count 10 i fi, own-count 11 p fp)

        u-is : u ≡ fall_from s 0 X ++ Y
        u-is =
            eu ∙ rw (s-is, behind-is)
            (each-fallen s (m - k) (X ++ Y) (omega (arith, length-append X Y, X-long))
            ∙ ap₂ (λ (a b : List ℤ). fall_from s 0 a ++ b) (take_at X Y (row_width * (m - k)) X-long) (drop_at X Y (row_width * (m - k)) X-long))

        used-rows : (used_of m (without k t)).rows ≡ take (row_width * k) R ++ fall_from s 0 X
        used-rows =
            let a : row_width * m ≡ length (take (row_width * k) R) + row_width * (m - k) = omega (arith, front_long) in
            ap (λ (y : Tables). y.rows) (used-front m (without k t)) ∙ ap (take (row_width * m)) (rows-flat k t)
            ∙ ap (λ (j : ℕ). take j (take (row_width * k) R ++ fall_from s 0 (drop (row_width * suc k) R))) a
            ∙ take-append-add (take (row_width * k) R) (fall_from s 0 (drop (row_width * suc k) R)) (row_width * (m - k))
            ∙ ap (λ (y : List ℤ). take (row_width * k) R ++ y) (fall-take s 0 (row_width * (m - k)) (drop (row_width * suc k) R))

        used-long : length (take (row_width * k) R ++ fall_from s 0 X) ≡ row_width * m
        used-long = omega (arith, length-append (take (row_width * k) R) (fall_from s 0 X), front_long, length-fall s 0 X, X-long)

        pub rows-done : take d.row v ++ (u ++ drop (length v - d.row) (drop d.row v)) ≡ (removed_tables n k t).rows
        rows-done =
            let none : drop (length v - d.row) (drop d.row v) ≡ [] = left-none (drop d.row v) (length v - d.row) (omega (arith, length-drop d.row v)) in
            let f : take d.row v ≡ take (row_width * k) R = rw (v-is, d-row) (take_at (take (row_width * k) R) (X ++ Y) (row_width * k) front_long) in
            rw (none, append-nil u, f, u-is, used-rows, used-long) (sym (append_assoc (take (row_width * k) R) (fall_from s 0 X) Y))

        pub rows-length : length (take d.row v ++ (u ++ drop (length v - d.row) (drop d.row v))) ≡ length R
        rows-length =
            rw rows-done (rw used-rows
            (length_over (take (row_width * k) R ++ fall_from s 0 X) R (omega (arith, used-long, long.rows_in))))

-- ---- a sheet

module _ (h : Header) (n : ℕ) (t : Tables) (k : ℕ) (r : Result Stand Unfound) (e : r ≡ sought_of h n t k) where
  pub remove-after : (w : Result Stand Unfound) → r ≡ w → removed_after n w ≡ remove_of h n t k
  unfolding remove_of
  remove-after w f = rw (← e, f)

  pub remove-asks : (d : Stand) → r ≡ Ok d → (judge_rows Loose n none_before t ≡ Ok tt) × (k < n) × (d ≡ stand_of k t.rows)
  remove-asks d f = let s = stood h n t k d r e f in (fine-rows h n t s.fine, s.row, s.is)
