-- A row is judged by its own part of the tables alone (document 01, "Sheet tables"), whatever stands behind it. Assumes nothing.
use mathlib.Core.Path.{◌≡◌, refl, sym, ◌∙◌, ap, ap₂}
use mathlib.Core.List.{List, [], ◌∷◌}
use mathlib.Core.Bool.{Bool, true, false, not, ◌&&◌, ◌||◌}
use Prim.Native.Nat.{ℕ, zero, suc, ◌+◌, ◌-◌, ◌*◌, ◌≤◌, ◌<◌}
use native.Mathlib.Nat.{add-zero}
use native.Mathlib.Omega.{arith}
use lib.Dec.{leb, eqb}
use lib.ListN.{length, get_or, take, drop, length-take, get_or-append}
use lib.Seq.{take-nil, take-take, take-append-le, drop-append-le, get_or-take, length-take-le}
use lib.IntN.{ℤ, pos}
use borrow.Author.Tests.{leb-true, leb-false, le-leb, lt-leb, eqb-true}
use Rattle.laws.specs.Lists.{below}
use Rattle.laws.specs.Whole.{eq_z}
use Rattle.laws.proofs.Choice.{and_both}
use Rattle.laws.proofs.Bits.{eq_z-yes}
use Rattle.kinds.specs.Kinds.{row_width, own_width, letters_place, islands_place, vertices_place, first_letter_place, first_island_place, first_point_place}
use Rattle.sheet.specs.Tables.{Tables, Starts, ◌then◌}
use Rattle.made.specs.Made.{tables_of, cell_at, count_at, kind_of, letters_of, islands_of, points_of, first_of, own_of, rest_of, cell_test, are_numbers, are_letters, are_counts, sum, is_closed, are_closed, ring_sizes, are_points, is_made, are_starts}
use Rattle.made.proofs.RowWays.{Held, border-outer}

-- ---- the front of a list

drop-front : {A : Type 0} (i m : ℕ) (s : List A) → drop i (take (i + m) s) ≡ take m (drop i s)
drop-front zero m s = let z : zero + m ≡ m = omega arith in ap (λ (k : ℕ). take k s) z
drop-front (suc i) m [] = ap (drop (suc i)) (take-nil (suc i + m)) ∙ sym (take-nil m)
drop-front (suc i) m (x ∷ s) = let z : suc i + m ≡ suc (i + m) = omega arith in ap (λ (k : ℕ). drop (suc i) (take k (x ∷ s))) z ∙ drop-front i m s

long-front : {A : Type 0} (c : ℕ) (s : List A) → leb c (length (take c s)) ≡ leb c (length s)
long-front c s = go (leb c (length s)) refl
  where
    go : (b : Bool) → leb c (length s) ≡ b → leb c (length (take c s)) ≡ b
    go true e = le-leb c (length (take c s)) (omega (arith, length-take-le c s (leb-true c (length s) e)))
    go false e = let h = leb-false c (length s) e in lt-leb c (length (take c s)) (omega (arith, length-take c s))

below_alike : (n : ℕ) (p q : ℕ → Bool) → ((i : ℕ) → i < n → p i ≡ q i) → below n p ≡ below n q
unfolding below
below_alike zero p q f = refl
below_alike (suc n) p q f = ap₂ (λ (a b : Bool). a && b) (f n (omega arith)) (below_alike n p q (λ i h. f i (omega arith)))

closed_none : (s : List ℤ) → is_closed 0 s ≡ true
unfolding is_closed
closed_none s =
    and_both (eq_z (get_or s 0 (pos 0)) (get_or s 0 (pos 0))) (eq_z (get_or s 1 (pos 0)) (get_or s 1 (pos 0)))
    (eq_z-yes (get_or s 0 (pos 0)) (get_or s 0 (pos 0)) refl) (eq_z-yes (get_or s 1 (pos 0)) (get_or s 1 (pos 0)) refl)

-- rings are closed by their own points
closed-front : (n c : ℕ) (s : List ℤ) → 2 * n ≤ c → is_closed n (take c s) ≡ is_closed n s
unfolding is_closed
closed-front zero c s h = closed_none (take c s) ∙ sym (closed_none s)
closed-front (suc n) c s h =
    rw (
      get_or-take c s (2 * (suc n - 1)) (pos 0) (omega arith),
      get_or-take c s (2 * (suc n - 1) + 1) (pos 0) (omega arith),
      get_or-take c s 0 (pos 0) (omega arith),
      get_or-take c s 1 (pos 0) (omega arith),
    )

rings-front : (ns : List ℕ) (c : ℕ) (s : List ℤ) → 2 * sum ns ≤ c → are_closed ns (take c s) ≡ are_closed ns s
unfolding are_closed sum
rings-front [] c s h = refl
rings-front (n ∷ ns) c s h =
    let z : c ≡ 2 * n + (c - 2 * n) = omega arith in
    ap₂ (λ (a b : Bool). a && b) (closed-front n c s (omega arith))
    (ap (λ (k : ℕ). are_closed ns (drop (2 * n) (take k s))) z ∙ ap (are_closed ns) (drop-front (2 * n) (c - 2 * n) s) ∙ rings-front ns (c - 2 * n) (drop (2 * n) s) (omega arith))

-- ---- fronts of the four tables; a row's own part is one

abbrev pub fronts_of : ℕ → ℕ → ℕ → ℕ → Tables → Tables
fronts_of r l i p t = tables_of (take r t.rows) (take l t.letters) (take i t.islands) (take p t.points)

module _ (t : Tables) (r l i p : ℕ) (a : row_width ≤ r) (b : count_at t letters_place ≤ l) (c : count_at t islands_place ≤ i) (d : 2 * count_at t vertices_place ≤ p) where
  cell-front : (k : ℕ) → k < row_width → cell_at (fronts_of r l i p t) k ≡ cell_at t k
  cell-front k h = get_or-take r t.rows k (pos 0) (omega arith)

  pub first-front : first_of (fronts_of r l i p t) ≡ first_of t
  first-front =
      rw (
        cell-front letters_place (omega arith),
        cell-front islands_place (omega arith),
        cell-front vertices_place (omega arith),
        take-take row_width r t.rows a,
        take-take (count_at t letters_place) l t.letters b,
        take-take (count_at t islands_place) i t.islands c,
        take-take (2 * count_at t vertices_place) p t.points d,
      )

module _ (t : Tables) (r l i p : ℕ) where
  pub rest-front : rest_of (fronts_of (row_width + r) (count_at t letters_place + l) (count_at t islands_place + i) (2 * count_at t vertices_place + p) t) ≡ fronts_of r l i p (rest_of t)
  rest-front =
      let cell : (k : ℕ) → k < row_width → get_or (take (row_width + r) t.rows) k (pos 0) ≡ cell_at t k = λ k h. get_or-take (row_width + r) t.rows k (pos 0) (omega arith) in
      rw (
        cell letters_place (omega arith),
        cell islands_place (omega arith),
        cell vertices_place (omega arith),
        drop-front row_width r t.rows,
        drop-front (count_at t letters_place) l t.letters,
        drop-front (count_at t islands_place) i t.islands,
        drop-front (2 * count_at t vertices_place) p t.points,
      )

-- ---- the first row by its own part, held or not

-- a test counts only where those before it hold
guard : (a c p q : Bool) → (c ≡ true → p ≡ q) → (a && c && p) ≡ (a && c && q)
guard true true p q f = f refl
guard true false p q f = refl
guard false c p q f = refl

-- the tests of a row, by its own part, where it is held
abbrev made_by : Bool → Tables → Bool
made_by held o =
    held && below own_width (cell_test o.rows) && are_letters (count_at o letters_place) o.letters && are_counts (kind_of o) (count_at o islands_place) (count_at o vertices_place) o.islands
    && are_points (kind_of o) (count_at o vertices_place) o.islands o.points

module _ (t : Tables) where
  pub first-first : first_of (first_of t) ≡ first_of t
  first-first =
      first-front t row_width (count_at t letters_place) (count_at t islands_place) (2 * count_at t vertices_place) (omega arith) (omega arith) (omega arith) (omega arith)

  pub cell-first : (k : ℕ) → k < row_width → cell_at (first_of t) k ≡ cell_at t k
  cell-first k h = get_or-take row_width t.rows k (pos 0) h

  -- without its starts
  pub cell-own : (k : ℕ) → k < own_width → cell_at (own_of t) k ≡ cell_at t k
  cell-own k h = get_or-take own_width t.rows k (pos 0) h

  abbrev l : ℕ
  l = count_at t letters_place

  abbrev i : ℕ
  i = count_at t islands_place

  abbrev v : ℕ
  v = count_at t vertices_place

  pub letters-own : letters_of (own_of t) ≡ letters_of t
  letters-own = rw (cell-own letters_place (omega arith)) (take-take l l t.letters (omega arith))

  pub islands-own : islands_of (own_of t) ≡ islands_of t
  islands-own = rw (cell-own islands_place (omega arith)) (take-take i i t.islands (omega arith))

  pub points-own : points_of (own_of t) ≡ points_of t
  points-own = rw (cell-own vertices_place (omega arith)) (take-take (2 * v) (2 * v) t.points (omega arith))

  pub own_first : own_of (first_of t) ≡ own_of t
  own_first =
      rw (
        cell-first letters_place (omega arith),
        cell-first islands_place (omega arith),
        cell-first vertices_place (omega arith),
        take-take own_width row_width t.rows (omega arith),
        take-take l l t.letters (omega arith),
        take-take i i t.islands (omega arith),
        take-take (2 * v) (2 * v) t.points (omega arith),
      )

  abbrev counts : Bool
  counts = are_counts (kind_of t) i v t.islands

  numbers-test : below own_width (cell_test (take own_width t.rows)) ≡ below own_width (cell_test t.rows)
  numbers-test = below_alike own_width (cell_test (take own_width t.rows)) (cell_test t.rows) (λ i h. rw (cell-own 0 (omega arith), cell-own i h))

  letters-test : are_letters l (letters_of t) ≡ are_letters l t.letters
  unfolding are_letters
  letters-test = rw (long-front l t.letters, take-take l l t.letters (omega arith))

  counts-test : are_counts (kind_of t) i v (islands_of t) ≡ counts
  unfolding are_counts
  counts-test = rw (long-front i t.islands, take-take i i t.islands (omega arith))

  -- a border whose counts are right has its rings among its points
  rings-test : counts ≡ true → (not (eqb (kind_of t) 1) || are_closed (ring_sizes v (islands_of t)) (points_of t)) ≡ (not (eqb (kind_of t) 1) || are_closed (ring_sizes v (islands_of t)) t.points)
  unfolding ring_sizes sum
  rings-test e = go (eqb (kind_of t) 1) refl
    where
      go : (b : Bool) → eqb (kind_of t) 1 ≡ b → (not b || are_closed (ring_sizes v (islands_of t)) (points_of t)) ≡ (not b || are_closed (ring_sizes v (islands_of t)) t.points)
      go true k =
          let o = border-outer i v t.islands (rw (eqb-true (kind_of t) 1 k) at e) in
          rings-front (ring_sizes v (islands_of t)) (2 * v) t.points (omega arith)
      go false k = refl

  points-test : counts ≡ true → are_points (kind_of t) v (islands_of t) (points_of t) ≡ are_points (kind_of t) v (islands_of t) t.points
  unfolding are_points
  points-test e = rw (long-front (2 * v) t.points, take-take (2 * v) (2 * v) t.points (omega arith), rings-test e)

  made_by_lem : made_by (leb row_width (length t.rows)) (own_of t) ≡ is_made t
  unfolding is_made are_numbers
  made_by_lem =
      rw (numbers-test, cell-own 0 (omega arith), cell-own 9 (omega arith), cell-own 10 (omega arith), cell-own 11 (omega arith), letters-test, counts-test)
      (guard (leb row_width (length t.rows) && below own_width (cell_test t.rows) && are_letters l t.letters) counts
      (are_points (kind_of t) v (islands_of t) (points_of t)) (are_points (kind_of t) v (islands_of t) t.points) points-test)

-- **a row is judged by its own part**: where both are held, or neither is
pub made-same : (t u : Tables) → leb row_width (length t.rows) ≡ leb row_width (length u.rows) → own_of t ≡ own_of u → is_made t ≡ is_made u
made-same t u w e = sym (made_by_lem t) ∙ ap₂ made_by w e ∙ made_by_lem u

pub made-first : (t : Tables) → is_made (first_of t) ≡ is_made t
made-first t = made-same (first_of t) t (long-front row_width t.rows) (own_first t)

-- ---- rows with the same own part

module _ (t u : Tables) (e : first_of t ≡ first_of u) where
  pub cell-alike : (k : ℕ) → k < row_width → cell_at t k ≡ cell_at u k
  cell-alike k h = sym (cell-first t k h) ∙ ap (λ (x : Tables). cell_at x k) e ∙ cell-first u k h

  pub own_same : own_of t ≡ own_of u
  own_same = sym (own_first t) ∙ ap own_of e ∙ own_first u

  pub made_alike : is_made t ≡ is_made u
  made_alike = sym (made-first t) ∙ ap is_made e ∙ made-first u

  pub starts-alike : (s : Starts) → are_starts s t.rows ≡ are_starts s u.rows
  unfolding are_starts
  starts-alike s = rw (cell-alike first_letter_place (omega arith), cell-alike first_island_place (omega arith), cell-alike first_point_place (omega arith))

-- what a well made row's own part answers as the tables do: the starts play no part
abbrev pub Own : {A : Type 0} → (Tables → A) → Type 0
Own f = (t : Tables) → is_made t ≡ true → f (own_of t) ≡ f t

pub own-alike : {A : Type 0} (f : Tables → A) → Own f → (t u : Tables) → own_of t ≡ own_of u → is_made t ≡ true → is_made u ≡ true → f t ≡ f u
own-alike f o t u e m n = sym (o t m) ∙ ap f e ∙ o u n

pub first_alike : {A : Type 0} (f : Tables → A) → Own f → (t u : Tables) → first_of t ≡ first_of u → is_made u ≡ true → f t ≡ f u
first_alike f o t u e m = own-alike f o t u (own_same t u e) (made_alike t u e ∙ m) m

-- ---- a row that is wholly held, and anything behind it

module _ (t u : Tables) (r : Held t) where
  cell-then : (k : ℕ) → k < row_width → cell_at (t then u) k ≡ cell_at t k
  cell-then k h = get_or-append t.rows u.rows (pos 0) k (omega (arith, r.row))

  pub first_then : first_of (t then u) ≡ first_of t
  first_then =
      rw (
        cell-then letters_place (omega arith),
        cell-then islands_place (omega arith),
        cell-then vertices_place (omega arith),
        take-append-le row_width t.rows u.rows r.row,
        take-append-le (count_at t letters_place) t.letters u.letters r.letters,
        take-append-le (count_at t islands_place) t.islands u.islands r.islands,
        take-append-le (2 * count_at t vertices_place) t.points u.points r.points,
      )

  pub rest_then : rest_of (t then u) ≡ rest_of t then u
  rest_then =
      rw (
        cell-then letters_place (omega arith),
        cell-then islands_place (omega arith),
        cell-then vertices_place (omega arith),
        drop-append-le row_width t.rows u.rows r.row,
        drop-append-le (count_at t letters_place) t.letters u.letters r.letters,
        drop-append-le (count_at t islands_place) t.islands u.islands r.islands,
        drop-append-le (2 * count_at t vertices_place) t.points u.points r.points,
      )

-- a row's own part, and anything behind it
module _ (t u : Tables) (r : Held t) where
  held_first : Held (first_of t)
  held_first =
      record {
        row = omega (arith, length-take-le row_width t.rows r.row);
        letters = rw (cell-first t letters_place (omega arith)) (omega (arith, length-take-le (count_at t letters_place) t.letters r.letters));
        islands = rw (cell-first t islands_place (omega arith)) (omega (arith, length-take-le (count_at t islands_place) t.islands r.islands));
        points = rw (cell-first t vertices_place (omega arith)) (omega (arith, length-take-le (2 * count_at t vertices_place) t.points r.points));
      }

  pub first-own : first_of (first_of t then u) ≡ first_of t
  first-own = first_then (first_of t) u held_first ∙ first-first t

  pub rest-own : rest_of (first_of t then u) ≡ u
  rest-own =
      let none : rest_of (first_of t) ≡ fronts_of 0 0 0 0 (rest_of t) = simp add-zero at (rest-front t 0 0 0 0) in
      rest_then (first_of t) u held_first ∙ ap (λ (x : Tables). x then u) none
