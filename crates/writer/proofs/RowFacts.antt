-- What a well made row is, as the writer goes by it: counts that are held, numbers that are in range. Assumes nothing.
use Prim.Native.Nat.{ℕ, zero, suc, ◌+◌, ◌-◌, ◌*◌, ◌≤◌, ◌<◌, zero-le}
use mathlib.Core.Path.{◌≡◌, refl, ◌∙◌, ap}
use mathlib.Core.List.{List, [], ◌∷◌}
use mathlib.Core.Bool.{Bool, true, false, cond, not, ◌&&◌, ◌||◌}
use native.Mathlib.Omega.{arith}
use lib.ListN.{length, get_or, drop, get_or-eq_default}
use lib.Dec.{leb, eqb, ltb}
use lib.IntN.{ℤ, pos, negsuc}
use borrow.Author.Tests.{leb-true, ltb-true, ltb-false, eq-eqb, ne_eqb, eqb-true, not-true}
use Rattle.laws.specs.Lists.{all, below, holds}
use Rattle.laws.specs.Whole.{eq_z}
use Rattle.laws.proofs.Choice.{and_left, and_right, false≢true}
use Rattle.laws.proofs.ListLaws.{below_at, all-each, left-none}
use Rattle.token.specs.Lex.{kind_most, may_lie_outside}
use Rattle.kinds.specs.Kinds.{row_width, own_width, schedule, unsaid, want_at}
use Rattle.kinds.proofs.KindLaws.{fixed-few}
use Rattle.sheet.specs.Tables.{Tables}
use Rattle.made.specs.Made.{nat_of, count_at, kind_of, islands_of, points_of, is_between, in_range, has_field, is_outside, is_cell, cell_test, are_numbers, are_letters, sum, four_at_least, are_counts, are_reals, are_closed, ring_sizes, are_points, is_made}
use Rattle.row.specs.Walk.{cell_in}

-- ---- the places of a schedule

in_row : ℕ → Bool
in_row p = leb 2 p && leb p 11

placed : ℕ → Bool
placed kind = all in_row (get_or schedule kind []) && leb (length (get_or schedule kind [])) 9

all_placed : below (kind_most + 1) placed ≡ true
unfolding placed below all in_row schedule
all_placed = refl

holds-each : (P : ℕ → Bool) (s : List ℕ) (p : ℕ) → all P s ≡ true → holds s p ≡ true → P p ≡ true
unfolding all holds
holds-each P [] p e h = absurd (false≢true h)
holds-each P (q ∷ s) p e h = go (eqb p q) refl (holds-each P s p (and_right (P q) (all P s) e)) h
  where
    go : (x : Bool) → eqb p q ≡ x → (holds s p ≡ true → P p ≡ true) → (x || holds s p) ≡ true → P p ≡ true
    go true f k h = ap P (eqb-true p q f) ∙ and_left (P q) (all P s) e
    go false f k h = k h

holds_at : (s : List ℕ) (j : ℕ) → j < length s → holds s (get_or s j 0) ≡ true
unfolding holds
holds_at [] j h = absurd (omega arith)
holds_at (q ∷ s) zero h = rw (eq-eqb q q refl)
holds_at (q ∷ s) (suc j) h = go (eqb (get_or s j 0) q) (holds_at s j (omega arith))
  where
    go : (x : Bool) → holds s (get_or s j 0) ≡ true → (x || holds s (get_or s j 0)) ≡ true
    go true k = refl
    go false k = k

in-row : (p : ℕ) → in_row p ≡ true → (2 ≤ p) × (p < own_width)
unfolding in_row
in-row p e = (leb-true 2 p (and_left (leb 2 p) (leb p 11) e), omega (arith, leb-true p 11 (and_right (leb 2 p) (leb p 11) e)))

module _ (kind : ℕ) (h : kind ≤ kind_most) where
  abbrev places : List ℕ
  places = get_or schedule kind []

  places-in : all in_row places ≡ true
  unfolding placed
  places-in = and_left (all in_row places) (leb (length places) 9) (below_at (kind_most + 1) placed kind all_placed (omega arith))

  pub places-few : length places ≤ 9
  unfolding placed
  places-few = leb-true (length places) 9 (and_right (all in_row places) (leb (length places) 9) (below_at (kind_most + 1) placed kind all_placed (omega arith)))

  -- a field stands behind kind and outside
  pub field-place : (p : ℕ) → has_field kind p ≡ true → (2 ≤ p) × (p < own_width)
  unfolding has_field
  field-place p e = in-row p (holds-each in_row places p places-in e)

  -- the schedule, walked by its places: 0 behind the last
  pub schedule-here : (j p : ℕ) → p ≡ get_or places j 0 → (p ≡ 0 → ⊥) → j < length places
  schedule-here j p e f = go (ltb j (length places)) refl
    where
      go : (x : Bool) → ltb j (length places) ≡ x → j < length places
      go true g = ltb-true j (length places) g
      go false g = absurd (f (e ∙ get_or-eq_default places 0 {n = j} (ltb-false j (length places) g)))

  pub schedule-has : (j p : ℕ) → p ≡ get_or places j 0 → (p ≡ 0 → ⊥) → has_field kind p ≡ true
  unfolding has_field
  schedule-has j p e f = rw e (holds_at places j (schedule-here j p e f))

  pub schedule-over : (j p : ℕ) → p ≡ get_or places j 0 → p ≡ 0 → drop j places ≡ []
  schedule-over j p e f = go (ltb j (length places)) refl
    where
      go : (x : Bool) → ltb j (length places) ≡ x → drop j places ≡ []
      go true g =
          let k = in-row (get_or places j 0) (all-each in_row places j places-in (ltb-true j (length places) g)) in
          absurd (omega (arith, k.0, e, f))
      go false g = left-none places j (ltb-false j (length places) g)

-- ---- a number of a row

pub between : (least most : ℕ) (z : ℤ) → is_between least most z ≡ true → (least ≤ nat_of z) × (nat_of z ≤ most)
between least most (pos n) e = (leb-true least n (and_left (leb least n) (leb n most) e), leb-true n most (and_right (leb least n) (leb n most) e))
between least most (negsuc n) e = absurd (false≢true e)

count-is : (z : ℤ) (n : ℕ) → eq_z z (pos n) ≡ true → nat_of z ≡ n
count-is (pos m) n e = eqb-true m n e
count-is (negsuc m) n e = absurd (false≢true e)

outside-most : (kind : ℕ) (z : ℤ) → is_outside kind z ≡ true → nat_of z ≤ 1
unfolding is_outside
outside-most kind z e = go (eq_z z (pos 0)) refl e
  where
    go : (x : Bool) → eq_z z (pos 0) ≡ x → (x || eq_z z (pos 1) && may_lie_outside kind) ≡ true → nat_of z ≤ 1
    go true f e = omega (arith, count-is z 0 f)
    go false f e = omega (arith, count-is z 1 (and_left (eq_z z (pos 1)) (may_lie_outside kind) e))

module _ (kind p : ℕ) (z : ℤ) (e : is_cell kind p z ≡ true) (h : 2 ≤ p) where
  cell_field : cond (has_field kind p) (in_range (want_at p) z) (eq_z z (pos (unsaid kind p))) ≡ true
  unfolding is_cell
  cell_field = rw (ne_eqb p 0 (λ q. omega arith), ne_eqb p 1 (λ q. omega arith)) at e

  cell_in_lem : has_field kind p ≡ true → in_range (want_at p) z ≡ true
  cell_in_lem f = rw f at cell_field

  cell-none : has_field kind p ≡ false → nat_of z ≡ unsaid kind p
  cell-none f = count-is z (unsaid kind p) (rw f at cell_field)

  -- a count is bounded, where the kind has it and where it has not
  cell-most : (most : ℕ) → unsaid kind p ≤ most → (in_range (want_at p) z ≡ true → nat_of z ≤ most) → nat_of z ≤ most
  cell-most most u k = go (has_field kind p) refl
    where
      go : (x : Bool) → has_field kind p ≡ x → nat_of z ≤ most
      go true f = k (cell_in_lem f)
      go false f = omega (arith, cell-none f, u)

-- ---- the numbers of a row

module _ (rows : List ℤ) (e : are_numbers rows ≡ true) where
  abbrev cell : ℕ → ℤ
  cell p = get_or rows p (pos 0)

  pub row-held : own_width ≤ length rows
  unfolding are_numbers
  row-held = let h = leb-true row_width (length rows) (and_left (leb row_width (length rows)) (below own_width (cell_test rows)) e) in omega arith

  cells : (p : ℕ) → p < own_width → is_cell (cell_in rows 0) p (cell p) ≡ true
  unfolding are_numbers
  cells p h = below_at own_width (cell_test rows) p (and_right (leb row_width (length rows)) (below own_width (cell_test rows)) e) h

  pub kind-in : (1 ≤ cell_in rows 0) × (cell_in rows 0 ≤ kind_most)
  unfolding is_cell
  kind-in = between 1 kind_most (cell 0) (cells 0 (omega arith))

  pub outside-in : cell_in rows 1 ≤ 1
  unfolding is_cell
  outside-in = outside-most (cell_in rows 0) (cell 1) (cells 1 (omega arith))

  pub letters-in : cell_in rows 9 ≤ 255
  unfolding want_at in_range unsaid
  letters-in = cell-most (cell_in rows 0) 9 (cell 9) (cells 9 (omega arith)) (omega arith) 255 zero-le (λ f. (between 1 255 (cell 9) f).1)

  pub islands-in : cell_in rows 10 ≤ 9999
  unfolding want_at in_range unsaid
  islands-in = cell-most (cell_in rows 0) 10 (cell 10) (cells 10 (omega arith)) (omega arith) 9999 zero-le (λ f. (between 0 9999 (cell 10) f).1)

  pub vertices-in : cell_in rows 11 ≤ 9999
  unfolding want_at in_range unsaid
  vertices-in = cell-most (cell_in rows 0) 11 (cell 11) (cells 11 (omega arith)) (omega arith) 9999 (fixed-few (cell_in rows 0)) (λ f. (between 0 9999 (cell 11) f).1)

  pub field_in : (p : ℕ) → has_field (cell_in rows 0) p ≡ true → in_range (want_at p) (cell p) ≡ true
  field_in p f =
      let h = field-place (cell_in rows 0) kind-in.1 p f in
      cell_in_lem (cell_in rows 0) p (cell p) (cells p h.1) h.0 f

  -- letters and islands that the kind lacks are 0
  pub letters-none : has_field (cell_in rows 0) 9 ≡ false → cell_in rows 9 ≡ 0
  unfolding unsaid
  letters-none f = cell-none (cell_in rows 0) 9 (cell 9) (cells 9 (omega arith)) (omega arith) f

  islands-none : has_field (cell_in rows 0) 10 ≡ false → cell_in rows 10 ≡ 0
  unfolding unsaid
  islands-none f = cell-none (cell_in rows 0) 10 (cell 10) (cells 10 (omega arith)) (omega arith) f

-- ---- a well made row

pub record Row (t : Tables) : Type 0 where
  pub numbers : are_numbers t.rows ≡ true
  pub letters-held : count_at t 9 ≤ length t.letters
  pub islands-held : count_at t 10 ≤ length t.islands
  pub islands-sum : sum (islands_of t) ≤ 9999
  pub points-held : 2 * count_at t 11 ≤ length t.points
  pub points-real : are_reals (points_of t) ≡ true

-- only a border has islands
is_bare : ℕ → Bool
is_bare kind = eqb kind 1 || not (has_field kind 10)

islands-lack : (kind : ℕ) → kind ≤ kind_most → eqb kind 1 ≡ false → has_field kind 10 ≡ false
unfolding is_bare below has_field holds schedule
islands-lack kind h e = not-true (has_field kind 10) (rw e at (below_at (kind_most + 1) is_bare kind refl (omega arith)))

islands-are : (t : Tables) → are_numbers t.rows ≡ true → are_counts (kind_of t) (count_at t 10) (count_at t 11) t.islands ≡ true
    → (count_at t 10 ≤ length t.islands) × (sum (islands_of t) ≤ 9999)
unfolding are_counts sum
islands-are t n e = go (eqb (kind_of t) 1) refl e
  where
    go : (x : Bool) → eqb (kind_of t) 1 ≡ x
        → cond x (leb (4 + 4 * count_at t 10) (count_at t 11) && leb (count_at t 10) (length t.islands) && all four_at_least (islands_of t) && leb (sum (islands_of t) + 4) (count_at t 11))
        (not (has_field (kind_of t) 11) || leb 2 (count_at t 11)) ≡ true
        → (count_at t 10 ≤ length t.islands) × (sum (islands_of t) ≤ 9999)
    go true f e =
        let a = leb (4 + 4 * count_at t 10) (count_at t 11) in
        let b = leb (count_at t 10) (length t.islands) in
        let c = all four_at_least (islands_of t) in
        let d = leb (sum (islands_of t) + 4) (count_at t 11) in
        let h = and_right a b (and_left (a && b) c (and_left (a && b && c) d e)) in
        let k = leb-true (sum (islands_of t) + 4) (count_at t 11) (and_right (a && b && c) d e) in
        (leb-true (count_at t 10) (length t.islands) h, omega (arith, k, vertices-in t.rows n))
    go false f e =
        let z : count_at t 10 ≡ 0
        = islands-none t.rows n (islands-lack (kind_of t) (kind-in t.rows n).1 f) in
        (omega (arith, z), rw z (omega arith))

pub row_is : (t : Tables) → is_made t ≡ true → Row t
unfolding is_made are_letters are_points
row_is t e =
    let a = are_numbers t.rows in
    let b = are_letters (count_at t 9) t.letters in
    let c = are_counts (kind_of t) (count_at t 10) (count_at t 11) t.islands in
    let d = are_points (kind_of t) (count_at t 11) (islands_of t) t.points in
    let e₂ = and_left (a && b && c) d e in
    let e₁ = and_left (a && b) c e₂ in
    let n : are_numbers t.rows ≡ true = and_left a b e₁ in
    let i = islands-are t n (and_right (a && b) c e₂) in
    let p = leb (2 * count_at t 11) (length t.points) in
    let q = are_reals (points_of t) in
    let r = not (eqb (kind_of t) 1) || are_closed (ring_sizes (count_at t 11) (islands_of t)) t.points in
    let g = and_left (p && q) r (and_right (a && b && c) d e) in
    record {
      numbers = n;
      letters-held = letters-are (count_at t 9) t.letters (and_right a b e₁);
      islands-held = i.0;
      islands-sum = i.1;
      points-held = leb-true (2 * count_at t 11) (length t.points) (and_left p q g);
      points-real = and_right p q g;
    }
  where
    letters-are : (n : ℕ) (s : List ℕ) → are_letters n s ≡ true → n ≤ length s
    letters-are n s e = leb-true n (length s) (first (leb n (length s)) _ _ _ e)
      where
        first : (a b c d : Bool) → (a && b && c && d) ≡ true → a ≡ true
        first a b c d e = and_left a b (and_left (a && b) c (and_left (a && b && c) d e))
