-- What a row that is made holds, and the ways through the functions that judge the rows. Assumes nothing.
use mathlib.Core.Path.{◌≡◌, refl, sym, ◌∙◌}
use mathlib.Core.List.{List}
use mathlib.Core.Bool.{Bool, true, false, ◌&&◌}
use Prim.Native.Nat.{ℕ, ◌+◌, ◌*◌, ◌≤◌, ◌<◌, zero-le}
use native.Mathlib.Omega.{arith}
use lib.ListN.{length, get_or, take}
use lib.Dec.{leb, eqb}
use lib.IntN.{ℤ, pos, negsuc}
use lib.Signed.{le_z}
use borrow.Author.Tests.{leb-true, eqb-true, eqb-false}
use Rattle.laws.specs.Lists.{all, below, holds}
use Rattle.laws.specs.Whole.{eq_z}
use Rattle.laws.proofs.Choice.{and_left, and_right}
use Rattle.laws.proofs.ListLaws.{below_at, part_count}
use Rattle.token.specs.declared.Want.TheVariants.{Int}
use Rattle.kinds.specs.Kinds.{row_width, own_width, letters_place, islands_place, vertices_place, schedule, unsaid, want_at}
use Rattle.sheet.specs.Tables.{Tables}
use Rattle.made.specs.Made.{nat_of, count_at, kind_of, islands_of, in_range, has_field, is_cell, cell_test, are_numbers, are_letters, sum, four_at_least, are_counts, are_reals, are_points, is_made}
use Rattle.made.proofs.FieldWays.{no-islands}

-- ---- what a row that is made holds

nought : (z : ℤ) → eq_z z (pos 0) ≡ true → nat_of z ≡ 0
nought (pos n) e = eqb-true n 0 e
nought (negsuc n) e = refl

at_most : (z : ℤ) → in_range Int z ≡ true → nat_of z ≤ 9999
unfolding in_range
at_most (pos n) e = leb-true n 9999 (and_right (le_z (pos 0) (pos n)) (le_z (pos n) (pos 9999)) e)
at_most (negsuc n) e = zero-le

module _ (rows : List ℤ) (e : are_numbers rows ≡ true) where
  row-held : row_width ≤ length rows
  unfolding are_numbers
  row-held = leb-true row_width (length rows) (and_left (leb row_width (length rows)) (below own_width (cell_test rows)) e)

  cell-right : (p : ℕ) → p < own_width → cell_test rows p ≡ true
  unfolding are_numbers
  cell-right p = below_at own_width (cell_test rows) p (and_right (leb row_width (length rows)) (below own_width (cell_test rows)) e)

  islands-none : (nat_of (get_or rows 0 (pos 0)) ≡ 1 → ⊥) → nat_of (get_or rows islands_place (pos 0)) ≡ 0
  unfolding is_cell unsaid
  islands-none n =
      let c = cell-right islands_place (omega arith) in
      nought (get_or rows islands_place (pos 0)) (rw (no-islands (nat_of (get_or rows 0 (pos 0))) n) at c)

  vertices-most : nat_of (get_or rows 0 (pos 0)) ≡ 1 → nat_of (get_or rows vertices_place (pos 0)) ≤ 9999
  unfolding is_cell has_field schedule holds in_range want_at
  vertices-most k =
      let c = cell-right vertices_place (omega arith) in
      at_most (get_or rows vertices_place (pos 0)) (rw k at c)

module _ (i v : ℕ) (s : List ℕ) (e : are_counts 1 i v s ≡ true) where
  abbrev enough : Bool
  enough = leb (4 + 4 * i) v

  abbrev fours : Bool
  fours = all four_at_least (take i s)

  abbrev outer : Bool
  outer = leb (sum (take i s) + 4) v

  border-islands : i ≤ length s
  unfolding are_counts
  border-islands =
      leb-true i (length s) (and_right enough (leb i (length s)) (and_left (enough && leb i (length s)) fours (and_left (enough && leb i (length s) && fours) outer e)))

  border-fours : fours ≡ true
  unfolding are_counts
  border-fours = and_right (enough && leb i (length s)) fours (and_left (enough && leb i (length s) && fours) outer e)

  pub border-outer : sum (take i s) + 4 ≤ v
  unfolding are_counts
  border-outer = leb-true (sum (take i s) + 4) v (and_right (enough && leb i (length s) && fours) outer e)

-- the code has tested the numbers and the counts
module _ (rows : List ℤ) (islands : List ℕ) (a : Bool) (p : a ≡ are_numbers rows) (t : a ≡ true) (kind i v : ℕ)
    (k : kind ≡ nat_of (get_or rows 0 (pos 0))) (o : i ≡ nat_of (get_or rows islands_place (pos 0))) (b : Bool) (q : b ≡ are_counts kind i v islands) (u : b ≡ true) where
  counted : are_counts kind i v islands ≡ true
  counted = sym q ∙ u

  islands-in : i ≤ length islands
  islands-in = go (eqb kind 1) refl
    where
      go : (x : Bool) → eqb kind 1 ≡ x → i ≤ length islands
      go true e = border-islands i v islands (rw (eqb-true kind 1 e) at counted)
      go false e =
          let z : i ≡ 0 = o ∙ islands-none rows (sym p ∙ t) (λ f. eqb-false kind 1 e (k ∙ f)) in
          omega arith

  pub made-islands : i ≡ length (take i islands)
  made-islands = part_count i islands islands-in

  pub made-rest : kind ≡ 1 → sum (take i islands) ≤ v
  made-rest e =
      let h = border-outer i v islands (rw e at counted) in
      omega arith

pub ruleset parts = (made-islands, made-rest)

first_of : (a b c d : Bool) → (a && b && c && d) ≡ true → a ≡ true
first_of a b c d e = and_left a b (and_left (a && b) c (and_left (a && b && c) d e))

-- each table holds the row's own part
pub record Held (t : Tables) : Type 0 where
  pub row : row_width ≤ length t.rows
  pub letters : count_at t letters_place ≤ length t.letters
  pub islands : count_at t islands_place ≤ length t.islands
  pub points : 2 * count_at t vertices_place ≤ length t.points

-- and a border's counts are right
pub record Counted (t : Tables) : Type 0 where
  pub vertices : count_at t vertices_place ≤ 9999
  pub islands : all four_at_least (islands_of t) ≡ true
  pub outer : sum (islands_of t) + 4 ≤ count_at t vertices_place

module _ (t : Tables) (e : is_made t ≡ true) where
  abbrev N : Bool
  N = are_numbers t.rows

  abbrev L : Bool
  L = are_letters (count_at t letters_place) t.letters

  abbrev C : Bool
  C = are_counts (kind_of t) (count_at t islands_place) (count_at t vertices_place) t.islands

  abbrev P : Bool
  P = are_points (kind_of t) (count_at t vertices_place) (islands_of t) t.points

  tests : (N && L && C && P) ≡ true
  unfolding is_made
  tests = e

  N-right : N ≡ true
  N-right = first_of N L C P tests

  L-right : L ≡ true
  L-right = and_right N L (and_left (N && L) C (and_left (N && L && C) P tests))

  C-right : C ≡ true
  C-right = and_right (N && L) C (and_left (N && L && C) P tests)

  P-right : P ≡ true
  P-right = and_right (N && L && C) P tests

  letters-in : count_at t letters_place ≤ length t.letters
  unfolding are_letters
  letters-in = leb-true (count_at t letters_place) (length t.letters) (first_of (leb (count_at t letters_place) (length t.letters)) _ _ _ L-right)

  points-in : 2 * count_at t vertices_place ≤ length t.points
  unfolding are_points
  points-in =
      leb-true (2 * count_at t vertices_place) (length t.points)
      (and_left (leb (2 * count_at t vertices_place) (length t.points)) _ (and_left (leb (2 * count_at t vertices_place) (length t.points) && are_reals (take (2 * count_at t vertices_place) t.points)) _ P-right))

  pub made_held : Held t
  made_held =
      record {
        row = row-held t.rows N-right;
        letters = letters-in;
        islands = islands-in t.rows t.islands N refl N-right (kind_of t) (count_at t islands_place) (count_at t vertices_place) refl refl C refl C-right;
        points = points-in;
      }

  module _ (k : kind_of t ≡ 1) where
    counts-right : are_counts 1 (count_at t islands_place) (count_at t vertices_place) t.islands ≡ true
    counts-right = rw k at C-right

    pub made_counted : Counted t
    made_counted =
        record {
          vertices = vertices-most t.rows N-right k;
          islands = border-fours (count_at t islands_place) (count_at t vertices_place) t.islands counts-right;
          outer = border-outer (count_at t islands_place) (count_at t vertices_place) t.islands counts-right;
        }

pub made_row : (t : Tables) → is_made t ≡ true → row_width ≤ length t.rows
made_row t e = (made_held t e).row
