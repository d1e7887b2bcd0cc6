-- What stands behind the part of the tables that the rows use never matters (document 01, "Sheet tables"): that part, and the verdict on it. Assumes nothing.
use mathlib.Core.Path.{◌≡◌, refl, sym, ◌∙◌, ap, ap₂}
use mathlib.Core.Bool.{true, cond, ◌&&◌}
use Prim.Native.Nat.{ℕ, zero, suc, ◌+◌, ◌*◌, ◌≤◌, ◌<◌, zero-le}
use native.Mathlib.Omega.{arith}
use lib.ListN.{length, drop, length-drop, take-append-drop}
use lib.Seq.{take-add}
use Rattle.laws.proofs.Choice.{cond-first, and_left, and_right}
use Rattle.record.specs.declared.Mode.{Mode}
use Rattle.record.specs.Record.{is_exact}
use Rattle.heading.specs.declared.Header.{Header}
use Rattle.kinds.specs.Kinds.{row_width, code_place, letters_place, islands_place, vertices_place}
use Rattle.sheet.specs.Tables.{Tables, ◌then◌}
use Rattle.made.specs.Made.{tables_of, cell_at, count_at, kind_of, first_of, rest_of, is_made, are_starts, Before, none_before, past_row, is_coded, judge_rows, judge_of, used_of}
use Rattle.std.specs.Prelude.{Ok, Err}
use Rattle.made.specs.declared.Flaw.TheVariants.{Faulty, Unlisted}
use Rattle.made.proofs.RowWays.{made_held}
use Rattle.made.proofs.OwnLaws.{fronts_of, first-front, rest-front, cell-alike, made_alike, starts-alike, first_then, rest_then}

-- ---- the used part is the front of each table, and the rest is behind it

-- the counts at a place of the first n rows, together
unfoldable pub total : ℕ → ℕ → Tables → ℕ
total p zero t = 0
total p (suc n) t = count_at t p + total p n (rest_of t)

abbrev pub behind_of : ℕ → Tables → Tables
behind_of n t = tables_of (drop (row_width * n) t.rows) (drop (total letters_place n t) t.letters) (drop (total islands_place n t) t.islands) (drop (2 * total vertices_place n t) t.points)

pub used-front : (n : ℕ) (t : Tables) → used_of n t ≡ fronts_of (row_width * n) (total letters_place n t) (total islands_place n t) (2 * total vertices_place n t) t
unfolding used_of total
used-front zero t = refl
used-front (suc n) t =
    let a : row_width * suc n ≡ row_width + row_width * n = omega arith in
    let b : 2 * (count_at t vertices_place + total vertices_place n (rest_of t)) ≡ 2 * count_at t vertices_place + 2 * total vertices_place n (rest_of t) = omega arith in
    ap (λ (x : Tables). first_of t then x) (used-front n (rest_of t))
    ∙ rw (
      a,
      b,
      take-add row_width (row_width * n) t.rows,
      take-add (count_at t letters_place) (total letters_place n (rest_of t)) t.letters,
      take-add (count_at t islands_place) (total islands_place n (rest_of t)) t.islands,
      take-add (2 * count_at t vertices_place) (2 * total vertices_place n (rest_of t)) t.points,
    )

pub used-behind : (n : ℕ) (t : Tables) → used_of n t then behind_of n t ≡ t
used-behind n t =
    ap (λ (x : Tables). x then behind_of n t) (used-front n t)
    ∙ rw (
      take-append-drop (row_width * n) t.rows,
      take-append-drop (total letters_place n t) t.letters,
      take-append-drop (total islands_place n t) t.islands,
      take-append-drop (2 * total vertices_place n t) t.points,
    )

-- its first row is theirs, and behind it are the rows that they use there
pub first-used : (n : ℕ) (t : Tables) → first_of (used_of (suc n) t) ≡ first_of t
unfolding total
first-used n t =
    ap first_of (used-front (suc n) t)
    ∙ first-front t (row_width * suc n) (total letters_place (suc n) t) (total islands_place (suc n) t) (2 * total vertices_place (suc n) t) (omega arith) (omega arith) (omega arith) (omega arith)

pub rest-used : (n : ℕ) (t : Tables) → rest_of (used_of (suc n) t) ≡ used_of n (rest_of t)
unfolding total
rest-used n t =
    let a : row_width * suc n ≡ row_width + row_width * n = omega arith in
    let b : 2 * (count_at t vertices_place + total vertices_place n (rest_of t)) ≡ 2 * count_at t vertices_place + 2 * total vertices_place n (rest_of t) = omega arith in
    ap rest_of (used-front (suc n) t) ∙ rw (a, b)
    (rest-front t (row_width * n) (total letters_place n (rest_of t)) (total islands_place n (rest_of t)) (2 * total vertices_place n (rest_of t))) ∙ sym (used-front n (rest_of t))

-- ---- the verdict

judge-rows-used : (mode : Mode) (n : ℕ) (b : Before) (t : Tables) → judge_rows mode n b (used_of n t) ≡ judge_rows mode n b t
unfolding judge_rows
judge-rows-used mode zero b t = refl
judge-rows-used mode (suc n) b t =
    let e = first-used n t in
    let cell : (p : ℕ) → p < row_width → cell_at (used_of (suc n) t) p ≡ cell_at t p = cell-alike (used_of (suc n) t) t e in
    let past : past_row b (used_of (suc n) t) ≡ past_row b t = rw (cell letters_place (omega arith), cell islands_place (omega arith), cell vertices_place (omega arith)) in
    rw (
      made_alike (used_of (suc n) t) t e,
      starts-alike (used_of (suc n) t) t e b.starts,
      rest-used n t,
      past,
      judge-rows-used mode n (past_row b t) (rest_of t),
      cell 0 (omega arith),
      cell code_place (omega arith),
    )

-- **what stands behind the used part never matters** to the verdict, in every mode, of any tables
pub judge-used : (mode : Mode) (h : Header) (n : ℕ) (t : Tables) → judge_of mode h n (used_of n t) ≡ judge_of mode h n t
unfolding judge_of
judge-used mode h n t = rw (judge-rows-used mode n none_before t)

-- ---- rows that are judged fine

-- the first is well made, those behind it are judged fine, its starts are right, and the mode takes its code
pub fine-on : (mode : Mode) (n : ℕ) (b : Before) (t : Tables) → judge_rows mode (suc n) b t ≡ Ok tt
    → (is_made t ≡ true) × (judge_rows mode n (past_row b t) (rest_of t) ≡ Ok tt) × (are_starts b.starts t.rows ≡ true) × (is_coded mode (kind_of t) (count_at t code_place) ≡ true)
unfolding judge_rows
fine-on mode n b t e =
    let code = is_coded mode (kind_of t) (count_at t code_place) in
    let rest = judge_rows mode n (past_row b t) (rest_of t) in
    let starts = are_starts b.starts t.rows in
    let f = cond-first (is_made t && starts) (cond code rest (Err (Unlisted b.row))) (Err (Faulty b.row)) (Ok tt) (λ z. let y : ◌≡◌ {A = ℕ} 0 1 = cc in omega arith) e in
    let g = cond-first code rest (Err (Unlisted b.row)) (Ok tt) (λ z. let y : ◌≡◌ {A = ℕ} 0 1 = cc in omega arith) f.1 in
    (and_left (is_made t) starts f.0, g.1, and_right (is_made t) starts f.0, g.0)

-- and back
pub fine_before : (mode : Mode) (n : ℕ) (b : Before) (t : Tables) → is_made t ≡ true → are_starts b.starts t.rows ≡ true → is_coded mode (kind_of t) (count_at t code_place) ≡ true
    → judge_rows mode n (past_row b t) (rest_of t) ≡ Ok tt → judge_rows mode (suc n) b t ≡ Ok tt
unfolding judge_rows
fine_before mode n b t m s c e = rw (m, s, c) e

-- they use the same, whatever stands behind them
pub used-then : (mode : Mode) (n : ℕ) (b : Before) (t u : Tables) → judge_rows mode n b t ≡ Ok tt → used_of n (t then u) ≡ used_of n t
unfolding used_of
used-then mode zero b t u e = refl
used-then mode (suc n) b t u e =
    let f = fine-on mode n b t e in
    let r = made_held t f.0 in
    ap₂ (λ (x y : Tables). x then y) (first_then t u r) (ap (used_of n) (rest_then t u r) ∙ used-then mode n (past_row b t) (rest_of t) u f.1)

-- "every table is long enough"
pub record Long (n : ℕ) (t : Tables) : Type 0 where
  pub rows_in : row_width * n ≤ length t.rows
  pub letters-in : total letters_place n t ≤ length t.letters
  pub islands-in : total islands_place n t ≤ length t.islands
  pub points-in : 2 * total vertices_place n t ≤ length t.points

pub fine-long : (mode : Mode) (n : ℕ) (b : Before) (t : Tables) → judge_rows mode n b t ≡ Ok tt → Long n t
unfolding total
fine-long mode zero b t e = record { rows_in = zero-le; letters-in = zero-le; islands-in = zero-le; points-in = zero-le }
fine-long mode (suc n) b t e =
    let f = fine-on mode n b t e in
    let r = made_held t f.0 in
    let i = fine-long mode n (past_row b t) (rest_of t) f.1 in
    record {
      rows_in = omega (arith, r.row, i.rows_in, length-drop row_width t.rows);
      letters-in = omega (arith, r.letters, i.letters-in, length-drop (count_at t letters_place) t.letters);
      islands-in = omega (arith, r.islands, i.islands-in, length-drop (count_at t islands_place) t.islands);
      points-in = omega (arith, r.points, i.points-in, length-drop (2 * count_at t vertices_place) t.points);
    }

-- two modes that are both exact, or both not, judge alike
judge-rows-alike : (mode mode' : Mode) → is_exact mode ≡ is_exact mode' → (n : ℕ) (b : Before) (t : Tables) → judge_rows mode n b t ≡ judge_rows mode' n b t
unfolding judge_rows is_coded
judge-rows-alike mode mode' e zero b t = refl
judge-rows-alike mode mode' e (suc n) b t = rw (e, judge-rows-alike mode mode' e n (past_row b t) (rest_of t))

pub judge-alike : (mode mode' : Mode) → is_exact mode ≡ is_exact mode' → (h : Header) (n : ℕ) (t : Tables) → judge_of mode h n t ≡ judge_of mode' h n t
unfolding judge_of
judge-alike mode mode' e h n t = rw (judge-rows-alike mode mode' e n none_before t)
