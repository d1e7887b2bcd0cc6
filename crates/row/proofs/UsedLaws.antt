-- A question on a row is answered by the row's own part of the tables (document 01, "Sheet tables"): so what stands behind the used part never
-- matters, and the row may be asked about alone. Assumes nothing.
use Rattle.std.proofs.Common.{◌≡◌, ℕ, zero, suc, ◌+◌, ◌-◌, ◌*◌, ◌<◌, ◌≤◌, Bool, true, false, cond, ltb, leb, length, get_or, take, pos, sym, refl, ap, ◌∙◌, arith, length-append, length-take-le, get_or-take, take-take, get_or-append-add, ltb-true, le-leb, Result, Ok, Err}
use native.Mathlib.Nat.{sub-zero}
use lib.ListN.{get_or-append}
use lib.Seq.{take-append-le}
use Rattle.record.specs.declared.Mode.TheVariants.{Loose}
use Rattle.heading.specs.declared.Header.{Header}
use Rattle.heading.specs.Heading.{is_header}
use Rattle.kinds.specs.Kinds.{row_width, own_width, letters_place, islands_place, vertices_place}
use Rattle.sheet.specs.Tables.{Tables, no_starts, start_cells}
use Rattle.made.specs.declared.Flaw.{Flaw}
use Rattle.made.specs.declared.Flaw.TheVariants.{BadHeader}
use Rattle.made.specs.Made.{cell_at, count_at, first_of, own_of, rest_of, is_made, are_starts, alone_of, none_before, is_coded, judge_rows, judge_of, used_of}
use Rattle.made.proofs.RowWays.{made_held}
use Rattle.made.proofs.OwnLaws.{made-same, own_same, cell-alike}
use Rattle.made.proofs.UsedLaws.{first-used, rest-used, judge-used, fine_before}
use Rattle.made.proofs.StartLaws.{are-starts}
use Rattle.row.specs.declared.Stand.{Stand}
use Rattle.row.specs.declared.Unfound.{Unfound}
use Rattle.row.specs.declared.Unfound.TheVariants.{Missing, Refused}
use Rattle.row.specs.Walk.{first_stand, next_stand, stand_of, left_at}
use Rattle.row.specs.Seek.{sought_after, sought_of}
use Rattle.row.specs.Alone.{row_alone}
use Rattle.row.proofs.Walk.{left-next, walk-to, walk-left}
use Rattle.row.proofs.SeekLaws.{fine-rows, Stood, stood}
use Rattle.row.proofs.SeekWays.{sought-is}

-- ---- where a row stands in the used part

-- the same place, and what is left of the used part there is what the rows left use
pub record StoodUsed (n : ℕ) (t : Tables) (k : ℕ) : Type 0 where
  pub same : stand_of k (used_of n t).rows ≡ stand_of k t.rows
  pub left : left_at (used_of n t) (stand_of k t.rows) ≡ used_of (n - k) (left_at t (stand_of k t.rows))

next-alike : (t u : Tables) (d : Stand) → first_of (left_at t d) ≡ first_of (left_at u d) → next_stand t.rows d ≡ next_stand u.rows d
unfolding next_stand
next-alike t u d e =
    let cell = cell-alike (left_at t d) (left_at u d) e in
    rw (cell letters_place (omega arith), cell islands_place (omega arith), cell vertices_place (omega arith))

pub stand-used : (n : ℕ) (t : Tables) (k : ℕ) → k ≤ n → StoodUsed n t k
unfolding stand_of
stand-used n t zero h = record { same = refl; left = ap (λ (m : ℕ). used_of m t) (sym (sub-zero n)) }
stand-used n t (suc k) h =
    let i = stand-used n t k (omega arith) in
    let d = stand_of k t.rows in
    let e : n - k ≡ suc (n - suc k) = omega arith in
    let l : left_at (used_of n t) d ≡ used_of (suc (n - suc k)) (left_at t d) = i.left ∙ ap (λ (m : ℕ). used_of m (left_at t d)) e in
    let s : next_stand (used_of n t).rows d ≡ next_stand t.rows d = next-alike (used_of n t) t d (ap first_of l ∙ first-used (n - suc k) (left_at t d)) in
    record {
      same = ap (next_stand (used_of n t).rows) i.same ∙ s;
      left =
          ap (left_at (used_of n t)) (sym s) ∙ left-next (used_of n t) d ∙ ap rest_of l ∙ rest-used (n - suc k) (left_at t d)
          ∙ ap (used_of (n - suc k)) (sym (left-next t d));
    }

-- each of the rows has its own part there
own-used : (n : ℕ) (t : Tables) (k : ℕ) → k < n → own_of (left_at (used_of n t) (stand_of k (used_of n t).rows)) ≡ own_of (left_at t (stand_of k t.rows))
own-used n t k h =
    let i = stand-used n t k (omega arith) in
    let d = stand_of k t.rows in
    let e : n - k ≡ suc (n - suc k) = omega arith in
    own_same (left_at (used_of n t) (stand_of k (used_of n t).rows)) (left_at t d)
    (ap (λ (x : Stand). first_of (left_at (used_of n t) x)) i.same ∙ ap first_of (i.left ∙ ap (λ (m : ℕ). used_of m (left_at t d)) e) ∙ first-used (n - suc k) (left_at t d))

-- so a row is found there, or refused, alike
pub sought-used : (h : Header) (n : ℕ) (t : Tables) (k : ℕ) → sought_of h n (used_of n t) k ≡ sought_of h n t k
unfolding sought_of
sought-used h n t k = ap (λ (v : Result Unit Flaw). sought_after v n (used_of n t) k) (judge-used Loose h n t) ∙ by (judge_of Loose h n t)
  where
    row : (b : Bool) → ltb k n ≡ b → cond b (Ok (stand_of k (used_of n t).rows)) (Err Missing) ≡ cond b (Ok (stand_of k t.rows)) (Err Missing)
    row true l = let m = ltb-true k n l in ap Ok (stand-used n t k (omega arith)).same
    row false l = refl

    by : (v : Result Unit Flaw) → sought_after v n (used_of n t) k ≡ sought_after v n t k
    by (Ok u) = row (ltb k n) refl
    by (Err f) = refl

-- ---- questions

-- the row of a question is found: its own part answers, without its starts, as a sheet of its own. Elsewhere the tables play no part
pub record Question {A : Type 0} (f : Tables → Result Stand Unfound → A) : Type 0 where
  pub own : (t : Tables) (k : ℕ) → is_made (left_at t (stand_of k t.rows)) ≡ true → f t (Ok (stand_of k t.rows)) ≡ f (own_of (left_at t (stand_of k t.rows))) (Ok first_stand)
  pub missing : (t u : Tables) → f t (Err Missing) ≡ f u (Err Missing)
  pub refused : (t u : Tables) (v : Flaw) → f t (Err (Refused v)) ≡ f u (Err (Refused v))

module _ {A : Type 0} (f : Tables → Result Stand Unfound → A) (q : Question f) (h : Header) (n : ℕ) (t : Tables) (k : ℕ) where
  -- **what stands behind the used part never matters** to a question on a row, of any tables
  pub asked-used : f (used_of n t) (sought_of h n (used_of n t) k) ≡ f t (sought_of h n t k)
  asked-used = ap (f (used_of n t)) same ∙ by (sought_of h n t k) refl
    where
      same : sought_of h n (used_of n t) k ≡ sought_of h n t k
      same = sought-used h n t k

      row : (x : Tables) (d : Stand) → Stood h n x k d → f x (Ok d) ≡ f (own_of (left_at x (stand_of k x.rows))) (Ok first_stand)
      row x d w = ap (λ (e : Stand). f x (Ok e)) w.is ∙ q.own x k (rw (← w.is) w.made)

      by : (s : Result Stand Unfound) → s ≡ sought_of h n t k → f (used_of n t) s ≡ f t s
      by (Ok d) e =
          let w = stood h n t k d (Ok d) e refl in
          row (used_of n t) d (stood h n (used_of n t) k d (Ok d) (e ∙ sym same) refl) ∙ ap (λ (x : Tables). f x (Ok first_stand)) (own-used n t k w.row) ∙ sym (row t d w)
      by (Err Missing) e = q.missing (used_of n t) t
      by (Err (Refused v)) e = q.refused (used_of n t) t v

-- ---- a row alone

module _ (x : Tables) (m : is_made x ≡ true) where
  abbrev alone : Tables
  alone = alone_of x

  held : row_width ≤ length x.rows
  held = (made_held x m).row

  wide : length (take own_width x.rows) ≡ own_width
  wide = length-take-le own_width x.rows (omega (arith, held))

  cell-alone : (p : ℕ) → p < own_width → cell_at alone p ≡ cell_at x p
  cell-alone p h = get_or-append (take own_width x.rows) (start_cells no_starts) (pos 0) p (omega (arith, wide)) ∙ get_or-take own_width x.rows p (pos 0) h

  start-alone : (p : ℕ) → get_or alone.rows (own_width + p) (pos 0) ≡ get_or (start_cells no_starts) p (pos 0)
  start-alone p = ap (λ (n : ℕ). get_or alone.rows (n + p) (pos 0)) (sym wide) ∙ get_or-append-add (take own_width x.rows) (start_cells no_starts) p (pos 0)

  -- it has the row's own part
  own_alone : own_of alone ≡ own_of x
  own_alone =
      let l = count_at x letters_place in
      let i = count_at x islands_place in
      let v = count_at x vertices_place in
      rw (
        cell-alone letters_place (omega arith),
        cell-alone islands_place (omega arith),
        cell-alone vertices_place (omega arith),
        take-append-le own_width (take own_width x.rows) (start_cells no_starts) (omega (arith, wide)),
        take-take own_width own_width x.rows (omega arith),
        take-take l l x.letters (omega arith),
        take-take i i x.islands (omega arith),
        take-take (2 * v) (2 * v) x.points (omega arith),
      )

  made-alone : is_made alone ≡ true
  made-alone =
      let a : leb row_width (length alone.rows) ≡ true = le-leb row_width (length alone.rows) (omega (arith, wide, length-append (take own_width x.rows) (start_cells no_starts))) in
      made-same alone x (a ∙ sym (le-leb row_width (length x.rows) held)) own_alone ∙ m

  starts-alone : are_starts no_starts alone.rows ≡ true
  starts-alone = are-starts no_starts alone.rows (record { letters = start-alone 0; islands = start-alone 1; points = start-alone 2 })

-- ---- a row of a well made sheet, alone

module _ (h : Header) (n : ℕ) (t : Tables) (k : ℕ) (e : judge_of Loose h n t ≡ Ok tt) (l : k < n) where
  abbrev here : Tables
  here = left_at t (stand_of k t.rows)

  row_made : is_made here ≡ true
  row_made = walk-left (walk-to Loose t n (fine-rows h n t e) k (omega arith)) l

  -- it is a well made sheet of one row
  pub alone-fine : judge_of Loose h 1 (row_alone k t) ≡ Ok tt
  unfolding judge_of judge_rows is_coded
  alone-fine = go (is_header h) e
    where
      go : (b : Bool) → cond b (judge_rows Loose n none_before t) (Err BadHeader) ≡ Ok tt → cond b (judge_rows Loose 1 none_before (row_alone k t)) (Err BadHeader) ≡ Ok tt
      go true d = fine_before Loose 0 none_before (row_alone k t) (made-alone here row_made) (starts-alone here row_made) refl refl
      go false d = absurd (let z : ◌≡◌ {A = ℕ} 0 1 = cc in omega arith)

  -- **a question on a row is answered by that row alone**
  pub asked-alone : {A : Type 0} (f : Tables → Result Stand Unfound → A) → Question f → f (row_alone k t) (sought_of h 1 (row_alone k t) 0) ≡ f t (sought_of h n t k)
  unfolding stand_of
  asked-alone f q =
      ap (f (row_alone k t)) (sym (sought-is h 1 (row_alone k t) 0 alone-fine (omega arith)))
      ∙ q.own (row_alone k t) 0 (made-alone here row_made)
      ∙ ap (λ (x : Tables). f x (Ok first_stand)) (own_alone here row_made)
      ∙ sym (q.own t k row_made)
      ∙ ap (f t) (sought-is h n t k e l)
