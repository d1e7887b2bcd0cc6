-- A walk over the rows of a sheet that was judged: where it stands, and that the row there is well made. Assumes nothing.
use Rattle.std.proofs.Common.{◌≡◌, ℕ, zero, suc, ◌+◌, ◌-◌, ◌*◌, ◌<◌, ◌≤◌, true, length, drop, sym, refl, ap, ◌∙◌, subst, zero-le, arith, length-drop, drop-drop}
use native.Mathlib.Nat.{sub-zero}
use Rattle.laws.specs.Lists.{tail}
use Rattle.laws.proofs.ListLaws.{rest-is}
use Rattle.record.specs.declared.Mode.{Mode}
use Rattle.kinds.specs.Kinds.{row_width, letters_place, islands_place, vertices_place}
use Rattle.sheet.specs.Tables.{Tables}
use Rattle.std.specs.Prelude.{Ok}
use Rattle.made.specs.Made.{tables_of, rest_of, is_made, are_starts, Before, none_before, past_row, judge_rows}
use Rattle.made.proofs.RowWays.{made_held}
use Rattle.made.proofs.UsedLaws.{fine-on}
use Rattle.made.proofs.StartLaws.{Starting, starts-are}
use Rattle.row.specs.declared.Stand.{Stand}
use Rattle.row.specs.Walk.{word_most, cell_in, first_stand, next_stand, stand_of, stand_at, own_stand, left_at, Stands}

-- the tables behind a place, as the code hands them on
abbrev pub tails_at : Tables → Stand → Tables
tails_at t d = tables_of (tail t.rows d.row) (tail t.letters d.letters) (tail t.islands d.islands) (tail t.points d.points)

pub tails-are : (t : Tables) (d : Stand) → tails_at t d ≡ left_at t d
tails-are t d = rw (rest-is t.rows d.row, rest-is t.letters d.letters, rest-is t.islands d.islands, rest-is t.points d.points)

pub left-next : (t : Tables) (d : Stand) → left_at t (next_stand t.rows d) ≡ rest_of (left_at t d)
unfolding next_stand
left-next t d = simp drop-drop

stand-alike : {a b c d e f g h : ℕ} → a ≡ e → b ≡ f → c ≡ g → d ≡ h
    → ◌≡◌ {A = Stand} (record { row = a; letters = b; islands = c; points = d }) (record { row = e; letters = f; islands = g; points = h })
stand-alike p q r s = rw (p, q, r, s)

-- ---- a walk: `count` rows, k of them behind it

pub record Walk (mode : Mode) (t : Tables) (count : ℕ) (d : Stand) (k : ℕ) : Type 0 where
  pub before : Before
  pub passed : before.row ≡ k
  pub at : d ≡ stand_at before
  pub within : k ≤ count
  pub stands : Stands (length t.rows) (length t.letters) (length t.islands) (length t.points) d
  pub fine : judge_rows mode (count - k) before (left_at t d) ≡ Ok tt

pub walk_start : (mode : Mode) (t : Tables) (count : ℕ) → judge_rows mode count none_before t ≡ Ok tt → Walk mode t count first_stand 0
walk_start mode t count e =
    record {
      before = none_before;
      passed = refl;
      at = refl;
      within = zero-le;
      stands = record { row_in = zero-le; letters-in = zero-le; islands-in = zero-le; points-in = zero-le };
      fine = rw (sub-zero count) e;
    }

module _ {mode : Mode} {t : Tables} {count : ℕ} {d : Stand} {k : ℕ} (w : Walk mode t count d k) (h : k < count) where
  pub one_more : count - k ≡ suc (count - (k + 1))
  one_more = omega arith

  abbrev next : Stand
  next = next_stand t.rows d

  first : judge_rows mode (suc (count - (k + 1))) w.before (left_at t d) ≡ Ok tt
  first = rw one_more at w.fine

  here : (is_made (left_at t d) ≡ true) × (judge_rows mode (count - (k + 1)) (past_row w.before (left_at t d)) (rest_of (left_at t d)) ≡ Ok tt)
  here = let f = fine-on mode (count - (k + 1)) w.before (left_at t d) first in (f.0, f.1)

  -- the row says itself where it stands
  pub walk-own : d ≡ own_stand k t.rows
  walk-own =
      let row : d.row ≡ row_width * k = ap (λ (x : Stand). x.row) w.at ∙ ap (λ (n : ℕ). row_width * n) w.passed in
      let f = fine-on mode (count - (k + 1)) w.before (left_at t d) first in
      let r : Starting w.before.starts (drop (row_width * k) t.rows) = starts-are w.before.starts (drop (row_width * k) t.rows) (ap (λ (i : ℕ). are_starts w.before.starts (drop i t.rows)) (sym row) ∙ f.2) in
      w.at ∙ rw (w.passed, r.letters, r.islands, r.points)

  next-at : next ≡ stand_at (past_row w.before (left_at t d))
  unfolding next_stand
  next-at =
      let b = w.before in
      let x = cell_in (drop d.row t.rows) in
      let r : d.row + row_width ≡ row_width * (b.row + 1) = omega (arith, ap (λ (x : Stand). x.row) w.at) in
      let p : d.points + 2 * x vertices_place ≡ 2 * (b.starts.points + x vertices_place) = omega (arith, ap (λ (x : Stand). x.points) w.at) in
      stand-alike r (ap (λ (y : Stand). y.letters + x letters_place) w.at) (ap (λ (y : Stand). y.islands + x islands_place) w.at) p

  pub walk-left : is_made (left_at t d) ≡ true
  walk-left = here.0

  pub walk-made : is_made (tails_at t d) ≡ true
  walk-made = rw (tails-are t d) here.0

  pub walk-stands : Stands (length t.rows) (length t.letters) (length t.islands) (length t.points) next
  unfolding next_stand
  walk-stands =
      let r = made_held (left_at t d) here.0 in
      let s = w.stands in
      record {
        row_in = omega (arith, s.row_in, r.row, length-drop d.row t.rows);
        letters-in = omega (arith, s.letters-in, r.letters, length-drop d.letters t.letters);
        islands-in = omega (arith, s.islands-in, r.islands, length-drop d.islands t.islands);
        points-in = omega (arith, s.points-in, r.points, length-drop d.points t.points);
      }

  pub walk-on : (e : Stand) → e ≡ next → Walk mode t count e (k + 1)
  walk-on e q =
      rw q
      (record {
        before = past_row w.before (left_at t d);
        passed = ap (λ (n : ℕ). n + 1) w.passed;
        at = next-at;
        within = omega arith;
        stands = walk-stands;
        fine = rw (left-next t d) here.1;
      })

pub stands-small : {a b c e : ℕ} {d : Stand} → Stands a b c e d → a ≤ word_most → b ≤ word_most → c ≤ word_most → e ≤ word_most → Stands word_most word_most word_most word_most d
stands-small s f g h i =
    record {
      row_in = omega (arith, s.row_in);
      letters-in = omega (arith, s.letters-in);
      islands-in = omega (arith, s.islands-in);
      points-in = omega (arith, s.points-in);
    }

-- ---- the stand of a row

add-one : (k : ℕ) → k + 1 ≡ suc k
add-one k = omega arith

walk_step : {mode : Mode} {t : Tables} {count : ℕ} {d : Stand} {k : ℕ} → Walk mode t count d k → k < count → Walk mode t count (next_stand t.rows d) (suc k)
walk_step {mode} {t} {count} {d} {k} w h = subst (Walk mode t count (next_stand t.rows d)) (add-one k) (walk-on w h (next_stand t.rows d) refl)

-- a walk comes to every row of the sheet
pub walk-to : (mode : Mode) (t : Tables) (count : ℕ) → judge_rows mode count none_before t ≡ Ok tt → (k : ℕ) → k ≤ count → Walk mode t count (stand_of k t.rows) k
unfolding stand_of
walk-to mode t count e zero h = walk_start mode t count e
walk-to mode t count e (suc k) h =
    walk_step (walk-to mode t count e k (omega arith)) (omega arith)
