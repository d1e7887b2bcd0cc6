-- The loop over the rows: what is left of the tables, and a turn of it. Assumes nothing.
use Rattle.std.proofs.Common.{◌≡◌, ℕ, suc, ◌+◌, ◌-◌, ◌*◌, ◌≤◌, ◌<◌, Bool, true, false, cond, length, Result, Ok, Err, refl, sym, ap, ◌∙◌, arith, length-drop}
use mathlib.Core.Bool.{◌&&◌}
use native.Mathlib.Nat.{sub-zero}
use Rattle.laws.specs.Lists.{tail}
use Rattle.laws.proofs.Choice.{and_left}
use Rattle.laws.proofs.ListLaws.{rest-is}
use Rattle.record.specs.declared.Mode.{Mode}
use Rattle.kinds.specs.Kinds.{row_width, code_place, letters_place, islands_place, vertices_place}
use Rattle.sheet.specs.Tables.{Tables}
use Rattle.made.specs.declared.Counts.{Counts}
use Rattle.made.specs.declared.Flaw.{Flaw}
use Rattle.made.specs.declared.Flaw.TheVariants.{Faulty, Unlisted}
use Rattle.made.specs.Made.{tables_of, count_at, kind_of, rest_of, is_made, are_starts, Before, none_before, past_row, is_coded, judge_rows}
use Rattle.made.specs.Turn.{starts_of, own_counts, row_turn}
use Rattle.made.proofs.RowWays.{made_held}

-- ---- one row

abbrev after : Mode → ℕ → Before → Tables → Result Counts Flaw → Result Unit Flaw
after mode n b t (Ok own) = judge_rows mode n (past_row b t) (rest_of t)
after mode n b t (Err f) = Err f

-- k rows stand before, and so many letters, island counts and points
abbrev pub behind : ℕ → Counts → Before
behind k c = record { row = k; starts = starts_of c }

module _ (mode : Mode) (k : ℕ) (b : Counts) (t : Tables) where
  abbrev placed : Bool
  placed = is_made t && are_starts (starts_of b) t.rows

  abbrev coded : Bool
  coded = is_coded mode (kind_of t) (count_at t code_place)

  by_turn : (n : ℕ) → judge_rows mode (suc n) (behind k b) t ≡ after mode n (behind k b) t (row_turn mode k b t)
  unfolding judge_rows row_turn
  by_turn n = go placed coded
    where
      go : (x y : Bool) → cond x (cond y (judge_rows mode n (past_row (behind k b) t) (rest_of t)) (Err (Unlisted k))) (Err (Faulty k)) ≡ after mode n (behind k b) t (cond x (cond y (Ok (own_counts t)) (Err (Unlisted k))) (Err (Faulty k)))
      go true true = refl
      go true false = refl
      go false y = refl

  -- a row that is passed is made, and its own part is passed
  on_made : (own : Counts) → row_turn mode k b t ≡ Ok own → (is_made t ≡ true) × (own ≡ own_counts t)
  unfolding row_turn
  on_made own e = go placed coded refl e
    where
      go : (x y : Bool) → placed ≡ x → cond x (cond y (Ok (own_counts t)) (Err (Unlisted k))) (Err (Faulty k)) ≡ Ok own → (is_made t ≡ true) × (own ≡ own_counts t)
      go true true m f = (and_left (is_made t) (are_starts (starts_of b) t.rows) m, let z : own ≡ own_counts t = cc in z)
      go true false m f = absurd (let z : ◌≡◌ {A = ℕ} 0 1 = cc in omega arith)
      go false y m f = absurd (let z : ◌≡◌ {A = ℕ} 0 1 = cc in omega arith)

-- ---- the loop: k rows are judged, and have so many letters, island counts and points; u is left

pub record Judged (mode : Mode) (count : ℕ) (t : Tables) (k : ℕ) (b : Counts) (u : Tables) : Type 0 where
  pub letters-in : b.letters + length u.letters ≤ length t.letters
  pub islands-in : b.islands + length u.islands ≤ length t.islands
  pub points-in : 2 * b.points + length u.points ≤ length t.points
  pub rest : judge_rows mode count none_before t ≡ judge_rows mode (count - k) (behind k b) u

pub judged_none : (mode : Mode) (count : ℕ) (t : Tables) → Judged mode count t 0 (record { letters = 0; islands = 0; points = 0 }) t
judged_none mode count t = record { letters-in = omega arith; islands-in = omega arith; points-in = omega arith; rest = rw sub-zero }

-- the counts of a row more
abbrev pub more : Counts → Counts → Counts
more b own = record { letters = b.letters + own.letters; islands = b.islands + own.islands; points = b.points + own.points }

-- a row more: the tables hold its own part, and what they leave behind it
pub record Passed (mode : Mode) (count : ℕ) (t : Tables) (k : ℕ) (b : Counts) (u : Tables) (own : Counts) : Type 0 where
  pub row : row_width ≤ length u.rows
  pub letters : own.letters ≤ length u.letters
  pub islands : own.islands ≤ length u.islands
  pub points : 2 * own.points ≤ length u.points
  pub within : Judged mode count t k b u
  pub on : Judged mode count t (k + 1) (more b own) (tables_of (tail u.rows row_width) (tail u.letters own.letters) (tail u.islands own.islands) (tail u.points (2 * own.points)))

module _ (mode : Mode) (count : ℕ) (t : Tables) (k : ℕ) (b : Counts) (u : Tables) (j : Judged mode count t k b u) where
  pub judged_all : count ≤ k → Ok tt ≡ judge_rows mode count none_before t
  unfolding judge_rows
  judged_all h =
      let z : count - k ≡ 0 = omega arith in
      sym (j.rest ∙ rw z)

  module _ (h : k < count) (r : Result Counts Flaw) (x : r ≡ row_turn mode k b u) where
    judged : (y : Result Counts Flaw) → r ≡ y → judge_rows mode count none_before t ≡ after mode (count - (k + 1)) (behind k b) u y
    judged y e =
        let z : count - k ≡ suc (count - (k + 1)) = omega arith in
        j.rest ∙ ap (λ (n : ℕ). judge_rows mode n (behind k b) u) z ∙ by_turn mode k b u (count - (k + 1)) ∙ ap (after mode (count - (k + 1)) (behind k b) u) (sym x ∙ e)

    pub judged_stop : (f : Flaw) → r ≡ Err f → Err f ≡ judge_rows mode count none_before t
    judged_stop f e = sym (judged (Err f) e)

    pub judged_on : (own : Counts) → r ≡ Ok own → Passed mode count t k b u own
    judged_on own e =
        let m = on_made mode k b u own (sym x ∙ e) in
        let held = made_held u m.0 in
        let l : own.letters ≡ count_at u letters_place = ap (λ (c : Counts). c.letters) m.1 in
        let i : own.islands ≡ count_at u islands_place = ap (λ (c : Counts). c.islands) m.1 in
        let p : own.points ≡ count_at u vertices_place = ap (λ (c : Counts). c.points) m.1 in
        record {
          row = held.row;
          letters = omega (arith, l, held.letters);
          islands = omega (arith, i, held.islands);
          points = omega (arith, p, held.points);
          within = j;
          on =
              rw (rest-is u.rows row_width, rest-is u.letters own.letters, rest-is u.islands own.islands, rest-is u.points (2 * own.points), l, i, p)
              (record {
                letters-in = omega (arith, held.letters, j.letters-in, length-drop (count_at u letters_place) u.letters);
                islands-in = omega (arith, held.islands, j.islands-in, length-drop (count_at u islands_place) u.islands);
                points-in = omega (arith, held.points, j.points-in, length-drop (2 * count_at u vertices_place) u.points);
                rest = judged (Ok own) e;
              });
        }
