-- A running tally: a refused border leaves it as it was, and the borders of a well made sheet, taken one by one into an empty tally, give the
-- sheet's tally or its refusal: document 01, "Areas". Assumes nothing.
use mathlib.Core.Path.{◌≡◌, refl, sym, ap, ◌∙◌}
use mathlib.Core.List.{List}
use mathlib.Core.Bool.{Bool, true, false, cond, ◌&&◌}
use Prim.Native.Nat.{ℕ, zero, suc, ◌+◌, ◌<◌}
use native.Mathlib.Omega.{arith}
use lib.IntN.{ℤ}
use borrow.Author.Tests.{lt-ltb}
use Rattle.std.specs.Result.{is_ok}
use Rattle.std.proofs.Common.{Result, Ok, Err}
use Rattle.laws.proofs.Choice.{true≢false, cond-elim, cond-true}
use Rattle.record.specs.declared.Mode.TheVariants.{Loose}
use Rattle.heading.specs.declared.Header.{Header}
use Rattle.sheet.specs.Tables.{Tables}
use Rattle.made.specs.declared.Flaw.{Flaw}
use Rattle.made.specs.Made.{rest_of, judge_of}
use Rattle.row.specs.declared.Stand.{Stand}
use Rattle.row.specs.declared.Unfound.{Unfound}
use Rattle.row.specs.declared.Unfound.TheVariants as Unfound
use Rattle.row.specs.Walk.{stand_of, left_at}
use Rattle.row.specs.Seek.{sought_of}
use Rattle.row.proofs.Walk.{left-next}
use Rattle.border.specs.Borders.{is_border, border_of}
use Rattle.plane.specs.declared.NoArea.{NoArea}
use Rattle.plane.specs.declared.NoArea.TheVariants as NoArea
use Rattle.area.specs.declared.Areas.{Areas}
use Rattle.tally.specs.declared.Tally.{Tally}
use Rattle.tally.specs.declared.Untallied.TheVariants.{Missing, Full}
use Rattle.tally.specs.declared.Taken.{Taken}
use Rattle.tally.specs.Tally.{Added, Good, empty_tally, is_tally, plus, refused_at, with_figures, add_of}
use Rattle.tally.specs.Take.{taken_with, borders_areas, after_added, after_areas, border_taken, row_taken, front_taken, taken_at, taken_of, then_take, tally_rows, tallied_after, tally_of}
use Rattle.tally.specs.InTurn.{is_border_row, unless_refused, taken_in_turn}
use Rattle.tally.proofs.AddWays.{added-good}
use Rattle.tally.proofs.Tallying.{none-good}

-- ---- "a refused border alters none of it"

abbrev Leaves : Tally → Taken → Type 0
Leaves a x = is_ok x.outcome ≡ false → x.tally ≡ a

module _ (h : Header) (k : ℕ) (t : Tables) (a : Tally) where
  added-leaves : (own : List ℤ) → Leaves a (after_added k (with_figures a own))
  unfolding with_figures
  added-leaves own =
      cond-elim (λ (x : Added). Leaves a (after_added k x)) (is_tally a.figures && (is_tally own && is_tally (plus a.figures own))) _ (refused_at a)
      (λ _ e. absurd (true≢false e)) (λ _ _. refl)

  areas-leave : (x : Result Areas NoArea) → Leaves a (after_areas h k t a x)
  unfolding add_of
  areas-leave (Ok r) = added-leaves _
  areas-leave (Err NoArea.Wide) = λ _. refl
  areas-leave (Err NoArea.Missing) = λ _. refl

  border-leaves : Leaves a (border_taken h k t a)
  unfolding border_taken
  border-leaves = areas-leave (borders_areas t)

  front-leaves : Leaves a (front_taken h k t a)
  front-leaves =
      cond-elim (Leaves a) (is_border t) (cond (is_tally a.figures) (border_taken h k t a) (taken_with a (Err (Full k)))) (taken_with a (Err Missing))
      (λ _. cond-elim (Leaves a) (is_tally a.figures) (border_taken h k t a) (taken_with a (Err (Full k))) (λ _. border-leaves) (λ _ _. refl))
      (λ _ _. refl)

pub refused-leaves : (a : Tally) (h : Header) (count : ℕ) (t : Tables) (k : ℕ) → is_ok (taken_of a h count t k).outcome ≡ false → (taken_of a h count t k).tally ≡ a
unfolding taken_of
refused-leaves a h count t k = by (sought_of h count t k)
  where
    by : (s : Result Stand Unfound) → Leaves a (taken_at h t k a s)
    by (Ok d) = front-leaves h k (left_at t d) a
    by (Err e) = λ _. refl

-- ---- the borders in turn

border-good : (h : Header) (k : ℕ) (t : Tables) (a : Tally) → Good a.figures → Good (border_taken h k t a).tally.figures
unfolding border_taken
border-good h k t a g = by (borders_areas t)
  where
    by : (x : Result Areas NoArea) → Good (after_areas h k t a x).tally.figures
    by (Ok r) = added-good a.figures g (border_of h t) r.outer r.inner
    by (Err NoArea.Wide) = g
    by (Err NoArea.Missing) = g

rows-good : (h : Header) (n k : ℕ) (t : Tables) (a : Tally) → Good a.figures → Good (tally_rows h n k t a).tally.figures
unfolding tally_rows row_taken
rows-good h zero k t a g = g
rows-good h (suc n) k t a g =
    by (is_border t) (border_taken h k t a) (border-good h k t a g) (λ x. rows-good h n (k + 1) (rest_of t) x)
  where
    then : (x : Taken) → Good x.tally.figures → ((y : Tally) → Good y.figures → Good (tally_rows h n (k + 1) (rest_of t) y).tally.figures)
        → Good (then_take x (tally_rows h n (k + 1) (rest_of t))).tally.figures
    then x c f =
        cond-elim (λ (y : Taken). Good y.tally.figures) (is_ok x.outcome) (tally_rows h n (k + 1) (rest_of t) x.tally) (taken_with empty_tally x.outcome)
        (λ _. f x.tally c) (λ _. none-good)

    by : (b : Bool) (x : Taken) → Good x.tally.figures → ((y : Tally) → Good y.figures → Good (tally_rows h n (k + 1) (rest_of t) y).tally.figures)
        → Good (then_take (cond b x (taken_with a (Ok tt))) (tally_rows h n (k + 1) (rest_of t))).tally.figures
    by true x c f = then x c f
    by false x c f = then (taken_with a (Ok tt)) g f

-- the figures of any sheet's tally keep the limit
pub tally-good : (h : Header) (count : ℕ) (t : Tables) → Good (tally_of h count t).tally.figures
unfolding tally_of
tally-good h count t = by (judge_of Loose h count t)
  where
    by : (v : Result Unit Flaw) → Good (tallied_after h count t v).tally.figures
    by (Ok u) = rows-good h count 0 t empty_tally none-good
    by (Err f) = none-good

-- and one that is not refused is of a sheet that was judged well
pub tally-fine : (h : Header) (count : ℕ) (t : Tables) → (tally_of h count t).outcome ≡ Ok tt → judge_of Loose h count t ≡ Ok tt
unfolding tally_of
tally-fine h count t e = by (judge_of Loose h count t) e
  where
    by : (v : Result Unit Flaw) → (tallied_after h count t v).outcome ≡ Ok tt → v ≡ Ok tt
    by (Ok u) q = refl
    by (Err f) q = absurd (let z : ◌≡◌ {A = ℕ} 0 1 = cc in omega arith)

-- the tally of a sheet is all 0 where it is refused
abbrev settled : Taken → Taken
settled x = cond (is_ok x.outcome) x (taken_with empty_tally x.outcome)

module _ (h : Header) (count : ℕ) (t : Tables) (fine : judge_of Loose h count t ≡ Ok tt) where
  abbrev left : ℕ → Tables
  left k = left_at t (stand_of k t.rows)

  left-on : (k : ℕ) → rest_of (left k) ≡ left (k + 1)
  unfolding stand_of
  left-on k = let e : k + 1 ≡ suc k = omega arith in rw e (sym (left-next t (stand_of k t.rows)))

  -- a border that is asked for is the row that the sheet's tally comes to
  taken_is : (k : ℕ) → k < count → (a : Tally) → is_tally a.figures ≡ true → is_border_row t k ≡ true → taken_of a h count t k ≡ border_taken h k (left k) a
  unfolding taken_of sought_of
  taken_is k l a e b = rw (fine, lt-ltb k count l, b, e)

  module _ (n k : ℕ) (rest : (a : Tally) → Good a.figures → tally_rows h n (k + 1) (left (k + 1)) a ≡ settled (taken_in_turn h count t n (k + 1) a)) where
    onwards : (a : Tally) → Good a.figures → tally_rows h n (k + 1) (rest_of (left k)) a ≡ settled (taken_in_turn h count t n (k + 1) a)
    onwards a g = ap (λ (u : Tables). tally_rows h n (k + 1) u a) (left-on k) ∙ rest a g

    either : (x : Taken) → Good x.tally.figures → then_take x (tally_rows h n (k + 1) (rest_of (left k))) ≡ settled (unless_refused x (taken_in_turn h count t n (k + 1)))
    either x g = by (is_ok x.outcome) refl
      where
        by : (b : Bool) → is_ok x.outcome ≡ b
            → cond b (tally_rows h n (k + 1) (rest_of (left k)) x.tally) (taken_with empty_tally x.outcome) ≡ settled (cond b (taken_in_turn h count t n (k + 1) x.tally) x)
        by true e = onwards x.tally g
        by false e = rw e

    turn : k < count → (a : Tally) → Good a.figures → tally_rows h (suc n) k (left k) a ≡ settled (taken_in_turn h count t (suc n) k a)
    unfolding tally_rows row_taken taken_in_turn
    turn l a g = by (is_border_row t k) refl
      where
        by : (b : Bool) → is_border_row t k ≡ b
            → then_take (cond b (border_taken h k (left k) a) (taken_with a (Ok tt))) (tally_rows h n (k + 1) (rest_of (left k)))
            ≡ settled (cond b (unless_refused (taken_of a h count t k) (taken_in_turn h count t n (k + 1))) (taken_in_turn h count t n (k + 1) a))
        by true e = rw (taken_is k l a g.each e) (either (border_taken h k (left k) a) (border-good h k (left k) a g))
        by false e = onwards a g

  turns : (n k : ℕ) → k + n ≡ count → (a : Tally) → Good a.figures → tally_rows h n k (left k) a ≡ settled (taken_in_turn h count t n k a)
  unfolding tally_rows taken_in_turn
  turns zero k s a g = refl
  turns (suc n) k s a g = turn n k (turns n (k + 1) (omega arith)) (omega arith) a g

  abbrev in_turn : Taken
  in_turn = taken_in_turn h count t count 0 empty_tally

  sheet-is : tally_of h count t ≡ settled in_turn
  unfolding tally_of stand_of
  sheet-is = rw fine (turns count 0 (omega arith) empty_tally none-good)

  -- none refused, they end in the sheet's tally
  pub in-turn-tally : is_ok (taken_in_turn h count t count 0 empty_tally).outcome ≡ true → taken_in_turn h count t count 0 empty_tally ≡ tally_of h count t
  in-turn-tally e = sym (sheet-is ∙ cond-true (is_ok in_turn.outcome) in_turn (taken_with empty_tally in_turn.outcome) e)

  -- where one is refused, the sheet is, with the same row
  pub in-turn-refusal : (taken_in_turn h count t count 0 empty_tally).outcome ≡ (tally_of h count t).outcome
  in-turn-refusal =
      sym (ap (λ (x : Taken). x.outcome) sheet-is
      ∙ cond-elim (λ (x : Taken). x.outcome ≡ in_turn.outcome) (is_ok in_turn.outcome) in_turn (taken_with empty_tally in_turn.outcome) (λ _. refl) (λ _. refl))
