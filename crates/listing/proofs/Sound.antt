-- What the tally can say of a file that is read: it refuses by 17 or 18 alone, and no figure is below 0. Assumes nothing.
use Prim.Native.Nat.{ℕ, zero, suc, ◌+◌}
use mathlib.Core.Path.{◌≡◌, refl}
use mathlib.Core.List.{List}
use mathlib.Core.Bool.{true, ◌&&◌}
use Rattle.std.specs.Prelude.{Result, Ok, Err}
use Rattle.std.specs.Result.{is_ok}
use lib.IntN.{ℤ}
use borrow.Author.Tests.{eqb-true}
use Rattle.laws.proofs.Choice.{and_right, cond-elim}
use Rattle.record.specs.declared.Mode.TheVariants.{Loose}
use Rattle.heading.specs.declared.Header.{Header}
use Rattle.sheet.specs.Tables.{Tables, row_count}
use Rattle.sheet.specs.Reading.{sheet, reading}
use Rattle.sheet.proofs.Meaning.{reading-meaning}
use Rattle.made.specs.Made.{kind_of, rest_of, is_made, Before, none_before, past_row, judge_rows, judge_of}
use Rattle.made.proofs.UsedLaws.{fine-on}
use Rattle.border.specs.Borders.{is_border, border_of}
use Rattle.area.specs.declared.Areas.{Areas}
use Rattle.plane.specs.declared.NoArea.{NoArea}
use Rattle.area.proofs.AreaLaws.{areas-there}
use Rattle.layout.proofs.ReadMade.{reading-made}
use Rattle.tally.specs.declared.Tally.{Tally}
use Rattle.tally.specs.declared.Untallied.{Untallied}
use Rattle.tally.specs.declared.Untallied.TheVariants.{Sheet, Missing, Full, Wide}
use Rattle.tally.specs.declared.Taken.{Taken}
use Rattle.tally.specs.Tally.{Added, is_figure, is_tally, plus, with_figures, add_of, empty_tally, refused_at}
use Rattle.tally.specs.Take.{taken_with, borders_areas, after_added, after_areas, border_taken, row_taken, tally_rows, tally_of}

-- ---- no figure is below 0

abbrev Figured : Taken → Type 0
Figured x = is_tally x.tally.figures ≡ true

none-figured : is_tally empty_tally.figures ≡ true
unfolding is_tally is_figure
none-figured = refl

with-figured : (a : Tally) (own : List ℤ) → is_tally a.figures ≡ true → is_tally (with_figures a own).tally.figures ≡ true
unfolding with_figures
with-figured a own h =
    cond-elim (λ (x : Added). is_tally x.tally.figures ≡ true) (is_tally a.figures && (is_tally own && is_tally (plus a.figures own))) _ (refused_at a)
    (λ e. and_right (is_tally own) (is_tally (plus a.figures own)) (and_right (is_tally a.figures) (is_tally own && is_tally (plus a.figures own)) e))
    (λ _. h)

-- ---- only 17 and 18 are refused

abbrev pub OnlyFull : Result Unit Untallied → Type 0
OnlyFull (Ok u) = Unit {0}
OnlyFull (Err (Sheet f)) = ⊥
OnlyFull (Err Missing) = ⊥
OnlyFull (Err (Full k)) = Unit {0}
OnlyFull (Err (Wide k)) = Unit {0}

abbrev Fair : Taken → Type 0
Fair x = Figured x × OnlyFull x.outcome

module _ (h : Header) (k : ℕ) (t : Tables) (a : Tally) (made : is_made t ≡ true) (f : is_tally a.figures ≡ true) where
  border-fair : is_border t ≡ true → Fair (border_taken h k t a)
  unfolding border_taken add_of
  border-fair e = by (borders_areas t) refl
    where
      added : (x : Added) → is_tally x.tally.figures ≡ true → Fair (after_added k x)
      added x g = (g, cond-elim OnlyFull x.fits (Ok tt) (Err (Full k)) (λ _. tt) (λ _. tt))

      by : (x : Result Areas NoArea) → borders_areas t ≡ x → Fair (after_areas h k t a x)
      by (Ok r) q = added (add_of a (border_of h t) r.outer r.inner) (with-figured a _ f)
      by (Err NoArea.Wide) q = (f, tt)
      by (Err NoArea.Missing) q = absurd (areas-there t made (eqb-true (kind_of t) 1 e) q)

  row-fair : Fair (row_taken h k t a)
  unfolding row_taken
  row-fair = cond-elim Fair (is_border t) (border_taken h k t a) (taken_with a (Ok tt)) (λ e. border-fair e) (λ _. (f, tt))

rows-fair : (h : Header) (n k : ℕ) (b : Before) (t : Tables) (a : Tally) → judge_rows Loose n b t ≡ Ok tt → is_tally a.figures ≡ true → Fair (tally_rows h n k t a)
unfolding tally_rows
rows-fair h zero k b t a e f = (f, tt)
rows-fair h (suc n) k b t a e f =
    let m = fine-on Loose n b t e in
    let x = row-fair h k t a m.0 f in
    cond-elim Fair (is_ok (row_taken h k t a).outcome) _ _ (λ _. rows-fair h n (k + 1) (past_row b t) (rest_of t) (row_taken h k t a).tally m.1 x.0) (λ _. (none-figured, x.1))

-- **a file that is read is refused by 17 or 18 alone, and no figure of its tally is below 0**
pub read-tallied : (bs : List ℕ) (h : Header) (o : Tables) → reading Loose bs ≡ sheet h o
    → (is_tally (tally_of h (row_count o) o).tally.figures ≡ true) × OnlyFull (tally_of h (row_count o) o).outcome
unfolding tally_of judge_of
read-tallied bs h o q =
    let m = reading-made Loose bs h o (reading-meaning Loose bs h o q).1 in
    let v : judge_of Loose h (row_count o) o ≡ Ok tt = rw (m.0, m.1) in
    rw v (rows-fair h (row_count o) 0 none_before o empty_tally m.1 none-figured)
