-- In kinds 1 and 2 a tally has nothing under OTHER: document 02, T-02. Assumes nothing.
use Prim.Native.Nat.{ℕ, zero, suc}
use mathlib.Core.Path.{◌≡◌, refl, ◌∙◌}
use mathlib.Core.List.{List}
use mathlib.Core.Bool.{Bool, true, false, cond}
use native.Mathlib.Omega.{arith}
use lib.ListN.{length, get_or}
use lib.IntN.{ℤ, pos}
use Rattle.std.proofs.Common.{Result, Ok, Err}
use Rattle.heading.specs.declared.Header.{Header}
use Rattle.sheet.specs.Tables.{Tables}
use Rattle.made.specs.Made.{rest_of}
use Rattle.classes.specs.declared.Class.{Class}
use Rattle.classes.specs.declared.Class.TheVariants.{Confine, Other, Road, Water, Building, Parcel}
use Rattle.classes.specs.Classes.{index_of}
use Rattle.border.specs.declared.Border.{Border}
use Rattle.border.specs.Borders.{is_border, border_of}
use Rattle.border.proofs.OtherLaws.{border-never-other}
use Rattle.area.specs.declared.Areas.{Areas}
use Rattle.plane.specs.declared.NoArea.{NoArea}
use Rattle.tally.specs.declared.Tally.{Tally}
use Rattle.tally.specs.Tally.{no_figures, plus, figures_of}
use Rattle.tally.specs.Take.{taken_with, borders_areas, tally_of}
use Rattle.tally.specs.Sums.{area_figures, row_figures, rows_figures}
use Rattle.tally.proofs.SumLaws.{row-length, rows-length}
use Rattle.tally.proofs.CountLaws.{plus-at}
use Rattle.tally.proofs.TallyJoin.{tallied}

-- OTHER's borders, outer total, islands and island total
pub record NoOther (s : List ℤ) : Type 0 where
  pub borders : get_or s 4 (pos 0) ≡ pos 0
  pub outer : get_or s 5 (pos 0) ≡ pos 0
  pub islands : get_or s 6 (pos 0) ≡ pos 0
  pub inner : get_or s 7 (pos 0) ≡ pos 0

none-none : NoOther no_figures
none-none = record { borders = refl; outer = refl; islands = refl; inner = refl }

own-none : (c : Class) (o n i : ℤ) → (c ≡ Other → ⊥) → NoOther (figures_of (index_of c) o n i)
unfolding figures_of
own-none Confine o n i f = record { borders = refl; outer = refl; islands = refl; inner = refl }
own-none Other o n i f = absurd (f refl)
own-none Road o n i f = record { borders = refl; outer = refl; islands = refl; inner = refl }
own-none Water o n i f = record { borders = refl; outer = refl; islands = refl; inner = refl }
own-none Building o n i f = record { borders = refl; outer = refl; islands = refl; inner = refl }
own-none Parcel o n i f = record { borders = refl; outer = refl; islands = refl; inner = refl }

area-none : (b : Border) (x : Result Areas NoArea) → (b.class ≡ Other → ⊥) → NoOther (area_figures b x)
area-none b (Ok r) f = own-none b.class r.outer (pos b.islands) r.inner f
area-none b (Err x) f = none-none

sum-none : (s t : List ℤ) → length s ≡ length t → NoOther s → NoOther t → NoOther (plus s t)
sum-none s t l x y =
    record {
      borders = plus-at s t 4 l ∙ rw (x.borders, y.borders) refl;
      outer = plus-at s t 5 l ∙ rw (x.outer, y.outer) refl;
      islands = plus-at s t 6 l ∙ rw (x.islands, y.islands) refl;
      inner = plus-at s t 7 l ∙ rw (x.inner, y.inner) refl;
    }

module _ (h : Header) (f : h.kind ≡ 3 → ⊥) where
  row-none : (t : Tables) → NoOther (row_figures h t)
  unfolding row_figures
  row-none t = go (is_border t)
    where
      go : (b : Bool) → NoOther (cond b (area_figures (border_of h t) (borders_areas t)) no_figures)
      go true = area-none (border_of h t) (borders_areas t) (border-never-other h f t)
      go false = none-none

  rows_none : (n : ℕ) (t : Tables) → NoOther (rows_figures h n t)
  unfolding rows_figures
  rows_none zero t = none-none
  rows_none (suc n) t =
      sum-none (row_figures h t) (rows_figures h n (rest_of t)) (omega (arith, row-length h t, rows-length h n (rest_of t))) (row-none t) (rows_none n (rest_of t))

  pub tally-no-other : (n : ℕ) (t : Tables) (a : Tally) → tally_of h n t ≡ taken_with a (Ok tt) → NoOther a.figures
  tally-no-other n t a e = rw (tallied h n t a e).is (rows_none n t)
