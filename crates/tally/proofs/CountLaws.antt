-- A tally counts each border of its sheet once. Assumes nothing.
use mathlib.Core.Path.{◌≡◌, refl, ap₂, ◌∙◌}
use mathlib.Core.List.{List, [], ◌∷◌}
use mathlib.Core.Bool.{Bool, true, false, cond}
use Prim.Native.Nat.{ℕ, zero, suc}
use native.Mathlib.Omega.{arith}
use lib.ListN.{length, get_or}
use lib.IntN.{ℤ, pos, ◌+ℤ◌}
use Rattle.std.proofs.Common.{Result, Ok, Err}
use Rattle.laws.proofs.Choice.{false≢true, and_left, and_right}
use Rattle.laws.proofs.Parts.{sum, eq-parts}
use Rattle.heading.specs.declared.Header.{Header}
use Rattle.sheet.specs.Tables.{Tables}
use Rattle.made.specs.Made.{rest_of}
use Rattle.border.specs.declared.Border.{Border}
use Rattle.classes.specs.declared.Class.{Class}
use Rattle.classes.specs.declared.Class.TheVariants.{Confine, Other, Road, Water, Building, Parcel}
use Rattle.classes.specs.Classes.{index_of}
use Rattle.border.specs.Borders.{is_border, border_of}
use Rattle.area.specs.declared.Areas.{Areas}
use Rattle.plane.specs.declared.NoArea.{NoArea}
use Rattle.tally.specs.declared.Tally.{Tally}
use Rattle.tally.specs.Tally.{no_figures, plus, figures_of}
use Rattle.tally.specs.Take.{taken_with, borders_areas, tally_of}
use Rattle.tally.specs.Sums.{area_figures, area_fits, row_figures, row_fits, rows_figures, rows_fit, border_rows, border_count}
use Rattle.tally.proofs.SumLaws.{row-length, rows-length}
use Rattle.tally.proofs.TallyJoin.{tallied}

-- counts add

pub plus-at : (s t : List ℤ) (i : ℕ) → length s ≡ length t → get_or (plus s t) i (pos 0) ≡ get_or s i (pos 0) +ℤ get_or t i (pos 0)
unfolding plus
plus-at [] [] i e = refl
plus-at [] (b ∷ t) i e = absurd (omega arith)
plus-at (a ∷ s) [] i e = absurd (omega arith)
plus-at (a ∷ s) (b ∷ t) zero e = refl
plus-at (a ∷ s) (b ∷ t) (suc i) e = plus-at s t i (omega arith)

swap : (a b x y : ℤ) → (a +ℤ b) +ℤ (x +ℤ y) ≡ (a +ℤ x) +ℤ (b +ℤ y)
swap a b x y =
    eq-parts ((a +ℤ b) +ℤ (x +ℤ y)) ((a +ℤ x) +ℤ (b +ℤ y))
    (omega (arith, sum a b, sum x y, sum (a +ℤ b) (x +ℤ y), sum a x, sum b y, sum (a +ℤ x) (b +ℤ y)))

swap-on : (a b x y : ℤ) {z : ℤ} → z ≡ x +ℤ y → (a +ℤ b) +ℤ z ≡ (a +ℤ x) +ℤ (b +ℤ y)
swap-on a b x y e = rw e (swap a b x y)

module _ (s t : List ℤ) (l : length s ≡ length t) where
  abbrev S : ℕ → ℤ
  S i = get_or s i (pos 0)

  abbrev T : ℕ → ℤ
  T i = get_or t i (pos 0)

  pub count-plus : border_count (plus s t) ≡ border_count s +ℤ border_count t
  unfolding border_count
  count-plus =
      rw (plus-at s t 0 l, plus-at s t 4 l, plus-at s t 8 l, plus-at s t 12 l, plus-at s t 16 l, plus-at s t 20 l)
      (swap-on (S 0) (T 0) _ _ (swap-on (S 4) (T 4) _ _ (swap-on (S 8) (T 8) _ _ (swap-on (S 12) (T 12) _ _ (swap (S 16) (T 16) (S 20) (T 20))))))

-- a border's own count is 1

own-count : (c : Class) (o n i : ℤ) → border_count (figures_of (index_of c) o n i) ≡ pos 1
unfolding border_count figures_of
own-count Confine o n i = refl
own-count Other o n i = refl
own-count Road o n i = refl
own-count Water o n i = refl
own-count Building o n i = refl
own-count Parcel o n i = refl

area-count : (b : Border) (x : Result Areas NoArea) → area_fits b x ≡ true → border_count (area_figures b x) ≡ pos 1
area-count b (Ok r) e = own-count b.class r.outer (pos b.islands) r.inner
area-count b (Err x) e = absurd (false≢true e)

row_count : (h : Header) (t : Tables) → row_fits h t ≡ true → border_count (row_figures h t) ≡ pos (cond (is_border t) 1 0)
unfolding row_fits row_figures border_count
row_count h t e = go (is_border t) e
  where
    go : (b : Bool) → cond b (area_fits (border_of h t) (borders_areas t)) true ≡ true → border_count (cond b (area_figures (border_of h t) (borders_areas t)) no_figures) ≡ pos (cond b 1 0)
    go true e = area-count (border_of h t) (borders_areas t) e
    go false e = refl

rows-count : (h : Header) (n : ℕ) (t : Tables) → rows_fit h n t ≡ true → border_count (rows_figures h n t) ≡ pos (border_rows n t)
unfolding rows_fit rows_figures border_rows border_count
rows-count h zero t e = refl
rows-count h (suc n) t e =
    count-plus (row_figures h t) (rows_figures h n (rest_of t)) (omega (arith, row-length h t, rows-length h n (rest_of t)))
    ∙ ap₂ (λ (x y : ℤ). x +ℤ y) (row_count h t (and_left (row_fits h t) (rows_fit h n (rest_of t)) e)) (rows-count h n (rest_of t) (and_right (row_fits h t) (rows_fit h n (rest_of t)) e))

-- the six counts of a sheet's tally are its rows of kind 1
pub borders-counted : (h : Header) (n : ℕ) (t : Tables) (a : Tally) → tally_of h n t ≡ taken_with a (Ok tt) → border_count a.figures ≡ pos (border_rows n t)
borders-counted h n t a e = let x = tallied h n t a e in rw x.is (rows-count h n t x.fit)
