-- A class without borders has no area, and borders without islands have no area of islands: so nothing is allowed only where there is nothing to round
-- (document 02, T-10). Assumes nothing.
use Prim.Native.Nat.{ℕ, zero, suc, ◌+◌, ◌-◌}
use mathlib.Core.Path.{◌≡◌, refl, sym, ap, ◌∙◌}
use mathlib.Core.List.{List, [], ◌∷◌}
use mathlib.Core.Bool.{Bool, true, false, cond}
use native.Mathlib.Omega.{arith}
use lib.ListN.{length, get_or, take}
use lib.Dec.{leb}
use lib.IntN.{ℤ, pos, ◌+ℤ◌}
use lib.Signed.{le_z}
use Rattle.laws.proofs.Choice.{false≢true, and_left, and_right}
use Rattle.laws.proofs.Parts.{P, N, num, sum, ints}
use Rattle.kinds.specs.Kinds.{islands_place, vertices_place}
use Rattle.heading.specs.declared.Header.{Header}
use Rattle.sheet.specs.Tables.{Tables}
use Rattle.made.specs.Made.{count_at, rest_of}
use Rattle.made.specs.Made as made
use Rattle.classes.specs.declared.Class.{Class}
use Rattle.classes.specs.declared.Class.TheVariants.{Confine, Other, Road, Water, Building, Parcel}
use Rattle.classes.specs.Classes.{index_of}
use Rattle.border.specs.Borders.{is_border, border_of}
use Rattle.plane.specs.declared.NoArea.{NoArea}
use Rattle.plane.specs.declared.NoArea.TheVariants.{Missing}
use Rattle.plane.specs.Rings.{most}
use Rattle.plane.specs.Areas.{area_of}
use Rattle.area.specs.declared.Areas.{Areas}
use Rattle.area.specs.BorderRings.{total_from, of_rings, areas_of}
use Rattle.std.specs.Prelude.{Result, Ok, Err}
use Rattle.tally.specs.declared.Untallied.{Untallied}
use Rattle.tally.specs.Tally.{is_figure, is_tally, no_figures, plus, figures_of}
use Rattle.tally.specs.Take.{taken_with, borders_areas, tally_of}
use Rattle.tally.specs.Sums.{area_figures, area_fits, row_figures, row_fits, rows_figures, rows_fit}
use Rattle.tally.proofs.SumLaws.{row-length, rows-length}
use Rattle.tally.proofs.TallyJoin.{tallied}
use Rattle.tally.proofs.TallyWays.{tally-at}
use Rattle.sup.specs.Sup.{borders_in, outer_in, islands_in, inner_in}

-- ---- the four figures of a class

pub record Four (b o n i : ℤ) : Type 0 where
  pub borders-above : N b ≡ 0
  pub outer-above : N o ≡ 0
  pub islands-above : N n ≡ 0
  pub inner-above : N i ≡ 0
  pub no-borders : P b ≡ 0 → P o + P i ≡ 0
  pub no-islands : P n ≡ 0 → P i ≡ 0

zeros : Four (pos 0) (pos 0) (pos 0) (pos 0)
zeros = record { borders-above = refl; outer-above = refl; islands-above = refl; inner-above = refl; no-borders = λ e. refl; no-islands = λ e. refl }

module _ {b o n i a p m j : ℤ} (x : Four b o n i) (y : Four a p m j) where
  together : Four (b +ℤ a) (o +ℤ p) (n +ℤ m) (i +ℤ j)
  together =
      record {
        borders-above = omega (arith, sum b a, x.borders-above, y.borders-above);
        outer-above = omega (arith, sum o p, x.outer-above, y.outer-above);
        islands-above = omega (arith, sum n m, x.islands-above, y.islands-above);
        inner-above = omega (arith, sum i j, x.inner-above, y.inner-above);
        no-borders = λ e.
            let u : P b ≡ 0 = omega (arith, sum b a, x.borders-above, y.borders-above) in
            let v : P a ≡ 0 = omega (arith, sum b a, x.borders-above, y.borders-above) in
            omega (arith, sum o p, sum i j, x.no-borders u, y.no-borders v, x.outer-above, y.outer-above, x.inner-above, y.inner-above);
        no-islands = λ e.
            let u : P n ≡ 0 = omega (arith, sum n m, x.islands-above, y.islands-above) in
            let v : P m ≡ 0 = omega (arith, sum n m, x.islands-above, y.islands-above) in
            omega (arith, sum i j, x.no-islands u, y.no-islands v, x.inner-above, y.inner-above);
      }

-- ---- figures, four by four

pub data Fours : List ℤ → Type 0 where
  end : Fours []
  four : {b o n i : ℤ} {s : List ℤ} → Four b o n i → Fours s → Fours (b ∷ o ∷ n ∷ i ∷ s)

fours-plus : {s t : List ℤ} → Fours s → Fours t → length s ≡ length t → Fours (plus s t)
unfolding plus
fours-plus end end l = end
fours-plus end (four y v) l = absurd (omega arith)
fours-plus (four x u) end l = absurd (omega arith)
fours-plus (four x u) (four y v) l = four (together x y) (fours-plus u v (omega arith))

none-fours : Fours no_figures
none-fours = four zeros (four zeros (four zeros (four zeros (four zeros (four zeros end)))))

-- ---- one border

-- no island, no area of islands
abbrev inner-of : Result Areas NoArea → ℤ
inner-of (Ok a) = a.inner
inner-of (Err e) = pos 0

no_inner : (v : ℕ) (ps : List ℤ) (a : Areas) → areas_of v [] ps ≡ Ok a → a.inner ≡ pos 0
unfolding areas_of total_from
no_inner v ps a e = go (leb v most) (area_of ps 0 (v - made.sum [])) e
  where
    go : (t : Bool) (x : Result ℤ NoArea) → cond t (of_rings x (Ok (pos 0))) (Err Missing) ≡ Ok a → a.inner ≡ pos 0
    go true (Ok x) q = sym (ap inner-of q)
    go true (Err r) q = sym (ap inner-of q)
    go false x q = sym (ap inner-of q)

border-inner : (t : Tables) (a : Areas) → borders_areas t ≡ Ok a → count_at t islands_place ≡ 0 → a.inner ≡ pos 0
border-inner t a e n =
    no_inner (count_at t vertices_place) t.points a (ap (λ (k : ℕ). areas_of (count_at t vertices_place) (take k t.islands) t.points) (sym n) ∙ e)

own-four : (o i : ℤ) (n : ℕ) → is_figure o ≡ true → is_figure i ≡ true → (n ≡ 0 → i ≡ pos 0) → Four (pos 1) o (pos n) i
unfolding is_figure
own-four o i n p q z =
    let a = and_left (le_z (pos 0) o) (le_z o (pos 9000000000000000000)) p in
    let b = and_left (le_z (pos 0) i) (le_z i (pos 9000000000000000000)) q in
    record {
      borders-above = refl;
      outer-above = omega (arith, ints, num o);
      islands-above = refl;
      inner-above = omega (arith, ints, num i);
      no-borders = λ e. absurd (omega arith);
      no-islands = λ e. ap (λ (x : ℤ). P x) (z e);
    }

own-fours : (c : Class) (o i : ℤ) (n : ℕ) → is_tally (figures_of (index_of c) o (pos n) i) ≡ true → (n ≡ 0 → i ≡ pos 0) → Fours (figures_of (index_of c) o (pos n) i)
unfolding figures_of
own-fours Confine o i n e z =
    let f = own-four o i n (tally-at (figures_of 0 o (pos n) i) 1 e) (tally-at (figures_of 0 o (pos n) i) 3 e) z in
    four f (four zeros (four zeros (four zeros (four zeros (four zeros end)))))
own-fours Other o i n e z =
    let f = own-four o i n (tally-at (figures_of 1 o (pos n) i) 5 e) (tally-at (figures_of 1 o (pos n) i) 7 e) z in
    four zeros (four f (four zeros (four zeros (four zeros (four zeros end)))))
own-fours Road o i n e z =
    let f = own-four o i n (tally-at (figures_of 2 o (pos n) i) 9 e) (tally-at (figures_of 2 o (pos n) i) 11 e) z in
    four zeros (four zeros (four f (four zeros (four zeros (four zeros end)))))
own-fours Water o i n e z =
    let f = own-four o i n (tally-at (figures_of 3 o (pos n) i) 13 e) (tally-at (figures_of 3 o (pos n) i) 15 e) z in
    four zeros (four zeros (four zeros (four f (four zeros (four zeros end)))))
own-fours Building o i n e z =
    let f = own-four o i n (tally-at (figures_of 4 o (pos n) i) 17 e) (tally-at (figures_of 4 o (pos n) i) 19 e) z in
    four zeros (four zeros (four zeros (four zeros (four f (four zeros end)))))
own-fours Parcel o i n e z =
    let f = own-four o i n (tally-at (figures_of 5 o (pos n) i) 21 e) (tally-at (figures_of 5 o (pos n) i) 23 e) z in
    four zeros (four zeros (four zeros (four zeros (four zeros (four f end)))))

-- ---- all rows

module _ (h : Header) where
  areas-fours : (t : Tables) (x : Result Areas NoArea) → borders_areas t ≡ x → area_fits (border_of h t) x ≡ true → Fours (area_figures (border_of h t) x)
  unfolding border_of
  areas-fours t (Ok a) e f = own-fours (border_of h t).class a.outer a.inner (count_at t islands_place) f (border-inner t a e)
  areas-fours t (Err r) e f = absurd (false≢true f)

  row-fours : (t : Tables) → row_fits h t ≡ true → Fours (row_figures h t)
  unfolding row_fits row_figures
  row-fours t e = go (is_border t) e
    where
      go : (b : Bool) → cond b (area_fits (border_of h t) (borders_areas t)) true ≡ true → Fours (cond b (area_figures (border_of h t) (borders_areas t)) no_figures)
      go true f = areas-fours t (borders_areas t) refl f
      go false f = none-fours

  rows-fours : (n : ℕ) (t : Tables) → rows_fit h n t ≡ true → Fours (rows_figures h n t)
  unfolding rows_fit rows_figures
  rows-fours zero t e = none-fours
  rows-fours (suc n) t e =
      fours-plus (row-fours t (and_left (row_fits h t) (rows_fit h n (rest_of t)) e))
      (rows-fours n (rest_of t) (and_right (row_fits h t) (rows_fit h n (rest_of t)) e)) (row-length h t ∙ sym (rows-length h n (rest_of t)))

  pub tally-fours : (count : ℕ) (t : Tables) → (tally_of h count t).outcome ≡ Ok tt → Fours (tally_of h count t).tally.figures
  tally-fours count t e =
      let x = tallied h count t (tally_of h count t).tally (ap (λ (r : Result Unit Untallied). taken_with (tally_of h count t).tally r) e) in
      rw x.is (rows-fours count t x.fit)

-- ---- the figures of a class

abbrev At : List ℤ → ℕ → ℕ → ℕ → ℕ → Type 0
At f a b c d = Four (get_or f a (pos 0)) (get_or f b (pos 0)) (get_or f c (pos 0)) (get_or f d (pos 0))

first : {f : List ℤ} → Fours f → At f 0 1 2 3
first end = zeros
first (four x u) = x

second : {f : List ℤ} → Fours f → At f 4 5 6 7
second end = zeros
second (four x u) = first u

third : {f : List ℤ} → Fours f → At f 8 9 10 11
third end = zeros
third (four x u) = second u

fourth : {f : List ℤ} → Fours f → At f 12 13 14 15
fourth end = zeros
fourth (four x u) = third u

fifth : {f : List ℤ} → Fours f → At f 16 17 18 19
fifth end = zeros
fifth (four x u) = fourth u

sixth : {f : List ℤ} → Fours f → At f 20 21 22 23
sixth end = zeros
sixth (four x u) = fifth u

pub class-four : (c : Class) (f : List ℤ) → Fours f → Four (borders_in f c) (outer_in f c) (islands_in f c) (inner_in f c)
class-four Confine f u = first u
class-four Other f u = second u
class-four Road f u = third u
class-four Water f u = fourth u
class-four Building f u = fifth u
class-four Parcel f u = sixth u
