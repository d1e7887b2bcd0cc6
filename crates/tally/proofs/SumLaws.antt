-- The tally of rows is the sum of what each row adds: where it is not refused, and only there where that sum keeps the limit. Assumes nothing.
use mathlib.Core.Path.{◌≡◌, refl, sym, ap, ◌∙◌}
use mathlib.Core.List.{List, [], ◌∷◌}
use mathlib.Core.Bool.{Bool, true, false, cond, ◌&&◌}
use Prim.Native.Nat.{ℕ, zero, suc, ◌+◌}
use native.Mathlib.Omega.{arith}
use lib.ListN.{length}
use lib.IntN.{ℤ, pos, ◌+ℤ◌}
use lib.Signed.{le_z}
use Rattle.std.specs.Result.{is_ok}
use Rattle.std.proofs.Common.{Result, Ok, Err}
use Rattle.laws.proofs.Choice.{true≢false, false≢true, and_left, and_right, and_both, cond-elim}
use Rattle.laws.proofs.Parts.{num, sum, ints, le-true}
use Rattle.heading.specs.declared.Header.{Header}
use Rattle.sheet.specs.Tables.{Tables}
use Rattle.made.specs.Made.{rest_of}
use Rattle.border.specs.declared.Border.{Border}
use Rattle.border.specs.Borders.{is_border, border_of}
use Rattle.area.specs.declared.Areas.{Areas}
use Rattle.plane.specs.declared.NoArea.{NoArea}
use Rattle.plane.specs.declared.NoArea.TheVariants as NoArea
use Rattle.tally.specs.declared.Tally.{Tally}
use Rattle.tally.specs.declared.Taken.{Taken}
use Rattle.tally.specs.Tally.{is_tally, no_figures, empty_tally, plus, refused_at, with_figures, add_of}
use Rattle.tally.specs.Take.{taken_with, borders_areas, after_added, after_areas, border_taken, row_taken, then_take, tally_rows}
use Rattle.tally.specs.Sums.{own_of, area_figures, area_fits, row_figures, row_fits, rows_figures, rows_fit}
use Rattle.tally.proofs.TallyLaws.{plus_assoc, plus_none, plus-length, none_below, tally-above, tally-before}
use Rattle.tally.proofs.AddWays.{own-count}

abbrev tally_at : List ℤ → Tally
tally_at s = record { figures = s }

-- ---- lengths

own-length : (b : Border) (o i : ℤ) → length (own_of b o i) ≡ 24
own-length b o i = own-count b.class o b.islands i

area-length : (b : Border) (x : Result Areas NoArea) → length (area_figures b x) ≡ 24
area-length b (Ok r) = own-length b r.outer r.inner
area-length b (Err x) = refl

pub row-length : (h : Header) (t : Tables) → length (row_figures h t) ≡ 24
unfolding row_figures
row-length h t = cond-elim (λ (s : List ℤ). length s ≡ 24) (is_border t) _ _ (λ _. area-length (border_of h t) (borders_areas t)) (λ _. refl)

pub rows-length : (h : Header) (n : ℕ) (t : Tables) → length (rows_figures h n t) ≡ 24
unfolding rows_figures
rows-length h zero t = refl
rows-length h (suc n) t = plus-length (row_figures h t) (rows_figures h n (rest_of t)) (row-length h t ∙ sym (rows-length h n (rest_of t))) ∙ row-length h t

-- ---- what fits is not negative

plus-above : (s t : List ℤ) → none_below s ≡ true → none_below t ≡ true → none_below (plus s t) ≡ true
unfolding plus
plus-above [] t p q = refl
plus-above (a ∷ s) [] p q = refl
plus-above (a ∷ s) (b ∷ t) p q =
    let e = and_left (le_z (pos 0) a) (none_below s) p in
    let f = and_left (le_z (pos 0) b) (none_below t) q in
    and_both (le_z (pos 0) (a +ℤ b)) (none_below (plus s t)) (le-true (pos 0) (a +ℤ b) (omega (arith, ints, num a, num b, sum a b)))
    (plus-above s t (and_right (le_z (pos 0) a) (none_below s) p) (and_right (le_z (pos 0) b) (none_below t) q))

area-above : (b : Border) (x : Result Areas NoArea) → area_fits b x ≡ true → none_below (area_figures b x) ≡ true
area-above b (Ok r) e = tally-above (own_of b r.outer r.inner) e
area-above b (Err x) e = refl

row-above : (h : Header) (t : Tables) → row_fits h t ≡ true → none_below (row_figures h t) ≡ true
unfolding row_figures row_fits
row-above h t e = go (is_border t) e
  where
    go : (b : Bool) → cond b (area_fits (border_of h t) (borders_areas t)) true ≡ true → none_below (cond b (area_figures (border_of h t) (borders_areas t)) no_figures) ≡ true
    go true e = area-above (border_of h t) (borders_areas t) e
    go false e = refl

pub rows_above : (h : Header) (n : ℕ) (t : Tables) → rows_fit h n t ≡ true → none_below (rows_figures h n t) ≡ true
unfolding rows_figures rows_fit
rows_above h zero t e = refl
rows_above h (suc n) t e =
    plus-above (row_figures h t) (rows_figures h n (rest_of t)) (row-above h t (and_left (row_fits h t) (rows_fit h n (rest_of t)) e))
    (rows_above h n (rest_of t) (and_right (row_fits h t) (rows_fit h n (rest_of t)) e))

-- ---- one row

-- what was not refused is added, and fits
module _ (h : Header) (k : ℕ) (t : Tables) (a : Tally) where
  abbrev Grown : Taken → List ℤ → Bool → Type 0
  Grown x s b = is_ok x.outcome ≡ true → (b ≡ true) × (x.tally.figures ≡ plus a.figures s)

  added-grown : (own : List ℤ) → Grown (after_added k (with_figures a own)) own (is_tally own)
  unfolding with_figures
  added-grown own = go (is_tally a.figures) (is_tally own) (is_tally (plus a.figures own)) refl
    where
      go : (p q r : Bool) → is_tally own ≡ q
          → Grown (after_added k (cond (p && (q && r)) (record { fits = true; tally = tally_at (plus a.figures own) }) (refused_at a))) own (is_tally own)
      go true true true e n = (e, refl)
      go true true false e n = absurd (false≢true n)
      go true false r e n = absurd (false≢true n)
      go false q r e n = absurd (false≢true n)

  areas-grown : (x : Result Areas NoArea) → Grown (after_areas h k t a x) (area_figures (border_of h t) x) (area_fits (border_of h t) x)
  unfolding add_of
  areas-grown (Ok r) = added-grown (own_of (border_of h t) r.outer r.inner)
  areas-grown (Err NoArea.Wide) = λ n. absurd (false≢true n)
  areas-grown (Err NoArea.Missing) = λ n. absurd (false≢true n)

  pub row-grown : length a.figures ≡ 24 → Grown (row_taken h k t a) (row_figures h t) (row_fits h t)
  unfolding row_taken row_figures row_fits border_taken
  row-grown l = go (is_border t)
    where
      go : (b : Bool) → Grown (cond b (border_taken h k t a) (taken_with a (Ok tt))) (cond b (area_figures (border_of h t) (borders_areas t)) no_figures) (cond b (area_fits (border_of h t) (borders_areas t)) true)
      go true = areas-grown (borders_areas t)
      go false = λ n. (refl, sym (plus_none a.figures 24 l))

  -- and what fits is added, where the sum keeps the limit
  abbrev Added' : Taken → List ℤ → Type 0
  Added' x s = is_tally (plus a.figures s) ≡ true → x ≡ taken_with (tally_at (plus a.figures s)) (Ok tt)

  areas-taken : is_tally a.figures ≡ true → (x : Result Areas NoArea) → area_fits (border_of h t) x ≡ true → Added' (after_areas h k t a x) (area_figures (border_of h t) x)
  unfolding add_of with_figures
  areas-taken e (Ok r) f g = rw (e, f, g)
  areas-taken e (Err x) f g = absurd (false≢true f)

  pub row-taken : length a.figures ≡ 24 → is_tally a.figures ≡ true → row_fits h t ≡ true → Added' (row_taken h k t a) (row_figures h t)
  unfolding row_taken row_figures row_fits border_taken
  row-taken l e f = go (is_border t) f
    where
      go : (b : Bool) → cond b (area_fits (border_of h t) (borders_areas t)) true ≡ true → Added' (cond b (border_taken h k t a) (taken_with a (Ok tt))) (cond b (area_figures (border_of h t) (borders_areas t)) no_figures)
      go true f = areas-taken e (borders_areas t) f
      go false f = λ g. ap (λ (s : List ℤ). taken_with (tally_at s) (Ok tt)) (sym (plus_none a.figures 24 l))

-- ---- all rows

pub rows_grown : (h : Header) (n k : ℕ) (t : Tables) (a : Tally) → length a.figures ≡ 24 → is_ok (tally_rows h n k t a).outcome ≡ true
    → (rows_fit h n t ≡ true) × ((tally_rows h n k t a).tally.figures ≡ plus a.figures (rows_figures h n t))
unfolding tally_rows rows_fit rows_figures
rows_grown h zero k t a l e = (refl, sym (plus_none a.figures 24 l))
rows_grown h (suc n) k t a l e = go (rows_grown h n (k + 1) (rest_of t) (row_taken h k t a).tally) (is_ok (row_taken h k t a).outcome) refl e
  where
    go : (length (row_taken h k t a).tally.figures ≡ 24 → is_ok (tally_rows h n (k + 1) (rest_of t) (row_taken h k t a).tally).outcome ≡ true
        → (rows_fit h n (rest_of t) ≡ true) × ((tally_rows h n (k + 1) (rest_of t) (row_taken h k t a).tally).tally.figures ≡ plus (row_taken h k t a).tally.figures (rows_figures h n (rest_of t))))
        → (b : Bool) → is_ok (row_taken h k t a).outcome ≡ b
        → is_ok (cond b (tally_rows h n (k + 1) (rest_of t) (row_taken h k t a).tally) (taken_with empty_tally (row_taken h k t a).outcome)).outcome ≡ true
        → ((row_fits h t && rows_fit h n (rest_of t)) ≡ true) × ((cond b (tally_rows h n (k + 1) (rest_of t) (row_taken h k t a).tally) (taken_with empty_tally (row_taken h k t a).outcome)).tally.figures ≡ plus a.figures (plus (row_figures h t) (rows_figures h n (rest_of t))))
    go on true q e =
        let g = row-grown h k t a l q in
        let m : length (row_taken h k t a).tally.figures ≡ 24 = ap (λ (s : List ℤ). length s) g.1 ∙ plus-length a.figures (row_figures h t) (l ∙ sym (row-length h t)) ∙ l in
        let r = on m e in
        (and_both (row_fits h t) (rows_fit h n (rest_of t)) g.0 r.0, r.1 ∙ ap (λ (s : List ℤ). plus s (rows_figures h n (rest_of t))) g.1 ∙ plus_assoc a.figures (row_figures h t) (rows_figures h n (rest_of t)))
    go on false q e = absurd (true≢false (sym e ∙ q))

pub rows_taken : (h : Header) (n k : ℕ) (t : Tables) (s : List ℤ) → length s ≡ 24 → is_tally s ≡ true → rows_fit h n t ≡ true → is_tally (plus s (rows_figures h n t)) ≡ true
    → tally_rows h n k t (tally_at s) ≡ taken_with (tally_at (plus s (rows_figures h n t))) (Ok tt)
unfolding tally_rows rows_fit rows_figures
rows_taken h zero k t s l e f g = ap (λ (u : List ℤ). taken_with (tally_at u) (Ok tt)) (sym (plus_none s 24 l))
rows_taken h (suc n) k t s l e f g =
    let p = and_left (row_fits h t) (rows_fit h n (rest_of t)) f in
    let q = and_right (row_fits h t) (rows_fit h n (rest_of t)) f in
    let u : List ℤ = plus s (row_figures h t) in
    let m : length u ≡ 24 = plus-length s (row_figures h t) (l ∙ sym (row-length h t)) ∙ l in
    let w : is_tally (plus u (rows_figures h n (rest_of t))) ≡ true = ap is_tally (plus_assoc s (row_figures h t) (rows_figures h n (rest_of t))) ∙ g in
    let v : is_tally u ≡ true
    = tally-before u (rows_figures h n (rest_of t)) (m ∙ sym (rows-length h n (rest_of t))) (plus-above s (row_figures h t) (tally-above s e) (row-above h t p)) (rows_above h n (rest_of t) q) w in
    ap (λ (x : Taken). then_take x (tally_rows h n (k + 1) (rest_of t))) (row-taken h k t (tally_at s) l e p v)
    ∙ rows_taken h n (k + 1) (rest_of t) u m v q w
    ∙ ap (λ (y : List ℤ). taken_with (tally_at y) (Ok tt)) (plus_assoc s (row_figures h t) (rows_figures h n (rest_of t)))
