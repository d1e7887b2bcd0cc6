-- The tally of a sheet that a row is taken out of is the former one less that row's figures (document 02, T-08). Assumes nothing.
use mathlib.Core.Path.{◌≡◌, refl, sym, ◌∙◌, ap, ap₂}
use mathlib.Core.List.{List, [], ◌∷◌}
use mathlib.Core.Bool.{Bool, true, ◌&&◌}
use Prim.Native.Nat.{ℕ, zero, suc, ◌-◌, ◌≤◌}
use native.Mathlib.Omega.{arith}
use lib.ListN.{length}
use lib.IntN.{ℤ, pos}
use Rattle.laws.proofs.Choice.{and_left, and_right, and_both}
use Rattle.record.specs.declared.Mode.TheVariants.{Loose}
use Rattle.heading.specs.declared.Header.{Header}
use Rattle.sheet.specs.Tables.{Tables}
use Rattle.made.specs.Made.{rest_of}
use Rattle.tally.specs.declared.Tally.{Tally}
use Rattle.std.proofs.Common.{Ok}
use Rattle.tally.specs.Tally.{is_tally, no_figures, plus}
use Rattle.tally.specs.Take.{taken_with, tally_of}
use Rattle.tally.specs.Sums.{row_figures, row_fits, rows_figures, rows_fit}
use Rattle.tally.proofs.TallyLaws.{plus_comm, plus_assoc, plus_none, plus-length, tally-above, tally-before, none_below}
use Rattle.tally.proofs.SumLaws.{row-length, rows-length, rows_above}
use Rattle.tally.proofs.OwnLaws.{figures-own, fits-own, figures-moved, fits_moved}
use Rattle.tally.proofs.TallyJoin.{Tallied, tallied, tally-is}
use Rattle.edit.specs.Removals.{removed_tables}
use Rattle.edit.specs.Elements.{elements_of, less_one}
use Rattle.edit.proofs.RemoveLaws.{Says, removed-fine, removed-elements}
use Rattle.edited.specs.Together.{figures, all_fit}

module _ (h : Header) where
  figures-say : Says (row_figures h)
  figures-say = record { behind = λ t u m. figures-own h t u m; placed = λ s t m. figures-moved h s t m }

  fits-say : Says (row_fits h)
  fits-say = record { behind = λ t u m. fits-own h t u m; placed = λ s t m. fits_moved h s t m }

  rows_are : (n : ℕ) (t : Tables) → rows_figures h n t ≡ figures (elements_of (row_figures h) n t)
  unfolding rows_figures figures elements_of
  rows_are zero t = refl
  rows_are (suc n) t = ap (plus (row_figures h t)) (rows_are n (rest_of t))

  fit-are : (n : ℕ) (t : Tables) → rows_fit h n t ≡ all_fit (elements_of (row_fits h) n t)
  unfolding rows_fit all_fit elements_of
  fit-are zero t = refl
  fit-are (suc n) t = ap (λ (b : Bool). row_fits h t && b) (fit-are n (rest_of t))

-- ---- a list without one of them

-- the k-th
unfoldable pub one_of : ℕ → List (List ℤ) → List ℤ
one_of k [] = no_figures
one_of zero (x ∷ s) = x
one_of (suc k) (x ∷ s) = one_of k s

figures-less : (k : ℕ) (l : List (List ℤ)) → (length l ≡ 0 → ⊥) → k ≤ length l - 1 → plus (one_of k l) (figures (less_one k l)) ≡ figures l
unfolding figures less_one one_of
figures-less k [] n h = absurd (n refl)
figures-less zero (x ∷ l) n h = refl
figures-less (suc k) (x ∷ []) n h = absurd (omega arith)
figures-less (suc k) (x ∷ y ∷ l) n h =
    sym (plus_assoc (one_of k (y ∷ l)) x (figures (less_one k (y ∷ l)))) ∙ ap (λ (s : List ℤ). plus s (figures (less_one k (y ∷ l)))) (plus_comm (one_of k (y ∷ l)) x)
    ∙ plus_assoc x (one_of k (y ∷ l)) (figures (less_one k (y ∷ l))) ∙ ap (plus x) (figures-less k (y ∷ l) (λ z. omega arith) (omega arith))

fit-less : (k : ℕ) (l : List Bool) → all_fit l ≡ true → all_fit (less_one k l) ≡ true
unfolding all_fit less_one
fit-less k [] e = refl
fit-less zero (b ∷ l) e = and_right b (all_fit l) e
fit-less (suc k) (b ∷ l) e = and_both b (all_fit (less_one k l)) (and_left b (all_fit l) e) (fit-less k l (and_right b (all_fit l) e))

-- ---- the sheet

module _ (h : Header) where
  one_right : (n k : ℕ) (t : Tables) → k ≤ n → rows_fit h (suc n) t ≡ true
      → (none_below (one_of k (elements_of (row_figures h) (suc n) t)) ≡ true) × (length (one_of k (elements_of (row_figures h) (suc n) t)) ≡ 24)
  unfolding one_of elements_of rows_fit rows_figures
  one_right n zero t l e =
      (ap none_below (sym (plus_none (row_figures h t) 24 (row-length h t))) ∙ rows_above h 1 t (and_both (row_fits h t) true (and_left (row_fits h t) (rows_fit h n (rest_of t)) e) refl), row-length h t)
  one_right zero (suc k) t l e = absurd (omega arith)
  one_right (suc n) (suc k) t l e = one_right n k (rest_of t) (omega arith) (and_right (row_fits h t) (rows_fit h (suc n) (rest_of t)) e)

  elements-long : (n : ℕ) (t : Tables) → length (elements_of (row_figures h) n t) ≡ n
  unfolding elements_of
  elements-long zero t = refl
  elements-long (suc n) t = ap suc (elements-long n (rest_of t))

  -- **the tally is the former one less that row's figures**
  pub removed-tally : (n : ℕ) (t : Tables) (k : ℕ) → k ≤ n → (a : Tally) → tally_of h (suc n) t ≡ taken_with a (Ok tt) → is_tally a.figures ≡ true
      → (tally_of h n (removed_tables (suc n) k t) ≡ taken_with (record { figures = rows_figures h n (removed_tables (suc n) k t) }) (Ok tt))
      × (plus (one_of k (elements_of (row_figures h) (suc n) t)) (rows_figures h n (removed_tables (suc n) k t)) ≡ a.figures)
  removed-tally n t k l a e limit =
      let x = tallied h (suc n) t a e in
      let r = removed_tables (suc n) k t in
      let els = elements_of (row_figures h) (suc n) t in
      let one = one_of k els in
      let b = rows_figures h n r in
      let o = one_right n k t l x.fit in
      let fit : rows_fit h n r ≡ true = fit-are h n r ∙ ap all_fit (removed-elements Loose h n t k x.fine l (row_fits h) (fits-say h)) ∙ fit-less k (elements_of (row_fits h) (suc n) t) (sym (fit-are h (suc n) t) ∙ x.fit) in
      let is : b ≡ figures (less_one k els) = rows_are h n r ∙ ap figures (removed-elements Loose h n t k x.fine l (row_figures h) (figures-say h)) in
      let m = elements-long (suc n) t in
      let both : plus one b ≡ a.figures = ap (plus one) is ∙ figures-less k els (λ z. omega arith) (omega arith) ∙ sym (rows_are h (suc n) t) ∙ sym x.is in
      let small : is_tally b ≡ true = tally-before b one (rows-length h n r ∙ sym o.1) (rows_above h n r fit) o.0 (ap is_tally (plus_comm b one ∙ both) ∙ limit) in
      (tally-is h n r (removed-fine Loose h n t k x.fine l) fit small, both)
