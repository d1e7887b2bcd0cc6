-- The borders of a SUP file are rows of the sheet, each where `seek` finds it. Assumes nothing.
use Prim.Native.Nat.{ℕ, zero, suc, ◌+◌, ◌<◌}
use mathlib.Core.Path.{◌≡◌, refl, ap, ◌∙◌}
use mathlib.Core.List.{List, [], ◌∷◌}
use native.Mathlib.Omega.{arith}
use lib.ListN.{length, get_or}
use lib.IntN.{ℤ}
use Rattle.std.specs.Prelude.{Ok}
use Rattle.laws.proofs.ListLaws.{values, values-are}
use Rattle.heading.specs.declared.Header.{Header}
use Rattle.record.specs.declared.Mode.TheVariants.{Loose}
use Rattle.sheet.specs.Tables.{Tables}
use Rattle.made.specs.Made.{none_before, judge_rows}
use Rattle.row.specs.declared.Stand.{Stand}
use Rattle.row.specs.Walk.{first_stand, stand_after, stand_of, left_at}
use Rattle.row.proofs.Walk.{walk-to}
use Rattle.order.specs.Sorting.{filter}
use Rattle.order.specs.SupBorders.{is_in_sup, sup_borders_from, sup_borders}
use Rattle.order.specs.Windows.{Small}
use Rattle.order.proofs.OrderLaws.{walk_after}

-- n stands of a walk
unfoldable steps : List ℤ → ℕ → Stand → List Stand
steps rows zero d = []
steps rows (suc n) d = d ∷ steps rows n (stand_after rows d)

steps-length : (rows : List ℤ) (n : ℕ) (d : Stand) → length (steps rows n d) ≡ n
unfolding steps
steps-length rows zero d = refl
steps-length rows (suc n) d = ap suc (steps-length rows n (stand_after rows d))

sup-steps : (h : Header) (t : Tables) (n : ℕ) (d : Stand) → sup_borders_from h t n d ≡ filter (λ (e : Stand). is_in_sup h (left_at t e)) (steps t.rows n d)
unfolding sup_borders_from filter steps
sup-steps h t zero d = refl
sup-steps h t (suc n) d = rw (sup-steps h t n (stand_after t.rows d))

module _ (t : Tables) (count : ℕ) (m : Small t) (f : judge_rows Loose count none_before t ≡ Ok tt) where
  pub next-stand : (k : ℕ) → k < count → stand_after t.rows (stand_of k t.rows) ≡ stand_of (suc k) t.rows
  unfolding stand_of
  next-stand k l = walk_after m (walk-to Loose t count f k (omega arith)) l

  steps-at : (n k i : ℕ) (z : Stand) → k + n ≡ count → i < n → get_or (steps t.rows n (stand_of k t.rows)) i z ≡ stand_of (k + i) t.rows
  unfolding steps
  steps-at zero k i z e l = absurd (omega arith)
  steps-at (suc n) k zero z e l = let q : k ≡ k + 0 = omega arith in ap (λ (j : ℕ). stand_of j t.rows) q
  steps-at (suc n) k (suc i) z e l =
      let q : suc k + i ≡ k + suc i = omega arith in
      rw (next-stand k (omega arith)) (steps-at n (suc k) i z (omega arith) (omega arith) ∙ ap (λ (j : ℕ). stand_of j t.rows) q)

  start_is : stand_of 0 t.rows ≡ first_stand
  unfolding stand_of
  start_is = refl

  -- in row order, those of the sheet's rows that are listed
  pub sup-rows : (h : Header) → sup_borders h count t ≡ filter (λ (d : Stand). is_in_sup h (left_at t d)) (values (λ (k : ℕ). stand_of k t.rows) count)
  sup-rows h =
      sup-steps h t count first_stand
      ∙ ap (filter (λ (d : Stand). is_in_sup h (left_at t d)))
      (values-are (steps t.rows count first_stand) (λ (k : ℕ). stand_of k t.rows) count first_stand (steps-length t.rows count first_stand)
      (λ i l. let q : 0 + i ≡ i = omega arith in rw start_is at (steps-at count 0 i first_stand (omega arith) l) ∙ ap (λ (j : ℕ). stand_of j t.rows) q))
