-- The ways through the function on a tally that was handed in, which may be of another length. Assumes nothing.
use Prim.Native.Nat.{ℕ}
use mathlib.Core.Path.{◌≡◌, sym, ap, ◌∙◌}
use lib.Dec.{eqb}
use borrow.Author.Tests.{eq-eqb, ne_eqb}
use Rattle.laws.proofs.Choice.{cond-true, cond-false}
use Rattle.tally.specs.declared.Tally.{Tally}
use Rattle.tally.specs.declared.Taken.{Taken}
use Rattle.tally.specs.Tally.{figure_count, empty_tally}
use Rattle.told.specs.declared.tallies.CxfTally.{CxfTally}
use Rattle.told.specs.Tallies.{tally_laid, tally_told, take_told}

-- ---- the answer

module _ (n : ℕ) (x : Taken) {r : CxfTally} where
  pub take-wrong : {e : Tally} → (n ≡ figure_count → ⊥) → e ≡ empty_tally → r ≡ tally_laid e x.outcome → r ≡ take_told n x
  unfolding take_told
  take-wrong f q p =
      p ∙ ap (λ (a : Tally). tally_laid a x.outcome) q
      ∙ sym (cond-false (eqb n figure_count) (tally_told x) (tally_laid empty_tally x.outcome) (ne_eqb n figure_count f))

  pub take-right : n ≡ figure_count → r ≡ tally_told x → r ≡ take_told n x
  unfolding take_told
  take-right e p = p ∙ sym (cond-true (eqb n figure_count) (tally_told x) (tally_laid empty_tally x.outcome) (eq-eqb n figure_count e))
