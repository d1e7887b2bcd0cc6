-- The tally of a sheet's rows, one after the other. Assumes nothing.
use mathlib.Core.Path.{◌≡◌, refl, sym, ◌∙◌}
use mathlib.Core.List.{List}
use mathlib.Core.Bool.{true}
use Prim.Native.Nat.{ℕ, suc, ◌+◌, ◌-◌, ◌≤◌, ◌<◌}
use native.Mathlib.Nat.{sub-zero}
use native.Mathlib.Omega.{arith}
use lib.IntN.{ℤ}
use Rattle.std.proofs.Common.{Result, Ok, Err}
use Rattle.record.specs.declared.Mode.TheVariants.{Loose}
use Rattle.heading.specs.declared.Header.{Header}
use Rattle.sheet.specs.Tables.{Tables}
use Rattle.made.specs.Made.{rest_of, is_made, Before, none_before, past_row, judge_rows}
use Rattle.made.proofs.UsedLaws.{fine-on}
use Rattle.tally.specs.declared.Tally.{Tally}
use Rattle.tally.specs.declared.Untallied.{Untallied}
use Rattle.tally.specs.Tally.{no_figures, empty_tally, is_figure, is_tally, Good, tally_on}
use Rattle.tally.specs.Take.{taken_with, Took, row_taken, then_take, tally_rows}

-- what is to come is the tally of the rows from k on, which are left in u and well made
pub record Tallying (h : Header) (t : Tables) (count : ℕ) (s : List ℤ) (u : Tables) (k : ℕ) : Type 0 where
  pub before : Before
  pub fine : judge_rows Loose (count - k) before u ≡ Ok tt
  pub rest : tally_rows h count 0 t empty_tally ≡ tally_rows h (count - k) k u (tally_on s)
  pub good : Good s

pub none-good : Good no_figures
unfolding is_tally is_figure
none-good = record { each = refl; count = refl }

pub tallying-start : (h : Header) (t : Tables) (count : ℕ) → judge_rows Loose count none_before t ≡ Ok tt → Tallying h t count no_figures t 0
tallying-start h t count f = record { before = none_before; fine = rw (sub-zero count) f; rest = rw (sub-zero count); good = none-good }

module _ {h : Header} {t : Tables} {count : ℕ} {s : List ℤ} {u : Tables} {k : ℕ} (w : Tallying h t count s u k) where
  pub tallying-end : count ≤ k → taken_with (tally_on s) (Ok tt) ≡ tally_rows h count 0 t empty_tally
  unfolding tally_rows
  tallying-end l = let z : count - k ≡ 0 = omega arith in sym (w.rest ∙ rw z)

  module _ (l : k < count) where
    one_more : count - k ≡ suc (count - (k + 1))
    one_more = omega arith

    on : (is_made u ≡ true) × (judge_rows Loose (count - (k + 1)) (past_row w.before u) (rest_of u) ≡ Ok tt)
    on = let f = fine-on Loose (count - (k + 1)) w.before u (rw one_more at w.fine) in (f.0, f.1)

    pub tallying-made : is_made u ≡ true
    tallying-made = on.0

    module _ {z : List ℤ} {r : Result Unit Untallied} (x : Took (row_taken h k u (tally_on s)) z r) where
      here : tally_rows h count 0 t empty_tally ≡ then_take (taken_with (tally_on z) r) (tally_rows h (count - (k + 1)) (k + 1) (rest_of u))
      unfolding tally_rows
      here = w.rest ∙ rw (one_more, x.tally-is, x.refusal_is)

      pub tallying-stop : (e : Untallied) → r ≡ Err e → (a : Tally) → a ≡ empty_tally → taken_with a (Err e) ≡ tally_rows h count 0 t empty_tally
      tallying-stop e f a q = sym (here ∙ rw (f, q))

      pub tallying-on : r ≡ Ok tt → (v : Tables) → v ≡ rest_of u → Tallying h t count z v (k + 1)
      tallying-on f v q = record { before = past_row w.before u; fine = rw q on.1; rest = here ∙ rw (f, q); good = x.good }
