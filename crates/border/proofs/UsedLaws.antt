-- The border of a row, and what the row says as a text (document 01, "Border classes"): what stands behind the used part never matters, and the
-- row may be asked about alone. Assumes nothing.
use mathlib.Core.Path.{◌≡◌, refl, sym, ap}
use mathlib.Core.Bool.{cond}
use Prim.Native.Nat.{ℕ, ◌<◌}
use native.Mathlib.Omega.{arith}
use Rattle.record.specs.declared.Mode.TheVariants.{Loose}
use Rattle.kinds.specs.Kinds.{size_place}
use Rattle.heading.specs.declared.Header.{Header}
use Rattle.sheet.specs.Tables.{Tables}
use Rattle.std.specs.Prelude.{Result, Ok, Err}
use Rattle.made.specs.Made.{own_of, judge_of, used_of}
use Rattle.made.proofs.OwnLaws.{cell-own, letters-own}
use Rattle.row.specs.declared.Unfound.{Unfound}
use Rattle.row.specs.declared.Unfound.TheVariants.{Missing}
use Rattle.row.specs.Walk.{stand_of, left_at}
use Rattle.row.specs.Alone.{row_alone}
use Rattle.row.proofs.UsedLaws.{Question, asked-used, asked-alone}
use Rattle.border.specs.declared.Border.{Border}
use Rattle.border.specs.Borders.{is_border, border_of, text_of}
use Rattle.border.specs.BorderAt.{border_found, border_at}
use Rattle.border.specs.TextAt.{text_found, text_at}
use Rattle.border.proofs.BorderLaws.{border-owned}

-- ---- the row's own part answers

answer-owned : (h : Header) (t : Tables)
    → ◌≡◌ {A = Result Border Unfound} (cond (is_border (own_of t)) (Ok (border_of h (own_of t))) (Err Missing)) (cond (is_border t) (Ok (border_of h t)) (Err Missing))
answer-owned h t = rw (border-owned h t, cell-own t 0 (omega arith))

text-owned : (t : Tables) → text_of (own_of t) ≡ text_of t
unfolding text_of
text-owned t = rw (letters-own t, cell-own t 0 (omega arith), cell-own t size_place (omega arith))

borders : (h : Header) → Question (border_found h)
borders h = record { own = λ t k m. sym (answer-owned h (left_at t (stand_of k t.rows))); missing = λ t u. refl; refused = λ t u v. refl }

texts : Question text_found
texts = record { own = λ t k m. sym (ap Ok (text-owned (left_at t (stand_of k t.rows)))); missing = λ t u. refl; refused = λ t u v. refl }

-- ---- **what stands behind the used part never matters**, of any tables

module _ (h : Header) (n : ℕ) (t : Tables) (k : ℕ) where
  pub border-used : border_at h n (used_of n t) k ≡ border_at h n t k
  unfolding border_at
  border-used = asked-used (border_found h) (borders h) h n t k

  pub said-used : text_at h n (used_of n t) k ≡ text_at h n t k
  unfolding text_at
  said-used = asked-used text_found texts h n t k

-- ---- **asked of the row alone**, a row of a well made sheet

module _ (h : Header) (n : ℕ) (t : Tables) (k : ℕ) (e : judge_of Loose h n t ≡ Ok tt) (l : k < n) where
  pub border-alone : border_at h 1 (row_alone k t) 0 ≡ border_at h n t k
  unfolding border_at
  border-alone = asked-alone h n t k e l (border_found h) (borders h)

  pub said-alone : text_at h 1 (row_alone k t) 0 ≡ text_at h n t k
  unfolding text_at
  said-alone = asked-alone h n t k e l text_found texts
