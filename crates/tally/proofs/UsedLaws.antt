-- What stands behind the part of the tables that the rows use never matters to a tally (document 01, "Areas"), nor to a running tally that takes
-- a row. Assumes nothing.
use mathlib.Core.Path.{◌≡◌, refl, sym, ◌∙◌, ap}
use Prim.Native.Nat.{ℕ, zero, suc, ◌+◌}
use native.Mathlib.Omega.{arith}
use Rattle.std.proofs.Common.{Result, Ok, Err}
use Rattle.record.specs.declared.Mode.TheVariants.{Loose}
use Rattle.heading.specs.declared.Header.{Header}
use Rattle.sheet.specs.Tables.{Tables}
use Rattle.made.specs.declared.Flaw.{Flaw}
use Rattle.made.specs.Made.{rest_of, Before, none_before, past_row, judge_rows, judge_of, used_of}
use Rattle.made.proofs.OwnLaws.{cell-own, Own, first_alike}
use Rattle.made.proofs.UsedLaws.{first-used, rest-used, judge-used, fine-on}
use Rattle.row.specs.declared.Stand.{Stand}
use Rattle.row.specs.declared.Unfound.{Unfound}
use Rattle.row.specs.declared.Unfound.TheVariants as Unfound
use Rattle.row.specs.Walk.{stand_of, left_at}
use Rattle.row.proofs.SeekLaws.{fine-rows}
use Rattle.row.proofs.UsedLaws.{Question, asked-used}
use Rattle.tally.specs.declared.Tally.{Tally}
use Rattle.tally.specs.Tally.{empty_tally}
use Rattle.tally.specs.Take.{row_taken, front_taken, taken_at, taken_of, tally_rows, tallied_after, tally_of}
use Rattle.tally.proofs.OwnLaws.{border-taken-owned, row-taken-owned}

-- ---- the tally of a sheet

rows-used : (h : Header) (n k : ℕ) (b : Before) (t : Tables) (a : Tally) → judge_rows Loose n b t ≡ Ok tt → tally_rows h n k (used_of n t) a ≡ tally_rows h n k t a
unfolding tally_rows
rows-used h zero k b t a e = refl
rows-used h (suc n) k b t a e =
    let f = fine-on Loose n b t e in
    rw (
      first_alike (λ (x : Tables). row_taken h k x a) (row-taken-owned h k a) (used_of (suc n) t) t (first-used n t) f.0,
      rest-used n t,
      rows-used h n (k + 1) (past_row b t) (rest_of t) (row_taken h k t a).tally f.1,
    )

-- **what stands behind the used part never matters**, of any tables
pub tally-used : (h : Header) (n : ℕ) (t : Tables) → tally_of h n (used_of n t) ≡ tally_of h n t
unfolding tally_of
tally-used h n t = ap (tallied_after h n (used_of n t)) (judge-used Loose h n t) ∙ by (judge_of Loose h n t) refl
  where
    by : (v : Result Unit Flaw) → judge_of Loose h n t ≡ v → tallied_after h n (used_of n t) v ≡ tallied_after h n t v
    by (Ok u) e = rows-used h n 0 none_before t empty_tally (fine-rows h n t e)
    by (Err f) e = refl

-- ---- a running tally takes a row

module _ (h : Header) (k : ℕ) (a : Tally) where
  front-owned : Own (λ (t : Tables). front_taken h k t a)
  front-owned t m = rw (border-taken-owned h k a t m, cell-own t 0 (omega arith))

  takings : Question (λ (x : Tables) (s : Result Stand Unfound). taken_at h x k a s)
  takings = record { own = λ t j m. sym (front-owned (left_at t (stand_of j t.rows)) m); missing = λ t u. refl; refused = λ t u v. refl }

pub taken-used : (a : Tally) (h : Header) (n : ℕ) (t : Tables) (k : ℕ) → taken_of a h n (used_of n t) k ≡ taken_of a h n t k
unfolding taken_of
taken-used a h n t k = asked-used (λ x s. taken_at h x k a s) (takings h k a) h n t k
