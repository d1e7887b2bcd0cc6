-- The ring check of a row (document 01, "Ring check"): what stands behind the used part never matters, and the row may be asked about alone.
-- Assumes nothing.
use mathlib.Core.Path.{◌≡◌, refl, ap}
use Prim.Native.Nat.{ℕ, ◌<◌}
use Rattle.record.specs.declared.Mode.TheVariants.{Loose}
use Rattle.heading.specs.declared.Header.{Header}
use Rattle.sheet.specs.Tables.{Tables}
use Rattle.std.proofs.Common.{Result, Ok}
use Rattle.made.specs.Made.{judge_of, used_of}
use Rattle.row.specs.declared.Stand.{Stand}
use Rattle.row.specs.declared.Unfound.{Unfound}
use Rattle.row.specs.Alone.{row_alone}
use Rattle.row.proofs.UsedLaws.{Question, asked-used, asked-alone}
use Rattle.crossing.proofs.AlikeLaws.{verdict-alike}
use Rattle.area.specs.Questions.{ring_found, ring_at}
use Rattle.area.proofs.UsedLaws.{rings}
use Rattle.ring.specs.RingCheck.{checked_of, check_found, ring_check_at}

checks : (ring : ℕ) → Question (λ (x : Tables) (s : Result Stand Unfound). check_found x.points (ring_found x ring s))
checks ring = rings check_found (λ ps qs p q n s. ap checked_of (verdict-alike ps qs p q n s.vertices s.held-alike)) (λ ps qs. refl) (λ ps qs v. refl) ring

-- **what stands behind the used part never matters**, of any tables
pub check-used : (h : Header) (n : ℕ) (t : Tables) (k ring : ℕ) → ring_check_at h n (used_of n t) k ring ≡ ring_check_at h n t k ring
unfolding ring_check_at ring_at
check-used h n t k ring = asked-used (λ x s. check_found x.points (ring_found x ring s)) (checks ring) h n t k

-- **asked of the row alone**, a row of a well made sheet
pub check-alone : (h : Header) (n : ℕ) (t : Tables) (k : ℕ) → judge_of Loose h n t ≡ Ok tt → k < n → (ring : ℕ) → ring_check_at h 1 (row_alone k t) 0 ring ≡ ring_check_at h n t k ring
unfolding ring_check_at ring_at
check-alone h n t k e l ring = asked-alone h n t k e l (λ x s. check_found x.points (ring_found x ring s)) (checks ring)
