-- `area::ring_at` meets its contract: a row that was found stands within its tables. Assumes nothing.
use native.Mathlib.Omega.{arith}
use Rattle.row.proofs.SeekLaws.{stood}
use Rattle.area.proofs.QuestionWays.{stood-islands, stood-vertices}
use Rattle.area.proofs.ring_at.Goals as goal

pub ring_of_row-requires : goal.ring_of_row-requires
ring_of_row-requires c =
    let s = stood _ _ _ _ c.in_ok-d.d _ c.seek.ensures c.in_ok-d.was in
    (stood-islands _ _ _ _ _ s _ c.left_at-own.ensures, λ k. omega (arith, stood-vertices _ _ _ _ _ s _ c.left_at-own.ensures k))
