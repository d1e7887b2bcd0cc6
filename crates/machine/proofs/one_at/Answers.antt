-- `machine::one_at` meets its contract. Assumes nothing.
use Rattle.machine.proofs.MachineWays.{one-got}
use Rattle.machine.proofs.one_at.Goals as goal

pub returns : goal.returns
returns c = one-got _ _ _ _ _ _ c.in_ok-line.line _ c.is_due.ensures c.line_at.ensures c.in_ok-line.was c.content_at.ensures
