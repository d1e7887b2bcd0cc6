-- `quick::lead` meets its contract. Assumes nothing.
use Rattle.quick.specs.Brisk.{Leads}
use Rattle.quick.proofs.unpadded.lead.Given as goal

abbrev pub invariant-loop-i : goal.invariant-loop-i
invariant-loop-i l = Leads l.u l.i l.value
