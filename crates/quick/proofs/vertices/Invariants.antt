-- `quick::vertices` meets its contract. Assumes nothing.
use Rattle.quick.specs.Seen.{Vertices}
use Rattle.quick.proofs.vertices.Given as goal

abbrev pub invariant-loop-count : goal.invariant-loop-count
invariant-loop-count l = Vertices l.mode l.s l.at l.count l.next
