-- `right_lines` meets its contract: the lines behind the walk are right. Assumes nothing.
use Rattle.supcheck.proofs.WalkingWays.{Righting}
use Rattle.supcheck.proofs.walking.right_lines.Given as goal

abbrev pub invariant-loop-i : goal.invariant-loop-i
invariant-loop-i l = Righting l.s l.first l.names l.exact l.allowed l.i
