-- `made::judge_rows`: the rows passed are made, and `left` is what they leave. The turn is in `JudgeWays`. Assumes nothing.
use Rattle.made.specs.Made.{tables}
use Rattle.made.proofs.JudgeWays.{Judged}
use Rattle.made.proofs.judge_rows.Given as goal

abbrev pub invariant-loop-k : goal.invariant-loop-k
invariant-loop-k l = Judged l.mode l.count (tables l.lent) l.k l.before (tables l.left)
