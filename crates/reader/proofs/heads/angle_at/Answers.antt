-- `reader::angle_at` meets its contract. Assumes nothing.
use mathlib.Core.Path.{sym, ◌∙◌}
use native.Mathlib.Omega.{arith}
use Rattle.reader.proofs.HeadRecords.{angle-usual}
use Rattle.reader.proofs.HeadWays.{some_of}
use Rattle.reader.proofs.heads.angle_at.Goals as goal

pub returns-then-is_exact : goal.returns-then-is_exact
returns-then-is_exact c = angle-usual (c.requires c.if-judged.true (sym c.is_exact.ensures ∙ c.if-is_exact.true)) (omega arith) c.usual_value.result c.usual_value.ensures

pub returns : goal.returns
returns c = c.real_at-q.ensures (some_of _ c.if-q-eq0.false)
