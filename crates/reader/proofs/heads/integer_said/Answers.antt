-- `reader::integer_said` meets its contract. Assumes nothing.
use mathlib.Core.Path.{sym, ◌∙◌}
use Rattle.reader.proofs.heads.integer_said.Goals as goal

pub returns-then-p-gt0 : goal.returns-then-p-gt0
returns-then-p-gt0 c = c.loose_integer-p.ensures c.if-p-gt0.true (sym c.is_exact.ensures ∙ c.if-is_exact.false)
