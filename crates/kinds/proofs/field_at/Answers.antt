-- `kinds::field_at` meets its contract: the table is the schedule. Assumes nothing.
use Rattle.kinds.specs.Kinds.{schedule}
use Rattle.kinds.proofs.KindLaws.{field-none, row-is, past-row}
use Rattle.kinds.proofs.field_at.Goals as goal

pub returns-then-kind-gt-KINDS : goal.returns-then-kind-gt-KINDS
returns-then-kind-gt-KINDS c = field-none _ c.if-kind-gt-KINDS.true _

pub returns-then-j-fields : goal.returns-then-j-fields
unfolding schedule
returns-then-j-fields c = past-row _ c.args.j (rw row-is at c.if-j-fields.true)

pub returns : goal.returns
unfolding schedule
returns c = rw row-is at c.from.ensures
