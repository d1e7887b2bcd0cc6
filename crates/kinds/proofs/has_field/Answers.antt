-- `kinds::has_field` meets its contract: the table is the schedule. Assumes nothing.
use Rattle.std.proofs.Common.{[], ◌∙◌, sym, get_or}
use Rattle.kinds.specs.Kinds.{schedule}
use Rattle.kinds.proofs.KindLaws.{row-is, holds-any, field-no-kind}
use Rattle.kinds.proofs.has_field.Goals as goal

pub returns-then-kind-gt-KINDS : goal.returns-then-kind-gt-KINDS
returns-then-kind-gt-KINDS c = field-no-kind _ c.if-kind-gt-KINDS.true _

pub returns : goal.returns
unfolding schedule
returns c = (rw row-is at c.is_in.ensures) ∙ sym (holds-any (get_or schedule c.args.kind []) c.args.place)
