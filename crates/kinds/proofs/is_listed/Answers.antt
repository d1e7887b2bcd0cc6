-- `kinds::is_listed` meets its contract: a bit of the kind's number is what `is_listed` says. Assumes nothing.
use Rattle.kinds.proofs.KindLaws.{listed-is, listed-past}
use Rattle.kinds.proofs.is_listed.Goals as goal

pub returns-then-code-gt-CODE_MOST : goal.returns-then-code-gt-CODE_MOST
returns-then-code-gt-CODE_MOST c = listed-past _ _ c.if-code-gt-CODE_MOST.true

pub returns : goal.returns
returns c = listed-is _ _ _ c.codes.ensures c.if-code-gt-CODE_MOST.false
