-- `reader::is_trim` meets its contract. Assumes nothing.
use Rattle.laws.proofs.Choice.{false≢true}
use Rattle.reader.proofs.HeadRecords.{trim-is}
use borrow.Author.Tests.{eqb-false, not-true}
use Rattle.reader.proofs.heads.is_trim.Goals as goal

pub returns-then-n-eq0 : goal.returns-then-n-eq0
returns-then-n-eq0 c = λ h. absurd (false≢true h)

pub returns-then-c-eq32 : goal.returns-then-c-eq32
returns-then-c-eq32 c = λ h. absurd (false≢true h)

pub returns : goal.returns
returns c = λ h. trim-is c.args.c.now c.if-n-eq0.false c.if-c-eq32.false (eqb-false _ _ (not-true _ h))
