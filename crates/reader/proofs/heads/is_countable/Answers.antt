-- `reader::is_countable` meets its contract. Assumes nothing.
use Rattle.laws.proofs.Choice.{false≢true}
use Rattle.reader.proofs.HeadRecords.{few-countable, border-countable}
use borrow.Author.Rules.{rules}
use Rattle.reader.proofs.heads.is_countable.Goals as goal

pub returns-then-kind-ne1 : goal.returns-then-kind-ne1
returns-then-kind-ne1 c = λ h. search (few-countable, rules)

pub returns-then-vertices-lt4 : goal.returns-then-vertices-lt4
returns-then-vertices-lt4 c = λ h. absurd (false≢true h)

pub returns : goal.returns
returns c = λ h. search (border-countable, rules)
