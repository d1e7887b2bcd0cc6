-- `reader::border_key` meets its contract. Assumes nothing.
use Rattle.reader.proofs.HeadRecords.{border-cr, border-lf}
use borrow.Author.Rules.{rules}
use Rattle.reader.proofs.heads.border_key.Goals as goal

pub returns-then-src-e-eq10 : goal.returns-then-src-e-eq10
returns-then-src-e-eq10 c = search (border-cr, rules)

pub returns-then-b-eq10 : goal.returns-then-b-eq10
returns-then-b-eq10 c = search (border-lf, rules)
