-- `put_starts` meets its contract: three numbers, one behind the other. Assumes nothing.
use borrow.Author.Rules.{rules}
use Rattle.reader.proofs.Storing.{starts-stored}
use Rattle.reader.proofs.cells.put_starts.Goals as goal

pub returns : goal.returns
returns c = search (starts-stored, rules)
