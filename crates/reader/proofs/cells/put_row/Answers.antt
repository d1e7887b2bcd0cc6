-- `put_row` meets its contract: the starts stand behind what the section gives. Assumes nothing.
use borrow.Author.Rules.{rules}
use Rattle.reader.proofs.Storing.{row-stored}
use Rattle.reader.proofs.cells.put_row.Goals as goal

pub returns : goal.returns
returns c = search (row-stored, rules)
