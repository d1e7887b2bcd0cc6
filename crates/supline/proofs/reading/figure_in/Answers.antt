-- `figure_in` meets its contract. Assumes nothing.
use borrow.Author.Rules.{rules}
use Rattle.supline.proofs.ReadingWays.{figure-known, reading-ways}
use Rattle.supline.proofs.reading.figure_in.Goals as goal

pub figure_said-requires : goal.figure_said-requires
figure_said-requires c = search (reading-ways, rules)

pub returns : goal.returns
returns c = figure-known c.args.s.now _ c.right_field.ensures _ c.figure_said.ensures c.figure_said.type_inv
