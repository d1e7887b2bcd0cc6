-- `border_laid` lays a border out, and its signed numbers are read back from their bits. Assumes nothing.
use borrow.Author.Rules.{rules}
use Rattle.laws.proofs.Bits.{back}
use Rattle.told.proofs.ToldWays.{class-most}
use Rattle.told.proofs.question.border_laid.Goals as goal

pub overflow_add-result : goal.overflow_add-result
overflow_add-result c = let h = class-most c.args.b.class c.index_of.ensures in search rules

pub returns : goal.returns
returns c =
    cc (back c.args.b.size (search rules), back c.args.b.angle (search rules), back c.args.b.x (search rules), back c.args.b.y (search rules), back c.args.b.x2 (search rules), back c.args.b.y2 (search rules))
