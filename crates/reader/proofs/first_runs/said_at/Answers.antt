-- `reader::said_at` meets its contract. Assumes nothing.
use Rattle.reader.proofs.Fields.{said-real, said-int}
use Rattle.reader.proofs.HeadWays.{some_of}
use Rattle.reader.proofs.first_runs.said_at.Goals as goal

pub returns-else-q-eq0 : goal.returns-else-q-eq0
returns-else-q-eq0 c = said-real c.args.mode c.args.src.now c.args.at c.args.place c.if-place-ge-ROW_WIDTH.false c.want_at.result c.want_at.ensures c.real_at-q.result c.in-Real.is c.real_at-q.ensures (some_of _ c.if-q-eq0.false)

pub returns-else-width-eq0 : goal.returns-else-width-eq0
returns-else-width-eq0 c = said-int c.args.mode c.args.src.now c.args.at c.args.place c.if-place-ge-ROW_WIDTH.false c.want_at.result c.want_at.ensures c.size_of-n.result c.in-Int.is c.size_of-n.ensures (some_of _ c.if-width-eq0.false)
