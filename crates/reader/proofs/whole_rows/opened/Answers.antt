-- `reader::opened` meets its contract. Assumes nothing.
use borrow.Author.Tests.{eq-eqb, ne_eqb}
use Rattle.reader.proofs.OnlyRing.{opened-none, opened-islands, opened_one, opened-open}
use Rattle.reader.proofs.whole_rows.opened.Goals as goal

pub returns-then-vertices-eq0 : goal.returns-then-vertices-eq0
returns-then-vertices-eq0 c = opened-none c.args.kind c.args.islands c.args.vertices c.if-vertices-eq0.true

pub returns-then-islands-gt0 : goal.returns-then-islands-gt0
returns-then-islands-gt0 c = opened-islands c.args.kind c.args.islands c.args.vertices c.if-vertices-eq0.false (eq-eqb c.args.kind 1 c.if-closed.true) c.if-islands-gt0.true

pub returns-else-islands-gt0 : goal.returns-else-islands-gt0
returns-else-islands-gt0 c = opened_one c.args.kind c.args.islands c.args.vertices c.if-vertices-eq0.false c.if-islands-gt0.false

pub returns-else-closed : goal.returns-else-closed
returns-else-closed c = opened-open c.args.kind c.args.islands c.args.vertices c.if-vertices-eq0.false (ne_eqb c.args.kind 1 c.if-closed.false)
