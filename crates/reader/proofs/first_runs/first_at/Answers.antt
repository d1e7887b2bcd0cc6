-- `reader::first_at` meets its contract. Assumes nothing.
use Rattle.reader.proofs.Running.{first-mid, first-end, first-is}
use native.Mathlib.Omega.{arith}
use Rattle.reader.proofs.first_runs.first_at.Goals as goal

pub overflow_add-mid : goal.overflow_add-mid
overflow_add-mid c = omega (arith, first-mid c.args.mode c.args.src.now c.args.at c.real_at-a.result c.real_at-a.result c.real_at-a.ensures c.if-a-eq0.false)

pub overflow_add-result : goal.overflow_add-result
overflow_add-result c = omega (arith, first-end c.args.mode c.args.src.now c.args.at c.real_at-a.result c.real_at-b.result c.real_at-a.ensures c.if-a-eq0.false c.real_at-b.ensures c.if-b-eq0.false)

pub returns : goal.returns
returns c = first-is c.args.mode c.args.src.now c.args.at c.real_at-a.result c.real_at-b.result c.real_at-a.ensures c.if-a-eq0.false c.real_at-b.ensures c.if-b-eq0.false
