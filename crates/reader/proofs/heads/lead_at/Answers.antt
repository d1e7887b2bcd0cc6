-- `reader::lead_at` meets its contract. Assumes nothing.
use native.Mathlib.Omega.{arith}
use Rattle.reader.proofs.HeadWays.{lead-mid, lead-end, lead_is}
use Rattle.reader.proofs.heads.lead_at.Goals as goal

pub overflow_add-mid : goal.overflow_add-mid
overflow_add-mid c = omega (arith, lead-mid c.args.mode c.args.src.now c.args.at c.in_ok-a.a c.in_ok-a.a c.in_ok-a.ensures)

pub overflow_add-result : goal.overflow_add-result
overflow_add-result c = omega (arith, lead-end c.args.mode c.args.src.now c.args.at c.in_ok-a.a c.in_ok-b.b c.in_ok-a.ensures c.in_ok-b.ensures)

pub returns : goal.returns
returns c = lead_is c.args.mode c.args.src.now c.args.at c.in_ok-a.a c.in_ok-b.b c.in_ok-a.ensures c.in_ok-b.ensures
