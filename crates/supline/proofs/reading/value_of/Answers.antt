-- `value_of` reads the digits of a field. Invariant: `n` is what the first bytes make, and the rest goes on from it. Assumes nothing.
use mathlib.Core.Path.{◌∙◌}
use native.Mathlib.Omega.{arith}
use Rattle.supline.proofs.ReadingWays.{valued-start, valued-times, valued-plus, valued-on, valued-end}
use Rattle.supline.proofs.reading.value_of.Goals as goal

pub loop-b-init : goal.loop-b-init
loop-b-init c = valued-start _

pub overflow_mul-n : goal.overflow_mul-n
overflow_mul-n c = record { fits = valued-times c.loop-b.invariant c.requires }

pub overflow_add-n : goal.overflow_add-n
overflow_add-n c = record { fits = valued-plus c.loop-b.invariant c.requires c.loop-b-test.true _ (c.from.ensures ∙ c.saturating_sub.ensures) (omega (arith, c.type_inv.s c.loop-b.b-index)) }

pub loop-b-preserved : goal.loop-b-preserved
loop-b-preserved c = valued-on c.loop-b.invariant c.requires c.loop-b-test.true _ (c.from.ensures ∙ c.saturating_sub.ensures) (omega (arith, c.type_inv.s c.loop-b.b-index))

pub returns : goal.returns
returns c = valued-end c.loop-b.invariant c.requires c.loop-b-test.false
