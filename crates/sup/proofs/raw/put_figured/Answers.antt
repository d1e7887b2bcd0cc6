-- `put_figured` meets its contract: the figure is spelt in the line's right field, where it finds room. Assumes nothing.
use native.Mathlib.Omega.{arith}
use Rattle.sup.proofs.RawWays.{lowered-asks, figured-stored}
use Rattle.sup.proofs.raw.put_figured.Goals as goal

pub overflow_cast-figure : goal.overflow_cast-figure
overflow_cast-figure c = omega (arith, c.number_from.ensures.1)

pub overflow_sub-figure : goal.overflow_sub-figure
overflow_sub-figure c = lowered-asks _ _ c.requires _ c.number_from.ensures.0 c.number_from.ensures.1

pub returns : goal.returns
returns c = figured-stored _ _ c.requires _ c.number_from.ensures.0 c.number_from.ensures.1 _ c.spell_figure.ensures.value _ c.spell_figure.ensures.out_after
