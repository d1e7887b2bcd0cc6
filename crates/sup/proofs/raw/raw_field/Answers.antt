use native.Mathlib.Omega.{arith}
use Rattle.sup.proofs.RawWays.{first_byte, field_is}
use Rattle.sup.proofs.raw.raw_field.Goals as goal

pub overflow_cast-result : goal.overflow_cast-result
overflow_cast-result c = omega (arith, first_byte _ c.requires _ c.raised-n.ensures)

pub returns : goal.returns
returns c = field_is _ c.requires _ c.raised-n.ensures
