-- `reader::turn_at` meets its contract. Assumes nothing.
use Rattle.reader.proofs.Turning.{turn-past, turn-next, turn-size, turn-few, turn-no, turn_end, turn_on}
use mathlib.Core.Path.{ap, ◌∙◌}
use native.Mathlib.Omega.{arith}
use Rattle.std.specs.Prelude.{Ok}
use Rattle.reader.proofs.turns.turn_at.Goals as goal

pub overflow_add-d-in-Ok-End : goal.overflow_add-d-in-Ok-End
overflow_add-d-in-Ok-End c = omega (arith, turn-past _ c.args.src.now c.args.d c.requires c.size_next-size.result c.size_next-size.ensures c.one_of.result c.one_of.ensures _ (c.in-Ok-End.is ∙ ap Ok c.in-Ok-End.field-0-is))

pub overflow_add-next : goal.overflow_add-next
overflow_add-next c = omega (arith, turn-next _ c.args.src.now c.args.d c.requires c.size_next-size.result c.size_next-size.ensures c.one_of.result c.one_of.ensures _ _ _ _ (c.in-Ok-Go.is ∙ ap Ok c.in-Ok-Go.field-0-is))

pub ring_next-requires : goal.ring_next-requires
ring_next-requires c = turn-size _ c.args.src.now c.args.d c.requires c.size_next-size.result c.size_next-size.ensures c.one_of.result c.one_of.ensures

pub more_needs-requires : goal.more_needs-requires
more_needs-requires c = turn-few _ c.args.src.now c.args.d c.requires c.size_next-size.result c.size_next-size.ensures c.one_of.result c.one_of.ensures _ _ _ _ (c.in-Ok-Go.is ∙ ap Ok c.in-Ok-Go.field-0-is)

pub returns-in-Err : goal.returns-in-Err
returns-in-Err c = turn-no _ c.args.src.now c.args.d c.requires c.size_next-size.result c.size_next-size.ensures c.one_of.result c.one_of.ensures _ c.in-Err.is

pub returns-in-Ok-End : goal.returns-in-Ok-End
returns-in-Ok-End c = turn_end _ c.args.src.now c.args.d c.requires c.size_next-size.result c.size_next-size.ensures c.one_of.result c.one_of.ensures _ (c.in-Ok-End.is ∙ ap Ok c.in-Ok-End.field-0-is) _ c.closing_at.ensures

pub returns-in-Ok-Go : goal.returns-in-Ok-Go
returns-in-Ok-Go c = turn_on _ c.args.src.now c.args.d c.requires c.size_next-size.result c.size_next-size.ensures c.one_of.result c.one_of.ensures _ _ _ _ (c.in-Ok-Go.is ∙ ap Ok c.in-Ok-Go.field-0-is) _ _ c.ring_next.ensures c.more_needs.ensures
