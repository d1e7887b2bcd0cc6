-- `reader::fill` meets its contract. Assumes nothing.
use mathlib.Core.Path.{ap, ◌∙◌}
use Rattle.std.specs.Prelude.{Ok}
use native.Mathlib.Omega.{arith}
use Rattle.reader.proofs.Filled.{filled-start, filled-kept, fill-inside, fill-token, fill-room, fill-refused, fill_done}
use Rattle.reader.proofs.Rows.{fill-asks, fill-past, fill-less}
use Rattle.reader.proofs.second_pass.fill.Goals as goal

pub loop-turn-init : goal.loop-turn-init
loop-turn-init c = rw c.first_stand-d.ensures (filled-start _ _ _ _ _ _ _ c.requires.start_in_bounds.0 c.requires.start_in_bounds.1)

pub turn_at-requires : goal.turn_at-requires
turn_at-requires c = c.loop-turn.invariant.stands.within

pub overflow_add-c : goal.overflow_add-c
overflow_add-c c = omega (arith, fill-inside c.requires.room c.loop-turn.invariant c.turn_at.result c.turn_at.ensures _ _ _ (c.in-Ok-Some.is ∙ ap Ok c.in-Ok-Some.field-0-is), c.loop-turn.invariant.stands.within.small)

pub slice_bounds-c-count : goal.slice_bounds-c-count
slice_bounds-c-count c = omega (arith, fill-inside c.requires.room c.loop-turn.invariant c.turn_at.result c.turn_at.ensures _ _ _ (c.in-Ok-Some.is ∙ ap Ok c.in-Ok-Some.field-0-is))

pub slice_bounds-c-start : goal.slice_bounds-c-start
slice_bounds-c-start c = omega (arith, fill-inside c.requires.room c.loop-turn.invariant c.turn_at.result c.turn_at.ensures _ _ _ (c.in-Ok-Some.is ∙ ap Ok c.in-Ok-Some.field-0-is))

pub slice_bounds-c-end : goal.slice_bounds-c-end
slice_bounds-c-end c = omega (arith, fill-inside c.requires.room c.loop-turn.invariant c.turn_at.result c.turn_at.ensures _ _ _ (c.in-Ok-Some.is ∙ ap Ok c.in-Ok-Some.field-0-is))

pub store-requires : goal.store-requires
store-requires c = record { t_le_token_most = fill-token c.requires.room c.loop-turn.invariant c.turn_at.result c.turn_at.ensures _ _ _ (c.in-Ok-Some.is ∙ ap Ok c.in-Ok-Some.field-0-is); put_room = fill-room c.requires.room c.loop-turn.invariant c.turn_at.result c.turn_at.ensures _ _ _ (c.in-Ok-Some.is ∙ ap Ok c.in-Ok-Some.field-0-is) }

pub put_rows-d-requires : goal.put_rows-d-requires
put_rows-d-requires c = fill-asks c.requires.room c.loop-turn.invariant c.turn_at.result c.turn_at.ensures _ _ _ (c.in-Ok-Some.is ∙ ap Ok c.in-Ok-Some.field-0-is) _ _ _ _ c.store.ensures.rows_after c.store.ensures.letters_after c.store.ensures.islands_after c.store.ensures.points_after

pub loop-turn-smaller : goal.loop-turn-smaller
loop-turn-smaller c = fill-less c.requires.room c.loop-turn.invariant c.turn_at.result c.turn_at.ensures _ _ _ (c.in-Ok-Some.is ∙ ap Ok c.in-Ok-Some.field-0-is) _ _ _ _ c.store.ensures.rows_after c.store.ensures.letters_after c.store.ensures.islands_after c.store.ensures.points_after _ c.put_rows-d.ensures

pub loop-turn-preserved : goal.loop-turn-preserved
loop-turn-preserved c = (fill-past c.requires.room c.loop-turn.invariant c.turn_at.result c.turn_at.ensures _ _ _ (c.in-Ok-Some.is ∙ ap Ok c.in-Ok-Some.field-0-is) _ _ _ _ c.store.ensures.rows_after c.store.ensures.letters_after c.store.ensures.islands_after c.store.ensures.points_after _ c.put_rows-d.ensures).filled

pub shape_of-rows-in-Err : goal.shape_of-rows-in-Err
shape_of-rows-in-Err c = (filled-kept c.requires.room c.loop-turn.invariant).rows-kept

pub shape_of-letters-in-Err : goal.shape_of-letters-in-Err
shape_of-letters-in-Err c = (filled-kept c.requires.room c.loop-turn.invariant).letters-kept

pub shape_of-islands-in-Err : goal.shape_of-islands-in-Err
shape_of-islands-in-Err c = (filled-kept c.requires.room c.loop-turn.invariant).islands-kept

pub shape_of-points-in-Err : goal.shape_of-points-in-Err
shape_of-points-in-Err c = (filled-kept c.requires.room c.loop-turn.invariant).points_kept

pub returns-in-Err : goal.returns-in-Err
returns-in-Err c = fill-refused c.requires.room c.loop-turn.invariant c.turn_at.result c.turn_at.ensures _ _ _ c.in-Err.is

pub shape_of-rows-in-Ok-None : goal.shape_of-rows-in-Ok-None
shape_of-rows-in-Ok-None c = (filled-kept c.requires.room c.loop-turn.invariant).rows-kept

pub shape_of-letters-in-Ok-None : goal.shape_of-letters-in-Ok-None
shape_of-letters-in-Ok-None c = (filled-kept c.requires.room c.loop-turn.invariant).letters-kept

pub shape_of-islands-in-Ok-None : goal.shape_of-islands-in-Ok-None
shape_of-islands-in-Ok-None c = (filled-kept c.requires.room c.loop-turn.invariant).islands-kept

pub shape_of-points-in-Ok-None : goal.shape_of-points-in-Ok-None
shape_of-points-in-Ok-None c = (filled-kept c.requires.room c.loop-turn.invariant).points_kept

pub returns-in-Ok-None : goal.returns-in-Ok-None
returns-in-Ok-None c = let g = fill_done c.requires.room c.loop-turn.invariant c.turn_at.result c.turn_at.ensures (c.in-Ok-None.is ∙ ap Ok c.in-Ok-None.field-0-is) in record { rows_after = g.rows_are; letters_after = g.letters-are; islands_after = g.islands-are; points_after = g.points-are }
