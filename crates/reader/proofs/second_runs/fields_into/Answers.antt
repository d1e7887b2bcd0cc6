-- `reader::fields_into` meets its contract. Assumes nothing.
use Rattle.std.specs.Prelude.{Ok}
use mathlib.Core.Bool.{not}
use mathlib.Core.Path.{ap, ◌∙◌}
use Rattle.reader.proofs.Fields.{entered-start, entered-few, entered-is, entered_at, entered-inside, entered_on}
use Rattle.reader.specs.Store.{at_rest}
use native.Mathlib.Omega.{arith}
use borrow.Author.Tests.{not-false}
use Rattle.reader.proofs.second_runs.fields_into.Goals as goal

pub returns-then-not-is_begun : goal.returns-then-not-is_begun
returns-then-not-is_begun c = at_rest

pub overflow_sub-row : goal.overflow_sub-row
overflow_sub-row c = omega (arith, (c.is_begun.ensures (not-false _ (ap not c.if-not-is_begun.false))).0)

pub overflow_mul-row : goal.overflow_mul-row
overflow_mul-row c = omega (arith, c.requires.small, c.requires.here, c.requires.rows)

pub loop-st-init : goal.loop-st-init
loop-st-init c = entered-start c.args.mode c.args.src.now c.args.d c.args.rows.now c.requires

pub onward_at-requires : goal.onward_at-requires
onward_at-requires c = entered-few c.args.mode c.args.src.now c.args.d c.requires c.args.rows.now c.loop-st.st c.loop-st.here c.loop-st.ring c.loop-st.k c.loop-st.rows c.loop-st.invariant

pub shape_of-rows-in_default : goal.shape_of-rows-in_default
shape_of-rows-in_default c = c.loop-st.invariant.kept

pub returns-in_default : goal.returns-in_default
returns-in_default c = entered-is c.args.mode c.args.src.now c.args.d c.requires c.args.rows.now c.loop-st.st c.loop-st.here c.loop-st.ring c.loop-st.k c.loop-st.rows c.loop-st.invariant _ c.onward_at.ensures

pub said_at-requires : goal.said_at-requires
said_at-requires c = c.loop-st.invariant.inside

pub onward_at-requires-in_default-said_at : goal.onward_at-requires-in_default-said_at
onward_at-requires-in_default-said_at c = entered-few c.args.mode c.args.src.now c.args.d c.requires c.args.rows.now c.loop-st.st c.loop-st.here c.loop-st.ring c.loop-st.k c.loop-st.rows c.loop-st.invariant

pub shape_of-rows-in_default-said_at : goal.shape_of-rows-in_default-said_at
shape_of-rows-in_default-said_at c = c.loop-st.invariant.kept

pub returns-in_default-said_at : goal.returns-in_default-said_at
returns-in_default-said_at c = entered_at c.args.mode c.args.src.now c.args.d c.requires c.args.rows.now c.loop-st.st c.loop-st.here c.loop-st.ring c.loop-st.k c.loop-st.rows c.loop-st.invariant _ _ _ c.in-Field.is _ c.onward_at-in_default-said_at.ensures

pub onward_at-requires-in_default-field_step : goal.onward_at-requires-in_default-field_step
onward_at-requires-in_default-field_step c = entered-few c.args.mode c.args.src.now c.args.d c.requires c.args.rows.now c.loop-st.st c.loop-st.here c.loop-st.ring c.loop-st.k c.loop-st.rows c.loop-st.invariant

pub shape_of-rows-in_default-field_step : goal.shape_of-rows-in_default-field_step
shape_of-rows-in_default-field_step c = c.loop-st.invariant.kept

pub returns-in_default-field_step : goal.returns-in_default-field_step
returns-in_default-field_step c = entered_at c.args.mode c.args.src.now c.args.d c.requires c.args.rows.now c.loop-st.st c.loop-st.here c.loop-st.ring c.loop-st.k c.loop-st.rows c.loop-st.invariant _ _ _ c.in-Field.is _ c.onward_at-in_default-field_step.ensures

pub overflow_add-row : goal.overflow_add-row
overflow_add-row c = omega (arith, c.requires.small, c.requires.here, c.requires.rows, c.in-Some.ensures.cell)

pub put_field-requires : goal.put_field-requires
put_field-requires c = (omega (arith, c.loop-st.invariant.kept, (c.is_begun.ensures (not-false _ (ap not c.if-not-is_begun.false))).0, (c.is_begun.ensures (not-false _ (ap not c.if-not-is_begun.false))).1, c.in-Some.ensures.cell), (entered-inside c.args.mode c.args.src.now c.args.d c.requires c.args.rows.now c.loop-st.st c.loop-st.here c.loop-st.ring c.loop-st.k c.loop-st.rows c.loop-st.invariant c.in-Some.said _ c.in-Some.ensures).2)

pub overflow_add-here : goal.overflow_add-here
overflow_add-here c = omega (arith, (entered-inside c.args.mode c.args.src.now c.args.d c.requires c.args.rows.now c.loop-st.st c.loop-st.here c.loop-st.ring c.loop-st.k c.loop-st.rows c.loop-st.invariant c.in-Some.said _ c.in-Some.ensures).1, c.requires.small)

pub overflow_add-k : goal.overflow_add-k
overflow_add-k c = omega (arith, c.loop-st.invariant.far, c.loop-st.invariant.inside, c.requires.small)

pub loop-st-smaller : goal.loop-st-smaller
loop-st-smaller c = let b = entered-inside c.args.mode c.args.src.now c.args.d c.requires c.args.rows.now c.loop-st.st c.loop-st.here c.loop-st.ring c.loop-st.k c.loop-st.rows c.loop-st.invariant c.in-Some.said _ c.in-Some.ensures in omega (arith, b.0, b.1)

pub loop-st-preserved : goal.loop-st-preserved
loop-st-preserved c = entered_on c.args.mode c.args.src.now c.args.d c.requires c.args.rows.now c.loop-st.st c.loop-st.here c.loop-st.ring c.loop-st.k c.loop-st.rows c.loop-st.invariant c.in-Some.said _ c.in-Some.ensures _ _ c.in-Field.is c.field_step.result c.field_step.ensures _ (c.in-Ok-Some.is ∙ ap Ok c.in-Ok-Some.field-0-is) _ c.put_field.ensures
