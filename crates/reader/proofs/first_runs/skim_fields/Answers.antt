-- `reader::skim_fields` meets its contract. Assumes nothing.
use Rattle.std.specs.Prelude.{Ok}
use mathlib.Core.Path.{ap, ◌∙◌}
use Rattle.reader.proofs.Fields.{walked_start, walked-few, walked-is, walked_at, said-inside, walked_on}
use native.Mathlib.Omega.{arith}
use Rattle.reader.proofs.first_runs.skim_fields.Goals as goal

pub loop-st-init : goal.loop-st-init
loop-st-init c = walked_start c.args.mode c.args.src.now c.args.d c.requires

pub onward_at-requires : goal.onward_at-requires
onward_at-requires c = walked-few c.args.mode c.args.src.now c.args.d c.requires c.loop-st.st c.loop-st.here c.loop-st.ring c.loop-st.k c.loop-st.invariant

pub returns-in_default : goal.returns-in_default
returns-in_default c = walked-is c.args.mode c.args.src.now c.args.d c.requires c.loop-st.st c.loop-st.here c.loop-st.ring c.loop-st.k c.loop-st.invariant _ c.onward_at.ensures

pub said_at-requires : goal.said_at-requires
said_at-requires c = c.loop-st.invariant.inside

pub onward_at-requires-in_default-said_at : goal.onward_at-requires-in_default-said_at
onward_at-requires-in_default-said_at c = walked-few c.args.mode c.args.src.now c.args.d c.requires c.loop-st.st c.loop-st.here c.loop-st.ring c.loop-st.k c.loop-st.invariant

pub returns-in_default-said_at : goal.returns-in_default-said_at
returns-in_default-said_at c = walked_at c.args.mode c.args.src.now c.args.d c.requires c.loop-st.st c.loop-st.here c.loop-st.ring c.loop-st.k c.loop-st.invariant _ _ _ c.in-Field.is _ c.onward_at-in_default-said_at.ensures

pub onward_at-requires-in_default-field_step : goal.onward_at-requires-in_default-field_step
onward_at-requires-in_default-field_step c = walked-few c.args.mode c.args.src.now c.args.d c.requires c.loop-st.st c.loop-st.here c.loop-st.ring c.loop-st.k c.loop-st.invariant

pub returns-in_default-field_step : goal.returns-in_default-field_step
returns-in_default-field_step c = walked_at c.args.mode c.args.src.now c.args.d c.requires c.loop-st.st c.loop-st.here c.loop-st.ring c.loop-st.k c.loop-st.invariant _ _ _ c.in-Field.is _ c.onward_at-in_default-field_step.ensures

pub overflow_add-here : goal.overflow_add-here
overflow_add-here c = omega (arith, (said-inside c.args.mode c.args.src.now c.args.d c.requires c.loop-st.st c.loop-st.here c.loop-st.ring c.loop-st.k c.loop-st.invariant _ _ _ c.in-Field.is c.in-Some.said c.in-Some.ensures).1, c.requires.small)

pub overflow_add-k : goal.overflow_add-k
overflow_add-k c = omega (arith, c.loop-st.invariant.far, c.loop-st.invariant.inside, c.requires.small)

pub loop-st-smaller : goal.loop-st-smaller
loop-st-smaller c = let b = said-inside c.args.mode c.args.src.now c.args.d c.requires c.loop-st.st c.loop-st.here c.loop-st.ring c.loop-st.k c.loop-st.invariant _ _ _ c.in-Field.is c.in-Some.said c.in-Some.ensures in omega (arith, b)

pub loop-st-preserved : goal.loop-st-preserved
loop-st-preserved c = walked_on c.args.mode c.args.src.now c.args.d c.requires c.loop-st.st c.loop-st.here c.loop-st.ring c.loop-st.k c.loop-st.invariant _ _ _ c.in-Field.is c.in-Some.said c.in-Some.ensures c.field_step.result c.field_step.ensures _ (c.in-Ok-Some.is ∙ ap Ok c.in-Ok-Some.field-0-is)
