-- `reader::islands_into` meets its contract. Assumes nothing.
use Rattle.std.specs.Prelude.{Ok}
use mathlib.Core.Path.{ap, ◌∙◌}
use Rattle.reader.proofs.RingLaws.{counting-start, counting-few, counting-is, counting-at, count-inside, counting-on}
use native.Mathlib.Omega.{arith}
use Rattle.reader.proofs.ring_runs.islands_into.Goals as goal

pub loop-st-init : goal.loop-st-init
loop-st-init c = counting-start c.args.mode c.args.src.now c.args.d c.requires c.args.islands.now

pub past_islands-requires : goal.past_islands-requires
past_islands-requires c = counting-few c.args.mode c.args.src.now c.args.d c.requires c.args.islands.now c.loop-st.st c.loop-st.here c.loop-st.k c.loop-st.islands c.loop-st.invariant

pub shape_of-islands-in_default : goal.shape_of-islands-in_default
shape_of-islands-in_default c = c.loop-st.invariant.kept

pub returns-in_default : goal.returns-in_default
returns-in_default c = counting-is c.args.mode c.args.src.now c.args.d c.requires c.args.islands.now c.loop-st.st c.loop-st.here c.loop-st.k c.loop-st.islands c.loop-st.invariant _ c.past_islands.ensures

pub size_at-size-requires : goal.size_at-size-requires
size_at-size-requires c = c.loop-st.invariant.inside

pub past_islands-requires-then-width-eq0 : goal.past_islands-requires-then-width-eq0
past_islands-requires-then-width-eq0 c = counting-few c.args.mode c.args.src.now c.args.d c.requires c.args.islands.now c.loop-st.st c.loop-st.here c.loop-st.k c.loop-st.islands c.loop-st.invariant

pub shape_of-islands-then-width-eq0 : goal.shape_of-islands-then-width-eq0
shape_of-islands-then-width-eq0 c = c.loop-st.invariant.kept

pub returns-then-width-eq0 : goal.returns-then-width-eq0
returns-then-width-eq0 c = counting-at c.args.mode c.args.src.now c.args.d c.requires c.args.islands.now c.loop-st.st c.loop-st.here c.loop-st.k c.loop-st.islands c.loop-st.invariant _ _ _ c.in-Island.is _ c.past_islands-then-width-eq0.ensures

pub past_islands-requires-in_default-step_at : goal.past_islands-requires-in_default-step_at
past_islands-requires-in_default-step_at c = counting-few c.args.mode c.args.src.now c.args.d c.requires c.args.islands.now c.loop-st.st c.loop-st.here c.loop-st.k c.loop-st.islands c.loop-st.invariant

pub shape_of-islands-in_default-step_at : goal.shape_of-islands-in_default-step_at
shape_of-islands-in_default-step_at c = c.loop-st.invariant.kept

pub returns-in_default-step_at : goal.returns-in_default-step_at
returns-in_default-step_at c = counting-at c.args.mode c.args.src.now c.args.d c.requires c.args.islands.now c.loop-st.st c.loop-st.here c.loop-st.k c.loop-st.islands c.loop-st.invariant _ _ _ c.in-Island.is _ c.past_islands-in_default-step_at.ensures

pub overflow_add-cell : goal.overflow_add-cell
overflow_add-cell c = omega (arith, counting-few c.args.mode c.args.src.now c.args.d c.requires c.args.islands.now c.loop-st.st c.loop-st.here c.loop-st.k c.loop-st.islands c.loop-st.invariant)

pub past_islands-requires-then-cell-islands : goal.past_islands-requires-then-cell-islands
past_islands-requires-then-cell-islands c = counting-few c.args.mode c.args.src.now c.args.d c.requires c.args.islands.now c.loop-st.st c.loop-st.here c.loop-st.k c.loop-st.islands c.loop-st.invariant

pub shape_of-islands-then-cell-islands : goal.shape_of-islands-then-cell-islands
shape_of-islands-then-cell-islands c = c.loop-st.invariant.kept

pub returns-then-cell-islands : goal.returns-then-cell-islands
returns-then-cell-islands c = counting-at c.args.mode c.args.src.now c.args.d c.requires c.args.islands.now c.loop-st.st c.loop-st.here c.loop-st.k c.loop-st.islands c.loop-st.invariant _ _ _ c.in-Island.is _ c.past_islands-then-cell-islands.ensures

pub put_island-requires : goal.put_island-requires
put_island-requires c = (omega (arith, c.if-cell-islands.false, c.loop-st.invariant.kept), omega (arith, count-inside c.args.mode c.args.src.now c.args.d c.requires c.args.islands.now c.loop-st.st c.loop-st.here c.loop-st.k c.loop-st.islands c.loop-st.invariant c.size_at-size.result c.size_at-size.ensures c.if-width-eq0.false))

pub overflow_add-here : goal.overflow_add-here
overflow_add-here c = omega (arith, count-inside c.args.mode c.args.src.now c.args.d c.requires c.args.islands.now c.loop-st.st c.loop-st.here c.loop-st.k c.loop-st.islands c.loop-st.invariant c.size_at-size.result c.size_at-size.ensures c.if-width-eq0.false, c.requires.small)

pub overflow_add-k : goal.overflow_add-k
overflow_add-k c = omega (arith, c.loop-st.invariant.far, c.loop-st.invariant.inside, c.requires.small)

pub loop-st-smaller : goal.loop-st-smaller
loop-st-smaller c = omega (arith, count-inside c.args.mode c.args.src.now c.args.d c.requires c.args.islands.now c.loop-st.st c.loop-st.here c.loop-st.k c.loop-st.islands c.loop-st.invariant c.size_at-size.result c.size_at-size.ensures c.if-width-eq0.false)

pub loop-st-preserved : goal.loop-st-preserved
loop-st-preserved c = counting-on c.args.mode c.args.src.now c.args.d c.requires c.args.islands.now c.loop-st.st c.loop-st.here c.loop-st.k c.loop-st.islands c.loop-st.invariant c.size_at-size.result c.size_at-size.ensures c.if-width-eq0.false _ _ _ c.in-Island.is c.step_at.result c.step_at.ensures _ (c.in-Ok-Some.is ∙ ap Ok c.in-Ok-Some.field-0-is) _ c.put_island.ensures
