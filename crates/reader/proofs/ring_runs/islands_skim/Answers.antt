-- `reader::islands_skim` meets its contract. Assumes nothing.
use Rattle.std.specs.Prelude.{Ok}
use mathlib.Core.Path.{ap, ◌∙◌}
use Rattle.reader.proofs.RingLaws.{counted_start, counted-few, counted_is, counted-at, said_in, counted-on}
use native.Mathlib.Omega.{arith}
use Rattle.reader.proofs.ring_runs.islands_skim.Goals as goal

pub loop-st-init : goal.loop-st-init
loop-st-init c = counted_start c.args.mode c.args.src.now c.args.d c.requires

pub past_islands-requires : goal.past_islands-requires
past_islands-requires c = counted-few c.args.mode c.args.src.now c.args.d c.requires c.loop-st.st c.loop-st.here c.loop-st.k c.loop-st.invariant

pub returns-in_default : goal.returns-in_default
returns-in_default c = counted_is c.args.mode c.args.src.now c.args.d c.requires c.loop-st.st c.loop-st.here c.loop-st.k c.loop-st.invariant _ c.past_islands.ensures

pub size_at-size-requires : goal.size_at-size-requires
size_at-size-requires c = c.loop-st.invariant.inside

pub past_islands-requires-then-width-eq0 : goal.past_islands-requires-then-width-eq0
past_islands-requires-then-width-eq0 c = counted-few c.args.mode c.args.src.now c.args.d c.requires c.loop-st.st c.loop-st.here c.loop-st.k c.loop-st.invariant

pub returns-then-width-eq0 : goal.returns-then-width-eq0
returns-then-width-eq0 c = counted-at c.args.mode c.args.src.now c.args.d c.requires c.loop-st.st c.loop-st.here c.loop-st.k c.loop-st.invariant _ _ _ c.in-Island.is _ c.past_islands-then-width-eq0.ensures

pub past_islands-requires-in_default-step_at : goal.past_islands-requires-in_default-step_at
past_islands-requires-in_default-step_at c = counted-few c.args.mode c.args.src.now c.args.d c.requires c.loop-st.st c.loop-st.here c.loop-st.k c.loop-st.invariant

pub returns-in_default-step_at : goal.returns-in_default-step_at
returns-in_default-step_at c = counted-at c.args.mode c.args.src.now c.args.d c.requires c.loop-st.st c.loop-st.here c.loop-st.k c.loop-st.invariant _ _ _ c.in-Island.is _ c.past_islands-in_default-step_at.ensures

pub overflow_add-here : goal.overflow_add-here
overflow_add-here c = omega (arith, said_in c.args.mode c.args.src.now c.args.d c.requires c.loop-st.st c.loop-st.here c.loop-st.k c.loop-st.invariant c.size_at-size.result c.size_at-size.ensures c.if-width-eq0.false, c.requires.small)

pub overflow_add-k : goal.overflow_add-k
overflow_add-k c = omega (arith, c.loop-st.invariant.far, c.loop-st.invariant.inside, c.requires.small)

pub loop-st-smaller : goal.loop-st-smaller
loop-st-smaller c = omega (arith, said_in c.args.mode c.args.src.now c.args.d c.requires c.loop-st.st c.loop-st.here c.loop-st.k c.loop-st.invariant c.size_at-size.result c.size_at-size.ensures c.if-width-eq0.false)

pub loop-st-preserved : goal.loop-st-preserved
loop-st-preserved c = counted-on c.args.mode c.args.src.now c.args.d c.requires c.loop-st.st c.loop-st.here c.loop-st.k c.loop-st.invariant c.size_at-size.result c.size_at-size.ensures c.if-width-eq0.false _ _ _ c.in-Island.is c.step_at.result c.step_at.ensures _ (c.in-Ok-Some.is ∙ ap Ok c.in-Ok-Some.field-0-is)
