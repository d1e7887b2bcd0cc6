-- `parts_allowed` meets its contract: the sum of four figures that are cut off fits. Assumes nothing.
use mathlib.Core.Path.{refl, ◌∙◌}
use Rattle.laws.proofs.Bits.{back}
use Rattle.tally.proofs.TallyWays.{tally-at}
use Rattle.supcheck.proofs.AllowingWays.{allowed-union, allowed-parts, cut_holds, sum_first, sum-second, sum-third, sum_is}
use Rattle.supcheck.proofs.allowing.parts_allowed.Goals as goal

pub returns-then-kind-eq-UNION : goal.returns-then-kind-eq-UNION
returns-then-kind-eq-UNION c = back _ c.result-1.given ∙ (allowed-union _ c.args.figures.now c.if-kind-eq-UNION.true _ refl).0

pub overflow_add-result : goal.overflow_add-result
overflow_add-result c = sum_first (cut_holds _ (tally-at c.args.figures.now 20 c.requires.each) _ c.lower-parcels.ensures) (cut_holds _ (tally-at c.args.figures.now 8 c.requires.each) _ c.lower-roads.ensures) (cut_holds _ (tally-at c.args.figures.now 12 c.requires.each) _ c.lower-waters.ensures) (cut_holds _ (tally-at c.args.figures.now 2 c.requires.each) _ c.lower-insets.ensures)

pub overflow_add-result-2 : goal.overflow_add-result-2
overflow_add-result-2 c = sum-second (cut_holds _ (tally-at c.args.figures.now 20 c.requires.each) _ c.lower-parcels.ensures) (cut_holds _ (tally-at c.args.figures.now 8 c.requires.each) _ c.lower-roads.ensures) (cut_holds _ (tally-at c.args.figures.now 12 c.requires.each) _ c.lower-waters.ensures) (cut_holds _ (tally-at c.args.figures.now 2 c.requires.each) _ c.lower-insets.ensures)

pub overflow_add-result-3 : goal.overflow_add-result-3
overflow_add-result-3 c = sum-third (cut_holds _ (tally-at c.args.figures.now 20 c.requires.each) _ c.lower-parcels.ensures) (cut_holds _ (tally-at c.args.figures.now 8 c.requires.each) _ c.lower-roads.ensures) (cut_holds _ (tally-at c.args.figures.now 12 c.requires.each) _ c.lower-waters.ensures) (cut_holds _ (tally-at c.args.figures.now 2 c.requires.each) _ c.lower-insets.ensures)

pub returns : goal.returns
returns c = allowed-parts _ c.args.figures.now c.if-kind-eq-UNION.false _ (sum_is (cut_holds _ (tally-at c.args.figures.now 20 c.requires.each) _ c.lower-parcels.ensures) (cut_holds _ (tally-at c.args.figures.now 8 c.requires.each) _ c.lower-roads.ensures) (cut_holds _ (tally-at c.args.figures.now 12 c.requires.each) _ c.lower-waters.ensures) (cut_holds _ (tally-at c.args.figures.now 2 c.requires.each) _ c.lower-insets.ensures))
