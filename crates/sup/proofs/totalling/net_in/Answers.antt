-- `net_in` meets its contract: two figures of a tally differ by less than the limit. Assumes nothing.
use Prim.Native.Nat.{◌+◌, ◌*◌}
use Rattle.tally.proofs.TallyWays.{tally-at}
use Rattle.sup.proofs.TotalWays.{net-asks, net-is}
use Rattle.sup.proofs.totalling.net_in.Goals as goal

pub overflow_sub-result : goal.overflow_sub-result
overflow_sub-result c = net-asks _ _ (tally-at c.args.figures.now (4 * c.args.k + 1) c.requires.0.each) (tally-at c.args.figures.now (4 * c.args.k + 3) c.requires.0.each)

pub returns : goal.returns
returns c = net-is _ _ (tally-at c.args.figures.now (4 * c.args.k + 1) c.requires.0.each) (tally-at c.args.figures.now (4 * c.args.k + 3) c.requires.0.each)
