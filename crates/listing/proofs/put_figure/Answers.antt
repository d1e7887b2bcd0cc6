-- `put_figure` meets its contract: a blank, and the digits behind it. Assumes nothing.
use Rattle.listing.proofs.LineWays.{figure-put}
use Rattle.listing.proofs.put_figure.Goals as goal

pub returns : goal.returns
returns c =
    figure-put c.args.out.now c.args.at c.args.n c.requires c.put_bytes-next.ensures c.put_count.ensures
