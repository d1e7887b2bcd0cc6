-- `put_refused` meets its contract: one line. Assumes nothing.
use Rattle.listing.proofs.LineWays.{refused-room}
use Rattle.listing.specs.Listing.{refused_line}
use Rattle.listing.proofs.put_refused.Goals as goal

pub put_line-requires : goal.put_line-requires
put_line-requires c = refused-room c.args.number c.args.place c.args.offset c.args.column _ c.requires

pub returns : goal.returns
unfolding refused_line
returns c = c.put_line.ensures
