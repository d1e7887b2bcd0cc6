-- `put_listing` meets its contract: too long, or what the input reads as. Assumes nothing.
use Rattle.listing.proofs.ReadWays.{put_same, listing-long, listing-short, refused-fits}
use Rattle.listing.proofs.put_listing.Goals as goal

pub put_refused-requires : goal.put_refused-requires
put_refused-requires c = refused-fits _ 0 0 0 _ c.requires

pub returns-then-src-gt-INPUT_MOST : goal.returns-then-src-gt-INPUT_MOST
returns-then-src-gt-INPUT_MOST c = put_same (listing-long c.args.src.now c.if-src-gt-INPUT_MOST.true) (rw c.number.ensures at c.put_refused.ensures)

pub returns : goal.returns
returns c = put_same (listing-short c.args.src.now c.if-src-gt-INPUT_MOST.false) c.put_reading.ensures
