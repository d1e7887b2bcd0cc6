-- `put_class` meets its contract: the word and the four figures are those of the class. Assumes nothing.
use Rattle.listing.specs.Listing.{word_line}
use Rattle.listing.proofs.LineWays.{line-room, line-put, four_is}
use Rattle.listing.proofs.put_class.Goals as goal

pub put_line-requires : goal.put_line-requires
put_line-requires c = rw c.class_word.ensures (line-room _ (four_is c.args.tally.now c.args.k _ _ _ _ c.count_at.ensures c.count_at-2.ensures c.count_at-3.ensures c.count_at-4.ensures) c.args.at _ c.requires.1)

pub returns : goal.returns
returns c = rw c.class_word.ensures at (line-put c.class_word.result.now (four_is c.args.tally.now c.args.k _ _ _ _ c.count_at.ensures c.count_at-2.ensures c.count_at-3.ensures c.count_at-4.ensures) c.put_line.ensures)
