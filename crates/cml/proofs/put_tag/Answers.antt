-- `put_tag` meets its contract: its parts one behind the other. Assumes nothing.
use Rattle.cml.proofs.LineWays.{opening-room, tag-put}
use Rattle.cml.proofs.put_tag.Goals as goal

pub put_opening-opening_end-requires : goal.put_opening-opening_end-requires
put_opening-opening_end-requires c = opening-room c.args.outside c.args.code c.args.n c.args.out.now c.args.at c.requires

pub returns : goal.returns
returns c =
    tag-put c.args.outside c.args.code c.args.n c.args.out.now c.args.at c.requires c.put_opening-opening_end.ensures c.put_count-code_end.ensures
    c.put_bytes-word_end.ensures c.put_count-count_end.ensures c.put_bytes.ensures
