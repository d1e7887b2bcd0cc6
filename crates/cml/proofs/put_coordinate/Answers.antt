-- `put_coordinate` meets its contract: what stands before it, and the number. Assumes nothing.
use Rattle.cml.proofs.PairWays.{before-room, coordinate-put}
use Rattle.cml.proofs.put_coordinate.Goals as goal

pub put_mark-mark_end-requires : goal.put_mark-mark_end-requires
put_mark-mark_end-requires c = before-room c.args.out.now c.args.at c.args.j c.args.value c.requires.0 c.requires.1

pub returns : goal.returns
returns c = coordinate-put c.args.out.now c.args.at c.args.j c.args.value c.requires.0 c.requires.1 c.put_mark-mark_end.ensures c.put_bare.ensures
