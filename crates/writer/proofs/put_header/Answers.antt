-- `put_header` meets its contract: first word, name, scale, each behind the last. Assumes nothing.
use Rattle.writer.proofs.Putting.{putting-last, real-asked, real-put}
use Rattle.heading.proofs.HeadingLaws.{header_is}
use Rattle.writer.proofs.HeaderWays.{first-room, name-room, name-put}
use Rattle.writer.proofs.put_header.Goals as goal

pub put_first-first_end-requires : goal.put_first-first_end-requires
put_first-first_end-requires c = ((header_is c.args.header c.requires.0).low, (header_is c.args.header c.requires.0).high, first-room c.args.header c.args.out.now c.args.at c.requires.1)

pub put_line-name_end-requires : goal.put_line-name_end-requires
put_line-name_end-requires c = name-room c.args.header c.args.out.now c.args.at c.requires.1 c.put_first-first_end.ensures

pub put_real-requires : goal.put_real-requires
put_real-requires c = real-asked c.args.header.scale (header_is c.args.header c.requires.0).real c.put_line-name_end.result _ (name-put c.args.header c.args.out.now c.args.at c.requires.1 c.put_first-first_end.ensures c.put_line-name_end.ensures).room

pub returns : goal.returns
returns c = putting-last (name-put c.args.header c.args.out.now c.args.at c.requires.1 c.put_first-first_end.ensures c.put_line-name_end.ensures) (real-put c.args.header.scale (header_is c.args.header c.requires.0).real c.put_real.ensures)
