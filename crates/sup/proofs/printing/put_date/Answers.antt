-- `put_date` meets its contract: left field, two blanks, the date, line end. Assumes nothing.
use Rattle.sup.proofs.LineWays.{date-left, date-done}
use Rattle.sup.proofs.printing.put_date.Goals as goal

pub put_left-left_end-requires : goal.put_left-left_end-requires
put_left-left_end-requires c = (c.requires.0, date-left c.args.out.now _ _ c.requires.1 c.requires.2)

pub returns : goal.returns
returns c = date-done _ _ _ c.requires.1 c.requires.2 c.put_left-left_end.ensures c.put_bytes-blanks_end.ensures c.put_bytes-date_end.ensures c.put_bytes.ensures
