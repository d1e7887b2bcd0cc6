-- `reader::head_into` meets its contract. Assumes nothing.
use Rattle.reader.proofs.RowLoops.{stored-head}
use Rattle.reader.proofs.heads.head_into.Goals as goal

pub returns : goal.returns
returns c =
    let stored = stored-head c.args.h c.args.src.now _ c.args.a.letters _ _ _ _ c.args.letters.now _ c.put_row.ensures c.numbers_into.ensures c.put_letters.ensures
    in record { rows_after = stored.0; letters_after = stored.1 }
