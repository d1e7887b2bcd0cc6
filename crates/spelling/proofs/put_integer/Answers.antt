-- `put_integer` meets its contract: digits at the end of blanks.
use Rattle.spelling.proofs.Ways.{integer-made}
use Rattle.spelling.proofs.put_integer.Goals as goal

pub returns : goal.returns
returns c =
    integer-made c.args.value c.put_digits.result c.args.out.now _
    (rw c.copy.ensures at c.put_digits.ensures)
