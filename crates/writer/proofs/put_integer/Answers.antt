-- `put_integer` meets its contract: the number is spelt in the part from `at` on, then CR LF. Assumes nothing.
use Rattle.writer.proofs.Putting.{stored_last, integer-line}
use Rattle.writer.proofs.put_integer.Goals as goal

pub returns : goal.returns
returns c = stored_last (integer-line c.args.out.now c.args.at c.args.n c.requires.0 c.requires.1 _ _ c.spell_integer.ensures.value c.spell_integer.ensures.out_after) c.put_bytes.ensures
