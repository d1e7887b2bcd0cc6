-- `put_real` meets its contract: the number is spelt in the part from `at` on, then CR LF. Assumes nothing.
use Rattle.writer.proofs.Putting.{stored_last, real-line}
use Rattle.writer.proofs.put_real.Goals as goal

pub returns : goal.returns
returns c = stored_last (real-line c.args.z c.requires.0 c.args.out.now c.args.at c.requires.1 _ _ c.spell_real.ensures.value c.spell_real.ensures.out_after) c.put_bytes.ensures
