-- `quick::integers::noted_body` meets its contract. Assumes nothing.
use mathlib.Core.Bool.{not}
use mathlib.Core.Path.{ap}
use Rattle.quick.proofs.LooseIntegers.{body-noted}
use Rattle.quick.proofs.integers.noted_body.Goals as goal

pub returns : goal.returns
returns c = body-noted c.args.mode c.args.t.now c.loose_body-e.result.len c.loose_body-e.result.value c.loose_body-e.ensures c.if-e-lt1.false c.is_former.result c.is_former.ensures (ap not c.if-not-is_former.false) c.if-t-e-ne32.false c.note_run.result c.note_run.ensures.0 c.if-f-t.false
