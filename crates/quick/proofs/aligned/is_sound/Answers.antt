-- `quick::is_sound` meets its contract: blanks, a sign and figures that are an exact real, whatever its value. Assumes nothing.
use mathlib.Core.Bool.{not}
use mathlib.Core.Path.{ap}
use Rattle.quick.proofs.Twelve.{figured-is}
use Rattle.quick.proofs.aligned.is_sound.Goals as goal

pub is_led-requires : goal.is_led-requires
is_led-requires c = (c.if-c-ne12.false, c.if-c-ne46.false, figured-is c.args.c.now c.start_of-d.result c.is_lean.result c.are_three.result c.if-c-ne12.false c.if-c-ne46.false c.start_of-d.ensures c.if-d-gt7.false c.is_lean.ensures (ap not c.if-not-is_lean.false) c.are_three.ensures (ap not c.if-not-are_three.false))
