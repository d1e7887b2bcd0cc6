-- `reader::sign_at` meets its contract. Assumes nothing.
use mathlib.Core.Bool.{not}
use mathlib.Core.Path.{ap}
use native.Mathlib.Omega.{arith}
use borrow.Author.Tests.{not-false}
use Rattle.quick.proofs.Places.{real-inside}
use Rattle.reader.proofs.HeadTurns.{key-inside, integer-inside}
use Rattle.reader.proofs.HeadTrust.{sign-trust, sign_read}
use Rattle.reader.proofs.heads.sign_at.Goals as goal

pub overflow_add-code : goal.overflow_add-code
overflow_add-code c = omega (arith, (key-inside c.requires.key_says.0).1)

pub overflow_add-angle : goal.overflow_add-angle
overflow_add-angle c = omega (arith, (integer-inside c.in_ok-n.ensures).1)

pub angle_at-requires : goal.angle_at-requires
angle_at-requires c = λ b x. (sign-trust c.args.mode c.args.src.now c.args.at c.args.key.width c.args.key.token c.requires.key_says.0 c.args.judged c.requires.vouched.0 b x c.requires.key_says.1 c.in_ok-n.ensures (c.is_taken.ensures (not-false _ (ap not c.if-not-is_taken.false)))).angle

pub overflow_add-angle-2 : goal.overflow_add-angle-2
overflow_add-angle-2 c = omega (arith, (real-inside c.in_ok-a.ensures).1)

pub point_at-requires : goal.point_at-requires
point_at-requires c = record { at_in_bounds = ((real-inside c.in_ok-a.ensures).1, c.requires.vouched.1); usual = λ b x. (sign-trust c.args.mode c.args.src.now c.args.at c.args.key.width c.args.key.token c.requires.key_says.0 c.args.judged c.requires.vouched.0 b x c.requires.key_says.1 c.in_ok-n.ensures (c.is_taken.ensures (not-false _ (ap not c.if-not-is_taken.false)))).points c.in_ok-a.ensures }

pub returns : goal.returns
returns c = sign_read c.args.mode c.args.src.now c.args.at c.args.key.width c.args.key.token c.requires.key_says.0 c.args.judged c.requires.key_says.1 c.in_ok-n.ensures (c.is_taken.ensures (not-false _ (ap not c.if-not-is_taken.false))) c.in_ok-a.ensures c.in_ok-p.ensures
