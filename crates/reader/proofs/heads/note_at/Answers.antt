-- `reader::note_at` meets its contract. Assumes nothing.
use native.Mathlib.Omega.{arith}
use Rattle.quick.proofs.Places.{real-inside}
use Rattle.reader.proofs.HeadTurns.{key-inside}
use Rattle.reader.proofs.HeadTrust.{note-trust, note-read}
use Rattle.reader.proofs.heads.note_at.Goals as goal

pub overflow_add-word : goal.overflow_add-word
overflow_add-word c = omega (arith, (key-inside c.requires.key_says.0).1)

pub angle_at-requires : goal.angle_at-requires
angle_at-requires c = λ b x. (note-trust c.args.mode c.args.src.now c.args.at c.args.key.width c.args.key.token c.requires.key_says.0 c.args.judged c.requires.vouched.0 b x c.requires.key_says.1 c.in_ok-lead.ensures).angle

pub overflow_add-lead : goal.overflow_add-lead
overflow_add-lead c = omega (arith, (real-inside c.in_ok-a.ensures).1)

pub point_at-requires : goal.point_at-requires
point_at-requires c = record { at_in_bounds = ((real-inside c.in_ok-a.ensures).1, c.requires.vouched.1); usual = λ b x. (note-trust c.args.mode c.args.src.now c.args.at c.args.key.width c.args.key.token c.requires.key_says.0 c.args.judged c.requires.vouched.0 b x c.requires.key_says.1 c.in_ok-lead.ensures).points c.in_ok-a.ensures }

pub returns : goal.returns
returns c = note-read c.args.mode c.args.src.now c.args.at c.args.key.width c.args.key.token c.requires.key_says.0 c.args.judged c.requires.key_says.1 c.in_ok-lead.ensures c.in_ok-a.ensures c.in_ok-p.ensures
