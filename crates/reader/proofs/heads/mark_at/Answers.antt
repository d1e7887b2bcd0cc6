-- `reader::mark_at` meets its contract. Assumes nothing.
use mathlib.Core.Bool.{not}
use mathlib.Core.Path.{ap}
use native.Mathlib.Omega.{arith}
use borrow.Author.Tests.{not-false}
use Rattle.reader.proofs.HeadTurns.{key-inside, lead-inside}
use Rattle.reader.proofs.HeadTrust.{mark-trust, mark-read}
use Rattle.reader.proofs.heads.mark_at.Goals as goal

pub overflow_add-word : goal.overflow_add-word
overflow_add-word c = omega (arith, (key-inside c.requires.key_says.0).1)

pub points_at-requires : goal.points_at-requires
points_at-requires c = record { at_in_bounds = (lead-inside c.in_ok-lead.ensures, c.requires.vouched.1); usual = λ b x. mark-trust c.args.mode c.args.src.now c.args.at c.args.key.width c.args.key.token c.requires.key_says.0 c.args.judged c.requires.vouched.0 b x c.requires.key_says.1 c.in_ok-lead.ensures (c.is_taken.ensures (not-false _ (ap not c.if-not-is_taken.false))) }

pub returns : goal.returns
returns c = mark-read c.args.mode c.args.src.now c.args.at c.args.key.width c.args.key.token c.requires.key_says.0 c.args.judged c.requires.key_says.1 c.in_ok-lead.ensures (c.is_taken.ensures (not-false _ (ap not c.if-not-is_taken.false))) c.in_ok-p.ensures
