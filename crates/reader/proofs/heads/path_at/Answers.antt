-- `reader::path_at` meets its contract. Assumes nothing.
use mathlib.Core.Bool.{not}
use mathlib.Core.Path.{ap}
use native.Mathlib.Omega.{arith}
use borrow.Author.Tests.{not-false}
use Rattle.reader.proofs.HeadTurns.{key-inside, path-head}
use Rattle.reader.proofs.heads.path_at.Goals as goal

pub overflow_add-code : goal.overflow_add-code
overflow_add-code c = omega (arith, (key-inside c.requires.0).1)

pub returns : goal.returns
returns c = path-head c.args.mode c.args.src.now c.args.at c.args.key.width c.args.key.token c.requires.0 _ _ _ c.requires.1 c.in_ok-counts.ensures (c.is_taken.ensures (not-false _ (ap not c.if-not-is_taken.false))) (c.is_countable.ensures (not-false _ (ap not c.if-not-is_countable.false)))
