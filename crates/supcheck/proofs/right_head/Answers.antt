-- `right_head` meets its contract: the lines that the code has are those that are due. Assumes nothing.
use Rattle.supcheck.proofs.AllowingWays.{head-known}
use Rattle.supcheck.proofs.right_head.Goals as goal

pub returns : goal.returns
returns c = head-known c.args.figures.now c.requires.0 c.args.s.now c.args.areas.now c.requires.2 _ _ c.head_exact-exact.ensures c.head_allowed-allowed.ensures _ c.right_lines.ensures
