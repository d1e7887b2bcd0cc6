-- `right_lines` meets its contract: the lines behind the walk are right. Assumes nothing.
use mathlib.Core.Bool.{not}
use mathlib.Core.Path.{◌≡◌, ap, ◌∙◌}
use lib.ListN.{length}
use native.Mathlib.Omega.{arith}
use Rattle.supcheck.proofs.WalkingWays.{righting-start, righting-end, righting-stop, righting-on}
use Rattle.supcheck.proofs.walking.right_lines.Goals as goal

pub loop-i-init : goal.loop-i-init
loop-i-init c = righting-start _ _ _ _ _

pub returns-then-not-is_right_line : goal.returns-then-not-is_right_line
returns-then-not-is_right_line c = righting-stop c.loop-i.invariant c.loop-i-test.true _ c.line_from.ensures c.is_right_line-arg-in-loop-i-1.given c.is_right_line-arg-in-loop-i-2-1.given _ c.is_right_line.ensures (ap not c.if-not-is_right_line.true)

pub loop-i-preserved : goal.loop-i-preserved
loop-i-preserved c = righting-on c.loop-i.invariant c.loop-i-test.true _ c.line_from.ensures c.is_right_line-arg-in-loop-i-1.given c.is_right_line-arg-in-loop-i-2-1.given _ c.is_right_line.ensures (ap not c.if-not-is_right_line.false)

pub returns : goal.returns
returns c = let e : length c.args.exact.now ≡ c.loop-i.i = omega (arith, c.loop-i-test.false, c.loop-i.invariant.within) in e ∙ righting-end c.loop-i.invariant c.loop-i-test.false
