-- `edit::move_points` meets its contract: the loop's invariant is `Moving`. Assumes nothing.
use lib.IntN.{ℤ}
use mathlib.Core.Path.{◌≡◌}
use mathlib.Core.Bool.{true}
use native.Mathlib.Omega.{arith}
use Rattle.plane.specs.Moved.{moved}
use Rattle.made.specs.Made.{are_reals}
use Rattle.edit.proofs.PartWays.{unbits, tobits}
use Rattle.edit.proofs.PointMoves.{moving-none, moving-length, moving-all, moving-asks, moving-on}
use Rattle.edit.proofs.moving.move_points.Goals as goal

pub loop-k-init : goal.loop-k-init
loop-k-init c = moving-none _ _ _ _

pub overflow_mul-k : goal.overflow_mul-k
overflow_mul-k c = omega (arith, c.requires.0, c.loop-k-test.true)

pub shift_pair-requires : goal.shift_pair-requires
shift_pair-requires c = moving-asks _ _ _ _ _ _ c.loop-k.invariant c.requires.0 c.loop-k-test.true (tobits (λ (x y : ℤ). are_reals (moved x y c.args.s.now) ≡ true) c.ranges.dx c.ranges.dy c.requires.1)

pub loop-k-smaller : goal.loop-k-smaller
loop-k-smaller c = let h = c.loop-k-test.true in omega arith

pub loop-k-preserved : goal.loop-k-preserved
loop-k-preserved c = moving-on _ _ _ _ _ _ c.loop-k.invariant c.requires.0 c.loop-k-test.true _ c.shift_pair.ensures

pub shape_of-s : goal.shape_of-s
shape_of-s c = moving-length _ _ _ _ _ _ c.loop-k.invariant c.requires.0

pub returns : goal.returns
returns c = unbits (λ (x y : ℤ). c.loop-k.s ≡ moved x y c.args.s.now) c.ranges.dx c.ranges.dy (moving-all _ _ _ _ _ _ c.loop-k.invariant c.requires.0 c.loop-k-test.false)
