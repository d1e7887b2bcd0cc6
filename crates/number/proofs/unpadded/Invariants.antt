-- `number::unpadded` drops the blanks at the end. Assumes nothing.
use Rattle.std.proofs.Common.{◌≡◌, length}
use Rattle.laws.specs.Lists.{kept}
use Rattle.number.specs.Words.{blank}
use Rattle.number.proofs.unpadded.Given as goal

abbrev pub invariant-loop-left : goal.invariant-loop-left
invariant-loop-left l = kept blank l.s ≡ kept blank l.left

abbrev pub decreases-loop-left : goal.decreases-loop-left
decreases-loop-left l = length l.left
