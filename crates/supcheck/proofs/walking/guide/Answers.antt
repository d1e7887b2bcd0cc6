-- `guide` goes through: it promises nothing, as no window depends on its guide. Assumes nothing.
use native.Mathlib.Omega.{arith}
use lib.ListN.{length-take}
use Rattle.supcheck.proofs.walking.guide.Goals as goal

pub slice_bounds-result-end-2 : goal.slice_bounds-result-end-2
slice_bounds-result-end-2 c = omega (arith, length-take 11 c.line_from-line.result.now, c.if-line-lt-NAME_WIDTH.false)
