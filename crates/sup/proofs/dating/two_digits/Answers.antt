-- `two_digits` meets its contract: a byte is below 256. Assumes nothing.
use Prim.Native.Nat.{◌+◌}
use native.Mathlib.Omega.{arith}
use Rattle.sup.proofs.dating.two_digits.Goals as goal

pub overflow_mul-result : goal.overflow_mul-result
overflow_mul-result c = omega (arith, c.shared_slice_known-2-1.given c.args.i)

pub overflow_add-result : goal.overflow_add-result
overflow_add-result c = omega (arith, c.shared_slice_known-2-1.given c.args.i, c.shared_slice_known-2-1.given (c.args.i + 1))
