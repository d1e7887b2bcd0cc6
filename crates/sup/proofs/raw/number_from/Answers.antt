-- `number_from` meets its contract: five bytes make less than 2^40. Assumes nothing.
use Prim.Native.Nat.{◌+◌}
use native.Mathlib.Omega.{arith}
use Rattle.sup.proofs.RawWays.{number_is, number-most}
use Rattle.sup.proofs.raw.number_from.Goals as goal

pub overflow_cast-first : goal.overflow_cast-first
overflow_cast-first c = omega (arith, c.shared_slice_known-1.given c.args.at)

pub overflow_cast-second : goal.overflow_cast-second
overflow_cast-second c = omega (arith, c.shared_slice_known-2-1.given (c.args.at + 1))

pub overflow_cast-third : goal.overflow_cast-third
overflow_cast-third c = omega (arith, c.shared_slice_known-3-1.given (c.args.at + 2))

pub overflow_cast-fourth : goal.overflow_cast-fourth
overflow_cast-fourth c = omega (arith, c.shared_slice_known-4-1.given (c.args.at + 3))

pub overflow_cast-fifth : goal.overflow_cast-fifth
overflow_cast-fifth c = omega (arith, c.shared_slice_known-5-1.given (c.args.at + 4))

pub overflow_mul-result : goal.overflow_mul-result
overflow_mul-result c = let k = c.shared_slice_known-5-1.given in let at = c.args.at in omega (arith, k at, k (at + 1), k (at + 2), k (at + 3), k (at + 4))

pub overflow_add-result : goal.overflow_add-result
overflow_add-result c = let k = c.shared_slice_known-5-1.given in let at = c.args.at in omega (arith, k at, k (at + 1), k (at + 2), k (at + 3), k (at + 4))

pub overflow_mul-result-2 : goal.overflow_mul-result-2
overflow_mul-result-2 c = let k = c.shared_slice_known-5-1.given in let at = c.args.at in omega (arith, k at, k (at + 1), k (at + 2), k (at + 3), k (at + 4))

pub overflow_add-result-2 : goal.overflow_add-result-2
overflow_add-result-2 c = let k = c.shared_slice_known-5-1.given in let at = c.args.at in omega (arith, k at, k (at + 1), k (at + 2), k (at + 3), k (at + 4))

pub overflow_mul-result-3 : goal.overflow_mul-result-3
overflow_mul-result-3 c = let k = c.shared_slice_known-5-1.given in let at = c.args.at in omega (arith, k at, k (at + 1), k (at + 2), k (at + 3), k (at + 4))

pub overflow_add-result-3 : goal.overflow_add-result-3
overflow_add-result-3 c = let k = c.shared_slice_known-5-1.given in let at = c.args.at in omega (arith, k at, k (at + 1), k (at + 2), k (at + 3), k (at + 4))

pub overflow_mul-result-4 : goal.overflow_mul-result-4
overflow_mul-result-4 c = let k = c.shared_slice_known-5-1.given in let at = c.args.at in omega (arith, k at, k (at + 1), k (at + 2), k (at + 3), k (at + 4))

pub overflow_add-result-4 : goal.overflow_add-result-4
overflow_add-result-4 c = let k = c.shared_slice_known-5-1.given in let at = c.args.at in omega (arith, k at, k (at + 1), k (at + 2), k (at + 3), k (at + 4))

pub returns : goal.returns
returns c = let k = c.shared_slice_known-5-1.given in (number_is c.args.s.now c.args.at (λ i. omega (arith, k i)), number-most c.args.s.now c.args.at (λ i. omega (arith, k i)))
