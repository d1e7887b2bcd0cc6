-- `grid::west_bits` meets its contract. Assumes nothing.
use native.Mathlib.Nat.{div-le_self}
use Prim.Native.Nat.{◌^◌}
use Rattle.grid.proofs.CentreWays.{west-some, west-all}
use Rattle.grid.proofs.west_bits.Goals as goal

pub overflow_sub-result : goal.overflow_sub-result
overflow_sub-result c = div-le_self 18446744073709551615 (2 ^ c.args.k)

pub returns-then-k-lt-SIDE : goal.returns-then-k-lt-SIDE
returns-then-k-lt-SIDE c = west-some c.args.k c.if-k-lt-SIDE.true

pub returns : goal.returns
returns c = west-all c.args.k c.if-k-lt-SIDE.false c.requires
