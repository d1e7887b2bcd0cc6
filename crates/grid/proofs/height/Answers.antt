-- `grid::height` meets its contract. Assumes nothing.
use native.Mathlib.Omega.{arith}
use Prim.Native.Nat.{ℕ, ◌+◌, ◌*◌, ◌≤◌, ◌<◌}
use native.Mathlib.Nat.{mul-le-mul}
use mir.Facts.{to_z_pos}
use mir.Syntax.{w64}
use Rattle.grid.proofs.height.Goals as goal

small : (r cell : ℕ) → r < 64 → cell ≤ 10000 → (2 * r + 1) * cell ≤ 1290000
small r cell h k = let j : 2 * r + 1 ≤ 129 = omega arith in let g : (2 * r + 1) * cell ≤ 129 * 10000 = mul-le-mul j k in g

pub overflow_mul-result-2 : goal.overflow_mul-result-2
overflow_mul-result-2 c = record { fits = omega (arith, small c.args.r c.args.cell c.requires.1 c.requires.0) }

pub overflow_cast-result : goal.overflow_cast-result
overflow_cast-result c = record { sfits = omega (arith, small c.args.r c.args.cell c.requires.1 c.requires.0) }

pub returns : goal.returns
returns c = to_z_pos w64 (omega (arith, small c.args.r c.args.cell c.requires.1 c.requires.0))
