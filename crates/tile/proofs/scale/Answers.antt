-- `tile::scale` meets its contract: the difference is a float, and the code's 256.0 is the definition's.
use mathlib.Core.Path.{sym, subst}
use lib.Dec.{T}
use lib.IntN.{ℤ}
use lib.Ieee.{binary32, in_float}
use mir.Facts.{to_z-of_z}
use Rattle.tile.specs.Tiles.{scaled}
use Rattle.tile.proofs.Frame.{inside-float, the-divisor}
use Rattle.tile.proofs.scale.Goals as goal

pub int_to_float-result : goal.int_to_float-result
int_to_float-result c =
    subst (λ (z : ℤ). T (in_float binary32 z)) (sym (to_z-of_z c.ranges.d)) (inside-float c.args.d c.requires)

pub returns : goal.returns
unfolding scaled
returns c = cc (to_z-of_z c.ranges.d, the-divisor)
