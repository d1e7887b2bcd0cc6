-- `edit::shift_at` meets its contract: one number is read and stored. Assumes nothing.
use mir.Facts.{to_z-of_z}
use Rattle.laws.proofs.Bits.{back}
use Rattle.edit.proofs.moving.shift_at.Goals as goal

pub slice_copy_out-shifted : goal.slice_copy_out-shifted
slice_copy_out-shifted c = c.requires.0

pub shifted-requires : goal.shifted-requires
shifted-requires c = rw (back _ c.shifted-arg-1.given, to_z-of_z c.ranges.by) c.requires.1

pub bounds-s-at : goal.bounds-s-at
bounds-s-at c = c.requires.0

pub returns : goal.returns
returns c = rw (back c.shifted.result c.shifted.type_inv, c.shifted.ensures, back _ c.shifted-arg-1.given, to_z-of_z c.ranges.by)
