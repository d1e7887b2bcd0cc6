-- `edit::stays_at` meets its contract: one number is read. Assumes nothing.
use mir.Facts.{to_z-of_z}
use Rattle.laws.proofs.Bits.{back}
use Rattle.edit.proofs.moving.stays_at.Goals as goal

pub bounds-s-at : goal.bounds-s-at
bounds-s-at c = c.requires.0

pub stays-requires : goal.stays-requires
stays-requires c = rw (to_z-of_z c.ranges.by) c.requires.1

pub returns : goal.returns
returns c = rw (back _ c.stays-arg-1.given, to_z-of_z c.ranges.by) at c.stays.ensures
