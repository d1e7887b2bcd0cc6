-- `mask_told` lays a mask out, with its rows. Assumes nothing.
use mathlib.Core.Path.{ap}
use Rattle.told.specs.declared.masks.MaskFigures.{MaskFigures}
use Rattle.told.specs.declared.masks.CxfMask.{CxfMask}
use Rattle.told.proofs.masks.mask_told.Goals as goal

pub returns : goal.returns
returns c = ap {B = CxfMask} (λ (f : MaskFigures). record { number = f.number; row = f.row; rows = c.args.m.rows; covered = f.covered }) c.mask_figures-f.ensures
