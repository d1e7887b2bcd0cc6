-- The answer of a mask as the struct of the C interface: "row with 15"; "refused has all rows and `covered` 0". Assumes nothing: these are definitions.
use Rattle.std.specs.Prelude.{ℕ, Result}
use Rattle.mask.specs.declared.Mask.{Mask}
use Rattle.mask.specs.declared.Unmasked.{Unmasked}
use Rattle.mask.specs.Masks.{number_of, row_of, covered_of}
use Rattle.told.specs.declared.masks.MaskFigures.{MaskFigures}
use Rattle.told.specs.declared.masks.CxfMask.{CxfMask}

abbrev pub mask_told : Mask → CxfMask
mask_told m = record { number = number_of m.answer; row = row_of m.answer; rows = m.rows; covered = covered_of m.answer }

-- ---- for private contracts: what is told beside the rows

abbrev pub mask_figures_laid : ℕ → ℕ → ℕ → MaskFigures
mask_figures_laid number row covered = record { number = number; row = row; covered = covered }

abbrev pub mask_figures_of : Result ℕ Unmasked → MaskFigures
mask_figures_of a = mask_figures_laid (number_of a) (row_of a) (covered_of a)
