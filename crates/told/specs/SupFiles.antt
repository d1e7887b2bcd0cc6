-- The answer of a SUP file as the struct of the C interface: "row with 15, with the tally's own 17 and 18, and with 22; line (from 1) with 23;
-- length written, or needed with 14". Assumes nothing: these are definitions.
use Rattle.std.specs.Prelude.{ℕ, ◌≡◌, refl, Err}
use Rattle.made.specs.declared.Flaw.TheVariants.{Faulty}
use Rattle.tally.specs.declared.Untallied.TheVariants.{Sheet, Full}
use Rattle.sup.specs.declared.NoSup.TheVariants.{Refused, PastTotal}
use Rattle.sup.specs.Answer.{SupAnswer, sup_number, sup_row, sup_line, sup_length}
use Rattle.told.specs.declared.sup_files.CxfSup.{CxfSup}

abbrev pub sup_laid : ℕ → ℕ → ℕ → ℕ → CxfSup
sup_laid number row line length = record { number = number; row = row; line = line; length = length }

abbrev pub sup_told : SupAnswer → CxfSup
sup_told a = sup_laid (sup_number a) (sup_row a) (sup_line a) (sup_length a)

-- ---- computed: 18 of the combined total is the number alone; 15, and 18 of the tally, have their row

rows_told : (sup_told (Err PastTotal) ≡ sup_laid 18 0 0 0) × (sup_told (Err (Refused (Full 4))) ≡ sup_laid 18 4 0 0) × (sup_told (Err (Refused (Sheet (Faulty 4)))) ≡ sup_laid 15 4 0 0)
rows_told = (refl, refl, refl)
