-- The answer to a SUP file that is checked as the struct of the C interface: "row with 15 and with the tally's 17 and 18; line (from 1) with 25". Assumes
-- nothing: these are definitions.
use Rattle.std.specs.Prelude.{ℕ, ◌≡◌, refl, Ok, Err}
use Rattle.made.specs.declared.Flaw.TheVariants.{Faulty}
use Rattle.tally.specs.declared.Untallied.TheVariants.{Sheet, Full, Wide}
use Rattle.supcheck.specs.declared.Unaccepted.TheVariants.{Refused, PastTotal, WrongLine}
use Rattle.supcheck.specs.Checked.{SupChecked, checked_number, checked_row, checked_line}
use Rattle.told.specs.declared.sup_checks.CxfSupChecked.{CxfSupChecked}

abbrev pub checked_laid : ℕ → ℕ → ℕ → CxfSupChecked
checked_laid number row line = record { number = number; row = row; line = line }

abbrev pub checked_told : SupChecked → CxfSupChecked
checked_told a = checked_laid (checked_number a) (checked_row a) (checked_line a)

-- ---- computed: 18 of the combined total is the number alone; 15, and 17 and 18 of the tally, have their row

checks-told : (checked_told (Ok tt) ≡ checked_laid 0 0 0) × (checked_told (Err PastTotal) ≡ checked_laid 18 0 0) × (checked_told (Err (Refused (Full 4))) ≡ checked_laid 18 4 0)
    × (checked_told (Err (Refused (Wide 4))) ≡ checked_laid 17 4 0) × (checked_told (Err (Refused (Sheet (Faulty 4)))) ≡ checked_laid 15 4 0) × (checked_told (Err (WrongLine 4)) ≡ checked_laid 25 0 4)
checks-told = (refl, refl, refl, refl, refl, refl)
