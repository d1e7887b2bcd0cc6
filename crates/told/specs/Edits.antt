-- The answer of an edit as the struct of the C interface: "count is then the rows at exit, else 0; row with 15". Assumes nothing: these are definitions.
use Rattle.std.specs.Prelude.{ℕ, ◌≡◌, refl, Result, Ok, Err}
use Rattle.made.specs.declared.Flaw.TheVariants.{BadHeader, Faulty}
use Rattle.edit.specs.declared.Unedited.{Unedited}
use Rattle.edit.specs.declared.Unedited.TheVariants.{Missing, MovedOff, Refused}
use Rattle.edit.specs.Answers.{number_of, row_of, count_of}
use Rattle.told.specs.declared.edits.CxfEdited.{CxfEdited}

abbrev pub edit_laid : ℕ → ℕ → ℕ → CxfEdited
edit_laid number row count = record { number = number; row = row; count = count }

abbrev pub edit_told : Result ℕ Unedited → CxfEdited
edit_told a = edit_laid (number_of a) (row_of a) (count_of a)

-- ---- computed: 15 alone has its row, an edit that was made alone its count

edits-told : (edit_told (Ok 3) ≡ edit_laid 0 0 3) × (edit_told (Err Missing) ≡ edit_laid 19 0 0) × (edit_told (Err MovedOff) ≡ edit_laid 24 0 0) × (edit_told (Err (Refused BadHeader)) ≡ edit_laid 6 0 0)
    × (edit_told (Err (Refused (Faulty 3))) ≡ edit_laid 15 3 0)
edits-told = (refl, refl, refl, refl, refl)
