-- `converted_text` meets its contract: refused, or the sheet that was read into tables that hold any input; 14 never comes of them. Assumes nothing.
use lib.IntN.{pos}
use lib.ListN.{replicate}
use Rattle.listing.proofs.ReadWays.{enough-tables}
use Rattle.conversion.proofs.CleanWays.{told-refused, told-short, told-fits, told-read}
use Rattle.conversion.proofs.converted_text.Goals as goal

pub clean_text-requires : goal.clean_text-requires
clean_text-requires c = told-fits c.args.src.now _ c.requires enough-tables _ c.read_as-answer.ensures.value _ _ c.in-Ok.is (replicate 4380 (pos 0)) _ (replicate 8192 0) _ (replicate 4096 0) _ (replicate 1365 (pos 0)) _ c.read_as-answer.ensures.rows_after c.read_as-answer.ensures.letters_after c.read_as-answer.ensures.islands_after c.read_as-answer.ensures.points_after

pub returns-in-Err-Refused : goal.returns-in-Err-Refused
returns-in-Err-Refused c =
    let said = told-refused c.args.src.now _ c.requires enough-tables _ c.read_as-answer.ensures.value _ c.in-Err-Refused.is _ _ _ _ (rw c.in-Err-Refused.is at c.in-Err-Refused.field-0-is) _ c.number.ensures _ c.args.out.now _ c.refused_text.ensures.value c.refused_text.ensures.out_after
    in record { value = said.0; out_after = said.1 }

pub returns-in-Err-NoRoom : goal.returns-in-Err-NoRoom
returns-in-Err-NoRoom c = absurd (told-short c.args.src.now _ c.requires enough-tables _ c.read_as-answer.ensures.value _ c.in-Err-NoRoom.is _ (rw c.in-Err-NoRoom.is at c.in-Err-NoRoom.field-0-is))

pub returns-in-Ok : goal.returns-in-Ok
returns-in-Ok c =
    let said = told-read c.args.src.now _ c.requires enough-tables _ c.read_as-answer.ensures.value _ _ c.in-Ok.is (replicate 4380 (pos 0)) _ (replicate 8192 0) _ (replicate 4096 0) _ (replicate 1365 (pos 0)) _ c.read_as-answer.ensures.rows_after c.read_as-answer.ensures.letters_after c.read_as-answer.ensures.islands_after c.read_as-answer.ensures.points_after _ c.args.out.now _ c.clean_text.ensures.value c.clean_text.ensures.out_after
    in record { value = said.0; out_after = said.1 }
