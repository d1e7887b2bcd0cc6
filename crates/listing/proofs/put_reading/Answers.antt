-- `put_reading` meets its contract: refused, or the used part of tables that hold any input; 14 never comes. Assumes nothing.
use lib.IntN.{pos}
use lib.ListN.{replicate}
use Rattle.listing.proofs.ReadWays.{put_same, room-same, refused-fits, read-fits-in, enough-tables, read-refused, read_short, read_fits, read-sheet}
use Rattle.listing.proofs.put_reading.Goals as goal

pub put_refused-requires : goal.put_refused-requires
put_refused-requires c = refused-fits _ _ _ _ _ c.requires.1

pub put_used-requires : goal.put_used-requires
put_used-requires c = record { used_fits = read_fits c.args.src.now _ c.requires.0 enough-tables _ c.read_as-answer.ensures.value _ _ c.in-Ok.is (replicate 4380 (pos 0)) _ (replicate 8192 0) _ (replicate 4096 0) _ (replicate 1365 (pos 0)) _ c.read_as-answer.ensures.rows_after c.read_as-answer.ensures.letters_after c.read_as-answer.ensures.islands_after c.read_as-answer.ensures.points_after; points_in_bounds = room-same (read-sheet c.args.src.now _ c.requires.0 enough-tables _ c.read_as-answer.ensures.value _ _ c.in-Ok.is (replicate 4380 (pos 0)) _ (replicate 8192 0) _ (replicate 4096 0) _ (replicate 1365 (pos 0)) _ c.read_as-answer.ensures.rows_after c.read_as-answer.ensures.letters_after c.read_as-answer.ensures.islands_after c.read_as-answer.ensures.points_after) _ (read-fits-in c.args.src.now _ c.requires.1) }

pub returns-in-Err-Refused : goal.returns-in-Err-Refused
returns-in-Err-Refused c = put_same (read-refused c.args.src.now _ c.requires.0 enough-tables _ c.read_as-answer.ensures.value _ c.in-Err-Refused.is _ _ _ _ (rw c.in-Err-Refused.is at c.in-Err-Refused.field-0-is) _ c.number.ensures) c.put_refused.ensures

pub returns-in-Err-NoRoom : goal.returns-in-Err-NoRoom
returns-in-Err-NoRoom c = absurd (read_short c.args.src.now _ c.requires.0 enough-tables _ c.read_as-answer.ensures.value _ c.in-Err-NoRoom.is _ (rw c.in-Err-NoRoom.is at c.in-Err-NoRoom.field-0-is))

pub returns-in-Ok : goal.returns-in-Ok
returns-in-Ok c = put_same (read-sheet c.args.src.now _ c.requires.0 enough-tables _ c.read_as-answer.ensures.value _ _ c.in-Ok.is (replicate 4380 (pos 0)) _ (replicate 8192 0) _ (replicate 4096 0) _ (replicate 1365 (pos 0)) _ c.read_as-answer.ensures.rows_after c.read_as-answer.ensures.letters_after c.read_as-answer.ensures.islands_after c.read_as-answer.ensures.points_after) c.put_used.ensures
