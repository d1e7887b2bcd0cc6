-- `tally::tally_sheet` meets its contract: a sheet that is judged fine has rows that are. Assumes nothing.
use mathlib.Core.Path.{sym, ◌∙◌}
use Rattle.row.proofs.SeekLaws.{fine-rows}
use Rattle.tally.proofs.tally_sheet.Goals as goal

pub tally_rows-requires : goal.tally_rows-requires
tally_rows-requires c = fine-rows _ _ _ (sym c.judge.ensures ∙ c.in-Ok.is)
