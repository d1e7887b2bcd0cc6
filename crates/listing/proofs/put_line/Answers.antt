-- `put_line` meets its contract: the word, then its figures. Assumes nothing.
use mathlib.Core.Path.{refl}
use Rattle.writer.proofs.Putting.{putting-last, stored_on}
use Rattle.listing.proofs.LineWays.{line-start}
use Rattle.listing.proofs.put_line.Goals as goal

pub put_figures-requires : goal.put_figures-requires
put_figures-requires c = (stored_on (line-start _ _ _ _ c.requires) _ _ refl c.put_bytes-next.ensures).room

pub returns : goal.returns
returns c = putting-last (stored_on (line-start _ _ _ _ c.requires) _ _ refl c.put_bytes-next.ensures) c.put_figures.ensures
