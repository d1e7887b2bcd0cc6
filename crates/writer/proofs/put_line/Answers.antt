-- `put_line` meets its contract: the content, then CR LF. Assumes nothing.
use mathlib.Core.List.{[], ◌∷◌}
use mathlib.Core.Path.{refl}
use Rattle.layout.specs.Sheet.{line}
use Rattle.writer.proofs.Putting.{putting-start, stored_on, stored_last}
use Rattle.writer.proofs.put_line.Goals as goal

pub returns : goal.returns
returns c = stored_last (stored_on (putting-start c.args.out.now c.args.at (line c.args.s.now) c.requires) c.args.s.now (13 ∷ 10 ∷ []) refl c.put_bytes-next.ensures) c.put_bytes.ensures
