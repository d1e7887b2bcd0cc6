-- `reader::size_of` meets its contract. Assumes nothing.
use mathlib.Core.Path.{sym, ◌∙◌}
use Rattle.record.proofs.RecordLaws.{line_view}
use Rattle.reader.proofs.Turning.{size-bad, size-said, size-malformed}
use Rattle.reader.proofs.turns.size_of.Goals as goal

pub slice_bounds-integer-end : goal.slice_bounds-integer-end
slice_bounds-integer-end c = sym (line_view _ _ _ _ _ (sym c.line_at.ensures ∙ c.in-Ok.is)).counted

pub returns-in-Err : goal.returns-in-Err
returns-in-Err c = size-bad _ _ _ c.line_at.ensures _ c.in-Err.is

pub returns-in-Some : goal.returns-in-Some
returns-in-Some c = size-said _ _ _ c.line_at.ensures _ _ c.in-Ok.is _ c.integer.ensures _ c.in-Some.is

pub returns-in-None : goal.returns-in-None
returns-in-None c = size-malformed _ _ _ c.line_at.ensures _ _ c.in-Ok.is _ c.integer.ensures c.in-None.is
