-- `put_line` meets its contract: left field, figure, line end. Assumes nothing.
use native.Mathlib.Omega.{arith}
use Rattle.writer.proofs.Putting.{stored_last}
use Rattle.sup.proofs.LineWays.{line-left, line_at, figure-end, line-ending}
use Rattle.sup.proofs.printing.put_line.Goals as goal

pub put_left-next-requires : goal.put_left-next-requires
put_left-next-requires c = (c.requires.0, line-left c.args.out.now _ _ _ c.requires.3)

pub slice_bounds-spell_figure-count : goal.slice_bounds-spell_figure-count
slice_bounds-spell_figure-count c = line_at _ _ _ _ c.requires.3 c.put_left-next.ensures

pub overflow_add-next : goal.overflow_add-next
overflow_add-next c = let h = figure-end _ _ _ _ c.requires.2 c.requires.3 c.put_left-next.ensures in omega (arith, h)

pub returns : goal.returns
returns c = stored_last (line-ending _ _ _ _ c.requires.2 c.figure-1.given c.requires.3 c.put_left-next.ensures _ c.spell_figure.ensures.value _ c.spell_figure.ensures.out_after) c.put_bytes.ensures
