-- `put_lines` meets its contract. Invariant: what is left of the lines is to come. Assumes nothing.
use Rattle.writer.proofs.Putting.{putting-start, putting-end}
use Rattle.sup.proofs.LineWays.{named_end, narrow_at, piece-from, piece-to, piece-short, piece-room, piece-on}
use Rattle.sup.proofs.printing.put_lines.Goals as goal

pub loop-i-init : goal.loop-i-init
loop-i-init c = putting-start _ _ _ c.requires.2

pub slice_bounds-put_line-start : goal.slice_bounds-put_line-start
slice_bounds-put_line-start c = piece-from c.args.names.now c.args.figures.now _ c.loop-i-test.true

pub slice_bounds-put_line-end : goal.slice_bounds-put_line-end
slice_bounds-put_line-end c = piece-to c.args.names.now c.args.figures.now _ c.loop-i-test.true c.requires.0

pub put_line-next-requires : goal.put_line-next-requires
put_line-next-requires c =
    let h = c.loop-i-test.true in
    (piece-short c.args.names.now c.args.figures.now _ h, h, narrow_at _ _ c.requires.1 h, piece-room c.args.names.now c.args.figures.now _ h c.loop-i.invariant)

pub loop-i-preserved : goal.loop-i-preserved
loop-i-preserved c = piece-on c.args.names.now c.args.figures.now _ c.loop-i-test.true c.loop-i.invariant c.put_line-next.ensures

pub shape_of-out : goal.shape_of-out
shape_of-out c = c.loop-i.invariant.size

pub returns : goal.returns
returns c = putting-end c.loop-i.invariant (named_end _ _ _ c.loop-i-test.false)
