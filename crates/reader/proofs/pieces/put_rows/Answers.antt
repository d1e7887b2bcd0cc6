-- `reader::put_rows` meets its contract. Assumes nothing.
use Rattle.reader.proofs.Rows.{putting-start, putting-on, putting-less}
use Rattle.reader.proofs.pieces.put_rows.Goals as goal

pub loop-mode-init : goal.loop-mode-init
loop-mode-init c = putting-start _ _ _ _ _ _ _ c.requires

pub put_piece-e-requires : goal.put_piece-e-requires
put_piece-e-requires c = (c.loop-mode.invariant.within, c.loop-mode.invariant.sure)

pub shape_of-rows-then-e-at : goal.shape_of-rows-then-e-at
shape_of-rows-then-e-at c = (putting-on c.loop-mode.invariant _ c.put_piece-e.ensures (record { rows-kept = c.put_piece-e.auto.rows; letters-kept = c.put_piece-e.auto.letters; islands-kept = c.put_piece-e.auto.islands; points_kept = c.put_piece-e.auto.points })).kept.rows-kept

pub shape_of-letters-then-e-at : goal.shape_of-letters-then-e-at
shape_of-letters-then-e-at c = (putting-on c.loop-mode.invariant _ c.put_piece-e.ensures (record { rows-kept = c.put_piece-e.auto.rows; letters-kept = c.put_piece-e.auto.letters; islands-kept = c.put_piece-e.auto.islands; points_kept = c.put_piece-e.auto.points })).kept.letters-kept

pub shape_of-islands-then-e-at : goal.shape_of-islands-then-e-at
shape_of-islands-then-e-at c = (putting-on c.loop-mode.invariant _ c.put_piece-e.ensures (record { rows-kept = c.put_piece-e.auto.rows; letters-kept = c.put_piece-e.auto.letters; islands-kept = c.put_piece-e.auto.islands; points_kept = c.put_piece-e.auto.points })).kept.islands-kept

pub shape_of-points-then-e-at : goal.shape_of-points-then-e-at
shape_of-points-then-e-at c = (putting-on c.loop-mode.invariant _ c.put_piece-e.ensures (record { rows-kept = c.put_piece-e.auto.rows; letters-kept = c.put_piece-e.auto.letters; islands-kept = c.put_piece-e.auto.islands; points_kept = c.put_piece-e.auto.points })).kept.points_kept

pub returns-then-e-at : goal.returns-then-e-at
returns-then-e-at c = (putting-on c.loop-mode.invariant _ c.put_piece-e.ensures (record { rows-kept = c.put_piece-e.auto.rows; letters-kept = c.put_piece-e.auto.letters; islands-kept = c.put_piece-e.auto.islands; points_kept = c.put_piece-e.auto.points })).puts

pub loop-mode-smaller : goal.loop-mode-smaller
loop-mode-smaller c = putting-less c.loop-mode.invariant _ c.put_piece-e.ensures (record { rows-kept = c.put_piece-e.auto.rows; letters-kept = c.put_piece-e.auto.letters; islands-kept = c.put_piece-e.auto.islands; points_kept = c.put_piece-e.auto.points }) c.if-e-at.false

pub loop-mode-preserved : goal.loop-mode-preserved
loop-mode-preserved c = putting-on c.loop-mode.invariant _ c.put_piece-e.ensures (record { rows-kept = c.put_piece-e.auto.rows; letters-kept = c.put_piece-e.auto.letters; islands-kept = c.put_piece-e.auto.islands; points_kept = c.put_piece-e.auto.points })
