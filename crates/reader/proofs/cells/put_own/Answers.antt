-- `put_own` meets its contract. So far the first `j` numbers that the section gives stand in the table. Assumes nothing.
use lib.IntN.{pos}
use Rattle.reader.proofs.Storing.{pasting-start, pasting-length, pasting-at, pasting-step, pasting-end, cell-is, cell-most}
use Rattle.reader.proofs.cells.put_own.Goals as goal

pub loop-j-init : goal.loop-j-init
loop-j-init c = pasting-start _ _ _ c.requires.0

pub put_number-requires : goal.put_number-requires
put_number-requires c = (pasting-at _ _ _ _ _ c.loop-j.invariant c.loop-j-test.true, cell-most c.loop-j.j _ _ c.cell.ensures c.requires.1)

pub loop-j-preserved : goal.loop-j-preserved
loop-j-preserved c = pasting-step _ _ _ _ _ c.loop-j.invariant (pos 0) _ _ c.loop-j-test.true (cell-is _ _ _ c.cell.ensures c.loop-j-test.true) c.put_number.ensures

pub shape_of-dst : goal.shape_of-dst
shape_of-dst c = pasting-length _ _ _ _ _ c.loop-j.invariant

pub returns : goal.returns
returns c = pasting-end _ _ _ _ _ c.loop-j.invariant c.loop-j-test.false
