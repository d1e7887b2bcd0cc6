-- `put_letters` meets its contract. So far the first `j` letters stand in the table. Assumes nothing.
use mathlib.Core.Path.{refl}
use Rattle.reader.proofs.Storing.{pasting-start, pasting-length, pasting-at, pasting-step, pasting-end}
use Rattle.reader.proofs.cells.put_letters.Goals as goal

pub loop-j-init : goal.loop-j-init
loop-j-init c = pasting-start _ _ _ c.requires

pub bounds-dst-at : goal.bounds-dst-at
bounds-dst-at c = pasting-at _ _ _ _ _ c.loop-j.invariant c.loop-j-test.true

pub loop-j-preserved : goal.loop-j-preserved
loop-j-preserved c = pasting-step _ _ _ _ _ c.loop-j.invariant 0 _ _ c.loop-j-test.true refl refl

pub shape_of-dst : goal.shape_of-dst
shape_of-dst c = pasting-length _ _ _ _ _ c.loop-j.invariant

pub returns : goal.returns
returns c = pasting-end _ _ _ _ _ c.loop-j.invariant c.loop-j-test.false
