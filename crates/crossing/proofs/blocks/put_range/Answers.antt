-- `crossing::blocks::put_range` meets its contract: the two bounds are stored. Assumes nothing.
use native.Mathlib.Omega.{arith}
use Rattle.laws.proofs.Bits.{back}
use Rattle.crossing.proofs.BoxLaws.{range-put}
use Rattle.crossing.proofs.blocks.put_range.Goals as goal

pub lowest-low-requires : goal.lowest-low-requires
lowest-low-requires c = (c.requires.0, c.requires.1, c.requires.2)

pub highest-high-requires : goal.highest-high-requires
highest-high-requires c = (c.requires.0, c.requires.1, c.requires.2)

pub put_number-requires : goal.put_number-requires
put_number-requires c = omega arith

pub overflow_add-at : goal.overflow_add-at
overflow_add-at c = omega arith

pub returns : goal.returns
returns c =
    let l = c.lowest-low in
    let h = c.highest-high in
    range-put c.args.points.now c.args.from c.args.axis c.args.first c.args.last _ _ _ c.args.at l.result h.result c.requires.3 l.ensures h.ensures
    (rw (back l.result l.type_inv) at c.put_number.ensures) (rw (back h.result h.type_inv) at c.put_number-2.ensures)
