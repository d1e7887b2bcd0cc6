-- `crossing::blocks::put_boxes` meets its contract: the blocks so far have their boxes. Assumes nothing.
use mathlib.Core.Path.{refl, ◌∙◌}
use Prim.Native.Nat.{◌*◌}
use native.Mathlib.Omega.{arith}
use Rattle.crossing.proofs.BoxLaws.{boxes-none, boxes-more, boxes-all, block-few, block-next}
use Rattle.crossing.proofs.blocks.put_boxes.Goals as goal

pub loop-k-init : goal.loop-k-init
loop-k-init c = (refl, omega (arith, c.requires.1.some), boxes-none c.args.points.now c.args.from c.args.edges c.args.size _)

pub overflow_mul-k : goal.overflow_mul-k
overflow_mul-k c = let h = c.requires.1.small in omega arith

pub overflow_mul-first : goal.overflow_mul-first
overflow_mul-first c = omega arith

pub block_end-last-requires : goal.block_end-last-requires
block_end-last-requires c = let h = c.requires.1.small in omega arith

pub overflow_mul-k-in-loop-k : goal.overflow_mul-k-in-loop-k
overflow_mul-k-in-loop-k c = let h = block-few c.args.edges c.args.size c.loop-k.k c.requires.1 c.loop-k-test.true in omega arith

pub put_range-requires : goal.put_range-requires
put_range-requires c =
    let l = c.loop-k in
    let t = c.loop-k-test.true in
    let e = c.block_end-last.ensures in
    let h = block-few c.args.edges c.args.size c.loop-k.k c.requires.1 c.loop-k-test.true in
    let r = e.inside in
    let q = l.invariant.0 in
    (omega arith, e.reaches (l.k * c.args.size) (omega arith) (omega arith), omega arith, omega arith)

pub overflow_mul-k-in-loop-k-2 : goal.overflow_mul-k-in-loop-k-2
overflow_mul-k-in-loop-k-2 c = let h = block-few c.args.edges c.args.size c.loop-k.k c.requires.1 c.loop-k-test.true in omega arith

pub overflow_add-k : goal.overflow_add-k
overflow_add-k c = let h = block-few c.args.edges c.args.size c.loop-k.k c.requires.1 c.loop-k-test.true in omega arith

pub put_range-requires-in-loop-k : goal.put_range-requires-in-loop-k
put_range-requires-in-loop-k c =
    let l = c.loop-k in
    let t = c.loop-k-test.true in
    let e = c.block_end-last.ensures in
    let h = block-few c.args.edges c.args.size c.loop-k.k c.requires.1 c.loop-k-test.true in
    let r = e.inside in
    let q = l.invariant.0 in
    let p = c.put_range.ensures.0.same_length in
    (omega arith, e.reaches (l.k * c.args.size) (omega arith) (omega arith), omega arith, omega arith)

pub overflow_add-k-in-loop-k : goal.overflow_add-k-in-loop-k
overflow_add-k-in-loop-k c = let h = block-few c.args.edges c.args.size c.loop-k.k c.requires.1 c.loop-k-test.true in omega arith

pub loop-k-smaller : goal.loop-k-smaller
loop-k-smaller c = let h = block-few c.args.edges c.args.size c.loop-k.k c.requires.1 c.loop-k-test.true in omega arith

pub loop-k-preserved : goal.loop-k-preserved
loop-k-preserved c =
    let l = c.loop-k in
    let t = c.loop-k-test.true in
    let e = c.block_end-last in
    let p = c.put_range.ensures in
    let q = c.put_range-in-loop-k.ensures in (
      q.0.same_length ∙ p.0.same_length ∙ l.invariant.0,
      omega (arith, block-next l.k c.args.size),
      boxes-more c.args.points.now c.args.from c.args.edges c.args.size _ _ _ l.k e.result l.invariant.2 e.ensures p q,
    )

pub shape_of-boxes : goal.shape_of-boxes
shape_of-boxes c = c.loop-k.invariant.0

pub returns : goal.returns
returns c = let l = c.loop-k in boxes-all c.args.points.now c.args.from c.args.edges c.args.size _ l.k l.invariant.2 c.loop-k-test.false
