-- `crossing::blocks::next_meeting` meets its contract: the edges so far are not met, and the next stands in block k. Assumes nothing.
use Prim.Native.Nat.{◌+◌, ◌*◌, ◌-◌, ◌≤◌}
use native.Mathlib.Nat.{div-mul-le_self, lt-div-mul-add, le-mul_of_pos_right}
use native.Mathlib.Omega.{arith}
use Rattle.crossing.specs.Boxes.{meets_at}
use Rattle.crossing.proofs.SkipLaws.{skip-none, skip-then}
use Rattle.crossing.proofs.BoxLaws.{block-next, block-full}
use Rattle.crossing.proofs.blocks.next_meeting.Goals as goal

pub overflow_sub-stop : goal.overflow_sub-stop
overflow_sub-stop c = omega arith

pub nonzero_div-k : goal.nonzero_div-k
nonzero_div-k c = c.requires.2.some

pub loop-e-init : goal.loop-e-init
loop-e-init c = (
  skip-none (meets_at c.args.points.now c.args.from c.args.a c.args.b) c.args.j (c.args.edges - 1) (omega arith),
  λ h. div-mul-le_self c.args.j c.args.size,
  lt-div-mul-add c.requires.2.some,
)

pub overflow_mul-k : goal.overflow_mul-k
overflow_mul-k c = let h = c.loop-e.invariant.1 c.loop-e-test.true in omega arith

pub block_end-end-requires : goal.block_end-end-requires
block_end-end-requires c =
    let h = c.loop-e.invariant.1 c.loop-e-test.true in
    let l = c.requires.2.small in
    omega arith

pub scan_block-e-requires : goal.scan_block-e-requires
scan_block-e-requires c =
    let l = c.loop-e in
    let t = c.loop-e-test.true in
    let h = l.invariant.1 t in
    let w = c.block_end-end.ensures in
    let u = w.inside in (
      c.requires.0,
      w.reaches l.e (omega (arith, l.invariant.2)) (omega arith),
      omega arith,
      c.requires.3.each l.k (omega arith),
      h,
      w.in_block,
    )

pub returns-then-e-end : goal.returns-then-e-end
returns-then-e-end c =
    let w = c.block_end-end in
    skip-then (meets_at c.args.points.now c.args.from c.args.a c.args.b) c.args.j (c.args.edges - 1) _ w.result _
    c.loop-e.invariant.0 c.scan_block-e.ensures w.ensures.inside

pub overflow_add-k : goal.overflow_add-k
overflow_add-k c =
    let l = c.loop-e in
    let h = l.invariant.1 c.loop-e-test.true in
    omega (arith, le-mul_of_pos_right l.k c.requires.2.some)

pub loop-e-smaller : goal.loop-e-smaller
loop-e-smaller c =
    let l = c.loop-e in
    let t = c.loop-e-test.true in
    let h : l.e + 1 ≤ c.block_end-end.result = c.block_end-end.ensures.reaches (l.e + 1) (omega (arith, l.invariant.2)) (omega arith) in
    omega arith

pub loop-e-preserved : goal.loop-e-preserved
loop-e-preserved c =
    let l = c.loop-e in
    let w = c.block_end-end in
    let v = c.scan_block-e.ensures in
    let n = block-next l.k c.args.size in
    let u = v.inside in
    let b = w.ensures.in_block in (
      skip-then (meets_at c.args.points.now c.args.from c.args.a c.args.b) c.args.j (c.args.edges - 1) l.e w.result c.scan_block-e.result l.invariant.0 v w.ensures.inside,
      λ h. let f = block-full (l.k * c.args.size) c.args.size (c.args.edges - 1) w.result w.ensures (omega arith) in omega arith,
      omega (arith, c.requires.2.some),
    )

pub returns : goal.returns
returns c = c.loop-e.invariant.0
