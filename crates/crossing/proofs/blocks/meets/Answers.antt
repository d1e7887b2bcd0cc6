-- `crossing::blocks::meets` meets its contract: the vertices are close, since the ring is narrow. Assumes nothing.
use Prim.Native.Nat.{◌+◌}
use native.Mathlib.Omega.{arith}
use Rattle.crossing.proofs.EdgeLaws.{close-as}
use Rattle.crossing.proofs.blocks.meets.Goals as goal

pub overflow_add-from : goal.overflow_add-from
overflow_add-from c = omega (arith, c.requires.0.held)

pub vertex-c-requires : goal.vertex-c-requires
vertex-c-requires c = omega (arith, c.requires.0.held)

pub overflow_add-k : goal.overflow_add-k
overflow_add-k c = omega (arith, c.requires.0.held)

pub overflow_add-from-2 : goal.overflow_add-from-2
overflow_add-from-2 c = omega (arith, c.requires.0.held)

pub vertex-d-requires : goal.vertex-d-requires
vertex-d-requires c = omega (arith, c.requires.0.held)

pub edges_meet-requires : goal.edges_meet-requires
edges_meet-requires c =
    let w = c.requires.0 in
    let i = w.place in
    let h = w.among in
    let k = c.args.k in
    let r = c.vertex-c.ensures in
    let t = c.vertex-d.ensures in (
      close-as c.args.points.now c.args.from (c.args.edges + 1) w.narrow i (i + 1) (omega arith) (omega arith) _ _ w.start w.end,
      close-as c.args.points.now c.args.from (c.args.edges + 1) w.narrow i k (omega arith) (omega arith) _ _ w.start r,
      close-as c.args.points.now c.args.from (c.args.edges + 1) w.narrow i (k + 1) (omega arith) (omega arith) _ _ w.start t,
      close-as c.args.points.now c.args.from (c.args.edges + 1) w.narrow k (k + 1) (omega arith) (omega arith) _ _ r t,
      close-as c.args.points.now c.args.from (c.args.edges + 1) w.narrow k i (omega arith) (omega arith) _ _ r w.start,
      close-as c.args.points.now c.args.from (c.args.edges + 1) w.narrow k (i + 1) (omega arith) (omega arith) _ _ r w.end,
    )

pub returns : goal.returns
returns c = cc
