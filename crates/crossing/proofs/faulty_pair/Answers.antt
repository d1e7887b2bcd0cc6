-- `crossing::faulty_pair` meets its contract: one lemma of EdgeLaws for each answer; the vertices are close, since the ring is narrow.
use Prim.Native.Nat.{◌+◌}
use native.Mathlib.Omega.{arith}
use Rattle.crossing.proofs.EdgeLaws.{close-as, faulty-itself, faulty-next, faulty-ends, faulty-other, not_first, not_last}
use Rattle.crossing.proofs.faulty_pair.Goals as goal
use Rattle.crossing.proofs.faulty_pair.Goals.{else-i-eq0-via-then-i-eq0+else-j-edges, else-i-eq0-via-else-i-eq0}

pub returns-then-i-j : goal.returns-then-i-j
returns-then-i-j c =
    let e = faulty-itself c.args.points.now c.args.from c.args.edges c.args.i c.args.j c.if-i-j.true in
    cc

pub neighbours_overlap-requires : goal.neighbours_overlap-requires
neighbours_overlap-requires c =
    let i = c.args.i in (
      close-as c.args.points.now c.args.from (c.args.edges + 1) c.requires.3 (i + 1) i (omega arith) (omega arith) _ _ c.requires.5 c.requires.4,
      close-as c.args.points.now c.args.from (c.args.edges + 1) c.requires.3 (i + 1) (c.args.j + 1) (omega arith) (omega arith) _ _ c.requires.5 c.vertex-d.ensures,
    )

pub returns-then-i-j-2 : goal.returns-then-i-j-2
returns-then-i-j-2 c =
    let e = faulty-next c.args.points.now c.args.from c.args.edges c.args.i c.args.j c.if-i-j-2.true in
    cc

pub neighbours_overlap-requires-then-j-edges : goal.neighbours_overlap-requires-then-j-edges
neighbours_overlap-requires-then-j-edges c =
    let j = c.args.j in
    let d = c.vertex-d.ensures in (
      close-as c.args.points.now c.args.from (c.args.edges + 1) c.requires.3 (j + 1) j (omega arith) (omega arith) _ _ d c.vertex-c.ensures,
      close-as c.args.points.now c.args.from (c.args.edges + 1) c.requires.3 (j + 1) (c.args.i + 1) (omega arith) (omega arith) _ _ d c.requires.5,
    )

pub returns-then-j-edges : goal.returns-then-j-edges
returns-then-j-edges c =
    let e =
    faulty-ends c.args.points.now c.args.from c.args.edges c.args.i c.args.j
    c.if-i-j.false c.if-i-j-2.false
    c.if-i-eq0.true c.if-j-edges.true in
    cc

pub edges_meet-requires : goal.edges_meet-requires
edges_meet-requires c =
    let i = c.args.i in
    let j = c.args.j in
    let r = c.vertex-c.ensures in
    let t = c.vertex-d.ensures in (
      close-as c.args.points.now c.args.from (c.args.edges + 1) c.requires.3 i (i + 1) (omega arith) (omega arith) _ _ c.requires.4 c.requires.5,
      close-as c.args.points.now c.args.from (c.args.edges + 1) c.requires.3 i j (omega arith) (omega arith) _ _ c.requires.4 r,
      close-as c.args.points.now c.args.from (c.args.edges + 1) c.requires.3 i (j + 1) (omega arith) (omega arith) _ _ c.requires.4 t,
      close-as c.args.points.now c.args.from (c.args.edges + 1) c.requires.3 j (j + 1) (omega arith) (omega arith) _ _ r t,
      close-as c.args.points.now c.args.from (c.args.edges + 1) c.requires.3 j i (omega arith) (omega arith) _ _ r c.requires.4,
      close-as c.args.points.now c.args.from (c.args.edges + 1) c.requires.3 j (i + 1) (omega arith) (omega arith) _ _ r c.requires.5,
    )

pub returns : goal.returns
returns c =
    let i = c.args.i in
    let j = c.args.j in
    let e =
    faulty-other c.args.points.now c.args.from c.args.edges i j
    c.if-i-j.false c.if-i-j-2.false
    (elim c.else-i-eq0.branch [
      | else-i-eq0-via-then-i-eq0+else-j-edges w ↦ not_last c.args.points.now c.args.from c.args.edges i j w.if-j-edges.false
      | else-i-eq0-via-else-i-eq0 w ↦ not_first c.args.points.now c.args.from c.args.edges i j w.if-i-eq0.false
    ]) in
    cc
