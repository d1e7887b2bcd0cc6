-- `crossing::search` meets its contract. The rows passed have no faulty pair; in the row at work the pairs passed are good, and a, b are its edge's ends.
use mathlib.Core.Path.{◌≡◌, sym, ◌∙◌}
use mathlib.Core.Bool.{false}
use native.Mathlib.Nat.{le_refl}
use native.Mathlib.Omega.{arith}
use lib.Dec.{ltb}
use borrow.Author.Count.{below_none, below_more}
use Rattle.crossing.specs.Search.{faulty-pair, second-edge}
use Rattle.crossing.proofs.SkipLaws.{row_on}
use Rattle.crossing.proofs.SearchLaws.{row-none, pair_found, none_found}
use Rattle.crossing.proofs.VerdictLaws.{searched-none, searched_faulty}
use Rattle.crossing.proofs.search.Goals.{else-rows-test, then-rows-test+then-loop-j-test+then-faulty_pair}
use Rattle.crossing.proofs.search.Goals as goal

pub block_length-size-requires : goal.block_length-size-requires
block_length-size-requires c = omega arith

pub put_boxes-requires : goal.put_boxes-requires
put_boxes-requires c = (c.requires.0, c.block_length-size.ensures, le_refl 96)

pub rows-init : goal.rows-init
rows-init c = (omega arith, below_none _)

pub overflow_add-from : goal.overflow_add-from
overflow_add-from c = omega arith

pub vertex-a-requires : goal.vertex-a-requires
vertex-a-requires c = omega arith

pub overflow_add-i : goal.overflow_add-i
overflow_add-i c = omega arith

pub overflow_add-from-in-rows : goal.overflow_add-from-in-rows
overflow_add-from-in-rows c = omega arith

pub vertex-b-requires : goal.vertex-b-requires
vertex-b-requires c = omega arith

pub loop-j-init : goal.loop-j-init
loop-j-init c = (omega arith, omega arith, λ k l m. let z : ⊥ = omega arith in absurd z)

pub faulty_pair-requires : goal.faulty_pair-requires
faulty_pair-requires c =
    (omega arith, omega arith, omega arith, c.requires.1, c.vertex-a.ensures, c.vertex-b.ensures)

pub overflow_add-j : goal.overflow_add-j
overflow_add-j c = omega arith

pub onward-j-requires : goal.onward-j-requires
onward-j-requires c =
    (omega arith, omega arith, c.requires.0, c.requires.1, c.vertex-a.ensures, c.vertex-b.ensures, c.block_length-size.ensures, c.put_boxes.ensures)

pub loop-j-smaller : goal.loop-j-smaller
loop-j-smaller c = omega (arith, c.onward-j.ensures.on)

pub loop-j-preserved : goal.loop-j-preserved
loop-j-preserved c =
    let i = c.rows.i in
    let l = c.loop-j in
    let w = c.onward-j.ensures in (
      omega (arith, w.on),
      w.inside,
      row_on (faulty-pair c.args.points.now c.args.from c.args.edges i) i l.j c.args.edges c.onward-j.result l.invariant.2
          (sym c.faulty_pair.ensures ∙ c.if-faulty_pair.false) w,
    )

pub overflow_add-i-in-rows : goal.overflow_add-i-in-rows
overflow_add-i-in-rows c = omega arith

pub rows-smaller : goal.rows-smaller
rows-smaller c = omega arith

pub rows-preserved : goal.rows-preserved
rows-preserved c =
    let r = c.rows in
    let l = c.loop-j in (
      omega arith,
      below_more (λ k. ltb (second-edge c.args.points.now c.args.from c.args.edges k) c.args.edges ≡ false) r.i r.invariant.1
          (row-none c.args.points.now c.args.from c.args.edges r.i (omega arith) (λ k x y. l.invariant.2 k (omega arith) x)),
    )

pub returns-then-i-edges : goal.returns-then-i-edges
returns-then-i-edges c =
    let r = c.rows in
    searched-none c.args.points.now c.args.from c.args.edges r.i r.j (none_found c.args.points.now c.args.from c.args.edges r.i r.j c.if-i-edges.true r.invariant.1) (omega arith)

pub returns : goal.returns
returns c =
    elim c.rows-test.branch [
      | else-rows-test w ↦ absurd (c.if-i-edges.false (omega arith))
      | then-rows-test+then-loop-j-test+then-faulty_pair w ↦
          let r = c.rows in
          let l = w.loop-j in
          rw w.j-is (searched_faulty c.args.points.now c.args.from c.args.edges r.i l.j
          (pair_found c.args.points.now c.args.from c.args.edges r.i l.j (omega arith) (omega arith) r.invariant.1
          (λ k x y. l.invariant.2 k y x) (sym w.faulty_pair.ensures ∙ w.if-faulty_pair.true)) (omega arith))
    ]
