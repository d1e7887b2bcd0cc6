-- `order::sup_count` meets its contract: those behind are counted, the others are to come. Assumes nothing.
use mathlib.Core.List.{[]}
use native.Mathlib.Omega.{arith}
use Rattle.made.specs.Made.{tables_of}
use Rattle.order.proofs.CountWays.{counting-start, counting-one, counting-none, counting-end}
use Rattle.order.proofs.sup_count.Goals as goal
use Rattle.order.proofs.sup_count.Goals.{then-is_in_sup, else-is_in_sup}

pub loop-init : goal.loop-init
loop-init c = counting-start c.args.header c.args.count (tables_of c.args.rows.now c.args.letters.now [] []) c.first_stand-d.result c.first_stand-d.ensures

pub overflow_add-n : goal.overflow_add-n
overflow_add-n c = omega (arith, c.loop.invariant.few, c.loop-test.true)

pub loop-preserved : goal.loop-preserved
loop-preserved c =
    let f = c.loop.invariant in
    let l = c.loop-test.true in
    let e = c.is_in_sup.ensures in
    elim c.if-is_in_sup.branch [
      | then-is_in_sup x ↦ counting-one f l _ e c.stand_next-d.result c.stand_next-d.ensures x.if-is_in_sup.true c.if-is_in_sup.n x.n-is
      | else-is_in_sup x ↦ counting-none f l _ e c.stand_next-d.result c.stand_next-d.ensures x.if-is_in_sup.false c.if-is_in_sup.n x.n-is
    ]

pub returns : goal.returns
returns c = counting-end c.loop.invariant c.loop-test.false
