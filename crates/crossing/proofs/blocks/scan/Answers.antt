-- `crossing::blocks::scan` meets its contract: the edges so far are not met. Assumes nothing.
use mathlib.Core.Path.{sym, ◌∙◌}
use native.Mathlib.Omega.{arith}
use Rattle.crossing.specs.Boxes.{meets_at}
use Rattle.crossing.proofs.SkipLaws.{skip-none, skip-one}
use Rattle.crossing.proofs.blocks.scan.Goals as goal

pub loop-e-init : goal.loop-e-init
loop-e-init c = skip-none (meets_at c.args.points.now c.args.from c.args.a c.args.b) c.args.j c.args.stop c.requires.1

pub meets-requires : goal.meets-requires
meets-requires c = (c.requires.0, omega arith)

pub returns-then-meets : goal.returns-then-meets
returns-then-meets c = c.loop-e.invariant

pub overflow_add-e : goal.overflow_add-e
overflow_add-e c = omega (arith, c.requires.0.held)

pub loop-e-smaller : goal.loop-e-smaller
loop-e-smaller c = omega arith

pub loop-e-preserved : goal.loop-e-preserved
loop-e-preserved c =
    let l = c.loop-e in
    skip-one (meets_at c.args.points.now c.args.from c.args.a c.args.b) c.args.j c.args.stop l.e l.invariant c.loop-e-test.true
    (sym c.meets.ensures ∙ c.if-meets.false)

pub returns : goal.returns
returns c = c.loop-e.invariant
