-- `crossing::blocks::scan_block` meets its contract: no edge of a block whose box lies apart is met. Assumes nothing.
use mathlib.Core.Path.{sym, ◌∙◌}
use native.Mathlib.Omega.{arith}
use Rattle.crossing.proofs.BoxLaws.{skip_block}
use Rattle.crossing.proofs.blocks.scan_block.Goals as goal

pub is_apart-requires : goal.is_apart-requires
is_apart-requires c = let h = (c.requires.3.high c.args.stop c.requires.5 c.requires.2).room in omega arith

pub returns-then-is_apart : goal.returns-then-is_apart
returns-then-is_apart c =
    skip_block c.args.boxes.now c.args.k c.args.a c.args.b c.args.points.now c.args.from c.args.edges c.args.size c.requires.3 (sym c.is_apart.ensures ∙ c.if-is_apart.true)
    c.args.j c.args.stop c.requires.1 c.requires.2 c.requires.4 c.requires.5

pub scan-requires : goal.scan-requires
scan-requires c = (c.requires.0, c.requires.1, c.requires.2)

pub returns : goal.returns
returns c = c.scan.ensures
