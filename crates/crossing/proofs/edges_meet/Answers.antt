-- `crossing::edges_meet` meets its contract: the three tests in the code's order, where the definition has the document's.
use mathlib.Core.Bool.{not}
use mathlib.Core.Path.{sym, ◌∙◌, ap}
use borrow.Author.Tests.{not-true, not-false}
use Rattle.crossing.proofs.EdgeLaws.{meet-not-boxes, meet-not-beside, meet-if}
use Rattle.crossing.proofs.edges_meet.Goals as goal

pub returns-then-not-boxes_overlap : goal.returns-then-not-boxes_overlap
returns-then-not-boxes_overlap c =
    meet-not-boxes c.args.a c.args.b c.args.c c.args.d (sym c.boxes_overlap.ensures ∙ not-true _ (ap not c.if-not-boxes_overlap.true))

pub returns-then-not-beside_line : goal.returns-then-not-beside_line
returns-then-not-beside_line c =
    meet-if c.args.a c.args.b c.args.c c.args.d
    (sym c.boxes_overlap.ensures ∙ not-false _ (ap not c.if-not-boxes_overlap.false))
    (sym c.beside_line.ensures ∙ c.if-not-beside_line.true)
    c.beside_line-then-not-beside_line.ensures

pub returns-else-not-beside_line : goal.returns-else-not-beside_line
returns-else-not-beside_line c =
    ap not c.if-not-beside_line.false ∙ meet-not-beside c.args.a c.args.b c.args.c c.args.d (sym c.beside_line.ensures ∙ c.if-not-beside_line.false)
