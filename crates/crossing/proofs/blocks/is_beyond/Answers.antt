-- `crossing::blocks::is_beyond` meets its contract: one lemma of BoxLaws for each answer. Assumes nothing.
use mathlib.Core.Path.{◌∙◌}
use Prim.Native.Nat.{◌+◌}
use lib.ListN.{get_or}
use lib.IntN.{pos}
use mir.Syntax.{w64}
use borrow.Author.Rules.{rules}
use mir.Facts.{to_z-of_z}
use Rattle.laws.proofs.Bits.{back}
use Rattle.crossing.proofs.BoxLaws.{beyond-above, beyond-below}
use Rattle.crossing.proofs.blocks.is_beyond.Goals as goal

pub returns-then-boxes-at : goal.returns-then-boxes-at
returns-then-boxes-at c =
    let w = c.lower in
    let high = get_or c.args.boxes.now (c.args.at + 1) (pos 0) in
    c.if-boxes-at.true ∙ beyond-above (get_or c.args.boxes.now c.args.at (pos 0)) high c.args.a c.args.b
    (rw (to_z-of_z {w = w64} {z = high} (search rules), back w.result w.type_inv, w.ensures, to_z-of_z c.ranges.a, to_z-of_z c.ranges.b) at c.if-boxes-at.true)

pub returns-else-boxes-at : goal.returns-else-boxes-at
returns-else-boxes-at c =
    let w = c.lower in
    let v = c.higher in
    let low = get_or c.args.boxes.now c.args.at (pos 0) in
    let high = get_or c.args.boxes.now (c.args.at + 1) (pos 0) in
    let e = beyond-below low high c.args.a c.args.b
    (rw (to_z-of_z {w = w64} {z = high} (search rules), back w.result w.type_inv, w.ensures, to_z-of_z c.ranges.a, to_z-of_z c.ranges.b) at c.if-boxes-at.false) in
    rw (back v.result v.type_inv, v.ensures, to_z-of_z c.ranges.a, to_z-of_z c.ranges.b, to_z-of_z {w = w64} {z = low} (search rules)) e
