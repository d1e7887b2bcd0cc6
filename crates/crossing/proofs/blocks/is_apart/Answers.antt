-- `crossing::blocks::is_apart` meets its contract: one lemma of BoxLaws for each answer. Assumes nothing.
use mathlib.Core.Path.{sym, ◌∙◌}
use Prim.Native.Nat.{◌<◌, ◌^◌}
use lib.Signed.{mag}
use borrow.Author.Rules.{rules}
use Rattle.laws.proofs.Bits.{back}
use Rattle.crossing.proofs.BoxLaws.{apart-x, apart-y}
use Rattle.crossing.proofs.blocks.is_apart.Goals as goal

pub returns-then-is_beyond : goal.returns-then-is_beyond
returns-then-is_beyond c =
    let a = c.args.a in
    let b = c.args.b in
    let p : mag a.x < 2 ^ 63 = search rules in
    let q : mag b.x < 2 ^ 63 = search rules in
    let e = rw (back a.x p, back b.x q) at c.is_beyond.ensures in
    c.if-is_beyond.true ∙ apart-x c.args.boxes.now c.args.k a b (sym e ∙ c.if-is_beyond.true)

pub returns-else-is_beyond : goal.returns-else-is_beyond
returns-else-is_beyond c =
    let a = c.args.a in
    let b = c.args.b in
    let p : mag a.x < 2 ^ 63 = search rules in
    let q : mag b.x < 2 ^ 63 = search rules in
    let r : mag a.y < 2 ^ 63 = search rules in
    let s : mag b.y < 2 ^ 63 = search rules in
    let e = rw (back a.x p, back b.x q) at c.is_beyond.ensures in
    let f = rw (back a.y r, back b.y s) at c.is_beyond-else-is_beyond.ensures in
    f ∙ apart-y c.args.boxes.now c.args.k a b (sym e ∙ c.if-is_beyond.false)
