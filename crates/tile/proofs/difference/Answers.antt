-- `tile::difference` meets its contract: what is left are the two answers behind the subtraction, which fits.
use mathlib.Core.Path.{◌≡◌, sym, ◌∙◌, ap}
use mathlib.Core.Bool.{true, not}
use mir.Syntax.{w64}
use mir.Val.{SFits}
use mir.Facts.{to_z-of_z}
use lib.IntN.{◌-ℤ◌}
use borrow.Author.Tests.{not-true, not-false}
use Rattle.number.specs.Number.{is_real}
use Rattle.tile.specs.Tiles.{in_frame}
use Rattle.tile.proofs.Frame.{difference_fits, off-frame, by-scaled}
use Rattle.tile.proofs.difference.Goals as goal

pub returns-then-not-is_inside : goal.returns-then-not-is_inside
returns-then-not-is_inside c =
    let from-real = simp (to_z-of_z c.ranges.from) at (sym c.is_real.ensures ∙ not-false _ (ap not c.if-not-is_real.false)) in
    let to-real = simp (to_z-of_z c.ranges.to) at (sym c.is_real-else-not-is_real.ensures ∙ not-false _ (ap not c.if-not-is_real-2.false)) in
    let d : SFits w64 (c.args.to -ℤ c.args.from) = difference_fits c.args.from c.args.to from-real to-real in
    off-frame c.args.from c.args.to from-real to-real
    (simp (to_z-of_z c.ranges.to, to_z-of_z c.ranges.from, to_z-of_z d) at (sym c.is_inside.ensures ∙ not-true _ (ap not c.if-not-is_inside.true)))

pub returns : goal.returns
returns c =
    let from-real : is_real c.args.from ≡ true = simp (to_z-of_z c.ranges.from) at (sym c.is_real.ensures ∙ not-false _ (ap not c.if-not-is_real.false)) in
    let to-real : is_real c.args.to ≡ true = simp (to_z-of_z c.ranges.to) at (sym c.is_real-else-not-is_real.ensures ∙ not-false _ (ap not c.if-not-is_real-2.false)) in
    let d : SFits w64 (c.args.to -ℤ c.args.from) = difference_fits c.args.from c.args.to from-real to-real in
    let framed : in_frame (c.args.to -ℤ c.args.from) ≡ true = simp (to_z-of_z c.ranges.to, to_z-of_z c.ranges.from, to_z-of_z d) at (sym c.is_inside.ensures ∙ not-false _ (ap not c.if-not-is_inside.false)) in
    let e = by-scaled c.args.from c.args.to from-real to-real framed in
    cc (to_z-of_z c.ranges.to, to_z-of_z c.ranges.from, to_z-of_z d)
