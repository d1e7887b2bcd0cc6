-- `plane::is_narrow` meets its contract: the frame tells. Assumes nothing.
use mathlib.Core.Path.{sym, ◌∙◌}
use native.Mathlib.Omega.{arith}
use Rattle.laws.proofs.Bits.{back}
use Rattle.plane.proofs.RingLaws.{held-has, narrow-not-held}
use Rattle.plane.proofs.FrameWays.{frame-narrow}
use Rattle.plane.proofs.is_narrow.Goals as goal

pub returns-then-not-is_ring : goal.returns-then-not-is_ring
returns-then-not-is_ring c = narrow-not-held c.args.points.now c.args.from c.args.count (sym c.is_ring.ensures ∙ c.if-not-is_ring.true)

pub x_of-requires : goal.x_of-requires
x_of-requires c = let h = held-has _ _ _ (sym c.is_ring.ensures ∙ c.if-not-is_ring.false) in omega (arith, h.0, h.2)

pub y_of-requires : goal.y_of-requires
y_of-requires c = let h = held-has _ _ _ (sym c.is_ring.ensures ∙ c.if-not-is_ring.false) in omega (arith, h.0, h.2)

pub returns : goal.returns
returns c =
    let f = c.frame_of-frame in
    rw (back c.x_of.result c.x_of.type_inv, back c.y_of.result c.y_of.type_inv, c.x_of.ensures, c.y_of.ensures) at c.is_near.ensures
    ∙ frame-narrow c.args.points.now c.args.from c.args.count f.result.west f.result.east f.result.south f.result.north f.ensures.0 f.ensures.1 f.ensures.2 f.ensures.3 (sym c.is_ring.ensures ∙ c.if-not-is_ring.false)
