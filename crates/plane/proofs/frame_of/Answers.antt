-- `plane::frame_of` meets its contract: the loop keeps the least and the greatest so far. Assumes nothing.
use mathlib.Core.Path.{◌≡◌, ◌∙◌, sym, ap}
use Prim.Native.Nat.{◌+◌}
use native.Mathlib.Nat.{add-zero}
use native.Mathlib.Omega.{arith}
use Rattle.plane.specs.Rings.{x-at, y-at}
use Rattle.plane.proofs.RingLaws.{held-has}
use Rattle.plane.proofs.FrameWays.{first-least, first-greatest, next-least, next-greatest}
use Rattle.plane.proofs.frame_of.Goals as goal

pub loop-k-init : goal.loop-k-init
loop-k-init c = let ps = c.args.points.now in let from = c.args.from in (first-least (λ j. x-at ps (from + j)) _ (c.x_of-west.ensures ∙ ap (x-at ps) (sym (add-zero from))) c.x_of-west.type_inv, first-greatest (λ j. x-at ps (from + j)) _ (c.x_of-east.ensures ∙ ap (x-at ps) (sym (add-zero from))) c.x_of-east.type_inv, first-least (λ j. y-at ps (from + j)) _ (c.y_of-south.ensures ∙ ap (y-at ps) (sym (add-zero from))) c.y_of-south.type_inv, first-greatest (λ j. y-at ps (from + j)) _ (c.y_of-north.ensures ∙ ap (y-at ps) (sym (add-zero from))) c.y_of-north.type_inv)

pub loop-k-preserved : goal.loop-k-preserved
loop-k-preserved c = let ps = c.args.points.now in let from = c.args.from in let i = c.loop-k.invariant in (next-least (λ j. x-at ps (from + j)) _ _ _ _ i.0 c.x_of-x.ensures c.x_of-x.type_inv c.lower-west.ensures c.lower-west.type_inv, next-greatest (λ j. x-at ps (from + j)) _ _ _ _ i.1 c.x_of-x.ensures c.x_of-x.type_inv c.higher-east.ensures c.higher-east.type_inv, next-least (λ j. y-at ps (from + j)) _ _ _ _ i.2 c.y_of-y.ensures c.y_of-y.type_inv c.lower-south.ensures c.lower-south.type_inv, next-greatest (λ j. y-at ps (from + j)) _ _ _ _ i.3 c.y_of-y.ensures c.y_of-y.type_inv c.higher-north.ensures c.higher-north.type_inv)

pub returns : goal.returns
returns c = let h = held-has _ _ _ c.requires in let e : c.loop-k.k ≡ c.args.count = omega (arith, h.0) in rw (← e) c.loop-k.invariant
