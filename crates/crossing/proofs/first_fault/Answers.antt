-- `crossing::first_fault` meets its contract: a ring that is held and narrow may be searched.
use mathlib.Core.Path.{◌≡◌, sym, ◌∙◌}
use Prim.Native.Nat.{◌+◌, ◌-◌}
use native.Mathlib.Omega.{arith}
use lib.ListN.{length}
use Rattle.plane.proofs.RingLaws.{held-has, narrow-near}
use Rattle.crossing.proofs.first_fault.Goals as goal

pub overflow_sub-count : goal.overflow_sub-count
overflow_sub-count c =
    omega (arith, held-has (length c.args.points.now) c.args.from c.args.count (sym c.is_ring.ensures ∙ c.if-not-is_ring.false))

pub search-requires : goal.search-requires
search-requires c =
    let h = held-has (length c.args.points.now) c.args.from c.args.count (sym c.is_ring.ensures ∙ c.if-not-is_ring.false) in
    let e : c.args.count - 1 + 1 ≡ c.args.count = omega (arith, h) in
    (omega (arith, h), rw e (narrow-near c.args.points.now c.args.from c.args.count (sym c.is_narrow.ensures ∙ c.if-not-is_narrow.false)))
