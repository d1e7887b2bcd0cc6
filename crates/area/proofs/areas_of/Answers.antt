-- `area::areas_of` meets its contract: an outer ring leaves the islands what they have. Assumes nothing.
use native.Mathlib.Omega.{arith}
use Rattle.area.proofs.AreaWays.{inner_room}
use Rattle.area.proofs.areas_of.Goals as goal

pub total_area-requires : goal.total_area-requires
total_area-requires c =
    omega (arith, inner_room c.args.v c.args.islands.now c.args.points.now (omega arith) _ c.outer_of-n.ensures _ c.doubled_area.ensures _ c.in_ok-outer.was)
