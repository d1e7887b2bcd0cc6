-- `area::net_of` meets its contract: neither area is below 0, so their difference fits. Assumes nothing.
use Prim.Native.Nat.{◌<◌, ◌^◌}
use lib.Signed.{mag}
use borrow.Author.Rules.{rules}
use Rattle.area.proofs.AreaWays.{net-fits, net-is}
use Rattle.area.proofs.net_of.Goals as goal

pub overflow_sub-result : goal.overflow_sub-result
overflow_sub-result c =
    let x = c.in_ok-areas.areas in
    let f : mag x.outer < 2 ^ 63 = search rules in
    let g : mag x.inner < 2 ^ 63 = search rules in
    net-fits c.args.v c.args.islands.now c.args.points.now c.areas_of.result c.areas_of.ensures x.outer x.inner c.in_ok-areas.was f g

pub returns : goal.returns
returns c =
    let x = c.in_ok-areas.areas in
    let f : mag x.outer < 2 ^ 63 = search rules in
    let g : mag x.inner < 2 ^ 63 = search rules in
    net-is c.args.v c.args.islands.now c.args.points.now c.areas_of.result c.areas_of.ensures x.outer x.inner c.in_ok-areas.was f g
