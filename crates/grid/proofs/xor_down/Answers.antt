-- `grid::xor_down` meets its contract: its ends are fetched, and lie within reach. Assumes nothing.
use Rattle.grid.proofs.EdgeWays.{near-x, near-y, by-north, east-within, south-within, south-rows, down-done}
use Rattle.grid.proofs.xor_down.Goals as goal

pub east_of-nx-requires : goal.east_of-nx-requires
east_of-nx-requires c = (c.requires.1, near-x c.args.points.now _ _ c.ranges.cx c.ranges.cy _ c.requires.3)

pub south_of-nv-requires : goal.south_of-nv-requires
south_of-nv-requires c = (c.requires.1, near-y c.args.points.now _ _ c.ranges.cx c.ranges.cy _ c.requires.3)

pub east_of-sx-requires : goal.east_of-sx-requires
east_of-sx-requires c = (c.requires.2, near-x c.args.points.now _ _ c.ranges.cx c.ranges.cy _ c.requires.4)

pub south_of-sv-requires : goal.south_of-sv-requires
south_of-sv-requires c = (c.requires.2, near-y c.args.points.now _ _ c.ranges.cx c.ranges.cy _ c.requires.4)

pub xor_span-requires : goal.xor_span-requires
xor_span-requires c = (c.requires.0, east-within c.args.points.now _ _ c.ranges.cx c.ranges.cy _ c.requires.3 _ c.east_of-nx.ensures c.east_of-nx.type_inv, south-within c.args.points.now _ c.ranges.cy _ _ c.south_of-nv.ensures c.south_of-nv.type_inv (by-north c.args.points.now _ _ c.ranges.cx c.ranges.cy _ c.requires.3), east-within c.args.points.now _ _ c.ranges.cx c.ranges.cy _ c.requires.4 _ c.east_of-sx.ensures c.east_of-sx.type_inv, south-within c.args.points.now _ c.ranges.cy _ _ c.south_of-sv.ensures c.south_of-sv.type_inv (by-north c.args.points.now _ _ c.ranges.cx c.ranges.cy _ c.requires.4), south-rows c.args.points.now _ c.ranges.cy _ _ c.south_of-nv.ensures c.south_of-nv.type_inv _ _ c.requires.5, south-rows c.args.points.now _ c.ranges.cy _ _ c.south_of-sv.ensures c.south_of-sv.type_inv _ _ c.requires.6, c.requires.7, c.requires.8)

pub returns : goal.returns
returns c = down-done c.args.points.now _ _ c.ranges.cx c.ranges.cy _ _ _ _ _ _ _ c.east_of-nx.ensures c.south_of-nv.ensures c.east_of-sx.ensures c.south_of-sv.ensures c.east_of-nx.type_inv c.south_of-nv.type_inv c.east_of-sx.type_inv c.south_of-sv.type_inv _ _ c.xor_span.ensures
