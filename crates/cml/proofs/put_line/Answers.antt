-- `put_line` meets its contract: the start tag, the points, the end tag. Assumes nothing.
use Prim.Native.Nat.{◌*◌}
use mathlib.Core.Path.{sym}
use lib.Seq.{length-take-le}
use borrow.Author.Rules.{rules}
use Rattle.cml.proofs.LineWays.{vertices-asks, tag-room, pairs-room, element-put}
use Rattle.cml.proofs.put_line.Goals as goal

pub put_tag-tag_end-requires : goal.put_tag-tag_end-requires
put_tag-tag_end-requires c = search (tag-room, rules)

pub slice_bounds-put_coordinates-end : goal.slice_bounds-put_coordinates-end
slice_bounds-put_coordinates-end c =
    sym (length-take-le (2 * c.count_at-n.result) c.args.points.now (rw c.count_at-n.ensures c.requires.drawn.0.held))

pub put_coordinates-points_end-requires : goal.put_coordinates-points_end-requires
put_coordinates-points_end-requires c =
    record { s_value = (vertices-asks c.args.rows.now c.args.points.now c.requires.drawn.0 c.count_at-n.ensures).2; s_in_bounds = pairs-room c.args.rows.now c.args.points.now c.requires.drawn.0 c.requires.drawn.1 c.args.out.now c.args.at c.requires.points_in_bounds c.count_at-outside.ensures c.count_at-code.ensures c.count_at-n.ensures c.put_tag-tag_end.ensures c.put_bytes-begun.ensures }

pub returns : goal.returns
returns c = search (element-put, rules)
