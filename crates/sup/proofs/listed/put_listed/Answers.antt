-- `put_listed` meets its contract: the lines in row order, then arranged. Assumes nothing.
use Rattle.made.specs.Made.{tables}
use Rattle.sup.proofs.RawPuts.{list-room, list-from, list-to, list_done}
use Rattle.sup.proofs.listed.put_listed.Goals as goal

pub put_raws-end-requires : goal.put_raws-end-requires
put_raws-end-requires c =
    record { points_value = c.requires.points_value_2; points_value_2 = c.requires.points_value_3; points_in_bounds = list-room c.args.sheet.now.header c.args.sheet.now.count (tables c.args.sheet.now.lent) c.sized.ensures.small c.requires.points_value c.requires.points_value_2 c.requires.points_value_3 c.args.out.now c.args.at c.requires.points_in_bounds }

pub slice_bounds-arrange-count : goal.slice_bounds-arrange-count
slice_bounds-arrange-count c =
    list-from c.args.sheet.now.header c.args.sheet.now.count (tables c.args.sheet.now.lent) c.sized.ensures.small c.requires.points_value c.requires.points_value_2 c.requires.points_value_3 c.args.out.now c.args.at c.requires.points_in_bounds c.put_raws-end.ensures

pub slice_bounds-arrange-start : goal.slice_bounds-arrange-start
slice_bounds-arrange-start c =
    list-from c.args.sheet.now.header c.args.sheet.now.count (tables c.args.sheet.now.lent) c.sized.ensures.small c.requires.points_value c.requires.points_value_2 c.requires.points_value_3 c.args.out.now c.args.at c.requires.points_in_bounds c.put_raws-end.ensures

pub slice_bounds-arrange-end : goal.slice_bounds-arrange-end
slice_bounds-arrange-end c =
    list-to c.args.sheet.now.header c.args.sheet.now.count (tables c.args.sheet.now.lent) c.sized.ensures.small c.requires.points_value c.requires.points_value_2 c.requires.points_value_3 c.args.out.now c.args.at c.requires.points_in_bounds c.put_raws-end.ensures

pub returns : goal.returns
returns c =
    list_done c.args.sheet.now.header c.args.sheet.now.count (tables c.args.sheet.now.lent) c.sized.ensures.small c.requires.points_value c.requires.points_value_2 c.requires.points_value_3 c.args.out.now c.args.at c.requires.points_in_bounds c.put_raws-end.ensures _ c.arrange.ensures
