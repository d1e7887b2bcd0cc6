-- `vectors::print_sheet` is safe: what is printed and compared lies in the texts. Assumes nothing.
use Rattle.laws.proofs.ListLaws.{part_count}
use Rattle.vectors.proofs.print_sheet.Goals as goal

pub slice_bounds-write_all-end-2 : goal.slice_bounds-write_all-end-2
slice_bounds-write_all-end-2 c = part_count _ _ c.pad-n.ensures

pub slice_bounds-pad-end-2 : goal.slice_bounds-pad-end-2
slice_bounds-pad-end-2 c = part_count _ _ c.pad-n.ensures

pub slice_bounds-eq-end-2 : goal.slice_bounds-eq-end-2
slice_bounds-eq-end-2 c = part_count _ _ c.pad-n.ensures

pub slice_bounds-eq-end-4 : goal.slice_bounds-eq-end-4
slice_bounds-eq-end-4 c = part_count _ _ c.pad-m.ensures
