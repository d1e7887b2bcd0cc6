-- `main` is safe and ends: what is written lies in its array. Assumes nothing.
use lib.ListN.{replicate}
use Rattle.laws.proofs.ListLaws.{part_count}
use Rattle.listing.proofs.ListLaws.{wrote-within}
use Rattle.convert.proofs.main.Goals as goal

pub slice_bounds-text-end : goal.slice_bounds-text-end
slice_bounds-text-end c = wrote-within _ (replicate 53248 0) _ _ c.convert_text.ensures.value c.convert_text.ensures.out_after _ c.in-Ok.is

pub slice_bounds-write_all-end : goal.slice_bounds-write_all-end
slice_bounds-write_all-end c = part_count _ _ (wrote-within _ (replicate 53248 0) _ _ c.convert_text.ensures.value c.convert_text.ensures.out_after _ c.in-Ok.is)
