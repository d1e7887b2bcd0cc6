-- `list_text` meets its contract: the text in an array of its own, then the copy. Assumes nothing.
use Rattle.laws.proofs.ListLaws.{part_count}
use Rattle.listing.proofs.ReadWays.{text_in, text-handed}
use Rattle.listing.proofs.list_text.Goals as goal

pub slice_bounds-text-end : goal.slice_bounds-text-end
slice_bounds-text-end c = text_in _ _ _ _ c.put_listing-size.ensures

pub slice_bounds-put_text-end : goal.slice_bounds-put_text-end
slice_bounds-put_text-end c = part_count _ _ (text_in _ _ _ _ c.put_listing-size.ensures)

pub returns : goal.returns
returns c =
    let said = text-handed _ _ _ _ c.put_listing-size.ensures _ _ _ c.put_text.ensures.value c.put_text.ensures.out_after
    in record { value = said.0; out_after = said.1 }
