-- `refused_text` meets its contract: the line in an array of its own, then the copy. Assumes nothing.
use borrow.Author.Rules.{rules}
use Rattle.laws.proofs.ListLaws.{part_count}
use Rattle.listing.proofs.ReadWays.{refused-fits, text_in, text-handed}
use Rattle.listing.proofs.refused_text.Goals as goal

pub put_refused-size-requires : goal.put_refused-size-requires
put_refused-size-requires c = refused-fits c.args.number c.args.place c.args.offset c.args.column _ (search rules)

pub slice_bounds-text-end : goal.slice_bounds-text-end
slice_bounds-text-end c = text_in _ _ _ _ c.put_refused-size.ensures

pub slice_bounds-put_text-end : goal.slice_bounds-put_text-end
slice_bounds-put_text-end c = part_count _ _ (text_in _ _ _ _ c.put_refused-size.ensures)

pub returns : goal.returns
returns c =
    let said = text-handed _ _ _ _ c.put_refused-size.ensures _ _ _ c.put_text.ensures.value c.put_text.ensures.out_after
    in record { value = said.0; out_after = said.1 }
