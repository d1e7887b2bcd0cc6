-- `put_raw` meets its contract: the left field, the figure's bytes, and the line's end. Assumes nothing.
use Rattle.sup.proofs.RawPuts.{raw-narrow, raw-asks, raw-put}
use Rattle.sup.proofs.listed.put_raw.Goals as goal

pub raw_field-field-requires : goal.raw_field-field-requires
raw_field-field-requires c = raw-narrow c.args.lent.now.rows.now c.args.lent.now.letters.now c.args.lent.now.islands.now c.args.lent.now.points.now c.args.d _ c.metres_at.ensures c.metres_at.type_inv c.requires.d_len_bound.1

pub put_left-next-requires : goal.put_left-next-requires
put_left-next-requires c = raw-asks c.args.lent.now.rows.now c.args.lent.now.letters.now c.args.lent.now.islands.now c.args.lent.now.points.now c.args.d _ c.metres_at.ensures c.metres_at.type_inv _ c.raw_field-field.ensures _ c.letters_at.ensures c.args.out.now c.args.at c.requires.d_len_bound.0 c.requires.d_in_bounds

pub returns : goal.returns
returns c = raw-put c.args.lent.now.rows.now c.args.lent.now.letters.now c.args.lent.now.islands.now c.args.lent.now.points.now c.args.d _ c.metres_at.ensures c.metres_at.type_inv _ c.raw_field-field.ensures _ c.letters_at.ensures _ _ c.requires.d_in_bounds c.put_left-next.ensures c.put_bytes-end.ensures c.put_bytes.ensures
