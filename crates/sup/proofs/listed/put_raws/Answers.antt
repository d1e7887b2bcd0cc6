-- `put_raws` meets its contract: the lines of the rows behind the walk are stored. Assumes nothing.
use mathlib.Core.Path.{◌∙◌}
use Rattle.sup.proofs.ListedWays.{listed-own}
use Rattle.made.specs.Made.{tables}
use Rattle.sup.proofs.RawPuts.{raws-start, raws-end, raws-fits, raws-narrow, raws-room, raws-on, raws-past}
use Rattle.sup.proofs.listed.put_raws.Goals as goal
use Rattle.sup.proofs.listed.put_raws.Goals.{then-is_in_sup, else-is_in_sup}

pub loop-init : goal.loop-init
loop-init c = raws-start c.args.sheet.now.header c.args.sheet.now.count (tables c.args.sheet.now.lent) c.args.out.now c.args.at c.requires.points_value c.requires.points_value_2 c.requires.points_in_bounds

pub put_raw-next-requires : goal.put_raw-next-requires
put_raw-next-requires c = let g = c.loop.invariant in let e = c.loop-test.true in let q = c.is_in_sup.ensures ∙ listed-own c.args.sheet.now.header c.args.sheet.now.lent.rows.now c.args.sheet.now.lent.letters.now c.args.sheet.now.lent.islands.now c.args.sheet.now.lent.points.now c.loop.d in let f = c.if-is_in_sup.true in record { d_len_bound = (raws-fits g e _ q f, raws-narrow g e _ q f); d_in_bounds = raws-room g e _ q f }

pub loop-preserved : goal.loop-preserved
loop-preserved c = let g = c.loop.invariant in let e = c.loop-test.true in let q = c.is_in_sup.ensures ∙ listed-own c.args.sheet.now.header c.args.sheet.now.lent.rows.now c.args.sheet.now.lent.letters.now c.args.sheet.now.lent.islands.now c.args.sheet.now.lent.points.now c.loop.d in elim c.if-is_in_sup.branch [ then-is_in_sup w ↦ raws-on g e _ q w.if-is_in_sup.true w.put_raw-next.ensures c.if-is_in_sup.out c.if-is_in_sup.next c.stand_next-d.result w.out-is w.next-is c.stand_next-d.ensures | else-is_in_sup w ↦ raws-past g e _ q w.if-is_in_sup.false c.if-is_in_sup.out c.if-is_in_sup.next c.stand_next-d.result w.out-is w.next-is c.stand_next-d.ensures ]

pub shape_of-out : goal.shape_of-out
shape_of-out c = c.loop.invariant.puts.size

pub returns : goal.returns
returns c = raws-end c.loop.invariant c.loop-test.false
