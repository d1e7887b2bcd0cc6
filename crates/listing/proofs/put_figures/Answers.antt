-- `put_figures` meets its contract: what is to come are the figures that are left, and the line end. Assumes nothing.
use lib.ListN.{get_or, drop}
use Prim.Native.Nat.{◌+◌}
use mathlib.Core.Path.{refl}
use mathlib.Core.List.{[]}
use Rattle.writer.proofs.Putting.{putting-start, putting-room, putting-on, putting-end, stored_on}
use Rattle.listing.specs.Listing.{line_feed, figure, figures}
use Rattle.listing.proofs.LineWays.{figures-on, figures-end}
use Rattle.listing.proofs.put_figures.Goals as goal

pub loop-n-init : goal.loop-n-init
loop-n-init c = putting-start _ _ _ c.requires

pub put_figure-next-requires : goal.put_figure-next-requires
put_figure-next-requires c = putting-room c.loop-n.invariant (figure (get_or c.args.s.now c.loop-n.n-index 0)) (figures (drop (c.loop-n.n-index + 1) c.args.s.now)) (figures-on c.args.s.now c.loop-n.n-index c.loop-n-test.true)

pub loop-n-preserved : goal.loop-n-preserved
loop-n-preserved c = putting-on c.loop-n.invariant _ _ (figures-on c.args.s.now c.loop-n.n-index c.loop-n-test.true) c.put_figure-next.ensures

pub returns : goal.returns
returns c = putting-end (stored_on c.loop-n.invariant line_feed [] (figures-end c.args.s.now c.loop-n.n-index c.loop-n-test.false) c.put_bytes.ensures) refl
