-- `put_figures` meets its contract: what is to come are the figures that are left, and the line end. Assumes nothing.
use lib.ListN.{drop}
use Rattle.writer.proofs.Putting.{Putting}
use Rattle.listing.specs.Listing.{figures}
use Rattle.listing.proofs.put_figures.Given as goal

abbrev pub invariant-loop-n : goal.invariant-loop-n
invariant-loop-n l = Putting l.initial.out l.at (figures l.s) l.out l.next (figures (drop l.n-index l.s))
