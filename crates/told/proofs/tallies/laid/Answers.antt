-- `laid` lays a tally out. Assumes nothing.
use mathlib.Core.Path.{ap}
use Rattle.made.specs.declared.Fault.{Fault}
use Rattle.told.proofs.tallies.laid.Goals as goal

pub returns : goal.returns
returns c = ap (λ (f : Fault). record { number = f.number; row = f.row; figures = c.args.t.figures }) c.refused_of-f.ensures
