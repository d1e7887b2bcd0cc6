-- `tally::are_fit` meets its contract: a count that no signed number holds does not fit. Assumes nothing.
use Rattle.tally.proofs.AddWays.{fit-huge}
use Rattle.tally.proofs.are_fit.Goals as goal

pub returns-in_default : goal.returns-in_default
returns-in_default c = fit-huge c.args.a c.args.b c.args.c c.args.d c.args.outer c.args.islands c.args.inner c.in_default.ensures
