-- `grid::centres_before` meets its contract. Assumes nothing.
use native.Mathlib.Omega.{arith}
use Rattle.grid.proofs.CentreWays.{centres-none, centres-cast, centres-bound, centres-are}
use Rattle.grid.proofs.centres_before.Goals as goal

pub overflow_cast-step : goal.overflow_cast-step
overflow_cast-step c = record { sfits = omega (arith, c.requires.1) }

pub returns-then-bound-step : goal.returns-then-bound-step
returns-then-bound-step c = centres-none _ _ c.ranges.bound c.requires.1 c.if-bound-step.true

pub overflow_cast-bound : goal.overflow_cast-bound
overflow_cast-bound c = centres-cast c.args.step _ c.ranges.bound c.requires.1 c.if-bound-step.false

pub centres_to-requires : goal.centres_to-requires
centres_to-requires c = (c.requires.0, c.requires.1, centres-bound c.args.step _ c.ranges.bound c.requires.1 c.if-bound-step.false c.requires.2)

pub returns : goal.returns
returns c = centres-are _ _ c.ranges.bound c.requires.1 c.if-bound-step.false _ c.centres_to.ensures
