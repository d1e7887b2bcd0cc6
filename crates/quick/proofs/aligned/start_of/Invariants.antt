-- `quick::start_of` meets its contract. Assumes nothing.
use Rattle.std.proofs.Common.{◌≡◌, true}
use Rattle.laws.specs.Lists.{all}
use Rattle.number.specs.Number.{digit}
use Rattle.quick.specs.Neat.{to_point}
use Rattle.quick.proofs.aligned.start_of.Given as goal

abbrev pub invariant-loop-i : goal.invariant-loop-i
invariant-loop-i l = all digit (to_point l.c l.i) ≡ true
