-- `number::value_of` reads a few digits. Invariant: `v` is what those passed spell, below a power of 10, and the rest goes on from it. Assumes nothing.
use Rattle.std.proofs.Common.{◌≡◌, ◌^◌, ◌<◌, true, drop}
use Rattle.laws.specs.Lists.{all}
use Rattle.number.specs.Number.{digit, value}
use Rattle.number.proofs.value_of.Given as goal

abbrev pub invariant-loop-b : goal.invariant-loop-b
invariant-loop-b l = (value 0 l.s ≡ value l.v (drop l.b-index l.s)) × (all digit (drop l.b-index l.s) ≡ true) × (l.v < 10 ^ l.b-index)
