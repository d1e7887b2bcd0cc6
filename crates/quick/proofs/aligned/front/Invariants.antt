-- `quick::front` meets its contract. Assumes nothing.
use Rattle.std.proofs.Common.{◌≡◌, ◌-◌, ◌^◌, true, take, drop}
use Rattle.laws.specs.Lists.{all}
use Rattle.number.specs.Number.{digit, value}
use Rattle.quick.proofs.aligned.front.Given as goal

abbrev pub invariant-loop-i : goal.invariant-loop-i
invariant-loop-i l = (l.power ≡ 10 ^ (8 - l.i)) × (all digit (take (8 - l.i) (drop l.i l.c)) ≡ true) × (l.value ≡ value 0 (take (8 - l.i) (drop l.i l.c)))
