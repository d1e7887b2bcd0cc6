-- `heading::is_formed` meets its contract: the bytes passed are formed, and the rest decides. Assumes nothing.
use Rattle.std.proofs.Common.{◌≡◌, drop}
use Rattle.laws.specs.Lists.{all_at}
use Rattle.heading.specs.Heading.{name_byte}
use Rattle.heading.proofs.is_formed.Given as goal

abbrev pub invariant-loop-i : goal.invariant-loop-i
invariant-loop-i l = all_at name_byte 0 l.s ≡ all_at name_byte l.i (drop l.i l.s)
