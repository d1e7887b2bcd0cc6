-- `cursor::nth` meets its contract: the record wanted is, from the place reached, the one of the number that is left. Assumes nothing.
use Prim.Native.Nat.{◌-◌}
use mathlib.Core.Path.{◌≡◌}
use Rattle.cursor.specs.Cursor.{nth_from, nth_record}
use Rattle.cursor.proofs.nth.Given as goal

abbrev pub invariant-loop : goal.invariant-loop
invariant-loop l = nth_record l.fn.src l.fn.mode l.n l.due ≡ nth_from l.c.src.now l.c.mode l.due (l.n - l.counter) l.c.at
