-- `made::has` meets its contract: each test is the schedule's, by computation. Assumes nothing.
use Rattle.std.proofs.Common.{ℕ, refl, arith}
use mathlib.Core.Bool.{not, ◌||◌}
use lib.Dec.{eqb, ltb}
use Rattle.laws.specs.Lists.{below, holds}
use Rattle.kinds.specs.Kinds.{schedule}
use Rattle.made.specs.Made.{has_field}
use Rattle.made.proofs.FieldWays.{has-at, has-two, has-none}
use Rattle.made.proofs.numbers.has.Goals as goal

pub returns-in-2 : goal.returns-in-2
unfolding below has_field holds schedule
returns-in-2 c = rw (c.is_among.ensures, c.in-2.is) (has-at (λ (k : ℕ). not (eqb k 1 || (eqb k 2 || eqb k 6))) 2 refl c.args.kind c.requires.0 c.requires.1)

pub returns-in-3 : goal.returns-in-3
unfolding below has_field holds schedule
returns-in-3 c = rw c.in-3.is (has-at (λ (k : ℕ). ltb k 3) 3 refl c.args.kind c.requires.0 c.requires.1)

pub returns-in-4 : goal.returns-in-4
unfolding below has_field holds schedule
returns-in-4 c = rw c.in-4.is (has-at (λ (k : ℕ). ltb k 4) 4 refl c.args.kind c.requires.0 c.requires.1)

pub returns-in-5 : goal.returns-in-5
unfolding below has_field holds schedule
returns-in-5 c = has-two (λ (k : ℕ). ltb k 5) 5 refl refl c.args.place (omega arith) (omega arith) c.args.kind c.requires.0 c.requires.1

pub returns-in-7 : goal.returns-in-7
unfolding below has_field holds schedule
returns-in-7 c = rw c.is_either-in-7.ensures (has-two (λ (k : ℕ). eqb k 1 || eqb k 4) 7 refl refl c.args.place (omega arith) (omega arith) c.args.kind c.requires.0 c.requires.1)

pub returns-in-9 : goal.returns-in-9
unfolding below has_field holds schedule
returns-in-9 c = rw (c.is_either.ensures, c.in-9.is) (has-at (λ (k : ℕ). not (eqb k 3 || eqb k 5)) 9 refl c.args.kind c.requires.0 c.requires.1)

pub returns-in-10 : goal.returns-in-10
unfolding below has_field holds schedule
returns-in-10 c = rw c.in-10.is (has-at (λ (k : ℕ). ltb k 2) 10 refl c.args.kind c.requires.0 c.requires.1)

pub returns-in-11 : goal.returns-in-11
unfolding below has_field holds schedule
returns-in-11 c = rw (c.is_among-in-11.ensures, c.in-11.is) (has-at (λ (k : ℕ). eqb k 1 || (eqb k 5 || eqb k 7)) 11 refl c.args.kind c.requires.0 c.requires.1)

pub returns-in_default : goal.returns-in_default
returns-in_default c = has-none c.args.place (omega arith) c.args.kind c.requires.0 c.requires.1
