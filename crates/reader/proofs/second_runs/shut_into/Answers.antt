-- `reader::shut_into` meets its contract. Assumes nothing.
use mathlib.Core.Bool.{not}
use mathlib.Core.Path.{ap}
use Rattle.reader.proofs.Running.{shut-asks, ended-asks, shut-kept, shut-most, shut-stored}
use native.Mathlib.Omega.{arith}
use borrow.Author.Tests.{not-false}
use borrow.Author.Rules.{rules}
use Rattle.reader.proofs.second_runs.shut_into.Goals as goal

pub overflow_add-p : goal.overflow_add-p
overflow_add-p c = omega (arith, c.requires.points)

pub overflow_mul-p : goal.overflow_mul-p
overflow_mul-p c = omega (arith, c.requires.points)

pub is_ending-requires : goal.is_ending-requires
is_ending-requires c = c.requires.left

pub past_at-requires : goal.past_at-requires
past_at-requires c = shut-asks c.args.mode c.args.src.now c.args.d c.args.r c.args.k c.args.at c.requires

pub returns-then-not-is_ending : goal.returns-then-not-is_ending
returns-then-not-is_ending c = shut-kept c.args.mode c.args.src.now c.args.d c.args.r c.args.k c.args.at c.requires _ _ c.past_at.ensures

pub overflow_add-p-2 : goal.overflow_add-p-2
overflow_add-p-2 c = omega (arith, c.requires.points)

pub past_at-requires-then-p-points : goal.past_at-requires-then-p-points
past_at-requires-then-p-points c = shut-asks c.args.mode c.args.src.now c.args.d c.args.r c.args.k c.args.at c.requires

pub returns-then-p-points : goal.returns-then-p-points
returns-then-p-points c = shut-kept c.args.mode c.args.src.now c.args.d c.args.r c.args.k c.args.at c.requires _ _ c.past_at-then-p-points.ensures

pub past_at-requires-in_default : goal.past_at-requires-in_default
past_at-requires-in_default c = shut-asks c.args.mode c.args.src.now c.args.d c.args.r c.args.k c.args.at c.requires

pub returns-in_default : goal.returns-in_default
returns-in_default c = shut-kept c.args.mode c.args.src.now c.args.d c.args.r c.args.k c.args.at c.requires _ _ c.past_at-in_default.ensures

pub put_real-requires : goal.put_real-requires
put_real-requires c = (omega (arith, c.if-p-points.false), (shut-most c.args.mode c.args.src.now c.args.d c.args.r c.args.k c.args.at c.requires (c.is_ending.ensures (not-false _ (ap not c.if-not-is_ending.false))) c.in-Some.f.x c.in-Some.f.y c.in-Some.f.next c.in-Some.ensures c.is_shut.result c.is_shut.ensures c.if-is_shut.true).0)

pub put_real-requires-then-is_shut : goal.put_real-requires-then-is_shut
put_real-requires-then-is_shut c = (search rules, (shut-most c.args.mode c.args.src.now c.args.d c.args.r c.args.k c.args.at c.requires (c.is_ending.ensures (not-false _ (ap not c.if-not-is_ending.false))) c.in-Some.f.x c.in-Some.f.y c.in-Some.f.next c.in-Some.ensures c.is_shut.result c.is_shut.ensures c.if-is_shut.true).1)

pub overflow_add-k : goal.overflow_add-k
overflow_add-k c = omega (arith, c.requires.points)

pub ended_at-requires : goal.ended_at-requires
ended_at-requires c = ended-asks c.args.mode c.args.src.now c.args.d c.args.r c.args.k c.args.at c.requires

pub returns-then-is_shut : goal.returns-then-is_shut
returns-then-is_shut c = shut-stored c.args.mode c.args.src.now c.args.d c.args.r c.args.k c.args.at c.requires (c.is_ending.ensures (not-false _ (ap not c.if-not-is_ending.false))) c.in-Some.f.x c.in-Some.f.y c.in-Some.f.next c.in-Some.ensures c.is_shut.result c.is_shut.ensures c.if-is_shut.true _ _ _ c.put_real.ensures c.put_real-then-is_shut.ensures _ c.ended_at.ensures

pub past_at-requires-2 : goal.past_at-requires-2
past_at-requires-2 c = shut-asks c.args.mode c.args.src.now c.args.d c.args.r c.args.k c.args.at c.requires

pub returns : goal.returns
returns c = shut-kept c.args.mode c.args.src.now c.args.d c.args.r c.args.k c.args.at c.requires _ _ c.past_at-2.ensures
