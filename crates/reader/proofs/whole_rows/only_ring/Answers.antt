-- `reader::only_ring` meets its contract. Assumes nothing.
use Rattle.reader.proofs.RingLaws.{run_inside, run_ends}
use Rattle.reader.proofs.OnlyRing.{only_none, only-over}
use native.Mathlib.Omega.{arith}
use Rattle.reader.proofs.whole_rows.only_ring.Goals as goal

pub returns-then-n-eq0 : goal.returns-then-n-eq0
returns-then-n-eq0 c = only_none c.args.mode c.args.src.now c.args.at c.args.islands c.args.n c.if-n-eq0.true c.args.kind

pub overflow_mul-last : goal.overflow_mul-last
overflow_mul-last c = omega (arith, run_ends c.args.mode c.args.src.now c.args.at c.in_ok-width.width c.args.n c.in_ok-width.ensures c.if-n-lt2.false c.requires.1)

pub overflow_add-last : goal.overflow_add-last
overflow_add-last c = omega (arith, run_ends c.args.mode c.args.src.now c.args.at c.in_ok-width.width c.args.n c.in_ok-width.ensures c.if-n-lt2.false c.requires.1)

pub is_shut_there-requires : goal.is_shut_there-requires
is_shut_there-requires c = run_ends c.args.mode c.args.src.now c.args.at c.in_ok-width.width c.args.n c.in_ok-width.ensures c.if-n-lt2.false c.requires.1

pub overflow_mul-result : goal.overflow_mul-result
overflow_mul-result c = omega (arith, run_inside c.args.mode c.args.src.now c.args.at c.in_ok-width.width c.args.n c.in_ok-width.ensures c.requires.0, c.requires.1)

pub overflow_add-result : goal.overflow_add-result
overflow_add-result c = omega (arith, run_inside c.args.mode c.args.src.now c.args.at c.in_ok-width.width c.args.n c.in_ok-width.ensures c.requires.0, c.requires.1)

pub returns-then-is_shut_there : goal.returns-then-is_shut_there
returns-then-is_shut_there c = only-over c.args.mode c.args.src.now c.args.at c.args.islands c.args.n c.if-n-eq0.false c.if-islands-gt0.false c.if-n-lt2.false c.in_ok-width.width c.in_ok-width.ensures c.args.kind c.is_shut_there.result c.is_shut_there.ensures c.if-is_shut_there.true
