-- `reader::only_into` meets its contract. Assumes nothing.
use mathlib.Core.Bool.{not}
use mathlib.Core.Path.{ap}
use Rattle.reader.proofs.RingLaws.{run_inside, run_room}
use Rattle.reader.proofs.OnlyRing.{into-none, only-stored, trusts}
use borrow.Author.Tests.{not-false}
use native.Mathlib.Omega.{arith}
use Rattle.reader.proofs.whole_rows.only_into.Goals as goal

pub returns-then-n-eq0 : goal.returns-then-n-eq0
returns-then-n-eq0 c = into-none c.args.mode c.args.src.now c.args.at c.args.islands c.args.n c.args.from c.args.points.now c.if-n-eq0.true

pub trusted_width-requires : goal.trusted_width-requires
trusted_width-requires c = trusts c.args.mode c.args.src.now c.args.at c.args.islands c.args.n c.requires.usual c.if-n-eq0.false c.if-islands-gt0.false

pub overflow_mul-from : goal.overflow_mul-from
overflow_mul-from c = omega (arith, c.holds_ring.ensures (not-false c.holds_ring.result (ap not c.if-not-holds_ring.false)), c.ranges)

pub values_into-requires : goal.values_into-requires
values_into-requires c = run_room c.args.mode c.args.src.now c.args.at c.in_ok-width.width c.args.n c.args.from c.in_ok-width.ensures c.requires.at_in_bounds.1 c.requires.at_in_bounds.0 c.args.points.now c.holds_ring.result c.holds_ring.ensures (ap not c.if-not-holds_ring.false)

pub overflow_mul-result : goal.overflow_mul-result
overflow_mul-result c = omega (arith, run_inside c.args.mode c.args.src.now c.args.at c.in_ok-width.width c.args.n c.in_ok-width.ensures c.requires.at_in_bounds.0, c.requires.at_in_bounds.1)

pub overflow_add-result : goal.overflow_add-result
overflow_add-result c = omega (arith, run_inside c.args.mode c.args.src.now c.args.at c.in_ok-width.width c.args.n c.in_ok-width.ensures c.requires.at_in_bounds.0, c.requires.at_in_bounds.1)

pub returns : goal.returns
returns c = only-stored c.args.mode c.args.src.now c.args.at c.args.islands c.args.n c.if-n-eq0.false c.if-islands-gt0.false c.if-n-lt2.false c.in_ok-width.width c.in_ok-width.ensures c.args.from c.args.points.now _ c.values_into.ensures
