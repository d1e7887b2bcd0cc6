-- `reader::ring_skim` meets its contract. Assumes nothing.
use mathlib.Core.Bool.{not}
use mathlib.Core.Path.{ap}
use Rattle.reader.proofs.RingLaws.{ring-whole, whole-counted, run_inside, run_ends, skim-on}
use Rattle.reader.specs.Turn.{still}
use native.Mathlib.Omega.{arith}
use Rattle.reader.proofs.ring_runs.ring_skim.Goals as goal

pub returns-in_default : goal.returns-in_default
returns-in_default c = still

pub returns-then-not-is_whole : goal.returns-then-not-is_whole
returns-then-not-is_whole c = still

pub overflow_mul-n : goal.overflow_mul-n
overflow_mul-n c = omega (arith, ring-whole c.args.mode c.args.src.now c.args.d c.requires _ c.in-X.is c.is_whole.result c.is_whole.ensures (ap not c.if-not-is_whole.false), c.requires.small)

pub returns-in_default-judged_width : goal.returns-in_default-judged_width
returns-in_default-judged_width c = still

pub overflow_sub-last : goal.overflow_sub-last
overflow_sub-last c = omega (arith, ring-whole c.args.mode c.args.src.now c.args.d c.requires _ c.in-X.is c.is_whole.result c.is_whole.ensures (ap not c.if-not-is_whole.false))

pub overflow_mul-last : goal.overflow_mul-last
overflow_mul-last c = omega (arith, run_ends c.args.mode c.args.src.now c.args.d.at c.in-Some.width _ c.in-Some.ensures (ring-whole c.args.mode c.args.src.now c.args.d c.requires _ c.in-X.is c.is_whole.result c.is_whole.ensures (ap not c.if-not-is_whole.false)).1 c.requires.small)

pub overflow_add-last : goal.overflow_add-last
overflow_add-last c = omega (arith, run_ends c.args.mode c.args.src.now c.args.d.at c.in-Some.width _ c.in-Some.ensures (ring-whole c.args.mode c.args.src.now c.args.d c.requires _ c.in-X.is c.is_whole.result c.is_whole.ensures (ap not c.if-not-is_whole.false)).1 c.requires.small)

pub is_shut_there-requires : goal.is_shut_there-requires
is_shut_there-requires c = run_ends c.args.mode c.args.src.now c.args.d.at c.in-Some.width _ c.in-Some.ensures (ring-whole c.args.mode c.args.src.now c.args.d c.requires _ c.in-X.is c.is_whole.result c.is_whole.ensures (ap not c.if-not-is_whole.false)).1 c.requires.small

pub returns-then-not-is_shut_there : goal.returns-then-not-is_shut_there
returns-then-not-is_shut_there c = still

pub overflow_mul-width : goal.overflow_mul-width
overflow_mul-width c = omega (arith, run_inside c.args.mode c.args.src.now c.args.d.at c.in-Some.width _ c.in-Some.ensures c.requires.here, c.requires.small)

pub overflow_add-d : goal.overflow_add-d
overflow_add-d c = omega (arith, run_inside c.args.mode c.args.src.now c.args.d.at c.in-Some.width _ c.in-Some.ensures c.requires.here, c.requires.small)

pub past_ring-requires : goal.past_ring-requires
past_ring-requires c = whole-counted c.args.mode c.args.src.now c.args.d c.requires _ c.in-X.is c.is_whole.result c.is_whole.ensures (ap not c.if-not-is_whole.false) c.size_at.result c.size_at.ensures

pub returns : goal.returns
returns c = skim-on c.args.mode c.args.src.now c.args.d c.requires _ c.in-X.is c.is_whole.result c.is_whole.ensures (ap not c.if-not-is_whole.false) c.size_at.result c.size_at.ensures c.in-Some.width c.in-Some.ensures c.past_ring.result c.past_ring.ensures c.is_shut_there.result c.is_shut_there.ensures (ap not c.if-not-is_shut_there.false)
