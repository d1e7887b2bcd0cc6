-- `reader::ring_into` meets its contract. Assumes nothing.
use mathlib.Core.Bool.{not}
use mathlib.Core.Path.{ap}
use Rattle.reader.proofs.RingLaws.{ring-whole, whole-counted, sure-width, run_inside, run_room, into-on}
use Rattle.reader.specs.Store.{still}
use native.Mathlib.Omega.{arith}
use Rattle.reader.proofs.ring_runs.ring_into.Goals as goal

pub returns-in_default : goal.returns-in_default
returns-in_default c = still

pub returns-then-not-is_whole : goal.returns-then-not-is_whole
returns-then-not-is_whole c = still

pub returns-then-not-holds_ring : goal.returns-then-not-holds_ring
returns-then-not-holds_ring c = still

pub overflow_mul-n : goal.overflow_mul-n
overflow_mul-n c = omega (arith, ring-whole c.args.mode c.args.src.now c.args.d c.requires.0 _ c.in-X.is c.is_whole.result c.is_whole.ensures (ap not c.if-not-is_whole.false), c.requires.0.small)

pub trusted_width-requires : goal.trusted_width-requires
trusted_width-requires c = sure-width c.args.mode c.args.src.now c.args.d c.requires.0 _ c.in-X.is c.is_whole.result c.is_whole.ensures (ap not c.if-not-is_whole.false) c.requires.1

pub returns-in_default-trusted_width : goal.returns-in_default-trusted_width
returns-in_default-trusted_width c = still

pub overflow_mul-d : goal.overflow_mul-d
overflow_mul-d c = omega (arith, c.requires.0.small, c.requires.0.here, c.requires.0.points)

pub values_into-requires : goal.values_into-requires
values_into-requires c = run_room c.args.mode c.args.src.now c.args.d.at c.in-Some.width _ c.args.d.needs.points c.in-Some.ensures c.requires.0.small c.requires.0.here c.args.points.now c.holds_ring.result c.holds_ring.ensures (ap not c.if-not-holds_ring.false)

pub overflow_mul-width : goal.overflow_mul-width
overflow_mul-width c = omega (arith, run_inside c.args.mode c.args.src.now c.args.d.at c.in-Some.width _ c.in-Some.ensures c.requires.0.here, c.requires.0.small)

pub overflow_add-d : goal.overflow_add-d
overflow_add-d c = omega (arith, run_inside c.args.mode c.args.src.now c.args.d.at c.in-Some.width _ c.in-Some.ensures c.requires.0.here, c.requires.0.small)

pub past_ring-requires : goal.past_ring-requires
past_ring-requires c = whole-counted c.args.mode c.args.src.now c.args.d c.requires.0 _ c.in-X.is c.is_whole.result c.is_whole.ensures (ap not c.if-not-is_whole.false) c.size_at.result c.size_at.ensures

pub returns : goal.returns
returns c = into-on c.args.mode c.args.src.now c.args.d c.requires.0 _ c.in-X.is c.is_whole.result c.is_whole.ensures (ap not c.if-not-is_whole.false) c.size_at.result c.size_at.ensures c.in-Some.width c.in-Some.ensures c.past_ring.result c.past_ring.ensures c.requires.1 c.args.points.now _ c.values_into.ensures
