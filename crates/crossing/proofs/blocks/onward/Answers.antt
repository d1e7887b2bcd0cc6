-- `crossing::blocks::onward` meets its contract: edges that are not met, and are no neighbours, make no faulty pair. Assumes nothing.
use native.Mathlib.Omega.{arith}
use Rattle.crossing.specs.Search.{faulty-pair}
use Rattle.crossing.proofs.SkipLaws.{skip-none, onward-meets}
use Rattle.crossing.proofs.blocks.onward.Goals as goal

pub overflow_add-i : goal.overflow_add-i
overflow_add-i c = omega arith

pub returns-then-j-i : goal.returns-then-j-i
returns-then-j-i c =
    skip-none (faulty-pair c.args.points.now c.args.from c.args.edges c.args.i) c.args.j c.args.edges c.requires.1

pub next_meeting-requires : goal.next_meeting-requires
next_meeting-requires c = (
  record { place = c.args.i; among = omega arith; held = c.requires.2; narrow = c.requires.3; start = c.requires.4; end = c.requires.5 },
  omega arith,
  c.requires.6,
  c.requires.7,
)

pub returns : goal.returns
returns c =
    onward-meets c.args.points.now c.args.from c.args.edges c.args.i c.args.j c.next_meeting.result c.args.a c.args.b c.requires.4 c.requires.5 (omega arith) (omega arith)
    c.next_meeting.ensures
