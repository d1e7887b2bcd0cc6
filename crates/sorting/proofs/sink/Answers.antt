-- `sink` meets its contract: see `Sinking`. Assumes nothing.
use mathlib.Core.Bool.{not}
use mathlib.Core.Path.{ap}
use native.Mathlib.Omega.{arith}
use Rattle.sorting.proofs.SortedLaws.{exchanges-length}
use Rattle.sorting.proofs.SinkLaws.{sinking-start, sinking-in, sinking-near, sinking-front, sinking-end, sinking-on}
use Rattle.sorting.proofs.sink.Goals as goal

pub loop-j-init : goal.loop-j-init
loop-j-init c = sinking-start _ _ _ c.requires.1

pub is_before-requires : goal.is_before-requires
is_before-requires c = (sinking-in c.loop-j.invariant, sinking-near c.loop-j.invariant _ (omega arith))

pub shape_of-s-then-not-is_before : goal.shape_of-s-then-not-is_before
shape_of-s-then-not-is_before c = exchanges-length c.loop-j.invariant.mixed

pub returns-then-not-is_before : goal.returns-then-not-is_before
returns-then-not-is_before c = record { exchanges = c.loop-j.invariant.mixed; in_order = sinking-end c.loop-j.invariant c.loop-j-test.true c.requires.0 _ c.is_before.ensures (ap not c.if-not-is_before.true) }

pub exchange-requires : goal.exchange-requires
exchange-requires c = (sinking-near c.loop-j.invariant _ (omega arith), sinking-in c.loop-j.invariant)

pub loop-j-smaller : goal.loop-j-smaller
loop-j-smaller c = let h = c.requires.0 in let k = c.loop-j-test.true in omega arith

pub loop-j-preserved : goal.loop-j-preserved
loop-j-preserved c = sinking-on c.loop-j.invariant c.loop-j-test.true c.requires.0 _ c.is_before.ensures (ap not c.if-not-is_before.false) c.exchange.ensures

pub shape_of-s : goal.shape_of-s
shape_of-s c = exchanges-length c.loop-j.invariant.mixed

pub returns : goal.returns
returns c = record { exchanges = c.loop-j.invariant.mixed; in_order = sinking-front c.loop-j.invariant c.loop-j-test.false }
