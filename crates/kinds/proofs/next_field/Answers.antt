-- `kinds::next_field` meets its contract: a digit of the kind's number is what `next_of` says. Assumes nothing.
use Rattle.kinds.proofs.KindLaws.{next-is, next-no-place}
use Rattle.kinds.proofs.next_field.Goals as goal

pub returns-then-place-ge-OWN_WIDTH : goal.returns-then-place-ge-OWN_WIDTH
returns-then-place-ge-OWN_WIDTH c = next-no-place _ _ c.if-place-ge-OWN_WIDTH.true

pub returns : goal.returns
returns c = next-is _ _ _ c.nexts.ensures c.if-place-ge-OWN_WIDTH.false
