-- `put_real` meets its contract: over blanks its characters end at the twelfth.
use borrow.Author.Rules.{rules}
use Rattle.spelling.proofs.BareWays.{real_asks, real-made}
use Rattle.spelling.proofs.put_real.Goals as goal

pub put_round-requires : goal.put_round-requires
put_round-requires c = (search rules, real_asks _ c.ranges.value c.requires.0, search rules)

pub returns : goal.returns
returns c = real-made _ c.ranges.value c.requires.0 c.args.out.now _ (rw c.copy.ensures at c.put_round.ensures)
