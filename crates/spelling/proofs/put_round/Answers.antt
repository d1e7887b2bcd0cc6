-- `put_round` meets its contract: places, digits and sign, each before the last.
use borrow.Author.Rules.{rules}
use Rattle.spelling.proofs.Ways.{back}
use Rattle.spelling.proofs.BareWays.{ends, bare-some, bare-below, bare-fits, bare-made}
use Rattle.spelling.proofs.put_round.Goals as goal

pub put_digits-first-requires : goal.put_digits-first-requires
put_digits-first-requires c = (bare-some _ _ _ _ _ (back _ c.ranges.value) c.requires.0 c.magnitude-m.ensures (ends c.requires.1), search rules, bare-below _ _ _ _ _ (back _ c.ranges.value) c.requires.0 c.magnitude-m.ensures (ends c.requires.1))

pub put_sign-requires : goal.put_sign-requires
put_sign-requires c = (bare-fits _ _ _ _ _ (back _ c.ranges.value) c.requires.0 c.magnitude-m.ensures (ends c.requires.1) _ c.put_digits-first.ensures.0, search rules)

pub returns : goal.returns
returns c = bare-made _ _ _ _ _ (back _ c.ranges.value) c.requires.0 c.magnitude-m.ensures (ends c.requires.1) _ c.put_digits-first.ensures.0 c.args.out.now _ _ _ c.requires.2 c.put_places.ensures c.put_digits-first.ensures.1 c.put_sign.ensures
