-- `made::are_reals` tests every number. Assumes nothing.
use Rattle.std.proofs.Common.{rules, sym, ◌∙◌}
use Rattle.std.proofs.lemmas.Iterator.{YieldsList-from_slice}
use Rattle.std.proofs.lemmas.Iterator.Search.{all_from_yields_List}
use borrow.Author.Tests.{tests}
use Rattle.number.specs.Number.{is_real}
use Rattle.made.proofs.TableWays.{fours, reals_listed}
use Rattle.made.proofs.rings.are_reals.Goals as goal

pub returns-then-not-are_four : goal.returns-then-not-are_four
returns-then-not-are_four c = search (fours, rules)

pub loop-rest-preserved : goal.loop-rest-preserved
loop-rest-preserved c = search (fours, rules)

pub returns : goal.returns
returns c =
    all_from_yields_List is_real _ _ _ c.all.ensures.ran (YieldsList-from_slice c.loop-rest.rest.now cc) (λ x b q k. search (rules, tests))
    ∙ reals_listed c.loop-rest.rest.now
    ∙ sym c.loop-rest.invariant
