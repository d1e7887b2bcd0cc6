-- `are_digits` meets its contract: every byte is tested. Assumes nothing.
use Rattle.std.proofs.Common.{rules, ◌∙◌}
use Rattle.std.proofs.lemmas.Iterator.{YieldsList-from_slice}
use Rattle.std.proofs.lemmas.Iterator.Search.{all_from_yields_List}
use borrow.Author.Tests.{tests}
use Rattle.number.specs.Number.{digit}
use Rattle.sup.proofs.DateWays.{digits-listed}
use Rattle.sup.proofs.dating.are_digits.Goals as goal

pub returns : goal.returns
returns c =
    all_from_yields_List digit _ _ _ c.all.ensures.ran (YieldsList-from_slice c.args.s.now cc) (λ x b q k. search (rules, tests))
    ∙ digits-listed 0 c.args.s.now
