-- `made::are_islands` tests every island. Assumes nothing.
use Rattle.std.proofs.Common.{rules, ◌∙◌}
use Rattle.std.proofs.lemmas.Iterator.{YieldsList-from_slice}
use Rattle.std.proofs.lemmas.Iterator.Search.{all_from_yields_List}
use borrow.Author.Tests.{tests}
use Rattle.made.specs.Made.{four_at_least}
use Rattle.made.proofs.TableWays.{all_listed}
use Rattle.made.proofs.rings.are_islands.Goals as goal

pub returns : goal.returns
returns c =
    all_from_yields_List four_at_least _ _ _ c.all.ensures.ran (YieldsList-from_slice c.args.s.now cc) (λ x b q k. search (rules, tests))
    ∙ all_listed four_at_least c.args.s.now
