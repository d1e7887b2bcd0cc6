-- `tally::is_tally` meets its contract: std's test of every figure is the definition's. Assumes nothing.
use Rattle.std.proofs.Common.{rules, ◌∙◌}
use Rattle.std.proofs.lemmas.Iterator.{YieldsList-from_slice}
use Rattle.std.proofs.lemmas.Iterator.Search.{all_from_yields_List}
use borrow.Author.Tests.{tests}
use Rattle.tally.specs.Tally.{is_figure}
use Rattle.tally.proofs.TallyWays.{figures_listed}
use Rattle.tally.proofs.is_tally.Goals as goal

pub returns : goal.returns
returns c =
    all_from_yields_List is_figure _ _ _ c.all.ensures.ran (YieldsList-from_slice c.args.t.figures cc) (λ x b q k. search (rules, tests))
    ∙ figures_listed c.args.t.figures
