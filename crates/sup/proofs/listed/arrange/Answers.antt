-- `arrange` meets its contract: sorted, then with figures. Assumes nothing.
use mathlib.Core.Path.{ap, ◌∙◌}
use Rattle.sup.specs.Raw.{figured_lines}
use Rattle.sup.proofs.listed.arrange.Goals as goal

pub returns : goal.returns
returns c = c.put_figures.ensures ∙ ap figured_lines c.sort_lines.ensures
