-- `has_minus` meets its contract. Assumes nothing.
use mathlib.Core.Path.{◌∙◌}
use Rattle.supline.proofs.ReadingWays.{minus-any}
use Rattle.supline.proofs.reading.has_minus.Goals as goal

pub returns : goal.returns
returns c = c.contains.ensures.value ∙ minus-any c.args.s.now
