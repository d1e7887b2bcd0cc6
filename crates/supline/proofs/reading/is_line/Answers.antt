-- `is_line` meets its contract: the figure is spelt as T-01 spells it. Assumes nothing.
use Prim.Native.Nat.{ℕ}
use mathlib.Core.Path.{ap, ◌∙◌}
use mathlib.Core.List.{List}
use Rattle.supline.specs.Right.{is_fields}
use Rattle.supline.proofs.ReadingWays.{figure-spelt}
use Rattle.supline.proofs.reading.is_line.Goals as goal

pub returns : goal.returns
returns c = c.is_fields.ensures ∙ ap (λ (o : List ℕ). is_fields c.args.name.now o c.args.s.now) (figure-spelt c.args.figure c.requires c.ranges.figure.sfits _ c.spell_figure.ensures.value _ c.spell_figure.ensures.out_after)
