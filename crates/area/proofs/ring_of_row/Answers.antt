-- `area::ring_of_row` meets its contract: a ring begins within the border. Assumes nothing.
use mathlib.Core.Path.{sym, ◌∙◌}
use native.Mathlib.Omega.{arith}
use Rattle.area.proofs.AreaWays.{ring-within}
use Rattle.area.proofs.ring_of_row.Goals as goal

pub overflow_add-result : goal.overflow_add-result
overflow_add-result c =
    omega (
      arith,
      c.count_at-v.ensures,
      c.requires.1 (sym c.count_at.ensures ∙ c.if-count_at-ne-BORDER.false),
      ring-within c.count_at-v.result _ c.args.ring c.in_ok-own.own (sym c.ring_of.ensures ∙ c.in_ok-own.was),
    )
