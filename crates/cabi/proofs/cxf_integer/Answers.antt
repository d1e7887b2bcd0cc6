-- `cxf_integer` answers as the library does; an integer fits a signed number. Assumes nothing.
use mathlib.Core.Path.{sym, ap, ◌∙◌}
use Rattle.std.specs.Prelude.{ℤ, ◌≡◌, Result, Ok}
use Rattle.std.specs.Prelude.{ℕ}
use Rattle.record.specs.declared.Mode.{Mode}
use Rattle.column.specs.Columns.{integer_placed}
use Rattle.told.specs.Told.{integer_told, real_told}
use Rattle.told.proofs.ToldWays.{told, asked, small-fits, placed-most, small-reads}
use Rattle.cabi.proofs.cxf_integer.Goals as goal

pub overflow_cast-n : goal.overflow_cast-n
overflow_cast-n c = small-fits c.in-Ok.n (placed-most _ _ _ (sym c.placed_integer.ensures ∙ c.in-Ok.is))

pub returns-in-Ok : goal.returns-in-Ok
returns-in-Ok c =
    c.number_told.ensures
    ∙ ap (λ (z : ℤ). real_told (Ok z)) (small-reads c.in-Ok.n (placed-most _ _ _ (sym c.placed_integer.ensures ∙ c.in-Ok.is)))
    ∙ told integer_told (asked (λ (m : Mode). integer_placed m c.args.content.now) c.placed_integer.ensures c.mode_of.ensures) c.in-Ok.is
