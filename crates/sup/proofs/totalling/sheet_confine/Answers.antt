-- `sheet_confine` meets its contract: one answer for each kind of sheet. Assumes nothing.
use mathlib.Core.Path.{◌∙◌}
use Rattle.laws.proofs.Bits.{back}
use Rattle.sup.proofs.TotalWays.{confine-union, confine-outer}
use Rattle.sup.proofs.totalling.sheet_confine.Goals as goal

pub returns-then-kind-eq-UNION : goal.returns-then-kind-eq-UNION
returns-then-kind-eq-UNION c = back c.net_in.result c.net_in.type_inv ∙ confine-union _ _ c.if-kind-eq-UNION.true _ c.net_in.ensures

pub returns : goal.returns
returns c = back _ c.result-1.given ∙ confine-outer _ c.args.figures.now c.if-kind-eq-UNION.false
