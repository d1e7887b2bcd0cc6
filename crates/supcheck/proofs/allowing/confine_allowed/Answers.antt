-- `confine_allowed` meets its contract. Assumes nothing.
use mathlib.Core.Path.{refl, ◌∙◌}
use Rattle.laws.proofs.Bits.{back}
use Rattle.supcheck.proofs.AllowingWays.{allowed-union, allowed-confine}
use Rattle.supcheck.proofs.allowing.confine_allowed.Goals as goal

pub returns-then-kind-eq-UNION : goal.returns-then-kind-eq-UNION
returns-then-kind-eq-UNION c = back _ c.result-1.given ∙ (allowed-union _ c.args.figures.now c.if-kind-eq-UNION.true _ refl).1

pub returns : goal.returns
returns c = back _ c.result-2-1.given ∙ allowed-confine _ c.args.figures.now c.if-kind-eq-UNION.false _ refl
