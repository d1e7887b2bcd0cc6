-- `right_foot` meets its contract: the lines that the code has are those that are due. Assumes nothing.
use mathlib.Core.Path.{subst}
use lib.IntN.{ℤ}
use mir.Syntax.{w64}
use mir.Val.{SFits}
use Rattle.laws.proofs.Bits.{back}
use Rattle.supcheck.specs.Due.{balance_in}
use Rattle.supcheck.proofs.AllowingWays.{areas-six, foot-as, foot-known}
use Rattle.supcheck.proofs.right_foot.Goals as goal

pub foot_exact-exact-requires : goal.foot_exact-exact-requires
foot_exact-exact-requires c = (areas-six _ _ _ c.requires.1, rw (back _ c.balance_in.type_inv) c.balance_in.ensures.1)

pub returns : goal.returns
returns c = let b = balance_in c.args.listed c.args.s.now in
    foot-known c.args.figures.now c.requires.0 c.args.kind b (subst (λ (z : ℤ). SFits w64 z) c.requires.2 c.ranges.total) c.args.s.now _ c.args.areas.now c.requires.1 c.args.total c.requires.2 _ _
    (foot-as c.args.areas.now _ c.args.total b c.ranges.total.sfits _ c.balance_in.type_inv c.balance_in.ensures.0 c.foot_exact-exact.ensures) c.foot_allowed-allowed.ensures _ c.right_lines.ensures
