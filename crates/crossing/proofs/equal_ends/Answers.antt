-- `crossing::equal_ends` meets its contract: equal bits are equal numbers.
use mathlib.Core.Path.{◌≡◌, ◌∙◌}
use mathlib.Core.Bool.{false}
use Rattle.laws.proofs.Chains.{and-on, and-off}
use Rattle.laws.specs.Whole.{eq_z}
use Rattle.laws.proofs.Bits.{back, bits-yes, bits-no, bits-eqb}
use Rattle.crossing.specs.Edges.{equal-ends}
use Rattle.crossing.proofs.equal_ends.Goals as goal

pub returns-then-a-b : goal.returns-then-a-b
unfolding equal-ends
returns-then-a-b c =
    let a = c.args.a in
    let b = c.args.b in
    and-on (eq_z a.x b.x) (eq_z a.y b.y)
    (bits-yes a.x b.x (back a.x c.well_formed.0.1.1.0.1) (back b.x c.well_formed.1.0.1.1.0.1) c.if-a-b.true)
    (bits-eqb a.y b.y (back a.y c.well_formed.0.1.1.1.0.1) (back b.y c.well_formed.1.0.1.1.1.0.1))

pub returns-else-a-b : goal.returns-else-a-b
unfolding equal-ends
returns-else-a-b c =
    let a = c.args.a in
    let b = c.args.b in
    let e : eq_z a.x b.x ≡ false = bits-no a.x b.x c.if-a-b.false in
    bits-eqb a.x b.x (back a.x c.well_formed.0.1.1.0.1) (back b.x c.well_formed.1.0.1.1.0.1) ∙ e ∙ and-off (eq_z a.x b.x) (eq_z a.y b.y) e
