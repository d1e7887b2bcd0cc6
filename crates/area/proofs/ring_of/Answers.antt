-- `area::ring_of` meets its contract: an island begins where it and those behind it leave the vertices. Assumes nothing.
use Prim.Native.Nat.{◌-◌}
use native.Mathlib.Nat.{add-zero}
use native.Mathlib.Omega.{arith}
use lib.Seq.{get_or-drop}
use borrow.Author.Rules.{rules}
use Rattle.laws.proofs.ListLaws.{rest-is}
use Rattle.area.proofs.AreaWays.{ring-ways, ring-none, ring-past, ring-island}
use Rattle.area.proofs.ring_of.Goals.{then-outer-eq0-via-then-outer-eq0, then-outer-eq0-via-else-outer-eq0+then-islands-ring}
use Rattle.area.proofs.ring_of.Goals as goal

pub returns-then-outer-eq0 : goal.returns-then-outer-eq0
returns-then-outer-eq0 c =
    let o = c.outer_of-outer in
    elim c.then-outer-eq0.branch [
      | then-outer-eq0-via-then-outer-eq0 w ↦ ring-none c.args.v c.args.islands.now c.args.ring o.result o.ensures w.if-outer-eq0.true
      | then-outer-eq0-via-else-outer-eq0+then-islands-ring w ↦ ring-past c.args.v c.args.islands.now c.args.ring o.result o.ensures w.if-outer-eq0.false w.if-islands-ring.true
    ]

pub returns-then-ring-eq0 : goal.returns-then-ring-eq0
returns-then-ring-eq0 c = search (ring-ways, rules)

pub returns : goal.returns
returns c =
    let islands = c.args.islands.now in
    let k = c.args.ring - 1 in
    ring-island c.args.v islands c.args.ring c.outer_of-outer.result c.outer_of-outer.ensures c.if-outer-eq0.false c.if-ring-eq0.false (omega arith) c.outer_of.result c.from.result c.outer_of.ensures
    (rw (rest-is islands k, get_or-drop k islands 0 0, add-zero k) at c.from.ensures)
