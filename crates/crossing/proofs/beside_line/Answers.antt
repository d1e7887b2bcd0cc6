-- `crossing::beside_line` meets its contract: the three answers of `one_side`, with the bits of the two sides read back.
use mathlib.Core.Path.{◌≡◌}
use mathlib.Core.Bool.{true, false}
use lib.IntN.{pos}
use lib.Signed.{lt_z}
use Rattle.laws.proofs.Bits.{back}
use Rattle.crossing.specs.Edges.{beside-line}
use Rattle.crossing.proofs.EdgeLaws.{side_left, side_right, side-on}
use Rattle.crossing.proofs.beside_line.Goals as goal

pub returns-then-s-gt0 : goal.returns-then-s-gt0
unfolding beside-line
returns-then-s-gt0 c =
    let u = c.side_of-s in
    let w = c.side_of-t in
    let e : lt_z (pos 0) u.result ≡ true = cc (back u.result u.type_inv) in
    cc (back w.result w.type_inv, side_left u.result w.result e)

pub returns-then-s-lt0 : goal.returns-then-s-lt0
unfolding beside-line
returns-then-s-lt0 c =
    let u = c.side_of-s in
    let w = c.side_of-t in
    let e : lt_z (pos 0) u.result ≡ false = cc (back u.result u.type_inv) in
    let f : lt_z u.result (pos 0) ≡ true = cc (back u.result u.type_inv) in
    cc (back w.result w.type_inv, side_right u.result w.result e f)

pub returns-else-s-lt0 : goal.returns-else-s-lt0
unfolding beside-line
returns-else-s-lt0 c =
    let u = c.side_of-s in
    let w = c.side_of-t in
    let e : lt_z (pos 0) u.result ≡ false = cc (back u.result u.type_inv) in
    let f : lt_z u.result (pos 0) ≡ false = cc (back u.result u.type_inv) in
    cc (back u.result u.type_inv, side-on u.result w.result e f)
