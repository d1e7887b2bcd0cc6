-- `reader::border_into` meets its contract. Assumes nothing.
use Prim.Native.Nat.{◌+◌}
use lib.IntN.{pos}
use Rattle.token.specs.Lex.{unlift}
use Rattle.reader.proofs.HeadWays.{then-set}
use Rattle.reader.proofs.heads.border_into.Goals as goal

pub returns : goal.returns
returns c = then-set (c.args.b + 11) (pos c.args.h.vertices) (then-set (c.args.b + 10) (pos c.args.h.islands) (then-set (c.args.b + 8) (unlift c.args.h.y2) (then-set (c.args.b + 7) (unlift c.args.h.x2) (then-set (c.args.b + 6) (unlift c.args.h.y) (then-set (c.args.b + 5) (unlift c.args.h.x) (then-set (c.args.b + 4) (unlift c.args.h.angle) (then-set (c.args.b + 3) (pos c.args.h.number) c.put_number.ensures c.put_number-2.ensures) c.put_real.ensures) c.put_real-2.ensures) c.put_real-3.ensures) c.put_real-4.ensures) c.put_real-5.ensures) c.put_number-3.ensures) c.put_number-4.ensures
