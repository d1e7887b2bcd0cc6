-- `reader::path_into` meets its contract. Assumes nothing.
use Prim.Native.Nat.{◌+◌}
use lib.IntN.{pos}
use Rattle.reader.proofs.HeadWays.{then-set}
use Rattle.reader.proofs.heads.path_into.Goals as goal

pub returns : goal.returns
returns c = then-set (c.args.b + 11) (pos c.args.h.vertices) c.put_number.ensures c.put_number-2.ensures
