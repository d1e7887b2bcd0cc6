-- `put_key` meets its contract: the keyword is a part of the packed table; the mark goes into the line behind it. Assumes nothing.
use Prim.Native.Nat.{◌-◌}
use mathlib.Core.List.{[], ◌∷◌}
use mathlib.Core.Path.{refl}
use native.Mathlib.Omega.{arith}
use Rattle.token.proofs.TokenWays.{word-from, word-part}
use Rattle.writer.proofs.Putting.{putting-room, putting-last}
use Rattle.writer.proofs.RowWays.{key-outside, key-inside}
use Rattle.writer.proofs.put_key.Goals as goal

pub slice_bounds-put_bytes-count : goal.slice_bounds-put_bytes-count
slice_bounds-put_bytes-count c = word-from (c.args.kind - 1) (omega arith)

pub put_line-requires : goal.put_line-requires
put_line-requires c = putting-room (key-outside c.args.kind c.args.outside c.requires.0 c.requires.2 (word-part (c.args.kind - 1) (omega arith)) c.args.out.now c.args.at c.requires.3 c.if-outside-eq1.true c.put_bytes-next.ensures) (92 ∷ 13 ∷ 10 ∷ []) [] refl

pub returns-then-outside-eq1 : goal.returns-then-outside-eq1
returns-then-outside-eq1 c = putting-last (key-outside c.args.kind c.args.outside c.requires.0 c.requires.2 (word-part (c.args.kind - 1) (omega arith)) c.args.out.now c.args.at c.requires.3 c.if-outside-eq1.true c.put_bytes-next.ensures) c.put_line.ensures

pub put_line-requires-2 : goal.put_line-requires-2
put_line-requires-2 c = putting-room (key-inside c.args.kind c.args.outside c.requires.0 c.requires.2 (word-part (c.args.kind - 1) (omega arith)) c.args.out.now c.args.at c.requires.3 c.if-outside-eq1.false c.put_bytes-next.ensures) (13 ∷ 10 ∷ []) [] refl

pub returns : goal.returns
returns c = putting-last (key-inside c.args.kind c.args.outside c.requires.0 c.requires.2 (word-part (c.args.kind - 1) (omega arith)) c.args.out.now c.args.at c.requires.3 c.if-outside-eq1.false c.put_bytes-next.ensures) c.put_line-2.ensures
