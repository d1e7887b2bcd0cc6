-- `put_text` meets its contract: the room, then the copy. Assumes nothing.
use Rattle.listing.proofs.ReadWays.{text-none, text-wrote}
use Rattle.listing.proofs.put_text.Goals as goal

pub returns-then-size-out : goal.returns-then-size-out
returns-then-size-out c =
    let said = text-none _ _ c.if-size-out.true
    in record { value = said.0; out_after = said.1 }

pub returns : goal.returns
returns c =
    let said = text-wrote _ _ c.if-size-out.false _ _ c.put_bytes.ensures
    in record { value = said.0; out_after = said.1 }
