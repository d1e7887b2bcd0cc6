-- `put_tallied` meets its contract: the lines of the sheet where the tally refused nothing, else its refusal. Assumes nothing.
use mathlib.Core.Path.{ap}
use Rattle.made.specs.declared.Fault.{Fault}
use Rattle.listing.proofs.ReadWays.{put_same, room-same, tallied-lines, tallied-refused}
use Rattle.listing.proofs.put_tallied.Goals as goal

pub put_sheet-requires : goal.put_sheet-requires
put_sheet-requires c = room-same (tallied-lines _ _ _ _ c.tally_sheet-taken.ensures _ (ap (λ (f : Fault). f.number) c.refused_of-fault.ensures) c.if-fault-eq0.true) _ c.requires

pub returns-then-fault-eq0 : goal.returns-then-fault-eq0
returns-then-fault-eq0 c = put_same (tallied-lines _ _ _ _ c.tally_sheet-taken.ensures _ (ap (λ (f : Fault). f.number) c.refused_of-fault.ensures) c.if-fault-eq0.true) c.put_sheet.ensures

pub put_refused-requires : goal.put_refused-requires
put_refused-requires c = room-same (tallied-refused _ _ _ _ c.tally_sheet-taken.ensures _ (ap (λ (f : Fault). f.number) c.refused_of-fault.ensures) c.if-fault-eq0.false _ (ap (λ (f : Fault). f.row) c.refused_of-fault.ensures)) _ c.requires

pub returns : goal.returns
returns c = put_same (tallied-refused _ _ _ _ c.tally_sheet-taken.ensures _ (ap (λ (f : Fault). f.number) c.refused_of-fault.ensures) c.if-fault-eq0.false _ (ap (λ (f : Fault). f.row) c.refused_of-fault.ensures)) c.put_refused.ensures
