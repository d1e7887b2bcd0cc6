-- `put_sheet` meets its contract: the line of the map, those of the classes, that of the rows. Assumes nothing.
use mathlib.Core.Path.{refl}
use Rattle.writer.proofs.Putting.{putting-room, putting-last}
use Rattle.listing.proofs.LineWays.{classes_from, sheet-map, sheet-classes, sheet-rows}
use Rattle.listing.proofs.put_sheet.Goals as goal

pub put_map-map_end-requires : goal.put_map-map_end-requires
put_map-map_end-requires c = sheet-map c.args.out.now c.args.header c.args.count c.args.tally.now c.requires

pub put_classes-classes_end-requires : goal.put_classes-classes_end-requires
put_classes-classes_end-requires c = putting-room (sheet-classes c.args.out.now c.args.header c.args.count c.args.tally.now c.requires c.put_map-map_end.ensures) (classes_from 0 c.args.tally.now) _ refl

pub put_line-requires : goal.put_line-requires
put_line-requires c = (sheet-rows c.args.out.now c.args.header c.args.count c.args.tally.now c.requires c.put_map-map_end.ensures c.put_classes-classes_end.ensures).room

pub returns : goal.returns
returns c = putting-last (sheet-rows c.args.out.now c.args.header c.args.count c.args.tally.now c.requires c.put_map-map_end.ensures c.put_classes-classes_end.ensures) c.put_line.ensures
