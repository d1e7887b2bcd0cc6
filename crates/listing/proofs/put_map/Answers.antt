-- `put_map` meets its contract: word, kind, blank, name and scale, each behind the last. Assumes nothing.
use mathlib.Core.Path.{refl}
use Rattle.writer.proofs.Putting.{putting-room, putting-last}
use Rattle.listing.specs.Listing.{figure}
use Rattle.listing.proofs.LineWays.{one-is, figures-room, figures-put, map-kind, map-scale}
use Rattle.listing.proofs.put_map.Goals as goal

pub put_figure-kind_end-requires : goal.put_figure-kind_end-requires
put_figure-kind_end-requires c = putting-room (map-kind c.args.out.now c.args.header c.requires c.put_bytes-word_end.ensures) (figure c.args.header.kind) _ refl

pub put_figures-requires : goal.put_figures-requires
put_figures-requires c = figures-room (one-is c.scale_of.ensures) c.put_bytes-name_end.result _ (map-scale c.args.out.now c.args.header c.requires c.put_bytes-word_end.ensures c.put_figure-kind_end.ensures c.put_bytes-name_start.ensures c.put_bytes-name_end.ensures).room

pub returns : goal.returns
returns c = putting-last (map-scale c.args.out.now c.args.header c.requires c.put_bytes-word_end.ensures c.put_figure-kind_end.ensures c.put_bytes-name_start.ensures c.put_bytes-name_end.ensures) (figures-put (one-is c.scale_of.ensures) c.put_figures.ensures)
