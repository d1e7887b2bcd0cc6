-- `reader::point_at` meets its contract. Assumes nothing.
use Rattle.reader.proofs.HeadRecords.{point-asks, point-usual, point-first}
use Rattle.reader.proofs.heads.point_at.Goals as goal

pub usual_point-requires : goal.usual_point-requires
usual_point-requires c = point-asks c.args.mode c.args.src.now c.args.at c.args.judged c.in-Some.width c.requires.at_in_bounds c.in-Some.ensures

pub returns-in-Some : goal.returns-in-Some
returns-in-Some c = point-usual c.args.mode c.args.src.now c.args.at c.args.judged c.in-Some.width c.requires.at_in_bounds c.in-Some.ensures c.usual_point.result c.usual_point.ensures

pub returns : goal.returns
returns c = point-first c.args.mode c.args.src.now c.args.at c.args.judged c.first_at.result c.first_at.ensures
