-- `reader::points_at` meets its contract. Assumes nothing.
use Rattle.reader.proofs.HeadRecords.{points-asks, points-more, points-usual, points-first}
use Rattle.reader.proofs.heads.points_at.Goals as goal

pub usual_point-p-requires : goal.usual_point-p-requires
usual_point-p-requires c = points-asks c.args.mode c.args.src.now c.args.at c.args.judged c.in-Some.width c.requires.at_in_bounds c.in-Some.ensures

pub usual_point-q-requires : goal.usual_point-q-requires
usual_point-q-requires c = points-more c.args.mode c.args.src.now c.args.at c.args.judged c.in-Some.width c.requires.at_in_bounds c.in-Some.ensures c.usual_point-p.result c.usual_point-p.ensures

pub returns-in-Some : goal.returns-in-Some
returns-in-Some c = points-usual c.args.mode c.args.src.now c.args.at c.args.judged c.in-Some.width c.requires.at_in_bounds c.in-Some.ensures c.usual_point-p.result c.usual_point-p.ensures c.usual_point-q.result c.usual_point-q.ensures

pub returns : goal.returns
returns c = points-first c.args.mode c.args.src.now c.args.at c.args.judged c.in_ok-p.p c.in_ok-q.q c.in_ok-p.ensures c.in_ok-q.ensures
