-- `edit::move_sheet` meets its contract: the verdict decides. Assumes nothing.
use Rattle.made.specs.Made.{tables_of}
use Rattle.edit.proofs.SheetMoves.{judged-long, sheet-moved, sheet-off}
use Rattle.edit.proofs.moving.move_sheet.Goals as goal

pub move_judged-requires : goal.move_judged-requires
move_judged-requires c = judged-long c.args.header c.args.count (tables_of c.args.rows.now c.args.letters.now c.args.islands.now c.args.points.now) c.args.dx c.args.dy _ c.judge.ensures c.in_ok-judge.was

pub returns-then-not-move_judged : goal.returns-then-not-move_judged
returns-then-not-move_judged c =
    let p = sheet-off c.args.header c.args.count (tables_of c.args.rows.now c.args.letters.now c.args.islands.now c.args.points.now) c.args.dx c.args.dy _ c.judge.ensures c.in_ok-judge.was c.ranges.dx c.ranges.dy _ c.move_judged.ensures.value _ _ c.move_judged.ensures.rows_after c.move_judged.ensures.points_after c.if-not-move_judged.true in
    record { value = p.0; rows_after = p.1.0; points_after = p.1.1 }

pub returns : goal.returns
returns c =
    let p = sheet-moved c.args.header c.args.count (tables_of c.args.rows.now c.args.letters.now c.args.islands.now c.args.points.now) c.args.dx c.args.dy _ c.judge.ensures c.in_ok-judge.was c.ranges.dx c.ranges.dy _ c.move_judged.ensures.value _ _ c.move_judged.ensures.rows_after c.move_judged.ensures.points_after c.if-not-move_judged.false in
    record { value = p.0; rows_after = p.1.0; points_after = p.1.1 }
