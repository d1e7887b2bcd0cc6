-- `reader::read_as` meets its contract. Assumes nothing.
use mathlib.Core.Bool.{not}
use mathlib.Core.Path.{ap}
use Rattle.reader.proofs.Answering.{answer-long, answer-header, starts-inside, answer-refused, answer-short, answer-read, tables-are, said-refused, said-short, said_read, fill-asks}
use Rattle.std.proofs.lemmas.Result.{err_from_is_err_and}
use lib.ListN.{length}
use Rattle.reader.specs.Read.{rooms_of}
use borrow.Author.Tests.{not-true, not-false}
use Rattle.reader.proofs.read_as.Goals as goal

pub returns-then-src-gt-FILE_MOST : goal.returns-then-src-gt-FILE_MOST
returns-then-src-gt-FILE_MOST c =
    let said = said-refused c.args.mode c.args.src.now (rooms_of (length c.args.rows.now) (length c.args.letters.now) (length c.args.islands.now) (length c.args.points.now)) c.args.rows.now c.args.letters.now c.args.islands.now c.args.points.now _ (answer-long _ c.args.src.now _ c.if-src-gt-FILE_MOST.true)
    in record { value = said.0; rows_after = said.1.0; letters_after = said.1.1.0; islands_after = said.1.1.1.0; points_after = said.1.1.1.1 }

pub judge-requires : goal.judge-requires
judge-requires c = (starts-inside _ c.args.src.now (rooms_of 0 0 0 0) c.if-src-gt-FILE_MOST.false c.header_at.result c.header_at.ensures _ c.in-Ok.is, c.if-src-gt-FILE_MOST.false)

pub returns-in-Err : goal.returns-in-Err
returns-in-Err c =
    let said = said-refused c.args.mode c.args.src.now (rooms_of (length c.args.rows.now) (length c.args.letters.now) (length c.args.islands.now) (length c.args.points.now)) c.args.rows.now c.args.letters.now c.args.islands.now c.args.points.now _ (answer-header _ c.args.src.now _ c.if-src-gt-FILE_MOST.false c.header_at.result c.header_at.ensures _ c.in-Err.is _ c.located.ensures)
    in record { value = said.0; rows_after = said.1.0; letters_after = said.1.1.0; islands_after = said.1.1.1.0; points_after = said.1.1.1.1 }

pub returns-in_err-needs : goal.returns-in_err-needs
returns-in_err-needs c =
    let p = err_from_is_err_and c.from_residual.result c.from_residual.ensures.1 in
    let said = said-refused c.args.mode c.args.src.now (rooms_of (length c.args.rows.now) (length c.args.letters.now) (length c.args.islands.now) (length c.args.points.now)) c.args.rows.now c.args.letters.now c.args.islands.now c.args.points.now _ (answer-refused _ c.args.src.now _ c.if-src-gt-FILE_MOST.false c.header_at.result c.header_at.ensures _ c.in-Ok.is _ c.judge.ensures _ c.in_err-needs.was)
    in rw (p.1, p.2) (record { value = said.0; rows_after = said.1.0; letters_after = said.1.1.0; islands_after = said.1.1.1.0; points_after = said.1.1.1.1 })

pub returns-then-not-has_room : goal.returns-then-not-has_room
returns-then-not-has_room c =
    let said = said-short c.args.mode c.args.src.now (rooms_of (length c.args.rows.now) (length c.args.letters.now) (length c.args.islands.now) (length c.args.points.now)) c.args.rows.now c.args.letters.now c.args.islands.now c.args.points.now _ (answer-short _ c.args.src.now _ c.if-src-gt-FILE_MOST.false c.header_at.result c.header_at.ensures _ c.in-Ok.is _ c.judge.ensures _ c.in_ok-needs.was _ c.has_room.ensures (not-true _ (ap not c.if-not-has_room.true)))
    in record { value = said.0; rows_after = said.1.0; letters_after = said.1.1.0; islands_after = said.1.1.1.0; points_after = said.1.1.1.1 }

pub fill-requires : goal.fill-requires
fill-requires c =
    let asked = fill-asks c.args.mode c.args.src.now _ (length c.args.rows.now) (length c.args.letters.now) (length c.args.islands.now) (length c.args.points.now) _ _ _ (starts-inside _ c.args.src.now (rooms_of 0 0 0 0) c.if-src-gt-FILE_MOST.false c.header_at.result c.header_at.ensures _ c.in-Ok.is) c.if-src-gt-FILE_MOST.false c.judge.ensures c.in_ok-needs.was c.has_room.ensures (not-false _ (ap not c.if-not-has_room.false))
    in record { start_in_bounds = asked.0; room = asked.1 }

pub returns : goal.returns
returns c =
    let said = said_read c.args.mode c.args.src.now (rooms_of (length c.args.rows.now) (length c.args.letters.now) (length c.args.islands.now) (length c.args.points.now)) _ _ _ _ _ _ _ _ _ _ _ (answer-read _ c.args.src.now _ c.if-src-gt-FILE_MOST.false c.header_at.result c.header_at.ensures _ c.in-Ok.is _ c.judge.ensures _ c.in_ok-needs.was _ c.has_room.ensures (not-false _ (ap not c.if-not-has_room.false))) (tables-are _ c.args.src.now (rooms_of 0 0 0 0) c.if-src-gt-FILE_MOST.false c.header_at.result c.header_at.ensures _ c.in-Ok.is) c.fill.ensures.rows_after c.fill.ensures.letters_after c.fill.ensures.islands_after c.fill.ensures.points_after
    in record { value = said.0; rows_after = said.1.0; letters_after = said.1.1.0; islands_after = said.1.1.1.0; points_after = said.1.1.1.1 }
