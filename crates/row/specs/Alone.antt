-- One row of a sheet as a sheet of its own (document 01, "Sheet tables": letters, island counts and points "stand in three further tables
-- in element order, with no gaps"; document 02, T-07: each row says where its own begin). Assumes nothing: these are definitions.
use Rattle.std.specs.Prelude.{ℕ}
use Rattle.sheet.specs.Tables.{Tables}
use Rattle.made.specs.Made.{alone_of}
use Rattle.row.specs.Walk.{stand_of, left_at}

-- row k alone, a sheet of one row. A caller hands in: the row's twelve numbers from 15 k on and three zeros; and of each other table, as a slice, as many as
-- its own count says (place 9, 10, twice 11), from its own start on (place 12, 13, twice 14): `alone-own` of proofs/StartLaws
abbrev pub row_alone : ℕ → Tables → Tables
row_alone k t = alone_of (left_at t (stand_of k t.rows))
