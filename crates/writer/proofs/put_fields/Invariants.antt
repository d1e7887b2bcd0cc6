-- `put_fields` meets its contract. What is to come are the fields from `j` on; the schedule is over where its place is 0. Assumes nothing.
use Prim.Native.Nat.{◌-◌}
use mathlib.Core.List.{[]}
use lib.ListN.{length, get_or, drop}
use Rattle.kinds.specs.Kinds.{schedule}
use Rattle.made.specs.Made.{tables_of}
use Rattle.row.specs.Walk.{cell_in}
use Rattle.layout.specs.Sheet.{fields_text}
use Rattle.writer.proofs.Putting.{Putting}
use Rattle.writer.proofs.put_fields.Given as goal

abbrev pub invariant-loop-at : goal.invariant-loop-at
invariant-loop-at l = Putting l.initial.out l.at (fields_text (tables_of l.rows l.letters [] []) (get_or schedule (cell_in l.rows 0) [])) l.out l.next (fields_text (tables_of l.rows l.letters [] []) (drop l.j (get_or schedule (cell_in l.rows 0) [])))

abbrev pub decreases-loop-at : goal.decreases-loop-at
decreases-loop-at l = length (get_or schedule (cell_in l.rows 0) []) - l.j
