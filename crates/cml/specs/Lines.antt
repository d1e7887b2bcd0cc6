-- The lines of a sheet, and its text as CML: document 02, T-11. Assumes nothing: these are definitions.
use Rattle.std.specs.Prelude.{ℕ, zero, suc, List, [], ◌∷◌, cond, length, eqb, Result}
use Rattle.record.specs.declared.Mode.TheVariants.{Loose}
use Rattle.kinds.specs.Kinds.{code_place}
use Rattle.heading.specs.declared.Header.{Header}
use Rattle.sheet.specs.Tables.{Tables}
use Rattle.made.specs.Made.{count_at, kind_of, points_of, rest_of, judge_of}
use Rattle.writer.specs.declared.Unwritten.{Unwritten}
use Rattle.writer.specs.Write.{written_after}
use Rattle.cml.specs.Element.{Polyline, elements_text}

-- LINEA; the lines of LIBRETTO are of another kind
abbrev pub line_kind : ℕ
line_kind = 5

-- the first row of what is left, where it is a line
abbrev pub polyline_of : Tables → Polyline
polyline_of t = record { outside = count_at t 1; code = count_at t code_place; points = points_of t }

-- the lines among the first rows, in their order
unfoldable pub polylines_of : ℕ → Tables → List Polyline
polylines_of zero t = []
polylines_of (suc n) t = cond (eqb (kind_of t) line_kind) (polyline_of t ∷ polylines_of n (rest_of t)) (polylines_of n (rest_of t))

-- each LINEA row as one element
unfoldable pub cml_text : ℕ → Tables → List ℕ
cml_text count t = elements_text (polylines_of count t)

-- the answer, for an output of `room` bytes: the header (6), the sheet (15), the length (1), the room (14); any code is taken
unfoldable pub cml_of : Header → ℕ → Tables → ℕ → Result ℕ Unwritten
cml_of h count t room = written_after (judge_of Loose h count t) (length (cml_text count t)) room
