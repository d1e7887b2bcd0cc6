-- What the conversion program writes for an input: document 02, T-09. Assumes nothing: these are definitions.
use Rattle.std.specs.Prelude.{ℕ, List, cond, length, leb, eqb, Result}
use Rattle.record.specs.declared.Mode.TheVariants.{Exact, Former}
use Rattle.record.specs.Refusals.{too_long}
use Rattle.record.specs.Refusals as Refusals
use Rattle.heading.specs.declared.Header.{Header}
use Rattle.sheet.specs.Tables.{Tables, row_count}
use Rattle.sheet.specs.Reading.{Reading, sheet, refused, reading}
use Rattle.reader.specs.Columns.{reading_column}
use Rattle.made.specs.declared.Flaw.{Flaw}
use Rattle.made.specs.Made.{judge_of, number_of, row_of}
use Rattle.layout.specs.Sheet.{sheet_text}
use Rattle.listing.specs.Listing.{refused_line, input_most}

-- "prints the clean file, or the refusal line as the listing program has it (the writer's 10 gives the row, 0 and 0)"
abbrev pub clean_by : Result Unit Flaw → List ℕ → List ℕ
clean_by v s = cond (eqb (number_of v) 0) s (refused_line (number_of v) (row_of v) 0 0)

unfoldable pub clean_text : Header → ℕ → Tables → List ℕ
clean_text h count t = clean_by (judge_of Exact h count t) (sheet_text h count t)

abbrev pub converted_text : ℕ → Reading → List ℕ
converted_text column (sheet h o) = clean_text h (row_count o) o
converted_text column (refused refusal place offset) = refused_line (Refusals.number_of refusal) place offset column

-- "reads standard input up to 8,192 bytes", in the former reading; more is 1, without a place
unfoldable pub conversion_of : List ℕ → List ℕ
conversion_of bs = cond (leb (length bs) input_most) (converted_text (reading_column Former bs) (reading Former bs)) (refused_line too_long 0 0 0)

-- no conversion is longer
abbrev pub clean_most : ℕ
clean_most = 53248
