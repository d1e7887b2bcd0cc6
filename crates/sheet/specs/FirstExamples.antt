-- The refusal that comes first, computed on small files with more than one fault: document 01, "Refusal numbers".
use Rattle.std.specs.Prelude.{refl, List, [], ℕ}
use Rattle.sheet.specs.Examples.{computed}
use Rattle.laws.specs.Text.{text}
use Rattle.record.specs.declared.Mode.{Mode}
use Rattle.record.specs.declared.Mode.TheVariants.{Loose, Exact}
use Rattle.record.specs.declared.refusal.Refusal.TheVariants as Refusal
use Rattle.machine.specs.declared.State.TheVariants.{Due, Field}
use Rattle.sheet.specs.Tables.{empty, put}
use Rattle.sheet.specs.Reading.{stop}
use Rattle.sheet.specs.First.{Stage, word, name, scale, part, Given, given_by, Answers, refuses, passes, finishes}

-- `given_by` with every definition opened, so that it computes
abbrev opened : Mode → Stage → List ℕ → Given
unfolding computed given_by
opened mode w bs = given_by mode w bs

-- a wrong name (6) before a malformed scale (8), which stands in the next record
first-in-header : Answers Loose word 1 0 (text "MAPPA\nnobody\nmuch\n") (stop Refusal.Header 2 6)
unfolding opened
first-in-header = passes {w' = name 1} refl (refuses refl)

-- letters of blanks (9) before a record that is cut (2)
first-in-sections : Answers Loose word 1 0 (text "MAPPA\nZ999_000100\n1000.000\nTESTO\n  \n18") (stop Refusal.Letters 5 33)
unfolding opened
first-in-sections = passes {w' = name 1} refl (passes {w' = scale} refl (passes {w' = part Due empty} refl (passes {w' = part (Field 2 9 0) (put Due 4 [] empty)} refl (refuses refl))))

-- what follows the EOF record, in exact mode
first-after-eof : Answers Exact word 1 0 (text "MAPPA\r\nZ999_000100\r\n    1000.000\r\nEOF\r\nx") (stop Refusal.AfterEof 5 39)
unfolding opened
first-after-eof = passes {w' = name 1} refl (passes {w' = scale} refl (passes {w' = part Due empty} refl (finishes {o = empty} refl)))
