-- Notes behind numbers, which loose mode no longer takes: document 02, T-09. Assumes nothing: these are definitions.
use Rattle.std.specs.Prelude.{ℕ, ◌+◌, ◌≡◌, List, [], Bool, true, false, length, take, Ok}
use Rattle.record.specs.declared.Mode.TheVariants.{Loose}
use Rattle.record.specs.declared.Line.{Line}
use Rattle.record.specs.declared.refusal.Refusal.TheVariants as Refusal
use Rattle.record.specs.Record.{line_of}
use Rattle.number.specs.Number.{is_note, behind_real}
use Rattle.token.specs.Lex.{behind_number}
use Rattle.machine.specs.Machine.{is_due, want_of}
use Rattle.sheet.specs.Reading.{refused, reading}
use Rattle.sheet.specs.First.{Stage, word, name, scale, part, passed, given_by, front_of, past_front}

abbrev pub keyword_due : Stage → Bool
keyword_due word = false
keyword_due (name kind) = false
keyword_due scale = false
keyword_due (part st o) = is_due st

-- what stands behind the number of a record's content, by what is due
abbrev pub behind_due : Stage → List ℕ → List ℕ
behind_due word c = []
behind_due (name kind) c = []
behind_due scale c = behind_real c
behind_due (part st o) c = behind_number (want_of st) c

-- the record at the front of the bytes has a note behind its number
pub record HasNote (w : Stage) (bs : List ℕ) : Type 0 where
  pub line : Line
  pub found : line_of Loose (keyword_due w) bs ≡ Ok line
  pub note : is_note (behind_due w (take line.len bs)) ≡ true

-- the records one after the other, where record k begins at `a` and `w` is due: record k', which begins at `a'`, is the first that has one
pub data FirstNote : Stage → ℕ → ℕ → List ℕ → ℕ → ℕ → Type 0 where
  here : {w : Stage} {k a : ℕ} {bs : List ℕ} → HasNote w (front_of bs) → FirstNote w k a bs k a
  later : {w w' : Stage} {k a k' a' : ℕ} {bs : List ℕ} → given_by Loose w (front_of bs) ≡ passed w'
      → FirstNote w' (k + 1) (a + length (front_of bs)) (past_front bs) k' a' → FirstNote w k a bs k' a'

-- "A file with a tail meets 8 at that record": the first note of a file, and what loose mode answers
pub record Retired (bs : List ℕ) : Type 0 where
  pub nth : ℕ
  pub offset : ℕ
  pub first : FirstNote word 1 0 bs nth offset
  pub answer : reading Loose bs ≡ refused Refusal.Number nth offset
