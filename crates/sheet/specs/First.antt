-- A file record by record: what each gives alone, and the refusal that comes first. Document 01, "Records", "Header and EOF", "Refusal numbers".
-- Assumes nothing: these are definitions. No count goes down here; sheet/proofs/First ties `reading` to it both ways.
use Rattle.std.specs.Prelude.{ℕ, ◌+◌, ◌≡◌, List, false, cond, length, take, drop, eqb, ℤ, pos, Option, Some, None, Result, Ok, Err}
use Rattle.std.specs.Int.Signed.{lt_z}
use Rattle.laws.specs.Lists.{run}
use Rattle.record.specs.declared.Mode.{Mode}
use Rattle.record.specs.declared.Line.{Line}
use Rattle.record.specs.declared.refusal.Refusal.{Refusal}
use Rattle.record.specs.Record.{not_lf, line_of}
use Rattle.number.specs.Number.{real_of}
use Rattle.header.specs.Header.{kind_said, is_named}
use Rattle.machine.specs.declared.State.{State}
use Rattle.machine.specs.declared.State.TheVariants.{Due}
use Rattle.machine.specs.declared.One.{One}
use Rattle.machine.specs.Machine.{one_of}
use Rattle.sheet.specs.Tables.{Tables, empty, put, ring_after}
use Rattle.sheet.specs.Reading.{Sections, stop, behind_eof}

-- what is due: the first word, the name of a map of that kind, the scale; then a record of the sections, with the tables so far
pub data Stage : Type 0 where
  word : Stage
  name : ℕ → Stage
  scale : Stage
  part : State → Tables → Stage

-- what a record gives: it is passed, and another is due; it is refused; it is the EOF record
pub data Given : Type 0 where
  passed : Stage → Given
  fault : Refusal → Given
  last : Tables → Given

-- record 1 is one of the first words, record 2 a name, record 3 a real above 0: form (8) first, then 6
abbrev pub word_is : Mode → List ℕ → Given
word_is mode c = cond (eqb (kind_said mode c) 0) (fault Refusal.Header) (passed (name (kind_said mode c)))

abbrev pub name_is : Mode → ℕ → List ℕ → Given
name_is mode kind c = cond (is_named mode kind c) (passed scale) (fault Refusal.Header)

abbrev pub scale_is : Option ℤ → Given
scale_is (Some z) = cond (lt_z (pos 0) z) (passed (part Due empty)) (fault Refusal.Header)
scale_is None = fault Refusal.Number

-- a record of the header, by its content
abbrev pub of_head : (List ℕ → Given) → List ℕ → Result Line Refusal → Given
of_head f bs (Ok l) = f (take l.len bs)
of_head f bs (Err m) = fault m

-- a record of the sections, by what the machine makes of it
abbrev pub of_part : State → Tables → List ℕ → Result One Refusal → Given
of_part st o bs (Ok (One.Go st' t len width)) = passed (part st' (put st t (take len bs) o))
of_part st o bs (Ok (One.End width)) = last o
of_part st o bs (Err m) = fault m

-- what the record at the front of the bytes gives
unfoldable pub given_by : Mode → Stage → List ℕ → Given
given_by mode word bs = of_head (word_is mode) bs (line_of mode false bs)
given_by mode (name kind) bs = of_head (name_is mode kind) bs (line_of mode false bs)
given_by mode scale bs = of_head (λ c. scale_is (real_of mode c)) bs (line_of mode false bs)
given_by mode (part st o) bs = of_part st o bs (one_of mode st (ring_after st o) bs)

-- that record's own bytes: up to its LF, or to the end of the file
abbrev pub front_of : List ℕ → List ℕ
front_of bs = take (run not_lf bs + 1) bs

-- and those behind it
abbrev pub past_front : List ℕ → List ℕ
past_front bs = drop (length (front_of bs)) bs

-- the records one after the other, where record k begins at `a` and `w` is due, answer s: the first that is refused alone is the refusal,
-- and its place is its own; those before it are passed alone; what follows the EOF record decides there (13)
pub data Answers (mode : Mode) : Stage → ℕ → ℕ → List ℕ → Sections → Type 0 where
  refuses : {w : Stage} {k a : ℕ} {m : Refusal} {bs : List ℕ} → given_by mode w (front_of bs) ≡ fault m → Answers mode w k a bs (stop m k a)
  passes : {w w' : Stage} {k a : ℕ} {bs : List ℕ} {s : Sections} → given_by mode w (front_of bs) ≡ passed w'
      → Answers mode w' (k + 1) (a + length (front_of bs)) (past_front bs) s → Answers mode w k a bs s
  finishes : {w : Stage} {k a : ℕ} {bs : List ℕ} {o : Tables} → given_by mode w (front_of bs) ≡ last o
      → Answers mode w k a bs (behind_eof mode o a (k + 1) (a + length (front_of bs)) (past_front bs))
