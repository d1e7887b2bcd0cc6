-- What the bytes of a file mean, in each mode: document 01, "Header and EOF", "Sections", "Sheet tables". Assumes nothing: these are definitions.
use Rattle.std.specs.Prelude.{ℕ, zero, suc, ◌+◌, ◌-◌, min, List, [], ◌∷◌, ◌++◌, cond, length, take, drop, leb, Result, Ok, Err}
use Rattle.record.specs.declared.Mode.{Mode}
use Rattle.record.specs.declared.Mode.TheVariants.{Loose, Exact, Former}
use Rattle.laws.specs.Lists.{run}
use Rattle.record.specs.Record.{not_lf}
use Rattle.record.specs.declared.refusal.Refusal.{Refusal}
use Rattle.record.specs.Refusals.{file_most}
use Rattle.heading.specs.declared.Header.{Header}
use Rattle.header.specs.declared.Headed.{Headed}
use Rattle.header.specs.declared.Stopped.{Stopped}
use Rattle.header.specs.Header.{headed}
use Rattle.machine.specs.Machine.{one_of}
use Rattle.sheet.specs.Tables.{Tables, empty, put, ring_after}
use Rattle.machine.specs.declared.State.{State}
use Rattle.machine.specs.declared.State.TheVariants.{Due}
use Rattle.machine.specs.declared.One.{One}

-- the tables of the sections, and the byte offset of the EOF record;
-- or a refusal: which, the record's number from 1, the byte offset of that record
pub data Sections : Type 0 where
  read : Tables → ℕ → Sections
  stop : Refusal → ℕ → ℕ → Sections

-- what follows the EOF record, which stands at `eof`, is refused (13) in exact mode and else ignored, located at the next record
abbrev pub behind_eof : Mode → Tables → ℕ → ℕ → ℕ → List ℕ → Sections
behind_eof Exact o eof k at [] = read o eof
behind_eof Exact o eof k at (b ∷ bs) = stop Refusal.AfterEof k at
behind_eof Loose o eof k at bs = read o eof
behind_eof Former o eof k at bs = read o eof

-- after one record: `k` is its number, `at` its offset, `bs` the bytes from there on
abbrev pub after : Mode → State → Tables → ℕ → ℕ → List ℕ → (State → Tables → ℕ → List ℕ → Sections) → Result One Refusal → Sections
after mode st o k at bs more (Ok (One.Go st' t len width)) = more st' (put st t (take len bs) o) (at + width) (drop width bs)
after mode st o k at bs more (Ok (One.End width)) = behind_eof mode o at (k + 1) (at + width) (drop width bs)
after mode st o k at bs more (Err m) = stop m k at

-- the records one after the other. Each takes a byte at least, so that the bytes left count them:
-- where the count is 0 there is no byte left, and the record that is wanted is cut
unfoldable pub walk : ℕ → Mode → State → Tables → ℕ → ℕ → List ℕ → Sections
walk zero mode st o k at bs = stop Refusal.Cut k at
walk (suc f) mode st o k at bs =
    after mode st o k at bs (λ st' o' at' bs'. walk f mode st' o' (k + 1) at' bs') (one_of mode st (ring_after st o) bs)

-- the sections of a file, which begin at `start` with record 4
unfoldable pub walk_from : Mode → List ℕ → ℕ → Sections
walk_from mode bs start = walk (length bs) mode Due empty 4 start (drop start bs)

-- header and tables, or a refusal with its place
pub data Reading : Type 0 where
  sheet : Header → Tables → Reading
  refused : Refusal → ℕ → ℕ → Reading

abbrev pub under : Header → Sections → Reading
under h (read o eof) = sheet h o
under h (stop m k at) = refused m k at

-- sections follow the header
abbrev pub beyond : Mode → List ℕ → Result Headed Stopped → Sections
beyond mode bs (Ok h) = walk_from mode bs h.at
beyond mode bs (Err s) = stop s.refusal s.«record» s.offset

unfoldable pub sections_of : Mode → List ℕ → Sections
sections_of mode bs = beyond mode bs (headed mode bs)

-- with their header
abbrev pub meant : Mode → List ℕ → Result Headed Stopped → Reading
meant mode bs (Ok h) = under h.header (walk_from mode bs h.at)
meant mode bs (Err s) = refused s.refusal s.«record» s.offset

-- the meaning of the bytes, the file length limit apart
unfoldable pub meaning : Mode → List ℕ → Reading
meaning mode bs = meant mode bs (headed mode bs)

-- refusal 1 comes before all
unfoldable pub reading : Mode → List ℕ → Reading
reading mode bs = cond (leb (length bs) file_most) (meaning mode bs) (refused Refusal.TooLong 0 0)

-- ---- records by their number

-- the bytes of the first n records: each runs to its LF, or to the end of the file
unfoldable pub records : ℕ → List ℕ → ℕ
records zero bs = 0
records (suc n) bs = min (run not_lf bs + 1) (length bs) + records n (drop (min (run not_lf bs + 1) (length bs)) bs)

-- ---- two maps in one file

abbrev pub start_of : Result Headed Stopped → ℕ
start_of (Ok h) = h.at
start_of (Err s) = 0

-- where the sections of a file begin
unfoldable pub sections_at : Mode → List ℕ → ℕ
sections_at mode bs = start_of (headed mode bs)

abbrev pub ends : Sections → ℕ
ends (read o eof) = eof
ends (stop m k at) = 0

-- where its EOF record stands
unfoldable pub eof_at : Mode → List ℕ → ℕ
eof_at mode bs = ends (sections_of mode bs)

-- the bytes of its sections
unfoldable pub section_bytes : Mode → List ℕ → List ℕ
section_bytes mode bs = take (eof_at mode bs - sections_at mode bs) (drop (sections_at mode bs) bs)

-- a second map's elements put just before the EOF record of a first
unfoldable pub joined : Mode → List ℕ → List ℕ → List ℕ
joined mode a b = take (eof_at mode a) a ++ (section_bytes mode b ++ drop (eof_at mode a) a)
