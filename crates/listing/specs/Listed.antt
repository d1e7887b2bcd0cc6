-- The listing in a buffer that is lent: document 01, "Listing program" and refusal 14. Assumes nothing: these are definitions.
use Rattle.std.specs.Prelude.{ℕ, ◌*◌, ◌≤◌, List, Result, Ok, Err, cond, length, leb}
use Rattle.laws.specs.Lists.{over}
use Rattle.record.specs.Refusals.{no_room}
use Rattle.kinds.specs.Kinds.{row_width}
use Rattle.reader.specs.declared.Needs.{Needs}
use Rattle.listing.specs.declared.NoRoom.{NoRoom}

-- the answer for a text, with a buffer of `room` bytes
unfoldable pub listed_of : List ℕ → ℕ → Result ℕ NoRoom
listed_of s room = cond (leb (length s) room) (Ok (length s)) (Err (record { 0 = length s }))

-- the buffer at exit: the text from its start and the rest as it was; with no room nothing is altered
abbrev pub listed_in : Result ℕ NoRoom → List ℕ → List ℕ → List ℕ
listed_in (Ok n) s l = over s l
listed_in (Err e) s l = l

-- no listing is longer
abbrev pub text_most : ℕ
text_most = 640

-- what was used is within tables of these lengths
pub record UsedFits (a : Needs) (rows letters islands points : ℕ) : Type 0 where
  pub rows_in : row_width * a.rows ≤ rows
  pub letters-in : a.letters ≤ letters
  pub islands-in : a.islands ≤ islands
  pub points-in : 2 * a.points ≤ points

-- ---- the paper's number and value: also a text that says REFUSED is an answer

abbrev pub number_of : Result ℕ NoRoom → ℕ
number_of (Ok n) = 0
number_of (Err e) = no_room

-- the length that was written, or is needed with 14
abbrev pub length_of : Result ℕ NoRoom → ℕ
length_of (Ok n) = n
length_of (Err e) = e.0
