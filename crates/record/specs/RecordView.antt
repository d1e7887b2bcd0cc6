-- A found record by its bytes, as the chapters above use it. Assumes nothing: these are definitions.
use Rattle.std.specs.Prelude.{ℕ, ◌+◌, ◌≤◌, ◌<◌, ◌≡◌, List, [], ◌∷◌, ◌++◌, Bool, true, false, length, take, drop}
use Rattle.laws.specs.Lists.{all}
use Rattle.record.specs.Refusals.{file_most, record_most}
use Rattle.record.specs.declared.Mode.{Mode}
use Rattle.record.specs.Record.{is_exact, plain, word_eof, got, line_of}

-- a line end: CR LF, or where the mode is not exact an LF alone
pub data LineEnd (mode : Mode) (e : List ℕ) : Type 0 where
  crlf : e ≡ 13 ∷ 10 ∷ [] → LineEnd mode e
  lf : is_exact mode ≡ false → e ≡ 10 ∷ [] → LineEnd mode e

-- the bytes are a content, a line end and a rest, or they are the loose `EOF`
pub data Ending (mode : Mode) (due : Bool) (bs : List ℕ) (len width : ℕ) : Type 0 where
  line_ended : (e : List ℕ) → LineEnd mode e → bs ≡ take len bs ++ (e ++ drop width bs) → width ≡ len + length e → Ending mode due bs len width
  bare : is_exact mode ≡ false → due ≡ true → bs ≡ word_eof → len ≡ 3 → width ≡ 3 → Ending mode due bs len width

-- a record with `len` bytes of content stands at the front of the bytes, `width` bytes long
pub record IsLine (mode : Mode) (due : Bool) (bs : List ℕ) (len width : ℕ) : Type 0 where
  pub counted : length (take len bs) ≡ len
  pub most : len ≤ record_most
  pub all_plain : all plain (take len bs) ≡ true
  pub some : 0 < width
  pub past : len ≤ width
  pub within : width ≤ length bs
  pub ending : Ending mode due bs len width

-- a record of a file that is not too long is the record at the front of its bytes from the place on
pub record IsRecord (s : List ℕ) (at : ℕ) (mode : Mode) (due : Bool) (start len next : ℕ) : Type 0 where
  pub small : length s ≤ file_most
  pub here : start ≡ at
  pub width : ℕ
  pub line : line_of mode due (drop at s) ≡ got len width
  pub after : next ≡ at + width

-- it lies inside the file, and the next place is past it
pub record Lies (s : List ℕ) (at start len next : ℕ) : Type 0 where
  pub here : start ≡ at
  pub most : len ≤ record_most
  pub past : start + len ≤ next
  pub on : at < next
  pub within : next ≤ length s
