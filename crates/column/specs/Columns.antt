-- The columns of malformed integers and reals, and of refusals: document 02, T-04. Assumes nothing: these are definitions.
use Rattle.std.specs.Prelude.{ℕ, suc, ℤ, List, Bool, true, false, cond, take, eqb, is_some, ok_or, Result, Ok, Err}
use Rattle.record.specs.declared.Mode.{Mode}
use Rattle.record.specs.declared.Line.{Line}
use Rattle.record.specs.declared.refusal.Refusal.{Refusal}
use Rattle.record.specs.Refusals.{malformed}
use Rattle.record.specs.Record.{line_of}
use Rattle.number.specs.Number.{integer_of, real_of}
use Rattle.token.specs.declared.Want.{Want}
use Rattle.token.specs.declared.Want.TheVariants.{Key, Text, Int, Real}
use Rattle.column.specs.Spots.{stretch, integer_start, real_start}

-- ---- what a mode accepts as an integer and as a real

unfoldable pub accepts_integer : Mode → List ℕ → Bool
accepts_integer mode c = is_some (integer_of mode c)

unfoldable pub accepts_real : Mode → List ℕ → Bool
accepts_real mode c = is_some (real_of mode c)

-- by what a content is to be read as; a keyword and letters are no numbers
abbrev pub accepts_as : Mode → Want → List ℕ → Bool
accepts_as mode Key c = false
accepts_as mode Text c = false
accepts_as mode Int c = accepts_integer mode c
accepts_as mode Real c = accepts_real mode c

abbrev pub is_number : Want → Bool
is_number Key = false
is_number Text = false
is_number Int = true
is_number Real = true

-- ---- columns: one more than what goes. That each is T-04's is column/proofs/Integers: `integer-column`, ExactReals: `real-column`

unfoldable pub integer_column : Mode → List ℕ → ℕ
integer_column mode c = suc (stretch mode (integer_start mode) c)

unfoldable pub real_column : Mode → List ℕ → ℕ
real_column mode c = suc (stretch mode (real_start mode) c)

abbrev pub content_column : Mode → Want → List ℕ → ℕ
content_column mode Key c = 0
content_column mode Text c = 0
content_column mode Int c = integer_column mode c
content_column mode Real c = real_column mode c

-- of the content of the record at the front
abbrev pub line_column : Mode → Want → List ℕ → Result Line Refusal → ℕ
line_column mode want bs (Ok x) = content_column mode want (take x.len bs)
line_column mode want bs (Err m) = 0

unfoldable pub record_column : Mode → Want → List ℕ → ℕ
record_column mode want bs = line_column mode want bs (line_of mode false bs)

-- "Every refusal 8 carries it .. All other refusals carry column 0": m is the refusal's number, its record stands at the front and was to be read so
unfoldable pub refusal_column : Mode → Want → ℕ → List ℕ → ℕ
refusal_column mode want m bs = cond (eqb m malformed) (record_column mode want bs) 0

-- ---- an integer and a real with the column where they are malformed, and without it again

unfoldable pub integer_placed : Mode → List ℕ → Result ℕ ℕ
integer_placed mode c = ok_or (integer_of mode c) (integer_column mode c)

unfoldable pub real_placed : Mode → List ℕ → Result ℤ ℕ
real_placed mode c = ok_or (real_of mode c) (real_column mode c)

-- the paper's column: 0 where it is accepted
abbrev pub column_of : {A : Type 0} → Result A ℕ → ℕ
column_of (Ok x) = 0
column_of (Err column) = column
