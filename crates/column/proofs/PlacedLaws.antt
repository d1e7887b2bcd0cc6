-- Columns and what was there before them: forgotten, the former answers; carried by 8 alone. Document 02, T-04. Assumes nothing.
use Prim.Native.Nat.{ℕ}
use mathlib.Core.Path.{◌≡◌, refl}
use mathlib.Core.Bool.{true, false}
use mathlib.Core.List.{List}
use lib.ListN.{take}
use borrow.Author.Tests.{ne_eqb}
use Rattle.laws.proofs.Choice.{false≢true}
use Rattle.std.specs.Prelude.{ok_or, Option, Some, None, Err}
use Rattle.std.specs.Result.{result_ok}
use Rattle.record.specs.declared.Mode.{Mode}
use Rattle.record.specs.Refusals.{malformed}
use Rattle.record.specs.Record.{got, line_of}
use Rattle.number.specs.Number.{integer_of, real_of}
use Rattle.token.specs.declared.Want.{Want}
use Rattle.token.specs.declared.Want.TheVariants.{Key, Text, Int, Real}
use Rattle.column.specs.Column.{IsColumn}
use Rattle.column.specs.Columns.{accepts_integer, accepts_real, accepts_as, is_number, integer_column, real_column, content_column, record_column, refusal_column, integer_placed, real_placed}
use Rattle.column.proofs.Integers.{integer-column}
use Rattle.column.proofs.ExactReals.{real-column}

-- ---- integers and reals

forgotten : {A : Type 0} (o : Option A) (k : ℕ) → result_ok (ok_or o k) ≡ o
forgotten (Some x) k = refl
forgotten None k = refl

refused : {A : Type 0} (o : Option A) (k column : ℕ) → ok_or o k ≡ Err column → k ≡ column
refused (Some x) k column e = absurd (let z : ⊥ = cc in z)
refused None k column e = cc

-- **the column forgotten, an integer is what it was**: accepted, of the same value, or malformed
pub integer-unplaced : (mode : Mode) (c : List ℕ) → result_ok (integer_placed mode c) ≡ integer_of mode c
unfolding integer_placed
integer-unplaced mode c = forgotten (integer_of mode c) (integer_column mode c)

pub real-unplaced : (mode : Mode) (c : List ℕ) → result_ok (real_placed mode c) ≡ real_of mode c
unfolding real_placed
real-unplaced mode c = forgotten (real_of mode c) (real_column mode c)

-- **where it is malformed, the column is the paper's**, in the language of that form and mode
pub integer-placed : (mode : Mode) (c : List ℕ) (column : ℕ) → integer_placed mode c ≡ Err column → IsColumn (accepts_integer mode) c column
unfolding integer_placed
integer-placed mode c column e = rw (← refused (integer_of mode c) (integer_column mode c) column e) (integer-column mode c)

pub real-placed : (mode : Mode) (c : List ℕ) (column : ℕ) → real_placed mode c ≡ Err column → IsColumn (accepts_real mode) c column
unfolding real_placed
real-placed mode c column e = rw (← refused (real_of mode c) (real_column mode c) column e) (real-column mode c)

-- ---- refusals

-- a content that was to be read as a number
pub content-column : (mode : Mode) (want : Want) (c : List ℕ) → is_number want ≡ true → IsColumn (accepts_as mode want) c (content_column mode want c)
content-column mode Key c e = absurd (false≢true e)
content-column mode Text c e = absurd (false≢true e)
content-column mode Int c e = integer-column mode c
content-column mode Real c e = real-column mode c

-- **8 carries the column of its record's content**, as what it was to be read
pub refusal-column : (mode : Mode) (want : Want) (bs : List ℕ) (len width : ℕ) → is_number want ≡ true → line_of mode false bs ≡ got len width
    → IsColumn (accepts_as mode want) (take len bs) (refusal_column mode want malformed bs)
unfolding refusal_column record_column
refusal-column mode want bs len width n e = rw e (content-column mode want (take len bs) n)

-- **all other refusals carry 0**
pub other-column : (mode : Mode) (want : Want) (m : ℕ) (bs : List ℕ) → (m ≡ malformed → ⊥) → refusal_column mode want m bs ≡ 0
unfolding refusal_column
other-column mode want m bs n = rw (ne_eqb m malformed n)
