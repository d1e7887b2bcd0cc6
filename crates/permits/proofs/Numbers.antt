-- What the contracts of `integer`, `real`, `placed_integer`, `placed_real`, `cxf_integer` and `cxf_real`, as their sources write them, permit on some contents:
-- document 01, "Records"; document 02, T-04. Assumes nothing.
use Prim.Native.Nat.{ℕ}
use mathlib.Core.Path.{◌≡◌, refl, ◌∙◌}
use mathlib.Core.List.{List}
use lib.IntN.{ℤ, pos, negsuc}
use Rattle.std.specs.Prelude.{Option, Some, None, Result, Ok, Err}
use contract.Lifetimes.{Lfts}
use borrow.Fn.World.{ArgsD, ResD}
use denote.Triple.Clauses.{AtExit}
use Rattle.laws.specs.Text.{text}
use Rattle.record.specs.declared.Mode.{Mode}
use Rattle.record.specs.declared.Mode.TheVariants.{Loose, Exact, Former}
use Rattle.number.specs.Number.{integer_of, real_of}
use Rattle.number.specs.Examples.{computed_integer, tiny, minus_zero, led_by_zero, a-exact, e-loose, e-exact, g-loose, g-exact}
use Rattle.number.specs.contracts.integer as integer
use Rattle.number.proofs.integer.Reads as integer-reads
use Rattle.number.specs.contracts.real as real
use Rattle.number.proofs.real.Reads as real-reads
use Rattle.column.specs.Columns.{integer_placed, real_placed}
use Rattle.column.specs.Examples.{computed_placed}
use Rattle.column.specs.contracts.placed_integer as placed-integer
use Rattle.column.proofs.placed_integer.Reads as placed-integer-reads
use Rattle.column.specs.contracts.placed_real as Placed-real
use Rattle.column.proofs.placed_real.Reads as placed-real-reads
use Rattle.told.specs.declared.CxfNumber.{CxfNumber}
use Rattle.told.specs.Told.{integer_told, real_told}
use Rattle.told.specs.Asked.{mode_of}
use Rattle.cabi.specs.contracts.cxf_integer as cxf-integer
use Rattle.cabi.proofs.cxf_integer.Reads as cxf-integer-reads
use Rattle.cabi.specs.contracts.cxf_real as cxf-real
use Rattle.cabi.proofs.cxf_real.Reads as cxf-real-reads

-- ---- the answers, computed, beside those of number/specs/Examples

five : integer_of Loose (text "12345") ≡ None
unfolding computed_integer
five = refl

-- a note behind a number
noted : integer_of Loose (text "18 8") ≡ None
unfolding computed_integer
noted = refl

noted-former : integer_of Former (text "18 8") ≡ Some 18
unfolding computed_integer
noted-former = refl

-- with their columns
noted-placed : integer_placed Loose (text "18 8") ≡ Err 4
unfolding computed_placed
noted-placed = refl

noted-former-placed : integer_placed Former (text "18 8") ≡ Ok 18
unfolding computed_placed
noted-former-placed = refl

noted-real : real_placed Loose (text "-1.000 2.000") ≡ Err 8
unfolding computed_placed
noted-real = refl

noted-former-real : real_placed Former (text "-1.000 2.000") ≡ Ok (negsuc 999)
unfolding computed_placed
noted-former-real = refl

eighteen-placed : integer_placed Loose led_by_zero ≡ Ok 18
unfolding computed_placed
eighteen-placed = refl

zero-placed : integer_placed Exact led_by_zero ≡ Err 2
unfolding computed_placed
zero-placed = refl

five-placed : integer_placed Loose (text "12345") ≡ Err 5
unfolding computed_placed
five-placed = refl

tiny-placed : real_placed Exact tiny ≡ Ok (negsuc 4)
unfolding computed_placed
tiny-placed = refl

minus-zero-loose : real_placed Loose minus_zero ≡ Ok (pos 0)
unfolding computed_placed
minus-zero-loose = refl

minus-zero-exact : real_placed Exact minus_zero ≡ Err 12
unfolding computed_placed
minus-zero-exact = refl

-- ---- `integer`

module _ (κs : Lfts 1) (a : ArgsD integer.signature κs) (r : ResD integer.signature κs) (e : AtExit integer.ended κs) (post : integer-reads.Learnt κs a r e) where
  -- on this content, in this mode, this answer alone is permitted
  abbrev pub IntegerOnly : List ℕ → Mode → Option ℕ → Type 0
  IntegerOnly c mode x = a.0.now ≡ c → a.1.0 ≡ mode → r ≡ x

  integer-only : {c : List ℕ} {mode : Mode} {x : Option ℕ} → integer_of mode c ≡ x → IntegerOnly c mode x
  integer-only q c mode = post ∙ rw (c, mode) q

  pub integer-answers : IntegerOnly led_by_zero Loose (Some 18)
  integer-answers = integer-only g-loose

  pub integer-needless-zero : IntegerOnly led_by_zero Exact None
  integer-needless-zero = integer-only g-exact

  pub integer-five-digits : IntegerOnly (text "12345") Loose None
  integer-five-digits = integer-only five

  pub integer-noted : IntegerOnly (text "18 8") Loose None
  integer-noted = integer-only noted

  pub integer-noted-former : IntegerOnly (text "18 8") Former (Some 18)
  integer-noted-former = integer-only noted-former

-- ---- `real`

module _ (κs : Lfts 1) (a : ArgsD real.signature κs) (r : ResD real.signature κs) (e : AtExit real.ended κs) (post : real-reads.Learnt κs a r e) where
  abbrev pub RealOnly : List ℕ → Mode → Option ℤ → Type 0
  RealOnly c mode x = a.0.now ≡ c → a.1.0 ≡ mode → r ≡ x

  real-only : {c : List ℕ} {mode : Mode} {x : Option ℤ} → real_of mode c ≡ x → RealOnly c mode x
  real-only q c mode = post ∙ rw (c, mode) q

  -- not 5: the sign is not the whole part's
  pub real-answers : RealOnly tiny Exact (Some (negsuc 4))
  real-answers = real-only a-exact

  pub real-minus-zero-loose : RealOnly minus_zero Loose (Some (pos 0))
  real-minus-zero-loose = real-only e-loose

  pub real-minus-zero-exact : RealOnly minus_zero Exact None
  real-minus-zero-exact = real-only e-exact

-- ---- `placed_integer`

module _ (κs : Lfts 1) (a : ArgsD placed-integer.signature κs) (r : ResD placed-integer.signature κs) (e : AtExit placed-integer.ended κs) (post : placed-integer-reads.Learnt κs a r e) where
  abbrev pub PlacedIntegerOnly : List ℕ → Mode → Result ℕ ℕ → Type 0
  PlacedIntegerOnly c mode x = a.0.now ≡ c → a.1.0 ≡ mode → r ≡ x

  placed-integer-only : {c : List ℕ} {mode : Mode} {x : Result ℕ ℕ} → integer_placed mode c ≡ x → PlacedIntegerOnly c mode x
  placed-integer-only q c mode = post ∙ rw (c, mode) q

  pub placed-integer-answers : PlacedIntegerOnly led_by_zero Loose (Ok 18)
  placed-integer-answers = placed-integer-only eighteen-placed

  pub placed-integer-column : PlacedIntegerOnly led_by_zero Exact (Err 2)
  placed-integer-column = placed-integer-only zero-placed

  pub placed-integer-noted : PlacedIntegerOnly (text "18 8") Loose (Err 4)
  placed-integer-noted = placed-integer-only noted-placed

-- ---- `placed_real`

module _ (κs : Lfts 1) (a : ArgsD Placed-real.signature κs) (r : ResD Placed-real.signature κs) (e : AtExit Placed-real.ended κs) (post : placed-real-reads.Learnt κs a r e) where
  abbrev pub PlacedRealOnly : List ℕ → Mode → Result ℤ ℕ → Type 0
  PlacedRealOnly c mode x = a.0.now ≡ c → a.1.0 ≡ mode → r ≡ x

  placed-real-only : {c : List ℕ} {mode : Mode} {x : Result ℤ ℕ} → real_placed mode c ≡ x → PlacedRealOnly c mode x
  placed-real-only q c mode = post ∙ rw (c, mode) q

  pub placed-real-answers : PlacedRealOnly tiny Exact (Ok (negsuc 4))
  placed-real-answers = placed-real-only tiny-placed

  pub placed-real-column : PlacedRealOnly minus_zero Exact (Err 12)
  placed-real-column = placed-real-only minus-zero-exact

  pub placed-real-noted : PlacedRealOnly (text "-1.000 2.000") Loose (Err 8)
  placed-real-noted = placed-real-only noted-real

-- ---- `cxf_integer`: mode 0 is loose, mode 2 the former reading, mode 3 exact

module _ (κs : Lfts 1) (a : ArgsD cxf-integer.signature κs) (r : ResD cxf-integer.signature κs) (e : AtExit cxf-integer.ended κs) (post : cxf-integer-reads.Learnt κs a r e) where
  abbrev pub CxfIntegerOnly : List ℕ → ℕ → CxfNumber → Type 0
  CxfIntegerOnly c mode x = a.0.now ≡ c → a.1.0 ≡ mode → r ≡ x

  cxf-integer-only : {c : List ℕ} {mode : ℕ} {x : Result ℕ ℕ} → integer_placed (mode_of mode) c ≡ x → CxfIntegerOnly c mode (integer_told x)
  cxf-integer-only q c mode = post ∙ rw (c, mode, q) refl

  pub cxf-integer-answers : CxfIntegerOnly led_by_zero 0 (record { number = 0; column = 0; value = pos 18 })
  cxf-integer-answers = cxf-integer-only eighteen-placed

  pub cxf-integer-needless-zero : CxfIntegerOnly led_by_zero 3 (record { number = 8; column = 2; value = pos 0 })
  cxf-integer-needless-zero = cxf-integer-only zero-placed

  pub cxf-integer-five-digits : CxfIntegerOnly (text "12345") 0 (record { number = 8; column = 5; value = pos 0 })
  cxf-integer-five-digits = cxf-integer-only five-placed

  pub cxf-integer-noted : CxfIntegerOnly (text "18 8") 0 (record { number = 8; column = 4; value = pos 0 })
  cxf-integer-noted = cxf-integer-only noted-placed

  pub cxf-integer-noted-former : CxfIntegerOnly (text "18 8") 2 (record { number = 0; column = 0; value = pos 18 })
  cxf-integer-noted-former = cxf-integer-only noted-former-placed

-- ---- `cxf_real`

module _ (κs : Lfts 1) (a : ArgsD cxf-real.signature κs) (r : ResD cxf-real.signature κs) (e : AtExit cxf-real.ended κs) (post : cxf-real-reads.Learnt κs a r e) where
  abbrev pub CxfRealOnly : List ℕ → ℕ → CxfNumber → Type 0
  CxfRealOnly c mode x = a.0.now ≡ c → a.1.0 ≡ mode → r ≡ x

  cxf-real-only : {c : List ℕ} {mode : ℕ} {x : Result ℤ ℕ} → real_placed (mode_of mode) c ≡ x → CxfRealOnly c mode (real_told x)
  cxf-real-only q c mode = post ∙ rw (c, mode, q) refl

  pub cxf-real-answers : CxfRealOnly tiny 3 (record { number = 0; column = 0; value = negsuc 4 })
  cxf-real-answers = cxf-real-only tiny-placed

  pub cxf-real-minus-zero-loose : CxfRealOnly minus_zero 0 (record { number = 0; column = 0; value = pos 0 })
  cxf-real-minus-zero-loose = cxf-real-only minus-zero-loose

  pub cxf-real-minus-zero-exact : CxfRealOnly minus_zero 3 (record { number = 8; column = 12; value = pos 0 })
  cxf-real-minus-zero-exact = cxf-real-only minus-zero-exact

  pub cxf-real-noted : CxfRealOnly (text "-1.000 2.000") 0 (record { number = 8; column = 8; value = pos 0 })
  cxf-real-noted = cxf-real-only noted-real

  pub cxf-real-noted-former : CxfRealOnly (text "-1.000 2.000") 2 (record { number = 0; column = 0; value = negsuc 999 })
  cxf-real-noted-former = cxf-real-only noted-former-real
