-- The ways through the functions that lay an answer out. Assumes nothing.
use Prim.Native.Nat.{ℕ, ◌≤◌}
use mathlib.Core.Path.{◌≡◌, sym, ap, ap₂, ◌∙◌}
use mathlib.Core.List.{List}
use Rattle.std.specs.Prelude.{Ok, Result}
use Rattle.std.specs.Result.{result_ok}
use lib.IntN.{pos}
use mir.Syntax.{w64}
use mir.Val.{SFits, to_z}
use mir.Facts.{to_z_pos}
use native.Mathlib.Omega.{arith}
use Rattle.record.specs.declared.Mode.{Mode}
use Rattle.number.proofs.NumberLaws.{integer-most}
use Rattle.sheet.specs.Tables.{Tables}
use Rattle.edit.specs.declared.Unedited.{Unedited}
use Rattle.edit.specs.Answers.{tables_at}
use Rattle.column.specs.Columns.{integer_placed}
use Rattle.column.proofs.PlacedLaws.{integer-unplaced}
use Rattle.classes.specs.declared.Class.{Class}
use Rattle.classes.specs.declared.Class.TheVariants as Class
use Rattle.classes.specs.Classes.{index_of}

-- the callee answered r, which is y, and r was found to be the case v
pub told {ℓ κ} : {A : Type ℓ} {B : Type κ} (g : A → B) {r y v : A} → r ≡ y → r ≡ v → g v ≡ g y
told g p q = ap g (sym q ∙ p)

-- the same, where what was asked is m, which is n
pub asked {ℓ κ} : {M : Type ℓ} {A : Type κ} (f : M → A) {m n : M} {r : A} → r ≡ f m → m ≡ n → r ≡ f n
asked f p e = p ∙ ap f e

-- ---- numbers

-- an integer is at most 9999
pub small-fits : (n : ℕ) → n ≤ 9999 → SFits w64 (pos n)
small-fits n h = record { sfits = omega arith }

pub placed-most : (mode : Mode) (c : List ℕ) (n : ℕ) → integer_placed mode c ≡ Ok n → n ≤ 9999
placed-most mode c n e = integer-most mode c n (sym (integer-unplaced mode c) ∙ ap result_ok e)

pub small-reads : (n : ℕ) → n ≤ 9999 → to_z w64 n ≡ pos n
small-reads n h = to_z_pos w64 {n = n} (omega arith)

-- ---- what was lent

-- the output at exit, where g puts the text t into it by the answer
pub put-out {ℓ κ} : {M : Type ℓ} {A : Type κ} (g : A → List ℕ → List ℕ → List ℕ) (f : M → A) (t : M → List ℕ) (l : List ℕ) {m n : M} {o : A} {l' : List ℕ}
    → m ≡ n → o ≡ f m → l' ≡ g o (t m) l → l' ≡ g (f n) (t n) l
put-out g f t l e q p = p ∙ ap₂ (λ (a : _). λ (xs : List ℕ). g a xs l) (asked f q e) (ap t e)

-- a table at exit, where an edit makes u of the tables t
pub edited {ℓ κ} : {M : Type ℓ} {A : Type κ} (g : Tables → List A) (f : M → Result ℕ Unedited) (u t : Tables) {m n : M} {o : Result ℕ Unedited} {l' : List A}
    → m ≡ n → o ≡ f m → l' ≡ g (tables_at o u t) → l' ≡ g (tables_at (f n) u t)
edited g f u t e q p = p ∙ ap (λ (a : Result ℕ Unedited). g (tables_at a u t)) (asked f q e)

-- ---- questions about a sheet

pub class-most : (k : Class) {r : ℕ} → r ≡ index_of k → r ≤ 5
class-most Class.Confine e = omega arith
class-most Class.Other e = omega arith
class-most Class.Road e = omega arith
class-most Class.Water e = omega arith
class-most Class.Building e = omega arith
class-most Class.Parcel e = omega arith
