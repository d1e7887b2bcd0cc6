-- A reading into tables that hold any file of n bytes: it is refused, or read, and 14 never comes. Document 01, "Sheet tables". Assumes nothing.
use mathlib.Core.Path.{◌≡◌, refl, sym, ◌∙◌, subst}
use mathlib.Core.Bool.{Bool, true, false, cond}
use mathlib.Core.List.{List}
use Prim.Native.Nat.{ℕ, ◌≤◌}
use native.Mathlib.Omega.{arith}
use lib.ListN.{length}
use Rattle.std.specs.Prelude.{Ok, Err}
use Rattle.laws.specs.Lists.{over}
use Rattle.record.specs.declared.Mode.{Mode}
use Rattle.heading.specs.declared.Header.{Header}
use Rattle.sheet.specs.Tables.{Tables}
use Rattle.sheet.specs.Reading.{Reading, sheet, refused, reading}
use Rattle.reader.specs.Columns.{reading_column}
use Rattle.reader.specs.declared.Reading as Declared
use Rattle.reader.specs.declared.Unread.TheVariants as Unread
use Rattle.reader.specs.Read.{Answer, needs_of, Rooms, holds_all, read_with, refused_with, answered, read_of, written}
use Rattle.reader.proofs.NeedLaws.{Enough, enough-holds}

-- what an answer says of the file
abbrev pub Told : Mode → List ℕ → Answer → Type 0
Told mode bs (Ok x) = (o : Tables) × (reading mode bs ≡ sheet x.header o) × (x.needs ≡ needs_of o)
Told mode bs (Err (Unread.NoRoom a)) = ⊥
Told mode bs (Err (Unread.Refused s column)) = (reading mode bs ≡ refused s.refusal s.«record» s.offset) × (column ≡ reading_column mode bs)

-- a table that was read into
pub table-read {ℓ} : {A : Type ℓ} (b : Answer) (a : Declared.Reading) → b ≡ Ok a → {xs ys : List A} → xs ≡ ys → (t l : List A) → t ≡ written b xs l → t ≡ over ys l
table-read b a e f t l w = rw (e, f) at w

module _ (mode : Mode) (bs : List ℕ) (n : ℕ) (r : Rooms) (short : length bs ≤ n) (enough : Enough n r) where
  told : Told mode bs (read_of mode bs r)
  unfolding read_of
  told = by (reading mode bs) refl
    where
      room : (h : Header) (o : Tables) → reading mode bs ≡ sheet h o → (b : Bool) → b ≡ true
          → Told mode bs (cond b (read_with (needs_of o) h) (refused_with (Unread.NoRoom (needs_of o))))
      room h o e true f = (o, e, refl)
      room h o e false f = absurd (let z : ◌≡◌ {A = ℕ} 0 1 = cc in omega arith)

      by : (x : Reading) → reading mode bs ≡ x → Told mode bs (answered (reading_column mode bs) x r)
      by (sheet h o) e = room h o e (holds_all (needs_of o) r) (enough-holds mode bs h o r n e short enough)
      by (refused m k at) e = (e, refl)

  pub told-by : (x : Answer) → x ≡ read_of mode bs r → (a : Answer) → x ≡ a → Told mode bs a
  told-by x e a q = subst (Told mode bs) (sym e ∙ q) told
