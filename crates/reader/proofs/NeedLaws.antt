-- What a file of n bytes can need at most, for any n: document 01, "Sheet tables", "then the room (14)". Who lends so much is never refused for room. Assumes nothing.
use mathlib.Core.Path.{◌≡◌, refl, sym, ◌∙◌}
use mathlib.Core.Bool.{Bool, true, false, cond}
use mathlib.Core.List.{List}
use Prim.Native.Nat.{ℕ, ◌/◌, ◌≤◌}
use native.Mathlib.Omega.{arith}
use lib.ListN.{length}
use borrow.Author.Tests.{le-leb}
use Rattle.laws.proofs.Choice.{false≢true}
use Rattle.record.specs.declared.Mode.{Mode}
use Rattle.heading.specs.declared.Header.{Header}
use Rattle.kinds.specs.Kinds.{row_width}
use Rattle.sheet.specs.Tables.{Tables}
use Rattle.sheet.specs.Reading.{Reading, sheet, refused, reading}
use Rattle.reader.specs.declared.Needs.{Needs}
use Rattle.reader.specs.declared.Unread.TheVariants as Unread
use Rattle.reader.specs.Columns.{reading_column}
use Rattle.reader.specs.Read.{needs_of, Rooms, holds_all, read_with, refused_with, answered, read_of, counts_of}
use Rattle.reader.proofs.Bytes.{tables-most}
use Rattle.reader.proofs.ReadLaws.{no-room-is}

-- what a file of n bytes can need at most
pub record Most (n : ℕ) (a : Needs) : Type 0 where
  pub rows : a.rows ≤ n / 28
  pub letters : a.letters ≤ n
  pub islands : a.islands ≤ n / 2
  pub points : a.points ≤ n / 12

needs-most : (mode : Mode) (bs : List ℕ) (h : Header) (o : Tables) → reading mode bs ≡ sheet h o → Most (length bs) (needs_of o)
needs-most mode bs h o q =
    let (r, w) = tables-most mode bs h o q in
    record { rows = omega (arith, r); letters = omega (arith, w); islands = omega (arith, w); points = omega (arith, w) }

-- **a file of n bytes, read in any mode, uses or needs at most these**
pub counts-most : (mode : Mode) (bs : List ℕ) (r : Rooms) → Most (length bs) (counts_of (read_of mode bs r))
unfolding read_of
counts-most mode bs r = by (reading mode bs) refl
  where
    room : (h : Header) (o : Tables) → Most (length bs) (needs_of o) → (b : Bool)
        → Most (length bs) (counts_of (cond b (read_with (needs_of o) h) (refused_with (Unread.NoRoom (needs_of o)))))
    room h o m true = m
    room h o m false = m

    by : (x : Reading) → reading mode bs ≡ x → Most (length bs) (counts_of (answered (reading_column mode bs) x r))
    by (sheet h o) e = room h o (needs-most mode bs h o e) (holds_all (needs_of o) r)
    by (refused m k at) e = record { rows = omega arith; letters = omega arith; islands = omega arith; points = omega arith }

-- tables that hold any file of n bytes
pub record Enough (n : ℕ) (r : Rooms) : Type 0 where
  pub rows : n / 28 ≤ r.rows / row_width
  pub letters : n ≤ r.letters
  pub islands : n / 2 ≤ r.islands
  pub points : n / 12 ≤ r.points / 2

pub enough-holds : (mode : Mode) (bs : List ℕ) (h : Header) (o : Tables) (r : Rooms) (n : ℕ) → reading mode bs ≡ sheet h o → length bs ≤ n → Enough n r
    → holds_all (needs_of o) r ≡ true
unfolding holds_all
enough-holds mode bs h o r n q l e =
    let m = needs-most mode bs h o q in
    rw (
      le-leb (length o.rows / row_width) (r.rows / row_width) (omega (arith, e.rows, m.rows)),
      le-leb (length o.letters) r.letters (omega (arith, e.letters, m.letters)),
      le-leb (length o.islands) r.islands (omega (arith, e.islands, m.islands)),
      le-leb (length o.points / 2) (r.points / 2) (omega (arith, e.points, m.points)),
    )

-- **no room is never the answer there**: who lends so much need not ask for the needs first
pub enough-read : (mode : Mode) (bs : List ℕ) (r : Rooms) (n : ℕ) → length bs ≤ n → Enough n r → (a : Needs) → read_of mode bs r ≡ refused_with (Unread.NoRoom a) → ⊥
enough-read mode bs r n l e a q =
    let s = no-room-is mode bs r a q in
    false≢true (sym s.short ∙ enough-holds mode bs s.header s.tables r n s.sound l e)
