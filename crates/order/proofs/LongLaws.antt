-- Codes that are too long for a line: none is listed where none was found, and a union sheet has none. Assumes nothing.
use Prim.Native.Nat.{ℕ, zero, suc, ◌+◌, ◌≤◌, ◌<◌}
use mathlib.Core.Path.{◌≡◌, refl}
use mathlib.Core.List.{List, []}
use mathlib.Core.Bool.{Bool, true, false, cond, ◌&&◌}
use native.Mathlib.Numerals.{add-one}
use native.Mathlib.Omega.{arith}
use lib.ListN.{length}
use lib.Dec.{eqb, ltb}
use lib.IntN.{ℤ}
use borrow.Author.Tests.{ltb-true, ltb-false, le-ltb}
use Rattle.std.specs.Prelude.{Some, None, Ok}
use Rattle.laws.proofs.Choice.{false≢true}
use Rattle.heading.specs.declared.Header.{Header}
use Rattle.record.specs.declared.Mode.TheVariants.{Loose}
use Rattle.sheet.specs.Tables.{Tables}
use Rattle.made.specs.Made.{tables_of, kind_of, letters_of, none_before, judge_rows}
use Rattle.row.specs.declared.Stand.{Stand}
use Rattle.row.specs.Walk.{first_stand, stand_after, stand_of, left_at}
use Rattle.classes.specs.declared.Class.{Class}
use Rattle.classes.specs.declared.Class.TheVariants.{Confine, Other, Road, Water, Building, Parcel}
use Rattle.classes.specs.Classes.{class_of}
use Rattle.classes.proofs.ClassLaws.{other-iff}
use Rattle.border.specs.Borders.{border_of}
use Rattle.order.specs.Sorting.{EachOf, EachOf.each_nil, EachOf.each_on}
use Rattle.order.specs.SupBorders.{lists_class, is_in_sup, with_if, sup_borders_from, code_most, is_long, first_long_from, first_long}
use Rattle.order.specs.SupOrder.{sup_in_order}
use Rattle.order.specs.Windows.{Small}
use Rattle.order.proofs.OrderLaws.{in-order-each}
use Rattle.order.proofs.RowsLaws.{next-stand}

-- it is a matter of rows and letters
long-from-own : (h : Header) (rows : List ℤ) (letters islands : List ℕ) (points : List ℤ) (n k : ℕ) (d : Stand)
    → first_long_from h (tables_of rows letters islands points) n k d ≡ first_long_from h (tables_of rows letters [] []) n k d
unfolding first_long_from is_long is_in_sup border_of
long-from-own h rows letters islands points zero k d = refl
long-from-own h rows letters islands points (suc n) k d = rw (long-from-own h rows letters islands points n (k + 1) (stand_after rows d))

pub long-own : (h : Header) (count : ℕ) (rows : List ℤ) (letters islands : List ℕ) (points : List ℤ)
    → first_long h count (tables_of rows letters islands points) ≡ first_long h count (tables_of rows letters [] [])
long-own h count rows letters islands points = long-from-own h rows letters islands points count 0 first_stand

-- ---- where none is found, each listed code has its 11 places

abbrev pub Fits : Tables → Stand → Type 0
Fits t d = length (letters_of (left_at t d)) ≤ code_most

row≢nowhere : (k : ℕ) → Some k ≡ None → ⊥
row≢nowhere k e = let z : ◌≡◌ {A = ℕ} 0 1 = cc in omega arith

from-fit : (h : Header) (t : Tables) (n k : ℕ) (d : Stand) → first_long_from h t n k d ≡ None → EachOf (Fits t) (sup_borders_from h t n d)
unfolding first_long_from sup_borders_from is_long
from-fit h t zero k d e = each_nil
from-fit h t (suc n) k d e =
    go (is_in_sup h (left_at t d)) (ltb code_most (length (letters_of (left_at t d)))) refl e (from-fit h t n (k + 1) (stand_after t.rows d))
  where
    go : (x y : Bool) → ltb code_most (length (letters_of (left_at t d))) ≡ y → cond (x && y) (Some k) (first_long_from h t n (k + 1) (stand_after t.rows d)) ≡ None
        → (first_long_from h t n (k + 1) (stand_after t.rows d) ≡ None → EachOf (Fits t) (sup_borders_from h t n (stand_after t.rows d)))
        → EachOf (Fits t) (with_if x d (sup_borders_from h t n (stand_after t.rows d)))
    go false y q f g = g f
    go true true q f g = absurd (row≢nowhere k f)
    go true false q f g = each_on (ltb-false code_most (length (letters_of (left_at t d))) q) (g f)

pub codes-fit : (h : Header) (count : ℕ) (t : Tables) → first_long h count t ≡ None → EachOf (Fits t) (sup_in_order h count t)
codes-fit h count t e = in-order-each (Fits t) h count t (from-fit h t count 0 first_stand e)

-- ---- a row that is found is the first one

nowhere≢row : (k : ℕ) → None ≡ Some k → ⊥
nowhere≢row k e = let z : ◌≡◌ {A = ℕ} 0 1 = cc in omega arith

row-eq : (j k : ℕ) → Some j ≡ Some k → j ≡ k
row-eq j k e = cc

-- row k of the sheet is listed and too long, and no row before it is
pub record FirstSuch (h : Header) (count : ℕ) (t : Tables) (k : ℕ) : Type 0 where
  pub inside : k < count
  pub long : is_long h (left_at t (stand_of k t.rows)) ≡ true
  pub earlier : (j : ℕ) → j < k → is_long h (left_at t (stand_of j t.rows)) ≡ false

module _ (h : Header) (count : ℕ) (t : Tables) (m : Small t) (f : judge_rows Loose count none_before t ≡ Ok tt) (k : ℕ) where
  abbrev long_at : ℕ → Bool
  long_at j = is_long h (left_at t (stand_of j t.rows))

  -- none before row i, then none before the next
  none-next : (i : ℕ) → ((j : ℕ) → j < i → long_at j ≡ false) → long_at i ≡ false → (j : ℕ) → j < suc i → long_at j ≡ false
  none-next i g e j l = go (ltb j i) refl
    where
      go : (b : Bool) → ltb j i ≡ b → long_at j ≡ false
      go true q = g j (ltb-true j i q)
      go false q = let z : j ≡ i = let y = ltb-false j i q in omega arith in rw z e

  from_row : (n i : ℕ) → i + n ≡ count → ((j : ℕ) → j < i → long_at j ≡ false) → first_long_from h t n i (stand_of i t.rows) ≡ Some k → FirstSuch h count t k
  unfolding first_long_from
  from_row zero i e g q = absurd (nowhere≢row k q)
  from_row (suc n) i e g q = go (long_at i) refl q (from_row n (suc i) (omega arith))
    where
      go : (b : Bool) → long_at i ≡ b → cond b (Some i) (first_long_from h t n (i + 1) (stand_after t.rows (stand_of i t.rows))) ≡ Some k
          → (((j : ℕ) → j < suc i → long_at j ≡ false) → first_long_from h t n (suc i) (stand_of (suc i) t.rows) ≡ Some k → FirstSuch h count t k) → FirstSuch h count t k
      go true d r s = let z : i ≡ k = row-eq i k r in rw (← z) (record { inside = omega arith; long = d; earlier = g })
      go false d r s = s (none-next i g d) (rw (add-one, next-stand t count m f i (omega arith)) at r)

  pub first-long-row : first_long h count t ≡ Some k → FirstSuch h count t k
  unfolding stand_of
  first-long-row e = from_row count 0 (omega arith) (λ j l. absurd (omega arith)) e

-- ---- a union sheet lists codes of 11 letters

listed-other : (c : Class) → lists_class 3 c ≡ true → c ≡ Other
listed-other Confine e = absurd (false≢true e)
listed-other Other e = refl
listed-other Road e = absurd (false≢true e)
listed-other Water e = absurd (false≢true e)
listed-other Building e = absurd (false≢true e)
listed-other Parcel e = absurd (false≢true e)

other-eleven : (name s : List ℕ) → lists_class 3 (class_of 3 name s) ≡ true → length s ≡ 11
other-eleven name s e = ((other-iff 3 name s).0 (listed-other (class_of 3 name s) e)).1

union-short : (h : Header) (t : Tables) → h.kind ≡ 3 → is_long h t ≡ false
unfolding is_long is_in_sup border_of
union-short h t e = rw e (go (eqb (kind_of t) 1) (lists_class 3 (class_of 3 h.name (letters_of t))) refl)
  where
    go : (x y : Bool) → lists_class 3 (class_of 3 h.name (letters_of t)) ≡ y → ((x && y) && ltb code_most (length (letters_of t))) ≡ false
    go false y q = refl
    go true false q = refl
    go true true q = let z = other-eleven h.name (letters_of t) q in le-ltb code_most (length (letters_of t)) (omega arith)

union-from : (h : Header) (t : Tables) → h.kind ≡ 3 → (n k : ℕ) (d : Stand) → first_long_from h t n k d ≡ None
unfolding first_long_from
union-from h t e zero k d = refl
union-from h t e (suc n) k d = rw (union-short h (left_at t d) e) (union-from h t e n (k + 1) (stand_after t.rows d))

pub union-never-long : (h : Header) (count : ℕ) (t : Tables) → h.kind ≡ 3 → first_long h count t ≡ None
union-never-long h count t e = union-from h t e count 0 first_stand
