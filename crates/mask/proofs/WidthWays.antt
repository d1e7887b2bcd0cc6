-- What refuses a ring's area, and a border's, found without it. Assumes nothing.
use mathlib.Core.Path.{◌≡◌, refl, sym, ◌∙◌}
use mathlib.Core.Bool.{Bool, true, false, cond}
use mathlib.Core.List.{List}
use Prim.Native.Nat.{ℕ, ◌+◌, ◌-◌, ◌*◌, ◌≤◌, ◌<◌}
use lib.ListN.{length, get_or, drop}
use lib.IntN.{ℤ, pos, nat_abs}
use borrow.Author.Tests.{le-leb, lt-leb}
use Rattle.laws.proofs.ListLaws.{left, left-none}
use Rattle.std.specs.Prelude.{Result, Ok, Err}
use Rattle.plane.specs.declared.NoArea.{NoArea}
use Rattle.plane.specs.declared.NoArea.TheVariants.{Wide, Missing}
use Rattle.plane.specs.Rings.{most, held, narrow}
use Rattle.plane.specs.Areas.{signed-sum, area_of}
use Rattle.plane.proofs.RingLaws.{held-has}
use Rattle.made.specs.Made.{sum}
use Rattle.area.specs.declared.Areas.{Areas}
use Rattle.area.specs.BorderRings.{areas_together, total_from, of_rings, areas_of}
use Rattle.mask.specs.Width.{width_of, widths_of}

-- ---- one ring

-- a ring that is not refused is held
fine-room : (ps : List ℤ) (from n : ℕ) → width_of (area_of ps from n) ≡ Ok tt → 2 * (from + n) ≤ length ps
unfolding area_of
fine-room ps from n e = go (held (length ps) from n) refl (cond (narrow ps from n) (Ok (pos (nat_abs (signed-sum ps from (n - 1))))) (Err Wide)) e
  where
    go : (t : Bool) → held (length ps) from n ≡ t → (x : Result ℤ NoArea) → width_of (cond t x (Err Missing)) ≡ Ok tt → 2 * (from + n) ≤ length ps
    go true h x q = (held-has (length ps) from n h).2
    go false h x q = absurd cc

-- ---- rings one behind the other: the first refusal

together-fine : (a b : Result ℤ NoArea) → width_of a ≡ Ok tt → width_of (areas_together a b) ≡ width_of b
together-fine (Ok c) (Ok d) e = refl
together-fine (Ok c) (Err d) e = refl
together-fine (Err c) b e = absurd cc

together-refused : (a b : Result ℤ NoArea) (r : NoArea) → width_of a ≡ Err r → Err r ≡ width_of (areas_together a b)
together-refused (Ok c) b r e = absurd cc
together-refused (Err c) b r e = sym e

module _ (ps : List ℤ) (from : ℕ) (sizes : List ℕ) (at i : ℕ) (q : width_of (total_from ps from sizes) ≡ width_of (total_from ps at (drop i sizes))) where
  pub widths-over : length sizes ≤ i → Ok tt ≡ width_of (total_from ps from sizes)
  unfolding total_from
  widths-over h = sym (q ∙ rw (left-none sizes i h))

  module _ (h : i < length sizes) (n : ℕ) (e : n ≡ get_or sizes i 0) (w : Result Unit NoArea) (ew : w ≡ width_of (area_of ps at n)) where
    next : width_of (total_from ps from sizes) ≡ width_of (areas_together (area_of ps at n) (total_from ps (at + n) (drop (i + 1) sizes)))
    unfolding total_from
    next = q ∙ rw (left sizes i 0 h, ← e)

    pub widths-refused : (r : NoArea) → w ≡ Err r → Err r ≡ width_of (total_from ps from sizes)
    widths-refused r m = together-refused (area_of ps at n) (total_from ps (at + n) (drop (i + 1) sizes)) r (sym ew ∙ m) ∙ sym next

    pub widths-on : w ≡ Ok tt → width_of (total_from ps from sizes) ≡ width_of (total_from ps (at + n) (drop (i + 1) sizes))
    widths-on m = next ∙ together-fine (area_of ps at n) (total_from ps (at + n) (drop (i + 1) sizes)) (sym ew ∙ m)

    pub widths-room : w ≡ Ok tt → 2 * (at + n) ≤ length ps
    widths-room m = fine-room ps at n (sym ew ∙ m)

-- ---- a border

rings-fine : (a b : Result ℤ NoArea) → width_of a ≡ Ok tt → width_of b ≡ widths_of (of_rings a b)
rings-fine (Ok c) (Ok d) e = refl
rings-fine (Ok c) (Err d) e = refl
rings-fine (Err c) b e = absurd cc

rings-refused : (a b : Result ℤ NoArea) (r : NoArea) → width_of a ≡ Err r → Err r ≡ widths_of (of_rings a b)
rings-refused (Ok c) b r e = absurd cc
rings-refused (Err c) b r e = sym e

module _ (v : ℕ) (islands : List ℕ) (ps : List ℤ) where
  pub border-many : most < v → Err Missing ≡ widths_of (areas_of v islands ps)
  unfolding areas_of
  border-many h = rw (lt-leb v most h)

  module _ (h : v ≤ most) (n : ℕ) (e : n ≡ v - sum islands) (w : Result Unit NoArea) (ew : w ≡ width_of (area_of ps 0 n)) where
    pub outer-refused : (r : NoArea) → w ≡ Err r → Err r ≡ widths_of (areas_of v islands ps)
    unfolding areas_of
    outer-refused r m = rw (le-leb v most h, ← e) (rings-refused (area_of ps 0 n) (total_from ps n islands) r (sym ew ∙ m))

    pub outer-fine : w ≡ Ok tt → (r : Result Unit NoArea) → r ≡ width_of (total_from ps n islands) → r ≡ widths_of (areas_of v islands ps)
    unfolding areas_of
    outer-fine m r q = rw (le-leb v most h, ← e) (q ∙ rings-fine (area_of ps 0 n) (total_from ps n islands) (sym ew ∙ m))

-- a border that is not refused has its areas
pub has-areas : (x : Result Areas NoArea) → widths_of x ≡ Ok tt → (Q : Type 0) → ((a : Areas) → x ≡ Ok a → Q) → Q
has-areas (Ok a) e Q f = f a refl
has-areas (Err r) e Q f = absurd cc
