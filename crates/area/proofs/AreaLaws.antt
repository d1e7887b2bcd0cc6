-- The laws of a border's areas: how large they are, that a well made border has them, that they depend on its own points alone, and
-- not on where the sheet lies. Assumes nothing.
use mathlib.Core.Path.{◌≡◌, refl, subst}
use mathlib.Core.List.{List, [], ◌∷◌, ◌++◌}
use mathlib.Core.Bool.{Bool, true, false}
use Prim.Native.Nat.{ℕ, ◌+◌, ◌-◌, ◌*◌, ◌≤◌}
use native.Mathlib.Nat.{zero-add}
use native.Mathlib.Omega.{arith}
use lib.Dec.{leb}
use lib.ListN.{length}
use lib.IntN.{ℤ, pos, ◌+ℤ◌}
use lib.Signed.{le_z}
use borrow.Author.Tests.{leb-true, leb-false, le-leb}
use Rattle.std.proofs.Common.{Result, Ok, Err}
use Rattle.laws.specs.Lists.{all}
use Rattle.laws.specs.Whole.{Within}
use Rattle.laws.proofs.Choice.{and_left, and_right, cond-elim}
use Rattle.laws.proofs.Parts.{num, ints, le-true}
use Rattle.laws.proofs.Parts as Parts
use Rattle.laws.proofs.Bounds.{within-le, within-add, within-lit}
use Rattle.plane.specs.declared.NoArea.{NoArea}
use Rattle.plane.specs.declared.NoArea.TheVariants.{Wide, Missing}
use Rattle.plane.specs.Rings.{most, held, narrow}
use Rattle.plane.specs.Areas.{edge-limit, area_of}
use Rattle.plane.specs.Moved.{moved}
use Rattle.plane.proofs.RingLaws.{held-is}
use Rattle.plane.proofs.AreaLaws.{area-size}
use Rattle.plane.proofs.MovedLaws.{area-moved}
use Rattle.plane.proofs.OwnLaws.{area-own}
use Rattle.kinds.specs.Kinds.{vertices_place}
use Rattle.sheet.specs.Tables.{Tables}
use Rattle.made.specs.Made.{count_at, kind_of, islands_of, sum, four_at_least, is_made}
use Rattle.made.proofs.RowWays.{made_held, made_counted}
use Rattle.area.specs.declared.Areas.{Areas}
use Rattle.area.specs.BorderRings.{both_areas, areas_together, total_from, of_rings, areas_of}

-- ---- how large

-- an area of n vertices
abbrev pub Sized : ℕ → Result ℤ NoArea → Type 0
Sized n (Ok d) = Within (n * edge-limit) d × (le_z (pos 0) d ≡ true)
Sized n (Err x) = Unit {0}

area-sized : (ps : List ℤ) (from n : ℕ) → Sized n (area_of ps from n)
area-sized ps from n = go (area_of ps from n) refl
  where
    go : (x : Result ℤ NoArea) → area_of ps from n ≡ x → Sized n x
    go (Ok d) e = let r = area-size ps from n d e in (within-le (omega arith) r.1, r.2)
    go (Err x) e = tt

plus-sized : (m n : ℕ) (x y : Result ℤ NoArea) → Sized m x → Sized n y → Sized (m + n) (areas_together x y)
plus-sized m n (Ok a) (Ok b) p q =
    let e = p.1 in let f = q.1 in
    (within-le (omega arith) (within-add p.0 q.0), le-true (pos 0) (a +ℤ b) (omega (arith, ints, num a, num b, Parts.sum a b)))
plus-sized m n (Ok a) (Err w) p q = tt
plus-sized m n (Err w) y p q = tt

pub total-sized : (ps : List ℤ) (from : ℕ) (ns : List ℕ) → Sized (sum ns) (total_from ps from ns)
unfolding total_from sum
total-sized ps from [] = (within-lit tt, refl)
total-sized ps from (n ∷ ns) = plus-sized n (sum ns) (area_of ps from n) (total_from ps (from + n) ns) (area-sized ps from n) (total-sized ps (from + n) ns)

-- a border's areas are not below 0, and each is at most 9,999 times 800,000,000,000,000
abbrev pub Fair : Result Areas NoArea → Type 0
Fair (Ok r) = Within (most * edge-limit) r.outer × (le_z (pos 0) r.outer ≡ true) × Within (most * edge-limit) r.inner × (le_z (pos 0) r.inner ≡ true)
Fair (Err x) = Unit {0}

both-fair : (m n : ℕ) (x y : Result ℤ NoArea) → Sized m x → Sized n y → ((d : ℤ) → x ≡ Ok d → m + n ≤ most) → Fair (of_rings x y)
both-fair m n (Ok a) (Ok b) p q h =
    let k = h a refl in
    (within-le (omega arith) p.0, p.1, within-le (omega arith) q.0, q.1)
both-fair m n (Ok a) (Err w) p q h = tt
both-fair m n (Err w) y p q h = tt

module _ (v : ℕ) (islands : List ℕ) (ps : List ℤ) where
  -- an outer ring leaves the islands what they have
  pub areas-room : v ≤ most → (d : ℤ) → area_of ps 0 (v - sum islands) ≡ Ok d → v - sum islands + sum islands ≤ most
  areas-room h d e = let r = area-size ps 0 (v - sum islands) d e in omega (arith, r.0)

  pub areas-fair : Fair (areas_of v islands ps)
  unfolding areas_of
  areas-fair =
      cond-elim Fair (leb v most) _ _
      (λ h. both-fair (v - sum islands) (sum islands) (area_of ps 0 (v - sum islands)) (total_from ps (v - sum islands) islands) (area-sized ps 0 (v - sum islands)) (total-sized ps (v - sum islands) islands) (areas-room (leb-true v most h)))
      (λ h. tt)

-- ---- a well made border has them

abbrev pub There : Result ℤ NoArea → Type 0
There (Ok d) = Unit {0}
There (Err Wide) = Unit {0}
There (Err Missing) = ⊥

plus-there : (x y : Result ℤ NoArea) → There x → There y → There (areas_together x y)
plus-there (Ok a) (Ok b) p q = tt
plus-there (Ok a) (Err w) p q = q
plus-there (Err w) y p q = p

both-there : (x y : Result ℤ NoArea) → There x → There y → of_rings x y ≡ Err Missing → ⊥
both-there (Ok a) (Ok b) p q e = let z : ◌≡◌ {A = ℕ} 0 1 = cc in omega arith
both-there (Ok a) (Err Wide) p q e = let z : ◌≡◌ {A = ℕ} 0 1 = cc in omega arith
both-there (Ok a) (Err Missing) p q e = q
both-there (Err Wide) y p q e = let z : ◌≡◌ {A = ℕ} 0 1 = cc in omega arith
both-there (Err Missing) y p q e = p

pub area-there : (ps : List ℤ) (from n : ℕ) → 1 ≤ n → n ≤ most → 2 * (from + n) ≤ length ps → There (area_of ps from n)
unfolding area_of
area-there ps from n a b c = rw (held-is (length ps) from n a b c) (cond-elim There (narrow ps from n) _ _ (λ _. tt) (λ _. tt))

total-there : (ps : List ℤ) (from : ℕ) (ns : List ℕ) → all four_at_least ns ≡ true → sum ns ≤ most → 2 * (from + sum ns) ≤ length ps → There (total_from ps from ns)
unfolding total_from sum all
total-there ps from [] e h k = tt
total-there ps from (n ∷ ns) e h k =
    let f = leb-true 4 n (and_left (leb 4 n) (all four_at_least ns) e) in
    plus-there (area_of ps from n) (total_from ps (from + n) ns) (area-there ps from n (omega arith) (omega arith) (omega arith))
    (total-there ps (from + n) ns (and_right (leb 4 n) (all four_at_least ns) e) (omega arith) (omega arith))

pub areas-there : (t : Tables) → is_made t ≡ true → kind_of t ≡ 1 → areas_of (count_at t vertices_place) (islands_of t) t.points ≡ Err Missing → ⊥
unfolding areas_of
areas-there t e k q =
    let c = made_counted t e k in
    let p = (made_held t e).points in
    let a = c.vertices in
    let b = c.outer in
    let v = count_at t vertices_place in
    let i = islands_of t in
    both-there (area_of t.points 0 (v - sum i)) (total_from t.points (v - sum i) i) (area-there t.points 0 (v - sum i) (omega arith) (omega arith) (omega arith))
    (total-there t.points (v - sum i) i c.islands (omega arith) (omega arith)) (rw (le-leb v most a) at q)

-- ---- a border that has them has its rings in the table

-- every one of rings of these sizes, one behind the other
abbrev pub AllHeld : List ℤ → ℕ → List ℕ → Type 0
AllHeld ps from [] = Unit {0}
AllHeld ps from (n ∷ ns) = (held (length ps) from n ≡ true) × AllHeld ps (from + n) ns

abbrev HeldWhere : Type 0 → Result ℤ NoArea → Type 0
HeldWhere q (Ok d) = q
HeldWhere q (Err x) = Unit {0}

plus-held : (p q : Type 0) (x y : Result ℤ NoArea) → HeldWhere p x → HeldWhere q y → HeldWhere (p × q) (areas_together x y)
plus-held p q (Ok a) (Ok b) h k = (h, k)
plus-held p q (Ok a) (Err w) h k = tt
plus-held p q (Err w) y h k = tt

area-held : (ps : List ℤ) (from n : ℕ) → HeldWhere (held (length ps) from n ≡ true) (area_of ps from n)
unfolding area_of
area-held ps from n =
    cond-elim (HeldWhere (held (length ps) from n ≡ true)) (held (length ps) from n) _ _
    (λ h. cond-elim (HeldWhere (held (length ps) from n ≡ true)) (narrow ps from n) _ _ (λ _. h) (λ _. tt)) (λ _. tt)

total-held : (ps : List ℤ) (from : ℕ) (ns : List ℕ) → HeldWhere (AllHeld ps from ns) (total_from ps from ns)
unfolding total_from
total-held ps from [] = tt
total-held ps from (n ∷ ns) =
    plus-held (held (length ps) from n ≡ true) (AllHeld ps (from + n) ns) (area_of ps from n) (total_from ps (from + n) ns) (area-held ps from n) (total-held ps (from + n) ns)

abbrev AnyHeld : Type 0 → Result Areas NoArea → Type 0
AnyHeld q (Ok r) = q
AnyHeld q (Err x) = Unit {0}

both-held : (p q : Type 0) (x y : Result ℤ NoArea) → HeldWhere p x → HeldWhere q y → AnyHeld (p × q) (of_rings x y)
both-held p q (Ok a) (Ok b) h k = (h, k)
both-held p q (Ok a) (Err w) h k = tt
both-held p q (Err w) y h k = tt

pub areas-held : (v : ℕ) (islands : List ℕ) (ps : List ℤ) (outer inner : ℤ) → areas_of v islands ps ≡ Ok (both_areas outer inner) → AllHeld ps 0 ((v - sum islands) ∷ islands)
unfolding areas_of
areas-held v islands ps outer inner e =
    subst (AnyHeld (AllHeld ps 0 ((v - sum islands) ∷ islands))) e
    (cond-elim (AnyHeld (AllHeld ps 0 ((v - sum islands) ∷ islands))) (leb v most) _ _
    (λ h. rw (zero-add (v - sum islands))
    (both-held (held (length ps) 0 (v - sum islands) ≡ true) (AllHeld ps (v - sum islands) islands) (area_of ps 0 (v - sum islands)) (total_from ps (v - sum islands) islands)
    (area-held ps 0 (v - sum islands)) (total-held ps (v - sum islands) islands)))
    (λ h. tt))

-- ---- they depend on the border's own points alone

pub total-own : (ps qs : List ℤ) (from : ℕ) (ns : List ℕ) → 2 * (from + sum ns) ≤ length ps → total_from (ps ++ qs) from ns ≡ total_from ps from ns
unfolding total_from sum
total-own ps qs from [] h = refl
total-own ps qs from (n ∷ ns) h = rw (area-own ps qs from n (omega arith), total-own ps qs (from + n) ns (omega arith))

no-area : (ps : List ℤ) (n : ℕ) → n ≡ 0 → area_of ps 0 n ≡ Err Missing
unfolding area_of held
no-area ps n e = rw e

pub areas-own : (v : ℕ) (islands : List ℕ) (ps qs : List ℤ) → 2 * v ≤ length ps → areas_of v islands (ps ++ qs) ≡ areas_of v islands ps
unfolding areas_of
areas-own v islands ps qs h = go (leb (sum islands) v) refl
  where
    go : (x : Bool) → leb (sum islands) v ≡ x → areas_of v islands (ps ++ qs) ≡ areas_of v islands ps
    go true e =
        let k = leb-true (sum islands) v e in
        rw (area-own ps qs 0 (v - sum islands) (omega arith), total-own ps qs (v - sum islands) islands (omega arith))
    go false e =
        let k = leb-false (sum islands) v e in
        rw (no-area (ps ++ qs) (v - sum islands) (omega arith), no-area ps (v - sum islands) (omega arith))

-- ---- they do not depend on where the sheet lies

module _ (dx dy : ℤ) (ps : List ℤ) where
  pub total-moved : (from : ℕ) (ns : List ℕ) → total_from (moved dx dy ps) from ns ≡ total_from ps from ns
  unfolding total_from
  total-moved from [] = refl
  total-moved from (n ∷ ns) = rw (area-moved dx dy ps from n, total-moved (from + n) ns)

  pub areas-moved : (v : ℕ) (islands : List ℕ) → areas_of v islands (moved dx dy ps) ≡ areas_of v islands ps
  unfolding areas_of
  areas-moved v islands = rw (area-moved dx dy ps 0 (v - sum islands), total-moved (v - sum islands) islands)
