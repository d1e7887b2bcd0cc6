-- The same border gives the same mask (document 02, T-03): where its rings start and their direction do not matter, nor does moving it with the corner,
-- nor what stands behind its points. Assumes nothing.
use mathlib.Core.Path.{◌≡◌, refl, sym, ◌∙◌, ap, ap₂}
use mathlib.Core.Bool.{Bool, true, false, cond, ◌&&◌}
use mathlib.Core.List.{List, [], ◌∷◌, ◌++◌}
use Prim.Native.Nat.{ℕ, zero, suc, ◌+◌, ◌-◌, ◌*◌, ◌≤◌, ◌<◌}
use native.Mathlib.Nat.{add_assoc}
use native.Mathlib.Omega.{arith}
use lib.Dec.{leb}
use lib.ListN.{length, get_or-append}
use lib.IntN.{ℤ, pos, ◌+ℤ◌}
use borrow.Author.Tests.{leb-true, leb-false}
use Rattle.plane.specs.Rings.{x-at, y-at}
use Rattle.plane.specs.Moved.{moved}
use Rattle.plane.proofs.RingLaws.{held-has}
use Rattle.plane.proofs.MovedLaws.{x-moved, y-moved}
use Rattle.made.specs.Made.{sum, ring_sizes}
use Rattle.std.specs.Prelude.{Result, Ok, Err}
use Rattle.plane.specs.declared.NoArea.{NoArea}
use Rattle.plane.specs.declared.NoArea.TheVariants.{Wide as AnyWide, Missing as AnyMissing}
use Rattle.area.specs.declared.Areas.{Areas}
use Rattle.area.specs.BorderRings.{areas_of}
use Rattle.area.proofs.AreaLaws.{AllHeld, areas-held, areas-own, areas-moved}
use Rattle.grid.specs.Inside.{centre-x, centre-y, is_odd, crossings}
use Rattle.grid.specs.Words.{grid_side, row_words, all_cells_set, set_bits}
use Rattle.grid.specs.Cells.{is_cell_side, grid-real, by-corner, near-corner, near-from}
use Rattle.grid.specs.Same.{SameVertex, BegunAt, TurnedRound, MovedVertex}
use Rattle.grid.proofs.WordLaws.{words-set}
use Rattle.grid.proofs.HoldLaws.{words_same}
use Rattle.grid.proofs.NearLaws.{near-each, near-all, near-split}
use Rattle.grid.proofs.SameLaws.{crossings-same, crossings-begun, crossings-turned, crossings-moved, apart-moved}
use Rattle.mask.specs.Covers.{all-crossings, in-border, covers}
use Rattle.mask.specs.Redrawn.{RingRedrawn, begun-at, turned_round, Redrawn}
use Rattle.mask.specs.Masks.{drawn, undrawn, mask_after, border_mask, mask_of}
use Rattle.mask.specs.declared.Mask.{Mask}
use Rattle.mask.specs.declared.Unmasked.TheVariants.{BadSide, OffGrid}

-- ---- masks of the same cells

drawn-same : (p q : ℕ → ℕ → Bool) → ((r c : ℕ) → p r c ≡ q r c) → drawn p ≡ drawn q
drawn-same p q h =
    let w : row_words p grid_side ≡ row_words q grid_side = words_same p q grid_side h in
    let n : all_cells_set p grid_side ≡ all_cells_set q grid_side = sym (words-set p grid_side) ∙ ap set_bits w ∙ words-set q grid_side in
    ap₂ (λ (k : ℕ) (l : List ℕ). record { answer = Ok k; rows = l }) n w

-- two borders of as many vertices and islands, each with a grid
module _ (v : ℕ) (islands : List ℕ) (ps qs : List ℤ) (cx cy bx by : ℤ) (s : ℕ) where
  border-same : grid-real cx cy s ≡ grid-real bx by s → near-from ps cx cy 0 v ≡ near-from qs bx by 0 v
      → ((r c : ℕ) → covers ps (ring_sizes v islands) cx cy s r c ≡ covers qs (ring_sizes v islands) bx by s r c) → border_mask v islands ps cx cy s ≡ border_mask v islands qs bx by s
  unfolding border_mask
  border-same g n f =
      ap₂ (λ (b : Bool) (m : Mask). cond b m (undrawn OffGrid)) (ap₂ ◌&&◌ g n) (drawn-same (covers ps (ring_sizes v islands) cx cy s) (covers qs (ring_sizes v islands) bx by s) f)

  mask-same : areas_of v islands ps ≡ areas_of v islands qs → ((a : Areas) → areas_of v islands qs ≡ Ok a → border_mask v islands ps cx cy s ≡ border_mask v islands qs bx by s)
      → mask_of v islands ps cx cy s ≡ mask_of v islands qs bx by s
  unfolding mask_of
  mask-same e f = ap (λ (m : Mask). cond (is_cell_side s) m (undrawn BadSide)) (rw e (case (areas_of v islands qs) refl))
    where
      case : (x : Result Areas NoArea) → areas_of v islands qs ≡ x → mask_after (border_mask v islands ps cx cy s) x ≡ mask_after (border_mask v islands qs bx by s) x
      case (Ok a) q = f a q
      case (Err AnyWide) q = refl
      case (Err AnyMissing) q = refl

  mask-both : (a c : Areas) → areas_of v islands ps ≡ Ok a → areas_of v islands qs ≡ Ok c → border_mask v islands ps cx cy s ≡ border_mask v islands qs bx by s
      → mask_of v islands ps cx cy s ≡ mask_of v islands qs bx by s
  unfolding mask_of
  mask-both a c e f m = ap (λ (x : Mask). cond (is_cell_side s) x (undrawn BadSide)) (rw (e, f) m)

-- the outer ring is held, so the islands leave it some vertices
sizes-sum : (v : ℕ) (islands : List ℕ) (ps : List ℤ) → AllHeld ps 0 ((v - sum islands) ∷ islands) → sum (ring_sizes v islands) ≡ v
unfolding ring_sizes sum
sizes-sum v islands ps h = let o = (held-has (length ps) 0 (v - sum islands) h.0).0 in omega arith

-- ---- the same vertices

near_same : (ps qs : List ℤ) (v w : ℕ) (cx cy : ℤ) → SameVertex ps v qs w → near-corner ps cx cy v ≡ near-corner qs cx cy w
unfolding near-corner
near_same ps qs v w cx cy e = rw (e.same-x, e.same-y)

module _ (ps qs : List ℤ) (cx cy : ℤ) where
  run-same : (from n : ℕ) → ((k : ℕ) → k < from + n → SameVertex ps k qs k) → near-from ps cx cy from n ≡ near-from qs cx cy from n
  unfolding near-from
  run-same from zero f = refl
  run-same from (suc n) f = ap₂ ◌&&◌ (run-same from n (λ k h. f k (omega arith))) (near_same ps qs (from + n) (from + n) cx cy (f (from + n) (omega arith)))

all_same : (ps qs : List ℤ) (from : ℕ) (ns : List ℕ) (x y : ℤ) → ((k : ℕ) → k < from + sum ns → SameVertex ps k qs k) → AllHeld qs from ns → all-crossings ps from ns x y ≡ all-crossings qs from ns x y
unfolding all-crossings sum
all_same ps qs from [] x y f h = refl
all_same ps qs from (n ∷ ns) x y f h =
    let o = (held-has (length qs) from n h.0).0 in
    ap₂ (λ (a b : ℕ). a + b) (crossings-same ps from qs from x y (n - 1) (λ k g. f (from + k) (omega arith))) (all_same ps qs (from + n) ns x y (λ k g. f k (omega arith)) h.1)

-- **what stands behind a border's points does not matter**
pub mask-own : (v : ℕ) (islands : List ℕ) (ps qs : List ℤ) (cx cy : ℤ) (s : ℕ) → 2 * v ≤ length ps → mask_of v islands (ps ++ qs) cx cy s ≡ mask_of v islands ps cx cy s
unfolding covers in-border ring_sizes
mask-own v islands ps qs cx cy s l =
    mask-same v islands (ps ++ qs) ps cx cy cx cy s (areas-own v islands ps qs l)
    (λ a e. let h = areas-held v islands ps a.outer a.inner e in
    let z = sizes-sum v islands ps h in
    border-same v islands (ps ++ qs) ps cx cy cx cy s refl (run-same (ps ++ qs) ps cx cy 0 v (λ k g. each k (omega arith)))
    (λ r c. ap is_odd (all_same (ps ++ qs) ps 0 ((v - sum islands) ∷ islands) (centre-x cx s c) (centre-y cy s r) (λ k g. each k (omega (arith, z))) h)))
  where
    each : (k : ℕ) → k < v → SameVertex (ps ++ qs) k ps k
    each k h = record { same-x = get_or-append ps qs (pos 0) (2 * k) (omega arith); same-y = get_or-append ps qs (pos 0) (2 * k + 1) (omega arith) }

-- ---- rings begun elsewhere or turned round

both_ways : (a b : Bool) → (a ≡ true → b ≡ true) → (b ≡ true → a ≡ true) → a ≡ b
both_ways true b f g = sym (f refl)
both_ways false true f g = g refl
both_ways false false f g = refl

module _ (ps qs : List ℤ) (from : ℕ) (cx cy : ℤ) where
  begun-near : (e j : ℕ) → BegunAt ps from qs from e j → near-from ps cx cy from (e + 1) ≡ near-from qs cx cy from (e + 1)
  begun-near e j b =
      both_ways (near-from ps cx cy from (e + 1)) (near-from qs cx cy from (e + 1))
      (λ n. near-all qs cx cy from (e + 1) (λ k h. there n k h (leb k (e - j)) refl)) (λ n. near-all ps cx cy from (e + 1) (λ k h. back n k h (leb j k) refl))
    where
      there : near-from ps cx cy from (e + 1) ≡ true → (k : ℕ) → k < e + 1 → (t : Bool) → leb k (e - j) ≡ t → near-corner qs cx cy (from + k) ≡ true
      there n k h true q =
          let l = leb-true k (e - j) q in
          let a = b.among in
          sym (near_same ps qs (from + j + k) (from + k) cx cy (b.onward k l)) ∙ rw (add_assoc from j k) (near-each ps cx cy from (e + 1) n (j + k) (omega arith))
      there n k h false q =
          let l = leb-false k (e - j) q in
          let a = b.among in
          let z : from + (e - j) + (k - (e - j)) ≡ from + k = omega arith in
          rw (← z) (sym (near_same ps qs (from + (k - (e - j))) (from + (e - j) + (k - (e - j))) cx cy (b.around (k - (e - j)) (omega arith))) ∙ near-each ps cx cy from (e + 1) n (k - (e - j)) (omega arith))

      back : near-from qs cx cy from (e + 1) ≡ true → (k : ℕ) → k < e + 1 → (t : Bool) → leb j k ≡ t → near-corner ps cx cy (from + k) ≡ true
      back n k h true q =
          let l = leb-true j k q in
          let a = b.among in
          let z : from + j + (k - j) ≡ from + k = omega arith in
          rw (← z) (near_same ps qs (from + j + (k - j)) (from + (k - j)) cx cy (b.onward (k - j) (omega arith)) ∙ near-each qs cx cy from (e + 1) n (k - j) (omega arith))
      back n k h false q =
          let l = leb-false j k q in
          let a = b.among in
          near_same ps qs (from + k) (from + (e - j) + k) cx cy (b.around k (omega arith)) ∙ rw (add_assoc from (e - j) k) (near-each qs cx cy from (e + 1) n (e - j + k) (omega arith))

  turned-near : (e : ℕ) → TurnedRound ps from qs from e → near-from ps cx cy from (e + 1) ≡ near-from qs cx cy from (e + 1)
  turned-near e f =
      both_ways (near-from ps cx cy from (e + 1)) (near-from qs cx cy from (e + 1))
      (λ n. near-all qs cx cy from (e + 1) (λ k h. let z : e - (e - k) ≡ k = omega arith in
      rw (← z) (sym (near_same ps qs (from + (e - k)) (from + (e - (e - k))) cx cy (f (e - k) (omega arith))) ∙ near-each ps cx cy from (e + 1) n (e - k) (omega arith))))
      (λ n. near-all ps cx cy from (e + 1) (λ k h. near_same ps qs (from + k) (from + (e - k)) cx cy (f k (omega arith)) ∙ near-each qs cx cy from (e + 1) n (e - k) (omega arith)))

  ring-near : (n : ℕ) → 1 ≤ n → RingRedrawn ps qs from (n - 1) → near-from ps cx cy from n ≡ near-from qs cx cy from n
  ring-near n l d = let z : n - 1 + 1 ≡ n = omega arith in rw (← z) (by d)
    where
      by : RingRedrawn ps qs from (n - 1) → near-from ps cx cy from (n - 1 + 1) ≡ near-from qs cx cy from (n - 1 + 1)
      by (begun-at j b) = begun-near (n - 1) j b
      by (turned_round f) = turned-near (n - 1) f

ring-crossings : (ps qs : List ℤ) (from e : ℕ) (x y : ℤ) → RingRedrawn ps qs from e → crossings qs from e x y ≡ crossings ps from e x y
ring-crossings ps qs from e x y (begun-at j b) = crossings-begun ps from qs from e j b x y
ring-crossings ps qs from e x y (turned_round f) = crossings-turned ps from qs from e f x y

module _ (ps qs : List ℤ) where
  rings-crossings : (from : ℕ) (ns : List ℕ) (x y : ℤ) → Redrawn ps qs from ns → all-crossings ps from ns x y ≡ all-crossings qs from ns x y
  unfolding all-crossings
  rings-crossings from [] x y d = refl
  rings-crossings from (n ∷ ns) x y d = ap₂ (λ (a b : ℕ). a + b) (sym (ring-crossings ps qs from (n - 1) x y d.0)) (rings-crossings (from + n) ns x y d.1)

  rings-near : (cx cy : ℤ) (from : ℕ) (ns : List ℕ) → AllHeld ps from ns → Redrawn ps qs from ns → near-from ps cx cy from (sum ns) ≡ near-from qs cx cy from (sum ns)
  unfolding sum near-from
  rings-near cx cy from [] h d = refl
  rings-near cx cy from (n ∷ ns) h d =
      near-split ps cx cy from n (sum ns)
      ∙ ap₂ ◌&&◌ (ring-near ps qs from cx cy n (held-has (length ps) from n h.0).0 d.0) (rings-near cx cy (from + n) ns h.1 d.1) ∙ sym (near-split qs cx cy from n (sum ns))

  -- **where a border's rings start and their direction do not matter**, 17 apart, which is measured from a ring's first vertex
  pub mask-redrawn : (v : ℕ) (islands : List ℕ) (cx cy : ℤ) (s : ℕ) (a c : Areas) → areas_of v islands ps ≡ Ok a → areas_of v islands qs ≡ Ok c → Redrawn ps qs 0 (ring_sizes v islands)
      → mask_of v islands ps cx cy s ≡ mask_of v islands qs cx cy s
  unfolding covers in-border ring_sizes
  mask-redrawn v islands cx cy s a c e f w =
      let h = areas-held v islands ps a.outer a.inner e in
      mask-both v islands ps qs cx cy cx cy s a c e f
      (border-same v islands ps qs cx cy cx cy s refl (rw (← sizes-sum v islands ps h) (rings-near cx cy 0 ((v - sum islands) ∷ islands) h w))
      (λ r k. ap is_odd (rings-crossings 0 ((v - sum islands) ∷ islands) (centre-x cx s k) (centre-y cy s r) w)))

-- ---- moved with the corner

module _ (dx dy : ℤ) (ps : List ℤ) (cx cy : ℤ) where
  vertex-moved : (k : ℕ) → 2 * k + 1 < length ps → MovedVertex dx dy ps k (moved dx dy ps) k
  vertex-moved k h = record { moved-x = x-moved dx dy ps k h; moved-y = y-moved dx dy ps k h }

  near-moved : (k : ℕ) → 2 * k + 1 < length ps → near-corner (moved dx dy ps) (cx +ℤ dx) (cy +ℤ dy) k ≡ near-corner ps cx cy k
  unfolding near-corner by-corner
  near-moved k h = rw (x-moved dx dy ps k h, y-moved dx dy ps k h, apart-moved (x-at ps k) cx dx, apart-moved (y-at ps k) cy dy)

  run_moved : (n : ℕ) → 2 * n ≤ length ps → near-from (moved dx dy ps) (cx +ℤ dx) (cy +ℤ dy) 0 n ≡ near-from ps cx cy 0 n
  unfolding near-from
  run_moved zero h = refl
  run_moved (suc n) h = ap₂ ◌&&◌ (run_moved n (omega arith)) (near-moved (0 + n) (omega arith))

  all_moved : (s r c from : ℕ) (ns : List ℕ) → AllHeld ps from ns
      → all-crossings (moved dx dy ps) from ns (centre-x (cx +ℤ dx) s c) (centre-y (cy +ℤ dy) s r) ≡ all-crossings ps from ns (centre-x cx s c) (centre-y cy s r)
  unfolding all-crossings
  all_moved s r c from [] h = refl
  all_moved s r c from (n ∷ ns) h =
      let o = held-has (length ps) from n h.0 in
      let i = o.0 in
      let j = o.2 in
      ap₂ (λ (a b : ℕ). a + b) (crossings-moved dx dy ps from (moved dx dy ps) from cx cy s r c (n - 1) (λ k g. vertex-moved (from + k) (omega arith))) (all_moved s r c (from + n) ns h.1)

  -- the table holds rings that are held
  held-room : (from : ℕ) (ns : List ℕ) → 2 * from ≤ length ps → AllHeld ps from ns → 2 * (from + sum ns) ≤ length ps
  unfolding sum
  held-room from [] l h = omega arith
  held-room from (n ∷ ns) l h = let o = (held-has (length ps) from n h.0).2 in let r = held-room (from + n) ns o h.1 in omega arith

  -- **nor does moving sheet and corner together**, where both grids lie within the real range
  pub mask-moved : (v : ℕ) (islands : List ℕ) (s : ℕ) → grid-real (cx +ℤ dx) (cy +ℤ dy) s ≡ grid-real cx cy s → mask_of v islands (moved dx dy ps) (cx +ℤ dx) (cy +ℤ dy) s ≡ mask_of v islands ps cx cy s
  unfolding covers in-border ring_sizes
  mask-moved v islands s g =
      mask-same v islands (moved dx dy ps) ps (cx +ℤ dx) (cy +ℤ dy) cx cy s (areas-moved dx dy ps v islands)
      (λ a e. let h = areas-held v islands ps a.outer a.inner e in
      let z : sum ((v - sum islands) ∷ islands) ≡ v = sizes-sum v islands ps h in
      let q = held-room 0 ((v - sum islands) ∷ islands) (omega arith) h in
      let room : 2 * v ≤ length ps = omega (arith, z, q) in
      border-same v islands (moved dx dy ps) ps (cx +ℤ dx) (cy +ℤ dy) cx cy s g (run_moved v room)
      (λ r c. ap is_odd (all_moved s r c 0 ((v - sum islands) ∷ islands) h)))
