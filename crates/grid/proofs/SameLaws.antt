-- The same ring gives the same cells: where it starts and its direction do not matter, nor does moving it with the grid. Assumes nothing.
use mathlib.Core.Path.{◌≡◌, refl, sym, ◌∙◌, ap, ap₂}
use mathlib.Core.Bool.{Bool, true, false, cond}
use mathlib.Core.List.{List}
use Prim.Native.Nat.{ℕ, zero, suc, ◌+◌, ◌-◌, ◌≤◌}
use native.Mathlib.Nat.{add_assoc, add_comm, add-zero, zero-add, add-suc}
use native.Mathlib.Numerals.{add-one, one-add}
use native.Mathlib.Omega.{arith}
use lib.IntN.{ℤ, ◌+ℤ◌, ◌-ℤ◌}
use lib.Signed.{lt_z, le_z}
use Rattle.laws.proofs.Choice.{true≢false, and_left, and_right}
use Rattle.laws.proofs.Parts.{num, sum, diff, eq-parts, le_not_lt}
use Rattle.plane.specs.Rings.{x-at, y-at}
use Rattle.grid.specs.Inside.{twice, centre-x, centre-y, straddles, crosses-east, counts, edge-counts, one_if, crossings}
use Rattle.grid.specs.Same.{SameVertex, BegunAt, TurnedRound, MovedVertex, MovedAt}
use Rattle.grid.proofs.CornerLaws.{counts-corner}

-- ---- the edges of a ring, in parts

pub crossings-split : (ps : List ℤ) (from a b : ℕ) (x y : ℤ) → crossings ps from (a + b) x y ≡ crossings ps from a x y + crossings ps (from + a) b x y
unfolding crossings
crossings-split ps from a zero x y = rw (add-zero a) (sym (add-zero (crossings ps from a x y)))
crossings-split ps from a (suc b) x y =
    rw (add-suc a b, crossings-split ps from a b x y, ← add_assoc from a b) (add_assoc (crossings ps from a x y) (crossings ps (from + a) b x y) (one_if (edge-counts ps (from + a + b) x y)))

-- ---- the same vertices

module _ (ps : List ℤ) (p : ℕ) (qs : List ℤ) (q : ℕ) (x y : ℤ) where
  edge_same : (e : ℕ) → SameVertex ps (p + e) qs (q + e) → SameVertex ps (p + e + 1) qs (q + e + 1) → edge-counts ps (p + e) x y ≡ edge-counts qs (q + e) x y
  unfolding edge-counts
  edge_same e a b = rw (a.same-x, a.same-y, b.same-x, b.same-y)

  pub crossings-same : (e : ℕ) → ((k : ℕ) → k ≤ e → SameVertex ps (p + k) qs (q + k)) → crossings ps p e x y ≡ crossings qs q e x y
  unfolding crossings
  crossings-same zero f = refl
  crossings-same (suc e) f =
      let b : SameVertex ps (p + e + 1) qs (q + e + 1) = rw (add_assoc p e 1, add_assoc q e 1, add-one e) (f (suc e) (omega arith)) in
      ap₂ (λ (m : ℕ) (t : Bool). m + one_if t) (crossings-same e (λ k h. f k (omega arith))) (edge_same e (f e (omega arith)) b)

-- **where a ring starts does not matter**
pub crossings-begun : (ps : List ℤ) (p : ℕ) (qs : List ℤ) (q e j : ℕ) → BegunAt ps p qs q e j → (x y : ℤ) → crossings qs q e x y ≡ crossings ps p e x y
crossings-begun ps p qs q e j b x y =
    let l = b.among in
    let s : e ≡ (e - j) + j = omega arith in
    let t : e ≡ j + (e - j) = omega arith in
    ap (λ (n : ℕ). crossings qs q n x y) s ∙ crossings-split qs q (e - j) j x y
    ∙ ap₂ (λ (m n : ℕ). m + n) (sym (crossings-same ps (p + j) qs q x y (e - j) b.onward)) (sym (crossings-same ps p qs (q + (e - j)) x y j b.around))
    ∙ add_comm (crossings ps (p + j) (e - j) x y) (crossings ps p j x y)
    ∙ sym (ap (λ (n : ℕ). crossings ps p n x y) t ∙ crossings-split ps p j (e - j) x y)

-- ---- the direction

-- an edge does not straddle a height both ways
one_way : (a b y : ℤ) → straddles a b y ≡ true → straddles b a y ≡ true → ⊥
unfolding straddles
one_way a b y e f = true≢false (sym (and_right (lt_z y b) (le_z a y) f) ∙ le_not_lt a y true (and_left (lt_z y a) (le_z b y) e))

counts-turned : (ax ay bx by x y : ℤ) → counts ax ay bx by x y ≡ counts bx by ax ay x y
unfolding counts
counts-turned ax ay bx by x y = go (straddles ay by y) refl (straddles by ay y) refl
  where
    go : (s : Bool) → straddles ay by y ≡ s → (t : Bool) → straddles by ay y ≡ t
        → cond s (crosses-east ax ay bx by x y) (cond t (crosses-east bx by ax ay x y) false) ≡ cond t (crosses-east bx by ax ay x y) (cond s (crosses-east ax ay bx by x y) false)
    go true e true f = absurd (one_way ay by y e f)
    go true e false f = refl
    go false e true f = refl
    go false e false f = refl

edge-turned : (ps : List ℤ) (v : ℕ) (qs : List ℤ) (w : ℕ) → SameVertex ps v qs (w + 1) → SameVertex ps (v + 1) qs w → (x y : ℤ) → edge-counts qs w x y ≡ edge-counts ps v x y
unfolding edge-counts
edge-turned ps v qs w a b x y =
    rw (a.same-x, a.same-y, b.same-x, b.same-y) (counts-turned (twice (x-at qs w)) (twice (y-at qs w)) (twice (x-at qs (w + 1))) (twice (y-at qs (w + 1))) x y)

-- **its direction does not matter**
pub crossings-turned : (ps : List ℤ) (p : ℕ) (qs : List ℤ) (q e : ℕ) → TurnedRound ps p qs q e → (x y : ℤ) → crossings qs q e x y ≡ crossings ps p e x y
unfolding crossings
crossings-turned ps p qs q zero f x y = refl
crossings-turned ps p qs q (suc e) f x y =
    ap (λ (n : ℕ). crossings qs q n x y) (sym (one-add e)) ∙ crossings-split qs q 1 e x y
    ∙ ap₂ (λ (m n : ℕ). m + n) (zero-add (one_if (edge-counts qs (q + 0) x y)) ∙ ap one_if (edge-turned ps (p + e) qs (q + 0) here next x y)) (crossings-turned ps p qs (q + 1) e rest x y)
    ∙ add_comm (one_if (edge-counts ps (p + e) x y)) (crossings ps p e x y)
  where
    rest : TurnedRound ps p qs (q + 1) e
    rest k h = let z : q + (suc e - k) ≡ q + 1 + (e - k) = omega arith in rw (← z) (f k (omega arith))

    here : SameVertex ps (p + e) qs (q + 0 + 1)
    here = let z : q + (suc e - e) ≡ q + 0 + 1 = omega arith in rw (← z) (f e (omega arith))

    next : SameVertex ps (p + e + 1) qs (q + 0)
    next = let z : q + (suc e - suc e) ≡ q + 0 = omega arith in let w : p + suc e ≡ p + e + 1 = omega arith in rw (← z, ← w) (f (suc e) (omega arith))

-- ---- moved with the grid

pub apart-moved : (a b d : ℤ) → (a +ℤ d) -ℤ (b +ℤ d) ≡ a -ℤ b
apart-moved a b d =
    eq-parts ((a +ℤ d) -ℤ (b +ℤ d)) (a -ℤ b) (omega (arith, num a, num b, num d, sum a d, sum b d, diff a b, diff (a +ℤ d) (b +ℤ d)))

counts-moved : (dx dy cx cy ax ay bx by : ℤ) (s r c : ℕ)
    → counts (twice (ax +ℤ dx)) (twice (ay +ℤ dy)) (twice (bx +ℤ dx)) (twice (by +ℤ dy)) (centre-x (cx +ℤ dx) s c) (centre-y (cy +ℤ dy) s r)
    ≡ counts (twice ax) (twice ay) (twice bx) (twice by) (centre-x cx s c) (centre-y cy s r)
counts-moved dx dy cx cy ax ay bx by s r c =
    counts-corner (cx +ℤ dx) (cy +ℤ dy) (ax +ℤ dx) (ay +ℤ dy) (bx +ℤ dx) (by +ℤ dy) s r c
    ∙ rw (apart-moved ax cx dx, apart-moved bx cx dx, apart-moved cy ay dy, apart-moved cy by dy) (sym (counts-corner cx cy ax ay bx by s r c))

module _ (dx dy : ℤ) (ps : List ℤ) (p : ℕ) (qs : List ℤ) (q : ℕ) (cx cy : ℤ) (s r c : ℕ) where
  edge_moved : (e : ℕ) → MovedVertex dx dy ps (p + e) qs (q + e) → MovedVertex dx dy ps (p + e + 1) qs (q + e + 1)
      → edge-counts qs (q + e) (centre-x (cx +ℤ dx) s c) (centre-y (cy +ℤ dy) s r) ≡ edge-counts ps (p + e) (centre-x cx s c) (centre-y cy s r)
  unfolding edge-counts
  edge_moved e a b =
      rw (a.moved-x, a.moved-y, b.moved-x, b.moved-y) (counts-moved dx dy cx cy (x-at ps (p + e)) (y-at ps (p + e)) (x-at ps (p + e + 1)) (y-at ps (p + e + 1)) s r c)

  -- **nor does moving it and the corner together**
  pub crossings-moved : (e : ℕ) → MovedAt dx dy ps p qs q (e + 1) → crossings qs q e (centre-x (cx +ℤ dx) s c) (centre-y (cy +ℤ dy) s r) ≡ crossings ps p e (centre-x cx s c) (centre-y cy s r)
  unfolding crossings
  crossings-moved zero f = refl
  crossings-moved (suc e) f =
      let b : MovedVertex dx dy ps (p + e + 1) qs (q + e + 1) = rw (add_assoc p e 1, add_assoc q e 1) (f (e + 1) (omega arith)) in
      ap₂ (λ (m : ℕ) (t : Bool). m + one_if t) (crossings-moved e (λ k h. f k (omega arith))) (edge_moved e (f e (omega arith)) b)
