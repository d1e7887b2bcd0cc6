-- Neighbouring edges AB, BC: where they do not overlap by the document's test they share only B, `neighbours-good`; where they overlap they share another point, `neighbours-faulty`. Assumes nothing.
-- Measured from B a shared point is u A and q C. So q times the cross product is 0, and q times the inner product is u times the square of A.
use mathlib.Core.Path.{◌≡◌, refl, sym, ap, ◌∙◌}
use mathlib.Core.Logic.{◌⊎◌, inl, inr, ⊎_elim}
use mathlib.Core.Bool.{true, false, ◌&&◌}
use Prim.Native.Nat.{ℕ, zero, suc, ◌+◌, ◌<◌}
use native.Mathlib.Nat.{mul-pos}
use native.Mathlib.Omega.{arith}
use lib.IntN.{ℤ, pos, negsuc, ◌+ℤ◌, ◌-ℤ◌, ◌*ℤ◌, *ℤ_comm, *ℤ-zero, zero-*ℤ, +ℤ_idl, +ℤ_idr}
use lib.Signed.{lt_z}
use Rattle.laws.specs.Whole.{eq_z}
use Rattle.laws.proofs.Choice.{and_left, and_right}
use Rattle.laws.proofs.Parts.{P, N, num, sum, diff, ints, eq-parts}
use Rattle.laws.proofs.Bits.{eq_z-yes, eq_z-same}
use Rattle.laws.proofs.Products.{mul-plus, times-assoc, plus-mul, mul-minus}
use Rattle.crossing.specs.declared.Point.{Point}
use Rattle.crossing.specs.Edges.{side, dot, neighbours-overlap}
use Rattle.crossing.specs.Shared.{OnlyAt, SharedElsewhere}
use Rattle.crossing.proofs.SharedLaws.{from-any, less-itself, no_difference, swapped, no-P, some-P, some-N}

-- ---- products and squares

-- a positive multiple is 0 only of 0
pub times_zero : (k : ℕ) (s : ℤ) → pos (suc k) *ℤ s ≡ pos 0 → s ≡ pos 0
times_zero k (pos zero) e = refl
times_zero k (pos (suc n)) e = let h = some-P (suc k) (pos (suc n)) (omega arith) in let z : ⊥ = omega (arith, ap P e) in absurd z
times_zero k (negsuc n) e = let h = some-N (suc k) (negsuc n) (omega arith) in let z : ⊥ = omega (arith, ap N e) in absurd z

-- a square is not below 0, and above it but for 0
square-parts : (a : ℤ) → (N (a *ℤ a) ≡ 0) × ((a ≡ pos 0) ⊎ (0 < P (a *ℤ a)))
square-parts (pos zero) = (refl, inl refl)
square-parts (pos (suc n)) = (refl, inr (mul-pos (omega arith) (omega arith)))
square-parts (negsuc n) = (refl, inr (mul-pos (omega arith) (omega arith)))

abbrev square : ℤ → ℤ → ℤ
square a b = a *ℤ a +ℤ b *ℤ b

square-zero : (a b : ℤ) → P (square a b) ≡ 0 → (a ≡ pos 0) × (b ≡ pos 0)
square-zero a b e =
    let s = sum (a *ℤ a) (b *ℤ b) in
    let x = square-parts a in
    let y = square-parts b in
    let u = x.0 in
    let v = y.0 in (
      ⊎_elim (λ q. q) (λ (h : 0 < P (a *ℤ a)). let z : ⊥ = omega arith in absurd z) x.1,
      ⊎_elim (λ q. q) (λ (h : 0 < P (b *ℤ b)). let z : ⊥ = omega arith in absurd z) y.1,
    )

-- ---- where u A is q C

module _ (u q : ℕ) (ax ay cx cy : ℤ) (hx : pos u *ℤ ax ≡ pos q *ℤ cx) (hy : pos u *ℤ ay ≡ pos q *ℤ cy) where
  cross-zero : pos q *ℤ (ax *ℤ cy -ℤ cx *ℤ ay) ≡ pos 0
  cross-zero =
      let l : pos q *ℤ (ax *ℤ cy) ≡ pos u *ℤ (ax *ℤ ay) = swapped (pos q) ax cy ∙ ap (λ (z : ℤ). ax *ℤ z) (sym hy) ∙ swapped ax (pos u) ay in
      let r : pos q *ℤ (cx *ℤ ay) ≡ pos u *ℤ (ax *ℤ ay) = sym (times-assoc (pos q) cx ay) ∙ ap (λ (z : ℤ). z *ℤ ay) (sym hx) ∙ times-assoc (pos u) ax ay in
      mul-minus (pos q) (ax *ℤ cy) (cx *ℤ ay) ∙ rw (l, r) (less-itself (pos u *ℤ (ax *ℤ ay)))

  dot-square : pos q *ℤ (ax *ℤ cx +ℤ ay *ℤ cy) ≡ pos u *ℤ square ax ay
  dot-square =
      let l : pos q *ℤ (ax *ℤ cx) ≡ pos u *ℤ (ax *ℤ ax) = swapped (pos q) ax cx ∙ ap (λ (z : ℤ). ax *ℤ z) (sym hx) ∙ swapped ax (pos u) ax in
      let r : pos q *ℤ (ay *ℤ cy) ≡ pos u *ℤ (ay *ℤ ay) = swapped (pos q) ay cy ∙ ap (λ (z : ℤ). ay *ℤ z) (sym hy) ∙ swapped ay (pos u) ay in
      mul-plus (pos q) (ax *ℤ cx) (ay *ℤ cy) ∙ rw (l, r) (sym (mul-plus (pos u) (ax *ℤ ax) (ay *ℤ ay)))

small : (n : ℕ) (s : ℤ) → P (pos (suc n) *ℤ s) ≡ 0 → P s ≡ 0
small n (pos zero) g = refl
small n (pos (suc m)) g = let h = some-P (suc n) (pos (suc m)) (omega arith) in let z : ⊥ = omega arith in absurd z
small n (negsuc m) g = refl

-- then u A is 0, unless the cross product is 0 and the inner product above 0
only_zero : (u q : ℕ) (ax ay cx cy : ℤ) → pos u *ℤ ax ≡ pos q *ℤ cx → pos u *ℤ ay ≡ pos q *ℤ cy → (eq_z (ax *ℤ cy -ℤ cx *ℤ ay) (pos 0) && lt_z (pos 0) (ax *ℤ cx +ℤ ay *ℤ cy)) ≡ false → (pos u *ℤ ax ≡ pos 0) × (pos u *ℤ ay ≡ pos 0)
only_zero u zero ax ay cx cy hx hy e = (hx ∙ zero-*ℤ cx, hy ∙ zero-*ℤ cy)
only_zero u (suc k) ax ay cx cy hx hy e =
    let c = eq_z-yes (ax *ℤ cy -ℤ cx *ℤ ay) (pos 0) (times_zero k (ax *ℤ cy -ℤ cx *ℤ ay) (cross-zero u (suc k) ax ay cx cy hx hy)) in
    let t : lt_z (pos 0) (ax *ℤ cx +ℤ ay *ℤ cy) ≡ false = rw c at e in
    let f : P (pos (suc k) *ℤ (ax *ℤ cx +ℤ ay *ℤ cy)) ≡ 0 = no-P (suc k) (ax *ℤ cx +ℤ ay *ℤ cy) (omega (arith, ints, num (ax *ℤ cx +ℤ ay *ℤ cy))) in
    let g : P (pos u *ℤ square ax ay) ≡ 0 = sym (ap P (dot-square u (suc k) ax ay cx cy hx hy)) ∙ f in
    both u g
  where
    both : (n : ℕ) → P (pos n *ℤ square ax ay) ≡ 0 → (pos n *ℤ ax ≡ pos 0) × (pos n *ℤ ay ≡ pos 0)
    both zero g = (zero-*ℤ ax, zero-*ℤ ay)
    both (suc n) g =
        let s : P (square ax ay) ≡ 0 = small n (square ax ay) g in
        let r = square-zero ax ay s in
        (ap (λ (z : ℤ). pos (suc n) *ℤ z) r.0 ∙ *ℤ-zero (pos (suc n)), ap (λ (z : ℤ). pos (suc n) *ℤ z) r.1 ∙ *ℤ-zero (pos (suc n)))

-- ---- the theorem

-- one coordinate, measured from b
from-common : (u v p q : ℕ) (a b c : ℤ) → u + v ≡ p + q → pos u *ℤ a +ℤ pos v *ℤ b ≡ pos p *ℤ b +ℤ pos q *ℤ c → pos u *ℤ (a -ℤ b) ≡ pos q *ℤ (c -ℤ b)
from-common u v p q a b c w e =
    let m = from-any u v p q a b b c b w e in
    let z : (k : ℕ) → pos k *ℤ (b -ℤ b) ≡ pos 0 = λ k. ap (λ (x : ℤ). pos k *ℤ x) (less-itself b) ∙ *ℤ-zero (pos k) in
    sym (+ℤ_idr (pos u *ℤ (a -ℤ b))) ∙ ap (λ (x : ℤ). pos u *ℤ (a -ℤ b) +ℤ x) (sym (z v)) ∙ m ∙ ap (λ (x : ℤ). x +ℤ pos q *ℤ (c -ℤ b)) (z p) ∙ +ℤ_idl (pos q *ℤ (c -ℤ b))

-- the weighted sum is that of b alone
at-common : (u v : ℕ) (a b : ℤ) → pos u *ℤ (a -ℤ b) ≡ pos 0 → pos u *ℤ a +ℤ pos v *ℤ b ≡ pos (u + v) *ℤ b
at-common u v a b e =
    let s : pos u *ℤ a ≡ pos u *ℤ b = no_difference (pos u *ℤ a) (pos u *ℤ b) (sym (mul-minus (pos u) a b) ∙ e) in
    ap (λ (x : ℤ). x +ℤ pos v *ℤ b) s ∙ sym (plus-mul (pos u) (pos v) b)

-- every point that neighbours share is B, where they do not overlap
pub neighbours-good : (a b c : Point) → neighbours-overlap a b c ≡ false → OnlyAt a b c
unfolding neighbours-overlap side dot
neighbours-good a b c e s =
    let r =
    only_zero s.u s.q (a.x -ℤ b.x) (a.y -ℤ b.y) (c.x -ℤ b.x) (c.y -ℤ b.y)
    (from-common s.u s.v s.p s.q a.x b.x c.x s.weights s.same-x)
    (from-common s.u s.v s.p s.q a.y b.y c.y s.weights s.same-y) e in
    (at-common s.u s.v a.x b.x r.0, at-common s.u s.v a.y b.y r.1)

-- ---- the other way: with a cross product of 0, (A.C) A is (A.A) C

module _ (ax ay cx cy : ℤ) (e : ax *ℤ cy ≡ cx *ℤ ay) where
  scaled-x : (ax *ℤ cx +ℤ ay *ℤ cy) *ℤ ax ≡ square ax ay *ℤ cx
  scaled-x =
      let l : (ax *ℤ cx) *ℤ ax ≡ (ax *ℤ ax) *ℤ cx = *ℤ_comm (ax *ℤ cx) ax ∙ sym (times-assoc ax ax cx) in
      let r : (ay *ℤ cy) *ℤ ax ≡ (ay *ℤ ay) *ℤ cx = times-assoc ay cy ax ∙ ap (λ (z : ℤ). ay *ℤ z) (*ℤ_comm cy ax ∙ e ∙ *ℤ_comm cx ay) ∙ sym (times-assoc ay ay cx) in
      plus-mul (ax *ℤ cx) (ay *ℤ cy) ax ∙ rw (l, r) (sym (plus-mul (ax *ℤ ax) (ay *ℤ ay) cx))

  scaled-y : (ax *ℤ cx +ℤ ay *ℤ cy) *ℤ ay ≡ square ax ay *ℤ cy
  scaled-y =
      let l : (ax *ℤ cx) *ℤ ay ≡ (ax *ℤ ax) *ℤ cy = times-assoc ax cx ay ∙ ap (λ (z : ℤ). ax *ℤ z) (sym e) ∙ sym (times-assoc ax ax cy) in
      let r : (ay *ℤ cy) *ℤ ay ≡ (ay *ℤ ay) *ℤ cy = *ℤ_comm (ay *ℤ cy) ay ∙ sym (times-assoc ay ay cy) in
      plus-mul (ax *ℤ cx) (ay *ℤ cy) ay ∙ rw (l, r) (sym (plus-mul (ax *ℤ ax) (ay *ℤ ay) cy))

-- a number that is not below 0
pub positive : (z : ℤ) → N z ≡ 0 → pos (P z) ≡ z
positive z e = eq-parts (pos (P z)) z (omega (arith, num z))

-- u a + q b is u b + q c, where u (a - b) is q (c - b)
to-weights : (u q : ℕ) (a b c : ℤ) → pos u *ℤ (a -ℤ b) ≡ pos q *ℤ (c -ℤ b) → pos u *ℤ a +ℤ pos q *ℤ b ≡ pos u *ℤ b +ℤ pos q *ℤ c
to-weights u q a b c e =
    let d : pos u *ℤ a -ℤ pos u *ℤ b ≡ pos q *ℤ c -ℤ pos q *ℤ b = sym (mul-minus (pos u) a b) ∙ e ∙ mul-minus (pos q) c b in
    eq-parts (pos u *ℤ a +ℤ pos q *ℤ b) (pos u *ℤ b +ℤ pos q *ℤ c)
    (omega (arith, ap P d, ap N d, diff (pos u *ℤ a) (pos u *ℤ b), diff (pos q *ℤ c) (pos q *ℤ b), sum (pos u *ℤ a) (pos q *ℤ b), sum (pos u *ℤ b) (pos q *ℤ c)))

module _ (ax ay cx cy : ℤ) (e : eq_z (ax *ℤ cy -ℤ cx *ℤ ay) (pos 0) ≡ true) (g : lt_z (pos 0) (ax *ℤ cx +ℤ ay *ℤ cy) ≡ true) where
  no-cross : ax *ℤ cy ≡ cx *ℤ ay
  no-cross = no_difference (ax *ℤ cy) (cx *ℤ ay) (eq_z-same (ax *ℤ cy -ℤ cx *ℤ ay) (pos 0) e)

  the-dot : pos (P (ax *ℤ cx +ℤ ay *ℤ cy)) ≡ ax *ℤ cx +ℤ ay *ℤ cy
  the-dot = positive (ax *ℤ cx +ℤ ay *ℤ cy) (omega (arith, ints, num (ax *ℤ cx +ℤ ay *ℤ cy)))

  the-square : pos (P (square ax ay)) ≡ square ax ay
  the-square = positive (square ax ay) (omega (arith, (square-parts ax).0, (square-parts ay).0, sum (ax *ℤ ax) (ay *ℤ ay)))

  weighted-x : pos (P (ax *ℤ cx +ℤ ay *ℤ cy)) *ℤ ax ≡ pos (P (square ax ay)) *ℤ cx
  weighted-x = ap (λ (z : ℤ). z *ℤ ax) the-dot ∙ scaled-x ax ay cx cy no-cross ∙ sym (ap (λ (z : ℤ). z *ℤ cx) the-square)

  weighted-y : pos (P (ax *ℤ cx +ℤ ay *ℤ cy)) *ℤ ay ≡ pos (P (square ax ay)) *ℤ cy
  weighted-y = ap (λ (z : ℤ). z *ℤ ay) the-dot ∙ scaled-y ax ay cx cy no-cross ∙ sym (ap (λ (z : ℤ). z *ℤ cy) the-square)

  dot-some : 0 < P (ax *ℤ cx +ℤ ay *ℤ cy)
  dot-some = omega (arith, ints, num (ax *ℤ cx +ℤ ay *ℤ cy))

  not-still : ax ≡ pos 0 → ay ≡ pos 0 → ⊥
  not-still zx zy =
      let l : ax *ℤ cx ≡ pos 0 = ap (λ (z : ℤ). z *ℤ cx) zx ∙ zero-*ℤ cx in
      let r : ay *ℤ cy ≡ pos 0 = ap (λ (z : ℤ). z *ℤ cy) zy ∙ zero-*ℤ cy in
      let h = dot-some in
      omega (arith, ap P l, ap P r, ap N l, ap N r, sum (ax *ℤ cx) (ay *ℤ cy))

-- neighbours that overlap share a point that is not B
pub neighbours-faulty : (a b c : Point) → neighbours-overlap a b c ≡ true → SharedElsewhere a b c
unfolding neighbours-overlap side dot
neighbours-faulty a b c e =
    let ax : ℤ = a.x -ℤ b.x in
    let ay : ℤ = a.y -ℤ b.y in
    let cx : ℤ = c.x -ℤ b.x in
    let cy : ℤ = c.y -ℤ b.y in
    let f = and_left (eq_z (ax *ℤ cy -ℤ cx *ℤ ay) (pos 0)) (lt_z (pos 0) (ax *ℤ cx +ℤ ay *ℤ cy)) e in
    let g = and_right (eq_z (ax *ℤ cy -ℤ cx *ℤ ay) (pos 0)) (lt_z (pos 0) (ax *ℤ cx +ℤ ay *ℤ cy)) e in
    let m : ℕ = P (ax *ℤ cx +ℤ ay *ℤ cy) in
    let n : ℕ = P (square ax ay) in
    let h : 0 < m = dot-some ax ay cx cy f g in
    record {
      point = record {
        u = m;
        v = n;
        p = m;
        q = n;
        some = omega arith;
        weights = refl;
        same-x = to-weights m n a.x b.x c.x (weighted-x ax ay cx cy f g);
        same-y = to-weights m n a.y b.y c.y (weighted-y ax ay cx cy f g);
      };
      part = h;
      apart = λ x y. not-still ax ay cx cy f g (ap (λ (z : ℤ). z -ℤ b.x) x ∙ less-itself b.x) (ap (λ (z : ℤ). z -ℤ b.y) y ∙ less-itself b.y);
    }

-- ---- and that point keeps B from being the only one

part_none : (u v : ℕ) (a b : ℤ) → 0 < u → pos u *ℤ a +ℤ pos v *ℤ b ≡ pos (u + v) *ℤ b → a ≡ b
part_none zero v a b h e = let z : ⊥ = omega arith in absurd z
part_none (suc k) v a b h e =
    let d : pos (suc k) *ℤ a +ℤ pos v *ℤ b ≡ pos (suc k) *ℤ b +ℤ pos v *ℤ b = e ∙ plus-mul (pos (suc k)) (pos v) b in
    let s : pos (suc k) *ℤ a ≡ pos (suc k) *ℤ b =
    eq-parts (pos (suc k) *ℤ a) (pos (suc k) *ℤ b) (omega (arith, ap P d, ap N d, sum (pos (suc k) *ℤ a) (pos v *ℤ b), sum (pos (suc k) *ℤ b) (pos v *ℤ b))) in
    no_difference a b (times_zero k (a -ℤ b) (mul-minus (pos (suc k)) a b ∙ rw s (less-itself (pos (suc k) *ℤ b))))

pub elsewhere-not-only : (a b c : Point) → SharedElsewhere a b c → OnlyAt a b c → ⊥
elsewhere-not-only a b c s only =
    let r = only s.point in
    s.apart (part_none s.point.u s.point.v a.x b.x s.part r.0) (part_none s.point.u s.point.v a.y b.y s.part r.1)
