-- Edges that meet by the document's test share a point (document 01, "Ring check"): `meet-shared`, the other way of `shared-meet`. Assumes nothing.
-- Where the edges are not parallel, each end has the other end's distance from the other edge's line for its weight. Where they are, all four ends lie on one line, and spans that overlap share a number.
use mathlib.Core.Path.{◌≡◌, refl, sym, ap, ◌∙◌}
use mathlib.Core.Bool.{Bool, true, false, cond, not, ◌&&◌}
use Prim.Native.Nat.{ℕ, zero, suc, ◌+◌, ◌<◌, min}
use native.Mathlib.Omega.{arith}
use lib.IntN.{ℤ, pos, negsuc, neg_ℤ, neg_ℤ-neg_ℤ, ◌+ℤ◌, ◌-ℤ◌, ◌*ℤ◌, *ℤ_comm, *ℤ-negsuc, +ℤ_comm, +ℤ_assoc}
use lib.Signed.{lt_z, le_z}
use borrow.Author.Tests.{not-true}
use Rattle.laws.specs.Whole.{eq_z, low_z, high_z}
use Rattle.laws.proofs.Choice.{true≢false, and_left, and_right, and_both}
use Rattle.laws.proofs.Parts.{P, N, num, diff, ints, eq-parts, add_parts, sub-parts-ℤ, lt_yes, lt-true, lt-false}
use Rattle.laws.proofs.Bits.{eq_z-yes, eq_z-same}
use Rattle.laws.proofs.Products.{mul-plus, times-assoc, plus-mul, mul-minus}
use Rattle.crossing.specs.declared.Point.{Point}
use Rattle.crossing.specs.Edges.{side, one_side, beside-line, spans-overlap, boxes-overlap, edges-meet}
use Rattle.crossing.specs.Shared.{Shared}
use Rattle.crossing.proofs.SharedLaws.{less-itself, no_difference, swapped, same-weight, from_first, flipped}
use Rattle.crossing.proofs.NeighbourLaws.{times_zero, positive}

-- ---- products

minus-mul : (a b c : ℤ) → (a -ℤ b) *ℤ c ≡ a *ℤ c -ℤ b *ℤ c
minus-mul a b c = *ℤ_comm (a -ℤ b) c ∙ mul-minus c a b ∙ rw (*ℤ_comm c a, *ℤ_comm c b)

minus_minus : (a b c d : ℤ) → (a -ℤ b) *ℤ (c -ℤ d) ≡ (a *ℤ c -ℤ a *ℤ d) -ℤ (b *ℤ c -ℤ b *ℤ d)
minus_minus a b c d = rw (minus-mul a b (c -ℤ d), mul-minus a c d, mul-minus b c d)

last-two : (a b c : ℤ) → (a *ℤ b) *ℤ c ≡ (a *ℤ c) *ℤ b
last-two a b c = times-assoc a b c ∙ ap (λ (z : ℤ). a *ℤ z) (*ℤ_comm b c) ∙ sym (times-assoc a c b)

outer-two : (a b c : ℤ) → (a *ℤ b) *ℤ c ≡ (c *ℤ b) *ℤ a
outer-two a b c = ap (λ (z : ℤ). z *ℤ c) (*ℤ_comm a b) ∙ last-two b a c ∙ ap (λ (z : ℤ). z *ℤ a) (*ℤ_comm b c)

no-factor : (k s : ℤ) → (k ≡ pos 0 → ⊥) → k *ℤ s ≡ pos 0 → s ≡ pos 0
no-factor (pos zero) s f e = absurd (f refl)
no-factor (pos (suc n)) s f e = times_zero n s e
no-factor (negsuc n) s f e = times_zero n s (*ℤ_comm (pos (suc n)) s ∙ sym (neg_ℤ-neg_ℤ (s *ℤ pos (suc n))) ∙ ap neg_ℤ (sym (*ℤ-negsuc s n) ∙ *ℤ_comm s (negsuc n) ∙ e))

-- ---- a number that two spans share

-- the number of the span from a to b with the fractions u / (u + v) and v / (u + v) is that of the span from c to d with p / (p + q) and q / (p + q)
record Common (a b c d : ℤ) : Type 0 where
  u : ℕ
  v : ℕ
  p : ℕ
  q : ℕ
  some : 0 < u + v
  weights : u + v ≡ p + q
  same : pos u *ℤ a +ℤ pos v *ℤ b ≡ pos p *ℤ c +ℤ pos q *ℤ d

turned-first : (a b c d : ℤ) → Common b a c d → Common a b c d
turned-first a b c d s = record {
  u = s.v;
  v = s.u;
  p = s.p;
  q = s.q;
  some = omega (arith, s.some);
  weights = omega (arith, s.weights);
  same = +ℤ_comm (pos s.v *ℤ a) (pos s.u *ℤ b) ∙ s.same;
}

turned-second : (a b c d : ℤ) → Common a b d c → Common a b c d
turned-second a b c d s = record {
  u = s.u;
  v = s.v;
  p = s.q;
  q = s.p;
  some = s.some;
  weights = omega (arith, s.weights);
  same = s.same ∙ +ℤ_comm (pos s.p *ℤ d) (pos s.q *ℤ c);
}

-- (b - c) (d - a) is (d - a) (b - c)
exchanged : (m n : ℕ) (a b c d : ℤ) → pos m ≡ d -ℤ a → pos n ≡ b -ℤ c → pos n *ℤ a +ℤ pos m *ℤ b ≡ pos m *ℤ c +ℤ pos n *ℤ d
exchanged m n a b c d e f =
    let h : pos n *ℤ (d -ℤ a) ≡ pos m *ℤ (b -ℤ c) = ap (λ (z : ℤ). pos n *ℤ z) (sym e) ∙ *ℤ_comm (pos n) (pos m) ∙ ap (λ (z : ℤ). pos m *ℤ z) f in
    let g : pos n *ℤ d -ℤ pos n *ℤ a ≡ pos m *ℤ b -ℤ pos m *ℤ c = sym (mul-minus (pos n) d a) ∙ h ∙ mul-minus (pos m) b c in
    eq-parts (pos n *ℤ a +ℤ pos m *ℤ b) (pos m *ℤ c +ℤ pos n *ℤ d)
    (omega (arith, ap P g, ap N g, sub-parts-ℤ (pos n *ℤ d) (pos n *ℤ a), sub-parts-ℤ (pos m *ℤ b) (pos m *ℤ c), add_parts (pos n *ℤ a) (pos m *ℤ b), add_parts (pos m *ℤ c) (pos n *ℤ d)))

ordered-common : (a b c d : ℤ) → le_z a d ≡ true → le_z c b ≡ true → Common a b c d
ordered-common a b c d e f = go (P (d -ℤ a)) (P (b -ℤ c)) (positive (d -ℤ a) (omega (arith, ints, diff d a))) (positive (b -ℤ c) (omega (arith, ints, diff b c)))
  where
    go : (m n : ℕ) → pos m ≡ d -ℤ a → pos n ≡ b -ℤ c → Common a b c d
    go zero zero x y =
        let same : pos 1 *ℤ a +ℤ pos 1 *ℤ b ≡ pos 1 *ℤ c +ℤ pos 1 *ℤ d = rw (no_difference d a (sym x), no_difference b c (sym y)) (+ℤ_comm (pos 1 *ℤ a) (pos 1 *ℤ c)) in
        record { u = 1; v = 1; p = 1; q = 1; some = omega arith; weights = refl; same = same }
    go (suc m) n x y = record { u = n; v = suc m; p = suc m; q = n; some = omega arith; weights = omega arith; same = exchanged (suc m) n a b c d x y }
    go zero (suc n) x y = record { u = suc n; v = 0; p = 0; q = suc n; some = omega arith; weights = omega arith; same = exchanged 0 (suc n) a b c d x y }

spans-common : (a b c d : ℤ) → spans-overlap a b c d ≡ true → Common a b c d
unfolding spans-overlap
spans-common a b c d e = go (lt_z a b) (lt_z c d) e
  where
    go : (s t : Bool) → (le_z (cond s a b) (cond t d c) && le_z (cond t c d) (cond s b a)) ≡ true → Common a b c d
    go true true h = ordered-common a b c d (and_left (le_z a d) (le_z c b) h) (and_right (le_z a d) (le_z c b) h)
    go true false h = turned-second a b c d (ordered-common a b d c (and_left (le_z a c) (le_z d b) h) (and_right (le_z a c) (le_z d b) h))
    go false true h = turned-first a b c d (ordered-common b a c d (and_left (le_z b d) (le_z c a) h) (and_right (le_z b d) (le_z c a) h))
    go false false h = turned-first a b c d (turned-second b a c d (ordered-common b a d c (and_left (le_z b c) (le_z d a) h) (and_right (le_z b c) (le_z d a) h)))

spans-turned : (a b c d : ℤ) → spans-overlap a b c d ≡ true → spans-overlap c d a b ≡ true
unfolding spans-overlap
spans-turned a b c d e =
    let l = and_left (le_z (low_z a b) (high_z c d)) (le_z (low_z c d) (high_z a b)) e in
    let r = and_right (le_z (low_z a b) (high_z c d)) (le_z (low_z c d) (high_z a b)) e in
    and_both (le_z (low_z c d) (high_z a b)) (le_z (low_z a b) (high_z c d)) r l

-- spans of no length
points-same : (a c : ℤ) → spans-overlap a a c c ≡ true → a ≡ c
unfolding spans-overlap
points-same a c e =
    let h : (le_z a c && le_z c a) ≡ true = simp (lt-false a a (omega arith), lt-false c c (omega arith)) at e in
    let l = and_left (le_z a c) (le_z c a) h in
    let r = and_right (le_z a c) (le_z c a) h in
    eq-parts a c (omega (arith, ints))

-- ---- edges in one line

-- the way back of `from_first`: one coordinate of a point that was measured from a
to-first : (u v p q : ℕ) (a b c d : ℤ) → u + v ≡ p + q → pos p *ℤ (c -ℤ a) +ℤ pos q *ℤ (d -ℤ a) ≡ pos v *ℤ (b -ℤ a) → pos u *ℤ a +ℤ pos v *ℤ b ≡ pos p *ℤ c +ℤ pos q *ℤ d
to-first u v p q a b c d w e =
    let m = same-weight u v p q a w in
    let h : (pos p *ℤ c -ℤ pos p *ℤ a) +ℤ (pos q *ℤ d -ℤ pos q *ℤ a) ≡ pos v *ℤ b -ℤ pos v *ℤ a = rw (mul-minus (pos p) c a, mul-minus (pos q) d a, mul-minus (pos v) b a) at e in
    eq-parts (pos u *ℤ a +ℤ pos v *ℤ b) (pos p *ℤ c +ℤ pos q *ℤ d)
    (omega (
      arith,
      ap P m,
      ap N m,
      ap P h,
      ap N h,
      add_parts (pos u *ℤ a) (pos v *ℤ a),
      add_parts (pos p *ℤ a) (pos q *ℤ a),
      add_parts (pos p *ℤ c -ℤ pos p *ℤ a) (pos q *ℤ d -ℤ pos q *ℤ a),
      sub-parts-ℤ (pos p *ℤ c) (pos p *ℤ a),
      sub-parts-ℤ (pos q *ℤ d) (pos q *ℤ a),
      sub-parts-ℤ (pos v *ℤ b) (pos v *ℤ a),
      add_parts (pos u *ℤ a) (pos v *ℤ b),
      add_parts (pos p *ℤ c) (pos q *ℤ d),
    ))

-- of points f and g on the line of e, what holds in x holds in y, where e is not upright
across : (v p q : ℕ) (ex ey fx fy gx gy : ℤ) → (ex ≡ pos 0 → ⊥) → ex *ℤ fy -ℤ fx *ℤ ey ≡ pos 0 → ex *ℤ gy -ℤ gx *ℤ ey ≡ pos 0 → pos p *ℤ fx +ℤ pos q *ℤ gx ≡ pos v *ℤ ex → pos p *ℤ fy +ℤ pos q *ℤ gy ≡ pos v *ℤ ey
across v p q ex ey fx fy gx gy n f g h =
    let i : (k : ℕ) (zx zy : ℤ) → ex *ℤ zy -ℤ zx *ℤ ey ≡ pos 0 → ex *ℤ (pos k *ℤ zy) ≡ (pos k *ℤ zx) *ℤ ey =
    λ k zx zy o. swapped ex (pos k) zy ∙ ap (λ (z : ℤ). pos k *ℤ z) (no_difference (ex *ℤ zy) (zx *ℤ ey) o) ∙ sym (times-assoc (pos k) zx ey) in
    let l : ex *ℤ (pos p *ℤ fy +ℤ pos q *ℤ gy) ≡ (pos p *ℤ fx) *ℤ ey +ℤ (pos q *ℤ gx) *ℤ ey = rw (mul-plus ex (pos p *ℤ fy) (pos q *ℤ gy), i p fx fy f, i q gx gy g) in
    let r : (pos p *ℤ fx) *ℤ ey +ℤ (pos q *ℤ gx) *ℤ ey ≡ ex *ℤ (pos v *ℤ ey) =
    sym (plus-mul (pos p *ℤ fx) (pos q *ℤ gx) ey) ∙ ap (λ (z : ℤ). z *ℤ ey) h ∙ times-assoc (pos v) ex ey ∙ swapped (pos v) ex ey in
    let d : ex *ℤ ((pos p *ℤ fy +ℤ pos q *ℤ gy) -ℤ pos v *ℤ ey) ≡ pos 0 = mul-minus ex (pos p *ℤ fy +ℤ pos q *ℤ gy) (pos v *ℤ ey) ∙ rw (l, r) (less-itself (ex *ℤ (pos v *ℤ ey))) in
    no_difference (pos p *ℤ fy +ℤ pos q *ℤ gy) (pos v *ℤ ey) (no-factor ex ((pos p *ℤ fy +ℤ pos q *ℤ gy) -ℤ pos v *ℤ ey) n d)

-- C and D lie on the line of AB, which is not upright
slanted-shared : (a b c d : Point) → (a.x ≡ b.x → ⊥) → side a b c ≡ pos 0 → side a b d ≡ pos 0 → spans-overlap a.x b.x c.x d.x ≡ true → Shared a b c d
unfolding side
slanted-shared a b c d n f g o =
    let s = spans-common a.x b.x c.x d.x o in
    record {
      u = s.u;
      v = s.v;
      p = s.p;
      q = s.q;
      some = s.some;
      weights = s.weights;
      same-x = s.same;
      same-y = to-first s.u s.v s.p s.q a.y b.y c.y d.y s.weights
          (across s.v s.p s.q (b.x -ℤ a.x) (b.y -ℤ a.y) (c.x -ℤ a.x) (c.y -ℤ a.y) (d.x -ℤ a.x) (d.y -ℤ a.y) (λ e. n (sym (no_difference b.x a.x e))) f g
          (from_first s.u s.v s.p s.q a.x b.x c.x d.x s.weights s.same));
    }

-- both edges are upright, or points
upright-shared : (a b c d : Point) → a.x ≡ b.x → c.x ≡ d.x → spans-overlap a.x b.x c.x d.x ≡ true → spans-overlap a.y b.y c.y d.y ≡ true → Shared a b c d
upright-shared a b c d e f o w =
    let s = spans-common a.y b.y c.y d.y w in
    let h : a.x ≡ c.x = points-same a.x c.x (rw (← e, ← f) at o) in
    record {
      u = s.u;
      v = s.v;
      p = s.p;
      q = s.q;
      some = s.some;
      weights = s.weights;
      same-x = rw (← e, ← f, ← h) (same-weight s.u s.v s.p s.q a.x s.weights);
      same-y = s.same;
    }

line-shared : (a b c d : Point) → side a b c ≡ pos 0 → side a b d ≡ pos 0 → side c d a ≡ pos 0 → side c d b ≡ pos 0 → boxes-overlap a b c d ≡ true → Shared a b c d
unfolding boxes-overlap
line-shared a b c d e f g h o = go (eq_z a.x b.x) (eq_z c.x d.x) refl refl
  where
    ox : spans-overlap a.x b.x c.x d.x ≡ true
    ox = and_left (spans-overlap a.x b.x c.x d.x) (spans-overlap a.y b.y c.y d.y) o

    oy : spans-overlap a.y b.y c.y d.y ≡ true
    oy = and_right (spans-overlap a.x b.x c.x d.x) (spans-overlap a.y b.y c.y d.y) o

    go : (s t : Bool) → eq_z a.x b.x ≡ s → eq_z c.x d.x ≡ t → Shared a b c d
    go false t x y = slanted-shared a b c d (λ z. true≢false (sym (eq_z-yes a.x b.x z) ∙ x)) e f ox
    go true false x y = flipped (slanted-shared c d a b (λ z. true≢false (sym (eq_z-yes c.x d.x z) ∙ y)) g h (spans-turned a.x b.x c.x d.x ox))
    go true true x y = upright-shared a b c d (eq_z-same a.x b.x x) (eq_z-same c.x d.x y) ox oy

-- ---- edges that are not parallel

-- the cross product of two points
abbrev turn : Point → Point → ℤ
turn a b = a.x *ℤ b.y -ℤ b.x *ℤ a.y

side-turns : (a b c : Point) → side a b c ≡ (turn a b +ℤ turn b c) +ℤ turn c a
unfolding side
side-turns a b c =
    rw (minus_minus b.x a.x c.y a.y, minus_minus c.x a.x b.y a.y)
    (linear (b.x *ℤ c.y) (b.x *ℤ a.y) (a.x *ℤ c.y) (c.x *ℤ b.y) (c.x *ℤ a.y) (a.x *ℤ b.y) (a.x *ℤ a.y))
  where
    linear : (p q r s t u w : ℤ) → ((p -ℤ q) -ℤ (r -ℤ w)) -ℤ ((s -ℤ t) -ℤ (u -ℤ w)) ≡ ((u -ℤ q) +ℤ (p -ℤ s)) +ℤ (t -ℤ r)
    linear p q r s t u w =
        eq-parts (((p -ℤ q) -ℤ (r -ℤ w)) -ℤ ((s -ℤ t) -ℤ (u -ℤ w))) (((u -ℤ q) +ℤ (p -ℤ s)) +ℤ (t -ℤ r))
        (omega (
          arith,
          sub-parts-ℤ p q,
          sub-parts-ℤ r w,
          sub-parts-ℤ s t,
          sub-parts-ℤ u w,
          sub-parts-ℤ (p -ℤ q) (r -ℤ w),
          sub-parts-ℤ (s -ℤ t) (u -ℤ w),
          sub-parts-ℤ ((p -ℤ q) -ℤ (r -ℤ w)) ((s -ℤ t) -ℤ (u -ℤ w)),
          sub-parts-ℤ u q,
          sub-parts-ℤ p s,
          sub-parts-ℤ t r,
          add_parts (u -ℤ q) (p -ℤ s),
          add_parts ((u -ℤ q) +ℤ (p -ℤ s)) (t -ℤ r),
        ))

-- both are the doubled area of A, B, C, D, with its sign
sides-even : (a b c d : Point) → side a b c +ℤ side c d a ≡ side a b d +ℤ side c d b
sides-even a b c d =
    rw (side-turns a b c, side-turns c d a, side-turns a b d, side-turns c d b)
    (linear (turn a b) (turn b c) (turn c d) (turn d a) (b.x *ℤ d.y) (d.x *ℤ b.y) (c.x *ℤ a.y) (a.x *ℤ c.y))
  where
    linear : (p q r s k l m n : ℤ) → ((p +ℤ q) +ℤ (m -ℤ n)) +ℤ ((r +ℤ s) +ℤ (n -ℤ m)) ≡ ((p +ℤ (k -ℤ l)) +ℤ s) +ℤ ((r +ℤ (l -ℤ k)) +ℤ q)
    linear p q r s k l m n =
        eq-parts (((p +ℤ q) +ℤ (m -ℤ n)) +ℤ ((r +ℤ s) +ℤ (n -ℤ m))) (((p +ℤ (k -ℤ l)) +ℤ s) +ℤ ((r +ℤ (l -ℤ k)) +ℤ q))
        (omega (
          arith,
          add_parts p q,
          sub-parts-ℤ m n,
          add_parts (p +ℤ q) (m -ℤ n),
          add_parts r s,
          sub-parts-ℤ n m,
          add_parts (r +ℤ s) (n -ℤ m),
          add_parts ((p +ℤ q) +ℤ (m -ℤ n)) ((r +ℤ s) +ℤ (n -ℤ m)),
          sub-parts-ℤ k l,
          add_parts p (k -ℤ l),
          add_parts (p +ℤ (k -ℤ l)) s,
          sub-parts-ℤ l k,
          add_parts r (l -ℤ k),
          add_parts (r +ℤ (l -ℤ k)) q,
          add_parts ((p +ℤ (k -ℤ l)) +ℤ s) ((r +ℤ (l -ℤ k)) +ℤ q),
        ))

even-parts : (a b c d : Point) → (P (side a b c) + P (side c d a)) + (N (side a b d) + N (side c d b)) ≡ (P (side a b d) + P (side c d b)) + (N (side a b c) + N (side c d a))
even-parts a b c d = let e = sides-even a b c d in omega (arith, ap P e, ap N e, add_parts (side a b c) (side c d a), add_parts (side a b d) (side c d b))

side-round : (a b c : Point) → side b c a ≡ side a b c
side-round a b c = rw (side-turns b c a, side-turns a b c) (+ℤ_comm (turn b c +ℤ turn c a) (turn a b) ∙ sym (+ℤ_assoc (turn a b) (turn b c) (turn c a)))

-- with e, f, g for B, C, D measured from A: the cross products of two of them, times the third
module _ (ex ey fx fy gx gy : ℤ) where
  triple-x : (gx *ℤ ey -ℤ ex *ℤ gy) *ℤ fx +ℤ (ex *ℤ fy -ℤ fx *ℤ ey) *ℤ gx ≡ (gx *ℤ fy -ℤ fx *ℤ gy) *ℤ ex
  triple-x =
      rw (minus-mul (gx *ℤ ey) (ex *ℤ gy) fx, minus-mul (ex *ℤ fy) (fx *ℤ ey) gx, minus-mul (gx *ℤ fy) (fx *ℤ gy) ex, outer-two gx ey fx, outer-two ex gy fx, outer-two ex fy gx)
      (linear ((fx *ℤ ey) *ℤ gx) ((fx *ℤ gy) *ℤ ex) ((gx *ℤ fy) *ℤ ex))
    where
      linear : (p q r : ℤ) → (p -ℤ q) +ℤ (r -ℤ p) ≡ r -ℤ q
      linear p q r = eq-parts ((p -ℤ q) +ℤ (r -ℤ p)) (r -ℤ q) (omega (arith, sub-parts-ℤ p q, sub-parts-ℤ r p, add_parts (p -ℤ q) (r -ℤ p), sub-parts-ℤ r q))

  triple-y : (gx *ℤ ey -ℤ ex *ℤ gy) *ℤ fy +ℤ (ex *ℤ fy -ℤ fx *ℤ ey) *ℤ gy ≡ (gx *ℤ fy -ℤ fx *ℤ gy) *ℤ ey
  triple-y =
      rw (minus-mul (gx *ℤ ey) (ex *ℤ gy) fy, minus-mul (ex *ℤ fy) (fx *ℤ ey) gy, minus-mul (gx *ℤ fy) (fx *ℤ gy) ey, last-two gx ey fy, last-two ex gy fy, last-two fx ey gy)
      (linear ((gx *ℤ fy) *ℤ ey) ((ex *ℤ fy) *ℤ gy) ((fx *ℤ gy) *ℤ ey))
    where
      linear : (p q r : ℤ) → (p -ℤ q) +ℤ (q -ℤ r) ≡ p -ℤ r
      linear p q r = eq-parts ((p -ℤ q) +ℤ (q -ℤ r)) (p -ℤ r) (omega (arith, sub-parts-ℤ p q, sub-parts-ℤ q r, add_parts (p -ℤ q) (q -ℤ r), sub-parts-ℤ p r))

-- a difference that is not above 0
negative : (s t : ℤ) → P (s -ℤ t) ≡ 0 → pos (N (s -ℤ t)) ≡ t -ℤ s
negative s t e = eq-parts (pos (N (s -ℤ t))) (t -ℤ s) (omega (arith, sub-parts-ℤ s t, sub-parts-ℤ t s))

-- C is left of AB's line or on it, D right of it or on it, A right of CD's line or on it: their point, measured from A
module _ (a b c d : Point) (e : N (side a b c) ≡ 0) (f : P (side a b d) ≡ 0) (g : P (side a c d) ≡ 0) where
  weight-c : pos (N (side a b d)) ≡ (d.x -ℤ a.x) *ℤ (b.y -ℤ a.y) -ℤ (b.x -ℤ a.x) *ℤ (d.y -ℤ a.y)
  unfolding side
  weight-c = negative ((b.x -ℤ a.x) *ℤ (d.y -ℤ a.y)) ((d.x -ℤ a.x) *ℤ (b.y -ℤ a.y)) f

  weight-d : pos (P (side a b c)) ≡ (b.x -ℤ a.x) *ℤ (c.y -ℤ a.y) -ℤ (c.x -ℤ a.x) *ℤ (b.y -ℤ a.y)
  unfolding side
  weight-d = positive (side a b c) e

  weight-b : pos (N (side a c d)) ≡ (d.x -ℤ a.x) *ℤ (c.y -ℤ a.y) -ℤ (c.x -ℤ a.x) *ℤ (d.y -ℤ a.y)
  unfolding side
  weight-b = negative ((c.x -ℤ a.x) *ℤ (d.y -ℤ a.y)) ((d.x -ℤ a.x) *ℤ (c.y -ℤ a.y)) g

  point-x : pos (N (side a b d)) *ℤ (c.x -ℤ a.x) +ℤ pos (P (side a b c)) *ℤ (d.x -ℤ a.x) ≡ pos (N (side a c d)) *ℤ (b.x -ℤ a.x)
  point-x = rw (weight-c, weight-d, weight-b) (triple-x (b.x -ℤ a.x) (b.y -ℤ a.y) (c.x -ℤ a.x) (c.y -ℤ a.y) (d.x -ℤ a.x) (d.y -ℤ a.y))

  point-y : pos (N (side a b d)) *ℤ (c.y -ℤ a.y) +ℤ pos (P (side a b c)) *ℤ (d.y -ℤ a.y) ≡ pos (N (side a c d)) *ℤ (b.y -ℤ a.y)
  point-y = rw (weight-c, weight-d, weight-b) (triple-y (b.x -ℤ a.x) (b.y -ℤ a.y) (c.x -ℤ a.x) (c.y -ℤ a.y) (d.x -ℤ a.x) (d.y -ℤ a.y))

-- and B left of CD's line or on it
cross-shared : (a b c d : Point) → N (side a b c) ≡ 0 → P (side a b d) ≡ 0 → P (side c d a) ≡ 0 → N (side c d b) ≡ 0 → 0 < P (side a b c) + N (side a b d) → Shared a b c d
cross-shared a b c d e f g h o =
    let round = side-round a c d in
    let w : P (side c d b) + N (side a c d) ≡ N (side a b d) + P (side a b c) = omega (arith, even-parts a b c d, ap P round, ap N round) in
    let t : P (side a c d) ≡ 0 = sym (ap P round) ∙ g in
    record {
      u = P (side c d b);
      v = N (side a c d);
      p = N (side a b d);
      q = P (side a b c);
      some = omega (arith, w, o);
      weights = w;
      same-x = to-first (P (side c d b)) (N (side a c d)) (N (side a b d)) (P (side a b c)) a.x b.x c.x d.x w (point-x a b c d e f t);
      same-y = to-first (P (side c d b)) (N (side a c d)) (N (side a b d)) (P (side a b c)) a.y b.y c.y d.y w (point-y a b c d e f t);
    }

-- ---- the theorem

not-one-side : (s t : ℤ) → one_side s t ≡ false → (min (P s) (P t) ≡ 0) × (min (N s) (N t) ≡ 0)
unfolding one_side
not-one-side (pos zero) t e = (omega arith, omega arith)
not-one-side (pos (suc m)) (pos zero) e = (omega arith, omega arith)
not-one-side (pos (suc m)) (pos (suc n)) e = absurd (true≢false (simp (lt-true (pos 0) (pos (suc m)) (omega arith), lt-true (pos 0) (pos (suc n)) (omega arith)) at e))
not-one-side (pos (suc m)) (negsuc n) e = (omega arith, omega arith)
not-one-side (negsuc m) (pos n) e = (omega arith, omega arith)
not-one-side (negsuc m) (negsuc n) e = absurd (true≢false e)

-- 0 lies between two that are not on one side of it
module _ (s t : ℤ) (e : one_side s t ≡ false) where
  falling : P t + N s < P s + N t → (N s ≡ 0) × (P t ≡ 0)
  falling h = let u = not-one-side s t e in let m = num s in let n = num t in (omega arith, omega arith)

  rising : P s + N t < P t + N s → (P s ≡ 0) × (N t ≡ 0)
  rising h = let u = not-one-side s t e in let m = num s in let n = num t in (omega arith, omega arith)

  level : P t + N s ≡ P s + N t → (s ≡ pos 0) × (t ≡ pos 0)
  level h = let u = not-one-side s t e in let m = num s in let n = num t in (eq-parts s (pos 0) (omega arith), eq-parts t (pos 0) (omega arith))

module _ (a b c d : Point) (f : beside-line a b c d ≡ false) (g : beside-line c d a b ≡ false) where
  parted-shared : lt_z (side a b d) (side a b c) ≡ true → Shared a b c d
  unfolding beside-line
  parted-shared x =
      let y = lt_yes (side a b d) (side a b c) x in
      let r = falling (side a b c) (side a b d) f y in
      let s = rising (side c d a) (side c d b) g (omega (arith, even-parts a b c d)) in
      cross-shared a b c d r.0 r.1 s.0 s.1 (omega arith)

  level-shared : P (side a b d) + N (side a b c) ≡ P (side a b c) + N (side a b d) → boxes-overlap a b c d ≡ true → Shared a b c d
  unfolding beside-line
  level-shared h o =
      let r = level (side a b c) (side a b d) f h in
      let s = level (side c d a) (side c d b) g (omega (arith, even-parts a b c d)) in
      line-shared a b c d r.0 r.1 s.0 s.1 o

-- edges that meet share a point
pub meet-shared : (a b c d : Point) → edges-meet a b c d ≡ true → Shared a b c d
unfolding edges-meet
meet-shared a b c d e = go (lt_z (side a b d) (side a b c)) (lt_z (side c d b) (side c d a)) refl refl
  where
    h : (not (beside-line c d a b) && boxes-overlap a b c d) ≡ true
    h = and_right (not (beside-line a b c d)) (not (beside-line c d a b) && boxes-overlap a b c d) e

    f : beside-line a b c d ≡ false
    f = not-true (beside-line a b c d) (and_left (not (beside-line a b c d)) (not (beside-line c d a b) && boxes-overlap a b c d) e)

    g : beside-line c d a b ≡ false
    g = not-true (beside-line c d a b) (and_left (not (beside-line c d a b)) (boxes-overlap a b c d) h)

    go : (s t : Bool) → lt_z (side a b d) (side a b c) ≡ s → lt_z (side c d b) (side c d a) ≡ t → Shared a b c d
    go true t x y = parted-shared a b c d f g x
    go false true x y = flipped (parted-shared c d a b g f y)
    go false false x y = level-shared a b c d f g (omega (arith, ints, even-parts a b c d)) (and_right (not (beside-line c d a b)) (boxes-overlap a b c d) h)
