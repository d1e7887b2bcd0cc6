-- Edges that do not meet by the document's test share no point: `shared-meet`. A shared point has a weighted sum of sides that is 0, and lies in both boxes. Assumes nothing.
use mathlib.Core.Path.{◌≡◌, refl, sym, ap, ◌∙◌}
use mathlib.Core.Bool.{Bool, true, false, ◌&&◌}
use Prim.Native.Nat.{ℕ, suc, ◌+◌, ◌*◌, ◌≤◌, ◌<◌}
use native.Mathlib.Nat.{le_refl, mul-le-mul}
use native.Mathlib.Omega.{arith}
use lib.IntN.{ℤ, pos, negsuc, ◌+ℤ◌, ◌-ℤ◌, ◌*ℤ◌, *ℤ_comm, *ℤ-zero, +ℤ_idl}
use lib.Signed.{lt_z, le_z}
use Rattle.laws.specs.Whole.{low_z, high_z}
use Rattle.laws.proofs.Choice.{false≢true, cond-elim}
use Rattle.laws.proofs.Parts.{P, N, num, sum, diff, ints, eq-parts, neg-P, neg-N, lt-true, le-true}
use Rattle.laws.proofs.Products.{mul-plus, times-assoc, plus-mul, mul-minus}
use Rattle.crossing.specs.declared.Point.{Point}
use Rattle.crossing.specs.Edges.{side, one_side, beside-line, spans-overlap, boxes-overlap, edges-meet}
use Rattle.crossing.specs.Shared.{Shared}

-- ---- linear facts

less-each : (a b c d e f g h : ℤ) → a +ℤ b ≡ c +ℤ d → e +ℤ f ≡ g +ℤ h → (a -ℤ e) +ℤ (b -ℤ f) ≡ (c -ℤ g) +ℤ (d -ℤ h)
less-each a b c d e f g h r s =
    eq-parts ((a -ℤ e) +ℤ (b -ℤ f)) ((c -ℤ g) +ℤ (d -ℤ h))
    (omega (arith, ap P r, ap N r, ap P s, ap N s, sum a b, sum c d, sum e f, sum g h, diff a e, diff b f, diff c g, diff d h, sum (a -ℤ e) (b -ℤ f), sum (c -ℤ g) (d -ℤ h)))

cancels : (a b c d k : ℤ) → a +ℤ b ≡ k → c +ℤ d ≡ k → (a -ℤ c) +ℤ (b -ℤ d) ≡ pos 0
cancels a b c d k r s =
    eq-parts ((a -ℤ c) +ℤ (b -ℤ d)) (pos 0)
    (omega (arith, ap P r, ap N r, ap P s, ap N s, sum a b, sum c d, diff a c, diff b d, sum (a -ℤ c) (b -ℤ d)))

pub less-itself : (a : ℤ) → a -ℤ a ≡ pos 0
less-itself a = eq-parts (a -ℤ a) (pos 0) (omega (arith, num a, diff a a))

pub no_difference : (a b : ℤ) → a -ℤ b ≡ pos 0 → a ≡ b
no_difference a b e = eq-parts a b (omega (arith, ap P e, ap N e, diff a b))

pub swapped : (k e y : ℤ) → k *ℤ (e *ℤ y) ≡ e *ℤ (k *ℤ y)
swapped k e y = sym (times-assoc k e y) ∙ ap (λ (z : ℤ). z *ℤ y) (*ℤ_comm k e) ∙ times-assoc e k y

-- ---- weighted sums

pub same-weight : (u v p q : ℕ) (z : ℤ) → u + v ≡ p + q → pos u *ℤ z +ℤ pos v *ℤ z ≡ pos p *ℤ z +ℤ pos q *ℤ z
same-weight u v p q z w = sym (plus-mul (pos u) (pos v) z) ∙ ap (λ (n : ℕ). pos n *ℤ z) w ∙ plus-mul (pos p) (pos q) z

-- measured from any number, two equal weighted sums of equal weight are equal
pub from-any : (u v p q : ℕ) (a b c d z : ℤ) → u + v ≡ p + q → pos u *ℤ a +ℤ pos v *ℤ b ≡ pos p *ℤ c +ℤ pos q *ℤ d → pos u *ℤ (a -ℤ z) +ℤ pos v *ℤ (b -ℤ z) ≡ pos p *ℤ (c -ℤ z) +ℤ pos q *ℤ (d -ℤ z)
from-any u v p q a b c d z w e =
    rw (mul-minus (pos u) a z, mul-minus (pos v) b z, mul-minus (pos p) c z, mul-minus (pos q) d z)
    (less-each (pos u *ℤ a) (pos v *ℤ b) (pos p *ℤ c) (pos q *ℤ d) (pos u *ℤ z) (pos v *ℤ z) (pos p *ℤ z) (pos q *ℤ z) e (same-weight u v p q z w))

-- a product with a weight has the weight in its parts
weight-parts : (u : ℕ) (s : ℤ) → (P (pos u *ℤ s) ≡ u * P s) × (N (pos u *ℤ s) ≡ u * N s)
weight-parts u (pos n) = (refl, omega arith)
weight-parts u (negsuc n) = (neg-P (pos (u * suc n)) ∙ omega arith, neg-N (pos (u * suc n)))

module _ (u : ℕ) (s : ℤ) where
  pub no-P : P s ≡ 0 → P (pos u *ℤ s) ≡ 0
  no-P e = omega (arith, (weight-parts u s).0, ap (λ (x : ℕ). u * x) e)

  pub no-N : N s ≡ 0 → N (pos u *ℤ s) ≡ 0
  no-N e = omega (arith, (weight-parts u s).1, ap (λ (x : ℕ). u * x) e)

  pub some-P : 1 ≤ P s → u ≤ P (pos u *ℤ s)
  some-P h = let l : u * 1 ≤ u * P s = mul-le-mul (le_refl u) h in omega (arith, (weight-parts u s).0)

  pub some-N : 1 ≤ N s → u ≤ N (pos u *ℤ s)
  some-N h = let l : u * 1 ≤ u * N s = mul-le-mul (le_refl u) h in omega (arith, (weight-parts u s).1)

-- the sign of a weighted sum
module _ (u v : ℕ) (s t : ℤ) where
  above : 0 < u + v → lt_z (pos 0) s ≡ true → lt_z (pos 0) t ≡ true → lt_z (pos 0) (pos u *ℤ s +ℤ pos v *ℤ t) ≡ true
  above h e f =
      let a = no-N u s (omega (arith, ints, num s)) in
      let b = no-N v t (omega (arith, ints, num t)) in
      let c = some-P u s (omega (arith, ints, num s)) in
      let d = some-P v t (omega (arith, ints, num t)) in
      lt-true (pos 0) (pos u *ℤ s +ℤ pos v *ℤ t) (omega (arith, sum (pos u *ℤ s) (pos v *ℤ t)))

  below : 0 < u + v → lt_z s (pos 0) ≡ true → lt_z t (pos 0) ≡ true → lt_z (pos u *ℤ s +ℤ pos v *ℤ t) (pos 0) ≡ true
  below h e f =
      let a = no-P u s (omega (arith, ints, num s)) in
      let b = no-P v t (omega (arith, ints, num t)) in
      let c = some-N u s (omega (arith, ints, num s)) in
      let d = some-N v t (omega (arith, ints, num t)) in
      lt-true (pos u *ℤ s +ℤ pos v *ℤ t) (pos 0) (omega (arith, sum (pos u *ℤ s) (pos v *ℤ t)))

  not-above : le_z s (pos 0) ≡ true → le_z t (pos 0) ≡ true → le_z (pos u *ℤ s +ℤ pos v *ℤ t) (pos 0) ≡ true
  not-above e f =
      let a = no-P u s (omega (arith, ints, num s)) in
      let b = no-P v t (omega (arith, ints, num t)) in
      le-true (pos u *ℤ s +ℤ pos v *ℤ t) (pos 0) (omega (arith, sum (pos u *ℤ s) (pos v *ℤ t)))

pub not-both : (a b : Bool) → (a ≡ true → b ≡ true → ⊥) → (a && b) ≡ false
not-both true true f = absurd (f refl refl)
not-both true false f = refl
not-both false b f = refl

-- so both are not on one side where it is 0
one-side-no : (u v : ℕ) (s t : ℤ) → 0 < u + v → pos u *ℤ s +ℤ pos v *ℤ t ≡ pos 0 → one_side s t ≡ false
unfolding one_side
one-side-no u v s t h z =
    let a : (lt_z (pos 0) s && lt_z (pos 0) t) ≡ false = not-both (lt_z (pos 0) s) (lt_z (pos 0) t) (λ e f. let r : false ≡ true = rw z at (above u v s t h e f) in false≢true r) in
    let b : (lt_z s (pos 0) && lt_z t (pos 0)) ≡ false = not-both (lt_z s (pos 0)) (lt_z t (pos 0)) (λ e f. let r : false ≡ true = rw z at (below u v s t h e f) in false≢true r) in
    simp (a, b)

-- ---- spans

module _ (a b : ℤ) where
  low-left : le_z (low_z a b) a ≡ true
  low-left = cond-elim (λ (r : ℤ). le_z r a ≡ true) (lt_z a b) a b (λ e. le-true a a (omega arith)) (λ e. le-true b a (omega (arith, ints)))

  low-right : le_z (low_z a b) b ≡ true
  low-right = cond-elim (λ (r : ℤ). le_z r b ≡ true) (lt_z a b) a b (λ e. le-true a b (omega (arith, ints))) (λ e. le-true b b (omega arith))

  high-left : le_z a (high_z a b) ≡ true
  high-left = cond-elim (λ (r : ℤ). le_z a r ≡ true) (lt_z a b) b a (λ e. le-true a b (omega (arith, ints))) (λ e. le-true a a (omega arith))

  high-right : le_z b (high_z a b) ≡ true
  high-right = cond-elim (λ (r : ℤ). le_z b r ≡ true) (lt_z a b) b a (λ e. le-true b b (omega arith)) (λ e. le-true b a (omega (arith, ints)))

past : (a l m : ℤ) → le_z l a ≡ true → le_z l m ≡ false → lt_z (pos 0) (a -ℤ m) ≡ true
past a l m e f = lt-true (pos 0) (a -ℤ m) (omega (arith, ints, num a, num l, num m, diff a m))

not-past : (c m : ℤ) → le_z c m ≡ true → le_z (c -ℤ m) (pos 0) ≡ true
not-past c m e = le-true (c -ℤ m) (pos 0) (omega (arith, ints, num c, num m, diff c m))

clash : (k : ℤ) → lt_z (pos 0) k ≡ true → le_z k (pos 0) ≡ true → ⊥
clash k x y = omega (arith, ints, num k)

-- the lower end of one span is not past the other's higher end
reached : (u v p q : ℕ) (a b c d : ℤ) → 0 < u + v → u + v ≡ p + q → pos u *ℤ a +ℤ pos v *ℤ b ≡ pos p *ℤ c +ℤ pos q *ℤ d → le_z (low_z a b) (high_z c d) ≡ true
reached u v p q a b c d h w e = go (le_z (low_z a b) (high_z c d)) refl
  where
    go : (t : Bool) → le_z (low_z a b) (high_z c d) ≡ t → t ≡ true
    go true f = refl
    go false f =
        let m : ℤ = high_z c d in
        let x = above u v (a -ℤ m) (b -ℤ m) h (past a (low_z a b) m (low-left a b) f) (past b (low_z a b) m (low-right a b) f) in
        let y = not-above p q (c -ℤ m) (d -ℤ m) (not-past c m (high-left c d)) (not-past d m (high-right c d)) in
        let z : le_z (pos u *ℤ (a -ℤ m) +ℤ pos v *ℤ (b -ℤ m)) (pos 0) ≡ true = rw (from-any u v p q a b c d m w e) y in
        absurd (clash (pos u *ℤ (a -ℤ m) +ℤ pos v *ℤ (b -ℤ m)) x z)

-- ---- edges

pub flipped : {a b c d : Point} → Shared a b c d → Shared c d a b
flipped s = record { u = s.p; v = s.q; p = s.u; q = s.v; some = omega (arith, s.some, s.weights); weights = sym s.weights; same-x = sym s.same-x; same-y = sym s.same-y }

-- one coordinate of the shared point, measured from a
pub from_first : (u v p q : ℕ) (a b c d : ℤ) → u + v ≡ p + q → pos u *ℤ a +ℤ pos v *ℤ b ≡ pos p *ℤ c +ℤ pos q *ℤ d → pos p *ℤ (c -ℤ a) +ℤ pos q *ℤ (d -ℤ a) ≡ pos v *ℤ (b -ℤ a)
from_first u v p q a b c d w e =
    sym (from-any u v p q a b c d a w e) ∙ ap (λ (z : ℤ). pos u *ℤ z +ℤ pos v *ℤ (b -ℤ a)) (less-itself a)
    ∙ ap (λ (z : ℤ). z +ℤ pos v *ℤ (b -ℤ a)) (*ℤ-zero (pos u)) ∙ +ℤ_idl (pos v *ℤ (b -ℤ a))

-- the cross products of e with c and with d, weighted as c and d make a multiple of e
crossed : (v p q : ℕ) (ex ey cx cy dx dy : ℤ) → pos p *ℤ cx +ℤ pos q *ℤ dx ≡ pos v *ℤ ex → pos p *ℤ cy +ℤ pos q *ℤ dy ≡ pos v *ℤ ey → pos p *ℤ (ex *ℤ cy -ℤ cx *ℤ ey) +ℤ pos q *ℤ (ex *ℤ dy -ℤ dx *ℤ ey) ≡ pos 0
crossed v p q ex ey cx cy dx dy hx hy =
    let k : ℤ = pos v *ℤ (ex *ℤ ey) in
    let y : ex *ℤ (pos p *ℤ cy) +ℤ ex *ℤ (pos q *ℤ dy) ≡ k = sym (mul-plus ex (pos p *ℤ cy) (pos q *ℤ dy)) ∙ ap (λ (z : ℤ). ex *ℤ z) hy ∙ swapped ex (pos v) ey in
    let x : (pos p *ℤ cx) *ℤ ey +ℤ (pos q *ℤ dx) *ℤ ey ≡ k = sym (plus-mul (pos p *ℤ cx) (pos q *ℤ dx) ey) ∙ ap (λ (z : ℤ). z *ℤ ey) hx ∙ times-assoc (pos v) ex ey in
    rw (mul-minus (pos p) (ex *ℤ cy) (cx *ℤ ey), mul-minus (pos q) (ex *ℤ dy) (dx *ℤ ey), swapped (pos p) ex cy, swapped (pos q) ex dy, ← times-assoc (pos p) cx ey, ← times-assoc (pos q) dx ey)
    (cancels (ex *ℤ (pos p *ℤ cy)) (ex *ℤ (pos q *ℤ dy)) ((pos p *ℤ cx) *ℤ ey) ((pos q *ℤ dx) *ℤ ey) k y x)

beside-no : (a b c d : Point) → Shared a b c d → beside-line a b c d ≡ false
unfolding beside-line side
beside-no a b c d s =
    one-side-no s.p s.q (side a b c) (side a b d) (omega (arith, s.some, s.weights))
    (crossed s.v s.p s.q (b.x -ℤ a.x) (b.y -ℤ a.y) (c.x -ℤ a.x) (c.y -ℤ a.y) (d.x -ℤ a.x) (d.y -ℤ a.y)
    (from_first s.u s.v s.p s.q a.x b.x c.x d.x s.weights s.same-x)
    (from_first s.u s.v s.p s.q a.y b.y c.y d.y s.weights s.same-y))

boxes-yes : (a b c d : Point) → Shared a b c d → boxes-overlap a b c d ≡ true
unfolding boxes-overlap spans-overlap
boxes-yes a b c d s =
    let r = flipped s in
    simp (
      reached s.u s.v s.p s.q a.x b.x c.x d.x s.some s.weights s.same-x,
      reached r.u r.v r.p r.q c.x d.x a.x b.x r.some r.weights r.same-x,
      reached s.u s.v s.p s.q a.y b.y c.y d.y s.some s.weights s.same-y,
      reached r.u r.v r.p r.q c.y d.y a.y b.y r.some r.weights r.same-y,
    )

-- edges that share a point meet
pub shared-meet : (a b c d : Point) → Shared a b c d → edges-meet a b c d ≡ true
unfolding edges-meet
shared-meet a b c d s = simp (beside-no a b c d s, beside-no c d a b (flipped s), boxes-yes a b c d s)
