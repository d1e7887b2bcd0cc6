-- The rule does not depend on where the corner lies: it is one of the coordinates taken from it, heights southward. Assumes nothing.
use mathlib.Core.Path.{◌≡◌, refl, sym, ◌∙◌, ap, ap₂}
use mathlib.Core.Bool.{Bool, true, false, cond, ◌&&◌}
use Prim.Native.Nat.{ℕ}
use native.Mathlib.Omega.{arith}
use lib.IntN.{ℤ, pos, ◌+ℤ◌, ◌-ℤ◌, ◌*ℤ◌}
use lib.Signed.{lt_z, le_z}
use Rattle.laws.proofs.Parts.{num, sum, diff, eq-parts, lt-true, lt-false, le_not_lt, lt_yes, lt_no}
use Rattle.laws.proofs.Products.{mul-plus, plus-mul}
use Rattle.grid.specs.Inside.{twice, centre_at, centre-x, centre-y, straddles, crosses-east, counts}
use Rattle.grid.specs.Trace.{east-from, west-of-edge}

lt-shift : (k a b u v : ℤ) → u ≡ k +ℤ a → v ≡ k +ℤ b → lt_z u v ≡ lt_z a b
lt-shift k a b u v p q = rw (p, q) (go (lt_z a b) refl)
  where
    go : (t : Bool) → lt_z a b ≡ t → lt_z (k +ℤ a) (k +ℤ b) ≡ t
    go true e = lt-true (k +ℤ a) (k +ℤ b) (omega (arith, lt_yes a b e, num k, num a, num b, sum k a, sum k b))
    go false e = lt-false (k +ℤ a) (k +ℤ b) (omega (arith, lt_no a b e, num k, num a, num b, sum k a, sum k b))

add-four : (a b c d : ℤ) → (a +ℤ b) +ℤ (c +ℤ d) ≡ (a +ℤ c) +ℤ (b +ℤ d)
add-four a b c d =
    eq-parts ((a +ℤ b) +ℤ (c +ℤ d)) ((a +ℤ c) +ℤ (b +ℤ d))
    (omega (arith, num a, num b, num c, num d, sum a b, sum c d, sum a c, sum b d, sum (a +ℤ b) (c +ℤ d), sum (a +ℤ c) (b +ℤ d)))

-- every x taken from k
east-shift : (k o p q s t : ℤ) → lt_z ((k +ℤ o) *ℤ (s +ℤ t)) ((k +ℤ p) *ℤ s +ℤ (k +ℤ q) *ℤ t) ≡ lt_z (o *ℤ (s +ℤ t)) (p *ℤ s +ℤ q *ℤ t)
east-shift k o p q s t =
    lt-shift (k *ℤ (s +ℤ t)) (o *ℤ (s +ℤ t)) (p *ℤ s +ℤ q *ℤ t) ((k +ℤ o) *ℤ (s +ℤ t)) ((k +ℤ p) *ℤ s +ℤ (k +ℤ q) *ℤ t)
    (plus-mul k o (s +ℤ t))
    (ap₂ (λ (a b : ℤ). a +ℤ b) (plus-mul k p s) (plus-mul k q t)
    ∙ add-four (k *ℤ s) (p *ℤ s) (k *ℤ t) (q *ℤ t)
    ∙ ap (λ (z : ℤ). z +ℤ (p *ℤ s +ℤ q *ℤ t)) (sym (mul-plus k s t)))

module _ (cy w a b : ℤ) where
  -- heights southward
  north-of : lt_z (twice cy -ℤ w) (twice a) ≡ lt_z (twice (cy -ℤ a)) w
  north-of = go (lt_z (twice (cy -ℤ a)) w) refl
    where
      go : (t : Bool) → lt_z (twice (cy -ℤ a)) w ≡ t → lt_z (twice cy -ℤ w) (twice a) ≡ t
      go true e = lt-true (twice cy -ℤ w) (twice a) (omega (arith, lt_yes (twice (cy -ℤ a)) w e, num cy, num a, num w, sum cy cy, sum a a, diff cy a, sum (cy -ℤ a) (cy -ℤ a), diff (twice cy) w))
      go false e = lt-false (twice cy -ℤ w) (twice a) (omega (arith, lt_no (twice (cy -ℤ a)) w e, num cy, num a, num w, sum cy cy, sum a a, diff cy a, sum (cy -ℤ a) (cy -ℤ a), diff (twice cy) w))

  south-of : le_z (twice a) (twice cy -ℤ w) ≡ le_z w (twice (cy -ℤ a))
  south-of = go (lt_z (twice (cy -ℤ a)) w) refl
    where
      go : (t : Bool) → lt_z (twice (cy -ℤ a)) w ≡ t → le_z (twice a) (twice cy -ℤ w) ≡ le_z w (twice (cy -ℤ a))
      go t e = le_not_lt (twice a) (twice cy -ℤ w) t (north-of ∙ e) ∙ sym (le_not_lt w (twice (cy -ℤ a)) t e)

module _ (cx cy ax ay bx by : ℤ) (o w : ℤ) where
  abbrev ax' : ℤ
  ax' = twice (ax -ℤ cx)

  abbrev av : ℤ
  av = twice (cy -ℤ ay)

  abbrev bx' : ℤ
  bx' = twice (bx -ℤ cx)

  abbrev bv : ℤ
  bv = twice (cy -ℤ by)

  from-x : (a : ℤ) → twice a ≡ twice cx +ℤ twice (a -ℤ cx)
  from-x a = eq-parts (twice a) (twice cx +ℤ twice (a -ℤ cx)) (omega (arith, num a, num cx, sum a a, sum cx cx, diff a cx, sum (a -ℤ cx) (a -ℤ cx), sum (twice cx) (twice (a -ℤ cx))))

  from-south : (b : ℤ) → (twice cy -ℤ w) -ℤ twice b ≡ twice (cy -ℤ b) -ℤ w
  from-south b =
      eq-parts ((twice cy -ℤ w) -ℤ twice b) (twice (cy -ℤ b) -ℤ w)
      (omega (arith, num b, num cy, num w, sum b b, sum cy cy, diff (twice cy) w, diff (twice cy -ℤ w) (twice b), diff cy b, sum (cy -ℤ b) (cy -ℤ b), diff (twice (cy -ℤ b)) w))

  from-north : (a : ℤ) → twice a -ℤ (twice cy -ℤ w) ≡ w -ℤ twice (cy -ℤ a)
  from-north a =
      eq-parts (twice a -ℤ (twice cy -ℤ w)) (w -ℤ twice (cy -ℤ a))
      (omega (arith, num a, num cy, num w, sum a a, sum cy cy, diff (twice cy) w, diff (twice a) (twice cy -ℤ w), diff cy a, sum (cy -ℤ a) (cy -ℤ a), diff w (twice (cy -ℤ a))))

  from-both : (a b : ℤ) → twice a -ℤ twice b ≡ (twice (cy -ℤ b) -ℤ w) +ℤ (w -ℤ twice (cy -ℤ a))
  from-both a b =
      eq-parts (twice a -ℤ twice b) ((twice (cy -ℤ b) -ℤ w) +ℤ (w -ℤ twice (cy -ℤ a)))
      (omega (arith, num a, num b, num cy, num w, sum a a, sum b b, diff (twice a) (twice b), diff cy a, diff cy b, sum (cy -ℤ a) (cy -ℤ a), sum (cy -ℤ b) (cy -ℤ b), diff (twice (cy -ℤ b)) w, diff w (twice (cy -ℤ a)), sum (twice (cy -ℤ b) -ℤ w) (w -ℤ twice (cy -ℤ a))))

  together : (u v : ℤ) → v -ℤ u ≡ (v -ℤ w) +ℤ (w -ℤ u)
  together u v = eq-parts (v -ℤ u) ((v -ℤ w) +ℤ (w -ℤ u)) (omega (arith, num u, num v, num w, diff v u, diff v w, diff w u, sum (v -ℤ w) (w -ℤ u)))

  straddle-from : (a b : ℤ) → straddles (twice a) (twice b) (twice cy -ℤ w) ≡ (lt_z (twice (cy -ℤ a)) w && le_z w (twice (cy -ℤ b)))
  unfolding straddles
  straddle-from a b = ap₂ ◌&&◌ (north-of cy w a a) (south-of cy w b b)

east-corner : (cx cy ax ay bx by o w : ℤ)
    → crosses-east (twice ax) (twice ay) (twice bx) (twice by) (twice cx +ℤ o) (twice cy -ℤ w)
    ≡ east-from (twice (ax -ℤ cx)) (twice (cy -ℤ ay)) (twice (bx -ℤ cx)) (twice (cy -ℤ by)) w o
unfolding crosses-east east-from
east-corner cx cy ax ay bx by o w =
    rw (
      from-both cx cy ax ay bx by o w ay by,
      from-south cx cy ax ay bx by o w by,
      from-north cx cy ax ay bx by o w ay,
      together cx cy ax ay bx by o w (twice (cy -ℤ ay)) (twice (cy -ℤ by)),
    )
    (ap₂ (λ (p q : ℤ). lt_z ((twice cx +ℤ o) *ℤ ((twice (cy -ℤ by) -ℤ w) +ℤ (w -ℤ twice (cy -ℤ ay)))) (p *ℤ (twice (cy -ℤ by) -ℤ w) +ℤ q *ℤ (w -ℤ twice (cy -ℤ ay))))
    (from-x cx cy ax ay bx by o w ax) (from-x cx cy ax ay bx by o w bx)
    ∙ east-shift (twice cx) o (twice (ax -ℤ cx)) (twice (bx -ℤ cx)) (twice (cy -ℤ by) -ℤ w) (w -ℤ twice (cy -ℤ ay)))

-- an edge that does not go down to v does not cross on its way down
no_way : (u v w : ℤ) → lt_z u v ≡ false → (lt_z u w && le_z w v) ≡ false
no_way u v w e = go (lt_z u w) refl
  where
    go : (t : Bool) → lt_z u w ≡ t → (t && le_z w v) ≡ false
    go true f = le_not_lt w v true (lt-true v w (omega (arith, lt_no u v e, lt_yes u w f, num u, num v, num w)))
    go false f = refl

no-way-up : (u v w : ℤ) → lt_z u v ≡ true → (lt_z v w && le_z w u) ≡ false
no-way-up u v w e = no_way v u w (lt-false v u (omega (arith, lt_yes u v e, num u, num v)))

cond-and : (a b : Bool) → cond a b false ≡ (a && b)
cond-and true b = refl
cond-and false b = refl

module _ (cx cy ax ay bx by : ℤ) (cell r c : ℕ) where
  pub counts-corner : counts (twice ax) (twice ay) (twice bx) (twice by) (centre-x cx cell c) (centre-y cy cell r)
      ≡ cond (lt_z (twice (cy -ℤ ay)) (pos (centre_at cell r)) && le_z (pos (centre_at cell r)) (twice (cy -ℤ by)))
      (east-from (twice (ax -ℤ cx)) (twice (cy -ℤ ay)) (twice (bx -ℤ cx)) (twice (cy -ℤ by)) (pos (centre_at cell r)) (pos (centre_at cell c)))
      (cond (lt_z (twice (cy -ℤ by)) (pos (centre_at cell r)) && le_z (pos (centre_at cell r)) (twice (cy -ℤ ay)))
      (east-from (twice (bx -ℤ cx)) (twice (cy -ℤ by)) (twice (ax -ℤ cx)) (twice (cy -ℤ ay)) (pos (centre_at cell r)) (pos (centre_at cell c)))
      false)
  unfolding counts
  counts-corner =
      rw (
        straddle-from cx cy ax ay bx by (pos (centre_at cell c)) (pos (centre_at cell r)) ay by,
        straddle-from cx cy ax ay bx by (pos (centre_at cell c)) (pos (centre_at cell r)) by ay,
        east-corner cx cy ax ay bx by (pos (centre_at cell c)) (pos (centre_at cell r)),
        east-corner cx cy bx by ax ay (pos (centre_at cell c)) (pos (centre_at cell r)),
      )

  pub counts-down : lt_z (twice (cy -ℤ ay)) (twice (cy -ℤ by)) ≡ true
      → west-of-edge (twice (ax -ℤ cx)) (twice (cy -ℤ ay)) (twice (bx -ℤ cx)) (twice (cy -ℤ by)) cell r c
      ≡ counts (twice ax) (twice ay) (twice bx) (twice by) (centre-x cx cell c) (centre-y cy cell r)
  unfolding west-of-edge
  counts-down e = sym (counts-corner ∙ rw (no-way-up (twice (cy -ℤ ay)) (twice (cy -ℤ by)) (pos (centre_at cell r)) e)
      (cond-and (lt_z (twice (cy -ℤ ay)) (pos (centre_at cell r)) && le_z (pos (centre_at cell r)) (twice (cy -ℤ by))) (east-from (twice (ax -ℤ cx)) (twice (cy -ℤ ay)) (twice (bx -ℤ cx)) (twice (cy -ℤ by)) (pos (centre_at cell r)) (pos (centre_at cell c)))))

  pub counts_up : lt_z (twice (cy -ℤ ay)) (twice (cy -ℤ by)) ≡ false
      → west-of-edge (twice (bx -ℤ cx)) (twice (cy -ℤ by)) (twice (ax -ℤ cx)) (twice (cy -ℤ ay)) cell r c
      ≡ counts (twice ax) (twice ay) (twice bx) (twice by) (centre-x cx cell c) (centre-y cy cell r)
  unfolding west-of-edge
  counts_up e = sym (counts-corner ∙ rw (no_way (twice (cy -ℤ ay)) (twice (cy -ℤ by)) (pos (centre_at cell r)) e)
      (cond-and (lt_z (twice (cy -ℤ by)) (pos (centre_at cell r)) && le_z (pos (centre_at cell r)) (twice (cy -ℤ ay))) (east-from (twice (bx -ℤ cx)) (twice (cy -ℤ by)) (twice (ax -ℤ cx)) (twice (cy -ℤ ay)) (pos (centre_at cell r)) (pos (centre_at cell c)))))
