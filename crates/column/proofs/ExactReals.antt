-- The spots of an exact real take what `real_of` takes. Assumes nothing.
use Prim.Native.Nat.{ℕ, zero, suc, ◌+◌, ◌-◌, ◌*◌, ◌≤◌}
use mathlib.Core.Path.{◌≡◌, refl, sym, ap, ◌∙◌}
use mathlib.Core.List.{List, [], ◌∷◌}
use mathlib.Core.Bool.{Bool, true, false, cond, not, ◌&&◌, ◌||◌}
use native.Mathlib.Omega.{arith}
use native.Mathlib.Nat.{zero-add}
use native.Mathlib.Numerals.{add-one, add-four}
use lib.Seq.{take_all}
use lib.ListN.{length, get_or, take, drop, length-drop}
use lib.Dec.{eqb, leb, eqb-suc-suc, eqb-zero-suc}
use borrow.Author.Tests.{eq-eqb, ne_eqb, le-leb, leb-true, eqb-true, eqb-false}
use Rattle.laws.specs.Lists.{run, all}
use Rattle.laws.proofs.Choice.{and_left, and-false, false≢true}
use Rattle.laws.proofs.ListLaws.{left-none}
use Rattle.record.specs.declared.Mode.{Mode}
use Rattle.record.specs.declared.Mode.TheVariants.{Loose, Exact, Former}
use Rattle.number.specs.Words.{blank, unled}
use Rattle.number.specs.Number.{digit, value, ended, lean, sign_of, signs, signed, thousandths, is_token, is_neat, real_is, real_at, real_signed, real_of}
use Rattle.number.proofs.RealWays.{signs-within}
use Rattle.number.proofs.IntegerWays.{digit-from}
use Rattle.column.specs.Column.{IsColumn}
use Rattle.column.specs.Spots.{spot_after, is_free, spot_in, may_end, is_stuck, takes, stretch, real_start}
use Rattle.column.specs.declared.Spot.TheVariants.{RealPad, Negative, ToPoint, NegativeZero, NotAllZero, LastDigits}
use Rattle.column.proofs.ColumnLaws.{stuck-never, column-alike, stretch-column}
use Rattle.column.specs.Columns.{accepts_real, real_column}
use Rattle.column.proofs.Alike.{alike, never, both, four, five, off, and-true, or-true, or-false, blank-no-digit, run-digit, run-other}
use Rattle.column.proofs.Integers.{digits-take, unled-le, dead}
use Rattle.column.proofs.LooseReals.{real-loose, cond-said}

abbrev s4 : ℕ → ℕ
s4 n = suc (suc (suc (suc n)))

-- ---- k digits, the point, three digits

-- with n digits at the front
whole : ℕ → ℕ → List ℕ → Bool
whole k n u = eqb (length u) (s4 k) && eqb n k && eqb (get_or u k 0) 46 && eqb (run digit (drop (suc k) u)) 3

to-point-takes : (k : ℕ) (u : List ℕ) → takes Exact (ToPoint k) u ≡ whole k (run digit u) u
unfolding takes spot_in is_free spot_after may_end run whole
to-point-takes k [] = rw (eqb-zero-suc (suc (suc (suc k))))
to-point-takes k (b ∷ u) = go k (digit b) refl (eqb b 46) refl (λ j. to-point-takes j u)
  where
    three : (a : ℕ) (n : ℕ) → (eqb a 3 && eqb a n) ≡ (eqb a 3 && true && true && eqb n 3)
    three a n =
        alike (eqb a 3 && eqb a n) (eqb a 3 && true && true && eqb n 3)
        (λ e. let p = both (eqb a 3) (eqb a n) e in rw (p.0, eq-eqb n 3 (omega (arith, eqb-true a 3 p.0, eqb-true a n p.1))))
        (λ e. let p = both (eqb a 3 && true && true) (eqb n 3) e in
        let q = and_left (eqb a 3) true (and_left (eqb a 3 && true) true p.0) in
        rw (q, eq-eqb a n (omega (arith, eqb-true a 3 q, eqb-true n 3 p.1))))

    point-no-digit : (b : ℕ) → eqb b 46 ≡ true → digit b ≡ false
    point-no-digit b e = ap digit (eqb-true b 46 e)

    go : (k : ℕ) (d : Bool) → digit b ≡ d → (w : Bool) → eqb b 46 ≡ w → ((j : ℕ) → takes Exact (ToPoint j) u ≡ whole j (run digit u) u)
        → takes Exact (spot_after (ToPoint k) b) u ≡ whole k (cond d (suc (run digit u)) 0) (b ∷ u)
    go zero true e true f ih = absurd (false≢true (sym (point-no-digit b f) ∙ e))
    go zero false e true f ih = rw (f, eqb-suc-suc (length u) 3) (digits-take 3 u ∙ three (length u) (run digit u))
    go zero d e false f ih = rw f (stuck-never Exact u ∙ sym (off (eqb (suc (length u)) 4) (eqb (cond d (suc (run digit u)) 0) 0) (eqb (run digit u) 3)))
    go (suc k) true e w f ih = rw (e, eqb-suc-suc (length u) (s4 k), eqb-suc-suc (run digit u) k) (ih k)
    go (suc k) false e w f ih =
        rw (e, eqb-zero-suc k)
        (stuck-never Exact u ∙ sym (dead (eqb (suc (length u)) (suc (s4 k))) (eqb (get_or u k 0) 46) (eqb (run digit (drop (suc k) u)) 3)))

-- n digits, of which there is one at least, the point, three digits, and the end
core : ℕ → List ℕ → Bool
core n u = leb 1 n && eqb (length u) (s4 n) && eqb (get_or u n 0) 46 && eqb (run digit (drop (suc n) u)) 3

-- behind the first digit, where the length settles how many there are
core-digit : (k n b : ℕ) (c : List ℕ) → (eqb (suc (length c)) (suc (s4 k)) && core (suc n) (b ∷ c)) ≡ whole k n c
unfolding core whole
core-digit k n b c = go (eqb n k) refl
  where
    twice : (a p t : Bool) → (a && (a && p && t)) ≡ (a && true && p && t)
    twice true p t = refl
    twice false p t = refl

    go : (x : Bool) → eqb n k ≡ x
        → (eqb (suc (length c)) (suc (s4 k)) && (leb 1 (suc n) && eqb (suc (length c)) (suc (s4 n)) && eqb (get_or c n 0) 46 && eqb (run digit (drop (suc n) c)) 3))
        ≡ (eqb (length c) (s4 k) && x && eqb (get_or c k 0) 46 && eqb (run digit (drop (suc k) c)) 3)
    go true e =
        rw (eqb-true n k e, eqb-suc-suc (length c) (s4 k), le-leb 1 (suc k) (omega arith))
        (twice (eqb (length c) (s4 k)) (eqb (get_or c k 0) 46) (eqb (run digit (drop (suc k) c)) 3))
    go false e =
        rw (dead (eqb (length c) (s4 k)) (eqb (get_or c k 0) 46) (eqb (run digit (drop (suc k) c)) 3))
        (never (eqb (suc (length c)) (suc (s4 k)) && (leb 1 (suc n) && eqb (suc (length c)) (suc (s4 n)) && eqb (get_or c n 0) 46 && eqb (run digit (drop (suc n) c)) 3))
        (λ h.
        let p = both (eqb (suc (length c)) (suc (s4 k))) (leb 1 (suc n) && eqb (suc (length c)) (suc (s4 n)) && eqb (get_or c n 0) 46 && eqb (run digit (drop (suc n) c)) 3) h in
        let q = four (leb 1 (suc n)) (eqb (suc (length c)) (suc (s4 n))) (eqb (get_or c n 0) 46) (eqb (run digit (drop (suc n) c)) 3) p.1 in
        eqb-false n k e (omega (arith, eqb-true (suc (length c)) (suc (s4 k)) p.0, eqb-true (suc (length c)) (suc (s4 n)) q.1))))

-- ---- a minus before: a digit and k behind it, not all of them zero

value-some : (a : ℕ) (t : List ℕ) → 1 ≤ a → 1 ≤ value a t
unfolding value
value-some a [] h = h
value-some a (b ∷ t) h = value-some (a * 10 + (b - 48)) t (omega arith)

-- a digit that is no zero makes it some
digit-some : (b : ℕ) (t : List ℕ) → digit b ≡ true → eqb b 48 ≡ false → 1 ≤ value 0 (b ∷ t)
unfolding value
digit-some b t e f =
    let n : b ≡ 48 → ⊥ = eqb-false b 48 f in
    value-some (0 * 10 + (b - 48)) t (omega (arith, digit-from b e))

zeros : ℕ → List ℕ → Bool
zeros k t = eqb (length t) (suc k) && eqb (run digit t) (suc k) && not (eqb (value 0 t) 0)

zeros-zero : (k : ℕ) (t : List ℕ) → zeros (suc k) (48 ∷ t) ≡ zeros k t
unfolding zeros run value
zeros-zero k t = rw (eqb-suc-suc (length t) (suc k), eqb-suc-suc (run digit t) (suc k))

zeros-none : (t : List ℕ) → zeros 0 (48 ∷ t) ≡ false
unfolding zeros run value
zeros-none [] = refl
zeros-none (x ∷ t) = rw (ne_eqb (suc (suc (length t))) 1 (omega arith))

zeros-digit : (k b : ℕ) (t : List ℕ) → digit b ≡ true → eqb b 48 ≡ false → takes Exact (LastDigits k) t ≡ zeros k (b ∷ t)
unfolding zeros
zeros-digit k b t e f =
    rw (run-digit b t e, eqb-suc-suc (length t) k, eqb-suc-suc (run digit t) k, ne_eqb (value 0 (b ∷ t)) 0 (λ q. absurd (omega (arith, digit-some b t e f))))
    (digits-take k t ∙ each (length t) k (run digit t))
  where
    each : (a k n : ℕ) → (eqb a k && eqb a n) ≡ (eqb a k && eqb n k && true)
    each a k n =
        alike (eqb a k && eqb a n) (eqb a k && eqb n k && true)
        (λ e. let p = both (eqb a k) (eqb a n) e in rw (p.0, eq-eqb n k (omega (arith, eqb-true a k p.0, eqb-true a n p.1))))
        (λ e. let p = both (eqb a k) (eqb n k) (and_left (eqb a k && eqb n k) true e) in
        rw (p.0, eq-eqb a n (omega (arith, eqb-true a k p.0, eqb-true n k p.1))))

zeros-other : (k b : ℕ) (t : List ℕ) → digit b ≡ false → zeros k (b ∷ t) ≡ false
unfolding zeros
zeros-other k b t e = rw (run-other b t e, eqb-zero-suc k, and-false (eqb (suc (length t)) (suc k)))

not-all-zero-takes : (k : ℕ) (t : List ℕ) → takes Exact (NotAllZero k) t ≡ zeros k t
unfolding takes spot_in is_free spot_after may_end
not-all-zero-takes k [] = unfold zeros in rw (eqb-zero-suc k)
not-all-zero-takes k (b ∷ t) = go k (eqb b 48) refl (digit b) refl (λ j. not-all-zero-takes j t)
  where
    go : (k : ℕ) (z : Bool) → eqb b 48 ≡ z → (d : Bool) → digit b ≡ d → ((j : ℕ) → takes Exact (NotAllZero j) t ≡ zeros j t) → takes Exact (spot_after (NotAllZero k) b) t ≡ zeros k (b ∷ t)
    go zero true f d e ih = rw (eqb-true b 48 f) (stuck-never Exact t ∙ sym (zeros-none t))
    go (suc k) true f d e ih = rw (eqb-true b 48 f) (ih k ∙ sym (zeros-zero k t))
    go zero false f true e ih = rw (f, e) (zeros-digit 0 b t e f)
    go (suc k) false f true e ih = rw (f, e) (zeros-digit (suc k) b t e f)
    go zero false f false e ih = rw (f, e) (stuck-never Exact t ∙ sym (zeros-other 0 b t e))
    go (suc k) false f false e ih = rw (f, e) (stuck-never Exact t ∙ sym (zeros-other (suc k) b t e))

-- what a minus asks of what follows it
minus : ℕ → ℕ → List ℕ → Bool
minus k n u = eqb (length u) (suc (s4 k)) && core n u && not (eqb (thousandths u n) 0) && lean u n

minus-digit : (k b : ℕ) (c : List ℕ) → digit b ≡ true
    → minus k (run digit (b ∷ c)) (b ∷ c)
    ≡ (whole k (run digit c) c && not (eqb (thousandths (b ∷ c) (suc (run digit c))) 0) && (eqb (suc (run digit c)) 1 || not (eqb b 48)))
unfolding minus lean
minus-digit k b c e = rw (run-digit b c e, core-digit k (run digit c) b c)

minus-other : (k b : ℕ) (c : List ℕ) → digit b ≡ false → minus k (run digit (b ∷ c)) (b ∷ c) ≡ false
unfolding minus core
minus-other k b c e = rw (run-other b c e) (dead (eqb (suc (length c)) (suc (s4 k))) (not (eqb (thousandths (b ∷ c) 0) 0)) (lean (b ∷ c) 0))

some-thousandths : (b : ℕ) (c : List ℕ) (n : ℕ) → digit b ≡ true → eqb b 48 ≡ false → eqb (thousandths (b ∷ c) (suc n)) 0 ≡ false
unfolding thousandths
some-thousandths b c n e f =
    ne_eqb (value 0 (b ∷ take n c) * 1000 + value 0 (take 3 (drop (suc n + 1) (b ∷ c)))) 0
    (λ q. absurd (omega (arith, digit-some b (take n c) e f)))

-- no zero in front
minus-some : (k b : ℕ) (c : List ℕ) → digit b ≡ true → eqb b 48 ≡ false → takes Exact (ToPoint k) c ≡ minus k (run digit (b ∷ c)) (b ∷ c)
minus-some k b c e f =
    rw (minus-digit k b c e, some-thousandths b c (run digit c) e f, f, or-true (eqb (suc (run digit c)) 1), and-true (whole k (run digit c) c), and-true (whole k (run digit c) c))
    (to-point-takes k c)

-- a zero in front of others
whole-count : (k n : ℕ) (c : List ℕ) → whole k n c ≡ true → n ≡ k
unfolding whole
whole-count k n c e =
    let q = four (eqb (length c) (s4 k)) (eqb n k) (eqb (get_or c k 0) 46) (eqb (run digit (drop (suc k) c)) 3) e in
    eqb-true n k q.1

led-not : (k n : ℕ) (c : List ℕ) → (whole (suc k) n c && eqb (suc n) 1) ≡ false
led-not k n c =
    never (whole (suc k) n c && eqb (suc n) 1)
    (λ h. let p = both (whole (suc k) n c) (eqb (suc n) 1) h in omega (arith, whole-count (suc k) n c p.0, eqb-true (suc n) 1 p.1))

minus-led : (k : ℕ) (c : List ℕ) → minus (suc k) (run digit (48 ∷ c)) (48 ∷ c) ≡ false
minus-led k c =
    let n = run digit c in
    let x = not (eqb (thousandths (48 ∷ c) (suc n)) 0) in
    rw (minus-digit (suc k) 48 c refl, or-false (eqb (suc n) 1))
    (never (whole (suc k) n c && x && eqb (suc n) 1)
    (λ h. let p = both (whole (suc k) n c && x) (eqb (suc n) 1) h in
    omega (arith, whole-count (suc k) n c (and_left (whole (suc k) n c) x p.0), eqb-true (suc n) 1 p.1)))

-- minus zero is refused at its last zero
minus-point : (d : List ℕ) → zeros 2 d ≡ minus 0 (run digit (48 ∷ 46 ∷ d)) (48 ∷ 46 ∷ d)
unfolding zeros whole run thousandths value
minus-point d = rw (minus-digit 0 48 (46 ∷ d) refl, eqb-suc-suc (length d) 3, zero-add) (go (eqb (length d) 3) refl)
  where
    go : (a : Bool) → eqb (length d) 3 ≡ a
        → (a && eqb (run digit d) 3 && not (eqb (value 0 d) 0)) ≡ (a && true && true && eqb (run digit d) 3 && not (eqb (value 0 (take 3 d)) 0) && true)
    go true e = rw (take_all 3 d (omega (arith, eqb-true (length d) 3 e))) (sym (and-true (eqb (run digit d) 3 && not (eqb (value 0 d) 0))))
    go false e = refl

whole-pointless : (x n : ℕ) (d : List ℕ) → eqb x 46 ≡ false → whole 0 n (x ∷ d) ≡ false
unfolding whole
whole-pointless x n d f = rw f (off (eqb (suc (length d)) 4) (eqb n 0) (eqb (run digit d) 3))

minus-zero : (c : List ℕ) → takes Exact NegativeZero c ≡ minus 0 (run digit (48 ∷ c)) (48 ∷ c)
unfolding takes spot_in is_free spot_after may_end
minus-zero [] = unfold minus in refl
minus-zero (x ∷ d) = go (eqb x 46) refl
  where
    go : (w : Bool) → eqb x 46 ≡ w → takes Exact (spot_after NegativeZero x) d ≡ minus 0 (run digit (48 ∷ x ∷ d)) (48 ∷ x ∷ d)
    go true f = rw (eqb-true x 46 f) (not-all-zero-takes 2 d ∙ minus-point d)
    go false f = rw (f, minus-digit 0 48 (x ∷ d) refl, whole-pointless x (run digit (x ∷ d)) d f) (stuck-never Exact d)

negative-takes : (k : ℕ) (u : List ℕ) → takes Exact (Negative k) u ≡ minus k (run digit u) u
unfolding takes spot_in is_free spot_after may_end
negative-takes k [] = unfold minus in rw (eqb-zero-suc (s4 k))
negative-takes k (b ∷ c) = go k (eqb b 48) refl (digit b) refl
  where
    go : (k : ℕ) (z : Bool) → eqb b 48 ≡ z → (d : Bool) → digit b ≡ d → takes Exact (spot_after (Negative k) b) c ≡ minus k (run digit (b ∷ c)) (b ∷ c)
    go zero true f d e = rw (eqb-true b 48 f) (minus-zero c)
    go (suc k) true f d e = rw (eqb-true b 48 f) (stuck-never Exact c ∙ sym (minus-led k c))
    go zero false f true e = rw (f, e) (minus-some 0 b c e f)
    go (suc k) false f true e = rw (f, e) (minus-some (suc k) b c e f)
    go zero false f false e = rw (f, e) (stuck-never Exact c ∙ sym (minus-other 0 b c e))
    go (suc k) false f false e = rw (f, e) (stuck-never Exact c ∙ sym (minus-other (suc k) b c e))

-- ---- right aligned in k + 5 characters

full : ℕ → ℕ → ℕ → List ℕ → ℕ → Bool
full k size sign u n =
    eqb size (suc (s4 k)) && core n u && not (eqb sign 43) && not (eqb sign 45 && eqb (thousandths u n) 0) && lean u n

full_of : ℕ → ℕ → List ℕ → Bool
full_of k size t = full k size (sign_of t) (drop (signs (sign_of t)) t) (run digit (drop (signs (sign_of t)) t))

full-on : (k size : ℕ) (t : List ℕ) → full_of (suc k) (suc size) t ≡ full_of k size t
unfolding full_of full
full-on k size t = rw (eqb-suc-suc size (suc (s4 k)))

-- no room for a digit before the point
full-short : (m sign n : ℕ) (u : List ℕ) → length u ≤ m → full 0 (suc m) sign u n ≡ false
unfolding full core
full-short m sign n u l =
    let c = leb 1 n && eqb (length u) (s4 n) && eqb (get_or u n 0) 46 && eqb (run digit (drop (suc n) u)) 3 in
    never (eqb (suc m) 5 && c && not (eqb sign 43) && not (eqb sign 45 && eqb (thousandths u n) 0) && lean u n)
    (λ h.
    let p = five (eqb (suc m) 5) c (not (eqb sign 43)) (not (eqb sign 45 && eqb (thousandths u n) 0)) (lean u n) h in
    let q = four (leb 1 n) (eqb (length u) (s4 n)) (eqb (get_or u n 0) 46) (eqb (run digit (drop (suc n) u)) 3) p.1 in
    omega (arith, eqb-true (suc m) 5 p.0, leb-true 1 n q.0, eqb-true (length u) (s4 n) q.1))

full-minus : (k : ℕ) (c : List ℕ) → full_of (suc k) (suc (length c)) (45 ∷ c) ≡ minus k (run digit c) c
unfolding full_of full sign_of signs minus
full-minus k c = rw (eqb-suc-suc (length c) (suc (s4 k)), and-true (eqb (length c) (suc (s4 k)) && core (run digit c) c))

full-plus : (k : ℕ) (c : List ℕ) → full_of k (suc (length c)) (43 ∷ c) ≡ false
unfolding full_of full sign_of signs
full-plus k c = rw (and-false (eqb (suc (length c)) (suc (s4 k)) && core (run digit c) c))

module _ (k b : ℕ) (c : List ℕ) (p : eqb b 43 ≡ false) (m : eqb b 45 ≡ false) where
  full-none : full_of k (suc (length c)) (b ∷ c) ≡ full k (suc (length c)) 0 (b ∷ c) (run digit (b ∷ c))
  unfolding full_of sign_of signs
  full-none = rw (p, m)

  full-digit : digit b ≡ true → full_of k (suc (length c)) (b ∷ c) ≡ (whole k (run digit c) c && (eqb (suc (run digit c)) 1 || not (eqb b 48)))
  unfolding full lean
  full-digit e =
      rw (full-none, run-digit b c e, core-digit k (run digit c) b c, and-true (whole k (run digit c) c), and-true (whole k (run digit c) c))

  full-other : digit b ≡ false → full_of k (suc (length c)) (b ∷ c) ≡ false
  unfolding full core
  full-other e = rw (full-none, run-other b c e, and-false (eqb (suc (length c)) (suc (s4 k))))

lone : (n : ℕ) (c : List ℕ) (z : Bool) → whole 0 n c ≡ (whole 0 n c && (eqb (suc n) 1 || z))
lone n c z = go (whole 0 n c) refl
  where
    go : (x : Bool) → whole 0 n c ≡ x → x ≡ (x && (eqb (suc n) 1 || z))
    go true e = rw (eq-eqb (suc n) 1 (omega (arith, whole-count 0 n c e)))
    go false e = refl

rest_le : (c : List ℕ) → length (drop (signs (sign_of (unled c))) (unled c)) ≤ length c
rest_le c = rw (length-drop (signs (sign_of (unled c))) (unled c)) (omega (arith, unled-le c))

real-pad-takes : (k : ℕ) (c : List ℕ) → takes Exact (RealPad k) c ≡ full_of k (length c) (unled c)
unfolding takes spot_in is_free spot_after may_end run unled
real-pad-takes k [] = unfold full_of full in rw (eqb-zero-suc (s4 k))
real-pad-takes k (b ∷ c) = go k (blank b) refl (eqb b 45) refl (eqb b 43) refl (digit b) refl (eqb b 48) refl (λ j. real-pad-takes j c)
  where
    go : (k : ℕ) (w : Bool) → blank b ≡ w → (m : Bool) → eqb b 45 ≡ m → (p : Bool) → eqb b 43 ≡ p → (d : Bool) → digit b ≡ d → (z : Bool) → eqb b 48 ≡ z
        → ((j : ℕ) → takes Exact (RealPad j) c ≡ full_of j (length c) (unled c))
        → takes Exact (spot_after (RealPad k) b) c ≡ full_of k (suc (length c)) (drop (cond w (suc (run blank c)) 0) (b ∷ c))
    go zero true f m fm p fp d e z g ih =
        rw (blank-no-digit b f)
        (stuck-never Exact c ∙
        sym (unfold full_of in full-short (length c) (sign_of (unled c)) (run digit (drop (signs (sign_of (unled c))) (unled c))) (drop (signs (sign_of (unled c))) (unled c)) (rest_le c)))
    go (suc k) true f m fm p fp d e z g ih = rw f (ih k ∙ sym (full-on k (length c) (unled c)))
    go zero false f true fm p fp d e z g ih =
        rw (eqb-true b 45 fm) (stuck-never Exact c ∙ sym (unfold full_of sign_of signs in full-short (length c) 45 (run digit c) c (omega arith)))
    go (suc k) false f true fm p fp d e z g ih = rw (eqb-true b 45 fm) (negative-takes k c ∙ sym (full-minus k c))
    go zero false f false fm true fp d e z g ih = rw (eqb-true b 43 fp) (stuck-never Exact c ∙ sym (full-plus 0 c))
    go (suc k) false f false fm true fp d e z g ih = rw (eqb-true b 43 fp) (stuck-never Exact c ∙ sym (full-plus (suc k) c))
    go zero false f false fm false fp true e z g ih =
        rw (e, full-digit 0 b c fp fm e) (to-point-takes 0 c ∙ lone (run digit c) c (not (eqb b 48)))
    go (suc k) false f false fm false fp true e true g ih =
        rw (full-digit (suc k) b c fp fm e, f, fm, g, or-false (eqb (suc (run digit c)) 1)) (stuck-never Exact c ∙ sym (led-not k (run digit c) c))
    go (suc k) false f false fm false fp true e false g ih =
        rw (full-digit (suc k) b c fp fm e, f, fm, g, e, or-true (eqb (suc (run digit c)) 1), and-true (whole (suc k) (run digit c) c)) (to-point-takes (suc k) c)
    go zero false f false fm false fp false e z g ih = rw (e, full-other 0 b c fp fm e) (stuck-never Exact c)
    go (suc k) false f false fm false fp false e true g ih = rw (full-other (suc k) b c fp fm e, f, fm, g) (stuck-never Exact c)
    go (suc k) false f false fm false fp false e false g ih = rw (full-other (suc k) b c fp fm e, f, fm, g, e) (stuck-never Exact c)

-- the tests of the token that the length makes needless
thirteen : (a b p t e r s l g m z : Bool) → (s && (a && l && p && t) && g && m && z) ≡ true → b ≡ true → e ≡ true → r ≡ true
    → (a && b && p && t && e && r && (s && l && g && m && z)) ≡ true
thirteen a b p t e r s l g m z h hb he hr =
    let x = five s (a && l && p && t) g m z h in
    let y = four a l p t x.1 in
    rw (y.0, hb, y.2, y.3, he, hr, x.0, y.1, x.2, x.3, x.4)

fewer : (a b p t e r s l g m z : Bool) → (a && b && p && t && e && r && (s && l && g && m && z)) ≡ true → (s && (a && l && p && t) && g && m && z) ≡ true
fewer a b p t e r s l g m z h =
    let x = both (a && b && p && t && e && r) (s && l && g && m && z) h in
    let y = four a b p t (and_left (a && b && p && t) e (and_left (a && b && p && t && e) r x.0)) in
    let w = five s l g m z x.1 in
    rw (w.0, y.0, w.1, y.2, y.3, w.2, w.3, w.4)

module _ (size sign n : ℕ) (u : List ℕ) (h : signs sign + length u ≤ size) where
  full-length : full 7 size sign u n ≡ true → (size ≡ 12) × (length u ≡ s4 n)
  unfolding full core
  full-length e =
      let x = five (eqb size 12) (leb 1 n && eqb (length u) (s4 n) && eqb (get_or u n 0) 46 && eqb (run digit (drop (suc n) u)) 3) (not (eqb sign 43)) (not (eqb sign 45 && eqb (thousandths u n) 0)) (lean u n) e in
      let y = four (leb 1 n) (eqb (length u) (s4 n)) (eqb (get_or u n 0) 46) (eqb (run digit (drop (suc n) u)) 3) x.1 in
      (eqb-true size 12 x.0, eqb-true (length u) (s4 n) y.1)

  ended-all : length u ≡ s4 n → ended Exact (drop (s4 n) u) ≡ true
  unfolding ended all
  ended-all e = rw (left-none u (s4 n) (omega arith))

  exact-row : (is_token sign u n && ended Exact (drop (n + 4) u) && is_neat size sign u n) ≡ full 7 size sign u n
  unfolding is_token is_neat full core
  exact-row =
      alike (is_token sign u n && ended Exact (drop (n + 4) u) && is_neat size sign u n) (full 7 size sign u n)
      (λ e. fewer (leb 1 n) (leb n 8) (eqb (get_or u n 0) 46) (eqb (run digit (drop (suc n) u)) 3) (leb (signs sign + n + 4) 12) (ended Exact (drop (s4 n) u))
      (eqb size 12) (eqb (length u) (s4 n)) (not (eqb sign 43)) (not (eqb sign 45 && eqb (thousandths u n) 0)) (lean u n)
      (rw (add-one n, add-four n) at e))
      (λ e.
      let f = full-length e in
      rw (add-one n, add-four n)
      (thirteen (leb 1 n) (leb n 8) (eqb (get_or u n 0) 46) (eqb (run digit (drop (suc n) u)) 3) (leb (signs sign + n + 4) 12) (ended Exact (drop (s4 n) u))
      (eqb size 12) (eqb (length u) (s4 n)) (not (eqb sign 43)) (not (eqb sign 45 && eqb (thousandths u n) 0)) (lean u n)
      e (le-leb n 8 (omega (arith, f.0, f.1))) (le-leb (signs sign + n + 4) 12 (omega (arith, f.0, f.1))) (ended-all f.1)))

-- the sign and what follows it are within the content
signs-in : (t : List ℕ) → signs (sign_of t) + length (drop (signs (sign_of t)) t) ≤ length t
signs-in t = rw (length-drop (signs (sign_of t)) t) (omega (arith, signs-within t (sign_of t) (signs (sign_of t)) refl refl))

real-exact : (c : List ℕ) → accepts_real Exact c ≡ takes Exact (RealPad 7) c
unfolding accepts_real real_of real_signed real_at real_is full_of
real-exact c =
    let sign = sign_of (unled c) in
    let u = drop (signs sign) (unled c) in
    let n = run digit u in
    cond-said (is_token sign u n && ended Exact (drop (n + 4) u) && is_neat (length c) sign u n) (signed sign (thousandths u n)) ∙
    exact-row (length c) sign n u (omega (arith, signs-in (unled c), unled-le c)) ∙ sym (real-pad-takes 7 c)

-- ---- the column of a real that is malformed is that of T-04

real-takes : (mode : Mode) (c : List ℕ) → accepts_real mode c ≡ takes mode (real_start mode) c
unfolding real_start
real-takes Loose c = real-loose Loose c refl
real-takes Exact c = real-exact c
real-takes Former c = real-loose Former c refl

real-starts : (mode : Mode) → is_stuck (real_start mode) ≡ false
unfolding real_start is_stuck
real-starts Loose = refl
real-starts Exact = refl
real-starts Former = refl

pub real-column : (mode : Mode) (c : List ℕ) → IsColumn (accepts_real mode) c (real_column mode c)
unfolding real_column
real-column mode c =
    column-alike (accepts_real mode) (takes mode (real_start mode)) c (suc (stretch mode (real_start mode) c)) (real-takes mode)
    (stretch-column mode (real_start mode) c (real-starts mode))
