-- The bytes that stand for a figure while the lines are put in order: they have the order of the figures, and give the figure back. Assumes nothing.
use Prim.Native.Nat.{ℕ, suc, ◌+◌, ◌*◌, ◌/◌, ◌%◌, ◌≤◌, ◌<◌}
use mathlib.Core.Path.{◌≡◌, refl, sym, ◌∙◌}
use mathlib.Core.List.{List, [], ◌∷◌, ◌++◌}
use mathlib.Core.Bool.{Bool, true, false}
use native.Mathlib.Omega.{arith}
use native.Mathlib.Nat.{mod-lt, div-add-mod'}
use lib.ListN.{length}
use lib.Dec.{ltb}
use lib.IntN.{ℤ, pos, negsuc, ◌+ℤ◌, ◌-ℤ◌, ◌*ℤ◌}
use lib.Signed.{lt_z}
use borrow.Author.Tests.{eq-eqb, ne_eqb, lt-ltb, le-ltb, ltb-true, ltb-false, leb-true}
use Rattle.laws.proofs.Parts.{P, N, one-part, abs-parts, add_parts, sub-parts-ℤ, neg-P, neg-N, eq-parts, lt-true, lt-false, lt_no, le_yes, lt_yes}
use Rattle.spelling.specs.Figures.{is_narrow}
use Rattle.spelling.proofs.FigureLaws.{narrow-plus, narrow-minus}
use Rattle.std.specs.declared.cmp.Ordering.{Ordering}
use Rattle.std.specs.declared.cmp.Ordering.TheVariants.{Less, Equal, Greater}
use Rattle.order.specs.Compare.{or_else, by_number, by_whole, by_bytes}
use Rattle.sup.specs.Metres.{metres_of}
use Rattle.sup.specs.Raw.{raw_lift, raw_number, raw_bytes, raw_field, number_from}
use Rattle.sup.proofs.SupLaws.{metres-low, metres-high}

-- ---- questions one behind the other

pub or_assoc : (x y z : Ordering) → or_else x (or_else y z) ≡ or_else (or_else x y) z
or_assoc Less y z = refl
or_assoc Equal y z = refl
or_assoc Greater y z = refl

pub or-none : (x : Ordering) → or_else x Equal ≡ x
or-none Less = refl
or-none Equal = refl
or-none Greater = refl

three : {Q : Type 0} (a b : ℕ) → (a < b → Q) → (a ≡ b → Q) → (b < a → Q) → Q
three {Q} a b f g h = go (ltb a b) (ltb b a) refl refl
  where
    go : (x y : Bool) → ltb a b ≡ x → ltb b a ≡ y → Q
    go true y e d = f (ltb-true a b e)
    go false true e d = h (ltb-true b a d)
    go false false e d = g (let k = ltb-false a b e in let l = ltb-false b a d in omega arith)

pub number-before : (a b : ℕ) → a < b → by_number a b ≡ Less
number-before a b h = rw (lt-ltb a b h)

number-after : (a b : ℕ) → b < a → by_number a b ≡ Greater
number-after a b h = let g : b ≤ a = omega arith in rw (le-ltb a b g, ne_eqb a b (λ e. omega arith))

pub number_same : (a : ℕ) → by_number a a ≡ Equal
number_same a = let g : a ≤ a = omega arith in rw (le-ltb a a g, eq-eqb a a refl)

-- ---- numbers by their bytes

byte-parts : (m n : ℕ) → or_else (by_number (m / 256) (n / 256)) (by_number (m % 256) (n % 256)) ≡ by_number m n
byte-parts m n =
    let a = div-add-mod' m 256 in
    let b = div-add-mod' n 256 in
    let c : m % 256 < 256 = mod-lt m (omega arith) in
    let d : n % 256 < 256 = mod-lt n (omega arith) in
    three (m / 256) (n / 256)
    (λ h. rw (number-before (m / 256) (n / 256) h, number-before m n (omega arith)))
    (λ h. rw (h, number_same (n / 256)) (three (m % 256) (n % 256)
    (λ k. rw (number-before (m % 256) (n % 256) k, number-before m n (omega arith)))
    (λ k. let e : m ≡ n = omega arith in rw (k, e, number_same (n % 256), number_same n))
    (λ k. rw (number-after (m % 256) (n % 256) k, number-after m n (omega arith)))))
    (λ h. rw (number-after (m / 256) (n / 256) h, number-after m n (omega arith)))

five-bytes : (a b c d e p q r s t : ℕ) → by_bytes (a ∷ b ∷ c ∷ d ∷ e ∷ []) (p ∷ q ∷ r ∷ s ∷ t ∷ [])
    ≡ or_else (or_else (or_else (or_else (by_number a p) (by_number b q)) (by_number c r)) (by_number d s)) (by_number e t)
five-bytes a b c d e p q r s t =
    rw (
      or-none (by_number e t),
      or_assoc (by_number c r) (by_number d s) (by_number e t),
      or_assoc (by_number b q) (or_else (by_number c r) (by_number d s)) (by_number e t),
      or_assoc (by_number b q) (by_number c r) (by_number d s),
      or_assoc (by_number a p) (or_else (or_else (by_number b q) (by_number c r)) (by_number d s)) (by_number e t),
      or_assoc (by_number a p) (or_else (by_number b q) (by_number c r)) (by_number d s),
      or_assoc (by_number a p) (by_number b q) (by_number c r),
    )

none_first : (s t : List ℕ) → by_bytes (0 ∷ s) (0 ∷ t) ≡ by_bytes s t
none_first s t = refl

raw-order : (m n : ℕ) → by_bytes (raw_bytes m) (raw_bytes n) ≡ by_number m n
unfolding raw_bytes
raw-order m n =
    rw (none_first, none_first, none_first, none_first, none_first, five-bytes, byte-parts (m / 256 / 256 / 256) (n / 256 / 256 / 256), byte-parts (m / 256 / 256) (n / 256 / 256), byte-parts (m / 256) (n / 256), byte-parts m n)

-- the number back from its bytes, wherever they stand
pub raw-number : (n : ℕ) (s : List ℕ) → number_from (raw_bytes n ++ s) 5 ≡ n
unfolding raw_bytes number_from
raw-number n s = rw (div-add-mod' (n / 256 / 256 / 256) 256, div-add-mod' (n / 256 / 256) 256, div-add-mod' (n / 256) 256, div-add-mod' n 256)

pub raw-length : (z : ℤ) → length (raw_field z) ≡ 10
unfolding raw_field raw_bytes
raw-length z = refl

-- ---- figures that find room

module _ (z : ℤ) (h : is_narrow z ≡ true) where
  pub narrow_below : N z ≤ 999999999
  narrow_below = go z h
    where
      go : (z : ℤ) → is_narrow z ≡ true → N z ≤ 999999999
      go (pos a) e = omega arith
      go (negsuc a) e = omega (arith, leb-true a 999999998 (sym (narrow-minus a) ∙ e))

  pub narrow-above : P z ≤ 9999999999
  narrow-above = go z h
    where
      go : (z : ℤ) → is_narrow z ≡ true → P z ≤ 9999999999
      go (pos a) e = leb-true a 9999999999 (sym (narrow-plus a) ∙ e)
      go (negsuc a) e = omega arith

  pub raw-parts : raw_number z + N z ≡ P z + 1000000000
  unfolding raw_number
  raw-parts = omega (arith, narrow_below, abs-parts (z +ℤ pos raw_lift), one-part (z +ℤ pos raw_lift), add_parts z (pos raw_lift), one-part z)

  pub raw-back : pos (raw_number z) -ℤ pos raw_lift ≡ z
  raw-back = eq-parts (pos (raw_number z) -ℤ pos raw_lift) z (omega (arith, raw-parts, sub-parts-ℤ (pos (raw_number z)) (pos raw_lift)))

pub field-order : (a b : ℤ) → is_narrow a ≡ true → is_narrow b ≡ true → by_bytes (raw_field a) (raw_field b) ≡ by_whole a b
unfolding raw_field
field-order a b f g =
    let p = raw-parts a f in
    let q = raw-parts b g in
    raw-order (raw_number a) (raw_number b)
    ∙ three (raw_number a) (raw_number b)
    (λ h. rw (number-before (raw_number a) (raw_number b) h, lt-true a b (omega arith)))
    (λ h. rw (h, number_same (raw_number b), lt-false a b (omega arith), lt-false b a (omega arith)))
    (λ h. rw (number-after (raw_number a) (raw_number b) h, lt-false a b (omega arith), lt-true b a (omega arith)))

-- ---- a smaller exact area has no greater figure

millions : (z : ℤ) → (P (pos 2000000 *ℤ z) ≡ 2000000 * P z) × (N (pos 2000000 *ℤ z) ≡ 2000000 * N z)
millions (pos a) = (refl, refl)
millions (negsuc a) = (neg-P (pos (2000000 * suc a)), neg-N (pos (2000000 * suc a)))

pub metres-rise : (x y : ℤ) → lt_z y x ≡ false → lt_z (metres_of y) (metres_of x) ≡ false
metres-rise x y h =
    let m = metres_of x in
    let n = metres_of y in
    lt-false n m
    (omega (
      arith,
      lt_no y x h,
      le_yes (pos 2000000 *ℤ m) (x +ℤ pos 1000000) (metres-low x),
      lt_yes (y +ℤ pos 1000000) (pos 2000000 *ℤ (n +ℤ pos 1)) (metres-high y),
      (millions m).0,
      (millions m).1,
      (millions (n +ℤ pos 1)).0,
      (millions (n +ℤ pos 1)).1,
      add_parts x (pos 1000000),
      add_parts y (pos 1000000),
      add_parts n (pos 1),
      one-part m,
      one-part n,
    ))
