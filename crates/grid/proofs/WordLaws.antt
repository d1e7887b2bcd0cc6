-- The numbers of a row: cell by cell they are xored and counted. Assumes nothing.
use mathlib.Core.Path.{◌≡◌, refl, sym, ◌∙◌, ap, ap₂}
use mathlib.Core.Bool.{Bool, true, false}
use mathlib.Core.List.{List, [], ◌∷◌, ◌++◌}
use Prim.Native.Nat.{ℕ, zero, suc, ◌+◌, ◌-◌, ◌*◌, ◌/◌, ◌%◌, ◌^◌, ◌≤◌, ◌<◌}
use native.Mathlib.Nat.{pow-suc, add_assoc, zero-add, add-zero, div-one}
use native.Mathlib.Numerals.{one-add}
use lib.Arith.{digits_div, digits_mod}
use native.Mathlib.Omega.{arith}
use lib.Dec.{ltb, lit<}
use lib.Pow.{shr-shr}
use lib.Bits.{bit_xor, xor_block}
use lib.Count.{ones, ones_cat}
use borrow.Author.Tests.{lt-ltb, ltb-true, ltb-false}
use Rattle.grid.specs.Inside.{one_if}
use Rattle.grid.specs.Words.{grid_side, row_word, row_words, differs, cells_set, all_cells_set, set_bits}

one-lt : (b : Bool) → one_if b < 2
one-lt true = lit< tt
one-lt false = lit< tt

pub word_same : (p q : ℕ → Bool) (n : ℕ) → ((c : ℕ) → c < n → p c ≡ q c) → row_word p n ≡ row_word q n
unfolding row_word
word_same p q zero h = refl
word_same p q (suc n) h = ap₂ (λ (a : ℕ) (b : Bool). a * 2 + one_if b) (word_same p q n (λ c l. h c (omega arith))) (h n (omega arith))

one-xor : (a b : Bool) → bit_xor (one_if a) (one_if b) ≡ one_if (differs a b)
one-xor true true = refl
one-xor true false = refl
one-xor false b = refl

pub word-xor : (p q : ℕ → Bool) (n : ℕ) → bit_xor (row_word p n) (row_word q n) ≡ row_word (λ c. differs (p c) (q c)) n
unfolding row_word
word-xor p q zero = refl
word-xor p q (suc n) =
    xor_block 1 (row_word p n) (row_word q n) (one_if (p n)) (one_if (q n)) (one-lt (p n)) (one-lt (q n))
    ∙ ap₂ (λ (a b : ℕ). a * 2 + b) (word-xor p q n) (one-xor (p n) (q n))

pub word_none : (n : ℕ) → row_word (λ c. false) n ≡ 0
unfolding row_word
word_none zero = refl
word_none (suc n) = rw (word_none n)

ones-one : (b : Bool) → ones (one_if b) ≡ one_if b
unfolding ones
ones-one true = refl
ones-one false = refl

pub word_ones : (p : ℕ → Bool) (n : ℕ) → ones (row_word p n) ≡ cells_set p n
unfolding row_word cells_set
word_ones p zero = ones-one false
word_ones p (suc n) = ones_cat 1 (row_word p n) (one_if (p n)) (one-lt (p n)) ∙ ap₂ (λ (a b : ℕ). a + b) (word_ones p n) (ones-one (p n))

pub word-full : (k n : ℕ) → n ≤ k → row_word (λ c. ltb c k) n + 1 ≡ 2 ^ n
unfolding row_word
word-full k zero h = refl
word-full k (suc n) h = rw (lt-ltb n k h) (omega (arith, word-full k n (omega arith), pow-suc 2 n))

-- the k cells from the west
pub word-west : (k n : ℕ) → k ≤ n → row_word (λ c. ltb c k) n + 2 ^ (n - k) ≡ 2 ^ n
unfolding row_word
word-west k zero h = let z : k ≡ 0 = omega arith in rw z
word-west k (suc n) h = go (λ l. word-west k n l) (ltb n k) refl
  where
    go : (k ≤ n → row_word (λ c. ltb c k) n + 2 ^ (n - k) ≡ 2 ^ n) → (t : Bool) → ltb n k ≡ t → row_word (λ c. ltb c k) n * 2 + one_if t + 2 ^ (suc n - k) ≡ 2 ^ suc n
    go f true e =
        let l : suc n - k ≡ 0 = omega (arith, ltb-true n k e) in
        rw l (omega (arith, word-full k n (omega (arith, ltb-true n k e)), pow-suc 2 n))
    go f false e =
        let z : suc n - k ≡ suc (n - k) = omega (arith, ltb-false n k e) in
        rw z (omega (arith, f (ltb-false n k e), pow-suc 2 n, pow-suc 2 (n - k)))

-- the bit of cell c
pub word-bit : (p : ℕ → Bool) (n c : ℕ) → row_word p (c + 1 + n) / 2 ^ n % 2 ≡ one_if (p c)
unfolding row_word
word-bit p zero c =
    let e : c + 1 + 0 ≡ suc c = omega arith in
    rw (e, div-one) (digits_mod (row_word p c) (one-lt (p c)))
word-bit p (suc n) c =
    let e : c + 1 + suc n ≡ suc (c + 1 + n) = omega arith in
    let m : ℕ = c + 1 + n in
    let w : ℕ = row_word p m * 2 + one_if (p m) in
    rw e
    (ap (λ (k : ℕ). w / 2 ^ k % 2) (sym (one-add n))
    ∙ ap (λ (k : ℕ). k % 2) (sym (shr-shr w 1 n))
    ∙ ap (λ (k : ℕ). k / 2 ^ n % 2) (digits_div (row_word p m) (one-lt (p m)))
    ∙ word-bit p n c)

-- the numbers' counts
pub set-append : (a b : List ℕ) → set_bits (a ++ b) ≡ set_bits a + set_bits b
unfolding set_bits
set-append [] b = sym (zero-add (set_bits b))
set-append (w ∷ ws) b = rw (set-append ws b) (sym (add_assoc (ones w) (set_bits ws) (set_bits b)))

pub words-set : (p : ℕ → ℕ → Bool) (n : ℕ) → set_bits (row_words p n) ≡ all_cells_set p n
unfolding row_words all_cells_set set_bits
words-set p zero = refl
words-set p (suc n) =
    set-append (row_words p n) (row_word (p n) grid_side ∷ [])
    ∙ ap₂ (λ (a b : ℕ). a + b) (words-set p n) (add-zero (ones (row_word (p n) grid_side)) ∙ word_ones (p n) grid_side)
