-- Rows that hold, cell by cell, what a test gives: what xor makes of them, and the numbers that they are. Assumes nothing.
use mathlib.Core.Path.{◌≡◌, refl, sym, ◌∙◌, ap, ap₂, subst}
use mathlib.Core.Logic.{⊎_elim}
use mathlib.Core.Bool.{Bool, false}
use mathlib.Core.List.{List, [], ◌∷◌, ◌++◌}
use Prim.Native.Nat.{ℕ, zero, suc, ◌+◌, ◌-◌, ◌/◌, ◌%◌, ◌^◌, ◌≤◌, ◌<◌}
use native.Mathlib.Nat.{eq-or-lt_of_le, le_of_suc-le-suc, not-suc-le-zero}
use native.Mathlib.Omega.{arith}
use lib.ListN.{length, get_or, take, replicate, length-append, length-replicate, get_or-replicate, get_or-append}
use lib.Seq.{take-suc, take_all}
use lib.Bits.{bit_xor}
use Rattle.grid.specs.Inside.{one_if}
use Rattle.grid.specs.Words.{grid_side, row_word, row_words, differs}
use Rattle.grid.specs.Trace.{Xored, RowsHold}
use Rattle.grid.proofs.WordLaws.{word_same, word-xor, word_none, word-bit}

pub hold-as : (p q : ℕ → ℕ → Bool) (l : List ℕ) → RowsHold p l → ((r c : ℕ) → p r c ≡ q r c) → RowsHold q l
hold-as p q l g h = record { sized = g.sized; each = λ r k. g.each r k ∙ word_same (p r) (q r) grid_side (λ c j. h r c) }

pub hold-xored : (p q : ℕ → ℕ → Bool) (l m : List ℕ) → RowsHold p l → Xored l m q → RowsHold (λ r c. differs (p r c) (q r c)) m
hold-xored p q l m g x =
    record {
      sized = x.sized ∙ g.sized;
      each = λ r k. x.turns r k ∙ ap (λ (w : ℕ). bit_xor w (row_word (q r) grid_side)) (g.each r k) ∙ word-xor (p r) (q r) grid_side;
    }

pub hold-none : RowsHold (λ r c. false) (replicate grid_side 0)
hold-none = record { sized = length-replicate {A = ℕ} grid_side 0; each = λ r h. get_or-replicate {A = ℕ} grid_side r 0 0 h ∙ sym (word_none grid_side) }

-- ---- they are the numbers of the definition

take_words : (p : ℕ → ℕ → Bool) (l : List ℕ) (k : ℕ) → k ≤ length l → ((r : ℕ) → r < k → get_or l r 0 ≡ row_word (p r) grid_side) → take k l ≡ row_words p k
unfolding row_words
take_words p l zero h f = refl
take_words p l (suc k) h f = take-suc l k 0 h ∙ ap₂ (λ (a : List ℕ) (b : ℕ). a ++ b ∷ []) (take_words p l k (omega arith) (λ r g. f r (omega arith))) (f k (omega arith))

pub hold-words : (p : ℕ → ℕ → Bool) (l : List ℕ) → RowsHold p l → l ≡ row_words p grid_side
hold-words p l g = sym (take_all grid_side l (omega (arith, g.sized))) ∙ take_words p l grid_side (omega (arith, g.sized)) g.each

pub words_same : (p q : ℕ → ℕ → Bool) (n : ℕ) → ((r c : ℕ) → p r c ≡ q r c) → row_words p n ≡ row_words q n
unfolding row_words
words_same p q zero h = refl
words_same p q (suc n) h = ap₂ (λ (a : List ℕ) (b : ℕ). a ++ b ∷ []) (words_same p q n h) (word_same (p n) (q n) grid_side (λ c j. h n c))

-- ---- each of them

pub words-length : (p : ℕ → ℕ → Bool) (n : ℕ) → length (row_words p n) ≡ n
unfolding row_words
words-length p zero = refl
words-length p (suc n) = length-append (row_words p n) (row_word (p n) grid_side ∷ []) ∙ omega (arith, words-length p n)

get_d-last : (xs : List ℕ) (y r : ℕ) → r ≡ length xs → get_or (xs ++ y ∷ []) r 0 ≡ y
get_d-last [] y r e = rw e
get_d-last (x ∷ xs) y r e = rw e (get_d-last xs y (length xs) refl)

pub words-at : (p : ℕ → ℕ → Bool) (n r : ℕ) → r < n → get_or (row_words p n) r 0 ≡ row_word (p r) grid_side
unfolding row_words
words-at p zero r h = absurd (not-suc-le-zero h)
words-at p (suc n) r h =
    ⊎_elim (λ e. get_d-last (row_words p n) (row_word (p n) grid_side) r (e ∙ sym (words-length p n)) ∙ ap (λ (k : ℕ). row_word (p k) grid_side) (sym e))
    (λ l. get_or-append (row_words p n) (row_word (p n) grid_side ∷ []) 0 r (omega (arith, words-length p n)) ∙ words-at p n r l) (eq-or-lt_of_le (le_of_suc-le-suc h))

-- "northern row first, west in the highest bit"
pub bit_is : (p : ℕ → ℕ → Bool) (r c : ℕ) → r < grid_side → c < grid_side → get_or (row_words p grid_side) r 0 / 2 ^ (63 - c) % 2 ≡ one_if (p r c)
bit_is p r c h k =
    let e : c + 1 + (63 - c) ≡ 64 = omega arith in
    rw (words-at p grid_side r h) (subst (λ (n : ℕ). row_word (p r) n / 2 ^ (63 - c) % 2 ≡ one_if (p r c)) e (word-bit (p r) (63 - c) c))
