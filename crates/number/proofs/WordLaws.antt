-- What a word is: a content without the blanks at its ends. Past the end `get_or` gives 0, which is no blank,
-- so "no blank at either end" is said of the empty content too. Assumes nothing.
use Prim.Native.Nat.{ℕ, zero, suc, ◌+◌, ◌-◌, ◌≤◌}
use mathlib.Core.Path.{◌≡◌, refl, sym, ◌∙◌, ap}
use mathlib.Core.List.{List, [], ◌∷◌}
use mathlib.Core.Bool.{true, false, cond, not, ◌||◌}
use native.Mathlib.Nat.{add-zero}
use native.Mathlib.Omega.{arith}
use lib.ListN.{length, get_or, take, drop, length-drop}
use lib.Seq.{take-length, get_or-take, get_or-drop}
use lib.Dec.{eqb}
use borrow.Author.Tests.{eq-eqb, eqb-true}
use Rattle.std.specs.Prelude.{None}
use Rattle.laws.specs.Lists.{run, kept, all}
use Rattle.laws.proofs.Choice.{cond-first}
use Rattle.laws.proofs.ListLaws.{run-le, run-fails, kept-le, kept-last, kept_whole, all_take, all_drop}
use Rattle.record.specs.declared.Mode.{Mode}
use Rattle.record.specs.declared.Mode.TheVariants.{Loose, Exact, Former}
use Rattle.record.specs.Record.{is_exact, widens, plain}
use Rattle.record.proofs.RecordLaws.{rule-widens}
use Rattle.number.specs.Words.{blank, unled, trimmed, word_at, word_of}
use Rattle.number.specs.declared.Word.{Word}
use Rattle.number.proofs.WordWays.{trimmed-kept}

-- ---- trimmed contents

-- blanks at the front and the word are within the content
led-in : (c : List ℕ) → run blank c + length (trimmed c) ≤ length c
unfolding unled
led-in c = omega (arith, trimmed-kept c, kept-le blank (unled c), length-drop (run blank c) c, run-le blank c)

-- a word is no longer than its content
pub trimmed-le : (c : List ℕ) → length (trimmed c) ≤ length c
trimmed-le c = omega (arith, led-in c)

-- no blank comes first
pub trimmed-first : (c : List ℕ) → blank (get_or (trimmed c) 0 0) ≡ false
unfolding trimmed unled
trimmed-first c = go (kept blank (unled c)) (omega (arith, kept-le blank (unled c), length-drop (run blank c) c))
  where
    go : (k : ℕ) → k ≤ length c - run blank c → blank (get_or (take k (unled c)) 0 0) ≡ false
    go zero h = refl
    go (suc k) h = rw (get_or-take (suc k) (unled c) 0 0 (omega arith), get_or-drop (run blank c) c 0 0, add-zero) (run-fails blank c (omega arith))

-- nor last
pub trimmed-last : (c : List ℕ) → blank (get_or (trimmed c) (length (trimmed c) - 1) 0) ≡ false
unfolding trimmed
trimmed-last c = rw (trimmed-kept c) (go (kept blank (unled c)) refl)
  where
    go : (k : ℕ) → k ≡ kept blank (unled c) → blank (get_or (take k (unled c)) (k - 1) 0) ≡ false
    go zero e = refl
    go (suc k) e = rw (get_or-take (suc k) (unled c) (suc k - 1) 0 (omega arith), e) (kept-last blank (unled c) (omega arith))

-- a content with no blank at either end is the word itself
pub untrimmed : (c : List ℕ) → blank (get_or c 0 0) ≡ false → blank (get_or c (length c - 1) 0) ≡ false → trimmed c ≡ c
unfolding trimmed unled run kept
untrimmed [] f l = refl
untrimmed (b ∷ s) f l = rw f (rw (kept_whole blank (b ∷ s) (omega arith) l) (take-length (b ∷ s)))

-- a word of a record's content holds such bytes only
pub trimmed-plain : (c : List ℕ) → all plain c ≡ true → all plain (trimmed c) ≡ true
unfolding trimmed unled
trimmed-plain c e = all_take plain (unled c) (kept blank (unled c)) (all_drop plain c (run blank c) e)

-- ---- words

-- what is told of a word, by the test that passed
module _ (mode : Mode) (c : List ℕ) (start len : ℕ) (h : word_of mode c ≡ word_at start len) where
  word-by : ((not (is_exact mode) || eqb (length (trimmed c)) (length c)) ≡ true) × (word_at (run blank c) (length (trimmed c)) ≡ word_at start len)
  unfolding word_of
  word-by =
      cond-first (not (is_exact mode) || eqb (length (trimmed c)) (length c)) (word_at (run blank c) (length (trimmed c))) None (word_at start len)
      (λ e. let z : ◌≡◌ {A = ℕ} 0 1 = cc in omega arith) h

  word-same : ◌≡◌ {A = Word} (record { start = run blank c; len = length (trimmed c) }) (record { start = start; len = len })
  word-same = let e = word-by.1 in cc

  word-start : run blank c ≡ start
  word-start = ap (λ (w : Word). w.start) word-same

  word_len : length (trimmed c) ≡ len
  word_len = ap (λ (w : Word). w.len) word-same

  -- a word lies in its content, and is the content without the blanks at its ends
  pub word-is : (start + len ≤ length c) × (take len (drop start c) ≡ trimmed c) × (len ≡ length (trimmed c))
  unfolding trimmed unled
  word-is = (omega (arith, led-in c, word-start, word_len), rw (← word-start, ← word_len, trimmed-kept c), sym word_len)

-- in exact mode it is the whole content
pub word-exact : (c : List ℕ) (start len : ℕ) → word_of Exact c ≡ word_at start len → (trimmed c ≡ c) × (start ≡ 0) × (len ≡ length c)
word-exact c start len h =
    let w = word-is Exact c start len h in
    let k : length (trimmed c) ≡ length c = eqb-true (length (trimmed c)) (length c) (word-by Exact c start len h).0 in
    let s : start ≡ 0 = omega (arith, w.0, w.2) in
    let l : len ≡ length c = w.2 ∙ k in
    (sym w.1 ∙ rw (s, l) (take-length c), s, l)

-- a content with no blank at either end is read in every mode
pub word-make : (mode : Mode) (c : List ℕ) → blank (get_or c 0 0) ≡ false → blank (get_or c (length c - 1) 0) ≡ false → word_of mode c ≡ word_at 0 (length c)
unfolding word_of
word-make mode c f l =
    let e = untrimmed c f l in
    let k = ap length e in
    let s : run blank c ≡ 0 = omega (arith, led-in c) in
    rw (eq-eqb (length (trimmed c)) (length c) k, k, s) (go mode)
  where
    go : (m : Mode) → cond (not (is_exact m) || true) (word_at 0 (length c)) None ≡ word_at 0 (length c)
    go Loose = refl
    go Exact = refl
    go Former = refl

-- what one mode takes, a wider one takes as the same
pub word-widens : (from to : Mode) → widens from to ≡ true → (c : List ℕ) (start len : ℕ) → word_of from c ≡ word_at start len → word_of to c ≡ word_at start len
unfolding word_of
word-widens from to wide c start len h =
    let w = word-by from c start len h in
    rw (rule-widens from to wide (eqb (length (trimmed c)) (length c)) w.0) w.1
