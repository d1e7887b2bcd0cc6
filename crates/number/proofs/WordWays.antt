-- The ways through the functions of a word, each with what the code has in hand there. Assumes nothing.
use Prim.Native.Nat.{ℕ, ◌-◌, ◌<◌}
use mathlib.Core.Path.{◌≡◌, refl, sym, ◌∙◌, ap}
use mathlib.Core.List.{List, [], ◌∷◌}
use mathlib.Core.Bool.{Bool, true, false, not}
use native.Mathlib.Omega.{arith}
use lib.ListN.{length, get_or, take}
use lib.Seq.{length-take-le}
use borrow.Author.Tests.{eq-eqb, ne_eqb}
use Rattle.std.specs.Prelude.{None}
use Rattle.laws.specs.Lists.{run, kept, tail}
use Rattle.laws.proofs.ListLaws.{rest-is, kept-le, kept_step, kept-start, kept_whole}
use Rattle.record.specs.declared.Mode.{Mode}
use Rattle.record.specs.Record.{is_exact}
use Rattle.number.specs.Words.{blank, unled, trimmed, word_at, word_of}

module _ (b : ℕ) where
  pub blank-is : b ≡ 32 → blank b ≡ true
  blank-is e = eq-eqb b 32 e

  pub blank-not : (b ≡ 32 → ⊥) → blank b ≡ false
  blank-not e = ne_eqb b 32 e

pub ruleset blank_tests = (blank-is, blank-not)

pub trimmed-kept : (c : List ℕ) → length (trimmed c) ≡ kept blank (unled c)
unfolding trimmed
trimmed-kept c = length-take-le (kept blank (unled c)) (unled c) (kept-le blank (unled c))

module _ (mode : Mode) (c : List ℕ) (start len : ℕ) (q : start ≡ run blank c) (k : len ≡ kept blank (tail c start)) where
  len_is : len ≡ length (trimmed c)
  unfolding unled
  len_is = k ∙ ap (kept blank) (rest-is c start) ∙ rw q (sym (trimmed-kept c))

  module _ (x : Bool) (m : x ≡ is_exact mode) where
    pub word-loose : not x ≡ true → word_at start len ≡ word_of mode c
    unfolding word_of
    word-loose y = rw (← m, y, q, len_is)

    module _ (y : not x ≡ false) where
      pub word-full : len ≡ length c → word_at start len ≡ word_of mode c
      unfolding word_of
      word-full e = rw (← m, y, q, ← len_is, eq-eqb len (length c) e)

      pub word-padded : (len ≡ length c → ⊥) → None ≡ word_of mode c
      unfolding word_of
      word-padded e = rw (← m, y, ← len_is, ne_eqb len (length c) e)

pub ruleset word_ways = (word-loose, word-full, word-padded)

-- ---- blanks at the end

pub padded_more : (s : List ℕ) → 0 < length s → get_or s (length s - 1) 0 ≡ 32 → kept blank (take (length s - 1) s) ≡ kept blank s
padded_more s h e = sym (kept_step blank s (length s) (kept-start blank s) h (omega arith) (blank-is (get_or s (length s - 1) 0) e))

pub padded_done : (s : List ℕ) → (get_or s (length s - 1) 0 ≡ 32 → ⊥) → kept blank s ≡ length s
unfolding kept
padded_done [] e = refl
padded_done (a ∷ s) e = kept_whole blank (a ∷ s) (omega arith) (blank-not (get_or (a ∷ s) (length (a ∷ s) - 1) 0) e)

pub padded_none : (s : List ℕ) → length s < 1 → kept blank s ≡ length s
unfolding kept
padded_none [] e = refl
padded_none (a ∷ s) e = absurd (omega arith)

pub ruleset padded_ways = (padded_more, padded_done, padded_none)
