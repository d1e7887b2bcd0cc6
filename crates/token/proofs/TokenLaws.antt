-- The theorems on tokens: lifted reals, the bound of every token, the keywords spelt back, and how the modes relate. Assumes nothing.
use Prim.Native.Nat.{ℕ, ◌+◌, ◌-◌, ◌*◌, ◌/◌, ◌%◌, ◌≤◌, ◌<◌}
use mathlib.Core.Path.{◌≡◌, refl, sym, ◌∙◌, ap}
use mathlib.Core.List.{List, [], ◌∷◌, ◌++◌, append-nil}
use mathlib.Core.Bool.{Bool, true, false, cond, not, ◌&&◌, ◌||◌}
use native.Mathlib.Omega.{arith}
use lib.ListN.{length, get_or}
use lib.Seq.{take-length}
use lib.Dec.{leb, eqb}
use lib.IntN.{ℤ, pos, negsuc}
use lib.Signed.{le_z}
use borrow.Author.Tests.{ne_eqb, eqb-true, le-leb, leb-true, lt-ltb, le-ltb}
use Rattle.std.specs.Prelude.{Option, Some, None, Result, Ok, Err}
use Rattle.laws.specs.Lists.{run, kept, all, same, place, below}
use Rattle.laws.proofs.Choice.{and_left, and_right, cond-elim, false≢true}
use Rattle.laws.proofs.ListLaws.{same-is, place_is, front, below_at}
use Rattle.record.specs.declared.Mode.{Mode}
use Rattle.record.specs.declared.Mode.TheVariants.{Loose, Exact, Former}
use Rattle.record.specs.Record.{widens, word_eof}
use Rattle.record.specs.declared.refusal.Refusal.{Refusal}
use Rattle.record.specs.declared.refusal.Refusal.TheVariants as Refusal
use Rattle.record.specs.Refusals.{record_most}
use Rattle.number.specs.declared.Word.{Word}
use Rattle.number.specs.Words.{unled, trimmed, word_at, word_of}
use Rattle.number.specs.Number.{parted, is_note, integer_of, real_of, real_least, real_most, is_real}
use Rattle.number.proofs.NumberLaws.{integer-most, real-in, integer-widens, real-widens, integer-former, real-former, integer-noted, real-noted}
use Rattle.number.proofs.WordLaws.{word-is, word-exact, word-widens}
use Rattle.token.specs.declared.Want.{Want}
use Rattle.token.specs.declared.Want.TheVariants.{Key, Text, Int, Real}
use Rattle.token.specs.Lex.{lift, unlift, keywords, kind_most, may_lie_outside, unmarked, is_marked, key_of, is_key, key_text, of_key, of_text, of_whole, of_decimal, lex_of, behind_number}
use Rattle.token.proofs.TokenWays.{kind-most, marked-kind}

no-say : (m : Refusal) (t : ℕ) → ◌≡◌ {A = Result ℕ Refusal} (Err m) (Ok t) → ⊥
no-say m t e = cc

say-is : (n t : ℕ) → ◌≡◌ {A = Result ℕ Refusal} (Ok n) (Ok t) → n ≡ t
say-is n t e = cc

-- ---- lifted reals

real-from : (n : ℕ) → is_real (negsuc n) ≡ true → n ≤ 9999999998
unfolding is_real
real-from n e = leb-true n 9999999998 (and_left (le_z real_least (negsuc n)) (le_z (negsuc n) real_most) e)

real-to : (n : ℕ) → is_real (pos n) ≡ true → n ≤ 99999999999
unfolding is_real
real-to n e = leb-true n 99999999999 (and_right (le_z real_least (pos n)) (le_z (pos n) real_most) e)

-- a real comes back from its token
pub lift-unlift : (z : ℤ) → is_real z ≡ true → unlift (lift z) ≡ z
unfolding unlift lift
lift-unlift (pos n) e = rw (le-ltb (n + 10000000000) 10000000000 (omega arith)) (ap pos (omega arith))
lift-unlift (negsuc n) e =
    let h = real-from n e in
    rw (lt-ltb (10000000000 - 1 - n) 10000000000 (omega arith)) (ap negsuc (omega arith))

-- a real's token is above 0, and bounded
pub lift-most : (z : ℤ) → is_real z ≡ true → (1 ≤ lift z) × (lift z ≤ 109999999999)
unfolding lift
lift-most (pos n) e = let h = real-to n e in (omega arith, omega arith)
lift-most (negsuc n) e = let h = real-from n e in (omega arith, omega arith)

-- two reals have two tokens
pub lift-apart : (y z : ℤ) → is_real y ≡ true → is_real z ≡ true → lift y ≡ lift z → y ≡ z
lift-apart y z f g e = sym (lift-unlift y f) ∙ ap unlift e ∙ lift-unlift z g

-- ---- keywords

module _ (w : List ℕ) (n : ℕ) where
  key-plain : 1 ≤ n → n ≤ kind_most → w ≡ get_or keywords (n - 1) [] → (is_key (2 * n) ≡ true) × (w ≡ key_text (2 * n))
  unfolding is_key key_text
  key-plain l h e =
      let half : 2 * n / 2 ≡ n = omega arith in
      let even : 2 * n % 2 ≡ 0 = omega arith in
      rw (ne_eqb (2 * n) 0 (λ z. omega arith), half, even, le-leb 1 n l, le-leb n kind_most h) (refl, e ∙ sym (append-nil (get_or keywords (n - 1) [])))

  key-outside : 1 ≤ n → n ≤ kind_most → may_lie_outside n ≡ true → w ≡ get_or keywords (n - 1) [] ++ 92 ∷ [] → (is_key (2 * n + 1) ≡ true) × (w ≡ key_text (2 * n + 1))
  unfolding is_key key_text
  key-outside l h o e =
      let half : (2 * n + 1) / 2 ≡ n = omega arith in
      let odd : (2 * n + 1) % 2 ≡ 1 = omega arith in
      rw (ne_eqb (2 * n + 1) 0 (λ z. omega arith), half, odd, le-leb 1 n l, le-leb n kind_most h, o) (refl, e)

-- a word that ends in a byte above 0 is what stands before it, and that byte
last-is : (w : List ℕ) (b : ℕ) → 0 < b → get_or w (length w - 1) 0 ≡ b → w ≡ unmarked w ++ b ∷ []
unfolding unmarked
last-is [] b h e = absurd (omega arith)
last-is (a ∷ s) b h e = sym (take-length (a ∷ s)) ∙ front (a ∷ s) (length (a ∷ s)) (omega arith) (omega arith) ∙ rw e

module _ (w : List ℕ) where
  abbrev kind : ℕ
  kind = place 1 keywords w

  abbrev under : ℕ
  under = place 1 keywords (unmarked w)

  -- a word among the keywords
  read_plain : 1 ≤ kind → (is_key (2 * kind) ≡ true) × (w ≡ key_text (2 * kind))
  read_plain h = key-plain w kind h (kind-most w) (place_is 1 keywords w h).2

  -- a word that is one with a final `\`
  read-marked : is_marked w ≡ true → (is_key (2 * under + 1) ≡ true) × (w ≡ key_text (2 * under + 1))
  unfolding is_marked
  read-marked e =
      let h = marked-kind w e in
      let b = eqb-true (get_or w (length w - 1) 0) 92 (and_left (eqb (get_or w (length w - 1) 0) 92) (may_lie_outside under) e) in
      let o = and_right (eqb (get_or w (length w - 1) 0) 92) (may_lie_outside under) e in
      let v = (place_is 1 keywords (unmarked w) (omega arith)).2 in
      key-outside w under (omega arith) (kind-most (unmarked w)) o (last-is w 92 (omega arith) b ∙ ap (λ (x : List ℕ). x ++ 92 ∷ []) v)

  abbrev Reads : ℕ → Result ℕ Refusal → Type 0
  Reads t x = x ≡ Ok t → (is_key t ≡ true) × (w ≡ key_text t)

  abbrev marked : Result ℕ Refusal
  marked = cond (is_marked w) (Ok (2 * under + 1)) (Err Refusal.Keyword)

  reads-marked : (t : ℕ) → Reads t marked
  reads-marked t =
      cond-elim (Reads t) (is_marked w) (Ok (2 * under + 1)) (Err Refusal.Keyword) (λ e d. rw (← say-is (2 * under + 1) t d) (read-marked e))
      (λ e d. absurd (no-say Refusal.Keyword t d))

  -- where a keyword is due a word says the number of its own text
  pub key-read : (t : ℕ) → key_of w ≡ Ok t → (is_key t ≡ true) × (w ≡ key_text t)
  unfolding key_of is_key key_text
  key-read t =
      cond-elim (Reads t) (same w word_eof) (Ok 0) (cond (leb 1 kind) (Ok (2 * kind)) marked)
      (λ e d. rw (← say-is 0 t d) (refl, same-is w word_eof e))
      (λ _. cond-elim (Reads t) (leb 1 kind) (Ok (2 * kind)) marked (λ e d. rw (← say-is (2 * kind) t d) (read_plain (leb-true 1 kind e))) (λ _. reads-marked t))

-- no such number is larger
abbrev pub key_most : ℕ
key_most = 2 * kind_most + 1

is-key-most : (t : ℕ) → is_key t ≡ true → t ≤ key_most
unfolding is_key
is-key-most t = go (eqb t 0) refl
  where
    go : (x : Bool) → eqb t 0 ≡ x → (x || leb 1 (t / 2) && leb (t / 2) kind_most && (eqb (t % 2) 0 || may_lie_outside (t / 2))) ≡ true → t ≤ key_most
    go true q e = omega (arith, eqb-true t 0 q)
    go false q e =
        let h = and_right (leb 1 (t / 2)) (leb (t / 2) kind_most) (and_left (leb 1 (t / 2) && leb (t / 2) kind_most) (eqb (t % 2) 0 || may_lie_outside (t / 2)) e) in
        omega (arith, leb-true (t / 2) kind_most h)

pub key-most : (w : List ℕ) (t : ℕ) → key_of w ≡ Ok t → t ≤ key_most
key-most w t e = is-key-most t (key-read w t e).0

-- ---- the content that says a keyword

abbrev says : Result ℕ Refusal → ℕ → Bool
says (Ok n) t = eqb n t
says (Err n) t = false

abbrev is_spelt : ℕ → Bool
is_spelt t = not (is_key t) || says (lex_of Exact Key (key_text t)) t

all-spelt : below (key_most + 1) is_spelt ≡ true
unfolding below is_key key_text may_lie_outside keywords lex_of key_of is_marked unmarked place same word_of trimmed unled run kept
all-spelt = refl

-- exact mode reads each of those texts as its number
pub key-spelt : (t : ℕ) → is_key t ≡ true → lex_of Exact Key (key_text t) ≡ Ok t
key-spelt t h = by (lex_of Exact Key (key_text t)) (rw h at (below_at (key_most + 1) is_spelt t all-spelt (omega (arith, is-key-most t h))))
  where
    by : (x : Result ℕ Refusal) → says x t ≡ true → x ≡ Ok t
    by (Ok n) e = ap Ok (eqb-true n t e)
    by (Err n) e = absurd (false≢true e)

-- a content that says a keyword has a word, and the word says it
module _ (mode : Mode) (c : List ℕ) (t : ℕ) (P : Type 0) where
  key-word : lex_of mode Key c ≡ Ok t → ((start len : ℕ) → word_of mode c ≡ word_at start len → key_of (trimmed c) ≡ Ok t → P) → P
  unfolding lex_of
  key-word e f = by (word_of mode c) refl e
    where
      by : (x : Option Word) → word_of mode c ≡ x → of_key c x ≡ Ok t → P
      by (Some w) q d = f w.start w.len q (ap key_of (sym (word-is mode c w.start w.len q).1) ∙ d)
      by None q d = absurd (no-say Refusal.Keyword t d)

-- in every mode its word is the text
pub key-text : (mode : Mode) (c : List ℕ) (t : ℕ) → lex_of mode Key c ≡ Ok t → (is_key t ≡ true) × (trimmed c ≡ key_text t)
key-text mode c t e = key-word mode c t ((is_key t ≡ true) × (trimmed c ≡ key_text t)) e (λ start len q d. key-read (trimmed c) t d)

-- exact mode takes no other content for it
pub key-only : (c : List ℕ) (t : ℕ) → lex_of Exact Key c ≡ Ok t → c ≡ key_text t
key-only c t e = key-word Exact c t (c ≡ key_text t) e (λ start len q d. sym (word-exact c start len q).0 ∙ (key-read (trimmed c) t d).1)

-- ---- every token

-- a token is at most the greatest real's
pub says-most : (mode : Mode) (want : Want) (c : List ℕ) (t : ℕ) → length c ≤ record_most → lex_of mode want c ≡ Ok t → t ≤ 109999999999
unfolding lex_of
says-most mode Key c t h e = omega (arith, is-key-most t (key-text mode c t e).0)
says-most mode Text c t h e = by (word_of mode c) refl e
  where
    by : (x : Option Word) → word_of mode c ≡ x → of_text x ≡ Ok t → t ≤ 109999999999
    by (Some w) q d =
        cond-elim (λ (x : Result ℕ Refusal). x ≡ Ok t → t ≤ 109999999999) (eqb w.len 0) (Err Refusal.Letters) (Ok w.len) (λ _ f. absurd (no-say Refusal.Letters t f))
        (λ _ f. omega (arith, say-is w.len t f, (word-is mode c w.start w.len q).0)) d
    by None q d = absurd (no-say Refusal.Letters t d)
says-most mode Int c t h e = by (integer_of mode c) refl e
  where
    by : (x : Option ℕ) → integer_of mode c ≡ x → of_whole x ≡ Ok t → t ≤ 109999999999
    by (Some n) q d = omega (arith, say-is n t d, integer-most mode c n q)
    by None q d = absurd (no-say Refusal.Number t d)
says-most mode Real c t h e = by (real_of mode c) refl e
  where
    by : (x : Option ℤ) → real_of mode c ≡ x → of_decimal x ≡ Ok t → t ≤ 109999999999
    by (Some z) q d = omega (arith, say-is (lift z) t d, (lift-most z (real-in mode c z q)).1)
    by None q d = absurd (no-say Refusal.Number t d)

-- ---- the modes

-- what a content says in one mode, it says in a wider one
pub lex-widens : (from to : Mode) → widens from to ≡ true → (w : Want) (c : List ℕ) (t : ℕ) → lex_of from w c ≡ Ok t → lex_of to w c ≡ Ok t
unfolding lex_of
lex-widens from to wide Key c t = go (word_of from c) refl
  where
    go : (w : Option Word) → word_of from c ≡ w → of_key c w ≡ Ok t → of_key c (word_of to c) ≡ Ok t
    go (Some x) e q = rw (word-widens from to wide c x.start x.len e) q
    go None e q = absurd (no-say Refusal.Keyword t q)
lex-widens from to wide Text c t = go (word_of from c) refl
  where
    go : (w : Option Word) → word_of from c ≡ w → of_text w ≡ Ok t → of_text (word_of to c) ≡ Ok t
    go (Some x) e q = rw (word-widens from to wide c x.start x.len e) q
    go None e q = absurd (no-say Refusal.Letters t q)
lex-widens from to wide Int c t = go (integer_of from c) refl
  where
    go : (w : Option ℕ) → integer_of from c ≡ w → of_whole w ≡ Ok t → of_whole (integer_of to c) ≡ Ok t
    go (Some n) e q = rw (integer-widens from to wide c n e) q
    go None e q = absurd (no-say Refusal.Number t q)
lex-widens from to wide Real c t = go (real_of from c) refl
  where
    go : (w : Option ℤ) → real_of from c ≡ w → of_decimal w ≡ Ok t → of_decimal (real_of to c) ≡ Ok t
    go (Some z) e q = rw (real-widens from to wide c z e) q
    go None e q = absurd (no-say Refusal.Number t q)

-- loose mode reads a content as the former reading does, or there is a note behind its number
pub lex-former : (w : Want) (c : List ℕ) (P : Type 0) → (lex_of Loose w c ≡ lex_of Former w c → P) → (is_note (behind_number w c) ≡ true → P) → P
unfolding lex_of
lex-former Key c P same note = same (unfold word_of in refl)
lex-former Text c P same note = same (unfold word_of in refl)
lex-former Int c P same note = integer-former c P (λ e. same (ap of_whole e)) note
lex-former Real c P same note = real-former c P (λ e. same (ap of_decimal e)) note

-- a note is 8 in loose mode
pub lex-noted : (w : Want) (c : List ℕ) → is_note (behind_number w c) ≡ true → lex_of Loose w c ≡ Err Refusal.Number
unfolding lex_of
lex-noted Key c e = absurd (false≢true (unfold is_note parted all in e))
lex-noted Text c e = absurd (false≢true (unfold is_note parted all in e))
lex-noted Int c e = rw (integer-noted c e)
lex-noted Real c e = rw (real-noted c e)
