-- What a record's content is by what it says: the range of its number, and in exact mode its spelling. Assumes nothing.
use mathlib.Core.Path.{◌≡◌, refl, sym, ◌∙◌, ap}
use mathlib.Core.List.{List, [], ◌∷◌, ◌++◌, append_assoc}
use mathlib.Core.Bool.{true, ◌&&◌}
use Prim.Native.Nat.{ℕ, ◌≤◌}
use native.Mathlib.Omega.{arith}
use lib.ListN.{length}
use lib.IntN.{ℤ}
use lib.Dec.{leb, eqb}
use borrow.Author.Tests.{le-leb, eqb-true, eqb-false}
use Rattle.laws.proofs.Choice.{and_both, cond-elim, true≢false}
use Rattle.std.specs.Prelude.{Option, Some, None, Result, Ok, Err}
use Rattle.record.specs.declared.Mode.{Mode}
use Rattle.record.specs.declared.refusal.Refusal.{Refusal}
use Rattle.record.specs.declared.Mode.TheVariants.{Exact}
use Rattle.record.specs.Record.{is_exact}
use Rattle.record.specs.RecordView.{LineEnd, crlf, lf}
use Rattle.number.specs.declared.Word.{Word}
use Rattle.number.specs.Words.{trimmed, word_of}
use Rattle.number.specs.Number.{integer_of, real_of, is_real}
use Rattle.number.proofs.WordLaws.{word-is, word-exact}
use Rattle.number.proofs.NumberLaws.{integer-most, real-in}
use Rattle.spelling.specs.Spelling.{integer_text, real_text}
use Rattle.spelling.proofs.SpellingLaws.{integer-only, real-only}
use Rattle.token.specs.declared.Want.{Want}
use Rattle.token.specs.declared.Want.TheVariants.{Text, Int, Real}
use Rattle.token.specs.Lex.{lift, unlift, of_text, of_whole, of_decimal, lex_of}
use Rattle.token.proofs.TokenLaws.{lift-unlift}
use Rattle.kinds.specs.Kinds.{letters_place, want_at}
use Rattle.sheet.specs.Tables.{Tables, cell_of}
use Rattle.made.specs.Made.{cell_at, letters_of, in_range}
use Rattle.layout.specs.Sheet.{line, field_text}

-- an integer
pub record SaysInt (mode : Mode) (c : List ℕ) (t : ℕ) : Type 0 where
  pub most : t ≤ 9999
  pub spelt : mode ≡ Exact → integer_text t ≡ c

pub int-says : (mode : Mode) (c : List ℕ) (t : ℕ) → lex_of mode Int c ≡ Ok t → SaysInt mode c t
unfolding lex_of
int-says mode c t = by (integer_of mode c) refl
  where
    by : (x : Option ℕ) → integer_of mode c ≡ x → of_whole x ≡ Ok t → SaysInt mode c t
    by (Some n) e q =
        let z : n ≡ t = cc in
        let f : integer_of mode c ≡ Some t = e ∙ ap Some z in
        record { most = integer-most mode c t f; spelt = λ m. sym (integer-only c t (rw m at f)) }
    by None e q = absurd cc

-- a real
pub record SaysReal (mode : Mode) (c : List ℕ) (t : ℕ) : Type 0 where
  pub within : is_real (unlift t) ≡ true
  pub spelt : mode ≡ Exact → real_text (unlift t) ≡ c

pub real-says : (mode : Mode) (c : List ℕ) (t : ℕ) → lex_of mode Real c ≡ Ok t → SaysReal mode c t
unfolding lex_of
real-says mode c t = by (real_of mode c) refl
  where
    by : (x : Option ℤ) → real_of mode c ≡ x → of_decimal x ≡ Ok t → SaysReal mode c t
    by (Some y) e q =
        let z : lift y ≡ t = cc in
        let f : y ≡ unlift t = sym (lift-unlift y (real-in mode c y e)) ∙ ap unlift z in
        let g : real_of mode c ≡ Some (unlift t) = e ∙ ap Some f in
        record { within = real-in mode c (unlift t) g; spelt = λ m. sym (real-only c (unlift t) (rw m at g)) }
    by None e q = absurd cc

-- letters
pub record SaysText (mode : Mode) (c : List ℕ) (t : ℕ) : Type 0 where
  pub counted : length (trimmed c) ≡ t
  pub some : 1 ≤ t
  pub most : t ≤ length c
  pub spelt : mode ≡ Exact → trimmed c ≡ c

pub text_says : (mode : Mode) (c : List ℕ) (t : ℕ) → lex_of mode Text c ≡ Ok t → SaysText mode c t
unfolding lex_of
text_says mode c t = by (word_of mode c) refl
  where
    by : (w : Option Word) → word_of mode c ≡ w → of_text w ≡ Ok t → SaysText mode c t
    by (Some x) e =
        cond-elim (λ (y : Result ℕ Refusal). y ≡ Ok t → SaysText mode c t) (eqb x.len 0) (Err Refusal.Letters) (Ok x.len) (λ _ q. absurd cc)
        (λ n q. let z : x.len ≡ t = cc in
        let w = word-is mode c x.start x.len e in
        let nz : x.len ≡ 0 → ⊥ = eqb-false x.len 0 n in
        record { counted = sym w.2 ∙ z; some = omega arith; most = omega (arith, w.0); spelt = λ m. (word-exact c x.start x.len (rw m at e)).0 })
    by None e = λ q. absurd cc

-- a field's number is in its range
pub field-ranged : (mode : Mode) (p : ℕ) (c : List ℕ) (t : ℕ) → length c ≤ 255 → lex_of mode (want_at p) c ≡ Ok t → in_range (want_at p) (cell_of (want_at p) t) ≡ true
unfolding want_at in_range
field-ranged mode p c t h =
    let Q : Want → Type 0 = λ w. lex_of mode w c ≡ Ok t → in_range w (cell_of w t) ≡ true in
    cond-elim Q (eqb p 9) _ _
    (λ _ q. let s = text_says mode c t q in and_both (leb 1 t) (leb t 255) (le-leb 1 t s.some) (le-leb t 255 (omega (arith, s.most))))
    (λ _. cond-elim Q (leb 4 p && leb p 8) _ _ (λ _ q. (real-says mode c t q).within) (λ _ q. and_both (leb 0 t) (leb t 9999) (le-leb 0 t (omega arith)) (le-leb t 9999 (int-says mode c t q).most)))

-- and in exact mode its text is the content
pub field-spelt : (mode : Mode) (p : ℕ) (c : List ℕ) (t : ℕ) (o : Tables) → mode ≡ Exact → lex_of mode (want_at p) c ≡ Ok t → cell_at o p ≡ cell_of (want_at p) t
    → (p ≡ letters_place → letters_of o ≡ trimmed c) → field_text o p (want_at p) ≡ c
unfolding want_at
field-spelt mode p c t o m =
    let Q : Want → Type 0 = λ w. lex_of mode w c ≡ Ok t → cell_at o p ≡ cell_of w t → (p ≡ letters_place → letters_of o ≡ trimmed c) → field_text o p w ≡ c in
    cond-elim Q (eqb p 9) _ _
    (λ e q f g. g (eqb-true p 9 e) ∙ (text_says mode c t q).spelt m)
    (λ _. cond-elim Q (leb 4 p && leb p 8) _ _ (λ _ q f g. rw f ((real-says mode c t q).spelt m)) (λ _ q f g. rw f ((int-says mode c t q).spelt m)))

-- a content and its line end, and what follows, in exact mode
pub line-spelt : (mode : Mode) (c d e xs ys : List ℕ) → mode ≡ Exact → LineEnd mode e → d ≡ c → xs ≡ ys → line d ++ xs ≡ c ++ (e ++ ys)
line-spelt mode c d e xs ys m (crlf q) f g = rw (f, g, q) (append_assoc c (13 ∷ 10 ∷ []) ys)
line-spelt mode c d e xs ys m (lf l q) f g = absurd (true≢false (sym (ap is_exact m) ∙ l))
