-- What a record stores is the value of its content: document 01, "Sheet tables" and "Records". A token lifts a real so that it is never below 0;
-- nothing that is stored shows it, and two tokens of reals are equal exactly where the reals are (`same-real`). Assumes nothing.
use mathlib.Core.Path.{◌≡◌, refl, sym, ◌∙◌, ap, subst}
use mathlib.Core.List.{List, [], ◌∷◌, ◌++◌}
use mathlib.Core.Bool.{Bool, true, false, cond}
use Prim.Native.Nat.{ℕ}
use lib.ListN.{length}
use lib.Dec.{eqb}
use lib.IntN.{ℤ, pos}
use Rattle.std.specs.Prelude.{Option, Some, None, Result, Ok, Err}
use Rattle.record.specs.declared.Mode.{Mode}
use Rattle.record.specs.declared.refusal.Refusal.{Refusal}
use Rattle.number.specs.declared.Word.{Word}
use Rattle.number.specs.Words.{trimmed, word_at, word_of}
use Rattle.number.specs.Number.{integer_of, real_of}
use Rattle.number.proofs.NumberLaws.{real-in}
use Rattle.number.proofs.WordLaws.{word-is}
use Rattle.token.specs.declared.Want.{Want}
use Rattle.token.specs.declared.Want.TheVariants.{Text, Int, Real}
use Rattle.token.specs.Lex.{lift, unlift, of_text, of_whole, of_decimal, lex_of}
use Rattle.token.proofs.TokenLaws.{lift-unlift}
use Rattle.kinds.specs.Kinds.{letters_place, want_at}
use Rattle.machine.specs.declared.Ring.{Ring}
use Rattle.machine.specs.declared.State.TheVariants.{Field, Island, X, Y}
use Rattle.machine.specs.Machine.{want_of}
use Rattle.sheet.specs.Tables.{Tables, cell_of, set_last, put}

module _ (mode : Mode) (c : List ℕ) (t : ℕ) where
  -- what a content says where a real, an integer or letters are wanted
  real-said : lex_of mode Real c ≡ Ok t → (z : ℤ) × (real_of mode c ≡ Some z) × (unlift t ≡ z)
  unfolding lex_of
  real-said q = by (real_of mode c) refl q
    where
      by : (d : Option ℤ) → real_of mode c ≡ d → of_decimal d ≡ Ok t → (z : ℤ) × (real_of mode c ≡ Some z) × (unlift t ≡ z)
      by (Some z) e q =
          let l : lift z ≡ t = cc in
          (z, e, ap unlift (sym l) ∙ lift-unlift z (real-in mode c z e))
      by None e q = absurd cc

  integer-said : lex_of mode Int c ≡ Ok t → integer_of mode c ≡ Some t
  unfolding lex_of
  integer-said q = by (integer_of mode c) q
    where
      by : (d : Option ℕ) → of_whole d ≡ Ok t → d ≡ Some t
      by (Some n) q = cc
      by None q = absurd cc

  letters-said : lex_of mode Text c ≡ Ok t → t ≡ length (trimmed c)
  unfolding lex_of
  letters-said q = by (word_of mode c) refl q
    where
      some : (start len : ℕ) → word_of mode c ≡ word_at start len → (x : Bool) → cond x (Err Refusal.Letters) (Ok len) ≡ Ok t → t ≡ length (trimmed c)
      some start len e true q = absurd cc
      some start len e false q = let l : t ≡ len = cc in l ∙ (word-is mode c start len e).2

      by : (w : Option Word) → word_of mode c ≡ w → of_text w ≡ Ok t → t ≡ length (trimmed c)
      by (Some w) e q = some w.start w.len e (eqb w.len 0) q
      by None e q = absurd cc

  -- ---- what is stored, by what is due

  module _ (o : Tables) where
    -- **a vertex**: its x, and its y, is the real of its record
    pub stored-x : (r : Ring) → lex_of mode (want_of (X r)) c ≡ Ok t → (z : ℤ) × (real_of mode c ≡ Some z) × ((put (X r) t c o).points ≡ o.points ++ z ∷ [])
    unfolding put want_of
    stored-x r q = let (z, e, u) = real-said q in (z, e, ap (λ (y : ℤ). o.points ++ y ∷ []) u)

    pub stored-y : (r : Ring) (x : ℕ) → lex_of mode (want_of (Y r x)) c ≡ Ok t → (z : ℤ) × (real_of mode c ≡ Some z) × ((put (Y r x) t c o).points ≡ o.points ++ z ∷ [])
    unfolding put want_of
    stored-y r x q = let (z, e, u) = real-said q in (z, e, ap (λ (y : ℤ). o.points ++ y ∷ []) u)

    -- **an island count** is the integer of its record
    pub stored-island : (l s r : ℕ) → lex_of mode (want_of (Island l s r)) c ≡ Ok t → (n : ℕ) × (integer_of mode c ≡ Some n) × ((put (Island l s r) t c o).islands ≡ o.islands ++ n ∷ [])
    unfolding put want_of
    stored-island l s r q = (t, integer-said q, refl)

    module _ (kind p i : ℕ) (q : lex_of mode (want_of (Field kind p i)) c ≡ Ok t) where
      -- **a real of a row**: angle, x, y, second x, second y
      pub stored-real : want_at p ≡ Real → (z : ℤ) × (real_of mode c ≡ Some z) × ((put (Field kind p i) t c o).rows ≡ set_last o.rows p z)
      unfolding put want_of
      stored-real w =
          let (z, e, u) = real-said (subst (λ (v : Want). lex_of mode v c ≡ Ok t) w q) in
          (z, e, ap (set_last o.rows p) (ap (λ (v : Want). cell_of v t) w ∙ u))

      -- **an integer of a row**: code, size, islands, vertices
      pub stored-integer : want_at p ≡ Int → (n : ℕ) × (integer_of mode c ≡ Some n) × ((put (Field kind p i) t c o).rows ≡ set_last o.rows p (pos n))
      unfolding put want_of
      stored-integer w =
          (t, integer-said (subst (λ (v : Want). lex_of mode v c ≡ Ok t) w q), ap (set_last o.rows p) (ap (λ (v : Want). cell_of v t) w))

    -- **letters**: the content without the blanks at its ends, and their count
    pub stored-letters : (kind i : ℕ) → lex_of mode (want_of (Field kind letters_place i)) c ≡ Ok t
        → ((put (Field kind letters_place i) t c o).letters ≡ o.letters ++ trimmed c) × ((put (Field kind letters_place i) t c o).rows ≡ set_last o.rows letters_place (pos (length (trimmed c))))
    unfolding put want_of want_at
    stored-letters kind i q = (refl, ap (λ (n : ℕ). set_last o.rows letters_place (pos n)) (letters-said q))

-- **a ring is judged by its reals**: two records say one token exactly where they have one value
pub same-real : (mode : Mode) (c c' : List ℕ) (t t' : ℕ) → lex_of mode Real c ≡ Ok t → lex_of mode Real c' ≡ Ok t'
    → (t ≡ t' → real_of mode c ≡ real_of mode c') × (real_of mode c ≡ real_of mode c' → t ≡ t')
unfolding lex_of
same-real mode c c' t t' q q' = (
  λ e. let (z, f, u) = real-said mode c t q in
      let (z', f', u') = real-said mode c' t' q' in
      f ∙ ap Some (sym u ∙ ap unlift e ∙ u') ∙ sym f',
  λ e. say-is (sym q ∙ ap of_decimal e ∙ q'),
)
  where
    say-is : ◌≡◌ {A = Result ℕ Refusal} (Ok t) (Ok t') → t ≡ t'
    say-is e = cc
