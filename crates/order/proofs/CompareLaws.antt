-- The order is total: it turns round, goes through, and what is alike compares alike. Assumes nothing.
use Prim.Native.Nat.{ℕ}
use mathlib.Core.Path.{◌≡◌, refl, sym, ap, ◌∙◌}
use mathlib.Core.List.{List, [], ◌∷◌}
use mathlib.Core.Bool.{true, false}
use Rattle.std.specs.declared.cmp.Ordering.{Ordering}
use Rattle.std.specs.declared.cmp.Ordering.TheVariants.{Less, Equal, Greater}
use Rattle.std.specs.Ordering.{ordering_reverse}
use Rattle.std.specs.Cmp.{IsTotalOrder}
use Rattle.std.proofs.lemmas.Cmp.{ranked, by_ranked, nat_cmp_total, int_cmp_total, nat_list_cmp_total}
use Rattle.order.specs.Compare.{or_else, is_before, by_number, by_whole, by_bytes}

abbrev pub turned : Ordering → Ordering
turned o = ordering_reverse o

pub record Total {A : Type 0} (f : A → A → Ordering) : Type 0 where
  pub turn : (a b : A) → f b a ≡ turned (f a b)
  pub through : (a b c : A) → f a b ≡ Less → f b c ≡ Less → f a c ≡ Less
  pub alike : (a b c : A) → f a b ≡ Equal → f a c ≡ f b c

-- ---- the library's orders are such

of_total : {A : Type 0} {f : A → A → Ordering} → IsTotalOrder f → Total f
of_total t = record { turn = λ a b. t.antisymm b a; through = t.trans; alike = t.congr }

pub number-total : Total by_number
number-total = of_total nat_cmp_total

pub whole-total : Total by_whole
whole-total = of_total int_cmp_total

pub bytes-total : Total by_bytes
bytes-total = of_total nat_list_cmp_total

-- ---- choices

or_turned : (x y : Ordering) → or_else (turned x) (turned y) ≡ turned (or_else x y)
or_turned Less y = refl
or_turned Equal y = refl
or_turned Greater y = refl

pub or_same : (x y : Ordering) → or_else x y ≡ Equal → (x ≡ Equal) × (y ≡ Equal)
or_same Less y e = absurd cc
or_same Equal y e = (refl, e)
or_same Greater y e = absurd cc

-- x, y and z are a to b, b to c and a to c; so are u, v and w, for the second question
or-through : (x y z u v w : Ordering) → (x ≡ Less → y ≡ Less → z ≡ Less) → (y ≡ Equal → z ≡ x) → (x ≡ Equal → z ≡ y)
    → (u ≡ Less → v ≡ Less → w ≡ Less) → or_else x u ≡ Less → or_else y v ≡ Less → or_else z w ≡ Less
or-through Less Less z u v w f g h k d e = rw (f refl refl)
or-through Less Equal z u v w f g h k d e = rw (g refl)
or-through Less Greater z u v w f g h k d e = absurd cc
or-through Equal Less z u v w f g h k d e = rw (h refl)
or-through Equal Equal z u v w f g h k d e = rw (h refl) (k d e)
or-through Equal Greater z u v w f g h k d e = absurd cc
or-through Greater y z u v w f g h k d e = absurd cc

-- what is alike on the right compares alike
pub alike_right : {A : Type 0} {f : A → A → Ordering} (t : Total f) (a b c : A) → f b c ≡ Equal → f a c ≡ f a b
alike_right {A} {f} t a b c e =
    let s : f c b ≡ Equal = t.turn b c ∙ ap turned e in
    let k : f c a ≡ f b a = t.alike c b a s in
    t.turn c a ∙ ap turned k ∙ sym (t.turn b a)

pub number-eq : (a b : ℕ) → by_number a b ≡ Equal → a ≡ b
number-eq a b e = by_ranked _ _ _ (by_number a b) (ranked a b (by_number a b) refl) (λ q h. absurd cc) (λ q h. h) (λ q h. absurd cc)

pub bytes_eq : (s t : List ℕ) → by_bytes s t ≡ Equal → s ≡ t
bytes_eq [] [] e = refl
bytes_eq [] (b ∷ t) e = absurd cc
bytes_eq (a ∷ s) [] e = absurd cc
bytes_eq (a ∷ s) (b ∷ t) e =
    let k = or_same (by_number a b) (by_bytes s t) e in
    let h : a ≡ b = number-eq a b k.0 in
    let l : s ≡ t = bytes_eq s t k.1 in cc

-- ---- by a key, and one question behind the other

pub by_key : {A B : Type 0} (k : A → B) {f : B → B → Ordering} → Total f → Total (λ (a b : A). f (k a) (k b))
by_key k t = record { turn = λ a b. t.turn (k a) (k b); through = λ a b c. t.through (k a) (k b) (k c); alike = λ a b c. t.alike (k a) (k b) (k c) }

pub by_both : {A : Type 0} {f g : A → A → Ordering} → Total f → Total g → Total (λ (a b : A). or_else (f a b) (g a b))
by_both {A} {f} {g} t u =
    record {
      turn = λ a b. rw (t.turn a b, u.turn a b) (or_turned (f a b) (g a b));
      through = λ a b c. or-through (f a b) (f b c) (f a c) (g a b) (g b c) (g a c) (t.through a b c) (alike_right t a b c) (t.alike a b c) (u.through a b c);
      alike = λ a b c e. let k = or_same (f a b) (g a b) e in rw (t.alike a b c k.0, u.alike a b c k.1);
    }

-- ---- as a test

module _ {A : Type 0} (f : A → A → Ordering) (t : Total f) where
  -- a is not behind b, and b not behind c
  pub not_through : (a b c : A) → is_before (f b a) ≡ false → is_before (f c b) ≡ false → is_before (f c a) ≡ false
  not_through a b c e d = go (f b a) (f c b) refl refl e d
    where
      go : (x y : Ordering) → f b a ≡ x → f c b ≡ y → is_before x ≡ false → is_before y ≡ false → is_before (f c a) ≡ false
      go Less y p q e d = absurd cc
      go Equal y p q e d = rw (alike_right t c b a p, q) d
      go Greater Less p q e d = absurd cc
      go Greater Equal p q e d = rw (t.alike c b a q, p)
      go Greater Greater p q e d =
          let m : f a b ≡ Less = t.turn b a ∙ ap turned p in
          let n : f b c ≡ Less = t.turn c b ∙ ap turned q in
          rw (t.turn a c, t.through a b c m n)

  pub not-both : (a b : A) → is_before (f a b) ≡ true → is_before (f b a) ≡ false
  not-both a b e = go (f a b) refl e
    where
      go : (x : Ordering) → f a b ≡ x → is_before x ≡ true → is_before (f b a) ≡ false
      go Less p e = rw (t.turn a b, p)
      go Equal p e = rw (t.turn a b, p)
      go Greater p e = absurd cc

  -- one of two comes before the other, or they are the same
  pub one-before : (a b : A) → (f a b ≡ Equal → ⊥) → is_before (f a b) ≡ false → is_before (f b a) ≡ true
  one-before a b n e = go (f a b) refl e
    where
      go : (x : Ordering) → f a b ≡ x → is_before x ≡ false → is_before (f b a) ≡ true
      go Less p e = absurd cc
      go Equal p e = absurd (n p)
      go Greater p e = rw (t.turn a b, p)
