-- The ways through the functions of a token, each with what the code has in hand there. Assumes nothing.
use Prim.Native.Nat.{ℕ, zero, suc, ◌+◌, ◌-◌, ◌*◌, ◌≤◌, ◌<◌}
use mathlib.Core.Path.{◌≡◌, refl, sym, ◌∙◌, ap}
use mathlib.Core.List.{List, [], ◌∷◌}
use mathlib.Core.Bool.{Bool, true, false, cond, ◌&&◌}
use native.Mathlib.Omega.{arith}
use lib.ListN.{length, get_or, take, drop, get_or-eq_default}
use lib.Seq.{take-append_seam, get_or-append_seam}
use lib.Dec.{T, leb, eqb}
use lib.IntN.{ℤ, pos, negsuc, ◌-ℤ◌, nat_abs}
use lib.Signed.{le_z, lt_z, non_neg}
use mir.Syntax.{w64}
use mir.Val.{Fits, SFits, to_z, of_z}
use mir.ValLaws.{to_z-of_z}
use borrow.Author.Tests.{eq-eqb, ne_eqb, le-leb, lt-leb, le-ltb, ltb-true, ltb-false, leb-true, leb-false}
use Rattle.std.specs.Prelude.{Option, Some, Ok, Err}
use Rattle.std.specs.List.{IsLastAndRest}
use Rattle.laws.specs.Lists.{same, place, below, packed_at, packed}
use Rattle.laws.specs.Text.{text}
use Rattle.laws.proofs.Choice.{and_left, and_right, false≢true}
use Rattle.laws.proofs.ListLaws.{place_is}
use Rattle.laws.proofs.Packed.{packed-from, packed-to, packed-is}
use Rattle.record.specs.declared.Mode.{Mode}
use Rattle.record.specs.Record.{word_eof}
use Rattle.record.specs.declared.refusal.Refusal.{Refusal}
use Rattle.record.specs.declared.refusal.Refusal.TheVariants as Refusal
use Rattle.number.specs.declared.Word.{Word}
use Rattle.number.specs.Words.{word_of}
use Rattle.number.proofs.WordLaws.{word-is}
use Rattle.token.specs.Lex.{lift, keywords, kind_most, may_lie_outside, unmarked, is_marked, key_of}

-- ---- the keywords as the code has them

abbrev words : List ℕ
words = text "BORDOTESTOSIMBOLOFIDUCIALELINEARIFERIMENTO_RASTERLIBRETTO"

abbrev starts : List ℕ
starts = 0 ∷ 5 ∷ 10 ∷ 17 ∷ 26 ∷ 31 ∷ 49 ∷ 57 ∷ []

words-packed : packed words starts keywords ≡ true
unfolding packed below packed_at keywords same
words-packed = refl

module _ (k : ℕ) (h : k < kind_most) where
  pub word-from : get_or starts k 0 ≤ get_or starts (k + 1) 0
  unfolding keywords
  word-from = packed-from words starts keywords words-packed k h

  pub word-to : get_or starts (k + 1) 0 ≤ length words
  unfolding keywords
  word-to = packed-to words starts keywords words-packed k h

  pub word-part : take (get_or starts (k + 1) 0 - get_or starts k 0) (drop (get_or starts k 0) words) ≡ get_or keywords k []
  unfolding keywords
  word-part = packed-is words starts keywords words-packed k h

-- ---- the kind of a keyword

module _ (w : List ℕ) (r1 : Bool) (e1 : r1 ≡ same w (text "BORDO")) where
  pub kind_1 : r1 ≡ true → 1 ≡ place 1 keywords w
  unfolding place keywords
  kind_1 t = rw (← e1, t)

  module _ (f1 : r1 ≡ false) (r2 : Bool) (e2 : r2 ≡ same w (text "TESTO")) where
    pub kind_2 : r2 ≡ true → 2 ≡ place 1 keywords w
    unfolding place keywords
    kind_2 t = rw (← e1, f1, ← e2, t)

    module _ (f2 : r2 ≡ false) (r3 : Bool) (e3 : r3 ≡ same w (text "SIMBOLO")) where
      pub kind_3 : r3 ≡ true → 3 ≡ place 1 keywords w
      unfolding place keywords
      kind_3 t = rw (← e1, f1, ← e2, f2, ← e3, t)

      module _ (f3 : r3 ≡ false) (r4 : Bool) (e4 : r4 ≡ same w (text "FIDUCIALE")) where
        pub kind-4 : r4 ≡ true → 4 ≡ place 1 keywords w
        unfolding place keywords
        kind-4 t = rw (← e1, f1, ← e2, f2, ← e3, f3, ← e4, t)

        module _ (f4 : r4 ≡ false) (r5 : Bool) (e5 : r5 ≡ same w (text "LINEA")) where
          pub kind-5 : r5 ≡ true → 5 ≡ place 1 keywords w
          unfolding place keywords
          kind-5 t = rw (← e1, f1, ← e2, f2, ← e3, f3, ← e4, f4, ← e5, t)

          module _ (f5 : r5 ≡ false) (r6 : Bool) (e6 : r6 ≡ same w (text "RIFERIMENTO_RASTER")) where
            pub kind-6 : r6 ≡ true → 6 ≡ place 1 keywords w
            unfolding place keywords
            kind-6 t = rw (← e1, f1, ← e2, f2, ← e3, f3, ← e4, f4, ← e5, f5, ← e6, t)

            module _ (f6 : r6 ≡ false) (r7 : Bool) (e7 : r7 ≡ same w (text "LIBRETTO")) where
              pub kind-7 : r7 ≡ true → 7 ≡ place 1 keywords w
              unfolding place keywords
              kind-7 t = rw (← e1, f1, ← e2, f2, ← e3, f3, ← e4, f4, ← e5, f5, ← e6, f6, ← e7, t)

              pub kind_0 : r7 ≡ false → 0 ≡ place 1 keywords w
              unfolding place keywords
              kind_0 t = rw (← e1, f1, ← e2, f2, ← e3, f3, ← e4, f4, ← e5, f5, ← e6, f6, ← e7, t)

pub ruleset kind_ways = (kind_1, kind_2, kind_3, kind-4, kind-5, kind-6, kind-7, kind_0)

pub kind-most : (w : List ℕ) → place 1 keywords w ≤ kind_most
unfolding keywords
kind-most w = go (place 1 keywords w) (λ h. (place_is 1 keywords w h).1)
  where
    go : (n : ℕ) → (0 < n → n < kind_most + 1) → n ≤ kind_most
    go zero f = omega arith
    go (suc n) f = omega (arith, f (omega arith))

-- ---- a keyword with a final `\`

module _ (w : List ℕ) where
  abbrev last : ℕ
  last = get_or w (length w - 1) 0

  abbrev marked_kind : ℕ
  marked_kind = cond (is_marked w) (place 1 keywords (unmarked w)) 0

  pub marked_other : (last ≡ 92 → ⊥) → 0 ≡ marked_kind
  unfolding is_marked
  marked_other h = rw (ne_eqb last 92 h)

  pub marked_empty : length w ≡ 0 → 0 ≡ marked_kind
  marked_empty h = marked_other (λ e. absurd (omega (arith, get_or-eq_default w 0 {n = length w - 1} (omega arith))))

  module _ (b : ℕ) (front : List ℕ) (p : IsLastAndRest w b front) where
    front-is : front ≡ take (length w - 1) w
    front-is =
        let n : length w - 1 ≡ length front = omega (arith, p.1) in
        rw n (rw p.0 (sym (take-append_seam front (b ∷ []))))

    last-is : last ≡ b
    last-is =
        let n : length w - 1 ≡ length front = omega (arith, p.1) in
        rw n (rw p.0 (get_or-append_seam front b [] 0))

    pub marked_unlike : (b ≡ 92 → ⊥) → 0 ≡ marked_kind
    marked_unlike h = marked_other (λ e. h (sym last-is ∙ e))

    module _ (h : b ≡ 92) (kind : ℕ) (q : kind ≡ place 1 keywords front) (r : Bool) (o : r ≡ may_lie_outside kind) where
      pub marked-inside : r ≡ false → 0 ≡ marked_kind
      unfolding is_marked unmarked
      marked-inside t = rw (eq-eqb last 92 (last-is ∙ h), ← front-is, ← q, ← o, t)

      pub marked-is : r ≡ true → kind ≡ marked_kind
      unfolding is_marked unmarked
      marked-is t = rw (eq-eqb last 92 (last-is ∙ h), ← front-is, ← q, ← o, t)

  -- a marked keyword lies outside, so its kind is 2 to 5
  pub marked-kind : is_marked w ≡ true → 2 ≤ place 1 keywords (unmarked w)
  unfolding is_marked may_lie_outside
  marked-kind e =
      let k = place 1 keywords (unmarked w) in
      leb-true 2 k (and_left (leb 2 k) (leb k 5) (and_right (eqb last 92) (leb 2 k && leb k 5) e))

  -- so its kind tells whether it is one
  marked_by : (m : ℕ) → m ≡ marked_kind → 0 < m → (is_marked w ≡ true) × (m ≡ place 1 keywords (unmarked w))
  marked_by m q h = go (is_marked w) refl q
    where
      go : (x : Bool) → is_marked w ≡ x → m ≡ cond x (place 1 keywords (unmarked w)) 0 → (is_marked w ≡ true) × (m ≡ place 1 keywords (unmarked w))
      go true e r = (e, r)
      go false e r = absurd (omega arith)

  marked-not : (m : ℕ) → m ≡ marked_kind → m ≤ 0 → is_marked w ≡ false
  marked-not m q h = go (is_marked w) refl q
    where
      go : (x : Bool) → is_marked w ≡ x → m ≡ cond x (place 1 keywords (unmarked w)) 0 → is_marked w ≡ false
      go true e r = absurd (omega (arith, marked-kind e))
      go false e r = e

  pub marked-fits : (m : ℕ) → m ≡ marked_kind → Fits w64 (2 * m + 1)
  marked-fits m q = go (is_marked w) q
    where
      go : (x : Bool) → m ≡ cond x (place 1 keywords (unmarked w)) 0 → Fits w64 (2 * m + 1)
      go true r = record { fits = omega (arith, kind-most (unmarked w)) }
      go false r = record { fits = omega arith }

  pub marked-doubled : (m : ℕ) → m ≡ marked_kind → Fits w64 (2 * m)
  marked-doubled m q = record { fits = omega (arith, (marked-fits m q).fits) }

pub ruleset marked_ways = (marked_empty, marked_unlike, marked-inside, marked-is)

-- ---- a word where a keyword is due

module _ (w : List ℕ) (r : Bool) (e : r ≡ same w word_eof) where
  pub key-EOF : r ≡ true → Ok 0 ≡ key_of w
  unfolding key_of
  key-EOF t = rw (← e, t)

  module _ (f : r ≡ false) (kind : ℕ) (q : kind ≡ place 1 keywords w) where
    pub key-word : 0 < kind → Ok (2 * kind) ≡ key_of w
    unfolding key_of
    key-word h = rw (← e, f, ← q, le-leb 1 kind h)

    module _ (h : kind ≤ 0) (m : ℕ) (o : m ≡ marked_kind w) where
      pub key-marked : 0 < m → Ok (2 * m + 1) ≡ key_of w
      unfolding key_of
      key-marked l = let b = marked_by w m o l in rw (← e, f, ← q, lt-leb 1 kind (omega arith), b.0, ← b.1)

      pub key-none : m ≤ 0 → Err Refusal.Keyword ≡ key_of w
      unfolding key_of
      key-none l = rw (← e, f, ← q, lt-leb 1 kind (omega arith), marked-not w m o l)

pub key_fits : (w : List ℕ) (kind : ℕ) → kind ≡ place 1 keywords w → Fits w64 (2 * kind)
key_fits w kind q = record { fits = omega (arith, kind-most w) }

pub ruleset key_ways = (key-EOF, key_fits, key-word, marked-doubled, marked-fits, key-marked, key-none)

-- ---- a real as a token

abbrev bits : ℤ → ℤ
bits z = to_z w64 (of_z w64 z)

module _ (z : ℤ) (f : SFits w64 z) where
  held : bits z ≡ z
  held = to_z-of_z w64 z f

  pub lift-add : Fits w64 (nat_abs (bits z) + 10000000000)
  lift-add = rw held (go z f)
    where
      go : (y : ℤ) → SFits w64 y → Fits w64 (nat_abs y + 10000000000)
      go (pos n) g = record { fits = omega (arith, g.sfits) }
      go (negsuc n) g = record { fits = omega (arith, g.sfits) }

  module _ (t : le_z (pos 0) (bits z) ≡ true) where
    pub lift-cast : T (non_neg (bits z)) × Fits w64 (nat_abs (bits z))
    lift-cast = (rw held (go z (rw held at t)), record { fits = omega (arith, lift-add.fits) })
      where
        go : (y : ℤ) → le_z (pos 0) y ≡ true → T (non_neg y)
        go (pos n) e = tt
        go (negsuc n) e = absurd (false≢true e)

    pub lift-up : nat_abs (bits z) + 10000000000 ≡ lift z
    unfolding lift
    lift-up = rw held (go z (rw held at t))
      where
        go : (y : ℤ) → le_z (pos 0) y ≡ true → nat_abs y + 10000000000 ≡ lift y
        go (pos n) e = refl
        go (negsuc n) e = absurd (false≢true e)

  module _ (t : le_z (pos 0) (bits z) ≡ false) where
    pub lift-low : lt_z (bits z) (negsuc 9999999999) ≡ true → 0 ≡ lift z
    unfolding lift
    lift-low u = go z (rw held at t) (rw held at u)
      where
        go : (y : ℤ) → le_z (pos 0) y ≡ false → lt_z y (negsuc 9999999999) ≡ true → 0 ≡ lift y
        go (pos n) e l = absurd (omega (arith, leb-false 0 n e))
        go (negsuc n) e l = omega (arith, ltb-true 9999999999 n l)

    module _ (u : lt_z (bits z) (negsuc 9999999999) ≡ false) where
      from-least : (bits z -ℤ negsuc 9999999999 ≡ pos (lift z)) × (lift z < 10000000000)
      unfolding lift
      from-least = rw held (go z (rw held at t) (rw held at u))
        where
          go : (y : ℤ) → le_z (pos 0) y ≡ false → lt_z y (negsuc 9999999999) ≡ false → (y -ℤ negsuc 9999999999 ≡ pos (lift y)) × (lift y < 10000000000)
          go (pos n) e l = absurd (omega (arith, leb-false 0 n e))
          go (negsuc n) e l =
              let h = ltb-false 9999999999 n l in
              (rw (le-ltb 10000000000 (suc n) (omega arith)) (ap pos (omega arith)), omega arith)

      pub lift-sub : SFits w64 (bits z -ℤ negsuc 9999999999)
      lift-sub = rw from-least.0 (record { sfits = omega (arith, from-least.1) })

      down : bits (bits z -ℤ negsuc 9999999999) ≡ pos (lift z)
      down = to_z-of_z w64 (bits z -ℤ negsuc 9999999999) lift-sub ∙ from-least.0

      pub lift-cast-down : T (non_neg (bits (bits z -ℤ negsuc 9999999999))) × Fits w64 (nat_abs (bits (bits z -ℤ negsuc 9999999999)))
      lift-cast-down = rw down (tt, record { fits = omega (arith, from-least.1) })

      pub lift-down : nat_abs (bits (bits z -ℤ negsuc 9999999999)) ≡ lift z
      lift-down = ap nat_abs down

pub ruleset lift_ways = (lift-add, lift-cast, lift-up, lift-low, lift-sub, lift-cast-down, lift-down)

-- ---- a content, by what it is to be read as

module _ (mode : Mode) (c : List ℕ) (w : Option Word) (q : w ≡ word_of mode c) (x : Word) (e : w ≡ Some x) where
  pub word_in : x.start + x.len ≤ length c
  word_in = (word-is mode c x.start x.len (sym q ∙ e)).0
