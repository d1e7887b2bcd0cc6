-- The ways through the functions that read a line: its parts, its figure, its date. Assumes nothing.
use Prim.Native.Nat.{ℕ, suc, ◌+◌, ◌-◌, ◌*◌, ◌/◌, ◌^◌, ◌≤◌, ◌<◌}
use mathlib.Core.Path.{◌≡◌, refl, sym, ap, ap₂, ◌∙◌}
use mathlib.Core.List.{List, [], ◌∷◌, ◌++◌, append_assoc, append-nil}
use mathlib.Core.Bool.{Bool, true, false, cond, not, ◌&&◌, ◌||◌}
use native.Mathlib.Nat.{pow-suc, pow-le-pow_right}
use native.Mathlib.Numerals.{add-one}
use native.Mathlib.Omega.{arith}
use lib.ListN.{length, get_or, take, drop, replicate, length-take, length-drop, length-replicate}
use lib.Seq.{take-add, drop-drop, length-take-le}
use lib.Dec.{leb, eqb, lit<}
use lib.IntN.{ℤ, pos, neg_ℤ, ◌-ℤ◌}
use lib.Signed.{mag}
use mir.Syntax.{w64}
use mir.Val.{SFits, to_z, of_z}
use mir.Facts.{to_z_pos}
use borrow.Author.Tests.{not-true, not-false, eqb-true, eqb-false, ne_eqb}
use Rattle.std.specs.List.{list_any}
use Rattle.laws.specs.Lists.{same, holds, tail, over}
use Rattle.laws.specs.Whole.{Within}
use Rattle.laws.proofs.Bits.{Holds, holds-bits, ask-sub, holds-sub, read-within, back}
use Rattle.laws.proofs.Parts.{diff, neg-P, neg-N, eq-parts}
use Rattle.laws.proofs.Bounds.{within-lit}
use Rattle.laws.proofs.ListLaws.{left, left-none, rest-is, same-short}
use Rattle.number.specs.Number.{value}
use Rattle.spelling.specs.Spelling.{aligned}
use Rattle.spelling.specs.Figures.{is_narrow, figure_text}
use Rattle.spelling.specs.Stored.{has_room, Stored}
use Rattle.spelling.proofs.FigureLaws.{figure-length}
use Rattle.sup.specs.Date.{is_date}
use Rattle.sup.specs.Lines.{left_field, fields_line, date_text}
use Rattle.sup.proofs.LineWays.{blanks-part, blank-size}
use Rattle.sup.proofs.DateWays.{date-eight}
use Rattle.supline.proofs.LineLaws.{fields-size, date-long}
use Rattle.supline.specs.Right.{line_from, right_field, figure_said, figure_in, date_in, is_fields, is_right_date}

-- ---- parts of the file

module _ (s : List ℕ) where
  past_end : (k : ℕ) → length s ≤ k → tail s (length s) ≡ drop k s
  past_end k h = rest-is s (length s) ∙ left-none s (length s) (omega arith) ∙ sym (left-none s k h)

  pub line-past : (k : ℕ) → length s / 23 < k → tail s (length s) ≡ line_from s k
  unfolding line_from
  line-past k h = past_end (23 * k) (omega arith)

  pub line-within : (k : ℕ) → k ≤ length s / 23 → 23 * k ≤ length s
  line-within k h = omega arith

  pub line-here : (k : ℕ) → tail s (23 * k) ≡ line_from s k
  unfolding line_from
  line-here k = rest-is s (23 * k)

  pub field-size : length (right_field s) ≤ 10
  unfolding right_field
  field-size = omega (arith, length-take 10 (drop 11 s))

-- ---- the digits of a field

-- n is what the first i bytes make: each adds at most 207
pub record Valued (s : List ℕ) (n i : ℕ) : Type 0 where
  pub within : i ≤ length s
  pub rest : value 0 s ≡ value n (drop i s)
  pub bound : n + 23 ≤ 23 * 10 ^ i

pub valued-start : (s : List ℕ) → Valued s 0 0
valued-start s = record { within = omega arith; rest = refl; bound = omega arith }

module _ {s : List ℕ} {n i : ℕ} (g : Valued s n i) (few : length s ≤ 10) where
  most : n + 23 ≤ 23 * 10 ^ 10
  most = omega (arith, g.bound, g.within, pow-le-pow_right {n = 10} (omega arith) {i = i} {j = 10} (omega (arith, g.within)))

  pub valued-end : length s ≤ i → (n ≡ value 0 s) × (n + 23 ≤ 23 * 10 ^ 10)
  unfolding value
  valued-end h = (sym (g.rest ∙ rw (left-none s i h)), most)

  pub valued-times : n * 10 < 2 ^ 64
  valued-times = omega (arith, most)

  module _ (h : i < length s) (d : ℕ) (e : d ≡ get_or s i 0 - 48) (small : get_or s i 0 < 256) where
    pub valued-plus : n * 10 + d < 2 ^ 64
    valued-plus = omega (arith, most)

    pub valued-on : Valued s (n * 10 + d) (i + 1)
    unfolding value
    valued-on =
        record {
          within = omega arith;
          rest = g.rest ∙ rw (left s i 0 h, e);
          bound = let p : 10 ^ suc i ≡ 10 ^ i * 10 = omega (arith, pow-suc 10 i) in let q : 10 ^ (i + 1) ≡ 10 ^ i * 10 = rw add-one p in omega (arith, g.bound, q);
        }

-- ---- its sign

-- the library's test for a byte, and the definition's
pub minus-any : (s : List ℕ) → list_any (λ y. eqb y 45) s ≡ holds s 45
unfolding holds
minus-any [] = refl
minus-any (a ∷ s) = ap₂ ◌||◌ (same-way a) (minus-any s)
  where
    same-way : (a : ℕ) → eqb a 45 ≡ eqb 45 a
    same-way a = go (eqb a 45) refl
      where
        go : (b : Bool) → eqb a 45 ≡ b → b ≡ eqb 45 a
        go true e = let z : a ≡ 45 = eqb-true a 45 e in rw z
        go false e = let n = eqb-false a 45 e in rw (ne_eqb 45 a (λ q. n (sym q)))

module _ (s : List ℕ) (n : ℕ) (e : (n ≡ value 0 s) × (n + 23 ≤ 23 * 10 ^ 10)) where
  pub said-small : n < 2 ^ 63
  said-small = omega (arith, e.1)

  bits_are : to_z w64 n ≡ pos n
  bits_are = to_z_pos w64 {n = n} said-small

  value-holds : Holds 230000000000 (pos n) n
  value-holds = record { near = record { within = omega (arith, e.1) }; reads = bits_are }

  nought-holds : Holds 0 (pos 0) 0
  nought-holds = holds-bits {n = 0} {b = 0} (within-lit tt)

  pub said-asks : SFits w64 (pos 0 -ℤ to_z w64 n)
  said-asks = ask-sub nought-holds value-holds (lit< tt)

  less-holds : Holds 230000000000 (pos 0 -ℤ pos n) (of_z w64 (pos 0 -ℤ to_z w64 n))
  less-holds = holds-sub nought-holds value-holds (lit< tt)

  module _ (b : Bool) (f : b ≡ holds s 45) where
    pub said-below : b ≡ true → (to_z w64 (of_z w64 (pos 0 -ℤ to_z w64 n)) ≡ figure_said s) × Within 230000000000 (to_z w64 (of_z w64 (pos 0 -ℤ to_z w64 n)))
    unfolding figure_said
    said-below t =
        (less-holds.reads ∙ rw (← f, t, ← e.0) (eq-parts (pos 0 -ℤ pos n) (neg_ℤ (pos n)) (omega (arith, diff (pos 0) (pos n), neg-P (pos n), neg-N (pos n)))), read-within less-holds)

    pub said-above : b ≡ false → (to_z w64 n ≡ figure_said s) × Within 230000000000 (to_z w64 n)
    unfolding figure_said
    said-above t = (bits_are ∙ rw (← f, t, ← e.0), read-within value-holds)

-- the figure of a line
module _ (s r : List ℕ) (e : r ≡ right_field s) where
  pub field-asks : length r ≤ 10
  field-asks = rw e (field-size s)

  pub figure-known : (z : ℤ) → (z ≡ figure_said r) × Within 230000000000 z → mag z < 2 ^ 63 → (to_z w64 (of_z w64 z) ≡ figure_in s) × Within 230000000000 (to_z w64 (of_z w64 z))
  unfolding figure_in
  figure-known z f m = (back z m ∙ f.0 ∙ ap figure_said e, rw (back z m) f.1)

-- ---- the form of a line

and_assoc : (p q r : Bool) → (p && (q && r)) ≡ ((p && q) && r)
and_assoc true q r = refl
and_assoc false q r = refl

same_parts : (a b x y : List ℕ) → length a ≡ length b → same (a ++ x) (b ++ y) ≡ (same a b && same x y)
unfolding same
same_parts [] [] x y l = refl
same_parts [] (c ∷ b) x y l = absurd (omega arith)
same_parts (c ∷ a) [] x y l = absurd (omega arith)
same_parts (c ∷ a) (d ∷ b) x y l = rw (same_parts a b x y (omega arith)) (and_assoc (eqb c d) (same a b) (same x y))

module _ (name right s : List ℕ) (ten : length right ≡ 10) where
  pub fields-short : length s < 23 → false ≡ is_fields name right s
  unfolding is_fields
  fields-short h = same-short (take 23 s) (fields_line name right) (λ e. omega (arith, length-take 23 s, fields-size name right))

  pub fields-long : 11 < length name → false ≡ is_fields name right s
  unfolding is_fields
  fields-long h = same-short (take 23 s) (fields_line name right) (λ e. omega (arith, length-take 23 s, fields-size name right))

  module _ (h : 23 ≤ length s) (k : length name ≤ 11) where
    abbrev size : ℕ
    size = length name

    line-cut : take 23 s ≡ take size s ++ (take (11 - size) (drop size s) ++ (take 10 (drop 11 s) ++ take 2 (drop 21 s)))
    line-cut =
        let a : 23 ≡ size + ((11 - size) + (10 + 2)) = omega arith in
        let b : size + (11 - size) ≡ 11 = omega arith in
        ap (λ (n : ℕ). take n s) a ∙ take-add size ((11 - size) + (10 + 2)) s
        ∙ ap (λ (x : List ℕ). take size s ++ x) (take-add (11 - size) (10 + 2) (drop size s)
        ∙ ap (λ (x : List ℕ). take (11 - size) (drop size s) ++ x) (rw (drop-drop (11 - size) size s, b) (take-add 10 2 (drop 11 s) ∙ rw (drop-drop 10 11 s))))

    line-built : fields_line name right ≡ name ++ (replicate (11 - size) 32 ++ (right ++ (13 ∷ 10 ∷ [])))
    unfolding fields_line left_field
    line-built = append_assoc (name ++ replicate (11 - size) 32) right (13 ∷ 10 ∷ []) ∙ append_assoc name (replicate (11 - size) 32) (right ++ (13 ∷ 10 ∷ []))

    abbrev first : Bool
    first = same (take size s) name

    abbrev second : Bool
    second = same (take (11 - size) (drop size s)) (take {A = ℕ} (11 - size) (replicate 11 32))

    abbrev third : Bool
    third = same (take (21 - 11) (drop 11 s)) right

    abbrev fourth : Bool
    fourth = same (take (23 - 21) (drop 21 s)) (13 ∷ 10 ∷ [])

    fields-are : is_fields name right s ≡ (first && (second && (third && fourth)))
    unfolding is_fields
    fields-are =
        let l1 : length (take size s) ≡ length name = omega (arith, length-take size s) in
        let l2 : length (take (11 - size) (drop size s)) ≡ length (replicate {A = ℕ} (11 - size) 32)
        = omega (arith, length-take (11 - size) (drop size s), length-drop size s, length-replicate {A = ℕ} (11 - size) 32) in
        let l3 : length (take 10 (drop 11 s)) ≡ length right = omega (arith, length-take 10 (drop 11 s), length-drop 11 s) in
        rw (line-cut, line-built, blanks-part (11 - size) (omega arith))
        (same_parts (take size s) name _ _ l1
        ∙ ap (λ (b : Bool). first && b) (same_parts (take (11 - size) (drop size s)) (replicate (11 - size) 32) _ _ l2
        ∙ ap (λ (b : Bool). same (take (11 - size) (drop size s)) (replicate (11 - size) 32) && b) (same_parts (take 10 (drop 11 s)) right _ _ l3)))

    pub name-part : size ≡ length (take size s)
    name-part = sym (length-take-le size s (omega arith))

    module _ (a : Bool) (ea : a ≡ first) where
      pub fields-first : not a ≡ true → false ≡ is_fields name right s
      fields-first t = sym (fields-are ∙ rw (← ea, not-true a t))

      module _ (ta : not a ≡ false) (b : Bool) (eb : b ≡ second) where
        pub fields-second : not b ≡ true → false ≡ is_fields name right s
        fields-second t = sym (fields-are ∙ rw (← ea, not-false a ta, ← eb, not-true b t))

        module _ (tb : not b ≡ false) (c : Bool) (ec : c ≡ third) where
          pub fields-third : not c ≡ true → false ≡ is_fields name right s
          fields-third t = sym (fields-are ∙ rw (← ea, not-false a ta, ← eb, not-false b tb, ← ec, not-true c t))

          pub fields-fourth : not c ≡ false → (d : Bool) → d ≡ fourth → d ≡ is_fields name right s
          fields-fourth t d ed = ed ∙ sym (fields-are ∙ rw (← ea, not-false a ta, ← eb, not-false b tb, ← ec, not-false c t))

-- ---- the right field that a line has to have

abbrev blanks : List ℕ
blanks = replicate 10 32

module _ (z : ℤ) (n : is_narrow z ≡ true) (m : mag z < 2 ^ 63) where
  pub figure-spelt : (r : Bool) → r ≡ (is_narrow (to_z w64 (of_z w64 z)) && leb 10 (length blanks)) → (o : List ℕ)
      → o ≡ cond r (over (figure_text (to_z w64 (of_z w64 z))) blanks) blanks → o ≡ figure_text z
  figure-spelt r e o f =
      let q : r ≡ true = e ∙ rw (back z m, n) in
      let w : drop (length (figure_text z)) blanks ≡ [] = left-none blanks (length (figure_text z)) (omega (arith, figure-length z n)) in
      f ∙ rw (q, back z m, w) (append-nil (figure_text z))

-- ---- the first line

module _ (name s : List ℕ) where
  short-by : length s < 23 → (b : Bool) → is_date (date_in s) ≡ b → false ≡ (b && is_fields name (date_text (date_in s)) s)
  short-by h false e = refl
  short-by h true e = fields-short name (date_text (date_in s)) s (date-long (date_in s) e) h

  pub date-short : length s < 23 → false ≡ is_right_date name s
  unfolding is_right_date
  date-short h = short-by h (is_date (date_in s)) refl

  module _ (b : Bool) (e : b ≡ is_date (take (21 - 13) (drop 13 s))) where
    pub date-bad : not b ≡ true → false ≡ is_right_date name s
    unfolding is_right_date date_in
    date-bad t = rw (← e, not-true b t)

    module _ (t : not b ≡ false) (d : List ℕ) (r : ℕ) (w : Stored blanks 2 (take (21 - 13) (drop 13 s)) d r) where
      date-good : is_date (take 8 (drop 13 s)) ≡ true
      date-good = sym e ∙ not-false b t

      date-field : d ≡ date_text (take 8 (drop 13 s))
      unfolding has_room date_text aligned
      date-field = let l = date-eight (take 8 (drop 13 s)) date-good in w.is ∙ rw l (append-nil (32 ∷ 32 ∷ take 8 (drop 13 s)))

      pub date-size : length d ≡ 10
      date-size = ap length date-field ∙ date-long (take 8 (drop 13 s)) date-good

      pub date-known : (x : Bool) → x ≡ is_fields name d s → x ≡ is_right_date name s
      unfolding is_right_date date_in
      date-known x q = q ∙ rw (date-good, date-field)

pub ruleset reading-ways = (line-past, line-here, valued-start, valued-end, valued-times, valued-plus, valued-on, said-small, said-asks, said-below, said-above, field-asks, figure-known)

pub ruleset fields-ways = (fields-short, fields-long, name-part, blank-size, fields-first, fields-second, fields-third, fields-fourth, figure-spelt, date-short, date-bad, date-size, date-known)
