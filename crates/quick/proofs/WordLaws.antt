-- Twelve bytes that exact mode reads: what the first eight are worth as one number. Assumes nothing.
use Rattle.std.proofs.Common.{◌≡◌, ℕ, zero, suc, ◌+◌, ◌-◌, ◌*◌, ◌/◌, ◌%◌, ◌^◌, ◌<◌, ◌≤◌, true, false, leb, List, [], ◌∷◌, ◌++◌, length, get_or, take, drop, replicate, ℤ, pos, negsuc, nat_abs, sym, refl, ap, ◌∙◌, ap₂, append_assoc, arith, length-append, take_at, drop_at, eq-eqb, le-leb, leb-true}
use lib.Bits.{bit_and, and_mask}
use Rattle.laws.specs.Lists.{all}
use Rattle.laws.proofs.Choice.{and_left, and_right, false≢true}
use Rattle.laws.proofs.ListLaws.{left, all-each, all_append, all_alike, all-weaken}
use Rattle.std.specs.Prelude.{Some}
use Rattle.record.specs.declared.Mode.TheVariants.{Exact}
use Rattle.number.specs.Number.{digit, value, real_of, is_real}
use Rattle.number.proofs.NumberLaws.{real-in}
use Rattle.number.proofs.IntegerWays.{digit-from, digit-to}
use Rattle.token.specs.Lex.{lift}
use Rattle.spelling.specs.Spelling.{digits, places, aligned, minus, decimal, bare_real, real_text}
use Rattle.spelling.proofs.DigitLaws.{digits-all, digits_value, places-length, places-all, places-value}
use Rattle.spelling.proofs.SpellingLaws.{real-only, minus-none, in-plus, in-minus}
use Rattle.quick.specs.Seen.{word_of8, Valued}
use Rattle.quick.specs.Word.{marks_of, figures_of, number_of, Trusted}
use Rattle.quick.proofs.Twelve.{nine}
use Rattle.quick.proofs.Lanes.{mark, worth, lanes, ones, itself, byte, summed, slim, blend, lane-marks, lane-figures, lane-sum, lanes-alike, alike-lanes, eight-digits}

-- what a row of bytes is worth, after one that is worth `a`
unfoldable pub count : ℕ → List ℕ → ℕ
count a [] = a
count a (b ∷ s) = count (a * 10 + worth b) s

digit-mark : (b : ℕ) → 48 ≤ b → b ≤ 57 → mark b ≡ 1
digit-mark b h k = omega arith

pub digit-worth : (b : ℕ) → digit b ≡ true → worth b ≡ b - 48
unfolding worth
digit-worth b e =
    let h = digit-from b e in
    let k = digit-to b e in
    rw (digit-mark b h k) (and_mask b 4 ∙ omega arith)

count-digits : (a : ℕ) (s : List ℕ) → all digit s ≡ true → count a s ≡ value a s
unfolding all count value
count-digits a [] e = refl
count-digits a (b ∷ s) e =
    rw (digit-worth b (and_left (digit b) (all digit s) e)) (count-digits (a * 10 + (b - 48)) s (and_right (digit b) (all digit s) e))

count-blanks : (k : ℕ) (s : List ℕ) → count 0 (replicate k 32 ++ s) ≡ count 0 s
unfolding count worth
count-blanks zero s = refl
count-blanks (suc k) s = count-blanks k s

-- what stands before the point
unfoldable pub ahead : ℤ → List ℕ
ahead z = minus z ++ digits 8 (nat_abs z / 1000)

count-ahead : (z : ℤ) → count 0 (ahead z) ≡ count 0 (digits 8 (nat_abs z / 1000))
unfolding ahead minus count worth
count-ahead (pos a) = rw (minus-none a)
count-ahead (negsuc a) = refl

-- blanks, a minus or none, digits: what stands before the point
unfoldable pub led : ℤ → List ℕ
led z = replicate (12 - length (bare_real z)) 32 ++ ahead z

led-text : (z : ℤ) → real_text z ≡ led z ++ 46 ∷ places 3 (nat_abs z % 1000)
unfolding real_text aligned bare_real decimal led ahead
led-text z = simp append_assoc

led-count : (z : ℤ) → nat_abs z ≤ 99999999999 → count 0 (led z) ≡ nat_abs z / 1000
unfolding led
led-count z h =
    count-blanks (12 - length (bare_real z)) (ahead z) ∙ count-ahead z ∙ count-digits 0 (digits 8 (nat_abs z / 1000)) (digits-all 8 (nat_abs z / 1000))
    ∙ digits_value 8 (nat_abs z / 1000) (omega arith)

digit-slim : (b : ℕ) → digit b ≡ true → slim b ≡ true
digit-slim b e =
    let h = digit-from b e in
    let k = digit-to b e in
    rw (le-leb b 255 (omega arith), digit-worth b e, le-leb (b - 48) 9 (omega arith))

digit-summed : (b : ℕ) → digit b ≡ true → summed b ≡ true
digit-summed b e =
    let h = digit-from b e in
    let k = digit-to b e in
    rw (digit-worth b e, digit-mark b h k) (eq-eqb b (32 + 16 * 1 + (b - 48)) (omega arith))

ahead-slim : (z : ℤ) → all slim (ahead z) ≡ true
unfolding ahead minus all worth
ahead-slim (pos a) = rw (minus-none a) (all-weaken digit slim digit-slim (digits 8 (a / 1000)) (digits-all 8 (a / 1000)))
ahead-slim (negsuc a) = all-weaken digit slim digit-slim (digits 8 (suc a / 1000)) (digits-all 8 (suc a / 1000))

led-slim : (z : ℤ) → all slim (led z) ≡ true
unfolding led worth
led-slim z = let k = 12 - length (bare_real z) in rw (all_append slim (replicate k 32) (ahead z), all_alike slim k 32 refl, ahead-slim z)

led-plus : (a : ℕ) → all summed (led (pos a)) ≡ true
unfolding led ahead worth
led-plus a =
    let k = 12 - length (bare_real (pos a)) in
    rw (minus-none a, all_append summed (replicate k 32) (digits 8 (a / 1000)), all_alike summed k 32 refl)
    (all-weaken digit summed digit-summed (digits 8 (a / 1000)) (digits-all 8 (a / 1000)))

led-minus : (a : ℕ) → all summed (led (negsuc a)) ≡ false
unfolding led ahead minus worth all
led-minus a =
    let k = 12 - length (bare_real (negsuc a)) in
    rw (all_append summed (replicate k 32) (45 ∷ digits 8 (suc a / 1000)), all_alike summed k 32 refl)

-- ---- eight bytes

slim-byte : (b : ℕ) → slim b ≡ true → byte b ≡ true
slim-byte b e = and_left (leb b 255) (leb (worth b) 9) e

slim-most : (b : ℕ) (s : List ℕ) → all slim (b ∷ s) ≡ true → (worth b ≤ 9) × (all slim s ≡ true)
unfolding all
slim-most b s e =
    (leb-true (worth b) 9 (and_right (leb b 255) (leb (worth b) 9) (and_left (slim b) (all slim s) e)), and_right (slim b) (all slim s) e)

number-count : (a b c d e f g h : ℕ) → all slim (a ∷ b ∷ c ∷ d ∷ e ∷ f ∷ g ∷ h ∷ []) ≡ true
    → number_of (lanes worth (a ∷ b ∷ c ∷ d ∷ e ∷ f ∷ g ∷ h ∷ [])) ≡ count 0 (a ∷ b ∷ c ∷ d ∷ e ∷ f ∷ g ∷ h ∷ [])
unfolding number_of lanes count
number-count a b c d e f g h s =
    let pa = slim-most a (b ∷ c ∷ d ∷ e ∷ f ∷ g ∷ h ∷ []) s in
    let pb = slim-most b (c ∷ d ∷ e ∷ f ∷ g ∷ h ∷ []) pa.1 in
    let pc = slim-most c (d ∷ e ∷ f ∷ g ∷ h ∷ []) pb.1 in
    let pd = slim-most d (e ∷ f ∷ g ∷ h ∷ []) pc.1 in
    let pe = slim-most e (f ∷ g ∷ h ∷ []) pd.1 in
    let pf = slim-most f (g ∷ h ∷ []) pe.1 in
    let pg = slim-most g (h ∷ []) pf.1 in
    let ph = slim-most h [] pg.1 in
    eight-digits (worth a) (worth b) (worth c) (worth d) (worth e) (worth f) (worth g) (worth h) pa.0 pb.0 pc.0 pd.0 pe.0 pf.0 pg.0 ph.0 _
    (joined (worth a) (worth b) (worth c) (worth d) (worth e) (worth f) (worth g) (worth h) pa.0)
    ∙ horner (worth a) (worth b) (worth c) (worth d) (worth e) (worth f) (worth g) (worth h)
  where
    joined : (a b c d e f g h : ℕ) → a ≤ 9
        → (((((((((0 * 256 + h) * 256 + g) * 256 + f) * 256 + e) * 256 + d) * 256 + c) * 256 + b) * 256 + a) * 10)
        + ((((((((0 * 256 + h) * 256 + g) * 256 + f) * 256 + e) * 256 + d) * 256 + c) * 256 + b) * 256 + a) / 256
        ≡ (a + 256 * (b + 256 * (c + 256 * (d + 256 * (e + 256 * (f + 256 * (g + 256 * h))))))) * 10
        + (b + 256 * (c + 256 * (d + 256 * (e + 256 * (f + 256 * (g + 256 * h))))))
    joined a b c d e f g h p = omega arith

    horner : (a b c d e f g h : ℕ) → (10 * a + b) * 1000000 + (10 * c + d) * 10000 + (10 * e + f) * 100 + (10 * g + h)
        ≡ (((((((0 * 10 + a) * 10 + b) * 10 + c) * 10 + d) * 10 + e) * 10 + f) * 10 + g) * 10 + h
    horner a b c d e f g h = omega arith

module _ (c : List ℕ) (size : length c ≡ 12) where
  eight : take 8 c ≡ get_or c 0 0 ∷ get_or c 1 0 ∷ get_or c 2 0 ∷ get_or c 3 0 ∷ get_or c 4 0 ∷ get_or c 5 0 ∷ get_or c 6 0 ∷ get_or c 7 0 ∷ []
  eight =
      ap (take 8) (left c 0 0 (omega arith))
      ∙ rw (left c 1 0 (omega arith), left c 2 0 (omega arith), left c 3 0 (omega arith), left c 4 0 (omega arith), left c 5 0 (omega arith), left c 6 0 (omega arith), left c 7 0 (omega arith))

  eight-word : word_of8 c ≡ lanes itself (take 8 c)
  unfolding lanes
  eight-word = rw eight (omega arith)

  eight-ones : 72340172838076673 ≡ ones (take 8 c)
  unfolding ones
  eight-ones = rw eight

  module _ (s : all slim (take 8 c) ≡ true) (word m f : ℕ) (w : word ≡ word_of8 c) (km : m ≡ marks_of word) (kf : f ≡ figures_of word m) where
    bytes : all byte (take 8 c) ≡ true
    bytes = all-weaken slim byte slim-byte (take 8 c) s

    word-is : word ≡ lanes itself (take 8 c)
    word-is = w ∙ eight-word

    marks-are : m ≡ lanes mark (take 8 c)
    unfolding marks_of
    marks-are = km ∙ ap₂ (λ (x y : ℕ). bit_and (x / 16) y) word-is eight-ones ∙ lane-marks (take 8 c) bytes

    figures-are : f ≡ lanes worth (take 8 c)
    unfolding figures_of
    figures-are = kf ∙ ap₂ (λ (x y : ℕ). bit_and x (15 * y)) word-is marks-are ∙ lane-figures (take 8 c) bytes

    number_is : (n : ℕ) → n ≡ number_of f → n ≡ count 0 (take 8 c)
    number_is n e = e ∙ rw (figures-are, eight) (number-count (get_or c 0 0) (get_or c 1 0) (get_or c 2 0) (get_or c 3 0) (get_or c 4 0) (get_or c 5 0) (get_or c 6 0) (get_or c 7 0) (rw eight at s))

    sum_is : 0x2020202020202020 + 16 * m + f ≡ lanes blend (take 8 c)
    sum_is = omega (arith, marks-are, figures-are, eight-ones, lane-sum (take 8 c))

    sum-summed : word ≡ 0x2020202020202020 + 16 * m + f → all summed (take 8 c) ≡ true
    sum-summed e = alike-lanes (take 8 c) s (sym word-is ∙ e ∙ sum_is)

    summed-sum : all summed (take 8 c) ≡ true → word ≡ 0x2020202020202020 + 16 * m + f
    summed-sum e = word-is ∙ lanes-alike (take 8 c) e ∙ sym sum_is

-- ---- twelve bytes

most : (z : ℤ) → is_real z ≡ true → nat_abs z ≤ 99999999999
most (pos a) h = in-plus a h
most (negsuc a) h = omega (arith, in-minus a h)

module _ (c : List ℕ) (z : ℤ) (size : length c ≡ 12) (r : real_of Exact c ≡ Some z) where
  text : c ≡ led z ++ 46 ∷ places 3 (nat_abs z % 1000)
  text = real-only c z r ∙ led-text z

  led-length : length (led z) ≡ 8
  led-length = omega (arith, ap length text, length-append (led z) (46 ∷ places 3 (nat_abs z % 1000)), places-length 3 (nat_abs z % 1000))

  front-is : take 8 c ≡ led z
  front-is = ap (take 8) text ∙ take_at (led z) (46 ∷ places 3 (nat_abs z % 1000)) 8 led-length

  last-are : drop 9 c ≡ places 3 (nat_abs z % 1000)
  last-are =
      let e : led z ++ 46 ∷ places 3 (nat_abs z % 1000) ≡ (led z ++ (46 ∷ [])) ++ places 3 (nat_abs z % 1000) = sym (append_assoc (led z) (46 ∷ []) (places 3 (nat_abs z % 1000))) in
      ap (drop 9) (text ∙ e) ∙ drop_at (led z ++ (46 ∷ [])) (places 3 (nat_abs z % 1000)) 9 (omega (arith, led-length, length-append (led z) (46 ∷ [])))

  -- the last three are digits, each 48 too large
  three : get_or c 9 0 * 100 + get_or c 10 0 * 10 + get_or c 11 0 ≡ nat_abs z % 1000 + 5328
  unfolding value
  three =
      let p = places 3 (nat_abs z % 1000) in
      let l = get_or c 9 0 ∷ get_or c 10 0 ∷ get_or c 11 0 ∷ [] in
      let q : p ≡ l = sym last-are ∙ nine c size in
      let d : all digit l ≡ true = rw q at (places-all 3 (nat_abs z % 1000)) in
      let v : value 0 l ≡ nat_abs z % 1000 = rw q at (places-value 3 (nat_abs z % 1000) (omega arith)) in
      let low : (i : ℕ) → i < 3 → 48 ≤ get_or l i 0 = λ i h. digit-from (get_or l i 0) (all-each digit l i d h) in
      omega (arith, v, low 0 (omega arith), low 1 (omega arith), low 2 (omega arith))

-- ---- the ways of `word_value`

module _ (word x y z m f n a b d : ℕ) (km : m ≡ marks_of word) (kf : f ≡ figures_of word m) (kn : n ≡ number_of f) (ka : a ≡ x) (kb : b ≡ y) (kd : d ≡ z) where
  abbrev raw : ℕ
  raw = n * 1000 + (a * 100 + b * 10 + d)

  module _ (c : List ℕ) (r : ℤ) (size : length c ≡ 12) (w : word ≡ word_of8 c) (wx : x ≡ get_or c 9 0) (wy : y ≡ get_or c 10 0) (wz : z ≡ get_or c 11 0) (is : real_of Exact c ≡ Some r) where
    slims : all slim (take 8 c) ≡ true
    slims = rw (front-is c r size is) (led-slim r)

    raw-is : raw ≡ nat_abs r + 5328
    raw-is =
        let l = most r (real-in Exact c r is) in
        let e : n ≡ nat_abs r / 1000 = number_is c size slims word m f w km kf n kn ∙ ap (count 0) (front-is c r size is) ∙ led-count r l in
        omega (arith, three c r size is)

    sums : word ≡ 0x2020202020202020 + 16 * m + f → all summed (led r) ≡ true
    sums e = rw (front-is c r size is) at (sum-summed c size slims word m f w km kf e)

    summeds : all summed (led r) ≡ true → word ≡ 0x2020202020202020 + 16 * m + f
    summeds e = summed-sum c size slims word m f w km kf (rw (front-is c r size is) e)

  plus-lift : (r : ℤ) (v : ℕ) → v ≡ nat_abs r + 5328 → all summed (led r) ≡ true → v + 9999994672 ≡ lift r
  unfolding lift
  plus-lift (pos k) v e s = omega arith
  plus-lift (negsuc k) v e s = absurd (false≢true (sym (led-minus k) ∙ s))

  minus-lift : (r : ℤ) (v u : ℕ) → v ≡ nat_abs r + 5328 → is_real r ≡ true → u < 2 ^ 64 → (u + v) % 2 ^ 64 ≡ 10000005328 → (all summed (led r) ≡ true → ⊥) → u ≡ lift r
  unfolding lift
  minus-lift (pos k) v u e i l q s = absurd (s (led-plus k))
  minus-lift (negsuc k) v u e i l q s = omega (arith, in-minus k i)

  pub valued-plus : word ≡ 0x2020202020202020 + 16 * m + f → Valued word x y z (raw + 9999994672)
  valued-plus e = record { lifted = λ c r size w wx wy wz is. plus-lift r raw (raw-is c r size w wx wy wz is) (sums c r size w wx wy wz is e) }

  pub valued-minus : (u : ℕ) → (word ≡ 0x2020202020202020 + 16 * m + f → ⊥) → u < 2 ^ 64 → (u + raw) % 2 ^ 64 ≡ 10000005328 → Valued word x y z u
  valued-minus u e l q =
      record {
        lifted = λ c r size w wx wy wz is.
            minus-lift r raw u (raw-is c r size w wx wy wz is) (real-in Exact c r is) l q (λ s. e (summeds c r size w wx wy wz is s));
      }

-- the way of `trusted`
pub trusted-is : (c : List ℕ) (word v : ℕ) → length c ≡ 12 → word ≡ word_of8 c → Valued word (get_or c 9 0) (get_or c 10 0) (get_or c 11 0) v → Trusted c v
trusted-is c word v size w l = record { lifted = λ z r. l.lifted c z size w refl refl refl r }

pub ruleset trusted_ways = (trusted-is)

pub ruleset word_value_ways = (valued-plus, valued-minus)
