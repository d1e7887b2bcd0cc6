-- A number as lanes of base 256, a byte in each: what `&` and sums do to all lanes at once. Assumes nothing.
use Rattle.std.proofs.Common.{◌≡◌, ℕ, ◌+◌, ◌*◌, ◌/◌, ◌%◌, ◌≤◌, Bool, true, ◌&&◌, eqb, leb, List, [], ◌∷◌, refl, ap, ◌∙◌, ap₂, arith, eq-eqb, eqb-true, leb-true}
use lib.Bits.{bit_and, and_block, and_mask}
use Rattle.laws.specs.Lists.{all}
use Rattle.laws.proofs.Choice.{and_left, and_right, and_both}

-- a byte's mark, its figure, and the sum that only a minus differs from
abbrev pub mark : ℕ → ℕ
mark b = b / 16 % 2

unfoldable pub worth : ℕ → ℕ
worth b = bit_and b (15 * mark b)

-- what f gives for each byte, a lane each, the first the lowest
unfoldable pub lanes : (ℕ → ℕ) → List ℕ → ℕ
lanes f [] = 0
lanes f (b ∷ s) = lanes f s * 256 + f b

unfoldable pub ones : List ℕ → ℕ
ones [] = 0
ones (b ∷ s) = ones s * 256 + 1

abbrev pub itself : ℕ → ℕ
itself b = b

abbrev pub byte : ℕ → Bool
byte b = leb b 255

mark-most : (b : ℕ) → mark b ≤ 1
mark-most b = omega arith

marks-on : (w b o : ℕ) → b ≤ 255 → bit_and ((w * 256 + b) / 16) (o * 256 + 1) ≡ bit_and (w / 16) o * 256 + mark b
marks-on w b o h =
    let e : (w * 256 + b) / 16 ≡ w / 16 * 256 + (w % 16 * 16 + b / 16) = omega arith in
    let m : (w % 16 * 16 + b / 16) % 2 ≡ b / 16 % 2 = omega arith in
    ap (λ (x : ℕ). bit_and x (o * 256 + 1)) e
    ∙ and_block 8 (w / 16) o (w % 16 * 16 + b / 16) 1 (omega arith) (omega arith)
    ∙ ap (λ (x : ℕ). bit_and (w / 16) o * 256 + x) (and_mask (w % 16 * 16 + b / 16) 1 ∙ m)

figures-on : (w b m : ℕ) → b ≤ 255 → bit_and (w * 256 + b) (15 * (m * 256 + mark b)) ≡ bit_and w (15 * m) * 256 + bit_and b (15 * mark b)
figures-on w b m h =
    let e : 15 * (m * 256 + mark b) ≡ 15 * m * 256 + 15 * mark b = omega arith in
    ap (λ (x : ℕ). bit_and (w * 256 + b) x) e
    ∙ and_block 8 w (15 * m) b (15 * mark b) (omega arith) (omega arith)

pub lane-marks : (s : List ℕ) → all byte s ≡ true → bit_and (lanes itself s / 16) (ones s) ≡ lanes mark s
unfolding all lanes ones
lane-marks [] e = refl
lane-marks (b ∷ s) e =
    marks-on (lanes itself s) b (ones s) (leb-true b 255 (and_left (byte b) (all byte s) e))
    ∙ ap (λ (x : ℕ). x * 256 + mark b) (lane-marks s (and_right (byte b) (all byte s) e))

pub lane-figures : (s : List ℕ) → all byte s ≡ true → bit_and (lanes itself s) (15 * lanes mark s) ≡ lanes worth s
unfolding all lanes worth
lane-figures [] e = refl
lane-figures (b ∷ s) e =
    figures-on (lanes itself s) b (lanes mark s) (leb-true b 255 (and_left (byte b) (all byte s) e))
    ∙ ap (λ (x : ℕ). x * 256 + bit_and b (15 * mark b)) (lane-figures s (and_right (byte b) (all byte s) e))

-- where no byte is a minus, each is the sum of 32, its mark and its figure; and the other way round
abbrev pub blend : ℕ → ℕ
blend b = 32 + 16 * mark b + worth b

abbrev pub summed : ℕ → Bool
summed b = eqb b (blend b)

-- a byte whose figure is a digit's
abbrev pub slim : ℕ → Bool
slim b = leb b 255 && leb (worth b) 9

pub lane-sum : (s : List ℕ) → 32 * ones s + 16 * lanes mark s + lanes worth s ≡ lanes blend s
unfolding lanes ones
lane-sum [] = refl
lane-sum (b ∷ s) = omega (arith, lane-sum s)

pub lanes-alike : (s : List ℕ) → all summed s ≡ true → lanes itself s ≡ lanes blend s
unfolding all lanes
lanes-alike [] e = refl
lanes-alike (b ∷ s) e =
    ap₂ (λ (x y : ℕ). x * 256 + y) (lanes-alike s (and_right (summed b) (all summed s) e)) (eqb-true b (blend b) (and_left (summed b) (all summed s) e))

lane-same : (w m x y : ℕ) → x ≤ 255 → y ≤ 255 → w * 256 + x ≡ m * 256 + y → (w ≡ m) × (x ≡ y)
lane-same w m x y h k e = (omega arith, omega arith)

pub alike-lanes : (s : List ℕ) → all slim s ≡ true → lanes itself s ≡ lanes blend s → all summed s ≡ true
unfolding all lanes
alike-lanes [] e q = refl
alike-lanes (b ∷ s) e q =
    let h = and_left (slim b) (all slim s) e in
    let x = leb-true b 255 (and_left (leb b 255) (leb (worth b) 9) h) in
    let y = leb-true (worth b) 9 (and_right (leb b 255) (leb (worth b) 9) h) in
    let k = lane-same (lanes itself s) (lanes blend s) b (blend b) x (omega (arith, mark-most b)) q in
    and_both (summed b) (all summed s) (eq-eqb b (blend b) k.1) (alike-lanes s (and_right (slim b) (all slim s) e) k.0)

-- eight digits, a lane each, to a number: what the two lowest give, and what is left
module _ (a b c t : ℕ) (p : a ≤ 9) (q : b ≤ 9) (r : c ≤ 9) where
  abbrev paired : ℕ
  paired = (a + 256 * (b + 256 * (c + 256 * t))) * 10 + (b + 256 * (c + 256 * t))

  pair-low : paired % 256 ≡ 10 * a + b
  pair-low = omega arith

  pair-rest : paired / 65536 ≡ (c + 256 * t) * 10 + t
  pair-rest = omega arith

far : (p : ℕ) → p / 4294967296 ≡ p / 65536 / 65536
far p = omega arith

farther : (p : ℕ) → p / 281474976710656 ≡ p / 65536 / 65536 / 65536
farther p = omega arith

pair-last : (g h : ℕ) → g ≤ 9 → h ≤ 9 → ((g + 256 * h) * 10 + h) % 256 ≡ 10 * g + h
pair-last g h p q = omega arith

module _ (a b c d e f g h : ℕ) (ha : a ≤ 9) (hb : b ≤ 9) (hc : c ≤ 9) (hd : d ≤ 9) (he : e ≤ 9) (hf : f ≤ 9) (hg : g ≤ 9) (hh : h ≤ 9) where
  pub eight-digits : (p : ℕ)
      → p ≡ (a + 256 * (b + 256 * (c + 256 * (d + 256 * (e + 256 * (f + 256 * (g + 256 * h))))))) * 10
      + (b + 256 * (c + 256 * (d + 256 * (e + 256 * (f + 256 * (g + 256 * h))))))
      → p % 256 * 1000000 + p / 65536 % 256 * 10000 + p / 4294967296 % 256 * 100 + p / 281474976710656 % 256
      ≡ (10 * a + b) * 1000000 + (10 * c + d) * 10000 + (10 * e + f) * 100 + (10 * g + h)
  eight-digits p w =
      let v : ℕ = d + 256 * (e + 256 * (f + 256 * (g + 256 * h))) in
      let l0 : p % 256 ≡ 10 * a + b = ap (λ (n : ℕ). n % 256) w ∙ pair-low a b c v ha hb hc in
      let r0 : p / 65536 ≡ (c + 256 * v) * 10 + v = ap (λ (n : ℕ). n / 65536) w ∙ pair-rest a b c v ha hb hc in
      let u : ℕ = f + 256 * (g + 256 * h) in
      let l1 : p / 65536 % 256 ≡ 10 * c + d = ap (λ (n : ℕ). n % 256) r0 ∙ pair-low c d e u hc hd he in
      let r1 : p / 65536 / 65536 ≡ (e + 256 * u) * 10 + u = ap (λ (n : ℕ). n / 65536) r0 ∙ pair-rest c d e u hc hd he in
      let l2 : p / 4294967296 % 256 ≡ 10 * e + f = ap (λ (n : ℕ). n % 256) (far p ∙ r1) ∙ pair-low e f g h he hf hg in
      let r2 : p / 65536 / 65536 / 65536 ≡ (g + 256 * h) * 10 + h = ap (λ (n : ℕ). n / 65536) r1 ∙ pair-rest e f g h he hf hg in
      let l3 : p / 281474976710656 % 256 ≡ 10 * g + h = ap (λ (n : ℕ). n % 256) (farther p ∙ r2) ∙ pair-last g h hg hh in
      rw (l0, l1, l2, l3) refl
