-- A point and three digits, taken as one number of four bytes. Assumes nothing.
use Rattle.std.proofs.Common.{◌≡◌, ℕ, ◌+◌, ◌-◌, ◌*◌, ◌/◌, ◌%◌, ◌<◌, ◌≤◌, true, leb, List, length, get_or, take, drop, sym, ap, ◌∙◌, arith, length-drop, length-take-le, get_or-drop, get_or-take, leb-true}
use lib.Bits.{bit_and, and_block, and_mask, and_zero_r}
use Rattle.laws.specs.Lists.{run}
use Rattle.number.specs.Number.{digit}
use Rattle.number.proofs.IntegerWays.{digit-is}
use Rattle.quick.specs.Neighbours.{Tailed}
use Rattle.quick.proofs.Twelve.{nine}

-- the first half of a byte
high : (b : ℕ) → b < 256 → bit_and b 240 ≡ 16 * (b / 16)
high b h =
    let e : b ≡ b / 16 * 16 + b % 16 = omega arith in
    ap (λ (x : ℕ). bit_and x 240) e
    ∙ and_block 4 (b / 16) 15 (b % 16) 0 (omega arith) (omega arith)
    ∙ rw (and_mask (b / 16) 4, and_zero_r (b % 16)) (omega arith)

-- four bytes as one number
abbrev four : ℕ → ℕ → ℕ → ℕ → ℕ
four a b c d = a + 256 * (b + 256 * (c + 256 * d))

-- one lane of `&`
lane : (b w k m : ℕ) → b < 256 → k < 256 → bit_and (b + 256 * w) (m * 256 + k) ≡ bit_and b k + 256 * bit_and w m
lane b w k m h l =
    let e : b + 256 * w ≡ w * 256 + b = omega arith in
    rw e (and_block 8 w m b k h l ∙ omega arith)

-- the first byte, and the first halves of the others
fixed : (a b c d : ℕ) → a < 256 → b < 256 → c < 256 → d < 256 → bit_and (four a b c d) 0xF0F0F0FF ≡ four a (16 * (b / 16)) (16 * (c / 16)) (16 * (d / 16))
fixed a b c d ha hb hc hd =
    let whole : bit_and a 255 ≡ a = and_mask a 8 ∙ omega arith in
    lane a (b + 256 * (c + 256 * d)) 255 0xF0F0F0 ha (omega arith)
    ∙ rw (lane b (c + 256 * d) 240 0xF0F0 hb (omega arith), lane c d 240 240 hc (omega arith), whole, high b hb, high c hc, high d hd)

-- lane by lane
alike : (a b c d : ℕ) → a < 256 → b < 16 → c < 16 → d < 16 → four a (16 * b) (16 * c) (16 * d) ≡ 0x3030302E → (a ≡ 46) × (b ≡ 3) × (c ≡ 3) × (d ≡ 3)
alike a b c d ha hb hc hd e = (omega arith, omega arith, omega arith, omega arith)

-- the two tests of one lane: 48 .. 63, and not past 57
nine-most : (b : ℕ) → b / 16 ≡ 3 → (b + 6) / 16 ≡ 3 → digit b ≡ true
nine-most b e f = digit-is b (omega arith) (omega arith)

-- what the two tests tell
module _ (a b c d : ℕ) (ha : a < 256) (hb : b < 256) (hc : c < 256) (hd : d < 256)
    (t : bit_and (four a b c d) 0xF0F0F0FF ≡ 0x3030302E) (u : bit_and (four a b c d + 0x06060600) 0xF0F0F0FF ≡ 0x3030302E) where
  point-places : (a ≡ 46) × (digit b ≡ true) × (digit c ≡ true) × (digit d ≡ true)
  point-places =
      let x = alike a (b / 16) (c / 16) (d / 16) ha (omega arith) (omega arith) (omega arith) (sym (fixed a b c d ha hb hc hd) ∙ t) in
      let lb : b + 6 < 256 = omega (arith, x.1) in
      let lc : c + 6 < 256 = omega (arith, x.2) in
      let ld : d + 6 < 256 = omega (arith, x.3) in
      let e : four a b c d + 0x06060600 ≡ four a (b + 6) (c + 6) (d + 6) = omega arith in
      let v : bit_and (four a (b + 6) (c + 6) (d + 6)) 0xF0F0F0FF ≡ 0x3030302E = rw e at u in
      let y = alike a ((b + 6) / 16) ((c + 6) / 16) ((d + 6) / 16) ha (omega arith) (omega arith) (omega arith) (sym (fixed a (b + 6) (c + 6) (d + 6) ha lb lc ld) ∙ v) in
      (x.0, nine-most b x.1 y.1, nine-most c x.2 y.2, nine-most d x.3 y.3)

-- a byte of a record
pub twelve : (s : List ℕ) (at i : ℕ) → i < 12 → get_or (take 12 (drop at s)) i 0 ≡ get_or s (at + i) 0
twelve s at i h = get_or-take 12 (drop at s) i 0 h ∙ get_or-drop at s i 0

-- the way of `is_tailed`
module _ (s : List ℕ) (at width end y : ℕ) (h : at + 14 ≤ length s) (bytes : (i : ℕ) → get_or s i 0 < 256)
    (w : y ≡ four (get_or s (at + 8) 0) (get_or s (at + 9) 0) (get_or s (at + 10) 0) (get_or s (at + 11) 0))
    (t : bit_and y 0xF0F0F0FF ≡ 0x3030302E) (u : bit_and (y + 0x06060600) 0xF0F0F0FF ≡ 0x3030302E) where
  at_places : (get_or s (at + 8) 0 ≡ 46) × (digit (get_or s (at + 9) 0) ≡ true) × (digit (get_or s (at + 10) 0) ≡ true) × (digit (get_or s (at + 11) 0) ≡ true)
  at_places = point-places (get_or s (at + 8) 0) (get_or s (at + 9) 0) (get_or s (at + 10) 0) (get_or s (at + 11) 0) (bytes (at + 8)) (bytes (at + 9)) (bytes (at + 10)) (bytes (at + 11)) (rw w at t) (rw w at u)

  three-places : run digit (drop 9 (take 12 (drop at s))) ≡ 3
  unfolding run
  three-places =
      let l : length (take 12 (drop at s)) ≡ 12 = length-take-le 12 (drop at s) (omega (arith, length-drop at s)) in
      rw (nine (take 12 (drop at s)) l, twelve s at 9 (omega arith), twelve s at 10 (omega arith), twelve s at 11 (omega arith), at_places.1, at_places.2, at_places.3)

  pub tailed-is : get_or s (at + 12) 0 ≡ end → get_or s (at + (width - 1)) 0 ≡ 10 → leb 48 (get_or s (at + 7) 0) ≡ true → Tailed s at width end
  tailed-is e l f = record { units = leb-true 48 (get_or s (at + 7) 0) f; point = at_places.0; places = three-places; ender = e; last = l }

pub ruleset is_tailed_ways = (tailed-is)
