-- Four bytes and a line end are an integer's record, in every mode. Assumes nothing.
use Rattle.std.proofs.Common.{◌≡◌, ℕ, ◌+◌, ◌-◌, ◌*◌, ◌%◌, ◌<◌, ◌≤◌, Bool, true, false, not, ◌&&◌, ◌||◌, eqb, leb, List, [], ◌∷◌, length, get_or, take, drop, sym, refl, ◌∙◌, arith, ne_eqb, eqb-true, le-leb, leb-true}
use borrow.Author.Tests.{not-false}
use Rattle.laws.specs.Lists.{run, all}
use Rattle.laws.proofs.Choice.{and_left, and_right}
use Rattle.laws.proofs.ListLaws.{left}
use Rattle.std.specs.Prelude.{Some}
use Rattle.record.specs.declared.Mode.{Mode}
use Rattle.record.specs.declared.Mode.TheVariants.{Exact}
use Rattle.record.specs.Record.{is_exact, plain}
use Rattle.record.specs.RecordView.{crlf, lf}
use Rattle.number.specs.Words.{unled}
use Rattle.number.specs.Number.{digit, value, ended, lean, integer_is, integer_at, integer_of}
use Rattle.number.proofs.IntegerWays.{digit-from, digit-to}
use Rattle.number.proofs.NumberLaws.{integer-widens}
use Rattle.token.specs.Lex.{lex_of}
use Rattle.quick.specs.Four.{lead, is_two, is_long, FourEnds}
use Rattle.quick.specs.Seen.{IntegerAt}
use Rattle.quick.proofs.Places.{line_at}

-- ---- the tests

pub digit-by : (b : ℕ) → (leb 48 b && leb b 57) ≡ digit b
digit-by b = refl

pub lead-by : (b : ℕ) → (leb 49 b && leb b 57) ≡ lead b
unfolding lead
lead-by b = refl

pub two-by : (c : ℕ) (y : Bool) → y ≡ lead c → (eqb c 32 || y) ≡ is_two c
unfolding is_two
two-by c y q = rw q

pub long-by : (a b c : ℕ) (x z w v : Bool) → x ≡ digit c → z ≡ lead b → w ≡ lead a → v ≡ digit b → (x && (eqb a 32 && z || w && v)) ≡ is_long a b c
unfolding is_long
long-by a b c x z w v p r s t = rw (p, r, s, t)

-- ---- four bytes that pass them

abbrev Digit : ℕ → Type 0
Digit b = (48 ≤ b) × (b ≤ 57)

abbrev Lead : ℕ → Type 0
Lead b = (49 ≤ b) × (b ≤ 57)

digit-of : (b : ℕ) → digit b ≡ true → Digit b
digit-of b e = (digit-from b e, digit-to b e)

lead-of : (b : ℕ) → lead b ≡ true → Lead b
unfolding lead
lead-of b e = (leb-true 49 b (and_left (leb 49 b) (leb b 57) e), leb-true b 57 (and_right (leb 49 b) (leb b 57) e))

either : (P : Type 0) (x y : Bool) → (x || y) ≡ true → (x ≡ true → P) → (y ≡ true → P) → P
either P true y e f g = f refl
either P false y e f g = g e

-- the four forms, by their blanks
pub data Shape (a b c d : ℕ) : Type 0 where
  none : Lead a → Digit b → Digit c → Digit d → Shape a b c d
  one : a ≡ 32 → Lead b → Digit c → Digit d → Shape a b c d
  two : a ≡ 32 → b ≡ 32 → Lead c → Digit d → Shape a b c d
  three : a ≡ 32 → b ≡ 32 → c ≡ 32 → Digit d → Shape a b c d

two-shape : (a b c d : ℕ) → Digit d → a ≡ 32 → b ≡ 32 → is_two c ≡ true → Shape a b c d
unfolding is_two
two-shape a b c d l p q t = either (Shape a b c d) (eqb c 32) (lead c) t (λ u. three p q (eqb-true c 32 u) l) (λ u. two p q (lead-of c u) l)

long-shape : (a b c d : ℕ) → Digit d → is_long a b c ≡ true → Shape a b c d
unfolding is_long
long-shape a b c d l t =
    let m = eqb a 32 && lead b || lead a && digit b in
    let k = digit-of c (and_left (digit c) m t) in
    either (Shape a b c d) (eqb a 32 && lead b) (lead a && digit b) (and_right (digit c) m t)
    (λ u. one (eqb-true a 32 (and_left (eqb a 32) (lead b) u)) (lead-of b (and_right (eqb a 32) (lead b) u)) k l)
    (λ u. none (lead-of a (and_left (lead a) (digit b) u)) (digit-of b (and_right (lead a) (digit b) u)) k l)

-- a digit's lower half is what it is worth, and a blank's is 0
digit-worth : (b : ℕ) → Digit b → b % 16 ≡ b - 48
digit-worth b h = omega arith

blank-worth : (b : ℕ) → b ≡ 32 → b % 16 ≡ 0
blank-worth b h = rw h

four-worth : (a b c d : ℕ) → Shape a b c d → a % 16 * 1000 + b % 16 * 100 + (c % 16 * 10 + d % 16) ≡ value 0 (a ∷ b ∷ c ∷ d ∷ [])
unfolding value
four-worth a b c d (none p q r s) = omega (arith, digit-worth a (omega arith), digit-worth b q, digit-worth c r, digit-worth d s)
four-worth a b c d (one p q r s) = omega (arith, blank-worth a p, digit-worth b (omega arith), digit-worth c r, digit-worth d s)
four-worth a b c d (two p q r s) = omega (arith, blank-worth a p, blank-worth b q, digit-worth c (omega arith), digit-worth d s)
four-worth a b c d (three p q r s) = omega (arith, blank-worth a p, blank-worth b q, blank-worth c r, digit-worth d s)

four-integer : (a b c d : ℕ) → Shape a b c d → integer_of Exact (a ∷ b ∷ c ∷ d ∷ []) ≡ Some (value 0 (a ∷ b ∷ c ∷ d ∷ []))
unfolding integer_of integer_at integer_is unled run value ended all lean
four-integer a b c d (none p q r s) =
    rw (
      ne_eqb a 32 (omega arith),
      le-leb 48 a (omega arith),
      le-leb a 57 p.1,
      le-leb 48 b q.0,
      le-leb b 57 q.1,
      le-leb 48 c r.0,
      le-leb c 57 r.1,
      le-leb 48 d s.0,
      le-leb d 57 s.1,
      ne_eqb a 48 (omega arith),
    )
four-integer a b c d (one p q r s) =
    rw (p, ne_eqb b 32 (omega arith), le-leb 48 b (omega arith), le-leb b 57 q.1, le-leb 48 c r.0, le-leb c 57 r.1, le-leb 48 d s.0, le-leb d 57 s.1, ne_eqb b 48 (omega arith))
four-integer a b c d (two p q r s) =
    rw (p, q, ne_eqb c 32 (omega arith), le-leb 48 c (omega arith), le-leb c 57 r.1, le-leb 48 d s.0, le-leb d 57 s.1, ne_eqb c 48 (omega arith))
four-integer a b c d (three p q r s) = rw (p, q, r, ne_eqb d 32 (omega arith), le-leb 48 d s.0, le-leb d 57 s.1)

plain_in : (b : ℕ) → 32 ≤ b → b ≤ 57 → plain b ≡ true
plain_in b h k = rw (le-leb 32 b h, le-leb b 126 (omega arith))

four-plain : (a b c d : ℕ) → Shape a b c d → all plain (a ∷ b ∷ c ∷ d ∷ []) ≡ true
unfolding all
four-plain a b c d w = go w
  where
    by : (32 ≤ a) × (a ≤ 57) → (32 ≤ b) × (b ≤ 57) → (32 ≤ c) × (c ≤ 57) → (32 ≤ d) × (d ≤ 57) → (plain a && (plain b && (plain c && (plain d && true)))) ≡ true
    by p q r s = rw (plain_in a p.0 p.1, plain_in b q.0 q.1, plain_in c r.0 r.1, plain_in d s.0 s.1)

    go : Shape a b c d → (plain a && (plain b && (plain c && (plain d && true)))) ≡ true
    go (none p q r s) = by (omega arith) (omega arith) (omega arith) (omega arith)
    go (one p q r s) = by (omega arith) (omega arith) (omega arith) (omega arith)
    go (two p q r s) = by (omega arith) (omega arith) (omega arith) (omega arith)
    go (three p q r s) = by (omega arith) (omega arith) (omega arith) (omega arith)

-- ---- at a place of a file

-- the ways of `four_ending`
module _ (mode : Mode) (s : List ℕ) (at : ℕ) (h : 6 ≤ length s) (k : at ≤ length s - 6) where
  pub four-cr : get_or s (at + 4) 0 ≡ 13 → get_or s (at + 5) 0 ≡ 10 → FourEnds mode s at 6
  four-cr x y =
      let a : at + 4 + 1 ≡ at + 5 = omega arith in
      let b : at + 5 + 1 ≡ at + 4 + 2 = omega arith in
      let both : drop (at + 4) s ≡ 13 ∷ 10 ∷ drop (at + 4 + 2) s = left s (at + 4) 0 (omega arith) ∙ rw (x, a, left s (at + 5) 0 (omega arith), y, b) in
      record { inside = omega arith; line = λ p. line_at mode s at 4 (13 ∷ 10 ∷ []) (omega arith) (omega arith) p (crlf refl) both }

  pub four-lf : (y : Bool) → y ≡ is_exact mode → y ≡ false → get_or s (at + 4) 0 ≡ 10 → FourEnds mode s at 5
  four-lf y m f x =
      record { inside = omega arith; line = λ p. line_at mode s at 4 (10 ∷ []) (omega arith) (omega arith) p (lf (sym m ∙ f) refl) (left s (at + 4) 0 (omega arith) ∙ rw x) }

four_bytes : (s : List ℕ) (at : ℕ) → at + 6 ≤ length s → take 4 (drop at s) ≡ get_or s at 0 ∷ get_or s (at + 1) 0 ∷ get_or s (at + 2) 0 ∷ get_or s (at + 3) 0 ∷ []
four_bytes s at h =
    let a : at + 1 + 1 ≡ at + 2 = omega arith in
    let b : at + 2 + 1 ≡ at + 3 = omega arith in
    rw (left s at 0 (omega arith), left s (at + 1) 0 (omega arith), a, left s (at + 2) 0 (omega arith), b, left s (at + 3) 0 (omega arith))

-- the ways of `integer_at`
module _ (mode : Mode) (s : List ℕ) (at w : ℕ) (f : 0 < w → FourEnds mode s at w) (o : w ≡ 0 → ⊥) where
  pub four-in : at + 6 ≤ length s
  four-in = (f (omega arith)).inside

  abbrev a : ℕ
  a = get_or s at 0

  abbrev b : ℕ
  b = get_or s (at + 1) 0

  abbrev c : ℕ
  c = get_or s (at + 2) 0

  abbrev d : ℕ
  d = get_or s (at + 3) 0

  shape_is : Shape a b c d → IntegerAt mode s at w (value 0 (a ∷ b ∷ c ∷ d ∷ []))
  unfolding lex_of
  shape_is g =
      let bytes = a ∷ b ∷ c ∷ d ∷ [] in
      let i = integer-widens Exact mode refl bytes (value 0 bytes) (four-integer a b c d g) in
      record { len = 4; line = (f (omega arith)).line (rw (four_bytes s at four-in) (four-plain a b c d g)); says = rw (four_bytes s at four-in, i) }

  module _ (y : Bool) (n : y ≡ digit d) (m : not y ≡ false) (r : Bool) (t : r ≡ true) (v : ℕ) where
    last : Digit d
    last = digit-of d (sym n ∙ not-false y m)

    pub two_is : a ≡ 32 → b ≡ 32 → r ≡ is_two c → v ≡ c % 16 * 10 + d % 16 → 0 < w → IntegerAt mode s at w v
    two_is p q e k _ =
        let g = two-shape a b c d last p q (sym e ∙ t) in
        let z : c % 16 * 10 + d % 16 ≡ value 0 (a ∷ b ∷ c ∷ d ∷ []) = omega (arith, blank-worth a p, blank-worth b q, four-worth a b c d g) in
        rw (k, z) (shape_is g)

    pub long-is : r ≡ is_long a b c → v ≡ a % 16 * 1000 + b % 16 * 100 + (c % 16 * 10 + d % 16) → 0 < w → IntegerAt mode s at w v
    long-is e k _ = let g = long-shape a b c d last (sym e ∙ t) in rw (k, four-worth a b c d g) (shape_is g)

pub ruleset four_ending_ways = (four-cr, four-lf)

pub ruleset integer_at_ways = (four-in, two_is, long-is)

pub ruleset is_digit_ways = (digit-by)

pub ruleset is_lead_ways = (lead-by)

pub ruleset is_long_ways = (long-by)

pub ruleset is_two_ways = (two-by)
