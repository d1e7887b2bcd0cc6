-- The rules of the tables of `specs/Kinds`, each a test that is computed once, and the code's tables as they follow from those. Assumes nothing.
use mathlib.Core.Path.{◌≡◌, refl, sym, ◌∙◌, ap}
use mathlib.Core.List.{List, [], ◌∷◌, flatten, map}
use mathlib.Core.Bool.{Bool, true, false, cond, ◌||◌}
use Prim.Native.Nat.{ℕ, zero, suc, ◌+◌, ◌-◌, ◌*◌, ◌/◌, ◌%◌, ◌^◌, ◌≤◌, ◌<◌}
use native.Mathlib.Omega.{arith}
use lib.ListN.{length, get_or, take, drop, get_or-eq_default}
use lib.Dec.{leb, ltb, eqb}
use borrow.Author.Tests.{leb-true, leb-false, ltb-true, ltb-false, eqb-true, ne_eqb}
use Rattle.laws.specs.Lists.{all, below, holds, same, packed, packed_at}
use Rattle.laws.proofs.Choice.{and_left, and_right, cond-elim}
use Rattle.laws.proofs.ListLaws.{below_at, values, values-at}
use Rattle.laws.proofs.Packed.{packed-is}
use Rattle.std.specs.Borrow.{Bor}
use Rattle.std.specs.List.{list_any}
use Rattle.token.specs.Lex.{kind_most}
use Rattle.kinds.specs.Kinds.{own_width, schedule, next_in, next_of, fixed, fixed_vertices, codes, is_listed}
use Rattle.kinds.specs.Digits.{is_next_at, are_nexts, is_code_at, are_codes, code_most}

-- what holds of 0 and of every place of a list holds of the next place
next-in : (P : ℕ → Bool) (p : ℕ) (qs : List ℕ) → P 0 ≡ true → all P qs ≡ true → P (next_in p qs) ≡ true
unfolding next_in all
next-in P p [] z e = z
next-in P p (q ∷ qs) z e =
    cond-elim (λ (n : ℕ). P n ≡ true) (eqb q p) _ _
    (λ _. first qs (and_right (P q) (all P qs) e))
    (λ _. next-in P p qs z (and_right (P q) (all P qs) e))
  where
    first : (rs : List ℕ) → all P rs ≡ true → P (get_or rs 0 0) ≡ true
    first [] f = z
    first (r ∷ rs) f = and_left (P r) (all P rs) f

-- the rows of each table
abbrev kinds : ℕ
kinds = kind_most + 1

fields-test : (P : ℕ → Bool) → ℕ → Bool
fields-test P kind = all P (get_or schedule kind [])

fields-all : (P : ℕ → Bool) → below kinds (fields-test P) ≡ true → (kind : ℕ) → all P (get_or schedule kind []) ≡ true
unfolding fields-test all schedule
fields-all P e kind = go (ltb kind kinds) refl
  where
    go : (x : Bool) → ltb kind kinds ≡ x → all P (get_or schedule kind []) ≡ true
    go true f = below_at kinds (fields-test P) kind e (ltb-true kind kinds f)
    go false f = rw (get_or-eq_default schedule [] {n = kind} (ltb-false kind kinds f))

-- what holds of 0 and of every place of the schedule holds of the next field
next-rule : (P : ℕ → Bool) → P 0 ≡ true → below kinds (fields-test P) ≡ true → (kind p : ℕ) → P (next_of kind p) ≡ true
unfolding next_of all
next-rule P z e kind p = next-in P p (0 ∷ get_or schedule kind []) z (rw z (fields-all P e kind))

most11 : ℕ → Bool
most11 p = leb p 11

-- a field stands inside its row
pub next-most : (kind p : ℕ) → next_of kind p ≤ 11
unfolding most11 below fields-test schedule all
next-most kind p = leb-true (next_of kind p) 11 (next-rule most11 refl refl kind p)

most-all : (kind : ℕ) → all most11 (get_or schedule kind []) ≡ true
unfolding most11 below fields-test schedule all
most-all = fields-all most11 refl

-- ---- the code's number of a kind's next fields, and that there are none where it ends

among : (kind : ℕ) → kind ≤ kind_most → kind < kinds
among kind h = omega arith

-- of what is no kind
no_nexts : ℕ → Bool
no_nexts kind = eqb kind 1 || eqb kind 2 || eqb kind 3 || eqb kind 4 || eqb kind 5 || eqb kind 6 || eqb kind 7 || are_nexts kind 0

all-no-nexts : below kinds no_nexts ≡ true
unfolding below no_nexts are_nexts next_of next_in schedule
all-no-nexts = refl

nexts-past-kinds : (kind : ℕ) → kind_most < kind → are_nexts kind 0 ≡ true
unfolding are_nexts below next_of next_in schedule
nexts-past-kinds kind h = rw (get_or-eq_default schedule [] {n = kind} h)

pub nexts_none : (kind : ℕ) → (kind ≡ 1 → ⊥) → (kind ≡ 2 → ⊥) → (kind ≡ 3 → ⊥) → (kind ≡ 4 → ⊥) → (kind ≡ 5 → ⊥) → (kind ≡ 6 → ⊥) → (kind ≡ 7 → ⊥) → are_nexts kind 0 ≡ true
unfolding no_nexts
nexts_none kind a b c d e f g = go (leb kind kind_most) refl
  where
    go : (x : Bool) → leb kind kind_most ≡ x → are_nexts kind 0 ≡ true
    go true h =
        rw (ne_eqb kind 1 a, ne_eqb kind 2 b, ne_eqb kind 3 c, ne_eqb kind 4 d, ne_eqb kind 5 e, ne_eqb kind 6 f, ne_eqb kind 7 g)
        at (below_at kinds no_nexts kind all-no-nexts (among kind (leb-true kind kind_most h)))
    go false h = nexts-past-kinds kind (leb-false kind kind_most h)

pub next-is : (kind p n : ℕ) → are_nexts kind n ≡ true → p < own_width → n / 2 ^ (4 * p) % 16 ≡ next_of kind p
unfolding are_nexts
next-is kind p n e h = eqb-true (n / 2 ^ (4 * p) % 16) (next_of kind p) (below_at own_width (is_next_at kind n) p e h)

past : (p : ℕ) (qs : List ℕ) → 12 ≤ p → all most11 qs ≡ true → next_in p qs ≡ 0
unfolding next_in all most11
past p [] h e = refl
past p (q ∷ qs) h e =
    let l : q ≤ 11 = leb-true q 11 (and_left (most11 q) (all most11 qs) e) in
    rw (ne_eqb q p (λ z. omega arith)) (past p qs h (and_right (most11 q) (all most11 qs) e))

pub next-no-place : (kind p : ℕ) → 12 ≤ p → 0 ≡ next_of kind p
unfolding next_of all most11
next-no-place kind p h = sym (past p (0 ∷ get_or schedule kind []) h (most-all kind))

-- ---- the vertices that are not counted

pub fixed-none : (kind : ℕ) → kind_most < kind → 0 ≡ fixed_vertices kind
unfolding fixed_vertices fixed
fixed-none kind h = rw (get_or-eq_default fixed 0 {n = kind} h)

is_few : ℕ → Bool
is_few kind = leb (fixed_vertices kind) 9999

all-few : below kinds is_few ≡ true
unfolding below is_few fixed_vertices fixed
all-few = refl

-- they are no more than a record may say
pub fixed-few : (kind : ℕ) → fixed_vertices kind ≤ 9999
unfolding is_few
fixed-few kind = go (leb kind kind_most) refl
  where
    go : (x : Bool) → leb kind kind_most ≡ x → fixed_vertices kind ≤ 9999
    go true e = leb-true (fixed_vertices kind) 9999 (below_at kinds is_few kind all-few (omega (arith, leb-true kind kind_most e)))
    go false e = omega (arith, fixed-none kind (leb-false kind kind_most e))

-- ---- the code's number of a kind's listed codes

-- of the kinds without listed codes
no_codes : ℕ → Bool
no_codes kind = eqb kind 3 || eqb kind 4 || eqb kind 5 || eqb kind 7 || are_codes kind 0

all-no-codes : below kinds no_codes ≡ true
unfolding below no_codes are_codes is_listed codes holds
all-no-codes = refl

codes-past-kinds : (kind : ℕ) → kind_most < kind → are_codes kind 0 ≡ true
unfolding are_codes below is_listed codes holds
codes-past-kinds kind h = rw (get_or-eq_default codes [] {n = kind} h)

pub codes_zero : (kind : ℕ) → (kind ≡ 3 → ⊥) → (kind ≡ 4 → ⊥) → (kind ≡ 5 → ⊥) → (kind ≡ 7 → ⊥) → are_codes kind 0 ≡ true
unfolding no_codes
codes_zero kind a b c d = go (leb kind kind_most) refl
  where
    go : (x : Bool) → leb kind kind_most ≡ x → are_codes kind 0 ≡ true
    go true h = rw (ne_eqb kind 3 a, ne_eqb kind 4 b, ne_eqb kind 5 c, ne_eqb kind 7 d) at (below_at kinds no_codes kind all-no-codes (among kind (leb-true kind kind_most h)))
    go false h = codes-past-kinds kind (leb-false kind kind_most h)

pub listed-is : (kind code n : ℕ) → are_codes kind n ≡ true → code ≤ code_most → eqb (n / 2 ^ code % 2) 1 ≡ is_listed kind code
unfolding are_codes
listed-is kind code n e h =
    let q = eqb-true (n / 2 ^ code % 2) (cond (is_listed kind code) 1 0) (below_at (code_most + 1) (is_code_at kind n) code e (omega arith)) in
    rw q (as-bit (is_listed kind code))
  where
    as-bit : (b : Bool) → eqb (cond b 1 0) 1 ≡ b
    as-bit true = refl
    as-bit false = refl

-- no code above the greatest is listed
few_codes : ℕ → Bool
few_codes kind = all (λ c. leb c code_most) (get_or codes kind [])

all-few-codes : below kinds few_codes ≡ true
unfolding below few_codes codes all
all-few-codes = refl

holds-past : (l : List ℕ) (code : ℕ) → all (λ c. leb c code_most) l ≡ true → code_most < code → false ≡ holds l code
unfolding all holds
holds-past [] code e h = refl
holds-past (c ∷ l) code e h =
    let k = leb-true c code_most (and_left (leb c code_most) (all (λ b. leb b code_most) l) e) in
    rw (ne_eqb code c (λ z. omega arith)) (holds-past l code (and_right (leb c code_most) (all (λ b. leb b code_most) l) e) h)

pub listed-past : (kind code : ℕ) → code_most < code → false ≡ is_listed kind code
unfolding is_listed few_codes codes holds
listed-past kind code h = go (leb kind kind_most) refl
  where
    go : (x : Bool) → leb kind kind_most ≡ x → false ≡ is_listed kind code
    go true e = holds-past (get_or codes kind []) code (below_at kinds few_codes kind all-few-codes (among kind (leb-true kind kind_most e))) h
    go false e = rw (get_or-eq_default codes [] {n = kind} (leb-false kind kind_most e))

-- ---- the code's table of the fields

-- the code's table is a list of slices: its row is the schedule's
pub row-is : (l : List (Bor (List ℕ))) (d : Bor (List ℕ)) (k : ℕ) → (get_or l k d).now ≡ get_or (map (λ (b : Bor (List ℕ)). b.now) l) k d.now
row-is [] d k = refl
row-is (b ∷ l) d zero = refl
row-is (b ∷ l) d (suc k) = row-is l d k

pub past-row : (l : List ℕ) (j : ℕ) → length l ≤ j → 0 ≡ get_or l j 0
past-row l j h = sym (get_or-eq_default l 0 {n = j} h)

pub holds-any : (l : List ℕ) (n : ℕ) → holds l n ≡ list_any (eqb n) l
unfolding holds
holds-any [] n = refl
holds-any (a ∷ l) n = ap (λ (b : Bool). eqb n a || b) (holds-any l n)

module _ (kind : ℕ) (h : kind_most < kind) where
  pub field-no-kind : (place : ℕ) → false ≡ holds (get_or schedule kind []) place
  unfolding schedule holds
  field-no-kind place = rw (get_or-eq_default schedule [] {n = kind} h)

  pub field-none : (j : ℕ) → 0 ≡ get_or (get_or schedule kind []) j 0
  unfolding schedule
  field-none j = rw (get_or-eq_default schedule [] {n = kind} h)

-- ---- the next fields and the listed codes as tables

unfoldable pub next_table : List (List ℕ)
next_table = values (λ (kind : ℕ). values (next_of kind) own_width) kinds

pub next-at : (kind p n : ℕ) → kind ≤ kind_most → p < own_width → n ≡ get_or (get_or next_table kind []) p 0 → n ≡ next_of kind p
unfolding next_table
next-at kind p n h k e =
    e
    ∙ ap (λ (row : List ℕ). get_or row p 0) (values-at (λ (kind : ℕ). values (next_of kind) own_width) kinds kind [] (omega arith))
    ∙ values-at (next_of kind) own_width p 0 k

unfoldable pub code_table : List ℕ
code_table = flatten codes

unfoldable pub code_starts : List ℕ
code_starts = values (λ (k : ℕ). length (flatten (take k codes))) (kinds + 1)

codes-packed : packed code_table code_starts codes ≡ true
unfolding code_table code_starts packed packed_at below same values codes flatten
codes-packed = refl

module _ (kind : ℕ) (h : kind ≤ kind_most) where
  pub codes-are : (code : ℕ) (r : Bool)
      → r ≡ holds (take (get_or code_starts (kind + 1) 0 - get_or code_starts kind 0) (drop (get_or code_starts kind 0) code_table)) code → r ≡ is_listed kind code
  unfolding is_listed codes
  codes-are code r e = e ∙ ap (λ (l : List ℕ). holds l code) (packed-is code_table code_starts codes codes-packed kind (omega arith))

pub codes-none : (kind code : ℕ) → kind_most < kind → false ≡ is_listed kind code
unfolding is_listed codes holds
codes-none kind code h = rw (get_or-eq_default codes [] {n = kind} h)
