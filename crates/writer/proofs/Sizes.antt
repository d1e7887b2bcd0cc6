-- How long the texts of a well made row are. Assumes nothing.
use Prim.Native.Nat.{ℕ, zero, suc, ◌+◌, ◌-◌, ◌*◌, ◌≤◌, ◌<◌}
use mathlib.Core.Path.{◌≡◌, refl, ◌∙◌, ap}
use mathlib.Core.List.{List, [], ◌∷◌, ◌++◌}
use mathlib.Core.Bool.{Bool, true, false, cond, ◌&&◌, ◌||◌}
use native.Mathlib.Omega.{arith}
use lib.ListN.{length, get_or, take, length-append}
use lib.Seq.{length-take-le}
use lib.Dec.{leb, eqb}
use lib.IntN.{ℤ}
use borrow.Author.Tests.{leb-true, eq-eqb, ne_eqb, eqb-true}
use Rattle.laws.specs.Lists.{below, holds}
use Rattle.laws.proofs.Choice.{and_left, and_right, false≢true}
use Rattle.laws.proofs.ListLaws.{below_at}
use Rattle.number.specs.Number.{is_real}
use Rattle.spelling.specs.Spelling.{integer_text, real_text}
use Rattle.spelling.proofs.SpellingLaws.{integer-length, real-length}
use Rattle.token.specs.Lex.{keywords, kind_most, key_text}
use Rattle.token.specs.declared.Want.{Want}
use Rattle.token.specs.declared.Want.TheVariants.{Key, Text, Int, Real}
use Rattle.kinds.specs.Kinds.{schedule, want_at}
use Rattle.sheet.specs.Tables.{Tables}
use Rattle.made.specs.Made.{cell_at, count_at, kind_of, islands_of, points_of, in_range, has_field, are_numbers, are_reals, is_made}
use Rattle.layout.specs.Sheet.{line, field_text, fields_text, integers_text, reals_text, row_text}
use Rattle.row.specs.Walk.{cell_in}
use Rattle.writer.specs.Put.{frames, row_size}
use Rattle.writer.proofs.RowFacts.{row_is, kind-in, outside-in, letters-in, islands-in, vertices-in, field_in, letters-none}
use Rattle.writer.proofs.RowWays.{mark, key-line}

pub line-length : (s : List ℕ) → length (line s) ≡ length s + 2
line-length s = length-append s (13 ∷ 10 ∷ [])

-- ---- fields

abbrev field_size : Tables → Want → ℕ
field_size t Key = 2
field_size t Text = count_at t 9 + 2
field_size t Int = 6
field_size t Real = 14

field-size : (t : Tables) (p : ℕ) (w : Want) → count_at t 9 ≤ length t.letters → in_range w (cell_at t p) ≡ true → length (line (field_text t p w)) ≡ field_size t w
unfolding in_range
field-size t p Key h e = absurd (false≢true e)
field-size t p Text h e = omega (arith, line-length (take (count_at t 9) t.letters), length-take-le (count_at t 9) t.letters h)
field-size t p Int h e = omega (arith, line-length (integer_text (count_at t p)), integer-length (count_at t p))
field-size t p Real h e = omega (arith, line-length (real_text (cell_at t p)), real-length (cell_at t p) e)

fields_size : Tables → List ℕ → ℕ
fields_size t [] = 0
fields_size t (p ∷ ps) = field_size t (want_at p) + fields_size t ps

holds_more : (p q : ℕ) (ps : List ℕ) → holds ps q ≡ true → holds (p ∷ ps) q ≡ true
unfolding holds
holds_more p q ps h = go (eqb q p)
  where
    go : (x : Bool) → (x || holds ps q) ≡ true
    go true = refl
    go false = h

holds-first : (p : ℕ) (ps : List ℕ) → holds (p ∷ ps) p ≡ true
unfolding holds
holds-first p ps = rw (eq-eqb p p refl)

fields-size : (t : Tables) (ps : List ℕ) → count_at t 9 ≤ length t.letters → ((p : ℕ) → holds ps p ≡ true → in_range (want_at p) (cell_at t p) ≡ true)
    → length (fields_text t ps) ≡ fields_size t ps
unfolding fields_text fields_size
fields-size t [] h k = refl
fields-size t (p ∷ ps) h k =
    omega (
      arith,
      length-append (line (field_text t p (want_at p))) (fields_text t ps),
      field-size t p (want_at p) h (k p (holds-first p ps)),
      fields-size t ps h (λ q e. k q (holds_more p q ps e)),
    )

-- ---- island counts and points

integers-size : (s : List ℕ) → length (integers_text s) ≡ 6 * length s
unfolding integers_text
integers-size [] = refl
integers-size (n ∷ s) =
    omega (arith, length-append (line (integer_text n)) (integers_text s), line-length (integer_text n), integer-length n, integers-size s)

reals-size : (s : List ℤ) → are_reals s ≡ true → length (reals_text s) ≡ 14 * length s
unfolding reals_text are_reals
reals-size [] e = refl
reals-size (z ∷ s) e =
    omega (
      arith,
      length-append (line (real_text z)) (reals_text s),
      line-length (real_text z),
      real-length z (and_left (is_real z) (are_reals s) e),
      reals-size s (and_right (is_real z) (are_reals s) e),
    )

-- ---- the row

mark-size : (o : ℕ) → o ≤ 1 → length (mark o) ≡ o
mark-size zero h = refl
mark-size (suc zero) h = refl
mark-size (suc (suc o)) h = absurd (omega arith)

-- the bytes of fields without their letters, and how many of them are letters
abbrev bare_size : Want → ℕ
bare_size Key = 2
bare_size Text = 2
bare_size Int = 6
bare_size Real = 14

abbrev text_count : Want → ℕ
text_count Key = 0
text_count Text = 1
text_count Int = 0
text_count Real = 0

bare_sizes : List ℕ → ℕ
bare_sizes [] = 0
bare_sizes (p ∷ ps) = bare_size (want_at p) + bare_sizes ps

text_counts : List ℕ → ℕ
text_counts [] = 0
text_counts (p ∷ ps) = text_count (want_at p) + text_counts ps

none-step : (t : Tables) (w : Want) (a b n : ℕ) → text_count w + n ≡ 0 → (n ≡ 0 → a ≡ b) → field_size t w + a ≡ bare_size w + b
none-step t Key a b n e f = omega (arith, f (omega arith))
none-step t Text a b n e f = absurd (omega arith)
none-step t Int a b n e f = omega (arith, f (omega arith))
none-step t Real a b n e f = omega (arith, f (omega arith))

one-step : (t : Tables) (w : Want) (a b n : ℕ) → text_count w + n ≡ 1 → (n ≡ 0 → a ≡ b) → (n ≡ 1 → a ≡ b + count_at t 9)
    → field_size t w + a ≡ bare_size w + b + count_at t 9
one-step t Key a b n e f g = omega (arith, g (omega arith))
one-step t Text a b n e f g = omega (arith, f (omega arith))
one-step t Int a b n e f g = omega (arith, g (omega arith))
one-step t Real a b n e f g = omega (arith, g (omega arith))

without-letters : (t : Tables) (ps : List ℕ) → text_counts ps ≡ 0 → fields_size t ps ≡ bare_sizes ps
unfolding fields_size bare_sizes text_counts
without-letters t [] e = refl
without-letters t (p ∷ ps) e = none-step t (want_at p) (fields_size t ps) (bare_sizes ps) (text_counts ps) e (without-letters t ps)

with-letters : (t : Tables) (ps : List ℕ) → text_counts ps ≡ 1 → fields_size t ps ≡ bare_sizes ps + count_at t 9
unfolding fields_size bare_sizes text_counts
with-letters t [] e = absurd (omega arith)
with-letters t (p ∷ ps) e = one-step t (want_at p) (fields_size t ps) (bare_sizes ps) (text_counts ps) e (without-letters t ps) (with-letters t ps)

-- its keyword and fields: the table of frames, by one computed test
is_framed : ℕ → Bool
is_framed k =
    eqb k 0
    || eqb (length (get_or keywords (k - 1) []) + 2 + bare_sizes (get_or schedule k [])) (get_or frames k 0) && eqb (text_counts (get_or schedule k [])) (cond (has_field k 9) 1 0)

all-framed : below (kind_most + 1) is_framed ≡ true
unfolding is_framed below keywords schedule bare_sizes text_counts want_at frames has_field holds
all-framed = refl

frame-size : (t : Tables) (k : ℕ) → 1 ≤ k → k ≤ kind_most → (has_field k 9 ≡ false → count_at t 9 ≡ 0)
    → length (get_or keywords (k - 1) []) + 2 + fields_size t (get_or schedule k []) ≡ get_or frames k 0 + count_at t 9
unfolding is_framed
frame-size t k l h f =
    let a = length (get_or keywords (k - 1) []) + 2 + bare_sizes (get_or schedule k []) in
    let e = rw (ne_eqb k 0 (λ z. omega arith)) at (below_at (kind_most + 1) is_framed k all-framed (omega arith)) in
    let b = eqb-true a (get_or frames k 0) (and_left (eqb a (get_or frames k 0)) _ e) in
    go (has_field k 9) refl b (and_right (eqb a (get_or frames k 0)) _ e)
  where
    go : (x : Bool) → has_field k 9 ≡ x → length (get_or keywords (k - 1) []) + 2 + bare_sizes (get_or schedule k []) ≡ get_or frames k 0
        → eqb (text_counts (get_or schedule k [])) (cond x 1 0) ≡ true → length (get_or keywords (k - 1) []) + 2 + fields_size t (get_or schedule k []) ≡ get_or frames k 0 + count_at t 9
    go true q b c = omega (arith, b, with-letters t (get_or schedule k []) (eqb-true (text_counts (get_or schedule k [])) 1 c))
    go false q b c = omega (arith, b, f q, without-letters t (get_or schedule k []) (eqb-true (text_counts (get_or schedule k [])) 0 c))

key-size : (k o : ℕ) → 1 ≤ k → o ≤ 1 → length (line (key_text (2 * k + o))) ≡ length (get_or keywords (k - 1) []) + o + 2
key-size k o h m =
    ap length (key-line k o h m)
    ∙ omega (arith, length-append (get_or keywords (k - 1) []) (line (mark o)), line-length (mark o), mark-size o m)

scheduled-in : (t : Tables) → are_numbers t.rows ≡ true → (p : ℕ) → holds (get_or schedule (kind_of t) []) p ≡ true → in_range (want_at p) (cell_at t p) ≡ true
unfolding has_field
scheduled-in t n p h = field_in t.rows n p h

pub row-size : (t : Tables) → is_made t ≡ true → length (row_text t) ≡ row_size t.rows
unfolding row_text row_size
row-size t e =
    let r = row_is t e in
    let n : are_numbers t.rows ≡ true = r.numbers in
    let k = kind_of t in
    let ps : List ℕ = get_or schedule k [] in
    let a : List ℕ = line (key_text (2 * k + count_at t 1)) in
    let b : List ℕ = fields_text t ps in
    let c : List ℕ = integers_text (islands_of t) in
    let d : List ℕ = reals_text (points_of t) in
    omega (
      arith,
      length-append a (b ++ (c ++ d)),
      length-append b (c ++ d),
      length-append c d,
      key-size k (count_at t 1) (kind-in t.rows n).0 (outside-in t.rows n),
      fields-size t ps r.letters-held (scheduled-in t n),
      frame-size t k (kind-in t.rows n).0 (kind-in t.rows n).1 (letters-none t.rows n),
      integers-size (islands_of t),
      length-take-le (count_at t 10) t.islands r.islands-held,
      reals-size (points_of t) r.points-real,
      length-take-le (2 * count_at t 11) t.points r.points-held,
    )

low-frame : ℕ → Bool
low-frame k = leb (get_or frames k 0) 97

frame-most : (k : ℕ) → k ≤ kind_most → get_or frames k 0 ≤ 97
unfolding low-frame frames below
frame-most k h = leb-true (get_or frames k 0) 97 (below_at (kind_most + 1) low-frame k refl (omega arith))

-- the code's sum, of counts that it read
module _ (rows : List ℤ) (n : are_numbers rows ≡ true) (k o l i v : ℕ) (a : k ≡ cell_in rows 0) (b : o ≡ cell_in rows 1) (c : l ≡ cell_in rows 9)
    (d : i ≡ cell_in rows 10) (e : v ≡ cell_in rows 11) where
  pub row_fits : get_or frames k 0 + (o + l) + 6 * i + 28 * v < 400000
  row_fits =
      let m : get_or frames k 0 ≤ 97 = frame-most k (omega (arith, a, (kind-in rows n).1)) in
      omega (arith, m, b, outside-in rows n, c, letters-in rows n, d, islands-in rows n, e, vertices-in rows n)

  pub row-summed : get_or frames k 0 + (o + l) + 6 * i + 28 * v ≡ row_size rows
  unfolding row_size
  row-summed = rw (a, b, c, d, e) (omega arith)

pub row-most : (rows : List ℤ) → are_numbers rows ≡ true → row_size rows < 400000
row-most rows n =
    let k = cell_in rows 0 in
    let o = cell_in rows 1 in
    let l = cell_in rows 9 in
    let i = cell_in rows 10 in
    let v = cell_in rows 11 in
    omega (arith, row_fits rows n k o l i v refl refl refl refl refl, row-summed rows n k o l i v refl refl refl refl refl)

-- a row's keyword and fields without its letters take 98 bytes at most
pub row-bound : (t : Tables) → is_made t ≡ true → length (row_text t) ≤ 98 + count_at t 9 + 6 * count_at t 10 + 28 * count_at t 11
unfolding row_size
row-bound t e =
    let n : are_numbers t.rows ≡ true = (row_is t e).numbers in
    omega (arith, row-size t e, frame-most (kind_of t) (kind-in t.rows n).1, outside-in t.rows n)
