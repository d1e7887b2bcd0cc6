-- The records of a row, each with what the code has in hand there. Assumes nothing.
use Prim.Native.Nat.{ℕ, ◌+◌, ◌-◌, ◌*◌, ◌/◌, ◌%◌, ◌≤◌, ◌<◌}
use mathlib.Core.Path.{◌≡◌, refl, sym, ◌∙◌, ap, subst}
use mathlib.Core.List.{List, [], ◌∷◌, ◌++◌, append_assoc}
use mathlib.Core.Bool.{true, cond, ◌&&◌}
use native.Mathlib.Omega.{arith}
use lib.ListN.{length, get_or, take, drop}
use lib.Dec.{eqb}
use lib.IntN.{ℤ, pos}
use borrow.Author.Tests.{ne_eqb}
use Rattle.laws.proofs.Choice.{and_left, and_right}
use Rattle.laws.proofs.ListLaws.{left, left-none}
use Rattle.number.specs.Number.{is_real}
use Rattle.spelling.specs.Stored.{Stored}
use Rattle.spelling.specs.Spelling.{integer_text, real_text}
use Rattle.token.specs.Lex.{keywords, kind_most, key_text}
use Rattle.token.specs.declared.Want.{Want}
use Rattle.token.specs.declared.Want.TheVariants.{Key, Text, Int, Real}
use Rattle.kinds.specs.Kinds.{schedule, want_at}
use Rattle.sheet.specs.Tables.{Tables}
use Rattle.made.specs.Made.{tables_of, count_at, kind_of, islands_of, points_of, in_range, has_field, are_numbers, sum, are_reals}
use Rattle.layout.specs.Sheet.{line, field_text, fields_text, integers_text, reals_text, row_text}
use Rattle.row.specs.Walk.{cell_in}
use Rattle.writer.specs.Put.{Put}
use Rattle.writer.proofs.Putting.{Putting, putting-start, putting-room, putting-on, putting-last, stored_on, line-room, line-put}
use Rattle.writer.proofs.RowFacts.{between, row-held, kind-in, field_in, field-place, schedule-here, schedule-over}

-- ---- the keyword

abbrev pub mark : ℕ → List ℕ
mark o = cond (eqb o 1) (92 ∷ []) []

pub key-line : (k o : ℕ) → 1 ≤ k → o ≤ 1 → line (key_text (2 * k + o)) ≡ get_or keywords (k - 1) [] ++ line (mark o)
unfolding key_text
key-line k o h m =
    let half : (2 * k + o) / 2 ≡ k = omega arith in
    let odd : (2 * k + o) % 2 ≡ o = omega arith in
    rw (ne_eqb (2 * k + o) 0 (λ z. omega arith), half, odd) (append_assoc (get_or keywords (k - 1) []) (mark o) (13 ∷ 10 ∷ []))

-- the word as a part of the code's table
module _ (k o : ℕ) (h : 1 ≤ k) (m : o ≤ 1) {word : List ℕ} (w : word ≡ get_or keywords (k - 1) []) where
  key-parts : line (key_text (2 * k + o)) ≡ word ++ line (mark o)
  key-parts = rw w (key-line k o h m)

  module _ (l : List ℕ) (at : ℕ) (room : at + length (line (key_text (2 * k + o))) ≤ length l) where
    start : Putting l at (line (key_text (2 * k + o))) l at (line (key_text (2 * k + o)))
    start = putting-start l at (line (key_text (2 * k + o))) room

    pub key-outside : {e : List ℕ} {n : ℕ} → o ≡ 1 → Stored l at word e n → Putting l at (line (key_text (2 * k + o))) e n (92 ∷ 13 ∷ 10 ∷ [])
    key-outside q p = stored_on start word (92 ∷ 13 ∷ 10 ∷ []) (key-parts ∙ rw q) p

    pub key-inside : {e : List ℕ} {n : ℕ} → (o ≡ 1 → ⊥) → Stored l at word e n → Putting l at (line (key_text (2 * k + o))) e n (13 ∷ 10 ∷ [])
    key-inside f p = let q : o ≡ 0 = omega arith in stored_on start word (13 ∷ 10 ∷ []) (key-parts ∙ rw q) p

-- ---- a field

-- what is wanted there, by what the code found
want_is : (p : ℕ) {x w : Want} → x ≡ want_at p → x ≡ w → want_at p ≡ w
want_is p e f = sym e ∙ f

pub field_is : (t : Tables) (p : ℕ) {x w : Want} → x ≡ want_at p → x ≡ w → field_text t p (want_at p) ≡ field_text t p w
field_is t p e f = ap (field_text t p) (want_is p e f)

module _ (rows : List ℤ) (numbers : are_numbers rows ≡ true) (p : ℕ) (has : has_field (cell_in rows 0) p ≡ true) {x : Want} (e : x ≡ want_at p) where
  pub field-held : p < length rows
  field-held = omega (arith, (field-place (cell_in rows 0) (kind-in rows numbers).1 p has).1, row-held rows numbers)

  pub field-integer : x ≡ Int → cell_in rows p ≤ 9999
  unfolding in_range
  field-integer f = (between 0 9999 (get_or rows p (pos 0)) (rw (want_is p e f) at (field_in rows numbers p has))).1

  pub field-real : x ≡ Real → is_real (get_or rows p (pos 0)) ≡ true
  unfolding in_range
  field-real f = rw (want_is p e f) at (field_in rows numbers p has)

-- the fields take nothing from the other two tables
field-alone : (t : Tables) (p : ℕ) (w : Want) → field_text (tables_of t.rows t.letters [] []) p w ≡ field_text t p w
field-alone t p Key = refl
field-alone t p Text = refl
field-alone t p Int = refl
field-alone t p Real = refl

pub fields-alone : (t : Tables) (ps : List ℕ) → fields_text (tables_of t.rows t.letters [] []) ps ≡ fields_text t ps
unfolding fields_text
fields-alone t [] = refl
fields-alone t (p ∷ ps) = rw (field-alone t p (want_at p), fields-alone t ps)

-- ---- the loops: what is to come, by its first element

module _ (t : Tables) (kind : ℕ) (few : kind ≤ kind_most) (j p : ℕ) (e : p ≡ get_or (get_or schedule kind []) j 0) where
  abbrev fields : ℕ → List ℕ
  fields i = fields_text t (drop i (get_or schedule kind []))

  module _ (f : p ≡ 0 → ⊥) where
    fields-here : fields j ≡ line (field_text t p (want_at p)) ++ fields (j + 1)
    unfolding fields_text
    fields-here = rw (left (get_or schedule kind []) j 0 (schedule-here kind few j p e f), ← e)

    pub fields-room : {l : List ℕ} {at : ℕ} {s d : List ℕ} {n : ℕ} → Putting l at s d n (fields j) → n + length (line (field_text t p (want_at p))) ≤ length d
    fields-room m = putting-room m (line (field_text t p (want_at p))) (fields (j + 1)) fields-here

    pub fields-on : {l : List ℕ} {at : ℕ} {s d : List ℕ} {n : ℕ} → Putting l at s d n (fields j) → {x : List ℕ} {r : ℕ}
        → Put d n (line (field_text t p (want_at p))) x r → Putting l at s x r (fields (j + 1))
    fields-on m w = putting-on m (line (field_text t p (want_at p))) (fields (j + 1)) fields-here w

  pub fields-over : p ≡ 0 → fields j ≡ []
  unfolding fields_text
  fields-over f = rw (schedule-over kind few j p e f)

module _ (s : List ℕ) (i : ℕ) where
  module _ (h : i < length s) where
    integers-here : integers_text (drop i s) ≡ line (integer_text (get_or s i 0)) ++ integers_text (drop (i + 1) s)
    unfolding integers_text
    integers-here = rw (left s i 0 h)

    sum-here : sum (drop i s) ≡ get_or s i 0 + sum (drop (i + 1) s)
    unfolding sum
    sum-here = rw (left s i 0 h)

    -- each is at most the sum of those that are left; n is what the code read
    module _ (n : ℕ) (q : n ≡ get_or s i 0) where
      pub islands-most : sum (drop i s) ≤ 9999 → n ≤ 9999
      islands-most k = omega (arith, sum-here, k, q)

      pub islands-room : {l : List ℕ} {at : ℕ} {u d : List ℕ} {m : ℕ} → Putting l at u d m (integers_text (drop i s)) → m + length (line (integer_text n)) ≤ length d
      islands-room p = rw q (putting-room p (line (integer_text (get_or s i 0))) (integers_text (drop (i + 1) s)) integers-here)

      pub islands-on : {l : List ℕ} {at : ℕ} {u d : List ℕ} {m : ℕ} → Putting l at u d m (integers_text (drop i s)) → {x : List ℕ} {r : ℕ}
          → Put d m (line (integer_text n)) x r → Putting l at u x r (integers_text (drop (i + 1) s))
      islands-on p w = putting-on p (line (integer_text (get_or s i 0))) (integers_text (drop (i + 1) s)) integers-here (rw q at w)

    pub islands-next : sum (drop i s) ≤ 9999 → sum (drop (i + 1) s) ≤ 9999
    islands-next k = omega (arith, sum-here, k)

  pub islands-over : length s ≤ i → integers_text (drop i s) ≡ []
  unfolding integers_text
  islands-over h = rw (left-none s i h)

module _ (s : List ℤ) (i : ℕ) where
  module _ (h : i < length s) where
    reals-here : reals_text (drop i s) ≡ line (real_text (get_or s i (pos 0))) ++ reals_text (drop (i + 1) s)
    unfolding reals_text
    reals-here = rw (left s i (pos 0) h)

    reals-on : are_reals (drop i s) ≡ (is_real (get_or s i (pos 0)) && are_reals (drop (i + 1) s))
    unfolding are_reals
    reals-on = rw (left s i (pos 0) h)

    pub points-real : are_reals (drop i s) ≡ true → is_real (get_or s i (pos 0)) ≡ true
    points-real e = and_left (is_real (get_or s i (pos 0))) (are_reals (drop (i + 1) s)) (sym reals-on ∙ e)

    pub points-next : are_reals (drop i s) ≡ true → are_reals (drop (i + 1) s) ≡ true
    points-next e = and_right (is_real (get_or s i (pos 0))) (are_reals (drop (i + 1) s)) (sym reals-on ∙ e)

    pub points-room : {l : List ℕ} {at : ℕ} {u d : List ℕ} {m : ℕ} → Putting l at u d m (reals_text (drop i s)) → m + length (line (real_text (get_or s i (pos 0)))) ≤ length d
    points-room p = putting-room p (line (real_text (get_or s i (pos 0)))) (reals_text (drop (i + 1) s)) reals-here

    pub points_on : {l : List ℕ} {at : ℕ} {u d : List ℕ} {m : ℕ} → Putting l at u d m (reals_text (drop i s)) → {x : List ℕ} {r : ℕ}
        → Put d m (line (real_text (get_or s i (pos 0)))) x r → Putting l at u x r (reals_text (drop (i + 1) s))
    points_on p w = putting-on p (line (real_text (get_or s i (pos 0)))) (reals_text (drop (i + 1) s)) reals-here w

  pub points-over : length s ≤ i → reals_text (drop i s) ≡ []
  unfolding reals_text
  points-over h = rw (left-none s i h)

-- ---- the section of a row, part by part; k, o, i and v are counts that the code read

abbrev plan : Tables → List ℕ
plan t = get_or schedule (kind_of t) []

abbrev vertices : Tables → List ℕ
vertices t = reals_text (points_of t)

abbrev rings : Tables → List ℕ
rings t = integers_text (islands_of t) ++ vertices t

abbrev behind : Tables → List ℕ
behind t = fields_text t (plan t) ++ rings t

abbrev alone : Tables → List ℕ
alone t = fields_text (tables_of t.rows t.letters [] []) (plan t)

module _ (t : Tables) (l : List ℕ) (at : ℕ) (room : at + length (row_text t) ≤ length l) {k o : ℕ} (e : k ≡ kind_of t) (f : o ≡ count_at t 1) where
  abbrev key : List ℕ
  key = line (key_text (2 * kind_of t + count_at t 1))

  begun : Putting l at (row_text t) l at (key ++ behind t)
  unfolding row_text
  begun = putting-start l at (key ++ behind t) room

  key-is : key_text (2 * k + o) ≡ key_text (2 * kind_of t + count_at t 1)
  key-is = rw (e, f)

  pub row-key-room : at + length (line (key_text (2 * k + o))) ≤ length l
  row-key-room = line-room (sym key-is) at (length l) (putting-room begun key (behind t) refl)

  pub row-key : {d : List ℕ} {n : ℕ} → Put l at (line (key_text (2 * k + o))) d n → Putting l at (row_text t) d n (behind t)
  row-key p = putting-on begun key (behind t) refl (line-put (sym key-is) p)

module _ (t : Tables) where
  fields-first : behind t ≡ alone t ++ rings t
  fields-first = ap (λ (x : List ℕ). x ++ rings t) (sym (fields-alone t (plan t)))

  module _ {l : List ℕ} {at : ℕ} {d : List ℕ} {n : ℕ} (p : Putting l at (row_text t) d n (behind t)) where
    pub row-fields-room : n + length (alone t) ≤ length d
    row-fields-room = putting-room p (alone t) (rings t) fields-first

    pub row-fields : {e : List ℕ} {m : ℕ} → Put d n (alone t) e m → Putting l at (row_text t) e m (rings t)
    row-fields q = putting-on p (alone t) (rings t) fields-first q

  module _ {l : List ℕ} {at : ℕ} {d : List ℕ} {n : ℕ} (p : Putting l at (row_text t) d n (rings t)) {i : ℕ} (e : i ≡ count_at t 10) where
    islands-first : rings t ≡ integers_text (take i t.islands) ++ vertices t
    islands-first = rw e

    pub row-islands-room : n + length (integers_text (take i t.islands)) ≤ length d
    row-islands-room = putting-room p (integers_text (take i t.islands)) (vertices t) islands-first

    pub row-islands : {x : List ℕ} {m : ℕ} → Put d n (integers_text (take i t.islands)) x m → Putting l at (row_text t) x m (vertices t)
    row-islands q = putting-on p (integers_text (take i t.islands)) (vertices t) islands-first q

  module _ {l : List ℕ} {at : ℕ} {d : List ℕ} {n : ℕ} (p : Putting l at (row_text t) d n (vertices t)) {v : ℕ} (e : v ≡ count_at t 11) where
    points-are : reals_text (take (2 * v) t.points) ≡ vertices t
    points-are = rw e

    pub row-points-room : n + length (reals_text (take (2 * v) t.points)) ≤ length d
    row-points-room = rw points-are p.room

    pub row-points : {x : List ℕ} {m : ℕ} → Put d n (reals_text (take (2 * v) t.points)) x m → Put l at (row_text t) x m
    row-points {x} {m} q = putting-last p (subst (λ (s : List ℕ). Put d n s x m) points-are q)
