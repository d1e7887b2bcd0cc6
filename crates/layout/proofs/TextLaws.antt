-- A row is written by its own part of the tables: its starts play no part (document 02, T-07). Assumes nothing.
use mathlib.Core.Path.{◌≡◌, refl, sym, ◌∙◌, ap, ap₂}
use mathlib.Core.List.{List, [], ◌∷◌, ◌++◌}
use mathlib.Core.Bool.{Bool, true, false}
use Prim.Native.Nat.{ℕ, zero, suc, ◌+◌, ◌<◌}
use native.Mathlib.Omega.{arith}
use lib.Dec.{leb}
use lib.ListN.{get_or, get_or-eq_default}
use borrow.Author.Tests.{leb-true, leb-false}
use Rattle.laws.specs.Lists.{all, below}
use Rattle.laws.proofs.Choice.{and_left, and_right}
use Rattle.laws.proofs.ListLaws.{below_at}
use Rattle.token.specs.Lex.{kind_most}
use Rattle.token.specs.declared.Want.{Want}
use Rattle.token.specs.declared.Want.TheVariants.{Key, Text, Int, Real}
use Rattle.kinds.specs.Kinds.{own_width, schedule, want_at}
use Rattle.sheet.specs.Tables.{Tables, Starts, starting_at}
use Rattle.made.specs.Made.{kind_of, own_of, rest_of}
use Rattle.made.proofs.OwnLaws.{cell-own, letters-own, islands-own, points-own}
use Rattle.made.proofs.StartLaws.{own-moved, rest-moved}
use Rattle.layout.specs.Sheet.{line, field_text, fields_text, row_text, rows_text}

-- every field of a kind is one of a row's numbers
is_low : ℕ → Bool
is_low kind = all (λ p. leb p 11) (get_or schedule kind [])

schedule-low : (kind : ℕ) → all (λ p. leb p 11) (get_or schedule kind []) ≡ true
unfolding is_low below schedule all
schedule-low kind = go (leb kind kind_most) refl
  where
    go : (x : Bool) → leb kind kind_most ≡ x → all (λ p. leb p 11) (get_or schedule kind []) ≡ true
    go true e = below_at (kind_most + 1) is_low kind refl (omega (arith, leb-true kind kind_most e))
    go false e = rw (get_or-eq_default schedule [] {n = kind} (leb-false kind kind_most e))

-- ---- a row is written by its own part

module _ (t : Tables) where
  field-own : (p : ℕ) → p < own_width → (w : Want) → field_text (own_of t) p w ≡ field_text t p w
  field-own p h Key = refl
  field-own p h Text = letters-own t
  field-own p h Int = rw (cell-own t p h)
  field-own p h Real = rw (cell-own t p h)

  fields-own : (ps : List ℕ) → all (λ p. leb p 11) ps ≡ true → fields_text (own_of t) ps ≡ fields_text t ps
  unfolding fields_text all
  fields-own [] e = refl
  fields-own (p ∷ ps) e =
      let h = leb-true p 11 (and_left (leb p 11) (all (λ p. leb p 11) ps) e) in
      ap₂ (λ (a b : List ℕ). line a ++ b) (field-own p (omega arith) (want_at p)) (fields-own ps (and_right (leb p 11) (all (λ p. leb p 11) ps) e))

  row-text-own : row_text (own_of t) ≡ row_text t
  unfolding row_text
  row-text-own =
      rw (islands-own t, points-own t, cell-own t 0 (omega arith), cell-own t 1 (omega arith), fields-own (get_or schedule (kind_of t) []) (schedule-low (kind_of t)))

pub row-text-alike : (t u : Tables) → own_of t ≡ own_of u → row_text t ≡ row_text u
row-text-alike t u e = sym (row-text-own t) ∙ ap row_text e ∙ row-text-own u

-- ---- rows whose starts are moved on

pub rows-text-moved : (s : Starts) (n : ℕ) (t : Tables) → rows_text n (starting_at s t) ≡ rows_text n t
unfolding rows_text
rows-text-moved s zero t = refl
rows-text-moved s (suc n) t =
    ap₂ (λ (x y : List ℕ). x ++ y) (row-text-alike (starting_at s t) t (own-moved s t)) (ap (rows_text n) (rest-moved s t) ∙ rows-text-moved s n (rest_of t))
