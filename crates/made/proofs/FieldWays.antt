-- Which kind has a field at a place, by one test for each place; the tests are those of the schedule, by computation. Assumes nothing.
use mathlib.Core.Path.{◌≡◌, refl, sym, ap, ◌∙◌}
use mathlib.Core.List.{List, []}
use mathlib.Core.Logic.{◌⊎◌, inl, inr}
use mathlib.Core.Bool.{Bool, true, false, cond, not, ◌||◌}
use Prim.Native.Nat.{ℕ, zero, suc, ◌-◌, ◌≤◌, ◌<◌}
use native.Mathlib.Omega.{arith}
use lib.ListN.{get_or-eq_default}
use lib.Dec.{eqb, leb}
use borrow.Author.Tests.{ne_eqb, leb-true, leb-false, eqb-true, eqb-false}
use Rattle.laws.specs.Lists.{below, holds}
use Rattle.laws.proofs.ListLaws.{below_at}
use Rattle.token.specs.Lex.{kind_most}
use Rattle.kinds.specs.Kinds.{vertices_place, islands_place, schedule}
use Rattle.made.specs.Made.{has_field, are_counts}

agreed : (a b : Bool) → cond a b (not b) ≡ true → a ≡ b
agreed true true e = refl
agreed true false e = sym e
agreed false true e = e
agreed false false e = refl

-- a test of the kind says which of the kinds have a field at a place
abbrev agree : (ℕ → Bool) → ℕ → ℕ → Bool
agree f p k = cond (f (suc k)) (has_field (suc k) p) (not (has_field (suc k) p))

pub has-at : (f : ℕ → Bool) (p : ℕ) → below kind_most (agree f p) ≡ true → (kind : ℕ) → 1 ≤ kind → kind ≤ kind_most → f kind ≡ has_field kind p
has-at f p e kind l m =
    let q : suc (kind - 1) ≡ kind = omega arith in
    rw q at (agreed (f (suc (kind - 1))) (has_field (suc (kind - 1)) p) (below_at kind_most (agree f p) (kind - 1) e (omega arith)))

no-kind-has : (kind p : ℕ) → kind_most < kind → has_field kind p ≡ false
unfolding has_field holds schedule
no-kind-has kind p h = rw (get_or-eq_default schedule [] {n = kind} h)

-- where the test is false of all other numbers, it says so of any
module _ (f : ℕ → Bool) (p : ℕ) (z : f 0 ≡ false) (e : below kind_most (agree f p) ≡ true) (o : (k : ℕ) → kind_most < k → f k ≡ false) where
  has-any : (kind : ℕ) → has_field kind p ≡ f kind
  unfolding has_field holds schedule
  has-any zero = sym z
  has-any (suc k) = go (leb (suc k) kind_most) refl
    where
      go : (t : Bool) → leb (suc k) kind_most ≡ t → has_field (suc k) p ≡ f (suc k)
      go true q = sym (has-at f p e (suc k) (omega arith) (leb-true (suc k) kind_most q))
      go false q =
          let h : kind_most < suc k = leb-false (suc k) kind_most q in
          no-kind-has (suc k) p h ∙ sym (o (suc k) h)

-- of the kinds that are no borders only lines have a count of vertices
counted : ℕ → Bool
counted k = eqb k 1 || (eqb k 5 || eqb k 7)

pub vertices-line : (kind : ℕ) → (kind ≡ 1 → ⊥) → has_field kind vertices_place ≡ (eqb kind 5 || eqb kind 7)
unfolding counted below has_field holds schedule
vertices-line kind n =
    has-any counted vertices_place refl refl
    (λ k h. rw (ne_eqb k 1 (λ q. omega arith), ne_eqb k 5 (λ q. omega arith), ne_eqb k 7 (λ q. omega arith))) kind
    ∙ rw (ne_eqb kind 1 n)

-- only borders have islands
pub no-islands : (kind : ℕ) → (kind ≡ 1 → ⊥) → has_field kind islands_place ≡ false
unfolding below has_field holds schedule
no-islands kind n = has-any (λ (k : ℕ). eqb k 1) islands_place refl refl (λ k h. ne_eqb k 1 (λ q. omega arith)) kind ∙ ne_eqb kind 1 n

-- no kind has a field at the places 0 and 1
pub has-none : (p : ℕ) → p ≤ 1 → (kind : ℕ) → 1 ≤ kind → kind ≤ kind_most → false ≡ has_field kind p
unfolding below has_field holds schedule
has-none zero h = has-at (λ (k : ℕ). false) 0 refl
has-none (suc zero) h = has-at (λ (k : ℕ). false) 1 refl
has-none (suc (suc p)) h = absurd (omega arith)

-- two places, one behind the other, that the same kinds have
pub has-two : (f : ℕ → Bool) (p : ℕ) → below kind_most (agree f p) ≡ true → below kind_most (agree f (suc p)) ≡ true
    → (place : ℕ) → p ≤ place → place ≤ suc p → (kind : ℕ) → 1 ≤ kind → kind ≤ kind_most → f kind ≡ has_field kind place
has-two f p a b place l m = go (eqb place p) refl
  where
    go : (t : Bool) → eqb place p ≡ t → (kind : ℕ) → 1 ≤ kind → kind ≤ kind_most → f kind ≡ has_field kind place
    go true e kind x y = has-at f p a kind x y ∙ ap (has_field kind) (sym (eqb-true place p e))
    go false e kind x y =
        let n = eqb-false place p e in
        let z : suc p ≡ place = omega arith in
        has-at f (suc p) b kind x y ∙ ap (has_field kind) z

-- ---- counts of vertices

module _ (kind i v : ℕ) (s : List ℕ) where
  pub counts_line : (kind ≡ 5) ⊎ (kind ≡ 7) → leb 2 v ≡ are_counts kind i v s
  unfolding are_counts below has_field holds schedule
  counts_line (inl e) = rw e
  counts_line (inr e) = rw e

  pub counts_none : (kind ≡ 1 → ⊥) → ((kind ≡ 5) ⊎ (kind ≡ 7) → ⊥) → true ≡ are_counts kind i v s
  unfolding are_counts
  counts_none a b = rw (ne_eqb kind 1 a, vertices-line kind a, ne_eqb kind 5 (λ e. b (inl e)), ne_eqb kind 7 (λ e. b (inr e)))

pub ruleset count_ways = (counts_line, counts_none)
