-- How the machine goes along a kind's schedule: each rule is a test over kinds and places that is computed once. Assumes nothing.
use mathlib.Core.Path.{◌≡◌, refl, subst}
use mathlib.Core.List.{List, [], ◌∷◌}
use mathlib.Core.Bool.{Bool, true, false, cond, not, ◌&&◌, ◌||◌}
use Prim.Native.Nat.{ℕ, ◌+◌, ◌≤◌}
use native.Mathlib.Omega.{arith}
use lib.ListN.{get_or}
use lib.Dec.{leb, eqb}
use borrow.Author.Tests.{leb-true, eqb-true, eq-eqb, ne_eqb, not-true}
use Rattle.laws.specs.Lists.{below, holds, same}
use Rattle.laws.proofs.Choice.{and_left, and_right, true≢false}
use Rattle.laws.proofs.ListLaws.{below_at, same-is}
use Rattle.token.specs.Lex.{kind_most}
use Rattle.kinds.specs.Kinds.{first_letter_place, first_island_place, first_point_place, schedule, next_in, next_of, fixed, fixed_vertices, unsaid}
use Rattle.made.specs.Made.{has_field}

-- the places from p on
unfoldable pub from_in : ℕ → List ℕ → List ℕ
from_in p [] = []
from_in p (q ∷ qs) = cond (eqb q p) (q ∷ qs) (from_in p qs)

-- the fields of a kind from the one at p on
unfoldable pub ahead : ℕ → ℕ → List ℕ
ahead kind p = from_in p (get_or schedule kind [])

-- a rule of the kinds' fields
abbrev ruled : (ℕ → ℕ → Bool) → ℕ → ℕ → Bool
ruled P kind p = not (has_field kind p) || P kind p

abbrev all_ruled : (ℕ → ℕ → Bool) → ℕ → Bool
all_ruled P kind = below 12 (ruled P kind)

abbrev step_rule : ℕ → ℕ → Bool
step_rule kind p = same (ahead kind p) (p ∷ ahead kind (next_of kind p))

abbrev once_rule : ℕ → ℕ → Bool
once_rule kind p = not (holds (ahead kind (next_of kind p)) p)

abbrev on_rule : ℕ → ℕ → Bool
on_rule kind p = eqb (next_of kind p) 0 || has_field kind (next_of kind p)

abbrev end_rule : ℕ → ℕ → Bool
end_rule kind p = not (eqb (next_of kind p) 0) || same (ahead kind (next_of kind p)) []

abbrev low_rule : ℕ → ℕ → Bool
low_rule kind p = leb 2 p

abbrev last_rule : ℕ → ℕ → Bool
last_rule kind p = not (eqb p 11) || eqb (next_of kind p) 0 && (eqb kind 1 || not (has_field kind 10))

abbrev bare_rule : ℕ → ℕ → Bool
bare_rule kind p = not (eqb (next_of kind p) 0) || eqb p 11 || not (has_field kind 10) && not (has_field kind 11)

abbrev said_rule : ℕ → ℕ → Bool
said_rule kind p = eqb (unsaid kind p) 0

module _ (kind p : ℕ) (h : kind ≤ kind_most) (k : p ≤ 11) (f : has_field kind p ≡ true) where
  rule : (P : ℕ → ℕ → Bool) → below (kind_most + 1) (all_ruled P) ≡ true → P kind p ≡ true
  rule P e = rw f at (below_at 12 (ruled P kind) p (below_at (kind_most + 1) (all_ruled P) kind e (omega arith)) (omega arith))

  -- the fields from p on are p and those from the next on
  pub ahead_step : ahead kind p ≡ p ∷ ahead kind (next_of kind p)
  unfolding below has_field holds schedule ahead from_in next_of next_in same
  ahead_step = same-is _ _ (rule step_rule refl)

  -- none comes twice
  pub ahead-once : holds (ahead kind (next_of kind p)) p ≡ false
  unfolding below has_field holds schedule ahead from_in next_of next_in
  ahead-once = not-true _ (rule once_rule refl)

  pub next_field : (next_of kind p ≡ 0 → ⊥) → has_field kind (next_of kind p) ≡ true
  unfolding below has_field holds schedule next_of next_in
  next_field n = rw (ne_eqb (next_of kind p) 0 n) at (rule on_rule refl)

  pub ahead-end : next_of kind p ≡ 0 → ahead kind (next_of kind p) ≡ []
  unfolding below has_field holds schedule ahead from_in next_of next_in same
  ahead-end e = same-is _ _ (rw (eq-eqb (next_of kind p) 0 e) at (rule end_rule refl))

  -- kind and outside are no fields
  pub field-low : 2 ≤ p
  unfolding below has_field holds schedule
  field-low = leb-true 2 p (rule low_rule refl)

  -- vertices come last, and islands are a border's
  pub vertices-last : p ≡ 11 → next_of kind p ≡ 0
  unfolding below has_field holds schedule next_of next_in
  vertices-last e = eqb-true (next_of kind p) 0 (and_left (eqb (next_of kind p) 0) _ (rw (eq-eqb p 11 e) at (rule last_rule refl)))

  pub line-islands : p ≡ 11 → eqb kind 1 ≡ false → has_field kind 10 ≡ false
  unfolding below has_field holds schedule next_of next_in
  line-islands e n = not-true _ (rw n at (and_right (eqb (next_of kind p) 0) _ (rw (eq-eqb p 11 e) at (rule last_rule refl))))

  -- where another field comes last there are neither
  pub bare-end : next_of kind p ≡ 0 → (p ≡ 11 → ⊥) → (has_field kind 10 ≡ false) × (has_field kind 11 ≡ false)
  unfolding below has_field holds schedule next_of next_in
  bare-end e n =
      let b = rw (eq-eqb (next_of kind p) 0 e, ne_eqb p 11 n) at (rule bare_rule refl) in
      (not-true _ (and_left (not (has_field kind 10)) _ b), not-true _ (and_right (not (has_field kind 10)) _ b))

  -- what a record says is not given without it
  pub said-none : unsaid kind p ≡ 0
  unfolding below has_field holds schedule unsaid fixed_vertices fixed
  said-none = eqb-true (unsaid kind p) 0 (rule said_rule refl)

-- a border counts its vertices
pub bare-kind : (kind : ℕ) → has_field kind 11 ≡ false → eqb kind 1 ≡ false
unfolding has_field holds schedule
bare-kind kind h = ne_eqb kind 1 (λ e. true≢false (subst (λ (k : ℕ). has_field k 11 ≡ false) e h))

abbrev enough_rule : ℕ → Bool
enough_rule kind = eqb (fixed_vertices kind) 0 || leb 2 (fixed_vertices kind)

-- vertices that no record counts are at least 2
pub fixed-enough : (kind : ℕ) → kind ≤ kind_most → (fixed_vertices kind ≡ 0 → ⊥) → 2 ≤ fixed_vertices kind
unfolding below fixed_vertices fixed
fixed-enough kind h n = leb-true 2 (fixed_vertices kind) (rw (ne_eqb (fixed_vertices kind) 0 n) at (below_at (kind_most + 1) enough_rule kind refl (omega arith)))

abbrev first_rule : ℕ → Bool
first_rule kind = eqb (next_of kind 0) 0 || has_field kind (next_of kind 0) && same (ahead kind (next_of kind 0)) (get_or schedule kind [])

-- the first field of a kind, and from it on all of them
pub first_field : (kind : ℕ) → kind ≤ kind_most → (next_of kind 0 ≡ 0 → ⊥) → (has_field kind (next_of kind 0) ≡ true) × (ahead kind (next_of kind 0) ≡ get_or schedule kind [])
unfolding below has_field holds schedule ahead from_in next_of next_in same
first_field kind h n =
    let b = rw (ne_eqb (next_of kind 0) 0 n) at (below_at (kind_most + 1) first_rule kind refl (omega arith)) in
    (and_left (has_field kind (next_of kind 0)) _ b, same-is _ _ (and_right (has_field kind (next_of kind 0)) _ b))

-- no record is read into a start
none_at_starts : ℕ → Bool
none_at_starts kind = not (has_field kind first_letter_place) && not (has_field kind first_island_place) && not (has_field kind first_point_place)

pub starts-unread : (kind : ℕ) → kind ≤ kind_most → (has_field kind first_letter_place ≡ false) × (has_field kind first_island_place ≡ false) × (has_field kind first_point_place ≡ false)
unfolding none_at_starts below has_field schedule holds
starts-unread kind h =
    let a = not (has_field kind first_letter_place) in
    let b = not (has_field kind first_island_place) in
    let c = not (has_field kind first_point_place) in
    let e : (a && b && c) ≡ true = below_at (kind_most + 1) none_at_starts kind refl (omega arith) in (
      not-true (has_field kind first_letter_place) (and_left a b (and_left (a && b) c e)),
      not-true (has_field kind first_island_place) (and_right a b (and_left (a && b) c e)),
      not-true (has_field kind first_point_place) (and_right (a && b) c e),
    )
