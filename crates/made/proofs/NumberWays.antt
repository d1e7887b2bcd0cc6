-- The tests of a row's numbers, one after the other. Assumes nothing.
use Rattle.std.proofs.Common.{◌≡◌, ℕ, ◌<◌, ◌≤◌, Bool, true, false, List, length, get_or, ℤ, pos, negsuc, leb, sym, refl, ◌∙◌, arith}
use borrow.Author.Tests.{leb-true}
use Rattle.laws.specs.Lists.{below}
use Rattle.laws.proofs.Choice.{true≢false, false≢true, and_left, and_right}
use Rattle.laws.proofs.ListLaws.{below_at, below_all}
use Rattle.token.specs.Lex.{kind_most}
use Rattle.kinds.specs.Kinds.{row_width, own_width}
use Rattle.made.specs.Made.{nat_of, is_between, is_cell, cell_test, are_numbers}

pub below_not : (n : ℕ) (p : ℕ → Bool) (i : ℕ) → i < n → p i ≡ false → false ≡ below n p
below_not n p i h e = go (below n p) refl
  where
    go : (b : Bool) → below n p ≡ b → false ≡ b
    go true q = absurd (false≢true (sym e ∙ below_at n p i q h))
    go false q = refl

pub ruleset cells = (below_not, below_all)

-- a number that is a kind
kind_in : (z : ℤ) → is_between 1 kind_most z ≡ true → (1 ≤ nat_of z) × (nat_of z ≤ kind_most)
kind_in (pos n) e = (leb-true 1 n (and_left (leb 1 n) (leb n kind_most) e), leb-true n kind_most (and_right (leb 1 n) (leb n kind_most) e))
kind_in (negsuc n) e = absurd (true≢false (sym e))

module _ (rows : List ℤ) (k : ℕ) (e : k ≡ nat_of (get_or rows 0 (pos 0))) where
  no_kind : ((1 ≤ k) × (k ≤ kind_most) → ⊥) → false ≡ are_numbers rows
  unfolding are_numbers is_cell
  no_kind n = go (are_numbers rows) refl
    where
      go : (t : Bool) → are_numbers rows ≡ t → false ≡ t
      go true q =
          let h =
          kind_in (get_or rows 0 (pos 0)) (below_at own_width (cell_test rows) 0 (and_right (leb row_width (length rows)) (below own_width (cell_test rows)) q) (omega arith)) in
          absurd (n (omega (arith, h.0), omega (arith, h.1)))
      go false q = refl

  pub numbers_none : k < 1 → false ≡ are_numbers rows
  numbers_none h = no_kind (λ (l, m). omega arith)

  pub numbers_past : kind_most < k → false ≡ are_numbers rows
  numbers_past h = no_kind (λ (l, m). omega arith)

pub ruleset numbers = (numbers_none, numbers_past)
