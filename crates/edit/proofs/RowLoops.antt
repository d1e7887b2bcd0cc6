-- Rows one after the other: a loop that tests each, and one that changes each. Assumes nothing.
use mathlib.Core.Path.{◌≡◌, refl, sym, ◌∙◌, ap, ap₂}
use mathlib.Core.List.{List, [], ◌++◌, append_assoc, append-nil}
use mathlib.Core.Bool.{Bool, true, false, not, ◌&&◌}
use Prim.Native.Nat.{ℕ, zero, suc, ◌+◌, ◌-◌, ◌*◌, ◌≤◌, ◌<◌}
use native.Mathlib.Nat.{sub-zero}
use native.Mathlib.Omega.{arith}
use lib.ListN.{length, take, drop, length-append, length-drop}
use lib.Seq.{drop-drop, drop-append-add, take-append-add}
use lib.IntN.{ℤ}
use borrow.Author.Tests.{not-true, not-false}
use Rattle.laws.specs.Lists.{tail}
use Rattle.laws.proofs.ListLaws.{rest-is, left-none}
use Rattle.laws.proofs.Choice.{and_left, and_right, and_both}
use Rattle.kinds.specs.Kinds.{row_width}
use Rattle.edit.specs.Rows.{every_row, each_row}

-- ---- each is tested

-- k of `count` rows passed
pub record Testing (f : List ℤ → Bool) (count : ℕ) (rows : List ℤ) (r k : ℕ) : Type 0 where
  pub at : r ≡ row_width * k
  pub few : k ≤ count
  pub left : every_row f count rows ≡ every_row f (count - k) (drop r rows)

module _ (f : List ℤ → Bool) (count : ℕ) (rows : List ℤ) where
  pub testing-none : Testing f count rows 0 0
  testing-none = record { at = refl; few = omega arith; left = rw (sub-zero count) }

  module _ (r k : ℕ) (i : Testing f count rows r k) where
    pub testing-all : count ≤ k → true ≡ every_row f count rows
    unfolding every_row
    testing-all h =
        let z : count - k ≡ 0 = omega arith in
        sym (i.left ∙ rw z)

    module _ (h : k < count) (l : row_width * count ≤ length rows) where
      pub row_in : r ≤ length rows
      row_in = omega (arith, i.at)

      pub row-there : row_width ≤ length (tail rows r)
      row-there = rw (rest-is rows r) (omega (arith, i.at, length-drop r rows))

      one-row : every_row f count rows ≡ (f (drop r rows) && every_row f (count - (k + 1)) (drop (r + row_width) rows))
      unfolding every_row
      one-row =
          let z : count - k ≡ suc (count - (k + 1)) = omega arith in
          i.left ∙ rw (z, drop-drop row_width r rows)

      module _ (b : Bool) (e₀ : b ≡ f (tail rows r)) where
        e : b ≡ f (drop r rows)
        e = rw (rest-is rows r) at e₀

        pub testing-not : not b ≡ true → false ≡ every_row f count rows
        testing-not t = sym (one-row ∙ rw (sym e ∙ not-true b t))

        pub testing-on : not b ≡ false → Testing f count rows (r + row_width) (k + 1)
        testing-on t = record { at = omega (arith, i.at); few = omega arith; left = one-row ∙ rw (sym e ∙ not-false b t) }

-- each of the rows passes
pub every-at : (f : List ℤ → Bool) (n k : ℕ) (rows : List ℤ) → k < n → every_row f n rows ≡ true → f (drop (row_width * k) rows) ≡ true
unfolding every_row
every-at f zero k rows h e = absurd (omega arith)
every-at f (suc n) zero rows h e = and_left (f rows) (every_row f n (drop row_width rows)) e
every-at f (suc n) (suc k) rows h e =
    let z : row_width * suc k ≡ row_width + row_width * k = omega arith in
    rw (z, ← drop-drop (row_width * k) row_width rows) (every-at f n k (drop row_width rows) (omega arith) (and_right (f rows) (every_row f n (drop row_width rows)) e))

-- ---- each is changed

-- a row stays a row
abbrev pub Wide : (List ℤ → List ℤ) → Type 0
Wide f = (rows : List ℤ) → row_width ≤ length rows → length (f rows) ≡ row_width

module _ (f : List ℤ → List ℤ) (w : Wide f) where
  pub length-each : (n : ℕ) (rows : List ℤ) → row_width * n ≤ length rows → length (each_row f n rows) ≡ length rows
  unfolding each_row
  length-each zero rows l = refl
  length-each (suc n) rows l =
      omega (
        arith,
        length-append (f rows) (each_row f n (drop row_width rows)),
        w rows (omega arith),
        length-each n (drop row_width rows) (omega (arith, length-drop row_width rows)),
        length-drop row_width rows,
      )

  -- the row behind n that are changed
  pub each_next : (n : ℕ) (rows : List ℤ) → row_width * suc n ≤ length rows
      → (drop (row_width * n) (each_row f n rows) ≡ drop (row_width * n) rows) × (each_row f (suc n) rows ≡ take (row_width * n) (each_row f n rows) ++ each_row f 1 (drop (row_width * n) rows))
  unfolding each_row
  each_next zero rows l = (refl, refl)
  each_next (suc n) rows l =
      let i = each_next n (drop row_width rows) (omega (arith, length-drop row_width rows)) in
      let m = w rows (omega arith) in
      let z : row_width * suc n ≡ length (f rows) + row_width * n = omega arith in
      let x : row_width + row_width * n ≡ row_width * suc n = omega arith in
      let y = drop-drop (row_width * n) row_width rows ∙ ap (λ (j : ℕ). drop j rows) x in (
        ap (λ (j : ℕ). drop j (f rows ++ each_row f n (drop row_width rows))) z ∙ drop-append-add (f rows) (each_row f n (drop row_width rows)) (row_width * n) ∙ i.0 ∙ y,
        ap (λ (x : List ℤ). f rows ++ x) i.1
            ∙ ap (λ (x : List ℤ). f rows ++ (take (row_width * n) (each_row f n (drop row_width rows)) ++ each_row f 1 x)) y
            ∙ sym (append_assoc (f rows) (take (row_width * n) (each_row f n (drop row_width rows))) (each_row f 1 (drop (row_width * suc n) rows)))
            ∙ ap (λ (x : List ℤ). x ++ each_row f 1 (drop (row_width * suc n) rows))
            (sym (ap (λ (j : ℕ). take j (f rows ++ each_row f n (drop row_width rows))) z ∙ take-append-add (f rows) (each_row f n (drop row_width rows)) (row_width * n))),
      )

-- the rows before the k-th are changed
pub record Changing (f : List ℤ → List ℤ) (count : ℕ) (rows₀ rows : List ℤ) (r k : ℕ) : Type 0 where
  pub at : r ≡ row_width * k
  pub few : k ≤ count
  pub is : rows ≡ each_row f k rows₀

module _ (f : List ℤ → List ℤ) (count : ℕ) (rows₀ : List ℤ) where
  pub changing-none : Changing f count rows₀ rows₀ 0 0
  unfolding each_row
  changing-none = record { at = refl; few = omega arith; is = refl }

  module _ (w : Wide f) (rows : List ℤ) (r k : ℕ) (m : Changing f count rows₀ rows r k) (l : row_width * count ≤ length rows₀) where
    pub changing-length : length rows ≡ length rows₀
    changing-length = rw m.is (length-each f w k rows₀ (omega (arith, m.few)))

    pub changing-all : count ≤ k → rows ≡ each_row f count rows₀
    changing-all h = let z : k ≡ count = omega (arith, m.few) in m.is ∙ ap (λ (j : ℕ). each_row f j rows₀) z

    module _ (h : k < count) where
      pub changing-in : r ≤ length rows
      changing-in = omega (arith, m.at, changing-length)

      next : (drop (row_width * k) (each_row f k rows₀) ≡ drop (row_width * k) rows₀) × (each_row f (suc k) rows₀ ≡ take (row_width * k) (each_row f k rows₀) ++ each_row f 1 (drop (row_width * k) rows₀))
      next = each_next f w k rows₀ (omega arith)

      left_as : tail rows r ≡ drop (row_width * k) rows₀
      left_as = rest-is rows r ∙ rw (m.at, m.is) next.0

      pub changing-wide : row_width ≤ length (tail rows r)
      changing-wide = rw left_as (omega (arith, length-drop (row_width * k) rows₀))

      -- what was tested of the row still holds
      pub changing-passes : (g : List ℤ → Bool) → every_row g count rows₀ ≡ true → g (tail rows r) ≡ true
      changing-passes g e = rw left_as (every-at g count k rows₀ h e)

      pub changing-on : (u : List ℤ) → u ≡ each_row f 1 (tail rows r) → Changing f count rows₀ (take r rows ++ (u ++ drop (length rows - r) (drop r rows))) (r + row_width) (k + 1)
      changing-on u e =
          let z : k + 1 ≡ suc k = omega arith in
          let none : drop (length rows - r) (drop r rows) ≡ [] = left-none (drop r rows) (length rows - r) (omega (arith, length-drop r rows)) in
          record {
            at = omega (arith, m.at);
            few = omega arith;
            is =
                rw (none, append-nil u, z, e, left_as)
                (sym (next.1 ∙ ap₂ (λ (j : ℕ) (x : List ℤ). take j x ++ each_row f 1 (drop (row_width * k) rows₀)) (sym m.at) (sym m.is)));
          }

-- and where each passes, all do
pub every-all : (f : List ℤ → Bool) (n : ℕ) (rows : List ℤ) → ((k : ℕ) → k < n → f (drop (row_width * k) rows) ≡ true) → every_row f n rows ≡ true
unfolding every_row
every-all f zero rows h = refl
every-all f (suc n) rows h =
    and_both (f rows) (every_row f n (drop row_width rows)) (h 0 (omega arith))
    (every-all f n (drop row_width rows)
    (λ k l. let z : row_width + row_width * k ≡ row_width * suc k = omega arith in
    ap f (drop-drop (row_width * k) row_width rows ∙ ap (λ (j : ℕ). drop j rows) z) ∙ h (suc k) (omega arith)))
