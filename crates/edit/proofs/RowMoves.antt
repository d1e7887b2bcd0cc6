-- The ways through the functions that judge and move a pair of coordinates and a row. Assumes nothing.
use mathlib.Core.Path.{◌≡◌, refl, sym, ◌∙◌, ap}
use mathlib.Core.List.{List, [], ◌∷◌, ◌++◌}
use mathlib.Core.Bool.{Bool, true, false, not, ◌&&◌, ◌||◌}
use Prim.Native.Nat.{ℕ, suc, ◌+◌, ◌-◌, ◌≤◌, ◌<◌}
use native.Mathlib.Omega.{arith}
use lib.ListN.{length, get_or, set, take, drop, take-append-drop, length-set}
use lib.Seq.{get_or-set_other, length-take-le}
use lib.Dec.{leb}
use lib.IntN.{ℤ, pos, ◌+ℤ◌}
use mir.Syntax.{w64}
use mir.Val.{SFits}
use mir.Facts.{to_z-of_z}
use borrow.Author.Tests.{not-true, not-false, lt-leb}
use Rattle.laws.specs.Lists.{below}
use Rattle.laws.proofs.Choice.{false≢true, and-false, and_left, and_right}
use Rattle.number.specs.Number.{is_real}
use Rattle.kinds.specs.Kinds.{row_width, x_place, x2_place}
use Rattle.made.specs.Made.{nat_of, has_field}
use Rattle.edit.specs.Rows.{each_row}
use Rattle.edit.specs.Moves.{is_moved, part_at, moved_cell, moved_cells, moved_row, moved_rows, row_stays}
use Rattle.edit.specs.Used.{pair_stays, pair_shifted}
use Rattle.edit.proofs.PartWays.{bits}
use Rattle.edit.proofs.PlaceWays.{paired}

and-true : (a : Bool) → (a && true) ≡ a
and-true true = refl
and-true false = refl

and_comm : (a b : Bool) → (a && b) ≡ (b && a)
and_comm true true = refl
and_comm true false = refl
and_comm false true = refl
and_comm false false = refl

-- ---- an x and a y

module _ (dx dy : ℤ) (s : List ℤ) (p : ℕ) (fx : SFits w64 dx) (b : Bool) (e : b ≡ is_real (get_or s p (pos 0) +ℤ bits dx)) where
  pub pair-x-off : not b ≡ true → false ≡ pair_stays dx dy s p
  unfolding pair_stays
  pair-x-off t = rw (sym (rw (to_z-of_z fx) at e) ∙ not-true b t)

  pub pair-y : not b ≡ false → SFits w64 dy → (r : Bool) → r ≡ is_real (get_or s (p + 1) (pos 0) +ℤ bits dy) → r ≡ pair_stays dx dy s p
  unfolding pair_stays
  pair-y t fy r g = rw (sym (rw (to_z-of_z fx) at e) ∙ not-false b t) (rw (to_z-of_z fy) at g)

module _ (dx dy : ℤ) (s : List ℤ) (p : ℕ) (fx : SFits w64 dx) (fy : SFits w64 dy) (l : p + 1 < length s) (st : pair_stays dx dy s p ≡ true) where
  pub pair-x-real : (p < length s) × (is_real (get_or s p (pos 0) +ℤ bits dx) ≡ true)
  unfolding pair_stays
  pair-x-real = (omega arith, rw (to_z-of_z fx) (and_left (is_real (get_or s p (pos 0) +ℤ dx)) (is_real (get_or s (p + 1) (pos 0) +ℤ dy)) st))

  module _ (u : List ℤ) (e : u ≡ set s p (get_or s p (pos 0) +ℤ bits dx)) where
    u-is : u ≡ set s p (get_or s p (pos 0) +ℤ dx)
    u-is = rw (to_z-of_z fx) at e

    y_kept : get_or u (p + 1) (pos 0) ≡ get_or s (p + 1) (pos 0)
    y_kept = rw u-is (get_or-set_other s p (p + 1) (get_or s p (pos 0) +ℤ dx) (pos 0) (λ z. omega arith))

    pub pair-y-real : (p + 1 < length u) × (is_real (get_or u (p + 1) (pos 0) +ℤ bits dy) ≡ true)
    unfolding pair_stays
    pair-y-real = (
      rw u-is (omega (arith, length-set s p (get_or s p (pos 0) +ℤ dx))),
      rw (to_z-of_z fy, y_kept) (and_right (is_real (get_or s p (pos 0) +ℤ dx)) (is_real (get_or s (p + 1) (pos 0) +ℤ dy)) st),
    )

    pub pair-done : (v : List ℤ) → v ≡ set u (p + 1) (get_or u (p + 1) (pos 0) +ℤ bits dy) → v ≡ pair_shifted dx dy s p
    unfolding pair_shifted
    pair-done v f = rw (to_z-of_z fy, y_kept, u-is) at f

-- ---- whether the first row stays

module _ (dx dy : ℤ) (rows : List ℤ) where
  abbrev kind : ℕ
  kind = nat_of (get_or rows 0 (pos 0))

  four-two : (a b x y x2 y2 : Bool) → ((not b || y2) && ((not b || x2) && ((not a || y) && ((not a || x) && true)))) ≡ ((not a || (x && y)) && (not b || (x2 && y2)))
  four-two true true true true x2 y2 = rw (and-true x2) (and_comm y2 x2)
  four-two true true true false x2 y2 = rw (and-false x2) (and-false y2)
  four-two true true false true x2 y2 = rw (and-false x2) (and-false y2)
  four-two true true false false x2 y2 = rw (and-false x2) (and-false y2)
  four-two true false true true x2 y2 = refl
  four-two true false true false x2 y2 = refl
  four-two true false false true x2 y2 = refl
  four-two true false false false x2 y2 = refl
  four-two false true x y x2 y2 = rw (and-true x2) (and_comm y2 x2)
  four-two false false x y x2 y2 = refl

  -- by its pairs
  pub stays-pairs : row_stays dx dy rows ≡ ((not (has_field kind x_place) || pair_stays dx dy rows x_place) && (not (has_field kind x2_place) || pair_stays dx dy rows x2_place))
  unfolding row_stays below is_moved part_at pair_stays
  stays-pairs =
      rw ((paired kind).first, (paired kind).second)
      (four-two (has_field kind x_place) (has_field kind x2_place) (is_real (get_or rows 5 (pos 0) +ℤ dx)) (is_real (get_or rows 6 (pos 0) +ℤ dy)) (is_real (get_or rows 7 (pos 0) +ℤ dx)) (is_real (get_or rows 8 (pos 0) +ℤ dy)))

  -- its kind in the code's hand, and whether it has a position
  module _ (k : ℕ) (q : k ≡ kind) (a : Bool) (e : a ≡ has_field k x_place) where
    x-place : has_field kind x_place ≡ a
    x-place = rw (← q) (sym e)

    pub row-unplaced : not a ≡ true → true ≡ row_stays dx dy rows
    row-unplaced t =
        let f : has_field kind x_place ≡ false = x-place ∙ not-true a t in
        sym (stays-pairs ∙ rw (f, (paired kind).both f))

    module _ (t : not a ≡ false) (fx : SFits w64 dx) (fy : SFits w64 dy) (b : Bool) (eb : b ≡ pair_stays (bits dx) (bits dy) rows 5) where
      first-is : pair_stays dx dy rows x_place ≡ b
      first-is = sym (rw (to_z-of_z fx, to_z-of_z fy) at eb)

      pub row-first-off : not b ≡ true → false ≡ row_stays dx dy rows
      row-first-off u = sym (stays-pairs ∙ rw (x-place ∙ not-false a t, first-is ∙ not-true b u))

      module _ (u : not b ≡ false) (s : Bool) (es : s ≡ has_field k x2_place) where
        first_one : row_stays dx dy rows ≡ (not (has_field kind x2_place) || pair_stays dx dy rows x2_place)
        first_one = stays-pairs ∙ rw (x-place ∙ not-false a t, first-is ∙ not-false b u)

        x2-place : has_field kind x2_place ≡ s
        x2-place = rw (← q) (sym es)

        pub row-single : not s ≡ true → true ≡ row_stays dx dy rows
        row-single w = sym (first_one ∙ rw (x2-place ∙ not-true s w))

        pub row-second : not s ≡ false → (r : Bool) → r ≡ pair_stays (bits dx) (bits dy) rows 7 → r ≡ row_stays dx dy rows
        row-second w r er = sym (first_one ∙ rw (x2-place ∙ not-false s w) (sym (rw (to_z-of_z fx, to_z-of_z fy) at er)))

pub ruleset row-ways = (row-unplaced, row-first-off, row-single, row-second)

-- ---- a row that is moved

-- behind the second y nothing moves
pub cells-late : (dx dy : ℤ) (kind p : ℕ) (s : List ℤ) → 9 ≤ p → moved_cells dx dy kind p s ≡ s
unfolding moved_cells moved_cell is_moved
cells-late dx dy kind p [] h = refl
cells-late dx dy kind p (z ∷ s) h = rw (lt-leb p 8 h, and-false (leb 5 p), cells-late dx dy kind (suc p) s (omega arith))

-- a row of nine numbers and more
nine : (P : List ℤ → Type 0) → ((a b c d e f g h i : ℤ) (s : List ℤ) → P (a ∷ b ∷ c ∷ d ∷ e ∷ f ∷ g ∷ h ∷ i ∷ s)) → (s : List ℤ) → 9 ≤ length s → P s
nine P p [] l = absurd (omega arith)
nine P p (a ∷ []) l = absurd (omega arith)
nine P p (a ∷ b ∷ []) l = absurd (omega arith)
nine P p (a ∷ b ∷ c ∷ []) l = absurd (omega arith)
nine P p (a ∷ b ∷ c ∷ d ∷ []) l = absurd (omega arith)
nine P p (a ∷ b ∷ c ∷ d ∷ e ∷ []) l = absurd (omega arith)
nine P p (a ∷ b ∷ c ∷ d ∷ e ∷ f ∷ []) l = absurd (omega arith)
nine P p (a ∷ b ∷ c ∷ d ∷ e ∷ f ∷ g ∷ []) l = absurd (omega arith)
nine P p (a ∷ b ∷ c ∷ d ∷ e ∷ f ∷ g ∷ h ∷ []) l = absurd (omega arith)
nine P p (a ∷ b ∷ c ∷ d ∷ e ∷ f ∷ g ∷ h ∷ i ∷ s) l = p a b c d e f g h i s

-- so what stands behind it in the row and behind the row is as it was
late-moved : (dx dy : ℤ) (kind n : ℕ) (s : List ℤ) → moved_cells dx dy kind 9 (take n s) ++ drop n s ≡ s
late-moved dx dy kind n s = ap (λ (x : List ℤ). x ++ drop n s) (cells-late dx dy kind 9 (take n s) (omega arith)) ∙ take-append-drop n s

-- ---- a row that is moved, as the code shifts its pairs

or_right : (a b : Bool) → a ≡ true → (not a || b) ≡ true → b ≡ true
or_right true b e f = f
or_right false b e f = absurd (false≢true e)

unmoved : (dx dy : ℤ) (rows : List ℤ) → 9 ≤ length rows → has_field (nat_of (get_or rows 0 (pos 0))) x_place ≡ false → rows ≡ moved_rows dx dy 1 rows
unfolding each_row moved_row moved_cells moved_cell is_moved
unmoved dx dy =
    nine (λ (s : List ℤ). has_field (nat_of (get_or s 0 (pos 0))) x_place ≡ false → s ≡ moved_rows dx dy 1 s)
    (λ a b c d e f g h i s n. let p = paired (nat_of a) in rw (p.second, p.both n, p.first, n, late-moved dx dy (nat_of a) (row_width - 9) s))

moved-one : (dx dy : ℤ) (rows : List ℤ) → 9 ≤ length rows → has_field (nat_of (get_or rows 0 (pos 0))) x_place ≡ true → has_field (nat_of (get_or rows 0 (pos 0))) x2_place ≡ false
    → pair_shifted dx dy rows x_place ≡ moved_rows dx dy 1 rows
unfolding each_row moved_row moved_cells moved_cell is_moved part_at pair_shifted
moved-one dx dy =
    nine (λ (s : List ℤ). has_field (nat_of (get_or s 0 (pos 0))) x_place ≡ true → has_field (nat_of (get_or s 0 (pos 0))) x2_place ≡ false → pair_shifted dx dy s x_place ≡ moved_rows dx dy 1 s)
    (λ a b c d e f g h i s m n. let p = paired (nat_of a) in rw (p.second, n, p.first, m, late-moved dx dy (nat_of a) (row_width - 9) s))

moved-two : (dx dy : ℤ) (rows : List ℤ) → 9 ≤ length rows → has_field (nat_of (get_or rows 0 (pos 0))) x_place ≡ true → has_field (nat_of (get_or rows 0 (pos 0))) x2_place ≡ true
    → pair_shifted dx dy (pair_shifted dx dy rows x_place) x2_place ≡ moved_rows dx dy 1 rows
unfolding each_row moved_row moved_cells moved_cell is_moved part_at pair_shifted
moved-two dx dy =
    nine (λ (s : List ℤ). has_field (nat_of (get_or s 0 (pos 0))) x_place ≡ true → has_field (nat_of (get_or s 0 (pos 0))) x2_place ≡ true → pair_shifted dx dy (pair_shifted dx dy s x_place) x2_place ≡ moved_rows dx dy 1 s)
    (λ a b c d e f g h i s m n. let p = paired (nat_of a) in rw (p.second, n, p.first, m, late-moved dx dy (nat_of a) (row_width - 9) s))

-- the second pair is not touched by the first
second-kept : (dx dy ex ey : ℤ) (rows : List ℤ) → 9 ≤ length rows → pair_stays dx dy (pair_shifted ex ey rows x_place) x2_place ≡ pair_stays dx dy rows x2_place
unfolding pair_stays pair_shifted
second-kept dx dy ex ey = nine (λ (s : List ℤ). pair_stays dx dy (pair_shifted ex ey s x_place) x2_place ≡ pair_stays dx dy s x2_place) (λ a b c d e f g h i s. refl)

pub length-shifted : (dx dy : ℤ) (s : List ℤ) (p : ℕ) → length (pair_shifted dx dy s p) ≡ length s
unfolding pair_shifted
length-shifted dx dy s p = length-set (set s p (get_or s p (pos 0) +ℤ dx)) (p + 1) (get_or s (p + 1) (pos 0) +ℤ dy) ∙ length-set s p (get_or s p (pos 0) +ℤ dx)

module _ (dx dy : ℤ) (rows : List ℤ) (l : row_width ≤ length rows) (st : row_stays dx dy rows ≡ true) (k : ℕ) (q : k ≡ nat_of (get_or rows 0 (pos 0))) (a : Bool) (e : a ≡ has_field k x_place) where
  abbrev kind₁ : ℕ
  kind₁ = nat_of (get_or rows 0 (pos 0))

  x-field : has_field kind₁ x_place ≡ a
  x-field = rw (← q) (sym e)

  both-stay : ((not (has_field kind₁ x_place) || pair_stays dx dy rows x_place) && (not (has_field kind₁ x2_place) || pair_stays dx dy rows x2_place)) ≡ true
  both-stay = sym (stays-pairs dx dy rows) ∙ st

  pub move-none : not a ≡ true → rows ≡ moved_rows dx dy 1 rows
  move-none t = unmoved dx dy rows (omega arith) (x-field ∙ not-true a t)

  module _ (t : not a ≡ false) (fx : SFits w64 dx) (fy : SFits w64 dy) where
    yes : has_field kind₁ x_place ≡ true
    yes = x-field ∙ not-false a t

    pub first-asks : (5 + 1 < length rows) × (pair_stays (bits dx) (bits dy) rows 5 ≡ true)
    first-asks = (
      omega arith,
      rw (to_z-of_z fx, to_z-of_z fy) (or_right (has_field kind₁ x_place) (pair_stays dx dy rows x_place) yes
          (and_left (not (has_field kind₁ x_place) || pair_stays dx dy rows x_place) (not (has_field kind₁ x2_place) || pair_stays dx dy rows x2_place) both-stay)),
    )

    module _ (u : List ℤ) (eu : u ≡ pair_shifted (bits dx) (bits dy) rows 5) (b : Bool) (es : b ≡ has_field k x2_place) where
      u-shifted : u ≡ pair_shifted dx dy rows x_place
      u-shifted = rw (to_z-of_z fx, to_z-of_z fy) at eu

      x2-field : has_field kind₁ x2_place ≡ b
      x2-field = rw (← q) (sym es)

      pub move-first : not b ≡ true → u ≡ moved_rows dx dy 1 rows
      move-first w = u-shifted ∙ moved-one dx dy rows (omega arith) yes (x2-field ∙ not-true b w)

      module _ (w : not b ≡ false) where
        pub second-asks : (7 + 1 < length u) × (pair_stays (bits dx) (bits dy) u 7 ≡ true)
        second-asks = (
          rw u-shifted (omega (arith, length-shifted dx dy rows x_place)),
          rw (to_z-of_z fx, to_z-of_z fy, u-shifted) (second-kept dx dy dx dy rows (omega arith) ∙ or_right (has_field kind₁ x2_place) (pair_stays dx dy rows x2_place) (x2-field ∙ not-false b w)
              (and_right (not (has_field kind₁ x_place) || pair_stays dx dy rows x_place) (not (has_field kind₁ x2_place) || pair_stays dx dy rows x2_place) both-stay)),
        )

        pub move-both : (v : List ℤ) → v ≡ pair_shifted (bits dx) (bits dy) u 7 → v ≡ moved_rows dx dy 1 rows
        move-both v ev = (rw (to_z-of_z fx, to_z-of_z fy, u-shifted) at ev) ∙ moved-two dx dy rows (omega arith) yes (x2-field ∙ not-false b w)

-- ---- how long it is

length-cells : (dx dy : ℤ) (kind p : ℕ) (s : List ℤ) → length (moved_cells dx dy kind p s) ≡ length s
unfolding moved_cells
length-cells dx dy kind p [] = refl
length-cells dx dy kind p (z ∷ s) = ap suc (length-cells dx dy kind (suc p) s)

pub length-row : (dx dy : ℤ) (rows : List ℤ) → row_width ≤ length rows → length (moved_row dx dy rows) ≡ row_width
unfolding moved_row
length-row dx dy rows l = length-cells dx dy (nat_of (get_or rows 0 (pos 0))) 0 (take row_width rows) ∙ length-take-le row_width rows l
