-- Starts that fall: a number, a row, and where the last row ends. Assumes nothing.
use mathlib.Core.Path.{◌≡◌, refl, ◌∙◌, ap}
use mathlib.Core.List.{List, [], ◌∷◌}
use mathlib.Core.Bool.{Bool, true, ◌&&◌}
use Prim.Native.Nat.{ℕ, suc, ◌+◌, ◌-◌, ◌*◌, ◌≤◌, ◌<◌, ◌^◌}
use native.Mathlib.Omega.{arith}
use lib.ListN.{length, get_or, set, take, drop, length-set}
use lib.Seq.{get_or-set_other, length-take-le}
use lib.IntN.{ℤ, pos, ◌-ℤ◌}
use lib.Signed.{mag, le_z}
use mir.Syntax.{w64}
use mir.Val.{SFits, to_z, of_z}
use mir.Facts.{to_z-of_z, to_z_pos}
use Rattle.laws.specs.Lists.{tail}
use Rattle.laws.proofs.ListLaws.{rest-is}
use Rattle.laws.proofs.Choice.{and_left, and_right}
use Rattle.laws.proofs.Parts.{ints, num, diff, eq-parts, parts-fit, fit_parts}
use Rattle.laws.proofs.Bits.{back}
use Rattle.kinds.specs.Kinds.{row_width, first_letter_place, first_island_place, first_point_place}
use Rattle.sheet.specs.Tables.{Starts, move_at}
use Rattle.made.specs.Made.{nat_of, starts_at}
use Rattle.row.specs.Walk.{word_most, cell_in, Stands}
use Rattle.edit.specs.Rows.{each_row}
use Rattle.edit.specs.Removals.{fall_from}
use Rattle.edit.specs.Closing.{start_most, lowered, is_up, fallen_row, end_stand}
use Rattle.edit.proofs.PartWays.{bits}
use Rattle.edit.proofs.RowLoops.{Wide}

-- ---- a number

module _ (z : ℤ) (n : ℕ) (m : mag z < 2 ^ 63) (l : n ≤ start_most) (u : le_z (pos 0) z ≡ true) where
  n-reads : to_z w64 n ≡ pos n
  n-reads = to_z_pos w64 {n = n} (omega arith)

  less-fits : SFits w64 (z -ℤ pos n)
  less-fits =
      let f = fit_parts z (record { sfits = m }) in
      parts-fit (z -ℤ pos n) (omega (arith, ints, num z, diff z (pos n), f)) (omega (arith, ints, num z, diff z (pos n), f))

  pub lower-fits : SFits w64 (bits z -ℤ to_z w64 n)
  lower-fits = rw (back z m, n-reads) less-fits

  lower-is : to_z w64 (of_z w64 (bits z -ℤ to_z w64 n)) ≡ z -ℤ pos n
  lower-is = to_z-of_z lower-fits ∙ rw (back z m, n-reads)

pub lower-done : (rows : List ℤ) (p n : ℕ) → mag (get_or rows p (pos 0)) < 2 ^ 63 → n ≤ start_most → le_z (pos 0) (get_or rows p (pos 0)) ≡ true
    → set rows p (to_z w64 (of_z w64 (bits (get_or rows p (pos 0)) -ℤ to_z w64 n))) ≡ lowered p n rows
unfolding lowered
lower-done rows p n m l u = ap (λ (z : ℤ). set rows p z) (lower-is (get_or rows p (pos 0)) n m l u)

-- ---- a row

-- a row of fifteen numbers and more
fifteen : (P : List ℤ → Type 0) → ((a b c d e f g h i j k l m n o : ℤ) (s : List ℤ) → P (a ∷ b ∷ c ∷ d ∷ e ∷ f ∷ g ∷ h ∷ i ∷ j ∷ k ∷ l ∷ m ∷ n ∷ o ∷ s)) → (s : List ℤ) → 15 ≤ length s → P s
fifteen P p [] q = absurd (omega arith)
fifteen P p (a ∷ []) q = absurd (omega arith)
fifteen P p (a ∷ b ∷ []) q = absurd (omega arith)
fifteen P p (a ∷ b ∷ c ∷ []) q = absurd (omega arith)
fifteen P p (a ∷ b ∷ c ∷ d ∷ []) q = absurd (omega arith)
fifteen P p (a ∷ b ∷ c ∷ d ∷ e ∷ []) q = absurd (omega arith)
fifteen P p (a ∷ b ∷ c ∷ d ∷ e ∷ f ∷ []) q = absurd (omega arith)
fifteen P p (a ∷ b ∷ c ∷ d ∷ e ∷ f ∷ g ∷ []) q = absurd (omega arith)
fifteen P p (a ∷ b ∷ c ∷ d ∷ e ∷ f ∷ g ∷ h ∷ []) q = absurd (omega arith)
fifteen P p (a ∷ b ∷ c ∷ d ∷ e ∷ f ∷ g ∷ h ∷ i ∷ []) q = absurd (omega arith)
fifteen P p (a ∷ b ∷ c ∷ d ∷ e ∷ f ∷ g ∷ h ∷ i ∷ j ∷ []) q = absurd (omega arith)
fifteen P p (a ∷ b ∷ c ∷ d ∷ e ∷ f ∷ g ∷ h ∷ i ∷ j ∷ k ∷ []) q = absurd (omega arith)
fifteen P p (a ∷ b ∷ c ∷ d ∷ e ∷ f ∷ g ∷ h ∷ i ∷ j ∷ k ∷ l ∷ []) q = absurd (omega arith)
fifteen P p (a ∷ b ∷ c ∷ d ∷ e ∷ f ∷ g ∷ h ∷ i ∷ j ∷ k ∷ l ∷ m ∷ []) q = absurd (omega arith)
fifteen P p (a ∷ b ∷ c ∷ d ∷ e ∷ f ∷ g ∷ h ∷ i ∷ j ∷ k ∷ l ∷ m ∷ n ∷ []) q = absurd (omega arith)
fifteen P p (a ∷ b ∷ c ∷ d ∷ e ∷ f ∷ g ∷ h ∷ i ∷ j ∷ k ∷ l ∷ m ∷ n ∷ o ∷ s) q = p a b c d e f g h i j k l m n o s

pub less_none : (z : ℤ) → z -ℤ pos 0 ≡ z
less_none z = eq-parts (z -ℤ pos 0) z (omega (arith, num z, diff z (pos 0)))

abbrev three : Starts → List ℤ → List ℤ
three s rows = lowered first_point_place s.points (lowered first_island_place s.islands (lowered first_letter_place s.letters rows))

three-fallen : (s : Starts) (rows : List ℤ) → 15 ≤ length rows → three s rows ≡ each_row (fallen_row s) 1 rows
unfolding lowered each_row fallen_row fall_from move_at
three-fallen s =
    fifteen (λ (rows : List ℤ). three s rows ≡ each_row (fallen_row s) 1 rows)
    (λ a b c d e f g h i j k l m n o r. rw (less_none a, less_none b, less_none c, less_none d, less_none e, less_none f, less_none g, less_none h, less_none i, less_none j, less_none k, less_none l))

pub length-lowered : (p n : ℕ) (s : List ℤ) → length (lowered p n s) ≡ length s
unfolding lowered
length-lowered p n s = length-set s p (get_or s p (pos 0) -ℤ pos n)

kept : (p q n : ℕ) (s : List ℤ) → (q ≡ p → ⊥) → get_or (lowered p n s) q (pos 0) ≡ get_or s q (pos 0)
unfolding lowered
kept p q n s f = get_or-set_other s p q (get_or s p (pos 0) -ℤ pos n) (pos 0) f

module _ (rows : List ℤ) (l : row_width ≤ length rows) (u : is_up rows ≡ true) where
  abbrev A : Bool
  A = le_z (pos 0) (get_or rows first_letter_place (pos 0))

  abbrev B : Bool
  B = le_z (pos 0) (get_or rows first_island_place (pos 0))

  abbrev C : Bool
  C = le_z (pos 0) (get_or rows first_point_place (pos 0))

  pub first-up : (12 < length rows) × (le_z (pos 0) (get_or rows 12 (pos 0)) ≡ true)
  unfolding is_up
  first-up = (omega arith, and_left A (B && C) u)

  module _ (n : ℕ) (v : List ℤ) (e : v ≡ lowered 12 n rows) where
    pub second-up : (13 < length v) × (le_z (pos 0) (get_or v 13 (pos 0)) ≡ true)
    unfolding is_up
    second-up = rw e (omega (arith, length-lowered 12 n rows), rw (kept 12 13 n rows (λ z. omega arith)) (and_left B C (and_right A (B && C) u)))

    module _ (k : ℕ) (w : List ℤ) (f : w ≡ lowered 13 k v) where
      pub third-up : (14 < length w) × (le_z (pos 0) (get_or w 14 (pos 0)) ≡ true)
      unfolding is_up
      third-up =
          rw (f, e) (
            omega (arith, length-lowered 13 k (lowered 12 n rows), length-lowered 12 n rows),
            rw (kept 13 14 k (lowered 12 n rows) (λ z. omega arith), kept 12 14 n rows (λ z. omega arith)) (and_right B C (and_right A (B && C) u)),
          )

      pub row-lowered : (j : ℕ) (x : List ℤ) → x ≡ lowered 14 j w → x ≡ each_row (fallen_row (starts_at n k j)) 1 rows
      row-lowered j x g = g ∙ rw (f, e) (three-fallen (starts_at n k j) rows l)

      pub length_three : (j : ℕ) (x : List ℤ) → x ≡ lowered 14 j w → length x ≡ length rows
      length_three j x g = rw g (length-lowered 14 j w ∙ rw f (length-lowered 13 k v ∙ rw e (length-lowered 12 n rows)))

pub length-fall : (s : Starts) (p : ℕ) (l : List ℤ) → length (fall_from s p l) ≡ length l
unfolding fall_from
length-fall s p [] = refl
length-fall s p (z ∷ zs) = ap suc (length-fall s (suc p) zs)

pub fallen-wide : (s : Starts) → Wide (fallen_row s)
unfolding fallen_row
fallen-wide s rows l = length-fall s 0 (take row_width rows) ∙ length-take-le row_width rows l

-- ---- the end of the last row

module _ (n : ℕ) (rows : List ℤ) (s : Stands word_most word_most word_most word_most (end_stand n rows)) where
  abbrev at_last : ℕ → ℕ
  at_last p = nat_of (get_or (tail rows (15 * (n - 1))) p (pos 0))

  at-is : (p : ℕ) → at_last p ≡ cell_in (drop (row_width * (n - 1)) rows) p
  at-is p = ap (λ (x : List ℤ). nat_of (get_or x p (pos 0))) (rest-is rows (15 * (n - 1)))

  pub end-letters : (a b : ℕ) → a ≡ at_last 12 → b ≡ at_last 9 → a + b ≤ word_most
  unfolding end_stand
  end-letters a b e f = omega (arith, at-is 12, at-is 9, s.letters-in)

  pub end-islands : (a b : ℕ) → a ≡ at_last 13 → b ≡ at_last 10 → a + b ≤ word_most
  unfolding end_stand
  end-islands a b e f = omega (arith, at-is 13, at-is 10, s.islands-in)

  pub end-points : (a b : ℕ) → a ≡ at_last 14 → b ≡ at_last 11 → 2 * (a + b) ≤ word_most
  unfolding end_stand
  end-points a b e f = omega (arith, at-is 14, at-is 11, s.points-in)

  pub end_is : (a b c d e f : ℕ) → a ≡ at_last 12 → b ≡ at_last 9 → c ≡ at_last 13 → d ≡ at_last 10 → e ≡ at_last 14 → f ≡ at_last 11
      → record { row = 15 * n; letters = a + b; islands = c + d; points = 2 * (e + f) } ≡ end_stand n rows
  unfolding end_stand
  end_is a b c d e f p q r t u v = rw (p, q, r, t, u, v, rest-is rows (15 * (n - 1)))
