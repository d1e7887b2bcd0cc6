-- Sums of counts, and tests of every number of a list, as the code goes over them. Assumes nothing.
use Rattle.std.proofs.Common.{◌≡◌, ℕ, ◌+◌, ◌*◌, ◌<◌, ◌≤◌, Bool, true, false, not, List, [], ◌∷◌, length, get_or, drop, ℤ, pos, refl, sym, ap, ◌∙◌, arith, length-drop}
use mathlib.Core.Bool.{◌&&◌}
use borrow.Author.Tests.{not-true, not-false, leb-true, leb-false}
use lib.Dec.{leb}
use Prim.Native.Nat.{min}
use Rattle.std.specs.List.{list_all}
use Rattle.laws.specs.Lists.{all, tail}
use Rattle.laws.proofs.ListLaws.{left, left-none, rest-is}
use Rattle.number.specs.Number.{is_real}
use Rattle.kinds.specs.Kinds.{row_width, letters_place, islands_place, vertices_place}
use Rattle.sheet.specs.Tables.{Tables}
use Rattle.made.specs.Made.{tables_of, count_at, rest_of, sum, are_reals, is_closed, are_closed}

pub sum-on : (s : List ℕ) (i : ℕ) → i < length s → sum (drop i s) ≡ get_or s i 0 + sum (drop (i + 1) s)
unfolding sum
sum-on s i h = rw (left s i 0 h)

pub sum_over : (s : List ℕ) (i : ℕ) → length s ≤ i → sum (drop i s) ≡ 0
unfolding sum
sum_over s i h = rw (left-none s i h)

pub ruleset sums = (sum-on, sum_over)

-- std's test of every element is the definitions'
pub all_listed : (p : ℕ → Bool) (s : List ℕ) → list_all p s ≡ all p s
unfolding all
all_listed p [] = refl
all_listed p (n ∷ s) = ap (λ (b : Bool). p n && b) (all_listed p s)

pub reals_listed : (s : List ℤ) → list_all is_real s ≡ are_reals s
unfolding are_reals
reals_listed [] = refl
reals_listed (z ∷ s) = ap (λ (b : Bool). is_real z && b) (reals_listed s)

-- four at the front of those that are left
abbrev pub four_reals : List ℤ → Bool
four_reals s = is_real (get_or s 0 (pos 0)) && (is_real (get_or s 1 (pos 0)) && (is_real (get_or s 2 (pos 0)) && is_real (get_or s 3 (pos 0))))

and_four : (a b c d x : Bool) → (a && (b && (c && d))) && x ≡ a && (b && (c && (d && x)))
and_four true true true d x = refl
and_four true true false d x = refl
and_four true false c d x = refl
and_four false b c d x = refl

four_split : (s : List ℤ) → 4 ≤ length s → are_reals s ≡ (four_reals s && are_reals (drop 4 s))
unfolding are_reals
four_split (a ∷ b ∷ c ∷ d ∷ s) h = sym (and_four (is_real a) (is_real b) (is_real c) (is_real d) (are_reals s))
four_split (a ∷ b ∷ c ∷ []) h = absurd (omega arith)
four_split (a ∷ b ∷ []) h = absurd (omega arith)
four_split (a ∷ []) h = absurd (omega arith)
four_split [] h = absurd (omega arith)

module _ (s rest : List ℤ) (q : are_reals s ≡ are_reals rest) (h : 4 ≤ length rest) (r : Bool) (e : r ≡ four_reals rest) where
  pub four_stop : not r ≡ true → false ≡ are_reals s
  four_stop t = sym (q ∙ four_split rest h ∙ rw (← e, not-true r t))

  pub four_step : not r ≡ false → are_reals s ≡ are_reals (tail rest 4)
  four_step t = q ∙ four_split rest h ∙ rw (← e, not-false r t, rest-is rest 4)

pub ruleset fours = (four_stop, four_step)

-- ---- rings, one behind the other: those passed are closed

module _ (sizes : List ℕ) (s rest : List ℤ) (i : ℕ) (q : are_closed sizes s ≡ are_closed (drop i sizes) rest) where
  pub closed_over : length sizes ≤ i → true ≡ are_closed sizes s
  unfolding are_closed
  closed_over h = sym (q ∙ rw (left-none sizes i h))

  module _ (n : ℕ) (e : n ≡ get_or sizes i 0) (h : i < length sizes) (r : Bool) (f : r ≡ is_closed n rest) where
    closed_on : are_closed sizes s ≡ (r && are_closed (drop (i + 1) sizes) (drop (2 * n) rest))
    unfolding are_closed
    closed_on = q ∙ rw (left sizes i 0 h, ← e, ← f)

    pub closed_stop : not r ≡ true → false ≡ are_closed sizes s
    closed_stop t = sym (closed_on ∙ rw (not-true r t))

    pub closed_step : not r ≡ false → are_closed sizes s ≡ are_closed (drop (i + 1) sizes) (tail rest (2 * n))
    closed_step t = closed_on ∙ rw (not-false r t, rest-is rest (2 * n))

-- and those that are left are held
pub held_step : (sizes : List ℕ) (rest : List ℤ) (i n : ℕ) → 2 * sum (drop i sizes) ≤ length rest → n ≡ get_or sizes i 0 → i < length sizes
    → 2 * sum (drop (i + 1) sizes) ≤ length (tail rest (2 * n))
held_step sizes rest i n l e h = rw (rest-is rest (2 * n), length-drop (2 * n) rest) (omega (arith, sum-on sizes i h))

pub ruleset closings = (closed_over, closed_stop, closed_step, held_step)

-- ---- what is left behind a row, also where a table is shorter

dropped : {A : Type 0} (s : List A) (n m : ℕ) → m ≡ min n (length s) → tail s m ≡ drop n s
dropped s n m e = rest-is s m ∙ go (leb n (length s)) refl
  where
    go : (b : Bool) → leb n (length s) ≡ b → drop m s ≡ drop n s
    go true q =
        let h : n ≤ length s = leb-true n (length s) q in
        let z : m ≡ n = omega arith in
        ap (λ (k : ℕ). drop k s) z
    go false q =
        let h : length s < n = leb-false n (length s) q in
        left-none s m (omega arith) ∙ sym (left-none s n (omega arith))

pub rest_left : (t : Tables) (r l i p v : ℕ) → r ≡ min row_width (length t.rows) → l ≡ min (count_at t letters_place) (length t.letters) → i ≡ min (count_at t islands_place) (length t.islands)
    → v ≡ min (count_at t vertices_place * 2) 18446744073709551615 → length t.points ≤ 18446744073709551615 → p ≡ min v (length t.points)
    → tables_of (tail t.rows r) (tail t.letters l) (tail t.islands i) (tail t.points p) ≡ rest_of t
rest_left t r l i p v a b c d h e =
    rw (dropped t.rows row_width r a, dropped t.letters (count_at t letters_place) l b, dropped t.islands (count_at t islands_place) i c, dropped t.points (2 * count_at t vertices_place) p (omega arith))
