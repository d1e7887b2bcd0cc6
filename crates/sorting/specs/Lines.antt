-- Lines of 23 bytes that stand one behind the other, put in the order of their bytes: document 02, T-01. Assumes nothing: these are definitions.
use Rattle.std.specs.Prelude.{ℕ, zero, suc, ◌*◌, ◌/◌, ◌≡◌, refl, List, [], ◌∷◌, ◌++◌, Bool, length, take, drop, replicate}
use Rattle.laws.specs.Lists.{over}
use Rattle.order.specs.Compare.{is_before, by_bytes}
use Rattle.order.specs.Sorting.{insert, sort_into, sort_by}

-- a line of a SUP file
abbrev pub line_width : ℕ
line_width = 23

-- line i, from 0
abbrev pub line_at : List ℕ → ℕ → List ℕ
line_at s i = take line_width (drop (line_width * i) s)

-- the first n lines
unfoldable pub lines_in : ℕ → List ℕ → List (List ℕ)
lines_in zero s = []
lines_in (suc n) s = take line_width s ∷ lines_in n (drop line_width s)

-- one behind the other
unfoldable pub joined : List (List ℕ) → List ℕ
joined [] = []
joined (x ∷ s) = x ++ joined s

abbrev pub bytes_before : List ℕ → List ℕ → Bool
bytes_before a b = is_before (by_bytes a b)

-- the whole lines in order; what is left behind them stays
unfoldable pub sorted_lines : List ℕ → List ℕ
sorted_lines s = over (joined (sort_by bytes_before (lines_in (length s / line_width) s))) s

-- ---- computed

-- three lines that differ in their last byte, and two bytes behind them
three-lines : sorted_lines (replicate 22 7 ++ (3 ∷ replicate 22 7) ++ (1 ∷ replicate 22 7) ++ (2 ∷ 9 ∷ 8 ∷ []))
    ≡ replicate 22 7 ++ (1 ∷ replicate 22 7) ++ (2 ∷ replicate 22 7) ++ (3 ∷ 9 ∷ 8 ∷ [])
unfolding sorted_lines joined lines_in sort_into insert
three-lines = refl
