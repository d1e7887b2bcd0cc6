-- A row of a small sheet alone, by computation: document 01, "Sheet tables"; document 02, T-07. Assumes nothing.
use Rattle.std.specs.Prelude.{◌≡◌, ℕ, List, [], ◌∷◌, ◌++◌, ℤ, pos, refl}
use Rattle.laws.specs.Text.{text}
use Rattle.sheet.specs.Tables.{Tables}
use Rattle.made.specs.Made.{tables_of, alone_of}
use Rattle.made.specs.Examples.{at_first, placed}
use Rattle.row.specs.Walk.{next_stand, stand_of, left_at, own_stand}
use Rattle.row.specs.Alone.{row_alone}

abbrev border : ℕ → ℕ → ℕ → List ℤ
border letters islands vertices =
    pos 1 ∷ pos 0 ∷ pos 0 ∷ pos 18 ∷ pos 0 ∷ pos 1 ∷ pos 1 ∷ pos 1 ∷ pos 1 ∷ pos letters ∷ pos islands ∷ pos vertices ∷ at_first

-- a closed ring of four vertices from x 0, or another
abbrev ring : ℕ → List ℤ
ring x = pos x ∷ pos 0 ∷ pos 9 ∷ pos 0 ∷ pos 9 ∷ pos 9 ∷ pos x ∷ pos 0 ∷ []

-- three borders, the second with an island, in tables that hold more
abbrev three : Tables
three = tables_of (border 2 0 4 ++ placed 2 0 4 (border 1 1 8) ++ placed 3 1 12 (border 3 0 4)) (text "127ABC?") (4 ∷ 9 ∷ []) (ring 0 ++ ring 1 ++ ring 2 ++ ring 3 ++ pos 5 ∷ [])

second-alone : row_alone 1 three ≡ tables_of (border 1 1 8) (text "7") (4 ∷ []) (ring 1 ++ ring 2)
unfolding stand_of next_stand
second-alone = refl

third-alone : row_alone 2 three ≡ tables_of (border 3 0 4) (text "ABC") [] (ring 3)
unfolding stand_of next_stand
third-alone = refl

-- by its own starts: no row before it is looked at
third-own : alone_of (left_at three (own_stand 2 three.rows)) ≡ tables_of (border 3 0 4) (text "ABC") [] (ring 3)
third-own = refl
