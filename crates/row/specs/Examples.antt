-- Where rows stand in a sheet of a text, a border with an island and a symbol, computed: document 01, "Sheet tables"; document 02, T-07. Assumes nothing.
use Rattle.std.specs.Prelude.{◌≡◌, ℕ, [], ◌∷◌, ◌++◌, refl, Result, Ok, Err}
use Rattle.laws.specs.Text.{text}
use Rattle.heading.specs.declared.Header.{Header}
use Rattle.sheet.specs.Tables.{Tables}
use Rattle.made.specs.declared.Flaw.TheVariants.{BadHeader, Faulty}
use Rattle.made.specs.Made.{tables_of}
use Rattle.made.specs.Examples.{header, placed, labelled, symbol, border, ring, computed as computed_verdict}
use Rattle.row.specs.declared.Stand.{Stand}
use Rattle.row.specs.declared.Unfound.{Unfound}
use Rattle.row.specs.declared.Unfound.TheVariants.{Missing, Refused}
use Rattle.row.specs.Walk.{next_stand, stand_after, stand_of, own_stand, left_at}
use Rattle.row.specs.Seek.{sought_of}

-- `sought_of` with every definition opened, so that it computes
unfoldable pub computed : Header → ℕ → Tables → ℕ → Result Stand Unfound
unfolding sought_of stand_of next_stand stand_after computed_verdict
computed h count t k = sought_of h count t k

abbrev stand : ℕ → ℕ → ℕ → ℕ → Stand
stand row letters islands points = record { row = row; letters = letters; islands = islands; points = points }

-- two letters, then one; an island; eight vertices, that is sixteen numbers
abbrev sheet : ℕ → Tables
sheet code = tables_of (labelled 2 18 ++ placed 2 0 0 (border 0 1 8) ++ placed 3 1 8 (symbol code)) (text "S77") (4 ∷ []) (ring 0 ++ ring 0)

-- row 0 at the start, each other past the rows before it; an unlisted code is well made
found : (sought_of (header 1) 3 (sheet 5) 0 ≡ Ok (stand 0 0 0 0)) × (sought_of (header 1) 3 (sheet 5) 1 ≡ Ok (stand 15 2 0 0)) × (sought_of (header 1) 3 (sheet 12) 2 ≡ Ok (stand 30 3 1 16))
unfolding computed
found = (refl, refl, refl)

-- each row's own starts say the same
owned : (own_stand 0 (sheet 5).rows ≡ stand 0 0 0 0) × (own_stand 1 (sheet 5).rows ≡ stand 15 2 0 0) × (own_stand 2 (sheet 5).rows ≡ stand 30 3 1 16)
owned = (refl, refl, refl)

-- what is left there is the row's own part and what follows
left : left_at (sheet 5) (stand 30 3 1 16) ≡ tables_of (placed 3 1 8 (symbol 5)) [] [] []
left = refl

-- past the last row; what stands past `count` is no row
past : (sought_of (header 1) 3 (sheet 5) 3 ≡ Err Missing) × (sought_of (header 1) 2 (sheet 5) 2 ≡ Err Missing)
unfolding computed
past = (refl, refl)

-- a fault in any row comes before a missing row, the header before both
refused : (sought_of (header 1) 4 (sheet 5) 7 ≡ Err (Refused (Faulty 3))) × (sought_of (header 1) 3 (sheet 10000) 0 ≡ Err (Refused (Faulty 2))) × (sought_of (header 4) 4 (sheet 5) 7 ≡ Err (Refused BadHeader))
unfolding computed
refused = (refl, refl, refl)

-- a step from row to row is the same as the code has it
stepped : stand_after (sheet 5).rows (stand 15 2 0 0) ≡ stand 30 3 1 16
unfolding computed
stepped = refl
