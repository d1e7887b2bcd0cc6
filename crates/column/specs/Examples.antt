-- The columns of document 02, T-04, computed in one table: contents, by what they are read as and in which mode, and the column of each, or 0 where it is accepted.
use Rattle.std.specs.Prelude.{ℕ, zero, suc, ◌≡◌, refl, List, [], ◌∷◌, map, Result}
use Prim.Native.String.{String}
use Rattle.laws.specs.Text.{text}
use Rattle.record.specs.declared.Mode.{Mode}
use Rattle.record.specs.declared.Mode.TheVariants.{Loose, Exact, Former}
use Rattle.record.specs.Record.{ends_cr, content, content_is, line_is, line_of}
use Rattle.laws.specs.Lists.{run, all}
use Rattle.number.specs.Examples.{computed_integer, computed_real}
use Rattle.token.specs.declared.Want.TheVariants.{Int, Real}
use Rattle.column.specs.Spots.{spot_after, is_free, spot_in, is_stuck, stretch, integer_start, real_start}
use Rattle.column.specs.Columns.{integer_column, real_column, record_column, refusal_column, integer_placed, real_placed, column_of}

-- the definitions opened, so that they compute
unfoldable pub computed_placed : Mode → List ℕ → Result ℕ ℕ
unfolding integer_placed real_placed integer_column real_column stretch is_stuck spot_in is_free spot_after integer_start real_start computed_integer computed_real
computed_placed mode c = integer_placed mode c

unfoldable pub computed_refusal : Mode → ℕ → List ℕ → ℕ
unfolding refusal_column record_column integer_column real_column stretch is_stuck spot_in is_free spot_after integer_start real_start line_of line_is content_is content ends_cr run all
computed_refusal mode m bs = refusal_column mode Int m bs

abbrev integers : Mode → List String → List ℕ
integers mode ss = map (λ s. column_of (integer_placed mode (text s))) ss

abbrev reals : Mode → List String → List ℕ
reals mode ss = map (λ s. column_of (real_placed mode (text s))) ss

blanks : ℕ → List ℕ
blanks zero = []
blanks (suc n) = 32 ∷ blanks n

-- integers, exact, loose and former; reals the same; a record of 255 blanks, which in loose mode only stops early
columns :
    (integers Exact (" 018" ∷ "0000" ∷ "1.000" ∷ "18" ∷ "    " ∷ "" ∷ "  18 " ∷ "  18" ∷ "   0" ∷ "12345" ∷ " 1 8" ∷ "   x" ∷ "  -1" ∷ [])
    ≡ 2 ∷ 1 ∷ 2 ∷ 3 ∷ 4 ∷ 1 ∷ 5 ∷ 0 ∷ 0 ∷ 5 ∷ 3 ∷ 4 ∷ 3 ∷ [])
    × (integers Loose ("12345" ∷ "" ∷ "0012x" ∷ "    " ∷ "18 x" ∷ "18   x y" ∷ "18  " ∷ "1 8" ∷ "-1" ∷ " +1" ∷ "00000" ∷ "1.5" ∷ [])
    ≡ 5 ∷ 1 ∷ 5 ∷ 5 ∷ 4 ∷ 6 ∷ 0 ∷ 3 ∷ 1 ∷ 2 ∷ 5 ∷ 2 ∷ [])
    × (integers Former ("12345" ∷ "12345 x" ∷ "0012x" ∷ "    " ∷ "18 x" ∷ "18   x y" ∷ "1 8" ∷ [])
    ≡ 5 ∷ 5 ∷ 5 ∷ 5 ∷ 0 ∷ 0 ∷ 0 ∷ [])
    × (reals Exact ("      -0.000" ∷ "1.000" ∷ "18" ∷ "            " ∷ "      00.500" ∷ "" ∷ "       1.000x" ∷ "      -0.001" ∷ "       0.000" ∷ "      +1.000" ∷ "     -00.100" ∷ "       -.500" ∷ "      -0.00" ∷ "      1.0000" ∷ "123456789.00" ∷ [])
    ≡ 12 ∷ 2 ∷ 3 ∷ 8 ∷ 7 ∷ 1 ∷ 13 ∷ 0 ∷ 0 ∷ 7 ∷ 7 ∷ 8 ∷ 12 ∷ 8 ∷ 9 ∷ [])
    × (reals Loose ("-10000000.000" ∷ "1.2345" ∷ "12345" ∷ "" ∷ "+10000000.000" ∷ "123456789.000" ∷ ".500" ∷ "5." ∷ "- 1.000" ∷ "1.000m" ∷ "1.000 m" ∷ "1.000  2.000" ∷ "-0.000" ∷ [])
    ≡ 9 ∷ 6 ∷ 6 ∷ 1 ∷ 9 ∷ 9 ∷ 1 ∷ 3 ∷ 2 ∷ 6 ∷ 7 ∷ 8 ∷ 0 ∷ [])
    × (reals Former ("1.2345" ∷ "1.000m" ∷ "1.000 m" ∷ "1.000  2.000" ∷ "" ∷ [])
    ≡ 6 ∷ 6 ∷ 0 ∷ 0 ∷ 1 ∷ [])
    × (column_of (integer_placed Loose (blanks 255)) ≡ 256) × (column_of (real_placed Loose (blanks 255)) ≡ 256)
unfolding computed_placed blanks
columns = (refl, refl, refl, refl, refl, refl, refl, refl)

-- a refusal: 8 carries the column of its record's content, every other number 0
refusal-columns : (refusal_column Exact Int 8 (text " 018\r\n") ≡ 2) × (refusal_column Exact Int 10 (text " 018\r\n") ≡ 0) × (refusal_column Loose Real 8 (text "1.2345\nEOF\n") ≡ 6)
    × (refusal_column Loose Int 8 (text "18") ≡ 0)
unfolding computed_refusal
refusal-columns = (refl, refl, refl, refl)
