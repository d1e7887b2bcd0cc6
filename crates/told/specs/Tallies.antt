-- Tallies as the C interface has them: "a `figures_len` other than 24 is a tally that is no tally: 18, its answer's `figures` all 0".
-- Assumes nothing: these are definitions.
use Rattle.std.specs.Prelude.{ℕ, ◌≡◌, refl, List, false, cond, length, replicate, eqb, ℤ, negsuc, Result}
use Rattle.tally.specs.declared.Tally.{Tally}
use Rattle.tally.specs.declared.Untallied.{Untallied}
use Rattle.tally.specs.declared.Taken.{Taken}
use Rattle.tally.specs.Tally.{figure_count, is_figure, is_tally, empty_tally}
use Rattle.tally.specs.Take as Take
use Rattle.told.specs.declared.tallies.CxfTally.{CxfTally}

-- each figure is -1
abbrev pub no_tally : Tally
no_tally = record { figures = replicate figure_count (negsuc 0) }

-- so it is refused 18
no-tally : is_tally no_tally.figures ≡ false
unfolding is_tally is_figure
no-tally = refl

unfoldable pub tally_in : List ℤ → Tally
tally_in s = cond (eqb (length s) figure_count) (record { figures = s }) no_tally

abbrev pub tally_laid : Tally → Result Unit Untallied → CxfTally
tally_laid t r = record { number = Take.number_of r; row = Take.row_of r; figures = t.figures }

abbrev pub tally_told : Taken → CxfTally
tally_told x = tally_laid x.tally x.outcome

-- the answer to a tally of so many figures
unfoldable pub take_told : ℕ → Taken → CxfTally
take_told count x = cond (eqb count figure_count) (tally_told x) (tally_laid empty_tally x.outcome)
