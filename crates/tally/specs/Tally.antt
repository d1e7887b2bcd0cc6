-- Tallies: document 01, "Areas": "for each class, borders, outer total, islands, island total". Assumes nothing: these are definitions.
use Rattle.std.specs.Prelude.{ℕ, ◌-◌, ◌*◌, ◌≡◌, List, [], ◌∷◌, ◌++◌, Bool, true, false, cond, ◌&&◌, length, replicate, ℤ, pos, ◌+ℤ◌}
use Rattle.std.specs.Int.Signed.{le_z}
use Rattle.border.specs.declared.Border.{Border}
use Rattle.classes.specs.Classes.{index_of}
use Rattle.tally.specs.declared.Tally.{Tally}

-- six classes of four figures
abbrev pub figure_count : ℕ
figure_count = 24

-- "Limit 18 applies to each total and each count separately"
abbrev pub limit : ℕ
limit = 9000000000000000000

unfoldable pub is_figure : ℤ → Bool
is_figure z = le_z (pos 0) z && le_z z (pos limit)

unfoldable pub is_tally : List ℤ → Bool
is_tally [] = true
is_tally (z ∷ s) = is_figure z && is_tally s

-- before the first border
abbrev pub no_figures : List ℤ
no_figures = replicate figure_count (pos 0)

abbrev pub empty_tally : Tally
empty_tally = record { figures = no_figures }

-- two tallies together, figure by figure
unfoldable pub plus : List ℤ → List ℤ → List ℤ
plus [] t = []
plus (a ∷ s) [] = []
plus (a ∷ s) (b ∷ t) = (a +ℤ b) ∷ plus s t

-- one border's own figures: 1, its outer ring's area, its islands and their area, in the place of class k
unfoldable pub figures_of : ℕ → ℤ → ℤ → ℤ → List ℤ
figures_of k outer islands inner = replicate (4 * k) (pos 0) ++ pos 1 ∷ outer ∷ islands ∷ inner ∷ replicate (4 * (5 - k)) (pos 0)

-- whether figures fit, and the tally then
pub record Added : Type 0 where
  pub fits : Bool
  pub tally : Tally

abbrev pub refused_at : Tally → Added
refused_at t = record { fits = false; tally = t }

-- with figures added, where every figure keeps the limit; else as it was (18)
unfoldable pub with_figures : Tally → List ℤ → Added
with_figures t own =
    cond (is_tally t.figures && (is_tally own && is_tally (plus t.figures own))) (record { fits = true; tally = record { figures = plus t.figures own } })
    (refused_at t)

-- "judged after the whole border"
unfoldable pub add_of : Tally → Border → ℤ → ℤ → Added
add_of t b outer inner = with_figures t (figures_of (index_of b.class) outer (pos b.islands) inner)

-- ---- a class's four figures, in place

-- what is added to a figure is one, and so is the sum
unfoldable pub is_fit : ℤ → ℤ → Bool
is_fit y z = is_figure z && is_figure (y +ℤ z)

unfoldable pub are_fit : ℤ → ℤ → ℤ → ℤ → ℤ → ℕ → ℤ → Bool
are_fit a b c d outer n inner = is_fit a (pos 1) && (is_fit b outer && (is_fit c (pos n) && is_fit d inner))

-- the figures of a tally
pub record Good (s : List ℤ) : Type 0 where
  pub each : is_tally s ≡ true
  pub count : length s ≡ figure_count

abbrev pub tally_on : List ℤ → Tally
tally_on s = record { figures = s }
