-- A border is what its own part of the tables says: rows behind it do not alter it. Assumes nothing.
use mathlib.Core.Path.{◌≡◌, refl, sym, ◌∙◌, ap}
use mathlib.Core.List.{[]}
use native.Mathlib.Omega.{arith}
use Rattle.kinds.specs.Kinds.{size_place, angle_place, x_place, y_place, x2_place, y2_place, letters_place, islands_place, vertices_place}
use Rattle.heading.specs.declared.Header.{Header}
use Rattle.sheet.specs.Tables.{Tables, ◌then◌}
use Rattle.made.specs.Made.{tables_of, first_of, own_of}
use Rattle.made.proofs.RowWays.{Held}
use Rattle.made.proofs.OwnLaws.{cell-own, letters-own, own_same, first_then, first-own}
use Rattle.border.specs.Borders.{border_of}

-- islands and points play no part
pub border_lists : (h : Header) (t : Tables) → border_of h (tables_of t.rows t.letters [] []) ≡ border_of h t
unfolding border_of
border_lists h t = refl

-- its own part alone
pub border-owned : (h : Header) (t : Tables) → border_of h (own_of t) ≡ border_of h t
unfolding border_of
border-owned h t =
    let cell = cell-own t in
    rw (letters-own t, cell size_place (omega arith), cell angle_place (omega arith), cell x_place (omega arith), cell y_place (omega arith), cell x2_place (omega arith), cell y2_place (omega arith), cell letters_place (omega arith), cell islands_place (omega arith), cell vertices_place (omega arith))

border-alike : (h : Header) (t u : Tables) → first_of t ≡ first_of u → border_of h t ≡ border_of h u
border-alike h t u e = sym (border-owned h t) ∙ ap (border_of h) (own_same t u e) ∙ border-owned h u

module _ (h : Header) (t u : Tables) (k : Held t) where
  -- tables appended: what follows a row does not alter it
  pub border-then : border_of h (t then u) ≡ border_of h t
  border-then = border-alike h (t then u) t (first_then t u k)

  -- nor does anything that is put in the place of what follows
  pub border-own : border_of h (first_of t then u) ≡ border_of h t
  border-own = border-alike h (first_of t then u) t (first-own t u k)
