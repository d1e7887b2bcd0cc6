-- What a viewer uses (document 02, T-07): a row of a well made sheet says itself where its letters, island counts and points begin, and no row before it
-- has to be looked at. Assumes nothing.
use Rattle.std.proofs.Common.{◌≡◌, ℕ, ◌+◌, ◌*◌, ◌<◌, get_or, take, drop, pos, sym, ap, ◌∙◌, arith, get_or-drop}
use Rattle.record.specs.declared.Mode.TheVariants.{Loose}
use Rattle.heading.specs.declared.Header.{Header}
use Rattle.kinds.specs.Kinds.{row_width, letters_place, islands_place, vertices_place, first_letter_place, first_island_place, first_point_place}
use Rattle.sheet.specs.Tables.{Tables}
use Rattle.std.specs.Prelude.{Ok}
use Rattle.made.specs.Made.{nat_of, letters_of, islands_of, points_of, alone_of, none_before, judge_of}
use Rattle.made.proofs.UsedLaws.{total}
use Rattle.made.proofs.StartLaws.{Starting, starts-are, starts-total, past_rows}
use Rattle.row.specs.declared.Stand.{Stand}
use Rattle.row.specs.Walk.{stand_of, own_stand, left_at}
use Rattle.row.specs.Alone.{row_alone}
use Rattle.row.proofs.Walk.{walk-to, walk-own}
use Rattle.row.proofs.SeekLaws.{fine-rows}

-- a number of row k, as a count
abbrev pub of_row : Tables → ℕ → ℕ → ℕ
of_row t k p = nat_of (get_or t.rows (row_width * k + p) (pos 0))

module _ (h : Header) (n : ℕ) (t : Tables) (e : judge_of Loose h n t ≡ Ok tt) (k : ℕ) (l : k < n) where
  starting : Starting (past_rows k none_before t).starts (drop (row_width * k) t.rows)
  starting = starts-are (past_rows k none_before t).starts (drop (row_width * k) t.rows) (starts-total Loose n none_before t (fine-rows h n t e) k l)

  at_row : (p : ℕ) → get_or t.rows (row_width * k + p) (pos 0) ≡ get_or (drop (row_width * k) t.rows) p (pos 0)
  at_row p = sym (get_or-drop (row_width * k) t.rows p (pos 0))

  -- **each start is the sum of the counts before it**
  pub first-letter : get_or t.rows (row_width * k + first_letter_place) (pos 0) ≡ pos (total letters_place k t)
  first-letter = let z : 0 + total letters_place k t ≡ total letters_place k t = omega arith in at_row first_letter_place ∙ starting.letters ∙ ap pos z

  pub first-island : get_or t.rows (row_width * k + first_island_place) (pos 0) ≡ pos (total islands_place k t)
  first-island = let z : 0 + total islands_place k t ≡ total islands_place k t = omega arith in at_row first_island_place ∙ starting.islands ∙ ap pos z

  pub first-point : get_or t.rows (row_width * k + first_point_place) (pos 0) ≡ pos (total vertices_place k t)
  first-point = let z : 0 + total vertices_place k t ≡ total vertices_place k t = omega arith in at_row first_point_place ∙ starting.points ∙ ap pos z

  pub stand-own : stand_of k t.rows ≡ own_stand k t.rows
  stand-own = walk-own (walk-to Loose t n (fine-rows h n t e) k (omega arith)) l

  -- **its letters, island counts and points, by its own numbers**
  pub letters-there : letters_of (left_at t (stand_of k t.rows)) ≡ take (of_row t k letters_place) (drop (of_row t k first_letter_place) t.letters)
  letters-there = ap (λ (d : Stand). letters_of (left_at t d)) stand-own ∙ rw (at_row letters_place, at_row first_letter_place)

  pub islands-there : islands_of (left_at t (stand_of k t.rows)) ≡ take (of_row t k islands_place) (drop (of_row t k first_island_place) t.islands)
  islands-there = ap (λ (d : Stand). islands_of (left_at t d)) stand-own ∙ rw (at_row islands_place, at_row first_island_place)

  pub points-there : points_of (left_at t (stand_of k t.rows)) ≡ take (2 * of_row t k vertices_place) (drop (2 * of_row t k first_point_place) t.points)
  points-there = ap (λ (d : Stand). points_of (left_at t d)) stand-own ∙ rw (at_row vertices_place, at_row first_point_place)

  -- and the row alone
  pub alone-own : row_alone k t ≡ alone_of (left_at t (own_stand k t.rows))
  alone-own = ap (λ (d : Stand). alone_of (left_at t d)) stand-own
