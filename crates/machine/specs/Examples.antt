-- Single records at single states, computed: document 01, "Sections". Assumes nothing.
use Rattle.std.specs.Prelude.{ℕ, ◌≡◌, refl, List, true, false, Some, Result, Ok, Err}
use Rattle.laws.specs.Lists.{run, all, same}
use Rattle.laws.specs.Text.{text}
use Rattle.record.specs.declared.Mode.{Mode}
use Rattle.record.specs.declared.Mode.TheVariants.{Loose, Exact}
use Rattle.record.specs.declared.refusal.Refusal.{Refusal}
use Rattle.record.specs.Record.{ends_cr, content, content_is, line_is, line_of}
use Rattle.token.specs.Examples.{computed as computed_token}
use Rattle.kinds.specs.Kinds.{code_place, angle_place, y_place, letters_place, islands_place, vertices_place}
use Rattle.kinds.specs.Examples.{computed as computed_kind}
use Rattle.machine.specs.declared.Ring.{Ring}
use Rattle.machine.specs.declared.State.{State}
use Rattle.machine.specs.declared.State.TheVariants.{Due, Field, Island, X, Y}
use Rattle.machine.specs.declared.One.{One}
use Rattle.machine.specs.Machine.{want_of, fresh_ring, vertices_of, fields_end, field_of, island_of, is_shut, ring_step, vertex_of, key_step, step_of, one_of}

-- `one_of` with every definition opened, so that it computes
unfoldable pub computed : Mode → State → ℕ → List ℕ → Result One Refusal
unfolding one_of step_of key_step vertex_of ring_step is_shut island_of field_of fields_end vertices_of want_of line_of line_is content content_is ends_cr run all same computed_token computed_kind
computed mode st next bs = one_of mode st next bs

-- a border has at least 4 vertices, 4 more for each island: 7 with one island are too few
border-vertices : (vertices_of 1 0 3 ≡ Err Refusal.Count) × (vertices_of 1 0 4 ≡ Ok (Some (X (fresh_ring true 0 4)))) × (vertices_of 1 1 7 ≡ Err Refusal.Count) × (vertices_of 1 1 8 ≡ Ok (Some (Island 1 8 1)))
    × (vertices_of 1 2 11 ≡ Err Refusal.Count) × (vertices_of 1 2 12 ≡ Ok (Some (Island 2 12 2)))
unfolding computed
border-vertices = (refl, refl, refl, refl, refl, refl)

-- a line has at least 2, and is no ring
line-vertices : (vertices_of 5 0 1 ≡ Err Refusal.Count) × (vertices_of 5 0 2 ≡ Ok (Some (X (fresh_ring false 0 2))))
unfolding computed
line-vertices = (refl, refl)

-- an island has at least 4 and leaves 4 for the outer ring, which has the rest and comes first
island-vertices : (island_of 1 8 1 3 ≡ Err Refusal.Count) × (island_of 1 8 1 4 ≡ Ok (Some (X (fresh_ring true 1 4)))) × (island_of 1 8 1 5 ≡ Err Refusal.Count) × (island_of 1 11 1 5 ≡ Ok (Some (X (fresh_ring true 1 6))))
    × (island_of 2 12 2 8 ≡ Ok (Some (Island 1 4 2))) × (island_of 1 4 2 4 ≡ Err Refusal.Count)
unfolding computed
island-vertices = (refl, refl, refl, refl, refl, refl)

-- exact mode refuses a code that is not listed, loose mode none; only where a code stands
codes : (field_of Exact 3 code_place 0 12 ≡ Err Refusal.Code) × (field_of Loose 3 code_place 0 12 ≡ Ok (Some (Field 3 angle_place 0))) × (field_of Exact 3 code_place 0 13 ≡ Ok (Some (Field 3 angle_place 0)))
    × (field_of Exact 1 islands_place 0 12 ≡ Ok (Some (Field 1 vertices_place 12)))
unfolding computed
codes = (refl, refl, refl, refl)

-- a raster's four points follow its letters, and are no ring; behind the last field of a text, a keyword is due
raster-points : (field_of Exact 6 letters_place 0 15 ≡ Ok (Some (X (fresh_ring false 0 4)))) × (field_of Exact 2 y_place 0 15 ≡ Ok (Some Due))
unfolding computed
raster-points = (refl, refl)

-- a survey book's line: type 1 alone is listed, its vertices are at least 2, and it is no ring
book-line : (field_of Exact 7 code_place 0 1 ≡ Ok (Some (Field 7 vertices_place 0))) × (field_of Exact 7 code_place 0 2 ≡ Err Refusal.Code) × (field_of Loose 7 code_place 0 2 ≡ Ok (Some (Field 7 vertices_place 0)))
    × (field_of Exact 7 vertices_place 0 1 ≡ Err Refusal.Count) × (field_of Exact 7 vertices_place 0 2 ≡ Ok (Some (X (fresh_ring false 0 2))))
unfolding computed
book-line = (refl, refl, refl, refl, refl)

-- a ring is shut by its first x and its first y, a line by nothing
shut : (is_shut true 1 2 1 2 ≡ true) × (is_shut true 1 2 3 2 ≡ false) × (is_shut true 1 2 1 3 ≡ false) × (is_shut true 1 2 2 1 ≡ false) × (is_shut false 1 2 3 4 ≡ true)
unfolding computed
shut = (refl, refl, refl, refl, refl)

-- a ring that has begun, of so many rings to come and so many vertices left
abbrev begun : ℕ → ℕ → Ring
begun rings left = record { closed = true; fresh = false; rings = rings; left = left; fx = 1; fy = 2 }

-- a vertex inside; the last one, with a ring to come, with none, and open
vertices : (vertex_of (begun 1 3) 5 6 9 ≡ Ok (Some (X (begun 1 2)))) × (vertex_of (begun 1 1) 1 2 9 ≡ Ok (Some (X (fresh_ring true 0 9)))) × (vertex_of (begun 0 1) 1 2 9 ≡ Ok (Some Due))
    × (vertex_of (begun 1 1) 5 2 9 ≡ Err Refusal.OpenRing) × (vertex_of (begun 1 1) 1 6 9 ≡ Err Refusal.OpenRing) × (vertex_of (fresh_ring true 1 3) 1 2 9 ≡ Ok (Some (X (begun 1 2))))
unfolding computed
vertices = (refl, refl, refl, refl, refl, refl)

-- `EOF` without a line end is a record only where a keyword is due
bare-EOF : (one_of Loose Due 0 (text "EOF") ≡ Ok (One.End 3)) × (one_of Loose (X (begun 0 1)) 0 (text "EOF") ≡ Err Refusal.Cut) × (one_of Loose (Y (begun 0 1) 1) 0 (text "EOF") ≡ Err Refusal.Cut)
    × (one_of Loose (Island 1 8 1) 0 (text "EOF") ≡ Err Refusal.Cut) × (one_of Loose (Field 2 letters_place 0) 0 (text "EOF") ≡ Err Refusal.Cut)
unfolding computed
bare-EOF = (refl, refl, refl, refl, refl)

-- a record's token, its content's length and its own: a keyword, letters, an island's count, an x, a y
records : (one_of Exact Due 0 (text "SIMBOLO\r\nx") ≡ Ok (One.Go (Field 3 code_place 0) 6 7 9)) × (one_of Loose (Field 4 letters_place 0) 0 (text " EOF\n") ≡ Ok (One.Go (Field 4 code_place 0) 3 4 5))
    × (one_of Loose (Island 1 8 1) 0 (text "4\n") ≡ Ok (One.Go (X (fresh_ring true 1 4)) 4 1 2)) × (one_of Loose (X (begun 0 3)) 0 (text "0.001\n") ≡ Ok (One.Go (Y (begun 0 3) 10000000001) 10000000001 5 6))
    × (one_of Loose (Y (begun 0 3) 5) 0 (text "-0.001\r\n") ≡ Ok (One.Go (X (begun 0 2)) 9999999999 6 8)) × (one_of Loose (X (begun 0 3)) 0 (text "7\n") ≡ Err Refusal.Number)
unfolding computed
records = (refl, refl, refl, refl, refl, refl)
