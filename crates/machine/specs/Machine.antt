-- The machine: from a state, by one token, to the next state. Document 01, "Sections". Assumes nothing: these are definitions.
use Rattle.std.specs.Prelude.{ℕ, ◌+◌, ◌-◌, ◌*◌, ◌/◌, List, Bool, true, false, cond, not, ◌&&◌, ◌||◌, take, leb, eqb, Option, Some, None, Result, Ok, Err}
use Rattle.record.specs.declared.Mode.{Mode}
use Rattle.record.specs.declared.Line.{Line}
use Rattle.record.specs.Record.{is_exact, line_of}
use Rattle.record.specs.declared.refusal.Refusal.{Refusal}
use Rattle.kinds.specs.Kinds.{want_at, next_of, fixed_vertices, is_listed, code_place, islands_place, vertices_place}
use Rattle.token.specs.Lex.{lex_of}
use Rattle.token.specs.declared.Want.{Want}
use Rattle.token.specs.declared.Want.TheVariants.{Key, Int, Real}
use Rattle.machine.specs.declared.Ring.{Ring}
use Rattle.machine.specs.declared.State.{State}
use Rattle.machine.specs.declared.State.TheVariants.{Due, Field, Island, X, Y}
use Rattle.machine.specs.declared.One.{One}

-- The words of a state. `Island left spare rings`: so many island records are still to come, so many vertices are not given to an island yet, and so many rings
-- will follow the outer one. A `Ring` at work: `closed`, whether its last vertex must be its first (only a border's); `fresh`, whether its first vertex is
-- yet to come; `rings`, how many rings follow it; `left`, how many of its vertices are still to come; (`fx`, `fy`), its first vertex.

-- ---- what a record must be

unfoldable pub want_of : State → Want
want_of Due = Key
want_of (Field kind p islands) = want_at p
want_of (Island left spare rings) = Int
want_of (X r) = Real
want_of (Y r x) = Real

abbrev pub is_due : State → Bool
is_due Due = true
is_due (Field kind p islands) = false
is_due (Island left spare rings) = false
is_due (X r) = false
is_due (Y r x) = false

-- ---- where its token leads: to a state, to no further one where the file ends, or to a refusal

abbrev pub Step : Type 0
Step = Result (Option State) Refusal

abbrev pub fresh_ring : Bool → ℕ → ℕ → Ring
fresh_ring closed rings left = record { closed = closed; fresh = true; rings = rings; left = left; fx = 0; fy = 0 }

-- a border's vertices are at least 4 + 4 times its islands; any other kind's, which are no ring, at least 2
unfoldable pub vertices_of : ℕ → ℕ → ℕ → Step
vertices_of kind islands n =
    cond (eqb kind 1)
    (cond (leb (4 + 4 * islands) n) (cond (eqb islands 0) (Ok (Some (X (fresh_ring true 0 n)))) (Ok (Some (Island islands n islands)))) (Err Refusal.Count))
    (cond (leb 2 n) (Ok (Some (X (fresh_ring false 0 n)))) (Err Refusal.Count))

-- after the last field: a keyword is due, or the points of a section that does not count them
unfoldable pub fields_end : ℕ → Step
fields_end kind = cond (eqb (fixed_vertices kind) 0) (Ok (Some Due)) (vertices_of kind 0 (fixed_vertices kind))

-- exact mode refuses codes that are not listed
unfoldable pub field_of : Mode → ℕ → ℕ → ℕ → ℕ → Step
field_of mode kind p islands n =
    cond (eqb p code_place && is_exact mode && not (is_listed kind n)) (Err Refusal.Code)
    (cond (eqb p vertices_place) (vertices_of kind islands n)
    (cond (eqb (next_of kind p) 0) (fields_end kind) (Ok (Some (Field kind (next_of kind p) (cond (eqb p islands_place) n islands))))))

-- an island has at least 4, and the islands so far leave 4 for the outer ring, which has the rest and comes first
unfoldable pub island_of : ℕ → ℕ → ℕ → ℕ → Step
island_of left spare rings n =
    cond (leb 4 n && leb (n + 4) spare)
    (cond (leb left 1) (Ok (Some (X (fresh_ring true rings (spare - n))))) (Ok (Some (Island (left - 1) (spare - n) rings))))
    (Err Refusal.Count)

-- every ring's first and last vertex are equal
unfoldable pub is_shut : Bool → ℕ → ℕ → ℕ → ℕ → Bool
is_shut closed fx fy x y = not closed || eqb x fx && eqb y fy

-- after a vertex (x, y) of a ring whose first is (fx, fy); `next` is the size of the ring after this one
unfoldable pub ring_step : Ring → ℕ → ℕ → ℕ → ℕ → ℕ → Step
ring_step r fx fy x y next =
    cond (leb r.left 1)
    (cond (is_shut r.closed fx fy x y)
    (cond (eqb r.rings 0) (Ok (Some Due)) (Ok (Some (X (fresh_ring r.closed (r.rings - 1) next)))))
    (Err Refusal.OpenRing))
    (Ok (Some (X (record { closed = r.closed; fresh = false; rings = r.rings; left = r.left - 1; fx = fx; fy = fy }))))

unfoldable pub vertex_of : Ring → ℕ → ℕ → ℕ → Step
vertex_of r x y next = ring_step r (cond r.fresh x r.fx) (cond r.fresh y r.fy) x y next

-- a keyword says 0 for EOF, else twice its kind, one more where it lies outside
unfoldable pub key_step : ℕ → Step
key_step t = cond (eqb t 0) (Ok None) (cond (eqb (next_of (t / 2) 0) 0) (Err Refusal.Keyword) (Ok (Some (Field (t / 2) (next_of (t / 2) 0) 0))))

unfoldable pub step_of : Mode → State → ℕ → ℕ → Step
step_of mode Due t next = key_step t
step_of mode (Field kind p islands) t next = field_of mode kind p islands t
step_of mode (Island left spare rings) t next = island_of left spare rings t
step_of mode (X r) t next = Ok (Some (Y r t))
step_of mode (Y r x) t next = vertex_of r x t next

-- ---- one record at a state, at the front of the bytes left

abbrev pub of_step : ℕ → ℕ → ℕ → Step → Result One Refusal
of_step t len width (Ok (Some st)) = Ok (One.Go st t len width)
of_step t len width (Ok None) = Ok (One.End width)
of_step t len width (Err m) = Err m

abbrev pub of_token : Mode → State → ℕ → ℕ → ℕ → Result ℕ Refusal → Result One Refusal
of_token mode st next len width (Ok t) = of_step t len width (step_of mode st t next)
of_token mode st next len width (Err m) = Err m

abbrev pub of_line : Mode → State → ℕ → List ℕ → Result Line Refusal → Result One Refusal
of_line mode st next bs (Ok x) = of_token mode st next x.len x.width (lex_of mode (want_of st) (take x.len bs))
of_line mode st next bs (Err m) = Err m

unfoldable pub one_of : Mode → State → ℕ → List ℕ → Result One Refusal
one_of mode st next bs = of_line mode st next bs (line_of mode (is_due st) bs)
