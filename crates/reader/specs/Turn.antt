-- One turn of a walk over the records, as the reader makes it: what is kept is the needs, not the tables. Assumes nothing: these are definitions.
use Rattle.std.specs.Prelude.{ℕ, ◌+◌, ◌-◌, ◌*◌, ◌≤◌, ◌<◌, ◌≡◌, List, Option, Some, None, Result, Ok, Err, Bool, false, cond, not, ◌&&◌, length, take, drop, leb, eqb}
use Rattle.record.specs.declared.Mode.{Mode}
use Rattle.record.specs.declared.Mode.TheVariants.{Loose, Exact, Former}
use Rattle.record.specs.declared.Line.{Line}
use Rattle.record.specs.declared.refusal.Refusal.{Refusal}
use Rattle.record.specs.declared.refusal.Refusal.TheVariants as Refusal
use Rattle.record.specs.Refusals.{file_most}
use Rattle.record.specs.Record.{line_of}
use Rattle.number.specs.Number.{integer_of}
use Rattle.kinds.specs.Kinds.{row_width, letters_place, want_at}
use Rattle.token.specs.Lex.{lex_of}
use Rattle.token.specs.declared.Want.TheVariants.{Real}
use Rattle.quick.specs.Seen.{RealAt, Padded}
use Rattle.header.specs.declared.Stopped.{Stopped}
use Rattle.machine.specs.Machine.{want_of, one_of}
use Rattle.machine.specs.declared.Ring.{Ring}
use Rattle.machine.specs.declared.State.{State}
use Rattle.machine.specs.declared.State.TheVariants.{Due, Field, Island, X, Y}
use Rattle.machine.specs.declared.One.{One}
use Rattle.reader.specs.declared.Needs.{Needs}
use Rattle.reader.specs.declared.ReadStand.{ReadStand}
use Rattle.reader.specs.declared.Turn.{Turn}
use Rattle.reader.specs.declared.Size.{Size}

-- ---- the size of the next ring, read again

abbrev pub no_size : Size
no_size = record { n = 0; width = 0 }

abbrev pub sized : ℕ → Option ℕ → Size
sized width (Some t) = record { n = t; width = width }
sized width None = no_size

abbrev pub size_line : Mode → List ℕ → Result Line Refusal → Size
size_line mode bs (Ok l) = sized l.width (integer_of mode (take l.len bs))
size_line mode bs (Err m) = no_size

-- the number in the first record, and that record's bytes
unfoldable pub size_of : Mode → List ℕ → Size
size_of mode bs = size_line mode bs (line_of mode false bs)

-- a ring ends here, and another follows
abbrev pub is_turning : State → Bool
is_turning Due = false
is_turning (Field kind p i) = false
is_turning (Island l s r) = false
is_turning (X r) = false
is_turning (Y r x) = leb r.left 1 && not (eqb r.rings 0)

unfoldable pub size_next : Mode → State → List ℕ → Size
size_next mode st bs = cond (is_turning st) (size_of mode bs) no_size

-- where the next ring's size stands after a record that was read at a state: behind the fields, or behind the size that was read
abbrev pub isl_next : State → ℕ → ℕ → ℕ → ℕ
isl_next Due ring width at = ring
isl_next (Field kind p i) ring width at = at
isl_next (Island l s r) ring width at = ring
isl_next (X r) ring width at = ring
isl_next (Y r x) ring width at = ring + width

-- ---- what a record adds to the needs

abbrev pub no_needs : Needs
no_needs = record { rows = 0; letters = 0; islands = 0; points = 0 }

-- one row more, with so many letters
abbrev pub row_more : Needs → ℕ → Needs
row_more a n = record { rows = a.rows + 1; letters = a.letters + n; islands = a.islands; points = a.points }

abbrev pub points_more : Needs → ℕ → Needs
points_more a n = record { rows = a.rows; letters = a.letters; islands = a.islands; points = a.points + n }

unfoldable pub added : Needs → State → ℕ → Needs
added a Due t = record { rows = a.rows + 1; letters = a.letters; islands = a.islands; points = a.points }
added a (Field kind p i) t = record { rows = a.rows; letters = a.letters + cond (eqb p letters_place) t 0; islands = a.islands; points = a.points }
added a (Island l s r) t = record { rows = a.rows; letters = a.letters; islands = a.islands + 1; points = a.points }
added a (X r) t = a
added a (Y r x) t = record { rows = a.rows; letters = a.letters; islands = a.islands; points = a.points + 1 }

-- ---- one turn

-- a turn leads to a stand, by a token and a content's length; or it is refused where it stands; or the file ends
abbrev pub onward : ReadStand → ℕ → ℕ → Result (Option Turn) Stopped
onward f t len = Ok (Some (record { stand = f; token = t; len = len }))

abbrev pub halted : Refusal → ℕ → ℕ → Result (Option Turn) Stopped
halted m k at = Err (record { refusal = m; «record» = k; offset = at })

abbrev pub finished : Result (Option Turn) Stopped
finished = Ok None

-- the EOF record ends before `next`, where the record `k` would begin
abbrev pub closing : Mode → ℕ → ℕ → ℕ → Result (Option Turn) Stopped
closing Loose k next size = finished
closing Former k next size = finished
closing Exact k next size = cond (leb size next) finished (halted Refusal.AfterEof k next)

abbrev pub turned : Mode → ReadStand → ℕ → ℕ → Result One Refusal → Result (Option Turn) Stopped
turned mode s size width (Ok (One.Go st t len w)) =
    onward (record { state = st; at = s.at + w; nth = s.nth + 1; ring = isl_next s.state s.ring width (s.at + w); needs = added s.needs s.state t }) t len
turned mode s size width (Ok (One.End w)) = closing mode (s.nth + 1) (s.at + w) size
turned mode s size width (Err m) = halted m s.nth s.at

unfoldable pub turn_of : Mode → List ℕ → ReadStand → Result (Option Turn) Stopped
turn_of mode bs s =
    turned mode s (length bs) (size_next mode s.state (drop s.ring bs)).width
    (one_of mode s.state (size_next mode s.state (drop s.ring bs)).n (drop s.at bs))

-- where the sections begin, at `start`, nothing is read
abbrev pub stand_at : ℕ → ReadStand
stand_at start = record { state = Due; at = start; nth = 4; ring = start; needs = no_needs }

-- needs that a machine word holds
pub record Few (a : Needs) : Type 0 where
  pub rows : a.rows < 18446744073709551616
  pub letters : a.letters < 18446744073709551616
  pub islands : a.islands < 18446744073709551616
  pub points : a.points < 18446744073709551616

-- a stand inside the file, so that no sum in a turn passes its bounds
pub record InFile (bs : List ℕ) (s : ReadStand) : Type 0 where
  pub small : length bs ≤ file_most
  pub here : s.at ≤ length bs
  pub rings : s.ring ≤ length bs
  pub counted : s.nth ≤ s.at + 4
  pub rows : s.needs.rows ≤ s.at
  pub letters : s.needs.letters ≤ s.at
  pub islands : s.needs.islands ≤ s.at
  pub points : s.needs.points ≤ s.at

-- a real is due, and stands there in a record of 12 characters
pub record RealDue (mode : Mode) (s : List ℕ) (at : ℕ) (st : State) (width v : ℕ) : Type 0 where
  pub due : want_of st ≡ Real
  pub padded : Padded mode s at width v

-- a number of a row stands there, in a record of `width` bytes
pub record FieldSays (mode : Mode) (s : List ℕ) (at place width t : ℕ) : Type 0 where
  pub len : ℕ
  pub line : line_of mode false (drop at s) ≡ Ok (record { len = len; width = width })
  pub says : lex_of mode (want_at place) (take len (drop at s)) ≡ Ok t
  pub apart : eqb place letters_place ≡ false
  pub cell : place < row_width

-- ---- many turns

pub data Turns (mode : Mode) (s : List ℕ) (d : ReadStand) : ReadStand → Type 0 where
  still : Turns mode s d d
  on : {e f : ReadStand} {t len : ℕ} → Turns mode s d e → turn_of mode s e ≡ onward f t len → Turns mode s d f

abbrev pub stand_of : State → ℕ → ℕ → ℕ → Needs → ReadStand
stand_of st at nth ring needs = record { state = st; at = at; nth = nth; ring = ring; needs = needs }

-- at another state, k records further, with no need added
abbrev pub stand_on : ReadStand → State → ℕ → ℕ → ℕ → ReadStand
stand_on d st at ring k = record { state = st; at = at; nth = d.nth + k; ring = ring; needs = d.needs }

-- k vertices further in a ring, at a place
abbrev pub past_vertices : ReadStand → Ring → ℕ → ℕ → ReadStand
past_vertices d r k at =
    record {
      state = X (record { closed = r.closed; fresh = false; rings = r.rings; left = r.left - k; fx = r.fx; fy = r.fy });
      at = at;
      nth = d.nth + 2 * k;
      ring = d.ring;
      needs = record { rows = d.needs.rows; letters = d.needs.letters; islands = d.needs.islands; points = d.needs.points + k };
    }

-- behind the last ring of a row, k vertices further
abbrev pub behind_rings : ReadStand → ℕ → ℕ → ReadStand
behind_rings d k at =
    record {
      state = Due;
      at = at;
      nth = d.nth + 2 * k;
      ring = d.ring;
      needs = record { rows = d.needs.rows; letters = d.needs.letters; islands = d.needs.islands; points = d.needs.points + k };
    }

-- a ring whose first vertex is (x, y)
abbrev pub begun : Ring → ℕ → ℕ → Ring
begun r x y = record { closed = r.closed; fresh = false; rings = r.rings; left = r.left; fx = x; fy = y }

-- k vertices of a ring are read, and one more may be counted
pub record Runs (s : List ℕ) (d : ReadStand) (r : Ring) (k at : ℕ) : Type 0 where
  pub left : k < r.left
  pub here : at ≤ length s
  pub counted : d.nth + 2 * (k + 1) < 18446744073709551616
  pub points : d.needs.points + (k + 1) < 9223372036854775808

-- a vertex from `at` up to `next`
pub record FirstAt (mode : Mode) (s : List ℕ) (at x y next : ℕ) : Type 0 where
  pub w : ℕ
  pub w' : ℕ
  pub real-x : RealAt mode s at w x
  pub real-y : RealAt mode s (at + w) w' y
  pub there : next ≡ at + w + w'
