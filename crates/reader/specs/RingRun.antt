-- A whole ring in its usual form, and island counts, in one go. For contracts of private functions alone. Assumes nothing: these are definitions.
use Rattle.std.specs.Prelude.{ℕ, zero, suc, ◌+◌, ◌-◌, ◌*◌, ◌≤◌, ◌≡◌, List, Option, Some, None, Bool, true, cond, length, take, drop, set, eqb, ℤ}
use Rattle.record.specs.declared.Mode.{Mode}
use Rattle.record.specs.declared.Mode.TheVariants.{Exact}
use Rattle.record.specs.Refusals.{file_most}
use Rattle.number.specs.Number.{real_of}
use Rattle.token.specs.Lex.{lift, unlift}
use Rattle.quick.specs.Seen.{UsualAt, Usual}
use Rattle.machine.specs.Machine.{fresh_ring, is_shut}
use Rattle.machine.specs.declared.Ring.{Ring}
use Rattle.machine.specs.declared.State.{State}
use Rattle.machine.specs.declared.State.TheVariants.{X}
use Rattle.reader.specs.Turn.{size_of, InFile, Turns, behind_rings}
use Rattle.reader.specs.Store.{Stores, Puts}
use Rattle.reader.specs.Trust.{Sure}
use Rattle.reader.specs.Heads.{opened_by}
use Rattle.reader.specs.declared.Size.{Size}
use Rattle.reader.specs.declared.ReadStand.{ReadStand}

-- ---- reals in their usual form

abbrev pub of_real : Option ℤ → ℕ
of_real (Some z) = lift z
of_real None = 0

-- what the 12 bytes at a place say, lifted
unfoldable pub real_in : List ℕ → ℕ → ℕ
real_in s at = of_real (real_of Exact (take 12 (drop at s)))

-- n reals from `at` on, each in a record of `width` bytes, stored from a cell on
unfoldable pub stored_reals : List ℕ → ℕ → ℕ → ℕ → List ℤ → ℕ → List ℤ
stored_reals s at width cell l zero = l
stored_reals s at width cell l (suc n) = set (stored_reals s at width cell l n) (cell + n) (unlift (real_in s (at + width * n)))

-- they stand there, and a table of `len` numbers holds them
pub record Storable (s : List ℕ) (at width n len cell : ℕ) : Type 0 where
  pub mode : Mode
  pub usual : Usual mode s at width n
  pub small : length s ≤ file_most
  pub here : at ≤ length s
  pub room : cell + n ≤ len

-- the vertex at `last` is the one at `at`, where it must be
pub record ShutAt (s : List ℕ) (at width last : ℕ) (closed : Bool) : Type 0 where
  pub shut : (mode : Mode) → UsualAt mode s at width → UsualAt mode s (at + width) width → UsualAt mode s last width → UsualAt mode s (last + width) width
      → is_shut closed (real_in s at) (real_in s (at + width)) (real_in s last) (real_in s (last + width)) ≡ true

-- ---- behind a ring

-- where another follows, whose size is known
abbrev pub at_next : ReadStand → Ring → ℕ → Size → ReadStand
at_next d r at z =
    record {
      state = X (fresh_ring r.closed (r.rings - 1) z.n);
      at = at;
      nth = d.nth + 2 * r.left;
      ring = d.ring + z.width;
      needs = record { rows = d.needs.rows; letters = d.needs.letters; islands = d.needs.islands; points = d.needs.points + r.left };
    }

abbrev pub past_ring : ReadStand → Ring → ℕ → Size → ReadStand
past_ring d r at z = cond (eqb r.rings 0) (behind_rings d r.left at) (at_next d r at z)

unfoldable pub behind_ring : Mode → List ℕ → ReadStand → Ring → ℕ → ReadStand
behind_ring mode s d r at = past_ring d r at (size_of mode (drop d.ring s))

-- ---- the only ring of a row

-- from behind the counts of a row up to a place, over its vertices
pub record RingOver (mode : Mode) (s : List ℕ) (at kind islands n e : ℕ) : Type 0 where
  pub over : (d : ReadStand) → InFile s d → d.state ≡ opened_by kind islands n → d.at ≡ at → Turns mode s d (behind_rings d n e)

-- the same in a file that was judged, with the points stored behind `from` points
pub record RingInto (mode : Mode) (s : List ℕ) (at islands n from : ℕ) (p : List ℤ) (e : ℕ) (p' : List ℤ) : Type 0 where
  pub stores : (kind : ℕ) (d : ReadStand) → InFile s d → Sure mode s d → d.state ≡ opened_by kind islands n → d.at ≡ at → d.needs.points ≡ from
      → Stores mode s d p (behind_rings d n e) p'

-- ---- island counts

-- at another state, k counts further
abbrev pub past_islands : ReadStand → State → ℕ → ℕ → ReadStand
past_islands d st at k =
    record {
      state = st;
      at = at;
      nth = d.nth + k;
      ring = d.ring;
      needs = record { rows = d.needs.rows; letters = d.needs.letters; islands = d.needs.islands + k; points = d.needs.points };
    }

-- turns that leave every table but that of the islands as it was
pub record IslandsPut (mode : Mode) (s : List ℕ) (d : ReadStand) (i : List ℕ) (e : ReadStand) (m : List ℕ) : Type 0 where
  pub puts : (r : List ℤ) (l : List ℕ) (p : List ℤ) → Puts mode s d r l i p e r l m p
