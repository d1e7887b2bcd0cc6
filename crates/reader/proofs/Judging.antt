-- The first pass: the loop's steps. Its invariant is that some tables were read so far, and that the walk stands where they end. Assumes nothing.
use Rattle.std.specs.Prelude.{Option, Result, Ok, Err}
use Rattle.record.specs.declared.refusal.Refusal.{Refusal}
use Rattle.header.specs.declared.Stopped.{Stopped}
use Rattle.reader.specs.Turn.{onward, halted, finished}
use mathlib.Core.Path.{◌≡◌, refl, sym, ap, ◌∙◌, subst}
use mathlib.Core.List.{List}
use Prim.Native.Nat.{ℕ, ◌+◌, ◌-◌, ◌≤◌, ◌<◌}
use native.Mathlib.Omega.{arith}
use lib.ListN.{length, drop, length-drop}
use Rattle.record.specs.declared.Mode.{Mode}
use Rattle.record.specs.Refusals.{file_most, number_of}
use Rattle.token.specs.declared.Want.{Want}
use Rattle.column.specs.Columns.{refusal_column}
use Rattle.machine.specs.Machine.{want_of}
use Rattle.sheet.specs.Tables.{Tables, empty}
use Rattle.sheet.specs.Reading.{Sections, read, stop, walk_from}
use Rattle.reader.specs.Columns.{due_from, column_from, located_in}
use Rattle.reader.specs.Turn.{stand_at, turn_of, Turns, still, on}
use Rattle.reader.specs.Read.{needs_of, stopped_at, judged_of}
use Rattle.reader.specs.declared.Unread.{Unread}
use Rattle.reader.specs.declared.Unread.TheVariants as Unread
use Rattle.reader.specs.declared.ReadStand.{ReadStand}
use Rattle.reader.specs.declared.Turn.{Turn}
use Rattle.reader.proofs.Standing.{At, Moved, TurnOk, turn-ok}
use Rattle.reader.proofs.Running.{Reached, turns-reach, turns-join}
use Rattle.reader.proofs.Aiming.{Stands, turns-stand, aim-refused, column-is}

-- where the sections begin nothing is read
pub at-start : (mode : Mode) (s : List ℕ) (start : ℕ) → start ≤ length s → length s ≤ file_most → At mode s (walk_from mode s start) empty (stand_at start)
unfolding walk_from
at-start mode s start h k =
    record {
      fuel = length s;
      same = refl;
      enough = omega (arith, length-drop start s);
      okay = tt;
      pend = tt;
      sized = record { rows = omega arith; letters = refl; islands = refl; points = omega arith };
      within = record { small = k; here = h; rings = h; counted = omega arith; rows = omega arith; letters = omega arith; islands = omega arith; points = omega arith };
    }

module _ (mode : Mode) (s : List ℕ) (target : Sections) (o : Tables) (d : ReadStand) (h : At mode s target o d) (r : Result (Option Turn) Stopped) (q : r ≡ turn_of mode s d) where
  turn_is : TurnOk mode s target o d r
  turn_is = subst (TurnOk mode s target o d) (sym q) (turn-ok mode s target o d h)

  pub at_on : (d' : ReadStand) (t len : ℕ) → r ≡ onward d' t len → Moved mode s target o d d' t len
  at_on d' t len e = subst (TurnOk mode s target o d) e turn_is

  -- a turn, and those behind it
  pub at-past : (d' : ReadStand) (t len : ℕ) → r ≡ onward d' t len → (e : ReadStand) → Turns mode s d' e → Reached mode s target (d.at + 1) e
  at-past d' t len q e p =
      let m = at_on d' t len q in
      let b = turns-reach m.then p in
      record { tables = b.tables; stands = b.stands; past-it = omega (arith, b.past-it, m.on) }

  -- the places behind a record are fewer
  pub past-less : (d' : ReadStand) (t len : ℕ) → r ≡ onward d' t len → (e : ReadStand) → Turns mode s d' e → length s - e.at < length s - d.at
  past-less d' t len q e p = let b = at-past d' t len q e p in omega (arith, b.past-it, b.stands.within.here)

  stops_at : (m : Refusal) (k a : ℕ) → r ≡ halted m k a → target ≡ stop m k a
  stops_at m k a e = subst (TurnOk mode s target o d) e turn_is

  pub judge-done : (column : ℕ) → r ≡ finished → Ok d.needs ≡ judged_of column target
  judge-done column e =
      let z : (target ≡ read o d.at) × (needs_of o ≡ d.needs) = subst (TurnOk mode s target o d) e turn_is in
      rw (z.0, z.1)

-- the loop stands where the sections' walk stands, and what is due at its end is what is due there
module _ (mode : Mode) (s : List ℕ) (start : ℕ) (d : ReadStand) (h : Stands mode s (walk_from mode s start) (due_from mode s start) d) (r : Result (Option Turn) Stopped) (q : r ≡ turn_of mode s d) where
  pub stands-past : (d' : ReadStand) (t len : ℕ) → r ≡ onward d' t len → (e : ReadStand) → Turns mode s d' e → Stands mode s (walk_from mode s start) (due_from mode s start) e
  stands-past d' t len f e p = turns-stand h (turns-join (on still (sym q ∙ f)) p)

  pub judge-refused : (m : Refusal) (k a : ℕ) → r ≡ halted m k a → (want : Want) → want ≡ want_of d.state → (u : Unread) → u ≡ located_in mode s want (stopped_at m k a)
      → Err u ≡ judged_of (column_from mode s start) (walk_from mode s start)
  judge-refused m k a e want w u c =
      let z = stops_at mode s (walk_from mode s start) h.0 d h.1 r q m k a e in
      let same : refusal_column mode want (number_of m) (drop a s) ≡ column_from mode s start =
      rw w (aim-refused mode s (walk_from mode s start) (due_from mode s start) h.0 d h.1 h.2 m k a (sym q ∙ e)) ∙ sym (column-is mode s start m k a z) in
      rw (z, c) (ap (λ (n : ℕ). Err (Unread.Refused (stopped_at m k a) n)) same)
