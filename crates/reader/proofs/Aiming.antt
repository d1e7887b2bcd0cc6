-- What is due where the walk stops, beside the walk itself (`Standing`): it is the same at each stand on the way. Assumes nothing.
use Rattle.std.specs.Prelude.{Option, Some, None, Result, Ok, Err}
use Rattle.record.specs.declared.refusal.Refusal.{Refusal}
use Rattle.record.specs.declared.refusal.Refusal.TheVariants as Refusal
use Rattle.header.specs.declared.Stopped.{Stopped}
use Rattle.reader.specs.Turn.{onward, halted, finished}
use mathlib.Core.Path.{◌≡◌, refl, sym, ◌∙◌, subst}
use mathlib.Core.Bool.{Bool, true, false, cond}
use mathlib.Core.List.{List}
use Prim.Native.Nat.{ℕ, zero, suc, ◌+◌, ◌-◌, ◌≤◌}
use native.Mathlib.Omega.{arith}
use lib.ListN.{length, take, drop, length-drop}
use lib.Seq.{drop-drop}
use lib.Dec.{leb}
use Rattle.record.specs.declared.Mode.{Mode}
use Rattle.record.specs.declared.Mode.TheVariants.{Loose, Exact, Former}
use Rattle.record.specs.Refusals.{number_of}
use Rattle.column.specs.Columns.{refusal_column}
use Rattle.column.proofs.PlacedLaws.{other-column}
use Rattle.machine.specs.Machine.{want_of, one_of}
use Rattle.machine.specs.declared.State.{State}
use Rattle.machine.specs.declared.One.{One}
use Rattle.sheet.specs.Tables.{Tables, empty, put, ring_after}
use Rattle.sheet.specs.Reading.{Sections, stop, walk_from}
use Rattle.sheet.proofs.Pass.{OneView, one-view}
use Rattle.reader.specs.Columns.{due_after, due_at, due_from, column_from}
use Rattle.reader.specs.Turn.{size_next, closing, turned, turn_of, stand_at, Turns, still, on}
use Rattle.reader.specs.declared.ReadStand.{ReadStand}
use Rattle.reader.specs.declared.Turn.{Turn}
use Rattle.reader.specs.declared.Size.{Size}
use Rattle.reader.proofs.Standing.{At, Moved, TurnOk, turn-ok, one_same, one_none}

-- `aim` is what is due where the walk stops; `o` is what was read so far
pub record Aimed (mode : Mode) (s : List ℕ) (aim : State) (o : Tables) (d : ReadStand) : Type 0 where
  pub fuel : ℕ
  pub same : aim ≡ due_at fuel mode d.state o (drop d.at s)
  pub enough : length (drop d.at s) ≤ fuel

pub aim-start : (mode : Mode) (s : List ℕ) (start : ℕ) → Aimed mode s (due_from mode s start) empty (stand_at start)
unfolding due_from
aim-start mode s start = record { fuel = length s; same = refl; enough = omega (arith, length-drop start s) }

due-step : (f : ℕ) (mode : Mode) (st : State) (o : Tables) (bs : List ℕ) → length bs ≤ f
    → due_at f mode st o bs ≡ due_after st o bs (λ st' o' bs'. due_at (f - 1) mode st' o' bs') (one_of mode st (ring_after st o) bs)
unfolding due_at
due-step zero mode st o bs h = rw (one_none mode st (ring_after st o) bs h)
due-step (suc f) mode st o bs h =
    let z : suc f - 1 ≡ f = omega arith in
    rw z

-- a turn keeps the aim; where it refuses, the column is that of what is due at the stand
abbrev AimOk : Mode → List ℕ → State → Tables → ReadStand → Result (Option Turn) Stopped → Type 0
AimOk mode s aim o d (Ok (Some x)) = Aimed mode s aim (put d.state x.token (take x.len (drop d.at s)) o) x.stand
AimOk mode s aim o d (Ok None) = Unit {0}
AimOk mode s aim o d (Err x) =
    refusal_column mode (want_of d.state) (number_of x.refusal) (drop x.offset s) ≡ refusal_column mode (want_of aim) (number_of x.refusal) (drop x.offset s)

module _ (mode : Mode) (s : List ℕ) (target : Sections) (aim : State) (o : Tables) (d : ReadStand) (h : At mode s target o d) (g : Aimed mode s aim o d) where
  abbrev size : Size
  size = size_next mode d.state (drop d.ring s)

  abbrev bytes : List ℕ
  bytes = drop d.at s

  aim-is : aim ≡ due_after d.state o bytes (λ st' o' bs'. due_at (g.fuel - 1) mode st' o' bs') (one_of mode d.state size.n bytes)
  aim-is = g.same ∙ due-step g.fuel mode d.state o bytes g.enough ∙ rw (one_same mode s target o d h)

  -- 13 carries 0, whatever is due
  closed : (m : Mode) (k next : ℕ) → AimOk mode s aim o d (closing m k next (length s))
  closed Loose k next = tt
  closed Former k next = tt
  closed Exact k next = by (leb (length s) next)
    where
      by : (b : Bool) → AimOk mode s aim o d (cond b finished (halted Refusal.AfterEof k next))
      by true = tt
      by false =
          other-column mode (want_of d.state) 13 (drop next s) (λ e. omega (arith, e))
          ∙ sym (other-column mode (want_of aim) 13 (drop next s) (λ e. omega (arith, e)))

  aim-ok : AimOk mode s aim o d (turn_of mode s d)
  unfolding turn_of
  aim-ok = by (one_of mode d.state size.n bytes) refl (one-view mode d.state size.n bytes)
    where
      by : (w : Result One Refusal) → one_of mode d.state size.n bytes ≡ w → OneView mode d.state size.n bytes w → AimOk mode s aim o d (turned mode d (length s) size.width w)
      by (Ok (One.Go st t len w)) e v =
          record {
            fuel = g.fuel - 1;
            same = aim-is ∙ rw (e, drop-drop w d.at s);
            enough = omega (arith, length-drop (d.at + w) s, length-drop d.at s, g.enough, v.line.some, v.line.within);
          }
      by (Err m) e v =
          let z : aim ≡ d.state = aim-is ∙ rw e in
          rw z
      by (Ok (One.End w)) e v = closed mode (d.nth + 1) (d.at + w)

  pub aim-on : (d' : ReadStand) (t len : ℕ) → turn_of mode s d ≡ onward d' t len → Aimed mode s aim (put d.state t (take len bytes) o) d'
  aim-on d' t len e = subst (AimOk mode s aim o d) e aim-ok

  pub aim-refused : (m : Refusal) (k a : ℕ) → turn_of mode s d ≡ halted m k a → refusal_column mode (want_of d.state) (number_of m) (drop a s) ≡ refusal_column mode (want_of aim) (number_of m) (drop a s)
  aim-refused m k a e = subst (AimOk mode s aim o d) e aim-ok

-- what the loop of the first pass keeps
abbrev pub Stands : Mode → List ℕ → Sections → State → ReadStand → Type 0
Stands mode s target aim d = (o : Tables) × (At mode s target o d) × (Aimed mode s aim o d)

-- many turns keep it
pub turns-stand : {mode : Mode} {s : List ℕ} {target : Sections} {aim : State} {d e : ReadStand} → Stands mode s target aim d → Turns mode s d e → Stands mode s target aim e
turns-stand h still = h
turns-stand {mode} {s} {target} {aim} {d} h (on {e} {f} {t} {len} p q) =
    let b = turns-stand h p in
    let m : Moved mode s target b.0 e f t len = subst (TurnOk mode s target b.0 e) q (turn-ok mode s target b.0 e b.1) in
    (put e.state t (take len (drop e.at s)) b.0, m.then, aim-on mode s target aim b.0 e b.1 b.2 f t len q)

-- the column of a refusal of the first pass
pub column-is : (mode : Mode) (s : List ℕ) (start : ℕ) (m : Refusal) (k a : ℕ) → walk_from mode s start ≡ stop m k a
    → column_from mode s start ≡ refusal_column mode (want_of (due_from mode s start)) (number_of m) (drop a s)
unfolding column_from
column-is mode s start m k a e = rw e
