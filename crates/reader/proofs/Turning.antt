-- The ways through the functions of a turn. Assumes nothing.
use Rattle.std.specs.Prelude.{Option, Some, None, Result, Ok, Err}
use Rattle.record.specs.declared.refusal.Refusal.{Refusal}
use Rattle.header.specs.declared.Stopped.{Stopped}
use Rattle.record.specs.Record.{got}
use Rattle.reader.specs.Turn.{onward, halted}
use mathlib.Core.Path.{◌≡◌, refl, sym, ◌∙◌, ap, subst}
use mathlib.Core.Bool.{Bool, true, false}
use mathlib.Core.List.{List}
use Prim.Native.Nat.{ℕ, ◌+◌, ◌≤◌, ◌<◌}
use native.Mathlib.Omega.{arith}
use lib.ListN.{length, take, drop, length-drop}
use Rattle.laws.specs.Lists.{tail}
use Rattle.laws.proofs.ListLaws.{rest-is}
use Rattle.record.specs.declared.Mode.{Mode}
use Rattle.record.specs.declared.Line.{Line}
use Rattle.record.specs.Record.{line_of}
use Rattle.number.specs.Number.{integer_of}
use Rattle.token.specs.declared.Want.TheVariants.{Real}
use Rattle.quick.specs.declared.RealTaken.{RealTaken}
use Rattle.machine.specs.Machine.{want_of, is_due, step_of, of_step, one_of}
use Rattle.machine.specs.declared.State.{State}
use Rattle.machine.specs.declared.State.TheVariants.{Due, Field, Island, X, Y}
use Rattle.machine.specs.declared.One.{One}
use Rattle.sheet.proofs.Pass.{Went, Ended, OneView, one-view}
use Rattle.reader.specs.Turn.{no_size, size_of, is_turning, size_next, isl_next, Few, added, closing, turn_of, InFile, RealDue}
use Rattle.reader.specs.declared.Needs.{Needs}
use Rattle.reader.specs.declared.ReadStand.{ReadStand}
use Rattle.reader.specs.declared.Turn.{Turn}
use Rattle.reader.specs.declared.Size.{Size}
use Rattle.reader.proofs.Standing.{next-width, added-most}

-- ---- a size, read again

module _ (mode : Mode) (bs : List ℕ) (l : Result Line Refusal) (q : l ≡ line_of mode false bs) where
  pub size-bad : (m : Refusal) → l ≡ Err m → no_size ≡ size_of mode bs
  unfolding size_of
  size-bad m e = rw (← q, e)

  module _ (len width : ℕ) (e : l ≡ got len width) (w : Option ℕ) (f : w ≡ integer_of mode (take len bs)) where
    pub size-said : (n : ℕ) → w ≡ Some n → record { n = n; width = width } ≡ size_of mode bs
    unfolding size_of
    size-said n g = rw (← q, e, ← f, g)

    pub size-malformed : w ≡ None → no_size ≡ size_of mode bs
    unfolding size_of
    size-malformed g = rw (← q, e, ← f, g)

module _ (mode : Mode) (st : State) (bs : List ℕ) (b : Bool) (q : b ≡ is_turning st) where
  pub next-size : (z : Size) → b ≡ true → z ≡ size_of mode bs → z ≡ size_next mode st bs
  unfolding size_next
  next-size z e f = rw (← q, e) f

  pub next-none : b ≡ false → no_size ≡ size_next mode st bs
  unfolding size_next
  next-none e = rw (← q, e)

-- ---- a turn inside the file

-- a record that is read lies inside the bytes, and what it adds to the needs is no more than its bytes
pub one_inside : (mode : Mode) (s : List ℕ) (d : ReadStand) (n : ℕ) (st : State) (t len width : ℕ) → InFile s d → one_of mode d.state n (drop d.at s) ≡ Ok (One.Go st t len width)
    → (d.at + width ≤ length s) × (Few (added d.needs d.state t))
one_inside mode s d n st t len width w e =
    let v : Went mode d.state n (drop d.at s) st t len width = subst (OneView mode d.state n (drop d.at s)) e (one-view mode d.state n (drop d.at s)) in
    let l = v.line in
    let g = added-most mode d.state d.needs t width (take len (drop d.at s)) v.goes.says l.some (omega (arith, l.counted, l.past)) in
    let k = length-drop d.at s in (
      omega (arith, l.within, w.here),
      record {
        rows = omega (arith, g.rows, w.rows, w.small, w.here, l.within);
        letters = omega (arith, g.letters, w.letters, w.small, w.here, l.within);
        islands = omega (arith, g.islands, w.islands, w.small, w.here, l.within);
        points = omega (arith, g.points, w.points, w.small, w.here, l.within);
      },
    )

pub end-inside : (mode : Mode) (s : List ℕ) (d : ReadStand) (n width : ℕ) → InFile s d → one_of mode d.state n (drop d.at s) ≡ Ok (One.End width) → d.at + width ≤ length s
end-inside mode s d n width w e =
    let v : Ended mode d.state n (drop d.at s) width = subst (OneView mode d.state n (drop d.at s)) e (one-view mode d.state n (drop d.at s)) in
    omega (arith, v.line.within, w.here, length-drop d.at s)

-- what the code has in hand: the size that was read, and the record
module _ (mode : Mode) (s : List ℕ) (d : ReadStand) (w : InFile s d) (z : Size) (q : z ≡ size_next mode d.state (tail s d.ring)) (o : Result One Refusal) (r : o ≡ one_of mode d.state z.n (tail s d.at)) where
  the_size : z ≡ size_next mode d.state (drop d.ring s)
  the_size = q ∙ ap (size_next mode d.state) (rest-is s d.ring)

  the_one : o ≡ one_of mode d.state z.n (drop d.at s)
  the_one = r ∙ ap (one_of mode d.state z.n) (rest-is s d.at)

  pub turn-size : d.ring + z.width < 18446744073709551616
  turn-size =
      let k = next-width mode d.state (drop d.ring s) in
      let e : z.width ≡ (size_next mode d.state (drop d.ring s)).width = ap (λ (x : Size). x.width) the_size in
      omega (arith, length-drop d.ring s, w.rings, w.small)

  module _ (st : State) (t len width : ℕ) (e : o ≡ Ok (One.Go st t len width)) where
    inside : (d.at + width ≤ length s) × (Few (added d.needs d.state t))
    inside = one_inside mode s d z.n st t len width w (sym the_one ∙ e)

    pub turn-next : d.at + width < 18446744073709551616
    turn-next = omega (arith, inside.0, w.small)

    pub turn-few : Few (added d.needs d.state t)
    turn-few = inside.1

    pub turn_on : (ring : ℕ) (needs : Needs) → ring ≡ isl_next d.state d.ring z.width (d.at + width) → needs ≡ added d.needs d.state t
        → onward (record { state = st; at = d.at + width; nth = d.nth + 1; ring = ring; needs = needs }) t len ≡ turn_of mode s d
    unfolding turn_of
    turn_on ring needs f g = rw (← the_size, ← the_one, e, ← f, ← g)

  pub turn-no : (m : Refusal) → o ≡ Err m → halted m d.nth d.at ≡ turn_of mode s d
  unfolding turn_of
  turn-no m e = rw (← the_size, ← the_one, e)

  module _ (width : ℕ) (e : o ≡ Ok (One.End width)) where
    pub turn-past : d.at + width < 18446744073709551616
    turn-past = omega (arith, end-inside mode s d z.n width w (sym the_one ∙ e), w.small)

    pub turn_end : (x : Result (Option Turn) Stopped) → x ≡ closing mode (d.nth + 1) (d.at + width) (length s) → x ≡ turn_of mode s d
    unfolding turn_of
    turn_end x f = f ∙ rw (← the_size, ← the_one, e)

-- ---- a real in its usual form

no_key : (st : State) → want_of st ≡ Real → is_due st ≡ false
unfolding want_of
no_key Due e = absurd (let z : ◌≡◌ {A = ℕ} 0 1 = cc in omega arith)
no_key (Field k p i) e = refl
no_key (Island l s r) e = refl
no_key (X r) e = refl
no_key (Y r x) e = refl

pub one-quick : (mode : Mode) (s : List ℕ) (at : ℕ) (st : State) (next : ℕ) (q : RealTaken) (o : Result One Refusal) → (0 < q.width → RealDue mode s at st q.width q.value) → 0 < q.width
    → o ≡ of_step q.value 12 q.width (step_of mode st q.value next) → o ≡ one_of mode st next (tail s at)
unfolding one_of
one-quick mode s at st next q o f h e =
    let r = f h in
    e ∙ rw (rest-is s at, no_key st r.due, r.padded.line, r.due, r.padded.says)
