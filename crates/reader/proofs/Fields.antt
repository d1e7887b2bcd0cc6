-- A run of numbers of a row is so many turns of the walk. Assumes nothing.
use Rattle.std.specs.Prelude.{Option, Some, None, Result, Ok, Err}
use Rattle.record.specs.declared.refusal.Refusal.{Refusal}
use Rattle.machine.specs.Machine.{Step}
use Rattle.record.specs.Record.{got}
use Rattle.reader.specs.Turn.{onward}
use mathlib.Core.Path.{◌≡◌, refl, sym, ◌∙◌, ap, subst}
use mathlib.Core.Bool.{Bool, true, false, cond, ◌&&◌}
use mathlib.Core.List.{List}
use Prim.Native.Nat.{ℕ, ◌+◌, ◌-◌, ◌*◌, ◌≤◌, ◌<◌}
use native.Mathlib.Omega.{arith}
use lib.ListN.{length, take, drop, set, length-set, length-drop}
use lib.IntN.{ℤ}
use lib.Dec.{leb, eqb}
use Rattle.laws.specs.Lists.{tail}
use Rattle.laws.proofs.ListLaws.{rest-is}
use Rattle.record.specs.declared.Mode.{Mode}
use Rattle.record.specs.declared.Line.{Line}
use Rattle.record.specs.Record.{line_of}
use Rattle.record.proofs.RecordLaws.{line_view}
use Rattle.number.specs.Number.{integer_of}
use Rattle.token.specs.Lex.{lex_of}
use Rattle.token.proofs.TokenLaws.{says-most}
use Rattle.token.specs.declared.Want.{Want}
use Rattle.token.specs.declared.Want.TheVariants.{Text, Int, Real}
use Rattle.quick.specs.declared.RealTaken.{RealTaken}
use Rattle.quick.specs.Seen.{RealAt}
use Rattle.kinds.specs.Kinds.{row_width, want_at}
use Rattle.machine.specs.Machine.{want_of, field_of, step_of, one_of}
use Rattle.machine.specs.declared.State.{State}
use Rattle.machine.specs.declared.State.TheVariants.{Field}
use Rattle.sheet.specs.Tables.{cell_of}
use Rattle.reader.specs.Turn.{sized, size_line, size_of, size_next, added, turn_of, InFile, FieldSays, Turns, still, on, stand_on}
use Rattle.reader.specs.Store.{token_most, Enters, at_rest, entered}
use Rattle.reader.specs.declared.Said.{Said}
use Rattle.reader.specs.declared.Size.{Size}
use Rattle.reader.specs.declared.ReadStand.{ReadStand}

-- ---- what a number says

pub apart-real : (p : ℕ) → want_at p ≡ Real → eqb p 9 ≡ false
unfolding want_at
apart-real p e = go (eqb p 9) e
  where
    go : (b : Bool) → cond b Text (cond (leb 4 p && leb p 8) Real Int) ≡ Real → b ≡ false
    go true q = absurd (let z : ◌≡◌ {A = ℕ} 0 1 = cc in omega arith)
    go false q = refl

pub apart-int : (p : ℕ) → want_at p ≡ Int → eqb p 9 ≡ false
unfolding want_at
apart-int p e = go (eqb p 9) e
  where
    go : (b : Bool) → cond b Text (cond (leb 4 p && leb p 8) Real Int) ≡ Int → b ≡ false
    go true q = absurd (let z : ◌≡◌ {A = ℕ} 0 1 = cc in omega arith)
    go false q = refl

-- a size that has a width was read
pub record SizeRead (mode : Mode) (bs : List ℕ) (z : Size) : Type 0 where
  pub len : ℕ
  pub line : line_of mode false bs ≡ got len z.width
  pub number : integer_of mode (take len bs) ≡ Some z.n

pub size-read : (mode : Mode) (bs : List ℕ) (z : Size) → z ≡ size_of mode bs → 0 < z.width → SizeRead mode bs z
unfolding size_of
size-read mode bs z e h = by (line_of mode false bs) refl e
  where
    said : (len width : ℕ) → line_of mode false bs ≡ got len width → (w : Option ℕ) → integer_of mode (take len bs) ≡ w → z ≡ sized width w → SizeRead mode bs z
    said len width l (Some t) g q =
        let a : z.width ≡ width = ap (λ (x : Size). x.width) q in
        let b : z.n ≡ t = ap (λ (x : Size). x.n) q in
        record { len = len; line = l ∙ rw a; number = g ∙ rw b }
    said len width l None g q =
        let a : z.width ≡ 0 = ap (λ (x : Size). x.width) q in
        absurd (omega arith)

    by : (l : Result Line Refusal) → line_of mode false bs ≡ l → z ≡ size_line mode bs l → SizeRead mode bs z
    by (Ok x) l q = said x.len x.width l (integer_of mode (take x.len bs)) refl q
    by (Err m) l q =
        let a : z.width ≡ 0 = ap (λ (x : Size). x.width) q in
        absurd (omega arith)

module _ (mode : Mode) (s : List ℕ) (at place : ℕ) (n : place < row_width) (w : Want) (e : w ≡ want_at place) where
  pub said-real : (q : RealTaken) → w ≡ Real → (0 < q.width → RealAt mode s at q.width q.value) → 0 < q.width → FieldSays mode s at place q.width q.value
  said-real q f g h =
      let k : want_at place ≡ Real = sym e ∙ f in
      let r = g h in
      record { len = r.len; line = r.line; says = rw k r.says; apart = apart-real place k; cell = n }

  pub said-int : (z : Size) → w ≡ Int → z ≡ size_of mode (tail s at) → 0 < z.width → FieldSays mode s at place z.width z.n
  unfolding lex_of
  said-int z f q h =
      let k : want_at place ≡ Int = sym e ∙ f in
      let r = size-read mode (drop at s) z (q ∙ ap (size_of mode) (rest-is s at)) h in
      record { len = r.len; line = r.line; says = rw (k, r.number); apart = apart-int place k; cell = n }

-- ---- many

pub record Walked (mode : Mode) (s : List ℕ) (d : ReadStand) (st : State) (here ring k : ℕ) : Type 0 where
  pub turns : Turns mode s d (stand_on d st here ring k)
  pub far : d.at + k ≤ here
  pub inside : here ≤ length s

onward-none : (d : ReadStand) → d ≡ stand_on d d.state d.at d.ring 0
onward-none d =
    let b : d.nth ≡ d.nth + 0 = omega arith in
    λ i. record { state = d.state; at = d.at; nth = b i; ring = d.ring; needs = d.needs }

pub walked_start : (mode : Mode) (s : List ℕ) (d : ReadStand) → InFile s d → Walked mode s d d.state d.at d.ring 0
walked_start mode s d w = record { turns = subst (Turns mode s d) (onward-none d) still; far = omega arith; inside = w.here }

pub field-turn : (mode : Mode) (s : List ℕ) (d : ReadStand) (kind p i here ring k width t : ℕ) (f : FieldSays mode s here p width t) (st : State) → field_of mode kind p i t ≡ Ok (Some st)
    → turn_of mode s (stand_on d (Field kind p i) here ring k) ≡ onward (stand_on d st (here + width) (here + width) (k + 1)) t f.len
unfolding turn_of one_of want_of step_of added size_next
field-turn mode s d kind p i here ring k width t f st g =
    let a : d.nth + k + 1 ≡ d.nth + (k + 1) = omega arith in
    let b : d.needs.letters + 0 ≡ d.needs.letters = omega arith in
    rw (f.line, f.says, g, f.apart, a, b)

module _ (mode : Mode) (s : List ℕ) (d : ReadStand) (w : InFile s d) (st : State) (here ring k : ℕ) (v : Walked mode s d st here ring k) where
  pub walked-few : d.nth + k < 18446744073709551616
  walked-few = omega (arith, w.small, w.counted, v.far, v.inside)

  pub walked-is : (e : ReadStand) → e ≡ stand_on d st here ring k → Turns mode s d e
  walked-is e q = rw q v.turns

  pub walked_at : (kind p i : ℕ) → st ≡ Field kind p i → (b : ReadStand) → b ≡ stand_on d (Field kind p i) here ring k → Turns mode s d b
  walked_at kind p i e b q = rw q (rw e at v.turns)

  module _ (kind p i : ℕ) (e : st ≡ Field kind p i) (r : Said) (a : FieldSays mode s here p r.width r.token) where
    pub said-inside : (0 < r.width) × (here + r.width ≤ length s)
    said-inside =
        let l = line_view mode false (drop here s) a.len r.width a.line in
        (l.some, omega (arith, l.some, l.within, length-drop here s))

    pub walked_on : (x : Step) → x ≡ field_of mode kind p i r.token → (st' : State) → x ≡ Ok (Some st') → Walked mode s d st' (here + r.width) (here + r.width) (k + 1)
    walked_on x g st' h =
        let b = said-inside in
        let t : Turns mode s d (stand_on d (Field kind p i) here ring k) = rw e at v.turns in
        record {
          turns = on t (field-turn mode s d kind p i here ring k r.width r.token a st' (sym g ∙ h));
          far = omega (arith, v.far, b);
          inside = b.1;
        }

-- ---- the same with the numbers stored

pub record Entered (mode : Mode) (s : List ℕ) (d : ReadStand) (l : List ℤ) (st : State) (here ring k : ℕ) (m : List ℤ) : Type 0 where
  pub enters : Enters mode s d l (stand_on d st here ring k) m
  pub far : d.at + k ≤ here
  pub inside : here ≤ length s
  pub kept : length m ≡ length l

pub entered-start : (mode : Mode) (s : List ℕ) (d : ReadStand) (l : List ℤ) → InFile s d → Entered mode s d l d.state d.at d.ring 0 l
entered-start mode s d l w =
    record { enters = subst (λ (z : ReadStand). Enters mode s d l z l) (onward-none d) at_rest; far = omega arith; inside = w.here; kept = refl }

module _ (mode : Mode) (s : List ℕ) (d : ReadStand) (w : InFile s d) (l : List ℤ) (st : State) (here ring k : ℕ) (m : List ℤ) (v : Entered mode s d l st here ring k m) where
  pub entered-few : d.nth + k < 18446744073709551616
  entered-few = omega (arith, w.small, w.counted, v.far, v.inside)

  pub entered-is : (e : ReadStand) → e ≡ stand_on d st here ring k → Enters mode s d l e m
  entered-is e q = rw q v.enters

  pub entered_at : (kind p i : ℕ) → st ≡ Field kind p i → (b : ReadStand) → b ≡ stand_on d (Field kind p i) here ring k → Enters mode s d l b m
  entered_at kind p i e b q = rw q (rw e at v.enters)

  module _ (r : Said) (p : ℕ) (a : FieldSays mode s here p r.width r.token) where
    pub entered-inside : (0 < r.width) × (here + r.width ≤ length s) × (r.token ≤ token_most)
    entered-inside =
        let h = line_view mode false (drop here s) a.len r.width a.line in
        (h.some, omega (arith, h.some, h.within, length-drop here s), says-most mode (want_at p) (take a.len (drop here s)) r.token (omega (arith, h.counted, h.most)) a.says)

    pub entered_on : (kind i : ℕ) → st ≡ Field kind p i → (x : Step) → x ≡ field_of mode kind p i r.token → (st' : State) → x ≡ Ok (Some st')
        → (m' : List ℤ) → m' ≡ set m (row_width * (d.needs.rows - 1) + p) (cell_of (want_at p) r.token)
        → Entered mode s d l st' (here + r.width) (here + r.width) (k + 1) m'
    entered_on kind i e x g st' h m' q =
        let b = entered-inside in
        let t : Enters mode s d l (stand_on d (Field kind p i) here ring k) m = rw e at v.enters in
        record {
          enters = rw q (entered t a.apart (field-turn mode s d kind p i here ring k r.width r.token a st' (sym g ∙ h)));
          far = omega (arith, v.far, b.0);
          inside = b.1;
          kept = rw q (length-set m (row_width * (d.needs.rows - 1) + p) (cell_of (want_at p) r.token) ∙ v.kept);
        }
