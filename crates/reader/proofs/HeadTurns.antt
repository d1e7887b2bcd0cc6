-- A row from its keyword up to its vertices is so many turns of the walk. Assumes nothing.
use Rattle.std.specs.Prelude.{Some, Ok, Err}
use Rattle.record.specs.declared.refusal.Refusal.TheVariants as Refusal
use Rattle.reader.specs.Turn.{onward}
use mathlib.Core.Path.{◌≡◌, refl, ap, subst}
use mathlib.Core.Bool.{Bool, true, false, cond, not, ◌&&◌}
use mathlib.Core.List.{List}
use Prim.Native.Nat.{ℕ, ◌+◌, ◌-◌, ◌*◌, ◌/◌, ◌≤◌, ◌<◌}
use native.Mathlib.Omega.{arith}
use borrow.Author.Tests.{eq-eqb, ne_eqb}
use lib.ListN.{length, take, drop, set, length-drop}
use lib.IntN.{ℤ, pos}
use lib.Dec.{eqb}
use Rattle.laws.specs.Lists.{pasted}
use Rattle.laws.proofs.TableLaws.{pasted-none}
use Rattle.record.specs.declared.Mode.{Mode}
use Rattle.record.specs.Record.{is_exact}
use Rattle.number.specs.Words.{trimmed}
use Rattle.record.proofs.RecordLaws.{line_view}
use Rattle.token.specs.Lex.{unlift}
use Rattle.token.proofs.TokenLaws.{says-most}
use Rattle.token.specs.declared.Want.{Want}
use Rattle.token.specs.declared.Want.TheVariants.{Key, Text, Int, Real}
use Rattle.quick.specs.Seen.{RealAt, IntegerAt}
use Rattle.quick.proofs.Places.{real-inside, real-most}
use Rattle.kinds.specs.Kinds.{row_width, want_at, next_of, next_in, schedule, fixed_vertices, fixed, is_listed}
use Rattle.machine.specs.Machine.{want_of, key_step, field_of, fields_end, step_of, one_of}
use Rattle.machine.specs.declared.State.{State}
use Rattle.machine.specs.declared.State.TheVariants.{Due, Field}
use Rattle.sheet.specs.Tables.{new_row, cell_of}
use Rattle.reader.specs.Turn.{size_next, row_more, added, turn_of, FieldSays, Turns, still, on, stand_on, FirstAt}
use Rattle.reader.specs.Store.{token_most, starts_behind, rows_put, letters_put, islands_put, points_put, Puts, no-turn, turned}
use Rattle.reader.specs.Heads.{KeySays, WordSays, LeadAt, CountsAt, CodeGoes, Countable, opened_by, rows_head, HeadAt}
use Rattle.reader.specs.declared.Needs.{Needs}
use Rattle.reader.specs.declared.ReadStand.{ReadStand}
use Rattle.reader.proofs.Fields.{field-turn, apart-real, apart-int}

-- turns, with their tables forgotten
pub puts-turns : {mode : Mode} {s : List ℕ} {d : ReadStand} {r p : List ℤ} {l i : List ℕ} {e : ReadStand} {r' p' : List ℤ} {l' i' : List ℕ} → Puts mode s d r l i p e r' l' i' p' → Turns mode s d e
puts-turns no-turn = still
puts-turns (turned q e) = on (puts-turns q) e

-- ---- one record

abbrev pub new_stand : ReadStand → Needs → ReadStand
new_stand d a = record { state = Due; at = d.at; nth = d.nth; ring = d.ring; needs = a }

abbrev pub row_only : Needs → Needs
row_only a = record { rows = a.rows + 1; letters = a.letters; islands = a.islands; points = a.points }

key-turn : (mode : Mode) (s : List ℕ) (d : ReadStand) (at w t : ℕ) (k : KeySays mode s at w t) → d.state ≡ Due → d.at ≡ at → (kind p : ℕ) → t / 2 ≡ kind → 1 ≤ kind
    → next_of kind 0 ≡ p → 1 ≤ p → turn_of mode s d ≡ onward (stand_on (new_stand d (row_only d.needs)) (Field kind p 0) (at + w) d.ring 1) t k.len
unfolding turn_of one_of want_of step_of key_step added size_next
key-turn mode s d at w t k e f kind p g h n o =
    let a : eqb t 0 ≡ false = ne_eqb t 0 (λ z. omega (arith, g)) in
    let b : eqb p 0 ≡ false = ne_eqb p 0 (λ z. omega arith) in
    rw (e, f, k.line, k.says, a, g, n, b)

word-turn : (mode : Mode) (s : List ℕ) (d : ReadStand) (kind i here ring k w t : ℕ) → WordSays mode s here w t → (st : State) → field_of mode kind 9 i t ≡ Ok (Some st)
    → turn_of mode s (stand_on (new_stand d (row_only d.needs)) (Field kind 9 i) here ring k) ≡ onward (stand_on (new_stand d (row_more d.needs t)) st (here + w) (here + w) (k + 1)) t t
unfolding turn_of one_of want_of want_at step_of added size_next
word-turn mode s d kind i here ring k w t f st g =
    let a : d.nth + k + 1 ≡ d.nth + (k + 1) = omega arith in
    rw (f.line, f.says, g, a)

module _ (mode : Mode) (s : List ℕ) where
  int-says : (here p w n : ℕ) → want_at p ≡ Int → p < row_width → IntegerAt mode s here w n → FieldSays mode s here p w n
  int-says here p w n e h q = record { len = q.len; line = q.line; says = rw e q.says; apart = apart-int p e; cell = h }

  real-says : (here p w n : ℕ) → want_at p ≡ Real → p < row_width → RealAt mode s here w n → FieldSays mode s here p w n
  real-says here p w n e h q = record { len = q.len; line = q.line; says = rw e q.says; apart = apart-real p e; cell = h }

-- ---- turns so far, behind a keyword

module _ (mode : Mode) (s : List ℕ) (d : ReadStand) (r : List ℤ) (l i : List ℕ) (p : List ℤ) where
  -- at a state and a place, k records behind d, with the needs b
  pub record Far (b : Needs) (st : State) (here ring k : ℕ) (r' : List ℤ) (l' : List ℕ) : Type 0 where
    pub puts : Puts mode s d r l i p (stand_on (new_stand d b) st here ring k) r' l' i p

  pub key-far : (at w t : ℕ) → KeySays mode s at w t → d.state ≡ Due → d.at ≡ at → (kind q : ℕ) → t / 2 ≡ kind → 1 ≤ kind → next_of kind 0 ≡ q → 1 ≤ q
      → Far (row_only d.needs) (Field kind q 0) (at + w) d.ring 1 (pasted r (row_width * d.needs.rows) (new_row t (starts_behind d.needs))) l
  key-far at w t k e f kind q g h n o =
      let b = row_only d.needs in
      record {
        puts =
            subst
            (λ (z : State). Puts mode s d r l i p (stand_on (new_stand d b) (Field kind q 0) (at + w) d.ring 1) (rows_put z t d.needs r)
            (letters_put z (take k.len (drop d.at s)) d.needs l) (islands_put z t d.needs i) (points_put z t d.needs p))
            e (turned no-turn (key-turn mode s d at w t k e f kind q g h n o));
      }

  word-far : {kind here ring k w t : ℕ} {r' : List ℤ} → WordSays mode s here w t → (st : State) → field_of mode kind 9 0 t ≡ Ok (Some st)
      → Far (row_only d.needs) (Field kind 9 0) here ring k r' l
      → Far (row_more d.needs t) st (here + w) (here + w) (k + 1) (set r' (row_width * d.needs.rows + 9) (pos t)) (pasted l d.needs.letters (take t (drop here s)))
  unfolding want_at
  word-far {kind} {here} {ring} {k} {w} {t} {r'} f st g v =
      let z : d.needs.rows + 1 - 1 ≡ d.needs.rows = omega arith in
      let u : Puts mode s d r l i p (stand_on (new_stand d (row_more d.needs t)) st (here + w) (here + w) (k + 1)) (set r' (row_width * (d.needs.rows + 1 - 1) + 9) (pos t))
      (pasted l d.needs.letters (trimmed (take t (drop here s)))) i p =
      turned v.puts (word-turn mode s d kind 0 here ring k w t f st g) in
      record { puts = rw (z, f.bare) at u }

  field-far : {b : Needs} {kind q isl here ring k w t : ℕ} {r' : List ℤ} {l' : List ℕ} (v : ℤ) → b.rows ≡ d.needs.rows + 1 → FieldSays mode s here q w t → cell_of (want_at q) t ≡ v
      → (st : State) → field_of mode kind q isl t ≡ Ok (Some st) → Far b (Field kind q isl) here ring k r' l'
      → Far b st (here + w) (here + w) (k + 1) (set r' (row_width * d.needs.rows + q) v) l'
  field-far {b} {kind} {q} {isl} {here} {ring} {k} {w} {t} {r'} {l'} v e f c st g u =
      let z : b.rows - 1 ≡ d.needs.rows = omega (arith, e) in
      let x : Puts mode s d r l i p (stand_on (new_stand d b) st (here + w) (here + w) (k + 1)) (set r' (row_width * (b.rows - 1) + q) (cell_of (want_at q) t))
      (cond (eqb q 9) (pasted l' b.letters (trimmed (take f.len (drop here s)))) l') i p =
      turned u.puts (field-turn mode s (new_stand d b) kind q isl here ring k w t f st g) in
      record { puts = rw (z, f.apart, c) at x }

  pub int-far : {b : Needs} {kind q isl here ring k w n : ℕ} {r' : List ℤ} {l' : List ℕ} → b.rows ≡ d.needs.rows + 1 → want_at q ≡ Int → q < row_width → IntegerAt mode s here w n
      → (st : State) → field_of mode kind q isl n ≡ Ok (Some st) → Far b (Field kind q isl) here ring k r' l'
      → Far b st (here + w) (here + w) (k + 1) (set r' (row_width * d.needs.rows + q) (pos n)) l'
  int-far {b} {kind} {q} {isl} {here} {ring} {k} {w} {n} a e h f st g u =
      field-far (pos n) a (int-says mode s here q w n e h f) (ap (λ (x : Want). cell_of x n) e) st g u

  real-far : {b : Needs} {kind q here ring k w t : ℕ} {r' : List ℤ} {l' : List ℕ} → b.rows ≡ d.needs.rows + 1 → want_at q ≡ Real → q < row_width → RealAt mode s here w t
      → (st : State) → field_of mode kind q 0 t ≡ Ok (Some st) → Far b (Field kind q 0) here ring k r' l'
      → Far b st (here + w) (here + w) (k + 1) (set r' (row_width * d.needs.rows + q) (unlift t)) l'
  real-far {b} {kind} {q} {here} {ring} {k} {w} {t} a e h f st g u =
      field-far (unlift t) a (real-says mode s here q w t e h f) (ap (λ (x : Want). cell_of x t) e) st g u

  -- letters and a number
  pub lead-far : {kind here ring k t n next : ℕ} {r' : List ℤ} (q : ℕ) → LeadAt mode s here t n next → field_of mode kind 9 0 t ≡ Ok (Some (Field kind q 0)) → want_at q ≡ Int → q < row_width
      → (st : State) → field_of mode kind q 0 n ≡ Ok (Some st) → Far (row_only d.needs) (Field kind 9 0) here ring k r' l
      → Far (row_more d.needs t) st next next (k + 1 + 1) (set (set r' (row_width * d.needs.rows + 9) (pos t)) (row_width * d.needs.rows + q) (pos n))
      (pasted l d.needs.letters (take t (drop here s)))
  lead-far {kind} q v a e h st g u = rw v.there (int-far refl e h v.number st g (word-far v.word (Field kind q 0) a u))

  -- two reals
  pair_far : {b : Needs} {kind here ring k x y next : ℕ} {r' : List ℤ} {l' : List ℕ} (q q' : ℕ) → b.rows ≡ d.needs.rows + 1 → FirstAt mode s here x y next → want_at q ≡ Real → q < row_width
      → want_at q' ≡ Real → q' < row_width → field_of mode kind q 0 x ≡ Ok (Some (Field kind q' 0)) → (st : State) → field_of mode kind q' 0 y ≡ Ok (Some st)
      → Far b (Field kind q 0) here ring k r' l'
      → Far b st next next (k + 1 + 1) (set (set r' (row_width * d.needs.rows + q) (unlift x)) (row_width * d.needs.rows + q') (unlift y)) l'
  pair_far {b} {kind} q q' a v e h e' h' g st g' u =
      rw v.there (real-far a e' h' v.real-y st g' (real-far a e h v.real-x (Field kind q' 0) g u))

-- ---- bounds

module _ {mode : Mode} {s : List ℕ} {at w t : ℕ} where
  pub integer-inside : IntegerAt mode s at w t → (0 < w) × (at + w ≤ length s)
  integer-inside f =
      let v = line_view mode false (drop at s) f.len w f.line in
      (v.some, omega (arith, v.some, v.within, length-drop at s))

  integer-most : IntegerAt mode s at w t → t ≤ token_most
  integer-most f =
      let v = line_view mode false (drop at s) f.len w f.line in
      says-most mode Int (take f.len (drop at s)) t (omega (arith, v.counted, v.most)) f.says

  pub key-inside : KeySays mode s at w t → (0 < w) × (at + w ≤ length s)
  key-inside f =
      let v = line_view mode true (drop at s) f.len w f.line in
      (v.some, omega (arith, v.some, v.within, length-drop at s))

  key-most : KeySays mode s at w t → t ≤ token_most
  key-most f =
      let v = line_view mode true (drop at s) f.len w f.line in
      says-most mode Key (take f.len (drop at s)) t (omega (arith, v.counted, v.most)) f.says

  pub word-inside : WordSays mode s at w t → (0 < w) × (at + w ≤ length s) × (at + t ≤ length s)
  word-inside f =
      let v = line_view mode false (drop at s) t w f.line in
      (v.some, omega (arith, v.some, v.within, length-drop at s), omega (arith, v.some, v.past, v.within, length-drop at s))

  word-most : WordSays mode s at w t → t ≤ token_most
  word-most f =
      let v = line_view mode false (drop at s) t w f.line in
      says-most mode Text (take t (drop at s)) t (omega (arith, v.counted, v.most)) f.says

pub first-inside : {mode : Mode} {s : List ℕ} {at x y next : ℕ} → FirstAt mode s at x y next → next ≤ length s
first-inside f = omega (arith, (real-inside f.real-y).1, f.there)

pub lead-inside : {mode : Mode} {s : List ℕ} {at t n next : ℕ} → LeadAt mode s at t n next → next ≤ length s
lead-inside f = omega (arith, (integer-inside f.number).1, f.there)

pub counts-inside : {mode : Mode} {s : List ℕ} {at n m next : ℕ} → CountsAt mode s at n m next → next ≤ length s
counts-inside f = omega (arith, (integer-inside f.second).1, f.there)

-- a code that goes on leads to the next field
pub code-sign : (mode : Mode) (n : ℕ) → CodeGoes mode 3 n → field_of mode 3 2 0 n ≡ Ok (Some (Field 3 4 0))
unfolding field_of next_of next_in schedule
code-sign mode n c = go (eqb 2 2 && is_exact mode && not (is_listed 3 n)) c.st c.goes
  where
    go : (b : Bool) (st : State) → cond b (Err Refusal.Code) (Ok (Some (Field 3 4 0))) ≡ Ok (Some st) → cond b (Err Refusal.Code) (Ok (Some (Field 3 4 0))) ≡ Ok (Some (Field 3 4 0))
    go true st e = absurd (let z : ◌≡◌ {A = ℕ} 0 1 = cc in omega arith)
    go false st e = refl

pub code-mark : (mode : Mode) (n : ℕ) → CodeGoes mode 4 n → field_of mode 4 2 0 n ≡ Ok (Some (Field 4 5 0))
unfolding field_of next_of next_in schedule
code-mark mode n c = go (eqb 2 2 && is_exact mode && not (is_listed 4 n)) c.st c.goes
  where
    go : (b : Bool) (st : State) → cond b (Err Refusal.Code) (Ok (Some (Field 4 5 0))) ≡ Ok (Some st) → cond b (Err Refusal.Code) (Ok (Some (Field 4 5 0))) ≡ Ok (Some (Field 4 5 0))
    go true st e = absurd (let z : ◌≡◌ {A = ℕ} 0 1 = cc in omega arith)
    go false st e = refl

code-path : (mode : Mode) (n : ℕ) → CodeGoes mode 5 n → field_of mode 5 2 0 n ≡ Ok (Some (Field 5 11 0))
unfolding field_of next_of next_in schedule
code-path mode n c = go (eqb 2 2 && is_exact mode && not (is_listed 5 n)) c.st c.goes
  where
    go : (b : Bool) (st : State) → cond b (Err Refusal.Code) (Ok (Some (Field 5 11 0))) ≡ Ok (Some st) → cond b (Err Refusal.Code) (Ok (Some (Field 5 11 0))) ≡ Ok (Some (Field 5 11 0))
    go true st e = absurd (let z : ◌≡◌ {A = ℕ} 0 1 = cc in omega arith)
    go false st e = refl

-- ---- a head of each kind

module _ (mode : Mode) (s : List ℕ) (at w t : ℕ) (key : KeySays mode s at w t) where
  border-puts : (n m j angle aw x y j' x2 y2 j'' i v next : ℕ) → t / 2 ≡ 1 → LeadAt mode s (at + w) n m j → RealAt mode s j aw angle → FirstAt mode s (j + aw) x y j' → FirstAt mode s j' x2 y2 j'' → CountsAt mode s j'' i v next → (st : State) → field_of mode 1 11 i v ≡ Ok (Some st)
      → (d : ReadStand) → d.state ≡ Due → d.at ≡ at → (r : List ℤ) (l is : List ℕ) (p : List ℤ)
      → (let B = row_width * d.needs.rows in
      Far mode s d r l is p (row_more d.needs n) st next next 10
      (set (set (set (set (set (set (set (set (set (pasted r B (new_row t (starts_behind d.needs))) (B + 9) (pos n)) (B + 3) (pos m)) (B + 4) (unlift angle)) (B + 5) (unlift x)) (B + 6) (unlift y)) (B + 7) (unlift x2)) (B + 8) (unlift y2)) (B + 10) (pos i)) (B + 11) (pos v))
      (pasted l d.needs.letters (take n (drop (at + w) s))))
  unfolding want_at field_of next_of next_in schedule
  border-puts n m j angle aw x y j' x2 y2 j'' i v next kind lead real first second counts st g d e f r l is p =
      let a = key-far mode s d r l is p at w t key e f 1 9 kind (omega arith) refl (omega arith) in
      let b = lead-far mode s d r l is p 3 lead refl refl (omega arith) (Field 1 4 0) refl a in
      let c = real-far mode s d r l is p {q = 4} refl refl (omega arith) real (Field 1 5 0) refl b in
      let h = pair_far mode s d r l is p 5 6 refl first refl (omega arith) refl (omega arith) refl (Field 1 7 0) refl c in
      let k = pair_far mode s d r l is p 7 8 refl second refl (omega arith) refl (omega arith) refl (Field 1 10 0) refl h in
      let o = int-far mode s d r l is p {q = 10} refl refl (omega arith) counts.first (Field 1 11 i) refl k in
      rw counts.there (int-far mode s d r l is p {q = 11} refl refl (omega arith) counts.second st g o)

  note-puts : (n m j angle aw x y next : ℕ) → t / 2 ≡ 2 → LeadAt mode s (at + w) n m j → RealAt mode s j aw angle → FirstAt mode s (j + aw) x y next
      → (d : ReadStand) → d.state ≡ Due → d.at ≡ at → (r : List ℤ) (l is : List ℕ) (p : List ℤ)
      → (let B = row_width * d.needs.rows in
      Far mode s d r l is p (row_more d.needs n) Due next next 6
      (set (set (set (set (set (pasted r B (new_row t (starts_behind d.needs))) (B + 9) (pos n)) (B + 3) (pos m)) (B + 4) (unlift angle)) (B + 5) (unlift x)) (B + 6) (unlift y))
      (pasted l d.needs.letters (take n (drop (at + w) s))))
  unfolding want_at field_of next_of next_in schedule fields_end fixed_vertices fixed
  note-puts n m j angle aw x y next kind lead real first d e f r l is p =
      let a = key-far mode s d r l is p at w t key e f 2 9 kind (omega arith) refl (omega arith) in
      let b = lead-far mode s d r l is p 3 lead refl refl (omega arith) (Field 2 4 0) refl a in
      let c = real-far mode s d r l is p {q = 4} refl refl (omega arith) real (Field 2 5 0) refl b in
      pair_far mode s d r l is p 5 6 refl first refl (omega arith) refl (omega arith) refl Due refl c

  sign-puts : (m mw angle aw x y next : ℕ) → t / 2 ≡ 3 → IntegerAt mode s (at + w) mw m → CodeGoes mode 3 m → RealAt mode s (at + w + mw) aw angle → FirstAt mode s (at + w + mw + aw) x y next
      → (d : ReadStand) → d.state ≡ Due → d.at ≡ at → (r : List ℤ) (l is : List ℕ) (p : List ℤ)
      → (let B = row_width * d.needs.rows in
      Far mode s d r l is p (row_only d.needs) Due next next 5
      (set (set (set (set (pasted r B (new_row t (starts_behind d.needs))) (B + 2) (pos m)) (B + 4) (unlift angle)) (B + 5) (unlift x)) (B + 6) (unlift y))
      l)
  unfolding want_at field_of next_of next_in schedule fields_end fixed_vertices fixed
  sign-puts m mw angle aw x y next kind code goes real first d e f r l is p =
      let a = key-far mode s d r l is p at w t key e f 3 2 kind (omega arith) refl (omega arith) in
      let b = int-far mode s d r l is p {q = 2} refl refl (omega arith) code (Field 3 4 0) (code-sign mode m goes) a in
      let c = real-far mode s d r l is p {q = 4} refl refl (omega arith) real (Field 3 5 0) refl b in
      pair_far mode s d r l is p 5 6 refl first refl (omega arith) refl (omega arith) refl Due refl c

  mark-puts : (n m j x y j' x2 y2 next : ℕ) → t / 2 ≡ 4 → LeadAt mode s (at + w) n m j → CodeGoes mode 4 m → FirstAt mode s j x y j' → FirstAt mode s j' x2 y2 next
      → (d : ReadStand) → d.state ≡ Due → d.at ≡ at → (r : List ℤ) (l is : List ℕ) (p : List ℤ)
      → (let B = row_width * d.needs.rows in
      Far mode s d r l is p (row_more d.needs n) Due next next 7
      (set (set (set (set (set (set (pasted r B (new_row t (starts_behind d.needs))) (B + 9) (pos n)) (B + 2) (pos m)) (B + 5) (unlift x)) (B + 6) (unlift y)) (B + 7) (unlift x2)) (B + 8) (unlift y2))
      (pasted l d.needs.letters (take n (drop (at + w) s))))
  unfolding want_at field_of next_of next_in schedule fields_end fixed_vertices fixed
  mark-puts n m j x y j' x2 y2 next kind lead goes first second d e f r l is p =
      let a = key-far mode s d r l is p at w t key e f 4 9 kind (omega arith) refl (omega arith) in
      let b = lead-far mode s d r l is p 2 lead refl refl (omega arith) (Field 4 5 0) (code-mark mode m goes) a in
      let c = pair_far mode s d r l is p 5 6 refl first refl (omega arith) refl (omega arith) refl (Field 4 7 0) refl b in
      pair_far mode s d r l is p 7 8 refl second refl (omega arith) refl (omega arith) refl Due refl c

  path-puts : (m v next : ℕ) → t / 2 ≡ 5 → CountsAt mode s (at + w) m v next → CodeGoes mode 5 m → (st : State) → field_of mode 5 11 0 v ≡ Ok (Some st)
      → (d : ReadStand) → d.state ≡ Due → d.at ≡ at → (r : List ℤ) (l is : List ℕ) (p : List ℤ)
      → (let B = row_width * d.needs.rows in
      Far mode s d r l is p (row_only d.needs) st next next 3
      (set (set (pasted r B (new_row t (starts_behind d.needs))) (B + 2) (pos m)) (B + 11) (pos v))
      l)
  unfolding want_at field_of next_of next_in schedule
  path-puts m v next kind counts goes st g d e f r l is p =
      let a = key-far mode s d r l is p at w t key e f 5 2 kind (omega arith) refl (omega arith) in
      let b = int-far mode s d r l is p {q = 2} refl refl (omega arith) counts.first (Field 5 11 0) (code-path mode m goes) a in
      rw counts.there (int-far mode s d r l is p {q = 11} refl refl (omega arith) counts.second st g b)

  pub border-head : (n m j angle aw x y j' x2 y2 j'' i v next : ℕ) → t / 2 ≡ 1 → LeadAt mode s (at + w) n m j → RealAt mode s j aw angle → FirstAt mode s (j + aw) x y j' → FirstAt mode s j' x2 y2 j'' → CountsAt mode s j'' i v next → Countable 1 i v
      → HeadAt mode s at (record { token = t; letters = n; word = at + w; number = m; angle = angle; x = x; y = y; x2 = x2; y2 = y2; islands = i; vertices = v; records = 10; next = next })
  unfolding rows_head
  border-head n m j angle aw x y j' x2 y2 j'' i v next kind lead real first second counts g =
      record {
        puts = λ d e f r l is p. rw (eq-eqb (t / 2) 1 kind) (border-puts n m j angle aw x y j' x2 y2 j'' i v next kind lead real first second counts (opened_by (t / 2) i v) (rw kind (g.goes mode)) d e f r l is p).puts;
        few = record { token = key-most key; letters = word-most lead.word; number = integer-most lead.number; angle = real-most real; x = real-most first.real-x; y = real-most first.real-y; x2 = real-most second.real-x; y2 = real-most second.real-y; islands = integer-most counts.first; vertices = integer-most counts.second };
        records = omega arith;
        word = (word-inside lead.word).2;
        inside = counts-inside counts;
      }

  pub note-head : (n m j angle aw x y next : ℕ) → t / 2 ≡ 2 → LeadAt mode s (at + w) n m j → RealAt mode s j aw angle → FirstAt mode s (j + aw) x y next
      → HeadAt mode s at (record { token = t; letters = n; word = at + w; number = m; angle = angle; x = x; y = y; x2 = 0; y2 = 0; islands = 0; vertices = 0; records = 6; next = next })
  unfolding rows_head opened_by
  note-head n m j angle aw x y next kind lead real first =
      record {
        puts = λ d e f r l is p. rw (ne_eqb (t / 2) 1 (λ z. omega (arith, kind)), eq-eqb (t / 2) 2 kind) (note-puts n m j angle aw x y next kind lead real first d e f r l is p).puts;
        few = record { token = key-most key; letters = word-most lead.word; number = integer-most lead.number; angle = real-most real; x = real-most first.real-x; y = real-most first.real-y; x2 = omega arith; y2 = omega arith; islands = omega arith; vertices = omega arith };
        records = omega arith;
        word = (word-inside lead.word).2;
        inside = first-inside first;
      }

  pub sign-head : (m mw angle aw x y next : ℕ) → t / 2 ≡ 3 → IntegerAt mode s (at + w) mw m → CodeGoes mode 3 m → RealAt mode s (at + w + mw) aw angle → FirstAt mode s (at + w + mw + aw) x y next
      → HeadAt mode s at (record { token = t; letters = 0; word = 0; number = m; angle = angle; x = x; y = y; x2 = 0; y2 = 0; islands = 0; vertices = 0; records = 5; next = next })
  unfolding rows_head opened_by
  sign-head m mw angle aw x y next kind code goes real first =
      record {
        puts = λ d e f r l is p.
            let z : d.needs.letters + 0 ≡ d.needs.letters = omega arith in
            rw (ne_eqb (t / 2) 1 (λ z. omega (arith, kind)), ne_eqb (t / 2) 2 (λ z. omega (arith, kind)), eq-eqb (t / 2) 3 kind, ← pasted-none l d.needs.letters, z) (sign-puts m mw angle aw x y next kind code goes real first d e f r l is p).puts;
        few = record { token = key-most key; letters = omega arith; number = integer-most code; angle = real-most real; x = real-most first.real-x; y = real-most first.real-y; x2 = omega arith; y2 = omega arith; islands = omega arith; vertices = omega arith };
        records = omega arith;
        word = omega arith;
        inside = first-inside first;
      }

  pub mark-head : (n m j x y j' x2 y2 next : ℕ) → t / 2 ≡ 4 → LeadAt mode s (at + w) n m j → CodeGoes mode 4 m → FirstAt mode s j x y j' → FirstAt mode s j' x2 y2 next
      → HeadAt mode s at (record { token = t; letters = n; word = at + w; number = m; angle = 0; x = x; y = y; x2 = x2; y2 = y2; islands = 0; vertices = 0; records = 7; next = next })
  unfolding rows_head opened_by
  mark-head n m j x y j' x2 y2 next kind lead goes first second =
      record {
        puts = λ d e f r l is p. rw (ne_eqb (t / 2) 1 (λ z. omega (arith, kind)), ne_eqb (t / 2) 2 (λ z. omega (arith, kind)), ne_eqb (t / 2) 3 (λ z. omega (arith, kind)), eq-eqb (t / 2) 4 kind) (mark-puts n m j x y j' x2 y2 next kind lead goes first second d e f r l is p).puts;
        few = record { token = key-most key; letters = word-most lead.word; number = integer-most lead.number; angle = omega arith; x = real-most first.real-x; y = real-most first.real-y; x2 = real-most second.real-x; y2 = real-most second.real-y; islands = omega arith; vertices = omega arith };
        records = omega arith;
        word = (word-inside lead.word).2;
        inside = first-inside second;
      }

  pub path-head : (m v next : ℕ) → t / 2 ≡ 5 → CountsAt mode s (at + w) m v next → CodeGoes mode 5 m → Countable 5 0 v
      → HeadAt mode s at (record { token = t; letters = 0; word = 0; number = m; angle = 0; x = 0; y = 0; x2 = 0; y2 = 0; islands = 0; vertices = v; records = 3; next = next })
  unfolding rows_head
  path-head m v next kind counts goes g =
      record {
        puts = λ d e f r l is p.
            let z : d.needs.letters + 0 ≡ d.needs.letters = omega arith in
            rw (ne_eqb (t / 2) 1 (λ z. omega (arith, kind)), ne_eqb (t / 2) 2 (λ z. omega (arith, kind)), ne_eqb (t / 2) 3 (λ z. omega (arith, kind)), ne_eqb (t / 2) 4 (λ z. omega (arith, kind)), ← pasted-none l d.needs.letters, z) (path-puts m v next kind counts goes (opened_by (t / 2) 0 v) (rw kind (g.goes mode)) d e f r l is p).puts;
        few = record { token = key-most key; letters = omega arith; number = integer-most counts.first; angle = omega arith; x = omega arith; y = omega arith; x2 = omega arith; y2 = omega arith; islands = omega arith; vertices = integer-most counts.second };
        records = omega arith;
        word = omega arith;
        inside = counts-inside counts;
      }
