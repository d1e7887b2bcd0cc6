-- Where a walk of the reader stands in the meaning's walk, and what a turn makes of that. Assumes nothing.
use Rattle.std.specs.Prelude.{Option, Some, None, Result, Ok, Err}
use Rattle.record.specs.declared.refusal.Refusal.{Refusal}
use Rattle.record.specs.declared.refusal.Refusal.TheVariants as Refusal
use Rattle.header.specs.declared.Stopped.{Stopped}
use Rattle.reader.specs.Turn.{onward, halted, finished}
use mathlib.Core.Path.{◌≡◌, refl, sym, ◌∙◌, ap, subst}
use mathlib.Core.Bool.{Bool, true, false, cond, ◌&&◌}
use mathlib.Core.List.{List, [], ◌∷◌}
use Prim.Native.Nat.{ℕ, zero, suc, ◌+◌, ◌-◌, ◌*◌, ◌/◌, ◌≤◌, ◌<◌}
use native.Mathlib.Omega.{arith}
use lib.ListN.{length, take, drop, length-append, length-set, length-drop}
use lib.Seq.{drop-drop}
use lib.Dec.{leb, eqb}
use borrow.Author.Tests.{leb-true, leb-false}
use Rattle.laws.proofs.Choice.{cond-elim}
use Rattle.record.specs.declared.Mode.{Mode}
use Rattle.record.specs.declared.Mode.TheVariants.{Loose, Exact, Former}
use Rattle.record.specs.declared.Line.{Line}
use Rattle.record.specs.Record.{line_of}
use Rattle.record.proofs.RecordLaws.{line_view, line-none}
use Rattle.number.specs.declared.Word.{Word}
use Rattle.number.specs.Words.{word_of, trimmed}
use Rattle.number.specs.Number.{integer_of}
use Rattle.number.proofs.WordLaws.{word-is, trimmed-le}
use Rattle.token.specs.Lex.{unlift, of_text, lex_of}
use Rattle.token.specs.declared.Want.TheVariants.{Text, Int, Real}
use Rattle.kinds.specs.Kinds.{row_width, want_at}
use Rattle.machine.specs.Machine.{want_of, is_due, step_of, of_step, of_token, of_line, one_of}
use Rattle.machine.specs.declared.State.{State}
use Rattle.machine.specs.declared.State.TheVariants.{Due, Field, Island, X, Y}
use Rattle.machine.specs.declared.One.{One}
use Rattle.sheet.specs.Tables.{Tables, starts_of, new_row, set_last, put, ring_after}
use Rattle.sheet.specs.Reading.{Sections, read, stop, after, walk}
use Rattle.sheet.specs.Reading as Reading
use Rattle.sheet.proofs.Okay.{Okay, go-okay}
use Rattle.sheet.proofs.Pass.{Went, Ended, OneView, one-view}
use Rattle.sheet.proofs.Whole.{odd_of, StepOdd, odd_next, step-odd}
use Rattle.reader.specs.Turn.{sized, size_line, size_of, is_turning, size_next, isl_next, added, closing, turned, turn_of, InFile}
use Rattle.reader.specs.Store.{starts_behind}
use Rattle.reader.specs.Read.{needs_of}
use Rattle.reader.specs.declared.Needs.{Needs}
use Rattle.reader.specs.declared.ReadStand.{ReadStand}
use Rattle.reader.specs.declared.Turn.{Turn}
use Rattle.reader.specs.declared.Size.{Size}
use Rattle.reader.proofs.Rings.{Pend, ring-next, go-pend, step-free}

-- ---- the needs count the tables

pub record Sized (st : State) (o : Tables) (a : Needs) : Type 0 where
  pub rows : length o.rows ≡ row_width * a.rows
  pub letters : length o.letters ≡ a.letters
  pub islands : length o.islands ≡ a.islands
  pub points : length o.points ≡ 2 * a.points + odd_of st

-- letters that are read are as many as the word has
text_says : (mode : Mode) (c : List ℕ) (t : ℕ) → lex_of mode Text c ≡ Ok t → length (trimmed c) ≡ t
unfolding lex_of
text_says mode c t = go (word_of mode c) refl
  where
    some : (start len : ℕ) → word_of mode c ≡ Some (record { start = start; len = len }) → (b : Bool) → cond b (Err Refusal.Letters) (Ok len) ≡ Ok t → length (trimmed c) ≡ t
    some start len e true q = absurd (let z : ◌≡◌ {A = ℕ} 0 1 = cc in omega arith)
    some start len e false q = let z : len ≡ t = cc in sym (word-is mode c start len e).2 ∙ z

    go : (w : Option Word) → word_of mode c ≡ w → of_text w ≡ Ok t → length (trimmed c) ≡ t
    go (Some w) e q = some w.start w.len e (eqb w.len 0) q
    go None e q = absurd (let z : ◌≡◌ {A = ℕ} 0 1 = cc in omega arith)

-- what a record's letters are, by its place
letters-say : (mode : Mode) (p : ℕ) (c : List ℕ) (t : ℕ) → lex_of mode (want_at p) c ≡ Ok t → length (cond (eqb p 9) (trimmed c) []) ≡ cond (eqb p 9) t 0
unfolding want_at
letters-say mode p c t q = go (eqb p 9) q
  where
    go : (b : Bool) → lex_of mode (cond b Text (cond (leb 4 p && leb p 8) Real Int)) c ≡ Ok t → length (cond b (trimmed c) []) ≡ cond b t 0
    go true q = text_says mode c t q
    go false q = refl

sized-by : (mode : Mode) (st st' : State) (t : ℕ) (c : List ℕ) (o : Tables) (a : Needs) → Sized st o a → lex_of mode (want_of st) c ≡ Ok t → odd_of st' ≡ odd_next st
    → Sized st' (put st t c o) (added a st t)
unfolding put added set_last want_of
sized-by mode Due st' t c o a h q e =
    record { rows = omega (arith, length-append o.rows (new_row t (starts_of o)), h.rows); letters = h.letters; islands = h.islands; points = omega (arith, h.points) }
sized-by mode (Field k p i) st' t c o a h q e =
    record {
      rows = simp length-set h.rows;
      letters = omega (arith, length-append o.letters (cond (eqb p 9) (trimmed c) []), letters-say mode p c t q, h.letters);
      islands = h.islands;
      points = omega (arith, h.points);
    }
sized-by mode (Island l s r) st' t c o a h q e =
    record { rows = h.rows; letters = h.letters; islands = omega (arith, length-append o.islands (t ∷ []), h.islands); points = omega (arith, h.points) }
sized-by mode (X r) st' t c o a h q e =
    record { rows = h.rows; letters = h.letters; islands = h.islands; points = omega (arith, length-append o.points (unlift t ∷ []), h.points) }
sized-by mode (Y r x) st' t c o a h q e =
    record { rows = h.rows; letters = h.letters; islands = h.islands; points = omega (arith, length-append o.points (unlift t ∷ []), h.points) }

pub sized-put : (mode : Mode) (st st' : State) (t next : ℕ) (c : List ℕ) (o : Tables) (a : Needs) → Sized st o a → lex_of mode (want_of st) c ≡ Ok t → step_of mode st t next ≡ Ok (Some st')
    → Sized st' (put st t c o) (added a st t)
sized-put mode st st' t next c o a h q g = sized-by mode st st' t c o a h q (subst (StepOdd (odd_next st)) g (step-odd mode st t next))

-- where a keyword is due the needs are those of the tables
pub needs-are : (o : Tables) (a : Needs) → Sized Due o a → needs_of o ≡ a
needs-are o a h =
    let r : length o.rows / row_width ≡ a.rows = omega (arith, h.rows) in
    let p : length o.points / 2 ≡ a.points = omega (arith, h.points) in
    λ i. record { rows = r i; letters = h.letters i; islands = h.islands i; points = p i }

-- and so are the starts of the next row
pub starts-are : (o : Tables) (a : Needs) → Sized Due o a → starts_behind a ≡ starts_of o
starts-are o a h = ap (λ (n : Needs). starts_behind n) (sym (needs-are o a h))

-- ---- where a walk stands

-- `target` is what the walk over the file gives; `o` is what was read so far
pub record At (mode : Mode) (s : List ℕ) (target : Sections) (o : Tables) (d : ReadStand) : Type 0 where
  pub fuel : ℕ
  pub same : target ≡ walk fuel mode d.state o d.nth d.at (drop d.at s)
  pub enough : length (drop d.at s) ≤ fuel
  pub okay : Okay d.state o
  pub pend : Pend mode s d.state o.islands d.at d.ring
  pub sized : Sized d.state o d.needs
  pub within : InFile s d

-- one record, whether the next ring's size comes from the tables or from the file
pub one_same : (mode : Mode) (s : List ℕ) (target : Sections) (o : Tables) (d : ReadStand) → At mode s target o d
    → one_of mode d.state (size_next mode d.state (drop d.ring s)).n (drop d.at s) ≡ one_of mode d.state (ring_after d.state o) (drop d.at s)
unfolding one_of
one_same mode s target o d h = go (is_turning d.state) refl
  where
    free : is_turning d.state ≡ false → (a b : ℕ) (l : Result Line Refusal) → of_line mode d.state a (drop d.at s) l ≡ of_line mode d.state b (drop d.at s) l
    free e a b (Err m) = refl
    free e a b (Ok x) = by (lex_of mode (want_of d.state) (take x.len (drop d.at s)))
      where
        by : (k : Result ℕ Refusal) → of_token mode d.state a x.len x.width k ≡ of_token mode d.state b x.len x.width k
        by (Ok t) = ap (of_step t x.len x.width) (step-free mode d.state t a b e)
        by (Err m) = refl

    go : (b : Bool) → is_turning d.state ≡ b
        → of_line mode d.state (size_next mode d.state (drop d.ring s)).n (drop d.at s) (line_of mode (is_due d.state) (drop d.at s))
        ≡ of_line mode d.state (ring_after d.state o) (drop d.at s) (line_of mode (is_due d.state) (drop d.at s))
    go true e = rw (ring-next mode s d.state o d.at d.ring h.pend e)
    go false e = free e (size_next mode d.state (drop d.ring s)).n (ring_after d.state o) (line_of mode (is_due d.state) (drop d.at s))

-- no record is left where no byte is
pub one_none : (mode : Mode) (st : State) (next : ℕ) (bs : List ℕ) → length bs ≤ 0 → one_of mode st next bs ≡ Err Refusal.Cut
unfolding one_of
one_none mode st next [] h = rw (line-none mode (is_due st))
one_none mode st next (b ∷ bs) h = absurd (omega arith)

walk_step : (f : ℕ) (mode : Mode) (st : State) (o : Tables) (k a : ℕ) (bs : List ℕ) → length bs ≤ f
    → walk f mode st o k a bs ≡ after mode st o k a bs (λ st' o' at' bs'. walk (f - 1) mode st' o' (k + 1) at' bs') (one_of mode st (ring_after st o) bs)
unfolding walk
walk_step zero mode st o k a bs h = rw (one_none mode st (ring_after st o) bs h)
walk_step (suc f) mode st o k a bs h =
    let z : suc f - 1 ≡ f = omega arith in
    rw z

-- the target, by what the next record is
target_is : (mode : Mode) (s : List ℕ) (target : Sections) (o : Tables) (d : ReadStand) (h : At mode s target o d)
    → target ≡ after mode d.state o d.nth d.at (drop d.at s) (λ st' o' at' bs'. walk (h.fuel - 1) mode st' o' (d.nth + 1) at' bs')
    (one_of mode d.state (size_next mode d.state (drop d.ring s)).n (drop d.at s))
target_is mode s target o d h =
    h.same ∙ walk_step h.fuel mode d.state o d.nth d.at (drop d.at s) h.enough ∙ rw (one_same mode s target o d h)

-- ---- bounds

pub size-width : (mode : Mode) (bs : List ℕ) → (size_of mode bs).width ≤ length bs
unfolding size_of
size-width mode bs = by (line_of mode false bs) refl
  where
    said : (width : ℕ) → width ≤ length bs → (w : Option ℕ) → (sized width w).width ≤ length bs
    said width h (Some t) = h
    said width h None = omega arith

    by : (l : Result Line Refusal) → line_of mode false bs ≡ l → (size_line mode bs l).width ≤ length bs
    by (Ok x) e = said x.width (line_view mode false bs x.len x.width e).within (integer_of mode (take x.len bs))
    by (Err m) e = omega arith

pub next-width : (mode : Mode) (st : State) (bs : List ℕ) → (size_next mode st bs).width ≤ length bs
unfolding size_next
next-width mode st bs = cond-elim (λ (z : Size). z.width ≤ length bs) (is_turning st) _ _ (λ _. size-width mode bs) (λ _. omega arith)

isl-most : (st : State) (ring width at m : ℕ) → ring + width ≤ m → at ≤ m → isl_next st ring width at ≤ m
isl-most Due ring width at m a b = omega arith
isl-most (Field k p i) ring width at m a b = b
isl-most (Island l s r) ring width at m a b = omega arith
isl-most (X r) ring width at m a b = omega arith
isl-most (Y r x) ring width at m a b = a

-- a record adds no more than its bytes
pub record Grows (a b : Needs) (n : ℕ) : Type 0 where
  pub rows : b.rows ≤ a.rows + n
  pub letters : b.letters ≤ a.letters + n
  pub islands : b.islands ≤ a.islands + n
  pub points : b.points ≤ a.points + n

pub added-most : (mode : Mode) (st : State) (a : Needs) (t width : ℕ) (c : List ℕ) → lex_of mode (want_of st) c ≡ Ok t → 1 ≤ width → length c ≤ width → Grows a (added a st t) width
unfolding added want_of
added-most mode Due a t width c q h k = omega arith
added-most mode (Field kd p i) a t width c q h k = omega (arith, letters-say mode p c t q, few (eqb p 9))
  where
    few : (b : Bool) → length (cond b (trimmed c) []) ≤ width
    few true = omega (arith, trimmed-le c)
    few false = omega arith
added-most mode (Island l s r) a t width c q h k = omega arith
added-most mode (X r) a t width c q h k = omega arith
added-most mode (Y r x) a t width c q h k = omega arith

-- the record that the machine went on by leaves the walk inside the file
went-inside : (mode : Mode) (s : List ℕ) (d : ReadStand) (st : State) (t len w : ℕ) → InFile s d
    → Went mode d.state (size_next mode d.state (drop d.ring s)).n (drop d.at s) st t len w
    → InFile s (record { state = st; at = d.at + w; nth = d.nth + 1; ring = isl_next d.state d.ring (size_next mode d.state (drop d.ring s)).width (d.at + w); needs = added d.needs d.state t })
went-inside mode s d st t len w b v =
    let l = v.line in
    let n = length-drop d.at s in
    let g = added-most mode d.state d.needs t w (take len (drop d.at s)) v.goes.says l.some (omega (arith, l.counted, l.past)) in
    let z = next-width mode d.state (drop d.ring s) in
    record {
      small = b.small;
      here = omega (arith, l.within);
      rings = isl-most d.state d.ring (size_next mode d.state (drop d.ring s)).width (d.at + w) (length s) (omega (arith, length-drop d.ring s, b.rings)) (omega (arith, l.within));
      counted = omega (arith, b.counted, l.some);
      rows = omega (arith, b.rows, g.rows);
      letters = omega (arith, b.letters, g.letters);
      islands = omega (arith, b.islands, g.islands);
      points = omega (arith, b.points, g.points);
    }

pub onward-is : {d e : ReadStand} {t n t' n' : ℕ} → onward d t n ≡ onward e t' n' → d ≡ e
onward-is {d} {e} {t} {n} {t'} {n'} q =
    let w : ◌≡◌ {A = Turn} (record { stand = d; token = t; len = n }) (record { stand = e; token = t'; len = n' }) = cc in
    ap (λ (x : Turn). x.stand) w

-- so does a turn
pub turn_inside : (mode : Mode) (s : List ℕ) (d e : ReadStand) (t len : ℕ) → InFile s d → turn_of mode s d ≡ onward e t len → InFile s e
unfolding turn_of
turn_inside mode s d e t len b q = by (one_of mode d.state (size_next mode d.state (drop d.ring s)).n (drop d.at s)) (one-view mode d.state (size_next mode d.state (drop d.ring s)).n (drop d.at s)) q
  where
    shut : (m : Mode) (k next size : ℕ) → closing m k next size ≡ onward e t len → InFile s e
    shut Loose k next size r = absurd (let z : ◌≡◌ {A = ℕ} 0 1 = cc in omega arith)
    shut Former k next size r = absurd (let z : ◌≡◌ {A = ℕ} 0 1 = cc in omega arith)
    shut Exact k next size r = go (leb size next) r
      where
        go : (x : Bool) → cond x finished (halted Refusal.AfterEof k next) ≡ onward e t len → InFile s e
        go true y = absurd (let z : ◌≡◌ {A = ℕ} 0 1 = cc in omega arith)
        go false y = absurd (let z : ◌≡◌ {A = ℕ} 0 1 = cc in omega arith)

    by : (w : Result One Refusal) → OneView mode d.state (size_next mode d.state (drop d.ring s)).n (drop d.at s) w
        → turned mode d (length s) (size_next mode d.state (drop d.ring s)).width w ≡ onward e t len → InFile s e
    by (Ok (One.Go st t' len' w)) v r = subst (InFile s) (onward-is r) (went-inside mode s d st t' len' w b v)
    by (Err m) v r = absurd (let z : ◌≡◌ {A = ℕ} 0 1 = cc in omega arith)
    by (Ok (One.End w)) v r = shut mode (d.nth + 1) (d.at + w) (length s) r

-- ---- a turn

-- the record at work, where it is one that the machine goes on by
pub record Moved (mode : Mode) (s : List ℕ) (target : Sections) (o : Tables) (d d' : ReadStand) (t len : ℕ) : Type 0 where
  pub then : At mode s target (put d.state t (take len (drop d.at s)) o) d'
  pub on : d.at < d'.at
  pub inside : d.at + len ≤ length s
  pub short : length (take len (drop d.at s)) ≤ 255
  pub says : lex_of mode (want_of d.state) (take len (drop d.at s)) ≡ Ok t

abbrev pub TurnOk : Mode → List ℕ → Sections → Tables → ReadStand → Result (Option Turn) Stopped → Type 0
TurnOk mode s target o d (Ok (Some x)) = Moved mode s target o d x.stand x.token x.len
TurnOk mode s target o d (Ok None) = (target ≡ read o d.at) × (needs_of o ≡ d.needs)
TurnOk mode s target o d (Err x) = target ≡ stop x.refusal x.«record» x.offset

module _ (mode : Mode) (s : List ℕ) (target : Sections) (o : Tables) (d : ReadStand) (h : At mode s target o d) where
  abbrev size : Size
  size = size_next mode d.state (drop d.ring s)

  abbrev bytes : List ℕ
  bytes = drop d.at s

  moved : (st : State) (t len w : ℕ) → one_of mode d.state size.n bytes ≡ Ok (One.Go st t len w) → Went mode d.state size.n bytes st t len w
      → Moved mode s target o d (record { state = st; at = d.at + w; nth = d.nth + 1; ring = isl_next d.state d.ring size.width (d.at + w); needs = added d.needs d.state t }) t len
  moved st t len w e v =
      let b = h.within in
      let l = v.line in
      let n = length-drop d.at s in
      let g = added-most mode d.state d.needs t w (take len bytes) v.goes.says l.some (omega (arith, l.counted, l.past)) in
      let z = next-width mode d.state (drop d.ring s) in
      record {
        then = record {
          fuel = h.fuel - 1;
          same = target_is mode s target o d h ∙ rw (e, drop-drop w d.at s);
          enough = omega (arith, length-drop (d.at + w) s, h.enough, l.some, l.within);
          okay = go-okay mode d.state st t size.n (take len bytes) o h.okay v.goes.steps;
          pend = go-pend mode s d.state st t len w (take len bytes) o d.at d.ring size.n h.pend v.found v.goes.says v.goes.steps;
          sized = sized-put mode d.state st t size.n (take len bytes) o d.needs h.sized v.goes.says v.goes.steps;
          within = went-inside mode s d st t len w b v;
        };
        on = omega (arith, l.some);
        inside = omega (arith, l.past, l.within);
        short = omega (arith, l.counted, l.most);
        says = v.goes.says;
      }

  closed : (m : Mode) (w : ℕ) → m ≡ mode → one_of mode d.state size.n bytes ≡ Ok (One.End w) → Ended mode d.state size.n bytes w
      → TurnOk mode s target o d (closing m (d.nth + 1) (d.at + w) (length s))
  closed m w q e v =
      let needs : needs_of o ≡ d.needs = needs-are o d.needs (subst (λ (x : State). Sized x o d.needs) v.due h.sized) in
      let rest : target ≡ Reading.behind_eof mode o d.at (d.nth + 1) (d.at + w) (drop (d.at + w) s) =
      target_is mode s target o d h ∙ rw (e, drop-drop w d.at s) in
      go m q rest needs
    where
      by : (z : List ℕ) → z ≡ drop (d.at + w) s → (x : Bool) → leb (length s) (d.at + w) ≡ x → target ≡ Reading.behind_eof Exact o d.at (d.nth + 1) (d.at + w) z → needs_of o ≡ d.needs
          → TurnOk mode s target o d (cond x finished (halted Refusal.AfterEof (d.nth + 1) (d.at + w)))
      by [] f true y r needs = (r, needs)
      by [] f false y r needs = absurd (omega (arith, leb-false (length s) (d.at + w) y, length-drop (d.at + w) s, ap length f))
      by (a ∷ z) f true y r needs = absurd (omega (arith, leb-true (length s) (d.at + w) y, length-drop (d.at + w) s, ap length f))
      by (a ∷ z) f false y r needs = r

      go : (m : Mode) → m ≡ mode → target ≡ Reading.behind_eof mode o d.at (d.nth + 1) (d.at + w) (drop (d.at + w) s) → needs_of o ≡ d.needs
          → TurnOk mode s target o d (closing m (d.nth + 1) (d.at + w) (length s))
      go Loose q r needs = (r ∙ rw (← q), needs)
      go Former q r needs = (r ∙ rw (← q), needs)
      go Exact q r needs = by (drop (d.at + w) s) refl (leb (length s) (d.at + w)) refl (r ∙ rw (← q)) needs

  -- what a turn gives is what the walk over the file gives
  pub turn-ok : TurnOk mode s target o d (turn_of mode s d)
  unfolding turn_of
  turn-ok = by (one_of mode d.state size.n bytes) refl (one-view mode d.state size.n bytes)
    where
      by : (w : Result One Refusal) → one_of mode d.state size.n bytes ≡ w → OneView mode d.state size.n bytes w → TurnOk mode s target o d (turned mode d (length s) size.width w)
      by (Ok (One.Go st t len w)) e v = moved st t len w e v
      by (Err m) e v = target_is mode s target o d h ∙ rw e
      by (Ok (One.End w)) e v = closed mode w refl e v
