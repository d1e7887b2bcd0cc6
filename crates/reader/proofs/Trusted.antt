-- What the first pass of exact mode has judged fine stands in its usual form: the second pass need not judge it again. Assumes nothing.
use Rattle.record.specs.declared.refusal.Refusal.TheVariants as Refusal
use Rattle.machine.specs.Machine.{Step}
use Rattle.std.specs.Prelude.{Option, Some, None, Result, Ok, Err}
use Rattle.record.specs.declared.refusal.Refusal.{Refusal}
use Rattle.reader.specs.Turn.{onward}
use mathlib.Core.Path.{◌≡◌, refl, sym, ◌∙◌, ap, subst}
use mathlib.Core.List.{List}
use mathlib.Core.Bool.{Bool, true, false, cond, not, ◌&&◌}
use Prim.Native.Nat.{ℕ, zero, suc, ◌+◌, ◌-◌, ◌*◌, ◌≤◌, ◌<◌}
use native.Mathlib.Omega.{arith}
use lib.ListN.{length, take, drop, length-drop}
use lib.Dec.{eqb}
use lib.IntN.{ℤ}
use borrow.Author.Tests.{eqb-true, lt-leb}
use Rattle.laws.specs.Lists.{run}
use Rattle.laws.proofs.Choice.{and_left, and_right, cond-first, false≢true, true≢false}
use Rattle.record.specs.declared.Mode.{Mode}
use Rattle.record.specs.declared.Mode.TheVariants.{Loose, Exact, Former}
use Rattle.record.specs.Record.{is_exact}
use Rattle.record.specs.RecordView.{LineEnd, crlf, lf}
use Rattle.number.specs.Words.{unled}
use Rattle.number.specs.Number.{digit, ended, sign_of, signs, signed, thousandths, lean, is_token, is_neat, real_is, real_at, real_signed, real_of}
use Rattle.token.specs.Lex.{of_decimal, lex_of}
use Rattle.token.specs.declared.Want.{Want}
use Rattle.token.specs.declared.Want.TheVariants.{Real}
use Rattle.machine.specs.Machine.{want_of, is_due, ring_step, vertex_of, step_of, one_of}
use Rattle.machine.specs.declared.Ring.{Ring}
use Rattle.machine.specs.declared.State.{State}
use Rattle.machine.specs.declared.State.TheVariants.{Due, Field, Island, X, Y}
use Rattle.machine.specs.declared.One.{One}
use Rattle.quick.specs.Seen.{UsualAt, Usual}
use Rattle.sheet.specs.Tables.{Tables}
use Rattle.sheet.specs.Reading.{Sections, stop}
use Rattle.reader.specs.Turn.{isl_next, added, size_next, turn_of, Turns, still, on}
use Rattle.reader.specs.Store.{Room}
use Rattle.reader.specs.Trust.{Sure}
use Rattle.reader.specs.declared.ReadStand.{ReadStand}
use Rattle.reader.specs.declared.Size.{Size}
use Rattle.reader.proofs.Standing.{At, TurnOk, turn-ok}
use Rattle.reader.proofs.Running.{turns-reach, turns-join}
use Rattle.reader.proofs.Filled.{Filled}
use Rattle.sheet.proofs.Pass.{Went, OneView, one-view}

-- ---- a real of exact mode has 12 characters, and its record 14 bytes

no-decimal : (z : ℤ) → None ≡ Some z → ⊥
no-decimal z e = let w : ◌≡◌ {A = ℕ} 0 1 = cc in omega arith

no-say : (m : Refusal) (t : ℕ) → ◌≡◌ {A = Result ℕ Refusal} (Err m) (Ok t) → ⊥
no-say m t e = let w : ◌≡◌ {A = ℕ} 0 1 = cc in omega arith

first_of : (a b c d e : Bool) → (a && b && c && d && e) ≡ true → a ≡ true
first_of a b c d e q = and_left a b (and_left (a && b) c (and_left (a && b && c) d (and_left (a && b && c && d) e q)))

neat-twelve : (size sign : ℕ) (u : List ℕ) (n : ℕ) → is_neat size sign u n ≡ true → size ≡ 12
unfolding is_neat
neat-twelve size sign u n e =
    eqb-true size 12 (first_of (eqb size 12) (eqb (length u) (n + 4)) (not (eqb sign 43)) (not (eqb sign 45 && eqb (thousandths u n) 0)) (lean u n) e)

real-twelve : (c : List ℕ) (z : ℤ) → real_of Exact c ≡ Some z → length c ≡ 12
unfolding real_of real_signed real_at real_is
real-twelve c z h =
    let sign = sign_of (unled c) in
    let u = drop (signs sign) (unled c) in
    let n = run digit u in
    let most = is_token sign u n && ended Exact (drop (n + 4) u) in
    let neat = is_neat (length c) sign u n in
    let w = cond-first (most && neat) (Some (signed sign (thousandths u n))) None (Some z) (no-decimal z) h in
    neat-twelve (length c) sign u n (and_right most neat w.0)

record Twelve (c : List ℕ) : Type 0 where
  pub size : length c ≡ 12
  pub z : ℤ
  pub real : real_of Exact c ≡ Some z

says-twelve : (c : List ℕ) (t : ℕ) → lex_of Exact Real c ≡ Ok t → Twelve c
unfolding lex_of
says-twelve c t e = go (real_of Exact c) refl e
  where
    go : (d : Option ℤ) → real_of Exact c ≡ d → of_decimal d ≡ Ok t → Twelve c
    go (Some z) q f = record { size = real-twelve c z q; z = z; real = q }
    go None q f = absurd (no-say Refusal.Number t f)

-- exact mode's line end
two_bytes : (e : List ℕ) → LineEnd Exact e → length e ≡ 2
two_bytes e (crlf q) = rw q
two_bytes e (lf m q) = absurd (true≢false m)

-- where a real is due no keyword is
pub not-due : (st : State) → want_of st ≡ Real → is_due st ≡ false
unfolding want_of
not-due Due e = absurd (let z : ◌≡◌ {A = ℕ} 0 1 = cc in omega arith)
not-due (Field kind p i) e = refl
not-due (Island l s r) e = refl
not-due (X r) e = refl
not-due (Y r x) e = refl

-- a real's record that the machine went on by
record Seen (s : List ℕ) (at len width : ℕ) : Type 0 where
  pub long : len ≡ 12
  pub wide : width ≡ 14
  pub usual : UsualAt Exact s at 14
  pub inside : at + 14 ≤ length s

went-seen : (s : List ℕ) (at : ℕ) (st st' : State) (next t len width : ℕ) → want_of st ≡ Real → Went Exact st next (drop at s) st' t len width → Seen s at len width
went-seen s at st st' next t len width w v =
    let c = take len (drop at s) in
    let r = says-twelve c t (rw w at v.goes.says) in
    let a : len ≡ 12 = sym v.line.counted ∙ r.size in
    let b : width ≡ 14 = omega (arith, a, v.wide, two_bytes v.e v.goes.end) in
    record {
      long = a;
      wide = b;
      usual = record { line = rw (not-due st w, a, b) at v.found; z = r.z; real = subst (λ (n : ℕ). real_of Exact (take n (drop at s)) ≡ Some r.z) a r.real };
      inside = omega (arith, length-drop at s, v.line.within, v.line.some, b);
    }

-- ---- record by record, over anything that a walk keeps

-- a real's record, and what is kept behind it
pub record RealStep (P : State → ℕ → Type 0) (s : List ℕ) (st : State) (at : ℕ) : Type 0 where
  pub usual : UsualAt Exact s at 14
  pub inside : at + 14 ≤ length s
  pub t : ℕ
  pub next : ℕ
  pub to : State
  pub steps : step_of Exact st t next ≡ Ok (Some to)
  pub then : P to (at + 14)

-- two more in front
two-more : (s : List ℕ) (at n : ℕ) → at + 14 + 14 ≤ length s → UsualAt Exact s at 14 → UsualAt Exact s (at + 14) 14 → Usual Exact s (at + 14 + 14) 14 (2 * n) → Usual Exact s at 14 (2 * suc n)
two-more s at n w a b u = record { inside = λ _. omega (arith, u.inside w); each = by }
  where
    by : (j : ℕ) → j < 2 * suc n → UsualAt Exact s (at + 14 * j) 14
    by zero h = let z : at ≡ at + 14 * 0 = omega arith in subst (λ (x : ℕ). UsualAt Exact s x 14) z a
    by (suc zero) h = let z : at + 14 ≡ at + 14 * 1 = omega arith in subst (λ (x : ℕ). UsualAt Exact s x 14) z b
    by (suc (suc j)) h =
        let z : at + 14 + 14 + 14 * j ≡ at + 14 * suc (suc j) = omega arith in
        subst (λ (x : ℕ). UsualAt Exact s x 14) z (u.each j (omega arith))

none-there : (s : List ℕ) (at : ℕ) → at ≤ length s → Usual Exact s at 14 (2 * 0)
none-there s at h = record { inside = λ _. omega arith; each = λ j l. absurd (omega arith) }

go-is : (a b : State) → ◌≡◌ {A = Step} (Ok (Some a)) (Ok (Some b)) → a ≡ b
go-is a b e = cc

-- a vertex: an x, and the step at its y
record Vertex (P : State → ℕ → Type 0) (s : List ℕ) (r : Ring) (at : ℕ) : Type 0 where
  pub x : ℕ
  pub usual-x : UsualAt Exact s at 14
  pub at_y : RealStep P s (Y r x) (at + 14)

abbrev ring_on : Ring → ℕ → ℕ → Ring
ring_on r x y = record { closed = r.closed; fresh = false; rings = r.rings; left = r.left - 1; fx = cond r.fresh x r.fx; fy = cond r.fresh y r.fy }

-- one that is not the last of its ring
vertex-next : (r : Ring) (x y next : ℕ) (to : State) → 1 < r.left → step_of Exact (Y r x) y next ≡ Ok (Some to) → to ≡ X (ring_on r x y)
unfolding step_of vertex_of ring_step
vertex-next r x y next to h e = sym (go-is _ to (rw (lt-leb r.left 1 h) at e))

module _ (P : State → ℕ → Type 0) (s : List ℕ) (step : (st : State) (at : ℕ) → want_of st ≡ Real → P st at → RealStep P s st at) where
  vertex-at : (r : Ring) (at : ℕ) → P (X r) at → Vertex P s r at
  unfolding want_of step_of
  vertex-at r at p =
      let a = step (X r) at refl p in
      let y : P (Y r a.t) (at + 14) = subst (λ (x : State). P x (at + 14)) (sym (go-is (Y r a.t) a.to a.steps)) a.then in
      record { x = a.t; usual-x = a.usual; at_y = step (Y r a.t) (at + 14) refl y }

  -- the vertices of a ring that are still to come
  pub ring-usual : (n : ℕ) (r : Ring) (at : ℕ) → r.left ≡ n → P (X r) at → Usual Exact s at 14 (2 * n)
  ring-usual zero r at q p = let v = vertex-at r at p in none-there s at (omega (arith, v.at_y.inside))
  ring-usual (suc zero) r at q p = let v = vertex-at r at p in two-more s at 0 v.at_y.inside v.usual-x v.at_y.usual (none-there s (at + 14 + 14) v.at_y.inside)
  ring-usual (suc (suc n)) r at q p =
      let v = vertex-at r at p in
      let b = v.at_y in
      let on : P (X (ring_on r v.x b.t)) (at + 14 + 14) = subst (λ (x : State). P x (at + 14 + 14)) (vertex-next r v.x b.t b.next b.to (omega arith) b.steps) b.then in
      two-more s at (suc n) b.inside v.usual-x b.usual (ring-usual (suc n) (ring_on r v.x b.t) (at + 14 + 14) (omega arith) on)

-- ---- a stand from which no turn is refused

pub sure-on : {mode : Mode} {s : List ℕ} {d e : ReadStand} → Sure mode s d → Turns mode s d e → Sure mode s e
sure-on h p = record { never = λ f q. h.never f (turns-join p q) }

-- sections that are read are not refused: the invariant of the second pass
pub at-sure : {mode : Mode} {s : List ℕ} {target : Sections} {o : Tables} {d : ReadStand} (rows letters islands points : ℕ) → Room target rows letters islands points → At mode s target o d → Sure mode s d
at-sure {mode} {s} {target} rows letters islands points room h =
    record {
      never = λ e p m k a q.
          let b = turns-reach h p in
          let z : target ≡ stop m k a = subst (TurnOk mode s target b.tables e) q (turn-ok mode s target b.tables e b.stands) in
          subst (λ (x : Sections). Room x rows letters islands points) z room;
    }

pub filled-sure : {mode : Mode} {s : List ℕ} {target : Sections} {rows₀ : List ℤ} {letters₀ islands₀ : List ℕ} {points₀ : List ℤ} {rows : List ℤ} {letters islands : List ℕ} {points : List ℤ} {d : ReadStand}
    → Room target (length rows₀) (length letters₀) (length islands₀) (length points₀)
    → Filled mode s target rows₀ letters₀ islands₀ points₀ rows letters islands points d → Sure mode s d
filled-sure {rows₀ = rows₀} {letters₀} {islands₀} {points₀} room h = at-sure (length rows₀) (length letters₀) (length islands₀) (length points₀) room h.stands

-- the turn at a real
pub record RealTurn (mode : Mode) (s : List ℕ) (d : ReadStand) : Type 0 where
  pub usual : UsualAt mode s d.at 14
  pub inside : d.at + 14 ≤ length s
  pub t : ℕ
  pub says : lex_of mode Real (take 12 (drop d.at s)) ≡ Ok t
  pub to : ReadStand
  pub turn : turn_of mode s d ≡ onward to t 12
  pub there : to.at ≡ d.at + 14
  pub next : ℕ
  pub steps : step_of mode d.state t next ≡ Ok (Some to.state)

module _ (s : List ℕ) (d : ReadStand) (h : Sure Exact s d) (w : want_of d.state ≡ Real) where
  abbrev size : Size
  size = size_next Exact d.state (drop d.ring s)

  abbrev bytes : List ℕ
  bytes = drop d.at s

  real-turn : RealTurn Exact s d
  unfolding turn_of
  real-turn = by (one_of Exact d.state size.n bytes) refl (one-view Exact d.state size.n bytes)
    where
      by : (x : Result One Refusal) → one_of Exact d.state size.n bytes ≡ x → OneView Exact d.state size.n bytes x → RealTurn Exact s d
      by (Ok (One.Go st t len width)) e v =
          let g = went-seen s d.at d.state st size.n t len width w v in
          let says : lex_of Exact Real (take len bytes) ≡ Ok t = subst (λ (x : Want). lex_of Exact x (take len bytes) ≡ Ok t) w v.goes.says in
          let to : ReadStand = record { state = st; at = d.at + width; nth = d.nth + 1; ring = isl_next d.state d.ring size.width (d.at + width); needs = added d.needs d.state t } in
          let turn : turn_of Exact s d ≡ onward to t len = rw e in
          record {
            usual = g.usual;
            inside = g.inside;
            t = t;
            says = subst (λ (n : ℕ). lex_of Exact Real (take n bytes) ≡ Ok t) g.long says;
            to = to;
            turn = subst (λ (n : ℕ). turn_of Exact s d ≡ onward to t n) g.long turn;
            there = ap (λ (n : ℕ). d.at + n) g.wide;
            next = size.n;
            steps = v.goes.steps;
          }
      by (Err m) e v = absurd (h.never d still m d.nth d.at (rw e))
      by (Ok (One.End width)) e v = absurd (true≢false (sym (ap is_due v.due) ∙ not-due d.state w))

-- a stand at a state and a place
record Stood (s : List ℕ) (st : State) (at : ℕ) : Type 0 where
  pub d : ReadStand
  pub state-is : d.state ≡ st
  pub at-is : d.at ≡ at
  pub sure : Sure Exact s d

stood-step : (s : List ℕ) (st : State) (at : ℕ) → want_of st ≡ Real → Stood s st at → RealStep (Stood s) s st at
stood-step s st at w p =
    let r = real-turn s p.d p.sure (ap want_of p.state-is ∙ w) in
    record {
      usual = subst (λ (n : ℕ). UsualAt Exact s n 14) p.at-is r.usual;
      inside = omega (arith, r.inside, p.at-is);
      t = r.t;
      next = r.next;
      to = r.to.state;
      steps = subst (λ (x : State). step_of Exact x r.t r.next ≡ Ok (Some r.to.state)) p.state-is r.steps;
      then = record { d = r.to; state-is = refl; at-is = r.there ∙ ap (λ (n : ℕ). n + 14) p.at-is; sure = sure-on p.sure (on still r.turn) };
    }

exact-is : (mode : Mode) → is_exact mode ≡ true → mode ≡ Exact
exact-is Loose e = absurd (false≢true e)
exact-is Exact e = refl
exact-is Former e = absurd (false≢true e)

module _ (mode : Mode) (s : List ℕ) (d : ReadStand) (h : Sure mode s d) (x : is_exact mode ≡ true) where
  -- the vertices of a ring that are still to come
  pub sure-usual : (r : Ring) → d.state ≡ X r → Usual mode s d.at 14 (2 * r.left)
  sure-usual r e =
      let m = exact-is mode x in
      let p : Stood s (X r) d.at = record { d = d; state-is = e; at-is = refl; sure = subst (λ (y : Mode). Sure y s d) m h } in
      subst (λ (y : Mode). Usual y s d.at 14 (2 * r.left)) (sym m) (ring-usual (Stood s) s (stood-step s) r.left r d.at refl p)

  -- a real of a row, or of a vertex
  pub sure-real : want_of d.state ≡ Real → RealTurn mode s d
  sure-real w =
      let m = exact-is mode x in
      subst (λ (y : Mode). RealTurn y s d) (sym m) (real-turn s d (subst (λ (y : Mode). Sure y s d) m h) w)
