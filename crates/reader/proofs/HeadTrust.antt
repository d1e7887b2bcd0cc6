-- The reals of a row's head stand in their usual form where the file was judged; and what the functions by kind read is a head. Assumes nothing.
use mathlib.Core.Path.{◌≡◌, refl, sym, ◌∙◌, ap, subst}
use mathlib.Core.Bool.{Bool, true}
use mathlib.Core.List.{List, []}
use Prim.Native.Nat.{ℕ, zero, suc, ◌+◌, ◌*◌, ◌/◌, ◌≤◌, ◌<◌}
use native.Mathlib.Omega.{arith}
use lib.ListN.{length}
use Rattle.machine.specs.Machine.{Step}
use Rattle.record.specs.declared.Line.{Line}
use Rattle.std.specs.Prelude.{Option, Some, None, Ok, IfSome}
use Rattle.record.specs.declared.Mode.{Mode}
use Rattle.record.specs.Record.{is_exact}
use Rattle.token.specs.declared.Want.TheVariants.{Int, Real}
use Rattle.quick.specs.Seen.{RealAt, IntegerAt, UsualAt, Usual}
use Rattle.kinds.specs.Kinds.{row_width, want_at, next_of, next_in, schedule}
use Rattle.machine.specs.Machine.{want_of, field_of, step_of}
use Rattle.machine.specs.declared.State.{State}
use Rattle.machine.specs.declared.State.TheVariants.{Field}
use Rattle.reader.specs.Turn.{still, on}
use Rattle.reader.specs.Trust.{Sure, Vouched}
use Rattle.reader.specs.Heads.{KeySays, LeadAt, CountsAt, CodeGoes, Countable, PointAt, PointsAt, HeadAt, HeadRead}
use Rattle.reader.specs.declared.ReadStand.{ReadStand}
use Rattle.reader.specs.declared.RowHead.{RowHead}
use Rattle.reader.specs.declared.TwoPoints.{TwoPoints}
use Rattle.reader.proofs.Trusted.{sure-on, sure-real}
use Rattle.reader.proofs.HeadTurns.{puts-turns, key-far, lead-far, int-far, code-sign, code-mark, border-head, note-head, sign-head, mark-head}

-- ---- reals one behind the other

usual-none : (mode : Mode) (s : List ℕ) (at : ℕ) → Usual mode s at 14 0
usual-none mode s at = record { inside = λ h. omega (arith, h); each = λ j l. absurd (omega arith) }

usual-more : (mode : Mode) (s : List ℕ) (at n : ℕ) → at + 14 ≤ length s → UsualAt mode s at 14 → Usual mode s (at + 14) 14 n → Usual mode s at 14 (suc n)
usual-more mode s at n w a u = record { inside = λ _. omega (arith, u.inside w); each = by }
  where
    by : (j : ℕ) → j < suc n → UsualAt mode s (at + 14 * j) 14
    by zero h = let z : at ≡ at + 14 * 0 = omega arith in subst (λ (x : ℕ). UsualAt mode s x 14) z a
    by (suc j) h =
        let z : at + 14 + 14 * j ≡ at + 14 * suc j = omega arith in
        subst (λ (x : ℕ). UsualAt mode s x 14) z (u.each j (omega arith))

-- a record's bytes are what they are
usual-width : {mode : Mode} {s : List ℕ} {at w v : ℕ} → UsualAt mode s at 14 → RealAt mode s at w v → w ≡ 14
usual-width {w = w} u r =
    let e = sym r.line ∙ u.line in
    let q : ◌≡◌ {A = Line} (record { len = r.len; width = w }) (record { len = 12; width = 14 }) = cc in
    ap (λ (x : Line). x.width) q

go-is : (a b : State) → ◌≡◌ {A = Step} (Ok (Some a)) (Ok (Some b)) → a ≡ b
go-is a b e = cc

-- ---- the fields of a row, from a stand on from which no turn is refused

module _ (mode : Mode) (s : List ℕ) (x : is_exact mode ≡ true) where
  -- at a field's place
  record At (kind p at : ℕ) : Type 0 where
    pub d : ReadStand
    pub state-is : d.state ≡ Field kind p 0
    pub at-is : d.at ≡ at
    pub sure : Sure mode s d

  -- a real there
  record Real-there (at : ℕ) : Type 0 where
    pub usual : UsualAt mode s at 14
    pub inside : at + 14 ≤ length s

  real-there : {kind p at : ℕ} → want_at p ≡ Real → At kind p at → Real-there at
  unfolding want_of
  real-there {kind} {p} {at} w h =
      let r = sure-real mode s h.d h.sure x (ap want_of h.state-is ∙ w) in
      record { usual = subst (λ (n : ℕ). UsualAt mode s n 14) h.at-is r.usual; inside = omega (arith, r.inside, h.at-is) }

  -- and the field behind it
  real-past : {kind p at : ℕ} (q : ℕ) → want_at p ≡ Real → ((n : ℕ) → field_of mode kind p 0 n ≡ Ok (Some (Field kind q 0))) → At kind p at → At kind q (at + 14)
  unfolding want_of step_of
  real-past {kind} {p} {at} q w g h =
      let r = sure-real mode s h.d h.sure x (ap want_of h.state-is ∙ w) in
      let e : field_of mode kind p 0 r.t ≡ Ok (Some r.to.state) = subst (λ (y : State). step_of mode y r.t r.next ≡ Ok (Some r.to.state)) h.state-is r.steps in
      record {
        d = r.to;
        state-is = sym (go-is (Field kind q 0) r.to.state (sym (g r.t) ∙ e));
        at-is = r.there ∙ ap (λ (n : ℕ). n + 14) h.at-is;
        sure = sure-on h.sure (on still r.turn);
      }

  one-real : {kind p at n : ℕ} (q : ℕ) → want_at p ≡ Real → ((n : ℕ) → field_of mode kind p 0 n ≡ Ok (Some (Field kind q 0))) → (At kind q (at + 14) → Usual mode s (at + 14) 14 n) → At kind p at
      → Usual mode s at 14 (suc n)
  one-real {kind} {p} {at} {n} q w g u h =
      let r = real-there w h in
      usual-more mode s at n r.inside r.usual (u (real-past q w g h))

  last-real : {kind p at : ℕ} → want_at p ≡ Real → At kind p at → Usual mode s at 14 1
  last-real {kind} {p} {at} w h = let r = real-there w h in usual-more mode s at 0 r.inside r.usual (usual-none mode s (at + 14))

  -- a point, and two
  point-there : {kind at : ℕ} → ((n : ℕ) → field_of mode kind 5 0 n ≡ Ok (Some (Field kind 6 0))) → At kind 5 at → Usual mode s at 14 2
  unfolding want_at
  point-there g h = one-real 6 refl g (last-real refl) h

  points-there : {kind at : ℕ} → ((n : ℕ) → field_of mode kind 5 0 n ≡ Ok (Some (Field kind 6 0))) → ((n : ℕ) → field_of mode kind 6 0 n ≡ Ok (Some (Field kind 7 0))) → ((n : ℕ) → field_of mode kind 7 0 n ≡ Ok (Some (Field kind 8 0)))
      → At kind 5 at → Usual mode s at 14 4
  unfolding want_at
  points-there g g' g'' h = one-real 6 refl g (one-real 7 refl g' (one-real 8 refl g'' (last-real refl))) h

-- an angle, and n reals behind it
pub record Angled (mode : Mode) (s : List ℕ) (at n : ℕ) : Type 0 where
  pub angle : Usual mode s at 14 1
  pub points : {w v : ℕ} → RealAt mode s at w v → Usual mode s (at + w) 14 n

angled : {mode : Mode} {s : List ℕ} {at n : ℕ} → Usual mode s at 14 1 → Usual mode s (at + 14) 14 n → Angled mode s at n
angled {mode} {s} {at} {n} a p =
    let z : at + 14 * 0 ≡ at = omega arith in
    let u : UsualAt mode s at 14 = subst (λ (y : ℕ). UsualAt mode s y 14) z (a.each 0 (omega arith)) in
    record { angle = a; points = λ {w} {v} r. rw (usual-width u r) p }

-- ---- by kind: from a keyword that is due on

module _ (mode : Mode) (s : List ℕ) (at w t : ℕ) (key : KeySays mode s at w t) (judged : Bool) (vouched : Vouched mode s at judged) (b : judged ≡ true) (x : is_exact mode ≡ true) where
  -- behind letters and a number
  lead-past : {n m j : ℕ} (kind p q : ℕ) → t / 2 ≡ kind → 1 ≤ kind → next_of kind 0 ≡ 9 → LeadAt mode s (at + w) n m j → field_of mode kind 9 0 n ≡ Ok (Some (Field kind p 0)) → want_at p ≡ Int → p < row_width
      → field_of mode kind p 0 m ≡ Ok (Some (Field kind q 0)) → At mode s x kind q j
  lead-past {n} {m} {j} kind p q e h o lead g i l g' =
      let v = vouched b in
      let d = v.d in
      let f = lead-far mode s d [] [] [] [] p lead g i l (Field kind q 0) g' (key-far mode s d [] [] [] [] at w t key v.due v.here kind 9 e h o (omega arith)) in
      record { d = _; state-is = refl; at-is = refl; sure = sure-on v.sure (puts-turns f.puts) }

  pub border-trust : {n m j : ℕ} → t / 2 ≡ 1 → LeadAt mode s (at + w) n m j → Angled mode s j 4
  unfolding want_at field_of next_of next_in schedule
  border-trust kind lead =
      let h = lead-past 1 3 4 kind (omega arith) refl lead refl refl (omega arith) refl in
      angled (last-real mode s x refl h) (points-there mode s x (λ _. refl) (λ _. refl) (λ _. refl) (real-past mode s x 5 refl (λ _. refl) h))

  pub note-trust : {n m j : ℕ} → t / 2 ≡ 2 → LeadAt mode s (at + w) n m j → Angled mode s j 2
  unfolding want_at field_of next_of next_in schedule
  note-trust kind lead =
      let h = lead-past 2 3 4 kind (omega arith) refl lead refl refl (omega arith) refl in
      angled (last-real mode s x refl h) (point-there mode s x (λ _. refl) (real-past mode s x 5 refl (λ _. refl) h))

  pub sign-trust : {m mw : ℕ} → t / 2 ≡ 3 → IntegerAt mode s (at + w) mw m → CodeGoes mode 3 m → Angled mode s (at + w + mw) 2
  unfolding want_at field_of next_of next_in schedule
  sign-trust {m} {mw} kind code goes =
      let v = vouched b in
      let d = v.d in
      let f = int-far mode s d [] [] [] [] {q = 2} refl refl (omega arith) code (Field 3 4 0) (code-sign mode m goes) (key-far mode s d [] [] [] [] at w t key v.due v.here 3 2 kind (omega arith) refl (omega arith)) in
      let h : At mode s x 3 4 (at + w + mw) = record { d = _; state-is = refl; at-is = refl; sure = sure-on v.sure (puts-turns f.puts) } in
      angled (last-real mode s x refl h) (point-there mode s x (λ _. refl) (real-past mode s x 5 refl (λ _. refl) h))

  pub mark-trust : {n m j : ℕ} → t / 2 ≡ 4 → LeadAt mode s (at + w) n m j → CodeGoes mode 4 m → Usual mode s j 14 4
  unfolding want_at field_of next_of next_in schedule
  mark-trust {n} {m} kind lead goes =
      points-there mode s x (λ _. refl) (λ _. refl) (λ _. refl) (lead-past 4 2 5 kind (omega arith) refl lead refl refl (omega arith) (code-mark mode m goes))

-- ---- what is read of a head

module _ (mode : Mode) (s : List ℕ) (at w t : ℕ) (key : KeySays mode s at w t) (judged : Bool) where
  pub border-read : {n m j angle aw i v next : ℕ} {p : TwoPoints} → t / 2 ≡ 1 → LeadAt mode s (at + w) n m j → RealAt mode s j aw angle → PointsAt mode s (j + aw) judged p → CountsAt mode s p.next i v next → Countable 1 i v
      → HeadRead mode s at judged (record { token = t; letters = n; word = at + w; number = m; angle = angle; x = p.x; y = p.y; x2 = p.x2; y2 = p.y2; islands = i; vertices = v; records = 10; next = next })
  border-read {n} {m} {j} {angle} {aw} {i} {v} {next} {p} kind lead real points counts goes =
      record {
        fx = points.fx;
        fy = points.fy;
        fx2 = points.fx2;
        fy2 = points.fy2;
        head = border-head mode s at w t key n m j angle aw points.fx points.fy points.mid points.fx2 points.fy2 p.next i v next kind lead real points.first points.second counts goes;
        same = λ b. let q = points.same b in rw (q.0, q.1, q.2, q.3);
      }

  pub note-read : {n m j angle aw x y next : ℕ} → t / 2 ≡ 2 → LeadAt mode s (at + w) n m j → RealAt mode s j aw angle → PointAt mode s (j + aw) judged x y next
      → HeadRead mode s at judged (record { token = t; letters = n; word = at + w; number = m; angle = angle; x = x; y = y; x2 = 0; y2 = 0; islands = 0; vertices = 0; records = 6; next = next })
  note-read {n} {m} {j} {angle} {aw} {x} {y} {next} kind lead real point =
      record {
        fx = point.fx;
        fy = point.fy;
        fx2 = 0;
        fy2 = 0;
        head = note-head mode s at w t key n m j angle aw point.fx point.fy next kind lead real point.first;
        same = λ b. let q = point.same b in rw (q.0, q.1);
      }

  pub sign_read : {m mw angle aw x y next : ℕ} → t / 2 ≡ 3 → IntegerAt mode s (at + w) mw m → CodeGoes mode 3 m → RealAt mode s (at + w + mw) aw angle → PointAt mode s (at + w + mw + aw) judged x y next
      → HeadRead mode s at judged (record { token = t; letters = 0; word = 0; number = m; angle = angle; x = x; y = y; x2 = 0; y2 = 0; islands = 0; vertices = 0; records = 5; next = next })
  sign_read {m} {mw} {angle} {aw} {x} {y} {next} kind code goes real point =
      record {
        fx = point.fx;
        fy = point.fy;
        fx2 = 0;
        fy2 = 0;
        head = sign-head mode s at w t key m mw angle aw point.fx point.fy next kind code goes real point.first;
        same = λ b. let q = point.same b in rw (q.0, q.1);
      }

  pub mark-read : {n m j : ℕ} {p : TwoPoints} → t / 2 ≡ 4 → LeadAt mode s (at + w) n m j → CodeGoes mode 4 m → PointsAt mode s j judged p
      → HeadRead mode s at judged (record { token = t; letters = n; word = at + w; number = m; angle = 0; x = p.x; y = p.y; x2 = p.x2; y2 = p.y2; islands = 0; vertices = 0; records = 7; next = p.next })
  mark-read {n} {m} {j} {p} kind lead goes points =
      record {
        fx = points.fx;
        fy = points.fy;
        fx2 = points.fx2;
        fy2 = points.fy2;
        head = mark-head mode s at w t key n m j points.fx points.fy points.mid points.fx2 points.fy2 p.next kind lead goes points.first points.second;
        same = λ b. let q = points.same b in rw (q.0, q.1, q.2, q.3);
      }

-- a head without points
pub own_read : (mode : Mode) (s : List ℕ) (at : ℕ) (judged : Bool) (o : Option RowHead) → IfSome o (λ h. HeadAt mode s at h) → IfSome o (λ h. HeadRead mode s at judged h)
own_read mode s at judged (Some h) e = record { fx = h.x; fy = h.y; fx2 = h.x2; fy2 = h.y2; head = e; same = λ _. refl }
own_read mode s at judged None e = tt
