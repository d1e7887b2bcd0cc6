-- The records between two keywords are one section's, so what the machine goes on by is well made rows, one after the other. Assumes nothing.
use mathlib.Core.Path.{◌≡◌, refl, sym, ◌∙◌, ap, subst}
use mathlib.Core.List.{List, [], ◌++◌, append_assoc}
use Prim.Native.Nat.{ℕ, suc, ◌%◌}
use native.Mathlib.Omega.{arith}
use lib.ListN.{length, length-append}
use Rattle.std.specs.Prelude.{Some, Ok}
use Rattle.record.specs.declared.Mode.{Mode}
use Rattle.machine.specs.Machine.{want_of, step_of}
use Rattle.machine.specs.declared.State.{State}
use Rattle.machine.specs.declared.State.TheVariants.{Due, Field, Island, X, Y}
use Rattle.sheet.specs.Tables.{Tables, empty, ◌followed◌, put, ring_after}
use Rattle.sheet.proofs.Okay.{Okay, go-okay, ring-join, put-join}
use Rattle.sheet.proofs.StartLaws.{followed-empty, empty-followed, followed-assoc}
use Rattle.sheet.proofs.Whole.{Whole, go-whole, empty-whole}
use Rattle.sheet.proofs.Pass.{Goes, Pass, done, more}
use Rattle.layout.proofs.TokenSays.{int-says, real-says}
use Rattle.layout.proofs.Tails.{Tail, Known, StepTail}
use Rattle.layout.proofs.RingTails.{x-tail, y-tail, island-tail}
use Rattle.layout.proofs.FieldTails.{field-tail}
use Rattle.layout.proofs.MadeRows.{MadeRow, MadeRows, key-tail, no_rows, one_more}

-- the section at work ends as `now`, and whole sections follow it
pub record Rest (mode : Mode) (st : State) (w part : Tables) (bs : List ℕ) (T : Tables) : Type 0 where
  pub now : Tables
  pub cs : List ℕ
  pub tail : Tail mode st part now cs
  pub count : ℕ
  pub rows : Tables
  pub rest : List ℕ
  pub made : MadeRows mode count rows rest
  pub tables : T ≡ w followed (now followed rows)
  pub split : bs ≡ cs ++ rest

-- a record, and those behind it
line-split : (c e cs rest bs : List ℕ) → bs ≡ cs ++ rest → c ++ (e ++ bs) ≡ c ++ (e ++ cs) ++ rest
line-split c e cs rest bs q = rw q (simp append_assoc)

module _ (mode : Mode) (o T : Tables) (t : ℕ) (c e bs : List ℕ) (st₁ : State) where
  -- what the records behind this one make
  abbrev Rec : State → Type 0
  Rec st = (w part : Tables) → put st t c o ≡ w followed part → length w.points % 2 ≡ 0 → Okay st₁ part → Whole st₁ part → Known st₁ part → Rest mode st₁ w part bs T

  on : (st : State) (w part part₁ : Tables) → ((now : Tables) (cs : List ℕ) → Tail mode st₁ part₁ now cs → Tail mode st part now (c ++ (e ++ cs)))
      → Rest mode st₁ w part₁ bs T → Rest mode st w part (c ++ (e ++ bs)) T
  on st w part part₁ f r = record {
    now = r.now;
    cs = c ++ (e ++ r.cs);
    tail = f r.now r.cs r.tail;
    count = r.count;
    rows = r.rows;
    rest = r.rest;
    made = r.made;
    tables = r.tables;
    split = line-split c e r.cs r.rest bs r.split;
  }

  -- a record inside a section
  inside : (st : State) (w part : Tables) → o ≡ w followed part → length w.points % 2 ≡ 0 → Okay st part → Whole st part → Goes mode st (ring_after st o) c e t st₁
      → StepTail mode (put st t c part) (λ now cs. Tail mode st part now (c ++ (e ++ cs))) (step_of mode st t (ring_after st o)) → Rec st → Rest mode st w part (c ++ (e ++ bs)) T
  inside st w part q v h x g f rec =
      let s : StepTail mode (put st t c part) (λ now cs. Tail mode st part now (c ++ (e ++ cs))) (Ok (Some st₁)) = rw g.steps at f in
      on st w part (put st t c part) s.1
      (rec w (put st t c part) (ap (put st t c) q ∙ put-join st t c w part v h x.rows) v (go-okay mode st st₁ t (ring_after st o) c part h g.steps)
      (go-whole mode st st₁ t (ring_after st o) c part x g.steps) s.0)

  anew : (w part part₁ : Tables) → length w.points % 2 ≡ 0 → Whole Due part → ((now : Tables) (cs : List ℕ) → Tail mode st₁ part₁ now cs → MadeRow mode now (c ++ (e ++ cs)))
      → Rest mode st₁ (w followed part) part₁ bs T → Rest mode Due w part (c ++ (e ++ bs)) T
  anew w part part₁ v x f r = record {
    now = part;
    cs = [];
    tail = (refl, refl);
    count = suc r.count;
    rows = r.now followed r.rows;
    rest = c ++ (e ++ bs);
    made = rw (line-split c e r.cs r.rest bs r.split) (one_more mode r.now r.rows (c ++ (e ++ r.cs)) (f r.now r.cs r.tail) r.count r.rest r.made);
    tables = r.tables ∙ followed-assoc w part (r.now followed r.rows) v x.rows;
    split = refl;
  }

  -- a keyword's record, which begins one
  between : (w part : Tables) → o ≡ w followed part → length w.points % 2 ≡ 0 → Whole Due part → Goes mode Due (ring_after Due o) c e t st₁ → Rec Due → Rest mode Due w part (c ++ (e ++ bs)) T
  unfolding step_of want_of
  between w part q v x g rec =
      let s : StepTail mode (put Due t c empty) (λ now cs. MadeRow mode now (c ++ (e ++ cs))) (Ok (Some st₁)) = rw g.steps at (key-tail mode c e t g.end g.says) in
      let even : length (w followed part).points % 2 ≡ 0 = omega (arith, length-append w.points part.points, x.points) in
      anew w part (put Due t c empty) v x s.1
      (rec (w followed part) (put Due t c empty) (ap (put Due t c) (q ∙ sym (followed-empty (w followed part))) ∙ put-join Due t c (w followed part) empty even tt refl) even
      (go-okay mode Due st₁ t (ring_after Due o) c empty tt g.steps) (go-whole mode Due st₁ t (ring_after Due o) c empty empty-whole g.steps) s.0)

  by_state : (st : State) (w part : Tables) → o ≡ w followed part → length w.points % 2 ≡ 0 → Okay st part → Whole st part → Known st part → Goes mode st (ring_after st o) c e t st₁ → Rec st → Rest mode st w part (c ++ (e ++ bs)) T
  unfolding step_of want_of put ring_after
  by_state Due w part q v h x k g rec = between w part q v x g rec
  by_state (Field kind p i) w part q v h x k g rec = inside (Field kind p i) w part q v h x g (field-tail mode c e t g.end kind p i part g.good g.most g.says k) rec
  by_state (Island l s r) w part q v h x k g rec = inside (Island l s r) w part q v h x g (island-tail mode c e t g.end l s r part k (int-says mode c t g.says)) rec
  by_state (X r) w part q v h x k g rec =
      inside (X r) w part q v h x g
      (record { some = k.some; all_in = k.all_in; four = k.four }, λ now cs w. x-tail mode c e t g.end r part now cs (real-says mode c t g.says) w) rec
  by_state (Y r x) w part q v h z k g rec =
      inside (Y r x) w part q v h z g
      (y-tail mode c e x t (ring_after (Y r x) o) g.end r part k (real-says mode c t g.says) (ap (ring_after (Y r x)) q ∙ ring-join (Y r x) w part h)) rec

pass-rest : {mode : Mode} {st st' : State} {o T : Tables} {bs : List ℕ} → Pass mode st o bs st' T → st' ≡ Due → (w part : Tables) → o ≡ w followed part → length w.points % 2 ≡ 0 → Okay st part → Whole st part → Known st part
    → Rest mode st w part bs T
pass-rest {mode} {o = o} done d w part q v h x k =
    subst (λ (x : State). Rest mode x w part [] o) (sym d)
    (record { now = part; cs = []; tail = (refl, refl); count = 0; rows = empty; rest = []; made = no_rows mode; tables = q ∙ ap (λ (x : Tables). w followed x) (sym (followed-empty part)); split = refl })
pass-rest {mode} {st} {T = T} (more {st₁ = st₁} {o = o} {t = t} {c = c} {e = e} {bs = bs} g p) d w part q v h x k =
    by_state mode o T t c e bs st₁ st w part q v h x k g (λ w₁ part₁ q₁ v₁ h₁ x₁ k₁. pass-rest p d w₁ part₁ q₁ v₁ h₁ x₁ k₁)

rest-rows : {mode : Mode} {o : Tables} {bs : List ℕ} → Rest mode Due empty empty bs o → (n : ℕ) × MadeRows mode n o bs
rest-rows r =
    let a : _ ≡ r.rows = r.tables ∙ empty-followed (r.now followed r.rows) ∙ ap (λ (x : Tables). x followed r.rows) r.tail.0 ∙ empty-followed r.rows in
    let b : _ ≡ r.rest = r.split ∙ rw r.tail.1 in
    (r.count, rw (a, b) r.made)

-- what the machine goes on by from keyword to keyword is well made rows
pub pass-rows : {mode : Mode} {o : Tables} {bs : List ℕ} → Pass mode Due empty bs Due o → (n : ℕ) × MadeRows mode n o bs
pass-rows p = rest-rows (pass-rest p refl empty empty (sym (followed-empty empty)) refl tt empty-whole tt)
