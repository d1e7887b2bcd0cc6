-- What the machine goes on by, record by record, and the readings that it gives. Assumes nothing.
use mathlib.Core.Path.{◌≡◌, refl, ◌∙◌, ap, subst}
use mathlib.Core.List.{List, [], ◌∷◌, ◌++◌, append_assoc}
use mathlib.Core.Bool.{true, not, ◌&&◌}
use Prim.Native.Nat.{ℕ, zero, suc, ◌+◌, ◌*◌, ◌/◌, ◌≤◌, ◌<◌}
use native.Mathlib.Omega.{arith}
use lib.ListN.{length, take, drop, length-append}
use lib.Seq.{take-append_seam}
use lib.Dec.{leb, eqb}
use Rattle.std.specs.Prelude.{Some, None, Result, Ok, Err}
use Rattle.laws.specs.Lists.{run, kept, all, same}
use Rattle.laws.proofs.Choice.{cond-elim}
use Rattle.record.specs.declared.Mode.{Mode}
use Rattle.record.specs.declared.Mode.TheVariants.{Loose, Exact, Former}
use Rattle.record.specs.declared.Line.{Line}
use Rattle.record.specs.declared.refusal.Refusal.{Refusal}
use Rattle.record.specs.Record.{is_exact, plain, word_eof, got, line_of}
use Rattle.record.specs.RecordView.{LineEnd, crlf, lf, Ending, line_ended, bare, IsLine}
use Rattle.record.proofs.RecordLaws.{line_view, line-make}
use Rattle.number.specs.Words.{unled, trimmed, word_of}
use Rattle.header.proofs.HeadLaws.{past-line}
use Rattle.kinds.specs.Kinds.{next_of, fixed_vertices, is_listed}
use Rattle.token.specs.Lex.{key_of, lex_of}
use Rattle.machine.specs.Machine.{want_of, is_due, Step, vertices_of, fields_end, field_of, island_of, is_shut, ring_step, vertex_of, key_step, step_of, of_step, of_token, of_line, one_of}
use Rattle.sheet.specs.Tables.{Tables, put, ring_after}
use Rattle.sheet.specs.Reading.{Sections, read, stop, after, walk}
use Rattle.sheet.specs.Reading as Reading
use Rattle.token.specs.declared.Want.TheVariants.{Key}
use Rattle.machine.specs.declared.Ring.{Ring}
use Rattle.machine.specs.declared.State.{State}
use Rattle.machine.specs.declared.State.TheVariants.{Due, Field, Island, X, Y}
use Rattle.machine.specs.declared.One.{One}

-- ---- a record that the machine goes on by: a content, a line end, what it says, where that leads

pub record Goes (mode : Mode) (st : State) (next : ℕ) (c e : List ℕ) (t : ℕ) (st' : State) : Type 0 where
  pub good : all plain c ≡ true
  pub most : length c ≤ 255
  pub end : LineEnd mode e
  pub says : lex_of mode (want_of st) c ≡ Ok t
  pub steps : step_of mode st t next ≡ Ok (Some st')

-- the bytes are such records, one after the other
pub data Pass (mode : Mode) : State → Tables → List ℕ → State → Tables → Type 0 where
  done : {st : State} {o : Tables} → Pass mode st o [] st o
  more : {st st₁ st₂ : State} {o o₂ : Tables} {t : ℕ} {c e bs : List ℕ} → Goes mode st (ring_after st o) c e t st₁
      → Pass mode st₁ (put st t c o) bs st₂ o₂ → Pass mode st o (c ++ (e ++ bs)) st₂ o₂

pub one-go : {mode : Mode} {st st' : State} {next : ℕ} {c e : List ℕ} {t : ℕ} → Goes mode st next c e t st' → (rest : List ℕ)
    → one_of mode st next (c ++ (e ++ rest)) ≡ Ok (One.Go st' t (length c) (length c + length e))
unfolding one_of
one-go {mode} {st} {c = c} {e = e} g rest =
    simp (line-make mode (is_due st) c e rest g.good g.most g.end, take-append_seam c (e ++ rest), g.says, g.steps)

-- ---- only where a keyword is due does a file end

abbrev NoEnd : State → Step → Type 0
NoEnd st (Ok (Some st')) = Unit {0}
NoEnd st (Ok None) = st ≡ Due
NoEnd st (Err m) = Unit {0}

no-end-vertices : (st : State) (kind i n : ℕ) → NoEnd st (vertices_of kind i n)
unfolding vertices_of
no-end-vertices st kind i n =
    let Q = NoEnd st in
    cond-elim Q (eqb kind 1) _ _
    (λ _. cond-elim Q (leb (4 + 4 * i) n) _ _ (λ _. cond-elim Q (eqb i 0) _ _ (λ _. tt) (λ _. tt)) (λ _. tt))
    (λ _. cond-elim Q (leb 2 n) _ _ (λ _. tt) (λ _. tt))

no-end-fields : (st : State) (kind : ℕ) → NoEnd st (fields_end kind)
unfolding fields_end
no-end-fields st kind = cond-elim (NoEnd st) (eqb (fixed_vertices kind) 0) _ _ (λ _. tt) (λ _. no-end-vertices st kind 0 (fixed_vertices kind))

no-end-ring : (st : State) (r : Ring) (fx fy x y next : ℕ) → NoEnd st (ring_step r fx fy x y next)
unfolding ring_step
no-end-ring st r fx fy x y next =
    let Q = NoEnd st in
    cond-elim Q (leb r.left 1) _ _
    (λ _. cond-elim Q (is_shut r.closed fx fy x y) _ _ (λ _. cond-elim Q (eqb r.rings 0) _ _ (λ _. tt) (λ _. tt)) (λ _. tt))
    (λ _. tt)

no_end : (mode : Mode) (st : State) (t next : ℕ) → NoEnd st (step_of mode st t next)
unfolding step_of key_step field_of island_of vertex_of
no_end mode Due t next =
    cond-elim (NoEnd Due) (eqb t 0) _ _ (λ _. refl) (λ _. cond-elim (NoEnd Due) (eqb (next_of (t / 2) 0) 0) _ _ (λ _. tt) (λ _. tt))
no_end mode (Field kind p i) t next =
    let Q = NoEnd (Field kind p i) in
    cond-elim Q (eqb p 2 && is_exact mode && not (is_listed kind t)) _ _ (λ _. tt)
    (λ _. cond-elim Q (eqb p 11) _ _ (λ _. no-end-vertices (Field kind p i) kind i t)
    (λ _. cond-elim Q (eqb (next_of kind p) 0) _ _ (λ _. no-end-fields (Field kind p i) kind) (λ _. tt)))
no_end mode (Island l s r) t next =
    let Q = NoEnd (Island l s r) in
    cond-elim Q (leb 4 t && leb (t + 4) s) _ _ (λ _. cond-elim Q (leb l 1) _ _ (λ _. tt) (λ _. tt)) (λ _. tt)
no_end mode (X r) t next = tt
no_end mode (Y r x) t next = no-end-ring (Y r x) r _ _ x t next

end-due : (mode : Mode) (st : State) (t next : ℕ) → step_of mode st t next ≡ Ok None → st ≡ Due
end-due mode st t next e = subst (NoEnd st) e (no_end mode st t next)

-- ---- one record, by its bytes

-- a record that the machine went on by, at the front of the bytes
pub record Went (mode : Mode) (st : State) (next : ℕ) (bs : List ℕ) (st' : State) (t len width : ℕ) : Type 0 where
  pub e : List ℕ
  pub goes : Goes mode st next (take len bs) e t st'
  pub split : bs ≡ take len bs ++ (e ++ drop width bs)
  pub wide : width ≡ len + length e
  pub line : IsLine mode (is_due st) bs len width
  pub found : line_of mode (is_due st) bs ≡ got len width

-- the record that line_ended the file
pub record Ended (mode : Mode) (st : State) (next : ℕ) (bs : List ℕ) (width : ℕ) : Type 0 where
  pub due : st ≡ Due
  pub len : ℕ
  pub t : ℕ
  pub line : IsLine mode (is_due st) bs len width
  pub found : line_of mode (is_due st) bs ≡ got len width
  pub says : lex_of mode (want_of st) (take len bs) ≡ Ok t
  pub steps : step_of mode st t next ≡ Ok None

abbrev pub OneView : Mode → State → ℕ → List ℕ → Result One Refusal → Type 0
OneView mode st next bs (Ok (One.Go st' t len width)) = Went mode st next bs st' t len width
OneView mode st next bs (Ok (One.End width)) = Ended mode st next bs width
OneView mode st next bs (Err m) = Unit {0}

due-is : (st : State) → is_due st ≡ true → st ≡ Due
due-is Due e = refl
due-is (Field k p i) e = absurd cc
due-is (Island l s r) e = absurd cc
due-is (X r) e = absurd cc
due-is (Y r x) e = absurd cc

says-EOF : (mode : Mode) → lex_of mode Key word_eof ≡ Ok 0
unfolding lex_of word_of trimmed unled run kept key_of same
says-EOF Loose = refl
says-EOF Exact = refl
says-EOF Former = refl

-- `EOF` ends the file
bare_ends : (mode : Mode) (st : State) (next t : ℕ) → is_due st ≡ true → lex_of mode (want_of st) word_eof ≡ Ok t
    → (st' : State) → step_of mode st t next ≡ Ok (Some st') → ⊥
unfolding want_of step_of key_step
bare_ends mode st next t d e st' g =
    let s : st ≡ Due = due-is st d in
    let e₁ : lex_of mode Key word_eof ≡ Ok t = subst (λ (x : State). lex_of mode (want_of x) word_eof ≡ Ok t) s e in
    let t₀ : t ≡ 0 = cc (says-EOF mode) in
    let g₁ : key_step t ≡ Ok (Some st') = subst (λ (x : State). step_of mode x t next ≡ Ok (Some st')) s g in
    let g₂ : key_step 0 ≡ Ok (Some st') = subst (λ (n : ℕ). key_step n ≡ Ok (Some st')) t₀ g₁ in
    cc

module _ (mode : Mode) (st : State) (next : ℕ) (bs : List ℕ) where
  view-step : (len width : ℕ) → line_of mode (is_due st) bs ≡ got len width → IsLine mode (is_due st) bs len width → (t : ℕ) → lex_of mode (want_of st) (take len bs) ≡ Ok t
      → (s : Step) → step_of mode st t next ≡ s → OneView mode st next bs (of_step t len width s)
  view-step len width f l t q (Ok (Some st')) g = by l.ending
    where
      by : Ending mode (is_due st) bs len width → Went mode st next bs st' t len width
      by (line_ended e k d w) =
          record { e = e; goes = record { good = l.all_plain; most = omega (arith, l.counted, l.most); end = k; says = q; steps = g }; split = d; wide = w; line = l; found = f }
      by (bare m d q₁ l₁ w₁) =
          let c : take len bs ≡ word_eof = rw (l₁, q₁) in
          absurd (bare_ends mode st next t d (rw c at q) st' g)
  view-step len width f l t q (Err m) g = tt
  view-step len width f l t q (Ok None) g = record { due = end-due mode st t next g; len = len; t = t; line = l; found = f; says = q; steps = g }

  view-token : (len width : ℕ) → line_of mode (is_due st) bs ≡ got len width → IsLine mode (is_due st) bs len width → (k : Result ℕ Refusal) → lex_of mode (want_of st) (take len bs) ≡ k
      → OneView mode st next bs (of_token mode st next len width k)
  view-token len width f l (Ok t) q = view-step len width f l t q (step_of mode st t next) refl
  view-token len width f l (Err m) q = tt

  view-line : (l : Result Line Refusal) → line_of mode (is_due st) bs ≡ l → OneView mode st next bs (of_line mode st next bs l)
  view-line (Ok l) f = view-token l.len l.width f (line_view mode (is_due st) bs l.len l.width f) (lex_of mode (want_of st) (take l.len bs)) refl
  view-line (Err m) f = tt

  pub one-view : OneView mode st next bs (one_of mode st next bs)
  unfolding one_of
  one-view = view-line (line_of mode (is_due st) bs) refl

-- where a keyword is due no ring is at work, so its size does not matter
pub due-next : (mode : Mode) (a b : ℕ) (bs : List ℕ) → one_of mode Due a bs ≡ one_of mode Due b bs
unfolding one_of step_of
due-next mode a b bs = by-line (line_of mode true bs)
  where
    by_token : (len width : ℕ) (k : Result ℕ Refusal) → of_token mode Due a len width k ≡ of_token mode Due b len width k
    by_token len width (Ok t) = refl
    by_token len width (Err m) = refl

    by-line : (l : Result Line Refusal) → of_line mode Due a bs l ≡ of_line mode Due b bs l
    by-line (Ok l) = by_token l.len l.width (lex_of mode (want_of Due) (take l.len bs))
    by-line (Err m) = refl

-- ---- a reading of the sections, both ways

abbrev pub TailOk : Mode → List ℕ → Type 0
TailOk Exact rest = rest ≡ []
TailOk Loose rest = Unit {0}
TailOk Former rest = Unit {0}

-- the end of a file: its EOF record, and what may follow it
pub record IsEnd (mode : Mode) (z : List ℕ) : Type 0 where
  pub width : ℕ
  pub ends : one_of mode Due 0 z ≡ Ok (One.End width)
  pub ok : TailOk mode (drop width z)

-- the bytes, which stand at `a`, are records that the machine goes on by, and an end, which stands at `eof`
pub record Accepts (mode : Mode) (st : State) (o : Tables) (a : ℕ) (bs : List ℕ) (o' : Tables) (eof : ℕ) : Type 0 where
  pub body : List ℕ
  pub rest : List ℕ
  pub split : bs ≡ body ++ rest
  pub pass : Pass mode st o body Due o'
  pub end : IsEnd mode rest
  pub long : eof ≡ a + length body

stop≢read : {o : Tables} {m : Refusal} {k a eof : ℕ} → stop m k a ≡ read o eof → ⊥
stop≢read e = cc

ended-read : (mode : Mode) (o o' : Tables) (at eof k a : ℕ) (rest : List ℕ) → Reading.behind_eof mode o at k a rest ≡ read o' eof → (o ≡ o') × (at ≡ eof) × TailOk mode rest
ended-read Exact o o' at eof k a [] e = (cc, cc, refl)
ended-read Exact o o' at eof k a (b ∷ bs) e = absurd (stop≢read e)
ended-read Loose o o' at eof k a rest e = (cc, cc, tt)
ended-read Former o o' at eof k a rest e = (cc, cc, tt)

read-ended : (mode : Mode) (o : Tables) (at k a : ℕ) (rest : List ℕ) → TailOk mode rest → Reading.behind_eof mode o at k a rest ≡ read o at
read-ended Exact o at k a [] h = refl
read-ended Exact o at k a (b ∷ bs) h = absurd cc
read-ended Loose o at k a rest h = refl
read-ended Former o at k a rest h = refl

accepts-one : (mode : Mode) (st : State) (o o' : Tables) (k a eof : ℕ) (bs : List ℕ) (go : State → Tables → ℕ → List ℕ → Sections)
    → ((st₁ : State) (o₁ : Tables) (a₁ : ℕ) (bs₁ : List ℕ) → go st₁ o₁ a₁ bs₁ ≡ read o' eof → Accepts mode st₁ o₁ a₁ bs₁ o' eof)
    → (w : Result One Refusal) → one_of mode st (ring_after st o) bs ≡ w → OneView mode st (ring_after st o) bs w → after mode st o k a bs go w ≡ read o' eof → Accepts mode st o a bs o' eof
accepts-one mode st o o' k a eof bs go ih (Ok (One.Go st₁ t len width)) f v q =
    let r = ih st₁ (put st t (take len bs) o) (a + width) (drop width bs) q in
    record {
      body = take len bs ++ (v.e ++ r.body);
      rest = r.rest;
      split = v.split ∙ ap (λ (x : List ℕ). take len bs ++ (v.e ++ x)) r.split ∙ simp append_assoc;
      pass = more v.goes r.pass;
      end = r.end;
      long = omega (arith, r.long, v.wide, v.line.counted, length-append (take len bs) (v.e ++ r.body), length-append v.e r.body);
    }
accepts-one mode st o o' k a eof bs go ih (Err m) f v q = absurd (stop≢read q)
accepts-one mode st o o' k a eof bs go ih (Ok (One.End width)) f v q =
    let h = ended-read mode o o' a eof (k + 1) (a + width) (drop width bs) q in
    record {
      body = [];
      rest = bs;
      split = refl;
      pass = subst (λ (x : State). Pass mode st o [] x o') v.due (subst (λ (x : Tables). Pass mode st o [] st x) h.0 done);
      end = record {
        width = width;
        ends = due-next mode 0 (ring_after st o) bs ∙ subst (λ (x : State). one_of mode x (ring_after st o) bs ≡ Ok (One.End width)) v.due f;
        ok = h.2;
      };
      long = omega (arith, h.1);
    }

pub walk-accepts : (f : ℕ) (mode : Mode) (st : State) (o o' : Tables) (k a eof : ℕ) (bs : List ℕ) → walk f mode st o k a bs ≡ read o' eof → Accepts mode st o a bs o' eof
unfolding walk
walk-accepts zero mode st o o' k a eof bs e = absurd (stop≢read e)
walk-accepts (suc f) mode st o o' k a eof bs e =
    accepts-one mode st o o' k a eof bs (λ st₁ o₁ a₁ bs₁. walk f mode st₁ o₁ (k + 1) a₁ bs₁)
    (λ st₁ o₁ a₁ bs₁ e₁. walk-accepts f mode st₁ o₁ o' (k + 1) a₁ eof bs₁ e₁)
    (one_of mode st (ring_after st o) bs) refl (one-view mode st (ring_after st o) bs) e

pub walk-go : (f : ℕ) (mode : Mode) (st st' : State) (o : Tables) (k a t len width : ℕ) (bs : List ℕ) → one_of mode st (ring_after st o) bs ≡ Ok (One.Go st' t len width)
    → walk (suc f) mode st o k a bs ≡ walk f mode st' (put st t (take len bs) o) (k + 1) (a + width) (drop width bs)
unfolding walk
walk-go f mode st st' o k a t len width bs e = rw e

-- where a walk stands after records that the machine goes on by
pub record After (f : ℕ) (mode : Mode) (st : State) (o : Tables) (k a : ℕ) (bs : List ℕ) (st₁ : State) (o₁ : Tables) (at : ℕ) (z : List ℕ) : Type 0 where
  pub fuel : ℕ
  pub rec : ℕ
  pub same : walk f mode st o k a bs ≡ walk fuel mode st₁ o₁ rec at z
  pub enough : length z ≤ fuel

pub end-some : (mode : Mode) (e : List ℕ) → LineEnd mode e → 0 < length e
end-some mode e (crlf q) = rw q (omega arith)
end-some mode e (lf m q) = rw q (omega arith)

-- and after one more
one-on : {mode : Mode} {st stm st₁ : State} {o o₁ : Tables} {t : ℕ} {c e : List ℕ} → Goes mode st (ring_after st o) c e t stm → (f k a at : ℕ) (bs z : List ℕ)
    → After f mode stm (put st t c o) (k + 1) (a + (length c + length e)) (bs ++ z) st₁ o₁ at z → After (suc f) mode st o k a ((c ++ (e ++ bs)) ++ z) st₁ o₁ at z
one-on {mode} {st} {stm} {o = o} {t = t} {c} {e} g f k a at bs z r =
    let assoc : (c ++ (e ++ bs)) ++ z ≡ c ++ (e ++ (bs ++ z)) = simp append_assoc in
    record {
      fuel = r.fuel;
      rec = r.rec;
      enough = r.enough;
      same =
          rw (assoc, walk-go f mode st stm o k a t (length c) (length c + length e) (c ++ (e ++ (bs ++ z))) (one-go g (bs ++ z)))
          (rw (take-append_seam c (e ++ (bs ++ z)), past-line c e (bs ++ z)) r.same);
    }

pub pass-walk : {mode : Mode} {st st₁ : State} {o o₁ : Tables} {body : List ℕ} → Pass mode st o body st₁ o₁ → (z : List ℕ) (f k a at : ℕ) → length (body ++ z) ≤ f → at ≡ a + length body
    → After f mode st o k a (body ++ z) st₁ o₁ at z
pass-walk {mode} {st} {o = o} done z f k a at h q =
    record { fuel = f; rec = k; same = ap (λ (n : ℕ). walk f mode st o k n z) (let p : a ≡ at = omega arith in p); enough = h }
pass-walk (more {c = c} {e = e} {bs = bs} g p) z zero k a at h q =
    absurd (omega (arith, length-append (c ++ (e ++ bs)) z, length-append c (e ++ bs), length-append e bs, end-some _ e g.end))
pass-walk {o = o} (more {st₁ = stm} {c = c} {e = e} {bs = bs} g p) z (suc f) k a at h q =
    one-on g f k a at bs z
    (pass-walk p z f (k + 1) (a + (length c + length e)) at
    (omega (arith, length-append (c ++ (e ++ bs)) z, length-append c (e ++ bs), length-append e bs, length-append bs z, end-some _ e g.end))
    (omega (arith, length-append c (e ++ bs), length-append e bs)))

-- an EOF record has bytes
end-width : (mode : Mode) (z : List ℕ) (width : ℕ) → one_of mode Due 0 z ≡ Ok (One.End width) → 0 < length z
end-width mode z width e =
    let v : Ended mode Due 0 z width = subst (OneView mode Due 0 z) e (one-view mode Due 0 z) in
    omega (arith, v.line.some, v.line.within)

walk_end : (f : ℕ) (mode : Mode) (o : Tables) (k a : ℕ) (z : List ℕ) → IsEnd mode z → length z ≤ f → walk f mode Due o k a z ≡ read o a
unfolding walk
walk_end zero mode o k a z e h = absurd (omega (arith, end-width mode z e.width e.ends))
walk_end (suc f) mode o k a z e h =
    rw (due-next mode (ring_after Due o) 0 z, e.ends) (read-ended mode o a (k + 1) (a + e.width) (drop e.width z) e.ok)

pub accepts-walk : (f : ℕ) (mode : Mode) (st : State) (o o' : Tables) (k a eof : ℕ) (bs : List ℕ) → Accepts mode st o a bs o' eof → length bs ≤ f
    → walk f mode st o k a bs ≡ read o' eof
accepts-walk f mode st o o' k a eof bs r h =
    let p = pass-walk r.pass r.rest f k a eof (rw r.split at h) r.long in
    ap (walk f mode st o k a) r.split ∙ p.same ∙ walk_end p.fuel mode o' p.rec eof r.rest r.end p.enough
