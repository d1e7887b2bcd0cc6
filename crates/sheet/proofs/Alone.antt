-- What is made of a record depends on its own bytes: those up to its LF, or to the end of the file. Document 01, "Records". Assumes nothing.
use mathlib.Core.Path.{◌≡◌, refl, ◌∙◌, ap, subst}
use mathlib.Core.List.{List, [], ◌∷◌}
use mathlib.Core.Bool.{Bool, true, false, cond, not, ◌&&◌, ◌||◌}
use Prim.Native.Nat.{ℕ, zero, suc, ◌+◌, ◌<◌}
use native.Mathlib.Omega.{arith}
use lib.ListN.{length, take, length-take}
use lib.Seq.{take-take, take_all, length-take-le}
use lib.Dec.{leb, ltb}
use borrow.Author.Tests.{ltb-true, ltb-false, lt-ltb}
use Rattle.std.specs.Prelude.{Result, Ok, Err}
use Rattle.laws.specs.Lists.{run, all, same}
use Rattle.laws.proofs.Choice.{and_right, cond-elim}
use Rattle.laws.proofs.ListLaws.{same-is}
use Rattle.record.specs.declared.Mode.{Mode}
use Rattle.record.specs.declared.Line.{Line}
use Rattle.record.specs.declared.refusal.Refusal.{Refusal}
use Rattle.record.specs.Record.{is_exact, plain, not_lf, word_eof, ends_cr, content, got, content_is, line_is, line_of}
use Rattle.record.proofs.RecordLaws.{line_view, line-none}
use Rattle.number.specs.Number.{real_of}
use Rattle.token.specs.Lex.{lex_of}
use Rattle.machine.specs.declared.State.{State}
use Rattle.machine.specs.declared.One.{One}
use Rattle.machine.specs.Machine.{want_of, is_due, of_token, of_line, one_of}
use Rattle.sheet.specs.Tables.{Tables, put, ring_after}
use Rattle.sheet.specs.First.{Stage, word, name, scale, part, Given, passed, fault, word_is, name_is, scale_is, of_head, of_part, given_by, front_of}
use Rattle.sheet.proofs.Pass.{OneView, one-view}

-- ---- a record is as wide as the bytes up to its LF

abbrev Wide : List ℕ → Result Line Refusal → Type 0
Wide bs (Ok l) = l.width ≡ length (front_of bs)
Wide bs (Err m) = Unit {0}

wide-content : (bs body : List ℕ) (width : ℕ) → width ≡ length (front_of bs) → Wide bs (content_is body width)
unfolding content_is
wide-content bs body width h =
    cond-elim (Wide bs) (leb (length body) 255) _ _ (λ _. cond-elim (Wide bs) (all plain body) _ _ (λ _. h) (λ _. tt)) (λ _. tt)

wide-line : (mode : Mode) (due : Bool) (bs : List ℕ) → Wide bs (line_of mode due bs)
unfolding line_of line_is
wide-line mode due bs =
    let r = run not_lf bs in
    let n = length-take (r + 1) bs in
    cond-elim (Wide bs) (ltb r (length bs)) _ _
    (λ t. let h = ltb-true r (length bs) t in
    cond-elim (Wide bs) (ends_cr (take r bs) || not (is_exact mode)) _ _
    (λ _. wide-content bs (content (take r bs)) (length (take r bs) + 1) (omega (arith, n, length-take r bs))) (λ _. tt))
    (λ t. cond-elim (Wide bs) (not (is_exact mode) && due && same bs word_eof) _ _
    (λ e. let q : bs ≡ word_eof = same-is bs word_eof (and_right (not (is_exact mode) && due) (same bs word_eof) e) in
    omega (arith, n, ltb-false r (length bs) t, ap length q))
    (λ _. tt))

pub line-width : (mode : Mode) (due : Bool) (bs : List ℕ) (len width : ℕ) → line_of mode due bs ≡ got len width → width ≡ length (front_of bs)
line-width mode due bs len width q = subst (Wide bs) q (wide-line mode due bs)

-- ---- the bytes behind it do not matter

run_take : (p : ℕ → Bool) (n : ℕ) (s : List ℕ) → run p s < n → run p (take n s) ≡ run p s
unfolding run
run_take p n [] h = ap (run p) (take_all n [] (omega arith))
run_take p zero (b ∷ s) h = absurd (omega arith)
run_take p (suc n) (b ∷ s) h = go (p b) refl (λ k. run_take p n s k)
  where
    go : (x : Bool) → p b ≡ x → (run p s < n → run p (take n s) ≡ run p s) → cond x (suc (run p (take n s))) 0 ≡ cond x (suc (run p s)) 0
    go true e ih = let k : suc (run p s) < suc n = rw e at h in ap suc (ih (omega arith))
    go false e ih = refl

-- a record with an LF
line-ended : (mode : Mode) (due : Bool) (bs : List ℕ) → run not_lf bs < length bs → line_of mode due (front_of bs) ≡ line_of mode due bs
unfolding line_of
line-ended mode due bs h =
    let r = run not_lf bs in
    let n : length (take (r + 1) bs) ≡ r + 1 = length-take-le (r + 1) bs (omega arith) in
    rw (run_take not_lf (run not_lf bs + 1) bs (omega arith), n, lt-ltb (run not_lf bs) (run not_lf bs + 1) (omega arith), lt-ltb (run not_lf bs) (length bs) h, take-take (run not_lf bs) (run not_lf bs + 1) bs (omega arith))

module _ (mode : Mode) (due : Bool) (bs : List ℕ) where
  line-alone : line_of mode due (front_of bs) ≡ line_of mode due bs
  line-alone = go (ltb (run not_lf bs) (length bs)) refl
    where
      go : (b : Bool) → ltb (run not_lf bs) (length bs) ≡ b → line_of mode due (front_of bs) ≡ line_of mode due bs
      go true e = line-ended mode due bs (ltb-true (run not_lf bs) (length bs) e)
      go false e =
          let h = ltb-false (run not_lf bs) (length bs) e in
          ap (line_of mode due) (take_all (run not_lf bs + 1) bs (omega arith))

  -- its content lies in it
  content-alone : (len width : ℕ) → line_of mode due bs ≡ got len width → take len (front_of bs) ≡ take len bs
  content-alone len width e =
      take-take len (run not_lf bs + 1) bs
      (omega (arith, (line_view mode due bs len width e).past, line-width mode due bs len width e, length-take (run not_lf bs + 1) bs))

head-alone : (f : List ℕ → Given) (mode : Mode) (bs : List ℕ) → of_head f (front_of bs) (line_of mode false (front_of bs)) ≡ of_head f bs (line_of mode false bs)
head-alone f mode bs = ap (of_head f (front_of bs)) (line-alone mode false bs) ∙ by (line_of mode false bs) refl
  where
    by : (l : Result Line Refusal) → line_of mode false bs ≡ l → of_head f (front_of bs) l ≡ of_head f bs l
    by (Ok l) e = ap f (content-alone mode false bs l.len l.width e)
    by (Err m) e = refl

-- what the machine makes of a record
pub one-alone : (mode : Mode) (st : State) (n : ℕ) (bs : List ℕ) → one_of mode st n (front_of bs) ≡ one_of mode st n bs
unfolding one_of
one-alone mode st n bs = ap (of_line mode st n (front_of bs)) (line-alone mode (is_due st) bs) ∙ by (line_of mode (is_due st) bs) refl
  where
    by : (l : Result Line Refusal) → line_of mode (is_due st) bs ≡ l → of_line mode st n (front_of bs) l ≡ of_line mode st n bs l
    by (Ok l) e = ap (λ (c : List ℕ). of_token mode st n l.len l.width (lex_of mode (want_of st) c)) (content-alone mode (is_due st) bs l.len l.width e)
    by (Err m) e = refl

part-alone : (mode : Mode) (st : State) (o : Tables) (bs : List ℕ) → of_part st o (front_of bs) (one_of mode st (ring_after st o) bs) ≡ of_part st o bs (one_of mode st (ring_after st o) bs)
part-alone mode st o bs = by (one_of mode st (ring_after st o) bs) (one-view mode st (ring_after st o) bs)
  where
    by : (x : Result One Refusal) → OneView mode st (ring_after st o) bs x → of_part st o (front_of bs) x ≡ of_part st o bs x
    by (Ok (One.Go st' t len width)) v = ap (λ (c : List ℕ). passed (part st' (put st t c o))) (content-alone mode (is_due st) bs len width v.found)
    by (Ok (One.End width)) v = refl
    by (Err m) v = refl

-- **a record alone**: what a record gives is what its own bytes give
pub given-alone : (mode : Mode) (w : Stage) (bs : List ℕ) → given_by mode w (front_of bs) ≡ given_by mode w bs
unfolding given_by
given-alone mode word bs = head-alone (word_is mode) mode bs
given-alone mode (name kind) bs = head-alone (name_is mode kind) mode bs
given-alone mode scale bs = head-alone (λ c. scale_is (real_of mode c)) mode bs
given-alone mode (part st o) bs = ap (of_part st o (front_of bs)) (one-alone mode st (ring_after st o) bs) ∙ part-alone mode st o bs

-- no byte is no record
pub given-none : (mode : Mode) (w : Stage) → given_by mode w [] ≡ fault Refusal.Cut
unfolding given_by one_of
given-none mode word = rw (line-none mode false)
given-none mode (name kind) = rw (line-none mode false)
given-none mode scale = rw (line-none mode false)
given-none mode (part st o) = rw (line-none mode (is_due st))
