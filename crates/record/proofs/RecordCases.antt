-- The cases of `line_of`: by where its LF stands, as document 01 orders them, and by what stands behind the plain bytes, as the code goes.
-- Assumes nothing.
use Prim.Native.Nat.{ℕ, ◌+◌, ◌-◌, ◌≤◌, ◌<◌}
use mathlib.Core.Path.{◌≡◌, refl, sym, ◌∙◌}
use mathlib.Core.List.{List}
use mathlib.Core.Bool.{Bool, true, false, cond, not, ◌&&◌}
use native.Mathlib.Omega.{arith}
use lib.ListN.{length, get_or, take, drop, get_or-eq_default}
use lib.Seq.{take_all, take-take, length-take-le, get_or-take}
use lib.Dec.{eqb, leb, ltb}
use borrow.Author.Tests.{eq-eqb, ne_eqb, le-leb, lt-leb, lt-ltb, le-ltb, eqb-true, leb-true, ltb-true, ltb-false, not-false}
use Rattle.std.specs.Prelude.{Err}
use Rattle.laws.specs.Lists.{run, all, same}
use Rattle.laws.proofs.Choice.{and_left, and_right}
use Rattle.laws.proofs.ListLaws.{run_on, run-stop, run-le, run-fails, run-from, all-run, all-each, all-weaken}
use Rattle.record.specs.Refusals.{record_most}
use Rattle.record.specs.declared.refusal.Refusal.{Refusal}
use Rattle.record.specs.declared.Mode.{Mode}
use Rattle.record.specs.Record.{is_exact, plain, not_lf, word_eof, ends_cr, content, content_is, line_is, got, line_of}
use Rattle.record.specs.Scan.{crlf_at}

-- ---- tests on a byte

module _ (b : ℕ) where
  pub lf-here : b ≡ 10 → not_lf b ≡ false
  lf-here e = rw (eq-eqb b 10 e)

  pub lf-not : (b ≡ 10 → ⊥) → not_lf b ≡ true
  lf-not e = rw (ne_eqb b 10 e)

  pub plain-low : b < 32 → plain b ≡ false
  plain-low l = rw (lt-leb 32 b l)

  pub plain-high : 126 < b → plain b ≡ false
  plain-high l = rw (le-leb 32 b (omega arith), lt-leb b 126 l)

  pub plain-is : 32 ≤ b → b ≤ 126 → plain b ≡ true
  plain-is l u = rw (le-leb 32 b l, le-leb b 126 u)

  plain-least : plain b ≡ true → 32 ≤ b
  plain-least e = leb-true 32 b (and_left (leb 32 b) (leb b 126) e)

pub ruleset byte_tests = (lf-here, lf-not, plain-low, plain-high, plain-is)

-- ---- content that is plain

module _ (c : List ℕ) (e : all plain c ≡ true) where
  pub plain-no-LF : all not_lf c ≡ true
  plain-no-LF = all-weaken plain not_lf (λ b p. lf-not b (λ z. omega (arith, plain-least b p))) c e

  no-CR-at : (k : ℕ) → get_or c k 0 ≡ 13 → ⊥
  no-CR-at k z = go (ltb k (length c)) refl
    where
      go : (x : Bool) → ltb k (length c) ≡ x → ⊥
      go true t = omega (arith, plain-least (get_or c k 0) (all-each plain c k e (ltb-true k (length c) t)))
      go false t = omega (arith, get_or-eq_default c 0 {n = k} (ltb-false k (length c) t))

  plain-no-CR : ends_cr c ≡ false
  unfolding ends_cr
  plain-no-CR = ne_eqb (get_or c (length c - 1) 0) 13 (no-CR-at (length c - 1))

-- ---- `line_of` where the LF stands

pub LF-at : (bs : List ℕ) (r : ℕ) → r ≡ run not_lf bs → r < length bs → get_or bs r 0 ≡ 10
LF-at bs r q h = eqb-true (get_or bs r 0) 10 (not-false (eqb (get_or bs r 0) 10) (rw q (run-fails not_lf bs (rw q at h))))

pub no-CR : (bs : List ℕ) (r : ℕ) → r < length bs → 0 < r → (get_or bs (r - 1) 0 ≡ 13 → ⊥) → ends_cr (take r bs) ≡ false
unfolding ends_cr
no-CR bs r h k n =
    let l : length (take r bs) ≡ r = length-take-le r bs (omega arith) in
    rw l (ne_eqb (get_or (take r bs) (r - 1) 0) 13 (λ z. n (sym (get_or-take r bs (r - 1) 0 (omega arith)) ∙ z)))

module _ (mode : Mode) (due : Bool) (bs : List ℕ) (r : ℕ) (q : r ≡ run not_lf bs) where
  to-LF : r < length bs → line_of mode due bs ≡ line_is mode (take r bs)
  unfolding line_of
  to-LF h = rw (← q, lt-ltb r (length bs) h)

  pub no-LF : length bs ≤ r → line_of mode due bs ≡ cond (not (is_exact mode) && due && same bs word_eof) (got 3 3) (Err Refusal.Cut)
  unfolding line_of
  no-LF h = rw (← q, le-ltb r (length bs) h)

  -- a CR stands before it
  pub to-CR : r < length bs → 0 < r → get_or bs (r - 1) 0 ≡ 13 → line_of mode due bs ≡ content_is (take (r - 1) bs) (r + 1)
  unfolding line_is content ends_cr
  to-CR h k e =
      let l : length (take r bs) ≡ r = length-take-le r bs (omega arith) in
      let g : get_or (take r bs) (r - 1) 0 ≡ 13 = get_or-take r bs (r - 1) 0 (omega arith) ∙ e in
      to-LF h ∙ rw (l, eq-eqb (get_or (take r bs) (r - 1) 0) 13 g, take-take (r - 1) r bs (omega arith))

  -- none does
  pub to-bare : r < length bs → ends_cr (take r bs) ≡ false → line_of mode due bs ≡ cond (not (is_exact mode)) (content_is (take r bs) (r + 1)) (Err Refusal.LineEnd)
  unfolding line_is content
  to-bare h e = to-LF h ∙ rw (e, length-take-le r bs (omega arith))

module _ (body : List ℕ) (width : ℕ) where
  content-plain : all plain body ≡ true → content_is body width ≡ cond (leb (length body) record_most) (got (length body) width) (Err Refusal.Length)
  unfolding content_is
  content-plain e = rw e

  pub content-long : record_most < length body → content_is body width ≡ Err Refusal.Length
  unfolding content_is
  content-long h = rw (lt-leb (length body) record_most h)

  pub content-bad : length body ≤ record_most → all plain body ≡ false → content_is body width ≡ Err Refusal.Byte
  unfolding content_is
  content-bad h e = rw (le-leb (length body) record_most h, e)

-- ---- a CR and an LF

module _ (bs : List ℕ) (n : ℕ) where
  pub crlf-yes : get_or bs n 0 ≡ 13 → get_or bs (n + 1) 0 ≡ 10 → true ≡ crlf_at bs n
  unfolding crlf_at
  crlf-yes h k = rw (eq-eqb (get_or bs n 0) 13 h, eq-eqb (get_or bs (n + 1) 0) 10 k)

  module _ (e : crlf_at bs n ≡ true) where
    crlf-CR : get_or bs n 0 ≡ 13
    unfolding crlf_at
    crlf-CR = eqb-true (get_or bs n 0) 13 (and_left (eqb (get_or bs n 0) 13) (eqb (get_or bs (n + 1) 0) 10) e)

    crlf-LF : get_or bs (n + 1) 0 ≡ 10
    unfolding crlf_at
    crlf-LF = eqb-true (get_or bs (n + 1) 0) 10 (and_right (eqb (get_or bs n 0) 13) (eqb (get_or bs (n + 1) 0) 10) e)

    crlf-inside : n + 1 < length bs
    crlf-inside = go (ltb (n + 1) (length bs)) refl
      where
        go : (x : Bool) → ltb (n + 1) (length bs) ≡ x → n + 1 < length bs
        go true t = ltb-true (n + 1) (length bs) t
        go false t = absurd (omega (arith, crlf-LF, get_or-eq_default bs 0 {n = n + 1} (ltb-false (n + 1) (length bs) t)))

-- ---- `line_of` behind `n` plain bytes

module _ (bs : List ℕ) (n : ℕ) (q : n ≡ run plain bs) where
  pub front-plain : all plain (take n bs) ≡ true
  front-plain = rw q (all-run plain bs)

  front_length : length (take n bs) ≡ n
  front_length = length-take-le n bs (rw q (run-le plain bs))

  pub front-LF : run not_lf bs ≡ n + run not_lf (drop n bs)
  front-LF = run-from not_lf bs n (rw q (run-le plain bs)) (plain-no-LF (take n bs) front-plain)

  pub front-bad : n < length bs → plain (get_or bs n 0) ≡ false
  front-bad h = rw q (run-fails plain bs (rw q at h))

  pub front-all : length bs ≤ n → all plain bs ≡ true
  front-all h = rw (take_all n bs h) at front-plain

  module _ (mode : Mode) (due : Bool) where
    pub at-LF : n < length bs → get_or bs n 0 ≡ 10
        → line_of mode due bs ≡ cond (not (is_exact mode)) (cond (leb n record_most) (got n (n + 1)) (Err Refusal.Length)) (Err Refusal.LineEnd)
    at-LF h e =
        let z : n ≡ run not_lf bs = omega (arith, front-LF, run-stop not_lf bs n h (lf-here (get_or bs n 0) e)) in
        to-bare mode due bs n z h (plain-no-CR (take n bs) front-plain)
        ∙ rw (content-plain (take n bs) (n + 1) front-plain, front_length)

    pub at-CRLF : crlf_at bs n ≡ true → line_of mode due bs ≡ cond (leb n record_most) (got n (n + 2)) (Err Refusal.Length)
    at-CRLF e =
        let h : n + 1 < length bs = crlf-inside bs n e in
        let cr : get_or bs n 0 ≡ 13 = crlf-CR bs n e in
        let go_on = run_on not_lf bs n (omega arith) (lf-not (get_or bs n 0) (λ x. omega arith)) in
        let stop = run-stop not_lf bs (n + 1) h (lf-here (get_or bs (n + 1) 0) (crlf-LF bs n e)) in
        let z : n + 1 ≡ run not_lf bs = omega (arith, front-LF, go_on, stop) in
        let k : n + 1 - 1 ≡ n = omega arith in
        let two : n + 1 + 1 ≡ n + 2 = omega arith in
        to-CR mode due bs (n + 1) z h (omega arith) (rw k cr)
        ∙ rw (k, two, content-plain (take n bs) (n + 2) front-plain, front_length)
