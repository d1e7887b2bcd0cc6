-- One lemma for each way through the code, its premises the facts that the code has there. Assumes nothing.
use Prim.Native.Nat.{ℕ, ◌+◌, ◌-◌, ◌≤◌, ◌<◌, ◌^◌}
use mathlib.Core.Path.{◌≡◌, refl, sym, ◌∙◌, ap}
use mathlib.Core.List.{List}
use mathlib.Core.Bool.{Bool, true, false, cond, not, ◌&&◌}
use native.Mathlib.Omega.{arith}
use lib.ListN.{length, get_or, take, length-drop}
use lib.Seq.{length-take-le, get_or-take}
use lib.Dec.{leb, ltb}
use mir.Val.{Fits}
use mir.Syntax.{w64}
use borrow.Author.Tests.{ltb-true, ltb-false, not-true, not-false}
use Rattle.std.specs.Prelude.{Result, Ok, Err}
use Rattle.laws.specs.Lists.{run, all, same, tail}
use Rattle.laws.proofs.Choice.{and-false, false≢true, true≢false}
use Rattle.laws.proofs.ListLaws.{rest-is, run_on, run-whole, run-le, all-not}
use Rattle.record.specs.Refusals.{file_most, record_most}
use Rattle.record.specs.declared.refusal.Refusal.{Refusal}
use Rattle.record.specs.declared.Line.{Line}
use Rattle.record.specs.declared.Mode.{Mode}
use Rattle.record.specs.Record.{is_exact, plain, not_lf, word_eof, content_is, got, line_of}
use Rattle.record.specs.Scan.{crlf_at, Spoilt}
use Rattle.record.proofs.RecordCases.{lf-not, plain-no-LF, LF-at, no-CR, no-LF, to-CR, to-bare, content-long, content-bad, crlf-yes, front-plain, front-LF, front-bad, front-all, at-LF, at-CRLF}
use Rattle.record.proofs.RecordLaws.{line_view, due-matters-for-EOF-alone, record-line, record-long, record-end}

-- ---- no byte is left behind the plain ones

module _ (mode : Mode) (due : Bool) (bs : List ℕ) (p : all plain bs ≡ true) where
  unended-is : line_of mode due bs ≡ cond (not (is_exact mode) && due && same bs word_eof) (got 3 3) (Err Refusal.Cut)
  unended-is = no-LF mode due bs (length bs) (sym (run-whole not_lf bs (plain-no-LF bs p))) (omega arith)

  module _ (x : Bool) (m : x ≡ is_exact mode) where
    pub unended-exact : x ≡ true → Err Refusal.Cut ≡ line_of mode due bs
    unended-exact y = sym (unended-is ∙ rw (← m, y))

    pub unended-not-due : x ≡ false → not due ≡ true → Err Refusal.Cut ≡ line_of mode due bs
    unended-not-due y d = sym (unended-is ∙ rw (← m, y, not-true due d))

    pub unended-EOF : x ≡ false → not due ≡ false → (r : Bool) → r ≡ same bs word_eof → r ≡ true → got 3 3 ≡ line_of mode due bs
    unended-EOF y d r e t = sym (unended-is ∙ rw (← m, y, not-false due d, ← e, t))

    pub unended-other : x ≡ false → not due ≡ false → (r : Bool) → r ≡ same bs word_eof → r ≡ false → Err Refusal.Cut ≡ line_of mode due bs
    unended-other y d r e t = sym (unended-is ∙ rw (← m, y, not-false due d, ← e, t))

pub ruleset unended_ways = (unended-exact, unended-not-due, unended-EOF, unended-other)

-- ---- a byte that is neither plain nor a line end

module _ (bs : List ℕ) (n : ℕ) (s : Spoilt bs n) where
  -- the LF, or the end, stands `k` bytes behind it
  module _ (k : ℕ) (o : k ≡ run not_lf (tail bs n)) where
    abbrev end : ℕ
    end = n + k

    q : end ≡ run not_lf bs
    q = omega (arith, o, ap (run not_lf) (rest-is bs n), front-LF bs n s.front)

    pub spoilt_fits : length bs < 2 ^ 64 → Fits w64 end
    spoilt_fits h = record { fits = omega (arith, q, run-le not_lf bs) }

    spoilt-past : n < end
    spoilt-past = omega (arith, q, front-LF bs n s.front, run_on not_lf bs n s.inside (lf-not (get_or bs n 0) s.no_lf))

    pub spoilt-some : 1 ≤ end
    spoilt-some = omega (arith, spoilt-past)

    -- the byte at `n` spoils a content that reaches past it
    spoilt-in : (k : ℕ) → n < k → k ≤ length bs → all plain (take k bs) ≡ false
    spoilt-in k h l =
        let b : plain (get_or (take k bs) n 0) ≡ false = rw (get_or-take k bs n 0 h) (front-bad bs n s.front s.inside) in
        all-not plain (take k bs) n (omega (arith, length-take-le k bs l)) b

    -- it is not the CR of the line end
    spoilt-CR : end < length bs → get_or bs (end - 1) 0 ≡ 13 → n < end - 1
    spoilt-CR h e = go (ltb n (end - 1)) refl
      where
        go : (x : Bool) → ltb n (end - 1) ≡ x → n < end - 1
        go true t = ltb-true n (end - 1) t
        go false t =
            let z : end - 1 ≡ n = omega (arith, spoilt-past, ltb-false n (end - 1) t) in
            let y : end ≡ n + 1 = omega (arith, spoilt-past) in
            absurd (false≢true (sym s.no_end ∙ sym (crlf-yes bs n (rw z at e) (rw y at (LF-at bs end q h)))))

    module _ (mode : Mode) where
      pub spoilt-cut : length bs ≤ end → Err Refusal.Cut ≡ line_of mode false bs
      spoilt-cut h = sym (no-LF mode false bs end q h ∙ rw (and-false (not (is_exact mode))))

      module _ (h : end < length bs) where
        module _ (e : get_or bs (end - 1) 0 ≡ 13) where
          ended-CR : line_of mode false bs ≡ content_is (take (end - 1) bs) (end + 1)
          ended-CR = to-CR mode false bs end q h spoilt-some e

          short-CR : length (take (end - 1) bs) ≡ end - 1
          short-CR = length-take-le (end - 1) bs (omega arith)

          pub spoilt-CR-long : record_most < end - 1 → Err Refusal.Length ≡ line_of mode false bs
          spoilt-CR-long l = sym (ended-CR ∙ content-long (take (end - 1) bs) (end + 1) (omega (arith, short-CR)))

          pub spoilt-CR-byte : end - 1 ≤ record_most → Err Refusal.Byte ≡ line_of mode false bs
          spoilt-CR-byte l =
              sym (ended-CR ∙ content-bad (take (end - 1) bs) (end + 1) (omega (arith, short-CR)) (spoilt-in (end - 1) (spoilt-CR h e) (omega arith)))

        module _ (e : get_or bs (end - 1) 0 ≡ 13 → ⊥) where
          bare : line_of mode false bs ≡ cond (not (is_exact mode)) (content_is (take end bs) (end + 1)) (Err Refusal.LineEnd)
          bare = to-bare mode false bs end q h (no-CR bs end h spoilt-some e)

          short-bare : length (take end bs) ≡ end
          short-bare = length-take-le end bs (omega arith)

          module _ (x : Bool) (m : x ≡ is_exact mode) where
            pub spoilt-exact : x ≡ true → Err Refusal.LineEnd ≡ line_of mode false bs
            spoilt-exact y = sym (bare ∙ rw (← m, y))

            pub spoilt-long : x ≡ false → record_most < end → Err Refusal.Length ≡ line_of mode false bs
            spoilt-long y l = sym (bare ∙ rw (← m, y) (content-long (take end bs) (end + 1) (omega (arith, short-bare))))

            pub spoilt-byte : x ≡ false → end ≤ record_most → Err Refusal.Byte ≡ line_of mode false bs
            spoilt-byte y l =
                sym (bare ∙ rw (← m, y) (content-bad (take end bs) (end + 1) (omega (arith, short-bare)) (spoilt-in end spoilt-past (omega arith))))

pub ruleset spoilt_ways =
    (spoilt_fits, spoilt-some, spoilt-cut, spoilt-CR-long, spoilt-CR-byte, spoilt-exact, spoilt-long, spoilt-byte)

-- ---- the ways of `line_at`

module _ (mode : Mode) (due : Bool) (bs : List ℕ) (n : ℕ) (q : n ≡ run plain bs) (f : Result Line Refusal) where
  pub line-LF : n < length bs → get_or bs n 0 ≡ 10 → (x : Bool) → x ≡ is_exact mode → x ≡ false
      → f ≡ cond (leb n record_most) (got n (n + 1)) (Err Refusal.Length) → f ≡ line_of mode due bs
  line-LF h e x m y t = t ∙ sym (at-LF bs n q mode due h e ∙ rw (← m, y))

  pub line-CRLF : (r : Bool) → r ≡ crlf_at bs n → r ≡ true
      → f ≡ cond (leb n record_most) (got n (n + 2)) (Err Refusal.Length) → f ≡ line_of mode due bs
  line-CRLF r e y t = t ∙ sym (at-CRLF bs n q mode due (sym e ∙ y))

  pub line-spoilt : n < length bs → f ≡ line_of mode false bs → f ≡ line_of mode due bs
  unfolding all
  line-spoilt h t = t ∙ due-matters-for-EOF-alone mode false due bs not-EOF
    where
      not-EOF : bs ≡ word_eof → ⊥
      not-EOF z = true≢false (sym (ap (all plain) z) ∙ all-not plain bs n h (front-bad bs n q h))

pub line-bare : (mode : Mode) (due : Bool) (bs : List ℕ) (n : ℕ) → n ≡ run plain bs → n < length bs → get_or bs n 0 ≡ 10
    → (x : Bool) → x ≡ is_exact mode → x ≡ true → Err Refusal.LineEnd ≡ line_of mode due bs
line-bare mode due bs n q h e x m y = sym (at-LF bs n q mode due h e ∙ rw (← m, y))

pub ruleset line_ways = (front-all, line-LF, line-bare, line-CRLF, line-spoilt)

-- ---- the ways of `record_at`

-- the place past a record lies in the file
pub record_fits : (s : List ℕ) (at : ℕ) (mode : Mode) (due : Bool) (l : Result Line Refusal) (x : Line) → l ≡ line_of mode due (tail s at) → l ≡ Ok x
    → at < length s → length s ≤ file_most → Fits w64 (at + x.width)
record_fits s at mode due l x q e h k =
    let v = line_view mode due (tail s at) x.len x.width (sym q ∙ e) in
    record { fits = omega (arith, v.within, ap length (rest-is s at), length-drop at s) }

pub ruleset record_ways = (record-long, record-end, record_fits)
