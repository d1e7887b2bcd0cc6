-- Lemmas for the ways through the code, their premises the facts that the code has there. Assumes nothing.
use Prim.Native.Nat.{ℕ, ◌+◌, ◌-◌, ◌^◌, ◌≤◌, ◌<◌}
use mathlib.Core.Path.{◌≡◌, sym, ◌∙◌, ap}
use mathlib.Core.List.{List}
use mathlib.Core.Bool.{false}
use native.Mathlib.Nat.{add-sub_cancel_left}
use native.Mathlib.Omega.{arith}
use lib.ListN.{length, take, drop, length-drop}
use mir.Syntax.{w64}
use mir.Val.{Fits}
use Rattle.std.specs.Prelude.{Option, Some, None, Result, Ok}
use Rattle.laws.specs.Lists.{place, tail}
use Rattle.laws.proofs.ListLaws.{rest-is}
use Rattle.record.specs.declared.Mode.{Mode}
use Rattle.record.specs.declared.Line.{Line}
use Rattle.record.specs.declared.refusal.Refusal.{Refusal}
use Rattle.record.specs.Record.{line_of}
use Rattle.record.specs.RecordView.{IsLine}
use Rattle.record.proofs.RecordLaws.{line_view}
use Rattle.number.specs.declared.Word.{Word}
use Rattle.number.specs.Words.{word_of, trimmed}
use Rattle.number.proofs.WordLaws.{word-is}
use Rattle.header.specs.Header.{first_words, kind_said}
use Rattle.heading.proofs.HeadingLaws.{name-long}

-- the part `&s[i..i + n]` of a slice, as the borrow checker states it
abbrev part : List ℕ → ℕ → ℕ → List ℕ
part s i n = take (i + n - i) (drop i s)

-- ---- the kind

module _ (mode : Mode) (c : List ℕ) (w : Option Word) (q : w ≡ word_of mode c) where
  pub kind_padded : w ≡ None → 0 ≡ kind_said mode c
  unfolding kind_said
  kind_padded e = rw (← q, e)

  module _ (x : Word) (e : w ≡ Some x) where
    pub word_within : x.start + x.len ≤ length c
    word_within = (word-is mode c x.start x.len (sym q ∙ e)).0

    pub word_fits : length c < 2 ^ 64 → Fits w64 (x.start + x.len)
    word_fits h = record { fits = omega (arith, word_within) }

    pub kind_word : (k : ℕ) → k ≡ place 1 first_words (part c x.start x.len) → k ≡ kind_said mode c
    unfolding kind_said
    kind_word k p =
        let s : part c x.start x.len ≡ trimmed c = rw (add-sub_cancel_left x.start x.len) (word-is mode c x.start x.len (sym q ∙ e)).1 in
        p ∙ ap (place 1 first_words) s ∙ rw (← q, e)

pub ruleset word_ways = (kind_padded, word_within, word_fits, kind_word)

-- ---- the name

pub word_cut : (mode : Mode) (c : List ℕ) (w : Option Word) (x : Word) → w ≡ word_of mode c → w ≡ Some x → part c x.start x.len ≡ trimmed c
word_cut mode c w x q e = rw (add-sub_cancel_left x.start x.len) (word-is mode c x.start x.len (sym q ∙ e)).1

pub ruleset name_ways = (word_within, word_fits, word_cut, name-long)

-- ---- a record that starts at a place of the file

module _ (mode : Mode) (src : List ℕ) (at : ℕ) (l : Result Line Refusal) (x : Line) (q : l ≡ line_of mode false (tail src at)) (e : l ≡ Ok x) (h : at ≤ length src) where
  line-is : IsLine mode false (drop at src) x.len x.width
  line-is = line_view mode false (drop at src) x.len x.width (ap (line_of mode false) (sym (rest-is src at)) ∙ sym q ∙ e)

  pub line_within : at + x.width ≤ length src
  line_within = omega (arith, line-is.within, length-drop at src)

  pub content_within : at + x.len ≤ length src
  content_within = omega (arith, line-is.past, line_within)

  pub line_fits : length src < 2 ^ 64 → Fits w64 (at + x.width)
  line_fits k = record { fits = omega (arith, line_within) }

  pub content_fits : length src < 2 ^ 64 → Fits w64 (at + x.len)
  content_fits k = record { fits = omega (arith, content_within) }

pub ruleset line_ways = (line_within, content_within, line_fits, content_fits, add-sub_cancel_left)

-- ---- the header

module _ (mode : Mode) (src : List ℕ) (l : Result Line Refusal) (x : Line) (q : l ≡ line_of mode false src) (e : l ≡ Ok x) where
  first-is : IsLine mode false src x.len x.width
  first-is = line_view mode false src x.len x.width (sym q ∙ e)

  pub first_counted : x.len ≡ length (take x.len src)
  first_counted = sym first-is.counted

  pub first_within : x.width ≤ length src
  first_within = first-is.within

pub ruleset head_ways = (first_counted, first_within)
