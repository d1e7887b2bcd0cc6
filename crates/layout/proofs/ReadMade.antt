-- Every reading's result is a well made sheet. Assumes nothing.
use mathlib.Core.Path.{◌≡◌, refl, sym, ◌∙◌}
use mathlib.Core.List.{List, []}
use mathlib.Core.Bool.{true}
use Prim.Native.Nat.{ℕ, ◌+◌, ◌-◌, ◌*◌, ◌≤◌, ◌<◌}
use native.Mathlib.Omega.{arith}
use lib.ListN.{length, get_or}
use lib.Signed.{le_z}
use borrow.Author.Tests.{le-leb}
use Rattle.laws.specs.Lists.{place}
use Rattle.laws.proofs.Choice.{and_right, cond-first}
use Rattle.laws.proofs.ListLaws.{place_is}
use Rattle.std.specs.Prelude.{Ok}
use Rattle.record.specs.declared.Mode.{Mode}
use Rattle.number.specs.Words.{word_of, trimmed}
use Rattle.number.specs.Number.{real_least, real_most, is_real}
use Rattle.number.proofs.NumberLaws.{real-in}
use Rattle.heading.specs.declared.Header.{Header}
use Rattle.header.specs.Header.{first_words, is_word, kind_said, is_named}
use Rattle.heading.specs.Heading.{is_name, is_header}
use Rattle.header.proofs.HeadLaws.{Says, head-view}
use Rattle.kinds.specs.Kinds.{row_width}
use Rattle.sheet.specs.Tables.{Tables, row_count}
use Rattle.sheet.specs.Reading.{sheet, meaning}
use Rattle.sheet.proofs.Meaning.{meaning-file, file-parts}
use Rattle.made.specs.Made.{none_before, judge_rows, used_of}
use Rattle.layout.proofs.PassRows.{pass-rows}

-- ---- the header

three-words : length first_words ≡ 3
unfolding first_words
three-words = refl

-- the first word of a header that was read is in every mode one of the list, and its place is the kind
pub kind-says : (mode : Mode) (c : List ℕ) (kind : ℕ) → kind_said mode c ≡ kind → (kind ≡ 0 → ⊥)
    → (is_word (word_of mode c) ≡ true) × (kind ≤ 3) × (trimmed c ≡ get_or first_words (kind - 1) [])
unfolding kind_said
kind-says mode c kind q n =
    let r = cond-first (is_word (word_of mode c)) (place 1 first_words (trimmed c)) 0 kind (λ e. n (sym e)) q in
    let v = place_is 1 first_words (trimmed c) (positive r.1) in
    (r.0, three v.1 r.1, v.2 ∙ rw r.1)
  where
    positive : place 1 first_words (trimmed c) ≡ kind → 0 < place 1 first_words (trimmed c)
    positive e = omega arith

    three : place 1 first_words (trimmed c) < 1 + length first_words → place 1 first_words (trimmed c) ≡ kind → kind ≤ 3
    three h e = omega (arith, three-words)

header-right : (mode : Mode) (h : Header) (c₁ c₂ c₃ : List ℕ) → Says mode h c₁ c₂ c₃ → is_header h ≡ true
unfolding is_header is_named is_real
header-right mode h c₁ c₂ c₃ s =
    let k = kind-says mode c₁ h.kind s.kind s.known in
    let known = s.known in
    let name : is_name h.kind h.name ≡ true = rw (← s.name) (and_right (is_word (word_of mode c₂)) (is_name h.kind (trimmed c₂)) s.named) in
    rw (le-leb 1 h.kind (omega arith), le-leb h.kind 3 k.1, name, s.above) (and_right (le_z real_least h.scale) (le_z h.scale real_most) (real-in mode c₃ h.scale s.scale))

-- ---- the rows

-- **every reading's result is well made**: its header is right, every row is well made with its starts (in exact mode with a listed code), and the
-- rows use up the tables with no gaps
pub reading-made : (mode : Mode) (bs : List ℕ) (h : Header) (o : Tables) → meaning mode bs ≡ sheet h o
    → (is_header h ≡ true) × (judge_rows mode (row_count o) none_before o ≡ Ok tt) × (used_of (row_count o) o ≡ o) × (length o.rows ≡ row_width * row_count o)
reading-made mode bs h o q =
    let f = meaning-file mode bs h o q in
    let v = head-view mode bs h f.at f.head in
    let (n, m) = pass-rows (file-parts mode bs h o f).0.pass in
    let z : row_count o ≡ n = omega (arith, m.long) in
    (header-right mode h v.c₁ v.c₂ v.c₃ v.says, rw z m.judged, rw z m.used, omega (arith, m.long))
