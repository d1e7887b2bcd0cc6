-- Written then read: the text of a sheet is read as that sheet's header and the used part of its tables. Assumes nothing.
use Prim.Native.Nat.{ℕ, ◌+◌, ◌-◌, ◌≤◌, ◌<◌}
use mathlib.Core.Path.{◌≡◌, refl, ◌∙◌, ap}
use mathlib.Core.List.{List, [], ◌∷◌, ◌++◌, append_assoc}
use mathlib.Core.Bool.{Bool, true, false, not, ◌&&◌, ◌||◌}
use native.Mathlib.Omega.{arith}
use lib.ListN.{length, get_or, drop, length-append}
use lib.Dec.{leb, eqb}
use lib.IntN.{ℤ}
use borrow.Author.Tests.{leb-true, le-leb, ne_eqb, eqb-true, not-true}
use Rattle.laws.specs.Lists.{run, kept, all, all_at, same, below, place}
use Rattle.laws.specs.Text.{text}
use Rattle.laws.proofs.Choice.{and_left, and_right, cond-elim, cond-first}
use Rattle.laws.proofs.ListLaws.{all-weaken, all-each, all-at-weaken, below_at}
use Rattle.std.specs.Prelude.{Some, Ok, Err}
use Rattle.record.specs.declared.Mode.{Mode}
use Rattle.record.specs.declared.Mode.TheVariants.{Loose, Exact, Former}
use Rattle.record.specs.Record.{plain, line_of, line_is, content_is, content, ends_cr}
use Rattle.record.specs.RecordView.{crlf}
use Rattle.record.specs.Refusals.{file_most}
use Rattle.number.specs.Words.{blank, unled, trimmed, word_of}
use Rattle.number.specs.Number.{digit, is_real, real_of}
use Rattle.number.proofs.NumberLaws.{real-widens}
use Rattle.number.proofs.WordLaws.{word-make, untrimmed}
use Rattle.spelling.specs.Spelling.{real_text}
use Rattle.spelling.proofs.SpellingLaws.{real-spelt, real-length, real-plain}
use Rattle.token.specs.Lex.{key_of, lex_of}
use Rattle.machine.specs.Machine.{want_of, key_step, step_of, one_of}
use Rattle.machine.specs.declared.One.{One}
use Rattle.machine.specs.declared.State.TheVariants.{Due}
use Rattle.heading.specs.declared.Header.{Header}
use Rattle.header.specs.Header.{first_words, begins, kind_said, is_named, headed}
use Rattle.heading.specs.Heading.{capital, name_byte, is_name, is_header}
use Rattle.heading.proofs.HeadingLaws.{header_is}
use Rattle.header.proofs.HeadLaws.{Whole, Says, head-make}
use Rattle.sheet.specs.Tables.{Tables}
use Rattle.sheet.specs.Reading.{sheet, meaning, reading}
use Rattle.sheet.proofs.Pass.{TailOk, IsEnd}
use Rattle.sheet.proofs.Meaning.{parts-file, file-meaning, meaning-reading}
use Rattle.made.specs.declared.Flaw.TheVariants.{BadHeader}
use Rattle.made.specs.Made.{none_before, judge_rows, judge_of, used_of}
use Rattle.layout.specs.Sheet.{line, rows_text, header_text, sheet_text}
use Rattle.layout.proofs.RowPass.{rows_pass}

-- ---- the end

eof-ends : (mode : Mode) → one_of mode Due 0 (line (text "EOF")) ≡ Ok (One.End 5)
unfolding one_of line_of line_is content_is content ends_cr run all lex_of word_of trimmed unled kept key_of same want_of step_of key_step
eof-ends Loose = refl
eof-ends Exact = refl
eof-ends Former = refl

written-end : (mode : Mode) → IsEnd mode (line (text "EOF"))
written-end mode = record { width = 5; ends = eof-ends mode; ok = ok mode }
  where
    ok : (m : Mode) → TailOk m []
    ok Loose = tt
    ok Exact = refl
    ok Former = tt

-- ---- the header

-- the first word of a kind is read as that kind, in every mode: one computed test
is_first : Mode → ℕ → Bool
is_first mode k = eqb k 0 || all plain (get_or first_words (k - 1) []) && leb (length (get_or first_words (k - 1) [])) 255 && eqb (kind_said mode (get_or first_words (k - 1) [])) k

all_first : (mode : Mode) → below 4 (is_first mode) ≡ true
unfolding below is_first first_words all kind_said word_of trimmed unled run kept place same
all_first Loose = refl
all_first Exact = refl
all_first Former = refl

-- a byte of a name is plain and no blank
abbrev solid : ℕ → Bool
solid b = plain b && not (blank b)

between-solid : (low high b : ℕ) → 48 ≤ low → high ≤ 95 → (leb low b && leb b high) ≡ true → solid b ≡ true
between-solid low high b l h e =
    let from = leb-true low b (and_left (leb low b) (leb b high) e) in
    let to = leb-true b high (and_right (leb low b) (leb b high) e) in
    rw (le-leb 32 b (omega arith), le-leb b 126 (omega arith), ne_eqb b 32 (λ z. omega arith))

capital-solid : (b : ℕ) → capital b ≡ true → solid b ≡ true
capital-solid b = between-solid 65 90 b (omega arith) (omega arith)

digit-solid : (b : ℕ) → digit b ≡ true → solid b ≡ true
digit-solid b = between-solid 48 57 b (omega arith) (omega arith)

either : {P : Type 0} (x y : Bool) → (x ≡ true → P) → (y ≡ true → P) → (x || y) ≡ true → P
either true y f g e = f refl
either false y f g e = g e

name-solid : (i b : ℕ) → name_byte i b ≡ true → solid b ≡ true
unfolding name_byte
name-solid i b =
    let Q : Bool → Type 0 = λ x. x ≡ true → solid b ≡ true in
    cond-elim Q (eqb i 0) _ _ (λ _. capital-solid b)
    (λ _. cond-elim Q (leb i 3) _ _ (λ _. digit-solid b)
    (λ _. cond-elim Q (eqb i 4) _ _ (λ _. either (capital b) (eqb b 95) (capital-solid b) (λ e. rw (eqb-true b 95 e)))
    (λ _. cond-elim Q (leb i 8) _ _ (λ _. digit-solid b) (λ _. either (digit b) (capital b) (digit-solid b) (capital-solid b)))))

record Name (s : List ℕ) : Type 0 where
  pub long : length s ≡ 11
  pub good : all plain s ≡ true
  pub first : blank (get_or s 0 0) ≡ false
  pub last : blank (get_or s (length s - 1) 0) ≡ false

name-is : (kind : ℕ) (s : List ℕ) → is_name kind s ≡ true → Name s
unfolding is_name
name-is kind s e =
    let a = eqb (length s) 11 in
    let b = all_at name_byte 0 s in
    let e₁ = and_left (a && b) (not (eqb kind 3) || same (drop 9 s) (text "QU")) e in
    let n = eqb-true (length s) 11 (and_left a b e₁) in
    let all-solid = all-at-weaken name_byte solid name-solid 0 s (and_right a b e₁) in
    let no-blank : (i : ℕ) → i < length s → blank (get_or s i 0) ≡ false =
    λ i h. not-true (blank (get_or s i 0)) (and_right (plain (get_or s i 0)) (not (blank (get_or s i 0))) (all-each solid s i all-solid h)) in
    record {
      long = n;
      good = all-weaken solid plain (λ b. and_left (plain b) (not (blank b))) s all-solid;
      first = no-blank 0 (omega arith);
      last = no-blank (length s - 1) (omega arith);
    }

real-in-mode : (mode : Mode) (z : ℤ) → is_real z ≡ true → real_of mode (real_text z) ≡ Some z
real-in-mode mode z e = real-widens Exact mode refl (real_text z) z (real-spelt z e)

-- the header's three records are read as the header, whatever follows them
header-begins : (mode : Mode) (h : Header) → is_header h ≡ true → (z : List ℕ) → headed mode (header_text h ++ z) ≡ begins h (length (header_text h))
unfolding header_text is_first is_named
header-begins mode h e z =
    let g = header_is h e in
    let n = name-is h.kind h.name g.name in
    let w = get_or first_words (h.kind - 1) [] in
    let end : List ℕ = 13 ∷ 10 ∷ [] in
    let f = rw (ne_eqb h.kind 0 (λ q. omega (arith, g.low))) at (below_at 4 (is_first mode) h.kind (all_first mode) (omega (arith, g.high))) in
    let f₁ = and_left (all plain w && leb (length w) 255) (eqb (kind_said mode w) h.kind) f in
    let says : Says mode h w h.name (real_text h.scale) = record {
      kind = eqb-true (kind_said mode w) h.kind (and_right (all plain w && leb (length w) 255) (eqb (kind_said mode w) h.kind) f);
      known = λ q. omega (arith, g.low);
      named = rw (word-make mode h.name n.first n.last, untrimmed h.name n.first n.last) g.name;
      name = untrimmed h.name n.first n.last;
      scale = real-in-mode mode h.scale g.real;
      above = g.above;
    } in
    let first : Whole mode w end = record { good = and_left (all plain w) (leb (length w) 255) f₁; most = leb-true (length w) 255 (and_right (all plain w) (leb (length w) 255) f₁); end = crlf refl } in
    let second : Whole mode h.name end = record { good = n.good; most = omega (arith, n.long); end = crlf refl } in
    let third : Whole mode (real_text h.scale) end = record { good = real-plain h.scale; most = omega (arith, real-length h.scale g.real); end = crlf refl } in
    let text-is : header_text h ++ z ≡ w ++ (end ++ (h.name ++ (end ++ (real_text h.scale ++ (end ++ z))))) = simp append_assoc in
    let long : length w + length end + (length h.name + length end) + (length (real_text h.scale) + length end) ≡ length (header_text h) = simp length-append (omega arith) in
    ap (headed mode) text-is ∙ head-make z first second third says ∙ ap (begins h) long

-- ---- the whole

-- **written**, the length limit apart: what is written of a well made sheet means that sheet
pub sheet-meaning : (mode : Mode) (h : Header) (count : ℕ) (t : Tables) → judge_of mode h count t ≡ Ok tt → meaning mode (sheet_text h count t) ≡ sheet h (used_of count t)
unfolding judge_of sheet_text
sheet-meaning mode h count t e =
    let j = cond-first (is_header h) (judge_rows mode count none_before t) (Err BadHeader) (Ok tt) (λ z. cc) e in
    file-meaning mode (sheet_text h count t) h (used_of count t)
    (parts-file mode (sheet_text h count t) h (used_of count t) (record {
      head = header_text h;
      body = rows_text count t;
      rest = line (text "EOF");
      split = refl;
      begins = header-begins mode h j.0;
      pass = rows_pass mode count t j.1;
      end = written-end mode;
    })).0

-- **written then read**: the text that a writer gives, within the length limit, is read by exact mode as that same header and tables
pub written-then-read : (h : Header) (count : ℕ) (t : Tables) → judge_of Exact h count t ≡ Ok tt → length (sheet_text h count t) ≤ file_most
    → reading Exact (sheet_text h count t) ≡ sheet h (used_of count t)
written-then-read h count t e l = meaning-reading Exact (sheet_text h count t) h (used_of count t) l (sheet-meaning Exact h count t e)
