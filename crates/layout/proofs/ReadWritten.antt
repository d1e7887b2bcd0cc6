-- What exact mode accepted is written as its very bytes. Assumes nothing.
use mathlib.Core.Path.{◌≡◌, refl, sym, ◌∙◌, ap, subst}
use mathlib.Core.List.{List, [], ◌++◌, append-nil}
use mathlib.Core.Bool.{true, cond}
use Prim.Native.Nat.{ℕ, ◌-◌, ◌/◌}
use native.Mathlib.Omega.{arith}
use lib.ListN.{length, get_or, take, drop, length-append}
use lib.Dec.{eqb}
use borrow.Author.Tests.{eqb-true}
use Rattle.laws.specs.Text.{text}
use Rattle.laws.proofs.Choice.{and_left, cond-elim}
use Rattle.std.proofs.lemmas.List.{nil_from_length}
use Rattle.std.specs.Prelude.{Option, Some, None, Ok, Err}
use Rattle.record.specs.declared.Mode.TheVariants.{Exact}
use Rattle.record.specs.declared.refusal.Refusal.TheVariants as Refusal
use Rattle.record.specs.RecordView.{LineEnd, Ending, line_ended, bare}
use Rattle.number.specs.declared.Word.{Word}
use Rattle.number.specs.Words.{word_of, trimmed}
use Rattle.number.proofs.WordLaws.{word-exact}
use Rattle.spelling.specs.Spelling.{real_text}
use Rattle.spelling.proofs.SpellingLaws.{real-only}
use Rattle.token.specs.Lex.{key_text}
use Rattle.token.proofs.TokenLaws.{key-only}
use Rattle.heading.specs.declared.Header.{Header}
use Rattle.header.specs.Header.{first_words, is_word, is_named}
use Rattle.heading.specs.Heading.{is_name}
use Rattle.header.proofs.HeadLaws.{Says, IsHead, head-view}
use Rattle.kinds.specs.Kinds.{next_of}
use Rattle.machine.specs.Machine.{Step, want_of, step_of, key_step}
use Rattle.machine.specs.declared.State.TheVariants.{Due, Field}
use Rattle.sheet.specs.Tables.{Tables, row_count}
use Rattle.sheet.specs.Reading.{sheet, meaning}
use Rattle.sheet.proofs.Pass.{Ended, OneView, one-view}
use Rattle.sheet.proofs.Meaning.{Parts, meaning-file, file-parts}
use Rattle.layout.specs.Sheet.{line, header_text, sheet_text}
use Rattle.layout.proofs.TokenSays.{line-spelt}
use Rattle.layout.proofs.MadeRows.{MadeRows}
use Rattle.layout.proofs.PassRows.{pass-rows}
use Rattle.layout.proofs.ReadMade.{kind-says}

-- ---- the header

-- exact mode takes a word as it stands
word-whole : (c : List ℕ) → is_word (word_of Exact c) ≡ true → trimmed c ≡ c
word-whole c = go (word_of Exact c) refl
  where
    go : (w : Option Word) → word_of Exact c ≡ w → is_word w ≡ true → trimmed c ≡ c
    go (Some w) e t = (word-exact c w.start w.len e).0
    go None e t = absurd cc

-- its three records are the header's text
header-spelt : (h : Header) (c₁ e₁ c₂ e₂ c₃ e₃ : List ℕ) → LineEnd Exact e₁ → LineEnd Exact e₂ → LineEnd Exact e₃ → Says Exact h c₁ c₂ c₃
    → header_text h ≡ c₁ ++ (e₁ ++ (c₂ ++ (e₂ ++ (c₃ ++ (e₃ ++ [])))))
unfolding header_text is_named
header-spelt h c₁ e₁ c₂ e₂ c₃ e₃ l₁ l₂ l₃ s =
    let k = kind-says Exact c₁ h.kind s.kind s.known in
    let first : get_or first_words (h.kind - 1) [] ≡ c₁ = sym k.2 ∙ word-whole c₁ k.0 in
    let name : h.name ≡ c₂ = sym s.name ∙ word-whole c₂ (and_left (is_word (word_of Exact c₂)) (is_name h.kind (trimmed c₂)) s.named) in
    let scale : real_text h.scale ≡ c₃ = sym (real-only c₃ h.scale s.scale) in
    let third : line (real_text h.scale) ≡ c₃ ++ (e₃ ++ []) = sym (append-nil (line (real_text h.scale))) ∙ line-spelt Exact c₃ (real_text h.scale) e₃ [] [] refl l₃ scale refl in
    line-spelt Exact c₁ (get_or first_words (h.kind - 1) []) e₁ (line h.name ++ line (real_text h.scale)) (c₂ ++ (e₂ ++ (c₃ ++ (e₃ ++ [])))) refl l₁ first
    (line-spelt Exact c₂ h.name e₂ (line (real_text h.scale)) (c₃ ++ (e₃ ++ [])) refl l₂ name third)

-- bytes that are a header and nothing more
head-spelt : (h : Header) (bs : List ℕ) → IsHead Exact bs h (length bs) → header_text h ≡ bs
head-spelt h bs v =
    header-spelt h v.c₁ v.e₁ v.c₂ v.e₂ v.c₃ v.e₃ v.first.end v.second.end v.third.end v.says
    ∙ sym (v.split ∙ rw none)
  where
    none : v.rest ≡ []
    none = nil_from_length v.rest (omega (arith, v.long, simp length-append at (ap length v.split)))

-- ---- the end

end-key : (t : ℕ) → key_step t ≡ Ok None → t ≡ 0
unfolding key_step
end-key t =
    let Q : Step → Type 0 = λ s. s ≡ Ok None → t ≡ 0 in
    cond-elim Q (eqb t 0) (Ok None) (cond (eqb (next_of (t / 2) 0) 0) (Err Refusal.Keyword) (Ok (Some (Field (t / 2) (next_of (t / 2) 0) 0)))) (λ e _. eqb-true t 0 e)
    (λ _. cond-elim Q (eqb (next_of (t / 2) 0) 0) (Err Refusal.Keyword) (Ok (Some (Field (t / 2) (next_of (t / 2) 0) 0)))
    (λ _ q. absurd cc) (λ _ q. absurd cc))

-- the end of an exact file is `EOF` and nothing more
end-spelt : (z : List ℕ) (width : ℕ) → Ended Exact Due 0 z width → drop width z ≡ [] → line (text "EOF") ≡ z
unfolding want_of step_of key_text
end-spelt z width v ok = by v.line.ending
  where
    word : take v.len z ≡ text "EOF"
    word = key-only (take v.len z) v.t v.says ∙ ap key_text (end-key v.t v.steps)

    by : Ending Exact true z v.len width → line (text "EOF") ≡ z
    by (line_ended e k d w) = line-spelt Exact (take v.len z) (text "EOF") e [] (drop width z) refl k (sym word) (sym ok) ∙ sym d
    by (bare m d q₁ l₁ w₁) = absurd cc

-- ---- the file

parts-written : (bs : List ℕ) (h : Header) (o : Tables) (n : ℕ) (p : Parts Exact bs h o) → MadeRows Exact n o p.body → sheet_text h n o ≡ bs
unfolding sheet_text
parts-written bs h o n p m =
    let f = p.end in
    let head : header_text h ≡ p.head = head-spelt h p.head (head-view Exact p.head h (length p.head) (rw append-nil at (p.begins []))) in
    let rest : line (text "EOF") ≡ p.rest = end-spelt p.rest f.width (subst (OneView Exact Due 0 p.rest) f.ends (one-view Exact Due 0 p.rest)) f.ok in
    rw (head, m.text refl, rest) (sym p.split)

-- **read then written**: what exact mode accepted is written as its very bytes
pub read-written : (bs : List ℕ) (h : Header) (o : Tables) → meaning Exact bs ≡ sheet h o → sheet_text h (row_count o) o ≡ bs
read-written bs h o q =
    let p = (file-parts Exact bs h o (meaning-file Exact bs h o q)).0 in
    let (n, m) = pass-rows p.pass in
    let z : row_count o ≡ n = omega (arith, m.long) in
    rw z (parts-written bs h o n p m)
