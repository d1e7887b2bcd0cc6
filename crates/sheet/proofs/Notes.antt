-- Loose mode answers as the former reading does, or it refuses the first record with a note: document 02, T-09. Assumes nothing.
use mathlib.Core.Path.{◌≡◌, refl, sym, ◌∙◌}
use mathlib.Core.List.{List}
use mathlib.Core.Bool.{Bool, true, false}
use Prim.Native.Nat.{ℕ, ◌≤◌}
use lib.ListN.{length, take}
use lib.Dec.{leb}
use borrow.Author.Tests.{leb-true, leb-false}
use Rattle.std.specs.Prelude.{Result, Ok, Err}
use Rattle.laws.specs.Lists.{all}
use Rattle.laws.proofs.Choice.{false≢true}
use Rattle.record.specs.declared.Mode.TheVariants.{Loose, Former}
use Rattle.record.specs.declared.Line.{Line}
use Rattle.record.specs.declared.refusal.Refusal.{Refusal}
use Rattle.record.specs.Refusals.{file_most}
use Rattle.record.specs.Record.{line_of}
use Rattle.record.proofs.RecordLaws.{line-alike}
use Rattle.number.specs.Words.{word_of}
use Rattle.number.specs.Number.{parted, is_note}
use Rattle.number.proofs.NumberLaws.{real-former, real-noted}
use Rattle.token.proofs.TokenLaws.{lex-former, lex-noted}
use Rattle.heading.specs.declared.Header.{Header}
use Rattle.header.specs.Header.{kind_said, is_named}
use Rattle.machine.specs.declared.State.{State}
use Rattle.machine.specs.declared.State.TheVariants.{Due, Field, Island, X, Y}
use Rattle.machine.specs.Machine.{is_due, want_of, field_of, step_of, of_token, one_of}
use Rattle.sheet.specs.Tables.{Tables, ring_after}
use Rattle.sheet.specs.Reading.{Sections, read, stop, sheet, refused, sections_of, meaning, reading}
use Rattle.sheet.specs.First.{Stage, word, name, scale, part, fault, given_by, front_of, Answers, refuses, passes, finishes}
use Rattle.sheet.specs.Notes.{HasNote, FirstNote, here, later, Retired}
use Rattle.sheet.proofs.Meaning.{sections-read, sections-refused, reading-long}
use Rattle.sheet.proofs.Modes.{meaning-widens, reading-widens}
use Rattle.sheet.proofs.First.{answers_one, file-answers, first-refused}

-- ---- one record

-- a note is 8 in loose mode
note-refused : (w : Stage) (bs : List ℕ) → HasNote w bs → given_by Loose w bs ≡ fault Refusal.Number
unfolding given_by one_of
note-refused word bs n = absurd (false≢true (unfold is_note parted all in n.note))
note-refused (name kind) bs n = absurd (false≢true (unfold is_note parted all in n.note))
note-refused scale bs n = rw (n.found, real-noted (take n.line.len bs) n.note)
note-refused (part st o) bs n = rw (n.found, lex-noted (want_of st) (take n.line.len bs) n.note)

step-alike : (st : State) (t next : ℕ) → step_of Loose st t next ≡ step_of Former st t next
unfolding step_of field_of
step-alike Due t next = refl
step-alike (Field kind p i) t next = refl
step-alike (Island l s r) t next = refl
step-alike (X r) t next = refl
step-alike (Y r x) t next = refl

token-alike : (st : State) (next len width : ℕ) (k : Result ℕ Refusal) → of_token Loose st next len width k ≡ of_token Former st next len width k
token-alike st next len width (Ok t) = rw (step-alike st t next)
token-alike st next len width (Err m) = refl

-- a record gives in loose mode what it gives in the former reading, or it has a note
given-former : (w : Stage) (bs : List ℕ) (P : Type 0) → (given_by Loose w bs ≡ given_by Former w bs → P) → (HasNote w bs → P) → P
unfolding given_by one_of
given-former word bs P same note = same (rw (line-alike Former Loose false bs refl) (unfold kind_said word_of in refl))
given-former (name kind) bs P same note = same (rw (line-alike Former Loose false bs refl) (unfold is_named word_of in refl))
given-former scale bs P same note = by (line_of Loose false bs) refl
  where
    by : (l : Result Line Refusal) → line_of Loose false bs ≡ l → P
    by (Ok l) e =
        real-former (take l.len bs) P (λ r. same (rw (line-alike Former Loose false bs refl, e, r)))
        (λ n. note (record { line = l; found = e; note = n }))
    by (Err m) e = same (rw (line-alike Former Loose false bs refl, e))
given-former (part st o) bs P same note = by (line_of Loose (is_due st) bs) refl
  where
    by : (l : Result Line Refusal) → line_of Loose (is_due st) bs ≡ l → P
    by (Ok l) e =
        lex-former (want_of st) (take l.len bs) P (λ r. same (rw (line-alike Former Loose (is_due st) bs refl, e, r, token-alike st (ring_after st o) l.len l.width)))
        (λ n. note (record { line = l; found = e; note = n }))
    by (Err m) e = same (rw (line-alike Former Loose (is_due st) bs refl, e))

-- ---- the records one after the other

note-answers : {w : Stage} {k a k' a' : ℕ} {bs : List ℕ} → FirstNote w k a bs k' a' → Answers Loose w k a bs (stop Refusal.Number k' a')
note-answers {w} {bs = bs} (here n) = refuses (note-refused w (front_of bs) n)
note-answers (later e f) = passes e (note-answers f)

answers-former : {w : Stage} {k a : ℕ} {bs : List ℕ} {s : Sections} → Answers Former w k a bs s → (P : Type 0) → (Answers Loose w k a bs s → P)
    → ((k' a' : ℕ) → FirstNote w k a bs k' a' → P) → P
answers-former {w} {k} {a} {bs} (refuses e) P same note = given-former w (front_of bs) P (λ q. same (refuses (q ∙ e))) (λ n. note k a (here n))
answers-former {w} {k} {a} {bs} (passes e x) P same note =
    given-former w (front_of bs) P (λ q. answers-former x P (λ y. same (passes (q ∙ e) y)) (λ k' a' f. note k' a' (later (q ∙ e) f))) (λ n. note k a (here n))
answers-former {w} {k} {a} {bs} (finishes e) P same note = given-former w (front_of bs) P (λ q. same (finishes (q ∙ e))) (λ n. note k a (here n))

-- ---- the file

-- the sections agree, so do the meanings: a header that is found is the same
same-meaning : (bs : List ℕ) → sections_of Loose bs ≡ sections_of Former bs → meaning Loose bs ≡ meaning Former bs
same-meaning bs e = by (sections_of Loose bs) refl
  where
    by : (s : Sections) → sections_of Loose bs ≡ s → meaning Loose bs ≡ meaning Former bs
    by (read o eof) q =
        let (h, m) = sections-read Loose bs o eof q in
        m ∙ sym (meaning-widens Loose Former refl bs h o m)
    by (stop m k at) q = sections-refused Loose bs m k at q ∙ sym (sections-refused Former bs m k at (sym e ∙ q))

-- **a file with a note meets 8 at the first record that has one**
pub note-meets : (bs : List ℕ) (k at : ℕ) → length bs ≤ file_most → FirstNote word 1 0 bs k at → reading Loose bs ≡ refused Refusal.Number k at
note-meets bs k at l f = first-refused Loose bs Refusal.Number k at l (note-answers f)

-- **loose mode answers as the former reading does, or it meets a note**
pub former-agrees : (bs : List ℕ) (P : Type 0) → (reading Loose bs ≡ reading Former bs → P) → (Retired bs → P) → P
former-agrees bs P same note = by (leb (length bs) file_most) refl
  where
    by : (x : Bool) → leb (length bs) file_most ≡ x → P
    by true e =
        answers-former (file-answers Former bs) P (λ y. same (unfold reading in rw e (same-meaning bs (answers_one (file-answers Loose bs) y))))
        (λ k a f. note (record { nth = k; offset = a; first = f; answer = note-meets bs k a (leb-true (length bs) file_most e) f }))
    by false e = let l = leb-false (length bs) file_most e in same (reading-long Loose bs l ∙ sym (reading-long Former bs l))

-- **what the former reading accepts and loose mode does not has a note, and is refused 8 at the first record that has one**
pub former-alone : (bs : List ℕ) (h : Header) (o : Tables) → reading Former bs ≡ sheet h o → (reading Loose bs ≡ sheet h o → ⊥) → Retired bs
former-alone bs h o q n = former-agrees bs (Retired bs) (λ e. absurd (n (e ∙ q))) (λ r. r)

-- **the former reading agrees with loose mode wherever that accepts**
pub loose-former : (bs : List ℕ) (h : Header) (o : Tables) → reading Loose bs ≡ sheet h o → reading Former bs ≡ sheet h o
loose-former = reading-widens Loose Former refl
