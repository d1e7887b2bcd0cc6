-- The numbers that a reading refuses by: 1 to 13, where the mode is not exact without 3, 10 and 13, and 1 for a file that is too long alone. Assumes nothing.
use mathlib.Core.Path.{◌≡◌, refl, sym, ◌∙◌, ap, subst}
use mathlib.Core.List.{List, [], ◌∷◌}
use mathlib.Core.Bool.{Bool, true, false, cond, not, ◌&&◌, ◌||◌}
use Prim.Native.Nat.{ℕ, ◌+◌, ◌*◌, ◌/◌, ◌≤◌, ◌<◌}
use native.Mathlib.Omega.{arith}
use lib.ListN.{length, take, drop}
use lib.Dec.{leb, ltb, eqb}
use lib.IntN.{ℤ, pos}
use lib.Signed.{lt_z}
use borrow.Author.Tests.{leb-true, leb-false, not-false}
use Rattle.std.proofs.lemmas.Bool.{or_parts}
use Rattle.std.specs.Prelude.{Option, Some, None, Result, Ok, Err}
use Rattle.laws.specs.Lists.{run, all, same, place}
use Rattle.laws.proofs.Choice.{and_left, and_right, cond-elim, true≢false, false≢true}
use Rattle.record.specs.declared.Mode.{Mode}
use Rattle.record.specs.declared.Mode.TheVariants.{Loose, Exact, Former}
use Rattle.record.specs.declared.Line.{Line}
use Rattle.record.specs.declared.refusal.Refusal.{Refusal}
use Rattle.record.specs.Record.{is_exact, plain, not_lf, word_eof, ends_cr, content, content_is, line_is, line_of}
use Rattle.record.specs.Refusals.{number_of, line_end, unlisted_code, after_eof, file_most}
use Rattle.number.specs.declared.Word.{Word}
use Rattle.number.specs.Words.{word_of}
use Rattle.number.specs.Number.{integer_of, real_of}
use Rattle.token.specs.declared.Want.{Want}
use Rattle.token.specs.declared.Want.TheVariants.{Key, Text, Int, Real}
use Rattle.token.specs.Lex.{keywords, is_marked, key_of, of_key, of_text, of_whole, of_decimal, lex_of}
use Rattle.header.specs.Header.{kind_said, is_named}
use Rattle.kinds.specs.Kinds.{next_of, fixed_vertices, is_listed}
use Rattle.machine.specs.Machine.{want_of, is_due, Step, vertices_of, fields_end, field_of, island_of, is_shut, ring_step, vertex_of, key_step, step_of, of_step, of_token, of_line, one_of}
use Rattle.machine.specs.declared.State.{State}
use Rattle.machine.specs.declared.State.TheVariants.{Due, Field, Island, X, Y}
use Rattle.machine.specs.declared.One.{One}
use Rattle.sheet.specs.Tables.{Tables, ring_after}
use Rattle.sheet.specs.Reading.{Sections, read, stop, behind_eof, refused, meaning, reading}
use Rattle.sheet.specs.First.{Stage, word, name, scale, part, Given, passed, fault, last, word_is, name_is, scale_is, of_head, of_part, given_by, front_of, past_front, Answers, refuses, passes, finishes}
use Rattle.sheet.proofs.First.{meaning-first}

-- the numbers that a record's refusal can have: 2 to 13, and 3, 10 and 13 in exact mode alone
abbrev pub may_give : Mode → ℕ → Bool
may_give mode m = leb 2 m && leb m 13 && (not (eqb m line_end || eqb m unlisted_code || eqb m after_eof) || is_exact mode)

abbrev Known : Mode → Refusal → Type 0
Known mode m = may_give mode (number_of m) ≡ true

exactly : (mode : Mode) (m : Refusal) → is_exact mode ≡ true → Known Exact m → Known mode m
exactly Exact m e k = k
exactly Loose m e k = absurd (false≢true e)
exactly Former m e k = absurd (false≢true e)

-- ---- a record, a content, a step

abbrev LineKnown : Mode → Result Line Refusal → Type 0
LineKnown mode (Ok l) = Unit {0}
LineKnown mode (Err m) = Known mode m

line_known : (mode : Mode) (due : Bool) (bs : List ℕ) → LineKnown mode (line_of mode due bs)
unfolding line_of line_is content_is
line_known mode due bs =
    let Q = LineKnown mode in
    let line = take (run not_lf bs) bs in
    cond-elim Q (ltb (run not_lf bs) (length bs)) _ _
    (λ _. cond-elim Q (ends_cr line || not (is_exact mode)) _ _
    (λ _. cond-elim Q (leb (length (content line)) 255) _ _ (λ _. cond-elim Q (all plain (content line)) _ _ (λ _. tt) (λ _. refl)) (λ _. refl))
    (λ e. exactly mode Refusal.LineEnd (not-false (is_exact mode) (or_parts (ends_cr line) (not (is_exact mode)) e).1) refl))
    (λ _. cond-elim Q (not (is_exact mode) && due && same bs word_eof) _ _ (λ _. tt) (λ _. refl))

abbrev TokenKnown : Mode → Result ℕ Refusal → Type 0
TokenKnown mode (Ok t) = Unit {0}
TokenKnown mode (Err m) = Known mode m

key-known : (mode : Mode) (w : List ℕ) → TokenKnown mode (key_of w)
unfolding key_of
key-known mode w =
    let Q = TokenKnown mode in
    cond-elim Q (same w word_eof) _ _ (λ _. tt)
    (λ _. cond-elim Q (leb 1 (place 1 keywords w)) _ _ (λ _. tt) (λ _. cond-elim Q (is_marked w) _ _ (λ _. tt) (λ _. refl)))

lex-known : (mode : Mode) (want : Want) (c : List ℕ) → TokenKnown mode (lex_of mode want c)
unfolding lex_of
lex-known mode Key c = go (word_of mode c)
  where
    go : (w : Option Word) → TokenKnown mode (of_key c w)
    go (Some w) = key-known mode (take w.len (drop w.start c))
    go None = refl
lex-known mode Text c = go (word_of mode c)
  where
    go : (w : Option Word) → TokenKnown mode (of_text w)
    go (Some w) = cond-elim (TokenKnown mode) (eqb w.len 0) _ _ (λ _. refl) (λ _. tt)
    go None = refl
lex-known mode Int c = go (integer_of mode c)
  where
    go : (w : Option ℕ) → TokenKnown mode (of_whole w)
    go (Some n) = tt
    go None = refl
lex-known mode Real c = go (real_of mode c)
  where
    go : (w : Option ℤ) → TokenKnown mode (of_decimal w)
    go (Some z) = tt
    go None = refl

abbrev StepKnown : Mode → Step → Type 0
StepKnown mode (Ok s) = Unit {0}
StepKnown mode (Err m) = Known mode m

vertices-known : (mode : Mode) (kind i n : ℕ) → StepKnown mode (vertices_of kind i n)
unfolding vertices_of
vertices-known mode kind i n =
    let Q = StepKnown mode in
    cond-elim Q (eqb kind 1) _ _
    (λ _. cond-elim Q (leb (4 + 4 * i) n) _ _ (λ _. cond-elim Q (eqb i 0) _ _ (λ _. tt) (λ _. tt)) (λ _. refl))
    (λ _. cond-elim Q (leb 2 n) _ _ (λ _. tt) (λ _. refl))

fields-known : (mode : Mode) (kind : ℕ) → StepKnown mode (fields_end kind)
unfolding fields_end
fields-known mode kind = cond-elim (StepKnown mode) (eqb (fixed_vertices kind) 0) _ _ (λ _. tt) (λ _. vertices-known mode kind 0 (fixed_vertices kind))

step-known : (mode : Mode) (st : State) (t next : ℕ) → StepKnown mode (step_of mode st t next)
unfolding step_of key_step field_of island_of vertex_of ring_step
step-known mode Due t next =
    let Q = StepKnown mode in
    cond-elim Q (eqb t 0) _ _ (λ _. tt) (λ _. cond-elim Q (eqb (next_of (t / 2) 0) 0) _ _ (λ _. refl) (λ _. tt))
step-known mode (Field kind p i) t next =
    let Q = StepKnown mode in
    cond-elim Q (eqb p 2 && is_exact mode && not (is_listed kind t)) _ _
    (λ e. exactly mode Refusal.Code (and_right (eqb p 2) (is_exact mode) (and_left (eqb p 2 && is_exact mode) (not (is_listed kind t)) e)) refl)
    (λ _. cond-elim Q (eqb p 11) _ _ (λ _. vertices-known mode kind i t)
    (λ _. cond-elim Q (eqb (next_of kind p) 0) _ _ (λ _. fields-known mode kind) (λ _. tt)))
step-known mode (Island l s r) t next =
    let Q = StepKnown mode in
    cond-elim Q (leb 4 t && leb (t + 4) s) _ _ (λ _. cond-elim Q (leb l 1) _ _ (λ _. tt) (λ _. tt)) (λ _. refl)
step-known mode (X r) t next = tt
step-known mode (Y r x) t next =
    let Q = StepKnown mode in
    cond-elim Q (leb r.left 1) _ _
    (λ _. cond-elim Q (is_shut r.closed _ _ x t) _ _ (λ _. cond-elim Q (eqb r.rings 0) _ _ (λ _. tt) (λ _. tt)) (λ _. refl))
    (λ _. tt)

abbrev OneKnown : Mode → Result One Refusal → Type 0
OneKnown mode (Ok x) = Unit {0}
OneKnown mode (Err m) = Known mode m

one_known : (mode : Mode) (st : State) (next : ℕ) (bs : List ℕ) → OneKnown mode (one_of mode st next bs)
unfolding one_of
one_known mode st next bs = by-line (line_of mode (is_due st) bs) (line_known mode (is_due st) bs)
  where
    by-step : (t len width : ℕ) (s : Step) → StepKnown mode s → OneKnown mode (of_step t len width s)
    by-step t len width (Ok (Some st')) k = tt
    by-step t len width (Ok None) k = tt
    by-step t len width (Err m) k = k

    by_token : (len width : ℕ) (k : Result ℕ Refusal) → TokenKnown mode k → OneKnown mode (of_token mode st next len width k)
    by_token len width (Ok t) k = by-step t len width (step_of mode st t next) (step-known mode st t next)
    by_token len width (Err m) k = k

    by-line : (l : Result Line Refusal) → LineKnown mode l → OneKnown mode (of_line mode st next bs l)
    by-line (Ok l) k = by_token l.len l.width (lex_of mode (want_of st) (take l.len bs)) (lex-known mode (want_of st) (take l.len bs))
    by-line (Err m) k = k

-- ---- what a record gives, an answer

abbrev GivenKnown : Mode → Given → Type 0
GivenKnown mode (passed w) = Unit {0}
GivenKnown mode (fault m) = Known mode m
GivenKnown mode (last o) = Unit {0}

given-known : (mode : Mode) (w : Stage) (bs : List ℕ) → GivenKnown mode (given_by mode w bs)
unfolding given_by
given-known mode w bs = by w
  where
    head : (f : List ℕ → Given) → ((c : List ℕ) → GivenKnown mode (f c)) → (l : Result Line Refusal) → LineKnown mode l → GivenKnown mode (of_head f bs l)
    head f h (Ok l) k = h (take l.len bs)
    head f h (Err m) k = k

    real : (d : Option ℤ) → GivenKnown mode (scale_is d)
    real (Some z) = cond-elim (GivenKnown mode) (lt_z (pos 0) z) _ _ (λ _. tt) (λ _. refl)
    real None = refl

    one : (st : State) (o : Tables) (x : Result One Refusal) → OneKnown mode x → GivenKnown mode (of_part st o bs x)
    one st o (Ok (One.Go st' t len width)) k = tt
    one st o (Ok (One.End width)) k = tt
    one st o (Err m) k = k

    by : (w : Stage) → GivenKnown mode (given_by mode w bs)
    by word = head (word_is mode) (λ c. cond-elim (GivenKnown mode) (eqb (kind_said mode c) 0) _ _ (λ _. refl) (λ _. tt)) (line_of mode false bs) (line_known mode false bs)
    by (name kind) = head (name_is mode kind) (λ c. cond-elim (GivenKnown mode) (is_named mode kind c) _ _ (λ _. tt) (λ _. refl)) (line_of mode false bs) (line_known mode false bs)
    by scale = head (λ c. scale_is (real_of mode c)) (λ c. real (real_of mode c)) (line_of mode false bs) (line_known mode false bs)
    by (part st o) = one st o (one_of mode st (ring_after st o) bs) (one_known mode st (ring_after st o) bs)

abbrev SectionsKnown : Mode → Sections → Type 0
SectionsKnown mode (read o eof) = Unit {0}
SectionsKnown mode (stop m k at) = Known mode m

ended-known : (mode : Mode) (o : Tables) (eof k a : ℕ) (bs : List ℕ) → SectionsKnown mode (behind_eof mode o eof k a bs)
ended-known Exact o eof k a [] = tt
ended-known Exact o eof k a (b ∷ bs) = refl
ended-known Loose o eof k a bs = tt
ended-known Former o eof k a bs = tt

answers-known : {mode : Mode} {w : Stage} {k a : ℕ} {bs : List ℕ} {s : Sections} → Answers mode w k a bs s → SectionsKnown mode s
answers-known {mode} {w} {bs = bs} (refuses e) = subst (GivenKnown mode) e (given-known mode w (front_of bs))
answers-known (passes e x) = answers-known x
answers-known {mode} {k = k} {a} {bs} (finishes {o = o} e) = ended-known mode o a (k + 1) (a + length (front_of bs)) (past_front bs)

-- ---- the file

-- the numbers of a meaning
pub meaning-numbers : (mode : Mode) (bs : List ℕ) (m : Refusal) (k at : ℕ) → meaning mode bs ≡ refused m k at → may_give mode (number_of m) ≡ true
meaning-numbers mode bs m k at q = answers-known (meaning-first mode bs m k at q)

-- the file is too long, or its meaning is refused
by_length : (mode : Mode) (bs : List ℕ) (m : Refusal) (k at : ℕ) (P : Type 0) → reading mode bs ≡ refused m k at
    → (file_most < length bs → m ≡ Refusal.TooLong → P) → (meaning mode bs ≡ refused m k at → P) → P
unfolding reading
by_length mode bs m k at P q f g = by (leb (length bs) file_most) refl q
  where
    by : (b : Bool) → leb (length bs) file_most ≡ b → cond b (meaning mode bs) (refused Refusal.TooLong 0 0) ≡ refused m k at → P
    by true e q = g q
    by false e q = f (leb-false (length bs) file_most e) (let z : m ≡ Refusal.TooLong = cc in z)

-- a reading's refusals are those of the paper
pub reading-numbers : (mode : Mode) (bs : List ℕ) (m : Refusal) (k at : ℕ) → reading mode bs ≡ refused m k at → (1 ≤ number_of m) × (number_of m ≤ 13)
reading-numbers mode bs m k at q =
    let n = number_of m in
    by_length mode bs m k at ((1 ≤ n) × (n ≤ 13)) q (λ l e. let one : n ≡ 1 = ap number_of e in (omega arith, omega arith))
    (λ r. let v = and_left (leb 2 n && leb n 13) (not (eqb n line_end || eqb n unlisted_code || eqb n after_eof) || is_exact mode) (meaning-numbers mode bs m k at r) in
    (omega (arith, leb-true 2 n (and_left (leb 2 n) (leb n 13) v)), leb-true n 13 (and_right (leb 2 n) (leb n 13) v)))

-- **1 is the file's own**: it is given only where the file is too long (and there it is: `reading-long`)
pub long-reading : (mode : Mode) (bs : List ℕ) (k at : ℕ) → reading mode bs ≡ refused Refusal.TooLong k at → file_most < length bs
long-reading mode bs k at q =
    by_length mode bs Refusal.TooLong k at (file_most < length bs) q (λ l e. l) (λ r. absurd (false≢true (meaning-numbers mode bs Refusal.TooLong k at r)))

-- **3, 10 and 13 come in exact mode alone**
pub loose-never : (mode : Mode) (bs : List ℕ) (m : Refusal) (k at : ℕ) → is_exact mode ≡ false → reading mode bs ≡ refused m k at
    → (number_of m ≡ line_end → ⊥) × (number_of m ≡ unlisted_code → ⊥) × (number_of m ≡ after_eof → ⊥)
loose-never mode bs m k at x q = (never line_end (omega arith) x, never unlisted_code (omega arith) x, never after_eof (omega arith) x)
  where
    never : (n : ℕ) → 1 < n → may_give mode n ≡ false → number_of m ≡ n → ⊥
    never n above f e =
        by_length mode bs m k at ⊥ q (λ l long. let one : number_of m ≡ 1 = ap number_of long in omega arith)
        (λ r. true≢false (sym (subst (λ (j : ℕ). may_give mode j ≡ true) e (meaning-numbers mode bs m k at r)) ∙ f))
