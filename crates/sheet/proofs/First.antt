-- The refusal that comes first: a reading is what its records give one by one, and the count that a walk goes by never decides.
-- Document 01, "Refusal numbers". Assumes nothing.
use mathlib.Core.Path.{◌≡◌, refl, sym, ◌∙◌, ap, subst}
use mathlib.Core.List.{List, []}
use mathlib.Core.Bool.{Bool, true, false, cond}
use Prim.Native.Nat.{ℕ, zero, suc, ◌+◌, ◌≤◌}
use native.Mathlib.Omega.{arith}
use lib.ListN.{length, take, drop, length-drop}
use lib.Seq.{drop-drop}
use lib.Dec.{leb, eqb}
use lib.IntN.{ℤ, pos}
use lib.Signed.{lt_z}
use borrow.Author.Tests.{le-leb}
use Rattle.std.proofs.lemmas.List.{nil_from_length}
use Rattle.std.specs.Prelude.{Option, Some, None, Result, Ok, Err}
use Rattle.laws.proofs.Choice.{cond-elim}
use Rattle.record.specs.declared.Mode.{Mode}
use Rattle.record.specs.declared.Line.{Line}
use Rattle.record.specs.declared.refusal.Refusal.{Refusal}
use Rattle.record.specs.Record.{got, line_of}
use Rattle.record.specs.Refusals.{file_most}
use Rattle.number.specs.Words.{trimmed}
use Rattle.number.specs.Number.{real_of}
use Rattle.header.specs.declared.Headed.{Headed}
use Rattle.header.specs.declared.Stopped.{Stopped}
use Rattle.header.specs.Header.{kind_said, is_named, of_scale, scale_line, head_scale, name_line, head_name, first_line, headed}
use Rattle.machine.specs.declared.State.{State}
use Rattle.machine.specs.declared.State.TheVariants.{Due}
use Rattle.machine.specs.declared.One.{One}
use Rattle.machine.specs.Machine.{is_due, one_of}
use Rattle.sheet.specs.Tables.{Tables, empty, put, ring_after}
use Rattle.sheet.specs.Reading.{Sections, stop, behind_eof, after, walk, walk_from, refused, beyond, sections_of, meaning, reading}
use Rattle.sheet.specs.First.{Stage, word, name, scale, part, Given, passed, fault, last, word_is, name_is, scale_is, of_head, of_part, given_by, front_of, past_front, Answers, refuses, passes, finishes}
use Rattle.sheet.proofs.Pass.{OneView, one-view}
use Rattle.sheet.proofs.Meaning.{sections-refused, refused-sections}
use Rattle.sheet.proofs.Alone.{line-width, given-alone, given-none}

-- ---- one answer

-- what an answer is, by what the first record gives
abbrev By : Mode → ℕ → ℕ → List ℕ → Sections → Given → Type 0
By mode k a bs s (passed w) = Answers mode w (k + 1) (a + length (front_of bs)) (past_front bs) s
By mode k a bs s (fault m) = s ≡ stop m k a
By mode k a bs s (last o) = s ≡ behind_eof mode o a (k + 1) (a + length (front_of bs)) (past_front bs)

answers_by : {mode : Mode} {w : Stage} {k a : ℕ} {bs : List ℕ} {s : Sections} → Answers mode w k a bs s → By mode k a bs s (given_by mode w (front_of bs))
answers_by {mode} {k = k} {a} {bs} {s} (refuses e) = subst (By mode k a bs s) (sym e) refl
answers_by {mode} {k = k} {a} {bs} {s} (passes e x) = subst (By mode k a bs s) (sym e) x
answers_by {mode} {k = k} {a} {bs} {s} (finishes e) = subst (By mode k a bs s) (sym e) refl

-- **the refusal is determined**: a file has one answer
pub answers_one : {mode : Mode} {w : Stage} {k a : ℕ} {bs : List ℕ} {s s' : Sections} → Answers mode w k a bs s → Answers mode w k a bs s' → s ≡ s'
answers_one {mode} {k = k} {a} {bs} {s' = s'} (refuses e) y = sym (subst (By mode k a bs s') e (answers_by y))
answers_one {mode} {k = k} {a} {bs} {s' = s'} (passes e x) y = answers_one x (subst (By mode k a bs s') e (answers_by y))
answers_one {mode} {k = k} {a} {bs} {s' = s'} (finishes e) y = sym (subst (By mode k a bs s') e (answers_by y))

-- ---- the sections

-- where no byte is left the record that is wanted is cut, which is what a count of 0 says
answers-none : (mode : Mode) (w : Stage) (k a : ℕ) (bs : List ℕ) → length bs ≤ 0 → Answers mode w k a bs (stop Refusal.Cut k a)
answers-none mode w k a bs h = subst (λ (z : List ℕ). Answers mode w k a z (stop Refusal.Cut k a)) (sym (nil_from_length bs (omega arith))) (refuses (given-alone mode w [] ∙ given-none mode w))

-- one record on
on : {mode : Mode} {w w' : Stage} {k a width : ℕ} {bs : List ℕ} {s : Sections} → given_by mode w (front_of bs) ≡ passed w' → width ≡ length (front_of bs)
    → Answers mode w' (k + 1) (a + width) (drop width bs) s → Answers mode w k a bs s
on {mode} {w' = w'} {k} {a} {bs = bs} {s} e q x = passes e (subst (λ (n : ℕ). Answers mode w' (k + 1) (a + n) (drop n bs) s) q x)

part_gives : (mode : Mode) (st : State) (o : Tables) (bs : List ℕ) (x : Result One Refusal) → one_of mode st (ring_after st o) bs ≡ x → given_by mode (part st o) (front_of bs) ≡ of_part st o bs x
unfolding given_by
part_gives mode st o bs x e = given-alone mode (part st o) bs ∙ ap (of_part st o bs) e

walk-answers : (f : ℕ) (mode : Mode) (st : State) (o : Tables) (k a : ℕ) (bs : List ℕ) → length bs ≤ f → Answers mode (part st o) k a bs (walk f mode st o k a bs)
unfolding walk
walk-answers zero mode st o k a bs h = answers-none mode (part st o) k a bs h
walk-answers (suc f) mode st o k a bs h =
    by (one_of mode st (ring_after st o) bs) refl (one-view mode st (ring_after st o) bs) (λ st₁ o₁ a₁ bs₁ l. walk-answers f mode st₁ o₁ (k + 1) a₁ bs₁ l)
  where
    by : (x : Result One Refusal) → one_of mode st (ring_after st o) bs ≡ x → OneView mode st (ring_after st o) bs x
        → ((st₁ : State) (o₁ : Tables) (a₁ : ℕ) (bs₁ : List ℕ) → length bs₁ ≤ f → Answers mode (part st₁ o₁) (k + 1) a₁ bs₁ (walk f mode st₁ o₁ (k + 1) a₁ bs₁))
        → Answers mode (part st o) k a bs (after mode st o k a bs (λ st' o' at' bs'. walk f mode st' o' (k + 1) at' bs') x)
    by (Ok (One.Go st₁ t len width)) e v ih =
        on (part_gives mode st o bs (Ok (One.Go st₁ t len width)) e) (line-width mode (is_due st) bs len width v.found)
        (ih st₁ (put st t (take len bs) o) (a + width) (drop width bs) (omega (arith, v.line.some, length-drop width bs)))
    by (Err m) e v ih = refuses (part_gives mode st o bs (Err m) e)
    by (Ok (One.End width)) e v ih =
        subst (λ (n : ℕ). Answers mode (part st o) k a bs (behind_eof mode o a (k + 1) (a + n) (drop n bs))) (sym (line-width mode (is_due st) bs v.len width v.found))
        (finishes (part_gives mode st o bs (Ok (One.End width)) e))

-- **the count never decides**: two counts that are enough give one walk
pub walk-count : (f g : ℕ) (mode : Mode) (st : State) (o : Tables) (k a : ℕ) (bs : List ℕ) → length bs ≤ f → length bs ≤ g
    → walk f mode st o k a bs ≡ walk g mode st o k a bs
walk-count f g mode st o k a bs h l = answers_one (walk-answers f mode st o k a bs h) (walk-answers g mode st o k a bs l)

-- ---- the header

-- where the sections begin, an answer of theirs is one of the file
abbrev HeadGives : Mode → List ℕ → Stage → ℕ → ℕ → List ℕ → Result Headed Stopped → Type 0
HeadGives mode file w k a bs (Ok h) = (s : Sections) → Answers mode (part Due empty) 4 h.at (drop h.at file) s → Answers mode w k a bs s
HeadGives mode file w k a bs (Err x) = Answers mode w k a bs (stop x.refusal x.«record» x.offset)

module _ (mode : Mode) (file : List ℕ) where
  head-on : (w w' : Stage) (k a width : ℕ) (bs : List ℕ) → given_by mode w (front_of bs) ≡ passed w' → width ≡ length (front_of bs) → (x : Result Headed Stopped)
      → HeadGives mode file w' (k + 1) (a + width) (drop width bs) x → HeadGives mode file w k a bs x
  head-on w w' k a width bs e q (Ok h) g = λ s y. on e q (g s y)
  head-on w w' k a width bs e q (Err x) g = on e q g

  further : (a width : ℕ) (bs : List ℕ) → bs ≡ drop a file → drop width bs ≡ drop (a + width) file
  further a width bs q = ap (drop width) q ∙ drop-drop width a file

  scale-answers : (kind : ℕ) (n : List ℕ) (a : ℕ) (bs : List ℕ) → bs ≡ drop a file → HeadGives mode file scale 3 a bs (head_scale mode kind n a bs)
  unfolding head_scale given_by
  scale-answers kind n a bs q = by-line (line_of mode false bs) refl
    where
      gives : (l : Result Line Refusal) → line_of mode false bs ≡ l → given_by mode scale (front_of bs) ≡ of_head (λ c. scale_is (real_of mode c)) bs l
      gives l e = given-alone mode scale bs ∙ ap (of_head (λ c. scale_is (real_of mode c)) bs) e

      by-real : (len width : ℕ) → line_of mode false bs ≡ got len width → (d : Option ℤ) → real_of mode (take len bs) ≡ d → HeadGives mode file scale 3 a bs (of_scale kind n a width d)
      by-real len width e (Some z) r =
          cond-elim (HeadGives mode file scale 3 a bs) (lt_z (pos 0) z) _ _
          (λ t. λ s y. on (gives (got len width) e ∙ rw (r, t)) (line-width mode false bs len width e)
          (subst (λ (x : List ℕ). Answers mode (part Due empty) 4 (a + width) x s) (sym (further a width bs q)) y))
          (λ t. refuses {m = Refusal.Header} (gives (got len width) e ∙ rw (r, t)))
      by-real len width e None r = refuses {m = Refusal.Number} (gives (got len width) e ∙ rw r)

      by-line : (l : Result Line Refusal) → line_of mode false bs ≡ l → HeadGives mode file scale 3 a bs (scale_line mode kind n a bs l)
      by-line (Ok l) e = by-real l.len l.width e (real_of mode (take l.len bs)) refl
      by-line (Err m) e = refuses (gives (Err m) e)

  name-answers : (kind a : ℕ) (bs : List ℕ) → bs ≡ drop a file → HeadGives mode file (name kind) 2 a bs (head_name mode kind a bs)
  unfolding head_name given_by
  name-answers kind a bs q = by-line (line_of mode false bs) refl
    where
      gives : (l : Result Line Refusal) → line_of mode false bs ≡ l → given_by mode (name kind) (front_of bs) ≡ of_head (name_is mode kind) bs l
      gives l e = given-alone mode (name kind) bs ∙ ap (of_head (name_is mode kind) bs) e

      by-line : (l : Result Line Refusal) → line_of mode false bs ≡ l → HeadGives mode file (name kind) 2 a bs (name_line mode kind a bs l)
      by-line (Ok l) e =
          cond-elim (HeadGives mode file (name kind) 2 a bs) (is_named mode kind (take l.len bs)) _ _
          (λ t. head-on (name kind) scale 2 a l.width bs (gives (Ok l) e ∙ rw t) (line-width mode false bs l.len l.width e) (head_scale mode kind (trimmed (take l.len bs)) (a + l.width) (drop l.width bs))
          (scale-answers kind (trimmed (take l.len bs)) (a + l.width) (drop l.width bs) (further a l.width bs q)))
          (λ t. refuses {m = Refusal.Header} (gives (Ok l) e ∙ rw t))
      by-line (Err m) e = refuses (gives (Err m) e)

  head-answers : HeadGives mode file word 1 0 file (headed mode file)
  unfolding headed given_by
  head-answers = by-line (line_of mode false file) refl
    where
      gives : (l : Result Line Refusal) → line_of mode false file ≡ l → given_by mode word (front_of file) ≡ of_head (word_is mode) file l
      gives l e = given-alone mode word file ∙ ap (of_head (word_is mode) file) e

      by-line : (l : Result Line Refusal) → line_of mode false file ≡ l → HeadGives mode file word 1 0 file (first_line mode file l)
      by-line (Ok l) e =
          let kind = kind_said mode (take l.len file) in
          cond-elim (HeadGives mode file word 1 0 file) (eqb kind 0) _ _
          (λ t. refuses {m = Refusal.Header} (gives (Ok l) e ∙ rw t))
          (λ t. head-on word (name kind) 1 0 l.width file (gives (Ok l) e ∙ rw t) (line-width mode false file l.len l.width e) (head_name mode kind l.width (drop l.width file))
          (subst (λ (a : ℕ). HeadGives mode file (name kind) 2 a (drop l.width file) (head_name mode kind l.width (drop l.width file))) (let z : l.width ≡ 0 + l.width = omega arith in z)
          (name-answers kind l.width (drop l.width file) refl)))
      by-line (Err m) e = refuses (gives (Err m) e)

  -- ---- the file

  pub file-answers : Answers mode word 1 0 file (sections_of mode file)
  unfolding sections_of walk_from
  file-answers = by (headed mode file) head-answers
    where
      by : (x : Result Headed Stopped) → HeadGives mode file word 1 0 file x → Answers mode word 1 0 file (beyond mode file x)
      by (Ok h) g =
          g (walk (length file) mode Due empty 4 h.at (drop h.at file)) (walk-answers (length file) mode Due empty 4 h.at (drop h.at file) (omega (arith, length-drop h.at file)))
      by (Err x) g = g

-- the refusal that comes first, the length limit apart
pub meaning-first : (mode : Mode) (bs : List ℕ) (m : Refusal) (k at : ℕ) → meaning mode bs ≡ refused m k at → Answers mode word 1 0 bs (stop m k at)
meaning-first mode bs m k at q = subst (Answers mode word 1 0 bs) (refused-sections mode bs m k at q) (file-answers mode bs)

-- **refused first**: where a reading is refused, the records before that one are passed one by one, it alone gives the refusal, and its
-- place is its own. (1 is refused before any record: `reading-long`, `long-reading`)
pub refused-first : (mode : Mode) (bs : List ℕ) (m : Refusal) (k at : ℕ) → reading mode bs ≡ refused m k at → (m ≡ Refusal.TooLong → ⊥) → Answers mode word 1 0 bs (stop m k at)
unfolding reading
refused-first mode bs m k at q n = by (leb (length bs) file_most) q
  where
    by : (b : Bool) → cond b (meaning mode bs) (refused Refusal.TooLong 0 0) ≡ refused m k at → Answers mode word 1 0 bs (stop m k at)
    by true q = meaning-first mode bs m k at q
    by false q = absurd (n (let z : m ≡ Refusal.TooLong = cc in z))

-- **and the other way**: the first record that is refused alone is the reading's refusal
pub first-refused : (mode : Mode) (bs : List ℕ) (m : Refusal) (k at : ℕ) → length bs ≤ file_most → Answers mode word 1 0 bs (stop m k at) → reading mode bs ≡ refused m k at
unfolding reading
first-refused mode bs m k at l x = rw (le-leb (length bs) file_most l) (sections-refused mode bs m k at (answers_one (file-answers mode bs) x))
