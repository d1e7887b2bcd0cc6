-- The column of a reading is document 02's (T-04): 8 carries that of its record's content, as what is due there; all other refusals carry 0; and the
-- column decides nothing else. Assumes nothing.
use Rattle.std.specs.Prelude.{Option, Some, None, Result, Ok, Err}
use Rattle.record.specs.declared.refusal.Refusal.{Refusal}
use Rattle.record.specs.declared.refusal.Refusal.TheVariants as Refusal
use Rattle.header.specs.declared.Stopped.{Stopped}
use Rattle.machine.specs.Machine.{Step}
use Rattle.record.specs.Record.{got}
use mathlib.Core.Path.{◌≡◌, refl, sym, ◌∙◌, ap, subst}
use mathlib.Core.Bool.{Bool, true, false, cond, not, ◌&&◌, ◌||◌}
use mathlib.Core.List.{List, [], ◌∷◌, ◌++◌, append_assoc}
use Prim.Native.Nat.{ℕ, zero, suc, ◌+◌, ◌*◌, ◌/◌}
use native.Mathlib.Omega.{arith}
use lib.ListN.{length, take, drop, length-append}
use lib.Seq.{drop-drop, drop-append_seam}
use lib.Dec.{leb, ltb, eqb}
use lib.IntN.{ℤ, pos}
use lib.Signed.{lt_z}
use Rattle.laws.specs.Lists.{run, all, same, place}
use Rattle.laws.proofs.Choice.{cond-elim, false≢true}
use Rattle.record.specs.declared.Mode.{Mode}
use Rattle.record.specs.declared.Mode.TheVariants.{Loose, Exact, Former}
use Rattle.record.specs.declared.Line.{Line}
use Rattle.record.specs.Record.{is_exact, plain, not_lf, word_eof, ends_cr, content, content_is, line_is, line_of}
use Rattle.record.specs.Refusals.{malformed, file_most, number_of}
use Rattle.number.specs.declared.Word.{Word}
use Rattle.number.specs.Words.{word_of, trimmed}
use Rattle.number.specs.Number.{real_of}
use Rattle.token.specs.declared.Want.{Want}
use Rattle.token.specs.declared.Want.TheVariants.{Key, Text, Int, Real}
use Rattle.token.specs.Lex.{keywords, is_marked, key_of, of_key, of_text, lex_of}
use Rattle.column.specs.Column.{IsColumn}
use Rattle.column.specs.Columns.{accepts_as, is_number, refusal_column}
use Rattle.column.proofs.PlacedLaws.{refusal-column, other-column}
use Rattle.header.specs.declared.Headed.{Headed}
use Rattle.header.specs.Header.{kind_said, is_named, of_scale, scale_line, head_scale, name_line, head_name, first_line, headed}
use Rattle.kinds.specs.Kinds.{next_of, fixed_vertices, is_listed}
use Rattle.machine.specs.Machine.{want_of, is_due, vertices_of, fields_end, field_of, island_of, is_shut, ring_step, vertex_of, key_step, step_of, of_step, of_token, of_line, one_of}
use Rattle.machine.specs.declared.State.{State}
use Rattle.machine.specs.declared.State.TheVariants.{Due, Field, Island, X, Y}
use Rattle.machine.specs.declared.One.{One}
use Rattle.sheet.specs.Tables.{Tables, empty, put, ring_after}
use Rattle.sheet.specs.Reading.{Sections, read, stop, behind_eof, after, walk, walk_from, Reading, sheet, refused, under, meant, meaning, reading}
use Rattle.sheet.proofs.Pass.{Pass, done, more, OneView, one-view}
use Rattle.reader.specs.Columns.{due_after, due_at, due_from, column_from, reading_column}
use Rattle.reader.specs.Read as Read
use Rattle.reader.specs.Read.{Answer, Rooms, needs_of, holds_all, stopped_at, read_with, refused_in, refused_with, answered, read_of, offset_of, column_of}
use Rattle.reader.specs.declared.Unread.TheVariants as Unread
use Rattle.reader.proofs.Aiming.{column-is}

-- ---- 8 is given for a content that is no number, where one is due, and for nothing else

abbrev Other : Refusal → Type 0
Other m = m ≡ Refusal.Number → ⊥

abbrev LineOther : Result Line Refusal → Type 0
LineOther (Ok x) = Unit {0}
LineOther (Err m) = Other m

line_other : (mode : Mode) (due : Bool) (bs : List ℕ) → LineOther (line_of mode due bs)
unfolding line_of line_is content_is
line_other mode due bs =
    let Q = LineOther in
    let line = take (run not_lf bs) bs in
    cond-elim Q (ltb (run not_lf bs) (length bs)) _ _
    (λ _. cond-elim Q (ends_cr line || not (is_exact mode)) _ _
    (λ _. cond-elim Q (leb (length (content line)) 255) _ _ (λ _. cond-elim Q (all plain (content line)) _ _ (λ _. tt) (λ _ e. cc)) (λ _ e. cc))
    (λ _ e. cc))
    (λ _. cond-elim Q (not (is_exact mode) && due && same bs word_eof) _ _ (λ _. tt) (λ _ e. cc))

-- a keyword and letters are refused by other numbers
abbrev TokenOther : Want → Result ℕ Refusal → Type 0
TokenOther want (Ok t) = Unit {0}
TokenOther want (Err m) = m ≡ Refusal.Number → is_number want ≡ true

lex-other : (mode : Mode) (want : Want) (c : List ℕ) → TokenOther want (lex_of mode want c)
unfolding lex_of key_of
lex-other mode Key c = go (word_of mode c)
  where
    go : (w : Option Word) → TokenOther Key (of_key c w)
    go (Some x) =
        let Q = TokenOther Key in
        let w = take x.len (drop x.start c) in
        cond-elim Q (same w word_eof) _ _ (λ _. tt)
        (λ _. cond-elim Q (leb 1 (place 1 keywords w)) _ _ (λ _. tt) (λ _. cond-elim Q (is_marked w) _ _ (λ _. tt) (λ _ e. absurd (cc))))
    go None = λ e. absurd (cc)
lex-other mode Text c = go (word_of mode c)
  where
    go : (w : Option Word) → TokenOther Text (of_text w)
    go (Some w) = cond-elim (TokenOther Text) (eqb w.len 0) _ _ (λ _ e. absurd (cc)) (λ _. tt)
    go None = λ e. absurd (cc)
lex-other mode Int c = number Int refl (lex_of mode Int c)
  where
    number : (want : Want) → is_number want ≡ true → (k : Result ℕ Refusal) → TokenOther want k
    number want n (Ok t) = tt
    number want n (Err m) = λ e. n
lex-other mode Real c = number Real refl (lex_of mode Real c)
  where
    number : (want : Want) → is_number want ≡ true → (k : Result ℕ Refusal) → TokenOther want k
    number want n (Ok t) = tt
    number want n (Err m) = λ e. n

abbrev StepOther : Step → Type 0
StepOther (Ok (Some st)) = Unit {0}
StepOther (Err m) = Other m
StepOther (Ok None) = Unit {0}

vertices-other : (kind i n : ℕ) → StepOther (vertices_of kind i n)
unfolding vertices_of
vertices-other kind i n =
    let Q = StepOther in
    cond-elim Q (eqb kind 1) _ _
    (λ _. cond-elim Q (leb (4 + 4 * i) n) _ _ (λ _. cond-elim Q (eqb i 0) _ _ (λ _. tt) (λ _. tt)) (λ _ e. cc))
    (λ _. cond-elim Q (leb 2 n) _ _ (λ _. tt) (λ _ e. cc))

end-other : (kind : ℕ) → StepOther (fields_end kind)
unfolding fields_end
end-other kind = cond-elim StepOther (eqb (fixed_vertices kind) 0) _ _ (λ _. tt) (λ _. vertices-other kind 0 (fixed_vertices kind))

step_other : (mode : Mode) (st : State) (t next : ℕ) → StepOther (step_of mode st t next)
unfolding step_of key_step field_of island_of vertex_of ring_step
step_other mode Due t next =
    let Q = StepOther in
    cond-elim Q (eqb t 0) _ _ (λ _. tt) (λ _. cond-elim Q (eqb (next_of (t / 2) 0) 0) _ _ (λ _ e. cc) (λ _. tt))
step_other mode (Field kind p i) t next =
    let Q = StepOther in
    cond-elim Q (eqb p 2 && is_exact mode && not (is_listed kind t)) _ _ (λ _ e. cc)
    (λ _. cond-elim Q (eqb p 11) _ _ (λ _. vertices-other kind i t)
    (λ _. cond-elim Q (eqb (next_of kind p) 0) _ _ (λ _. end-other kind) (λ _. tt)))
step_other mode (Island l s r) t next =
    let Q = StepOther in
    cond-elim Q (leb 4 t && leb (t + 4) s) _ _ (λ _. cond-elim Q (leb l 1) _ _ (λ _. tt) (λ _. tt)) (λ _ e. cc)
step_other mode (X r) t next = tt
step_other mode (Y r x) t next =
    let Q = StepOther in
    cond-elim Q (leb r.left 1) _ _
    (λ _. cond-elim Q (is_shut r.closed _ _ x t) _ _ (λ _. cond-elim Q (eqb r.rings 0) _ _ (λ _. tt) (λ _. tt)) (λ _ e. cc))
    (λ _. tt)

-- the record at the front holds a content that is malformed as the number that it was to be read as
pub record MalformedAs (mode : Mode) (want : Want) (bs : List ℕ) : Type 0 where
  pub number : is_number want ≡ true
  pub len : ℕ
  pub width : ℕ
  pub line : line_of mode false bs ≡ got len width
  pub bad : lex_of mode want (take len bs) ≡ Err Refusal.Number

not-due : (st : State) → is_number (want_of st) ≡ true → is_due st ≡ false
unfolding want_of
not-due Due e = absurd (false≢true e)
not-due (Field k p i) e = refl
not-due (Island l s r) e = refl
not-due (X r) e = refl
not-due (Y r x) e = refl

module _ (mode : Mode) (st : State) (next : ℕ) (bs : List ℕ) where
  no-is : (m n : Refusal) → ◌≡◌ {A = Result One Refusal} (Err m) (Err n) → m ≡ n
  no-is m n e = cc

  by-step : (t len width : ℕ) (x : Step) → StepOther x → of_step t len width x ≡ Err Refusal.Number → ⊥
  by-step t len width (Ok (Some st')) o e = let z : ◌≡◌ {A = ℕ} 0 1 = cc in omega arith
  by-step t len width (Err m) o e = o (no-is m Refusal.Number e)
  by-step t len width (Ok None) o e = let z : ◌≡◌ {A = ℕ} 0 1 = cc in omega arith

  by_token : (len width : ℕ) → line_of mode (is_due st) bs ≡ got len width → (k : Result ℕ Refusal) → lex_of mode (want_of st) (take len bs) ≡ k → TokenOther (want_of st) k
      → of_token mode st next len width k ≡ Err Refusal.Number → MalformedAs mode (want_of st) bs
  by_token len width f (Ok t) q o e = absurd (by-step t len width (step_of mode st t next) (step_other mode st t next) e)
  by_token len width f (Err m) q o e =
      let z = no-is m Refusal.Number e in
      let n = o z in
      record { number = n; len = len; width = width; line = ap (λ (due : Bool). line_of mode due bs) (sym (not-due st n)) ∙ f; bad = q ∙ ap Err z }

  by-line : (l : Result Line Refusal) → line_of mode (is_due st) bs ≡ l → LineOther l → of_line mode st next bs l ≡ Err Refusal.Number → MalformedAs mode (want_of st) bs
  by-line (Ok x) f o e = by_token x.len x.width f (lex_of mode (want_of st) (take x.len bs)) refl (lex-other mode (want_of st) (take x.len bs)) e
  by-line (Err m) f o e = absurd (o (no-is m Refusal.Number e))

  one-malformed : one_of mode st next bs ≡ Err Refusal.Number → MalformedAs mode (want_of st) bs
  unfolding one_of
  one-malformed e = by-line (line_of mode (is_due st) bs) refl (line_other mode (is_due st) bs) e

-- ---- the sections

-- the bytes, which stand at `a`, are records that the machine goes on by, up to `at`, where `st` is due and the record is refused 8
pub record Stops (mode : Mode) (st₀ : State) (o : Tables) (a : ℕ) (bs : List ℕ) (st : State) (at : ℕ) : Type 0 where
  pub body : List ℕ
  pub rest : List ℕ
  pub split : bs ≡ body ++ rest
  pub tables : Tables
  pub pass : Pass mode st₀ o body st tables
  pub refuses : one_of mode st (ring_after st tables) rest ≡ Err Refusal.Number
  pub long : at ≡ a + length body

stop_is : (m : Refusal) (k a : ℕ) (m' : Refusal) (k' a' : ℕ) → stop m k a ≡ stop m' k' a' → (m ≡ m') × (a ≡ a')
stop_is m k a m' k' a' e = (cc, cc)

behind-other : (mode : Mode) (o : Tables) (eof k a k' at : ℕ) (bs : List ℕ) → behind_eof mode o eof k a bs ≡ stop Refusal.Number k' at → ⊥
behind-other Exact o eof k a k' at [] e = let z : ◌≡◌ {A = ℕ} 0 1 = cc in omega arith
behind-other Exact o eof k a k' at (b ∷ bs) e = let z = (stop_is Refusal.AfterEof k a Refusal.Number k' at e).0 in cc
behind-other Loose o eof k a k' at bs e = let z : ◌≡◌ {A = ℕ} 0 1 = cc in omega arith
behind-other Former o eof k a k' at bs e = let z : ◌≡◌ {A = ℕ} 0 1 = cc in omega arith

stops-one : (mode : Mode) (st : State) (o : Tables) (k a k' at : ℕ) (bs : List ℕ) (go : State → Tables → ℕ → List ℕ → Sections) (due : State → Tables → List ℕ → State)
    → ((st₁ : State) (o₁ : Tables) (a₁ : ℕ) (bs₁ : List ℕ) → go st₁ o₁ a₁ bs₁ ≡ stop Refusal.Number k' at → Stops mode st₁ o₁ a₁ bs₁ (due st₁ o₁ bs₁) at)
    → (w : Result One Refusal) → one_of mode st (ring_after st o) bs ≡ w → OneView mode st (ring_after st o) bs w → after mode st o k a bs go w ≡ stop Refusal.Number k' at
    → Stops mode st o a bs (due_after st o bs due w) at
stops-one mode st o k a k' at bs go due ih (Ok (One.Go st₁ t len width)) f v q =
    let r = ih st₁ (put st t (take len bs) o) (a + width) (drop width bs) q in
    record {
      body = take len bs ++ (v.e ++ r.body);
      rest = r.rest;
      split = v.split ∙ ap (λ (x : List ℕ). take len bs ++ (v.e ++ x)) r.split ∙ simp append_assoc;
      tables = r.tables;
      pass = more v.goes r.pass;
      refuses = r.refuses;
      long = omega (arith, r.long, v.wide, v.line.counted, length-append (take len bs) (v.e ++ r.body), length-append v.e r.body);
    }
stops-one mode st o k a k' at bs go due ih (Err m) f v q =
    let z = stop_is m k a Refusal.Number k' at q in
    record { body = []; rest = bs; split = refl; tables = o; pass = done; refuses = f ∙ ap Err z.0; long = omega (arith, z.1) }
stops-one mode st o k a k' at bs go due ih (Ok (One.End width)) f v q = absurd (behind-other mode o a (k + 1) (a + width) k' at (drop width bs) q)

walk-stops : (f : ℕ) (mode : Mode) (st : State) (o : Tables) (k a k' at : ℕ) (bs : List ℕ) → walk f mode st o k a bs ≡ stop Refusal.Number k' at
    → Stops mode st o a bs (due_at f mode st o bs) at
unfolding walk due_at
walk-stops zero mode st o k a k' at bs e = absurd (let z = (stop_is Refusal.Cut k a Refusal.Number k' at e).0 in cc)
walk-stops (suc f) mode st o k a k' at bs e =
    stops-one mode st o k a k' at bs (λ st₁ o₁ a₁ bs₁. walk f mode st₁ o₁ (k + 1) a₁ bs₁) (λ st₁ o₁ bs₁. due_at f mode st₁ o₁ bs₁)
    (λ st₁ o₁ a₁ bs₁ e₁. walk-stops f mode st₁ o₁ (k + 1) a₁ k' at bs₁ e₁)
    (one_of mode st (ring_after st o) bs) refl (one-view mode st (ring_after st o) bs) e

-- ---- the header: 8 is the scale's

abbrev HeadOther : Mode → List ℕ → ℕ → Result Headed Stopped → Type 0
HeadOther mode bs a (Ok h) = Unit {0}
HeadOther mode bs a (Err s) = s.refusal ≡ Refusal.Number → (n : ℕ) × (s.offset ≡ a + n) × MalformedAs mode Real (drop n bs)

-- bytes further on
head-past : (mode : Mode) (bs : List ℕ) (a w : ℕ) (x : Result Headed Stopped) → HeadOther mode (drop w bs) (a + w) x → HeadOther mode bs a x
head-past mode bs a w (Ok k) h = tt
head-past mode bs a w (Err s) h =
    λ e. let g = h e in (w + g.0, omega (arith, g.1), subst (MalformedAs mode Real) (drop-drop g.0 w bs) g.2)

scale-other : (mode : Mode) (kind : ℕ) (name : List ℕ) (a : ℕ) (bs : List ℕ) → HeadOther mode bs a (head_scale mode kind name a bs)
unfolding head_scale
scale-other mode kind name a bs = by (line_of mode false bs) refl (line_other mode false bs)
  where
    of : (len width : ℕ) → line_of mode false bs ≡ got len width → (d : Option ℤ) → real_of mode (take len bs) ≡ d → HeadOther mode bs a (of_scale kind name a width d)
    of len width f (Some z) q = cond-elim (HeadOther mode bs a) (lt_z (pos 0) z) _ _ (λ _. tt) (λ _ e. absurd (cc))
    of len width f None q =
        λ e. (0, omega arith, record { number = refl; len = len; width = width; line = f; bad = unfold lex_of in rw q })

    by : (l : Result Line Refusal) → line_of mode false bs ≡ l → LineOther l → HeadOther mode bs a (scale_line mode kind name a bs l)
    by (Ok x) f o = of x.len x.width f (real_of mode (take x.len bs)) refl
    by (Err m) f o = λ e. absurd (o e)

name-other : (mode : Mode) (kind a : ℕ) (bs : List ℕ) → HeadOther mode bs a (head_name mode kind a bs)
unfolding head_name
name-other mode kind a bs = by (line_of mode false bs) (line_other mode false bs)
  where
    by : (l : Result Line Refusal) → LineOther l → HeadOther mode bs a (name_line mode kind a bs l)
    by (Ok x) o =
        cond-elim (HeadOther mode bs a) (is_named mode kind (take x.len bs)) _ _
        (λ _. head-past mode bs a x.width (head_scale mode kind (trimmed (take x.len bs)) (a + x.width) (drop x.width bs)) (scale-other mode kind (trimmed (take x.len bs)) (a + x.width) (drop x.width bs)))
        (λ _ e. absurd (cc))
    by (Err m) o = λ e. absurd (o e)

head-other : (mode : Mode) (bs : List ℕ) → HeadOther mode bs 0 (headed mode bs)
unfolding headed
head-other mode bs = by (line_of mode false bs) (line_other mode false bs)
  where
    by : (l : Result Line Refusal) → LineOther l → HeadOther mode bs 0 (first_line mode bs l)
    by (Ok x) o =
        let kind = kind_said mode (take x.len bs) in
        cond-elim (HeadOther mode bs 0) (eqb kind 0) _ _ (λ _ e. absurd (cc))
        (λ _. head-past mode bs 0 x.width (head_name mode kind x.width (drop x.width bs))
        (let z : x.width ≡ 0 + x.width = omega arith in
        subst (λ (n : ℕ). HeadOther mode (drop x.width bs) n (head_name mode kind x.width (drop x.width bs))) z (name-other mode kind x.width (drop x.width bs))))
    by (Err m) o = λ e. absurd (o e)

head-malformed : (mode : Mode) (bs : List ℕ) (k at : ℕ) → headed mode bs ≡ Err (stopped_at Refusal.Number k at) → MalformedAs mode Real (drop at bs)
head-malformed mode bs k at e =
    let g = subst (HeadOther mode bs 0) e (head-other mode bs) refl in
    let z : g.0 ≡ at = omega (arith, g.1) in
    subst (λ (n : ℕ). MalformedAs mode Real (drop n bs)) z g.2

-- ---- a reading

-- what is due at a place of a file: the scale, whose record the header's refusal names; or what the machine is due to read behind the records before
pub data DueThere (mode : Mode) (bs : List ℕ) (at : ℕ) : Want → Type 0 where
  the-scale : {k : ℕ} → headed mode bs ≡ Err (stopped_at Refusal.Number k at) → DueThere mode bs at Real
  a-field : (h : Headed) (body rest : List ℕ) {st : State} {o : Tables} → headed mode bs ≡ Ok h → drop h.at bs ≡ body ++ rest → at ≡ h.at + length body
      → Pass mode Due empty body st o → DueThere mode bs at (want_of st)

-- the record at `at` holds a number that is malformed as what is due there, and its column is the paper's: in the language of that form and mode
pub record ColumnThere (mode : Mode) (bs : List ℕ) (at column : ℕ) : Type 0 where
  pub want : Want
  pub due : DueThere mode bs at want
  pub malformed-as : MalformedAs mode want (drop at bs)
  pub is-column : IsColumn (accepts_as mode want) (take malformed-as.len (drop at bs)) column

there : (mode : Mode) (want : Want) (bs : List ℕ) (at : ℕ) → DueThere mode bs at want → MalformedAs mode want (drop at bs)
    → ColumnThere mode bs at (refusal_column mode want malformed (drop at bs))
there mode want bs at d m =
    record { want = want; due = d; malformed-as = m; is-column = refusal-column mode want (drop at bs) m.len m.width m.number m.line }

behind : (bs body rest : List ℕ) (start at : ℕ) → drop start bs ≡ body ++ rest → at ≡ start + length body → drop at bs ≡ rest
behind bs body rest start at e q =
    ap (λ (n : ℕ). drop n bs) q ∙ sym (drop-drop (length body) start bs) ∙ ap (drop (length body)) e ∙ drop-append_seam body rest

from-stops : (mode : Mode) (bs : List ℕ) (start k at : ℕ) → walk_from mode bs start ≡ stop Refusal.Number k at → Stops mode Due empty start (drop start bs) (due_from mode bs start) at
unfolding walk_from due_from
from-stops mode bs start k at e = walk-stops (length bs) mode Due empty 4 start k at (drop start bs) e

from-there : (mode : Mode) (bs : List ℕ) (x : Headed) (k at : ℕ) → headed mode bs ≡ Ok x → walk_from mode bs x.at ≡ stop Refusal.Number k at
    → ColumnThere mode bs at (column_from mode bs x.at)
from-there mode bs x k at h e =
    let start = x.at in
    let s = from-stops mode bs start k at e in
    let st = due_from mode bs start in
    let place = behind bs s.body s.rest start at s.split s.long in
    subst (ColumnThere mode bs at) (sym (column-is mode bs start Refusal.Number k at e))
    (there mode (want_of st) bs at (a-field x s.body s.rest h s.split s.long s.pass)
    (subst (MalformedAs mode (want_of st)) (sym place) (one-malformed mode st (ring_after st s.tables) s.rest s.refuses)))

-- a refusal is the file's length, or the header's, or the sections'
by-refusal : (mode : Mode) (bs : List ℕ) (m : Refusal) (k at : ℕ) (P : Type 0) → reading mode bs ≡ refused m k at
    → (leb (length bs) file_most ≡ false → m ≡ Refusal.TooLong → P)
    → (leb (length bs) file_most ≡ true → headed mode bs ≡ Err (stopped_at m k at) → P)
    → (leb (length bs) file_most ≡ true → (h : Headed) → headed mode bs ≡ Ok h → walk_from mode bs h.at ≡ stop m k at → P) → P
unfolding reading meaning
by-refusal mode bs m k at P q long head sections = by_length (leb (length bs) file_most) refl q
  where
    by-walk : leb (length bs) file_most ≡ true → (x : Headed) → headed mode bs ≡ Ok x → (t : Sections) → walk_from mode bs x.at ≡ t
        → under x.header t ≡ refused m k at → P
    by-walk l x h (read o eof) e q = absurd (let z : ◌≡◌ {A = ℕ} 0 1 = cc in omega arith)
    by-walk l x h (stop m₁ k₁ a₁) e q = sections l x h (e ∙ (cc))

    by-ahead : leb (length bs) file_most ≡ true → (x : Result Headed Stopped) → headed mode bs ≡ x → meant mode bs x ≡ refused m k at → P
    by-ahead l (Ok x) h q = by-walk l x h (walk_from mode bs x.at) refl q
    by-ahead l (Err s) h q = head l (h ∙ (let z : s ≡ stopped_at m k at = stopped-is s q in ap Err z))
      where
        stopped-is : (s : Stopped) → refused s.refusal s.«record» s.offset ≡ refused m k at → s ≡ stopped_at m k at
        stopped-is s q =
            let a : s.refusal ≡ m = cc in
            let b : s.«record» ≡ k = cc in
            let c : s.offset ≡ at = cc in
            λ i. stopped_at (a i) (b i) (c i)

    by_length : (b : Bool) → leb (length bs) file_most ≡ b → cond b (meant mode bs (headed mode bs)) (refused Refusal.TooLong 0 0) ≡ refused m k at → P
    by_length true l q = by-ahead l (headed mode bs) refl q
    by_length false l q = long l (let z : m ≡ Refusal.TooLong = cc in z)

-- 8 is the number of one refusal alone
is-eight : (m : Refusal) → number_of m ≡ malformed → m ≡ Refusal.Number
is-eight Refusal.TooLong e = absurd (omega (arith, e))
is-eight Refusal.Cut e = absurd (omega (arith, e))
is-eight Refusal.LineEnd e = absurd (omega (arith, e))
is-eight Refusal.Length e = absurd (omega (arith, e))
is-eight Refusal.Byte e = absurd (omega (arith, e))
is-eight Refusal.Header e = absurd (omega (arith, e))
is-eight Refusal.Keyword e = absurd (omega (arith, e))
is-eight Refusal.Number e = refl
is-eight Refusal.Letters e = absurd (omega (arith, e))
is-eight Refusal.Code e = absurd (omega (arith, e))
is-eight Refusal.Count e = absurd (omega (arith, e))
is-eight Refusal.OpenRing e = absurd (omega (arith, e))
is-eight Refusal.AfterEof e = absurd (omega (arith, e))
is-eight Refusal.NoRoom e = absurd (omega (arith, e))
is-eight Refusal.NotMade e = absurd (omega (arith, e))
is-eight Refusal.TooWide e = absurd (omega (arith, e))
is-eight Refusal.PastLimit e = absurd (omega (arith, e))
is-eight Refusal.NoSuch e = absurd (omega (arith, e))
is-eight Refusal.OffTile e = absurd (omega (arith, e))
is-eight Refusal.BadDate e = absurd (omega (arith, e))
is-eight Refusal.LongCode e = absurd (omega (arith, e))
is-eight Refusal.WideFigure e = absurd (omega (arith, e))

-- what is no malformed number has another number
unlike : (m : Refusal) → (m ≡ Refusal.Number → ⊥) → number_of m ≡ malformed → ⊥
unlike m n e = n (is-eight m e)

module _ (mode : Mode) (bs : List ℕ) where
  -- **8 carries the column of its record's content**
  pub malformed-column : (k at : ℕ) → reading mode bs ≡ refused Refusal.Number k at → ColumnThere mode bs at (reading_column mode bs)
  unfolding reading_column
  malformed-column k at q =
      by-refusal mode bs Refusal.Number k at (ColumnThere mode bs at (reading_column mode bs)) q
      (λ l e. absurd (cc))
      (λ l h. rw (l, h) (there mode Real bs at (the-scale h) (head-malformed mode bs k at h)))
      (λ l x h e. rw (l, h) (from-there mode bs x k at h e))

  -- **all other refusals carry 0**
  pub other-columns : (m : Refusal) (k at : ℕ) → (m ≡ Refusal.Number → ⊥) → reading mode bs ≡ refused m k at → reading_column mode bs ≡ 0
  unfolding reading_column column_from
  other-columns m k at n q =
      by-refusal mode bs m k at (reading_column mode bs ≡ 0) q
      (λ l e. rw l)
      (λ l h. rw (l, h) (other-column mode Real (number_of m) (drop at bs) (unlike m n)))
      (λ l x h e. rw (l, h, e) (other-column mode (want_of (due_from mode bs x.at)) (number_of m) (drop at bs) (unlike m n)))

-- by the answer to a reading: its number, its offset and its column
of_refused : (mode : Mode) (bs : List ℕ) (r : Rooms) (P : Answer → Type 0)
    → ((x : Answer) → (Read.number_of x ≡ malformed → ⊥) → column_of x ≡ 0 → P x)
    → ((m : Refusal) (k at : ℕ) → reading mode bs ≡ refused m k at → P (refused_in (reading_column mode bs) (stopped_at m k at)))
    → P (read_of mode bs r)
unfolding read_of
of_refused mode bs r P f g = by (reading mode bs) refl
  where
    by : (x : Reading) → reading mode bs ≡ x → P (answered (reading_column mode bs) x r)
    by (refused m k at) e = g m k at e
    by (sheet h o) e =
        cond-elim P (holds_all (needs_of o) r) _ _
        (λ _. f (read_with (needs_of o) h) (λ e. omega (arith, e)) refl)
        (λ _. f (refused_with (Unread.NoRoom (needs_of o))) (λ e. omega (arith, e)) refl)

-- an answer less its column
abbrev pub without_column : Answer → Answer
without_column (Ok x) = Ok x
without_column (Err (Unread.NoRoom a)) = Err (Unread.NoRoom a)
without_column (Err (Unread.Refused s column)) = refused_in 0 s

module _ (mode : Mode) (bs : List ℕ) (r : Rooms) where
  pub eight-column : Read.number_of (read_of mode bs r) ≡ malformed → ColumnThere mode bs (offset_of (read_of mode bs r)) (column_of (read_of mode bs r))
  eight-column =
      of_refused mode bs r (λ (x : Answer). Read.number_of x ≡ malformed → ColumnThere mode bs (offset_of x) (column_of x))
      (λ x n c q. absurd (n q))
      (λ m k at e q. malformed-column mode bs k at (e ∙ ap (λ (n : Refusal). refused n k at) (is-eight m q)))

  pub zero-column : (Read.number_of (read_of mode bs r) ≡ malformed → ⊥) → column_of (read_of mode bs r) ≡ 0
  zero-column =
      of_refused mode bs r (λ (x : Answer). (Read.number_of x ≡ malformed → ⊥) → column_of x ≡ 0)
      (λ x n c q. c) (λ m k at e q. other-columns mode bs m k at (λ f. q (ap number_of f)) e)

  -- **the column forgotten, the answer is the one that what the file means decides by itself**: number, place, counts and header
  pub column-forgotten : without_column (read_of mode bs r) ≡ answered 0 (reading mode bs) r
  unfolding read_of
  column-forgotten = by (reading mode bs)
    where
      by : (x : Reading) → without_column (answered (reading_column mode bs) x r) ≡ answered 0 x r
      by (refused m k at) = refl
      by (sheet h o) = room (holds_all (needs_of o) r)
        where
          room : (b : Bool) → without_column (cond b (read_with (needs_of o) h) (refused_with (Unread.NoRoom (needs_of o))))
              ≡ cond b (read_with (needs_of o) h) (refused_with (Unread.NoRoom (needs_of o)))
          room true = refl
          room false = refl
