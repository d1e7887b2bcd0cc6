-- The ways through the functions of the conversion: one lemma for each answer. Assumes nothing.
use Prim.Native.Nat.{ℕ, ◌≤◌, ◌<◌}
use mathlib.Core.Path.{◌≡◌, refl, sym, ◌∙◌, ap, subst}
use mathlib.Core.List.{List}
use Rattle.std.specs.Prelude.{Result, Ok, Err}
use native.Mathlib.Omega.{arith}
use lib.ListN.{length}
use lib.Dec.{leb}
use lib.IntN.{ℤ}
use borrow.Author.Tests.{le-leb, lt-leb, leb-true, leb-false, ne_eqb}
use Rattle.laws.specs.Lists.{over}
use Rattle.laws.proofs.Choice.{cond-elim}
use Rattle.record.specs.declared.Mode.TheVariants.{Exact, Former}
use Rattle.record.specs.declared.refusal.Refusal.{Refusal}
use Rattle.record.specs.Refusals.{file_most}
use Rattle.record.specs.Refusals as Refusals
use Rattle.heading.specs.declared.Header.{Header}
use Rattle.sheet.specs.Tables.{Tables, row_count, over_of}
use Rattle.sheet.specs.Reading.{Reading, sheet, refused, reading}
use Rattle.sheet.proofs.Meaning.{reading-meaning}
use Rattle.reader.specs.declared.Needs.{Needs}
use Rattle.reader.specs.declared.Reading as Declared
use Rattle.reader.specs.declared.Unread.{Unread}
use Rattle.reader.specs.declared.Unread.TheVariants as Unread
use Rattle.reader.specs.Columns.{reading_column}
use Rattle.reader.specs.Read.{Answer, Rooms, stopped_at, read_of, tables_in, written}
use Rattle.reader.proofs.NeedLaws.{Enough}
use Rattle.reader.proofs.EnoughLaws.{Told, told-by, table-read}
use Rattle.made.specs.declared.Flaw.{Flaw}
use Rattle.made.specs.declared.Flaw.TheVariants.{BadHeader, Faulty, Unlisted}
use Rattle.made.specs.declared.Fault.{Fault}
use Rattle.made.specs.Made.{tables_of, judge_of, number_of, row_of, fault_of, used_of}
use Rattle.made.proofs.UsedLaws.{judge-used}
use Rattle.layout.specs.Sheet.{sheet_text}
use Rattle.layout.proofs.UsedLaws.{text-used, read-used}
use Rattle.writer.specs.declared.Unwritten.{Unwritten}
use Rattle.writer.specs.declared.Unwritten.TheVariants as Unwritten
use Rattle.writer.specs.Write.{written_after, write_of, output_of}
use Rattle.listing.specs.Listing.{refused_line, input_most}
use Rattle.listing.specs.Listed.{listed_of, listed_in}
use Rattle.listing.specs.declared.NoRoom.{NoRoom}
use Rattle.conversion.specs.Conversion.{clean_text, converted_text, conversion_of}
use Rattle.conversion.proofs.ConversionLaws.{clean-most}

-- ---- the writer's answer, by the verdict on the sheet

abbrev Says : Result Unit Flaw → ℕ → ℕ → Result ℕ Unwritten → Type 0
Says v size room (Ok n) = (v ≡ Ok tt) × (n ≡ size) × (size ≤ room)
Says v size room (Err Unwritten.TooLong) = file_most < size
Says v size room (Err (Unwritten.NoRoom n)) = (v ≡ Ok tt) × (n ≡ size) × (room < size)
Says v size room (Err (Unwritten.Refused f)) = (v ≡ Err f) × (number_of (Err f) ≡ 0 → ⊥)

says : (v : Result Unit Flaw) (size room : ℕ) → Says v size room (written_after v size room)
says (Ok u) size room =
    let Q = Says (Ok u) size room in
    cond-elim Q (leb size file_most) _ _
    (λ _. cond-elim Q (leb size room) _ _ (λ e. (refl, refl, leb-true size room e)) (λ e. (refl, refl, leb-false size room e)))
    (λ e. leb-false size file_most e)
says (Err BadHeader) size room = (refl, λ z. omega (arith, z))
says (Err (Faulty k)) size room = (refl, λ z. omega (arith, z))
says (Err (Unlisted k)) size room = (refl, λ z. omega (arith, z))

module _ (h : Header) (count : ℕ) (t : Tables) (w : Result ℕ Unwritten) (out d : List ℕ) (e : w ≡ write_of h count t (length out)) (o : d ≡ output_of w (sheet_text h count t) out) where
  abbrev s : List ℕ
  s = sheet_text h count t

  said : (x : Result ℕ Unwritten) → w ≡ x → Says (judge_of Exact h count t) (length s) (length out) x
  unfolding write_of
  said x q = subst (Says (judge_of Exact h count t) (length s) (length out)) (sym e ∙ q) (says (judge_of Exact h count t) (length s) (length out))

  clean-fine : judge_of Exact h count t ≡ Ok tt → clean_text h count t ≡ s
  unfolding clean_text
  clean-fine f = rw f

  clean_line : (f : Flaw) → judge_of Exact h count t ≡ Err f → (number_of (Err f) ≡ 0 → ⊥) → clean_text h count t ≡ refused_line (number_of (Err f)) (row_of (Err f)) 0 0
  unfolding clean_text
  clean_line f e n = rw (e, ne_eqb (number_of (Err f)) 0 n)

  pub clean-wrote : (n : ℕ) → w ≡ Ok n → (Ok n ≡ listed_of (clean_text h count t) (length out)) × (d ≡ listed_in (Ok n) (clean_text h count t) out)
  unfolding listed_of
  clean-wrote n q =
      let k = said (Ok n) q in
      (rw (clean-fine k.0, k.1, le-leb (length s) (length out) k.2), o ∙ rw (q, clean-fine k.0))

  pub clean-none : (n : ℕ) → w ≡ Err (Unwritten.NoRoom n) → (Err (record { 0 = n }) ≡ listed_of (clean_text h count t) (length out)) × (d ≡ listed_in (Err (record { 0 = n })) (clean_text h count t) out)
  unfolding listed_of
  clean-none n q =
      let k = said (Err (Unwritten.NoRoom n)) q in
      (rw (clean-fine k.0, k.1, lt-leb (length s) (length out) k.2), o ∙ rw q)

  pub clean-long : length s ≤ file_most → w ≡ Err Unwritten.TooLong → ⊥
  clean-long l q = omega (arith, said (Err Unwritten.TooLong) q)

  pub clean-refused : (v : Flaw) → w ≡ Err (Unwritten.Refused v) → (f : Fault) → f ≡ fault_of (Err v) → (r : Result ℕ NoRoom) (d' : List ℕ)
      → r ≡ listed_of (refused_line f.number f.row 0 0) (length d) → d' ≡ listed_in r (refused_line f.number f.row 0 0) d
      → (r ≡ listed_of (clean_text h count t) (length out)) × (d' ≡ listed_in r (clean_text h count t) out)
  clean-refused v q f g r d' x y =
      let k = said (Err (Unwritten.Refused v)) q in
      let z : d ≡ out = o ∙ rw q in
      let c : clean_text h count t ≡ refused_line f.number f.row 0 0 = clean_line v k.0 k.1 ∙ rw g in
      (x ∙ rw (c, z), y ∙ rw (c, z))

-- ---- after the reading, into tables that hold any input

module _ (bs : List ℕ) (r : Rooms) (short : length bs ≤ input_most) (enough : Enough input_most r) (x : Answer) (e : x ≡ read_of Former bs r) where
  its : (a : Answer) → x ≡ a → Told Former bs a
  its = told-by Former bs input_most r short enough x e

  abbrev whole : List ℕ
  whole = converted_text (reading_column Former bs) (reading Former bs)

  read-refused : (u : Unread) → x ≡ Err u → (m : Refusal) (k at column : ℕ) → u ≡ Unread.Refused (stopped_at m k at) column → (n : ℕ) → n ≡ Refusals.number_of m
      → refused_line n k at column ≡ whole
  read-refused u q m k at column w n f =
      let t = its (Err (Unread.Refused (stopped_at m k at) column)) (q ∙ ap Err w) in
      rw (f, t.1) (sym (ap (converted_text (reading_column Former bs)) t.0))

  pub told-refused : (u : Unread) → x ≡ Err u → (m : Refusal) (k at column : ℕ) → u ≡ Unread.Refused (stopped_at m k at) column → (n : ℕ) → n ≡ Refusals.number_of m → (l : Result ℕ NoRoom) (out d : List ℕ)
      → l ≡ listed_of (refused_line n k at column) (length out) → d ≡ listed_in l (refused_line n k at column) out
      → (l ≡ listed_of whole (length out)) × (d ≡ listed_in l whole out)
  told-refused u q m k at column w n f l out d p o = let s = read-refused u q m k at column w n f in (p ∙ rw s, o ∙ rw s)

  pub told-short : (u : Unread) → x ≡ Err u → (a : Needs) → u ≡ Unread.NoRoom a → ⊥
  told-short u q a w = its (Err (Unread.NoRoom a)) (q ∙ ap Err w)

  -- the tables at exit
  module _ (h : Header) (a : Needs) (q : x ≡ Ok (record { header = h; needs = a }))
      (rows₀ rows : List ℤ) (letters₀ letters islands₀ islands : List ℕ) (points₀ points : List ℤ)
      (w₁ : rows ≡ written x (tables_in (reading Former bs)).rows rows₀)
      (w₂ : letters ≡ written x (tables_in (reading Former bs)).letters letters₀)
      (w₃ : islands ≡ written x (tables_in (reading Former bs)).islands islands₀)
      (w₄ : points ≡ written x (tables_in (reading Former bs)).points points₀) where
    abbrev its_reading : Declared.Reading
    its_reading = record { header = h; needs = a }

    abbrev o : Tables
    o = (its (Ok its_reading) q).0

    sound : reading Former bs ≡ sheet h o
    sound = (its (Ok its_reading) q).1

    counted : a.rows ≡ row_count o
    counted = ap (λ (y : Needs). y.rows) (its (Ok its_reading) q).2

    abbrev old : Tables
    old = tables_of rows₀ letters₀ islands₀ points₀

    held : tables_of rows letters islands points ≡ over_of o old
    held =
        rw (
          table-read x its_reading q (ap (λ (y : Reading). (tables_in y).rows) sound) rows rows₀ w₁,
          table-read x its_reading q (ap (λ (y : Reading). (tables_in y).letters) sound) letters letters₀ w₂,
          table-read x its_reading q (ap (λ (y : Reading). (tables_in y).islands) sound) islands islands₀ w₃,
          table-read x its_reading q (ap (λ (y : Reading). (tables_in y).points) sound) points points₀ w₄,
        )

    used : used_of (row_count o) (over_of o old) ≡ o
    used = read-used Former bs h o _ (reading-meaning Former bs h o sound).1

    -- what stands behind what was read matters neither to the verdict nor to the text
    text_same : sheet_text h a.rows (tables_of rows letters islands points) ≡ sheet_text h (row_count o) o
    text_same =
        ap (sheet_text h a.rows) held ∙ ap (λ (n : ℕ). sheet_text h n (over_of o old)) counted
        ∙ sym (text-used h (row_count o) (over_of o old)) ∙ ap (sheet_text h (row_count o)) used

    judge-same : judge_of Exact h a.rows (tables_of rows letters islands points) ≡ judge_of Exact h (row_count o) o
    judge-same =
        ap (judge_of Exact h a.rows) held ∙ ap (λ (n : ℕ). judge_of Exact h n (over_of o old)) counted
        ∙ sym (judge-used Exact h (row_count o) (over_of o old)) ∙ ap (judge_of Exact h (row_count o)) used

    pub told-fits : length (sheet_text h a.rows (tables_of rows letters islands points)) ≤ file_most
    told-fits = rw text_same (omega (arith, clean-most bs h o short sound))

    clean-same : clean_text h a.rows (tables_of rows letters islands points) ≡ whole
    unfolding clean_text
    clean-same = rw (text_same, judge-same, sound)

    pub told-read : (l : Result ℕ NoRoom) (out d : List ℕ)
        → l ≡ listed_of (clean_text h a.rows (tables_of rows letters islands points)) (length out) → d ≡ listed_in l (clean_text h a.rows (tables_of rows letters islands points)) out
        → (l ≡ listed_of whole (length out)) × (d ≡ listed_in l whole out)
    told-read l out d p z = (p ∙ rw clean-same, z ∙ rw clean-same)

-- ---- the whole text

module _ (bs : List ℕ) (l : Result ℕ NoRoom) (out d : List ℕ) where
  pub text-long : input_most < length bs → l ≡ listed_of (refused_line 1 0 0 0) (length out) → d ≡ listed_in l (refused_line 1 0 0 0) out
      → (l ≡ listed_of (conversion_of bs) (length out)) × (d ≡ listed_in l (conversion_of bs) out)
  unfolding conversion_of
  text-long h p o = (p ∙ rw (lt-leb (length bs) input_most h), o ∙ rw (lt-leb (length bs) input_most h))

  pub text-short : length bs ≤ input_most → l ≡ listed_of (converted_text (reading_column Former bs) (reading Former bs)) (length out)
      → d ≡ listed_in l (converted_text (reading_column Former bs) (reading Former bs)) out → (l ≡ listed_of (conversion_of bs) (length out)) × (d ≡ listed_in l (conversion_of bs) out)
  unfolding conversion_of
  text-short h p o = (p ∙ rw (le-leb (length bs) input_most h), o ∙ rw (le-leb (length bs) input_most h))
