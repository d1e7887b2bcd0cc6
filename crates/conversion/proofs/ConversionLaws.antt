-- What the conversion promises: document 02, T-09. Assumes nothing.
use Prim.Native.Nat.{ℕ, zero, suc, ◌≤◌}
use mathlib.Core.Path.{◌≡◌, refl, ◌∙◌, ap}
use mathlib.Core.List.{List}
use mathlib.Core.Bool.{Bool, true, false}
use Rattle.std.specs.Prelude.{Ok, Err}
use native.Mathlib.Omega.{arith}
use lib.ListN.{length}
use lib.Dec.{leb, eqb}
use borrow.Author.Tests.{le-leb, leb-true}
use Rattle.laws.proofs.Choice.{cond-elim, cond-first}
use Rattle.record.specs.declared.Mode.TheVariants.{Exact, Former}
use Rattle.record.specs.declared.refusal.Refusal.{Refusal}
use Rattle.record.specs.Refusals.{unlisted_code}
use Rattle.record.specs.Refusals as Refusals
use Rattle.heading.specs.declared.Header.{Header}
use Rattle.heading.specs.Heading.{is_header}
use Rattle.kinds.specs.Kinds.{code_place}
use Rattle.sheet.specs.Tables.{Tables, row_count}
use Rattle.sheet.specs.Reading.{Reading, sheet, refused, reading}
use Rattle.sheet.proofs.Meaning.{reading-meaning}
use Rattle.sheet.proofs.Modes.{reading-widens}
use Rattle.reader.specs.Columns.{reading_column}
use Rattle.reader.proofs.Bytes.{tables-most}
use Rattle.made.specs.declared.Flaw.TheVariants.{BadHeader, Unlisted}
use Rattle.made.specs.Made.{count_at, kind_of, rest_of, is_made, are_starts, Before, none_before, past_row, is_coded, judge_rows, judge_of, number_of, used_of}
use Rattle.made.proofs.UsedLaws.{fine-on}
use Rattle.layout.specs.Sheet.{sheet_text}
use Rattle.layout.proofs.ReadWritten.{read-written}
use Rattle.writer.proofs.WriteLaws.{comes-made, written_read}
use Rattle.writer.proofs.SizeLaws.{sheet-size}
use Rattle.listing.specs.Listing.{refused_line, input_most}
use Rattle.listing.proofs.ListLaws.{refused-most}
use Rattle.conversion.specs.Conversion.{clean_text, converted_text, conversion_of, clean_most}

-- ---- its length

-- the text of what was read is at most this: 28 bytes of the input make a row, and a letter, an island count or a number of a point grows threefold
pub clean-most : (bs : List ℕ) (h : Header) (o : Tables) → length bs ≤ input_most → reading Former bs ≡ sheet h o → length (sheet_text h (row_count o) o) ≤ clean_most
clean-most bs h o l q =
    let m = (comes-made Former bs h o (reading-meaning Former bs h o q).1).0 in
    let (a, b) = tables-most Former bs h o q in
    omega (arith, sheet-size Former h (row_count o) o m, a, b)

-- **no conversion is longer than 53,248 bytes**, so that the program's array holds any, and 14 cannot come
pub conversion-most : (bs : List ℕ) → length (conversion_of bs) ≤ clean_most
unfolding conversion_of clean_text
conversion-most bs =
    let Q : List ℕ → Type 0 = λ s. length s ≤ clean_most in
    cond-elim Q (leb (length bs) input_most) _ _ (λ e. by (leb-true (length bs) input_most e) (reading Former bs) refl) (λ _. line 1 0 0 0)
  where
    line : (m k at column : ℕ) → length (refused_line m k at column) ≤ clean_most
    line m k at column = omega (arith, refused-most m k at column)

    by : length bs ≤ input_most → (x : Reading) → reading Former bs ≡ x → length (converted_text (reading_column Former bs) x) ≤ clean_most
    by l (sheet h o) q =
        cond-elim (λ (s : List ℕ). length s ≤ clean_most) (eqb (number_of (judge_of Exact h (row_count o) o)) 0) _ _ (λ _. clean-most bs h o l q) (λ _. line _ _ 0 0)
    by l (refused m k at) q = line (Refusals.number_of m) k at (reading_column Former bs)

-- ---- what it says

-- rows that are well made are fine in exact mode, or one has an unlisted code
rows-by : (n : ℕ) (b : Before) (t : Tables) → judge_rows Former n b t ≡ Ok tt → (P : Type 0) → (judge_rows Exact n b t ≡ Ok tt → P) → ((j : ℕ) → judge_rows Exact n b t ≡ Err (Unlisted j) → P) → P
unfolding judge_rows
rows-by zero b t e P fine unlisted = fine refl
rows-by (suc n) b t e P fine unlisted =
    let m = fine-on Former n b t e in
    by (is_coded Exact (kind_of t) (count_at t code_place)) refl m.0 m.2 (rows-by n (past_row b t) (rest_of t) m.1 P)
  where
    by : (x : Bool) → is_coded Exact (kind_of t) (count_at t code_place) ≡ x → is_made t ≡ true → are_starts b.starts t.rows ≡ true
        → ((judge_rows Exact n (past_row b t) (rest_of t) ≡ Ok tt → P) → ((j : ℕ) → judge_rows Exact n (past_row b t) (rest_of t) ≡ Err (Unlisted j) → P) → P) → P
    by true c a s rest = rest (λ f. fine (rw (a, s, c) f)) (λ j f. unlisted j (rw (a, s, c) f))
    by false c a s rest = unlisted b.row (rw (a, s, c))

module _ (bs : List ℕ) (h : Header) (o : Tables) (l : length bs ≤ input_most) (q : reading Former bs ≡ sheet h o) where
  -- **the clean file**: listed codes, and the text is the writer's, which exact mode accepts, with the header and the elements that the former reading gives the input
  pub conversion-clean : judge_of Exact h (row_count o) o ≡ Ok tt → (conversion_of bs ≡ sheet_text h (row_count o) o) × (reading Exact (conversion_of bs) ≡ sheet h o)
  unfolding conversion_of clean_text
  conversion-clean f =
      let c : conversion_of bs ≡ sheet_text h (row_count o) o = rw (le-leb (length bs) input_most l, q, f) in
      let u : used_of (row_count o) o ≡ o = (comes-made Former bs h o (reading-meaning Former bs h o q).1).1 in
      (c, ap (reading Exact) c ∙ written_read h (row_count o) o f (omega (arith, clean-most bs h o l q)) ∙ rw u)

  -- **an unlisted code**: 10, the row, 0 and 0
  pub conversion-unlisted : (k : ℕ) → judge_of Exact h (row_count o) o ≡ Err (Unlisted k) → conversion_of bs ≡ refused_line unlisted_code k 0 0
  unfolding conversion_of clean_text
  conversion-unlisted k f = rw (le-leb (length bs) input_most l, q, f)

  -- nothing else can be said against what was read
  pub conversion-by : (P : Type 0) → (judge_of Exact h (row_count o) o ≡ Ok tt → P) → ((k : ℕ) → judge_of Exact h (row_count o) o ≡ Err (Unlisted k) → P) → P
  unfolding judge_of
  conversion-by P fine unlisted =
      let m = (comes-made Former bs h o (reading-meaning Former bs h o q).1).0 in
      let v = cond-first (is_header h) (judge_rows Former (row_count o) none_before o) (Err BadHeader) (Ok tt) (λ z. cc) m in
      rows-by (row_count o) none_before o v.1 P (λ e. fine (rw v.0 e)) (λ k e. unlisted k (rw v.0 e))

-- **a refusal** of the former reading is the line with its record, offset and column
pub conversion-refused : (bs : List ℕ) (m : Refusal) (k at : ℕ) → length bs ≤ input_most → reading Former bs ≡ refused m k at
    → conversion_of bs ≡ refused_line (Refusals.number_of m) k at (reading_column Former bs)
unfolding conversion_of
conversion-refused bs m k at l q = rw (le-leb (length bs) input_most l, q)

-- **a clean file is converted to itself**
pub conversion-again : (bs : List ℕ) (h : Header) (o : Tables) → length bs ≤ input_most → reading Exact bs ≡ sheet h o → conversion_of bs ≡ bs
conversion-again bs h o l q =
    let m = (reading-meaning Exact bs h o q).1 in
    (conversion-clean bs h o l (reading-widens Exact Former refl bs h o q) (comes-made Exact bs h o m).0).0 ∙ read-written bs h o m
