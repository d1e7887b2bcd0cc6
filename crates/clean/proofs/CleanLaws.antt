-- One clean file for one sheet, over bytes: document 02, T-13. Assumes nothing.
use mathlib.Core.Path.{◌≡◌, refl, sym, ◌∙◌, ap, ap₂}
use mathlib.Core.List.{List}
use mathlib.Core.Bool.{true}
use Prim.Native.Nat.{ℕ, zero, suc, ◌≤◌}
use Rattle.std.specs.Prelude.{Result, Ok, Err}
use native.Mathlib.Omega.{arith}
use lib.ListN.{length}
use Rattle.laws.proofs.Choice.{and_left, and_right, and_both}
use Rattle.record.specs.declared.Mode.TheVariants.{Loose, Exact}
use Rattle.record.specs.Refusals.{file_most}
use Rattle.kinds.specs.Kinds.{code_place}
use Rattle.heading.specs.declared.Header.{Header}
use Rattle.heading.specs.Heading.{is_header}
use Rattle.sheet.specs.Tables.{Tables, row_count}
use Rattle.sheet.specs.Reading.{Reading, sheet, refused, meaning, reading}
use Rattle.sheet.proofs.Meaning.{reading-meaning}
use Rattle.sheet.proofs.Modes.{reading-widens}
use Rattle.made.specs.Made.{kind_of, count_at, rest_of, is_coded, Before, none_before, past_row, judge_rows, judge_of, used_of}
use Rattle.made.proofs.UsedLaws.{fine-on, fine_before}
use Rattle.layout.proofs.ReadMade.{reading-made}
use Rattle.layout.proofs.ReadWritten.{read-written}
use Rattle.writer.specs.declared.Unwritten.{Unwritten}
use Rattle.writer.specs.Write.{write_of}
use Rattle.writer.proofs.WriteLaws.{judged-fine, rows-fine, wrote-only, write-fine, written_read}
use Rattle.clean.specs.Clean.{text_of, clean, as_written, as_read, clean_of, are_listed}

-- ---- listed codes: what exact mode asks of a sheet beyond well made

listed-exact : (n : ℕ) (b : Before) (t : Tables) → judge_rows Loose n b t ≡ Ok tt → are_listed n t ≡ true → judge_rows Exact n b t ≡ Ok tt
unfolding judge_rows are_listed
listed-exact zero b t e l = refl
listed-exact (suc n) b t e l =
    let f = fine-on Loose n b t e in
    let c = is_coded Exact (kind_of t) (count_at t code_place) in
    let rest = listed-exact n (past_row b t) (rest_of t) f.1 (and_right c (are_listed n (rest_of t)) l) in
    fine_before Exact n b t f.0 f.2 (and_left c (are_listed n (rest_of t)) l) rest

exact-listed : (n : ℕ) (b : Before) (t : Tables) → judge_rows Exact n b t ≡ Ok tt → are_listed n t ≡ true
unfolding are_listed
exact-listed zero b t e = refl
exact-listed (suc n) b t e =
    let f = fine-on Exact n b t e in
    and_both (is_coded Exact (kind_of t) (count_at t code_place)) (are_listed n (rest_of t)) f.3 (exact-listed n (past_row b t) (rest_of t) f.1)

-- ---- a file that can be cleaned: loose mode accepts it as the header h and the elements o, "with only listed codes", and its text fits "the length limit"

pub record Cleanable (bs : List ℕ) (h : Header) (o : Tables) : Type 0 where
  pub accepted : reading Loose bs ≡ sheet h o
  pub codes : are_listed (row_count o) o ≡ true
  pub fits : length (text_of h o) ≤ file_most

module _ {bs : List ℕ} {h : Header} {o : Tables} (c : Cleanable bs h o) where
  made : (is_header h ≡ true) × (judge_rows Loose (row_count o) none_before o ≡ Ok tt) × (used_of (row_count o) o ≡ o)
  made = let m = reading-made Loose bs h o (reading-meaning Loose bs h o c.accepted).1 in (m.0, m.1, m.2)

  pub cleanable-fine : judge_of Exact h (row_count o) o ≡ Ok tt
  cleanable-fine = judged-fine Exact h (row_count o) o made.0 (listed-exact (row_count o) none_before o made.1 c.codes)

  -- its clean file is its sheet's text
  pub cleaned : clean_of bs ≡ clean (text_of h o)
  unfolding clean_of
  cleaned =
      ap as_read c.accepted
      ∙ ap (λ (w : Result ℕ Unwritten). as_written w (text_of h o)) (write-fine h (row_count o) o (length (text_of h o)) cleanable-fine c.fits (omega arith))

  -- which exact mode reads as the same header and elements
  pub text-exact : reading Exact (text_of h o) ≡ sheet h o
  text-exact = written_read h (row_count o) o cleanable-fine c.fits ∙ ap (sheet h) made.2

-- nothing else has a clean file
pub record Cleans (bs s : List ℕ) : Type 0 where
  pub header : Header
  pub elements : Tables
  pub can : Cleanable bs header elements
  pub is : s ≡ text_of header elements

pub wrote-listed : (bs : List ℕ) (h : Header) (o : Tables) (room n : ℕ) → reading Loose bs ≡ sheet h o → write_of h (row_count o) o room ≡ Ok n → Cleanable bs h o
unfolding write_of
wrote-listed bs h o room n e q =
    let w = wrote-only (judge_of Exact h (row_count o) o) (length (text_of h o)) room n q in
    record { accepted = e; codes = exact-listed (row_count o) none_before o (rows-fine Exact h (row_count o) o w.fine); fits = w.fits }

pub clean-only : (bs s : List ℕ) → clean_of bs ≡ clean s → Cleans bs s
unfolding clean_of
clean-only bs s q = by (reading Loose bs) refl q
  where
    wrote : (h : Header) (o : Tables) → reading Loose bs ≡ sheet h o → (w : Result ℕ Unwritten) → write_of h (row_count o) o (length (text_of h o)) ≡ w → as_written w (text_of h o) ≡ clean s → Cleans bs s
    wrote h o e (Ok n) f p =
        let q : clean (text_of h o) ≡ clean s = p in
        let z : s ≡ text_of h o = cc in
        record { header = h; elements = o; can = wrote-listed bs h o (length (text_of h o)) n e f; is = z }
    wrote h o e (Err x) f p = absurd cc

    by : (x : Reading) → reading Loose bs ≡ x → as_read x ≡ clean s → Cleans bs s
    by (sheet h o) e p = wrote h o e (write_of h (row_count o) o (length (text_of h o))) refl p
    by (refused m k at) e p = absurd cc

-- ---- T-13, sentence by sentence

sheet-header : {h g : Header} {o u : Tables} → sheet h o ≡ sheet g u → h ≡ g
sheet-header e = cc

sheet-tables : {h g : Header} {o u : Tables} → sheet h o ≡ sheet g u → o ≡ u
sheet-tables e = cc

-- "**two files .. come out .. as equal bytes exactly when their header values and elements are equal**"
module _ {a b : List ℕ} {h g : Header} {o u : Tables} (c : Cleanable a h o) (d : Cleanable b g u) where
  pub equal-only : clean_of a ≡ clean_of b → (h ≡ g) × (o ≡ u)
  equal-only e =
      let s : clean (text_of h o) ≡ clean (text_of g u) = sym (cleaned c) ∙ e ∙ cleaned d in
      let t : text_of h o ≡ text_of g u = cc in
      let q : sheet h o ≡ sheet g u = sym (text-exact c) ∙ ap (reading Exact) t ∙ text-exact d in
      (sheet-header q, sheet-tables q)

  pub equal-both : h ≡ g → o ≡ u → clean_of a ≡ clean_of b
  equal-both p q = cleaned c ∙ ap₂ (λ (x : Header) (y : Tables). clean (text_of x y)) p q ∙ sym (cleaned d)

-- "**a clean file is one the exact mode accepts**", with the same header and elements
pub clean-exact : (bs s : List ℕ) → clean_of bs ≡ clean s → (h : Header) × (o : Tables) × (reading Loose bs ≡ sheet h o) × (reading Exact s ≡ sheet h o)
clean-exact bs s e = let c = clean-only bs s e in (c.header, c.elements, c.can.accepted, ap (reading Exact) c.is ∙ text-exact c.can)

-- a file that exact mode accepts can be cleaned, and **is its own clean file**
module _ (bs : List ℕ) (h : Header) (o : Tables) (e : reading Exact bs ≡ sheet h o) where
  means : (length bs ≤ file_most) × (meaning Exact bs ≡ sheet h o)
  means = reading-meaning Exact bs h o e

  pub exact-text : text_of h o ≡ bs
  exact-text = read-written bs h o means.1

  pub exact-cleanable : Cleanable bs h o
  exact-cleanable =
      record { accepted = reading-widens Exact Loose refl bs h o e; codes = exact-listed (row_count o) none_before o (reading-made Exact bs h o means.1).1; fits = rw exact-text means.0 }

  pub exact-clean : clean_of bs ≡ clean bs
  exact-clean = cleaned exact-cleanable ∙ ap clean exact-text

-- "**cleaning an already clean file gives it back**"
pub clean-again : (bs s : List ℕ) → clean_of bs ≡ clean s → clean_of s ≡ clean s
clean-again bs s e = let c = clean-only bs s e in exact-clean s c.header c.elements (ap (reading Exact) c.is ∙ text-exact c.can)
