-- Demand 2's writing, as theorems on `write`'s answer and output; and what "well made" means. Assumes nothing.
use mathlib.Core.Path.{◌≡◌, refl, sym, ◌∙◌, ap, ap₂}
use mathlib.Core.Bool.{true, cond}
use mathlib.Core.List.{List}
use Prim.Native.Nat.{ℕ, ◌*◌, ◌≤◌}
use native.Mathlib.Omega.{arith}
use lib.ListN.{length}
use lib.Seq.{length-take-le}
use lib.Dec.{leb}
use borrow.Author.Tests.{le-leb, leb-true}
use Rattle.laws.specs.Lists.{over}
use Rattle.laws.proofs.Choice.{cond-first}
use Rattle.record.specs.declared.Mode.{Mode}
use Rattle.record.specs.declared.Mode.TheVariants.{Loose, Exact, Former}
use Rattle.record.specs.Refusals.{file_most}
use Rattle.heading.specs.declared.Header.{Header}
use Rattle.heading.specs.Heading.{is_header}
use Rattle.kinds.specs.Kinds.{row_width}
use Rattle.sheet.specs.Tables.{Tables, ◌then◌, over_of, row_count}
use Rattle.sheet.specs.Reading.{sheet, meaning, reading}
use Rattle.sheet.proofs.Meaning.{reading-meaning}
use Rattle.record.proofs.RecordLaws.{former-widest}
use Rattle.sheet.proofs.Modes.{reading-widens}
use Rattle.std.specs.Prelude.{Result, Ok, Err}
use Rattle.made.specs.declared.Flaw.{Flaw}
use Rattle.made.specs.declared.Flaw.TheVariants.{BadHeader}
use Rattle.made.specs.Made.{none_before, judge_rows, judge_of, used_of}
use Rattle.made.proofs.UsedLaws.{behind_of, used-front, used-behind, judge-used, judge-alike, Long, fine-long}
use Rattle.layout.specs.Sheet.{sheet_text}
use Rattle.writer.specs.Write.{written_after, write_of, output_of, number_of}
use Rattle.writer.specs.declared.Unwritten.{Unwritten}
use Rattle.writer.specs.declared.Unwritten.TheVariants.{TooLong, NoRoom}
use Rattle.layout.proofs.WrittenLaws.{sheet-meaning, written-then-read}
use Rattle.layout.proofs.ReadMade.{reading-made}
use Rattle.layout.proofs.ReadWritten.{read-written}
use Rattle.layout.proofs.UsedLaws.{text-used, read-used}

-- ---- every reading's result is well made

pub judged-fine : (mode : Mode) (h : Header) (count : ℕ) (t : Tables) → is_header h ≡ true → judge_rows mode count none_before t ≡ Ok tt → judge_of mode h count t ≡ Ok tt
unfolding judge_of
judged-fine mode h count t e q = rw e q

-- in every mode (in exact mode with listed codes), and its tables hold nothing but what its rows use
pub comes-made : (mode : Mode) (bs : List ℕ) (h : Header) (o : Tables) → meaning mode bs ≡ sheet h o
    → (judge_of mode h (row_count o) o ≡ Ok tt) × (used_of (row_count o) o ≡ o)
comes-made mode bs h o e = let m = reading-made mode bs h o e in (judged-fine mode h (row_count o) o m.0 m.1, m.2)

-- ---- well made, exactly: "the rows and tables could come from a loose reading, the file length limit apart, and every table is long enough"

-- some bytes mean the header and certain elements; the tables begin with these, and the sheet has as many rows
pub record CouldCome (mode : Mode) (h : Header) (count : ℕ) (t : Tables) : Type 0 where
  pub bytes : List ℕ
  pub elements : Tables
  pub behind : Tables
  pub comes : meaning mode bytes ≡ sheet h elements
  pub begins : elements then behind ≡ t
  pub counted : row_count elements ≡ count

module _ (mode : Mode) (h : Header) (count : ℕ) (t : Tables) where
  pub rows-fine : judge_of mode h count t ≡ Ok tt → judge_rows mode count none_before t ≡ Ok tt
  unfolding judge_of
  rows-fine e = (cond-first (is_header h) (judge_rows mode count none_before t) (Err BadHeader) (Ok tt) (λ z. let y : ◌≡◌ {A = ℕ} 0 1 = cc in omega arith) e).1

  -- every table of a well made sheet is long enough
  pub made-long : judge_of mode h count t ≡ Ok tt → Long count t
  made-long e = fine-long mode count none_before t (rows-fine e)

  -- **well made, exactly**, one way: in every mode (in exact mode with listed codes)
  pub made-comes : judge_of mode h count t ≡ Ok tt → CouldCome mode h count t
  made-comes e =
      record {
        bytes = sheet_text h count t;
        elements = used_of count t;
        behind = behind_of count t;
        comes = sheet-meaning mode h count t e;
        begins = used-behind count t;
        counted = ap row_count (used-front count t) ∙ omega (arith, length-take-le (row_width * count) t.rows (made-long e).rows_in);
      }

  -- and the other way
  pub comes-fine : CouldCome mode h count t → judge_of mode h count t ≡ Ok tt
  comes-fine c =
      let o = c.elements in
      sym (ap₂ (λ (n : ℕ) (x : Tables). judge_of mode h n x) c.counted c.begins)
      ∙ sym (judge-used mode h (row_count o) (o then c.behind))
      ∙ ap (judge_of mode h (row_count o)) (read-used mode c.bytes h o c.behind c.comes)
      ∙ (comes-made mode c.bytes h o c.comes).0

-- ---- what stands behind the used part of the tables

-- **what stands behind the used part never matters** to the writer's answer, of any tables
pub write-used : (h : Header) (n : ℕ) (t : Tables) (room : ℕ) → write_of h n (used_of n t) room ≡ write_of h n t room
unfolding write_of
write-used h n t room = rw (judge-used Exact h n t, text-used h n t)

-- ---- written then read, read then written

module _ (h : Header) (count : ℕ) (t : Tables) (room : ℕ) where
  -- a sheet with nothing against it, whose text keeps the limit and fits, is written
  pub write-fine : judge_of Exact h count t ≡ Ok tt → length (sheet_text h count t) ≤ file_most → length (sheet_text h count t) ≤ room
      → write_of h count t room ≡ Ok (length (sheet_text h count t))
  unfolding write_of
  write-fine e l r = rw (e, le-leb (length (sheet_text h count t)) file_most l, le-leb (length (sheet_text h count t)) room r)

-- **a refusal alters nothing**: whatever its number, the output is as it was
pub refused-output : (w : Result ℕ Unwritten) (s l : List ℕ) → (number_of w ≡ 0 → ⊥) → output_of w s l ≡ l
refused-output (Ok n) s l f = absurd (f refl)
refused-output (Err e) s l f = refl

-- **what was written** had nothing against it, kept the limit and found room
pub record WroteOnly (v : Result Unit Flaw) (size room n : ℕ) : Type 0 where
  pub fine : v ≡ Ok tt
  pub fits : size ≤ file_most
  pub space : size ≤ room
  pub long : n ≡ size

pub wrote-only : (v : Result Unit Flaw) (size room n : ℕ) → written_after v size room ≡ Ok n → WroteOnly v size room n
wrote-only (Ok u) size room n e =
    let a = cond-first (leb size file_most) (cond (leb size room) (Ok size) (Err (NoRoom size))) (Err TooLong) (Ok n) (λ z. let y : ◌≡◌ {A = ℕ} 0 1 = cc in omega arith) e in
    let b = cond-first (leb size room) (Ok size) (Err (NoRoom size)) (Ok n) (λ z. let y : ◌≡◌ {A = ℕ} 0 1 = cc in omega arith) a.1 in
    let w : ◌≡◌ {A = Result ℕ Unwritten} (Ok size) (Ok n) = b.1 in
    record { fine = refl; fits = leb-true size file_most a.0; space = leb-true size room b.0; long = cc }
wrote-only (Err f) size room n e = absurd (let y : ◌≡◌ {A = ℕ} 0 1 = cc in omega arith)

-- **written then read**: writing a well made sheet that uses listed codes, where it fits, gives bytes that the exact mode reads back as that same sheet
pub written_read : (h : Header) (count : ℕ) (t : Tables) → judge_of Exact h count t ≡ Ok tt → length (sheet_text h count t) ≤ file_most
    → reading Exact (sheet_text h count t) ≡ sheet h (used_of count t)
written_read h count t e l = written-then-read h count t e l

-- **read then written**: writing what the exact mode accepted, given room, gives its very bytes
pub read-write : (bs : List ℕ) (h : Header) (o : Tables) (room : ℕ) (l : List ℕ) → reading Exact bs ≡ sheet h o → length bs ≤ room
    → (write_of h (row_count o) o room ≡ Ok (length bs)) × (output_of (write_of h (row_count o) o room) (sheet_text h (row_count o) o) l ≡ over bs l)
read-write bs h o room l e r =
    let m = reading-meaning Exact bs h o e in
    let q : sheet_text h (row_count o) o ≡ bs = read-written bs h o m.1 in
    let f : judge_of Exact h (row_count o) o ≡ Ok tt = (comes-made Exact bs h o m.1).0 in
    let w : write_of h (row_count o) o room ≡ Ok (length bs) =
    write-fine h (row_count o) o room f (rw q m.0) (rw q r) ∙ ap (λ (x : List ℕ). Ok (length x)) q in
    (w, rw (w, q))

-- **read then written**, of the tables as the reading left them, over any old contents
pub read-write-over : (bs : List ℕ) (h : Header) (o old : Tables) (room : ℕ) (l : List ℕ) → reading Exact bs ≡ sheet h o → length bs ≤ room
    → (write_of h (row_count o) (over_of o old) room ≡ Ok (length bs)) × (output_of (write_of h (row_count o) (over_of o old) room) (sheet_text h (row_count o) (over_of o old)) l ≡ over bs l)
read-write-over bs h o old room l e r =
    let n = row_count o in
    let u : used_of n (over_of o old) ≡ o = read-used Exact bs h o _ (reading-meaning Exact bs h o e).1 in
    let w : write_of h n (over_of o old) room ≡ write_of h n o room = sym (write-used h n (over_of o old) room) ∙ ap (λ (x : Tables). write_of h n x room) u in
    let s : sheet_text h n (over_of o old) ≡ sheet_text h n o = sym (text-used h n (over_of o old)) ∙ ap (sheet_text h n) u in
    let z = read-write bs h o room l e r in
    (w ∙ z.0, ap₂ (λ (x : Result ℕ Unwritten) (y : List ℕ). output_of x y l) w s ∙ z.1)

-- **what was read is well made**, in every mode, on the tables as the reading leaves them: the premise of every question that is asked of a row alone
pub read-fine-over : (mode : Mode) (bs : List ℕ) (h : Header) (o old : Tables) → reading mode bs ≡ sheet h o → judge_of Loose h (row_count o) (over_of o old) ≡ Ok tt
read-fine-over mode bs h o old e =
    let l = (reading-meaning Former bs h o (reading-widens mode Former (former-widest mode) bs h o e)).1 in
    judge-alike Loose Former refl h (row_count o) (over_of o old)
    ∙ sym (judge-used Former h (row_count o) (over_of o old)) ∙ ap (judge_of Former h (row_count o)) (read-used Former bs h o _ l) ∙ (comes-made Former bs h o l).0
