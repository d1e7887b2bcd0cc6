-- One clean file for one sheet, of the library's own functions: document 02, T-13. `read_as` in loose mode into lent tables, then `write` of what it
-- answered and left into a lent output. Assumes nothing.
use mathlib.Core.Path.{◌≡◌, refl, sym, ◌∙◌, ap, ap₂}
use mathlib.Core.List.{List}
use mathlib.Core.Bool.{Bool, true, false}
use Prim.Native.Nat.{ℕ, ◌≤◌}
use Rattle.std.specs.Prelude.{Result, Ok}
use lib.ListN.{length, drop}
use lib.Seq.{take_at}
use Rattle.laws.specs.Lists.{over}
use Rattle.record.specs.declared.Mode.TheVariants.{Loose, Exact}
use Rattle.heading.specs.declared.Header.{Header}
use Rattle.heading.specs.Heading.{no_header, is_header}
use Rattle.sheet.specs.Tables.{Tables, over_of, row_count}
use Rattle.sheet.specs.Reading.{Reading, sheet, refused, reading}
use Rattle.sheet.proofs.Meaning.{reading-meaning}
use Rattle.made.specs.Made.{judge_of, used_of}
use Rattle.layout.specs.Sheet.{sheet_text}
use Rattle.layout.proofs.UsedLaws.{text-used, read-used}
use Rattle.reader.specs.Columns.{reading_column}
use Rattle.reader.specs.Read.{Answer, needs_of, holds_all, read_with, answered, read_of, tables_in, header_of, counts_of}
use Rattle.reader.specs.Exit.{rooms_in, answer_to, at_exit}
use Rattle.reader.proofs.ReadLaws.{is_read, is-no-room}
use Rattle.writer.specs.declared.Unwritten.{Unwritten}
use Rattle.writer.specs.Write.{write_of, output_of}
use Rattle.writer.proofs.WriteLaws.{wrote-only, write-fine, write-used}
use Rattle.clean.specs.Clean.{text_of, clean, clean_of, written_of, left_of, bytes_of}
use Rattle.clean.proofs.CleanLaws.{Cleanable, cleanable-fine, cleaned, text-exact, wrote-listed, equal-only, exact-text, exact-cleanable}

-- ---- what was read over old contents is written as what was read alone

module _ (bs : List ℕ) (h : Header) (o old : Tables) (e : reading Loose bs ≡ sheet h o) where
  used-is : used_of (row_count o) (over_of o old) ≡ o
  used-is = read-used Loose bs h o _ (reading-meaning Loose bs h o e).1

  write-over : (room : ℕ) → write_of h (row_count o) (over_of o old) room ≡ write_of h (row_count o) o room
  write-over room = sym (write-used h (row_count o) (over_of o old) room) ∙ ap (λ (x : Tables). write_of h (row_count o) x room) used-is

  text-over : sheet_text h (row_count o) (over_of o old) ≡ text_of h o
  text-over = sym (text-used h (row_count o) (over_of o old)) ∙ ap (sheet_text h (row_count o)) used-is

-- ---- reading, then writing

module _ (bs : List ℕ) (t : Tables) (out : List ℕ) where
  -- the writer's answer and output, by the reader's answer and what the file means
  abbrev written_by : Answer → Reading → Result ℕ Unwritten
  written_by x y = write_of (header_of x) (counts_of x).rows (at_exit x (tables_in y) t) (length out)

  abbrev left_by : Answer → Reading → List ℕ
  left_by x y = output_of (written_by x y) (sheet_text (header_of x) (counts_of x).rows (at_exit x (tables_in y) t)) out

  -- a file that is read: the writer answers as for what was read alone
  module _ (h : Header) (o : Tables) (e : reading Loose bs ≡ sheet h o) (room : holds_all (needs_of o) (rooms_in t) ≡ true) where
    read-in : answer_to Loose bs t ≡ read_with (needs_of o) h
    read-in = is_read Loose bs (rooms_in t) h o e room

    written_is : written_of bs t out ≡ write_of h (row_count o) o (length out)
    unfolding written_of
    written_is = ap₂ written_by read-in e ∙ write-over bs h o t e (length out)

    left_is : left_of bs t out ≡ output_of (write_of h (row_count o) o (length out)) (text_of h o) out
    unfolding left_of written_of
    left_is = ap₂ left_by read-in e ∙ ap₂ (λ (x : Result ℕ Unwritten) (s : List ℕ). output_of x s out) (write-over bs h o t e (length out)) (text-over bs h o t e)

-- what a refused reading answers is never written
no-header : (n : ℕ) (t : Tables) (room m : ℕ) → write_of no_header n t room ≡ Ok m → ⊥
unfolding write_of judge_of is_header
no-header n t room m e = cc

-- a file that was cleaned: loose mode accepts it as h and o with only listed codes, its text fits the length limit, and the tables t and the output have room
pub record Run (bs : List ℕ) (h : Header) (o t : Tables) (out : List ℕ) : Type 0 where
  pub can : Cleanable bs h o
  pub tables : holds_all (needs_of o) (rooms_in t) ≡ true
  pub room : length (text_of h o) ≤ length out

-- then `write` answers the length of the sheet's text, and the output holds it, and behind it what it held; the bytes that were written are that text
module _ {bs : List ℕ} {h : Header} {o t : Tables} {out : List ℕ} (c : Run bs h o t out) where
  wrote : write_of h (row_count o) o (length out) ≡ Ok (length (text_of h o))
  wrote = write-fine h (row_count o) o (length out) (cleanable-fine c.can) c.can.fits c.room

  pub run-writes : (written_of bs t out ≡ Ok (length (text_of h o))) × (left_of bs t out ≡ over (text_of h o) out)
  run-writes = (written_is bs t out h o c.can.accepted c.tables ∙ wrote, left_is bs t out h o c.can.accepted c.tables ∙ rw wrote refl)

  pub run-bytes : bytes_of bs t out ≡ text_of h o
  unfolding bytes_of
  run-bytes = rw (run-writes.0, run-writes.1) (take_at (text_of h o) (drop (length (text_of h o)) out) (length (text_of h o)) refl)

  -- it is the clean file
  pub run-clean : clean_of bs ≡ clean (bytes_of bs t out)
  run-clean = cleaned c.can ∙ ap clean (sym run-bytes)

wrote-room : (h : Header) (o : Tables) (room n : ℕ) → write_of h (row_count o) o room ≡ Ok n → length (text_of h o) ≤ room
unfolding write_of
wrote-room h o room n w = (wrote-only (judge_of Exact h (row_count o) o) (length (text_of h o)) room n w).space

-- and where `write` answers a length, the file was cleaned
pub writes-run : (bs : List ℕ) (t : Tables) (out : List ℕ) (n : ℕ) → written_of bs t out ≡ Ok n → (h : Header) × (o : Tables) × Run bs h o t out
unfolding written_of read_of
writes-run bs t out n q = by (reading Loose bs) refl
  where
    read : (h : Header) (o : Tables) → reading Loose bs ≡ sheet h o → (b : Bool) → holds_all (needs_of o) (rooms_in t) ≡ b → (h : Header) × (o : Tables) × Run bs h o t out
    read h o e true f =
        let w : write_of h (row_count o) o (length out) ≡ Ok n = sym (written_is bs t out h o e f) ∙ q in
        (h, o, record { can = wrote-listed bs h o (length out) n e w; tables = f; room = wrote-room h o (length out) n w })
    read h o e false f =
        absurd (no-header (needs_of o).rows t (length out) n (sym (ap₂ (written_by bs t out) (is-no-room Loose bs (rooms_in t) h o e f) e) ∙ q))

    by : (x : Reading) → reading Loose bs ≡ x → (h : Header) × (o : Tables) × Run bs h o t out
    by (sheet h o) e = read h o e (holds_all (needs_of o) (rooms_in t)) refl
    by (refused m k at) e =
        absurd (no-header 0 t (length out) n (sym (ap (λ (y : Reading). written_by bs t out (answered (reading_column Loose bs) y (rooms_in t)) y) e) ∙ q))

-- ---- T-13, sentence by sentence

-- "**two files .. come out of reading and writing as equal bytes exactly when their header values and elements are equal**"
module _ {a b : List ℕ} {h g : Header} {o u t v : Tables} {x y : List ℕ} (c : Run a h o t x) (d : Run b g u v y) where
  pub repeats-only : bytes_of a t x ≡ bytes_of b v y → (h ≡ g) × (o ≡ u)
  repeats-only e = equal-only c.can d.can (run-clean c ∙ ap clean e ∙ sym (run-clean d))

  pub repeats-both : h ≡ g → o ≡ u → bytes_of a t x ≡ bytes_of b v y
  repeats-both p q = run-bytes c ∙ ap₂ text_of p q ∙ sym (run-bytes d)

module _ {bs : List ℕ} {h : Header} {o t : Tables} {out : List ℕ} (c : Run bs h o t out) where
  -- "**a clean file is one the exact mode accepts**", with the same header and elements
  pub run-exact : reading Exact (bytes_of bs t out) ≡ sheet h o
  run-exact = ap (reading Exact) (run-bytes c) ∙ text-exact c.can

  -- "**cleaning an already clean file gives it back**", in any tables and output that have room
  pub run-again : (v : Tables) (y : List ℕ) → holds_all (needs_of o) (rooms_in v) ≡ true → length (bytes_of bs t out) ≤ length y → bytes_of (bytes_of bs t out) v y ≡ bytes_of bs t out
  run-again v y tables room =
      let q = exact-text (bytes_of bs t out) h o run-exact in
      let r : Run (bytes_of bs t out) h o v y = record { can = exact-cleanable (bytes_of bs t out) h o run-exact; tables = tables; room = rw q room } in
      run-bytes r ∙ q

-- **a file that exact mode accepts is its own clean file**, where tables and output have room
pub exact-run : (bs : List ℕ) (h : Header) (o t : Tables) (out : List ℕ) → reading Exact bs ≡ sheet h o → holds_all (needs_of o) (rooms_in t) ≡ true → length bs ≤ length out
    → (written_of bs t out ≡ Ok (length bs)) × (left_of bs t out ≡ over bs out) × (bytes_of bs t out ≡ bs)
exact-run bs h o t out e tables room =
    let q = exact-text bs h o e in
    let r : Run bs h o t out = record { can = exact-cleanable bs h o e; tables = tables; room = rw q room } in
    ((run-writes r).0 ∙ ap (λ (z : List ℕ). Ok (length z)) q, (run-writes r).1 ∙ ap (λ (z : List ℕ). over z out) q, run-bytes r ∙ q)
