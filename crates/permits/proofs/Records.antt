-- What the contracts of `record_at` and `cxf_record_at`, as their sources write them, permit on some files: document 01, "Records". Assumes nothing.
use Prim.Native.Nat.{ℕ}
use mathlib.Core.Path.{◌≡◌, refl, ◌∙◌}
use mathlib.Core.List.{List}
use mathlib.Core.Bool.{Bool, true, false}
use contract.Lifetimes.{Lfts}
use borrow.Fn.World.{ArgsD, ResD}
use denote.Triple.Clauses.{AtExit}
use Rattle.laws.specs.Text.{text}
use Rattle.record.proofs.RecordExamples.{computed}
use Rattle.record.specs.declared.Mode.{Mode}
use Rattle.record.specs.declared.Mode.TheVariants.{Loose, Exact}
use Rattle.record.specs.declared.Found.{Found}
use Rattle.std.specs.Prelude.{Result, Err}
use Rattle.record.specs.declared.refusal.Refusal.{Refusal}
use Rattle.record.specs.declared.refusal.Refusal.TheVariants.{Cut, LineEnd}
use Rattle.record.specs.Record.{found, record_at}
use Rattle.record.specs.contracts.record_at as record-at
use Rattle.record.proofs.record_at.Reads as record-at-reads
use Rattle.told.specs.declared.CxfRecord.{CxfRecord}
use Rattle.told.specs.Told.{record_told}
use Rattle.told.specs.Asked.{mode_of, is_keyword_due}
use Rattle.cabi.specs.contracts.cxf_record_at as cxf-record-at
use Rattle.cabi.proofs.cxf_record_at.Reads as cxf-record-at-reads

-- ---- the answers, computed

-- two records with CR LF, and what is no record
unfoldable pub two : List ℕ
two = text "MAPPA\r\n a b \r\nX"

pub second : record_at two 7 Exact false ≡ found 7 5 14
unfolding computed two
second = refl

pub third : record_at two 14 Exact false ≡ Err Cut
unfolding computed two
third = refl

-- `EOF` without a line end
unfoldable pub unended : List ℕ
unended = text "A\nEOF"

eof-due : record_at unended 2 Loose true ≡ found 2 3 5
unfolding computed unended
eof-due = refl

pub eof-not-due : record_at unended 2 Loose false ≡ Err Cut
unfolding computed unended
eof-not-due = refl

bare : record_at unended 0 Exact false ≡ Err LineEnd
unfolding computed unended
bare = refl

-- ---- `record_at`

module _ (κs : Lfts 1) (a : ArgsD record-at.signature κs) (r : ResD record-at.signature κs) (e : AtExit record-at.ended κs) (post : record-at-reads.Learnt κs a r e) where
  -- on these bytes, asked so, this answer alone is permitted
  abbrev pub Only : List ℕ → ℕ → Mode → Bool → Result Found Refusal → Type 0
  Only s at mode due x = a.0.now ≡ s → a.1.0 ≡ at → a.1.1.0 ≡ mode → a.1.1.1.0 ≡ due → r ≡ x

  only : {s : List ℕ} {at : ℕ} {mode : Mode} {due : Bool} {x : Result Found Refusal} → record_at s at mode due ≡ x → Only s at mode due x
  only q s at mode due = post ∙ rw (s, at, mode, due) q

  -- the next place is past the line end, and no blank is dropped
  pub record-answers : Only two 7 Exact false (found 7 5 14)
  record-answers = only second

  pub record-cut : Only two 14 Exact false (Err Cut)
  record-cut = only third

  pub record-eof-due : Only unended 2 Loose true (found 2 3 5)
  record-eof-due = only eof-due

  pub record-eof-not-due : Only unended 2 Loose false (Err Cut)
  record-eof-not-due = only eof-not-due

  pub record-bare-line-feed : Only unended 0 Exact false (Err LineEnd)
  record-bare-line-feed = only bare

-- ---- `cxf_record_at`: mode 3 is exact, and a keyword is due where `due` is not 0

module _ (κs : Lfts 1) (a : ArgsD cxf-record-at.signature κs) (r : ResD cxf-record-at.signature κs) (e : AtExit cxf-record-at.ended κs) (post : cxf-record-at-reads.Learnt κs a r e) where
  abbrev pub CxfOnly : List ℕ → ℕ → ℕ → ℕ → CxfRecord → Type 0
  CxfOnly s at mode due x = a.0.now ≡ s → a.1.0 ≡ at → a.1.1.0 ≡ mode → a.1.1.1.0 ≡ due → r ≡ x

  cxf-only : {s : List ℕ} {at mode due : ℕ} {x : Result Found Refusal} → record_at s at (mode_of mode) (is_keyword_due due) ≡ x → CxfOnly s at mode due (record_told x)
  cxf-only q s at mode due = post ∙ rw (s, at, mode, due, q) refl

  pub cxf-record-answers : CxfOnly two 7 3 0 (record { number = 0; start = 7; length = 5; next = 14 })
  cxf-record-answers = cxf-only second

  pub cxf-record-cut : CxfOnly two 14 3 0 (record { number = 2; start = 0; length = 0; next = 0 })
  cxf-record-cut = cxf-only third

  pub cxf-record-eof-due : CxfOnly unended 2 0 5 (record { number = 0; start = 2; length = 3; next = 5 })
  cxf-record-eof-due = cxf-only eof-due

  pub cxf-record-eof-not-due : CxfOnly unended 2 0 0 (record { number = 2; start = 0; length = 0; next = 0 })
  cxf-record-eof-not-due = cxf-only eof-not-due

  pub cxf-record-bare-line-feed : CxfOnly unended 0 3 0 (record { number = 3; start = 0; length = 0; next = 0 })
  cxf-record-bare-line-feed = cxf-only bare
