-- What the contracts of `tally_sheet` and `cxf_tally_sheet` permit (document 01, "Areas"): on each sheet one answer, all 24 figures. Assumes nothing.
use Prim.Native.Nat.{ℕ}
use mathlib.Core.Path.{◌≡◌, refl, ◌∙◌, ap}
use mathlib.Core.List.{List, [], ◌∷◌, ◌++◌}
use lib.ListN.{replicate}
use lib.IntN.{ℤ, pos}
use Rattle.std.specs.Prelude.{Ok, Err}
use contract.Lifetimes.{Lfts}
use borrow.Fn.World.{ArgsD, ResD}
use denote.Triple.Clauses.{AtExit}
use Rattle.heading.specs.declared.Header.{Header}
use Rattle.sheet.specs.Tables.{Tables}
use Rattle.made.specs.declared.Flaw.TheVariants.{BadHeader, Faulty}
use Rattle.tally.specs.declared.Taken.{Taken}
use Rattle.tally.specs.declared.Untallied.TheVariants.{Sheet, Wide}
use Rattle.tally.specs.Tally.{no_figures, empty_tally, tally_on}
use Rattle.tally.specs.Take.{taken_with, tally_of}
use Rattle.tally.specs.Examples.{computed}
use Rattle.tally.specs.contracts.tally_sheet as tally-sheet
use Rattle.tally.proofs.tally_sheet.Reads as tally-reads
use Rattle.told.specs.declared.tallies.CxfTally.{CxfTally}
use Rattle.told.specs.Asked.{header_of}
use Rattle.told.specs.Tallies.{tally_told}
use Rattle.cabi.specs.contracts.cxf_tally_sheet as cxf-tally-sheet
use Rattle.cabi.proofs.cxf_tally_sheet.Reads as cxf-tally-reads
use Rattle.permits.proofs.SmallSheets.{Handed, Tabled, header, no_kind, in-C, no-kind-in-C, small, wide, faulty, false_start}

-- ---- tally_sheet

-- a building of 600, and a parcel of 200 with one island of 4: borders, outer total, islands, island total
abbrev counted : List ℤ
counted = replicate 16 (pos 0) ++ pos 1 ∷ pos 600 ∷ pos 0 ∷ pos 0 ∷ pos 1 ∷ pos 200 ∷ pos 1 ∷ pos 4 ∷ []

counted_is : tally_of header 4 small ≡ taken_with (tally_on counted) (Ok tt)
unfolding computed
counted_is = refl

none-counted : tally_of header 0 small ≡ taken_with empty_tally (Ok tt)
unfolding computed
none-counted = refl

-- refused, the figures are all 0
too_wide : tally_of header 4 wide ≡ taken_with empty_tally (Err (Wide 1))
unfolding computed
too_wide = refl

headed : tally_of no_kind 4 faulty ≡ taken_with empty_tally (Err (Sheet BadHeader))
unfolding computed
headed = refl

made : tally_of header 4 faulty ≡ taken_with empty_tally (Err (Sheet (Faulty 3)))
unfolding computed
made = refl

placed : tally_of header 4 false_start ≡ taken_with empty_tally (Err (Sheet (Faulty 3)))
unfolding computed
placed = refl

module _ (κs : Lfts 2) (a : ArgsD tally-sheet.signature κs) (r : ResD tally-sheet.signature κs) (e : AtExit tally-sheet.ended κs) where
  abbrev pub Only : Header → ℕ → Tables → Taken → Type 0
  Only h count t x = Handed h count t a.0.now → tally-reads.Learnt κs a r e → r ≡ x

  only : {h : Header} {count : ℕ} {t : Tables} {x : Taken} → tally_of h count t ≡ x → Only h count t x
  only q d post = post ∙ rw (d.header-is, d.count-is, d.tables-are) q

  -- shuts out a tally with made-up counts
  pub tally-answers : Only header 4 small (taken_with (tally_on counted) (Ok tt))
  tally-answers = only counted_is

  pub tally-of-no-rows : Only header 0 small (taken_with empty_tally (Ok tt))
  tally-of-no-rows = only none-counted

  pub tally-too-wide : Only header 4 wide (taken_with empty_tally (Err (Wide 1)))
  tally-too-wide = only too_wide

  pub tally-bad-header : Only no_kind 4 faulty (taken_with empty_tally (Err (Sheet BadHeader)))
  tally-bad-header = only headed

  pub tally-faulty-row : Only header 4 faulty (taken_with empty_tally (Err (Sheet (Faulty 3))))
  tally-faulty-row = only made

  -- T-07: a row with a false start is not well made
  pub tally-false-start : Only header 4 false_start (taken_with empty_tally (Err (Sheet (Faulty 3))))
  tally-false-start = only placed

-- ---- cxf_tally_sheet

module _ (κs : Lfts 5) (a : ArgsD cxf-tally-sheet.signature κs) (r : ResD cxf-tally-sheet.signature κs) (e : AtExit cxf-tally-sheet.ended κs) where
  abbrev pub OnlyCxf : Header → ℕ → Tables → CxfTally → Type 0
  OnlyCxf h count t x = a.0 ≡ h.kind → a.1.0.now ≡ h.name → a.1.1.0 ≡ h.scale → Tabled count t a.1.1.1 → cxf-tally-reads.Learnt κs a r e → r ≡ x

  only-cxf : {h h' : Header} {count : ℕ} {t : Tables} {x : Taken} → header_of h.kind h.name h.scale ≡ h' → tally_of h' count t ≡ x → OnlyCxf h count t (tally_told x)
  only-cxf p q kind name scale d post = post ∙ rw (kind, name, scale, d.count-is, d.rows_are, d.letters-are, d.islands-are, d.points-are, p) (ap tally_told q)

  -- shuts out a tally with made-up counts
  pub cxf-tally-answers : OnlyCxf header 4 small (record { number = 0; row = 0; figures = counted })
  cxf-tally-answers = only-cxf in-C counted_is

  pub cxf-tally-of-no-rows : OnlyCxf header 0 small (record { number = 0; row = 0; figures = no_figures })
  cxf-tally-of-no-rows = only-cxf in-C none-counted

  pub cxf-tally-too-wide : OnlyCxf header 4 wide (record { number = 17; row = 1; figures = no_figures })
  cxf-tally-too-wide = only-cxf in-C too_wide

  pub cxf-tally-bad-header : OnlyCxf no_kind 4 faulty (record { number = 6; row = 0; figures = no_figures })
  cxf-tally-bad-header = only-cxf no-kind-in-C headed

  pub cxf-tally-faulty-row : OnlyCxf header 4 faulty (record { number = 15; row = 3; figures = no_figures })
  cxf-tally-faulty-row = only-cxf in-C made

  pub cxf-tally-false-start : OnlyCxf header 4 false_start (record { number = 15; row = 3; figures = no_figures })
  cxf-tally-false-start = only-cxf in-C placed
