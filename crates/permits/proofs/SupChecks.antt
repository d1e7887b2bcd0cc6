-- What the contracts of `sup_check` and `cxf_sup_check` permit on some sheets and files: document 02, T-10. Nothing is lent to be altered. Assumes nothing.
use Prim.Native.Nat.{ℕ, ◌+◌}
use mathlib.Core.Path.{◌≡◌, refl, ◌∙◌, ap}
use mathlib.Core.List.{List, [], ◌∷◌, ◌++◌}
use lib.ListN.{length, take, drop}
use Rattle.std.specs.Prelude.{Ok, Err}
use contract.Lifetimes.{Lfts}
use borrow.Fn.World.{ArgsD, ResD}
use denote.Triple.Clauses.{AtExit}
use Rattle.laws.specs.Text.{text}
use Rattle.heading.specs.declared.Header.{Header}
use Rattle.sheet.specs.Tables.{Tables}
use Rattle.made.specs.declared.Flaw.TheVariants.{BadHeader}
use Rattle.tally.specs.declared.Untallied.TheVariants.{Sheet, Wide}
use Rattle.supcheck.specs.declared.Unaccepted.TheVariants.{Refused, WrongLine}
use Rattle.supcheck.specs.Checked.{SupChecked, sup_checked}
use Rattle.supcheck.specs.Examples.{computed}
use Rattle.supcheck.specs.contracts.sup_check as sup-check
use Rattle.supcheck.proofs.sup_check.Reads as check-reads
use Rattle.told.specs.Asked.{header_of}
use Rattle.told.specs.SupChecks.{checked_told}
use Rattle.cabi.specs.contracts.cxf_sup_check as cxf-sup-check
use Rattle.cabi.proofs.cxf_sup_check.Reads as cxf-check-reads
use Rattle.permits.proofs.SmallSheets.{Handed, Tabled, header, no_kind, in-C, no-kind-in-C}
use Rattle.permits.proofs.SupFiles.{two_parcels, long_coded, wide_ringed, file}

-- ---- files, and the answers to them, computed

-- the sheet's own text with other bytes from one place on
abbrev pub altered : ℕ → List ℕ → List ℕ
altered k s = take k file ++ (s ++ drop (k + length s) file)

-- parcel `10`, of 6 m2, in the eighth line: 5 and 7 are allowed, 8 is not
accepted : (sup_checked header 3 two_parcels file ≡ Ok tt) × (sup_checked header 3 two_parcels (altered 181 (text "5")) ≡ Ok tt) × (sup_checked header 3 two_parcels (altered 181 (text "7")) ≡ Ok tt)
unfolding computed
accepted = (refl, refl, refl)

off : sup_checked header 3 two_parcels (altered 181 (text "8")) ≡ Err (WrongLine 8)
unfolding computed
off = refl

-- no such date
undated : sup_checked header 3 two_parcels (altered 17 (text "13")) ≡ Err (WrongLine 1)
unfolding computed
undated = refl

-- the last line is missing; a byte follows it
cut : sup_checked header 3 two_parcels (take 345 file) ≡ Err (WrongLine 16)
unfolding computed
cut = refl

longer : sup_checked header 3 two_parcels (file ++ 10 ∷ []) ≡ Err (WrongLine 17)
unfolding computed
longer = refl

-- a listed code of 12 letters makes its line wrong
coded : sup_checked header 3 long_coded file ≡ Err (WrongLine 8)
unfolding computed
coded = refl

-- the sheet's own refusals, whatever the file
headed : (s : List ℕ) → sup_checked no_kind 3 wide_ringed s ≡ Err (Refused (Sheet BadHeader))
unfolding computed
headed s = refl

ringed : (s : List ℕ) → sup_checked header 3 wide_ringed s ≡ Err (Refused (Wide 1))
unfolding computed
ringed s = refl

-- ---- `sup_check`

module _ (κs : Lfts 3) (a : ArgsD sup-check.signature κs) (r : ResD sup-check.signature κs) (e : AtExit sup-check.ended κs) (post : check-reads.Learnt κs a r e) where
  abbrev pub given : List ℕ
  given = a.1.0.now

  module _ {h : Header} {t : Tables} {s : List ℕ} (d : Handed h 3 t a.0.now) (q : given ≡ s) where
    answer : {x : SupChecked} → sup_checked h 3 t s ≡ x → r ≡ x
    answer f = post ∙ rw (d.header-is, d.count-is, d.tables-are, q) f

  module _ (d : Handed header 3 two_parcels a.0.now) where
    pub check-accepts : given ≡ file → r ≡ Ok tt
    check-accepts q = answer d q accepted.0

    pub check-allows : given ≡ altered 181 (text "7") → r ≡ Ok tt
    check-allows q = answer d q accepted.2

    pub check-wrong-area : given ≡ altered 181 (text "8") → r ≡ Err (WrongLine 8)
    check-wrong-area q = answer d q off

    pub check-wrong-date : given ≡ altered 17 (text "13") → r ≡ Err (WrongLine 1)
    check-wrong-date q = answer d q undated

    pub check-missing-line : given ≡ take 345 file → r ≡ Err (WrongLine 16)
    check-missing-line q = answer d q cut

    pub check-bytes-behind : given ≡ file ++ 10 ∷ [] → r ≡ Err (WrongLine 17)
    check-bytes-behind q = answer d q longer

  pub check-long-code : Handed header 3 long_coded a.0.now → given ≡ file → r ≡ Err (WrongLine 8)
  check-long-code d q = answer d q coded

  pub check-bad-header : Handed no_kind 3 wide_ringed a.0.now → r ≡ Err (Refused (Sheet BadHeader))
  check-bad-header d = answer d refl (headed given)

  pub check-too-wide : Handed header 3 wide_ringed a.0.now → r ≡ Err (Refused (Wide 1))
  check-too-wide d = answer d refl (ringed given)

-- ---- `cxf_sup_check`

module _ (κs : Lfts 6) (a : ArgsD cxf-sup-check.signature κs) (r : ResD cxf-sup-check.signature κs) (e : AtExit cxf-sup-check.ended κs) (post : cxf-check-reads.Learnt κs a r e) where
  -- this header is handed in
  abbrev pub Headed : Header → Type 0
  Headed h = (a.0 ≡ h.kind) × (a.1.0.now ≡ h.name) × (a.1.1.0 ≡ h.scale)

  abbrev pub cxf_given : List ℕ
  cxf_given = a.1.1.1.1.1.1.1.1.0.now

  module _ {h h' : Header} {t : Tables} {s : List ℕ} (in_c : header_of h.kind h.name h.scale ≡ h') (p : Headed h) (d : Tabled 3 t a.1.1.1) (q : cxf_given ≡ s) where
    cxf-answer : {x : SupChecked} → sup_checked h' 3 t s ≡ x → r ≡ checked_told x
    cxf-answer f = post ∙ rw (p.0, p.1, p.2, d.count-is, d.rows_are, d.letters-are, d.islands-are, d.points-are, q, in_c) (ap checked_told f)

  module _ (p : Headed header) (d : Tabled 3 two_parcels a.1.1.1) where
    pub cxf-check-accepts : cxf_given ≡ file → r ≡ record { number = 0; row = 0; line = 0 }
    cxf-check-accepts q = cxf-answer in-C p d q accepted.0

    pub cxf-check-wrong-area : cxf_given ≡ altered 181 (text "8") → r ≡ record { number = 25; row = 0; line = 8 }
    cxf-check-wrong-area q = cxf-answer in-C p d q off

    pub cxf-check-bytes-behind : cxf_given ≡ file ++ 10 ∷ [] → r ≡ record { number = 25; row = 0; line = 17 }
    cxf-check-bytes-behind q = cxf-answer in-C p d q longer

  pub cxf-check-bad-header : Headed no_kind → Tabled 3 wide_ringed a.1.1.1 → r ≡ record { number = 6; row = 0; line = 0 }
  cxf-check-bad-header p d = cxf-answer no-kind-in-C p d refl (headed cxf_given)

  pub cxf-check-too-wide : Headed header → Tabled 3 wide_ringed a.1.1.1 → r ≡ record { number = 17; row = 1; line = 0 }
  cxf-check-too-wide p d = cxf-answer in-C p d refl (ringed cxf_given)
