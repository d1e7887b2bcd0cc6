-- What the contracts of `ring_check` and `cxf_ring_check` permit (document 01, "Ring check"): on each sheet one answer. Assumes nothing.
use Prim.Native.Nat.{ℕ}
use mathlib.Core.Path.{◌≡◌, refl, ◌∙◌, ap}
use Rattle.std.specs.Prelude.{Option, None, Result, Ok, Err}
use contract.Lifetimes.{Lfts}
use borrow.Fn.World.{ArgsD, ResD}
use denote.Triple.Clauses.{AtExit}
use Rattle.heading.specs.declared.Header.{Header}
use Rattle.sheet.specs.Tables.{Tables}
use Rattle.made.specs.declared.Flaw.TheVariants.{BadHeader, Faulty}
use Rattle.crossing.specs.declared.FaultyPair.{FaultyPair}
use Rattle.crossing.specs.Search.{fault_at}
use Rattle.area.specs.declared.AreaRefusal.{AreaRefusal}
use Rattle.area.specs.declared.AreaRefusal.TheVariants.{Wide, Missing, Refused}
use Rattle.ring.specs.RingCheck.{ring_check_at}
use Rattle.ring.specs.Examples.{computed}
use Rattle.ring.specs.contracts.ring_check as ring-check
use Rattle.ring.proofs.ring_check.Reads as check-reads
use Rattle.told.specs.declared.question.CxfRing.{CxfRing}
use Rattle.told.specs.Asked.{header_of}
use Rattle.told.specs.Answers.{no_ring, ring_told}
use Rattle.cabi.specs.contracts.cxf_ring_check as cxf-ring-check
use Rattle.cabi.proofs.cxf_ring_check.Reads as cxf-check-reads
use Rattle.permits.proofs.SmallSheets.{Handed, Tabled, header, no_kind, in-C, no-kind-in-C, small, wide, faulty}

-- ---- ring_check

parcel-simple : ring_check_at header 4 small 1 0 ≡ Ok None
unfolding computed
parcel-simple = refl

building-crosses : ring_check_at header 4 small 3 0 ≡ Ok (fault_at 0 2)
unfolding computed
building-crosses = refl

wide-island : ring_check_at header 4 wide 1 1 ≡ Err Wide
unfolding computed
wide-island = refl

ring-past : ring_check_at header 4 small 1 2 ≡ Err Missing
unfolding computed
ring-past = refl

-- row 0 is a text: row and ring are not exchanged
ring-of-text : ring_check_at header 4 small 0 1 ≡ Err Missing
unfolding computed
ring-of-text = refl

-- 6, then 15, then 19
headed : ring_check_at no_kind 4 faulty 4 0 ≡ Err (Refused BadHeader)
unfolding computed
headed = refl

made : ring_check_at header 4 faulty 4 0 ≡ Err (Refused (Faulty 3))
unfolding computed
made = refl

module _ (κs : Lfts 2) (a : ArgsD ring-check.signature κs) (r : ResD ring-check.signature κs) (e : AtExit ring-check.ended κs) where
  abbrev pub Only : Header → ℕ → Tables → ℕ → ℕ → Result (Option FaultyPair) AreaRefusal → Type 0
  Only h count t row ring x = Handed h count t a.0.now → a.1.0 ≡ row → a.1.1.0 ≡ ring → check-reads.Learnt κs a r e → r ≡ x

  only : {h : Header} {count : ℕ} {t : Tables} {row ring : ℕ} {x : Result (Option FaultyPair) AreaRefusal} → ring_check_at h count t row ring ≡ x → Only h count t row ring x
  only q d k i post = post ∙ rw (d.header-is, d.count-is, d.tables-are, k, i) q

  pub check-simple : Only header 4 small 1 0 (Ok None)
  check-simple = only parcel-simple

  pub check-crossing : Only header 4 small 3 0 (Ok (fault_at 0 2))
  check-crossing = only building-crosses

  pub check-too-wide : Only header 4 wide 1 1 (Err Wide)
  check-too-wide = only wide-island

  pub check-past-the-islands : Only header 4 small 1 2 (Err Missing)
  check-past-the-islands = only ring-past

  pub check-no-border : Only header 4 small 0 1 (Err Missing)
  check-no-border = only ring-of-text

  pub check-bad-header : Only no_kind 4 faulty 4 0 (Err (Refused BadHeader))
  check-bad-header = only headed

  pub check-faulty-row : Only header 4 faulty 4 0 (Err (Refused (Faulty 3)))
  check-faulty-row = only made

-- ---- cxf_ring_check

module _ (κs : Lfts 5) (a : ArgsD cxf-ring-check.signature κs) (r : ResD cxf-ring-check.signature κs) (e : AtExit cxf-ring-check.ended κs) where
  abbrev pub OnlyCxf : Header → ℕ → Tables → ℕ → ℕ → CxfRing → Type 0
  OnlyCxf h count t row ring x =
      a.0 ≡ h.kind → a.1.0.now ≡ h.name → a.1.1.0 ≡ h.scale → Tabled count t a.1.1.1 → a.1.1.1.1.1.1.1.1.0 ≡ row → a.1.1.1.1.1.1.1.1.1.0 ≡ ring → cxf-check-reads.Learnt κs a r e → r ≡ x

  only-cxf : {h h' : Header} {count : ℕ} {t : Tables} {row ring : ℕ} {x : Result (Option FaultyPair) AreaRefusal} → header_of h.kind h.name h.scale ≡ h' → ring_check_at h' count t row ring ≡ x → OnlyCxf h count t row ring (ring_told x)
  only-cxf p q kind name scale d k i post = post ∙ rw (kind, name, scale, d.count-is, d.rows_are, d.letters-are, d.islands-are, d.points-are, k, i, p) (ap ring_told q)

  -- row and ring are not exchanged: row 1 and ring 0, then row 0 and ring 1
  pub cxf-check-simple : OnlyCxf header 4 small 1 0 (record { number = 0; row = 0; simple = 1; first = 0; second = 0 })
  cxf-check-simple = only-cxf in-C parcel-simple

  pub cxf-check-no-border : OnlyCxf header 4 small 0 1 (no_ring 19 0)
  cxf-check-no-border = only-cxf in-C ring-of-text

  pub cxf-check-crossing : OnlyCxf header 4 small 3 0 (record { number = 0; row = 0; simple = 0; first = 0; second = 2 })
  cxf-check-crossing = only-cxf in-C building-crosses

  pub cxf-check-too-wide : OnlyCxf header 4 wide 1 1 (no_ring 17 0)
  cxf-check-too-wide = only-cxf in-C wide-island

  pub cxf-check-bad-header : OnlyCxf no_kind 4 faulty 4 0 (no_ring 6 0)
  cxf-check-bad-header = only-cxf no-kind-in-C headed

  pub cxf-check-faulty-row : OnlyCxf header 4 faulty 4 0 (no_ring 15 3)
  cxf-check-faulty-row = only-cxf in-C made
