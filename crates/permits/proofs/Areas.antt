-- What the contracts of `ring_area`, `net_area`, `cxf_ring_area` and `cxf_net_area` permit (document 01, "Areas"): on each sheet one answer. Assumes nothing.
use Prim.Native.Nat.{ℕ}
use mathlib.Core.Path.{◌≡◌, refl, ◌∙◌, ap}
use lib.IntN.{ℤ, pos, negsuc}
use Rattle.std.specs.Prelude.{Result, Ok, Err}
use contract.Lifetimes.{Lfts}
use borrow.Fn.World.{ArgsD, ResD}
use denote.Triple.Clauses.{AtExit}
use Rattle.heading.specs.declared.Header.{Header}
use Rattle.sheet.specs.Tables.{Tables}
use Rattle.made.specs.declared.Flaw.TheVariants.{BadHeader, Faulty}
use Rattle.area.specs.declared.AreaRefusal.{AreaRefusal}
use Rattle.area.specs.declared.AreaRefusal.TheVariants.{Wide, Missing, Refused}
use Rattle.area.specs.Questions.{ring_area_at, net_area_at}
use Rattle.area.specs.QuestionExamples.{computed}
use Rattle.area.specs.contracts.ring_area as ring-area
use Rattle.area.proofs.ring_area.Reads as ring-reads
use Rattle.area.specs.contracts.net_area as net-area
use Rattle.area.proofs.net_area.Reads as net-reads
use Rattle.told.specs.declared.question.CxfArea.{CxfArea}
use Rattle.told.specs.Asked.{header_of}
use Rattle.told.specs.Answers.{area_told}
use Rattle.cabi.specs.contracts.cxf_ring_area as cxf-ring-area
use Rattle.cabi.proofs.cxf_ring_area.Reads as cxf-ring-reads
use Rattle.cabi.specs.contracts.cxf_net_area as cxf-net-area
use Rattle.cabi.proofs.cxf_net_area.Reads as cxf-net-reads
use Rattle.permits.proofs.SmallSheets.{Handed, Tabled, header, no_kind, in-C, no-kind-in-C, small, large, wide, faulty}

-- ---- ring_area

outer-is : ring_area_at header 4 small 1 0 ≡ Ok (pos 200)
unfolding computed
outer-is = refl

island-is : ring_area_at header 4 small 1 1 ≡ Ok (pos 4)
unfolding computed
island-is = refl

-- behind the points of another border
building-is : ring_area_at header 4 small 3 0 ≡ Ok (pos 600)
unfolding computed
building-is = refl

ring-past : ring_area_at header 4 small 1 2 ≡ Err Missing
unfolding computed
ring-past = refl

-- row 0 is a text: row and ring are not exchanged
ring-of-text : ring_area_at header 4 small 0 1 ≡ Err Missing
unfolding computed
ring-of-text = refl

-- 17 is of that ring alone
wide-island : ring_area_at header 4 wide 1 1 ≡ Err Wide
unfolding computed
wide-island = refl

outer-of-wide : ring_area_at header 4 wide 1 0 ≡ Ok (pos 200)
unfolding computed
outer-of-wide = refl

-- 6, then 15, then 19
ring-headed : ring_area_at no_kind 4 faulty 4 0 ≡ Err (Refused BadHeader)
unfolding computed
ring-headed = refl

ring-made : ring_area_at header 4 faulty 4 0 ≡ Err (Refused (Faulty 3))
unfolding computed
ring-made = refl

module _ (κs : Lfts 2) (a : ArgsD ring-area.signature κs) (r : ResD ring-area.signature κs) (e : AtExit ring-area.ended κs) where
  abbrev pub OnlyRing : Header → ℕ → Tables → ℕ → ℕ → Result ℤ AreaRefusal → Type 0
  OnlyRing h count t row ring x = Handed h count t a.0.now → a.1.0 ≡ row → a.1.1.0 ≡ ring → ring-reads.Learnt κs a r e → r ≡ x

  only-ring : {h : Header} {count : ℕ} {t : Tables} {row ring : ℕ} {x : Result ℤ AreaRefusal} → ring_area_at h count t row ring ≡ x → OnlyRing h count t row ring x
  only-ring q d k i post = post ∙ rw (d.header-is, d.count-is, d.tables-are, k, i) q

  pub ring-outer : OnlyRing header 4 small 1 0 (Ok (pos 200))
  ring-outer = only-ring outer-is

  pub ring-island : OnlyRing header 4 small 1 1 (Ok (pos 4))
  ring-island = only-ring island-is

  pub ring-second-border : OnlyRing header 4 small 3 0 (Ok (pos 600))
  ring-second-border = only-ring building-is

  pub ring-past-the-islands : OnlyRing header 4 small 1 2 (Err Missing)
  ring-past-the-islands = only-ring ring-past

  pub ring-no-border : OnlyRing header 4 small 0 1 (Err Missing)
  ring-no-border = only-ring ring-of-text

  pub ring-too-wide : OnlyRing header 4 wide 1 1 (Err Wide)
  ring-too-wide = only-ring wide-island

  pub ring-beside-a-wide : OnlyRing header 4 wide 1 0 (Ok (pos 200))
  ring-beside-a-wide = only-ring outer-of-wide

  pub ring-bad-header : OnlyRing no_kind 4 faulty 4 0 (Err (Refused BadHeader))
  ring-bad-header = only-ring ring-headed

  pub ring-faulty-row : OnlyRing header 4 faulty 4 0 (Err (Refused (Faulty 3)))
  ring-faulty-row = only-ring ring-made

-- ---- cxf_ring_area

module _ (κs : Lfts 5) (a : ArgsD cxf-ring-area.signature κs) (r : ResD cxf-ring-area.signature κs) (e : AtExit cxf-ring-area.ended κs) where
  abbrev pub OnlyCxfRing : Header → ℕ → Tables → ℕ → ℕ → CxfArea → Type 0
  OnlyCxfRing h count t row ring x =
      a.0 ≡ h.kind → a.1.0.now ≡ h.name → a.1.1.0 ≡ h.scale → Tabled count t a.1.1.1 → a.1.1.1.1.1.1.1.1.0 ≡ row → a.1.1.1.1.1.1.1.1.1.0 ≡ ring → cxf-ring-reads.Learnt κs a r e → r ≡ x

  only-cxf-ring : {h h' : Header} {count : ℕ} {t : Tables} {row ring : ℕ} {x : Result ℤ AreaRefusal} → header_of h.kind h.name h.scale ≡ h' → ring_area_at h' count t row ring ≡ x → OnlyCxfRing h count t row ring (area_told x)
  only-cxf-ring p q kind name scale d k i post = post ∙ rw (kind, name, scale, d.count-is, d.rows_are, d.letters-are, d.islands-are, d.points-are, k, i, p) (ap area_told q)

  -- row and ring are not exchanged: row 1 and ring 0, then row 0 and ring 1
  pub cxf-ring-outer : OnlyCxfRing header 4 small 1 0 (record { number = 0; row = 0; doubled = pos 200 })
  cxf-ring-outer = only-cxf-ring in-C outer-is

  pub cxf-ring-no-border : OnlyCxfRing header 4 small 0 1 (record { number = 19; row = 0; doubled = pos 0 })
  cxf-ring-no-border = only-cxf-ring in-C ring-of-text

  pub cxf-ring-island : OnlyCxfRing header 4 small 1 1 (record { number = 0; row = 0; doubled = pos 4 })
  cxf-ring-island = only-cxf-ring in-C island-is

  pub cxf-ring-too-wide : OnlyCxfRing header 4 wide 1 1 (record { number = 17; row = 0; doubled = pos 0 })
  cxf-ring-too-wide = only-cxf-ring in-C wide-island

  pub cxf-ring-bad-header : OnlyCxfRing no_kind 4 faulty 4 0 (record { number = 6; row = 0; doubled = pos 0 })
  cxf-ring-bad-header = only-cxf-ring no-kind-in-C ring-headed

  pub cxf-ring-faulty-row : OnlyCxfRing header 4 faulty 4 0 (record { number = 15; row = 3; doubled = pos 0 })
  cxf-ring-faulty-row = only-cxf-ring in-C ring-made

-- ---- net_area

net-is : net_area_at header 4 small 1 ≡ Ok (pos 196)
unfolding computed
net-is = refl

-- the island is larger than the outer ring
net-below-0 : net_area_at header 4 large 1 ≡ Ok (negsuc 199)
unfolding computed
net-below-0 = refl

wide-net : net_area_at header 4 wide 1 ≡ Err Wide
unfolding computed
wide-net = refl

net-of-text : net_area_at header 4 small 0 ≡ Err Missing
unfolding computed
net-of-text = refl

net-past : net_area_at header 4 small 4 ≡ Err Missing
unfolding computed
net-past = refl

net-headed : net_area_at no_kind 4 faulty 4 ≡ Err (Refused BadHeader)
unfolding computed
net-headed = refl

net-made : net_area_at header 4 faulty 4 ≡ Err (Refused (Faulty 3))
unfolding computed
net-made = refl

module _ (κs : Lfts 2) (a : ArgsD net-area.signature κs) (r : ResD net-area.signature κs) (e : AtExit net-area.ended κs) where
  abbrev pub OnlyNet : Header → ℕ → Tables → ℕ → Result ℤ AreaRefusal → Type 0
  OnlyNet h count t row x = Handed h count t a.0.now → a.1.0 ≡ row → net-reads.Learnt κs a r e → r ≡ x

  only-net : {h : Header} {count : ℕ} {t : Tables} {row : ℕ} {x : Result ℤ AreaRefusal} → net_area_at h count t row ≡ x → OnlyNet h count t row x
  only-net q d k post = post ∙ rw (d.header-is, d.count-is, d.tables-are, k) q

  pub net-answers : OnlyNet header 4 small 1 (Ok (pos 196))
  net-answers = only-net net-is

  pub net-negative : OnlyNet header 4 large 1 (Ok (negsuc 199))
  net-negative = only-net net-below-0

  pub net-too-wide : OnlyNet header 4 wide 1 (Err Wide)
  net-too-wide = only-net wide-net

  pub net-no-border : OnlyNet header 4 small 0 (Err Missing)
  net-no-border = only-net net-of-text

  pub net-past-the-last : OnlyNet header 4 small 4 (Err Missing)
  net-past-the-last = only-net net-past

  pub net-bad-header : OnlyNet no_kind 4 faulty 4 (Err (Refused BadHeader))
  net-bad-header = only-net net-headed

  pub net-faulty-row : OnlyNet header 4 faulty 4 (Err (Refused (Faulty 3)))
  net-faulty-row = only-net net-made

-- ---- cxf_net_area

module _ (κs : Lfts 5) (a : ArgsD cxf-net-area.signature κs) (r : ResD cxf-net-area.signature κs) (e : AtExit cxf-net-area.ended κs) where
  abbrev pub OnlyCxfNet : Header → ℕ → Tables → ℕ → CxfArea → Type 0
  OnlyCxfNet h count t row x = a.0 ≡ h.kind → a.1.0.now ≡ h.name → a.1.1.0 ≡ h.scale → Tabled count t a.1.1.1 → a.1.1.1.1.1.1.1.1.0 ≡ row → cxf-net-reads.Learnt κs a r e → r ≡ x

  only-cxf-net : {h h' : Header} {count : ℕ} {t : Tables} {row : ℕ} {x : Result ℤ AreaRefusal} → header_of h.kind h.name h.scale ≡ h' → net_area_at h' count t row ≡ x → OnlyCxfNet h count t row (area_told x)
  only-cxf-net p q kind name scale d k post = post ∙ rw (kind, name, scale, d.count-is, d.rows_are, d.letters-are, d.islands-are, d.points-are, k, p) (ap area_told q)

  pub cxf-net-answers : OnlyCxfNet header 4 small 1 (record { number = 0; row = 0; doubled = pos 196 })
  cxf-net-answers = only-cxf-net in-C net-is

  pub cxf-net-negative : OnlyCxfNet header 4 large 1 (record { number = 0; row = 0; doubled = negsuc 199 })
  cxf-net-negative = only-cxf-net in-C net-below-0

  pub cxf-net-too-wide : OnlyCxfNet header 4 wide 1 (record { number = 17; row = 0; doubled = pos 0 })
  cxf-net-too-wide = only-cxf-net in-C wide-net

  pub cxf-net-past-the-last : OnlyCxfNet header 4 small 4 (record { number = 19; row = 0; doubled = pos 0 })
  cxf-net-past-the-last = only-cxf-net in-C net-past

  pub cxf-net-bad-header : OnlyCxfNet no_kind 4 faulty 4 (record { number = 6; row = 0; doubled = pos 0 })
  cxf-net-bad-header = only-cxf-net no-kind-in-C net-headed

  pub cxf-net-faulty-row : OnlyCxfNet header 4 faulty 4 (record { number = 15; row = 3; doubled = pos 0 })
  cxf-net-faulty-row = only-cxf-net in-C net-made
