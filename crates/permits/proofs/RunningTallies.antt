-- What the contracts of `take`, `take_in` and `cxf_tally_take` permit (document 01, "Areas"): on each tally and sheet one answer; refused, the tally is as it was handed in. Assumes nothing.
use Prim.Native.Nat.{ℕ}
use mathlib.Core.Path.{◌≡◌, refl, ◌∙◌, ap}
use mathlib.Core.List.{List, [], ◌∷◌}
use lib.ListN.{length, replicate}
use lib.IntN.{ℤ, pos, negsuc}
use seplogic.Ra.Ura.{Ura}
use base.Logic.{SProp, ent}
use prog.Memory.{Memory}
use prog.Routine.{Routine}
use types.Logic.{Logic}
use Rattle.std.specs.Prelude.{Ok, Err}
use contract.Lifetimes.{Lfts}
use contract.Monad.{Fun, fact, fact_mono}
use borrow.Fn.World.{ArgsD, ResD}
use denote.Triple.Clauses.{AtExit}
use denote.Triple.Entry.{Args, Res}
use Rattle.heading.specs.declared.Header.{Header}
use Rattle.sheet.specs.Tables.{Tables}
use Rattle.made.specs.declared.Flaw.TheVariants.{BadHeader, Faulty}
use Rattle.tally.specs.declared.Tally.{Tally}
use Rattle.tally.specs.declared.Taken.{Taken}
use Rattle.tally.specs.declared.Untallied.TheVariants.{Sheet, Missing, Full, Wide}
use Rattle.tally.specs.Tally.{no_figures, tally_on}
use Rattle.tally.specs.Take.{taken_with, taken_of}
use Rattle.tally.specs.Examples.{computed}
use Rattle.tally.specs.contracts.take as take
use Rattle.tally.proofs.take.Reads as take-reads
use Rattle.tally.specs.contracts.take_in as take_in
use Rattle.told.specs.declared.tallies.CxfTally.{CxfTally}
use Rattle.told.specs.Asked.{header_of}
use Rattle.told.specs.Tallies.{no_tally, tally_in, take_told}
use Rattle.cabi.specs.contracts.cxf_tally_take as cxf-tally-take
use Rattle.cabi.proofs.cxf_tally_take.Reads as cxf-take-reads
use Rattle.permits.proofs.SmallSheets.{Handed, Tabled, header, no_kind, in-C, no-kind-in-C, small, wide, faulty}

-- ---- tallies that are handed in

-- every figure another, up to the parcels' outer total
abbrev counts : ℕ → List ℤ
counts outer =
    pos 1 ∷ pos 2 ∷ pos 3 ∷ pos 4 ∷ pos 5 ∷ pos 6 ∷ pos 7 ∷ pos 8 ∷ pos 9 ∷ pos 10 ∷ pos 11 ∷ pos 12 ∷
    pos 13 ∷ pos 14 ∷ pos 15 ∷ pos 16 ∷ pos 17 ∷ pos 18 ∷ pos 19 ∷ pos 20 ∷ pos 21 ∷ pos outer ∷ pos 23 ∷ pos 24 ∷ []

-- the parcel taken
abbrev grown : ℕ → List ℤ
grown outer =
    pos 1 ∷ pos 2 ∷ pos 3 ∷ pos 4 ∷ pos 5 ∷ pos 6 ∷ pos 7 ∷ pos 8 ∷ pos 9 ∷ pos 10 ∷ pos 11 ∷ pos 12 ∷
    pos 13 ∷ pos 14 ∷ pos 15 ∷ pos 16 ∷ pos 17 ∷ pos 18 ∷ pos 19 ∷ pos 20 ∷ pos 22 ∷ pos outer ∷ pos 24 ∷ pos 28 ∷ []

-- the first figure is below 0
abbrev negative : List ℤ
negative = negsuc 0 ∷ replicate 23 (pos 0)

-- 200 more is the limit, and one past it
abbrev last : ℕ
last = 8999999999999999800

abbrev over : ℕ
over = 8999999999999999801

-- ---- take

taken : taken_of (tally_on (counts 22)) header 4 small 1 ≡ taken_with (tally_on (grown 222)) (Ok tt)
unfolding computed
taken = refl

taken-to-limit : taken_of (tally_on (counts last)) header 4 small 1 ≡ taken_with (tally_on (grown 9000000000000000000)) (Ok tt)
unfolding computed
taken-to-limit = refl

full : taken_of (tally_on (counts over)) header 4 small 1 ≡ taken_with (tally_on (counts over)) (Err (Full 1))
unfolding computed
full = refl

no-tally : taken_of (tally_on negative) header 4 wide 1 ≡ taken_with (tally_on negative) (Err (Full 1))
unfolding computed
no-tally = refl

-- 17 comes before 18 by the border
too_wide : taken_of (tally_on (counts over)) header 4 wide 1 ≡ taken_with (tally_on (counts over)) (Err (Wide 1))
unfolding computed
too_wide = refl

no-border : taken_of (tally_on (counts 22)) header 4 small 0 ≡ taken_with (tally_on (counts 22)) (Err Missing)
unfolding computed
no-border = refl

past : taken_of (tally_on (counts 22)) header 4 small 4 ≡ taken_with (tally_on (counts 22)) (Err Missing)
unfolding computed
past = refl

headed : taken_of (tally_on (counts 22)) no_kind 4 faulty 4 ≡ taken_with (tally_on (counts 22)) (Err (Sheet BadHeader))
unfolding computed
headed = refl

made : taken_of (tally_on (counts 22)) header 4 faulty 4 ≡ taken_with (tally_on (counts 22)) (Err (Sheet (Faulty 3)))
unfolding computed
made = refl

module _ (κs : Lfts 2) (a : ArgsD take.signature κs) (r : ResD take.signature κs) (e : AtExit take.ended κs) where
  abbrev pub Only : List ℤ → Header → ℕ → Tables → ℕ → Taken → Type 0
  Only s h count t row x = a.0 ≡ tally_on s → Handed h count t a.1.0.now → a.1.1.0 ≡ row → take-reads.Learnt κs a r e → r ≡ x

  only : {s : List ℤ} {h : Header} {count : ℕ} {t : Tables} {row : ℕ} {x : Taken} → taken_of (tally_on s) h count t row ≡ x → Only s h count t row x
  only q s d k post = post ∙ rw (s, d.header-is, d.count-is, d.tables-are, k) q

  -- shuts out a tally with made-up counts
  pub take-answers : Only (counts 22) header 4 small 1 (taken_with (tally_on (grown 222)) (Ok tt))
  take-answers = only taken

  pub take-to-the-limit : Only (counts last) header 4 small 1 (taken_with (tally_on (grown 9000000000000000000)) (Ok tt))
  take-to-the-limit = only taken-to-limit

  pub take-past-the-limit : Only (counts over) header 4 small 1 (taken_with (tally_on (counts over)) (Err (Full 1)))
  take-past-the-limit = only full

  pub take-negative-figure : Only negative header 4 wide 1 (taken_with (tally_on negative) (Err (Full 1)))
  take-negative-figure = only no-tally

  pub take-too-wide : Only (counts over) header 4 wide 1 (taken_with (tally_on (counts over)) (Err (Wide 1)))
  take-too-wide = only too_wide

  pub take-no-border : Only (counts 22) header 4 small 0 (taken_with (tally_on (counts 22)) (Err Missing))
  take-no-border = only no-border

  pub take-past-the-last : Only (counts 22) header 4 small 4 (taken_with (tally_on (counts 22)) (Err Missing))
  take-past-the-last = only past

  pub take-bad-header : Only (counts 22) no_kind 4 faulty 4 (taken_with (tally_on (counts 22)) (Err (Sheet BadHeader)))
  take-bad-header = only headed

  pub take-faulty-row : Only (counts 22) header 4 faulty 4 (taken_with (tally_on (counts 22)) (Err (Sheet (Faulty 3))))
  take-faulty-row = only made

-- ---- take_in: its contract has no plain reading, so the facts are of its clause itself, at every model; the lent tally at exit

module _ {M : Type 1} {𝓤 : Ura M} (𝓛 : Logic 𝓤) (at_mem : Memory → SProp 𝓤) (run : Routine → Fun 𝓤) (κs : Lfts 3) (a : Args take_in.signature κs) (r : Res take_in.signature κs) (e : AtExit take_in.ended κs) where
  abbrev pub OnlyLent : List ℤ → Header → ℕ → Tables → ℕ → Taken → Type 1
  OnlyLent s h count t row x = a.0.now ≡ tally_on s → Handed h count t a.1.0.now → a.1.1.0 ≡ row
      → ent 𝓤 ((take_in.clauses 𝓛 at_mem run κs a).ensures tt r e) (fact 𝓤 ((r ≡ x.outcome) × (e.0.now ≡ x.tally)))

  only-lent : {s : List ℤ} {h : Header} {count : ℕ} {t : Tables} {row : ℕ} {x : Taken} → taken_of (tally_on s) h count t row ≡ x → OnlyLent s h count t row x
  only-lent q s d k =
      fact_mono 𝓤 _ _ (λ p. (
        p.0 ∙ rw (s, d.header-is, d.count-is, d.tables-are, k) (ap (λ (y : Taken). y.outcome) q),
        p.1 ∙ rw (s, d.header-is, d.count-is, d.tables-are, k) (ap (λ (y : Taken). y.tally) q),
      ))

  pub lent-answers : OnlyLent (counts 22) header 4 small 1 (taken_with (tally_on (grown 222)) (Ok tt))
  lent-answers = only-lent taken

  -- refused, it is untouched
  pub lent-past-the-limit : OnlyLent (counts over) header 4 small 1 (taken_with (tally_on (counts over)) (Err (Full 1)))
  lent-past-the-limit = only-lent full

  pub lent-negative-figure : OnlyLent negative header 4 wide 1 (taken_with (tally_on negative) (Err (Full 1)))
  lent-negative-figure = only-lent no-tally

  pub lent-past-the-last : OnlyLent (counts 22) header 4 small 4 (taken_with (tally_on (counts 22)) (Err Missing))
  lent-past-the-last = only-lent past

-- ---- cxf_tally_take

counts-in : tally_in (counts 22) ≡ tally_on (counts 22)
unfolding tally_in
counts-in = refl

over-in : tally_in (counts over) ≡ tally_on (counts over)
unfolding tally_in
over-in = refl

negative-in : tally_in negative ≡ tally_on negative
unfolding tally_in
negative-in = refl

-- 23 figures are no tally
few-in : tally_in (replicate 23 (pos 0)) ≡ no_tally
unfolding tally_in
few-in = refl

few : taken_of no_tally header 4 small 1 ≡ taken_with no_tally (Err (Full 1))
unfolding computed
few = refl

module _ (κs : Lfts 6) (a : ArgsD cxf-tally-take.signature κs) (r : ResD cxf-tally-take.signature κs) (e : AtExit cxf-tally-take.ended κs) where
  abbrev pub OnlyCxf : List ℤ → Header → ℕ → Tables → ℕ → CxfTally → Type 0
  OnlyCxf s h count t row x =
      a.0.now ≡ s → a.1.0 ≡ h.kind → a.1.1.0.now ≡ h.name → a.1.1.1.0 ≡ h.scale → Tabled count t a.1.1.1.1 → a.1.1.1.1.1.1.1.1.1.0 ≡ row → cxf-take-reads.Learnt κs a r e → r ≡ x

  only-cxf : {s : List ℤ} {h h' : Header} {count : ℕ} {t : Tables} {row : ℕ} {b : Tally} {x : Taken} {y : CxfTally}
      → tally_in s ≡ b → header_of h.kind h.name h.scale ≡ h' → taken_of b h' count t row ≡ x → take_told (length s) x ≡ y → OnlyCxf s h count t row y
  only-cxf {s} w p q z handed kind name scale d k post = post ∙ rw (handed, kind, name, scale, d.count-is, d.rows_are, d.letters-are, d.islands-are, d.points-are, k, w, p) (ap (take_told (length s)) q ∙ z)

  -- shuts out a tally with made-up counts
  pub cxf-take-answers : OnlyCxf (counts 22) header 4 small 1 (record { number = 0; row = 0; figures = grown 222 })
  unfolding take_told
  cxf-take-answers = only-cxf counts-in in-C taken refl

  pub cxf-take-past-the-limit : OnlyCxf (counts over) header 4 small 1 (record { number = 18; row = 1; figures = counts over })
  unfolding take_told
  cxf-take-past-the-limit = only-cxf over-in in-C full refl

  pub cxf-take-negative-figure : OnlyCxf negative header 4 wide 1 (record { number = 18; row = 1; figures = negative })
  unfolding take_told
  cxf-take-negative-figure = only-cxf negative-in in-C no-tally refl

  pub cxf-take-23-figures : OnlyCxf (replicate 23 (pos 0)) header 4 small 1 (record { number = 18; row = 1; figures = no_figures })
  unfolding take_told
  cxf-take-23-figures = only-cxf few-in in-C few refl

  pub cxf-take-too-wide : OnlyCxf (counts over) header 4 wide 1 (record { number = 17; row = 1; figures = counts over })
  unfolding take_told
  cxf-take-too-wide = only-cxf over-in in-C too_wide refl

  pub cxf-take-past-the-last : OnlyCxf (counts 22) header 4 small 4 (record { number = 19; row = 0; figures = counts 22 })
  unfolding take_told
  cxf-take-past-the-last = only-cxf counts-in in-C past refl

  pub cxf-take-bad-header : OnlyCxf (counts 22) no_kind 4 faulty 4 (record { number = 6; row = 0; figures = counts 22 })
  unfolding take_told
  cxf-take-bad-header = only-cxf counts-in no-kind-in-C headed refl

  pub cxf-take-faulty-row : OnlyCxf (counts 22) header 4 faulty 4 (record { number = 15; row = 3; figures = counts 22 })
  unfolding take_told
  cxf-take-faulty-row = only-cxf counts-in in-C made refl
