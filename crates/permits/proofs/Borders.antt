-- What the contracts of `border_at`, `text_at`, `cxf_border_at` and `cxf_text_at` permit (document 01, "Border classes"; document 02, T-02): on each sheet one answer. Assumes nothing.
use Prim.Native.Nat.{ℕ}
use mathlib.Core.Path.{◌≡◌, refl, ◌∙◌, ap}
use mathlib.Core.Bool.{true, false}
use lib.IntN.{pos, negsuc}
use Rattle.std.specs.Prelude.{Result, Ok, Err}
use contract.Lifetimes.{Lfts}
use borrow.Fn.World.{ArgsD, ResD}
use denote.Triple.Clauses.{AtExit}
use Rattle.heading.specs.declared.Header.{Header}
use Rattle.heading.specs.Heading.{no_header}
use Rattle.sheet.specs.Tables.{Tables}
use Rattle.made.specs.declared.Flaw.TheVariants.{BadHeader, Faulty}
use Rattle.row.specs.declared.Unfound.{Unfound}
use Rattle.row.specs.declared.Unfound.TheVariants.{Missing, Refused}
use Rattle.classes.specs.declared.Class.TheVariants.{Parcel}
use Rattle.border.specs.declared.Border.{Border}
use Rattle.border.specs.declared.Text.{Text}
use Rattle.border.specs.BorderAt.{border_at}
use Rattle.border.specs.TextAt.{text_at}
use Rattle.border.specs.Examples.{computed}
use Rattle.border.specs.contracts.border_at as border-at
use Rattle.border.proofs.border_at.Reads as border-reads
use Rattle.border.specs.contracts.text_at as text_contract
use Rattle.border.proofs.text_at.Reads as text-reads
use Rattle.told.specs.declared.question.CxfBorder.{CxfBorder}
use Rattle.told.specs.declared.question.CxfText.{CxfText}
use Rattle.told.specs.Asked.{header_of}
use Rattle.told.specs.Answers.{no_border, border_told, text_told}
use Rattle.cabi.specs.contracts.cxf_border_at as cxf-border-at
use Rattle.cabi.proofs.cxf_border_at.Reads as cxf-border-reads
use Rattle.cabi.specs.contracts.cxf_text_at as cxf-text-at
use Rattle.cabi.proofs.cxf_text_at.Reads as cxf-text-reads
use Rattle.permits.proofs.SmallSheets.{Handed, Tabled, header, no_kind, long_name, in-C, no-kind-in-C, long-name-in-C, small, faulty, eleven}

-- ---- border_at

-- row 1: every field its own, the class by its own letters
abbrev parcel_row : Border
parcel_row = record { class = Parcel; size = pos 18; angle = pos 90; x = pos 1; y = pos 2; x2 = pos 3; y2 = negsuc 3; letters = 1; islands = 1; vertices = 9 }

parcel-is : border_at header 4 small 1 ≡ Ok parcel_row
unfolding computed
parcel-is = refl

-- eleven letters are no border of a union
abbrev eleven_row : Border
eleven_row = record { class = Parcel; size = pos 18; angle = pos 0; x = pos 7; y = pos 8; x2 = pos 9; y2 = pos 10; letters = 11; islands = 0; vertices = 5 }

eleven-is : border_at header 1 eleven 0 ≡ Ok eleven_row
unfolding computed
eleven-is = refl

text-is-none : border_at header 4 small 0 ≡ Err Missing
unfolding computed
text-is-none = refl

border-past : border_at header 4 small 4 ≡ Err Missing
unfolding computed
border-past = refl

-- 6, then 15, then 19
border-headed : border_at no_kind 4 faulty 4 ≡ Err (Refused BadHeader)
unfolding computed
border-headed = refl

border-made : border_at header 4 faulty 4 ≡ Err (Refused (Faulty 3))
unfolding computed
border-made = refl

module _ (κs : Lfts 2) (a : ArgsD border-at.signature κs) (r : ResD border-at.signature κs) (e : AtExit border-at.ended κs) where
  abbrev pub OnlyBorder : Header → ℕ → Tables → ℕ → Result Border Unfound → Type 0
  OnlyBorder h count t row x = Handed h count t a.0.now → a.1.0 ≡ row → border-reads.Learnt κs a r e → r ≡ x

  only-border : {h : Header} {count : ℕ} {t : Tables} {row : ℕ} {x : Result Border Unfound} → border_at h count t row ≡ x → OnlyBorder h count t row x
  only-border q d k post = post ∙ rw (d.header-is, d.count-is, d.tables-are, k) q

  pub border-answers : OnlyBorder header 4 small 1 (Ok parcel_row)
  border-answers = only-border parcel-is

  pub border-eleven : OnlyBorder header 1 eleven 0 (Ok eleven_row)
  border-eleven = only-border eleven-is

  pub border-no-border : OnlyBorder header 4 small 0 (Err Missing)
  border-no-border = only-border text-is-none

  pub border-past-the-last : OnlyBorder header 4 small 4 (Err Missing)
  border-past-the-last = only-border border-past

  pub border-bad-header : OnlyBorder no_kind 4 faulty 4 (Err (Refused BadHeader))
  border-bad-header = only-border border-headed

  pub border-faulty-row : OnlyBorder header 4 faulty 4 (Err (Refused (Faulty 3)))
  border-faulty-row = only-border border-made

-- ---- cxf_border_at

-- a name of 12 bytes is no header
border-unnamed : border_at no_header 4 small 1 ≡ Err (Refused BadHeader)
unfolding computed
border-unnamed = refl

module _ (κs : Lfts 5) (a : ArgsD cxf-border-at.signature κs) (r : ResD cxf-border-at.signature κs) (e : AtExit cxf-border-at.ended κs) where
  abbrev pub OnlyCxfBorder : Header → ℕ → Tables → ℕ → CxfBorder → Type 0
  OnlyCxfBorder h count t row x = a.0 ≡ h.kind → a.1.0.now ≡ h.name → a.1.1.0 ≡ h.scale → Tabled count t a.1.1.1 → a.1.1.1.1.1.1.1.1.0 ≡ row → cxf-border-reads.Learnt κs a r e → r ≡ x

  only-cxf-border : {h h' : Header} {count : ℕ} {t : Tables} {row : ℕ} {x : Result Border Unfound} → header_of h.kind h.name h.scale ≡ h' → border_at h' count t row ≡ x → OnlyCxfBorder h count t row (border_told x)
  only-cxf-border p q kind name scale d k post = post ∙ rw (kind, name, scale, d.count-is, d.rows_are, d.letters-are, d.islands-are, d.points-are, k, p) (ap border_told q)

  pub cxf-border-answers : OnlyCxfBorder header 4 small 1 (record { number = 0; row = 0; class = 6; size = pos 18; angle = pos 90; x = pos 1; y = pos 2; x2 = pos 3; y2 = negsuc 3; letters = 1; islands = 1; vertices = 9 })
  cxf-border-answers = only-cxf-border in-C parcel-is

  pub cxf-border-eleven : OnlyCxfBorder header 1 eleven 0 (record { number = 0; row = 0; class = 6; size = pos 18; angle = pos 0; x = pos 7; y = pos 8; x2 = pos 9; y2 = pos 10; letters = 11; islands = 0; vertices = 5 })
  cxf-border-eleven = only-cxf-border in-C eleven-is

  pub cxf-border-no-border : OnlyCxfBorder header 4 small 0 (no_border 19 0)
  cxf-border-no-border = only-cxf-border in-C text-is-none

  pub cxf-border-past-the-last : OnlyCxfBorder header 4 small 4 (no_border 19 0)
  cxf-border-past-the-last = only-cxf-border in-C border-past

  pub cxf-border-bad-header : OnlyCxfBorder no_kind 4 faulty 4 (no_border 6 0)
  cxf-border-bad-header = only-cxf-border no-kind-in-C border-headed

  pub cxf-border-long-name : OnlyCxfBorder long_name 4 small 1 (no_border 6 0)
  cxf-border-long-name = only-cxf-border long-name-in-C border-unnamed

  pub cxf-border-faulty-row : OnlyCxfBorder header 4 faulty 4 (no_border 15 3)
  cxf-border-faulty-row = only-cxf-border in-C border-made

-- ---- text_at

-- row 0 has size 0, row 2 brackets and the angle 0, each with its own letters; a border of size 0 is neither
centroid-is : text_at header 4 small 0 ≡ Ok (record { surface = false; centroid = true })
unfolding computed
centroid-is = refl

surface-is : text_at header 4 small 2 ≡ Ok (record { surface = true; centroid = false })
unfolding computed
surface-is = refl

neither-is : text_at header 4 small 3 ≡ Ok (record { surface = false; centroid = false })
unfolding computed
neither-is = refl

text-past : text_at header 4 small 4 ≡ Err Missing
unfolding computed
text-past = refl

text-headed : text_at no_kind 4 faulty 4 ≡ Err (Refused BadHeader)
unfolding computed
text-headed = refl

text-made : text_at header 4 faulty 4 ≡ Err (Refused (Faulty 3))
unfolding computed
text-made = refl

module _ (κs : Lfts 2) (a : ArgsD text_contract.signature κs) (r : ResD text_contract.signature κs) (e : AtExit text_contract.ended κs) where
  abbrev pub OnlyText : Header → ℕ → Tables → ℕ → Result Text Unfound → Type 0
  OnlyText h count t row x = Handed h count t a.0.now → a.1.0 ≡ row → text-reads.Learnt κs a r e → r ≡ x

  only-text : {h : Header} {count : ℕ} {t : Tables} {row : ℕ} {x : Result Text Unfound} → text_at h count t row ≡ x → OnlyText h count t row x
  only-text q d k post = post ∙ rw (d.header-is, d.count-is, d.tables-are, k) q

  pub text-centroid : OnlyText header 4 small 0 (Ok (record { surface = false; centroid = true }))
  text-centroid = only-text centroid-is

  pub text-surface : OnlyText header 4 small 2 (Ok (record { surface = true; centroid = false }))
  text-surface = only-text surface-is

  pub text-neither : OnlyText header 4 small 3 (Ok (record { surface = false; centroid = false }))
  text-neither = only-text neither-is

  pub text-past-the-last : OnlyText header 4 small 4 (Err Missing)
  text-past-the-last = only-text text-past

  pub text-bad-header : OnlyText no_kind 4 faulty 4 (Err (Refused BadHeader))
  text-bad-header = only-text text-headed

  pub text-faulty-row : OnlyText header 4 faulty 4 (Err (Refused (Faulty 3)))
  text-faulty-row = only-text text-made

-- ---- cxf_text_at

module _ (κs : Lfts 5) (a : ArgsD cxf-text-at.signature κs) (r : ResD cxf-text-at.signature κs) (e : AtExit cxf-text-at.ended κs) where
  abbrev pub OnlyCxfText : Header → ℕ → Tables → ℕ → CxfText → Type 0
  OnlyCxfText h count t row x = a.0 ≡ h.kind → a.1.0.now ≡ h.name → a.1.1.0 ≡ h.scale → Tabled count t a.1.1.1 → a.1.1.1.1.1.1.1.1.0 ≡ row → cxf-text-reads.Learnt κs a r e → r ≡ x

  only-cxf-text : {h h' : Header} {count : ℕ} {t : Tables} {row : ℕ} {x : Result Text Unfound} → header_of h.kind h.name h.scale ≡ h' → text_at h' count t row ≡ x → OnlyCxfText h count t row (text_told x)
  only-cxf-text p q kind name scale d k post = post ∙ rw (kind, name, scale, d.count-is, d.rows_are, d.letters-are, d.islands-are, d.points-are, k, p) (ap text_told q)

  pub cxf-text-centroid : OnlyCxfText header 4 small 0 (record { number = 0; row = 0; surface = 0; centroid = 1 })
  cxf-text-centroid = only-cxf-text in-C centroid-is

  pub cxf-text-surface : OnlyCxfText header 4 small 2 (record { number = 0; row = 0; surface = 1; centroid = 0 })
  cxf-text-surface = only-cxf-text in-C surface-is

  pub cxf-text-neither : OnlyCxfText header 4 small 3 (record { number = 0; row = 0; surface = 0; centroid = 0 })
  cxf-text-neither = only-cxf-text in-C neither-is

  pub cxf-text-past-the-last : OnlyCxfText header 4 small 4 (record { number = 19; row = 0; surface = 0; centroid = 0 })
  cxf-text-past-the-last = only-cxf-text in-C text-past

  pub cxf-text-bad-header : OnlyCxfText no_kind 4 faulty 4 (record { number = 6; row = 0; surface = 0; centroid = 0 })
  cxf-text-bad-header = only-cxf-text no-kind-in-C text-headed

  pub cxf-text-faulty-row : OnlyCxfText header 4 faulty 4 (record { number = 15; row = 3; surface = 0; centroid = 0 })
  cxf-text-faulty-row = only-cxf-text in-C text-made
