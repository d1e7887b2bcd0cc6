-- What the contracts of `mask_of` and `cxf_mask_of` permit (document 02, T-03): on each sheet and grid one answer. Assumes nothing.
use Prim.Native.Nat.{ℕ}
use mathlib.Core.Path.{◌≡◌, refl, ◌∙◌, ap}
use mathlib.Core.List.{List, ◌∷◌}
use lib.ListN.{replicate}
use lib.IntN.{ℤ, pos, negsuc}
use Rattle.std.specs.Prelude.{Ok}
use contract.Lifetimes.{Lfts}
use borrow.Fn.World.{ArgsD, ResD}
use denote.Triple.Clauses.{AtExit}
use Rattle.heading.specs.declared.Header.{Header}
use Rattle.sheet.specs.Tables.{Tables}
use Rattle.made.specs.declared.Flaw.TheVariants.{BadHeader, Faulty}
use Rattle.mask.specs.declared.Mask.{Mask}
use Rattle.mask.specs.declared.Unmasked.TheVariants.{BadSide, Wide, OffGrid, Missing, Refused}
use Rattle.mask.specs.Masks.{undrawn, mask_at}
use Rattle.mask.specs.Examples.{computed}
use Rattle.mask.specs.contracts.mask_of as mask-of
use Rattle.mask.proofs.mask_of.Reads as mask-reads
use Rattle.told.specs.declared.masks.CxfMask.{CxfMask}
use Rattle.told.specs.Asked.{header_of}
use Rattle.told.specs.Masks.{mask_told}
use Rattle.cabi.specs.contracts.cxf_mask_of as cxf-mask-of
use Rattle.cabi.proofs.cxf_mask_of.Reads as cxf-mask-reads
use Rattle.permits.proofs.SmallSheets.{Handed, Tabled, header, no_kind, in-C, no-kind-in-C, small, wide, faulty, false_start}

-- the parcel from (10, 20) to (20, 30) on cells of side 5, the corner at (0, 30): the third and fourth cell of the first two rows. Its island, from (0, 0) to (2, 2), has
-- no centre of the grid
abbrev parcel_rows : List ℕ
parcel_rows = 3458764513820540928 ∷ 3458764513820540928 ∷ replicate 62 0

-- ---- mask_of

parcel-drawn : mask_at header 4 small 1 (pos 0) (pos 30) (pos 5) ≡ record { answer = Ok 4; rows = parcel_rows }
unfolding computed
parcel-drawn = refl

-- 6, then 15, then 19, then 26, then 17, then 20
headed : mask_at no_kind 4 faulty 4 (pos 0) (pos 30) (pos 0) ≡ undrawn (Refused BadHeader)
unfolding computed
headed = refl

made : mask_at header 4 faulty 4 (pos 0) (pos 30) (pos 0) ≡ undrawn (Refused (Faulty 3))
unfolding computed
made = refl

placed : mask_at header 4 false_start 1 (pos 0) (pos 30) (pos 5) ≡ undrawn (Refused (Faulty 3))
unfolding computed
placed = refl

text-row : mask_at header 4 wide 0 (pos 0) (pos 30) (pos 0) ≡ undrawn Missing
unfolding computed
text-row = refl

past-rows : mask_at header 4 wide 4 (pos 0) (pos 30) (pos 0) ≡ undrawn Missing
unfolding computed
past-rows = refl

no-side : mask_at header 4 wide 1 (pos 0) (pos 30) (negsuc 0) ≡ undrawn BadSide
unfolding computed
no-side = refl

wide-island : mask_at header 4 wide 1 (pos 99999999999) (pos 30) (pos 5) ≡ undrawn Wide
unfolding computed
wide-island = refl

far-corner : mask_at header 4 small 1 (pos 0) (pos 40000001) (pos 5) ≡ undrawn OffGrid
unfolding computed
far-corner = refl

module _ (κs : Lfts 2) (a : ArgsD mask-of.signature κs) (r : ResD mask-of.signature κs) (e : AtExit mask-of.ended κs) where
  abbrev pub Only : Header → ℕ → Tables → ℕ → ℤ → ℤ → ℤ → Mask → Type 0
  Only h count t row cx cy side x =
      Handed h count t a.0.now → a.1.0 ≡ row → a.1.1.0 ≡ cx → a.1.1.1.0 ≡ cy → a.1.1.1.1.0 ≡ side
      → mask-reads.Learnt κs a r e → r ≡ x

  only : {h : Header} {count : ℕ} {t : Tables} {row : ℕ} {cx cy side : ℤ} {x : Mask} → mask_at h count t row cx cy side ≡ x → Only h count t row cx cy side x
  only q d k u v s post = post ∙ rw (d.header-is, d.count-is, d.tables-are, k, u, v, s) q

  pub mask-of-parcel : Only header 4 small 1 (pos 0) (pos 30) (pos 5) (record { answer = Ok 4; rows = parcel_rows })
  mask-of-parcel = only parcel-drawn

  pub mask-bad-header : Only no_kind 4 faulty 4 (pos 0) (pos 30) (pos 0) (undrawn (Refused BadHeader))
  mask-bad-header = only headed

  pub mask-faulty-row : Only header 4 faulty 4 (pos 0) (pos 30) (pos 0) (undrawn (Refused (Faulty 3)))
  mask-faulty-row = only made

  -- T-07: a row with a false start is not well made, also where another row is asked about
  pub mask-false-start : Only header 4 false_start 1 (pos 0) (pos 30) (pos 5) (undrawn (Refused (Faulty 3)))
  mask-false-start = only placed

  pub mask-no-border : Only header 4 wide 0 (pos 0) (pos 30) (pos 0) (undrawn Missing)
  mask-no-border = only text-row

  pub mask-no-row : Only header 4 wide 4 (pos 0) (pos 30) (pos 0) (undrawn Missing)
  mask-no-row = only past-rows

  pub mask-bad-side : Only header 4 wide 1 (pos 0) (pos 30) (negsuc 0) (undrawn BadSide)
  mask-bad-side = only no-side

  pub mask-too-wide : Only header 4 wide 1 (pos 99999999999) (pos 30) (pos 5) (undrawn Wide)
  mask-too-wide = only wide-island

  pub mask-too-far : Only header 4 small 1 (pos 0) (pos 40000001) (pos 5) (undrawn OffGrid)
  mask-too-far = only far-corner

-- ---- cxf_mask_of

module _ (κs : Lfts 5) (a : ArgsD cxf-mask-of.signature κs) (r : ResD cxf-mask-of.signature κs) (e : AtExit cxf-mask-of.ended κs) where
  abbrev pub OnlyCxf : Header → ℕ → Tables → ℕ → ℤ → ℤ → ℤ → CxfMask → Type 0
  OnlyCxf h count t row cx cy cell x =
      a.0 ≡ h.kind → a.1.0.now ≡ h.name → a.1.1.0 ≡ h.scale → Tabled count t a.1.1.1 → a.1.1.1.1.1.1.1.1.0 ≡ row → a.1.1.1.1.1.1.1.1.1.0 ≡ cx
      → a.1.1.1.1.1.1.1.1.1.1.0 ≡ cy → a.1.1.1.1.1.1.1.1.1.1.1.0 ≡ cell → cxf-mask-reads.Learnt κs a r e → r ≡ x

  only-cxf : {h h' : Header} {count : ℕ} {t : Tables} {row : ℕ} {cx cy cell : ℤ} {x : Mask} → header_of h.kind h.name h.scale ≡ h' → mask_at h' count t row cx cy cell ≡ x
      → OnlyCxf h count t row cx cy cell (mask_told x)
  only-cxf p q kind name scale d k u v s post =
      post ∙ rw (kind, name, scale, d.count-is, d.rows_are, d.letters-are, d.islands-are, d.points-are, k, u, v, s, p) (ap mask_told q)

  pub cxf-mask-of-parcel : OnlyCxf header 4 small 1 (pos 0) (pos 30) (pos 5) (record { number = 0; row = 0; rows = parcel_rows; covered = 4 })
  cxf-mask-of-parcel = only-cxf in-C parcel-drawn

  abbrev refused : ℕ → ℕ → CxfMask
  refused number row = record { number = number; row = row; rows = replicate 64 0; covered = 0 }

  pub cxf-mask-bad-header : OnlyCxf no_kind 4 faulty 4 (pos 0) (pos 30) (pos 0) (refused 6 0)
  cxf-mask-bad-header = only-cxf no-kind-in-C headed

  pub cxf-mask-faulty-row : OnlyCxf header 4 faulty 4 (pos 0) (pos 30) (pos 0) (refused 15 3)
  cxf-mask-faulty-row = only-cxf in-C made

  pub cxf-mask-false-start : OnlyCxf header 4 false_start 1 (pos 0) (pos 30) (pos 5) (refused 15 3)
  cxf-mask-false-start = only-cxf in-C placed

  pub cxf-mask-no-border : OnlyCxf header 4 wide 0 (pos 0) (pos 30) (pos 0) (refused 19 0)
  cxf-mask-no-border = only-cxf in-C text-row

  pub cxf-mask-bad-side : OnlyCxf header 4 wide 1 (pos 0) (pos 30) (negsuc 0) (refused 26 0)
  cxf-mask-bad-side = only-cxf in-C no-side

  pub cxf-mask-too-wide : OnlyCxf header 4 wide 1 (pos 99999999999) (pos 30) (pos 5) (refused 17 0)
  cxf-mask-too-wide = only-cxf in-C wide-island

  pub cxf-mask-too-far : OnlyCxf header 4 small 1 (pos 0) (pos 40000001) (pos 5) (refused 20 0)
  cxf-mask-too-far = only-cxf in-C far-corner
