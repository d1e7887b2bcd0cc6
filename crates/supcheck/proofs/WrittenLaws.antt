-- "Every file T-01 writes for the sheet is accepted" (document 02, T-10): its rounding stays within every allowance. Assumes nothing.
use Prim.Native.Nat.{ℕ, zero, suc, ◌+◌}
use mathlib.Core.Path.{◌≡◌, refl, ap, ap₂, ◌∙◌}
use mathlib.Core.List.{List, [], ◌∷◌, ◌++◌}
use mathlib.Core.Bool.{Bool, true, false, cond}
use native.Mathlib.Omega.{arith}
use lib.ListN.{length, get_or}
use lib.Seq.{get_or-append-add}
use lib.Dec.{eqb}
use lib.IntN.{ℤ, pos, ◌+ℤ◌, ◌-ℤ◌, ◌*ℤ◌}
use Rattle.laws.proofs.Parts.{P, N, num, sum, diff, ints, eq-parts}
use Rattle.heading.specs.declared.Header.{Header}
use Rattle.sheet.specs.Tables.{Tables}
use Rattle.classes.specs.declared.Class.{Class}
use Rattle.classes.specs.declared.Class.TheVariants.{Confine, Other, Road, Water, Building, Parcel}
use Rattle.tally.proofs.RunningLaws.{tally-fine}
use Rattle.tally.specs.Take.{tally_of}
use Rattle.std.specs.Prelude.{Ok}
use Rattle.sup.specs.Metres.{metres_of}
use Rattle.sup.specs.Lines.{FigureLine}
use Rattle.sup.specs.Sup.{CodeNet, borders_in, outer_in, islands_in, inner_in, net_in, exact_total, exact_confine, head_lines, listed_lines, foot_lines, balance, figure_lines, sup_text, figures_in}
use Rattle.sup.specs.Answer.{codes_in_order, sheet_sup, sup_of}
use Rattle.sup.proofs.SupLaws.{metres-low, metres-high, Fittings, Fittings.none, Fittings.more, lines_fit, listed-count}
use Rattle.sup.proofs.WroteLaws.{SupWritten, wrote-sheet, header-named}
use Rattle.supline.specs.Right.{Due, DueLine, is_near}
use Rattle.supcheck.specs.Due.{due_under, head_dues, head_due, listed_dues, listed_due, total_allowance, confine_allowance, foot_dues, foot_due, due_with}
use Rattle.supcheck.specs.Checked.{total_checked, sup_checked}
use Rattle.supcheck.specs.Allowed.{lines_with, Allowed, Allowed.none_due, Allowed.next_due, balance_of, text_with, AllowedFile}
use Rattle.supline.proofs.NearWays.{metre, times, near-yes}
use Rattle.supcheck.proofs.NoneLaws.{Four, Fours, tally-fours, class-four}
use Rattle.supcheck.proofs.AcceptLaws.{file-accepted}

-- ---- T-01's rounding

-- a number is itself
pub counted-near : (z : ℤ) → is_near z (metre *ℤ z) (pos 0) ≡ true
counted-near z = near-yes z (metre *ℤ z) (pos 0) (omega (arith, num (metre *ℤ z), diff (metre *ℤ z) (metre *ℤ z)))

-- where one square metre is allowed, T-01's rounding stays within it; where none is, there has to be nothing to round
module _ (d n : ℤ) (above : N n ≡ 0) (nothing : P n ≡ 0 → d ≡ pos 0) where
  rounded : (k : ℕ) → P n ≡ k → is_near (metres_of d) d n ≡ true
  unfolding metres_of
  rounded zero e =
      rw (nothing e) (near-yes (pos 0) (pos 0) n (omega (arith, times n)))
  rounded (suc k) e =
      let f = metres_of d in
      near-yes f d n (omega (
        arith,
        ints,
        metres-low d,
        metres-high d,
        times f,
        times n,
        times (f +ℤ pos 1),
        sum d (pos 1000000),
        sum f (pos 1),
        diff (metre *ℤ f) d,
        num f,
        num d,
      ))

  pub metres-near : is_near (metres_of d) d n ≡ true
  metres-near = rounded (P n) refl

-- ---- each line

-- no border, no net; no border of the sheet, no outer ring; no island, no area of islands
module _ {b o n i : ℤ} (x : Four b o n i) where
  net-near : is_near (metres_of (o -ℤ i)) (o -ℤ i) b ≡ true
  net-near = metres-near (o -ℤ i) b x.borders-above (λ e. eq-parts (o -ℤ i) (pos 0) (omega (arith, diff o i, x.no-borders e, x.outer-above, x.inner-above)))

  outer-near : is_near (metres_of o) o b ≡ true
  outer-near = metres-near o b x.borders-above (λ e. eq-parts o (pos 0) (omega (arith, x.no-borders e, x.outer-above)))

  inner-near : is_near (metres_of i) i n ≡ true
  inner-near = metres-near i n x.islands-above (λ e. eq-parts i (pos 0) (omega (arith, x.no-islands e, x.inner-above)))

one-near : (d : ℤ) → is_near (metres_of d) d (pos 1) ≡ true
one-near d = metres-near d (pos 1) refl (λ e. absurd (omega arith))

module _ (f : List ℤ) (u : Fours f) where
  abbrev of : Class → Type 0
  of c = Four (borders_in f c) (outer_in f c) (islands_in f c) (inner_in f c)

  four-of : (c : Class) → of c
  four-of c = class-four c f u

  -- all parts together: where none of them has anything to count, the sum is nothing
  abbrev all_parts : ℤ
  all_parts = net_in f Parcel +ℤ (net_in f Road +ℤ (net_in f Water +ℤ inner_in f Confine))

  abbrev all_counts : ℤ
  all_counts = borders_in f Parcel +ℤ (borders_in f Road +ℤ (borders_in f Water +ℤ islands_in f Confine))

  counts-sum : (N all_counts ≡ 0) × (P all_counts ≡ P (borders_in f Parcel) + (P (borders_in f Road) + (P (borders_in f Water) + P (islands_in f Confine))))
  counts-sum =
      let wc = borders_in f Water +ℤ islands_in f Confine in
      let s1 = sum (borders_in f Water) (islands_in f Confine) in
      let s2 = sum (borders_in f Road) wc in
      let s3 = sum (borders_in f Parcel) (borders_in f Road +ℤ wc) in
      let p = (four-of Parcel).borders-above in
      let r = (four-of Road).borders-above in
      let w = (four-of Water).borders-above in
      let c = (four-of Confine).islands-above in
      (omega (arith, s1, s2, s3, p, r, w, c), omega (arith, s1, s2, s3, p, r, w, c))

  class-none : (c : Class) → P (borders_in f c) ≡ 0 → net_in f c ≡ pos 0
  class-none c e =
      let x = four-of c in
      eq-parts (net_in f c) (pos 0) (omega (arith, diff (outer_in f c) (inner_in f c), x.no-borders e, x.outer-above, x.inner-above))

  parts_none : P all_counts ≡ 0 → all_parts ≡ pos 0
  parts_none e =
      let s = counts-sum.1 in
      let i : inner_in f Confine ≡ pos 0 = eq-parts (inner_in f Confine) (pos 0) (omega (arith, (four-of Confine).no-islands (omega (arith, s)), (four-of Confine).inner-above)) in
      rw (class-none Parcel (omega (arith, s)), class-none Road (omega (arith, s)), class-none Water (omega (arith, s)), i)

  total-near : (kind : ℕ) → is_near (metres_of (exact_total kind f)) (exact_total kind f) (total_allowance kind f) ≡ true
  unfolding exact_total total_allowance
  total-near kind = go (eqb kind 3)
    where
      go : (t : Bool) → is_near (metres_of (cond t (net_in f Other) all_parts)) (cond t (net_in f Other) all_parts) (cond t (borders_in f Other) all_counts) ≡ true
      go true = net-near (four-of Other)
      go false = metres-near all_parts all_counts counts-sum.0 parts_none

  confine-near : (kind : ℕ) → is_near (metres_of (exact_confine kind f)) (exact_confine kind f) (confine_allowance kind f) ≡ true
  unfolding exact_confine confine_allowance
  confine-near kind = go (eqb kind 3)
    where
      go : (t : Bool) → is_near (metres_of (cond t (net_in f Other) (outer_in f Confine))) (cond t (net_in f Other) (outer_in f Confine)) (cond t (borders_in f Other) (borders_in f Confine)) ≡ true
      go true = net-near (four-of Other)
      go false = outer-near (four-of Confine)

-- ---- all lines

-- lines that fit, each near what is due under its name
pub data NearLines : List FigureLine → List Due → Type 0 where
  no_lines : NearLines [] []
  near_line : {x : FigureLine} {y : Due} {l : List FigureLine} {d : List Due} → is_near x.amount y.exact y.allowance ≡ true → NearLines l d
      → NearLines (x ∷ l) (y ∷ d)

near-allowed : {l : List FigureLine} {d : List Due} → NearLines l d → Fittings l → Allowed (due_under l d) (figures_in l)
unfolding due_under figures_in
near-allowed no_lines none = none_due
near-allowed (near_line e n) (more a g) = next_due a.short a.narrow e (near-allowed n g)

allowed-append : {a b : List DueLine} {y z : List ℤ} → Allowed a y → Allowed b z → Allowed (a ++ b) (y ++ z)
allowed-append none_due q = q
allowed-append (next_due h n d p) q = next_due h n d (allowed-append p q)

figures-count : (l : List FigureLine) → length (figures_in l) ≡ length l
unfolding figures_in
figures-count [] = refl
figures-count (x ∷ l) = ap suc (figures-count l)

figures-append : (a b : List FigureLine) → figures_in (a ++ b) ≡ figures_in a ++ figures_in b
unfolding figures_in
figures-append [] b = refl
figures-append (x ∷ a) b = ap (λ (s : List ℤ). x.amount ∷ s) (figures-append a b)

fittings-apart : (a b : List FigureLine) → Fittings (a ++ b) → Fittings a × Fittings b
fittings-apart [] b g = (none, g)
fittings-apart (x ∷ a) b (more e g) = let r = fittings-apart a b g in (more e r.0, r.1)

listed-near : (c : List CodeNet) → NearLines (listed_lines c) (listed_dues c)
unfolding listed_lines listed_dues
listed-near [] = no_lines
listed-near (b ∷ c) = near_line (one-near b.net) (listed-near c)

own-lines : (l : List FigureLine) → lines_with l (figures_in l) ≡ l
unfolding lines_with figures_in
own-lines [] = refl
own-lines (x ∷ l) = ap (λ (s : List FigureLine). x ∷ s) (own-lines l)

module _ (f : List ℤ) (u : Fours f) where
  head_near : NearLines (head_lines f) (head_dues f)
  unfolding head_lines head_dues
  head_near =
      near_line (counted-near (borders_in f Building)) (near_line (counted-near (borders_in f Parcel)) (near_line (counted-near (borders_in f Road))
      (near_line (counted-near (borders_in f Water)) (near_line (counted-near (islands_in f Confine)) (near_line (net-near (four-of f u Building)) no_lines)))))

  foot-near : (kind : ℕ) → NearLines (foot_lines kind f) (foot_dues kind f (balance kind f))
  unfolding foot_lines foot_dues
  foot-near kind =
      near_line (net-near (four-of f u Parcel)) (near_line (net-near (four-of f u Road)) (near_line (net-near (four-of f u Water))
      (near_line (inner-near (four-of f u Confine)) (near_line (total-near f u kind) (near_line (confine-near f u kind) (near_line (counted-near (balance kind f)) no_lines))))))

  module _ (kind : ℕ) (c : List CodeNet) (fit : Fittings (figure_lines kind f c)) where
    parts-fit : Fittings (head_lines f) × (Fittings (listed_lines c) × Fittings (foot_lines kind f))
    unfolding figure_lines
    parts-fit =
        let a = fittings-apart (head_lines f) (listed_lines c ++ foot_lines kind f) fit in
        (a.0, fittings-apart (listed_lines c) (foot_lines kind f) a.1)

    abbrev heads : List ℤ
    heads = figures_in (head_lines f)

    abbrev listed : List ℤ
    listed = figures_in (listed_lines c)

    abbrev feet : List ℤ
    feet = figures_in (foot_lines kind f)

    figures-are : figures_in (figure_lines kind f c) ≡ heads ++ (listed ++ feet)
    unfolding figure_lines
    figures-are = figures-append (head_lines f) (listed_lines c ++ foot_lines kind f) ∙ ap (λ (s : List ℤ). heads ++ s) (figures-append (listed_lines c) (foot_lines kind f))

    lines-allowed : Allowed (due_with kind f c (balance kind f)) (heads ++ (listed ++ feet))
    unfolding due_with head_due listed_due foot_due
    lines-allowed =
        allowed-append (near-allowed head_near parts-fit.0) (allowed-append (near-allowed (listed-near c) parts-fit.1.0) (near-allowed (foot-near kind) parts-fit.1.1))

    heads-six : length heads ≡ 6
    unfolding head_lines figures_in
    heads-six = refl

    -- the figure at a place behind the listed borders
    foot-at : (k : ℕ) → get_or (heads ++ (listed ++ feet)) (6 + k + length c) (pos 0) ≡ get_or feet k (pos 0)
    foot-at k =
        let n : length listed ≡ length c = figures-count (listed_lines c) ∙ listed-count c in
        let a : 6 + k + length c ≡ length heads + (length listed + k) = omega (arith, n, heads-six) in
        ap (λ (m : ℕ). get_or (heads ++ (listed ++ feet)) m (pos 0)) a ∙ get_or-append-add heads (listed ++ feet) (length listed + k) (pos 0) ∙ get_or-append-add listed feet k (pos 0)

    balance-is : balance_of (length c) (heads ++ (listed ++ feet)) ≡ balance kind f
    unfolding balance_of balance foot_lines figures_in
    balance-is = ap₂ (λ (x y : ℤ). x -ℤ y) (foot-at 4) (foot-at 5)

    pub own-allowed : Allowed (due_with kind f c (balance_of (length c) (figures_in (figure_lines kind f c)))) (figures_in (figure_lines kind f c))
    own-allowed = rw (figures-are, balance-is) lines-allowed

-- ---- the theorem

module _ (h : Header) (count : ℕ) (t : Tables) (date : List ℕ) (room n : ℕ) where
  own-text : sheet_sup h count t date ≡ text_with h (tally_of h count t).tally.figures (codes_in_order h count t) date (figures_in (figure_lines h.kind (tally_of h count t).tally.figures (codes_in_order h count t)))
  unfolding sheet_sup sup_text text_with
  own-text = rw (own-lines (figure_lines h.kind (tally_of h count t).tally.figures (codes_in_order h count t)))

  own-file : SupWritten h count t date room n → AllowedFile h (tally_of h count t).tally.figures (codes_in_order h count t) (sheet_sup h count t date)
  own-file w =
      let f = (tally_of h count t).tally.figures in
      let c = codes_in_order h count t in
      record {
        date = date;
        figures = figures_in (figure_lines h.kind f c);
        named = header-named h count t (tally-fine h count t w.tallied);
        dated = w.dated;
        allowed = own-allowed f (tally-fours h count t w.tallied) h.kind c (lines_fit h count t f w.short w.narrow);
        is = own-text;
      }

  pub written-accepted : sup_of h count t date room ≡ Ok n → sup_checked h count t (sheet_sup h count t date) ≡ Ok tt
  unfolding sup_checked total_checked
  written-accepted e =
      let w = wrote-sheet h count t date room n e in
      rw (w.tallied, w.limited) (file-accepted h (tally_of h count t).tally.figures (codes_in_order h count t) (sheet_sup h count t date) (own-file w))
