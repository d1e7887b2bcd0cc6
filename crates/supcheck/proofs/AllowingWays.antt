-- The ways through the functions that say what figures have to be near, and that cutting counts and allowances off alters no answer. Assumes nothing.
use Prim.Native.Nat.{ℕ, ◌+◌, ◌^◌, ◌≤◌, ◌<◌}
use mathlib.Core.Path.{◌≡◌, refl, sym, ap, ap₂, ◌∙◌}
use mathlib.Core.List.{List, [], ◌∷◌}
use mathlib.Core.Bool.{Bool, true, false, cond, ◌&&◌}
use native.Mathlib.Omega.{arith}
use lib.ListN.{length, get_or}
use lib.Dec.{eqb, lit<}
use lib.IntN.{ℤ, pos, ◌+ℤ◌, ◌-ℤ◌, ◌*ℤ◌}
use lib.Signed.{mag, lt_z, le_z}
use mir.Syntax.{w64}
use mir.Val.{SFits, to_z, of_z}
use mir.Facts.{to_z-of_z}
use borrow.Author.Tests.{eq-eqb, ne_eqb}
use Rattle.laws.specs.Whole.{Within, low_z}
use Rattle.laws.specs.Text.{text}
use Rattle.laws.proofs.Bits.{Holds, back, holds_as, holds_of, holds-bits, read-within, ask-add, holds-add, ask-sub, holds-sub, ask-mul, holds-mul}
use Rattle.laws.proofs.Bounds.{within-fits, within-lit}
use Rattle.laws.proofs.Choice.{and_left}
use Rattle.laws.proofs.Parts.{P, N, num, sum, diff, ints, fit_parts, le-true}
use Rattle.classes.specs.declared.Class.TheVariants.{Confine, Other, Road, Water, Building, Parcel}
use Rattle.tally.specs.Tally.{is_figure, Good}
use Rattle.tally.proofs.TallyWays.{tally-at, figure-fits}
use Rattle.spelling.specs.Figures.{is_narrow, figure_text}
use Rattle.sup.specs.Lines.{left_field, fields_line}
use Rattle.sup.specs.Sup.{borders_in, islands_in, inner_in, net_in, exact_total, exact_confine, head_lines, foot_lines}
use Rattle.sup.specs.ExactAreas.{exact_areas}
use Rattle.sup.proofs.TextWays.{head_names, foot_names}
use Rattle.supline.specs.Right.{Due, due, counted, DueLine, due_line, line_from, figure_in, is_fields, is_near, is_right_line}
use Rattle.supcheck.specs.Due.{due_under, head_dues, head_due, total_allowance, confine_allowance, foot_dues, foot_due, balance_in}
use Rattle.supcheck.specs.Checked.{right_from}
use Rattle.supcheck.specs.Walking.{packed_from, packed_due, count_exact, head_exact, head_allowed, foot_exact, parts_allowed, foot_allowed}
use Rattle.supline.proofs.NearWays.{metre, times, near-yes, near-no, narrow_within}
use Rattle.supline.proofs.LineLaws.{narrow-line}

-- ---- lines with the same right texts

-- two lines of one left field whose figures are judged alike
module _ (a b : List ℕ) (d e : Due) (name : left_field a ≡ left_field b)
    (near : (z : ℤ) → is_narrow z ≡ true → is_near z d.exact d.allowance ≡ is_near z e.exact e.allowance) where
  field-same : (r u : List ℕ) → is_fields a r u ≡ is_fields b r u
  unfolding is_fields fields_line
  field-same r u = rw name

  right_by : (u : List ℕ) (n : Bool) → is_narrow (figure_in u) ≡ n → is_right_line (due_line a d) u ≡ is_right_line (due_line b e) u
  unfolding is_right_line
  right_by u true q = ap₂ (λ (x y : Bool). x && y) (field-same (figure_text (figure_in u)) u) (near (figure_in u) q)
  right_by u false q = narrow-line (due_line a d) u q ∙ sym (narrow-line (due_line b e) u q)

  pub right-same : (u : List ℕ) → is_right_line (due_line a d) u ≡ is_right_line (due_line b e) u
  right-same u = right_by u (is_narrow (figure_in u)) refl

pub data SameLines : List DueLine → List DueLine → Type 0 where
  no_line : SameLines [] []
  same_line : {x y : DueLine} {a b : List DueLine} → ((u : List ℕ) → is_right_line x u ≡ is_right_line y u) → SameLines a b → SameLines (x ∷ a) (y ∷ b)

pub lines_same : (s : List ℕ) (k : ℕ) {a b : List DueLine} → SameLines a b → right_from k a s ≡ right_from k b s
unfolding right_from
lines_same s k no_line = refl
lines_same s k (same_line e m) = rw (e (line_from s k), lines_same s (k + 1) m)

-- ---- a count that is cut off

module _ (z : ℤ) (above : is_figure z ≡ true) where
  count_by : (f : ℤ) → is_narrow f ≡ true → (t : Bool) → lt_z z (pos 10000000000) ≡ t → is_near f (metre *ℤ cond t z (pos 10000000000)) (pos 0) ≡ is_near f (metre *ℤ z) (pos 0)
  count_by f n true e = refl
  count_by f n false e =
      let w = (narrow_within f n).within in
      near-no f (metre *ℤ pos 10000000000) (pos 0) (omega (arith, num f, times f, diff (metre *ℤ f) (metre *ℤ pos 10000000000)))
      ∙ sym (near-no f (metre *ℤ z) (pos 0) (omega (arith, ints, num f, num z, times f, times z, diff (metre *ℤ f) (metre *ℤ z))))

  pub count_same : (f : ℤ) → is_narrow f ≡ true → is_near f (count_exact z) (pos 0) ≡ is_near f (metre *ℤ z) (pos 0)
  unfolding count_exact
  count_same f n = count_by f n (lt_z z (pos 10000000000)) refl

  count-within : (t : Bool) → lt_z z (pos 10000000000) ≡ t → Within 10000000000 (cond t z (pos 10000000000))
  unfolding is_figure
  count-within true e =
      let a = and_left (le_z (pos 0) z) (le_z z (pos 9000000000000000000)) above in
      record { within = omega (arith, ints, num z) }
  count-within false e = within-lit tt

  low-within : Within 10000000000 (low_z z (pos 10000000000))
  low-within = count-within (lt_z z (pos 10000000000)) refl

  module _ (l : ℤ) (el : l ≡ low_z (to_z w64 (of_z w64 z)) (pos 10000000000)) where
    low-holds : Holds 10000000000 (low_z z (pos 10000000000)) (of_z w64 l)
    low-holds = holds_as (el ∙ ap (λ (x : ℤ). low_z x (pos 10000000000)) (to_z-of_z (figure-fits z above))) (lit< tt) low-within

    metre-holds : Holds 2000000 (pos 2000000) 2000000
    metre-holds = holds-bits {n = 2000000} {b = 2000000} (within-lit tt)

    pub exact-asks : SFits w64 (pos 2000000 *ℤ to_z w64 (of_z w64 l))
    exact-asks = ask-mul metre-holds low-holds (lit< tt)

    pub exact-is : to_z w64 (of_z w64 (pos 2000000 *ℤ to_z w64 (of_z w64 l))) ≡ count_exact z
    unfolding count_exact
    exact-is = (holds-mul metre-holds low-holds (lit< tt)).reads

-- ---- the parts of TOTALE

abbrev farthest : ℤ
farthest = pos 1000000000000000000

-- no figure and no exact area are farther apart
module _ (f d : ℤ) (n : is_narrow f ≡ true) (fd : SFits w64 d) where
  pub far-near : (m : ℤ) → le_z farthest m ≡ true → is_near f d m ≡ true
  far-near m h =
      let w = (narrow_within f n).within in
      near-yes f d m (omega (arith, ints, fit_parts d fd, num f, num d, num m, times f, times m, diff (metre *ℤ f) d))

figure-above : (z : ℤ) → is_figure z ≡ true → N z ≡ 0
unfolding is_figure
figure-above z q = let h = and_left (le_z (pos 0) z) (le_z z (pos 9000000000000000000)) q in omega (arith, ints, num z)

-- a figure that is cut off: it is itself, or both are as far as can be
data Cut (z : ℤ) : ℤ → Type 0 where
  whole : Cut z z
  far : {y : ℤ} → P y ≡ 1000000000000000000 → 1000000000000000000 ≤ P z → Cut z y

cut_by : (z : ℤ) (t : Bool) → lt_z z farthest ≡ t → Cut z (cond t z farthest)
cut_by z true e = whole
cut_by z false e = far refl (omega (arith, ints, num z))

cut_of : (z : ℤ) → Cut z (low_z z farthest)
cut_of z = cut_by z (lt_z z farthest) refl

cut_parts : (z : ℤ) → is_figure z ≡ true → (t : Bool) → lt_z z farthest ≡ t → (N (cond t z farthest) ≡ 0) × (P (cond t z farthest) ≤ 1000000000000000000)
cut_parts z q true e = (figure-above z q, omega (arith, ints, num z))
cut_parts z q false e = (refl, omega arith)

cut_small : (z : ℤ) → is_figure z ≡ true → (N (low_z z farthest) ≡ 0) × (P (low_z z farthest) ≤ 1000000000000000000)
cut_small z q = cut_parts z q (lt_z z farthest) refl

-- four of them together
abbrev sum_of : ℤ → ℤ → ℤ → ℤ → ℤ
sum_of x y z w = x +ℤ (y +ℤ (z +ℤ w))

four-parts : (x y z w : ℤ) → N x ≡ 0 → N y ≡ 0 → N z ≡ 0 → N w ≡ 0 → (N (sum_of x y z w) ≡ 0) × (P (sum_of x y z w) ≡ P x + (P y + (P z + P w)))
four-parts x y z w a b c d =
    (omega (arith, sum z w, sum y (z +ℤ w), sum x (y +ℤ (z +ℤ w))), omega (arith, sum z w, sum y (z +ℤ w), sum x (y +ℤ (z +ℤ w))))

far-sum : (z : ℤ) → N z ≡ 0 → 1000000000000000000 ≤ P z → le_z farthest z ≡ true
far-sum z n h = le-true farthest z (omega arith)

module _ (f d : ℤ) (n : is_narrow f ≡ true) (fd : SFits w64 d) (a b c e : ℤ)
    (fa : is_figure a ≡ true) (fb : is_figure b ≡ true) (fc : is_figure c ≡ true) (fe : is_figure e ≡ true) where
  -- where one is cut off, both sums are far enough
  both-far : (x y z w : ℤ) → N x ≡ 0 → N y ≡ 0 → N z ≡ 0 → N w ≡ 0 → 1000000000000000000 ≤ P x + (P y + (P z + P w))
      → 1000000000000000000 ≤ P a + (P b + (P c + P e)) → is_near f d (sum_of x y z w) ≡ is_near f d (sum_of a b c e)
  both-far x y z w nx ny nz nw h k =
      let p = four-parts x y z w nx ny nz nw in
      let q = four-parts a b c e (figure-above a fa) (figure-above b fb) (figure-above c fc) (figure-above e fe) in
      far-near f d n fd (sum_of x y z w) (far-sum (sum_of x y z w) p.0 (omega (arith, p.1))) ∙ sym (far-near f d n fd (sum_of a b c e) (far-sum (sum_of a b c e) q.0 (omega (arith, q.1))))

  cuts-by : {x y z w : ℤ} → N x ≡ 0 → N y ≡ 0 → N z ≡ 0 → N w ≡ 0 → Cut a x → Cut b y → Cut c z → Cut e w → is_near f d (sum_of x y z w) ≡ is_near f d (sum_of a b c e)
  cuts-by {x} {y} {z} {w} nx ny nz nw (far p q) cb cd ce = both-far x y z w nx ny nz nw (omega (arith, p)) (omega (arith, q))
  cuts-by {x} {y} {z} {w} nx ny nz nw whole (far p q) cd ce = both-far x y z w nx ny nz nw (omega (arith, p)) (omega (arith, q))
  cuts-by {x} {y} {z} {w} nx ny nz nw whole whole (far p q) ce = both-far x y z w nx ny nz nw (omega (arith, p)) (omega (arith, q))
  cuts-by {x} {y} {z} {w} nx ny nz nw whole whole whole (far p q) = both-far x y z w nx ny nz nw (omega (arith, p)) (omega (arith, q))
  cuts-by nx ny nz nw whole whole whole whole = refl

  pub parts_same : is_near f d (sum_of (low_z a farthest) (low_z b farthest) (low_z c farthest) (low_z e farthest)) ≡ is_near f d (sum_of a b c e)
  parts_same =
      cuts-by (cut_small a fa).0 (cut_small b fb).0 (cut_small c fc).0 (cut_small e fe).0 (cut_of a)
      (cut_of b) (cut_of c) (cut_of e)

-- in the code
module _ (z : ℤ) (q : is_figure z ≡ true) (l : ℤ) (el : l ≡ low_z (to_z w64 (of_z w64 z)) farthest) where
  pub cut_holds : Holds 1000000000000000000 (low_z z farthest) (of_z w64 l)
  cut_holds =
      let p = cut_small z q in
      holds_as (el ∙ ap (λ (x : ℤ). low_z x farthest) (to_z-of_z (figure-fits z q))) (lit< tt) (record { within = omega (arith, p.0, p.1, num (low_z z farthest)) })

module _ {x y u v : ℕ} {a b c d : ℤ} (p : Holds 1000000000000000000 a x) (q : Holds 1000000000000000000 b y) (r : Holds 1000000000000000000 c u) (s : Holds 1000000000000000000 d v) where
  pub sum_first : SFits w64 (to_z w64 u +ℤ to_z w64 v)
  sum_first = ask-add r s (lit< tt)

  pub sum-second : SFits w64 (to_z w64 y +ℤ to_z w64 (of_z w64 (to_z w64 u +ℤ to_z w64 v)))
  sum-second = ask-add q (holds-add r s (lit< tt)) (lit< tt)

  pub sum-third : SFits w64 (to_z w64 x +ℤ to_z w64 (of_z w64 (to_z w64 y +ℤ to_z w64 (of_z w64 (to_z w64 u +ℤ to_z w64 v)))))
  sum-third = ask-add p (holds-add q (holds-add r s (lit< tt)) (lit< tt)) (lit< tt)

  pub sum_is : to_z w64 (of_z w64 (to_z w64 x +ℤ to_z w64 (of_z w64 (to_z w64 y +ℤ to_z w64 (of_z w64 (to_z w64 u +ℤ to_z w64 v)))))) ≡ sum_of a b c d
  sum_is = (holds-add p (holds-add q (holds-add r s (lit< tt)) (lit< tt)) (lit< tt)).reads

module _ (kind : ℕ) (f : List ℤ) where
  pub allowed-union : kind ≡ 3 → (z : ℤ) → z ≡ borders_in f Other → (z ≡ parts_allowed kind f) × (z ≡ confine_allowance kind f)
  unfolding parts_allowed confine_allowance
  allowed-union h z e = (e ∙ rw (eq-eqb kind 3 h), e ∙ rw (eq-eqb kind 3 h))

  pub allowed-parts : (kind ≡ 3 → ⊥) → (z : ℤ) → z ≡ sum_of (low_z (borders_in f Parcel) farthest) (low_z (borders_in f Road) farthest) (low_z (borders_in f Water) farthest) (low_z (islands_in f Confine) farthest)
      → z ≡ parts_allowed kind f
  unfolding parts_allowed
  allowed-parts h z e = e ∙ rw (ne_eqb kind 3 h)

  pub allowed-confine : (kind ≡ 3 → ⊥) → (z : ℤ) → z ≡ borders_in f Confine → z ≡ confine_allowance kind f
  unfolding confine_allowance
  allowed-confine h z e = e ∙ rw (ne_eqb kind 3 h)

-- ---- the lines before the listed borders, and behind them

near-self : (d n z : ℤ) → is_narrow z ≡ true → is_near z d n ≡ is_near z d n
near-self d n z e = refl

module _ (f : List ℤ) (g : Good f) where
  at : (k : ℕ) → is_figure (get_or f k (pos 0)) ≡ true
  at k = tally-at f k g.each

  head-lines : SameLines (packed_due head_names (head_exact f (net_in f Building ∷ [])) (head_allowed f)) (head_due f)
  unfolding packed_from head_exact head_allowed head_due head_dues head_lines due_under left_field
  head-lines =
      same_line (right-same (text "N.FABBRIC  ") (text "N.FABBRIC") (due (count_exact (borders_in f Building)) (pos 0)) (counted (borders_in f Building)) refl (count_same (borders_in f Building) (at 16)))
      (same_line (right-same (text "N.PARTIC   ") (text "N.PARTIC") (due (count_exact (borders_in f Parcel)) (pos 0)) (counted (borders_in f Parcel)) refl (count_same (borders_in f Parcel) (at 20)))
      (same_line (right-same (text "N.STRADE   ") (text "N.STRADE") (due (count_exact (borders_in f Road)) (pos 0)) (counted (borders_in f Road)) refl (count_same (borders_in f Road) (at 8)))
      (same_line (right-same (text "N.ACQUE    ") (text "N.ACQUE") (due (count_exact (borders_in f Water)) (pos 0)) (counted (borders_in f Water)) refl (count_same (borders_in f Water) (at 12)))
      (same_line (right-same (text "N.SVIL-ALL ") (text "N.SVIL-ALL") (due (count_exact (islands_in f Confine)) (pos 0)) (counted (islands_in f Confine)) refl (count_same (islands_in f Confine) (at 2)))
      (same_line (right-same (text "FABBRIC    ") (text "FABBRIC") (due (net_in f Building) (borders_in f Building)) (due (net_in f Building) (borders_in f Building)) refl (near-self (net_in f Building) (borders_in f Building))) no_line)))))

  head-by : (v : List ℤ) → get_or v 0 (pos 0) ≡ net_in f Building → head_exact f v ≡ head_exact f (net_in f Building ∷ [])
  unfolding head_exact
  head-by v e = rw e

  pub head-known : (s : List ℕ) (v : List ℤ) → get_or v 0 (pos 0) ≡ net_in f Building → (x a : List ℤ) → x ≡ head_exact f v → a ≡ head_allowed f
      → (r : ℕ) → r ≡ right_from 1 (packed_due head_names x a) s → r ≡ right_from 1 (head_due f) s
  head-known s v ev x a ex ea r er = er ∙ rw (ex, head-by v ev, ea) (lines_same s 1 head-lines)

  module _ (kind : ℕ) (b : ℤ) (fits : SFits w64 (exact_total kind f)) where
    total-by : (z : ℤ) → is_narrow z ≡ true → (t : Bool) → eqb kind 3 ≡ t
        → is_near z (exact_total kind f) (cond t (borders_in f Other) (sum_of (low_z (borders_in f Parcel) farthest) (low_z (borders_in f Road) farthest) (low_z (borders_in f Water) farthest) (low_z (islands_in f Confine) farthest)))
        ≡ is_near z (exact_total kind f) (cond t (borders_in f Other) (sum_of (borders_in f Parcel) (borders_in f Road) (borders_in f Water) (islands_in f Confine)))
    total-by z n true e = refl
    total-by z n false e = parts_same z (exact_total kind f) n fits (borders_in f Parcel) (borders_in f Road) (borders_in f Water) (islands_in f Confine) (at 20) (at 8) (at 12) (at 2)

    total-same : (z : ℤ) → is_narrow z ≡ true → is_near z (exact_total kind f) (parts_allowed kind f) ≡ is_near z (exact_total kind f) (total_allowance kind f)
    unfolding parts_allowed total_allowance
    total-same z n = total-by z n (eqb kind 3) refl

    foot-lines : SameLines (packed_due foot_names (foot_exact (exact_areas kind f) (exact_total kind f) b) (foot_allowed kind f)) (foot_due kind f b)
    unfolding packed_from exact_areas foot_exact foot_allowed foot_due foot_dues foot_lines due_under left_field
    foot-lines =
        same_line (right-same (text "PARTIC     ") (text "PARTIC") (due (net_in f Parcel) (borders_in f Parcel)) (due (net_in f Parcel) (borders_in f Parcel)) refl (near-self (net_in f Parcel) (borders_in f Parcel)))
        (same_line (right-same (text "STRADE     ") (text "STRADE") (due (net_in f Road) (borders_in f Road)) (due (net_in f Road) (borders_in f Road)) refl (near-self (net_in f Road) (borders_in f Road)))
        (same_line (right-same (text "ACQUE      ") (text "ACQUE") (due (net_in f Water) (borders_in f Water)) (due (net_in f Water) (borders_in f Water)) refl (near-self (net_in f Water) (borders_in f Water)))
        (same_line (right-same (text "SVIL-ALL   ") (text "SVIL-ALL") (due (inner_in f Confine) (islands_in f Confine)) (due (inner_in f Confine) (islands_in f Confine)) refl (near-self (inner_in f Confine) (islands_in f Confine)))
        (same_line (right-same (text "TOTALE     ") (text "TOTALE") (due (exact_total kind f) (parts_allowed kind f)) (due (exact_total kind f) (total_allowance kind f)) refl total-same)
        (same_line (right-same (text "CONFINE    ") (text "CONFINE") (due (exact_confine kind f) (confine_allowance kind f)) (due (exact_confine kind f) (confine_allowance kind f)) refl (near-self (exact_confine kind f) (confine_allowance kind f)))
        (same_line (right-same (text "SBILANCIO  ") (text "SBILANCIO") (counted b) (counted b) refl (near-self (metre *ℤ b) (pos 0))) no_line))))))

    pub foot-known : (s : List ℕ) (k : ℕ) (v : List ℤ) → v ≡ exact_areas kind f → (t : ℤ) → t ≡ exact_total kind f → (x a : List ℤ) → x ≡ foot_exact v t b
        → a ≡ foot_allowed kind f → (r : ℕ) → r ≡ right_from k (packed_due foot_names x a) s → r ≡ right_from k (foot_due kind f b) s
    foot-known s k v ev t et x a ex ea r er = er ∙ rw (ex, ev, et, ea) (lines_same s k foot-lines)

-- ---- what the arrays of the code hold

abbrev held : ℤ → ℤ
held z = to_z w64 (of_z w64 z)

module _ (f : List ℤ) (g : Good f) where
  pub count-asks : (k : ℕ) → mag (get_or f k (pos 0)) < 2 ^ 63 → is_figure (held (get_or f k (pos 0))) ≡ true
  count-asks k m = rw (back (get_or f k (pos 0)) m) (tally-at f k g.each)

-- a count's exact area, in a local
exact-held : (z : ℤ) → mag z < 2 ^ 63 → (x : ℤ) → x ≡ count_exact (held z) → mag x < 2 ^ 63 → held x ≡ count_exact z
exact-held z mz x e mx = back x mx ∙ e ∙ ap count_exact (back z mz)

pub head-exact-is : (f : List ℤ) → mag (borders_in f Building) < 2 ^ 63 → mag (borders_in f Parcel) < 2 ^ 63 → mag (borders_in f Road) < 2 ^ 63
    → mag (borders_in f Water) < 2 ^ 63 → mag (islands_in f Confine) < 2 ^ 63
    → (a : ℤ) → a ≡ count_exact (held (borders_in f Building)) → mag a < 2 ^ 63 → (b : ℤ) → b ≡ count_exact (held (borders_in f Parcel)) → mag b < 2 ^ 63
    → (c : ℤ) → c ≡ count_exact (held (borders_in f Road)) → mag c < 2 ^ 63 → (d : ℤ) → d ≡ count_exact (held (borders_in f Water)) → mag d < 2 ^ 63
    → (e : ℤ) → e ≡ count_exact (held (islands_in f Confine)) → mag e < 2 ^ 63 → (v : List ℤ) → mag (get_or v 0 (pos 0)) < 2 ^ 63
    → held a ∷ held b ∷ held c ∷ held d ∷ held e ∷ held (get_or v 0 (pos 0)) ∷ [] ≡ head_exact f v
unfolding head_exact
head-exact-is f i j k l m a ea ma b eb mb c ec mc d ed md e ee me v mv =
    rw (
      exact-held (borders_in f Building) i a ea ma,
      exact-held (borders_in f Parcel) j b eb mb,
      exact-held (borders_in f Road) k c ec mc,
      exact-held (borders_in f Water) l d ed md,
      exact-held (islands_in f Confine) m e ee me,
      back (get_or v 0 (pos 0)) mv,
    )

pub head-allowed-is : (f : List ℤ) → mag (borders_in f Building) < 2 ^ 63 → pos 0 ∷ pos 0 ∷ pos 0 ∷ pos 0 ∷ pos 0 ∷ held (borders_in f Building) ∷ [] ≡ head_allowed f
unfolding head_allowed
head-allowed-is f i = rw (back (borders_in f Building) i)

module _ (b : ℤ) (fb : SFits w64 b) (w : Within 460000000000 b) where
  unit-holds : Holds 2000000 (pos 2000000) 2000000
  unit-holds = holds-bits {n = 2000000} {b = 2000000} (within-lit tt)

  pub balance-asks : SFits w64 (pos 2000000 *ℤ held b)
  balance-asks = ask-mul unit-holds (holds_of fb w) (lit< tt)

  pub foot-exact-is : (v : List ℤ) (t : ℤ) → mag t < 2 ^ 63 → mag (get_or v 1 (pos 0)) < 2 ^ 63 → mag (get_or v 2 (pos 0)) < 2 ^ 63
      → mag (get_or v 3 (pos 0)) < 2 ^ 63 → mag (get_or v 4 (pos 0)) < 2 ^ 63 → mag (get_or v 5 (pos 0)) < 2 ^ 63
      → held (get_or v 1 (pos 0)) ∷ held (get_or v 2 (pos 0)) ∷ held (get_or v 3 (pos 0)) ∷ held (get_or v 4 (pos 0)) ∷ held t ∷ held (get_or v 5 (pos 0)) ∷ held (pos 2000000 *ℤ held b) ∷ []
      ≡ foot_exact v t b
  unfolding foot_exact
  foot-exact-is v t mt m1 m2 m3 m4 m5 =
      rw (
        (holds-mul unit-holds (holds_of fb w) (lit< tt)).reads,
        back (get_or v 1 (pos 0)) m1,
        back (get_or v 2 (pos 0)) m2,
        back (get_or v 3 (pos 0)) m3,
        back (get_or v 4 (pos 0)) m4,
        back (get_or v 5 (pos 0)) m5,
        back t mt,
      )

module _ (kind : ℕ) (f : List ℤ) where
  pub foot-allowed-is : mag (borders_in f Parcel) < 2 ^ 63 → mag (borders_in f Road) < 2 ^ 63 → mag (borders_in f Water) < 2 ^ 63 → mag (islands_in f Confine) < 2 ^ 63
      → (p : ℤ) → p ≡ parts_allowed kind f → mag p < 2 ^ 63 → (q : ℤ) → q ≡ confine_allowance kind f → mag q < 2 ^ 63
      → held (borders_in f Parcel) ∷ held (borders_in f Road) ∷ held (borders_in f Water) ∷ held (islands_in f Confine) ∷ held p ∷ held q ∷ pos 0 ∷ [] ≡ foot_allowed kind f
  unfolding foot_allowed
  foot-allowed-is i j k l p ep mp q eq mq =
      rw (
        back (borders_in f Parcel) i,
        back (borders_in f Road) j,
        back (borders_in f Water) k,
        back (islands_in f Confine) l,
        back p mp,
        back q mq,
        ep,
        eq,
      )

-- the areas of a sheet, in a list
module _ (kind : ℕ) (f v : List ℤ) (e : v ≡ exact_areas kind f) where
  pub areas-six : length v ≡ 6
  unfolding exact_areas
  areas-six = ap length e

  pub areas-first : get_or v 0 (pos 0) ≡ net_in f Building
  unfolding exact_areas
  areas-first = ap (λ (x : List ℤ). get_or x 0 (pos 0)) e

-- of two numbers in locals
pub foot-as : (v x : List ℤ) (t b : ℤ) → mag t < 2 ^ 63 → (z : ℤ) → mag z < 2 ^ 63 → z ≡ b → x ≡ foot_exact v (held t) (held z) → x ≡ foot_exact v t b
foot-as v x t b mt z mz e q = q ∙ rw (back t mt, back z mz, e)

-- ---- the balance of a file

module _ (s : List ℕ) (m : ℕ) (u v : List ℕ) (eu : u ≡ line_from s (11 + m)) (ev : v ≡ line_from s (12 + m))
    (t c : ℤ) (et : (t ≡ figure_in u) × Within 230000000000 t) (ec : (c ≡ figure_in v) × Within 230000000000 c) where
  total-holds : Holds 230000000000 t (of_z w64 t)
  total-holds = holds_of (within-fits (lit< tt) et.1) et.1

  confine-holds : Holds 230000000000 c (of_z w64 c)
  confine-holds = holds_of (within-fits (lit< tt) ec.1) ec.1

  pub balance-fits : SFits w64 (held t -ℤ held c)
  balance-fits = ask-sub total-holds confine-holds (lit< tt)

  pub balance-known : (held (held t -ℤ held c) ≡ balance_in m s) × Within 460000000000 (held (held t -ℤ held c))
  unfolding balance_in
  balance-known =
      let h = holds-sub total-holds confine-holds (lit< tt) in
      (h.reads ∙ ap₂ (λ (x y : ℤ). x -ℤ y) (et.0 ∙ ap figure_in eu) (ec.0 ∙ ap figure_in ev), read-within h)
