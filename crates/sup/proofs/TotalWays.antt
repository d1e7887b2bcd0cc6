-- The ways through the combined total: four numbers by their high and low parts, neither of whose sums overflows. Assumes nothing.
use Prim.Native.Nat.{ℕ, suc, ◌+◌, ◌*◌, ◌/◌, ◌%◌, ◌^◌, ◌≤◌, ◌<◌}
use mathlib.Core.Path.{◌≡◌, refl, sym, ◌∙◌, ap}
use mathlib.Core.List.{List, [], ◌∷◌}
use mathlib.Core.Bool.{Bool, true, false, cond, not}
use native.Mathlib.Omega.{arith}
use lib.ListN.{length, get_or, drop}
use lib.Dec.{lit<}
use lib.IntN.{ℤ, pos, negsuc, ◌+ℤ◌, ◌-ℤ◌, ◌*ℤ◌, +ℤ_idr}
use lib.Signed.{mag, lt_z, le_z, quot_z, rem_z}
use mir.Syntax.{w64}
use mir.Val.{SFits, to_z, of_z}
use mir.Facts.{to_z-of_z}
use borrow.Author.Tests.{not-true, not-false, eq-eqb, ne_eqb}
use Rattle.laws.specs.Whole.{Within}
use Rattle.laws.proofs.Bounds.{within-add, within-fits, within-lit}
use Rattle.laws.proofs.Choice.{and-false, and_left, and_right}
use Rattle.laws.proofs.Bits.{Holds, back, holds_as, holds-bits, ask-add, holds-add, ask-mul, holds-mul}
use Rattle.laws.proofs.ListLaws.{left, left-none}
use Rattle.laws.proofs.Parts.{P, N, num, add_parts, neg-P, neg-N, eq-parts, ints, diff, parts-fit, lt-true, le_not_lt}
use Rattle.classes.specs.declared.Class.TheVariants.{Confine, Other, Road, Water, Building, Parcel}
use Rattle.tally.specs.Tally.{is_figure}
use Rattle.tally.proofs.TallyWays.{figure-fits}
use Rattle.spelling.specs.Figures.{is_narrow}
use Rattle.std.specs.Prelude.{Option, Some, None}
use Rattle.sup.specs.Sup.{is_limited, wide_from, borders_in, islands_in, net_in, inner_in, exact_total, exact_confine, outer_in, head_lines, balance, foot_lines, figures_in}
use Rattle.sup.proofs.RoundWays.{metres-small}
use Rattle.sup.specs.Metres.{metres_of}
use Rattle.sup.specs.ExactAreas.{exact_areas}
use Rattle.sup.specs.Totals.{billion, high_sum, low_sum, total_of}

-- ---- one number

parts-of : (z : ℤ) → (P (quot_z z billion) ≡ P z / 1000000000) × (N (quot_z z billion) ≡ N z / 1000000000) × (P (rem_z z billion) ≡ P z % 1000000000)
    × (N (rem_z z billion) ≡ N z % 1000000000)
parts-of (pos a) = (refl, omega arith, refl, omega arith)
parts-of (negsuc a) = (
  neg-P (pos (suc a / 1000000000)) ∙ omega arith,
  neg-N (pos (suc a / 1000000000)),
  neg-P (pos (suc a % 1000000000)) ∙ omega arith,
  neg-N (pos (suc a % 1000000000)),
)

high-within : (z : ℤ) → SFits w64 z → Within 9223372036 (quot_z z billion)
high-within (pos a) f = let h : a < 2 ^ 63 = f.sfits in record { within = omega arith }
high-within (negsuc a) f =
    let h : a < 2 ^ 63 = f.sfits in
    let p = parts-of (negsuc a) in
    record { within = omega (arith, num (quot_z (negsuc a) billion), p.0, p.1) }

low-within : (z : ℤ) → Within 999999999 (rem_z z billion)
low-within (pos a) = record { within = omega arith }
low-within (negsuc a) =
    let p = parts-of (negsuc a) in
    record { within = omega (arith, num (rem_z (negsuc a) billion), p.2, p.3) }

module _ (z : ℤ) (f : SFits w64 z) where
  pub high-holds : Holds 9223372036 (quot_z z billion) (of_z w64 (quot_z (to_z w64 (of_z w64 z)) billion))
  high-holds = holds_as (ap (λ (x : ℤ). quot_z x billion) (to_z-of_z f)) (lit< tt) (high-within z f)

  pub low-holds : Holds 999999999 (rem_z z billion) (of_z w64 (rem_z (to_z w64 (of_z w64 z)) billion))
  low-holds = holds_as (ap (λ (x : ℤ). rem_z x billion) (to_z-of_z f)) (lit< tt) (low-within z)

  pub part-asks : (0 < 1000000000) × SFits w64 (quot_z (to_z w64 (of_z w64 z)) billion)
  part-asks = (omega arith, rw (to_z-of_z f) (within-fits (lit< tt) (high-within z f)))

-- ---- four of them

abbrev two : ℕ → ℕ → ℕ
two x y = of_z w64 (to_z w64 x +ℤ to_z w64 y)

module _ {m x y u v : ℕ} {a b c d : ℤ} (p : Holds m a x) (q : Holds m b y) (r : Holds m c u) (s : Holds m d v) (h : m + m + m + m < 2 ^ 63) where
  pub four-first : SFits w64 (to_z w64 x +ℤ to_z w64 y)
  four-first = ask-add p q (omega arith)

  pub four-second : SFits w64 (to_z w64 (two x y) +ℤ to_z w64 u)
  four-second = ask-add (holds-add p q (omega arith)) r (omega arith)

  pub four-third : SFits w64 (to_z w64 (two (two x y) u) +ℤ to_z w64 v)
  four-third = ask-add (holds-add (holds-add p q (omega arith)) r (omega arith)) s h

  pub four_is : to_z w64 (two (two (two x y) u) v) ≡ a +ℤ b +ℤ c +ℤ d
  four_is = (holds-add (holds-add (holds-add p q (omega arith)) r (omega arith)) s h).reads

-- ---- the sum

times : (h : ℤ) → (P (h *ℤ billion) ≡ P h * 1000000000) × (N (h *ℤ billion) ≡ N h * 1000000000)
times (pos a) = (refl, omega arith)
times (negsuc a) = (neg-P (pos (suc a * 1000000000)) ∙ omega arith, neg-N (pos (suc a * 1000000000)))

pub split : (a b c d : ℤ) → high_sum a b c d *ℤ billion +ℤ low_sum a b c d ≡ a +ℤ (b +ℤ (c +ℤ d))
unfolding high_sum low_sum
split a b c d =
    let qa = quot_z a billion in
    let qb = quot_z b billion in
    let qc = quot_z c billion in
    let qd = quot_z d billion in
    let ra = rem_z a billion in
    let rb = rem_z b billion in
    let rc = rem_z c billion in
    let rd = rem_z d billion in
    let h = qa +ℤ qb +ℤ qc +ℤ qd in
    let l = ra +ℤ rb +ℤ rc +ℤ rd in
    eq-parts (h *ℤ billion +ℤ l) (a +ℤ (b +ℤ (c +ℤ d)))
    (omega (
      arith,
      parts-of a,
      parts-of b,
      parts-of c,
      parts-of d,
      add_parts qa qb,
      add_parts (qa +ℤ qb) qc,
      add_parts (qa +ℤ qb +ℤ qc) qd,
      add_parts ra rb,
      add_parts (ra +ℤ rb) rc,
      add_parts (ra +ℤ rb +ℤ rc) rd,
      times h,
      add_parts (h *ℤ billion) l,
      add_parts c d,
      add_parts b (c +ℤ d),
      add_parts a (b +ℤ (c +ℤ d)),
    ))

pub lows-within : (a b c d : ℤ) → Within 3999999996 (low_sum a b c d)
unfolding low_sum
lows-within a b c d = within-add (within-add (within-add (low-within a) (low-within b)) (low-within c)) (low-within d)

-- ---- its limit

module _ (h l z : ℤ) (e : h *ℤ billion +ℤ l ≡ z) (w : Within 3999999996 l) where
  linear : P z + (N h * 1000000000 + N l) ≡ (P h * 1000000000 + P l) + N z
  linear = rw (← e) (omega (arith, add_parts (h *ℤ billion) l, times h))

  pub limit-over : lt_z (pos 9100000000) h ≡ true → None ≡ total_of z
  unfolding total_of is_limited
  limit-over t =
      let q : le_z z (pos 9000000000000000000) ≡ false
      = le_not_lt z (pos 9000000000000000000) true (lt-true (pos 9000000000000000000) z (omega (arith, ints, linear, num l, w.within))) in
      rw (q, and-false (le_z (negsuc 8999999999999999999) z))

  pub limit-under : lt_z h (negsuc 9099999999) ≡ true → None ≡ total_of z
  unfolding total_of is_limited
  limit-under t =
      let q : le_z (negsuc 8999999999999999999) z ≡ false
      = le_not_lt (negsuc 8999999999999999999) z true (lt-true z (negsuc 8999999999999999999) (omega (arith, ints, linear, num l, w.within))) in
      rw q

  pub high-near : lt_z (pos 9100000000) h ≡ false → lt_z h (negsuc 9099999999) ≡ false → Within 9100000000 h
  high-near s t = record { within = omega (arith, ints, num h) }

pub total-over : (z : ℤ) → lt_z (pos 9000000000000000000) z ≡ true → None ≡ total_of z
unfolding total_of is_limited
total-over z t = rw (le_not_lt z (pos 9000000000000000000) true t, and-false (le_z (negsuc 8999999999999999999) z))

pub total-under : (z : ℤ) → lt_z z (negsuc 8999999999999999999) ≡ true → None ≡ total_of z
unfolding total_of is_limited
total-under z t = rw (le_not_lt (negsuc 8999999999999999999) z true t)

pub total-within : (z : ℤ) → lt_z (pos 9000000000000000000) z ≡ false → lt_z z (negsuc 8999999999999999999) ≡ false → Some z ≡ total_of z
unfolding total_of is_limited
total-within z s t = rw (le_not_lt z (pos 9000000000000000000) false s, le_not_lt (negsuc 8999999999999999999) z false t)

-- ---- the code: what its locals hold

module _ (a b c d : ℤ) (fa : SFits w64 a) (fb : SFits w64 b) (fc : SFits w64 c) (fd : SFits w64 d) where
  abbrev at64 : ℤ → ℤ
  at64 z = to_z w64 (of_z w64 z)

  abbrev whole : ℤ
  whole = a +ℤ (b +ℤ (c +ℤ d))

  module _ (h : ℤ) (e : h ≡ high_sum (at64 a) (at64 b) (at64 c) (at64 d)) (ok : mag h < 2 ^ 63) where
    high-as : h ≡ high_sum a b c d
    high-as = e ∙ rw (to_z-of_z fa, to_z-of_z fb, to_z-of_z fc, to_z-of_z fd)

    high-back : at64 h ≡ high_sum a b c d
    high-back = back h ok ∙ high-as

    pub high-over : lt_z (pos 9100000000) (at64 h) ≡ true → None ≡ total_of whole
    high-over t = limit-over (high_sum a b c d) (low_sum a b c d) whole (split a b c d) (lows-within a b c d) (rw high-back at t)

    pub high-under : lt_z (at64 h) (negsuc 9099999999) ≡ true → None ≡ total_of whole
    high-under t = limit-under (high_sum a b c d) (low_sum a b c d) whole (split a b c d) (lows-within a b c d) (rw high-back at t)

    module _ (s : lt_z (pos 9100000000) (at64 h) ≡ false) (t : lt_z (at64 h) (negsuc 9099999999) ≡ false) where
      near-holds : Holds 9100000000 (high_sum a b c d) (of_z w64 h)
      near-holds =
          holds_as high-as (lit< tt)
          (high-near (high_sum a b c d) (low_sum a b c d) whole (split a b c d) (lows-within a b c d) (rw high-back at s) (rw high-back at t))

      unit-holds : Holds 1000000000 (pos 1000000000) 1000000000
      unit-holds = holds-bits {n = 1000000000} {b = 1000000000} (within-lit tt)

      pub product-asks : SFits w64 (at64 h *ℤ pos 1000000000)
      product-asks = ask-mul near-holds unit-holds (lit< tt)

      module _ (l : ℤ) (f : l ≡ low_sum (at64 a) (at64 b) (at64 c) (at64 d)) where
        lows-holds : Holds 3999999996 (low_sum a b c d) (of_z w64 l)
        lows-holds = holds_as (f ∙ rw (to_z-of_z fa, to_z-of_z fb, to_z-of_z fc, to_z-of_z fd)) (lit< tt) (lows-within a b c d)

        pub total-asks : SFits w64 (to_z w64 (of_z w64 (at64 h *ℤ pos 1000000000)) +ℤ at64 l)
        total-asks = ask-add (holds-mul near-holds unit-holds (lit< tt)) lows-holds (lit< tt)

        abbrev found : ℤ
        found = to_z w64 (of_z w64 (to_z w64 (of_z w64 (at64 h *ℤ pos 1000000000)) +ℤ at64 l))

        found-is : found ≡ whole
        found-is = (holds-add (holds-mul near-holds unit-holds (lit< tt)) lows-holds (lit< tt)).reads ∙ split a b c d

        pub found-over : lt_z (pos 9000000000000000000) found ≡ true → None ≡ total_of whole
        found-over x = total-over whole (rw found-is at x)

        module _ (x : lt_z (pos 9000000000000000000) found ≡ false) where
          pub found-under : lt_z found (negsuc 8999999999999999999) ≡ true → None ≡ total_of whole
          found-under y = total-under whole (rw found-is at y)

          pub found_within : lt_z found (negsuc 8999999999999999999) ≡ false → Some found ≡ total_of whole
          found_within y = ap Some found-is ∙ total-within whole (rw found-is at x) (rw found-is at y)

-- ---- the first wide figure

pub wide-start : (from : ℕ) (s : List ℤ) → wide_from from s ≡ wide_from (from + 0) s
wide-start from s = ap (λ (k : ℕ). wide_from k s) (let e : from ≡ from + 0 = omega arith in e)

module _ (from : ℕ) (s : List ℤ) (i : ℕ) (q : wide_from from s ≡ wide_from (from + i) (drop i s)) where
  pub wide-none : length s ≤ i → 0 ≡ wide_from from s
  unfolding wide_from
  wide-none h = sym (q ∙ rw (left-none s i h))

  module _ (r : Bool) (h : i < length s) (ok : mag (get_or s i (pos 0)) < 2 ^ 63) (e : r ≡ is_narrow (to_z w64 (of_z w64 (get_or s i (pos 0))))) where
    wide-on : wide_from from s ≡ cond r (wide_from (from + (i + 1)) (drop (i + 1) s)) (from + i)
    unfolding wide_from
    wide-on =
        let g : r ≡ is_narrow (get_or s i (pos 0)) = e ∙ ap is_narrow (back (get_or s i (pos 0)) ok) in
        let k : from + i + 1 ≡ from + (i + 1) = omega arith in
        q ∙ rw (left s i (pos 0) h, ← g, k)

    pub wide_step : not r ≡ false → wide_from from s ≡ wide_from (from + (i + 1)) (drop (i + 1) s)
    wide_step t = wide-on ∙ rw (not-false r t)

    pub wide-stop : not r ≡ true → from + i ≡ wide_from from s
    wide-stop t = sym (wide-on ∙ rw (not-true r t))

-- ---- from the tally

module _ (a b : ℤ) (p : is_figure a ≡ true) (q : is_figure b ≡ true) where
  net-fits : SFits w64 (a -ℤ b)
  unfolding is_figure
  net-fits =
      let i = and_left (le_z (pos 0) a) (le_z a (pos 9000000000000000000)) p in
      let j = and_right (le_z (pos 0) a) (le_z a (pos 9000000000000000000)) p in
      let k = and_left (le_z (pos 0) b) (le_z b (pos 9000000000000000000)) q in
      let l = and_right (le_z (pos 0) b) (le_z b (pos 9000000000000000000)) q in
      parts-fit (a -ℤ b) (omega (arith, ints, num a, num b, diff a b)) (omega (arith, ints, num a, num b, diff a b))

  pub net-asks : SFits w64 (to_z w64 (of_z w64 a) -ℤ to_z w64 (of_z w64 b))
  net-asks = rw (to_z-of_z (figure-fits a p), to_z-of_z (figure-fits b q)) net-fits

  pub net-is : to_z w64 (of_z w64 (to_z w64 (of_z w64 a) -ℤ to_z w64 (of_z w64 b))) ≡ a -ℤ b
  net-is = to_z-of_z net-asks ∙ rw (to_z-of_z (figure-fits a p), to_z-of_z (figure-fits b q))

module _ (kind : ℕ) (f : List ℤ) (r : Option ℤ) where
  pub sheet-union : kind ≡ 3 → (n : ℤ) → n ≡ net_in f Other → mag n < 2 ^ 63 → r ≡ total_of (to_z w64 (of_z w64 n) +ℤ (pos 0 +ℤ (pos 0 +ℤ pos 0)))
      → r ≡ total_of (exact_total kind f)
  unfolding exact_total
  sheet-union h n e ok q = q ∙ ap total_of (ap (λ (x : ℤ). x +ℤ pos 0) (back n ok) ∙ +ℤ_idr n ∙ e) ∙ rw (eq-eqb kind 3 h)

  pub sheet-parts : (kind ≡ 3 → ⊥) → (x : ℤ) → x ≡ net_in f Parcel → mag x < 2 ^ 63 → (y : ℤ) → y ≡ net_in f Road → mag y < 2 ^ 63
      → (z : ℤ) → z ≡ net_in f Water → mag z < 2 ^ 63 → mag (inner_in f Confine) < 2 ^ 63
      → r ≡ total_of (to_z w64 (of_z w64 x) +ℤ (to_z w64 (of_z w64 y) +ℤ (to_z w64 (of_z w64 z) +ℤ to_z w64 (of_z w64 (inner_in f Confine)))))
      → r ≡ total_of (exact_total kind f)
  unfolding exact_total
  sheet-parts h x a i y b j z c k l q = q ∙ rw (back x i, back y j, back z k, back (inner_in f Confine) l, a, b, c, ne_eqb kind 3 h)

abbrev held : ℤ → ℤ
held z = to_z w64 (of_z w64 z)

pub head-is : (f : List ℤ) → mag (borders_in f Building) < 2 ^ 63 → mag (borders_in f Parcel) < 2 ^ 63 → mag (borders_in f Road) < 2 ^ 63
    → mag (borders_in f Water) < 2 ^ 63 → mag (islands_in f Confine) < 2 ^ 63 → (n : ℤ) → n ≡ net_in f Building → mag n < 2 ^ 63
    → (m : ℤ) → m ≡ metres_of (held n) → mag m < 2 ^ 63
    → held (borders_in f Building) ∷ held (borders_in f Parcel) ∷ held (borders_in f Road) ∷ held (borders_in f Water) ∷ held (islands_in f Confine) ∷ held m ∷ []
    ≡ figures_in (head_lines f)
unfolding head_lines figures_in
head-is f a b c d e n q i m p j =
    rw (
      back (borders_in f Building) a,
      back (borders_in f Parcel) b,
      back (borders_in f Road) c,
      back (borders_in f Water) d,
      back (islands_in f Confine) e,
      back m j,
      p,
      back n i,
      q,
    )

module _ (kind : ℕ) (f : List ℤ) where
  pub confine-union : kind ≡ 3 → (n : ℤ) → n ≡ net_in f Other → n ≡ exact_confine kind f
  unfolding exact_confine
  confine-union h n e = e ∙ rw (eq-eqb kind 3 h)

  pub confine-outer : (kind ≡ 3 → ⊥) → outer_in f Confine ≡ exact_confine kind f
  unfolding exact_confine
  confine-outer h = rw (ne_eqb kind 3 h)

-- the areas before they are rounded
pub areas-are : (kind : ℕ) (f : List ℤ) (w : ℤ) → w ≡ net_in f Building → mag w < 2 ^ 63 → (x : ℤ) → x ≡ net_in f Parcel → mag x < 2 ^ 63
    → (y : ℤ) → y ≡ net_in f Road → mag y < 2 ^ 63 → (z : ℤ) → z ≡ net_in f Water → mag z < 2 ^ 63 → mag (inner_in f Confine) < 2 ^ 63
    → (u : ℤ) → u ≡ exact_confine kind f → mag u < 2 ^ 63
    → held w ∷ held x ∷ held y ∷ held z ∷ held (inner_in f Confine) ∷ held u ∷ [] ≡ exact_areas kind f
unfolding exact_areas
areas-are kind f w ew mw x ex mx y ey my z ez mz mi u eu mu =
    rw (back w mw, back x mx, back y my, back z mz, back (inner_in f Confine) mi, back u mu, ew, ex, ey, ez, eu)

-- ---- behind the listed borders

mag-parts : (z : ℤ) → mag z < 2 ^ 62 → (P z < 2 ^ 62) × (N z ≤ 2 ^ 62)
mag-parts (pos a) h = (omega arith, omega arith)
mag-parts (negsuc a) h = (omega arith, omega arith)

difference-fits : (a b : ℤ) → mag a < 2 ^ 62 → mag b < 2 ^ 62 → SFits w64 (a -ℤ b)
difference-fits a b h k =
    parts-fit (a -ℤ b) (omega (arith, mag-parts a h, mag-parts b k, diff a b)) (omega (arith, mag-parts a h, mag-parts b k, diff a b))

-- the area in a local, of an area in a local
metres-held : (n : ℤ) → mag n < 2 ^ 63 → (m : ℤ) → m ≡ metres_of (held n) → held m ≡ metres_of n
metres-held n i m e =
    let p : m ≡ metres_of n = e ∙ ap metres_of (back n i) in
    ap held p ∙ back (metres_of n) (omega (arith, metres-small n (record { sfits = i })))

module _ (kind : ℕ) (f : List ℤ) (t : ℤ) (ft : mag t < 2 ^ 63) (et : t ≡ exact_total kind f) (u : ℤ) (eu : u ≡ exact_confine kind f) (fu : mag u < 2 ^ 63)
    (w : ℤ) (ew : w ≡ metres_of (held t)) (b : ℤ) (eb : b ≡ metres_of (held u)) where
  pub foot-asks : SFits w64 (held w -ℤ held b)
  foot-asks =
      rw (metres-held t ft w ew, metres-held u fu b eb)
      (difference-fits (metres_of t) (metres_of u) (metres-small t (record { sfits = ft })) (metres-small u (record { sfits = fu })))

  pub foot-is : (x : ℤ) → x ≡ net_in f Parcel → mag x < 2 ^ 63 → (p : ℤ) → p ≡ metres_of (held x) → (y : ℤ) → y ≡ net_in f Road → mag y < 2 ^ 63
      → (q : ℤ) → q ≡ metres_of (held y) → (z : ℤ) → z ≡ net_in f Water → mag z < 2 ^ 63 → (r : ℤ) → r ≡ metres_of (held z)
      → mag (inner_in f Confine) < 2 ^ 63 → (s : ℤ) → s ≡ metres_of (held (inner_in f Confine))
      → held p ∷ held q ∷ held r ∷ held s ∷ held w ∷ held b ∷ held (held w -ℤ held b) ∷ [] ≡ figures_in (foot_lines kind f)
  unfolding foot_lines figures_in balance
  foot-is x ex fx p ep y ey fy q eq z ez fz r er fi s es =
      rw (
        to_z-of_z foot-asks,
        metres-held x fx p ep,
        metres-held y fy q eq,
        metres-held z fz r er,
        metres-held (inner_in f Confine) fi s es,
        metres-held t ft w ew,
        metres-held u fu b eb,
        ex,
        ey,
        ez,
        et,
        eu,
      )
