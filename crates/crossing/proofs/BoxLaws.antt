-- The table of boxes, and that no edge of a block whose box lies apart is met. Assumes nothing.
use mathlib.Core.Path.{◌≡◌, refl, sym, ap, ◌∙◌, subst}
use mathlib.Core.List.{List}
use mathlib.Core.Logic.{⊎_elim}
use mathlib.Core.Bool.{Bool, true, false, ◌&&◌}
use Prim.Native.Nat.{ℕ, ◌+◌, ◌*◌, ◌≤◌, ◌<◌}
use native.Mathlib.Nat.{le_refl, eq-or-lt_of_le, add-mul, lt_of_mul-lt-mul_right}
use native.Mathlib.Omega.{arith}
use lib.Dec.{leb}
use lib.ListN.{length, get_or, set, length-set}
use lib.Seq.{get_or-set_same, get_or-set_other}
use lib.IntN.{ℤ, pos}
use lib.Signed.{lt_z, le_z}
use borrow.Author.Tests.{leb-true, leb-false}
use Rattle.laws.specs.Whole.{low_z, high_z}
use Rattle.laws.proofs.Choice.{cond-elim}
use Rattle.laws.proofs.Chains.{and-off, and-off-second}
use Rattle.laws.proofs.Parts.{lt_yes, le_yes, lt-true, le_not_lt}
use Rattle.plane.specs.Rings.{x-at, y-at}
use Rattle.crossing.specs.declared.Point.{Point}
use Rattle.crossing.specs.Edges.{point_at, spans-overlap, boxes-overlap}
use Rattle.crossing.specs.Boxes.{Skip, meets_at, along, span-meets, Floor, Ceiling, Ranged, beyond, box-most, BlockLength, BlockEnd, Boxed, Boxes, box-apart, Kept}
use Rattle.crossing.proofs.EdgeLaws.{meet-not-boxes}

-- ---- the table

module _ (ps : List ℤ) (from axis first last : ℕ) where
  abbrev number : ℕ → ℤ
  number v = along ps axis (from + v)

  range-less : (qs : List ℤ) (at least : ℕ) → Ranged ps from axis first last qs at → least ≤ last → Ranged ps from axis first least qs at
  range-less qs at least w h =
      record {
        room = w.room;
        low = record { under = λ v x y. w.low.under v x (omega arith) };
        high = record { over = λ v x y. w.high.over v x (omega arith) };
      }

  range-kept : (qs rs : List ℤ) (at p : ℕ) → Ranged ps from axis first last qs at → Kept qs rs p → at + 1 < p → Ranged ps from axis first last rs at
  range-kept qs rs at p w k h =
      let e = k.before at (omega arith) in
      let f = k.before (at + 1) h in
      record {
        room = rw k.same_length w.room;
        low = rw e w.low;
        high = rw f w.high;
      }

  -- the two numbers stored
  pub range-put : (qs rs ts : List ℤ) (at : ℕ) (low high : ℤ) → at + 1 < length qs → Floor number first last low → Ceiling number first last high → rs ≡ set qs at low → ts ≡ set rs (at + 1) high → Kept qs ts at × Ranged ps from axis first last ts at
  range-put qs rs ts at low high h fl ce e f = rw (f, e) (
    record {
      same_length = length-set (set qs at low) (at + 1) high ∙ length-set qs at low;
      before = λ i l. get_or-set_other (set qs at low) (at + 1) i high (pos 0) (λ q. omega arith) ∙ get_or-set_other qs at i low (pos 0) (λ q. omega arith);
    },
    record {
      room = rw (length-set (set qs at low) (at + 1) high, length-set qs at low) h;
      low = rw (get_or-set_other (set qs at low) (at + 1) at high (pos 0) (λ q. omega arith), get_or-set_same qs at low (pos 0) (omega arith)) fl;
      high = rw (get_or-set_same (set qs at low) (at + 1) high (pos 0) (rw (length-set qs at low) h)) ce;
    },
  )

module _ (ps : List ℤ) (from edges n : ℕ) where
  pub boxes-none : (qs : List ℤ) (m : ℕ) → m < 0 → Boxed ps from edges n qs m
  boxes-none qs m h = let z : ⊥ = omega arith in absurd z

  box-kept : (qs rs : List ℤ) (m p : ℕ) → Boxed ps from edges n qs m → Kept qs rs p → 4 * m + 3 < p → Boxed ps from edges n rs m
  box-kept qs rs m p w k h =
      record {
        wide = λ last x y. range-kept ps from 0 (m * n) last qs rs (4 * m) p (w.wide last x y) k (omega arith);
        high = λ last x y. range-kept ps from 1 (m * n) last qs rs (4 * m + 2) p (w.high last x y) k (omega arith);
      }

  -- one box more
  pub boxes-more : (qs rs ts : List ℤ) (k last : ℕ) → ((m : ℕ) → m < k → Boxed ps from edges n qs m) → BlockEnd (k * n) n edges last → Kept qs rs (4 * k) × Ranged ps from 0 (k * n) last rs (4 * k) → Kept rs ts (4 * k + 2) × Ranged ps from 1 (k * n) last ts (4 * k + 2) → (m : ℕ) → m < k + 1 → Boxed ps from edges n ts m
  boxes-more qs rs ts k last old end w v m h =
      ⊎_elim (λ (q : m ≡ k). subst (λ (u : ℕ). Boxed ps from edges n ts u) (sym q) new)
      (λ (l : m < k). box-kept rs ts m (4 * k + 2) (box-kept qs rs m (4 * k) (old m l) w.0 (omega arith)) v.0 (omega arith))
      (eq-or-lt_of_le (let z : m ≤ k = omega arith in z))
    where
      new : Boxed ps from edges n ts k
      new =
          record {
            wide = λ e x y. range-less ps from 0 (k * n) last ts (4 * k) e (range-kept ps from 0 (k * n) last rs ts (4 * k) (4 * k + 2) w.1 v.0 (omega arith)) (end.reaches e x y);
            high = λ e x y. range-less ps from 1 (k * n) last ts (4 * k + 2) e v.1 (end.reaches e x y);
          }

  pub boxes-all : (qs : List ℤ) (k : ℕ) → ((m : ℕ) → m < k → Boxed ps from edges n qs m) → edges ≤ k * n → Boxes ps from edges n qs
  boxes-all qs k w h = record { each = λ m l. w m (lt_of_mul-lt-mul_right n (let z : m * n < k * n = omega arith in z)) }

-- ---- blocks

pub block-few : (edges n k : ℕ) → BlockLength edges n → k * n < edges → k < box-most
block-few edges n k w h = lt_of_mul-lt-mul_right n (let z : k * n < box-most * n = omega (arith, w.enough) in z)

pub block-next : (k n : ℕ) → (k + 1) * n ≡ k * n + n
block-next k n = rw (add-mul k 1 n) (omega arith)

-- a block that ends before `stop` ends where it would
pub block-full : (first n stop r : ℕ) → BlockEnd first n stop r → r < stop → first + n ≤ r
block-full first n stop r w h = go (leb (first + n) stop) refl
  where
    go : (t : Bool) → leb (first + n) stop ≡ t → first + n ≤ r
    go true q = w.reaches (first + n) (le_refl (first + n)) (leb-true (first + n) stop q)
    go false q = let l = leb-false (first + n) stop q in let m : stop ≤ r = w.reaches stop (omega arith) (le_refl stop) in omega arith

-- ---- a box that lies apart

module _ (m c d : ℤ) where
  below_both : lt_z c m ≡ true → lt_z d m ≡ true → le_z m (high_z c d) ≡ false
  below_both e f = cond-elim (λ (z : ℤ). le_z m z ≡ false) (lt_z c d) d c (λ q. le_not_lt m d true f) (λ q. le_not_lt m c true e)

  above-both : lt_z m c ≡ true → lt_z m d ≡ true → le_z (low_z c d) m ≡ false
  above-both e f = cond-elim (λ (z : ℤ). le_z z m ≡ false) (lt_z c d) c d (λ q. le_not_lt c m true e) (λ q. le_not_lt d m true f)

le-lt : (a b c : ℤ) → le_z a b ≡ true → lt_z b c ≡ true → lt_z a c ≡ true
le-lt a b c p q = lt-true a c (omega (arith, le_yes a b p, lt_yes b c q))

lt-le : (a b c : ℤ) → lt_z a b ≡ true → le_z b c ≡ true → lt_z a c ≡ true
lt-le a b c p q = lt-true a c (omega (arith, lt_yes a b p, le_yes b c q))

pub beyond-above : (low high a b : ℤ) → lt_z high (low_z a b) ≡ true → true ≡ beyond low high a b
unfolding beyond
beyond-above low high a b e = simp e

pub beyond-below : (low high a b : ℤ) → lt_z high (low_z a b) ≡ false → lt_z (high_z a b) low ≡ beyond low high a b
unfolding beyond
beyond-below low high a b e = simp e

module _ (ps : List ℤ) (from axis first last : ℕ) (qs : List ℤ) (at : ℕ) (a b : ℤ) (w : Ranged ps from axis first last qs at) (k : ℕ) (x : first ≤ k) (y : k + 1 ≤ last) where
  abbrev low : ℤ
  low = get_or qs at (pos 0)

  abbrev high : ℤ
  high = get_or qs (at + 1) (pos 0)

  abbrev start : ℤ
  start = along ps axis (from + k)

  abbrev end : ℤ
  end = along ps axis (from + (k + 1))

  range-missed : beyond low high a b ≡ true → span-meets ps from axis a b k ≡ false
  unfolding spans-overlap beyond
  range-missed e = go (lt_z high (low_z a b)) refl
    where
      go : (t : Bool) → lt_z high (low_z a b) ≡ t → (le_z (low_z a b) (high_z start end) && le_z (low_z start end) (high_z a b)) ≡ false
      go true q =
          sym (and-off (le_z (low_z a b) (high_z start end)) (le_z (low_z start end) (high_z a b))
          (below_both (low_z a b) start end (le-lt start high (low_z a b) (w.high.over k x (omega arith)) q) (le-lt end high (low_z a b) (w.high.over (k + 1) (omega arith) y) q)))
      go false q =
          let r : lt_z (high_z a b) low ≡ true = rw q at e in
          sym (and-off-second (le_z (low_z a b) (high_z start end)) (le_z (low_z start end) (high_z a b))
          (above-both (high_z a b) start end (lt-le (high_z a b) low start r (w.low.under k x (omega arith))) (lt-le (high_z a b) low end r (w.low.under (k + 1) (omega arith) y))))

x-along : (ps : List ℤ) (v : ℕ) → along ps 0 v ≡ x-at ps v
x-along ps v = ap (λ (n : ℕ). get_or ps n (pos 0)) (let e : 2 * v + 0 ≡ 2 * v = omega arith in e)

module _ (qs : List ℤ) (k : ℕ) (a b : Point) where
  abbrev beyond-x : Bool
  beyond-x = beyond (get_or qs (4 * k) (pos 0)) (get_or qs (4 * k + 1) (pos 0)) a.x b.x

  abbrev beyond-y : Bool
  beyond-y = beyond (get_or qs (4 * k + 2) (pos 0)) (get_or qs (4 * k + 2 + 1) (pos 0)) a.y b.y

  pub apart-x : beyond-x ≡ true → true ≡ box-apart qs k a b
  unfolding box-apart
  apart-x e = simp e

  pub apart-y : beyond-x ≡ false → beyond-y ≡ box-apart qs k a b
  unfolding box-apart
  apart-y e = simp e

  module _ (ps : List ℤ) (from edges n : ℕ) (w : Boxed ps from edges n qs k) (apart : box-apart qs k a b ≡ true) where
    missed : (last e : ℕ) → last ≤ k * n + n → last ≤ edges → k * n ≤ e → e + 1 ≤ last → meets_at ps from a b e ≡ false
    unfolding boxes-overlap box-apart
    missed last e h l x y = sym (meet-not-boxes a b (point_at ps (from + e)) (point_at ps (from + (e + 1))) (go beyond-x refl))
      where
        go : (t : Bool) → beyond-x ≡ t → (spans-overlap a.x b.x (x-at ps (from + e)) (x-at ps (from + (e + 1))) && spans-overlap a.y b.y (y-at ps (from + e)) (y-at ps (from + (e + 1)))) ≡ false
        go true q =
            let f : span-meets ps from 0 a.x b.x e ≡ false = range-missed ps from 0 (k * n) last qs (4 * k) a.x b.x (w.wide last h l) e x y q in
            sym (and-off (spans-overlap a.x b.x (x-at ps (from + e)) (x-at ps (from + (e + 1)))) (spans-overlap a.y b.y (y-at ps (from + e)) (y-at ps (from + (e + 1)))) (rw (x-along ps (from + e), x-along ps (from + (e + 1))) at f))
        go false q =
            let r : beyond-y ≡ true = rw q at apart in
            sym (and-off-second (spans-overlap a.x b.x (x-at ps (from + e)) (x-at ps (from + (e + 1)))) (spans-overlap a.y b.y (y-at ps (from + e)) (y-at ps (from + (e + 1))))
            (range-missed ps from 1 (k * n) last qs (4 * k + 2) a.y b.y (w.high last h l) e x y r))

    pub skip_block : (j stop : ℕ) → j ≤ stop → stop ≤ edges → k * n ≤ j → stop ≤ k * n + n → Skip (meets_at ps from a b) j stop stop
    skip_block j stop h l x y = record { on = h; inside = le_refl stop; none = λ e u v. missed stop e y l (omega arith) (omega arith) }
