-- Rows turned over by a ring's, and by one ring after another. Assumes nothing.
use mathlib.Core.Path.{◌≡◌, refl, sym, ◌∙◌, ap}
use mathlib.Core.Bool.{Bool, true, false, ◌&&◌}
use mathlib.Core.List.{List, [], ◌∷◌, ◌++◌}
use Prim.Native.Nat.{ℕ, ◌+◌, ◌-◌, ◌*◌, ◌≤◌, ◌<◌}
use native.Mathlib.Nat.{add_assoc, add-zero, zero-add}
use native.Mathlib.Numerals.{add-one}
use native.Mathlib.Omega.{arith}
use lib.Dec.{eqb}
use lib.ListN.{length, get_or, set, take, drop, length-set}
use lib.Seq.{take-suc, take_all, get_or-set_same, get_or-set_other}
use lib.Bits.{bit_xor}
use lib.IntN.{ℤ}
use mir.Syntax.{w64}
use mir.Val.{SFits, to_z, of_z}
use mir.Facts.{to_z-of_z}
use borrow.Author.Tests.{eqb-true, eqb-false}
use Rattle.laws.proofs.Choice.{false≢true}
use Rattle.laws.proofs.ListLaws.{left, left-none}
use Rattle.plane.proofs.RingLaws.{held-has}
use Rattle.made.specs.Made.{sum}
use Rattle.std.specs.Prelude.{Option, Some, None, is_some}
use Rattle.grid.specs.Inside.{centre-x, centre-y, is_odd, crossings, in-ring, ring-covers}
use Rattle.grid.specs.Words.{grid_side, row_words}
use Rattle.grid.specs.Cells.{ring_cells}
use Rattle.grid.specs.Trace.{Xored, RowsHold}
use Rattle.grid.proofs.OddLaws.{odd-add}
use Rattle.grid.proofs.HoldLaws.{hold-as, hold-xored, words-at, words-length}
use Rattle.grid.proofs.CellLaws.{traced-cells, traced-held}
use Rattle.mask.specs.Covers.{all-crossings, in-border, covers, all-traced, TurnedOver}

-- ---- one ring's rows

-- the first r rows are turned over, the others as they were
pub record Overing (l cells m : List ℕ) (r : ℕ) : Type 0 where
  pub within : r ≤ grid_side
  pub room : length m ≡ grid_side
  pub done : (k : ℕ) → k < r → get_or m k 0 ≡ bit_xor (get_or l k 0) (get_or cells k 0)
  pub rest : (k : ℕ) → r ≤ k → get_or m k 0 ≡ get_or l k 0

pub over-start : (l cells : List ℕ) → length l ≡ grid_side → Overing l cells l 0
over-start l cells e = record { within = omega arith; room = e; done = λ k h. absurd (let z : ⊥ = omega arith in z); rest = λ k h. refl }

module _ (l cells m : List ℕ) (r : ℕ) (i : Overing l cells m r) where
  pub over-room : r < grid_side → r < length m
  over-room h = omega (arith, i.room)

  pub over-on : r < grid_side → Overing l cells (set m r (bit_xor (get_or m r 0) (get_or cells r 0))) (r + 1)
  over-on h =
      record {
        within = omega arith;
        room = length-set m r (bit_xor (get_or m r 0) (get_or cells r 0)) ∙ i.room;
        done = λ k g. by k g (eqb k r) refl;
        rest = λ k g. get_or-set_other m r k (bit_xor (get_or m r 0) (get_or cells r 0)) 0 (λ e. let z : ⊥ = omega arith in z) ∙ i.rest k (omega arith);
      }
    where
      by : (k : ℕ) → k < r + 1 → (t : Bool) → eqb k r ≡ t → get_or (set m r (bit_xor (get_or m r 0) (get_or cells r 0))) k 0 ≡ bit_xor (get_or l k 0) (get_or cells k 0)
      by k g true q =
          let z : k ≡ r = eqb-true k r q in
          rw z (get_or-set_same m r (bit_xor (get_or m r 0) (get_or cells r 0)) 0 (over-room h) ∙ ap (λ (n : ℕ). bit_xor n (get_or cells r 0)) (i.rest r (omega arith)))
      by k g false q =
          let f : k ≡ r → ⊥ = eqb-false k r q in
          get_or-set_other m r k (bit_xor (get_or m r 0) (get_or cells r 0)) 0 f ∙ i.done k (omega (arith, f))

  pub over_done : grid_side ≤ r → length l ≡ grid_side → TurnedOver l cells m
  over_done h e = record { sized = i.room ∙ sym e; each = λ k g. i.done k (omega arith) }

-- ---- rings one behind the other

pub rings-snoc : (ps : List ℤ) (from : ℕ) (ns : List ℕ) (n : ℕ) (x y : ℤ) → all-crossings ps from (ns ++ n ∷ []) x y ≡ all-crossings ps from ns x y + crossings ps (from + sum ns) (n - 1) x y
unfolding all-crossings sum
rings-snoc ps from [] n x y = rw (add-zero from) (add-zero (crossings ps from (n - 1) x y) ∙ sym (zero-add (crossings ps from (n - 1) x y)))
rings-snoc ps from (m ∷ ns) n x y =
    ap (λ (k : ℕ). crossings ps from (m - 1) x y + k) (rings-snoc ps (from + m) ns n x y)
    ∙ sym (add_assoc (crossings ps from (m - 1) x y) (all-crossings ps (from + m) ns x y) (crossings ps (from + m + sum ns) (n - 1) x y))
    ∙ ap (λ (k : ℕ). crossings ps from (m - 1) x y + all-crossings ps (from + m) ns x y + crossings ps k (n - 1) x y) (add_assoc from m (sum ns))

sum-snoc : (ns : List ℕ) (n : ℕ) → sum (ns ++ n ∷ []) ≡ sum ns + n
unfolding sum
sum-snoc [] n = omega arith
sum-snoc (m ∷ ns) n = omega (arith, sum-snoc ns n)

-- rows that hold rings' cells, turned over by one ring more
covers_snoc : (ps : List ℤ) (ns : List ℕ) (n : ℕ) (cx cy : ℤ) (s : ℕ) (l m : List ℕ) → RowsHold (covers ps ns cx cy s) l → Xored l m (ring-covers ps (sum ns) n cx cy s)
    → RowsHold (covers ps (ns ++ n ∷ []) cx cy s) m
unfolding covers in-border ring-covers in-ring
covers_snoc ps ns n cx cy s l m g x =
    hold-as _ (covers ps (ns ++ n ∷ []) cx cy s) m (hold-xored (covers ps ns cx cy s) (ring-covers ps (sum ns) n cx cy s) l m g x)
    (λ r c. sym (ap is_odd (rings-snoc ps 0 ns n (centre-x cx s c) (centre-y cy s r)
    ∙ ap (λ (k : ℕ). all-crossings ps 0 ns (centre-x cx s c) (centre-y cy s r) + crossings ps k (n - 1) (centre-x cx s c) (centre-y cy s r)) (zero-add (sum ns)))
    ∙ odd-add (all-crossings ps 0 ns (centre-x cx s c) (centre-y cy s r)) (crossings ps (sum ns) (n - 1) (centre-x cx s c) (centre-y cy s r))))

-- island i has been reached, at vertex `at`: the rest decides, and the rows hold what the rings before it give
pub record Islanding (m : List ℕ) (ps : List ℤ) (from : ℕ) (sizes : List ℕ) (cx cy : ℤ) (s at i : ℕ) : Type 0 where
  pub within : i ≤ length sizes
  pub place : at ≡ sum (from ∷ take i sizes)
  pub traces : all-traced ps from sizes cx cy s ≡ all-traced ps at (drop i sizes) cx cy s
  pub holds : RowsHold (covers ps (from ∷ take i sizes) cx cy s) m

module _ (ps : List ℤ) (from : ℕ) (sizes : List ℕ) (cx cy : ℤ) (s : ℕ) where
  pub islands-start : (m : List ℕ) → RowsHold (ring-covers ps 0 from cx cy s) m → Islanding m ps from sizes cx cy s from 0
  unfolding sum covers in-border all-crossings ring-covers in-ring
  islands-start m h =
      record {
        within = omega arith;
        place = sym (add-zero from);
        traces = refl;
        holds = hold-as (ring-covers ps 0 from cx cy s) (covers ps (from ∷ []) cx cy s) m h (λ r c. ap is_odd (sym (add-zero (crossings ps 0 (from - 1) (centre-x cx s c) (centre-y cy s r)))));
      }

  module _ (m : List ℕ) (at i : ℕ) (q : Islanding m ps from sizes cx cy s at i) where
    pub islands-over : length sizes ≤ i → (true ≡ all-traced ps from sizes cx cy s) × RowsHold (covers ps (from ∷ sizes) cx cy s) m
    unfolding all-traced
    islands-over h = (sym (q.traces ∙ rw (left-none sizes i h)), rw (take_all i sizes h) at q.holds)

    module _ (h : i < length sizes) (n : ℕ) (e : n ≡ get_or sizes i 0) (ring : Option (List ℕ)) (er : ring ≡ ring_cells ps at n cx cy s) where
      traces-on : all-traced ps from sizes cx cy s ≡ (is_some ring && all-traced ps (at + n) (drop (i + 1) sizes) cx cy s)
      unfolding all-traced
      traces-on = q.traces ∙ rw (left sizes i 0 h, ← e, ← er)

      pub islands-off : ring ≡ None → false ≡ all-traced ps from sizes cx cy s
      islands-off t = sym (traces-on ∙ rw t)

      module _ (cells : List ℕ) (t : ring ≡ Some cells) where
        is-traced : ring_cells ps at n cx cy s ≡ Some cells
        is-traced = sym er ∙ t

        pub islands-room : 2 * (at + n) ≤ length ps
        islands-room = (held-has (length ps) at n (traced-held ps at n cx cy s cells is-traced)).2

        ring-rows : cells ≡ row_words (ring-covers ps at n cx cy s) grid_side
        ring-rows = traced-cells ps at n cx cy s cells is-traced

        pub islands-sized : length cells ≡ grid_side
        islands-sized = ap (λ (x : List ℕ). length x) ring-rows ∙ words-length (ring-covers ps at n cx cy s) grid_side

        over-xored : (m' : List ℕ) → TurnedOver m cells m' → Xored m m' (ring-covers ps at n cx cy s)
        over-xored m' x =
            record {
              sized = x.sized;
              turns = λ r g. x.each r g ∙ ap (bit_xor (get_or m r 0)) (ap (λ (y : List ℕ). get_or y r 0) ring-rows ∙ words-at (ring-covers ps at n cx cy s) grid_side r g);
            }

        pub islands-on : (m' : List ℕ) → TurnedOver m cells m' → Islanding m' ps from sizes cx cy s (at + n) (i + 1)
        islands-on m' x =
            let k : take (i + 1) sizes ≡ take i sizes ++ n ∷ [] = rw (add-one i, e) (take-suc sizes i 0 h) in
            record {
              within = omega arith;
              place = rw k (sym (sum-snoc (from ∷ take i sizes) n ∙ ap (λ (j : ℕ). j + n) (sym q.place)));
              traces = traces-on ∙ rw t;
              holds = rw k (covers_snoc ps (from ∷ take i sizes) n cx cy s m m' q.holds (rw (← q.place) (over-xored m' x)));
            }

-- ---- what the code has in hand

abbrev bits : ℤ → ℤ
bits z = to_z w64 (of_z w64 z)

module _ (ps : List ℤ) (from : ℕ) (sizes : List ℕ) (cx cy : ℤ) (s : ℕ) (f : SFits w64 cx) (g : SFits w64 cy) where
  abbrev Turned : Bool → List ℕ → Type 0
  Turned ok m = (ok ≡ all-traced ps from sizes cx cy s) × (ok ≡ true → RowsHold (covers ps (from ∷ sizes) cx cy s) m)

  pub turn-start : (m : List ℕ) → RowsHold (ring-covers ps 0 from cx cy s) m → Islanding m ps from sizes (bits cx) (bits cy) s from 0
  turn-start m h = islands-start ps from sizes (bits cx) (bits cy) s m (rw (to_z-of_z f, to_z-of_z g) h)

  module _ (m : List ℕ) (at i : ℕ) (q : Islanding m ps from sizes (bits cx) (bits cy) s at i) where
    pub turn-off : i < length sizes → (n : ℕ) → n ≡ get_or sizes i 0 → (ring : Option (List ℕ)) → ring ≡ ring_cells ps at n (bits cx) (bits cy) s → ring ≡ None → Turned false m
    turn-off h n e ring er t = (rw (to_z-of_z f, to_z-of_z g) at (islands-off ps from sizes (bits cx) (bits cy) s m at i q h n e ring er t), λ z. absurd (false≢true z))

    pub turn-all : length sizes ≤ i → Turned true m
    turn-all h = let r = islands-over ps from sizes (bits cx) (bits cy) s m at i q h in (rw (to_z-of_z f, to_z-of_z g) at r.0, λ z. rw (to_z-of_z f, to_z-of_z g) at r.1)
