-- The edges of a ring, counted in turn. Assumes nothing.
use mathlib.Core.Path.{◌≡◌, sym, ◌∙◌, ap}
use mathlib.Core.Bool.{Bool, true, false, not}
use mathlib.Core.List.{List}
use Prim.Native.Nat.{ℕ, ◌+◌, ◌-◌, ◌*◌, ◌≤◌, ◌<◌}
use native.Mathlib.Nat.{add_assoc, add-zero}
use native.Mathlib.Numerals.{add-one}
use native.Mathlib.Omega.{arith}
use lib.ListN.{length}
use lib.IntN.{ℤ}
use mir.Syntax.{w64}
use mir.Val.{SFits, to_z, of_z}
use mir.Facts.{to_z-of_z}
use borrow.Author.Tests.{not-true, not-false}
use Rattle.laws.proofs.Choice.{false≢true, and_right, and_both}
use Rattle.plane.specs.Rings.{x-at, y-at}
use Rattle.grid.specs.Inside.{one_if, is_odd, centre-x, centre-y, edge-counts, crossings, in-ring, ring-covers}
use Rattle.grid.specs.Words.{differs}
use Rattle.grid.specs.Cells.{by-corner, near-corner, near-from, laid}
use Rattle.grid.specs.Trace.{southward, RowsTo, Xored, RowsHold}
use Rattle.grid.proofs.OddLaws.{odd-add, odd-one}
use Rattle.grid.proofs.HoldLaws.{hold-as, hold-xored}
use Rattle.grid.proofs.NearLaws.{near-each, near-not}
use Rattle.grid.proofs.CheckWays.{Laid, laid-has}

-- vertex k of the ring has been reached: all up to it are near, and the rows hold what the edges before it give
pub record Ringing (m : List ℕ) (ps : List ℤ) (from count : ℕ) (cx cy : ℤ) (cell at k : ℕ) : Type 0 where
  pub within : k + 1 ≤ count
  pub held : 2 * (from + count) ≤ length ps
  pub near : near-from ps cx cy from (k + 1) ≡ true
  pub rows : RowsTo cell (southward ps cy (from + k)) at
  pub holds : RowsHold (λ r c. is_odd (crossings ps from k (centre-x cx cell c) (centre-y cy cell r))) m

module _ (ps : List ℤ) (from count : ℕ) (cx cy : ℤ) (cell : ℕ) where
  pub ring-first : 1 ≤ count → (b : Bool) → b ≡ near-corner ps cx cy from → not b ≡ true → false ≡ near-from ps cx cy from count
  ring-first h b e t = sym (near-not ps cx cy from count 0 h (rw (add-zero from) (sym e ∙ not-true b t)))

  pub ringing-start : (m : List ℕ) → 1 ≤ count → 2 * (from + count) ≤ length ps → RowsHold (λ r c. false) m → (b : Bool) → b ≡ near-corner ps cx cy from → not b ≡ false
      → (at : ℕ) → RowsTo cell (southward ps cy from) at → Ringing m ps from count cx cy cell at 0
  unfolding crossings near-from
  ringing-start m h k g b e t at r =
      record { within = h; held = k; near = rw (add-zero from) (sym e ∙ not-false b t); rows = rw (add-zero from) r; holds = g }

  module _ (m : List ℕ) (at k : ℕ) (i : Ringing m ps from count cx cy cell at k) where
    pub ring-over : count ≤ k + 1 → RowsHold (ring-covers ps from count cx cy cell) m
    unfolding ring-covers in-ring
    ring-over h =
        let e : k ≡ count - 1 = omega (arith, i.within) in
        hold-as (λ r c. is_odd (crossings ps from k (centre-x cx cell c) (centre-y cy cell r))) (ring-covers ps from count cx cy cell) m i.holds
        (λ r c. ap (λ (j : ℕ). is_odd (crossings ps from j (centre-x cx cell c) (centre-y cy cell r))) e)

    pub ring-near : count ≤ k + 1 → true ≡ near-from ps cx cy from count
    ring-near h = let e : count ≡ k + 1 = omega (arith, i.within) in rw e (sym i.near)

    pub ring-here : near-corner ps cx cy (from + k) ≡ true
    ring-here = near-each ps cx cy from (k + 1) i.near k (omega arith)

    module _ (h : k + 1 < count) (b : Bool) (e : b ≡ near-corner ps cx cy (from + k + 1)) where
      pub ring-held : 2 * (from + k + 1) + 1 < length ps
      ring-held = omega (arith, i.held)

      pub ring-far : not b ≡ true → false ≡ near-from ps cx cy from count
      ring-far t = sym (near-not ps cx cy from count (k + 1) h (rw (← add_assoc from k 1) (sym e ∙ not-true b t)))

      module _ (t : not b ≡ false) where
        pub ring-next : near-corner ps cx cy (from + k + 1) ≡ true
        ring-next = sym e ∙ not-false b t

        pub ring-by : by-corner cy (y-at ps (from + k + 1)) ≡ true
        unfolding near-corner
        ring-by = and_right (by-corner cx (x-at ps (from + k + 1))) (by-corner cy (y-at ps (from + k + 1))) ring-next

        pub ring-on : (next : ℕ) → RowsTo cell (southward ps cy (from + k + 1)) next → (m' : List ℕ) → Xored m m' (λ r c. edge-counts ps (from + k) (centre-x cx cell c) (centre-y cy cell r))
            → Ringing m' ps from count cx cy cell next (k + 1)
        unfolding crossings near-from
        ring-on next r m' x =
            record {
              within = omega arith;
              held = i.held;
              near = rw (add-one (k + 1), ← add_assoc from k 1) (and_both (near-from ps cx cy from (k + 1)) (near-corner ps cx cy (from + k + 1)) i.near ring-next);
              rows = rw (← add_assoc from k 1) r;
              holds = rw (add-one k)
                  (hold-as (λ r c. differs (is_odd (crossings ps from k (centre-x cx cell c) (centre-y cy cell r))) (edge-counts ps (from + k) (centre-x cx cell c) (centre-y cy cell r)))
                  (λ r c. is_odd (crossings ps from k (centre-x cx cell c) (centre-y cy cell r) + one_if (edge-counts ps (from + k) (centre-x cx cell c) (centre-y cy cell r)))) m'
                  (hold-xored _ _ m m' i.holds x)
                  (λ r c. sym (odd-add (crossings ps from k (centre-x cx cell c) (centre-y cy cell r)) (one_if (edge-counts ps (from + k) (centre-x cx cell c) (centre-y cy cell r)))
                  ∙ ap (differs (is_odd (crossings ps from k (centre-x cx cell c) (centre-y cy cell r)))) (odd-one (edge-counts ps (from + k) (centre-x cx cell c) (centre-y cy cell r))))));
            }

-- ---- what the code has in hand

abbrev bits : ℤ → ℤ
bits z = to_z w64 (of_z w64 z)

module _ (ps : List ℤ) (from count : ℕ) (cx cy : ℤ) (cell : ℕ) (fcx : SFits w64 cx) (fcy : SFits w64 cy) (g : laid ps from count cx cy cell ≡ true) where
  abbrev Traced : Bool → List ℕ → Type 0
  Traced ok m = (ok ≡ near-from ps cx cy from count) × (ok ≡ true → RowsHold (ring-covers ps from count cx cy cell) m)

  has : Laid ps from count cx cy cell
  has = laid-has ps from count cx cy cell g

  pub trace-first : 2 * from + 1 < length ps
  trace-first = omega (arith, has.some, has.room)

  module _ (b : Bool) (e : b ≡ near-corner ps (bits cx) (bits cy) from) where
    pub trace-none : not b ≡ true → (m : List ℕ) → Traced false m
    trace-none t m = (rw (to_z-of_z fcx, to_z-of_z fcy) at (ring-first ps from count (bits cx) (bits cy) cell has.some b e t), λ q. absurd (false≢true q))

    pub trace-near : not b ≡ false → by-corner (bits cy) (y-at ps from) ≡ true
    unfolding near-corner
    trace-near t = and_right (by-corner (bits cx) (x-at ps from)) (by-corner (bits cy) (y-at ps from)) (sym e ∙ not-false b t)

    pub trace-start : not b ≡ false → (m : List ℕ) → RowsHold (λ r c. false) m → (at : ℕ) → RowsTo cell (southward ps (bits cy) from) at → Ringing m ps from count (bits cx) (bits cy) cell at 0
    trace-start t m h at r = ringing-start ps from count (bits cx) (bits cy) cell m has.some has.room h b e t at r

  module _ (m : List ℕ) (at k : ℕ) (i : Ringing m ps from count (bits cx) (bits cy) cell at k) where
    pub trace-far : k + 1 < count → (b : Bool) → b ≡ near-corner ps (bits cx) (bits cy) (from + k + 1) → not b ≡ true → Traced false m
    trace-far h b e t = (rw (to_z-of_z fcx, to_z-of_z fcy) at (ring-far ps from count (bits cx) (bits cy) cell m at k i h b e t), λ q. absurd (false≢true q))

    pub trace-over : count ≤ k + 1 → Traced true m
    trace-over h = (rw (to_z-of_z fcx, to_z-of_z fcy) at (ring-near ps from count (bits cx) (bits cy) cell m at k i h), λ q. rw (to_z-of_z fcx, to_z-of_z fcy) at (ring-over ps from count (bits cx) (bits cy) cell m at k i h))
