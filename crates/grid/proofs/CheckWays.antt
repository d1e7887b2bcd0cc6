-- The tests before a ring is traced: a vertex near the corner, both ends of the grid. Assumes nothing.
use mathlib.Core.Path.{◌≡◌, sym, ◌∙◌, ap₂}
use mathlib.Core.Bool.{Bool, true, false, not, ◌&&◌}
use mathlib.Core.List.{List}
use Prim.Native.Nat.{ℕ, ◌+◌, ◌*◌, ◌^◌, ◌≤◌, ◌<◌}
use native.Mathlib.Omega.{arith}
use lib.Dec.{leb, lit<}
use lib.ListN.{length}
use lib.IntN.{ℤ, pos, ◌+ℤ◌, ◌-ℤ◌}
use lib.Signed.{le_z, mag}
use mir.Syntax.{w64}
use mir.Val.{SFits, to_z, of_z}
use mir.Facts.{to_z-of_z, to_z_pos}
use borrow.Author.Tests.{not-true, not-false, leb-true}
use Rattle.laws.specs.Whole.{Within}
use Rattle.laws.proofs.Choice.{and_left, and_right}
use Rattle.laws.proofs.Chains.{and-on, and-off}
use Rattle.laws.proofs.Parts.{ints, num}
use Rattle.laws.proofs.Bounds.{within-add, within-sub, within-fits}
use Rattle.laws.proofs.Bits.{back}
use Rattle.number.specs.Number.{is_real, real_least, real_most}
use Rattle.plane.specs.Rings.{x-at, y-at, held}
use Rattle.plane.proofs.RingLaws.{held-has}
use Rattle.grid.specs.Cells.{most_side, is_cell_side, grid-real, by-corner, near-corner, laid}

abbrev bits : ℤ → ℤ
bits z = to_z w64 (of_z w64 z)

real-within : (z : ℤ) → is_real z ≡ true → Within 99999999999 z
unfolding is_real
real-within z e =
    let a = and_left (le_z real_least z) (le_z z real_most) e in
    let b = and_right (le_z real_least z) (le_z z real_most) e in
    record { within = omega (arith, ints, num z) }

-- ---- a vertex near the corner

module _ (ps : List ℤ) (v : ℕ) (cx cy : ℤ) (fcx : SFits w64 cx) (fcy : SFits w64 cy) (x : ℤ) (ex : x ≡ x-at ps v) (ox : mag x < 2 ^ 63) (b : Bool) (eb : b ≡ by-corner (bits cx) (bits x)) where
  pub corner-no : b ≡ false → false ≡ near-corner ps cx cy v
  unfolding near-corner
  corner-no t = and-off (by-corner cx (x-at ps v)) (by-corner cy (y-at ps v)) (rw (to_z-of_z fcx, back x ox, ex) at (sym eb ∙ t))

  pub corner-yes : b ≡ true → (y : ℤ) → y ≡ y-at ps v → mag y < 2 ^ 63 → (r : Bool) → r ≡ by-corner (bits cy) (bits y) → r ≡ near-corner ps cx cy v
  unfolding near-corner
  corner-yes t y ey oy r er =
      and-on (by-corner cx (x-at ps v)) (by-corner cy (y-at ps v)) (rw (to_z-of_z fcx, back x ox, ex) at (sym eb ∙ t)) (rw (to_z-of_z fcy, back y oy, ey) at er)

-- ---- both ends of the grid

module _ (cx cy : ℤ) (cell : ℕ) (fcx : SFits w64 cx) (fcy : SFits w64 cy) (h : cell ≤ 10000) where
  side-reads : to_z w64 (64 * cell) ≡ pos (64 * cell)
  side-reads = to_z_pos w64 (omega arith)

  side-within : Within 640000 (pos (64 * cell))
  side-within = record { within = omega arith }

  module _ (a : Bool) (ea : a ≡ is_real (bits cx)) where
    is-a : a ≡ is_real cx
    is-a = rw (to_z-of_z fcx) at ea

    pub grid-west : not a ≡ true → false ≡ grid-real cx cy cell
    unfolding grid-real
    grid-west t = rw (sym is-a ∙ not-true a t)

    module _ (ta : not a ≡ false) (b : Bool) (eb : b ≡ is_real (bits cy)) where
      is_b : b ≡ is_real cy
      is_b = rw (to_z-of_z fcy) at eb

      yes-a : is_real cx ≡ true
      yes-a = sym is-a ∙ not-false a ta

      pub grid-north : not b ≡ true → false ≡ grid-real cx cy cell
      unfolding grid-real
      grid-north t = rw (yes-a, sym is_b ∙ not-true b t)

      module _ (tb : not b ≡ false) where
        yes-b : is_real cy ≡ true
        yes-b = sym is_b ∙ not-false b tb

        pub grid-east-fits : SFits w64 (bits cx +ℤ to_z w64 (64 * cell))
        grid-east-fits = rw (to_z-of_z fcx, side-reads) (within-fits (lit< tt) (within-add (real-within cx yes-a) side-within))

        east-reads : to_z w64 (of_z w64 (bits cx +ℤ to_z w64 (64 * cell))) ≡ cx +ℤ pos (64 * cell)
        east-reads = to_z-of_z grid-east-fits ∙ ap₂ (λ (p q : ℤ). p +ℤ q) (to_z-of_z fcx) side-reads

        pub grid-south-fits : SFits w64 (bits cy -ℤ to_z w64 (64 * cell))
        grid-south-fits = rw (to_z-of_z fcy, side-reads) (within-fits (lit< tt) (within-sub (real-within cy yes-b) side-within))

        south-reads : to_z w64 (of_z w64 (bits cy -ℤ to_z w64 (64 * cell))) ≡ cy -ℤ pos (64 * cell)
        south-reads = to_z-of_z grid-south-fits ∙ ap₂ (λ (p q : ℤ). p -ℤ q) (to_z-of_z fcy) side-reads

        module _ (d : Bool) (ed : d ≡ is_real (to_z w64 (of_z w64 (bits cx +ℤ to_z w64 (64 * cell))))) where
          is-d : d ≡ is_real (cx +ℤ pos (64 * cell))
          is-d = rw east-reads at ed

          pub grid-east : not d ≡ true → false ≡ grid-real cx cy cell
          unfolding grid-real
          grid-east t = rw (yes-a, yes-b, sym is-d ∙ not-true d t)

          pub grid-south : not d ≡ false → (r : Bool) → r ≡ is_real (to_z w64 (of_z w64 (bits cy -ℤ to_z w64 (64 * cell)))) → r ≡ grid-real cx cy cell
          unfolding grid-real
          grid-south t r er = rw (yes-a, yes-b, sym is-d ∙ not-false d t) (rw south-reads at er)

-- ---- all three

-- what a ring that is laid on a grid has
pub record Laid (ps : List ℤ) (from n : ℕ) (cx cy : ℤ) (cell : ℕ) : Type 0 where
  pub low : 0 < cell
  pub high : cell ≤ most_side
  pub some : 1 ≤ n
  pub room : 2 * (from + n) ≤ length ps
  pub real-x : is_real cx ≡ true
  pub real-y : is_real cy ≡ true

module _ (ps : List ℤ) (from n : ℕ) (cx cy : ℤ) (cell : ℕ) where
  pub laid-has : laid ps from n cx cy cell ≡ true → Laid ps from n cx cy cell
  unfolding laid is_cell_side grid-real
  laid-has e =
      let a = and_left (leb 1 cell && leb cell most_side) (held (length ps) from n && grid-real cx cy cell) e in
      let b = and_right (leb 1 cell && leb cell most_side) (held (length ps) from n && grid-real cx cy cell) e in
      let h = held-has (length ps) from n (and_left (held (length ps) from n) (grid-real cx cy cell) b) in
      let g = and_right (held (length ps) from n) (grid-real cx cy cell) b in
      let y = and_right (is_real cx) (is_real cy && (is_real (cx +ℤ pos (64 * cell)) && is_real (cy -ℤ pos (64 * cell)))) g in
      record {
        low = leb-true 1 cell (and_left (leb 1 cell) (leb cell most_side) a);
        high = leb-true cell most_side (and_right (leb 1 cell) (leb cell most_side) a);
        some = h.0;
        room = h.2;
        real-x = and_left (is_real cx) (is_real cy && (is_real (cx +ℤ pos (64 * cell)) && is_real (cy -ℤ pos (64 * cell)))) g;
        real-y = and_left (is_real cy) (is_real (cx +ℤ pos (64 * cell)) && is_real (cy -ℤ pos (64 * cell))) y;
      }
