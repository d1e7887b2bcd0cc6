-- The ways through the question for a mask, each with what the code has in hand there. Assumes nothing.
use mathlib.Core.Path.{◌≡◌, refl, sym, ◌∙◌, ap, ap₂}
use mathlib.Core.Bool.{Bool, true, false, not, ◌&&◌}
use mathlib.Core.List.{List, [], ◌∷◌}
use Prim.Native.Nat.{ℕ, ◌+◌, ◌-◌}
use native.Mathlib.Nat.{add_assoc, add-zero, zero-add}
use native.Mathlib.Omega.{arith}
use lib.ListN.{length, get_or, take}
use lib.IntN.{ℤ}
use mir.Syntax.{w64}
use mir.Val.{SFits, to_z, of_z}
use mir.Facts.{to_z-of_z}
use borrow.Author.Tests.{not-true, not-false, eq-eqb, ne_eqb}
use Rattle.std.specs.Prelude.{Option, Some, None, is_some, Result, Ok, Err}
use Rattle.plane.specs.declared.NoArea.{NoArea}
use Rattle.plane.specs.declared.NoArea.TheVariants.{Wide as AnyWide, Missing as AnyMissing}
use Rattle.kinds.specs.Kinds.{islands_place, vertices_place}
use Rattle.heading.specs.declared.Header.{Header}
use Rattle.sheet.specs.Tables.{Tables}
use Rattle.plane.proofs.RingLaws.{held-has}
use Rattle.made.specs.declared.Flaw.{Flaw}
use Rattle.made.specs.Made.{sum, ring_sizes, nat_of, count_at, kind_of}
use Rattle.row.specs.declared.Stand.{Stand}
use Rattle.row.specs.declared.Unfound.{Unfound}
use Rattle.row.specs.declared.Unfound.TheVariants.{Missing as NoRow, Refused as NoSheet}
use Rattle.row.specs.Walk.{left_at}
use Rattle.row.specs.Seek.{sought_of}
use Rattle.area.specs.declared.Areas.{Areas}
use Rattle.area.specs.BorderRings.{areas_of}
use Rattle.area.proofs.AreaLaws.{AllHeld, areas-held}
use Rattle.grid.specs.Inside.{ring-covers}
use Rattle.grid.specs.Words.{grid_side, row_words, all_cells_set, set_bits}
use Rattle.grid.specs.Cells.{is_cell_side, grid-real, near-from, ring_cells}
use Rattle.grid.specs.Trace.{RowsHold}
use Rattle.grid.proofs.WordLaws.{words-set}
use Rattle.grid.proofs.HoldLaws.{hold-words, words-at, words-length}
use Rattle.grid.proofs.NearLaws.{near-split}
use Rattle.grid.proofs.CellLaws.{traced-where, traced-cells}
use Rattle.mask.specs.declared.Unmasked.TheVariants.{BadSide, Wide, OffGrid, Missing, Refused}
use Rattle.mask.specs.declared.Mask.{Mask}
use Rattle.mask.specs.Covers.{covers, all-traced}
use Rattle.mask.specs.Width.{widths_of}
use Rattle.mask.proofs.WidthWays.{has-areas}
use Rattle.mask.specs.Masks.{undrawn, mask_after, border_mask, mask_of, mask_of_row, mask_at}

abbrev bits : ℤ → ℤ
bits z = to_z w64 (of_z w64 z)

-- ---- a border's rings, drawn

module _ (v : ℕ) (islands : List ℕ) (ps : List ℤ) (cx cy : ℤ) (s : ℕ) (f : SFits w64 cx) (g : SFits w64 cy) (n : ℕ) (e : n ≡ v - sum islands)
    (pre : all-traced ps 0 (ring_sizes v islands) cx cy s ≡ (grid-real cx cy s && near-from ps cx cy 0 v)) (outer : Option (List ℕ)) (eo : outer ≡ ring_cells ps 0 n (bits cx) (bits cy) s) where
  where-traced : (is_some outer && all-traced ps n islands (bits cx) (bits cy) s) ≡ (grid-real cx cy s && near-from ps cx cy 0 v)
  unfolding all-traced ring_sizes
  where-traced = rw (eo, to_z-of_z f, to_z-of_z g, e) (rw (zero-add (v - sum islands)) at pre)

  pub border-off : outer ≡ None → (r : Mask) → r ≡ undrawn OffGrid → r ≡ border_mask v islands ps cx cy s
  unfolding border_mask
  border-off t r q = rw (sym where-traced, t) q

  module _ (cells : List ℕ) (t : outer ≡ Some cells) where
    pub border-outer : RowsHold (ring-covers ps 0 n (bits cx) (bits cy) s) cells
    border-outer =
        let q : cells ≡ row_words (ring-covers ps 0 n (bits cx) (bits cy) s) grid_side = traced-cells ps 0 n (bits cx) (bits cy) s cells (sym eo ∙ t) in
        record {
          sized = ap (λ (x : List ℕ). length x) q ∙ words-length (ring-covers ps 0 n (bits cx) (bits cy) s) grid_side;
          each = λ r h. ap (λ (x : List ℕ). get_or x r 0) q ∙ words-at (ring-covers ps 0 n (bits cx) (bits cy) s) grid_side r h;
        }

    module _ (b : Bool) (eb : b ≡ all-traced ps n islands (bits cx) (bits cy) s) where
      pub border-far : not b ≡ true → (r : Mask) → r ≡ undrawn OffGrid → r ≡ border_mask v islands ps cx cy s
      unfolding border_mask
      border-far u r q = rw (sym where-traced, t, sym eb ∙ not-true b u) q

      pub border-drawn : not b ≡ false → (rows : List ℕ) → (b ≡ true → RowsHold (covers ps (n ∷ islands) (bits cx) (bits cy) s) rows) → (k : ℕ) → k ≡ set_bits rows
          → ◌≡◌ {A = Mask} (record { answer = Ok k; rows = rows }) (border_mask v islands ps cx cy s)
      unfolding border_mask ring_sizes
      border-drawn u rows h k q =
          let d : rows ≡ row_words (covers ps ((v - sum islands) ∷ islands) cx cy s) grid_side = hold-words (covers ps ((v - sum islands) ∷ islands) cx cy s) rows (rw (to_z-of_z f, to_z-of_z g, e) at (h (not-false b u))) in
          let j : k ≡ all_cells_set (covers ps ((v - sum islands) ∷ islands) cx cy s) grid_side = q ∙ ap set_bits d ∙ words-set (covers ps ((v - sum islands) ∷ islands) cx cy s) grid_side in
          rw (sym where-traced, t, sym eb ∙ not-false b u) (ap₂ (λ (x : ℕ) (y : List ℕ). record { answer = Ok x; rows = y }) j d)

-- ---- when they are traced

and-merge : (g a b r : Bool) → ((g && a) && ((g && b) && r)) ≡ ((g && (a && b)) && r)
and-merge true true b r = refl
and-merge true false b r = refl
and-merge false a b r = refl

and-true : (a : Bool) → (a && true) ≡ a
and-true true = refl
and-true false = refl

module _ (ps : List ℤ) (cx cy : ℤ) (s : ℕ) (c : is_cell_side s ≡ true) where
  -- rings from vertex `from` on, all those before it being near
  rest-traced : (from : ℕ) (ns : List ℕ) → AllHeld ps from ns
      → ((grid-real cx cy s && near-from ps cx cy 0 from) && all-traced ps from ns cx cy s) ≡ (grid-real cx cy s && near-from ps cx cy 0 (from + sum ns))
  unfolding all-traced sum
  rest-traced from [] h = rw (add-zero from) (and-true (grid-real cx cy s && near-from ps cx cy 0 from))
  rest-traced from (n ∷ ns) h =
      let z : near-from ps cx cy 0 (from + n) ≡ (near-from ps cx cy 0 from && near-from ps cx cy from n) = near-split ps cx cy 0 from n ∙ rw (zero-add from) in
      rw (traced-where ps from n cx cy s c h.0) (and-merge (grid-real cx cy s) (near-from ps cx cy 0 from) (near-from ps cx cy from n) (all-traced ps (from + n) ns cx cy s)
      ∙ ap (λ (b : Bool). (grid-real cx cy s && b) && all-traced ps (from + n) ns cx cy s) (sym z) ∙ rest-traced (from + n) ns h.1
      ∙ ap (λ (k : ℕ). grid-real cx cy s && near-from ps cx cy 0 k) (add_assoc from n (sum ns)))

  border-traced : (v : ℕ) (islands : List ℕ) → AllHeld ps 0 ((v - sum islands) ∷ islands) → all-traced ps 0 (ring_sizes v islands) cx cy s ≡ (grid-real cx cy s && near-from ps cx cy 0 v)
  unfolding all-traced ring_sizes
  border-traced v islands h =
      let o = (held-has (length ps) 0 (v - sum islands) h.0).0 in
      let z : v - sum islands + sum islands ≡ v = omega arith in
      rw (traced-where ps 0 (v - sum islands) cx cy s c h.0, zero-add (v - sum islands))
      (rest-traced (v - sum islands) islands (rw (zero-add (v - sum islands)) at h.1) ∙ ap (λ (k : ℕ). grid-real cx cy s && near-from ps cx cy 0 k) z)

-- ---- a border

after-fine : (m : Mask) (x : Result Areas NoArea) → widths_of x ≡ Ok tt → m ≡ mask_after m x
after-fine m x e = has-areas x e (m ≡ mask_after m x) (λ a q. rw q)

after-refused : (m : Mask) (x : Result Areas NoArea) (r : NoArea) → widths_of x ≡ Err r → mask_after m (Err r) ≡ mask_after m x
after-refused m (Ok a) r e = absurd cc
after-refused m (Err f) r e = let z : r ≡ f = cc in rw z

module _ (v : ℕ) (islands : List ℕ) (ps : List ℤ) (cx cy : ℤ) (s : ℕ) where
  pub side-off : is_cell_side s ≡ false → (r : Mask) → r ≡ undrawn BadSide → r ≡ mask_of v islands ps cx cy s
  unfolding mask_of
  side-off h r e = rw h e

  module _ (is-side : is_cell_side s ≡ true) (x : Result Unit NoArea) (ex : x ≡ widths_of (areas_of v islands ps)) where
    pub mask-missing : x ≡ Err AnyMissing → (r : Mask) → r ≡ undrawn Missing → r ≡ mask_of v islands ps cx cy s
    unfolding mask_of
    mask-missing m r e = rw is-side (e ∙ after-refused (border_mask v islands ps cx cy s) (areas_of v islands ps) AnyMissing (sym ex ∙ m))

    pub mask-wide : x ≡ Err AnyWide → (r : Mask) → r ≡ undrawn Wide → r ≡ mask_of v islands ps cx cy s
    unfolding mask_of
    mask-wide m r e = rw is-side (e ∙ after-refused (border_mask v islands ps cx cy s) (areas_of v islands ps) AnyWide (sym ex ∙ m))

    module _ (m : x ≡ Ok tt) where
      pub mask-asks : (bx by : ℤ) → all-traced ps 0 (ring_sizes v islands) bx by s ≡ (grid-real bx by s && near-from ps bx by 0 v)
      mask-asks bx by =
          has-areas (areas_of v islands ps) (sym ex ∙ m) (all-traced ps 0 (ring_sizes v islands) bx by s ≡ (grid-real bx by s && near-from ps bx by 0 v))
          (λ a q. border-traced ps bx by s is-side v islands (areas-held v islands ps a.outer a.inner q))

      pub mask-drawn : SFits w64 cx → SFits w64 cy → (r : Mask) → r ≡ border_mask v islands ps (bits cx) (bits cy) s → r ≡ mask_of v islands ps cx cy s
      unfolding mask_of
      mask-drawn f g r e = rw is-side ((rw (to_z-of_z f, to_z-of_z g) at e) ∙ after-fine (border_mask v islands ps cx cy s) (areas_of v islands ps) (sym ex ∙ m))

-- ---- the first row

module _ (t : Tables) (cx cy : ℤ) (s kind : ℕ) (k : kind ≡ kind_of t) where
  pub row-no-border : (kind ≡ 1 → ⊥) → (r : Mask) → r ≡ undrawn Missing → r ≡ mask_of_row t cx cy s
  unfolding mask_of_row
  row-no-border n r e = rw (← k, ne_eqb kind 1 n) e

  pub row-mask : kind ≡ 1 → (i v : ℕ) → i ≡ count_at t islands_place → v ≡ count_at t vertices_place → SFits w64 cx → SFits w64 cy
      → (r : Mask) → r ≡ mask_of v (take i t.islands) t.points (bits cx) (bits cy) s → r ≡ mask_of_row t cx cy s
  unfolding mask_of_row
  row-mask b i v p q f g r e = rw (← k, eq-eqb kind 1 b, ← p, ← q) (rw (to_z-of_z f, to_z-of_z g) at e)

-- ---- a row of the sheet

module _ (h : Header) (count : ℕ) (t : Tables) (k : ℕ) (cx cy side : ℤ) (s : Result Stand Unfound) (e : s ≡ sought_of h count t k) where
  pub at-refused : (f : Flaw) → s ≡ Err (NoSheet f) → (r : Mask) → r ≡ undrawn (Refused f) → r ≡ mask_at h count t k cx cy side
  unfolding mask_at
  at-refused v f r q = rw (← e, f) q

  pub at-no-row : s ≡ Err NoRow → (r : Mask) → r ≡ undrawn Missing → r ≡ mask_at h count t k cx cy side
  unfolding mask_at
  at-no-row f r q = rw (← e, f) q

  pub at-found : SFits w64 cx → SFits w64 cy → SFits w64 side → (d : Stand) → s ≡ Ok d → (n : ℕ) → n ≡ nat_of (bits side)
      → (l : Tables) → l ≡ left_at t d → (r : Mask) → r ≡ mask_of_row l (bits cx) (bits cy) n → r ≡ mask_at h count t k cx cy side
  unfolding mask_at
  at-found u w z d f n en l el r q = rw (← e, f) (rw (en, to_z-of_z z, to_z-of_z u, to_z-of_z w, el) at q)
