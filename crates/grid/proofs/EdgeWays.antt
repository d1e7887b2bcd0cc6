-- One edge of a ring: between rows that lie no further south than its ends, it turns over the cells that the rule gives. Assumes nothing.
use mathlib.Core.Path.{◌≡◌, refl, sym, ◌∙◌, ap}
use mathlib.Core.Bool.{Bool, true, false, ◌&&◌}
use mathlib.Core.List.{List}
use Prim.Native.Nat.{ℕ, ◌+◌, ◌^◌, ◌<◌}
use native.Mathlib.Omega.{arith}
use lib.Dec.{lit<}
use lib.ListN.{get_or}
use lib.Bits.{bit_xor}
use lib.IntN.{ℤ, pos, nat_abs, ◌+ℤ◌, ◌-ℤ◌}
use lib.Signed.{lt_z, le_z, mag}
use mir.Syntax.{w64}
use mir.Val.{SFits, to_z, of_z}
use mir.Facts.{to_z-of_z}
use borrow.Author.Tests.{leb-true, lt-ltb, le-ltb}
use Rattle.laws.specs.Whole.{Within}
use Rattle.laws.proofs.Choice.{and_left, and_right}
use Rattle.laws.proofs.Parts.{num, diff, lt_yes, lt-true, lt-false, le_yes, le-no, le_not_lt}
use Rattle.laws.proofs.Bounds.{within-add}
use Rattle.laws.proofs.Bits.{back, diff-bits, ask-diff, holds-diff, ask-add, holds-add}
use Rattle.plane.specs.Rings.{x-at, y-at}
use Rattle.grid.specs.Inside.{twice, centre_at, centre-x, centre-y, edge-counts}
use Rattle.grid.specs.Words.{grid_side}
use Rattle.grid.specs.Cells.{farthest, by-corner, near-corner}
use Rattle.grid.specs.Trace.{eastward, southward, RowsTo, west-of-edge, Xored}
use Rattle.grid.proofs.CornerLaws.{counts-corner, counts-down, counts_up}
use Rattle.grid.proofs.WordLaws.{word_same}
use Rattle.grid.proofs.SpanWays.{xor-none}

-- ---- how far a number lies from the corner's

pub by-within : (c z : ℤ) → by-corner c z ≡ true → Within farthest (z -ℤ c)
unfolding by-corner
by-within c z e = record { within = leb-true (nat_abs (z -ℤ c)) farthest e }

by-other : (c z : ℤ) → by-corner c z ≡ by-corner z c
unfolding by-corner
by-other c z =
    let e : nat_abs (z -ℤ c) ≡ nat_abs (c -ℤ z) = omega (arith, num c, num z, diff c z, diff z c) in
    rw e

twice-within : (c z : ℤ) → by-corner c z ≡ true → Within 80000000 (twice (z -ℤ c))
twice-within c z e = within-add (by-within c z e) (by-within c z e)

module _ (a b : ℤ) (fa : SFits w64 a) (fb : SFits w64 b) (e : by-corner a b ≡ true) where
  pub past_fits : SFits w64 (to_z w64 (of_z w64 b) -ℤ to_z w64 (of_z w64 a))
  past_fits = ask-diff b a fb.sfits fa.sfits (lit< tt) (by-within a b e)

  pub past-twice : SFits w64 (to_z w64 (diff-bits b a) +ℤ to_z w64 (diff-bits b a))
  past-twice = let h = holds-diff b a fb.sfits fa.sfits (lit< tt) (by-within a b e) in ask-add h h (lit< tt)

  pub past_is : to_z w64 (of_z w64 (to_z w64 (diff-bits b a) +ℤ to_z w64 (diff-bits b a))) ≡ twice (b -ℤ a)
  past_is = let h = holds-diff b a fb.sfits fa.sfits (lit< tt) (by-within a b e) in (holds-add h h (lit< tt)).reads

-- ---- the results of calls, read back from locals

abbrev bits : ℤ → ℤ
bits z = to_z w64 (of_z w64 z)

module _ (a b z : ℤ) (f : SFits w64 a) (e : z ≡ b) (ok : mag z < 2 ^ 63) where
  pub read_by : by-corner a b ≡ true → by-corner (bits a) (bits z) ≡ true
  read_by n = rw (to_z-of_z f, back z ok, e) n

  pub read-by-up : by-corner a b ≡ true → by-corner (bits z) (bits a) ≡ true
  read-by-up n = rw (to_z-of_z f, back z ok, e) (sym (by-other a b) ∙ n)

  pub east-is : (r : ℤ) → mag r < 2 ^ 63 → r ≡ twice (bits z -ℤ bits a) → bits r ≡ twice (b -ℤ a)
  east-is r h q = back r h ∙ (rw (to_z-of_z f, back z ok, e) at q)

  pub south-is : (r : ℤ) → mag r < 2 ^ 63 → r ≡ twice (bits a -ℤ bits z) → bits r ≡ twice (a -ℤ b)
  south-is r h q = back r h ∙ (rw (to_z-of_z f, back z ok, e) at q)

-- the height of a vertex, and the rows to it
module _ (ps : List ℤ) (cy : ℤ) (f : SFits w64 cy) (v : ℕ) (z : ℤ) (e : z ≡ southward ps (bits cy) v) (ok : mag z < 2 ^ 63) where
  pub south-within : by-corner cy (y-at ps v) ≡ true → Within 80000000 (bits z)
  south-within n = rw (back z ok, e, to_z-of_z f) (twice-within (y-at ps v) cy (sym (by-other cy (y-at ps v)) ∙ n))

  pub south-rows : (cell k : ℕ) → RowsTo cell (southward ps cy v) k → RowsTo cell (bits z) k
  south-rows cell k r = rw (back z ok, e, to_z-of_z f) r

  pub rows-south : (cell k : ℕ) → RowsTo cell (bits z) k → RowsTo cell (southward ps cy v) k
  rows-south cell k r = rw (back z ok, e, to_z-of_z f) at r

module _ (ps : List ℤ) (cx cy : ℤ) (fcx : SFits w64 cx) (fcy : SFits w64 cy) (v : ℕ) (n : near-corner ps cx cy v ≡ true) where
  pub near-x : by-corner (bits cx) (x-at ps v) ≡ true
  unfolding near-corner
  near-x = rw (to_z-of_z fcx) (and_left (by-corner cx (x-at ps v)) (by-corner cy (y-at ps v)) n)

  pub near-y : by-corner (bits cy) (y-at ps v) ≡ true
  unfolding near-corner
  near-y = rw (to_z-of_z fcy) (and_right (by-corner cx (x-at ps v)) (by-corner cy (y-at ps v)) n)

  pub east-within : (z : ℤ) → z ≡ eastward ps (bits cx) v → mag z < 2 ^ 63 → Within 80000000 (bits z)
  east-within z e ok = rw (back z ok, e) (twice-within (bits cx) (x-at ps v) near-x)

  pub by-north : by-corner cy (y-at ps v) ≡ true
  unfolding near-corner
  by-north = and_right (by-corner cx (x-at ps v)) (by-corner cy (y-at ps v)) n

pub down-done : (ps : List ℤ) (cx cy : ℤ) → SFits w64 cx → SFits w64 cy → (n s cell : ℕ) (nx nv sx sv : ℤ) → nx ≡ eastward ps (bits cx) n → nv ≡ southward ps (bits cy) n
    → sx ≡ eastward ps (bits cx) s → sv ≡ southward ps (bits cy) s → mag nx < 2 ^ 63 → mag nv < 2 ^ 63 → mag sx < 2 ^ 63 → mag sv < 2 ^ 63 → (l m : List ℕ)
    → Xored l m (west-of-edge (bits nx) (bits nv) (bits sx) (bits sv) cell)
    → Xored l m (west-of-edge (eastward ps cx n) (southward ps cy n) (eastward ps cx s) (southward ps cy s) cell)
down-done ps cx cy fcx fcy n s cell nx nv sx sv enx env esx esv onx onv osx osv l m x =
    rw (back nx onx, back nv onv, back sx osx, back sv osv, enx, env, esx, esv, to_z-of_z fcx, to_z-of_z fcy) at x

-- ---- the edge's own cells

-- the same cells turned over, said otherwise
xored-as : (l m : List ℕ) (p q : ℕ → ℕ → Bool) → Xored l m p → ((r c : ℕ) → r < grid_side → p r c ≡ q r c) → Xored l m q
xored-as l m p q x h = record { sized = x.sized; turns = λ r g. x.turns r g ∙ ap (bit_xor (get_or l r 0)) (word_same (p r) (q r) grid_side (λ c j. h r c g)) }

-- fewer rows lie north of the first height than of the second
rows_apart : (cell : ℕ) (u v : ℤ) (a b : ℕ) → RowsTo cell u a → RowsTo cell v b → a < b → lt_z u v ≡ true
rows_apart cell u v a b p q h =
    let g : a < grid_side = omega (arith, q.most) in
    lt-true u v
    (omega (arith, le-no (pos (centre_at cell a)) u (p.splits a g ∙ le-ltb a a (omega arith)), le_yes (pos (centre_at cell a)) v (q.splits a g ∙ lt-ltb a b h)))

rows-not : (cell : ℕ) (u v : ℤ) (a b : ℕ) → RowsTo cell u a → RowsTo cell v b → b < a → lt_z u v ≡ false
rows-not cell u v a b p q h = lt-false u v (omega (arith, lt_yes v u (rows_apart cell v u b a q p h)))

-- no row lies between heights that as many rows lie north of
no_row : (cell : ℕ) (u v : ℤ) (a : ℕ) → RowsTo cell u a → RowsTo cell v a → (r : ℕ) → r < grid_side → (lt_z u (pos (centre_at cell r)) && le_z (pos (centre_at cell r)) v) ≡ false
no_row cell u v a p q r g = go (lt_z u (pos (centre_at cell r))) refl
  where
    go : (t : Bool) → lt_z u (pos (centre_at cell r)) ≡ t → (t && le_z (pos (centre_at cell r)) v) ≡ false
    go true e = q.splits r g ∙ sym (p.splits r g) ∙ le_not_lt (pos (centre_at cell r)) u true e
    go false e = refl

module _ (ps : List ℤ) (cx cy : ℤ) (fcx : SFits w64 cx) (fcy : SFits w64 cy) where
  pub edge-near : (v : ℕ) → near-corner ps cx cy v ≡ true → near-corner ps (bits cx) (bits cy) v ≡ true
  edge-near v n = rw (to_z-of_z fcx, to_z-of_z fcy) n

pub edge-rows : (ps : List ℤ) (cy : ℤ) → SFits w64 cy → (v cell k : ℕ) → RowsTo cell (southward ps cy v) k → RowsTo cell (southward ps (bits cy) v) k
edge-rows ps cy f v cell k r = rw (to_z-of_z f) r

module _ (ps : List ℤ) (v : ℕ) (cx cy : ℤ) (cell at next : ℕ) (l m : List ℕ) (fcx : SFits w64 cx) (fcy : SFits w64 cy) (a : RowsTo cell (southward ps cy v) at) (b : RowsTo cell (southward ps cy (v + 1)) next) where
  abbrev p : ℕ → ℕ → Bool
  p r c = edge-counts ps v (centre-x cx cell c) (centre-y cy cell r)

  pub edge-down : at < next → Xored l m (west-of-edge (eastward ps (bits cx) v) (southward ps (bits cy) v) (eastward ps (bits cx) (v + 1)) (southward ps (bits cy) (v + 1)) cell) → Xored l m p
  unfolding edge-counts
  edge-down h x =
      xored-as l m _ p (rw (to_z-of_z fcx, to_z-of_z fcy) at x) (λ r c g. counts-down cx cy (x-at ps v) (y-at ps v) (x-at ps (v + 1)) (y-at ps (v + 1)) cell r c (rows_apart cell (southward ps cy v) (southward ps cy (v + 1)) at next a b h))

  pub edge-up : next < at → Xored l m (west-of-edge (eastward ps (bits cx) (v + 1)) (southward ps (bits cy) (v + 1)) (eastward ps (bits cx) v) (southward ps (bits cy) v) cell) → Xored l m p
  unfolding edge-counts
  edge-up h x =
      xored-as l m _ p (rw (to_z-of_z fcx, to_z-of_z fcy) at x) (λ r c g. counts_up cx cy (x-at ps v) (y-at ps v) (x-at ps (v + 1)) (y-at ps (v + 1)) cell r c (rows-not cell (southward ps cy v) (southward ps cy (v + 1)) at next a b h))

  pub edge-level : at ≡ next → Xored l l p
  unfolding edge-counts
  edge-level e =
      record {
        sized = refl;
        turns = λ r g. sym (xor-none (get_or l r 0) (p r) (λ c. counts-corner cx cy (x-at ps v) (y-at ps v) (x-at ps (v + 1)) (y-at ps (v + 1)) cell r c
            ∙ rw (no_row cell (southward ps cy v) (southward ps cy (v + 1)) at a (rw e b) r g, no_row cell (southward ps cy (v + 1)) (southward ps cy v) at (rw e b) a r g)));
      }
