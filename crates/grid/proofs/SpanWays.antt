-- One edge, row by row: the rows between its ends are turned over once each. Assumes nothing.
use mathlib.Core.Path.{◌≡◌, refl, sym, ◌∙◌, ap, ap₂}
use mathlib.Core.Bool.{Bool, true, false, ◌&&◌}
use mathlib.Core.List.{List}
use Prim.Native.Nat.{ℕ, ◌+◌, ◌*◌, ◌^◌, ◌≤◌, ◌<◌}
use native.Mathlib.Nat.{mul-le-mul}
use native.Mathlib.Omega.{arith}
use lib.Dec.{ltb, eqb, lit<, lit≤}
use lib.ListN.{length, get_or, set, length-set}
use lib.Seq.{get_or-set_same, get_or-set_other}
use lib.Bits.{bit_xor, xor_zero_r}
use lib.IntN.{ℤ, pos, ◌+ℤ◌}
use lib.Signed.{lt_z, le_z, mag}
use mir.Syntax.{w64}
use mir.Val.{SFits, to_z, of_z}
use mir.Facts.{to_z-of_z}
use borrow.Author.Tests.{lt-ltb, le-ltb, ltb-true, ltb-false, eqb-true, eqb-false}
use Rattle.laws.specs.Whole.{Within}
use Rattle.laws.proofs.Parts.{ints, num, sum, lt-true, lt-false, le_yes, le-no}
use Rattle.laws.proofs.Bounds.{within-add, within-le, within-lit, within-fits}
use Rattle.laws.proofs.Bits.{back}
use Rattle.grid.specs.Inside.{centre_at}
use Rattle.grid.specs.Words.{grid_side, row_word}
use Rattle.grid.specs.Trace.{CentresBefore, RowsTo, east-from, west-of-edge, Xored}
use Rattle.grid.proofs.WordLaws.{word_same, word_none}

-- ---- rows to a height

le_next : (n : ℕ) (v : ℤ) → lt_z (pos n) (v +ℤ pos 1) ≡ le_z (pos n) v
le_next n v = go (le_z (pos n) v) refl
  where
    go : (t : Bool) → le_z (pos n) v ≡ t → lt_z (pos n) (v +ℤ pos 1) ≡ t
    go true e = lt-true (pos n) (v +ℤ pos 1) (omega (arith, ints, num v, sum v (pos 1)))
    go false e = lt-false (pos n) (v +ℤ pos 1) (omega (arith, ints, num v, sum v (pos 1)))

module _ (cell : ℕ) (v : ℤ) (f : SFits w64 v) (w : Within 80000000 v) where
  next-within : Within 80000001 (v +ℤ pos 1)
  next-within = within-add {n = 1} {b = pos 1} w (within-lit tt)

  pub next_fits : SFits w64 (to_z w64 (of_z w64 v) +ℤ pos 1)
  next_fits = rw (to_z-of_z f) (within-fits (lit< tt) next-within)

  next-reads : to_z w64 (of_z w64 (to_z w64 (of_z w64 v) +ℤ pos 1)) ≡ v +ℤ pos 1
  next-reads = to_z-of_z next_fits ∙ ap (λ (z : ℤ). z +ℤ pos 1) (to_z-of_z f)

  pub next-asks : 0 < cell → cell ≤ 10000 → (0 < cell) × (cell ≤ 1600000000000) × Within 4611686018427387903 (to_z w64 (of_z w64 (to_z w64 (of_z w64 v) +ℤ pos 1)))
  next-asks h k = rw next-reads (h, omega arith, within-le (lit≤ tt) next-within)

  pub next-upto : (k : ℕ) → CentresBefore cell (to_z w64 (of_z w64 (to_z w64 (of_z w64 v) +ℤ pos 1))) k → RowsTo cell v k
  next-upto k b = let d : CentresBefore cell (v +ℤ pos 1) k = rw next-reads at b in record { most = d.most; splits = λ r h. sym (le_next (centre_at cell r) v) ∙ d.splits r h }

-- ---- the loop over the rows

pub record Turning (l m : List ℕ) (nx nv sx sv : ℤ) (cell stop r : ℕ) : Type 0 where
  pub room : length l ≡ grid_side
  pub sized : length m ≡ length l
  pub south : (k : ℕ) → r ≤ k → k < grid_side → lt_z nv (pos (centre_at cell k)) ≡ true
  pub north : RowsTo cell sv stop
  pub done : (k : ℕ) → k < grid_side → get_or m k 0 ≡ bit_xor (get_or l k 0) (row_word (λ c. ltb k r && west-of-edge nx nv sx sv cell k c) grid_side)

pub xor-none : (a : ℕ) (p : ℕ → Bool) → ((c : ℕ) → p c ≡ false) → bit_xor a (row_word p grid_side) ≡ a
xor-none a p h = ap (bit_xor a) (word_same p (λ c. false) grid_side (λ c l. h c) ∙ word_none grid_side) ∙ xor_zero_r a

same-side : (k r : ℕ) → (k ≡ r → ⊥) → ltb k r ≡ ltb k (r + 1)
same-side k r f = go (ltb k r) refl
  where
    go : (t : Bool) → ltb k r ≡ t → t ≡ ltb k (r + 1)
    go true q = sym (lt-ltb k (r + 1) (omega (arith, ltb-true k r q)))
    go false q = sym (le-ltb k (r + 1) (omega (arith, ltb-false k r q, f)))

module _ (nx nv sx sv : ℤ) (cell : ℕ) where
  abbrev at : ℕ → ℤ
  at k = pos (centre_at cell k)

  below-north : (a k : ℕ) → RowsTo cell nv a → k < grid_side → ltb k a ≡ true → lt_z nv (at k) ≡ false
  below-north a k u h e = lt-false nv (at k) (omega (arith, ints, le_yes (at k) nv (u.splits k h ∙ e)))

  above-north : (a k : ℕ) → RowsTo cell nv a → a ≤ k → k < grid_side → lt_z nv (at k) ≡ true
  above-north a k u h l = lt-true nv (at k) (omega (arith, ints, le-no (at k) nv (u.splits k l ∙ le-ltb k a h)))

  no-pass : (k c : ℕ) → lt_z nv (at k) ≡ false → west-of-edge nx nv sx sv cell k c ≡ false
  unfolding west-of-edge
  no-pass k c e = rw e

  no-pass-south : (k c : ℕ) → lt_z nv (at k) ≡ true → le_z (at k) sv ≡ false → west-of-edge nx nv sx sv cell k c ≡ false
  unfolding west-of-edge
  no-pass-south k c e f = rw (e, f)

  pass-east : (k c : ℕ) → lt_z nv (at k) ≡ true → le_z (at k) sv ≡ true → west-of-edge nx nv sx sv cell k c ≡ east-from nx nv sx sv (at k) (at c)
  unfolding west-of-edge
  pass-east k c e f = rw (e, f)

  turning-start : (l : List ℕ) (a stop : ℕ) → length l ≡ grid_side → RowsTo cell nv a → RowsTo cell sv stop → Turning l l nx nv sx sv cell stop a
  turning-start l a stop n u s =
      record {
        room = n;
        sized = refl;
        south = λ k h j. above-north a k u h j;
        north = s;
        done = λ k h. sym (xor-none (get_or l k 0) (λ c. ltb k a && west-of-edge nx nv sx sv cell k c) (λ c. go k c h (ltb k a) refl));
      }
    where
      go : (k c : ℕ) → k < grid_side → (t : Bool) → ltb k a ≡ t → (t && west-of-edge nx nv sx sv cell k c) ≡ false
      go k c h true e = no-pass k c (below-north a k u h e)
      go k c h false e = refl

  module _ (l m : List ℕ) (stop r : ℕ) (i : Turning l m nx nv sx sv cell stop r) where
    module _ (h : r < stop) where
      pub turn-row : r < grid_side
      turn-row = omega (arith, i.north.most)

      pub turn-room : r < length m
      turn-room = omega (arith, turn-row, i.sized, i.room)

      pub turn-south : lt_z nv (at r) ≡ true
      turn-south = i.south r (omega arith) turn-row

      pub turn-north : le_z (at r) sv ≡ true
      turn-north = i.north.splits r turn-row ∙ lt-ltb r stop h

      turned-here : (b : ℕ) → b ≡ row_word (λ c. east-from nx nv sx sv (at r) (at c)) grid_side
          → bit_xor (get_or m r 0) b ≡ bit_xor (get_or l r 0) (row_word (λ c. ltb r (r + 1) && west-of-edge nx nv sx sv cell r c) grid_side)
      turned-here b e =
          ap₂ bit_xor
          (i.done r turn-row ∙ xor-none (get_or l r 0) (λ c. ltb r r && west-of-edge nx nv sx sv cell r c) (λ c. rw (le-ltb r r (omega arith))))
          (e ∙ word_same (λ c. east-from nx nv sx sv (at r) (at c)) (λ c. ltb r (r + 1) && west-of-edge nx nv sx sv cell r c) grid_side (λ c g. rw (lt-ltb r (r + 1) (omega arith)) (sym (pass-east r c turn-south turn-north))))

      pub turn_on : (b : ℕ) → b ≡ row_word (λ c. east-from nx nv sx sv (at r) (at c)) grid_side → Turning l (set m r (bit_xor (get_or m r 0) b)) nx nv sx sv cell stop (r + 1)
      turn_on b e =
          record {
            room = i.room;
            sized = length-set m r (bit_xor (get_or m r 0) b) ∙ i.sized;
            south = λ k j g. i.south k (omega arith) g;
            north = i.north;
            done = λ k g. go k g (eqb k r) refl;
          }
        where
          go : (k : ℕ) → k < grid_side → (t : Bool) → eqb k r ≡ t → get_or (set m r (bit_xor (get_or m r 0) b)) k 0 ≡ bit_xor (get_or l k 0) (row_word (λ c. ltb k (r + 1) && west-of-edge nx nv sx sv cell k c) grid_side)
          go k g true q =
              let z : k ≡ r = eqb-true k r q in
              rw z (get_or-set_same m r (bit_xor (get_or m r 0) b) 0 turn-room ∙ turned-here b e)
          go k g false q =
              let f : k ≡ r → ⊥ = eqb-false k r q in
              get_or-set_other m r k (bit_xor (get_or m r 0) b) 0 f ∙ i.done k g
              ∙ ap (λ (t : Bool). bit_xor (get_or l k 0) (row_word (λ c. t && west-of-edge nx nv sx sv cell k c) grid_side)) (same-side k r f)

    pub turned-all : stop ≤ r → Xored l m (west-of-edge nx nv sx sv cell)
    turned-all h =
        record {
          sized = i.sized;
          turns = λ k g. i.done k g ∙ ap (bit_xor (get_or l k 0)) (word_same (λ c. ltb k r && west-of-edge nx nv sx sv cell k c) (west-of-edge nx nv sx sv cell k) grid_side (λ c j. go k c g (ltb k r) refl));
        }
      where
        go : (k c : ℕ) → k < grid_side → (t : Bool) → ltb k r ≡ t → (t && west-of-edge nx nv sx sv cell k c) ≡ west-of-edge nx nv sx sv cell k c
        go k c g true e = refl
        go k c g false e =
            let a = ltb-false k r e in
            sym (no-pass-south k c (i.south k a g) (i.north.splits k g ∙ le-ltb k stop (omega arith)))

-- ---- what the code has in hand

abbrev bits : ℤ → ℤ
bits z = to_z w64 (of_z w64 z)

height-most : (cell r : ℕ) → cell ≤ 10000 → r < grid_side → Within 80000000 (pos (centre_at cell r))
height-most cell r h g =
    let a : 2 * r + 1 ≤ 127 = omega arith in
    let b : (2 * r + 1) * cell ≤ 127 * 10000 = mul-le-mul a h in
    record { within = omega arith }

pub bits-within : (z : ℤ) → SFits w64 z → Within 80000000 z → Within 80000000 (bits z)
bits-within z f w = rw (to_z-of_z f) w

pub span-start : (nx nv sx sv : ℤ) (cell : ℕ) → SFits w64 nx → SFits w64 nv → SFits w64 sx → SFits w64 sv → (l : List ℕ) (a stop : ℕ) → length l ≡ grid_side → RowsTo cell nv a → RowsTo cell sv stop
    → Turning l l (bits nx) (bits nv) (bits sx) (bits sv) cell stop a
span-start nx nv sx sv cell fnx fnv fsx fsv l a stop n u s = turning-start (bits nx) (bits nv) (bits sx) (bits sv) cell l a stop n (rw (to_z-of_z fnv) u) (rw (to_z-of_z fsv) s)

module _ (nx nv sx sv : ℤ) (cell : ℕ) (fnx : SFits w64 nx) (fnv : SFits w64 nv) (fsx : SFits w64 sx) (fsv : SFits w64 sv)
    (wnx : Within 80000000 nx) (wnv : Within 80000000 nv) (wsx : Within 80000000 sx) (wsv : Within 80000000 sv) (low : 0 < cell) (high : cell ≤ 10000) where
  module _ (l m : List ℕ) (stop r : ℕ) (i : Turning l m (bits nx) (bits nv) (bits sx) (bits sv) cell stop r) (h : r < stop) (z : ℤ) (e : z ≡ pos (centre_at cell r)) (ok : mag z < 2 ^ 63) where
    pub span-asks : Within 80000000 (bits nx) × Within 80000000 (bits nv) × Within 80000000 (bits sx) × Within 80000000 (bits sv) × Within 80000000 (bits z)
        × (lt_z (bits nv) (bits z) ≡ true) × (le_z (bits z) (bits sv) ≡ true) × (0 < cell) × (cell ≤ 10000)
    span-asks =
        rw (back z ok, e) (
          bits-within nx fnx wnx,
          bits-within nv fnv wnv,
          bits-within sx fsx wsx,
          bits-within sv fsv wsv,
          height-most cell r high (turn-row (bits nx) (bits nv) (bits sx) (bits sv) cell l m stop r i h),
          turn-south (bits nx) (bits nv) (bits sx) (bits sv) cell l m stop r i h,
          turn-north (bits nx) (bits nv) (bits sx) (bits sv) cell l m stop r i h,
          low,
          high,
        )

    pub span-on : (b : ℕ) → b ≡ row_word (λ c. east-from (bits nx) (bits nv) (bits sx) (bits sv) (bits z) (pos (centre_at cell c))) grid_side
        → Turning l (set m r (bit_xor (get_or m r 0) b)) (bits nx) (bits nv) (bits sx) (bits sv) cell stop (r + 1)
    span-on b q = turn_on (bits nx) (bits nv) (bits sx) (bits sv) cell l m stop r i h b (rw (back z ok, e) at q)

  pub span-done : (l m : List ℕ) (stop r : ℕ) → Turning l m (bits nx) (bits nv) (bits sx) (bits sv) cell stop r → stop ≤ r → Xored l m (west-of-edge nx nv sx sv cell)
  span-done l m stop r i h = rw (to_z-of_z fnx, to_z-of_z fnv, to_z-of_z fsx, to_z-of_z fsv) at (turned-all (bits nx) (bits nv) (bits sx) (bits sv) cell l m stop r i h)
