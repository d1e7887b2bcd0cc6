-- The scaled difference is exact: for a whole number below 2 ^ 24 neither step rounds, so what the tile answers is the difference over 256.
use mathlib.Core.Path.{◌≡◌, refl, sym, ap, ◌∙◌, subst}
use mathlib.Core.Bool.{Bool, true, false, ◌&&◌}
use Prim.Native.Nat.{ℕ, suc, ◌*◌, ◌^◌, ◌≤◌, ◌<◌}
use native.Mathlib.Nat.{lt_of_lt_of_le, mul-one, mul_assoc, mul-pos, mul_right_comm, mul-lt-mul_of_pos_right}
use native.Mathlib.Omega.{arith}
use lib.Dec.{lit<, lit≤}
use lib.Pow.{pow_pos}
use lib.IntN.{ℤ, pos, negsuc, nat_abs, ◌-ℤ◌}
use lib.Signed.{le_z}
use lib.Ieee.{Float, nan, inf, fin, binary32, up, down, div, of_int}
use lib.Ieee.Exact.{HasValue, round_exact}
use lib.Ieee.Scale.{round_same}
use Rattle.std.proofs.Common.{Option, Some, None}
use Rattle.laws.proofs.Choice.{and_left, and_right}
use Rattle.laws.proofs.Parts.{num, ints, eq-parts}
use Rattle.tile.specs.declared.Offset.{Offset}
use Rattle.number.specs.Number.{is_real}
use Rattle.tile.specs.Tiles.{frame, in_frame, fits, scaled, two-five-six, tile_of}

-- far below the largest values (omega takes no number of more than 38 digits)
below : (n j : ℕ) → n < 2 ^ 24 → 2 ^ 24 * 2 ^ j ≤ 2 ^ 277 → n * 2 ^ j < 2 ^ 277
below n j h k = lt_of_lt_of_le (mul-lt-mul_of_pos_right h (pow_pos j)) k

whole-exact : (n : ℕ) → n < 2 ^ 24 → HasValue (of_int binary32 (pos n)) false n 1
unfolding of_int
whole-exact n h = round_exact binary32 false n 1 n 149 (lit< tt) h (below n 149 h (lit≤ tt)) (sym (mul-one (n * 2 ^ 149)))

down_pos : (e : ℤ) → 0 < down e
down_pos (pos k) = lit< tt
down_pos (negsuc k) = pow_pos (suc k)

divided : (x : Float) (n : ℕ) → n < 2 ^ 24 → HasValue x false n 1 → HasValue (div binary32 x two-five-six) false n 256
unfolding div
divided nan n h v = absurd v
divided (inf s) n h v = absurd v
divided (fin true m e) n h v = let z : ◌≡◌ {A = ℕ} 0 1 = cc v.0 in let w : ⊥ = omega arith in absurd w
divided (fin false m e) n h v =
    let same : m * up e * 1 * 256 ≡ n * (256 * down e) = ap (λ (x : ℕ). x * 256) v.1 ∙ mul_right_comm n (down e) 256 ∙ mul_assoc n 256 (down e) in
    subst (λ (x : Float). HasValue x false n 256)
    (sym (round_same binary32 false (m * up e * 1) (256 * down e) n 256 (mul-pos (lit< tt) (down_pos e)) (lit< tt) same))
    (round_exact binary32 false n 256 n 141 (lit< tt) h (below n 141 h (lit≤ tt)) (sym (mul_assoc n (2 ^ 141) 256)))

pub scaled_exact : (n : ℕ) → n < 2 ^ 24 → HasValue (scaled (pos n)) false n 256
unfolding scaled
scaled_exact n h = divided (of_int binary32 (pos n)) n h (whole-exact n h)

frame-scaled : (d : ℤ) → in_frame d ≡ true → HasValue (scaled d) false (nat_abs d) 256
unfolding in_frame
frame-scaled d e =
    let a = and_left (le_z (pos 0) d) (le_z d (pos frame)) e in
    let b = and_right (le_z (pos 0) d) (le_z d (pos frame)) e in
    let q : d ≡ pos (nat_abs d) = eq-parts d (pos (nat_abs d)) (omega (arith, ints, num d)) in
    let h : nat_abs d < 2 ^ 24 = omega (arith, ints, num d) in
    subst (λ (z : ℤ). HasValue (scaled z) false (nat_abs d) 256) (sym q) (scaled_exact (nat_abs d) h)

-- a pair that is answered is exactly the two differences over 256, and neither is below 0
pub tile-exact : (west north x y : ℤ) (o : Offset) → tile_of west north x y ≡ Some o → HasValue o.east false (nat_abs (x -ℤ west)) 256 × HasValue o.south false (nat_abs (north -ℤ y)) 256
unfolding tile_of fits
tile-exact west north x y o q = go (fits west x && fits y north) refl
  where
    last : (a b c : Bool) → (a && (b && c)) ≡ true → c ≡ true
    last a b c e = and_right b c (and_right a (b && c) e)

    go : (t : Bool) → (fits west x && fits y north) ≡ t → HasValue o.east false (nat_abs (x -ℤ west)) 256 × HasValue o.south false (nat_abs (north -ℤ y)) 256
    go true e =
        let r : Some (record { east = scaled (x -ℤ west); south = scaled (north -ℤ y) }) ≡ Some o = simp e at q in
        let u : record { east = scaled (x -ℤ west); south = scaled (north -ℤ y) } ≡ o = cc in
        let v = last (is_real west) (is_real x) (in_frame (x -ℤ west)) (and_left (fits west x) (fits y north) e) in
        let w = last (is_real y) (is_real north) (in_frame (north -ℤ y)) (and_right (fits west x) (fits y north) e) in
        rw (← u) (frame-scaled (x -ℤ west) v, frame-scaled (north -ℤ y) w)
    go false e = let r : None ≡ Some o = simp e at q in let z : ◌≡◌ {A = ℕ} 0 1 = cc in absurd (omega arith)
