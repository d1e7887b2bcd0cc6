-- The doubled area depends on the ring's own points alone, not on what stands behind them: `area-own`. Assumes nothing.
use mathlib.Core.Path.{◌≡◌}
use mathlib.Core.List.{List, ◌++◌}
use Prim.Native.Nat.{ℕ, ◌+◌, ◌*◌, ◌≤◌, ◌<◌}
use native.Mathlib.Omega.{arith}
use lib.ListN.{length, length-append, get_or-append}
use lib.IntN.{ℤ, pos}
use borrow.Author.Tests.{le-leb}
use Rattle.plane.specs.Rings.{held}
use Rattle.plane.specs.Areas.{east, north, area_of}
use Rattle.plane.proofs.AlikeLaws.{area-alike}

module _ (ps qs : List ℤ) (from : ℕ) where
  east-own : (k : ℕ) → 2 * (from + k) + 1 < length ps → east (ps ++ qs) from k ≡ east ps from k
  unfolding east
  east-own k h = rw (get_or-append ps qs (pos 0) (2 * (from + k)) (omega arith), get_or-append ps qs (pos 0) (2 * from) (omega arith))

  north-own : (k : ℕ) → 2 * (from + k) + 1 < length ps → north (ps ++ qs) from k ≡ north ps from k
  unfolding north
  north-own k h = rw (get_or-append ps qs (pos 0) (2 * (from + k) + 1) (omega arith), get_or-append ps qs (pos 0) (2 * from + 1) (omega arith))

  held-own : (n : ℕ) → 2 * (from + n) ≤ length ps → held (length (ps ++ qs)) from n ≡ held (length ps) from n
  unfolding held
  held-own n h = rw (length-append ps qs, le-leb (2 * (from + n)) (length ps) h, le-leb (2 * (from + n)) (length ps + length qs) (omega arith))

  pub area-own : (n : ℕ) → 2 * (from + n) ≤ length ps → area_of (ps ++ qs) from n ≡ area_of ps from n
  area-own n h =
      area-alike (ps ++ qs) ps from from n (held-own n h)
      (λ e k l. (east-own k (omega arith), north-own k (omega arith)))
