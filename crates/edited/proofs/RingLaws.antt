-- The ring check of a ring does not depend on where it lies (document 02, T-08: "ring checks .. are the same throughout"). Assumes nothing.
use mathlib.Core.Path.{◌≡◌, refl, sym, ◌∙◌, ap, ap₂}
use mathlib.Core.Bool.{Bool, true, false, cond}
use mathlib.Core.List.{List}
use Prim.Native.Nat.{ℕ, ◌+◌, ◌-◌, ◌*◌, ◌≤◌, ◌<◌}
use native.Mathlib.Omega.{arith}
use lib.ListN.{length}
use lib.IntN.{ℤ, pos, ◌+ℤ◌, ◌-ℤ◌}
use lib.Signed.{lt_z, le_z}
use Rattle.laws.specs.Whole.{eq_z, low_z, high_z}
use Rattle.laws.proofs.Parts.{ints, num, sum, diff, eq-parts, le-true, lt-true, lt-false, le_not_lt}
use Rattle.plane.specs.Rings.{x-at, y-at, held, all_near}
use Rattle.plane.specs.Areas.{east, north}
use Rattle.plane.specs.Moved.{moved}
use Rattle.plane.proofs.RingLaws.{held-has}
use Rattle.plane.proofs.AlikeLaws.{all-near-alike}
use Rattle.plane.proofs.MovedLaws.{length_moved, x-moved, y-moved}
use Rattle.crossing.specs.declared.Point.{Point}
use Rattle.crossing.specs.Edges.{point_at, side, dot, equal-ends, neighbours-overlap, beside-line, spans-overlap, boxes-overlap, edges-meet}
use Rattle.crossing.specs.Search.{faulty-pair, verdict_of}
use Rattle.crossing.proofs.AlikeLaws.{verdict-by}
use Rattle.edit.proofs.MoveLaws.{same-shift}

apart : (a b d : ℤ) → (a +ℤ d) -ℤ (b +ℤ d) ≡ a -ℤ b
apart a b d = eq-parts ((a +ℤ d) -ℤ (b +ℤ d)) (a -ℤ b) (omega (arith, num a, num b, num d, sum a d, sum b d, diff a b, diff (a +ℤ d) (b +ℤ d)))

less-shift : (a b d : ℤ) → lt_z (a +ℤ d) (b +ℤ d) ≡ lt_z a b
less-shift a b d = go (lt_z a b) refl
  where
    go : (t : Bool) → lt_z a b ≡ t → lt_z (a +ℤ d) (b +ℤ d) ≡ t
    go true e = lt-true (a +ℤ d) (b +ℤ d) (omega (arith, ints, num a, num b, num d, sum a d, sum b d))
    go false e = lt-false (a +ℤ d) (b +ℤ d) (omega (arith, ints, num a, num b, num d, sum a d, sum b d))

most-shift : (a b d : ℤ) → le_z (a +ℤ d) (b +ℤ d) ≡ le_z a b
most-shift a b d = go (lt_z b a) refl
  where
    go : (t : Bool) → lt_z b a ≡ t → le_z (a +ℤ d) (b +ℤ d) ≡ le_z a b
    go t e = le_not_lt (a +ℤ d) (b +ℤ d) t (less-shift b a d ∙ e) ∙ sym (le_not_lt a b t e)

low-shift : (a b d : ℤ) → low_z (a +ℤ d) (b +ℤ d) ≡ low_z a b +ℤ d
low-shift a b d = rw (less-shift a b d) (go (lt_z a b))
  where
    go : (t : Bool) → cond t (a +ℤ d) (b +ℤ d) ≡ cond t a b +ℤ d
    go true = refl
    go false = refl

high-shift : (a b d : ℤ) → high_z (a +ℤ d) (b +ℤ d) ≡ high_z a b +ℤ d
high-shift a b d = rw (less-shift a b d) (go (lt_z a b))
  where
    go : (t : Bool) → cond t (b +ℤ d) (a +ℤ d) ≡ cond t b a +ℤ d
    go true = refl
    go false = refl

spans-shift : (a b c e d : ℤ) → spans-overlap (a +ℤ d) (b +ℤ d) (c +ℤ d) (e +ℤ d) ≡ spans-overlap a b c e
unfolding spans-overlap
spans-shift a b c e d =
    rw (low-shift a b d, high-shift c e d, low-shift c e d, high-shift a b d, most-shift (low_z a b) (high_z c e) d, most-shift (low_z c e) (high_z a b) d)

module _ (dx dy : ℤ) where
  abbrev sh : Point → Point
  sh a = record { x = a.x +ℤ dx; y = a.y +ℤ dy }

  side-shift : (a b c : Point) → side (sh a) (sh b) (sh c) ≡ side a b c
  unfolding side
  side-shift a b c = rw (apart b.x a.x dx, apart c.y a.y dy, apart c.x a.x dx, apart b.y a.y dy)

  dot-shift : (a b c : Point) → dot (sh a) (sh b) (sh c) ≡ dot a b c
  unfolding dot
  dot-shift a b c = rw (apart a.x b.x dx, apart c.x b.x dx, apart a.y b.y dy, apart c.y b.y dy)

  ends-shift : (a b : Point) → equal-ends (sh a) (sh b) ≡ equal-ends a b
  unfolding equal-ends
  ends-shift a b = rw (same-shift a.x b.x dx, same-shift a.y b.y dy)

  neighbours-shift : (a b c : Point) → neighbours-overlap (sh a) (sh b) (sh c) ≡ neighbours-overlap a b c
  unfolding neighbours-overlap
  neighbours-shift a b c = rw (side-shift b a c, dot-shift a b c)

  meet-shift : (a b c d : Point) → edges-meet (sh a) (sh b) (sh c) (sh d) ≡ edges-meet a b c d
  unfolding edges-meet beside-line boxes-overlap
  meet-shift a b c d =
      rw (side-shift a b c, side-shift a b d, side-shift c d a, side-shift c d b, spans-shift a.x b.x c.x d.x dx, spans-shift a.y b.y c.y d.y dy)

  module _ (ps : List ℤ) (from n : ℕ) (h : 2 * (from + n) ≤ length ps) where
    abbrev qs : List ℤ
    qs = moved dx dy ps

    point-moved : (k : ℕ) → k < n → point_at qs (from + k) ≡ sh (point_at ps (from + k))
    point-moved k l = rw (x-moved dx dy ps (from + k) (omega arith), y-moved dx dy ps (from + k) (omega arith))

    pairs-moved : (e : ℕ) → e + 1 ≤ n → (i j : ℕ) → i < e → j < e → faulty-pair qs from e i j ≡ faulty-pair ps from e i j
    unfolding faulty-pair
    pairs-moved e m i j a b =
        let p = point_at ps (from + i) in
        let q = point_at ps (from + (i + 1)) in
        let r = point_at ps (from + j) in
        let s = point_at ps (from + (j + 1)) in
        rw (point-moved i (omega arith), point-moved (i + 1) (omega arith), point-moved j (omega arith), point-moved (j + 1) (omega arith), ends-shift p q, neighbours-shift p q s, neighbours-shift r s q, meet-shift p q r s)

    near-moved : (1 ≤ n) → all_near qs from n ≡ all_near ps from n
    unfolding east north
    near-moved g =
        all-near-alike qs ps from from n (λ k l. (
          rw (x-moved dx dy ps (from + k) (omega arith), x-moved dx dy ps from (omega arith)) (apart (x-at ps (from + k)) (x-at ps from) dx),
          rw (y-moved dx dy ps (from + k) (omega arith), y-moved dx dy ps from (omega arith)) (apart (y-at ps (from + k)) (y-at ps from) dy),
        ))

  -- **the verdict on a ring is the same**, wherever it lies
  pub verdict-moved : (ps : List ℤ) (from n : ℕ) → verdict_of (moved dx dy ps) from n ≡ verdict_of ps from n
  verdict-moved ps from n =
      verdict-by (moved dx dy ps) ps from from n (rw (length_moved dx dy ps)) (λ e. let f = held-has (length ps) from n e in
      (near-moved ps from n (omega (arith, f.2)) f.0, pairs-moved ps from n (omega (arith, f.2)) (n - 1) (omega (arith, f.0))))
