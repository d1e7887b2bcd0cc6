-- Records in the usual form, one behind the other. Assumes nothing.
use Rattle.std.proofs.Common.{◌≡◌, ℕ, zero, suc, ◌+◌, ◌-◌, ◌*◌, ◌/◌, ◌^◌, ◌<◌, ◌≤◌, Bool, true, false, not, eqb, List, length, get_or, take, drop, sym, refl, ◌∙◌, mul-le-mul_right, mul_comm, mul-zero, mul-suc, add-one, arith, length-drop, length-take-le, get_or-drop, get_or-take, eqb-true}
use native.Mathlib.Nat.{add-sub_cancel_left}
use borrow.Author.Tests.{eqb-false, not-false}
use Rattle.laws.specs.Lists.{below}
use Rattle.laws.proofs.ListLaws.{below_at}
use Rattle.record.specs.declared.Mode.{Mode}
use Rattle.record.specs.declared.Mode.TheVariants.{Exact}
use Rattle.record.proofs.RecordLaws.{line_view}
use Rattle.number.proofs.NumberLaws.{real-widens}
use Rattle.token.specs.Lex.{lift, lex_of}
use Rattle.quick.specs.Neat.{Sound}
use Rattle.quick.specs.Seen.{RealAt, Padded, Ender, cr-lf, lf-alone, Ends, UsualAt, Usual, ValueAt, Vertices, none, more}
use Rattle.quick.specs.Word.{Trusted}
use Rattle.quick.specs.Neighbours.{follows, pair_at, Tailed, Judged}
use Rattle.quick.proofs.Places.{ends-cr, ends-lf, padded-real}
use Rattle.quick.proofs.NeighbourLaws.{neighbours-sound}
use Rattle.quick.proofs.TailLaws.{twelve}

-- a record that was judged
pub record Known (s : List ℕ) (at width end : ℕ) : Type 0 where
  pub inside : at + 14 ≤ length s
  pub sound : Sound (take 12 (drop at s))
  pub tail : Tailed s at width end

module _ (s : List ℕ) (at width end : ℕ) (h : 14 ≤ length s) (k : at ≤ length s - 14) (o : 0 < at) (n : get_or s (at - 1) 0 ≡ 10) (a b : Bool)
    (f : a ≡ true → below 8 (pair_at (take (at + 12 - (at - 1)) (drop (at - 1) s))) ≡ true) (fa : not a ≡ false) (g : b ≡ true → Tailed s at width end) (gb : not b ≡ false) where
  -- the pairs: of the file's bytes, then of the twelve
  pair_of : (i j : ℕ) → i < 8 → at + i ≡ j + 1 → follows (get_or s j 0) (get_or s (at + i) 0) ≡ true
  pair_of i j m e =
      let w : at + 12 - (at - 1) ≡ 13 = omega arith in
      let q : below 8 (pair_at (take 13 (drop (at - 1) s))) ≡ true = rw w at (f (not-false a fa)) in
      let x : at - 1 + i ≡ j = omega arith in
      let y : at - 1 + (i + 1) ≡ at + i = omega arith in
      rw (
        get_or-take 13 (drop (at - 1) s) i 0 (omega arith),
        get_or-drop (at - 1) s i 0,
        x,
        get_or-take 13 (drop (at - 1) s) (i + 1) 0 (omega arith),
        get_or-drop (at - 1) s (i + 1) 0,
        y,
      ) at (below_at 8 (pair_at (take 13 (drop (at - 1) s))) i q m)

  pair-in : (i : ℕ) → i ≤ 6 → follows (get_or (take 12 (drop at s)) i 0) (get_or (take 12 (drop at s)) (i + 1) 0) ≡ true
  pair-in i m = rw (twelve s at i (omega arith), twelve s at (i + 1) (omega arith)) (pair_of (i + 1) (at + i) (omega arith) (omega arith))

  pub known_is : Known s at width end
  known_is =
      let t = g (not-false b gb) in
      let c = take 12 (drop at s) in
      let l : length c ≡ 12 = length-take-le 12 (drop at s) (omega (arith, length-drop at s)) in
      let u : 48 ≤ get_or c 7 0 = rw (twelve s at 7 (omega arith)) t.units in
      let first : follows 10 (get_or c 0 0) ≡ true = rw (twelve s at 0 (omega arith)) (rw n at (pair_of 0 (at - 1) (omega arith) (omega arith))) in
      record {
        inside = omega arith;
        sound = neighbours-sound c l (twelve s at 8 (omega arith) ∙ t.point) t.places u first pair-in;
        tail = t;
      }

known-ends : {mode : Mode} {s : List ℕ} {at width end : ℕ} → Ender mode width end → Known s at width end → Ends mode s at width
known-ends {mode} {s} {at} cr-lf k = let i = k.inside in ends-cr mode s at (omega arith) (omega arith) k.tail.ender k.tail.last
known-ends {mode} {s} {at} (lf-alone e) k = let i = k.inside in ends-lf mode s at (omega arith) (omega arith) false (sym e) refl k.tail.ender

known-usual : {mode : Mode} {s : List ℕ} {at width end : ℕ} → Ender mode width end → Known s at width end → UsualAt mode s at width
known-usual e k = let n = k.sound.neat in record { line = (known-ends e k).line n.bytes; z = n.z; real = n.real }

-- the loop of `usual_records`: n records, and the place behind them, which an LF stands before
pub record Judging (s : List ℕ) (at width end n here : ℕ) : Type 0 where
  pub place : here ≡ at + width * n
  pub within : at ≤ length s → here ≤ length s
  pub some : 0 < here
  pub ended : get_or s (here - 1) 0 ≡ 10
  pub each : (j : ℕ) → j < n → Known s (at + width * j) width end

pub judging-start : (s : List ℕ) (at width end : ℕ) → 0 < at → get_or s (at - 1) 0 ≡ 10 → Judging s at width end 0 at
judging-start s at width end o n = record { place = rw (mul-zero width) (omega arith); within = λ h. h; some = o; ended = n; each = λ j h. absurd (omega arith) }

pub judging-on : (s : List ℕ) (at width end n here : ℕ) → 0 < width → width ≤ 14 → Judging s at width end n here → Known s here width end → Judging s at width end (n + 1) (here + width)
judging-on s at width end n here o w g k =
    let e : here + (width - 1) ≡ here + width - 1 = omega arith in
    record {
      place = rw (add-one n, mul-suc width n) (omega (arith, g.place));
      within = λ h. omega (arith, k.inside);
      some = omega arith;
      ended = rw e at k.tail.last;
      each = λ j h. go j h (eqb j n) refl;
    }
  where
    go : (j : ℕ) → j < n + 1 → (b : Bool) → eqb j n ≡ b → Known s (at + width * j) width end
    go j h true e = rw (eqb-true j n e, ← g.place) k
    go j h false e = let o : j ≡ n → ⊥ = eqb-false j n e in g.each j (omega arith)

pub judging-done : (s : List ℕ) (at width end n here : ℕ) → Judging s at width end n here → Judged s at width end n
judging-done s at width end n here g =
    record {
      usual = λ mode e. record {
        inside = λ h. omega (arith, g.place, g.within h);
        each = λ j h. known-usual e (g.each j h);
      };
    }

-- ---- the callers of `usual_records`

pub usual-says : {mode : Mode} {s : List ℕ} {at w : ℕ} → (u : UsualAt mode s at w) → Padded mode s at w (lift u.z)
unfolding lex_of
usual-says {mode} {s} {at} u = record { line = u.line; says = rw (real-widens Exact mode refl (take 12 (drop at s)) u.z u.real) }

module _ (mode : Mode) (s : List ℕ) (at w : ℕ) (f : 0 < w → Ends mode s at w) (o : w ≡ 0 → ⊥) where
  pub usual-asks : (at ≡ 0 → ⊥) → get_or s (at - 1) 0 ≡ 10 → (14 ≤ length s) × (0 < w) × (w ≤ 14) × (0 < at) × (get_or s (at - 1) 0 ≡ 10)
  usual-asks p n = let e = f (omega arith) in (omega (arith, e.inside), omega arith, e.few, omega arith, n)

  pub ender-in : at + 12 < length s
  ender-in = omega (arith, (f (omega arith)).inside)

  module _ (d : 0 < w → Ender mode w (get_or s (at + 12) 0)) (n most : ℕ) (j : (n ≤ most) × Judged s at w (get_or s (at + 12) 0) n) where
    pub run_is : (n ≤ most) × Usual mode s at w n
    run_is = (j.0, j.1.usual mode (d (omega arith)))

pub no_run : (mode : Mode) (s : List ℕ) (at most : ℕ) → (0 ≤ most) × Usual mode s at 0 0
no_run mode s at most = (omega arith, record { inside = λ h. omega arith; each = λ j h. absurd (omega arith) })

-- ---- vertices of it

pub usual-real : {mode : Mode} {s : List ℕ} {at w : ℕ} → (u : UsualAt mode s at w) → RealAt mode s at w (lift u.z)
usual-real u = padded-real (usual-says u)

module _ (mode : Mode) (s : List ℕ) (at w n : ℕ) (u : Usual mode s at w n) where
  -- 2k reals are k vertices
  pub pairs : (k : ℕ) → 2 * k ≤ n → Vertices mode s at k (at + w * (2 * k))
  pairs zero h = let z : at + w * 0 ≡ at = rw (mul-zero w) (omega arith) in rw z none
  pairs (suc k) h =
      let i = 2 * k in
      let a : at + w * suc i ≡ at + w * i + w = rw (mul-suc w i) (omega arith) in
      let q : 2 * suc k ≡ suc (suc i) = omega arith in
      let e : at + w * (2 * suc k) ≡ at + w * i + w + w = rw (q, mul-suc w (suc i), mul-suc w i) (omega arith) in
      let x = usual-real (u.each i (omega arith)) in
      let y = usual-real (u.each (suc i) (omega arith)) in
      rw (e, ← add-one k) (more (pairs k (omega arith)) x (rw a at y))

  -- a record stands in the file
  pub started : 0 < n → at ≤ length s
  started h =
      let z : at + w * 0 ≡ at = rw (mul-zero w) (omega arith) in
      let x : UsualAt mode s at w = rw z at (u.each 0 h) in
      let l = line_view mode false (drop at s) 12 w x.line in
      omega (arith, l.some, l.within, length-drop at s)

  pub begun-vertices : Vertices mode s at (n / 2) (at + 2 * (n / 2) * w)
  begun-vertices = rw (mul_comm (2 * (n / 2)) w) (pairs (n / 2) (omega arith))

  pub begun-short : at < 2 ^ 64 → length s < 2 ^ 64 → (2 * (n / 2) * w < 2 ^ 64) × (at + 2 * (n / 2) * w < 2 ^ 64)
  begun-short g l = go (eqb n 0) refl
    where
      go : (b : Bool) → eqb n 0 ≡ b → (2 * (n / 2) * w < 2 ^ 64) × (at + 2 * (n / 2) * w < 2 ^ 64)
      go true e = rw (eqb-true n 0 e) (omega arith, omega arith)
      go false e =
          let p : n ≡ 0 → ⊥ = eqb-false n 0 e in
          let h = u.inside (started (omega arith)) in
          let m : 2 * (n / 2) * w ≤ n * w = mul-le-mul_right w (omega arith) in
          (omega (arith, mul_comm n w), omega (arith, mul_comm n w))

-- ---- the ways of `usual_value`

pub usual-long : {mode : Mode} {s : List ℕ} {at w : ℕ} → UsualAt mode s at w → at + 12 ≤ length s
usual-long {mode} {s} {at} {w} u =
    let l = line_view mode false (drop at s) 12 w u.line in
    omega (arith, l.past, l.within, l.some, length-drop at s)

pub value_none : (s : List ℕ) (at : ℕ) → length s < 12 → ValueAt s at 0
value_none s at h = record { lifted = λ mode w u. absurd (omega (arith, usual-long u)) }

pub value-short : (s : List ℕ) (at : ℕ) → length s - 12 < at → ValueAt s at 0
value-short s at h = record { lifted = λ mode w u. absurd (omega (arith, usual-long u)) }

pub value-is : (s : List ℕ) (at v : ℕ) → Trusted (take (at + 12 - at) (drop at s)) v → ValueAt s at v
value-is s at v t =
    let x : Trusted (take 12 (drop at s)) v = rw (add-sub_cancel_left at 12) at t in
    record { lifted = λ mode w u. x.lifted u.z u.real }

pub ruleset usual_value_ways = (value_none, value-short, value-is)

pub ruleset usual_run_ways = (no_run, usual-asks, ender-in, run_is)
