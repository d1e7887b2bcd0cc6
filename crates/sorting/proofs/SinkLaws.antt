-- One pass with a gap of 1: the line that sinks is the only one that may be out of order. Assumes nothing.
use Prim.Native.Nat.{ℕ, ◌+◌, ◌-◌, ◌*◌, ◌/◌, ◌≤◌, ◌<◌}
use mathlib.Core.Path.{◌≡◌, refl, sym, ◌∙◌}
use mathlib.Core.List.{List}
use mathlib.Core.Bool.{Bool, true, false, not}
use native.Mathlib.Omega.{arith}
use native.Mathlib.Nat.{mul-div-le}
use lib.ListN.{length}
use lib.Dec.{eqb}
use borrow.Author.Tests.{eqb-true, eqb-false, not-true, not-false}
use Rattle.sorting.specs.Lines.{line_width, line_at, bytes_before}
use Rattle.sorting.specs.Exchanges.{Inside, exchanged, Exchanges, Exchanges.none_yet, Exchanges.one_more, InOrder}
use Rattle.sorting.proofs.LineLaws.{exchanged-first, exchanged-second, exchanged-other}
use Rattle.sorting.proofs.SortedLaws.{bytes-strict, exchanges-length}

-- of the lines up to i, those besides j are in order, and line j is not behind any that stands behind it
pub record Around (i j : ℕ) (s : List ℕ) : Type 0 where
  pub others : (p q : ℕ) → p < q → q < i + 1 → (p ≡ j → ⊥) → (q ≡ j → ⊥) → bytes_before (line_at s q) (line_at s p) ≡ false
  pub behind : (q : ℕ) → j < q → q < i + 1 → bytes_before (line_at s q) (line_at s j) ≡ false

around-start : (i : ℕ) (s : List ℕ) → InOrder i s → Around i i s
around-start i s o = record { others = λ p q l m d e. o p q l (omega arith); behind = λ q l m. absurd (omega arith) }

module _ {i j : ℕ} {s : List ℕ} (a : Around i j s) where
  -- line j came before none
  around-front : j ≡ 0 → InOrder (i + 1) s
  around-front z p q l m = go (eqb p j) refl
    where
      go : (b : Bool) → eqb p j ≡ b → bytes_before (line_at s q) (line_at s p) ≡ false
      go true e = let r : p ≡ j = eqb-true p j e in rw r (a.behind q (omega arith) m)
      go false e = a.others p q l m (eqb-false p j e) (λ r. absurd (omega arith))

  -- or it does not come before the one in front of it
  around-end : (k : ℕ) → k + 1 ≡ j → bytes_before (line_at s j) (line_at s k) ≡ false → InOrder (i + 1) s
  around-end k z f p q l m = go (eqb p j) (eqb q j) (eqb p k) refl refl refl
    where
      go : (b c d : Bool) → eqb p j ≡ b → eqb q j ≡ c → eqb p k ≡ d → bytes_before (line_at s q) (line_at s p) ≡ false
      go true c d e g h = let r : p ≡ j = eqb-true p j e in rw r (a.behind q (omega arith) m)
      go false true true e g h = let r : q ≡ j = eqb-true q j g in let t : p ≡ k = eqb-true p k h in rw (r, t) f
      go false true false e g h =
          let r : q ≡ j = eqb-true q j g in
          let t : p ≡ k → ⊥ = eqb-false p k h in
          rw r (bytes-strict.through (line_at s p) (line_at s k) (line_at s j) (a.others p k (omega arith) (omega arith) (eqb-false p j e) (λ y. absurd (omega arith))) f)
      go false false d e g h = a.others p q l m (eqb-false p j e) (eqb-false q j g)

  -- else they change places
  around-on : (k : ℕ) → k + 1 ≡ j → j ≤ i → Inside s j → bytes_before (line_at s j) (line_at s k) ≡ true → Around i k (exchanged s k j)
  around-on k z n w f = record { others = others-on; behind = behind-on }
    where
      l : k < j
      l = omega arith

      u : List ℕ
      u = exchanged s k j

      same : (m : ℕ) → (m ≡ k → ⊥) → (m ≡ j → ⊥) → line_at (exchanged s k j) m ≡ line_at s m
      same m d e = exchanged-other s k j l w m d e

      behind-on : (q : ℕ) → k < q → q < i + 1 → bytes_before (line_at (exchanged s k j) q) (line_at (exchanged s k j) k) ≡ false
      behind-on q g h = go (eqb q j) refl
        where
          go : (b : Bool) → eqb q j ≡ b → bytes_before (line_at (exchanged s k j) q) (line_at (exchanged s k j) k) ≡ false
          go true e =
              let r : q ≡ j = eqb-true q j e in
              rw (r, exchanged-second s k j l w, exchanged-first s k j l w) (bytes-strict.turn (line_at s j) (line_at s k) f)
          go false e =
              let r : q ≡ j → ⊥ = eqb-false q j e in
              rw (same q (λ y. absurd (omega arith)) r, exchanged-first s k j l w) (a.behind q (omega arith) h)

      others-on : (p q : ℕ) → p < q → q < i + 1 → (p ≡ k → ⊥) → (q ≡ k → ⊥) → bytes_before (line_at (exchanged s k j) q) (line_at (exchanged s k j) p) ≡ false
      others-on p q g h c d = go (eqb p j) (eqb q j) refl refl
        where
          go : (x y : Bool) → eqb p j ≡ x → eqb q j ≡ y → bytes_before (line_at (exchanged s k j) q) (line_at (exchanged s k j) p) ≡ false
          go true y e o =
              let r : p ≡ j = eqb-true p j e in
              rw (r, exchanged-second s k j l w, same q d (λ v. absurd (omega arith))) (a.others k q (omega arith) h (λ v. absurd (omega arith)) (λ v. absurd (omega arith)))
          go false true e o =
              let r : q ≡ j = eqb-true q j o in
              let t : p ≡ j → ⊥ = eqb-false p j e in
              rw (r, exchanged-second s k j l w, same p c t) (a.others p k (omega arith) (omega arith) t (λ v. absurd (omega arith)))
          go false false e o =
              let t : p ≡ j → ⊥ = eqb-false p j e in
              let v : q ≡ j → ⊥ = eqb-false q j o in
              rw (same q d v, same p c t) (a.others p q g h t v)

-- ---- the loop that sinks a line: it has come from i to j

pub record Sinking (gap i : ℕ) (l s : List ℕ) (j : ℕ) : Type 0 where
  pub inside : Inside l i
  pub upto : j ≤ i
  pub mixed : Exchanges l s
  pub around : gap ≡ 1 → InOrder i l → Around i j s

pub sinking-start : (gap i : ℕ) (l : List ℕ) → Inside l i → Sinking gap i l l i
sinking-start gap i l h = record { inside = h; upto = omega arith; mixed = none_yet; around = λ z o. around-start i l o }

module _ {gap i : ℕ} {l s : List ℕ} {j : ℕ} (g : Sinking gap i l s j) where
  pub sinking-in : Inside s j
  sinking-in = omega (arith, g.inside, g.upto, exchanges-length g.mixed)

  pub sinking-near : (k : ℕ) → k ≤ j → Inside s k
  sinking-near k h = omega (arith, sinking-in)

  -- it has come to the front
  pub sinking-front : j < gap → gap ≡ 1 → InOrder i l → InOrder (i + 1) s
  sinking-front h z o = around-front (g.around z o) (omega arith)

  module _ (h : gap ≤ j) (m : 1 ≤ gap) (b : Bool) (e : b ≡ bytes_before (line_at s j) (line_at s (j - gap))) where
    pub sinking-end : not b ≡ true → gap ≡ 1 → InOrder i l → InOrder (i + 1) s
    sinking-end f z o = around-end (g.around z o) (j - gap) (omega arith) (sym e ∙ not-true b f)

    pub sinking-on : not b ≡ false → {t : List ℕ} → t ≡ exchanged s (j - gap) j → Sinking gap i l t (j - gap)
    sinking-on f {t} q =
        record {
          inside = g.inside;
          upto = omega (arith, g.upto);
          mixed = one_more g.mixed (j - gap) j (omega arith) sinking-in q;
          around = λ z o. rw q (around-on (g.around z o) (j - gap) (omega arith) g.upto sinking-in (sym e ∙ not-false b f));
        }

-- ---- a pass: the lines before i have sunk

pub record Passing (gap : ℕ) (l s : List ℕ) (i : ℕ) : Type 0 where
  pub mixed : Exchanges l s
  pub ordered : gap ≡ 1 → InOrder i s

pub passing-start : (gap : ℕ) (l : List ℕ) → Passing gap l l gap
passing-start gap l = record { mixed = none_yet; ordered = λ z p q h k. absurd (omega arith) }

exchanges-then : {l s t : List ℕ} → Exchanges l s → Exchanges s t → Exchanges l t
exchanges-then e none_yet = e
exchanges-then e (one_more f i j h k q) = one_more (exchanges-then e f) i j h k q

module _ {gap : ℕ} {l s : List ℕ} {i : ℕ} (g : Passing gap l s i) where
  pub passing-in : (n : ℕ) → line_width * n ≤ length l → i < n → Inside s i
  passing-in n h k = omega (arith, exchanges-length g.mixed)

  pub passing-on : {t : List ℕ} → Exchanges s t → (gap ≡ 1 → InOrder i s → InOrder (i + 1) t) → Passing gap l t (i + 1)
  passing-on e f = record { mixed = exchanges-then g.mixed e; ordered = λ z. f z (g.ordered z) }

  pub passing-end : (n : ℕ) → n ≤ i → gap ≡ 1 → InOrder n s
  passing-end n h z p q d e = g.ordered z p q d (omega arith)

-- ---- all passes

pub next-gap : (gap : ℕ) → 1 < gap → gap / 9 * 4 + 1 < gap
next-gap gap h = omega (arith, mul-div-le gap 9)

pub passes-more : {l s t : List ℕ} → Exchanges l s → Exchanges s t → Exchanges l t
passes-more e f = exchanges-then e f
