-- A table that is closed up: the loop that copies down. Assumes nothing.
use mathlib.Core.Path.{◌≡◌, sym, ◌∙◌, ap}
use mathlib.Core.List.{List, ◌++◌}
use Prim.Native.Nat.{ℕ, ◌+◌, ◌-◌, ◌≤◌, ◌<◌}
use native.Mathlib.Omega.{arith}
use lib.ListN.{length, get_or, set, take, drop, length-append, length-drop, take-append-drop}
use lib.Seq.{length-take-le, take_at, get_or-drop, get_or-append-add}
use Rattle.laws.specs.Lists.{over}
use Rattle.laws.proofs.TableLaws.{over-next, length_over}
use Rattle.edit.specs.Closing.{closed_up}

-- i of the numbers of the table are as they will be
pub record Closing {A : Type 0} (at n end : ℕ) (s₀ s : List A) (i : ℕ) : Type 0 where
  pub from : at ≤ i
  pub to : i ≤ end - n
  pub is : s ≡ over (take i (take at s₀ ++ drop (at + n) s₀)) s₀

module _ {A : Type 0} (at n end : ℕ) (s₀ : List A) (h : at + n ≤ end) (l : end ≤ length s₀) where
  abbrev whole : List A
  whole = take at s₀ ++ drop (at + n) s₀

  length_whole : length whole ≡ length s₀ - n
  length_whole = omega (arith, length-append (take at s₀) (drop (at + n) s₀), length-take-le at s₀ (omega arith), length-drop (at + n) s₀)

  pub closing-none : Closing at n end s₀ s₀ at
  closing-none =
      let t : take at whole ≡ take at s₀ = take_at (take at s₀) (drop (at + n) s₀) at (length-take-le at s₀ (omega arith)) in
      let m : length (take at s₀) ≡ at = length-take-le at s₀ (omega arith) in
      record { from = omega arith; to = omega arith; is = rw (t, m) (sym (take-append-drop at s₀)) }

  module _ (s : List A) (i : ℕ) (c : Closing at n end s₀ s i) where
    long : length (take i whole) ≡ i
    long = length-take-le i whole (omega (arith, length_whole, c.to))

    pub closing-length : length s ≡ length s₀
    closing-length = rw c.is (length_over (take i whole) s₀ (omega (arith, long, c.to)))

    pub closing-all : end - n ≤ i → s ≡ closed_up at n end s₀
    closing-all g = let z : i ≡ end - n = omega (arith, c.to) in c.is ∙ ap (λ (j : ℕ). over (take j whole) s₀) z

    module _ (g : i < end - n) (d : A) where
      pub closing-there : i + n < length s
      closing-there = omega (arith, closing-length)

      pub closing-here : i < length s
      closing-here = omega (arith, closing-length)

      read : get_or s (i + n) d ≡ get_or whole i d
      read =
          let a : i + n ≡ length (take i whole) + n = omega (arith, long) in
          let b : i ≡ length (take at s₀) + (i - at) = omega (arith, length-take-le at s₀ (omega arith), c.from) in
          let e : at + n + (i - at) ≡ i + n = omega (arith, c.from) in
          ap (λ (x : List A). get_or x (i + n) d) c.is ∙ ap (λ (j : ℕ). get_or (over (take i whole) s₀) j d) a ∙ get_or-append-add (take i whole) (drop (length (take i whole)) s₀) n d
          ∙ get_or-drop (length (take i whole)) s₀ n d ∙ ap (λ (j : ℕ). get_or s₀ (j + n) d) long
          ∙ sym (ap (λ (j : ℕ). get_or whole j d) b ∙ get_or-append-add (take at s₀) (drop (at + n) s₀) (i - at) d ∙ get_or-drop (at + n) s₀ (i - at) d ∙ ap (λ (j : ℕ). get_or s₀ j d) e)

      pub closing-on : (v : A) → v ≡ get_or s (i + n) d → Closing at n end s₀ (set s i v) (i + 1)
      closing-on v e =
          record {
            from = omega (arith, c.from);
            to = omega arith;
            is = rw (e ∙ read) (ap (λ (x : List A). set x i (get_or whole i d)) c.is ∙ over-next whole s₀ i d (omega (arith, length_whole)) (omega (arith, length_whole)));
          }

-- it is as long as it was
pub length-closed : {A : Type 0} (at n end : ℕ) (s : List A) → (at + n ≤ end) × (end ≤ length s) → length (closed_up at n end s) ≡ length s
length-closed at n end s h =
    length_over (take (end - n) (take at s ++ drop (at + n) s)) s
    (omega (arith, h.0, h.1, length-take-le (end - n) (take at s ++ drop (at + n) s) (omega (arith, h.0, h.1, length-append (take at s) (drop (at + n) s), length-take-le at s (omega (arith, h.0, h.1)), length-drop (at + n) s))))
