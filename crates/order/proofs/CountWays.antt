-- The walk that counts the listed borders. Assumes nothing.
use Prim.Native.Nat.{ℕ, suc, ◌+◌, ◌-◌, ◌≤◌, ◌<◌}
use mathlib.Core.Path.{◌≡◌, sym, ◌∙◌}
use native.Mathlib.Nat.{sub-zero}
use native.Mathlib.Omega.{arith}
use mathlib.Core.Bool.{Bool, true, false}
use lib.ListN.{length}
use Rattle.heading.specs.declared.Header.{Header}
use Rattle.sheet.specs.Tables.{Tables}
use Rattle.row.specs.declared.Stand.{Stand}
use Rattle.row.specs.Walk.{first_stand, stand_after, left_at}
use Rattle.order.specs.SupBorders.{is_in_sup, sup_borders, sup_borders_from}

pub record Counting (h : Header) (count : ℕ) (t : Tables) (n : ℕ) (d : Stand) (k : ℕ) : Type 0 where
  pub within : k ≤ count
  pub few : n ≤ k
  pub rest : length (sup_borders h count t) ≡ n + length (sup_borders_from h t (count - k) d)

pub counting-start : (h : Header) (count : ℕ) (t : Tables) (d : Stand) → d ≡ first_stand → Counting h count t 0 d 0
counting-start h count t d q = rw q (record { within = omega arith; few = omega arith; rest = rw (sub-zero count) (omega arith) })

module _ {h : Header} {count : ℕ} {t : Tables} {n : ℕ} {d : Stand} {k : ℕ} (c : Counting h count t n d k) where
  pub counting-end : count ≤ k → n ≡ length (sup_borders h count t)
  unfolding sup_borders_from
  counting-end l = let z : count - k ≡ 0 = omega arith in sym (c.rest ∙ rw z (omega arith))

  module _ (l : k < count) (b : Bool) (e : b ≡ is_in_sup h (left_at t d)) (s : Stand) (q : s ≡ stand_after t.rows d) where
    one_more : count - k ≡ suc (count - (k + 1))
    one_more = omega arith

    pub counting-one : b ≡ true → (m : ℕ) → m ≡ n + 1 → Counting h count t m s (k + 1)
    unfolding sup_borders_from
    counting-one f m r =
        let z : length (sup_borders_from h t (count - k) d) ≡ suc (length (sup_borders_from h t (count - (k + 1)) s)) = rw (one_more, ← e, f, q) in
        record { within = omega arith; few = omega (arith, c.few); rest = omega (arith, c.rest) }

    pub counting-none : b ≡ false → (m : ℕ) → m ≡ n → Counting h count t m s (k + 1)
    unfolding sup_borders_from
    counting-none f m r =
        let z : length (sup_borders_from h t (count - k) d) ≡ length (sup_borders_from h t (count - (k + 1)) s) = rw (one_more, ← e, f, q) in
        record { within = omega arith; few = omega (arith, c.few); rest = omega (arith, c.rest) }
