-- The walk that looks for a code that is too long. Assumes nothing.
use Prim.Native.Nat.{ℕ, suc, ◌+◌, ◌-◌, ◌≤◌, ◌<◌}
use mathlib.Core.Path.{◌≡◌, sym, ◌∙◌}
use mathlib.Core.Bool.{Bool, true, false}
use native.Mathlib.Nat.{sub-zero}
use native.Mathlib.Omega.{arith}
use Rattle.std.specs.Prelude.{Some, None}
use Rattle.heading.specs.declared.Header.{Header}
use Rattle.sheet.specs.Tables.{Tables}
use Rattle.row.specs.declared.Stand.{Stand}
use Rattle.row.specs.Walk.{first_stand, stand_after, left_at}
use Rattle.order.specs.SupBorders.{is_long, first_long, first_long_from}

-- none of the k rows behind it has one
pub record Looking (h : Header) (count : ℕ) (t : Tables) (d : Stand) (k : ℕ) : Type 0 where
  pub within : k ≤ count
  pub rest : first_long h count t ≡ first_long_from h t (count - k) k d

pub looking-start : (h : Header) (count : ℕ) (t : Tables) (d : Stand) → d ≡ first_stand → Looking h count t d 0
looking-start h count t d q = rw q (record { within = omega arith; rest = rw (sub-zero count) })

module _ {h : Header} {count : ℕ} {t : Tables} {d : Stand} {k : ℕ} (c : Looking h count t d k) where
  pub looking-end : count ≤ k → None ≡ first_long h count t
  unfolding first_long_from
  looking-end l = let z : count - k ≡ 0 = omega arith in sym (c.rest ∙ rw z)

  module _ (l : k < count) (b : Bool) (e : b ≡ is_long h (left_at t d)) where
    one_more : count - k ≡ suc (count - (k + 1))
    one_more = omega arith

    pub looking-found : b ≡ true → Some k ≡ first_long h count t
    unfolding first_long_from
    looking-found f = sym (c.rest ∙ rw (one_more, ← e, f))

    pub looking-on : b ≡ false → (s : Stand) → s ≡ stand_after t.rows d → Looking h count t s (k + 1)
    unfolding first_long_from
    looking-on f s q = record { within = omega arith; rest = c.rest ∙ rw (one_more, ← e, f, q) }
