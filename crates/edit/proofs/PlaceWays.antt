-- Which kinds have a position, and which a second point: the tests of the code are those of the schedule, by computation. Assumes nothing.
use mathlib.Core.Path.{◌≡◌, refl}
use mathlib.Core.Bool.{true, false}
use Prim.Native.Nat.{ℕ, zero, suc, ◌≤◌, ◌<◌}
use native.Mathlib.Omega.{arith}
use Rattle.laws.specs.Lists.{holds}
use Rattle.kinds.specs.Kinds.{x_place, y_place, x2_place, y2_place, schedule}
use Rattle.made.specs.Made.{has_field}

pub position-none : (kind : ℕ) → kind < 1 → false ≡ has_field kind x_place
unfolding has_field holds schedule
position-none zero h = refl
position-none (suc k) h = absurd (omega arith)

pub position-has : (kind : ℕ) → 1 ≤ kind → kind < 5 → true ≡ has_field kind x_place
unfolding has_field holds schedule
position-has zero h l = absurd (omega arith)
position-has (suc zero) h l = refl
position-has (suc (suc zero)) h l = refl
position-has (suc (suc (suc zero))) h l = refl
position-has (suc (suc (suc (suc zero)))) h l = refl
position-has (suc (suc (suc (suc (suc k))))) h l = absurd (omega arith)

pub position-over : (kind : ℕ) → 5 ≤ kind → false ≡ has_field kind x_place
unfolding has_field holds schedule
position-over zero h = absurd (omega arith)
position-over (suc zero) h = absurd (omega arith)
position-over (suc (suc zero)) h = absurd (omega arith)
position-over (suc (suc (suc zero))) h = absurd (omega arith)
position-over (suc (suc (suc (suc zero)))) h = absurd (omega arith)
position-over (suc (suc (suc (suc (suc zero))))) h = refl
position-over (suc (suc (suc (suc (suc (suc zero)))))) h = refl
position-over (suc (suc (suc (suc (suc (suc (suc zero))))))) h = refl
position-over (suc (suc (suc (suc (suc (suc (suc (suc k)))))))) h = refl

pub second-has : (kind : ℕ) → kind ≡ 1 → true ≡ has_field kind x2_place
unfolding has_field holds schedule
second-has kind e = rw e

pub second-too : (kind : ℕ) → kind ≡ 4 → true ≡ has_field kind x2_place
unfolding has_field holds schedule
second-too kind e = rw e

pub second_none : (kind : ℕ) → (kind ≡ 1 → ⊥) → (kind ≡ 4 → ⊥) → false ≡ has_field kind x2_place
unfolding has_field holds schedule
second_none zero f g = refl
second_none (suc zero) f g = absurd (f refl)
second_none (suc (suc zero)) f g = refl
second_none (suc (suc (suc zero))) f g = refl
second_none (suc (suc (suc (suc zero)))) f g = absurd (g refl)
second_none (suc (suc (suc (suc (suc zero))))) f g = refl
second_none (suc (suc (suc (suc (suc (suc zero)))))) f g = refl
second_none (suc (suc (suc (suc (suc (suc (suc zero))))))) f g = refl
second_none (suc (suc (suc (suc (suc (suc (suc (suc k)))))))) f g = refl

pub ruleset place-ways = (position-none, position-has, position-over, second-has, second-too, second_none)

-- a y stands where its x does, and a second point only beside a first
pub record Paired (kind : ℕ) : Type 0 where
  pub first : has_field kind y_place ≡ has_field kind x_place
  pub second : has_field kind y2_place ≡ has_field kind x2_place
  pub both : has_field kind x_place ≡ false → has_field kind x2_place ≡ false

pub paired : (kind : ℕ) → Paired kind
unfolding has_field holds schedule
paired zero = record { first = refl; second = refl; both = λ e. refl }
paired (suc zero) = record { first = refl; second = refl; both = λ e. e }
paired (suc (suc zero)) = record { first = refl; second = refl; both = λ e. refl }
paired (suc (suc (suc zero))) = record { first = refl; second = refl; both = λ e. refl }
paired (suc (suc (suc (suc zero)))) = record { first = refl; second = refl; both = λ e. e }
paired (suc (suc (suc (suc (suc zero))))) = record { first = refl; second = refl; both = λ e. refl }
paired (suc (suc (suc (suc (suc (suc zero)))))) = record { first = refl; second = refl; both = λ e. refl }
paired (suc (suc (suc (suc (suc (suc (suc zero))))))) = record { first = refl; second = refl; both = λ e. refl }
paired (suc (suc (suc (suc (suc (suc (suc (suc k)))))))) = record { first = refl; second = refl; both = λ e. refl }
