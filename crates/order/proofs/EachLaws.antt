-- What holds of each of a list. Assumes nothing.
use Prim.Native.Nat.{ℕ, zero, suc, ◌<◌}
use mathlib.Core.List.{List, [], ◌∷◌}
use native.Mathlib.Omega.{arith}
use lib.ListN.{length, get_or, take}
use Rattle.order.specs.Sorting.{EachOf, EachOf.each_nil, EachOf.each_on}

pub each_map : {A : Type 0} {P Q : A → Type 0} {s : List A} → ((x : A) → P x → Q x) → EachOf P s → EachOf Q s
each_map f each_nil = each_nil
each_map f (each_on {x} p e) = each_on (f x p) (each_map f e)

pub each_of : {A : Type 0} {P : A → Type 0} (s : List A) → ((x : A) → P x) → EachOf P s
each_of [] f = each_nil
each_of (x ∷ s) f = each_on (f x) (each_of s f)

pub each_take : {A : Type 0} {P : A → Type 0} {s : List A} (n : ℕ) → EachOf P s → EachOf P (take n s)
each_take zero each_nil = each_nil
each_take zero (each_on p e) = each_nil
each_take (suc n) each_nil = each_nil
each_take (suc n) (each_on p e) = each_on p (each_take n e)

pub each_at : {A : Type 0} {P : A → Type 0} (s : List A) (i : ℕ) (z : A) → EachOf P s → i < length s → P (get_or s i z)
each_at [] i z e h = absurd (omega arith)
each_at (x ∷ s) zero z (each_on p e) h = p
each_at (x ∷ s) (suc i) z (each_on p e) h = each_at s i z e (omega arith)
