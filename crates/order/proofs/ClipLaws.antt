-- Parts of a list up to a place, or from a place on, where a place past the end is the end. Assumes nothing.
use Prim.Native.Nat.{ℕ, zero, suc, min}
use mathlib.Core.Path.{◌≡◌, refl, ap, ◌∙◌}
use mathlib.Core.List.{List, [], ◌∷◌}
use native.Mathlib.Omega.{arith}
use lib.ListN.{length, take, drop}
use Rattle.laws.specs.Lists.{tail}
use Rattle.laws.proofs.ListLaws.{rest-is}

module _ {A : Type 0} where
  pub take-clip : (k : ℕ) (s : List A) (n : ℕ) → n ≡ min k (length s) → take n s ≡ take k s
  take-clip k [] n e = let z : n ≡ 0 = omega arith in rw z (go k)
    where
      go : (k : ℕ) → take {A = A} 0 [] ≡ take k []
      go zero = refl
      go (suc k) = refl
  take-clip zero (a ∷ s) n e = let z : n ≡ 0 = omega arith in rw z
  take-clip (suc k) (a ∷ s) n e =
      let z : n ≡ suc (min k (length s)) = omega arith in
      rw z (ap (λ (l : List A). a ∷ l) (take-clip k s (min k (length s)) refl))

  pub drop-clip : (k : ℕ) (s : List A) (n : ℕ) → n ≡ min k (length s) → drop n s ≡ drop k s
  drop-clip k [] n e = let z : n ≡ 0 = omega arith in rw z (go k)
    where
      go : (k : ℕ) → drop {A = A} 0 [] ≡ drop k []
      go zero = refl
      go (suc k) = refl
  drop-clip zero (a ∷ s) n e = let z : n ≡ 0 = omega arith in rw z
  drop-clip (suc k) (a ∷ s) n e =
      let z : n ≡ suc (min k (length s)) = omega arith in
      rw z (drop-clip k s (min k (length s)) refl)

  pub tail-clip : (k : ℕ) (s : List A) (n : ℕ) → n ≡ min k (length s) → tail s n ≡ drop k s
  tail-clip k s n e = rest-is s n ∙ drop-clip k s n e
