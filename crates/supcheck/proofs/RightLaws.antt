-- Right lines at the beginning of a file: of lists one behind the other, and what it is for all to be right (document 02, T-10). Assumes nothing.
use Prim.Native.Nat.{ℕ, suc, ◌+◌, ◌≤◌, ◌<◌}
use mathlib.Core.Path.{◌≡◌, refl, ap}
use mathlib.Core.List.{List, [], ◌∷◌, ◌++◌}
use mathlib.Core.Bool.{Bool, true, false, cond}
use native.Mathlib.Omega.{arith}
use lib.ListN.{length}
use Rattle.supline.specs.Right.{DueLine, line_from, is_right_line}
use Rattle.supcheck.specs.Checked.{right_from}

module _ (s : List ℕ) where
  pub right-most : (k : ℕ) (l : List DueLine) → right_from k l s ≤ length l
  unfolding right_from
  right-most k [] = omega arith
  right-most k (x ∷ l) = go (is_right_line x (line_from s k)) (right-most (k + 1) l)
    where
      go : (b : Bool) → right_from (k + 1) l s ≤ length l → cond b (suc (right_from (k + 1) l s)) 0 ≤ suc (length l)
      go true h = omega arith
      go false h = omega arith

  -- all of the first are right
  pub right-past : (k : ℕ) (a b : List DueLine) → right_from k a s ≡ length a → right_from k (a ++ b) s ≡ length a + right_from (k + length a) b s
  unfolding right_from
  right-past k [] b e =
      let q : k ≡ k + 0 = omega arith in
      let r : right_from k b s ≡ right_from (k + 0) b s = ap (λ (m : ℕ). right_from m b s) q in
      let g : right_from k b s ≡ 0 + right_from (k + 0) b s = omega (arith, r) in
      g
  right-past k (x ∷ a) b e = go (is_right_line x (line_from s k)) e (λ f. right-past (k + 1) a b f)
    where
      go : (t : Bool) → cond t (suc (right_from (k + 1) a s)) 0 ≡ suc (length a)
          → (right_from (k + 1) a s ≡ length a → right_from (k + 1) (a ++ b) s ≡ length a + right_from (k + 1 + length a) b s)
          → cond t (suc (right_from (k + 1) (a ++ b) s)) 0 ≡ suc (length a) + right_from (k + suc (length a)) b s
      go true f g =
          let q : k + 1 + length a ≡ k + suc (length a) = omega arith in
          let n : right_from (k + 1) a s ≡ length a = omega arith in
          let r : right_from (k + 1 + length a) b s ≡ right_from (k + suc (length a)) b s = ap (λ (m : ℕ). right_from m b s) q in
          omega (arith, g n, r)
      go false f g = absurd (omega arith)

  -- one of the first is wrong
  pub right-in : (k : ℕ) (a b : List DueLine) → right_from k a s < length a → right_from k (a ++ b) s ≡ right_from k a s
  unfolding right_from
  right-in k [] b h = absurd (omega arith)
  right-in k (x ∷ a) b h = go (is_right_line x (line_from s k)) h (λ f. right-in (k + 1) a b f)
    where
      go : (t : Bool) → cond t (suc (right_from (k + 1) a s)) 0 < suc (length a)
          → (right_from (k + 1) a s < length a → right_from (k + 1) (a ++ b) s ≡ right_from (k + 1) a s)
          → cond t (suc (right_from (k + 1) (a ++ b) s)) 0 ≡ cond t (suc (right_from (k + 1) a s)) 0
      go true f g = let n : right_from (k + 1) a s < length a = omega arith in ap suc (g n)
      go false f g = refl

-- ---- line by line

pub data AllRight (s : List ℕ) : ℕ → List DueLine → Type 0 where
  nothing : {k : ℕ} → AllRight s k []
  onward : {k : ℕ} {x : DueLine} {l : List DueLine} → is_right_line x (line_from s k) ≡ true → AllRight s (k + 1) l → AllRight s k (x ∷ l)

pub right-all : (s : List ℕ) (k : ℕ) (l : List DueLine) → right_from k l s ≡ length l → AllRight s k l
unfolding right_from
right-all s k [] e = nothing
right-all s k (x ∷ l) e = go (is_right_line x (line_from s k)) refl e (λ f. right-all s (k + 1) l f)
  where
    go : (t : Bool) → is_right_line x (line_from s k) ≡ t → cond t (suc (right_from (k + 1) l s)) 0 ≡ suc (length l) → (right_from (k + 1) l s ≡ length l → AllRight s (k + 1) l)
        → AllRight s k (x ∷ l)
    go true q f g = let n : right_from (k + 1) l s ≡ length l = omega arith in onward q (g n)
    go false q f g = absurd (omega arith)

pub all_right : (s : List ℕ) (k : ℕ) (l : List DueLine) → AllRight s k l → right_from k l s ≡ length l
unfolding right_from
all_right s k [] a = refl
all_right s k (x ∷ l) (onward q a) = rw q (ap suc (all_right s (k + 1) l a))
