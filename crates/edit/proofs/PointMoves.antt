-- The ways through the functions that judge and move points, and that count the vertices of rows. Assumes nothing.
use mathlib.Core.Path.{◌≡◌, refl, sym, ◌∙◌, ap}
use mathlib.Core.List.{List, [], ◌∷◌}
use mathlib.Core.Bool.{Bool, true, false, not, ◌&&◌}
use Prim.Native.Nat.{ℕ, zero, suc, ◌+◌, ◌-◌, ◌*◌, ◌≤◌, ◌<◌}
use native.Mathlib.Nat.{sub-zero}
use native.Mathlib.Omega.{arith}
use lib.ListN.{length, get_or, drop}
use lib.Seq.{drop-drop}
use lib.IntN.{ℤ, pos, ◌+ℤ◌}
use borrow.Author.Tests.{not-true, not-false}
use Rattle.laws.specs.Lists.{tail}
use Rattle.laws.proofs.ListLaws.{left, left-none, rest-is}
use Rattle.laws.proofs.Choice.{and_left, and_right, and_both}
use Rattle.number.specs.Number.{is_real}
use Rattle.kinds.specs.Kinds.{row_width, vertices_place}
use Rattle.plane.specs.Moved.{moved}
use Rattle.made.specs.Made.{nat_of, are_reals}
use Rattle.edit.specs.Used.{pair_stays, pair_shifted, vertex_most, vertex_count}

-- ---- points that stay

and-nest : (a b c : Bool) → (a && (b && c)) ≡ ((a && b) && c)
and-nest true b c = refl
and-nest false b c = refl

module _ (dx dy : ℤ) (v : ℕ) (s : List ℤ) (l : length s ≡ 2 * v) where
  pub points-over : (k : ℕ) → are_reals (moved dx dy s) ≡ are_reals (moved dx dy (drop (2 * k) s)) → v ≤ k → true ≡ are_reals (moved dx dy s)
  unfolding are_reals moved
  points-over k i h = sym (i ∙ rw (left-none s (2 * k) (omega arith)))

  module _ (k : ℕ) (i : are_reals (moved dx dy s) ≡ are_reals (moved dx dy (drop (2 * k) s))) (h : k < v) (b : Bool) (e : b ≡ pair_stays dx dy s (2 * k)) where
    one-point : are_reals (moved dx dy s) ≡ (b && are_reals (moved dx dy (drop (2 * (k + 1)) s)))
    unfolding are_reals moved pair_stays
    one-point =
        let z : 2 * k + 1 + 1 ≡ 2 * (k + 1) = omega arith in
        i ∙ rw (left s (2 * k) (pos 0) (omega arith), left s (2 * k + 1) (pos 0) (omega arith), z, e)
        (and-nest (is_real (get_or s (2 * k) (pos 0) +ℤ dx)) (is_real (get_or s (2 * k + 1) (pos 0) +ℤ dy)) (are_reals (moved dx dy (drop (2 * (k + 1)) s))))

    pub points-off : not b ≡ true → false ≡ are_reals (moved dx dy s)
    points-off t = sym (one-point ∙ rw (not-true b t))

    pub points_on : not b ≡ false → are_reals (moved dx dy s) ≡ are_reals (moved dx dy (drop (2 * (k + 1)) s))
    points_on t = one-point ∙ rw (not-false b t)

-- ---- points that are moved

module _ (dx dy : ℤ) where
  -- the first k of them
  unfoldable pub first_moved : ℕ → List ℤ → List ℤ
  first_moved zero s = s
  first_moved (suc k) [] = []
  first_moved (suc k) (x ∷ []) = x ∷ []
  first_moved (suc k) (x ∷ y ∷ s) = (x +ℤ dx) ∷ (y +ℤ dy) ∷ first_moved k s

  length-first : (k : ℕ) (s : List ℤ) → length (first_moved k s) ≡ length s
  unfolding first_moved
  length-first zero s = refl
  length-first (suc k) [] = refl
  length-first (suc k) (x ∷ []) = refl
  length-first (suc k) (x ∷ y ∷ s) = ap (λ (n : ℕ). suc (suc n)) (length-first k s)

  first_on : (k : ℕ) (s : List ℤ) → 2 * k + 1 < length s → pair_shifted dx dy (first_moved k s) (2 * k) ≡ first_moved (suc k) s
  unfolding first_moved pair_shifted
  first_on zero [] h = absurd (omega arith)
  first_on zero (x ∷ []) h = absurd (omega arith)
  first_on zero (x ∷ y ∷ s) h = refl
  first_on (suc k) [] h = absurd (omega arith)
  first_on (suc k) (x ∷ []) h = absurd (omega arith)
  first_on (suc k) (x ∷ y ∷ s) h =
      let e : 2 * suc k ≡ suc (suc (2 * k)) = omega arith in
      let f : suc (suc (2 * k)) + 1 ≡ suc (suc (2 * k + 1)) = omega arith in
      rw (e, f) (ap (λ (u : List ℤ). (x +ℤ dx) ∷ (y +ℤ dy) ∷ u) (first_on k s (omega arith)))

  first-stays : (k : ℕ) (s : List ℤ) → 2 * k + 1 < length s → are_reals (moved dx dy s) ≡ true → pair_stays dx dy (first_moved k s) (2 * k) ≡ true
  unfolding first_moved pair_stays are_reals moved
  first-stays zero [] h r = absurd (omega arith)
  first-stays zero (x ∷ []) h r = absurd (omega arith)
  first-stays zero (x ∷ y ∷ s) h r =
      let t = and_right (is_real (x +ℤ dx)) (is_real (y +ℤ dy) && are_reals (moved dx dy s)) r in
      and_both (is_real (x +ℤ dx)) (is_real (y +ℤ dy)) (and_left (is_real (x +ℤ dx)) (is_real (y +ℤ dy) && are_reals (moved dx dy s)) r) (and_left (is_real (y +ℤ dy)) (are_reals (moved dx dy s)) t)
  first-stays (suc k) [] h r = absurd (omega arith)
  first-stays (suc k) (x ∷ []) h r = absurd (omega arith)
  first-stays (suc k) (x ∷ y ∷ s) h r =
      let e : 2 * suc k ≡ suc (suc (2 * k)) = omega arith in
      let f : suc (suc (2 * k)) + 1 ≡ suc (suc (2 * k + 1)) = omega arith in
      let t = and_right (is_real (x +ℤ dx)) (is_real (y +ℤ dy) && are_reals (moved dx dy s)) r in
      rw (e, f) (first-stays k s (omega arith) (and_right (is_real (y +ℤ dy)) (are_reals (moved dx dy s)) t))

  first-all : (k : ℕ) (s : List ℤ) → length s ≡ 2 * k → first_moved k s ≡ moved dx dy s
  unfolding first_moved moved
  first-all zero [] h = refl
  first-all zero (x ∷ s) h = absurd (omega arith)
  first-all (suc k) [] h = absurd (omega arith)
  first-all (suc k) (x ∷ []) h = absurd (omega arith)
  first-all (suc k) (x ∷ y ∷ s) h = ap (λ (u : List ℤ). (x +ℤ dx) ∷ (y +ℤ dy) ∷ u) (first-all k s (omega arith))

-- k of v points are moved
pub record Moving (dx dy : ℤ) (v : ℕ) (s₀ s : List ℤ) (k : ℕ) : Type 0 where
  pub few : k ≤ v
  pub is : s ≡ first_moved dx dy k s₀

module _ (dx dy : ℤ) (v : ℕ) (s₀ : List ℤ) where
  pub moving-none : Moving dx dy v s₀ s₀ 0
  unfolding first_moved
  moving-none = record { few = omega arith; is = refl }

  module _ (s : List ℤ) (k : ℕ) (m : Moving dx dy v s₀ s k) (l : length s₀ ≡ 2 * v) where
    pub moving-length : length s ≡ length s₀
    moving-length = ap length m.is ∙ length-first dx dy k s₀

    pub moving-all : v ≤ k → s ≡ moved dx dy s₀
    moving-all h = m.is ∙ first-all dx dy k s₀ (omega (arith, m.few))

    module _ (h : k < v) where
      pub moving-asks : are_reals (moved dx dy s₀) ≡ true → (2 * k + 1 < length s) × (pair_stays dx dy s (2 * k) ≡ true)
      moving-asks r = (omega (arith, moving-length), rw m.is (first-stays dx dy k s₀ (omega arith) r))

      pub moving-on : (u : List ℤ) → u ≡ pair_shifted dx dy s (2 * k) → Moving dx dy v s₀ u (k + 1)
      moving-on u e =
          let z : k + 1 ≡ suc k = omega arith in
          record { few = omega arith; is = (rw m.is at e) ∙ first_on dx dy k s₀ (omega arith) ∙ ap (λ (j : ℕ). first_moved dx dy j s₀) (sym z) }

-- ---- vertices that are counted

pub record Counting (count : ℕ) (rows : List ℤ) (v r k : ℕ) : Type 0 where
  pub at : r ≡ row_width * k
  pub few : k ≤ count
  pub left : v + vertex_count (count - k) (drop r rows) ≡ vertex_count count rows

module _ (count : ℕ) (rows : List ℤ) where
  pub counting-none : Counting count rows 0 0 0
  counting-none = record { at = refl; few = omega arith; left = rw (sub-zero count) (let z : 0 + vertex_count count rows ≡ vertex_count count rows = omega arith in z) }

  module _ (v r k : ℕ) (i : Counting count rows v r k) where
    pub counting-all : count ≤ k → v ≡ vertex_count count rows
    unfolding vertex_count
    counting-all h =
        let z : count - k ≡ 0 = omega arith in
        let y : v + vertex_count (count - k) (drop r rows) ≡ v = rw z (let w : v + 0 ≡ v = omega arith in w) in
        sym y ∙ i.left

    module _ (h : k < count) (l : row_width * count ≤ length rows) where
      pub counting-in : r ≤ length rows
      counting-in = omega (arith, i.at)

      module _ (n : ℕ) (e : n ≡ nat_of (get_or (tail rows r) 11 (pos 0))) where
        one-counted : v + n + vertex_count (count - (k + 1)) (drop (r + row_width) rows) ≡ vertex_count count rows
        unfolding vertex_count
        one-counted =
            let z : count - k ≡ suc (count - (k + 1)) = omega arith in
            let f : n ≡ nat_of (get_or (drop r rows) vertices_place (pos 0)) = rw (rest-is rows r) at e in
            let g : v + (nat_of (get_or (drop r rows) vertices_place (pos 0)) + vertex_count (count - (k + 1)) (drop (r + row_width) rows)) ≡ vertex_count count rows = rw (z, drop-drop row_width r rows) at i.left in
            omega arith

        pub counting-fits : vertex_count count rows ≤ vertex_most → v + n ≤ vertex_most
        counting-fits m = omega (arith, one-counted)

        pub counting-on : Counting count rows (v + n) (r + row_width) (k + 1)
        counting-on = record { at = omega (arith, i.at); few = omega arith; left = one-counted }
