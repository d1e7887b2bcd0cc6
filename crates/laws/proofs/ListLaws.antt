-- The laws of `run`, `kept`, `all`, `same`, `place` and of parts of slices. Assumes nothing.
use Prim.Native.Nat.{ℕ, zero, suc, ◌+◌, ◌-◌, ◌≤◌, ◌<◌, zero-le}
use mathlib.Core.Path.{◌≡◌, refl, sym, ◌∙◌, ap}
use mathlib.Core.List.{List, [], ◌∷◌, ◌++◌, append-nil}
use mathlib.Core.Bool.{Bool, true, false, cond, not, ◌&&◌}
use native.Mathlib.Numerals.{add-one, unary_clauses}
use native.Mathlib.Omega.{arith}
use lib.ListN.{length, get_or, take, drop, drop_of_length-le, take-append-drop, length-take, length-drop, replicate, set}
use lib.Seq.{drop-cons, take_all, take-suc, length-take-le, take-length, split_at, take-suc-set, take-take, ext_get_or}
use lib.Dec.{eqb}
use borrow.Author.Tests.{eq-eqb, ne_eqb, eqb-true, eqb-false, not-true, not-false}
use Rattle.std.specs.Str.{bytes_eq}
use Rattle.laws.specs.Lists.{run, kept, all, all_at, same, tail, below, place, holds}
use Rattle.laws.proofs.Choice.{and_left, and_right, and_both, false≢true}

-- ---- parts of a list

-- what is left at `i` is the element there and what is left at `i + 1`
pub left {ℓ} : {A : Type ℓ} (s : List A) (i : ℕ) (d : A) → i < length s → drop i s ≡ get_or s i d ∷ drop (i + 1) s
left s i d h = rw (add-one, drop-cons s i d)

pub left-none {ℓ} : {A : Type ℓ} (s : List A) (i : ℕ) → length s ≤ i → drop i s ≡ []
left-none s i h = drop_of_length-le s h

-- the part `&s[i..]`
pub rest-is {ℓ} : {A : Type ℓ} (s : List A) (i : ℕ) → tail s i ≡ drop i s
rest-is s i = take_all (length s - i) (drop i s) (simp length-drop (omega arith))

-- ---- `run` and `all` at a place

module _ (p : ℕ → Bool) (s : List ℕ) (i : ℕ) where
  pub run_on : i < length s → p (get_or s i 0) ≡ true → run p (drop i s) ≡ suc (run p (drop (i + 1) s))
  unfolding run
  run_on h e = rw (left s i 0 h, e)

  pub run-stop : i < length s → p (get_or s i 0) ≡ false → run p (drop i s) ≡ 0
  unfolding run
  run-stop h e = rw (left s i 0 h, e)

  pub run_end : length s ≤ i → run p (drop i s) ≡ 0
  unfolding run
  run_end h = rw (left-none s i h)

  pub all-on : i < length s → all p (drop i s) ≡ (p (get_or s i 0) && all p (drop (i + 1) s))
  unfolding all
  all-on h = rw (left s i 0 h)

  pub all_pass : i < length s → p (get_or s i 0) ≡ true → all p (drop i s) ≡ all p (drop (i + 1) s)
  all_pass h e = rw (all-on h, e)

  pub all-fail : i < length s → p (get_or s i 0) ≡ false → all p (drop i s) ≡ false
  all-fail h e = rw (all-on h, e)

  pub all_end : length s ≤ i → all p (drop i s) ≡ true
  unfolding all
  all_end h = rw (left-none s i h)

  -- all pass from `i` on, so the one at `i` does
  pub all_here : i < length s → all p (drop i s) ≡ true → p (get_or s i 0) ≡ true
  all_here h e = and_left (p (get_or s i 0)) (all p (drop (i + 1) s)) (rw (all-on h) at e)

  pub all-next : i < length s → all p (drop i s) ≡ true → all p (drop (i + 1) s) ≡ true
  all-next h e = and_right (p (get_or s i 0)) (all p (drop (i + 1) s)) (rw (all-on h) at e)

-- ---- the loops that count a run, as steps of their invariant `run p s ≡ i + run p (drop i s)`

module _ (p : ℕ → Bool) (s : List ℕ) (i : ℕ) (q : run p s ≡ i + run p (drop i s)) where
  pub run_step : i < length s → p (get_or s i 0) ≡ true → run p s ≡ i + 1 + run p (drop (i + 1) s)
  run_step h e = omega (arith, run_on p s i h e)

  pub run-done : i < length s → p (get_or s i 0) ≡ false → i ≡ run p s
  run-done h e = omega (arith, run-stop p s i h e)

  pub run-over : length s ≤ i → i ≡ run p s
  run-over h = omega (arith, run_end p s i h)

  -- where the loop went over the whole list
  pub run_all : i ≤ length s → length s ≤ i → length s ≡ run p s
  run_all k h = omega (arith, run_end p s i h)

  -- with a test that a callee made
  pub run-step-by : (r : Bool) → i < length s → r ≡ p (get_or s i 0) → r ≡ true → run p s ≡ i + 1 + run p (drop (i + 1) s)
  run-step-by r h e t = run_step h (sym e ∙ t)

  pub run-done-by : (r : Bool) → i < length s → r ≡ p (get_or s i 0) → r ≡ false → i ≡ run p s
  run-done-by r h e t = run-done h (sym e ∙ t)

-- ---- the loops that try every byte, as steps of `all p s ≡ all p (drop i s)`

module _ (p : ℕ → Bool) (s : List ℕ) (i : ℕ) (q : all p s ≡ all p (drop i s)) where
  pub all-step : i < length s → p (get_or s i 0) ≡ true → all p s ≡ all p (drop (i + 1) s)
  all-step h e = q ∙ all_pass p s i h e

  pub all-stop : i < length s → p (get_or s i 0) ≡ false → false ≡ all p s
  all-stop h e = sym (q ∙ all-fail p s i h e)

  pub all-over : length s ≤ i → true ≡ all p s
  all-over h = sym (q ∙ all_end p s i h)

-- ---- what a run says

module _ (p : ℕ → Bool) where
  pub run-le : (s : List ℕ) → run p s ≤ length s
  unfolding run
  run-le [] = zero-le
  run-le (b ∷ s) = go (p b) (run-le s)
    where
      go : (t : Bool) → run p s ≤ length s → cond t (suc (run p s)) 0 ≤ suc (length s)
      go true h = omega arith
      go false h = omega arith

  -- those that `run` counts pass
  pub all-run : (s : List ℕ) → all p (take (run p s) s) ≡ true
  unfolding run all
  all-run [] = refl
  all-run (b ∷ s) = go (p b) refl (all-run s)
    where
      go : (t : Bool) → p b ≡ t → all p (take (run p s) s) ≡ true → all p (take (cond t (suc (run p s)) 0) (b ∷ s)) ≡ true
      go true e h = rw (e, h)
      go false e h = refl

  -- and the next one does not
  pub run-fails : (s : List ℕ) → run p s < length s → p (get_or s (run p s) 0) ≡ false
  unfolding run
  run-fails [] h = absurd (omega arith)
  run-fails (b ∷ s) h = go (p b) refl (λ k. run-fails s k) h
    where
      go : (t : Bool) → p b ≡ t → (run p s < length s → p (get_or s (run p s) 0) ≡ false) → cond t (suc (run p s)) 0 < suc (length s)
          → p (get_or (b ∷ s) (cond t (suc (run p s)) 0) 0) ≡ false
      go true e ih k = ih (omega arith)
      go false e ih k = e

  -- a list that passes is a run of its own, and the run goes on behind it
  pub run_past : (s t : List ℕ) → all p s ≡ true → run p (s ++ t) ≡ length s + run p t
  unfolding run all
  run_past [] t e = omega arith
  run_past (b ∷ s) t e = rw (and_left (p b) (all p s) e) (omega (arith, run_past s t (and_right (p b) (all p s) e)))

  -- where all pass, the run is the whole list
  pub run-whole : (s : List ℕ) → all p s ≡ true → run p s ≡ length s
  unfolding run
  run-whole s e = ap (run p) (sym (append-nil s)) ∙ omega (arith, run_past s [] e)

  -- a front that passes may be skipped
  pub run-from : (s : List ℕ) (n : ℕ) → n ≤ length s → all p (take n s) ≡ true → run p s ≡ n + run p (drop n s)
  run-from s n h e =
      ap (run p) (sym (take-append-drop n s)) ∙ omega (arith, run_past (take n s) (drop n s) e, length-take-le n s h)

  pub all_append : (s t : List ℕ) → all p (s ++ t) ≡ (all p s && all p t)
  unfolding all
  all_append [] t = refl
  all_append (b ∷ s) t = go (p b) (all_append s t)
    where
      go : (x : Bool) → all p (s ++ t) ≡ (all p s && all p t) → (x && all p (s ++ t)) ≡ (x && all p s && all p t)
      go true h = h
      go false h = refl

  -- all pass, so each does
  pub all-each : (s : List ℕ) (i : ℕ) → all p s ≡ true → i < length s → p (get_or s i 0) ≡ true
  unfolding all
  all-each [] i e h = absurd (omega arith)
  all-each (b ∷ s) zero e h = and_left (p b) (all p s) e
  all-each (b ∷ s) (suc i) e h = all-each s i (and_right (p b) (all p s) e) (omega arith)

  -- one fails, so not all pass
  pub all-not : (s : List ℕ) (i : ℕ) → i < length s → p (get_or s i 0) ≡ false → all p s ≡ false
  all-not s i h e = go (all p s) refl
    where
      go : (x : Bool) → all p s ≡ x → x ≡ false
      go true q = absurd (false≢true (sym e ∙ all-each s i q h))
      go false q = refl

-- a weaker test passes too
pub all-weaken : (p q : ℕ → Bool) → ((b : ℕ) → p b ≡ true → q b ≡ true) → (s : List ℕ) → all p s ≡ true → all q s ≡ true
unfolding all
all-weaken p q w [] e = refl
all-weaken p q w (b ∷ s) e =
    and_both (q b) (all q s) (w b (and_left (p b) (all p s) e)) (all-weaken p q w s (and_right (p b) (all p s) e))

-- a run is no longer than its list
pub run-within : (p : ℕ → Bool) (s : List ℕ) (n : ℕ) → n ≡ run p s → n ≤ length s
run-within p s n q = rw q (run-le p s)

pub run-count : (p : ℕ → Bool) (s : List ℕ) (n : ℕ) → n ≡ run p s → n ≡ length (take n s)
run-count p s n q = sym (length-take-le n s (run-within p s n q))

pub ruleset runs = (run-within, run-count, run-step-by, run-done-by, run_step, run-done, run-over, run_all, all-step, all-stop, all-over)

-- ---- `same`

pub same_refl : (s : List ℕ) → same s s ≡ true
unfolding same
same_refl [] = refl
same_refl (a ∷ s) = and_both (eqb a a) (same s s) (eq-eqb a a refl) (same_refl s)

pub same-is : (s t : List ℕ) → same s t ≡ true → s ≡ t
unfolding same
same-is [] [] e = refl
same-is [] (b ∷ t) e = absurd (false≢true e)
same-is (a ∷ s) [] e = absurd (false≢true e)
same-is (a ∷ s) (b ∷ t) e =
    let h : a ≡ b = eqb-true a b (and_left (eqb a b) (same s t) e) in
    let k : s ≡ t = same-is s t (and_right (eqb a b) (same s t) e) in cc

pub same-short : (s t : List ℕ) → (length s ≡ length t → ⊥) → false ≡ same s t
same-short s t h = go (same s t) refl
  where
    go : (x : Bool) → same s t ≡ x → false ≡ x
    go true q = absurd (h (ap length (same-is s t q)))
    go false q = refl

-- std's `==` on slices
pub same_bytes : (s t : List ℕ) → bytes_eq s t ≡ same s t
unfolding same
same_bytes [] [] = refl
same_bytes [] (b ∷ t) = refl
same_bytes (a ∷ s) [] = refl
same_bytes (a ∷ s) (b ∷ t) = rw (same_bytes s t)

-- ---- `place`

-- a word that has a place stands there
pub place_is : (k : ℕ) (vs : List (List ℕ)) (w : List ℕ) → 0 < place k vs w
    → (k ≤ place k vs w) × (place k vs w < k + length vs) × (w ≡ get_or vs (place k vs w - k) [])
unfolding place
place_is k [] w h = absurd (omega arith)
place_is k (v ∷ vs) w h = go (same w v) refl (place (suc k) vs w) (place_is (suc k) vs w) h
  where
    go : (x : Bool) → same w v ≡ x → (n : ℕ) → (0 < n → (suc k ≤ n) × (n < suc k + length vs) × (w ≡ get_or vs (n - suc k) []))
        → 0 < cond x k n → (k ≤ cond x k n) × (cond x k n < k + suc (length vs)) × (w ≡ get_or (v ∷ vs) (cond x k n - k) [])
    go true e n ih l =
        let z : k - k ≡ 0 = omega arith in
        (omega arith, omega arith, rw z (same-is w v e))
    go false e n ih l =
        let i = ih l in
        let z : n - k ≡ suc (n - suc k) = omega (arith, i.0) in
        (omega (arith, i.0), omega (arith, i.1), rw z i.2)

-- the loop that looks a word up, as steps of its invariant
module _ (vs : List (List ℕ)) (w : List ℕ) (k : ℕ) (q : place 1 vs w ≡ place (k + 1) (drop k vs) w) where
  module _ (h : k < length vs) (r : Bool) (e : r ≡ same w (get_or vs k [])) where
    pub place-step : r ≡ false → place 1 vs w ≡ place (k + 1 + 1) (drop (k + 1) vs) w
    unfolding place
    place-step f = q ∙ rw (left vs k [] h, ← e, f, add-one (k + 1))

    pub place_found : r ≡ true → k + 1 ≡ place 1 vs w
    unfolding place
    place_found t = sym (q ∙ rw (left vs k [] h, ← e, t))

  pub place-over : length vs ≤ k → 0 ≡ place 1 vs w
  unfolding place
  place-over h = sym (q ∙ rw (left-none vs k h))

-- ---- all pass, so do those of a part

module _ (p : ℕ → Bool) (s : List ℕ) (n : ℕ) (e : all p s ≡ true) where
  halves : (all p (take n s) && all p (drop n s)) ≡ true
  halves = sym (all_append p (take n s) (drop n s)) ∙ ap (all p) (take-append-drop n s) ∙ e

  pub all_take : all p (take n s) ≡ true
  all_take = and_left (all p (take n s)) (all p (drop n s)) halves

  pub all_drop : all p (drop n s) ≡ true
  all_drop = and_right (all p (take n s)) (all p (drop n s)) halves

-- ---- `kept`

module _ (p : ℕ → Bool) where
  pub kept-le : (s : List ℕ) → kept p s ≤ length s
  unfolding kept
  kept-le [] = zero-le
  kept-le (b ∷ s) = go (p b && eqb (kept p s) 0) (kept-le s)
    where
      go : (t : Bool) → kept p s ≤ length s → cond t 0 (suc (kept p s)) ≤ suc (length s)
      go true h = omega arith
      go false h = omega arith

  -- the last that is kept fails the test
  pub kept-last : (s : List ℕ) → 0 < kept p s → p (get_or s (kept p s - 1) 0) ≡ false
  unfolding kept
  kept-last [] h = absurd (omega arith)
  kept-last (b ∷ s) h = go (p b) refl (kept p s) (kept-last s) h
    where
      go : (t : Bool) → p b ≡ t → (k : ℕ) → (0 < k → p (get_or s (k - 1) 0) ≡ false) → 0 < cond (t && eqb k 0) 0 (suc k)
          → p (get_or (b ∷ s) (cond (t && eqb k 0) 0 (suc k) - 1) 0) ≡ false
      go true e zero ih h = absurd (omega arith)
      go true e (suc k) ih h = rw (ne_eqb (suc k) 0 (λ z. omega arith)) (simp unary_clauses (simp unary_clauses at (ih (omega arith))))
      go false e zero ih h = e
      go false e (suc k) ih h = simp unary_clauses (simp unary_clauses at (ih (omega arith)))

  -- one more at the end: dropped if it passes, else all are kept
  kept-pass : (s : List ℕ) (b : ℕ) → p b ≡ true → kept p (s ++ b ∷ []) ≡ kept p s
  unfolding kept
  kept-pass [] b e = rw e
  kept-pass (a ∷ s) b e = rw (kept-pass s b e)

  kept-fail : (s : List ℕ) (b : ℕ) → p b ≡ false → kept p (s ++ b ∷ []) ≡ suc (length s)
  unfolding kept
  kept-fail [] b e = rw e
  kept-fail (a ∷ s) b e = rw (kept-fail s b e) (go (p a) (ne_eqb (suc (length s)) 0 (λ z. omega arith)))
    where
      go : (t : Bool) → eqb (suc (length s)) 0 ≡ false → cond (t && eqb (suc (length s)) 0) 0 (suc (suc (length s))) ≡ suc (suc (length s))
      go true h = rw h
      go false h = refl

-- ---- the loop that drops from the end, as steps of its invariant `kept p s ≡ kept p (take i s)`

pub front : (s : List ℕ) (i : ℕ) → 0 < i → i ≤ length s → take i s ≡ take (i - 1) s ++ get_or s (i - 1) 0 ∷ []
front s zero h k = absurd (omega arith)
front s (suc i) h k = simp unary_clauses (take-suc s i 0 (omega arith))

pub kept-start : (p : ℕ → Bool) (s : List ℕ) → kept p s ≡ kept p (take (length s) s)
kept-start p s = ap (kept p) (sym (take-length s))

module _ (p : ℕ → Bool) (s : List ℕ) (i : ℕ) (q : kept p s ≡ kept p (take i s)) where
  pub kept_step : 0 < i → i ≤ length s → p (get_or s (i - 1) 0) ≡ true → kept p s ≡ kept p (take (i - 1) s)
  kept_step h k e = q ∙ ap (kept p) (front s i h k) ∙ kept-pass p (take (i - 1) s) (get_or s (i - 1) 0) e

  pub kept-done : 0 < i → i ≤ length s → p (get_or s (i - 1) 0) ≡ false → i ≡ kept p s
  kept-done h k e =
      let a : kept p s ≡ suc (length (take (i - 1) s)) = q ∙ ap (kept p) (front s i h k) ∙ kept-fail p (take (i - 1) s) (get_or s (i - 1) 0) e in
      omega (arith, length-take-le (i - 1) s (omega arith))

  pub kept-over : i ≤ 0 → i ≡ kept p s
  kept-over h = omega (arith, kept-le p (take i s), length-take i s)

-- a list whose last one fails is kept whole
pub kept_whole : (p : ℕ → Bool) (s : List ℕ) → 0 < length s → p (get_or s (length s - 1) 0) ≡ false → kept p s ≡ length s
kept_whole p s h e = sym (kept-done p s (length s) (kept-start p s) h (omega arith) e)

pub ruleset keeps = (kept-start, kept_step, kept-done, kept-over)

-- ---- a table's rule: one computed test, read off at each index

pub below_at : (n : ℕ) (p : ℕ → Bool) (i : ℕ) → below n p ≡ true → i < n → p i ≡ true
unfolding below
below_at zero p i e h = absurd (omega arith)
below_at (suc n) p i e h = go (eqb i n) refl (λ k. below_at n p i (and_right (p n) (below n p) e) k)
  where
    go : (x : Bool) → eqb i n ≡ x → (i < n → p i ≡ true) → p i ≡ true
    go true f ih = rw (eqb-true i n f) (and_left (p n) (below n p) e)
    go false f ih =
        let d : i ≡ n → ⊥ = eqb-false i n f in
        ih (omega arith)

-- ---- whole lists

module _ (p : ℕ → Bool) where
  pub all_whole : (s : List ℕ) → run p s ≡ length s → all p s ≡ true
  all_whole s e = rw (e, take-length s) at (all-run p s)

  -- whether a run of so many is the whole list
  module _ (s : List ℕ) (n : ℕ) (q : n ≡ run p s) where
    pub whole-not : n < length s → false ≡ all p s
    whole-not h = go (all p s) refl
      where
        go : (x : Bool) → all p s ≡ x → false ≡ x
        go true e = absurd (omega (arith, run-whole p s e))
        go false e = refl

    pub whole-all : length s ≤ n → true ≡ all p s
    whole-all h = sym (all_whole s (omega (arith, run-le p s)))

    pub whole_is : eqb n (length s) ≡ all p s
    whole_is = go (eqb n (length s)) refl
      where
        go : (x : Bool) → eqb n (length s) ≡ x → x ≡ all p s
        go true e = whole-all (omega (arith, eqb-true n (length s) e))
        go false e = whole-not (omega (arith, q, run-le p s, eqb-false n (length s) e))

  pub all_alike : (n a : ℕ) → p a ≡ true → all p (replicate n a) ≡ true
  unfolding all
  all_alike zero a e = refl
  all_alike (suc n) a e = and_both (p a) (all p (replicate n a)) e (all_alike n a e)

pub ruleset wholes = (whole-not, whole-all, whole_is)

-- all are one byte
pub alike : (a : ℕ) (s : List ℕ) → all (λ b. eqb b a) s ≡ true → s ≡ replicate (length s) a
unfolding all
alike a [] e = refl
alike a (b ∷ s) e =
    let h : b ≡ a = eqb-true b a (and_left (eqb b a) (all (λ x. eqb x a) s) e) in
    let k : s ≡ replicate (length s) a = alike a s (and_right (eqb b a) (all (λ x. eqb x a) s) e) in cc

-- a list by its last one
pub last-split {ℓ} : {A : Type ℓ} (s : List A) (d : A) → 1 ≤ length s → s ≡ take (length s - 1) s ++ get_or s (length s - 1) d ∷ []
last-split s d h =
    let z : drop (suc (length s - 1)) s ≡ [] = drop_of_length-le s {i = suc (length s - 1)} (omega arith) in
    let e : s ≡ take (length s - 1) s ++ get_or s (length s - 1) d ∷ drop (suc (length s - 1)) s = split_at s (length s - 1) d (omega arith) in
    e ∙ rw z

-- the first does not pass, so the run is none
pub run_none : (p : ℕ → Bool) (s : List ℕ) → p (get_or s 0 0) ≡ false → run p s ≡ 0
unfolding run
run_none p [] e = refl
run_none p (b ∷ s) e = rw e

-- ---- the loop that tries every byte at its place, as steps of `all_at p 0 s ≡ all_at p i (drop i s)`; a callee made the test

module _ (p : ℕ → ℕ → Bool) (s : List ℕ) (i : ℕ) (q : all_at p 0 s ≡ all_at p i (drop i s)) where
  pub at-over : length s ≤ i → true ≡ all_at p 0 s
  unfolding all_at
  at-over h = sym (q ∙ rw (left-none s i h))

  module _ (r : Bool) (h : i < length s) (e : r ≡ p i (get_or s i 0)) where
    at_on : all_at p 0 s ≡ (r && all_at p (i + 1) (drop (i + 1) s))
    unfolding all_at
    at_on = q ∙ rw (left s i 0 h, e, add-one)

    pub at-step : not r ≡ false → all_at p 0 s ≡ all_at p (i + 1) (drop (i + 1) s)
    at-step t = at_on ∙ rw (not-false r t)

    pub at-stop : not r ≡ true → false ≡ all_at p 0 s
    at-stop t = sym (at_on ∙ rw (not-true r t))

pub ruleset places = (at-over, at-step, at-stop)

-- ---- a part of a front is that part of the whole

pub front-part {ℓ} : {A : Type ℓ} (s : List A) (n i m : ℕ) → i + m ≤ n → take m (drop i (take n s)) ≡ take m (drop i s)
front-part s n zero m h = take-take m n s (omega arith)
front-part s zero (suc i) m h = absurd (omega arith)
front-part [] (suc n) (suc i) m h = refl
front-part (x ∷ s) (suc n) (suc i) m h = front-part s n i m (omega arith)

-- ---- the loop that copies, as steps of `take i d ≡ take i s`

module _ {ℓ} {A : Type ℓ} (s d : List A) (i : ℕ) (q : take i d ≡ take i s) where
  pub copy_step : (z : A) → i < length d → i < length s → take (i + 1) (set d i (get_or s i z)) ≡ take (i + 1) s
  copy_step z h k = rw add-one (rw (take-suc-set d i (get_or s i z) h, take-suc s i z k, q))

  pub copy_done : length d ≤ i → length s ≤ i → d ≡ s
  copy_done h k = sym (take_all i d h) ∙ q ∙ take_all i s k

-- ---- the loop that looks for n, as steps of its invariant; `b` is the number that it read

module _ (s : List ℕ) (n i : ℕ) (q : holds s n ≡ holds (drop i s) n) (b : ℕ) (e : b ≡ get_or s i 0) (h : i < length s) where
  pub holds-stop : b ≡ n → true ≡ holds s n
  unfolding holds
  holds-stop f = sym (q ∙ rw (left s i 0 h, ← e, eq-eqb n b (sym f)))

  pub holds-step : (b ≡ n → ⊥) → holds s n ≡ holds (drop (i + 1) s) n
  unfolding holds
  holds-step f = q ∙ rw (left s i 0 h, ← e, ne_eqb n b (λ z. f (sym z)))

pub holds-over : (s : List ℕ) (n i : ℕ) → holds s n ≡ holds (drop i s) n → length s ≤ i → false ≡ holds s n
unfolding holds
holds-over s n i q h = sym (q ∙ rw (left-none s i h))

pub ruleset finds = (holds-stop, holds-step, holds-over)

-- ---- a table that is a function: its values below n

unfoldable pub values {ℓ} : {A : Type ℓ} → (ℕ → A) → ℕ → List A
values f zero = []
values f (suc n) = f 0 ∷ values (λ (i : ℕ). f (suc i)) n

pub values-at {ℓ} : {A : Type ℓ} (f : ℕ → A) (n i : ℕ) (d : A) → i < n → get_or (values f n) i d ≡ f i
unfolding values
values-at f zero i d h = absurd (omega arith)
values-at f (suc n) zero d h = refl
values-at f (suc n) (suc i) d h = values-at (λ (j : ℕ). f (suc j)) n i d (omega arith)

pub values_length {ℓ} : {A : Type ℓ} (f : ℕ → A) (n : ℕ) → length (values f n) ≡ n
unfolding values
values_length f zero = refl
values_length f (suc n) = ap suc (values_length (λ (i : ℕ). f (suc i)) n)

-- a list is a function's values where each of its elements is
pub values-are {ℓ} : {A : Type ℓ} (s : List A) (f : ℕ → A) (n : ℕ) (d : A) → length s ≡ n → ((i : ℕ) → i < n → get_or s i d ≡ f i) → s ≡ values f n
values-are s f n d l h = ext_get_or d s (values f n) (l ∙ sym (values_length f n)) (λ i k. h i (omega arith) ∙ sym (values-at f n i d (omega arith)))

-- a test that is weaker at every place passes too
pub all-at-weaken : (p : ℕ → ℕ → Bool) (q : ℕ → Bool) → ((i b : ℕ) → p i b ≡ true → q b ≡ true) → (i : ℕ) (s : List ℕ) → all_at p i s ≡ true → all q s ≡ true
unfolding all_at all
all-at-weaken p q w i [] e = refl
all-at-weaken p q w i (b ∷ s) e =
    and_both (q b) (all q s) (w i b (and_left (p i b) (all_at p (suc i) s) e)) (all-at-weaken p q w (suc i) s (and_right (p i b) (all_at p (suc i) s) e))

-- every number below n passes, so the test of them all does
pub below_all : (n : ℕ) (p : ℕ → Bool) → ((i : ℕ) → i < n → p i ≡ true) → below n p ≡ true
unfolding below
below_all zero p f = refl
below_all (suc n) p f = and_both (p n) (below n p) (f n (omega arith)) (below_all n p (λ i h. f i (omega arith)))

-- a list of one value alone has it at every place, and so past its end
pub alike_at {ℓ} : {A : Type ℓ} (n i : ℕ) (a : A) → get_or (replicate n a) i a ≡ a
alike_at zero i a = refl
alike_at (suc n) zero a = refl
alike_at (suc n) (suc i) a = alike_at n i a

-- ---- `holds` at the front

module _ (s : List ℕ) (a n : ℕ) where
  pub holds-here : n ≡ a → holds (a ∷ s) n ≡ true
  unfolding holds
  holds-here e = rw (eq-eqb n a e)

  pub holds-there : (n ≡ a → ⊥) → holds (a ∷ s) n ≡ holds s n
  unfolding holds
  holds-there f = rw (ne_eqb n a f)

-- ---- the loop that counts down, as steps of its invariant `below n p ≡ below i p`

pub below_on : (i : ℕ) (p : ℕ → Bool) → 0 < i → below i p ≡ (p (i - 1) && below (i - 1) p)
unfolding below
below_on zero p h = absurd (omega arith)
below_on (suc i) p h = simp unary_clauses

-- the part `&s[..n]` has n elements
pub part_count {ℓ} : {A : Type ℓ} (n : ℕ) (s : List A) → n ≤ length s → n ≡ length (take n s)
part_count n s h = sym (length-take-le n s h)
