-- Starts of rows: what they are where rows come to stand behind others. Document 02, T-07. Assumes nothing.
use mathlib.Core.Path.{◌≡◌, refl, sym, ◌∙◌, ap, ap₂}
use mathlib.Core.List.{List, [], ◌∷◌, ◌++◌, append_assoc, append-nil}
use mathlib.Core.Bool.{Bool, true, false, cond}
use Prim.Native.Nat.{ℕ, zero, suc, ◌+◌, ◌-◌, ◌/◌, ◌%◌, ◌≤◌, ◌<◌}
use native.Mathlib.Omega.{arith}
use lib.ListN.{length, get_or, take, drop, set, replicate, get_or-replicate, length-append, get_or-append}
use lib.Dec.{eqb}
use lib.IntN.{ℤ, pos, ◌+ℤ◌, +ℤ_idr, +ℤ_assoc, pos-+ℤ-pos}
use borrow.Author.Tests.{eqb-true, eqb-false, ne_eqb}
use Rattle.kinds.specs.Kinds.{row_width, own_width, first_letter_place, first_island_place, first_point_place, fixed_vertices, unsaid}
use Rattle.sheet.specs.Tables.{Tables, empty, Starts, no_starts, ◌plus◌, starts_of, move_at, move_from, moved_on, start_cells, ◌followed◌, own_cells, new_row}

-- ---- a new row

-- what it has behind kind and outside, before its starts
pub own_at : (t q : ℕ) → 2 ≤ q → q ≤ 11 → get_or (own_cells t) q (pos 0) ≡ pos (unsaid (t / 2) q)
unfolding unsaid
own_at t q h k = go (eqb q 11) refl
  where
    go : (b : Bool) → eqb q 11 ≡ b → get_or (own_cells t) q (pos 0) ≡ pos (cond b (fixed_vertices (t / 2)) 0)
    go true e = ap (λ (i : ℕ). get_or (own_cells t) i (pos 0)) (eqb-true q 11 e)
    go false e =
        let n = eqb-false q 11 e in
        let two : q ≡ suc (suc (q - 2)) = omega arith in
        ap (λ (i : ℕ). get_or (own_cells t) i (pos 0)) two
        ∙ get_or-append (replicate 9 (pos 0)) (pos (fixed_vertices (t / 2)) ∷ []) (pos 0) (q - 2) (omega arith)
        ∙ get_or-replicate 9 (q - 2) (pos 0) (pos 0) (omega arith)

pub new-at : (t q : ℕ) (s : Starts) → 2 ≤ q → q ≤ 11 → get_or (new_row t s) q (pos 0) ≡ pos (unsaid (t / 2) q)
new-at t q s h k = get_or-append (own_cells t) (start_cells s) (pos 0) q (omega arith) ∙ own_at t q h k

-- and its starts
pub new-starts : (t : ℕ) (s : Starts)
    → (get_or (new_row t s) first_letter_place (pos 0) ≡ pos s.letters) × (get_or (new_row t s) first_island_place (pos 0) ≡ pos s.islands) × (get_or (new_row t s) first_point_place (pos 0) ≡ pos s.points)
new-starts t s = (refl, refl, refl)

-- ---- rows whose starts are moved on

-- what the section gives is not moved
pub move-own : (s : Starts) (p : ℕ) → p < own_width → move_at s p ≡ 0
unfolding move_at
move-own s p h =
    rw (ne_eqb p first_letter_place (λ e. omega arith), ne_eqb p first_island_place (λ e. omega arith), ne_eqb p first_point_place (λ e. omega arith))

module _ (s : Starts) where
  move-length : (p : ℕ) (l : List ℤ) → length (move_from s p l) ≡ length l
  unfolding move_from
  move-length p [] = refl
  move-length p (z ∷ l) = ap suc (move-length (suc p) l)

  move-append : (p : ℕ) (xs ys : List ℤ) → move_from s p (xs ++ ys) ≡ move_from s p xs ++ move_from s (p + length xs) ys
  unfolding move_from
  move-append p [] ys = let e : p ≡ p + 0 = omega arith in ap (λ (q : ℕ). move_from s q ys) e
  move-append p (x ∷ xs) ys =
      let e : suc p + length xs ≡ p + suc (length xs) = omega arith in
      ap (λ (l : List ℤ). (x +ℤ pos (move_at s (p % row_width))) ∷ l) (move-append (suc p) xs ys ∙ ap (λ (q : ℕ). move_from s (suc p) xs ++ move_from s q ys) e)

  -- only the place in a row counts
  move-round : (p q : ℕ) (l : List ℤ) → p % row_width ≡ q % row_width → move_from s p l ≡ move_from s q l
  unfolding move_from
  move-round p q [] e = refl
  move-round p q (z ∷ l) e =
      ap₂ (λ (n : ℕ) (k : List ℤ). (z +ℤ pos (move_at s n)) ∷ k) e (move-round (suc p) (suc q) l (omega arith))

  move-at : (p i : ℕ) (l : List ℤ) (d : ℤ) → i < length l → get_or (move_from s p l) i d ≡ get_or l i d +ℤ pos (move_at s ((p + i) % row_width))
  unfolding move_from
  move-at p i [] d h = absurd (omega arith)
  move-at p zero (z ∷ l) d h = let e : p ≡ p + 0 = omega arith in ap (λ (q : ℕ). z +ℤ pos (move_at s (q % row_width))) e
  move-at p (suc i) (z ∷ l) d h =
      let e : suc p + i ≡ p + suc i = omega arith in
      move-at (suc p) i l d (omega arith) ∙ ap (λ (q : ℕ). get_or l i d +ℤ pos (move_at s (q % row_width))) e

  move_same : (p i : ℕ) (l : List ℤ) (d : ℤ) → (p + i) % row_width < own_width → get_or (move_from s p l) i d ≡ get_or l i d
  unfolding move_from
  move_same p i [] d h = refl
  move_same p zero (z ∷ l) d h =
      rw (move-own s (p % row_width) (omega arith)) (+ℤ_idr z)
  move_same p (suc i) (z ∷ l) d h = move_same (suc p) i l d (let e : suc p + i ≡ p + suc i = omega arith in rw e h)

  move-set : (p i : ℕ) (l : List ℤ) (v : ℤ) → (p + i) % row_width < own_width → move_from s p (set l i v) ≡ set (move_from s p l) i v
  unfolding move_from
  move-set p i [] v h = refl
  move-set p zero (z ∷ l) v h = ap (λ (y : ℤ). y ∷ move_from s (suc p) l) (rw (move-own s (p % row_width) (omega arith)) (+ℤ_idr v))
  move-set p (suc i) (z ∷ l) v h =
      ap (λ (k : List ℤ). (z +ℤ pos (move_at s (p % row_width))) ∷ k) (move-set (suc p) i l v (let e : suc p + i ≡ p + suc i = omega arith in rw e h))

  move-drop : (p n : ℕ) (l : List ℤ) → drop n (move_from s p l) ≡ move_from s (p + n) (drop n l)
  unfolding move_from
  move-drop p zero l = let e : p ≡ p + 0 = omega arith in ap (λ (q : ℕ). move_from s q l) e
  move-drop p (suc n) [] = refl
  move-drop p (suc n) (z ∷ l) = let e : suc p + n ≡ p + suc n = omega arith in move-drop (suc p) n l ∙ ap (λ (q : ℕ). move_from s q (drop n l)) e

  move-take : (p n : ℕ) (l : List ℤ) → take n (move_from s p l) ≡ move_from s p (take n l)
  unfolding move_from
  move-take p zero l = refl
  move-take p (suc n) [] = refl
  move-take p (suc n) (z ∷ l) = ap (λ (k : List ℤ). (z +ℤ pos (move_at s (p % row_width))) ∷ k) (move-take (suc p) n l)

  -- they are as many
  pub length_moved : (l : List ℤ) → length (moved_on s l) ≡ length l
  length_moved l = move-length 0 l

  -- **only starts are moved**: every other number of a row stays
  pub moved_same : (l : List ℤ) (i : ℕ) (d : ℤ) → i % row_width < own_width → get_or (moved_on s l) i d ≡ get_or l i d
  moved_same l i d h = move_same 0 i l d (let e : 0 + i ≡ i = omega arith in rw e h)

  pub moved-own : (l : List ℤ) (i : ℕ) (d : ℤ) → i < own_width → get_or (moved_on s l) i d ≡ get_or l i d
  moved-own l i d h = moved_same l i d (omega arith)

  -- each number, by its place
  pub moved_at : (l : List ℤ) (i : ℕ) (d : ℤ) → i < length l → get_or (moved_on s l) i d ≡ get_or l i d +ℤ pos (move_at s (i % row_width))
  moved_at l i d h = let e : 0 + i ≡ i = omega arith in move-at 0 i l d h ∙ ap (λ (q : ℕ). get_or l i d +ℤ pos (move_at s (q % row_width))) e

  -- whole rows, and what follows them
  pub moved-append : (xs ys : List ℤ) → length xs % row_width ≡ 0 → moved_on s (xs ++ ys) ≡ moved_on s xs ++ moved_on s ys
  moved-append xs ys h = move-append 0 xs ys ∙ ap (λ (l : List ℤ). moved_on s xs ++ l) (move-round (0 + length xs) 0 ys (omega arith))

  pub moved-drop : (n : ℕ) (l : List ℤ) → n % row_width ≡ 0 → drop n (moved_on s l) ≡ moved_on s (drop n l)
  moved-drop n l h = move-drop 0 n l ∙ move-round (0 + n) 0 (drop n l) (omega arith)

  pub moved-take : (n : ℕ) (l : List ℤ) → take n (moved_on s l) ≡ moved_on s (take n l)
  moved-take n l = move-take 0 n l

  pub moved-set : (l : List ℤ) (i : ℕ) (v : ℤ) → i % row_width < own_width → moved_on s (set l i v) ≡ set (moved_on s l) i v
  moved-set l i v h = move-set 0 i l v (let e : 0 + i ≡ i = omega arith in rw e h)

none-at : (q : ℕ) → move_at no_starts q ≡ 0
unfolding move_at
none-at q = go (eqb q first_letter_place) (eqb q first_island_place) (eqb q first_point_place)
  where
    go : (a b c : Bool) → ◌≡◌ {A = ℕ} (cond a 0 (cond b 0 (cond c 0 0))) 0
    go true b c = refl
    go false true c = refl
    go false false true = refl
    go false false false = refl

both_at : (s r : Starts) (q : ℕ) → move_at r q + move_at s q ≡ move_at (s plus r) q
unfolding move_at
both_at s r q = go (eqb q first_letter_place) (eqb q first_island_place) (eqb q first_point_place)
  where
    go : (a b c : Bool) → cond a r.letters (cond b r.islands (cond c r.points 0)) + cond a s.letters (cond b s.islands (cond c s.points 0))
        ≡ cond a (s.letters + r.letters) (cond b (s.islands + r.islands) (cond c (s.points + r.points) 0))
    go true b c = omega arith
    go false true c = omega arith
    go false false true = omega arith
    go false false false = omega arith

move-none : (p : ℕ) (l : List ℤ) → move_from no_starts p l ≡ l
unfolding move_from
move-none p [] = refl
move-none p (z ∷ l) = ap₂ (λ (y : ℤ) (k : List ℤ). y ∷ k) (ap (λ (n : ℕ). z +ℤ pos n) (none-at (p % row_width)) ∙ +ℤ_idr z) (move-none (suc p) l)

move-both : (s r : Starts) (p : ℕ) (l : List ℤ) → move_from s p (move_from r p l) ≡ move_from (s plus r) p l
unfolding move_from
move-both s r p [] = refl
move-both s r p (z ∷ l) =
    ap₂ (λ (y : ℤ) (k : List ℤ). y ∷ k)
    (+ℤ_assoc z (pos (move_at r (p % row_width))) (pos (move_at s (p % row_width)))
    ∙ ap (λ (y : ℤ). z +ℤ y) (pos-+ℤ-pos (move_at r (p % row_width)) (move_at s (p % row_width)) ∙ ap pos (both_at s r (p % row_width))))
    (move-both s r (suc p) l)

-- by nothing, and twice
pub moved_none : (l : List ℤ) → moved_on no_starts l ≡ l
moved_none l = move-none 0 l

pub moved-both : (s r : Starts) (l : List ℤ) → moved_on s (moved_on r l) ≡ moved_on (s plus r) l
moved-both s r l = move-both s r 0 l

-- **a new row that comes to stand behind others** has its starts behind theirs
pub moved_new : (t : ℕ) (s r : Starts) → moved_on s (new_row t r) ≡ new_row t (s plus r)
unfolding move_from move_at
moved_new t s r =
    let a : t / 2 + 0 ≡ t / 2 = omega arith in
    let b : t % 2 + 0 ≡ t % 2 = omega arith in
    let c : fixed_vertices (t / 2) + 0 ≡ fixed_vertices (t / 2) = omega arith in
    let l : r.letters + s.letters ≡ s.letters + r.letters = omega arith in
    let i : r.islands + s.islands ≡ s.islands + r.islands = omega arith in
    let p : r.points + s.points ≡ s.points + r.points = omega arith in
    rw (a, b, c, l, i, p)

-- ---- one sheet's elements followed by another's

-- where the next row begins: behind both, as a sheet's points are pairs
pub starts-followed : (a b : Tables) → length a.points % 2 ≡ 0 → starts_of (a followed b) ≡ starts_of a plus starts_of b
starts-followed a b h =
    let p : length (a.points ++ b.points) / 2 ≡ length a.points / 2 + length b.points / 2 = omega (arith, length-append a.points b.points) in
    λ i. record { letters = length-append a.letters b.letters i; islands = length-append a.islands b.islands i; points = p i }

pub followed-empty : (a : Tables) → a followed empty ≡ a
unfolding move_from
followed-empty a = simp append-nil

pub empty-followed : (a : Tables) → empty followed a ≡ a
empty-followed a = let e = moved_none a.rows in λ i. record { rows = e i; letters = a.letters; islands = a.islands; points = a.points }

pub followed-assoc : (a b c : Tables) → length a.points % 2 ≡ 0 → length b.rows % row_width ≡ 0 → (a followed b) followed c ≡ a followed (b followed c)
followed-assoc a b c h k =
    let s = starts_of a in
    let r = starts_of b in
    let rows : (a.rows ++ moved_on s b.rows) ++ moved_on (starts_of (a followed b)) c.rows ≡ a.rows ++ moved_on s (b.rows ++ moved_on r c.rows) =
    append_assoc a.rows (moved_on s b.rows) (moved_on (starts_of (a followed b)) c.rows)
    ∙ ap (λ (l : List ℤ). a.rows ++ l)
    (ap (λ (z : Starts). moved_on s b.rows ++ moved_on z c.rows) (starts-followed a b h)
    ∙ ap (λ (l : List ℤ). moved_on s b.rows ++ l) (sym (moved-both s r c.rows))
    ∙ sym (moved-append s b.rows (moved_on r c.rows) k)) in
    λ i. record {
      rows = rows i;
      letters = append_assoc a.letters b.letters c.letters i;
      islands = append_assoc a.islands b.islands c.islands i;
      points = append_assoc a.points b.points c.points i;
    }
