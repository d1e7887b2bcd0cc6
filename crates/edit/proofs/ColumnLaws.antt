-- A sheet without one of its rows, table by table: what stands before the row's own part, and what stands behind it. Assumes nothing.
use mathlib.Core.Path.{◌≡◌, refl, sym, ◌∙◌, ap, ap₂}
use mathlib.Core.List.{List, ◌++◌, append_assoc}
use Prim.Native.Nat.{ℕ, zero, suc, ◌+◌, ◌-◌, ◌*◌, ◌≤◌, ◌<◌}
use native.Mathlib.Omega.{arith}
use lib.ListN.{get_or, take, drop}
use lib.Seq.{take-add, drop-drop}
use lib.IntN.{ℤ, pos}
use Rattle.std.proofs.Common.{Result, Ok, Err}
use Rattle.laws.specs.Lists.{over}
use Rattle.record.specs.declared.Mode.{Mode}
use Rattle.kinds.specs.Kinds.{row_width, letters_place, islands_place, vertices_place}
use Rattle.sheet.specs.Tables.{Tables, ◌then◌, Starts}
use Rattle.made.specs.Made.{nat_of, count_at, first_of, rest_of, counts_of, Before, past_row, judge_rows, used_of}
use Rattle.made.proofs.RowWays.{Held, made_held}
use Rattle.made.proofs.OwnLaws.{cell-alike, first-own, rest-own}
use Rattle.made.proofs.UsedLaws.{total, used-front, fine-on}
use Rattle.edit.specs.Removals.{fall_from, taken_back, without}
use Rattle.edit.specs.Closing.{closed_up}
use Rattle.edit.proofs.FallLaws.{back-rest, back_count}

-- what k rows leave
unfoldable pub rest_at : ℕ → Tables → Tables
rest_at zero t = t
rest_at (suc k) t = rest_at k (rest_of t)

pub rest-rows : (k : ℕ) (t : Tables) → (rest_at k t).rows ≡ drop (row_width * k) t.rows
unfolding rest_at
rest-rows zero t = refl
rest-rows (suc k) t =
    let z : row_width + row_width * k ≡ row_width * suc k = omega arith in
    rest-rows k (rest_of t) ∙ drop-drop (row_width * k) row_width t.rows ∙ ap (λ (j : ℕ). drop j t.rows) z

pub count-rest : (k : ℕ) (t : Tables) (p : ℕ) → count_at (rest_at k t) p ≡ nat_of (get_or (drop (row_width * k) t.rows) p (pos 0))
count-rest k t p = ap (λ (rows : List ℤ). nat_of (get_or rows p (pos 0))) (rest-rows k t)

-- ---- a table of which each row has as many as a count says

pub record Column {A : Type 0} (col : Tables → List A) (g : Tables → ℕ) (tot : ℕ → Tables → ℕ) : Type 0 where
  pub none : (t : Tables) → tot 0 t ≡ 0
  pub more : (n : ℕ) (t : Tables) → tot (suc n) t ≡ g t + tot n (rest_of t)
  pub first : (t : Tables) → col (first_of t) ≡ take (g t) (col t)
  pub rest : (t : Tables) → col (rest_of t) ≡ drop (g t) (col t)
  pub join : (a b : Tables) → col (a then b) ≡ col a ++ col b
  pub back : (s : Starts) (t : Tables) → col (taken_back s t) ≡ col t
  pub used : (n : ℕ) (t : Tables) → col (used_of n t) ≡ take (tot n t) (col t)
  pub back-g : (s : Starts) (t : Tables) → g (taken_back s t) ≡ g t
  pub first-g : (t u : Tables) → Held t → g (first_of t then u) ≡ g t

count-first : (t u : Tables) (p : ℕ) → p < row_width → Held t → count_at (first_of t then u) p ≡ count_at t p
count-first t u p h r = ap nat_of (cell-alike (first_of t then u) t (first-own t u r) p h)

pub letters_column : Column (λ t. t.letters) (λ t. count_at t letters_place) (total letters_place)
unfolding total
letters_column =
    record {
      none = λ t. refl;
      more = λ n t. refl;
      first = λ t. refl;
      rest = λ t. refl;
      join = λ a b. refl;
      back = λ s t. refl;
      used = λ n t. ap (λ (x : Tables). x.letters) (used-front n t);
      back-g = λ s t. back_count s t letters_place (omega arith);
      first-g = λ t u r. count-first t u letters_place (omega arith) r;
    }

pub islands_column : Column (λ t. t.islands) (λ t. count_at t islands_place) (total islands_place)
unfolding total
islands_column =
    record {
      none = λ t. refl;
      more = λ n t. refl;
      first = λ t. refl;
      rest = λ t. refl;
      join = λ a b. refl;
      back = λ s t. refl;
      used = λ n t. ap (λ (x : Tables). x.islands) (used-front n t);
      back-g = λ s t. back_count s t islands_place (omega arith);
      first-g = λ t u r. count-first t u islands_place (omega arith) r;
    }

pub points_column : Column (λ t. t.points) (λ t. 2 * count_at t vertices_place) (λ n t. 2 * total vertices_place n t)
unfolding total
points_column =
    record {
      none = λ t. refl;
      more = λ n t. (let z : 2 * (count_at t vertices_place + total vertices_place n (rest_of t)) ≡ 2 * count_at t vertices_place + 2 * total vertices_place n (rest_of t) = omega arith in z);
      first = λ t. refl;
      rest = λ t. refl;
      join = λ a b. refl;
      back = λ s t. refl;
      used = λ n t. ap (λ (x : Tables). x.points) (used-front n t);
      back-g = λ s t. ap (λ (n : ℕ). 2 * n) (back_count s t vertices_place (omega arith));
      first-g = λ t u r. ap (λ (n : ℕ). 2 * n) (count-first t u vertices_place (omega arith) r);
    }

module _ {A : Type 0} {col : Tables → List A} {g : Tables → ℕ} {tot : ℕ → Tables → ℕ} (c : Column col g tot) where
  flat : (k : ℕ) (t : Tables) → col (without k t) ≡ take (tot k t) (col t) ++ drop (tot k t + g (rest_at k t)) (col t)
  unfolding without rest_at
  flat zero t =
      let z : tot 0 t + g t ≡ g t = omega (arith, c.none t) in
      c.back (counts_of t) (rest_of t) ∙ c.rest t ∙ rw (z, c.none t)
  flat (suc k) t =
      let a = tot k (rest_of t) in
      let b = g (rest_at k (rest_of t)) in
      let z : g t + (a + b) ≡ g t + a + b = omega arith in
      c.join (first_of t) (without k (rest_of t)) ∙ ap₂ (λ (x y : List A). x ++ y) (c.first t) (flat k (rest_of t))
      ∙ ap (λ (x : List A). take (g t) (col t) ++ (take a x ++ drop (a + b) x)) (c.rest t)
      ∙ sym (append_assoc (take (g t) (col t)) (take a (drop (g t) (col t))) (drop (a + b) (drop (g t) (col t))))
      ∙ ap₂ (λ (x y : List A). x ++ y) (sym (take-add (g t) a (col t))) (drop-drop (a + b) (g t) (col t) ∙ ap (λ (j : ℕ). drop j (col t)) z)
      ∙ rw (← c.more k t)

  tot-back : (n : ℕ) (s : Starts) (t : Tables) → tot n (taken_back s t) ≡ tot n t
  tot-back zero s t = c.none (taken_back s t) ∙ sym (c.none t)
  tot-back (suc n) s t = c.more n (taken_back s t) ∙ ap₂ (λ (x y : ℕ). x + y) (c.back-g s t) (ap (tot n) (back-rest s t) ∙ tot-back n s (rest_of t)) ∙ sym (c.more n t)

  -- the others have what all have, less what the row has
  pub tot-without : (mode : Mode) (n k : ℕ) (b : Before) (t : Tables) → judge_rows mode (suc n) b t ≡ Ok tt → k ≤ n → tot n (without k t) + g (rest_at k t) ≡ tot (suc n) t
  unfolding without rest_at
  tot-without mode n zero b t e h = omega (arith, tot-back n (counts_of t) (rest_of t), c.more n t)
  tot-without mode zero (suc k) b t e h = absurd (omega arith)
  tot-without mode (suc n) (suc k) b t e h =
      let f = fine-on mode (suc n) b t e in
      let r = made_held t f.0 in
      let w = without k (rest_of t) in
      let i = tot-without mode n k (past_row b t) (rest_of t) f.1 (omega arith) in
      omega (arith, c.more n (first_of t then w), c.first-g t w r, ap (tot n) (rest-own t w r), i, c.more (suc n) t)

  pub tot-upto : (n k : ℕ) (t : Tables) → k < n → tot k t + g (rest_at k t) ≤ tot n t
  unfolding rest_at
  tot-upto zero k t h = absurd (omega arith)
  tot-upto (suc n) zero t h = omega (arith, c.none t, c.more n t)
  tot-upto (suc n) (suc k) t h = omega (arith, c.more n t, c.more k t, tot-upto n k (rest_of t) (omega arith))

  -- closed up
  pub closed : (mode : Mode) (n k : ℕ) (b : Before) (t : Tables) → judge_rows mode (suc n) b t ≡ Ok tt → k ≤ n
      → closed_up (tot k t) (g (rest_at k t)) (tot (suc n) t) (col t) ≡ over (col (used_of n (without k t))) (col t)
  closed mode n k b t e h =
      let z : tot (suc n) t - g (rest_at k t) ≡ tot n (without k t) = omega (arith, tot-without mode n k b t e h) in
      ap (λ (x : List A). over x (col t)) (ap₂ (λ (j : ℕ) (x : List A). take j x) z (sym (flat k t)) ∙ sym (c.used n (without k t)))

  pub tot-last : (k : ℕ) (t : Tables) → tot k t + g (rest_at k t) ≡ tot (suc k) t
  unfolding rest_at
  tot-last zero t = omega (arith, c.none t, c.more 0 t, c.none (rest_of t))
  tot-last (suc k) t = omega (arith, c.more k t, c.more (suc k) t, tot-last k (rest_of t))

-- ---- the rows

pub rows-flat : (k : ℕ) (t : Tables) → (without k t).rows ≡ take (row_width * k) t.rows ++ fall_from (counts_of (rest_at k t)) 0 (drop (row_width * suc k) t.rows)
unfolding without rest_at
rows-flat zero t = refl
rows-flat (suc k) t =
    let s = counts_of (rest_at k (rest_of t)) in
    let z : row_width + row_width * k ≡ row_width * suc k = omega arith in
    let y : row_width + row_width * suc k ≡ row_width * suc (suc k) = omega arith in
    ap (λ (x : List ℤ). take row_width t.rows ++ x) (rows-flat k (rest_of t))
    ∙ sym (append_assoc (take row_width t.rows) (take (row_width * k) (drop row_width t.rows)) (fall_from s 0 (drop (row_width * suc k) (drop row_width t.rows))))
    ∙ ap₂ (λ (x w : List ℤ). x ++ fall_from s 0 w) (sym (take-add row_width (row_width * k) t.rows) ∙ ap (λ (j : ℕ). take j t.rows) z)
    (drop-drop (row_width * suc k) row_width t.rows ∙ ap (λ (j : ℕ). drop j t.rows) y)
