-- Starts that fall and starts that are moved on undo each other, so rows that fall back are fine where they come to stand. Assumes nothing.
use mathlib.Core.Path.{◌≡◌, refl, sym, ◌∙◌, ap, ap₂}
use mathlib.Core.List.{List, [], ◌∷◌, ◌++◌, append_assoc}
use mathlib.Core.Bool.{true}
use Prim.Native.Nat.{ℕ, zero, suc, ◌+◌, ◌*◌, ◌%◌, ◌≤◌, ◌<◌}
use native.Mathlib.Omega.{arith}
use lib.ListN.{length, get_or, take, drop, length-drop}
use lib.Seq.{take-add, drop-drop, length-take-le}
use lib.IntN.{ℤ, pos, ◌+ℤ◌, ◌-ℤ◌}
use Rattle.std.proofs.Common.{Result, Ok, Err}
use Rattle.laws.proofs.Parts.{num, sum, diff, eq-parts}
use Rattle.record.specs.declared.Mode.{Mode}
use Rattle.kinds.specs.Kinds.{row_width, code_place, letters_place, islands_place, vertices_place, first_letter_place, first_island_place, first_point_place}
use Rattle.sheet.specs.Tables.{Tables, Starts, ◌plus◌, move_at, move_from, moved_on, starting_at}
use Rattle.sheet.proofs.StartLaws.{moved-own, moved_at}
use Rattle.made.specs.Made.{nat_of, count_at, kind_of, own_of, rest_of, is_made, are_starts, Before, past_row, is_coded, judge_rows}
use Rattle.made.proofs.RowWays.{made_held}
use Rattle.made.proofs.UsedLaws.{fine-on, fine_before}
use Rattle.made.proofs.StartLaws.{Starting, starts-are, are-starts, own-moved, made-moved, rest-moved}
use Rattle.edit.specs.Rows.{each_row}
use Rattle.edit.specs.Removals.{fall_from, taken_back}
use Rattle.edit.specs.Closing.{fallen_row}

-- ---- each undoes the other

less-more : (z d : ℤ) → (z -ℤ d) +ℤ d ≡ z
less-more z d = eq-parts ((z -ℤ d) +ℤ d) z (omega (arith, num z, num d, diff z d, sum (z -ℤ d) d))

more-less : (z d : ℤ) → (z +ℤ d) -ℤ d ≡ z
more-less z d = eq-parts ((z +ℤ d) -ℤ d) z (omega (arith, num z, num d, sum z d, diff (z +ℤ d) d))

fall-move : (s : Starts) (p : ℕ) (l : List ℤ) → move_from s p (fall_from s p l) ≡ l
unfolding move_from fall_from
fall-move s p [] = refl
fall-move s p (z ∷ zs) = ap₂ (λ (a : ℤ) (b : List ℤ). a ∷ b) (less-more z (pos (move_at s (p % row_width)))) (fall-move s (suc p) zs)

move-fall : (s : Starts) (p : ℕ) (l : List ℤ) → fall_from s p (move_from s p l) ≡ l
unfolding move_from fall_from
move-fall s p [] = refl
move-fall s p (z ∷ zs) = ap₂ (λ (a : ℤ) (b : List ℤ). a ∷ b) (more-less z (pos (move_at s (p % row_width)))) (move-fall s (suc p) zs)

module _ (s : Starts) (t : Tables) where
  pub back-starting : starting_at s (taken_back s t) ≡ t
  back-starting = rw (fall-move s 0 t.rows)

  pub starting-back : taken_back s (starting_at s t) ≡ t
  starting-back = rw (move-fall s 0 t.rows)

-- ---- rows that fall

module _ (s : Starts) (t : Tables) where
  pub back-own : own_of (taken_back s t) ≡ own_of t
  back-own = sym (own-moved s (taken_back s t)) ∙ ap own_of (back-starting s t)

  pub back-made : is_made (taken_back s t) ≡ is_made t
  back-made = sym (made-moved s (taken_back s t)) ∙ ap is_made (back-starting s t)

  pub back-rest : rest_of (taken_back s t) ≡ taken_back s (rest_of t)
  back-rest = sym (starting-back s (rest_of (taken_back s t))) ∙ ap (taken_back s) (sym (rest-moved s (taken_back s t)) ∙ ap rest_of (back-starting s t))

  pub back_count : (p : ℕ) → p < 12 → count_at (taken_back s t) p ≡ count_at t p
  back_count p h = ap nat_of (sym (moved-own s (fall_from s 0 t.rows) p (pos 0) h) ∙ ap (λ (l : List ℤ). get_or l p (pos 0)) (fall-move s 0 t.rows))

cancel : (z : ℤ) (a b : ℕ) → z +ℤ pos a ≡ pos (a + b) → z ≡ pos b
cancel z a b e = sym (more-less z (pos a)) ∙ ap (λ (x : ℤ). x -ℤ pos a) e ∙ eq-parts (pos (a + b) -ℤ pos a) (pos b) (omega (arith, num (pos (a + b)), diff (pos (a + b)) (pos a)))

-- the starts and what is passed, before and behind
started : (s : Starts) (t : Tables) (b : Starts) → row_width ≤ length t.rows → Starting (s plus b) (moved_on s t.rows) → Starting b t.rows
unfolding move_at
started s t b l r =
    record {
      letters = cancel (get_or t.rows first_letter_place (pos 0)) s.letters b.letters (sym (moved_at s t.rows first_letter_place (pos 0) (omega arith)) ∙ r.letters);
      islands = cancel (get_or t.rows first_island_place (pos 0)) s.islands b.islands (sym (moved_at s t.rows first_island_place (pos 0) (omega arith)) ∙ r.islands);
      points = cancel (get_or t.rows first_point_place (pos 0)) s.points b.points (sym (moved_at s t.rows first_point_place (pos 0) (omega arith)) ∙ r.points);
    }

past-on : (s : Starts) (b c : Before) (t : Tables) → c.starts ≡ s plus b.starts → (past_row c (starting_at s t)).starts ≡ s plus (past_row b t).starts
past-on s b c t q =
    let own = moved-own s t.rows in
    let x : s.letters + b.starts.letters + count_at t letters_place ≡ s.letters + (b.starts.letters + count_at t letters_place) = omega arith in
    let y : s.islands + b.starts.islands + count_at t islands_place ≡ s.islands + (b.starts.islands + count_at t islands_place) = omega arith in
    let z : s.points + b.starts.points + count_at t vertices_place ≡ s.points + (b.starts.points + count_at t vertices_place) = omega arith in
    rw (q, own letters_place (pos 0) (omega arith), own islands_place (pos 0) (omega arith), own vertices_place (pos 0) (omega arith), x, y, z)

-- **rows that come to stand behind fewer are fine there**, whatever the number of the first
pub fine_back : (mode : Mode) (s : Starts) (n : ℕ) (b c : Before) (t : Tables) → c.starts ≡ s plus b.starts → judge_rows mode n c (starting_at s t) ≡ Ok tt → judge_rows mode n b t ≡ Ok tt
unfolding judge_rows
fine_back mode s zero b c t q e = refl
fine_back mode s (suc n) b c t q e =
    let f = fine-on mode n c (starting_at s t) e in
    let own = moved-own s t.rows in
    let m : is_made t ≡ true = sym (made-moved s t) ∙ f.0 in
    let l = (made_held t m).row in
    let r = starts-are (s plus b.starts) (moved_on s t.rows) (ap (λ (x : Starts). are_starts x (moved_on s t.rows)) (sym q) ∙ f.2) in
    let starts : are_starts b.starts t.rows ≡ true = are-starts b.starts t.rows (started s t b.starts l r) in
    let code : is_coded mode (kind_of t) (count_at t code_place) ≡ true = rw (own 0 (pos 0) (omega arith), own code_place (pos 0) (omega arith)) at f.3 in
    let past : (past_row c (starting_at s t)).starts ≡ s plus (past_row b t).starts = past-on s b c t q in
    fine_before mode n b t m starts code (fine_back mode s n (past_row b t) (past_row c (starting_at s t)) (rest_of t) past (ap (judge_rows mode n (past_row c (starting_at s t))) (sym (rest-moved s t)) ∙ f.1))

-- ---- rows that fall one after the other fall together

fall-shift : (s : Starts) (p : ℕ) (l : List ℤ) → fall_from s (p + row_width) l ≡ fall_from s p l
unfolding fall_from
fall-shift s p [] = refl
fall-shift s p (z ∷ zs) =
    let e : (p + row_width) % row_width ≡ p % row_width = omega arith in
    let f : suc (p + row_width) ≡ suc p + row_width = omega arith in
    rw (e, f) (ap (λ (l : List ℤ). (z -ℤ pos (move_at s (p % row_width))) ∷ l) (fall-shift s (suc p) zs))

fall-append : (s : Starts) (p : ℕ) (xs ys : List ℤ) → fall_from s p (xs ++ ys) ≡ fall_from s p xs ++ fall_from s (p + length xs) ys
unfolding fall_from
fall-append s p [] ys = let e : p + 0 ≡ p = omega arith in rw e
fall-append s p (x ∷ xs) ys =
    let e : p + suc (length xs) ≡ suc p + length xs = omega arith in
    rw e (ap (λ (l : List ℤ). (x -ℤ pos (move_at s (p % row_width))) ∷ l) (fall-append s (suc p) xs ys))

pub fall-take : (s : Starts) (p n : ℕ) (l : List ℤ) → take n (fall_from s p l) ≡ fall_from s p (take n l)
unfolding fall_from
fall-take s p zero l = refl
fall-take s p (suc n) [] = refl
fall-take s p (suc n) (z ∷ zs) = ap (λ (l : List ℤ). (z -ℤ pos (move_at s (p % row_width))) ∷ l) (fall-take s (suc p) n zs)

pub each-fallen : (s : Starts) (n : ℕ) (rows : List ℤ) → row_width * n ≤ length rows → each_row (fallen_row s) n rows ≡ fall_from s 0 (take (row_width * n) rows) ++ drop (row_width * n) rows
unfolding each_row fallen_row fall_from
each-fallen s zero rows l = refl
each-fallen s (suc n) rows l =
    let z : row_width * suc n ≡ row_width + row_width * n = omega arith in
    let m = length-take-le row_width rows (omega arith) in
    let i = each-fallen s n (drop row_width rows) (omega (arith, length-drop row_width rows)) in
    let f : fall_from s 0 (take row_width rows ++ take (row_width * n) (drop row_width rows)) ≡ fall_from s 0 (take row_width rows) ++ fall_from s 0 (take (row_width * n) (drop row_width rows)) =
    fall-append s 0 (take row_width rows) (take (row_width * n) (drop row_width rows))
    ∙ ap (λ (j : ℕ). fall_from s 0 (take row_width rows) ++ fall_from s j (take (row_width * n) (drop row_width rows))) (let y : 0 + length (take row_width rows) ≡ 0 + row_width = omega arith in y)
    ∙ ap (λ (x : List ℤ). fall_from s 0 (take row_width rows) ++ x) (fall-shift s 0 (take (row_width * n) (drop row_width rows))) in
    ap (λ (x : List ℤ). fall_from s 0 (take row_width rows) ++ x) i
    ∙ sym (append_assoc (fall_from s 0 (take row_width rows)) (fall_from s 0 (take (row_width * n) (drop row_width rows))) (drop (row_width * n) (drop row_width rows)))
    ∙ ap₂ (λ (x y : List ℤ). x ++ y) (sym (ap (λ (j : ℕ). fall_from s 0 (take j rows)) z ∙ ap (fall_from s 0) (take-add row_width (row_width * n) rows) ∙ f))
    (drop-drop (row_width * n) row_width rows ∙ ap (λ (j : ℕ). drop j rows) (sym z))
