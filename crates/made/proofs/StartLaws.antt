-- The starts of rows that are judged fine (document 02, T-07): each is the sum of the counts before it, and rows that come to stand behind others are
-- fine with their starts moved on. Assumes nothing.
use mathlib.Core.Path.{◌≡◌, refl, sym, ◌∙◌, ap, ap₂, subst}
use mathlib.Core.List.{List, [], ◌++◌, append_assoc}
use mathlib.Core.Bool.{Bool, true, false, ◌&&◌}
use Prim.Native.Nat.{ℕ, zero, suc, ◌+◌, ◌*◌, ◌/◌, ◌%◌, ◌≤◌, ◌<◌, min}
use native.Mathlib.Omega.{arith}
use lib.Dec.{leb, eqb}
use lib.ListN.{length, get_or, take, drop, length-take, length-append, get_or-append}
use lib.Seq.{drop-drop, get_or-take, get_or-append-add, length-take-le, ext_get_or}
use lib.IntN.{ℤ, pos, ◌+ℤ◌}
use borrow.Author.Tests.{leb-true, leb-false, eqb-true, eqb-false}
use Rattle.laws.specs.Whole.{eq_z}
use Rattle.laws.proofs.Choice.{and_left, and_right, and_both}
use Rattle.laws.proofs.Bits.{eq_z-yes, eq_z-same}
use Rattle.record.specs.declared.Mode.{Mode}
use Rattle.kinds.specs.Kinds.{row_width, own_width, code_place, letters_place, islands_place, vertices_place, first_letter_place, first_island_place, first_point_place}
use Rattle.sheet.specs.Tables.{Tables, ◌then◌, Starts, no_starts, ◌plus◌, starts_of, start_cells, move_at, move_from, moved_on, starting_at, ◌followed◌}
use Rattle.sheet.proofs.StartLaws.{length_moved, moved-own, moved_at, moved-append, moved-drop, moved-take}
use Rattle.made.specs.Made.{count_at, kind_of, letters_of, islands_of, points_of, first_of, own_of, rest_of, alone_of, is_made, are_starts, starts_at, counts_of, Before, none_before, past_row, is_coded, judge_rows, used_of}
use Rattle.std.specs.Prelude.{Ok}
use Rattle.made.proofs.RowWays.{made_held}
use Rattle.made.proofs.OwnLaws.{made-same, cell-alike, made_alike, starts-alike, first-own, rest-own}
use Rattle.made.proofs.UsedLaws.{total, used-front, fine-on, fine_before, fine-long}

-- ---- what the test says

pub record Starting (s : Starts) (rows : List ℤ) : Type 0 where
  pub letters : get_or rows first_letter_place (pos 0) ≡ pos s.letters
  pub islands : get_or rows first_island_place (pos 0) ≡ pos s.islands
  pub points : get_or rows first_point_place (pos 0) ≡ pos s.points

module _ (s : Starts) (rows : List ℤ) where
  abbrev A : Bool
  A = eq_z (get_or rows first_letter_place (pos 0)) (pos s.letters)

  abbrev B : Bool
  B = eq_z (get_or rows first_island_place (pos 0)) (pos s.islands)

  abbrev C : Bool
  C = eq_z (get_or rows first_point_place (pos 0)) (pos s.points)

  pub starts-are : are_starts s rows ≡ true → Starting s rows
  unfolding are_starts
  starts-are e =
      record {
        letters = eq_z-same (get_or rows first_letter_place (pos 0)) (pos s.letters) (and_left A B (and_left (A && B) C e));
        islands = eq_z-same (get_or rows first_island_place (pos 0)) (pos s.islands) (and_right A B (and_left (A && B) C e));
        points = eq_z-same (get_or rows first_point_place (pos 0)) (pos s.points) (and_right (A && B) C e);
      }

  pub are-starts : Starting s rows → are_starts s rows ≡ true
  unfolding are_starts
  are-starts r =
      and_both (A && B) C (and_both A B (eq_z-yes (get_or rows first_letter_place (pos 0)) (pos s.letters) r.letters) (eq_z-yes (get_or rows first_island_place (pos 0)) (pos s.islands) r.islands))
      (eq_z-yes (get_or rows first_point_place (pos 0)) (pos s.points) r.points)

-- ---- the sum of the counts before

-- how many letters, island counts and points the first n rows have
abbrev pub totals_of : ℕ → Tables → Starts
totals_of n t = starts_at (total letters_place n t) (total islands_place n t) (total vertices_place n t)

abbrev pub past_rows : ℕ → Before → Tables → Before
past_rows n b t = record { row = b.row + n; starts = b.starts plus totals_of n t }

past-none : (b : Before) (t : Tables) → past_rows 0 b t ≡ b
unfolding total
past-none b t =
    let w : b.row + 0 ≡ b.row = omega arith in
    let x : b.starts.letters + 0 ≡ b.starts.letters = omega arith in
    let y : b.starts.islands + 0 ≡ b.starts.islands = omega arith in
    let z : b.starts.points + 0 ≡ b.starts.points = omega arith in
    rw (w, x, y, z)

past_more : (n : ℕ) (b : Before) (t : Tables) → past_rows (suc n) b t ≡ past_rows n (past_row b t) (rest_of t)
unfolding total
past_more n b t =
    let l = total letters_place n (rest_of t) in
    let i = total islands_place n (rest_of t) in
    let p = total vertices_place n (rest_of t) in
    let w : b.row + suc n ≡ b.row + 1 + n = omega arith in
    let x : b.starts.letters + (count_at t letters_place + l) ≡ b.starts.letters + count_at t letters_place + l = omega arith in
    let y : b.starts.islands + (count_at t islands_place + i) ≡ b.starts.islands + count_at t islands_place + i = omega arith in
    let z : b.starts.points + (count_at t vertices_place + p) ≡ b.starts.points + count_at t vertices_place + p = omega arith in
    rw (w, x, y, z)

-- **each start is the sum of the counts before it**
pub starts-total : (mode : Mode) (n : ℕ) (b : Before) (t : Tables) → judge_rows mode n b t ≡ Ok tt → (k : ℕ) → k < n
    → are_starts (past_rows k b t).starts (drop (row_width * k) t.rows) ≡ true
starts-total mode zero b t e k h = absurd (omega arith)
starts-total mode (suc n) b t e zero h = ap (λ (x : Before). are_starts x.starts t.rows) (past-none b t) ∙ (fine-on mode n b t e).2
starts-total mode (suc n) b t e (suc k) h =
    let i = starts-total mode n (past_row b t) (rest_of t) (fine-on mode n b t e).1 k (omega arith) in
    let z : row_width * suc k ≡ row_width + row_width * k = omega arith in
    ap₂ (λ (x : Before) (rows : List ℤ). are_starts x.starts rows) (past_more k b t)
    (ap (λ (j : ℕ). drop j t.rows) z ∙ sym (drop-drop (row_width * k) row_width t.rows)) ∙ i

-- ---- rows before others

pub then-assoc : (a b c : Tables) → a then b then c ≡ a then (b then c)
then-assoc a b c = rw (append_assoc a.rows b.rows c.rows, append_assoc a.letters b.letters c.letters, append_assoc a.islands b.islands c.islands, append_assoc a.points b.points c.points)

pub fine-then : (mode : Mode) (m : ℕ) (v : Tables) (n : ℕ) (b : Before) (t : Tables) → judge_rows mode n b t ≡ Ok tt → judge_rows mode m (past_rows n b t) v ≡ Ok tt
    → judge_rows mode (n + m) b (used_of n t then v) ≡ Ok tt
unfolding used_of
fine-then mode m v zero b t e q =
    let z : zero + m ≡ m = omega arith in
    ap₂ (λ (j : ℕ) (x : Before). judge_rows mode j x v) z (sym (past-none b t)) ∙ q
fine-then mode m v (suc n) b t e q =
    let f = fine-on mode n b t e in
    let w : Tables = used_of n (rest_of t) then v in
    let o : Tables = first_of t then w in
    let held = made_held t f.0 in
    let same : first_of o ≡ first_of t = first-own t w held in
    let cell = cell-alike o t same in
    let past : past_row b o ≡ past_row b t = rw (cell letters_place (omega arith), cell islands_place (omega arith), cell vertices_place (omega arith)) in
    let code : is_coded mode (kind_of o) (count_at o code_place) ≡ true = rw (cell 0 (omega arith), cell code_place (omega arith)) f.3 in
    let z : suc n + m ≡ suc (n + m) = omega arith in
    ap₂ (λ (j : ℕ) (x : Tables). judge_rows mode j b x) z (then-assoc (first_of t) (used_of n (rest_of t)) v)
    ∙ fine_before mode (n + m) b o (made_alike o t same ∙ f.0) (starts-alike o t same b.starts ∙ f.2) code
    (ap₂ (judge_rows mode (n + m)) past (rest-own t w held) ∙ fine-then mode m v n (past_row b t) (rest_of t) f.1 (ap (λ (x : Before). judge_rows mode m x v) (sym (past_more n b t)) ∙ q))

-- ---- rows that come to stand behind others, their starts moved on

module _ (s : Starts) (t : Tables) where
  abbrev moved : Tables
  moved = starting_at s t

  own-rows : take own_width (moved_on s t.rows) ≡ take own_width t.rows
  own-rows =
      let a = length-take own_width (moved_on s t.rows) in
      let b = length-take own_width t.rows in
      ext_get_or (pos 0) (take own_width (moved_on s t.rows)) (take own_width t.rows) (a ∙ ap (λ (n : ℕ). min own_width n) (length_moved s t.rows) ∙ sym b)
      (λ i h. let l : i < own_width = omega (arith, a, h) in
      get_or-take own_width (moved_on s t.rows) i (pos 0) l ∙ moved-own s t.rows i (pos 0) l ∙ sym (get_or-take own_width t.rows i (pos 0) l))

  pub own-moved : own_of moved ≡ own_of t
  own-moved = rw (own-rows, moved-own s t.rows letters_place (pos 0) (omega arith), moved-own s t.rows islands_place (pos 0) (omega arith), moved-own s t.rows vertices_place (pos 0) (omega arith))

  pub made-moved : is_made moved ≡ is_made t
  made-moved = made-same moved t (ap (leb row_width) (length_moved s t.rows)) own-moved

  pub rest-moved : rest_of moved ≡ starting_at s (rest_of t)
  rest-moved = rw (moved-drop s row_width t.rows refl, moved-own s t.rows letters_place (pos 0) (omega arith), moved-own s t.rows islands_place (pos 0) (omega arith), moved-own s t.rows vertices_place (pos 0) (omega arith))

  pub starts-moved : (b : Starts) → row_width ≤ length t.rows → are_starts b t.rows ≡ true → are_starts (s plus b) moved.rows ≡ true
  unfolding move_at
  starts-moved b h e =
      let r = starts-are b t.rows e in
      let x : b.letters + s.letters ≡ s.letters + b.letters = omega arith in
      let y : b.islands + s.islands ≡ s.islands + b.islands = omega arith in
      let z : b.points + s.points ≡ s.points + b.points = omega arith in
      are-starts (s plus b) moved.rows
      (record {
        letters = moved_at s t.rows first_letter_place (pos 0) (omega arith) ∙ ap (λ (c : ℤ). c +ℤ pos s.letters) r.letters ∙ ap pos x;
        islands = moved_at s t.rows first_island_place (pos 0) (omega arith) ∙ ap (λ (c : ℤ). c +ℤ pos s.islands) r.islands ∙ ap pos y;
        points = moved_at s t.rows first_point_place (pos 0) (omega arith) ∙ ap (λ (c : ℤ). c +ℤ pos s.points) r.points ∙ ap pos z;
      })

  counts-moved : counts_of moved ≡ counts_of t
  counts-moved = rw (moved-own s t.rows letters_place (pos 0) (omega arith), moved-own s t.rows islands_place (pos 0) (omega arith), moved-own s t.rows vertices_place (pos 0) (omega arith))

  first-moved : first_of moved ≡ starting_at s (first_of t)
  first-moved = rw (moved-take s row_width t.rows, moved-own s t.rows letters_place (pos 0) (omega arith), moved-own s t.rows islands_place (pos 0) (omega arith), moved-own s t.rows vertices_place (pos 0) (omega arith))

plus_assoc : (a b c : Starts) → a plus b plus c ≡ a plus (b plus c)
plus_assoc a b c =
    let x : a.letters + b.letters + c.letters ≡ a.letters + (b.letters + c.letters) = omega arith in
    let y : a.islands + b.islands + c.islands ≡ a.islands + (b.islands + c.islands) = omega arith in
    let z : a.points + b.points + c.points ≡ a.points + (b.points + c.points) = omega arith in
    rw (x, y, z)

moved_nothing : (s : Starts) → moved_on s [] ≡ []
unfolding move_from
moved_nothing s = refl

-- **they are fine there**, whatever the number of the first
pub fine_moved : (mode : Mode) (s : Starts) (n : ℕ) (b c : Before) (t : Tables) → c.starts ≡ s plus b.starts → judge_rows mode n b t ≡ Ok tt → judge_rows mode n c (starting_at s t) ≡ Ok tt
unfolding judge_rows
fine_moved mode s zero b c t q e = refl
fine_moved mode s (suc n) b c t q e =
    let f = fine-on mode n b t e in
    let own = moved-own s t.rows in
    let code : is_coded mode (kind_of (starting_at s t)) (count_at (starting_at s t) code_place) ≡ true = rw (own 0 (pos 0) (omega arith), own code_place (pos 0) (omega arith)) f.3 in
    let past : (past_row c (starting_at s t)).starts ≡ s plus (past_row b t).starts = ap₂ (λ (x y : Starts). x plus y) q (counts-moved s t) ∙ plus_assoc s b.starts (counts_of t) in
    fine_before mode n c (starting_at s t) (made-moved s t ∙ f.0) (ap (λ (x : Starts). are_starts x (moved_on s t.rows)) q ∙ starts-moved s t b.starts (made_held t f.0).row f.2) code
    (ap (judge_rows mode n (past_row c (starting_at s t))) (rest-moved s t) ∙ fine_moved mode s n (past_row b t) (past_row c (starting_at s t)) (rest_of t) past f.1)

-- and use the same, moved on
pub used-moved : (mode : Mode) (s : Starts) (n : ℕ) (b : Before) (t : Tables) → judge_rows mode n b t ≡ Ok tt → used_of n (starting_at s t) ≡ starting_at s (used_of n t)
unfolding used_of
used-moved mode s zero b t e = rw (moved_nothing s)
used-moved mode s (suc n) b t e =
    let f = fine-on mode n b t e in
    let w = length-take-le row_width t.rows (made_held t f.0).row in
    ap₂ (λ (x y : Tables). x then y) (first-moved s t) (ap (used_of n) (rest-moved s t) ∙ used-moved mode s n (past_row b t) (rest_of t) f.1)
    ∙ rw (moved-append s (take row_width t.rows) (used_of n (rest_of t)).rows (omega (arith, w)))

-- ---- a row alone, put behind what stands before it, is the row

one_of_three : (P : ℕ → Type 0) → P first_letter_place → P first_island_place → P first_point_place → (i : ℕ) → own_width ≤ i → i < row_width → P i
one_of_three P a b c i h l = go (eqb i first_letter_place) refl (eqb i first_island_place) refl
  where
    go : (x : Bool) → eqb i first_letter_place ≡ x → (y : Bool) → eqb i first_island_place ≡ y → P i
    go true e y f = subst P (sym (eqb-true i first_letter_place e)) a
    go false e true f = subst P (sym (eqb-true i first_island_place f)) b
    go false e false f =
        let x = eqb-false i first_letter_place e in
        let y = eqb-false i first_island_place f in
        let z : first_point_place ≡ i = omega arith in
        subst P z c

module _ (s : Starts) (t : Tables) (h : row_width ≤ length t.rows) (e : are_starts s t.rows ≡ true) where
  abbrev own : List ℤ
  own = take own_width t.rows

  wide : length own ≡ own_width
  wide = length-take-le own_width t.rows (omega arith)

  abbrev there : List ℤ
  there = own ++ start_cells no_starts

  long : length there ≡ row_width
  long = omega (arith, wide, length-append own (start_cells no_starts))

  abbrev Same : ℕ → Type 0
  Same i = get_or (moved_on s there) i (pos 0) ≡ get_or (take row_width t.rows) i (pos 0)

  in-own : (i : ℕ) → i < own_width → Same i
  in-own i l =
      moved-own s there i (pos 0) l ∙ get_or-append own (start_cells no_starts) (pos 0) i (omega (arith, wide)) ∙ get_or-take own_width t.rows i (pos 0) l
      ∙ sym (get_or-take row_width t.rows i (pos 0) (omega arith))

  start_none : (j : ℕ) → get_or there (own_width + j) (pos 0) ≡ get_or (start_cells no_starts) j (pos 0)
  start_none j = ap (λ (n : ℕ). get_or there (n + j) (pos 0)) (sym wide) ∙ get_or-append-add own (start_cells no_starts) j (pos 0)

  -- by the number that is moved on from 0
  from-none : (i n : ℕ) → i < row_width → get_or there i (pos 0) ≡ pos 0 → move_at s (i % row_width) ≡ n → get_or t.rows i (pos 0) ≡ pos n → Same i
  from-none i n l z m f =
      let y : 0 + n ≡ n = omega arith in
      moved_at s there i (pos 0) (omega (arith, long)) ∙ ap₂ (λ (c : ℤ) (k : ℕ). c +ℤ pos k) z m ∙ ap pos y ∙ sym f ∙ sym (get_or-take row_width t.rows i (pos 0) l)

  pub alone-starting : starting_at s (alone_of t) ≡ first_of t
  unfolding move_at
  alone-starting =
      let r = starts-are s t.rows e in
      let late : (i : ℕ) → own_width ≤ i → i < row_width → Same i = one_of_three Same
      (from-none first_letter_place s.letters (omega arith) (start_none 0) refl r.letters)
      (from-none first_island_place s.islands (omega arith) (start_none 1) refl r.islands)
      (from-none first_point_place s.points (omega arith) (start_none 2) refl r.points) in
      let cell : (i : ℕ) → i < length (moved_on s there) → Same i = λ i l. early-late i (omega (arith, length_moved s there, long)) late in
      ap (λ (x : List ℤ). record { rows = x; letters = letters_of t; islands = islands_of t; points = points_of t })
      (ext_get_or (pos 0) (moved_on s there) (take row_width t.rows) (length_moved s there ∙ long ∙ sym (length-take-le row_width t.rows h)) cell)
    where
      early-late : (i : ℕ) → i < row_width → ((i : ℕ) → own_width ≤ i → i < row_width → Same i) → Same i
      early-late i l late = go (leb own_width i) refl
        where
          go : (x : Bool) → leb own_width i ≡ x → Same i
          go true e = late i (leb-true own_width i e) l
          go false e = in-own i (leb-false own_width i e)

-- ---- **the rows of one sheet followed by those of another**

module _ (mode : Mode) (n : ℕ) (t : Tables) (e : judge_rows mode n none_before t ≡ Ok tt) where
  -- the used part has as many letters, island counts and points as its rows say
  pub starts-used : starts_of (used_of n t) ≡ totals_of n t
  starts-used =
      let r = fine-long mode n none_before t e in
      let v = total vertices_place n t in
      let z : length (take (2 * v) t.points) / 2 ≡ v = omega (arith, length-take-le (2 * v) t.points r.points-in) in
      ap starts_of (used-front n t) ∙ rw (length-take-le (total letters_place n t) t.letters r.letters-in, length-take-le (total islands_place n t) t.islands r.islands-in, z)

  pub fine-followed : (m : ℕ) (u : Tables) → judge_rows mode m none_before u ≡ Ok tt → judge_rows mode (n + m) none_before (used_of n t followed u) ≡ Ok tt
  fine-followed m u q =
      let s = starts_of (used_of n t) in
      let x : 0 + total letters_place n t ≡ total letters_place n t + 0 = omega arith in
      let y : 0 + total islands_place n t ≡ total islands_place n t + 0 = omega arith in
      let z : 0 + total vertices_place n t ≡ total vertices_place n t + 0 = omega arith in
      let none : no_starts plus totals_of n t ≡ totals_of n t plus no_starts = rw (x, y, z) in
      let past : (past_rows n none_before t).starts ≡ s plus no_starts = none ∙ ap (λ (x : Starts). x plus no_starts) (sym starts-used) in
      fine-then mode m (starting_at s u) n none_before t e (fine_moved mode s m none_before (past_rows n none_before t) u past q)
