-- A well made row that is written is read back as itself, and rows one after the other. Assumes nothing.
use Prim.Native.Nat.{ℕ, zero, suc, ◌+◌, ◌*◌, ◌/◌, ◌%◌, ◌≤◌, ◌<◌}
use mathlib.Core.Path.{◌≡◌, refl, sym, ◌∙◌, ap, subst}
use mathlib.Core.List.{List, [], ◌∷◌, ◌++◌, append-nil}
use mathlib.Core.Bool.{Bool, true, false, cond, not, ◌&&◌, ◌||◌}
use native.Mathlib.Omega.{arith}
use lib.ListN.{length, get_or, take, length-append}
use lib.Seq.{length-take-le, get_or-take}
use lib.Dec.{leb, eqb}
use lib.IntN.{ℤ, pos}
use borrow.Author.Tests.{leb-true, le-leb, ne_eqb, eqb-true, eqb-false, not-true, not-false}
use Rattle.laws.specs.Lists.{below, holds}
use Rattle.laws.specs.Whole.{eq_z}
use Rattle.laws.proofs.Choice.{and_left, and_right, true≢false}
use Rattle.laws.proofs.Bits.{eq_z-same}
use Rattle.laws.proofs.ListLaws.{below_at, values-are}
use Rattle.std.specs.Prelude.{Some, Ok}
use Rattle.record.specs.declared.Mode.{Mode}
use Rattle.token.specs.Lex.{kind_most, may_lie_outside, is_key, key_text}
use Rattle.machine.specs.declared.State.TheVariants.{Due, Field, Island, X}
use Rattle.kinds.specs.Kinds.{row_width, own_width, code_place, letters_place, islands_place, vertices_place, schedule, fixed_vertices, unsaid, want_at}
use Rattle.machine.specs.Machine.{Step, want_of, fresh_ring, key_step, step_of}
use Rattle.sheet.specs.Tables.{Tables, empty, ◌then◌, Starts, no_starts, ◌plus◌, starts_of, start_cells, ◌followed◌, own_cells, new_row, put}
use Rattle.sheet.proofs.StartLaws.{own_at, followed-empty}
use Rattle.sheet.proofs.Whole.{empty-whole}
use Rattle.sheet.proofs.Pass.{Pass, done}
use Rattle.sheet.proofs.Join.{pass-join, pass-append}
use Rattle.made.specs.Made.{cell_at, nat_of, count_at, kind_of, letters_of, islands_of, points_of, first_of, rest_of, in_range, has_field, is_outside, is_cell, cell_test, are_numbers, are_letters, are_counts, are_reals, are_closed, ring_sizes, are_points, is_made, are_starts, counts_of, alone_of, Before, none_before, past_row, is_coded, judge_rows, used_of}
use Rattle.made.proofs.RowWays.{Held, made_held}
use Rattle.made.proofs.UsedLaws.{fine-on}
use Rattle.made.proofs.StartLaws.{then-assoc, alone-starting}
use Rattle.layout.specs.Sheet.{fields_text, integers_text, reals_text, row_text, rows_text}
use Rattle.layout.proofs.Contents.{key_reads, line-pass}
use Rattle.layout.proofs.ScheduleLaws.{said-none}
use Rattle.layout.proofs.RingPass.{line-points-pass, border-pass}
use Rattle.layout.proofs.FieldPass.{partly, islands_due, has_points, state_at, Scheduled, scheduled, counted, border-is, line-is, field_in, field-none, fields-pass}

then-empty : (a : Tables) → a then empty ≡ a
then-empty a = simp append-nil

-- ---- what a well made row is

record Row (t : Tables) : Type 0 where
  pub held : row_width ≤ length t.rows
  pub cells : (p : ℕ) → p < own_width → is_cell (kind_of t) p (cell_at t p) ≡ true
  pub letters : are_letters (count_at t 9) t.letters ≡ true
  pub counts : are_counts (kind_of t) (count_at t 10) (count_at t 11) t.islands ≡ true
  pub points : are_points (kind_of t) (count_at t 11) (islands_of t) t.points ≡ true

row_is : (t : Tables) → is_made t ≡ true → Row t
unfolding is_made are_numbers
row_is t e =
    let a = leb row_width (length t.rows) in
    let b = below own_width (cell_test t.rows) in
    let c = are_letters (count_at t 9) t.letters in
    let d = are_counts (kind_of t) (count_at t 10) (count_at t 11) t.islands in
    let f = are_points (kind_of t) (count_at t 11) (islands_of t) t.points in
    let e₃ = and_left (a && b && c && d) f e in
    let e₂ = and_left (a && b && c) d e₃ in
    let e₁ = and_left (a && b) c e₂ in
    record {
      held = leb-true row_width (length t.rows) (and_left a b e₁);
      cells = λ p h. below_at own_width (cell_test t.rows) p (and_right a b e₁) h;
      letters = and_right (a && b) c e₂;
      counts = and_right (a && b && c) d e₃;
      points = and_right (a && b && c && d) f e;
    }

record Points (kind v : ℕ) (ns : List ℕ) (s : List ℤ) : Type 0 where
  pub held : 2 * v ≤ length s
  pub real : are_reals (take (2 * v) s) ≡ true
  pub closed : eqb kind 1 ≡ true → are_closed (ring_sizes v ns) s ≡ true

points-are : (kind v : ℕ) (ns : List ℕ) (s : List ℤ) → are_points kind v ns s ≡ true → Points kind v ns s
unfolding are_points
points-are kind v ns s e =
    let a = leb (2 * v) (length s) in
    let b = are_reals (take (2 * v) s) in
    let c = not (eqb kind 1) || are_closed (ring_sizes v ns) s in
    let e₁ = and_left (a && b) c e in
    record { held = leb-true (2 * v) (length s) (and_left a b e₁); real = and_right a b e₁; closed = λ q. rw q at (and_right (a && b) c e) }

-- ---- its keyword

none-due : {A : Type 0} (b : Bool) (x y : A) → (b ≡ false → y ≡ x) → cond b x y ≡ x
none-due true x y f = refl
none-due false x y f = f refl

record Outside (kind : ℕ) (z : ℤ) : Type 0 where
  pub is : z ≡ pos (nat_of z)
  pub most : nat_of z ≤ 1
  pub key : is_key (2 * kind + nat_of z) ≡ true

outside-is : (kind : ℕ) (z : ℤ) → 1 ≤ kind → kind ≤ kind_most → is_outside kind z ≡ true → Outside kind z
unfolding is_outside is_key
outside-is kind z l h e = go (eq_z z (pos 0)) refl e
  where
    at-0 : Outside kind (pos 0)
    at-0 =
        let a : (2 * kind + 0) / 2 ≡ kind = omega arith in
        let b : (2 * kind + 0) % 2 ≡ 0 = omega arith in
        record { is = refl; most = omega arith; key = rw (ne_eqb (2 * kind + 0) 0 (λ q. omega arith), a, b, le-leb 1 kind l, le-leb kind kind_most h) }

    at_1 : may_lie_outside kind ≡ true → Outside kind (pos 1)
    at_1 m =
        let a : (2 * kind + 1) / 2 ≡ kind = omega arith in
        let b : (2 * kind + 1) % 2 ≡ 1 = omega arith in
        record { is = refl; most = omega arith; key = rw (ne_eqb (2 * kind + 1) 0 (λ q. omega arith), a, b, le-leb 1 kind l, le-leb kind kind_most h, m) }

    go : (x : Bool) → eq_z z (pos 0) ≡ x → (x || eq_z z (pos 1) && may_lie_outside kind) ≡ true → Outside kind z
    go true q f = subst (Outside kind) (sym (eq_z-same z (pos 0) q)) at-0
    go false q f = subst (Outside kind) (sym (eq_z-same z (pos 1) (and_left (eq_z z (pos 1)) (may_lie_outside kind) f))) (at_1 (and_right (eq_z z (pos 1)) (may_lie_outside kind) f))

module _ (mode : Mode) (t : Tables) (r : Row t) (coded : is_coded mode (kind_of t) (count_at t 2) ≡ true) where
  kind-in : (cell_at t 0 ≡ pos (kind_of t)) × (1 ≤ kind_of t) × (kind_of t ≤ kind_most)
  unfolding is_cell
  kind-in = counted 1 kind_most (cell_at t 0) (r.cells 0 (omega arith))

  walk : Scheduled (kind_of t) (get_or schedule (kind_of t) [])
  walk = scheduled (kind_of t) kind-in.1 kind-in.2

  outside : Outside (kind_of t) (cell_at t 1)
  unfolding is_cell
  outside = outside-is (kind_of t) (cell_at t 1) kind-in.1 kind-in.2 (r.cells 1 (omega arith))

  abbrev key_token : ℕ
  key_token = 2 * kind_of t + count_at t 1

  half : key_token / 2 ≡ kind_of t
  half = omega (arith, outside.most)

  -- a field that the kind lacks is as its section leaves it
  lacks : (p : ℕ) → 2 ≤ p → p ≤ 11 → holds (get_or schedule (kind_of t) []) p ≡ false → cell_at t p ≡ pos (unsaid (kind_of t) p)
  unfolding has_field
  lacks = field-none mode t r.cells r.letters r.counts coded

  -- it leads to the first field
  key-on : key_step key_token ≡ Ok (Some (state_at t (get_or schedule (kind_of t) [])))
  unfolding key_step unsaid
  key-on =
      let ps = get_or schedule (kind_of t) [] in
      let none : islands_due t ps ≡ 0 = none-due (holds ps 10) 0 (count_at t 10) (λ e. ap nat_of (lacks 10 (omega arith) (omega arith) e)) in
      rw (ne_eqb key_token 0 (λ q. omega (arith, kind-in.1)), half, walk.first, ne_eqb (get_or ps 0 0) 0 walk.some) (go ps walk.some none)
    where
      go : (ps : List ℕ) → (get_or ps 0 0 ≡ 0 → ⊥) → islands_due t ps ≡ 0 → ◌≡◌ {A = Step} (Ok (Some (Field (kind_of t) (get_or ps 0 0) 0))) (Ok (Some (state_at t ps)))
      go [] f e = absurd (f refl)
      go (p ∷ ps) f e = rw e

  row_new : new_row key_token no_starts ≡ (partly t (get_or schedule (kind_of t) [])).rows
  unfolding has_field
  row_new = ap (λ (l : List ℤ). l ++ start_cells no_starts) (values-are (own_cells key_token) (λ q. cond (holds ps q) (pos 0) (cell_at t q)) own_width (pos 0) refl cell)
    where
      ps : List ℕ
      ps = get_or schedule (kind_of t) []

      left : (q : ℕ) → 2 ≤ q → q ≤ 11 → (x : Bool) → holds ps q ≡ x → pos (unsaid (kind_of t) q) ≡ cond x (pos 0) (cell_at t q)
      left q l h true e = ap pos (said-none (kind_of t) q kind-in.2 h e)
      left q l h false e = sym (lacks q l h e)

      cell : (q : ℕ) → q < own_width → get_or (own_cells key_token) q (pos 0) ≡ cond (holds ps q) (pos 0) (cell_at t q)
      cell zero h = rw (half, walk.no_kind) (sym kind-in.0)
      cell (suc zero) h =
          let odd : key_token % 2 ≡ count_at t 1 = omega (arith, outside.most) in
          rw (odd, walk.no_outside) (sym outside.is)
      cell (suc (suc q)) h = own_at key_token (suc (suc q)) (omega arith) (omega arith) ∙ rw half (left (suc (suc q)) (omega arith) (omega arith) (holds ps (suc (suc q))) refl)

  key-put : put Due key_token (key_text key_token) empty ≡ partly t (get_or schedule (kind_of t) [])
  unfolding put unsaid
  key-put =
      let ps = get_or schedule (kind_of t) [] in
      let none : cond (holds ps 9) [] (letters_of t) ≡ [] =
      none-due (holds ps 9) [] (letters_of t) (λ e. ap (λ (z : ℤ). take (nat_of z) t.letters) (lacks 9 (omega arith) (omega arith) e)) in
      rw (row_new, none)

  -- ---- its points

  -- the tables behind the fields
  abbrev whole : Tables
  whole = record { rows = take own_width t.rows ++ start_cells no_starts; letters = letters_of t; islands = []; points = [] }

  row-whole : partly t [] ≡ whole
  unfolding holds
  row-whole =
      rw (sym (values-are (take own_width t.rows) (cell_at t) own_width (pos 0) (length-take-le own_width t.rows (omega (arith, r.held))) (λ q h. get_or-take own_width t.rows q (pos 0) h)))

  no-islands : eqb (kind_of t) 1 ≡ false → count_at t 10 ≡ 0
  unfolding has_field unsaid
  no-islands q = ap nat_of (lacks 10 (omega arith) (omega arith) (not-true (has_field (kind_of t) 10) (rw q at walk.border)))

  -- where the section does not count them, the vertices are as many as it has
  fixed-vertices : has_field (kind_of t) 11 ≡ false → count_at t 11 ≡ fixed_vertices (kind_of t)
  unfolding has_field unsaid
  fixed-vertices e = ap nat_of (lacks 11 (omega arith) (omega arith) e)

  no-vertices : has_points (kind_of t) ≡ false → count_at t 11 ≡ 0
  no-vertices = go (has_field (kind_of t) 11) refl
    where
      go : (x : Bool) → has_field (kind_of t) 11 ≡ x → (x || not (eqb (fixed_vertices (kind_of t)) 0)) ≡ false → count_at t 11 ≡ 0
      go true e f = absurd (true≢false f)
      go false e f = fixed-vertices e ∙ eqb-true (fixed_vertices (kind_of t)) 0 (not-false (eqb (fixed_vertices (kind_of t)) 0) f)

  some-vertices : has_points (kind_of t) ≡ true → eqb (kind_of t) 1 ≡ false → 1 ≤ count_at t 11
  some-vertices h q = go (has_field (kind_of t) 11) refl h
    where
      go : (x : Bool) → has_field (kind_of t) 11 ≡ x → (x || not (eqb (fixed_vertices (kind_of t)) 0)) ≡ true → 1 ≤ count_at t 11
      go true e f = let l = line-is (kind_of t) (count_at t 10) (count_at t 11) t.islands q e r.counts in omega arith
      go false e f =
          let n = eqb-false (fixed_vertices (kind_of t)) 0 (not-true (eqb (fixed_vertices (kind_of t)) 0) f) in
          let v = fixed-vertices e in
          omega arith

  vertices-most : has_field (kind_of t) 11 ≡ true → count_at t 11 ≤ 9999
  unfolding want_at in_range
  vertices-most e = (counted 0 9999 (cell_at t 11) (field_in mode t r.cells r.letters r.counts coded 11 (omega arith) (omega arith) e)).2

  border-counts : eqb (kind_of t) 1 ≡ true → has_field (kind_of t) 11 ≡ true
  unfolding has_field schedule holds
  border-counts q = rw (eqb-true (kind_of t) 1 q)

  of-border : eqb (kind_of t) 1 ≡ true
      → Pass mode (cond (eqb (count_at t 10) 0) (X (fresh_ring true 0 (count_at t 11))) (Island (count_at t 10) (count_at t 11) (count_at t 10))) whole
      (integers_text (islands_of t) ++ reals_text (points_of t)) Due (alone_of t)
  of-border q =
      let b = border-is (kind_of t) (count_at t 10) (count_at t 11) t.islands q r.counts in
      let s = points-are (kind_of t) (count_at t 11) (islands_of t) t.points r.points in
      let n : length (islands_of t) ≡ count_at t 10 = length-take-le (count_at t 10) t.islands b.held in
      rw n at (border-pass {mode = mode} (islands_of t) (count_at t 11) t.points whole b.fours b.spare (vertices-most (border-counts q)) s.held s.real (s.closed q))

  of-line : has_points (kind_of t) ≡ true → eqb (kind_of t) 1 ≡ false
      → Pass mode (X (fresh_ring false 0 (count_at t 11))) whole (integers_text (islands_of t) ++ reals_text (points_of t)) Due (alone_of t)
  unfolding integers_text
  of-line e q =
      let s = points-are (kind_of t) (count_at t 11) (islands_of t) t.points r.points in
      let l = some-vertices e q in
      rw (no-islands q) (line-points-pass (count_at t 11) (points_of t) whole (omega arith) (length-take-le (2 * count_at t 11) t.points s.held) s.real)

  of_none : has_points (kind_of t) ≡ false → eqb (kind_of t) 1 ≡ false → Pass mode Due whole (integers_text (islands_of t) ++ reals_text (points_of t)) Due (alone_of t)
  unfolding integers_text reals_text
  of_none e q = rw (no-islands q, no-vertices e) done

  -- a border has vertices
  no-border : has_points (kind_of t) ≡ false → eqb (kind_of t) 1 ≡ true → ⊥
  unfolding has_field schedule holds
  no-border e q = true≢false (rw (eqb-true (kind_of t) 1 q) at e)

  points-pass : Pass mode (state_at t []) (partly t []) (integers_text (islands_of t) ++ reals_text (points_of t)) Due (alone_of t)
  points-pass = rw row-whole (by-vertices (has_points (kind_of t)) refl (eqb (kind_of t) 1) refl)
    where
      by-vertices : (x : Bool) → has_points (kind_of t) ≡ x → (y : Bool) → eqb (kind_of t) 1 ≡ y
          → Pass mode (cond x (cond y (cond (eqb (count_at t 10) 0) (X (fresh_ring true 0 (count_at t 11))) (Island (count_at t 10) (count_at t 11) (count_at t 10))) (X (fresh_ring false 0 (count_at t 11)))) Due) whole
          (integers_text (islands_of t) ++ reals_text (points_of t)) Due (alone_of t)
      by-vertices true e true q = of-border q
      by-vertices true e false q = of-line e q
      by-vertices false e true q = absurd (no-border e q)
      by-vertices false e false q = of_none e q

  -- ---- all of it

  row-whole-pass : Pass mode Due empty (row_text t) Due (alone_of t)
  unfolding row_text want_of step_of
  row-whole-pass =
      let ps = get_or schedule (kind_of t) [] in
      let rest = pass-append (fields-pass mode t r.cells r.letters r.counts coded ps walk.walked) points-pass in
      line-pass {t = key_token} (key_reads key_token (omega (arith, kind-in.2, outside.most)) outside.key) key-on
      (subst (λ (o : Tables). Pass mode (state_at t ps) o (fields_text t ps ++ (integers_text (islands_of t) ++ reals_text (points_of t))) Due (alone_of t)) (sym key-put) rest)

-- **a row**: what is written of a well made row is read as that row alone, with its own letters, island counts and points
pub row-pass : (mode : Mode) (t : Tables) → is_made t ≡ true → is_coded mode (kind_of t) (count_at t code_place) ≡ true → Pass mode Due empty (row_text t) Due (alone_of t)
row-pass mode t made coded = row-whole-pass mode t (row_is t made) coded

-- behind what was read before, its starts are those of that
module _ (mode : Mode) (t a : Tables) (even : length a.points % 2 ≡ 0) (made : is_made t ≡ true) (coded : is_coded mode (kind_of t) (count_at t code_place) ≡ true)
    (starts : are_starts (starts_of a) t.rows ≡ true) where
  held : Held t
  held = made_held t made

  row-behind : Pass mode Due a (row_text t) Due (a then first_of t)
  row-behind =
      let p : Pass mode Due (a followed empty) (row_text t) Due (a followed alone_of t) = pass-join a even tt empty-whole (row-pass mode t made coded) in
      subst (λ (x : Tables). Pass mode Due a (row_text t) Due (a then x)) (alone-starting (starts_of a) t held.row starts)
      (subst (λ (x : Tables). Pass mode Due x (row_text t) Due (a followed alone_of t)) (followed-empty a) p)

  points-behind : length (a then first_of t).points ≡ length a.points + 2 * count_at t vertices_place
  points-behind = length-append a.points (points_of t) ∙ ap (λ (n : ℕ). length a.points + n) (length-take-le (2 * count_at t vertices_place) t.points held.points)

  even-behind : length (a then first_of t).points % 2 ≡ 0
  even-behind = omega (arith, points-behind)

  starts-behind : starts_of (a then first_of t) ≡ starts_of a plus counts_of t
  starts-behind =
      let l : length (a.letters ++ letters_of t) ≡ length a.letters + count_at t letters_place =
      length-append a.letters (letters_of t) ∙ ap (λ (n : ℕ). length a.letters + n) (length-take-le (count_at t letters_place) t.letters held.letters) in
      let i : length (a.islands ++ islands_of t) ≡ length a.islands + count_at t islands_place =
      length-append a.islands (islands_of t) ∙ ap (λ (n : ℕ). length a.islands + n) (length-take-le (count_at t islands_place) t.islands held.islands) in
      let p : length (a.points ++ points_of t) / 2 ≡ length a.points / 2 + count_at t vertices_place = omega (arith, points-behind) in
      rw (l, i, p)

-- **rows**: what is written of rows in order is read as the part of the tables that they use
rows_behind : (mode : Mode) (n : ℕ) (b : Before) (t : Tables) → judge_rows mode n b t ≡ Ok tt → (a : Tables) → length a.points % 2 ≡ 0 → starts_of a ≡ b.starts
    → Pass mode Due a (rows_text n t) Due (a then used_of n t)
unfolding rows_text used_of
rows_behind mode zero b t e a even s = subst (λ (x : Tables). Pass mode Due a [] Due x) (sym (then-empty a)) done
rows_behind mode (suc n) b t e a even s =
    let f = fine-on mode n b t e in
    let starts : are_starts (starts_of a) t.rows ≡ true = ap (λ (x : Starts). are_starts x t.rows) s ∙ f.2 in
    let rest = rows_behind mode n (past_row b t) (rest_of t) f.1 (a then first_of t) (even-behind mode t a even f.0 f.3 starts)
    (starts-behind mode t a even f.0 f.3 starts ∙ ap (λ (x : Starts). x plus counts_of t) s) in
    subst (λ (x : Tables). Pass mode Due a (row_text t ++ rows_text n (rest_of t)) Due x) (then-assoc a (first_of t) (used_of n (rest_of t)))
    (pass-append (row-behind mode t a even f.0 f.3 starts) rest)

pub rows_pass : (mode : Mode) (n : ℕ) (t : Tables) → judge_rows mode n none_before t ≡ Ok tt → Pass mode Due empty (rows_text n t) Due (used_of n t)
rows_pass mode n t e = rows_behind mode n none_before t e empty refl refl
