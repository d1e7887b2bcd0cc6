-- A section that was read is one well made row, and in exact mode its text; rows, one after the other. Assumes nothing.
use mathlib.Core.Path.{◌≡◌, refl, sym, ◌∙◌, ap, ap₂}
use mathlib.Core.List.{List, [], ◌++◌}
use mathlib.Core.Bool.{Bool, true, false, not, ◌&&◌, ◌||◌}
use Prim.Native.Nat.{ℕ, suc, ◌+◌, ◌*◌, ◌/◌, ◌%◌, ◌≤◌, ◌<◌}
use native.Mathlib.Omega.{arith}
use lib.ListN.{length, get_or, take, length-append, get_or-append}
use lib.Seq.{take_at, drop_at}
use lib.Dec.{leb, eqb}
use lib.IntN.{pos}
use borrow.Author.Tests.{leb-true, eqb-true, eqb-false, le-leb, eq-eqb, ne_eqb}
use Rattle.laws.specs.Lists.{all, below, holds}
use Rattle.laws.proofs.Choice.{and_left, and_right, and_both, cond-elim}
use Rattle.laws.proofs.ListLaws.{below_all}
use Rattle.std.specs.Prelude.{Ok}
use Rattle.record.specs.declared.Mode.{Mode}
use Rattle.record.specs.declared.Mode.TheVariants.{Exact}
use Rattle.record.specs.Record.{is_exact}
use Rattle.record.specs.RecordView.{LineEnd}
use Rattle.token.specs.declared.Want.TheVariants.{Key}
use Rattle.token.specs.Lex.{kind_most, may_lie_outside, is_key, key_text, lex_of}
use Rattle.token.proofs.TokenLaws.{key-text, key-only}
use Rattle.kinds.specs.Kinds.{row_width, own_width, code_place, letters_place, islands_place, vertices_place, first_letter_place, first_island_place, first_point_place, schedule, next_of, unsaid, is_listed}
use Rattle.machine.specs.Machine.{key_step}
use Rattle.machine.specs.declared.State.TheVariants.{Due}
use Rattle.kinds.proofs.KindLaws.{next-most}
use Rattle.sheet.specs.Tables.{Tables, empty, ◌then◌, no_starts, ◌plus◌, starts_of, starting_at, ◌followed◌, new_row, put}
use Rattle.sheet.proofs.StartLaws.{new-at, new-starts, length_moved}
use Rattle.made.specs.Made.{cell_at, count_at, nat_of, kind_of, first_of, rest_of, has_field, is_outside, is_cell, cell_test, are_numbers, are_letters, is_made, are_starts, none_before, past_row, is_coded, judge_rows, used_of}
use Rattle.made.proofs.UsedLaws.{fine_before}
use Rattle.made.proofs.StartLaws.{Starting, are-starts, fine_moved, used-moved}
use Rattle.layout.specs.Sheet.{fields_text, integers_text, reals_text, row_text, rows_text}
use Rattle.layout.proofs.ScheduleLaws.{first_field, field-low, starts-unread}
use Rattle.layout.proofs.TextLaws.{rows-text-moved}
use Rattle.layout.proofs.TokenSays.{line-spelt}
use Rattle.layout.proofs.Tails.{Lettered, Body, Lacking, Begins, FieldsTail, StepTail}

-- ---- a section

-- a whole section, whatever follows it
pub record MadeRow (mode : Mode) (now : Tables) (cs : List ℕ) : Type 0 where
  pub wide : length now.rows ≡ row_width
  pub letters : length now.letters ≡ count_at now letters_place
  pub islands : length now.islands ≡ count_at now islands_place
  pub points : length now.points ≡ 2 * count_at now vertices_place
  pub made : (after : Tables) → is_made (now then after) ≡ true
  pub starts : Starting no_starts now.rows
  pub coded : is_coded mode (kind_of now) (count_at now code_place) ≡ true
  pub text : mode ≡ Exact → (after : Tables) → row_text (now then after) ≡ cs

-- cells of the first row
cell-front : (now o : Tables) → length now.rows ≡ row_width → (q : ℕ) → q < row_width → cell_at (now then o) q ≡ cell_at now q
cell-front now o h q k = get_or-append now.rows o.rows (pos 0) q (omega arith)

-- kind and outside are no fields
no_field : (kind q : ℕ) → kind ≤ kind_most → q ≤ 1 → has_field kind q ≡ false
no_field kind q h k = go (has_field kind q) refl
  where
    go : (x : Bool) → has_field kind q ≡ x → x ≡ false
    go true e = absurd (omega (arith, field-low kind q h (omega arith) e))
    go false e = refl

-- a keyword's number
pub record SaysKey (t : ℕ) : Type 0 where
  pub some : 1 ≤ t / 2
  pub most : t / 2 ≤ kind_most
  pub outside : (eqb (t % 2) 0 || may_lie_outside (t / 2)) ≡ true

key-says : (t : ℕ) → (t ≡ 0 → ⊥) → is_key t ≡ true → SaysKey t
unfolding is_key
key-says t n e =
    let a = leb 1 (t / 2) && leb (t / 2) kind_most in
    let o = eqb (t % 2) 0 || may_lie_outside (t / 2) in
    let f : (a && o) ≡ true = rw (ne_eqb t 0 n) at e in
    let g = and_left a o f in
    record {
      some = leb-true 1 (t / 2) (and_left (leb 1 (t / 2)) (leb (t / 2) kind_most) g);
      most = leb-true (t / 2) kind_most (and_right (leb 1 (t / 2)) (leb (t / 2) kind_most) g);
      outside = and_right a o f;
    }

module _ (mode : Mode) (t : ℕ) (k : SaysKey t) (now : Tables) (cs : List ℕ)
    (w : FieldsTail mode (t / 2) (get_or schedule (t / 2) []) (record { rows = new_row t no_starts; letters = []; islands = []; points = [] }) now cs) where
  abbrev kind : ℕ
  kind = t / 2

  cell-kept : (q : ℕ) → has_field kind q ≡ false → cell_at now q ≡ get_or (new_row t no_starts) q (pos 0)
  unfolding has_field
  cell-kept q h = w.kept q h

  kind-now : cell_at now 0 ≡ pos kind
  kind-now = cell-kept 0 (no_field kind 0 k.most (omega arith))

  outside-now : cell_at now 1 ≡ pos (t % 2)
  outside-now = cell-kept 1 (no_field kind 1 k.most (omega arith))

  zeros-now : Lacking kind now
  zeros-now q h l f = cell-kept q f ∙ new-at t q no_starts h l

  starts-now : Starting no_starts now.rows
  starts-now =
      let none = starts-unread kind k.most in
      let new = new-starts t no_starts in
      record { letters = cell-kept first_letter_place none.0 ∙ new.0; islands = cell-kept first_island_place none.1 ∙ new.1; points = cell-kept first_point_place none.2 ∙ new.2 }

  body-now : Body kind now
  body-now = w.body zeros-now

  letters-now : Lettered (count_at now 9) now.letters
  unfolding has_field all unsaid
  letters-now = go (has_field kind 9) refl
    where
      go : (x : Bool) → has_field kind 9 ≡ x → Lettered (count_at now 9) now.letters
      go true e = w.lettered e
      go false e = rw (zeros-now 9 (omega arith) (omega arith) e, w.no_letters e) (record { counted = refl; good = refl; first = refl; last = refl })

  outside-right : is_outside kind (pos (t % 2)) ≡ true
  unfolding is_outside
  outside-right = go (eqb (t % 2) 0) refl k.outside
    where
      go : (x : Bool) → eqb (t % 2) 0 ≡ x → (x || may_lie_outside kind) ≡ true → (x || eqb (t % 2) 1 && may_lie_outside kind) ≡ true
      go true e f = refl
      go false e f = let n = eqb-false (t % 2) 0 e in rw (eq-eqb (t % 2) 1 (omega arith)) f

  cell-right : (q : ℕ) → q ≤ 11 → is_cell kind q (cell_at now q) ≡ true
  unfolding is_cell has_field
  cell-right q l =
      let Q : Bool → Type 0 = λ x. x ≡ true in
      cond-elim Q (eqb q 0) _ _
      (λ e. rw (eqb-true q 0 e, kind-now, le-leb 1 kind k.some, le-leb kind kind_most k.most))
      (λ n₀. cond-elim Q (eqb q 1) _ _
      (λ e. rw (eqb-true q 1 e, outside-now) outside-right)
      (λ n₁. let a = eqb-false q 0 n₀ in
      let b = eqb-false q 1 n₁ in
      cond-elim Q (holds (get_or schedule kind []) q) _ _ (λ f. w.ranged q f) (λ f. rw (zeros-now q (omega arith) l f, eq-eqb (unsaid kind q) (unsaid kind q) refl))))

  module _ (after : Tables) where
    abbrev all_of : Tables
    all_of = now then after

    cell-first : (q : ℕ) → q ≤ 11 → cell_at all_of q ≡ cell_at now q
    cell-first q h = cell-front now after w.wide q (omega arith)

    kind-first : kind_of all_of ≡ kind
    kind-first = ap nat_of (cell-first 0 (omega arith) ∙ kind-now)

    letters-first : take (count_at now 9) (now.letters ++ after.letters) ≡ now.letters
    letters-first = take_at now.letters after.letters (count_at now 9) letters-now.counted

    islands-first : take (count_at now 10) (now.islands ++ after.islands) ≡ now.islands
    islands-first = take_at now.islands after.islands (count_at now 10) body-now.islands

    points-first : take (2 * count_at now 11) (now.points ++ after.points) ≡ now.points
    points-first = take_at now.points after.points (2 * count_at now 11) body-now.points

    begins-now : Begins now all_of
    begins-now = record { cells = cell-first; letters = rw (cell-first 9 (omega arith)) letters-first }

    numbers-right : are_numbers all_of.rows ≡ true
    unfolding are_numbers
    numbers-right =
        and_both (leb row_width (length all_of.rows)) (below own_width (cell_test all_of.rows)) (le-leb row_width (length all_of.rows) (omega (arith, w.wide, length-append now.rows after.rows)))
        (below_all own_width (cell_test all_of.rows) (λ q h. rw (kind-first, cell-first q (omega arith)) (cell-right q (omega arith))))

    letters-right : are_letters (count_at now 9) all_of.letters ≡ true
    unfolding are_letters
    letters-right =
        let v = letters-now in
        rw (le-leb (count_at now 9) (length all_of.letters) (omega (arith, v.counted, length-append now.letters after.letters)), letters-first, v.good, v.first, ← v.counted, v.last)

    row_made : is_made all_of ≡ true
    unfolding is_made
    row_made =
        rw (kind-first, cell-first 9 (omega arith), cell-first 10 (omega arith), cell-first 11 (omega arith), islands-first)
        (rw (numbers-right, letters-right, body-now.counts after.islands, body-now.closes after.points))

    row-text : (c e : List ℕ) → LineEnd mode e → mode ≡ Exact → key_text t ≡ c → row_text all_of ≡ c ++ (e ++ cs)
    unfolding row_text
    row-text c e l m f =
        let z : 2 * kind + t % 2 ≡ t = omega arith in
        rw (kind-first, cell-first 1 (omega arith), outside-now, z, cell-first 10 (omega arith), cell-first 11 (omega arith), islands-first, points-first)
        (line-spelt mode c (key_text t) e (fields_text all_of (get_or schedule kind []) ++ (integers_text now.islands ++ reals_text now.points)) cs m l f (w.text m all_of begins-now))

  row-coded : is_coded mode kind (count_at now 2) ≡ true
  unfolding is_coded has_field
  row-coded = go (not (is_exact mode)) (has_field kind 2) refl w.coded
    where
      go : (a x : Bool) → has_field kind 2 ≡ x → (x ≡ true → (a || is_listed kind (count_at now 2)) ≡ true) → (a || not x || is_listed kind (count_at now 2)) ≡ true
      go true x e f = refl
      go false true e f = f refl
      go false false e f = refl

  made_row : (c e : List ℕ) → LineEnd mode e → (mode ≡ Exact → key_text t ≡ c) → MadeRow mode now (c ++ (e ++ cs))
  made_row c e l f = record {
    wide = w.wide;
    letters = letters-now.counted;
    islands = body-now.islands;
    points = body-now.points;
    made = row_made;
    starts = starts-now;
    coded = rw kind-now row-coded;
    text = λ m after. row-text after c e l m (f m);
  }

-- a keyword's record begins a section
pub key-tail : (mode : Mode) (c e : List ℕ) (t : ℕ) → LineEnd mode e → lex_of mode Key c ≡ Ok t
    → StepTail mode (put Due t c empty) (λ now cs. MadeRow mode now (c ++ (e ++ cs))) (key_step t)
unfolding key_step put
key-tail mode c e t l says =
    let Q = StepTail mode (record { rows = new_row t no_starts; letters = []; islands = []; points = [] }) (λ now cs. MadeRow mode now (c ++ (e ++ cs))) in
    cond-elim Q (eqb t 0) _ _ (λ _. tt)
    (λ z. cond-elim Q (eqb (next_of (t / 2) 0) 0) _ _ (λ _. tt)
    (λ n.
    let k = key-says t (eqb-false t 0 z) (key-text mode c t says).0 in
    let f = first_field (t / 2) k.most (eqb-false (next_of (t / 2) 0) 0 n) in (
      record { low = k.most; most = next-most (t / 2) 0; field = f.0; wide = refl; islands = refl; points = refl; count = refl; letters = λ _. refl },
      λ now cs w. made_row mode t k now cs (rw f.1 at w) c e l (λ m. sym (key-only c t (rw m at says))),
    )))

-- ---- rows, one after the other

pub record MadeRows (mode : Mode) (n : ℕ) (o : Tables) (bs : List ℕ) : Type 0 where
  pub long : length o.rows ≡ row_width * n
  pub judged : judge_rows mode n none_before o ≡ Ok tt
  pub used : used_of n o ≡ o
  pub text : mode ≡ Exact → rows_text n o ≡ bs

pub no_rows : (mode : Mode) → MadeRows mode 0 empty []
unfolding judge_rows used_of rows_text
no_rows mode = record { long = refl; judged = refl; used = refl; text = λ m. refl }

-- one section before others
module _ (mode : Mode) (now o : Tables) (cs : List ℕ) (a : MadeRow mode now cs) where
  cell_same : (q : ℕ) → q < row_width → cell_at (now then o) q ≡ cell_at now q
  cell_same = cell-front now o a.wide

  first-row : first_of (now then o) ≡ now
  first-row =
      rw (
        cell_same 9 (omega arith),
        cell_same 10 (omega arith),
        cell_same 11 (omega arith),
        take_at now.rows o.rows row_width a.wide,
        take_at now.letters o.letters (count_at now 9) a.letters,
        take_at now.islands o.islands (count_at now 10) a.islands,
        take_at now.points o.points (2 * count_at now 11) a.points,
      )

  other-rows : rest_of (now then o) ≡ o
  other-rows =
      rw (
        cell_same 9 (omega arith),
        cell_same 10 (omega arith),
        cell_same 11 (omega arith),
        drop_at now.rows o.rows row_width a.wide,
        drop_at now.letters o.letters (count_at now 9) a.letters,
        drop_at now.islands o.islands (count_at now 10) a.islands,
        drop_at now.points o.points (2 * count_at now 11) a.points,
      )

  starts_first : are_starts no_starts (now then o).rows ≡ true
  starts_first =
      are-starts no_starts (now then o).rows
      (record {
        letters = cell_same first_letter_place (omega arith) ∙ a.starts.letters;
        islands = cell_same first_island_place (omega arith) ∙ a.starts.islands;
        points = cell_same first_point_place (omega arith) ∙ a.starts.points;
      })

  -- what follows begins where it ends
  past_first : (past_row none_before (now then o)).starts ≡ starts_of now plus no_starts
  past_first =
      let l : 0 + count_at (now then o) letters_place ≡ length now.letters + 0 = omega (arith, ap nat_of (cell_same letters_place (omega arith)), a.letters) in
      let i : 0 + count_at (now then o) islands_place ≡ length now.islands + 0 = omega (arith, ap nat_of (cell_same islands_place (omega arith)), a.islands) in
      let p : 0 + count_at (now then o) vertices_place ≡ length now.points / 2 + 0 = omega (arith, ap nat_of (cell_same vertices_place (omega arith)), a.points) in
      rw (l, i, p)

module _ (mode : Mode) (now o : Tables) (cs : List ℕ) (a : MadeRow mode now cs) where
  abbrev behind : Tables
  behind = starting_at (starts_of now) o

  pub one_more : (n : ℕ) (bs : List ℕ) → MadeRows mode n o bs → MadeRows mode (suc n) (now followed o) (cs ++ bs)
  unfolding used_of rows_text
  one_more n bs w =
      let cell = cell_same mode now behind cs a in
      let rest : rest_of (now followed o) ≡ behind = other-rows mode now behind cs a in
      record {
        long = omega (arith, length-append now.rows behind.rows, length_moved (starts_of now) o.rows, a.wide, w.long);
        judged = fine_before mode n none_before (now followed o) (a.made behind) (starts_first mode now behind cs a) (rw (cell 0 (omega arith), cell 2 (omega arith)) a.coded)
            (ap (judge_rows mode n (past_row none_before (now followed o))) rest
            ∙ fine_moved mode (starts_of now) n none_before (past_row none_before (now followed o)) o (past_first mode now behind cs a) w.judged);
        used = ap₂ (λ (x y : Tables). x then y) (first-row mode now behind cs a)
            (ap (used_of n) rest ∙ used-moved mode (starts_of now) n none_before o w.judged ∙ ap (starting_at (starts_of now)) w.used);
        text = λ m. ap₂ (λ (x y : List ℕ). x ++ y) (a.text m behind) (ap (rows_text n) rest ∙ rows-text-moved (starts_of now) n o ∙ w.text m);
      }
