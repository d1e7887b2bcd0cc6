-- A sheet that a row is taken out of is well made, and its elements are the others in order (document 02, T-08). Assumes nothing.
use mathlib.Core.Path.{◌≡◌, refl, sym, ◌∙◌, ap, ap₂}
use mathlib.Core.List.{List, ◌∷◌}
use mathlib.Core.Bool.{true}
use Prim.Native.Nat.{ℕ, zero, suc, ◌+◌, ◌-◌, ◌≤◌}
use native.Mathlib.Omega.{arith}
use lib.ListN.{length, drop}
use lib.Seq.{take-take}
use Rattle.std.proofs.Common.{Result, Ok, Err}
use Rattle.laws.proofs.Choice.{cond-first}
use Rattle.record.specs.declared.Mode.{Mode}
use Rattle.kinds.specs.Kinds.{own_width, code_place, letters_place, islands_place, vertices_place}
use Rattle.heading.specs.declared.Header.{Header}
use Rattle.heading.specs.Heading.{is_header}
use Rattle.sheet.specs.Tables.{Tables, ◌then◌, over_of, Starts, ◌plus◌, starting_at}
use Rattle.made.specs.declared.Flaw.TheVariants.{BadHeader}
use Rattle.made.specs.Made.{tables_of, kind_of, count_at, first_of, rest_of, alone_of, is_made, counts_of, Before, none_before, past_row, is_coded, judge_rows, judge_of, used_of}
use Rattle.made.proofs.RowWays.{made_held}
use Rattle.made.proofs.OwnLaws.{Own, own-alike, first_alike, cell-alike, made_alike, starts-alike, first-own, rest-own, letters-own, islands-own, points-own}
use Rattle.made.proofs.UsedLaws.{behind_of, used-behind, judge-used, fine-on, fine_before, used-then}
use Rattle.made.proofs.StartLaws.{then-assoc, own-moved, made-moved}
use Rattle.edit.specs.Removals.{taken_back, without, removed_tables}
use Rattle.edit.specs.Elements.{elements_of, less_one}
use Rattle.edit.proofs.FallLaws.{back-starting, back-made, back-rest, fine_back}

-- ---- rows without one of them are fine

plus_comm : (a b : Starts) → a plus b ≡ b plus a
plus_comm a b =
    let x : a.letters + b.letters ≡ b.letters + a.letters = omega arith in
    let y : a.islands + b.islands ≡ b.islands + a.islands = omega arith in
    let z : a.points + b.points ≡ b.points + a.points = omega arith in
    rw (x, y, z)

pub fine-without : (mode : Mode) (n k : ℕ) (b : Before) (t : Tables) → judge_rows mode (suc n) b t ≡ Ok tt → k ≤ n → judge_rows mode n b (without k t) ≡ Ok tt
unfolding without
fine-without mode n zero b t e h =
    let f = fine-on mode n b t e in
    let s = counts_of t in
    fine_back mode s n b (past_row b t) (taken_back s (rest_of t)) (plus_comm b.starts s) (ap (judge_rows mode n (past_row b t)) (back-starting s (rest_of t)) ∙ f.1)
fine-without mode zero (suc k) b t e h = absurd (omega arith)
fine-without mode (suc n) (suc k) b t e h =
    let f = fine-on mode (suc n) b t e in
    let w = without k (rest_of t) in
    let o : Tables = first_of t then w in
    let held = made_held t f.0 in
    let same : first_of o ≡ first_of t = first-own t w held in
    let cell = cell-alike o t same in
    let past : past_row b o ≡ past_row b t = rw (cell letters_place (omega arith), cell islands_place (omega arith), cell vertices_place (omega arith)) in
    let code : is_coded mode (kind_of o) (count_at o code_place) ≡ true = rw (cell 0 (omega arith), cell code_place (omega arith)) f.3 in
    fine_before mode n b o (made_alike o t same ∙ f.0) (starts-alike o t same b.starts ∙ f.2) code
    (ap₂ (judge_rows mode n) past (rest-own t w held) ∙ fine-without mode n k (past_row b t) (rest_of t) f.1 (omega arith))

-- ---- what they say one by one

-- a definition on the first row that looks at the row alone, wherever it stands and whatever stands behind it
pub record Says {A : Type 0} (f : Tables → A) : Type 0 where
  pub behind : (t u : Tables) → is_made t ≡ true → f (first_of t then u) ≡ f t
  pub placed : (s : Starts) (t : Tables) → is_made t ≡ true → f (starting_at s t) ≡ f t

pub own-says : {A : Type 0} (f : Tables → A) → Own f → Says f
own-says f own =
    record {
      behind = λ t u m. first_alike f own (first_of t then u) t (first-own t u (made_held t m)) m;
      placed = λ s t m. own-alike f own (starting_at s t) t (own-moved s t) (made-moved s t ∙ m) m;
    }

module _ {A : Type 0} (f : Tables → A) (own : Says f) where
  back-says : (s : Starts) (t : Tables) → is_made t ≡ true → f (taken_back s t) ≡ f t
  back-says s t m = sym (own.placed s (taken_back s t) (back-made s t ∙ m)) ∙ ap f (back-starting s t)

  elements-back : (mode : Mode) (n : ℕ) (b : Before) (s : Starts) (t : Tables) → judge_rows mode n b t ≡ Ok tt → elements_of f n (taken_back s t) ≡ elements_of f n t
  unfolding elements_of
  elements-back mode zero b s t e = refl
  elements-back mode (suc n) b s t e =
      let g = fine-on mode n b t e in
      ap₂ (λ (x : A) (l : List A). x ∷ l) (back-says s t g.0) (ap (elements_of f n) (back-rest s t) ∙ elements-back mode n (past_row b t) s (rest_of t) g.1)

  -- **the others, in order**
  pub elements-without : (mode : Mode) (n k : ℕ) (b : Before) (t : Tables) → judge_rows mode (suc n) b t ≡ Ok tt → k ≤ n → elements_of f n (without k t) ≡ less_one k (elements_of f (suc n) t)
  unfolding elements_of less_one without
  elements-without mode n zero b t e h = elements-back mode n (past_row b t) (counts_of t) (rest_of t) (fine-on mode n b t e).1
  elements-without mode zero (suc k) b t e h = absurd (omega arith)
  elements-without mode (suc n) (suc k) b t e h =
      let g = fine-on mode (suc n) b t e in
      let w = without k (rest_of t) in
      let held = made_held t g.0 in
      ap₂ (λ (x : A) (l : List A). x ∷ l) (own.behind t w g.0)
      (ap (elements_of f n) (rest-own t w held) ∙ elements-without mode n k (past_row b t) (rest_of t) g.1 (omega arith))

  -- whatever stands behind the used part
  pub elements-used : (mode : Mode) (n : ℕ) (b : Before) (t u : Tables) → judge_rows mode n b t ≡ Ok tt → elements_of f n (used_of n t then u) ≡ elements_of f n t
  unfolding elements_of used_of
  elements-used mode zero b t u e = refl
  elements-used mode (suc n) b t u e =
      let g = fine-on mode n b t e in
      let w : Tables = used_of n (rest_of t) then u in
      let held = made_held t g.0 in
      ap (elements_of f (suc n)) (then-assoc (first_of t) (used_of n (rest_of t)) u)
      ∙ ap₂ (λ (x : A) (l : List A). x ∷ l) (own.behind t w g.0)
      (ap (elements_of f n) (rest-own t w held) ∙ elements-used mode n (past_row b t) (rest_of t) u g.1)

-- a row alone is said by its own part
pub alone-says : Own alone_of
alone-says t m =
    let z = take-take own_width own_width t.rows (omega arith) in
    rw (z, letters-own t, islands-own t, points-own t)

-- ---- the sheet

module _ (mode : Mode) (h : Header) (n : ℕ) (t : Tables) (k : ℕ) (e : judge_of mode h (suc n) t ≡ Ok tt) (l : k ≤ n) where
  both : (is_header h ≡ true) × (judge_rows mode (suc n) none_before t ≡ Ok tt)
  unfolding judge_of
  both = cond-first (is_header h) (judge_rows mode (suc n) none_before t) (Err BadHeader) (Ok tt) (λ z. let y : ◌≡◌ {A = ℕ} 0 1 = cc in omega arith) e

  abbrev w : Tables
  w = without k t

  fine-w : judge_rows mode n none_before w ≡ Ok tt
  fine-w = fine-without mode n k none_before t both.1 l

  judged-w : judge_of mode h n w ≡ Ok tt
  unfolding judge_of
  judged-w = rw both.0 fine-w

  -- what stands behind the used part
  abbrev behind : Tables
  behind =
      tables_of (drop (length (used_of n w).rows) t.rows) (drop (length (used_of n w).letters) t.letters) (drop (length (used_of n w).islands) t.islands) (drop (length (used_of n w).points) t.points)

  less : suc n - 1 ≡ n
  less = omega arith

  pub removed-is : removed_tables (suc n) k t ≡ used_of n w then behind
  removed-is = ap (λ (j : ℕ). over_of (used_of j w) t) less

  fine-used : judge_rows mode n none_before (used_of n w) ≡ Ok tt
  unfolding judge_of
  fine-used = (cond-first (is_header h) (judge_rows mode n none_before (used_of n w)) (Err BadHeader) (Ok tt) (λ z. let y : ◌≡◌ {A = ℕ} 0 1 = cc in omega arith) (judge-used mode h n w ∙ judged-w)).1

  -- the others use what they used
  pub removed-used : used_of n (removed_tables (suc n) k t) ≡ used_of n w
  removed-used =
      ap (used_of n) removed-is ∙ used-then mode n none_before (used_of n w) behind fine-used
      ∙ sym (used-then mode n none_before (used_of n w) (behind_of n w) fine-used) ∙ ap (used_of n) (used-behind n w)

  -- **it is well made**
  pub removed-fine : judge_of mode h n (removed_tables (suc n) k t) ≡ Ok tt
  removed-fine = sym (judge-used mode h n (removed_tables (suc n) k t)) ∙ ap (judge_of mode h n) removed-used ∙ judge-used mode h n w ∙ judged-w

  -- **its elements are the others in order**: what any definition on a row says of them
  pub removed-elements : {A : Type 0} (f : Tables → A) → Says f → elements_of f n (removed_tables (suc n) k t) ≡ less_one k (elements_of f (suc n) t)
  removed-elements f own = ap (elements_of f n) removed-is ∙ elements-used f own mode n none_before w behind fine-w ∙ elements-without f own mode n k none_before t both.1 l

  pub removed-alone : elements_of alone_of n (removed_tables (suc n) k t) ≡ less_one k (elements_of alone_of (suc n) t)
  removed-alone = removed-elements alone_of (own-says alone_of alone-says)
