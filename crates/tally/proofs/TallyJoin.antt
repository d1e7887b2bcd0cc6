-- Tallies of joined maps add (document 01, "Areas"; document 02, T-07: the second map's starts are moved on), and a tally counts each border once. Assumes nothing.
use mathlib.Core.Path.{◌≡◌, refl, sym, ap, ap₂, ◌∙◌}
use mathlib.Core.List.{List}
use mathlib.Core.Bool.{Bool, true, false, cond, ◌&&◌}
use Prim.Native.Nat.{ℕ, zero, suc, ◌+◌}
use native.Mathlib.Omega.{arith}
use lib.ListN.{length}
use lib.IntN.{ℤ}
use Rattle.std.specs.Result.{is_ok}
use Rattle.std.proofs.Common.{Result, Ok, Err}
use Rattle.laws.proofs.Choice.{false≢true, and_left, and_right, and_both}
use Rattle.record.specs.declared.Mode.TheVariants.{Loose}
use Rattle.heading.specs.declared.Header.{Header}
use Rattle.heading.specs.Heading.{is_header}
use Rattle.sheet.specs.Tables.{Tables, ◌then◌, Starts, starts_of, starting_at, ◌followed◌}
use Rattle.made.specs.declared.Flaw.{Flaw}
use Rattle.made.specs.declared.Flaw.TheVariants.{BadHeader}
use Rattle.made.specs.Made.{first_of, rest_of, is_made, Before, none_before, past_row, judge_rows, judge_of, used_of}
use Rattle.made.proofs.RowWays.{made_held}
use Rattle.made.proofs.OwnLaws.{rest-own}
use Rattle.made.proofs.UsedLaws.{fine-on}
use Rattle.made.proofs.StartLaws.{then-assoc, rest-moved, fine-followed}
use Rattle.row.proofs.SeekLaws.{fine-rows}
use Rattle.border.specs.Borders.{border_of}
use Rattle.tally.specs.declared.Tally.{Tally}
use Rattle.tally.specs.declared.Taken.{Taken}
use Rattle.tally.specs.Tally.{is_figure, is_tally, no_figures, empty_tally, plus}
use Rattle.tally.specs.Take.{taken_with, tallied_after, tally_of}
use Rattle.tally.specs.Sums.{row_figures, row_fits, rows_figures, rows_fit}
use Rattle.tally.proofs.TallyLaws.{plus_comm, plus_assoc, plus_none}
use Rattle.tally.proofs.SumLaws.{rows-length, rows_grown, rows_taken}
use Rattle.tally.proofs.OwnLaws.{figures-own, fits-own, figures-moved, fits_moved}

none-plus : (s : List ℤ) → length s ≡ 24 → plus no_figures s ≡ s
none-plus s l = plus_comm no_figures s ∙ plus_none s 24 l

-- the header is judged by itself
judge-joined : (h g : Header) (n m : ℕ) (t u : Tables) → judge_of Loose h n t ≡ Ok tt → judge_of Loose g m u ≡ Ok tt → judge_of Loose h (n + m) (used_of n t followed u) ≡ Ok tt
unfolding judge_of
judge-joined h g n m t u e f = go (is_header h) e
  where
    go : (b : Bool) → cond b (judge_rows Loose n none_before t) (Err BadHeader) ≡ Ok tt → cond b (judge_rows Loose (n + m) none_before (used_of n t followed u)) (Err BadHeader) ≡ Ok tt
    go true d = fine-followed Loose n t d m u (fine-rows g m u f)
    go false d = absurd (let z : ◌≡◌ {A = ℕ} 0 1 = cc in omega arith)

-- one row before others
module _ (h : Header) (j : ℕ) (t v : Tables) (m : is_made t ≡ true) where
  figures-first : rows_figures h (suc j) (first_of t then v) ≡ plus (row_figures h t) (rows_figures h j v)
  unfolding rows_figures
  figures-first = ap₂ (λ (x y : List ℤ). plus x y) (figures-own h t v m) (ap (λ (w : Tables). rows_figures h j w) (rest-own t v (made_held t m)))

  fit-first : rows_fit h (suc j) (first_of t then v) ≡ (row_fits h t && rows_fit h j v)
  unfolding rows_fit
  fit-first = ap₂ (λ (x y : Bool). x && y) (fits-own h t v m) (ap (λ (w : Tables). rows_fit h j w) (rest-own t v (made_held t m)))

module _ (h : Header) (m : ℕ) (u : Tables) where
  pub figures-joined : (n : ℕ) (b : Before) (t : Tables) → judge_rows Loose n b t ≡ Ok tt → rows_figures h (n + m) (used_of n t then u) ≡ plus (rows_figures h n t) (rows_figures h m u)
  unfolding used_of rows_figures
  figures-joined zero b t e = let z : zero + m ≡ m = omega arith in ap (λ (j : ℕ). rows_figures h j u) z ∙ sym (none-plus (rows_figures h m u) (rows-length h m u))
  figures-joined (suc n) b t e =
      let f = fine-on Loose n b t e in
      let v : Tables = used_of n (rest_of t) then u in
      let z : suc n + m ≡ suc (n + m) = omega arith in
      ap₂ (λ (j : ℕ) (w : Tables). rows_figures h j w) z (then-assoc (first_of t) (used_of n (rest_of t)) u)
      ∙ figures-first h (n + m) t v f.0
      ∙ ap (λ (s : List ℤ). plus (row_figures h t) s) (figures-joined n (past_row b t) (rest_of t) f.1)
      ∙ sym (plus_assoc (row_figures h t) (rows_figures h n (rest_of t)) (rows_figures h m u))

  pub fit-joined : (n : ℕ) (b : Before) (t : Tables) → judge_rows Loose n b t ≡ Ok tt → rows_fit h n t ≡ true → rows_fit h m u ≡ true → rows_fit h (n + m) (used_of n t then u) ≡ true
  unfolding used_of rows_fit
  fit-joined zero b t e p q = let z : zero + m ≡ m = omega arith in ap (λ (j : ℕ). rows_fit h j u) z ∙ q
  fit-joined (suc n) b t e p q =
      let f = fine-on Loose n b t e in
      let v : Tables = used_of n (rest_of t) then u in
      let z : suc n + m ≡ suc (n + m) = omega arith in
      ap₂ (λ (j : ℕ) (w : Tables). rows_fit h j w) z (then-assoc (first_of t) (used_of n (rest_of t)) u)
      ∙ fit-first h (n + m) t v f.0
      ∙ and_both (row_fits h t) (rows_fit h (n + m) v) (and_left (row_fits h t) (rows_fit h n (rest_of t)) p)
      (fit-joined n (past_row b t) (rest_of t) f.1 (and_right (row_fits h t) (rows_fit h n (rest_of t)) p) q)

-- ---- nor do they depend on the starts

rows-moved : (h : Header) (s : Starts) (n : ℕ) (b : Before) (t : Tables) → judge_rows Loose n b t ≡ Ok tt → rows_figures h n (starting_at s t) ≡ rows_figures h n t
unfolding rows_figures
rows-moved h s zero b t e = refl
rows-moved h s (suc n) b t e =
    let f = fine-on Loose n b t e in
    ap₂ (λ (x y : List ℤ). plus x y) (figures-moved h s t f.0) (ap (rows_figures h n) (rest-moved s t) ∙ rows-moved h s n (past_row b t) (rest_of t) f.1)

fit-moved : (h : Header) (s : Starts) (n : ℕ) (b : Before) (t : Tables) → judge_rows Loose n b t ≡ Ok tt → rows_fit h n (starting_at s t) ≡ rows_fit h n t
unfolding rows_fit
fit-moved h s zero b t e = refl
fit-moved h s (suc n) b t e =
    let f = fine-on Loose n b t e in
    ap₂ (λ (x y : Bool). x && y) (fits_moved h s t f.0) (ap (rows_fit h n) (rest-moved s t) ∙ fit-moved h s n (past_row b t) (rest_of t) f.1)

-- ---- the class depends on the header's kind and name alone

module _ (h g : Header) (p : h.kind ≡ g.kind) (q : h.name ≡ g.name) where
  figures-header : (t : Tables) → row_figures h t ≡ row_figures g t
  unfolding row_figures border_of
  figures-header t = rw (p, q)

  fits-header : (t : Tables) → row_fits h t ≡ row_fits g t
  unfolding row_fits border_of
  fits-header t = rw (p, q)

  rows-header : (n : ℕ) (t : Tables) → rows_figures h n t ≡ rows_figures g n t
  unfolding rows_figures
  rows-header zero t = refl
  rows-header (suc n) t = ap₂ (λ (x y : List ℤ). plus x y) (figures-header t) (rows-header n (rest_of t))

  fit-header : (n : ℕ) (t : Tables) → rows_fit h n t ≡ rows_fit g n t
  unfolding rows_fit
  fit-header zero t = refl
  fit-header (suc n) t = ap₂ (λ (x y : Bool). x && y) (fits-header t) (fit-header n (rest_of t))

-- ---- a tally that is not refused

pub record Tallied (h : Header) (n : ℕ) (t : Tables) (s : List ℤ) : Type 0 where
  pub fine : judge_of Loose h n t ≡ Ok tt
  pub fit : rows_fit h n t ≡ true
  pub is : s ≡ rows_figures h n t

pub tallied : (h : Header) (n : ℕ) (t : Tables) (a : Tally) → tally_of h n t ≡ taken_with a (Ok tt) → Tallied h n t a.figures
unfolding tally_of
tallied h n t a e = go (judge_of Loose h n t) refl e
  where
    go : (v : Result Unit Flaw) → judge_of Loose h n t ≡ v → tallied_after h n t v ≡ taken_with a (Ok tt) → Tallied h n t a.figures
    go (Ok u) q e =
        let r = rows_grown h n 0 t empty_tally refl (ap (λ (x : Taken). is_ok x.outcome) e) in
        record { fine = q; fit = r.0; is = sym (ap (λ (x : Taken). x.tally.figures) e) ∙ r.1 ∙ none-plus (rows_figures h n t) (rows-length h n t) }
    go (Err f) q e = absurd (false≢true (ap (λ (x : Taken). is_ok x.outcome) e))

none-tally : is_tally no_figures ≡ true
unfolding is_tally is_figure
none-tally = refl

-- and the other way
pub tally-is : (h : Header) (n : ℕ) (t : Tables) → judge_of Loose h n t ≡ Ok tt → rows_fit h n t ≡ true → is_tally (rows_figures h n t) ≡ true
    → tally_of h n t ≡ taken_with (record { figures = rows_figures h n t }) (Ok tt)
unfolding tally_of
tally-is h n t e f g =
    let z = none-plus (rows_figures h n t) (rows-length h n t) in
    ap (λ (v : Result Unit Flaw). tallied_after h n t v) e ∙ rows_taken h n 0 t no_figures refl none-tally f (ap is_tally z ∙ g) ∙ ap (λ (s : List ℤ). taken_with (record { figures = s }) (Ok tt)) z

-- ---- tallies add

-- the used rows of one sheet followed by another, in headers of one kind and name: their tallies together, where every figure keeps the limit
module _ (h g : Header) (n m : ℕ) (t u : Tables) (a b : Tally) (p : h.kind ≡ g.kind) (q : h.name ≡ g.name) where
  pub tallies-add : tally_of h n t ≡ taken_with a (Ok tt) → tally_of g m u ≡ taken_with b (Ok tt)
      → is_tally (plus a.figures b.figures) ≡ true → tally_of h (n + m) (used_of n t followed u) ≡ taken_with (record { figures = plus a.figures b.figures }) (Ok tt)
  tallies-add d f l =
      let x = tallied h n t a d in
      let y = tallied g m u b f in
      let j = fine-rows h n t x.fine in
      let k = fine-rows g m u y.fine in
      let s = starts_of (used_of n t) in
      let z : rows_figures h (n + m) (used_of n t followed u) ≡ plus a.figures b.figures
      = figures-joined h m (starting_at s u) n none_before t j ∙ ap₂ (λ (r v : List ℤ). plus r v) (sym x.is) (rows-moved h s m none_before u k ∙ rows-header h g p q m u ∙ sym y.is) in
      tally-is h (n + m) (used_of n t followed u) (judge-joined h g n m t u x.fine y.fine)
      (fit-joined h m (starting_at s u) n none_before t j x.fit (fit-moved h s m none_before u k ∙ fit-header h g p q m u ∙ y.fit)) (ap is_tally z ∙ l)
      ∙ ap (λ (v : List ℤ). taken_with (record { figures = v }) (Ok tt)) z
