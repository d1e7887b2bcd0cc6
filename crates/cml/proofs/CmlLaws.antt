-- The laws of document 02, T-11: the bytes are the lines', and the lines are the bytes'. Assumes nothing.
use Prim.Native.Nat.{ℕ, zero, suc, ◌*◌, ◌≤◌}
use mathlib.Core.Path.{◌≡◌, refl, sym, ◌∙◌, ap}
use mathlib.Core.List.{List, ◌∷◌}
use mathlib.Core.Bool.{true}
use native.Mathlib.Omega.{arith}
use lib.ListN.{length, take, drop}
use lib.Seq.{length-take-le, take_at}
use lib.Dec.{eqb}
use borrow.Author.Tests.{eqb-true}
use Rattle.laws.specs.Lists.{holds}
use Rattle.laws.proofs.Choice.{cond-elim}
use Rattle.record.specs.declared.Mode.TheVariants.{Loose}
use Rattle.kinds.specs.Kinds.{code_place, vertices_place, schedule, want_at}
use Rattle.heading.specs.declared.Header.{Header}
use Rattle.sheet.specs.Tables.{Tables}
use Rattle.std.specs.Prelude.{Ok}
use Rattle.writer.specs.Write.{output_of}
use Rattle.made.specs.Made.{cell_at, count_at, kind_of, own_of, rest_of, has_field, in_range, is_made, Before, none_before, past_row, judge_rows, judge_of, used_of}
use Rattle.made.proofs.OwnLaws.{cell-own, points-own, own_same}
use Rattle.made.proofs.UsedLaws.{first-used, rest-used, judge-used, fine-on}
use Rattle.row.proofs.SeekLaws.{fine-rows}
use Rattle.writer.proofs.WriteLaws.{wrote-only}
use Rattle.writer.proofs.RowFacts.{row_is, between, outside-in, vertices-in, field_in}
use Rattle.cml.specs.Element.{elements_text}
use Rattle.cml.specs.Lines.{line_kind, polyline_of, polylines_of, cml_text, cml_of}
use Rattle.cml.proofs.ElementLaws.{Good, AllGood, elements-only}

-- ---- the lines of a well made sheet

has_code : (kind : ℕ) → kind ≡ line_kind → has_field kind code_place ≡ true
unfolding has_field holds schedule
has_code kind e = rw e

pub line_code : (t : Tables) → is_made t ≡ true → kind_of t ≡ line_kind → count_at t code_place ≤ 9999
unfolding want_at in_range
line_code t e k = (between 0 9999 (cell_at t code_place) (field_in t.rows (row_is t e).numbers code_place (has_code (kind_of t) k))).1

good-line : (t : Tables) → is_made t ≡ true → kind_of t ≡ line_kind → Good (polyline_of t)
good-line t e k =
    let r = row_is t e in
    record {
      mark = outside-in t.rows r.numbers;
      code_in = line_code t e k;
      vertices = count_at t vertices_place;
      most = vertices-in t.rows r.numbers;
      pairs = length-take-le (2 * count_at t vertices_place) t.points r.points-held;
      reals = r.points-real;
    }

good-lines : (n : ℕ) (b : Before) (t : Tables) → judge_rows Loose n b t ≡ Ok tt → AllGood (polylines_of n t)
unfolding polylines_of AllGood
good-lines zero b t e = tt
good-lines (suc n) b t e =
    let j = fine-on Loose n b t e in
    let r = good-lines n (past_row b t) (rest_of t) j.1 in
    cond-elim AllGood (eqb (kind_of t) line_kind) (polyline_of t ∷ polylines_of n (rest_of t)) (polylines_of n (rest_of t)) (λ q. (good-line t j.0 (eqb-true (kind_of t) line_kind q), r)) (λ q. r)

-- ---- the laws

-- **same**: lines that agree in order, code, outside mark and points give the same bytes
pub cml-same : (n m : ℕ) (t u : Tables) → polylines_of n t ≡ polylines_of m u → cml_text n t ≡ cml_text m u
unfolding cml_text
cml-same n m t u e = rw e

-- **unlike**: well made sheets that give the same bytes have the same lines
pub cml-only : (h g : Header) (n m : ℕ) (t u : Tables) → judge_of Loose h n t ≡ Ok tt → judge_of Loose g m u ≡ Ok tt
    → cml_text n t ≡ cml_text m u → polylines_of n t ≡ polylines_of m u
unfolding cml_text
cml-only h g n m t u e f q =
    elements-only (polylines_of n t) (polylines_of m u) (good-lines n none_before t (fine-rows h n t e)) (good-lines m none_before u (fine-rows g m u f)) q

pub cml-unlike : (h g : Header) (n m : ℕ) (t u : Tables) → judge_of Loose h n t ≡ Ok tt → judge_of Loose g m u ≡ Ok tt
    → (polylines_of n t ≡ polylines_of m u → ⊥) → cml_text n t ≡ cml_text m u → ⊥
cml-unlike h g n m t u e f d q = d (cml-only h g n m t u e f q)

-- ---- what stands behind the used part of the tables

module _ (t : Tables) where
  kind-own : kind_of (own_of t) ≡ kind_of t
  kind-own = rw (cell-own t 0 (omega arith))

  line-own : polyline_of (own_of t) ≡ polyline_of t
  line-own = rw (points-own t, cell-own t 1 (omega arith), cell-own t code_place (omega arith))

lines-used : (n : ℕ) (t : Tables) → polylines_of n (used_of n t) ≡ polylines_of n t
unfolding polylines_of
lines-used zero t = refl
lines-used (suc n) t =
    let u = used_of (suc n) t in
    let o : own_of u ≡ own_of t = own_same u t (first-used n t) in
    let k : kind_of u ≡ kind_of t = sym (kind-own u) ∙ ap kind_of o ∙ kind-own t in
    let a : polyline_of u ≡ polyline_of t = sym (line-own u) ∙ ap polyline_of o ∙ line-own t in
    rw (k, a, rest-used n t, lines-used n (rest_of t))

-- **it never matters**, neither to the text nor to the answer
pub cml-text-used : (n : ℕ) (t : Tables) → cml_text n (used_of n t) ≡ cml_text n t
unfolding cml_text
cml-text-used n t = ap elements_text (lines-used n t)

pub cml-used : (h : Header) (n : ℕ) (t : Tables) (room : ℕ) → cml_of h n (used_of n t) room ≡ cml_of h n t room
unfolding cml_of
cml-used h n t room = rw (judge-used Loose h n t, cml-text-used n t)

-- ---- the same of what is stored: where neither is refused

module _ (h : Header) (n : ℕ) (t : Tables) (room k : ℕ) (e : cml_of h n t room ≡ Ok k) where
  -- a sheet that is not refused is well made
  pub cml-made : judge_of Loose h n t ≡ Ok tt
  unfolding cml_of
  cml-made = (wrote-only (judge_of Loose h n t) (length (cml_text n t)) room k e).fine

  -- and the first k bytes of the output are its text
  pub cml-bytes : (l : List ℕ) → take k (output_of (cml_of h n t room) (cml_text n t) l) ≡ cml_text n t
  unfolding cml_of
  cml-bytes l =
      let s : length (cml_text n t) ≡ k = sym (wrote-only (judge_of Loose h n t) (length (cml_text n t)) room k e).long in
      rw e (take_at (cml_text n t) (drop (length (cml_text n t)) l) k s)

module _ (h g : Header) (n m : ℕ) (t u : Tables) (room place j k : ℕ) (e : cml_of h n t room ≡ Ok j) (f : cml_of g m u place ≡ Ok k) (l d : List ℕ) where
  abbrev first : List ℕ
  first = take j (output_of (cml_of h n t room) (cml_text n t) l)

  abbrev second : List ℕ
  second = take k (output_of (cml_of g m u place) (cml_text m u) d)

  -- **same**
  pub stored_same : polylines_of n t ≡ polylines_of m u → first ≡ second
  stored_same q = cml-bytes h n t room j e l ∙ cml-same n m t u q ∙ sym (cml-bytes g m u place k f d)

  -- **unlike**
  pub stored-unlike : (polylines_of n t ≡ polylines_of m u → ⊥) → first ≡ second → ⊥
  stored-unlike q w =
      q (cml-only h g n m t u (cml-made h n t room j e) (cml-made g m u place k f) (sym (cml-bytes h n t room j e l) ∙ w ∙ cml-bytes g m u place k f d))
