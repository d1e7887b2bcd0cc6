-- The walks over the rows, one that measures and one that writes: document 02, T-11. Assumes nothing.
use Prim.Native.Nat.{ℕ, zero, suc, ◌+◌, ◌-◌, ◌*◌, ◌≤◌, ◌<◌, min}
use mathlib.Core.Path.{◌≡◌, refl, sym, ◌∙◌, ap}
use mathlib.Core.List.{List, [], ◌∷◌, ◌++◌}
use mathlib.Core.Bool.{Bool, true, false, cond}
use native.Mathlib.Nat.{sub-zero, zero-add}
use native.Mathlib.Omega.{arith}
use lib.ListN.{length, drop, length-append, length-drop}
use lib.Dec.{eqb, leb}
use borrow.Author.Tests.{leb-true}
use Rattle.laws.specs.Lists.{over}
use Rattle.record.specs.declared.Mode.TheVariants.{Loose}
use Rattle.record.specs.Refusals.{file_most}
use Rattle.kinds.specs.Kinds.{vertices_place}
use Rattle.heading.specs.declared.Header.{Header}
use Rattle.sheet.specs.Tables.{Tables}
use Rattle.std.specs.Prelude.{Result, Ok}
use Rattle.made.specs.declared.Flaw.{Flaw}
use Rattle.made.specs.Made.{tables_of, kind_of, rest_of, is_made, Before, none_before, past_row, judge_rows, judge_of}
use Rattle.made.proofs.UsedLaws.{fine-on}
use Rattle.row.specs.Walk.{cell_in}
use Rattle.row.proofs.SeekLaws.{fine-rows}
use Rattle.writer.specs.Put.{Put}
use Rattle.writer.specs.Write.{written_after}
use Rattle.writer.proofs.Putting.{Putting, putting-start, putting-room, putting-on, putting-end}
use Rattle.writer.proofs.RowFacts.{row_is, vertices-in}
use Rattle.writer.proofs.Walk.{Passing, passing_start, one_more, passing-made, passing-on}
use Rattle.writer.proofs.SheetWays.{wrote-whole}
use Rattle.cml.specs.Element.{element_text, elements_text}
use Rattle.cml.specs.Lines.{line_kind, polyline_of, polylines_of, cml_text}
use Rattle.cml.specs.Spaced.{row_element, lines_most, Drawn}
use Rattle.cml.proofs.CmlLaws.{line_code}
use Rattle.cml.proofs.LineWays.{element-most}

-- ---- a row that was judged

drawn-row : (t : Tables) → is_made t ≡ true → Drawn t.rows t.points
drawn-row t e =
    let r = row_is t e in
    record {
      code-most = line_code t e;
      vertices-most = vertices-in t.rows r.numbers;
      held = r.points-held;
      reals = r.points-real;
    }

-- ---- what is to be written, by its first row

cml-step : (n : ℕ) (t : Tables) → cml_text (suc n) t ≡ row_element t ++ cml_text n (rest_of t)
unfolding cml_text polylines_of row_element elements_text
cml-step n t = go (eqb (kind_of t) line_kind)
  where
    go : (x : Bool) → elements_text (cond x (polyline_of t ∷ polylines_of n (rest_of t)) (polylines_of n (rest_of t))) ≡ cond x (element_text (polyline_of t)) [] ++ elements_text (polylines_of n (rest_of t))
    go true = refl
    go false = refl

-- the first row of what is left, as the code hands it on
abbrev pub here : Tables → Tables
here u = tables_of u.rows [] [] u.points

row-alone : (t : Tables) → row_element (here t) ≡ row_element t
unfolding row_element
row-alone t = refl

module _ {count k : ℕ} {u : Tables} (w : Passing Loose count k u) (h : k < count) where
  pub passing-drawn : Drawn u.rows u.points
  passing-drawn = drawn-row u (passing-made w h)

  pub lines-here : cml_text (count - k) u ≡ row_element (here u) ++ cml_text (count - (k + 1)) (rest_of u)
  lines-here = ap (λ (n : ℕ). cml_text n u) (one_more w h) ∙ cml-step (count - (k + 1)) u ∙ rw (row-alone u)

lines-over : (t : Tables) (count k : ℕ) → count ≤ k → cml_text (count - k) t ≡ []
unfolding cml_text polylines_of elements_text
lines-over t count k h = let z : count - k ≡ 0 = omega arith in rw z

-- ---- the loop that measures

pub record Measured (t : Tables) (count : ℕ) (u : Tables) (total k : ℕ) : Type 0 where
  pub passing : Passing Loose count k u
  pub small : total ≤ file_most
  pub sum : length (cml_text count t) ≡ total + length (cml_text (count - k) u)

pub measured-start : (t : Tables) (count : ℕ) → judge_rows Loose count none_before t ≡ Ok tt → Measured t count t 0 0
measured-start t count e = record { passing = passing_start Loose t count e; small = omega arith; sum = rw (sub-zero count) (sym (zero-add (length (cml_text count t)))) }

module _ {t : Tables} {count : ℕ} {u : Tables} {total k : ℕ} (m : Measured t count u total k) where
  module _ (h : k < count) {r : ℕ} (q : r ≡ length (row_element (here u))) where
    measured-row : length (cml_text count t) ≡ total + r + length (cml_text (count - (k + 1)) (rest_of u))
    measured-row =
        omega (
          arith,
          m.sum,
          ap length (lines-here m.passing h),
          length-append (row_element (here u)) (cml_text (count - (k + 1)) (rest_of u)),
          q,
        )

    pub measured-most : r < 500000
    measured-most =
        let g = passing-drawn m.passing h in
        omega (arith, q, element-most u.rows u.points g, g.vertices-most)

    pub measured-on : (v : Tables) → v ≡ rest_of u → total + r ≤ file_most → Measured t count v (total + r) (k + 1)
    measured-on v f s = rw f (record { passing = passing-on m.passing h; small = s; sum = measured-row })

    pub measured-high : file_most < total + r → file_most + 1 ≡ min (length (cml_text count t)) (file_most + 1)
    measured-high s = omega (arith, measured-row)

  pub measured-end : count ≤ k → total ≡ min (length (cml_text count t)) (file_most + 1)
  measured-end h = omega (arith, m.sum, m.small, ap length (lines-over u count k h))

-- ---- the loop that writes

pub record Writing (t : Tables) (count : ℕ) (l : List ℕ) (u : Tables) (out : List ℕ) (next k : ℕ) : Type 0 where
  pub passing : Passing Loose count k u
  pub puts : Putting l 0 (cml_text count t) out next (cml_text (count - k) u)

pub writing_start : (t : Tables) (count : ℕ) (l : List ℕ) → judge_rows Loose count none_before t ≡ Ok tt → length (cml_text count t) ≤ length l
    → Writing t count l t l 0 0
writing_start t count l e h =
    record { passing = passing_start Loose t count e; puts = rw (sub-zero count) (putting-start l 0 (cml_text count t) (omega arith)) }

module _ {t : Tables} {count : ℕ} {l : List ℕ} {u : Tables} {out : List ℕ} {next k : ℕ} (m : Writing t count l u out next k) where
  module _ (h : k < count) where
    pub writing-room : next + length (row_element (here u)) ≤ length out
    writing-room = putting-room m.puts (row_element (here u)) _ (lines-here m.passing h)

    pub writing-on : {v : Tables} {x : List ℕ} {r : ℕ} → v ≡ rest_of u → Put out next (row_element (here u)) x r → Writing t count l v x r (k + 1)
    writing-on {v} {x} {r} f p = rw f (record { passing = passing-on m.passing h; puts = putting-on m.puts (row_element (here u)) _ (lines-here m.passing h) p })

  module _ (h : count ≤ k) where
    written : Put l 0 (cml_text count t) out next
    written = putting-end m.puts (lines-over u count k h)

    pub writing-length : next ≡ length (cml_text count t)
    writing-length = written.next ∙ zero-add (length (cml_text count t))

    pub writing-end : out ≡ over (cml_text count t) l
    writing-end = written.is ∙ ap (λ (k : ℕ). cml_text count t ++ drop k l) (zero-add (length (cml_text count t)))

-- ---- room whatever the numbers are

lines-most : (n : ℕ) (b : Before) (t : Tables) → judge_rows Loose n b t ≡ Ok tt → length (cml_text n t) ≤ lines_most n (length t.points)
unfolding cml_text polylines_of elements_text
lines-most zero b t e = omega arith
lines-most (suc n) b t e =
    let j = fine-on Loose n b t e in
    let g = drawn-row t j.0 in
    omega (
      arith,
      lines-most n (past_row b t) (rest_of t) j.1,
      ap length (cml-step n t),
      length-append (row_element t) (cml_text n (rest_of t)),
      ap length (row-alone t),
      element-most t.rows t.points g,
      g.held,
      length-drop (2 * cell_in t.rows vertices_place) t.points,
    )

module _ (t : Tables) (count room : ℕ) (e : judge_rows Loose count none_before t ≡ Ok tt) {b : Bool} (q : b ≡ leb (lines_most count (length t.points)) (min file_most room)) (h : b ≡ true) where
  roomy : length (cml_text count t) ≤ min file_most room
  roomy = omega (arith, lines-most count none_before t e, leb-true (lines_most count (length t.points)) (min file_most room) (sym q ∙ h))

  pub roomy-room : length (cml_text count t) ≤ room
  roomy-room = omega (arith, roomy)

  pub roomy-wrote : {n : ℕ} → n ≡ length (cml_text count t) → Ok n ≡ written_after (Ok tt) (length (cml_text count t)) room
  roomy-wrote {n} p = wrote-whole (length (cml_text count t)) room n (omega (arith, p, roomy)) (omega (arith, p, roomy)) (omega (arith, p, roomy))

-- ---- the rows of a sheet that was judged

pub judged-lines : (h : Header) (count : ℕ) (t : Tables) {v : Result Unit Flaw} → v ≡ judge_of Loose h count t → v ≡ Ok tt → judge_rows Loose count none_before t ≡ Ok tt
judged-lines h count t e f = fine-rows h count t (sym e ∙ f)
