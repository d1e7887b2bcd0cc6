-- The loops over the rows, one that measures and one that writes. Assumes nothing.
use Rattle.std.proofs.Common.{◌≡◌, ℕ, suc, ◌+◌, ◌-◌, ◌≤◌, ◌<◌, List, [], ◌++◌, length, true, Ok, refl, ap, ◌∙◌, arith, length-append}
use Prim.Native.Nat.{min}
use native.Mathlib.Nat.{sub-zero}
use Rattle.record.specs.declared.Mode.{Mode}
use Rattle.record.specs.declared.Mode.TheVariants.{Exact}
use Rattle.record.specs.Refusals.{file_most}
use Rattle.sheet.specs.Tables.{Tables}
use Rattle.made.specs.Made.{rest_of, is_made, are_numbers, Before, none_before, past_row, judge_rows}
use Rattle.made.proofs.UsedLaws.{fine-on}
use Rattle.layout.specs.Sheet.{row_text, rows_text}
use Rattle.writer.specs.Put.{Put, row_size}
use Rattle.writer.proofs.Putting.{Putting, putting-start, putting-room, putting-on, putting-end}
use Rattle.writer.proofs.RowFacts.{row_is}
use Rattle.writer.proofs.Sizes.{row-size, row-most}

-- ---- k of `count` rows are passed, and u is left: the rows there are fine behind what stands before them

pub record Passing (mode : Mode) (count k : ℕ) (u : Tables) : Type 0 where
  pub before : Before
  pub fine : judge_rows mode (count - k) before u ≡ Ok tt

pub passing_start : (mode : Mode) (t : Tables) (count : ℕ) → judge_rows mode count none_before t ≡ Ok tt → Passing mode count 0 t
passing_start mode t count e = record { before = none_before; fine = rw (sub-zero count) e }

module _ {mode : Mode} {count k : ℕ} {u : Tables} (w : Passing mode count k u) (h : k < count) where
  pub one_more : count - k ≡ suc (count - (k + 1))
  one_more = omega arith

  first : judge_rows mode (suc (count - (k + 1))) w.before u ≡ Ok tt
  first = rw one_more at w.fine

  pub passing-made : is_made u ≡ true
  passing-made = (fine-on mode (count - (k + 1)) w.before u first).0

  passing-numbers : are_numbers u.rows ≡ true
  passing-numbers = (row_is u passing-made).numbers

  pub passing-on : Passing mode count (k + 1) (rest_of u)
  passing-on = record { before = past_row w.before u; fine = (fine-on mode (count - (k + 1)) w.before u first).1 }

  -- what is to be written, by its first row
  rows-here : rows_text (count - k) u ≡ row_text u ++ rows_text (count - (k + 1)) (rest_of u)
  unfolding rows_text
  rows-here = rw one_more

rows-over : (t : Tables) (count k : ℕ) → count ≤ k → rows_text (count - k) t ≡ []
unfolding rows_text
rows-over t count k h = let z : count - k ≡ 0 = omega arith in rw z

-- ---- the loop that measures, behind `start` bytes

pub record Measured (t : Tables) (count start : ℕ) (u : Tables) (total k : ℕ) : Type 0 where
  pub passing : Passing Exact count k u
  pub small : total ≤ file_most
  pub sum : start + length (rows_text count t) ≡ total + length (rows_text (count - k) u)

pub measured-start : (t : Tables) (count start : ℕ) → start ≤ file_most → judge_rows Exact count none_before t ≡ Ok tt → Measured t count start t start 0
measured-start t count start h e = record { passing = passing_start Exact t count e; small = h; sum = rw (sub-zero count) }

module _ {t : Tables} {count start : ℕ} {u : Tables} {total k : ℕ} (m : Measured t count start u total k) where
  module _ (h : k < count) where
    pub measured-numbers : are_numbers u.rows ≡ true
    measured-numbers = passing-numbers m.passing h

    module _ {r : ℕ} (q : r ≡ row_size u.rows) where
      measured-row : start + length (rows_text count t) ≡ total + r + length (rows_text (count - (k + 1)) (rest_of u))
      measured-row =
          omega (
            arith,
            m.sum,
            ap length (rows-here m.passing h),
            length-append (row_text u) (rows_text (count - (k + 1)) (rest_of u)),
            row-size u (passing-made m.passing h),
            q,
          )

      pub measured-most : r < 400000
      measured-most = omega (arith, q, row-most u.rows (passing-numbers m.passing h))

      pub measured-on : (v : Tables) → v ≡ rest_of u → total + r ≤ file_most → Measured t count start v (total + r) (k + 1)
      measured-on v f s = rw f (record { passing = passing-on m.passing h; small = s; sum = measured-row })

      pub measured-high : file_most < total + r → file_most + 1 ≡ min (start + length (rows_text count t)) (file_most + 1)
      measured-high s = omega (arith, measured-row)

  pub measured-end : count ≤ k → total ≡ min (start + length (rows_text count t)) (file_most + 1)
  measured-end h = omega (arith, m.sum, m.small, ap length (rows-over u count k h))

-- ---- the loop that writes

pub record Writing (t : Tables) (count : ℕ) (l : List ℕ) (at : ℕ) (u : Tables) (out : List ℕ) (next k : ℕ) : Type 0 where
  pub passing : Passing Exact count k u
  pub puts : Putting l at (rows_text count t) out next (rows_text (count - k) u)

pub writing_start : (t : Tables) (count : ℕ) (l : List ℕ) (at : ℕ) → judge_rows Exact count none_before t ≡ Ok tt → at + length (rows_text count t) ≤ length l
    → Writing t count l at t l at 0
writing_start t count l at e h = record { passing = passing_start Exact t count e; puts = rw (sub-zero count) (putting-start l at (rows_text count t) h) }

module _ {t : Tables} {count : ℕ} {l : List ℕ} {at : ℕ} {u : Tables} {out : List ℕ} {next k : ℕ} (m : Writing t count l at u out next k) where
  module _ (h : k < count) where
    pub writing-made : is_made u ≡ true
    writing-made = passing-made m.passing h

    pub writing-room : next + length (row_text u) ≤ length out
    writing-room = putting-room m.puts (row_text u) _ (rows-here m.passing h)

    pub writing-on : {v : Tables} {x : List ℕ} {r : ℕ} → v ≡ rest_of u → Put out next (row_text u) x r → Writing t count l at v x r (k + 1)
    writing-on {v} {x} {r} f p = rw f (record { passing = passing-on m.passing h; puts = putting-on m.puts (row_text u) _ (rows-here m.passing h) p })

  pub writing-end : count ≤ k → Put l at (rows_text count t) out next
  writing-end h = putting-end m.puts (rows-over u count k h)
