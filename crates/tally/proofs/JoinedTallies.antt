-- The last clause of demand 3: put a second map's elements just before the EOF record of a first, and every tally is the sum of the
-- two. The joined file is `joined` of `sheet`. Assumes nothing.
use Prim.Native.Nat.{ℕ, ◌+◌, ◌≤◌}
use mathlib.Core.Path.{◌≡◌, sym, ◌∙◌, ap, ap₂}
use mathlib.Core.List.{List}
use mathlib.Core.Bool.{true}
use native.Mathlib.Omega.{arith}
use lib.ListN.{length, length-append}
use Rattle.std.proofs.Common.{Result, Ok, Err}
use Rattle.record.specs.declared.Mode.{Mode}
use Rattle.record.specs.Refusals.{file_most}
use Rattle.heading.specs.declared.Header.{Header}
use Rattle.sheet.specs.Tables.{Tables, over_of, row_count, starts_of, moved_on, ◌followed◌}
use Rattle.sheet.proofs.StartLaws.{length_moved}
use Rattle.sheet.specs.Reading.{sheet, reading, joined}
use Rattle.sheet.proofs.Meaning.{reading-meaning}
use Rattle.sheet.proofs.Join.{joining}
use Rattle.made.specs.Made.{used_of}
use Rattle.layout.proofs.ReadMade.{reading-made}
use Rattle.layout.proofs.UsedLaws.{read-used}
use Rattle.tally.specs.declared.Tally.{Tally}
use Rattle.tally.specs.declared.Taken.{Taken}
use Rattle.tally.specs.Tally.{is_tally, plus}
use Rattle.tally.specs.Take.{taken_with, tally_of}
use Rattle.tally.proofs.TallyJoin.{tallies-add}
use Rattle.tally.proofs.UsedLaws.{tally-used}

-- the tally of a sheet that was read
abbrev pub tally_read : Header → Tables → Taken
tally_read h o = tally_of h (row_count o) o

module _ (mode : Mode) (a b : List ℕ) (h g : Header) (o u : Tables) (d : reading mode a ≡ sheet h o) (e : reading mode b ≡ sheet g u) where
  -- what was read uses its tables up
  used : used_of (row_count o) o ≡ o
  used = (reading-made mode a h o (reading-meaning mode a h o d).1).2

  rows-joined : row_count (o followed u) ≡ row_count o + row_count u
  rows-joined =
      let x = (reading-made mode a h o (reading-meaning mode a h o d).1).3 in
      let y = (reading-made mode b g u (reading-meaning mode b g u e).1).3 in
      omega (arith, x, y, length-append o.rows (moved_on (starts_of o) u.rows), length_moved (starts_of o) u.rows)

  -- in maps of one kind and name
  pub joined-tallies : length (joined mode a b) ≤ file_most → h.kind ≡ g.kind → h.name ≡ g.name → (s t : Tally) → tally_read h o ≡ taken_with s (Ok tt) → tally_read g u ≡ taken_with t (Ok tt)
      → is_tally (plus s.figures t.figures) ≡ true
      → (reading mode (joined mode a b) ≡ sheet h (o followed u)) × (tally_read h (o followed u) ≡ taken_with (record { figures = plus s.figures t.figures }) (Ok tt))
  joined-tallies l p q s t x y z =
      let sums = tallies-add h g (row_count o) (row_count u) o u s t p q x y z in
      (joining mode a b h g o u d e l, ap₂ (λ (n : ℕ) (v : Tables). tally_of h n (v followed u)) rows-joined (sym used) ∙ sums)

-- ---- the same of tables as the readings leave them, over any old contents

tally-over : (mode : Mode) (a : List ℕ) (h : Header) (o old : Tables) → reading mode a ≡ sheet h o → tally_of h (row_count o) (over_of o old) ≡ tally_read h o
tally-over mode a h o old d =
    sym (tally-used h (row_count o) (over_of o old)) ∙ ap (tally_of h (row_count o)) (read-used mode a h o _ (reading-meaning mode a h o d).1)

module _ (mode : Mode) (a b : List ℕ) (h g : Header) (o u x y z : Tables) (d : reading mode a ≡ sheet h o) (e : reading mode b ≡ sheet g u) where
  pub joined-tallies-over : length (joined mode a b) ≤ file_most → h.kind ≡ g.kind → h.name ≡ g.name
      → (s t : Tally) → tally_of h (row_count o) (over_of o x) ≡ taken_with s (Ok tt) → tally_of g (row_count u) (over_of u y) ≡ taken_with t (Ok tt)
      → is_tally (plus s.figures t.figures) ≡ true
      → (reading mode (joined mode a b) ≡ sheet h (o followed u))
      × (tally_of h (row_count (o followed u)) (over_of (o followed u) z) ≡ taken_with (record { figures = plus s.figures t.figures }) (Ok tt))
  joined-tallies-over l p q s t i j k =
      let r = joined-tallies mode a b h g o u d e l p q s t (sym (tally-over mode a h o x d) ∙ i) (sym (tally-over mode b g u y e) ∙ j) k in
      (r.0, tally-over mode (joined mode a b) h (o followed u) z r.0 ∙ r.1)
