-- 18 cannot come in the listing: document 01, "Listing program" and "Areas". Assumes nothing.
-- Of 8,192 bytes at most 1,365 are numbers of points. A border of v vertices adds at most v times 800,000,000,000,000 to any one figure, and
-- takes 2 v of those numbers, so no figure comes near 9,000,000,000,000,000,000.
use Prim.Native.Nat.{ℕ, zero, suc, ◌+◌, ◌-◌, ◌*◌, ◌≤◌}
use mathlib.Core.Path.{◌≡◌, refl}
use mathlib.Core.List.{List, [], ◌∷◌, ◌++◌}
use mathlib.Core.Bool.{true}
use Rattle.std.specs.Prelude.{Result, Ok, Err}
use Rattle.std.specs.Result.{is_ok}
use native.Mathlib.Omega.{arith}
use lib.ListN.{length, replicate, length-drop}
use lib.Seq.{length-take-le}
use lib.Dec.{leb}
use lib.IntN.{ℤ, pos, ◌+ℤ◌}
use lib.Signed.{le_z}
use borrow.Author.Tests.{leb-true, le-leb, eqb-true, ne_eqb}
use Rattle.laws.specs.Lists.{all}
use Rattle.laws.proofs.Choice.{and_left, and_right, and_both, cond-elim}
use Rattle.laws.proofs.Parts.{num, ints, le-true}
use Rattle.laws.proofs.Parts as Parts
use Rattle.record.specs.declared.Mode.TheVariants.{Loose}
use Rattle.record.specs.Refusals.{too_wide}
use Rattle.heading.specs.declared.Header.{Header}
use Rattle.kinds.specs.Kinds.{islands_place, vertices_place}
use Rattle.sheet.specs.Tables.{Tables, row_count}
use Rattle.sheet.specs.Reading.{sheet, reading}
use Rattle.sheet.proofs.Meaning.{reading-meaning}
use Rattle.reader.proofs.Bytes.{tables-most}
use Rattle.made.specs.Made.{count_at, kind_of, islands_of, rest_of, sum, four_at_least, is_made, Before, none_before, past_row, judge_rows, judge_of}
use Rattle.made.proofs.UsedLaws.{fine-on}
use Rattle.made.proofs.RowWays.{made_held, made_counted}
use Rattle.plane.specs.declared.NoArea.{NoArea}
use Rattle.plane.specs.Rings.{most}
use Rattle.plane.specs.Areas.{area_of, edge-limit}
use Rattle.plane.proofs.AreaLaws.{area-size}
use Rattle.border.specs.Borders.{is_border, border_of}
use Rattle.area.specs.declared.Areas.{Areas}
use Rattle.area.specs.BorderRings.{total_from, both_areas, of_rings, areas_of}
use Rattle.area.proofs.AreaLaws.{Sized, total-sized}
use Rattle.layout.proofs.ReadMade.{reading-made}
use Rattle.tally.specs.declared.Tally.{Tally}
use Rattle.tally.specs.declared.Untallied.{Untallied}
use Rattle.tally.specs.declared.Untallied.TheVariants.{Sheet, Missing, Full, Wide}
use Rattle.tally.specs.declared.Taken.{Taken}
use Rattle.tally.specs.Tally.{limit, is_figure, is_tally, empty_tally, plus, figures_of, with_figures, add_of}
use Rattle.tally.specs.Take.{taken_with, borders_areas, after_added, after_areas, border_taken, row_taken, tally_rows, tally_of, number_of, row_of}
use Rattle.listing.specs.Listing.{refused_line, tallied_text, sheet_listing, input_most, listing_of}
use Rattle.listing.proofs.Sound.{OnlyFull, read-tallied}

-- ---- figures from 0 to c

abbrev UpTo : ℕ → List ℤ → Type 0
UpTo c [] = Unit {0}
UpTo c (z ∷ s) = (le_z (pos 0) z ≡ true) × (le_z z (pos c) ≡ true) × UpTo c s

up-to-le : (c d : ℕ) (s : List ℤ) → c ≤ d → UpTo c s → UpTo d s
up-to-le c d [] h u = tt
up-to-le c d (z ∷ s) h u =
    let q = u.1 in
    (u.0, le-true z (pos d) (omega (arith, ints, num z)), up-to-le c d s h u.2)

up-to-plus : (c d : ℕ) (s t : List ℤ) → UpTo c s → UpTo d t → UpTo (c + d) (plus s t)
unfolding plus
up-to-plus c d [] t u v = tt
up-to-plus c d (a ∷ s) [] u v = tt
up-to-plus c d (a ∷ s) (b ∷ t) u v =
    let p = u.0 in
    let q = u.1 in
    let r = v.0 in
    let w = v.1 in (
      le-true (pos 0) (a +ℤ b) (omega (arith, ints, num a, num b, Parts.sum a b)),
      le-true (a +ℤ b) (pos (c + d)) (omega (arith, ints, num a, num b, Parts.sum a b)),
      up-to-plus c d s t u.2 v.2,
    )

up-to-append : (c : ℕ) (s t : List ℤ) → UpTo c s → UpTo c t → UpTo c (s ++ t)
up-to-append c [] t u v = v
up-to-append c (z ∷ s) t u v = (u.0, u.1, up-to-append c s t u.2 v)

up-to-zeros : (c n : ℕ) → UpTo c (replicate n (pos 0))
up-to-zeros c zero = tt
up-to-zeros c (suc n) = (refl, le-true (pos 0) (pos c) (omega arith), up-to-zeros c n)

up-to-tally : (c : ℕ) (s : List ℤ) → c ≤ limit → UpTo c s → is_tally s ≡ true
unfolding is_tally is_figure
up-to-tally c [] h u = refl
up-to-tally c (z ∷ s) h u =
    let q = u.1 in
    and_both (is_figure z) (is_tally s) (and_both (le_z (pos 0) z) (le_z z (pos limit)) u.0 (le-true z (pos limit) (omega (arith, ints, num z)))) (up-to-tally c s h u.2)

-- ---- a border of v vertices

abbrev Small : ℕ → Result Areas NoArea → Type 0
Small c (Ok r) = (le_z (pos 0) r.outer ≡ true) × (le_z r.outer (pos c) ≡ true) × (le_z (pos 0) r.inner ≡ true) × (le_z r.inner (pos c) ≡ true)
Small c (Err e) = Unit {0}

areas-small : (v : ℕ) (islands : List ℕ) (ps : List ℤ) → sum islands ≤ v → Small (v * edge-limit) (areas_of v islands ps)
unfolding areas_of
areas-small v islands ps h =
    cond-elim (Small (v * edge-limit)) (leb v most) _ _
    (λ _. by (area_of ps 0 (v - sum islands)) refl (total_from ps (v - sum islands) islands) (total-sized ps (v - sum islands) islands))
    (λ _. tt)
  where
    by : (x : Result ℤ NoArea) → area_of ps 0 (v - sum islands) ≡ x → (y : Result ℤ NoArea) → Sized (sum islands) y → Small (v * edge-limit) (of_rings x y)
    by (Ok a) e (Ok b) q =
        let r = area-size ps 0 (v - sum islands) a e in
        let p = r.2 in
        let s = q.1 in
        (p, le-true a (pos (v * edge-limit)) (omega (arith, ints, num a, r.1.within)), s, le-true b (pos (v * edge-limit)) (omega (arith, ints, num b, q.0.within)))
    by (Ok a) e (Err f) q = tt
    by (Err f) e y q = tt

-- an island has 4 vertices at least
few-islands : (s : List ℕ) → all four_at_least s ≡ true → length s ≤ sum s
unfolding all sum
few-islands [] e = omega arith
few-islands (n ∷ s) e = omega (arith, leb-true 4 n (and_left (leb 4 n) (all four_at_least s) e), few-islands s (and_right (leb 4 n) (all four_at_least s) e))

own-up-to : (c k : ℕ) (outer inner : ℤ) (islands : ℕ) → 1 ≤ c → islands ≤ c → Small c (Ok (both_areas outer inner)) → UpTo c (figures_of k outer (pos islands) inner)
unfolding figures_of
own-up-to c k outer inner islands h i s =
    up-to-append c (replicate (4 * k) (pos 0)) (pos 1 ∷ outer ∷ pos islands ∷ inner ∷ replicate (4 * (5 - k)) (pos 0)) (up-to-zeros c (4 * k))
    (refl, le-true (pos 1) (pos c) (omega arith), (s.0, s.1, (le-true (pos 0) (pos islands) (omega arith), le-true (pos islands) (pos c) (omega arith), (s.2, s.3, up-to-zeros c (4 * (5 - k))))))

-- ---- one row, then all

abbrev NotFull : Result Unit Untallied → Type 0
NotFull (Ok u) = Unit {0}
NotFull (Err (Sheet f)) = Unit {0}
NotFull (Err Missing) = Unit {0}
NotFull (Err (Full k)) = ⊥
NotFull (Err (Wide k)) = Unit {0}

-- 18 is not given, and the figures are at most c
abbrev Kept : ℕ → Taken → Type 0
Kept c x = NotFull x.outcome × UpTo c x.tally.figures

with-kept : (k : ℕ) (a : Tally) (own : List ℤ) (c d : ℕ) → c + d ≤ limit → UpTo c a.figures → UpTo d own → Kept (c + d) (after_added k (with_figures a own))
unfolding with_figures
with-kept k a own c d h u w =
    let p = up-to-plus c d a.figures own u w in
    rw (up-to-tally c a.figures (omega arith) u, up-to-tally d own (omega arith) w, up-to-tally (c + d) (plus a.figures own) h p) (tt, p)

module _ (h : Header) (k : ℕ) (t : Tables) (a : Tally) (made : is_made t ≡ true) (c : ℕ) (u : UpTo c a.figures) (room : c + count_at t vertices_place * edge-limit ≤ limit) where
  abbrev d : ℕ
  d = count_at t vertices_place * edge-limit

  border-kept : is_border t ≡ true → Kept (c + d) (border_taken h k t a)
  unfolding border_taken add_of border_of
  border-kept e =
      let n = made_counted t made (eqb-true (kind_of t) 1 e) in
      let m : count_at t islands_place ≤ sum (islands_of t) = omega (arith, few-islands (islands_of t) n.islands, length-take-le (count_at t islands_place) t.islands (made_held t made).islands) in
      by m n.outer (borders_areas t) (areas-small (count_at t vertices_place) (islands_of t) t.points (omega (arith, n.outer)))
    where
      by : count_at t islands_place ≤ sum (islands_of t) → sum (islands_of t) + 4 ≤ count_at t vertices_place → (x : Result Areas NoArea) → Small d x → Kept (c + d) (after_areas h k t a x)
      by m o (Ok r) s = with-kept k a _ c d room u (own-up-to d _ r.outer r.inner (count_at t islands_place) (omega arith) (omega arith) s)
      by m o (Err NoArea.Wide) s = (tt, up-to-le c (c + d) a.figures (omega arith) u)
      by m o (Err NoArea.Missing) s = (tt, up-to-le c (c + d) a.figures (omega arith) u)

  row_kept : Kept (c + d) (row_taken h k t a)
  unfolding row_taken
  row_kept =
      cond-elim (Kept (c + d)) (is_border t) (border_taken h k t a) (taken_with a (Ok tt)) border-kept (λ _. (tt, up-to-le c (c + d) a.figures (omega arith) u))

rows-kept : (h : Header) (n k : ℕ) (b : Before) (t : Tables) (a : Tally) (c : ℕ) → judge_rows Loose n b t ≡ Ok tt → UpTo c a.figures → 2 * c + length t.points * edge-limit ≤ 2 * limit
    → NotFull (tally_rows h n k t a).outcome
unfolding tally_rows
rows-kept h zero k b t a c e u room = tt
rows-kept h (suc n) k b t a c e u room =
    let m = fine-on Loose n b t e in
    let v = count_at t vertices_place in
    let p = (made_held t m.0).points in
    let x = row_kept h k t a m.0 c u (omega arith) in
    cond-elim (λ (y : Taken). NotFull y.outcome) (is_ok (row_taken h k t a).outcome) _ _
    (λ _. rows-kept h n (k + 1) (past_row b t) (rest_of t) (row_taken h k t a).tally (c + v * edge-limit) m.1 x.1 (omega (arith, length-drop (2 * v) t.points)))
    (λ _. x.0)

-- **18 cannot come in the listing**: a file of at most 8,192 bytes that is read, and whose tally is refused, is refused by 17
pub listing-wide : (bs : List ℕ) (h : Header) (o : Tables) → length bs ≤ input_most → reading Loose bs ≡ sheet h o
    → (number_of (tally_of h (row_count o) o).outcome ≡ 0 → ⊥) → number_of (tally_of h (row_count o) o).outcome ≡ too_wide
unfolding tally_of judge_of
listing-wide bs h o l q =
    let m = reading-made Loose bs h o (reading-meaning Loose bs h o q).1 in
    let v : judge_of Loose h (row_count o) o ≡ Ok tt = rw (m.0, m.1) in
    only (tally_of h (row_count o) o).outcome (read-tallied bs h o q).1
    (rw v (rows-kept h (row_count o) 0 none_before o empty_tally 0 m.1 (up-to-zeros 0 24) (omega (arith, tables-most Loose bs h o q))))
  where
    only : (r : Result Unit Untallied) → OnlyFull r → NotFull r → (number_of r ≡ 0 → ⊥) → number_of r ≡ too_wide
    only (Ok u) f g z = absurd (z refl)
    only (Err (Sheet e)) f g z = absurd f
    only (Err Missing) f g z = absurd f
    only (Err (Full k)) f g z = absurd g
    only (Err (Wide k)) f g z = refl

-- and that is what it prints: the row, 0 and 0
pub listing-refused : (bs : List ℕ) (h : Header) (o : Tables) → length bs ≤ input_most → reading Loose bs ≡ sheet h o
    → (number_of (tally_of h (row_count o) o).outcome ≡ 0 → ⊥) → listing_of bs ≡ refused_line too_wide (row_of (tally_of h (row_count o) o).outcome) 0 0
unfolding listing_of sheet_listing tallied_text
listing-refused bs h o l q z =
    rw (le-leb (length bs) input_most l, q, ne_eqb (number_of (tally_of h (row_count o) o).outcome) 0 z, listing-wide bs h o l q z)
