-- The ways through the functions that take a border of a sheet, each with what the code has in hand there. Assumes nothing.
use mathlib.Core.Path.{◌≡◌, refl, sym, ap, ◌∙◌, subst}
use mathlib.Core.List.{List, []}
use mathlib.Core.Bool.{Bool, true, false, cond, not}
use Prim.Native.Nat.{ℕ, ◌*◌, ◌^◌, ◌≤◌, ◌<◌}
use native.Mathlib.Omega.{arith}
use lib.ListN.{length, get_or, take}
use lib.IntN.{ℤ, pos}
use borrow.Author.Tests.{not-true, not-false}
use Rattle.std.proofs.Common.{Result, Ok, Err}
use Rattle.laws.proofs.ListLaws.{part_count}
use Rattle.heading.specs.declared.Header.{Header}
use Rattle.sheet.specs.Tables.{Tables}
use Rattle.made.specs.Made.{tables_of, nat_of, is_made}
use Rattle.made.proofs.RowWays.{made_held}
use Rattle.classes.specs.declared.Class.{Class}
use Rattle.classes.specs.Classes.{class_of}
use Rattle.border.specs.declared.Border.{Border}
use Rattle.border.specs.Borders.{is_border, border_with, border_of}
use Rattle.plane.specs.declared.NoArea.{NoArea}
use Rattle.plane.specs.declared.NoArea.TheVariants as NoArea
use Rattle.area.specs.declared.Areas.{Areas}
use Rattle.area.specs.BorderRings.{both_areas, areas_of}
use Rattle.tally.specs.declared.Tally.{Tally}
use Rattle.tally.specs.declared.Untallied.{Untallied}
use Rattle.tally.specs.declared.Untallied.TheVariants.{Missing, Full, Wide}
use Rattle.tally.specs.declared.Taken.{Taken}
use Rattle.tally.specs.Tally.{Added, is_tally, add_of, Good, tally_on}
use Rattle.tally.specs.Take.{taken_with, after_added, after_areas, Took, border_taken, row_taken, front_taken}
use Rattle.tally.proofs.AddWays.{added-good}

-- ---- the border, and the row, at the front of the tables

module _ (h : Header) (k : ℕ) (rows : List ℤ) (letters islands : List ℕ) (points : List ℤ) where
  abbrev front : Tables
  front = tables_of rows letters islands points

  module _ (l : ℕ) (j : l ≡ nat_of (get_or rows 9 (pos 0))) where
    pub letters-part : is_made front ≡ true → l ≡ length (take l letters)
    letters-part m = part_count l letters (omega (arith, (made_held front m).letters, j))

  module _ (b : Border) (c : Class) (q : b ≡ border_with c (tables_of rows [] [] [])) where
    pub islands-part : is_made front ≡ true → b.islands ≡ length (take b.islands islands)
    islands-part m = part_count b.islands islands (rw q (made_held front m).islands)

    module _ (l : ℕ) (j : l ≡ nat_of (get_or rows 9 (pos 0))) (d : c ≡ class_of h.kind h.name (take l letters)) (s : List ℤ) (g : Good s)
        (r : Result Areas NoArea) (e : r ≡ areas_of b.vertices (take b.islands islands) points) where
      border-is : b ≡ border_of h front
      unfolding border_of
      border-is = rw (q, d, j)

      found : (x : Result Areas NoArea) → r ≡ x → after_areas h k front (tally_on s) x ≡ border_taken h k front (tally_on s)
      unfolding border_taken
      found x f = rw (← f, e, q)

      kept : (x : Result Areas NoArea) → r ≡ x → (z : Result Unit Untallied) → after_areas h k front (tally_on s) x ≡ taken_with (tally_on s) z → Took (border_taken h k front (tally_on s)) s z
      kept x f z w = subst (λ (y : Taken). Took y s z) (sym w ∙ found x f) (record { tally-is = refl; refusal_is = refl; good = g })

      pub border-missing : r ≡ Err NoArea.Missing → Took (border_taken h k front (tally_on s)) s (Err Missing)
      border-missing f = kept (Err NoArea.Missing) f (Err Missing) refl

      pub border-wide : r ≡ Err NoArea.Wide → Took (border_taken h k front (tally_on s)) s (Err (Wide k))
      border-wide f = kept (Err NoArea.Wide) f (Err (Wide k)) refl

      module _ (o i : ℤ) (f : r ≡ Ok (both_areas o i)) {x : Bool} {z : List ℤ}
          (a : (x ≡ (add_of (tally_on s) b o i).fits) × (z ≡ (add_of (tally_on s) b o i).tally.figures)) where
        abbrev added : Added
        added = add_of (tally_on s) b o i

        all : after_added k added ≡ border_taken h k front (tally_on s)
        all = (rw border-is) ∙ found (Ok (both_areas o i)) f

        told : (y : Result Unit Untallied) → cond x (Ok tt) (Err (Full k)) ≡ y → Took (border_taken h k front (tally_on s)) z y
        told y t =
            subst (λ (b : Taken). Took b z y) all
            (record { tally-is = ap tally_on a.1; refusal_is = sym t ∙ ap (λ (b : Bool). cond b (Ok tt) (Err (Full k))) a.0; good = subst Good (sym a.1) (added-good s g b o i) })

        pub border-taken : x ≡ true → Took (border_taken h k front (tally_on s)) z (Ok tt)
        border-taken t = told (Ok tt) (rw t)

        pub border-full : x ≡ false → Took (border_taken h k front (tally_on s)) z (Err (Full k))
        border-full t = told (Err (Full k)) (rw t)
