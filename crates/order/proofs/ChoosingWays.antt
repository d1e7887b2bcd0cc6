-- The row at a stand is listed: its border is that of what is left of rows and letters there. Assumes nothing.
use Prim.Native.Nat.{ℕ, min}
use mathlib.Core.Path.{◌≡◌, ◌∙◌}
use mathlib.Core.List.{List, []}
use mathlib.Core.Bool.{Bool, true}
use lib.ListN.{length}
use lib.IntN.{ℤ}
use Rattle.laws.specs.Lists.{tail}
use Rattle.heading.specs.declared.Header.{Header}
use Rattle.made.specs.Made.{tables_of}
use Rattle.row.specs.declared.Stand.{Stand}
use Rattle.row.specs.Walk.{left_at}
use Rattle.border.specs.declared.Border.{Border}
use Rattle.border.specs.Borders.{is_border, border_of}
use Rattle.order.specs.SupBorders.{is_wanted, is_in_sup}
use Rattle.order.proofs.ClipLaws.{tail-clip}

module _ (h : Header) (rows : List ℤ) (letters : List ℕ) (d : Stand) (r : ℕ) (er : r ≡ min d.row (length rows)) (b : Bool) (e : b ≡ is_border (tables_of (tail rows r) [] [] [])) where
  kind-is : b ≡ is_border (left_at (tables_of rows letters [] []) d)
  kind-is = rw (tail-clip d.row rows r er) at e

  pub sup-is : b ≡ true → (l : ℕ) → l ≡ min d.letters (length letters) → (x : Border) → x ≡ border_of h (tables_of (tail rows r) (tail letters l) [] [])
      → (w : Bool) → w ≡ is_wanted h.kind x → w ≡ is_in_sup h (left_at (tables_of rows letters [] []) d)
  unfolding is_in_sup border_of
  sup-is f l el x ex w ew = ew ∙ rw (← kind-is, f, ex, tail-clip d.row rows r er, tail-clip d.letters letters l el)
