-- The lines that are due are T-01's: as many, of the same names, in the same order (document 02, T-10). Assumes nothing.
use Prim.Native.Nat.{ℕ, suc, ◌+◌}
use mathlib.Core.Path.{◌≡◌, refl, ap, ◌∙◌}
use mathlib.Core.List.{List, [], ◌∷◌, ◌++◌}
use native.Mathlib.Omega.{arith}
use lib.ListN.{length, length-append}
use lib.IntN.{ℤ}
use Rattle.heading.specs.declared.Header.{Header}
use Rattle.sheet.specs.Tables.{Tables}
use Rattle.order.specs.SupBorders.{sup_borders}
use Rattle.order.specs.SupOrder.{sup_in_order}
use Rattle.order.proofs.OrderLaws.{in-order-length}
use Rattle.sup.specs.Lines.{FigureLine}
use Rattle.sup.specs.Sup.{CodeNet, head_lines, listed_lines, foot_lines, figure_lines}
use Rattle.sup.specs.Answer.{codes_in_order}
use Rattle.sup.proofs.SupLaws.{nets-count}
use Rattle.supline.specs.Right.{DueLine}
use Rattle.supcheck.specs.Due.{due_under, head_dues, head_due, listed_dues, listed_due, foot_dues, foot_due, due_with}

-- ---- as many

pub codes-count : (h : Header) (count : ℕ) (t : Tables) → length (codes_in_order h count t) ≡ length (sup_borders h count t)
unfolding codes_in_order
codes-count h count t = nets-count t (sup_in_order h count t) ∙ in-order-length h count t

pub head-count : (f : List ℤ) → length (head_due f) ≡ 6
unfolding head_due head_dues head_lines due_under
head-count f = refl

pub listed-due-count : (c : List CodeNet) → length (listed_due c) ≡ length c
unfolding listed_due listed_dues listed_lines due_under
listed-due-count [] = refl
listed-due-count (b ∷ c) = ap suc (listed-due-count c)

pub foot-count : (kind : ℕ) (f : List ℤ) (b : ℤ) → length (foot_due kind f b) ≡ 7
unfolding foot_due foot_dues foot_lines due_under
foot-count kind f b = refl

pub due-count : (kind : ℕ) (f : List ℤ) (c : List CodeNet) (b : ℤ) → length (due_with kind f c b) ≡ 13 + length c
unfolding due_with
due-count kind f c b =
    omega (
      arith,
      length-append (head_due f) (listed_due c ++ foot_due kind f b),
      length-append (listed_due c) (foot_due kind f b),
      head-count f,
      listed-due-count c,
      foot-count kind f b,
    )

-- ---- of the same names

pub data SameNames : List FigureLine → List DueLine → Type 0 where
  nameless : SameNames [] []
  alike : {x : FigureLine} {y : DueLine} {a : List FigureLine} {b : List DueLine} → x.name ≡ y.name → SameNames a b → SameNames (x ∷ a) (y ∷ b)

names-append : {a c : List FigureLine} {b d : List DueLine} → SameNames a b → SameNames c d → SameNames (a ++ c) (b ++ d)
names-append nameless n = n
names-append (alike e m) n = alike e (names-append m n)

head-names : (f : List ℤ) → SameNames (head_lines f) (head_due f)
unfolding head_due head_dues head_lines due_under
head-names f = alike refl (alike refl (alike refl (alike refl (alike refl (alike refl nameless)))))

listed-names : (c : List CodeNet) → SameNames (listed_lines c) (listed_due c)
unfolding listed_due listed_dues listed_lines due_under
listed-names [] = nameless
listed-names (b ∷ c) = alike refl (listed-names c)

foot-names : (kind : ℕ) (f : List ℤ) (b : ℤ) → SameNames (foot_lines kind f) (foot_due kind f b)
unfolding foot_due foot_dues foot_lines due_under
foot-names kind f b = alike refl (alike refl (alike refl (alike refl (alike refl (alike refl (alike refl nameless))))))

pub due-names : (kind : ℕ) (f : List ℤ) (c : List CodeNet) (b : ℤ) → SameNames (figure_lines kind f c) (due_with kind f c b)
unfolding due_with figure_lines
due-names kind f c b = names-append (head-names f) (names-append (listed-names c) (foot-names kind f b))
