-- The ways through the judging of one line: its figure, its form, its nearness. Assumes nothing.
use Prim.Native.Nat.{ℕ, ◌^◌, ◌<◌}
use mathlib.Core.Path.{◌≡◌, sym, ap, ◌∙◌}
use mathlib.Core.List.{List}
use mathlib.Core.Bool.{Bool, true, false, not}
use lib.IntN.{ℤ}
use lib.Signed.{mag}
use mir.Syntax.{w64}
use mir.Val.{SFits, to_z, of_z}
use mir.Facts.{to_z-of_z}
use borrow.Author.Tests.{not-true, not-false}
use Rattle.laws.specs.Whole.{Within}
use Rattle.laws.proofs.Bits.{back}
use Rattle.spelling.specs.Figures.{is_narrow, figure_text}
use Rattle.supline.specs.Right.{due, DueLine, due_line, figure_in, is_fields, is_near, is_right_line}
use Rattle.supline.proofs.LineLaws.{narrow-line}

pub line-narrow : (z : ℤ) (b : Bool) → b ≡ is_narrow (to_z w64 (of_z w64 z)) → not b ≡ false → is_narrow (to_z w64 (of_z w64 z)) ≡ true
line-narrow z b e t = sym e ∙ not-false b t

module _ (name : List ℕ) (exact allowed : ℤ) (s : List ℕ) (z : ℤ) (ez : (z ≡ figure_in s) × Within 230000000000 z) (mz : mag z < 2 ^ 63) where
  abbrev line : DueLine
  line = due_line name (due exact allowed)

  figure-held : to_z w64 (of_z w64 z) ≡ figure_in s
  figure-held = back z mz ∙ ez.0

  module _ (b : Bool) (eb : b ≡ is_narrow (to_z w64 (of_z w64 z))) where
    pub line-wide : not b ≡ true → false ≡ is_right_line line s
    line-wide t = sym (narrow-line line s (sym (ap is_narrow figure-held) ∙ sym eb ∙ not-true b t))

    module _ (tb : not b ≡ false) where
      module _ (l : Bool) (el : l ≡ is_fields name (figure_text (to_z w64 (of_z w64 z))) s) where
        form-is : is_fields name (figure_text (figure_in s)) s ≡ l
        form-is = ap (λ (x : ℤ). is_fields name (figure_text x) s) (sym figure-held) ∙ sym el

        pub line-form : not l ≡ true → false ≡ is_right_line line s
        unfolding is_right_line
        line-form t = sym (rw (form-is, not-true l t))

        pub line-near : not l ≡ false → SFits w64 exact → SFits w64 allowed → (n : Bool)
            → n ≡ is_near (to_z w64 (of_z w64 z)) (to_z w64 (of_z w64 exact)) (to_z w64 (of_z w64 allowed)) → n ≡ is_right_line line s
        unfolding is_right_line
        line-near t fe fa n en = en ∙ rw (figure-held, to_z-of_z fe, to_z-of_z fa, form-is, not-false l t)

pub ruleset line-ways = (line-wide, line-form, line-near)
