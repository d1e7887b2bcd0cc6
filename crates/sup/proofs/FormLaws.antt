-- Lines of a SUP file have one form: two lists of lines with the same text are the same lines, name by name and figure by figure (document 02,
-- T-01). Assumes nothing.
use Prim.Native.Nat.{ℕ, zero, suc, ◌-◌, ◌^◌, ◌<◌}
use mathlib.Core.Path.{◌≡◌, refl, sym, ap, ap₂, ◌∙◌}
use mathlib.Core.List.{List, [], ◌∷◌, ◌++◌}
use native.Mathlib.Omega.{arith}
use lib.ListN.{length, take, drop, replicate, length-append, length-replicate}
use lib.Seq.{take-append_seam, drop-append_seam}
use lib.IntN.{nat_abs}
use Rattle.laws.specs.Lists.{kept}
use Rattle.number.specs.Words.{blank}
use Rattle.spelling.specs.Figures.{figure_text}
use Rattle.spelling.proofs.FigureLaws.{figure-same, figure-length}
use Rattle.order.specs.Sorting.{EachOf, EachOf.each_nil, EachOf.each_on}
use Rattle.sup.specs.Lines.{FigureLine, figure_line, left_field, fields_line, lines_text}
use Rattle.sup.proofs.SupLaws.{Fitting, line-length}

-- it finds room, its name has no blank at its end, and its figure is one of 64 bits (and many more)
pub record SpeltLine (x : FigureLine) : Type 0 where
  pub fitting : Fitting x
  pub ended : kept blank x.name ≡ length x.name
  pub small : nat_abs x.amount < 10 ^ 20

-- two parts, the first of one length
parts_same : (a b x y : List ℕ) → length a ≡ length b → a ++ x ≡ b ++ y → (a ≡ b) × (x ≡ y)
parts_same a b x y l e =
    (sym (take-append_seam a x) ∙ ap₂ (λ (n : ℕ) (s : List ℕ). take n s) l e ∙ take-append_seam b y, sym (drop-append_seam a x) ∙ ap₂ (λ (n : ℕ) (s : List ℕ). drop n s) l e ∙ drop-append_seam b y)

-- blanks behind a name are not kept
blanks-gone : (s : List ℕ) (n : ℕ) → kept blank (s ++ replicate n 32) ≡ kept blank s
unfolding kept
blanks-gone [] zero = refl
blanks-gone [] (suc n) = rw (blanks-gone [] n)
blanks-gone (b ∷ s) n = rw (blanks-gone s n)

name_back : (s : List ℕ) → kept blank s ≡ length s → take (kept blank (left_field s)) (left_field s) ≡ s
unfolding left_field
name_back s e = rw (blanks-gone s (11 - length s), e) (take-append_seam s (replicate (11 - length s) 32))

left-length : (x : FigureLine) → Fitting x → length (left_field x.name) ≡ 11
unfolding left_field
left-length x f = omega (arith, f.short, length-append x.name (replicate (11 - length x.name) 32), length-replicate {A = ℕ} (11 - length x.name) 32)

pub line_same : (x y : FigureLine) → SpeltLine x → SpeltLine y → fields_line x.name (figure_text x.amount) ≡ fields_line y.name (figure_text y.amount) → x ≡ y
unfolding fields_line
line_same x y a b e =
    let l = left-length x a.fitting ∙ sym (left-length y b.fitting) in
    let k = figure-length x.amount a.fitting.narrow ∙ sym (figure-length y.amount b.fitting.narrow) in
    let m : length (left_field x.name ++ figure_text x.amount) ≡ length (left_field y.name ++ figure_text y.amount)
    = omega (arith, length-append (left_field x.name) (figure_text x.amount), length-append (left_field y.name) (figure_text y.amount)) in
    let p = parts_same (left_field x.name) (left_field y.name) _ _ l (parts_same _ _ (13 ∷ 10 ∷ []) (13 ∷ 10 ∷ []) m e).0 in
    let n : x.name ≡ y.name = sym (name_back x.name a.ended) ∙ ap (λ (s : List ℕ). take (kept blank s) s) p.0 ∙ name_back y.name b.ended in
    ap₂ figure_line n (figure-same x.amount y.amount a.small b.small p.1)

line-some : (x : FigureLine) (s : List FigureLine) → SpeltLine x → 0 < length (lines_text (x ∷ s))
unfolding lines_text
line-some x s a =
    omega (arith, length-append (fields_line x.name (figure_text x.amount)) (lines_text s), line-length x.name (figure_text x.amount) a.fitting.short (figure-length x.amount a.fitting.narrow))

-- "no two forms of one number", over a whole text
pub lines_same : (s u : List FigureLine) → EachOf SpeltLine s → EachOf SpeltLine u → lines_text s ≡ lines_text u → s ≡ u
unfolding lines_text
lines_same [] [] each_nil each_nil e = refl
lines_same [] (y ∷ u) each_nil (each_on b d) e = absurd (omega (arith, line-some y u b, ap (λ (z : List ℕ). length z) e))
lines_same (x ∷ s) [] (each_on a c) each_nil e = absurd (omega (arith, line-some x s a, ap (λ (z : List ℕ). length z) e))
lines_same (x ∷ s) (y ∷ u) (each_on a c) (each_on b d) e =
    let l = line-length x.name (figure_text x.amount) a.fitting.short (figure-length x.amount a.fitting.narrow)
    ∙ sym (line-length y.name (figure_text y.amount) b.fitting.short (figure-length y.amount b.fitting.narrow)) in
    let p = parts_same _ _ (lines_text s) (lines_text u) l e in
    ap₂ (λ (z : FigureLine) (r : List FigureLine). z ∷ r) (line_same x y a b p.0) (lines_same s u c d p.1)
