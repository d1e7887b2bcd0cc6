-- In kinds 1 and 2 no border is OTHER: document 02, T-02. Assumes nothing.
use Prim.Native.Nat.{ℕ}
use mathlib.Core.Path.{◌≡◌, ap, ◌∙◌}
use mathlib.Core.Bool.{Bool, true, false, cond}
use native.Mathlib.Omega.{arith}
use Rattle.heading.specs.declared.Header.{Header}
use Rattle.sheet.specs.Tables.{Tables}
use Rattle.made.specs.Made.{letters_of}
use Rattle.row.specs.declared.Stand.{Stand}
use Rattle.row.specs.declared.Unfound.{Unfound}
use Rattle.row.specs.declared.Unfound.TheVariants.{Missing}
use Rattle.row.specs.Walk.{left_at}
use Rattle.row.specs.Seek.{sought_of}
use Rattle.classes.specs.declared.Class.TheVariants.{Other}
use Rattle.classes.proofs.ClassLaws.{never_other}
use Rattle.border.specs.declared.Border.{Border}
use Rattle.std.specs.Prelude.{Result, Ok, Err}
use Rattle.border.specs.Borders.{is_border, border_of}
use Rattle.border.specs.BorderAt.{border_found, border_at}

module _ (h : Header) (f : h.kind ≡ 3 → ⊥) where
  -- the first row of what is left
  pub border-never-other : (t : Tables) → (border_of h t).class ≡ Other → ⊥
  unfolding border_of
  border-never-other t q = never_other h.kind h.name (letters_of t) f q

  found-eq : (a b : Border) → ◌≡◌ {A = Result Border Unfound} (Ok a) (Ok b) → a ≡ b
  found-eq a b e = cc

  none≢found : (e : Unfound) (b : Border) → ◌≡◌ {A = Result Border Unfound} (Err e) (Ok b) → ⊥
  none≢found e b q = let z : ◌≡◌ {A = ℕ} 0 1 = cc in omega arith

  -- a border that is asked for
  pub asked-never-other : (count : ℕ) (t : Tables) (k : ℕ) (b : Border) → border_at h count t k ≡ Ok b → b.class ≡ Other → ⊥
  unfolding border_at
  asked-never-other count t k b e q = by (sought_of h count t k) e
    where
      by : (s : Result Stand Unfound) → border_found h t s ≡ Ok b → ⊥
      by (Ok d) e = go (is_border (left_at t d)) e
        where
          go : (x : Bool) → cond x (Ok (border_of h (left_at t d))) (Err Missing) ≡ Ok b → ⊥
          go true e = border-never-other (left_at t d) (ap (λ (y : Border). y.class) (found-eq (border_of h (left_at t d)) b e) ∙ q)
          go false e = none≢found Missing b e
      by (Err x) e = none≢found x b e
