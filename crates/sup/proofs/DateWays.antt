-- A date's bytes: the library's test of all of them, and the definition's; a date has eight. Assumes nothing.
use Prim.Native.Nat.{ℕ, suc}
use mathlib.Core.Path.{◌≡◌, refl, ap}
use mathlib.Core.List.{List, [], ◌∷◌}
use mathlib.Core.Bool.{Bool, true, ◌&&◌}
use lib.ListN.{length}
use lib.Dec.{eqb}
use borrow.Author.Tests.{eqb-true}
use Rattle.std.specs.List.{list_all}
use Rattle.laws.specs.Lists.{all_at}
use Rattle.laws.proofs.Choice.{and_left}
use Rattle.number.specs.Number.{digit}
use Rattle.sup.specs.Date.{date_byte, is_date}

pub digits-listed : (i : ℕ) (s : List ℕ) → list_all digit s ≡ all_at date_byte i s
unfolding all_at
digits-listed i [] = refl
digits-listed i (b ∷ s) = ap (λ (t : Bool). digit b && t) (digits-listed (suc i) s)

pub date-eight : (s : List ℕ) → is_date s ≡ true → length s ≡ 8
unfolding is_date
date-eight s e = eqb-true (length s) 8 (and_left (eqb (length s) 8) _ e)
