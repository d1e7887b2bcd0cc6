-- One lemma for each way through the code, its premises the facts that the code has there. Assumes nothing.
use Prim.Native.Nat.{ℕ}
use mathlib.Core.Path.{◌≡◌, refl, sym, ◌∙◌}
use mathlib.Core.List.{List}
use mathlib.Core.Bool.{Bool, true, false, not}
use lib.ListN.{length, drop}
use lib.Dec.{eqb, leb, ltb}
use lib.IntN.{ℤ, pos, negsuc}
use lib.Signed.{lt_z, le_z}
use mir.Syntax.{w64}
use mir.Val.{SFits, to_z, of_z}
use mir.ValLaws.{to_z-of_z}
use borrow.Author.Tests.{le-ltb, lt-ltb, not-true, not-false, leb-true, leb-false}
use Rattle.std.specs.List.{ends_with}
use Rattle.laws.specs.Lists.{same}
use Rattle.laws.specs.Text.{text}
use Rattle.laws.proofs.Choice.{false≢true}
use Rattle.laws.proofs.ListLaws.{same_bytes, same-is, same_refl}
use Rattle.number.specs.Number.{real_most}
use Rattle.heading.specs.Heading.{is_name}
use Rattle.heading.proofs.HeadingLaws.{name-long}

-- it ends in `QU`
same_turned : (s t : List ℕ) → same s t ≡ same t s
same_turned s t = go (same s t) refl (same t s) refl
  where
    go : (x : Bool) → same s t ≡ x → (y : Bool) → same t s ≡ y → x ≡ y
    go true e true f = refl
    go true e false f = absurd (false≢true (sym f ∙ rw (same-is s t e) (same_refl t)))
    go false e true f = absurd (false≢true (sym e ∙ rw (same-is t s f) (same_refl s)))
    go false e false f = refl

pub ends_in : (s : List ℕ) → length s ≡ 11 → ends_with eqb s (text "QU") ≡ same (drop 9 s) (text "QU")
ends_in s l = rw l (same_bytes (text "QU") (drop 9 s)) ∙ same_turned (text "QU") (drop 9 s)
