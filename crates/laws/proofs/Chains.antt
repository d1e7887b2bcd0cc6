-- What a function answers whose definition is tests joined by `&&`: one law for going on, and one for stopping. Assumes nothing.
use mathlib.Core.Path.{◌≡◌, refl, sym}
use mathlib.Core.Bool.{Bool, true, false, ◌&&◌, ◌||◌}
use Rattle.laws.proofs.Choice.{true≢false, false≢true}

-- the first test holds, so the rest decides
pub and-on : (a b : Bool) {r : Bool} → a ≡ true → r ≡ b → r ≡ (a && b)
and-on true b e q = q
and-on false b e q = absurd (false≢true e)

-- the first test fails
pub and-off : (a b : Bool) → a ≡ false → false ≡ (a && b)
and-off true b e = absurd (true≢false e)
and-off false b e = refl

-- the second test fails
pub and-off-second : (a b : Bool) → b ≡ false → false ≡ (a && b)
and-off-second true b e = sym e
and-off-second false b e = refl

pub or-none : (b : Bool) → b ≡ (b || false)
or-none true = refl
or-none false = refl
