-- Texts whose first bytes differ compare as these. Assumes nothing.
use Rattle.std.proofs.Common.{◌≡◌, ℕ, ◌<◌, List, [], ◌∷◌, length, get_or, sym, arith}
use Rattle.std.specs.declared.cmp.Ordering.TheVariants.{Less, Greater}
use Rattle.std.specs.Cmp.{nat_cmp_is}
use Rattle.order.specs.Compare.{by_bytes}

pub first_before : (a b : List ℕ) → 0 < length a → 0 < length b → get_or a 0 0 < get_or b 0 0 → Less ≡ by_bytes a b
first_before (x ∷ s) (y ∷ t) h k l = rw (← nat_cmp_is x y Less l)
first_before [] b h k l = absurd (omega arith)
first_before (x ∷ s) [] h k l = absurd (omega arith)

pub first_after : (a b : List ℕ) → 0 < length a → 0 < length b → get_or b 0 0 < get_or a 0 0 → Greater ≡ by_bytes a b
first_after (x ∷ s) (y ∷ t) h k l = rw (← nat_cmp_is x y Greater l)
first_after [] b h k l = absurd (omega arith)
first_after (x ∷ s) [] h k l = absurd (omega arith)

pub ruleset first_ways = (first_before, first_after)
