-- The doubled area of a ring (document 01, "Areas"): "the absolute value of the signed sum, over its edges, of x1*y2 - x2*y1, .. coordinates taken from the ring's first vertex".
use Rattle.std.specs.Prelude.{cond, List, [], ◌∷◌, ℕ, zero, suc, ◌+◌, ◌-◌, ◌*◌, length, ℤ, pos, nat_abs, ◌+ℤ◌, ◌-ℤ◌, ◌*ℤ◌, Result, Ok, Err}
use Rattle.record.specs.Refusals.{too_wide, no_such}
use Rattle.plane.specs.declared.NoArea.{NoArea}
use Rattle.plane.specs.declared.NoArea.TheVariants.{Wide, Missing}
use Rattle.plane.specs.Rings.{most, reach, x-at, y-at, held, narrow}

-- vertex k, taken from the ring's first
unfoldable pub east : List ℤ → ℕ → ℕ → ℤ
east ps from k = x-at ps (from + k) -ℤ x-at ps from

unfoldable pub north : List ℤ → ℕ → ℕ → ℤ
north ps from k = y-at ps (from + k) -ℤ y-at ps from

-- x1*y2 - x2*y1 of edge k, from vertex k to the next
unfoldable pub edge-term : List ℤ → ℕ → ℕ → ℤ
edge-term ps from k = east ps from k *ℤ north ps from (k + 1) -ℤ east ps from (k + 1) *ℤ north ps from k

-- their sum over the first e edges
unfoldable pub signed-sum : List ℤ → ℕ → ℕ → ℤ
signed-sum ps from zero = pos 0
signed-sum ps from (suc e) = signed-sum ps from e +ℤ edge-term ps from e

-- the answer: a ring of n vertices has n - 1 edges, its last vertex being its first
unfoldable pub area_of : List ℤ → ℕ → ℕ → Result ℤ NoArea
area_of ps from n =
    cond (held (length ps) from n)
    (cond (narrow ps from n) (Ok (pos (nat_abs (signed-sum ps from (n - 1))))) (Err Wide))
    (Err Missing)

-- an answer in the paper's terms: the refusal's number, or 0 and the doubled area
abbrev pub area-told : Result ℤ NoArea → ℕ × List ℤ
area-told (Ok d) = (0, d ∷ [])
area-told (Err Wide) = (too_wide, [])
area-told (Err Missing) = (no_such, [])

-- the most that one edge adds, either way, and that a ring's edges add together
abbrev pub edge-limit : ℕ
edge-limit = reach * reach + reach * reach

abbrev pub sum-limit : ℕ
sum-limit = (most - 1) * edge-limit
