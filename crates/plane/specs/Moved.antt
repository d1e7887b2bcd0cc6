-- A table of points moved by one pair, for the law that an area does not depend on where its ring lies.
use Rattle.std.specs.Prelude.{List, [], ◌∷◌, ℤ, ◌+ℤ◌}

-- every point moved by dx, dy; an odd last number is no point
unfoldable pub moved : ℤ → ℤ → List ℤ → List ℤ
moved dx dy [] = []
moved dx dy (x ∷ []) = x ∷ []
moved dx dy (x ∷ y ∷ ps) = (x +ℤ dx) ∷ (y +ℤ dy) ∷ moved dx dy ps
