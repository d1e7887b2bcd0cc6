-- What the borders that a SUP file lists make together: document 02, T-01. Assumes nothing: these are definitions.
use Rattle.std.specs.Prelude.{ℕ, ◌≡◌, refl, List, [], ◌∷◌, cond, eqb, ℤ, pos, negsuc, ◌+ℤ◌}
use Rattle.classes.specs.declared.Class.{Class}
use Rattle.classes.specs.declared.Class.TheVariants.{Other, Parcel}
use Rattle.sup.specs.Sup.{union_kind, CodeNet}

-- the one class of them all: "A kind 3 sheet lists its OTHER borders, net, in place of parcels"
abbrev pub listed_class : ℕ → Class
listed_class kind = cond (eqb kind union_kind) Other Parcel

-- their exact nets together
unfoldable pub net_sum : List CodeNet → ℤ
net_sum [] = pos 0
net_sum (b ∷ s) = b.net +ℤ net_sum s

-- ---- computed

classes : (listed_class 1 ≡ Parcel) × (listed_class 2 ≡ Parcel) × (listed_class 3 ≡ Other)
classes = (refl, refl, refl)

-- a net below 0 takes away
nets : (net_sum [] ≡ pos 0) × (net_sum (record { code = []; net = pos 7 } ∷ record { code = []; net = negsuc 9 } ∷ []) ≡ negsuc 2)
unfolding net_sum
nets = (refl, refl)
