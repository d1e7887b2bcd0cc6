-- Letters by example, computed: document 01's (k) and (l), the order of the rules, and eleven letters by document 02's T-02. Assumes
-- nothing.
use Rattle.std.specs.Prelude.{ℕ, ◌≡◌, refl, List, [], ◌∷◌, map, Bool, true, false}
use Prim.Native.String.{String}
use Rattle.laws.specs.Lists.{same}
use Rattle.laws.specs.Text.{text}
use Rattle.classes.specs.Classes.{begins_with, ends_in, begins_in_kind2, is_road, is_water, is_other, class_of, index_of, is_surface}
use Rattle.classes.specs.Former.{former_class_of}
use Rattle.classes.specs.declared.Class.{Class}
use Rattle.classes.specs.declared.Class.TheVariants.{Confine, Other, Road, Water, Building, Parcel}

-- the definitions opened, so that they compute
unfoldable pub computed : ℕ → List ℕ → List ℕ → Class × Bool
unfolding class_of is_other is_road is_water begins_in_kind2 begins_with ends_in same is_surface
computed kind name s = (class_of kind name s, is_surface s)

-- the class of letters in a sheet of a kind
unfoldable pub in_kind : ℕ → String → Class
unfolding computed
in_kind kind s = class_of kind (text "Z999_000100") (text s)

-- (k)
pub marked : (in_kind 1 "7+" ≡ Building) × (in_kind 2 "S7" ≡ Road) × (in_kind 1 "S7" ≡ Parcel)
unfolding in_kind
marked = (refl, refl, refl)

-- the name has 11 letters itself, and comes first; then 11 letters in kind 3, `S` and `A`, and `+` last
pub order : (in_kind 1 "Z999_000100" ≡ Confine) × (in_kind 3 "Z999_000100" ≡ Confine) × (in_kind 3 "S234567890+" ≡ Other) × (in_kind 2 "S7+" ≡ Road) × (in_kind 2 "A7+" ≡ Water)
unfolding in_kind
order = (refl, refl, refl, refl, refl)

-- T-02: 11 letters in kinds 1 and 2
pub eleven-on-a-map : (in_kind 1 "12345678901" ≡ Parcel) × (in_kind 1 "1234567890+" ≡ Building) × (in_kind 1 "S1234567890" ≡ Parcel) × (in_kind 2 "12345678901" ≡ Parcel)
    × (in_kind 2 "S1234567890" ≡ Road) × (in_kind 2 "S123456789+" ≡ Road) × (in_kind 2 "A1234567890" ≡ Water) × (in_kind 2 "1234567890+" ≡ Building)
unfolding in_kind
eleven-on-a-map = (refl, refl, refl, refl, refl, refl, refl, refl)

-- and in kind 3, where the final `+` does not matter; one letter less or more is no border of the union
pub eleven-in-a-union : (in_kind 3 "12345678901" ≡ Other) × (in_kind 3 "1234567890+" ≡ Other) × (in_kind 3 "S1234567890" ≡ Other) × (in_kind 3 "1234567890" ≡ Parcel)
    × (in_kind 3 "12345678901+" ≡ Building)
unfolding in_kind
eleven-in-a-union = (refl, refl, refl, refl, refl)

-- the former rule: such letters were OTHER in every kind
pub eleven-formerly : (former_class_of 1 (text "Z999_000100") (text "12345678901") ≡ Other) × (former_class_of 2 (text "Z999_000100") (text "S1234567890") ≡ Other)
    × (former_class_of 1 (text "Z999_000100") (text "Z999_000100") ≡ Confine)
unfolding computed former_class_of
eleven-formerly = (refl, refl, refl)

-- the words hold in every kind; what no rule takes is a parcel
pub words : (in_kind 1 "STRADA" ≡ Road) × (in_kind 3 "ACQUA" ≡ Water) × (in_kind 2 "7" ≡ Parcel)
unfolding in_kind
words = (refl, refl, refl)

-- `S` and `A` count in kind 2 alone, and only in front; `+` only at the end
pub kinds : (in_kind 3 "S7" ≡ Parcel) × (in_kind 1 "A7" ≡ Parcel) × (in_kind 2 "A7" ≡ Water) × (in_kind 2 "7S" ≡ Parcel) × (in_kind 1 "+7" ≡ Parcel) × (in_kind 2 "STRADE" ≡ Road) × (in_kind 1 "STRADE" ≡ Parcel)
unfolding in_kind
kinds = (refl, refl, refl, refl, refl, refl, refl)

-- (l) at least 3 letters, the first `(`, the last `)`
pub surface : (is_surface (text "()") ≡ false) × (is_surface (text "(7)") ≡ true) × (is_surface (text "(7(") ≡ false) × (is_surface (text ")7)") ≡ false) × (is_surface (text "(731) ") ≡ false)
unfolding computed
surface = (refl, refl, refl, refl, refl)

-- the classes in their order
pub indices : map index_of (Confine ∷ Other ∷ Road ∷ Water ∷ Building ∷ Parcel ∷ []) ≡ 0 ∷ 1 ∷ 2 ∷ 3 ∷ 4 ∷ 5 ∷ []
indices = refl
