-- Document 01's rule as it stood before document 02's T-02: any letters of length 11 but the name are OTHER, in every kind. No code
-- answers by it; the laws say with it where nothing changed. Assumes nothing: this is a definition.
use Rattle.std.specs.Prelude.{ℕ, List, cond, length, eqb}
use Rattle.laws.specs.Lists.{same}
use Rattle.classes.specs.Classes.{byte, ends_in, is_road, is_water}
use Rattle.classes.specs.declared.Class.{Class}
use Rattle.classes.specs.declared.Class.TheVariants.{Confine, Other, Road, Water, Building, Parcel}

unfoldable pub former_class_of : ℕ → List ℕ → List ℕ → Class
former_class_of kind name s =
    cond (same s name) Confine
    (cond (eqb (length s) 11) Other (cond (is_road kind s) Road (cond (is_water kind s) Water (cond (ends_in (byte "+") s) Building Parcel))))
