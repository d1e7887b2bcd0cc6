-- Which letters are OTHER, and where document 02's T-02 changed nothing. Assumes nothing.
use Prim.Native.Nat.{ℕ}
use mathlib.Core.Path.{◌≡◌, refl, sym, ap, ◌∙◌}
use mathlib.Core.List.{List}
use mathlib.Core.Logic.{◌↔◌}
use mathlib.Core.Bool.{Bool, true, false, cond}
use native.Mathlib.Omega.{arith}
use lib.ListN.{length}
use lib.Dec.{eqb}
use borrow.Author.Tests.{eqb-true, eq-eqb, ne_eqb}
use Rattle.laws.specs.Lists.{same}
use Rattle.laws.proofs.Choice.{true≢false, and_left, and_right, and-false}
use Rattle.laws.proofs.ListLaws.{same_refl, same-is}
use Rattle.classes.specs.Classes.{byte, ends_in, is_road, is_water, is_other, class_of, index_of}
use Rattle.classes.specs.Former.{former_class_of}
use Rattle.classes.specs.declared.Class.{Class}
use Rattle.classes.specs.declared.Class.TheVariants.{Confine, Other, Road, Water, Building, Parcel}

-- the class by the tests' answers
abbrev said : Bool → Bool → Bool → Bool → Bool → Class
said a b c d e = cond a Confine (cond b Other (cond c Road (cond d Water (cond e Building Parcel))))

said-other : (a b c d e : Bool) → said a b c d e ≡ Other → (a ≡ false) × (b ≡ true)
said-other true b c d e q = let z : ◌≡◌ {A = ℕ} 0 1 = ap index_of q in absurd (omega arith)
said-other false true c d e q = (refl, refl)
said-other false false true d e q = let z : ◌≡◌ {A = ℕ} 2 1 = ap index_of q in absurd (omega arith)
said-other false false false true e q = let z : ◌≡◌ {A = ℕ} 3 1 = ap index_of q in absurd (omega arith)
said-other false false false false true q = let z : ◌≡◌ {A = ℕ} 4 1 = ap index_of q in absurd (omega arith)
said-other false false false false false q = let z : ◌≡◌ {A = ℕ} 5 1 = ap index_of q in absurd (omega arith)

-- letters that are not the name
unnamed : (name s : List ℕ) → (s ≡ name → ⊥) → same s name ≡ false
unnamed name s f = go (same s name) refl
  where
    go : (b : Bool) → same s name ≡ b → b ≡ false
    go true q = absurd (f (same-is s name q))
    go false q = refl

-- ---- OTHER

-- "OTHER holds only for header kind 3": there for exactly those of eleven letters that are not the name
pub other-iff : (kind : ℕ) (name s : List ℕ) → (class_of kind name s ≡ Other) ↔ ((kind ≡ 3) × (length s ≡ 11) × (s ≡ name → ⊥))
unfolding class_of is_other
other-iff kind name s = (to, from)
  where
    to : class_of kind name s ≡ Other → (kind ≡ 3) × (length s ≡ 11) × (s ≡ name → ⊥)
    to q =
        let z = said-other (same s name) (is_other kind s) (is_road kind s) (is_water kind s) (ends_in (byte "+") s) q in
        (eqb-true kind 3 (and_left (eqb kind 3) (eqb (length s) 11) z.1), eqb-true (length s) 11 (and_right (eqb kind 3) (eqb (length s) 11) z.1), λ e. true≢false (sym (rw e (same_refl name)) ∙ z.0))

    from : (kind ≡ 3) × (length s ≡ 11) × (s ≡ name → ⊥) → class_of kind name s ≡ Other
    from z = rw (unnamed name s z.2, eq-eqb kind 3 z.0, eq-eqb (length s) 11 z.1)

-- so in kinds 1 and 2 no border is OTHER
pub never_other : (kind : ℕ) (name s : List ℕ) → (kind ≡ 3 → ⊥) → class_of kind name s ≡ Other → ⊥
never_other kind name s f q = f ((other-iff kind name s).0 q).0

-- "In kinds 1 and 2 such letters go on to the later rules", whatever their number
pub goes_on : (kind : ℕ) (name s : List ℕ) → (kind ≡ 3 → ⊥) → (s ≡ name → ⊥)
    → class_of kind name s ≡ cond (is_road kind s) Road (cond (is_water kind s) Water (cond (ends_in (byte "+") s) Building Parcel))
unfolding class_of is_other
goes_on kind name s f g = rw (unnamed name s g, ne_eqb kind 3 f)

-- ---- where nothing changed

-- the sheet's name, in every kind
pub name-confine : (kind : ℕ) (name : List ℕ) → (class_of kind name name ≡ Confine) × (former_class_of kind name name ≡ Confine)
unfolding class_of former_class_of
name-confine kind name = (rw (same_refl name), rw (same_refl name))

-- letters of another length
pub length-unchanged : (kind : ℕ) (name s : List ℕ) → (length s ≡ 11 → ⊥) → class_of kind name s ≡ former_class_of kind name s
unfolding class_of former_class_of is_other
length-unchanged kind name s f = rw (ne_eqb (length s) 11 f, and-false (eqb kind 3))

-- union sheets
pub union-unchanged : (name s : List ℕ) → class_of 3 name s ≡ former_class_of 3 name s
unfolding class_of former_class_of is_other
union-unchanged name s = refl
