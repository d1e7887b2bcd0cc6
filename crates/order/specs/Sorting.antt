-- A list put in order by insertion, and what in order means (document 02, T-01). Assumes nothing: these are definitions.
-- A test `lt` says which comes before which.
use Rattle.std.specs.Prelude.{◌≡◌, List, [], ◌∷◌, Bool, true, false, cond}

module _ {A : Type 0} (lt : A → A → Bool) where
  -- before the first that it comes before
  unfoldable pub insert : A → List A → List A
  insert x [] = x ∷ []
  insert x (y ∷ s) = cond (lt x y) (x ∷ y ∷ s) (y ∷ insert x s)

  -- one after the other into what is in order already
  unfoldable pub sort_into : List A → List A → List A
  sort_into acc [] = acc
  sort_into acc (x ∷ s) = sort_into (insert x acc) s

  abbrev pub sort_by : List A → List A
  sort_by s = sort_into [] s

-- those that pass
unfoldable pub filter {ℓ} : {A : Type ℓ} → (A → Bool) → List A → List A
filter p [] = []
filter p (x ∷ s) = cond (p x) (x ∷ filter p s) (filter p s)

-- ---- in order

-- it holds of each of them
pub data EachOf {A : Type 0} (P : A → Type 0) : List A → Type 0 where
  each_nil : EachOf P []
  each_on : {x : A} {s : List A} → P x → EachOf P s → EachOf P (x ∷ s)

-- none comes before one that stands before it
pub data Sorted {A : Type 0} (lt : A → A → Bool) : List A → Type 0 where
  sorted-nil : Sorted lt []
  sorted-on : {x : A} {s : List A} → EachOf (λ (y : A). lt y x ≡ false) s → Sorted lt s → Sorted lt (x ∷ s)

-- each comes before those that stand behind it
pub data Rising {A : Type 0} (lt : A → A → Bool) : List A → Type 0 where
  rising-nil : Rising lt []
  rising-on : {x : A} {s : List A} → EachOf (λ (y : A). lt x y ≡ true) s → Rising lt s → Rising lt (x ∷ s)
