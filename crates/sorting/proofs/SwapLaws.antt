-- A list sorted by insertion does not depend on the order that it had before: two that are exchanged leave it as it is. Over any order in which
-- two that are alike are the same. Assumes nothing.
use Prim.Native.Nat.{ℕ, suc, ◌<◌}
use mathlib.Core.Path.{◌≡◌, refl, sym, ap, ◌∙◌}
use mathlib.Core.List.{List, [], ◌∷◌, ◌++◌, append_assoc, map}
use mathlib.Core.Bool.{Bool, true, false, cond}
use native.Mathlib.Omega.{arith}
use lib.ListN.{length, get_or, take, drop, set, length-set}
use lib.Seq.{length-take-le, split_at, get_or-take, set_split, set-append_left, set_at}
use Rattle.laws.proofs.Choice.{false≢true}
use Rattle.order.specs.Sorting.{insert, sort_into, sort_by, EachOf, EachOf.each_nil, EachOf.each_on, Sorted, Sorted.sorted-nil, Sorted.sorted-on}

-- it goes through, turns round, and what is neither before nor behind is the same
pub record Strict {A : Type 0} (lt : A → A → Bool) : Type 0 where
  pub through : (a b c : A) → lt b a ≡ false → lt c b ≡ false → lt c a ≡ false
  pub turn : (a b : A) → lt a b ≡ true → lt b a ≡ false
  pub alike : (a b : A) → lt a b ≡ false → lt b a ≡ false → a ≡ b

module _ {A : Type 0} {lt : A → A → Bool} (o : Strict lt) where
  -- x comes before z, and y does not: then y does not come before x
  apart : (x y z : A) → lt x z ≡ true → lt y z ≡ false → lt y x ≡ false
  apart x y z e d = o.through x z y (o.turn x z e) d

  front-comm : (x y : A) (s : List A) → cond (lt x y) (x ∷ y ∷ s) (y ∷ x ∷ s) ≡ cond (lt y x) (y ∷ x ∷ s) (x ∷ y ∷ s)
  front-comm x y s = go (lt x y) (lt y x) refl refl
    where
      go : (a b : Bool) → lt x y ≡ a → lt y x ≡ b → cond a (x ∷ y ∷ s) (y ∷ x ∷ s) ≡ cond b (y ∷ x ∷ s) (x ∷ y ∷ s)
      go true true e d = absurd (false≢true (sym (o.turn x y e) ∙ d))
      go true false e d = refl
      go false true e d = refl
      go false false e d = rw (o.alike x y e d)

  pub insert_comm : (x y : A) (s : List A) → insert lt x (insert lt y s) ≡ insert lt y (insert lt x s)
  unfolding insert
  insert_comm x y [] = front-comm x y []
  insert_comm x y (z ∷ s) = go (lt x z) (lt y z) refl refl (insert_comm x y s)
    where
      go : (a b : Bool) → lt x z ≡ a → lt y z ≡ b → insert lt x (insert lt y s) ≡ insert lt y (insert lt x s)
          → insert lt x (cond b (y ∷ z ∷ s) (z ∷ insert lt y s)) ≡ insert lt y (cond a (x ∷ z ∷ s) (z ∷ insert lt x s))
      go true true e d h = rw (e, d) (front-comm x y (z ∷ s))
      go true false e d h = rw (e, d, apart x y z e d)
      go false true e d h = rw (e, d, apart y x z d e)
      go false false e d h = rw (e, d, h)

  -- one that is put in first may be put in last
  pub into-front : (x : A) (acc s : List A) → sort_into lt (insert lt x acc) s ≡ insert lt x (sort_into lt acc s)
  unfolding sort_into
  into-front x acc [] = refl
  into-front x acc (y ∷ s) = rw (insert_comm y x acc) (into-front x (insert lt y acc) s)

  into-append : (acc s t : List A) → sort_into lt acc (s ++ t) ≡ sort_into lt (sort_into lt acc s) t
  unfolding sort_into
  into-append acc [] t = refl
  into-append acc (x ∷ s) t = into-append (insert lt x acc) s t

  -- one that stands in the middle may be put in last
  middle : (acc s : List A) (x : A) (t : List A) → sort_into lt acc (s ++ x ∷ t) ≡ insert lt x (sort_into lt acc (s ++ t))
  unfolding sort_into
  middle acc s x t = into-append acc s (x ∷ t) ∙ into-front x (sort_into lt acc s) t ∙ ap (insert lt x) (sym (into-append acc s t))

  -- ---- two that change places

  both-last : (a : List A) (x : A) (b : List A) (y : A) (c : List A) → sort_by lt (a ++ x ∷ (b ++ y ∷ c)) ≡ insert lt x (insert lt y (sort_by lt (a ++ b ++ c)))
  both-last a x b y c =
      middle [] a x (b ++ y ∷ c) ∙ ap (λ (l : List A). insert lt x (sort_into lt [] l)) (sym (append_assoc a b (y ∷ c))) ∙ ap (insert lt x) (middle [] (a ++ b) y c)

  pub two-places : (a : List A) (x : A) (b : List A) (y : A) (c : List A) → sort_by lt (a ++ x ∷ (b ++ y ∷ c)) ≡ sort_by lt (a ++ y ∷ (b ++ x ∷ c))
  two-places a x b y c = both-last a x b y c ∙ insert_comm x y (sort_by lt (a ++ b ++ c)) ∙ sym (both-last a y b x c)

  -- by their places in a list
  pub sort-set : (s : List A) (i j : ℕ) (z : A) → i < j → j < length s → sort_by lt (set (set s i (get_or s j z)) j (get_or s i z)) ≡ sort_by lt s
  sort-set s i j z h k =
      let x : A = get_or s i z in
      let y : A = get_or s j z in
      let p : List A = take j s in
      let c : List A = drop (suc j) s in
      let n : length p ≡ j = length-take-le j s (omega arith) in
      let whole : s ≡ p ++ y ∷ c = split_at s j z k in
      let parts : p ≡ take i p ++ x ∷ drop (suc i) p = split_at p i z (omega arith) ∙ ap (λ (v : A). take i p ++ v ∷ drop (suc i) p) (get_or-take j s i z h) in
      let first : set p i y ≡ take i p ++ y ∷ drop (suc i) p = set_split p i y (omega arith) in
      ap (λ (l : List A). sort_by lt (set (set l i y) j x)) whole
      ∙ ap (λ (l : List A). sort_by lt (set l j x)) (set-append_left p (y ∷ c) i y (omega arith))
      ∙ ap (sort_by lt) (set_at (set p i y) y c x j (length-set p i y ∙ n) ∙ ap (λ (l : List A). l ++ x ∷ c) first ∙ append_assoc (take i p) (y ∷ drop (suc i) p) (x ∷ c))
      ∙ two-places (take i p) y (drop (suc i) p) x c
      ∙ ap (sort_by lt) (sym (append_assoc (take i p) (x ∷ drop (suc i) p) (y ∷ c)) ∙ ap (λ (l : List A). l ++ y ∷ c) (sym parts) ∙ sym whole)

  -- ---- a list that is in order already

  insert-head : (x : A) (s : List A) → EachOf (λ (y : A). lt y x ≡ false) s → insert lt x s ≡ x ∷ s
  unfolding insert
  insert-head x [] each_nil = refl
  insert-head x (y ∷ s) (each_on q e) = go (lt x y) refl (insert-head x s)
    where
      go : (b : Bool) → lt x y ≡ b → (EachOf (λ (z : A). lt z x ≡ false) s → insert lt x s ≡ x ∷ s) → cond b (x ∷ y ∷ s) (y ∷ insert lt x s) ≡ x ∷ y ∷ s
      go true d h = refl
      go false d h = rw (h e, o.alike x y d q)

  pub sorted-stays : {s : List A} → Sorted lt s → sort_by lt s ≡ s
  unfolding sort_into
  sorted-stays sorted-nil = refl
  sorted-stays (sorted-on {x} {s} e k) = into-front x [] s ∙ ap (insert lt x) (sorted-stays k) ∙ insert-head x s e

  -- ---- a list that was sorted by another test before, and then mapped

  module _ {B : Type 0} (f : B → A) (lt' : B → B → Bool) where
    abbrev into : List A → List B → List A
    into acc s = sort_into lt acc (map f s)

    into-insert : (acc : List A) (x : B) (s : List B) → into acc (insert lt' x s) ≡ into acc (x ∷ s)
    unfolding insert sort_into
    into-insert acc x [] = refl
    into-insert acc x (y ∷ s) = go (lt' x y) (into-insert (insert lt (f y) acc) x s)
      where
        go : (b : Bool) → into (insert lt (f y) acc) (insert lt' x s) ≡ into (insert lt (f x) (insert lt (f y) acc)) s
            → into acc (cond b (x ∷ y ∷ s) (y ∷ insert lt' x s)) ≡ into (insert lt (f y) (insert lt (f x) acc)) s
        go true h = refl
        go false h = h ∙ ap (λ (l : List A). into l s) (insert_comm (f x) (f y) acc)

    into-sort : (acc : List A) (a s : List B) → into acc (sort_into lt' a s) ≡ into (into acc a) s
    unfolding sort_into
    into-sort acc a [] = refl
    into-sort acc a (x ∷ s) =
        into-sort acc (insert lt' x a) s ∙ ap (λ (l : List A). into l s) (into-insert acc x a ∙ into-front (f x) acc (map f a))

    pub sort-again : (s : List B) → sort_by lt (map f (sort_by lt' s)) ≡ sort_by lt (map f s)
    unfolding sort_into
    sort-again s = into-sort [] [] s
