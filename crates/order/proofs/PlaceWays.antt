-- The place of an item among those that are in order, as a loop finds it. Assumes nothing.
use Prim.Native.Nat.{ℕ, zero, suc, ◌+◌, ◌-◌, ◌/◌, ◌≤◌, ◌<◌, zero-le}
use mathlib.Core.Path.{◌≡◌, refl, sym, ap, ◌∙◌}
use mathlib.Core.List.{List, [], ◌∷◌, ◌++◌}
use mathlib.Core.Bool.{Bool, true, false, cond}
use native.Mathlib.Numerals.{add-one}
use native.Mathlib.Nat.{div-lt_iff_lt-mul}
use native.Mathlib.Omega.{arith}
use lib.ListN.{length, get_or, take, drop, length-take}
use lib.Seq.{get_or-take}
use Rattle.order.specs.Sorting.{insert, Sorted, Sorted.sorted-nil, Sorted.sorted-on}
use Rattle.order.proofs.EachLaws.{each_at}

-- how many stand before x once it is inserted
unfoldable pub place_of : {A : Type 0} → (A → A → Bool) → A → List A → ℕ
place_of lt x [] = 0
place_of lt x (y ∷ s) = cond (lt x y) 0 (suc (place_of lt x s))

-- with one put in at a place
abbrev pub put_in {ℓ} : {A : Type ℓ} → ℕ → A → List A → List A
put_in i x s = take i s ++ x ∷ drop i s

module _ {A : Type 0} (lt : A → A → Bool) (x : A) where
  pub place-le : (s : List A) → place_of lt x s ≤ length s
  unfolding place_of
  place-le [] = zero-le
  place-le (y ∷ s) = go (lt x y) (place-le s)
    where
      go : (b : Bool) → place_of lt x s ≤ length s → cond b 0 (suc (place_of lt x s)) ≤ suc (length s)
      go true h = zero-le
      go false h = omega arith

  -- an insertion is at that place
  pub insert-is : (s : List A) → insert lt x s ≡ put_in (place_of lt x s) x s
  unfolding place_of insert
  insert-is [] = refl
  insert-is (y ∷ s) = go (lt x y) (insert-is s)
    where
      go : (b : Bool) → insert lt x s ≡ put_in (place_of lt x s) x s → cond b (x ∷ y ∷ s) (y ∷ insert lt x s) ≡ put_in (cond b 0 (suc (place_of lt x s))) x (y ∷ s)
      go true h = refl
      go false h = ap (λ (l : List A). y ∷ l) h

  -- it is not behind one that x comes before
  pub place-upto : (s : List A) (m : ℕ) (z : A) → m < length s → lt x (get_or s m z) ≡ true → place_of lt x s ≤ m
  unfolding place_of
  place-upto [] m z h e = absurd (omega arith)
  place-upto (y ∷ s) zero z h e = rw e zero-le
  place-upto (y ∷ s) (suc m) z h e = go (lt x y) (place-upto s m z (omega arith) e)
    where
      go : (b : Bool) → place_of lt x s ≤ m → cond b 0 (suc (place_of lt x s)) ≤ suc m
      go true k = zero-le
      go false k = omega arith

  -- it is behind one that x does not come before
  pub place-past : ((a b c : A) → lt b a ≡ false → lt c b ≡ false → lt c a ≡ false) → {s : List A} → Sorted lt s → (m : ℕ) (z : A) → m < length s → lt x (get_or s m z) ≡ false
      → suc m ≤ place_of lt x s
  unfolding place_of
  place-past through sorted-nil m z h e = absurd (omega arith)
  place-past through (sorted-on {x = y} {s} d o) zero z h e = rw e (omega arith)
  place-past through (sorted-on {x = y} {s} d o) (suc m) z h e =
      let k = place-past through o m z (omega arith) e in
      rw (through y (get_or s m z) x (each_at s m z d (omega arith)) e) (omega arith)

-- the place lies between two, and the search goes on in a half
pub record Halving {A : Type 0} (lt : A → A → Bool) (x : A) (items : List A) (n low high : ℕ) : Type 0 where
  pub through : (a b c : A) → lt b a ≡ false → lt c b ≡ false → lt c a ≡ false
  pub ordered : Sorted lt (take n items)
  pub room : n ≤ length items
  pub from : low ≤ place_of lt x (take n items)
  pub to : place_of lt x (take n items) ≤ high
  pub most : high ≤ n

module _ {A : Type 0} {lt : A → A → Bool} {x : A} {items : List A} {n low high : ℕ} (h : Halving lt x items n low high) where
  pub halving-end : high ≤ low → low ≡ place_of lt x (take n items)
  halving-end k = omega (arith, h.from, h.to)

  module _ (m : ℕ) (z : A) (k : m < high) where
    count-is : length (take n items) ≡ n
    count-is = omega (arith, length-take n items, h.room)

    here : get_or (take n items) m z ≡ get_or items m z
    here = get_or-take n items m z (omega (arith, h.most))

    module _ (b : Bool) (e : b ≡ lt x (get_or items m z)) where
      pub halving-down : b ≡ true → Halving lt x items n low m
      halving-down q =
          record {
            through = h.through;
            ordered = h.ordered;
            room = h.room;
            from = h.from;
            to = place-upto lt x (take n items) m z (omega (arith, count-is, h.most)) (rw here (sym e ∙ q));
            most = omega (arith, h.most);
          }

      pub halving-up : b ≡ false → Halving lt x items n (m + 1) high
      halving-up q =
          record {
            through = h.through;
            ordered = h.ordered;
            room = h.room;
            from = rw add-one (place-past lt x h.through h.ordered m z (omega (arith, count-is, h.most)) (rw here (sym e ∙ q)));
            to = h.to;
            most = h.most;
          }

pub halving-start : {A : Type 0} (lt : A → A → Bool) (x : A) (items : List A) (n : ℕ) → ((a b c : A) → lt b a ≡ false → lt c b ≡ false → lt c a ≡ false) → Sorted lt (take n items) → n ≤ length items
    → Halving lt x items n 0 n
halving-start lt x items n f o r =
    record { through = f; ordered = o; room = r; from = zero-le; to = omega (arith, place-le lt x (take n items), length-take n items); most = omega arith }

pub middle-in : (low high : ℕ) → low < high → low + (high - low) / 2 < high
middle-in low high h = let k : (high - low) / 2 < high - low = (div-lt_iff_lt-mul {k = 2} {x = high - low} {y = high - low} (omega arith)).1 (omega arith) in omega arith
