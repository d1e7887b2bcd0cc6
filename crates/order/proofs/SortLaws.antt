-- The laws of lists in order: an insertion keeps the order, the first of them need only the first of what was had, and what is past
-- one of them is what stands behind it. Assumes nothing.
use Prim.Native.Nat.{ℕ, zero, suc, ◌+◌, ◌≤◌, ◌<◌}
use mathlib.Core.Path.{◌≡◌, refl, sym, ap, ◌∙◌}
use mathlib.Core.List.Permᴰ
use mathlib.Core.List.{List, [], ◌∷◌, ◌++◌, append-nil, Permᴰ, Perm}
use mathlib.Core.Bool.{Bool, true, false, cond}
use native.Mathlib.Omega.{arith}
use lib.ListN.{length, get_or, take, drop}
use lib.Seq.{take-take, take_at, take-length}
use Rattle.laws.proofs.Choice.{false≢true}
use Rattle.order.specs.Sorting.{insert, sort_into, sort_by, filter, EachOf, EachOf.each_nil, EachOf.each_on, Sorted, Sorted.sorted-nil, Sorted.sorted-on, Rising, Rising.rising-nil, Rising.rising-on}
use Rattle.order.proofs.EachLaws.{each_map, each_take, each_at}
use Rattle.order.proofs.PlaceWays.{place_of, insert-is}

-- sorted by a test that says less
pub sorted-map : {A : Type 0} {f g : A → A → Bool} {s : List A} → ((a b : A) → f a b ≡ false → g a b ≡ false) → Sorted f s → Sorted g s
sorted-map k sorted-nil = sorted-nil
sorted-map k (sorted-on {x} e o) = sorted-on (each_map (λ y d. k y x d) e) (sorted-map k o)

-- ---- the first w of an insertion are those of an insertion into the first w

module _ {A : Type 0} (lt : A → A → Bool) where
  take_head : (w : ℕ) (y : A) (s : List A) → take w (y ∷ s) ≡ take w (y ∷ take w s)
  take_head zero y s = refl
  take_head (suc w) y s = ap (λ (l : List A). y ∷ l) (sym (take-take w (suc w) s (omega arith)))

  pub take-insert : (w : ℕ) (x : A) (s : List A) → take w (insert lt x s) ≡ take w (insert lt x (take w s))
  unfolding insert
  take-insert zero x s = refl
  take-insert (suc w) x [] = refl
  take-insert (suc w) x (y ∷ s) = go (lt x y) (take-insert w x s)
    where
      go : (b : Bool) → take w (insert lt x s) ≡ take w (insert lt x (take w s))
          → take (suc w) (cond b (x ∷ y ∷ s) (y ∷ insert lt x s)) ≡ take (suc w) (cond b (x ∷ y ∷ take w s) (y ∷ insert lt x (take w s)))
      go true h = ap (λ (l : List A). x ∷ l) (take_head w y s)
      go false h = ap (λ (l : List A). y ∷ l) h

  pub take-sort : (w : ℕ) (acc s : List A) → take w (sort_into lt acc s) ≡ take w (sort_into lt (take w acc) s)
  unfolding sort_into
  take-sort w acc [] = sym (take-take w w acc (omega arith))
  take-sort w acc (x ∷ s) =
      take-sort w (insert lt x acc) s ∙ ap (λ (l : List A). take w (sort_into lt l s)) (take-insert w x acc) ∙ sym (take-sort w (insert lt x (take w acc)) s)

  -- ---- as many, and the same

  pub length-insert : (x : A) (s : List A) → length (insert lt x s) ≡ suc (length s)
  unfolding insert
  length-insert x [] = refl
  length-insert x (y ∷ s) = go (lt x y) (length-insert x s)
    where
      go : (b : Bool) → length (insert lt x s) ≡ suc (length s) → length (cond b (x ∷ y ∷ s) (y ∷ insert lt x s)) ≡ suc (suc (length s))
      go true h = refl
      go false h = ap suc h

  pub length-sort : (acc s : List A) → length (sort_into lt acc s) ≡ length acc + length s
  unfolding sort_into
  length-sort acc [] = omega arith
  length-sort acc (x ∷ s) = omega (arith, length-sort (insert lt x acc) s, length-insert x acc)

  module _ (p : A → Bool) where
    abbrev count : List A → ℕ
    count s = length (filter p s)

    count-insert : (x : A) (s : List A) → count (insert lt x s) ≡ count (x ∷ s)
    unfolding insert filter
    count-insert x [] = refl
    count-insert x (y ∷ s) = go (lt x y) (count-insert x s)
      where
        go : (b : Bool) → length (filter p (insert lt x s)) ≡ length (cond (p x) (x ∷ filter p s) (filter p s)) → length (filter p (cond b (x ∷ y ∷ s) (y ∷ insert lt x s))) ≡ length (cond (p x) (x ∷ cond (p y) (y ∷ filter p s) (filter p s)) (cond (p y) (y ∷ filter p s) (filter p s)))
        go true h = refl
        go false h = on (p x) (p y) h
          where
            on : (c d : Bool) → length (filter p (insert lt x s)) ≡ length (cond c (x ∷ filter p s) (filter p s)) → length (cond d (y ∷ filter p (insert lt x s)) (filter p (insert lt x s))) ≡ length (cond c (x ∷ cond d (y ∷ filter p s) (filter p s)) (cond d (y ∷ filter p s) (filter p s)))
            on true true h = ap suc h
            on true false h = h
            on false true h = ap suc h
            on false false h = h

    count-both : (acc s : List A) → length (filter p (sort_into lt acc s)) ≡ length (filter p acc) + length (filter p s)
    unfolding sort_into filter
    count-both acc [] = omega arith
    count-both acc (x ∷ s) = go (p x) refl (count-both (insert lt x acc) s) (count-insert x acc)
      where
        go : (b : Bool) → p x ≡ b → length (filter p (sort_into lt (insert lt x acc) s)) ≡ length (filter p (insert lt x acc)) + length (filter p s)
            → length (filter p (insert lt x acc)) ≡ length (cond (p x) (x ∷ filter p acc) (filter p acc))
            → length (filter p (sort_into lt (insert lt x acc) s)) ≡ length (filter p acc) + length (cond b (x ∷ filter p s) (filter p s))
        go true e h k = let m : length (filter p (insert lt x acc)) ≡ suc (length (filter p acc)) = k ∙ rw e in omega arith
        go false e h k = let m : length (filter p (insert lt x acc)) ≡ length (filter p acc) = k ∙ rw e in omega arith

    -- as many of them pass any test
    pub count-sort : (s : List A) → length (filter p (sort_into lt [] s)) ≡ length (filter p s)
    unfolding filter
    count-sort s = count-both [] s ∙ omega arith

  -- ---- a permutation

  insert-perm : (x : A) (s : List A) → Permᴰ (insert lt x s) (x ∷ s)
  unfolding insert
  insert-perm x [] = Permᴰ.refl (x ∷ [])
  insert-perm x (y ∷ s) = go (lt x y) (insert-perm x s)
    where
      go : (b : Bool) → Permᴰ (insert lt x s) (x ∷ s) → Permᴰ (cond b (x ∷ y ∷ s) (y ∷ insert lt x s)) (x ∷ y ∷ s)
      go true h = Permᴰ.refl (x ∷ y ∷ s)
      go false h = Permᴰ.trans (Permᴰ.cons refl h) (Permᴰ.swap refl refl)

  into-perm : (acc s : List A) → Permᴰ (sort_into lt acc s) (s ++ acc)
  unfolding sort_into
  into-perm acc [] = Permᴰ.refl acc
  into-perm acc (x ∷ s) =
      Permᴰ.trans (into-perm (insert lt x acc) s) (Permᴰ.trans (Permᴰ.append_left s (insert-perm x acc)) (Permᴰ.middle x s acc))

  pub sort-perm : (s : List A) → Perm (sort_by lt s) s
  sort-perm s = ∣ rw (append-nil s) at (into-perm [] s) ∣₁

  -- ---- in order

  pub take-sorted : {s : List A} (n : ℕ) → Sorted lt s → Sorted lt (take n s)
  take-sorted zero sorted-nil = sorted-nil
  take-sorted zero (sorted-on e o) = sorted-nil
  take-sorted (suc n) sorted-nil = sorted-nil
  take-sorted (suc n) (sorted-on {x = x} {s = s} e o) = sorted-on (each_take n e) (take-sorted {s = s} n o)

  pub each-insert : (P : A → Type 0) (x : A) (s : List A) → P x → EachOf P s → EachOf P (insert lt x s)
  unfolding insert
  each-insert P x [] p each_nil = each_on p each_nil
  each-insert P x (y ∷ s) p (each_on q e) = go (lt x y) (each-insert P x s p e)
    where
      go : (b : Bool) → EachOf P (insert lt x s) → EachOf P (cond b (x ∷ y ∷ s) (y ∷ insert lt x s))
      go true h = each_on p (each_on q e)
      go false h = each_on q h

  pub each-sort : (P : A → Type 0) (acc s : List A) → EachOf P acc → EachOf P s → EachOf P (sort_into lt acc s)
  unfolding sort_into
  each-sort P acc [] e each_nil = e
  each-sort P acc (x ∷ s) e (each_on p d) = each-sort P (insert lt x acc) s (each-insert P x acc p e) d

  -- a place behind all
  place-last : (x : A) (s : List A) → EachOf (λ (y : A). lt x y ≡ false) s → place_of lt x s ≡ length s
  unfolding place_of
  place-last x [] each_nil = refl
  place-last x (y ∷ s) (each_on q e) = rw q (ap suc (place-last x s e))

  insert-first : (x : A) (s : List A) → EachOf (λ (y : A). lt x y ≡ true) s → insert lt x s ≡ x ∷ s
  unfolding insert
  insert-first x [] each_nil = refl
  insert-first x (y ∷ s) (each_on q e) = rw q

  module _ (through : (a b c : A) → lt b a ≡ false → lt c b ≡ false → lt c a ≡ false) (turn : (a b : A) → lt a b ≡ true → lt b a ≡ false) where
    -- x comes before y, and y not behind z
    on-before : (x y z : A) → lt x y ≡ true → lt z y ≡ false → lt x z ≡ true
    on-before x y z e d = go (lt x z) refl
      where
        go : (b : Bool) → lt x z ≡ b → b ≡ true
        go true q = refl
        go false q = absurd (false≢true (sym (through y z x d q) ∙ e))

    never : (x : A) → lt x x ≡ false
    never x = go (lt x x) refl
      where
        go : (b : Bool) → lt x x ≡ b → b ≡ false
        go true q = sym q ∙ turn x x q
        go false q = refl

    pub insert-sorted : (x : A) {s : List A} → Sorted lt s → Sorted lt (insert lt x s)
    unfolding insert
    insert-sorted x sorted-nil = sorted-on each_nil sorted-nil
    insert-sorted x (sorted-on {x = y} {s} e o) = go (lt x y) refl (insert-sorted x o)
      where
        go : (b : Bool) → lt x y ≡ b → Sorted lt (insert lt x s) → Sorted lt (cond b (x ∷ y ∷ s) (y ∷ insert lt x s))
        go true q h = sorted-on (each_on (turn x y q) (each_map (λ z d. through x y z (turn x y q) d) e)) (sorted-on e o)
        go false q h = sorted-on (each-insert (λ (w : A). lt w y ≡ false) x s q e) h

    into-sorted : (acc s : List A) → Sorted lt acc → Sorted lt (sort_into lt acc s)
    unfolding sort_into
    into-sorted acc [] o = o
    into-sorted acc (x ∷ s) o = into-sorted (insert lt x acc) s (insert-sorted x o)

    pub sort_sorted : (s : List A) → Sorted lt (sort_by lt s)
    sort_sorted s = into-sorted [] s sorted-nil

    -- ---- what does not come before the last of a full window stays out

    behind-all : (x : A) (s : List A) (k : ℕ) (z : A) → Sorted lt s → length s ≡ suc k → lt x (get_or s k z) ≡ false → EachOf (λ (y : A). lt x y ≡ false) s
    behind-all x [] k z o l e = absurd (omega arith)
    behind-all x (y ∷ []) zero z o l e = each_on e each_nil
    behind-all x (y ∷ []) (suc k) z o l e = absurd (omega arith)
    behind-all x (y ∷ v ∷ s) zero z o l e = absurd (omega arith)
    behind-all x (y ∷ v ∷ s) (suc k) z (sorted-on (each_on q d) o) l e = go (behind-all x (v ∷ s) k z o (omega arith) e)
      where
        go : EachOf (λ (w : A). lt x w ≡ false) (v ∷ s) → EachOf (λ (w : A). lt x w ≡ false) (y ∷ v ∷ s)
        go (each_on g h) = each_on (through y v x q g) (each_on g h)

    pub full-stays : (w : ℕ) (x : A) (s : List A) (k : ℕ) (z : A) → Sorted lt s → length s ≡ w → suc k ≡ w → lt x (get_or s k z) ≡ false → take w (insert lt x s) ≡ s
    full-stays w x s k z o l m e =
        let p : place_of lt x s ≡ length s = place-last x s (behind-all x s k z o (omega arith) e) in
        rw (insert-is lt x s, p, take-length s) (take_at s (x ∷ drop (length s) s) w l)

    -- ---- those that pass, in order

    module _ (p : A → Bool) where
      filter_none : (x : A) (s : List A) → p x ≡ false → filter p (insert lt x s) ≡ filter p s
      unfolding insert filter
      filter_none x [] e = rw e
      filter_none x (y ∷ s) e = go (lt x y) (filter_none x s e)
        where
          go : (b : Bool) → filter p (insert lt x s) ≡ filter p s → filter p (cond b (x ∷ y ∷ s) (y ∷ insert lt x s)) ≡ cond (p y) (y ∷ filter p s) (filter p s)
          go true h = rw e
          go false h = rw h

      each-filter : (P : A → Type 0) (s : List A) → EachOf P s → EachOf P (filter p s)
      unfolding filter
      each-filter P [] each_nil = each_nil
      each-filter P (y ∷ s) (each_on q e) = go (p y) (each-filter P s e)
        where
          go : (b : Bool) → EachOf P (filter p s) → EachOf P (cond b (y ∷ filter p s) (filter p s))
          go true h = each_on q h
          go false h = h

      filter-insert : (x : A) (s : List A) → Sorted lt s → p x ≡ true → filter p (insert lt x s) ≡ insert lt x (filter p s)
      unfolding insert filter
      filter-insert x [] o e = rw e
      filter-insert x (y ∷ s) (sorted-on d o) e = go (lt x y) (p y) refl refl (filter-insert x s o e)
        where
          go : (b c : Bool) → lt x y ≡ b → p y ≡ c → filter p (insert lt x s) ≡ insert lt x (filter p s)
              → filter p (cond b (x ∷ y ∷ s) (y ∷ insert lt x s)) ≡ insert lt x (cond c (y ∷ filter p s) (filter p s))
          go true true q r h = rw (e, r, q)
          go true false q r h =
              rw (e, r) (sym (insert-first x (filter p s) (each-filter (λ (z : A). lt x z ≡ true) s (each_map (λ z g. on-before x y z q g) d))))
          go false true q r h = rw (r, q, h)
          go false false q r h = rw (r, h)

      pub filter-sort : (acc s : List A) → Sorted lt acc → filter p (sort_into lt acc s) ≡ sort_into lt (filter p acc) (filter p s)
      unfolding sort_into filter
      filter-sort acc [] o = refl
      filter-sort acc (x ∷ s) o = go (p x) refl (filter-sort (insert lt x acc) s (insert-sorted x o))
        where
          go : (b : Bool) → p x ≡ b → filter p (sort_into lt (insert lt x acc) s) ≡ sort_into lt (filter p (insert lt x acc)) (filter p s)
              → filter p (sort_into lt (insert lt x acc) s) ≡ sort_into lt (filter p acc) (cond b (x ∷ filter p s) (filter p s))
          go true e h = h ∙ rw (filter-insert x acc o e)
          go false e h = h ∙ rw (filter_none x acc e)

      pub filter-all : (s : List A) → EachOf (λ (y : A). p y ≡ true) s → filter p s ≡ s
      unfolding filter
      filter-all [] each_nil = refl
      filter-all (y ∷ s) (each_on q e) = rw (q, filter-all s e)

    -- ---- what is past one of them stands behind it

    pub insert-rising : (x : A) {s : List A} → Rising lt s → EachOf (λ (y : A). lt x y ≡ false → lt y x ≡ true) s → Rising lt (insert lt x s)
    unfolding insert
    insert-rising x rising-nil each_nil = rising-on each_nil rising-nil
    insert-rising x (rising-on {x = y} {s} e o) (each_on g h) = go (lt x y) refl (insert-rising x o h)
      where
        go : (b : Bool) → lt x y ≡ b → Rising lt (insert lt x s) → Rising lt (cond b (x ∷ y ∷ s) (y ∷ insert lt x s))
        go true q k = rising-on (each_on q (each_map (λ z d. on-before x y z q (turn y z d)) e)) (rising-on e o)
        go false q k = rising-on (each-insert (λ (w : A). lt y w ≡ true) x s (g q) e) k

    pub rising-past : (s : List A) (i : ℕ) (z : A) → Rising lt s → i < length s → filter (lt (get_or s i z)) s ≡ drop (suc i) s
    unfolding filter
    rising-past [] i z o h = absurd (omega arith)
    rising-past (x ∷ s) zero z (rising-on e o) h = rw (never x) (filter-all (lt x) s e)
    rising-past (x ∷ s) (suc i) z (rising-on e o) h =
        let k : lt x (get_or s i z) ≡ true = each_at s i z e (omega arith) in
        rw (turn x (get_or s i z) k) (rising-past s i z o (omega arith))

    -- ---- a list whose keys rise is strictly in order once it is sorted, where two of unlike keys are never the same

    module _ (key : A → ℕ) (apart : (x y : A) → key y < key x → lt x y ≡ false → lt y x ≡ true) where
      pub data Climbs : ℕ → List A → Type 0 where
        stop : {m : ℕ} → Climbs m []
        step : {m : ℕ} {x : A} {s : List A} → m ≤ key x → Climbs (suc (key x)) s → Climbs m (x ∷ s)

      pub climbs-from : {m n : ℕ} {s : List A} → m ≤ n → Climbs n s → Climbs m s
      climbs-from h stop = stop
      climbs-from {m} h (step {x} k c) = let l : m ≤ key x = omega arith in step l c

      pub sort-rising : (acc : List A) {m : ℕ} {s : List A} → Rising lt acc → EachOf (λ (y : A). key y < m) acc → Climbs m s → Rising lt (sort_into lt acc s)
      unfolding sort_into
      sort-rising acc o e stop = o
      sort-rising acc o e (step {m} {x} {s} h c) =
          sort-rising (insert lt x acc) (insert-rising x o (each_map (λ y d. apart x y (omega arith)) e))
          (each-insert (λ (y : A). key y < suc (key x)) x acc (omega arith) (each_map (λ y d. omega arith) e)) c
