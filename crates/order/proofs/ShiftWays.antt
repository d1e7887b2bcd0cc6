-- An item put into a window: what stands behind its place moves on by one, carried from item to item. Assumes nothing.
use Prim.Native.Nat.{ℕ, ◌+◌, ◌≤◌, ◌<◌, min}
use mathlib.Core.Path.{◌≡◌, sym, ap, ◌∙◌}
use mathlib.Core.List.{List, [], ◌∷◌, ◌++◌}
use native.Mathlib.Numerals.{add-one}
use native.Mathlib.Omega.{arith}
use lib.ListN.{length, get_or, take, drop, set, length-take, length-set, length-append}
use lib.Seq.{take-take, take-suc-set, take-set-lt, drop-set-lt, append_snoc, get_or-take}
use Rattle.laws.proofs.ListLaws.{left, left-none}
use Rattle.order.proofs.PlaceWays.{put_in}
use Rattle.order.proofs.ClipLaws.{take-clip}

module _ {A : Type 0} where
  -- the items before i are as they are to be, one is carried, and those from i on are as they were
  pub record Shifting (width : ℕ) (window : List A) (n at : ℕ) (x : A) (items : List A) (carried : A) (i : ℕ) : Type 0 where
    pub from : at ≤ i
    pub to : i ≤ n
    pub room : n < width
    pub wide : length items ≡ width
    pub is : put_in at x (take n window) ≡ take i items ++ carried ∷ drop i (take n items)

  pub shift-start : (width : ℕ) (window : List A) (n at : ℕ) (x : A) → n < width → at ≤ n → length window ≡ width → Shifting width window n at x window x at
  shift-start width window n at x h k l =
      record { from = omega arith; to = k; room = h; wide = l; is = rw (take-take at n window k) }

  module _ {width : ℕ} {window : List A} {n at : ℕ} {x : A} {items : List A} {carried : A} {i : ℕ} (w : Shifting width window n at x items carried i) where
    pub shift_in : i < n → i < width
    shift_in h = omega (arith, w.room)

    pub shift-more : i < n → (z : A) → Shifting width window n at x (set items i carried) (get_or items i z) (i + 1)
    shift-more h z =
        let l : i < length items = omega (arith, w.room, w.wide) in
        let m : i < length (take n items) = omega (arith, length-take n items) in
        let e : drop i (take n items) ≡ get_or items i z ∷ drop (i + 1) (take n items) = left (take n items) i z m ∙ rw (get_or-take n items i z h) in
        let f : take (i + 1) (set items i carried) ≡ take i items ++ (carried ∷ []) = rw add-one (take-suc-set items i carried l) in
        let g : drop (i + 1) (take n (set items i carried)) ≡ drop (i + 1) (take n items)
        = ap (drop (i + 1)) (take-set-lt n items i carried h) ∙ drop-set-lt (i + 1) (take n items) i carried (omega arith) in
        record {
          from = omega (arith, w.from);
          to = omega arith;
          room = w.room;
          wide = length-set items i carried ∙ w.wide;
          is = w.is ∙ rw (e, f, g) (sym (append_snoc (take i items) carried (get_or items i z ∷ drop (i + 1) (take n items))));
        }

    module _ (most : ℕ) (h : n ≤ i) where
      shifted : put_in at x (take n window) ≡ take n items ++ (carried ∷ [])
      shifted =
          let e : i ≡ n = omega (arith, w.to) in
          w.is ∙ rw (e, left-none (take n items) n (omega (arith, length-take n items)))

      -- the last one that was carried stands behind them, where it falls off a full window
      pub shift-end : (m : ℕ) → m ≡ min (n + 1) most → take m (set items n carried) ≡ take most (put_in at x (take n window))
      shift-end m e =
          let l : n < length items = omega (arith, w.wide, w.room) in
          let f : take (n + 1) (set items n carried) ≡ take n items ++ (carried ∷ []) = rw add-one (take-suc-set items n carried l) in
          let k : length (take n items ++ (carried ∷ [])) ≡ n + 1 = simp length-append (omega (arith, length-take n items, w.wide, w.room)) in
          sym (take-take m (n + 1) (set items n carried) (omega arith)) ∙ rw (f, shifted) (take-clip most (take n items ++ (carried ∷ [])) m (omega arith))
