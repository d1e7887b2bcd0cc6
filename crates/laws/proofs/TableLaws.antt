-- A table over what stood there: all that storing needs. Assumes nothing.
use mathlib.Core.Path.{◌≡◌, refl, sym, ◌∙◌, ap, ap₂}
use mathlib.Core.List.{List, [], ◌∷◌, ◌++◌, append_assoc, append-nil}
use Prim.Native.Nat.{ℕ, suc, ◌+◌, ◌-◌, ◌≤◌, ◌<◌}
use native.Mathlib.Omega.{arith}
use native.Mathlib.Numerals.{add-one}
use lib.ListN.{length, take, drop, get_or, set, length-append, length-set, length-drop}
use lib.Seq.{paste, paste-zero, paste-suc, take-length, take_all, take-suc, set_at, set_split, drop-cons, drop-drop, set-append_left, take-append_seam, take-append-le, take-take, take_at, drop_at, drop-append-add, length-take-le}
use Rattle.laws.specs.Lists.{tail, over, pasted}
use Rattle.laws.proofs.ListLaws.{rest-is, left-none}

module _ {ℓ} {A : Type ℓ} where
  -- what is stored behind `xs` is over the longer list
  pub over-more : (xs vs l : List A) → length xs + length vs ≤ length l → pasted (over xs l) (length xs) vs ≡ over (xs ++ vs) l
  over-more xs vs l h =
      ap₂ (λ (a b : List A). a ++ vs ++ b) (take-append_seam xs (drop (length xs) l))
      (drop-append-add xs (drop (length xs) l) (length vs) ∙ drop-drop (length vs) (length xs) l ∙ ap (λ (k : ℕ). drop k l) (sym (length-append xs vs)))

  pub over-one : (xs l : List A) (v : A) → length xs + 1 ≤ length l → set (over xs l) (length xs) v ≡ over (xs ++ v ∷ []) l
  over-one xs l v h =
      let i : length xs < length l = omega arith in
      let z : suc (length xs) ≡ length (xs ++ v ∷ []) = omega (arith, length-append xs (v ∷ [])) in
      ap (λ (r : List A). set (xs ++ r) (length xs) v) (drop-cons l (length xs) v i)
      ∙ set_at xs (get_or l (length xs) v) (drop (suc (length xs)) l) v (length xs) refl
      ∙ ap (λ (k : ℕ). xs ++ v ∷ drop k l) z
      ∙ sym (append_assoc xs (v ∷ []) (drop (length (xs ++ v ∷ [])) l))

  pub over-set : (xs l : List A) (i : ℕ) (v : A) → i < length xs → set (over xs l) i v ≡ over (set xs i v) l
  over-set xs l i v h = set-append_left xs (drop (length xs) l) i v h ∙ ap (λ (k : ℕ). set xs i v ++ drop k l) (sym (length-set xs i v))

  pub length_over : (xs l : List A) → length xs ≤ length l → length (over xs l) ≡ length l
  length_over xs l h = omega (arith, length-append xs (drop (length xs) l), length-drop (length xs) l)

  -- one more element of a copy
  pub paste_more : (d : List A) (at : ℕ) (s : List A) (j : ℕ) (z : A) → at + j < length d → j < length s
      → set (paste d at s j) (at + j) (get_or s j z) ≡ paste d at s (j + 1)
  paste_more d at s j z h k = paste-suc d at s j z h k ∙ ap (paste d at s) (sym (add-one j))

  pub paste_all : (d : List A) (at : ℕ) (s : List A) (j : ℕ) → j ≡ length s → paste d at s j ≡ pasted d at s
  paste_all d at s j e = ap (paste d at s) e ∙ ap (λ (x : List A). take at d ++ x ++ drop (at + length s) d) (take-length s)

  pub pasted-one : (l : List A) (i : ℕ) (v : A) → i < length l → set l i v ≡ pasted l i (v ∷ [])
  pasted-one l i v h = set_split l i v h ∙ rw (add-one, append_assoc)

  -- what is stored directly before `ys`
  pub pasted-front : (l : List A) (i j : ℕ) (xs ys : List A) → i + length xs ≡ j → j ≤ length l
      → pasted (pasted l j ys) i xs ≡ pasted l i (xs ++ ys)
  pasted-front l i j xs ys e h =
      let n : length (take j l) ≡ j = length-take-le j l h in
      let r : List A = ys ++ drop (j + length ys) l in
      let a : take i (take j l ++ r) ≡ take i l = take-append-le i (take j l) r (omega arith) ∙ take-take i j l (omega arith) in
      let b : drop (i + length xs) (take j l ++ r) ≡ r = drop_at (take j l) r (i + length xs) (omega arith) in
      let k : j + length ys ≡ i + length (xs ++ ys) = omega (arith, length-append xs ys) in
      rw (append_assoc (take j l) ys (drop (j + length ys) l), a, b, k) (simp append_assoc)

  pub pasted-none : (l : List A) (i : ℕ) → l ≡ pasted l i []
  pasted-none l i = paste-zero l i []

  pub length-pasted : (l : List A) (i : ℕ) (xs : List A) → i + length xs ≤ length l → length (pasted l i xs) ≡ length l
  length-pasted l i xs h =
      omega (
        arith,
        length-append (take i l ++ xs) (drop (i + length xs) l),
        length-append (take i l) xs,
        length-take-le i l (omega arith),
        length-drop (i + length xs) l,
      )

  -- one more, directly before `xs`
  pub pasted-before : (l : List A) (i j : ℕ) (v : A) (xs : List A) → i + 1 ≡ j → j + length xs ≤ length l
      → set (pasted l j xs) i v ≡ pasted l i (v ∷ xs)
  pasted-before l i j v xs e h =
      pasted-one (pasted l j xs) i v (omega (arith, length-pasted l j xs h)) ∙ pasted-front l i j (v ∷ []) xs e (omega arith)

  -- one more element of a copy to the start
  pub over-next : (s l : List A) (i : ℕ) (d : A) → i < length s → length s ≤ length l → set (over (take i s) l) i (get_or s i d) ≡ over (take (i + 1) s) l
  over-next s l i d h k =
      let n : length (take i s) ≡ i = length-take-le i s (omega arith) in
      ap (λ (j : ℕ). set (over (take i s) l) j (get_or s i d)) (sym n) ∙ over-one (take i s) l (get_or s i d) (omega arith) ∙ rw (add-one, take-suc s i d)

  pub over-whole : (s l : List A) (i : ℕ) → length s ≤ i → over (take i s) l ≡ over s l
  over-whole s l i h = rw (take_all i s h)

  -- what is stored directly behind `xs`
  pub pasted-behind : (l : List A) (i : ℕ) (xs ys : List A) → i + length xs ≤ length l
      → pasted (pasted l i xs) (i + length xs) ys ≡ pasted l i (xs ++ ys)
  pasted-behind l i xs ys h =
      let r : List A = drop (i + length xs) l in
      let n : length (take i l ++ xs) ≡ i + length xs = omega (arith, length-append (take i l) xs, length-take-le i l (omega arith)) in
      let a : take (i + length xs) (take i l ++ xs ++ r) ≡ take i l ++ xs = take_at (take i l ++ xs) r (i + length xs) n in
      let b : drop (i + length xs + length ys) (take i l ++ xs ++ r) ≡ drop (i + length xs + length ys) l
      = ap (λ (k : ℕ). drop (k + length ys) (take i l ++ xs ++ r)) (sym n) ∙ drop-append-add (take i l ++ xs) r (length ys) ∙ drop-drop (length ys) (i + length xs) l in
      let k : i + length xs + length ys ≡ i + length (xs ++ ys) = omega (arith, length-append xs ys) in
      rw (a, b, k) (simp append_assoc)

  -- what is stored at the start of the part `&mut l[i..]`
  pub pasted-part : (l xs : List A) (i : ℕ) → take i l ++ (over xs (tail l i) ++ drop (length l - i) (drop i l)) ≡ pasted l i xs
  pasted-part l xs i =
      rw (rest-is l i, left-none (drop i l) (length l - i) (simp length-drop (omega arith)), append-nil, drop-drop (length xs) i l, append_assoc)
