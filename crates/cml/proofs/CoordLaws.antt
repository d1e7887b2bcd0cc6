-- A line's points coordinate by coordinate, as the code writes them, are its COORDs: at most 1000 vertices each, filled in turn.
-- Assumes nothing.
use Prim.Native.Nat.{ℕ, zero, suc, ◌+◌, ◌-◌, ◌*◌, ◌/◌, ◌%◌, ◌≤◌, ◌<◌}
use mathlib.Core.Path.{◌≡◌, refl, sym, ◌∙◌, ap}
use mathlib.Core.List.{List, [], ◌∷◌, ◌++◌, append_assoc}
use mathlib.Core.Bool.{Bool, true, false}
use native.Mathlib.Omega.{arith}
use lib.ListN.{length, take, drop, take-append-drop, length-drop}
use lib.Seq.{length-take-le, take_all}
use lib.Dec.{leb}
use lib.IntN.{ℤ}
use borrow.Author.Tests.{eq-eqb, ne_eqb, leb-true, leb-false}
use Rattle.laws.specs.Text.{text}
use Rattle.laws.proofs.ListLaws.{left-none}
use Rattle.spelling.specs.Spelling.{bare_real}
use Rattle.cml.specs.Element.{pair_text, parted_text, pairs_text, coord_text, coord_count, coords_text}
use Rattle.cml.specs.Spaced.{gap, mark, spaced_text}

-- ---- what stands before a vertex

module _ (i : ℕ) where
  pub gap-first : i ≡ 0 → gap i ≡ []
  unfolding gap
  gap-first e = rw (eq-eqb i 0 e)

  module _ (f : i ≡ 0 → ⊥) where
    pub gap-full : i % 1000 ≡ 0 → gap i ≡ text "</COORD><COORD>"
    unfolding gap
    gap-full e = rw (ne_eqb i 0 f, eq-eqb (i % 1000) 0 e)

    pub gap-blank : (i % 1000 ≡ 0 → ⊥) → gap i ≡ text " "
    unfolding gap
    gap-blank e = rw (ne_eqb i 0 f, ne_eqb (i % 1000) 0 e)

-- ---- what stands before a coordinate

pub mark-comma : (j : ℕ) → j % 2 ≡ 1 → mark j ≡ text ","
unfolding mark
mark-comma j e = rw (eq-eqb (j % 2) 1 e)

pub mark-gap : (j : ℕ) → (j % 2 ≡ 1 → ⊥) → mark j ≡ gap (j / 2)
unfolding mark
mark-gap j f = rw (ne_eqb (j % 2) 1 f)

pub spaced-none : (j : ℕ) → spaced_text j [] ≡ []
unfolding spaced_text
spaced-none j = refl

-- a vertex is two coordinates
pub spaced-two : (i : ℕ) (x y : ℤ) (s : List ℤ) → spaced_text (2 * i) (x ∷ y ∷ s) ≡ gap i ++ (pair_text x y ++ spaced_text (2 * (i + 1)) s)
unfolding spaced_text pair_text
spaced-two i x y s =
    let h : 2 * i / 2 ≡ i = omega arith in
    let m : mark (2 * i) ≡ gap i = mark-gap (2 * i) (λ z. omega arith) ∙ ap gap h in
    let c : mark (2 * i + 1) ≡ text "," = mark-comma (2 * i + 1) (omega arith) in
    let z : 2 * i + 1 + 1 ≡ 2 * (i + 1) = omega arith in
    rw (m, c, z) (ap (λ (r : List ℕ). gap i ++ r) (sym (append_assoc (bare_real x) (44 ∷ bare_real y) (spaced_text (2 * (i + 1)) s))))

-- ---- one COORD

-- up to its end there are blanks: j vertices stand in it already, the m of s find room, and r is what follows
in-coord : (s r : List ℤ) (m q j i : ℕ) → length s ≡ 2 * m → i ≡ 1000 * q + j → 1 ≤ j → j + m ≤ 1000 → spaced_text (2 * i) (s ++ r) ≡ parted_text s ++ spaced_text (2 * (i + m)) r
unfolding parted_text
in-coord [] r m q j i l e h k = let z : i ≡ i + m = omega arith in ap (λ (n : ℕ). spaced_text (2 * n) r) z
in-coord (x ∷ []) r m q j i l e h k = absurd (omega arith)
in-coord (x ∷ y ∷ s) r m q j i l e h k =
    let g : gap i ≡ text " " = gap-blank i (λ z. omega arith) (λ z. omega arith) in
    let t : spaced_text (2 * (i + 1)) (s ++ r) ≡ parted_text s ++ spaced_text (2 * (i + 1 + (m - 1))) r
    = in-coord s r (m - 1) q (j + 1) (i + 1) (omega arith) (omega arith) (omega arith) (omega arith) in
    let z : i + 1 + (m - 1) ≡ i + m = omega arith in
    rw (spaced-two i x y (s ++ r), g, t, z, append_assoc (text " ") (pair_text x y ++ parted_text s) (spaced_text (2 * (i + m)) r), append_assoc (pair_text x y) (parted_text s) (spaced_text (2 * (i + m)) r))

-- behind its first vertex it has up to 999 more; what is left begins the next
coord-rest : (q n : ℕ) (s : List ℤ) → length s ≡ 2 * n → spaced_text (2 * (1000 * q + 1)) s ≡ parted_text (take 1998 s) ++ spaced_text (2 * (1000 * (q + 1))) (drop 1998 s)
coord-rest q n s e = go (leb 999 n) refl
  where
    go : (t : Bool) → leb 999 n ≡ t → spaced_text (2 * (1000 * q + 1)) s ≡ parted_text (take 1998 s) ++ spaced_text (2 * (1000 * (q + 1))) (drop 1998 s)
    go true f =
        let h : 999 ≤ n = leb-true 999 n f in
        let z : 1000 * q + 1 + 999 ≡ 1000 * (q + 1) = omega arith in
        ap (spaced_text (2 * (1000 * q + 1))) (sym (take-append-drop 1998 s))
        ∙ in-coord (take 1998 s) (drop 1998 s) 999 q 1 (1000 * q + 1) (length-take-le 1998 s (omega arith)) refl (omega arith) (omega arith)
        ∙ ap (λ (i : ℕ). parted_text (take 1998 s) ++ spaced_text (2 * i) (drop 1998 s)) z
    go false f =
        let h : n < 999 = leb-false 999 n f in
        let z : drop 1998 s ≡ [] = left-none s 1998 (omega arith) in
        ap (spaced_text (2 * (1000 * q + 1))) (sym (take-append-drop 1998 s))
        ∙ in-coord (take 1998 s) (drop 1998 s) n q 1 (1000 * q + 1) (ap length (take_all 1998 s (omega arith)) ∙ e) refl (omega arith) (omega arith)
        ∙ rw (z, spaced-none (2 * (1000 * q + 1 + n)), spaced-none (2 * (1000 * (q + 1))))

-- ---- all of them

-- the first vertex, those behind it, the tag at the end and what follows
coord-end : (x y : ℤ) (f r : List ℤ) (i k : ℕ) → spaced_text (2 * i) r ++ text "</COORD>" ≡ text "</COORD>" ++ coords_text k r
    → (pair_text x y ++ (parted_text f ++ spaced_text (2 * i) r)) ++ text "</COORD>" ≡ ((pair_text x y ++ parted_text f) ++ text "</COORD>") ++ coords_text k r
coord-end x y f r i k e =
    append_assoc (pair_text x y) (parted_text f ++ spaced_text (2 * i) r) (text "</COORD>")
    ∙ ap (λ (z : List ℕ). pair_text x y ++ z) (append_assoc (parted_text f) (spaced_text (2 * i) r) (text "</COORD>") ∙ ap (λ (z : List ℕ). parted_text f ++ z) e)
    ∙ sym (append_assoc (pair_text x y ++ parted_text f) (text "</COORD>") (coords_text k r) ∙ append_assoc (pair_text x y) (parted_text f) (text "</COORD>" ++ coords_text k r))

-- a full COORD is closed, and the next one opened
coords-behind : (k q n : ℕ) (s : List ℤ) → 1 ≤ q → length s ≡ 2 * n → k ≡ (n + 999) / 1000 → spaced_text (2 * (1000 * q)) s ++ text "</COORD>" ≡ text "</COORD>" ++ coords_text k s
unfolding coords_text coord_text pairs_text
coords-behind zero q n [] h l c = rw (spaced-none (2 * (1000 * q)))
coords-behind zero q n (x ∷ s) h l c = absurd (omega arith)
coords-behind (suc k) q n [] h l c = absurd (omega arith)
coords-behind (suc k) q n (x ∷ []) h l c = absurd (omega arith)
coords-behind (suc k) q n (x ∷ y ∷ s) h l c =
    let g : gap (1000 * q) ≡ text "</COORD><COORD>" = gap-full (1000 * q) (λ z. omega arith) (omega arith) in
    let t = coords-behind k (q + 1) (n - 1000) (drop 1998 s) (omega arith) (omega (arith, length-drop 1998 s)) (omega arith) in
    let f = take 1998 s in
    let r = drop 1998 s in
    rw (spaced-two (1000 * q) x y s, g, coord-rest q (n - 1) s (omega arith))
    (ap (λ (z : List ℕ). text "</COORD><COORD>" ++ z) (coord-end x y f r (1000 * (q + 1)) k t))

-- **the pairs with what stands before each are the COORDs**
pub coords-are : (n : ℕ) (s : List ℤ) → length s ≡ 2 * n → text "<COORD>" ++ (spaced_text 0 s ++ text "</COORD>") ≡ coords_text (coord_count n) s
unfolding coords_text coord_text pairs_text
coords-are n [] l = let z : (n - 1) / 1000 ≡ 0 = omega arith in rw (z, spaced-none 0)
coords-are n (x ∷ []) l = absurd (omega arith)
coords-are n (x ∷ y ∷ s) l =
    let k = (n - 1) / 1000 in
    let t = coords-behind k 1 (n - 1000) (drop 1998 s) (omega arith) (omega (arith, length-drop 1998 s)) (omega arith) in
    rw (spaced-two 0 x y s, gap-first 0 refl, coord-rest 0 (n - 1) s (omega arith))
    (ap (λ (z : List ℕ). text "<COORD>" ++ z) (coord-end x y (take 1998 s) (drop 1998 s) 1000 k t))

-- with the element's end behind them
pub points-text : (n : ℕ) (s : List ℤ) → length s ≡ 2 * n
    → coords_text (coord_count n) s ++ text "</LINEA>\n" ≡ text "<COORD>" ++ (spaced_text 0 s ++ text "</COORD></LINEA>\n")
points-text n s l =
    ap (λ (z : List ℕ). z ++ text "</LINEA>\n") (sym (coords-are n s l))
    ∙ ap (λ (z : List ℕ). text "<COORD>" ++ z) (append_assoc (spaced_text 0 s) (text "</COORD>") (text "</LINEA>\n"))
