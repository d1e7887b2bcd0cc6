-- The ways through the functions that store lines: each field behind the last. Assumes nothing.
use Prim.Native.Nat.{ℕ, zero, suc, ◌+◌, ◌-◌, ◌*◌, ◌^◌, ◌≤◌, ◌<◌}
use mathlib.Core.Path.{◌≡◌, refl, sym, ◌∙◌, ap, subst}
use mathlib.Core.List.{List, [], ◌∷◌, ◌++◌, append_assoc}
use mathlib.Core.Bool.{Bool, true, cond, ◌&&◌}
use native.Mathlib.Omega.{arith}
use lib.ListN.{length, get_or, take, drop, replicate, length-append, length-take, length-drop, length-replicate, replicate-append-replicate}
use lib.Seq.{take_at, drop-drop, length-take-le}
use lib.Dec.{leb}
use lib.IntN.{ℤ, pos}
use lib.Signed.{mag}
use mir.Syntax.{w64}
use mir.Val.{to_z, of_z}
use borrow.Author.Tests.{le-leb}
use Rattle.laws.specs.Lists.{tail, over}
use Rattle.laws.proofs.Bits.{back}
use Rattle.laws.proofs.Choice.{and_left, and_right}
use Rattle.laws.proofs.ListLaws.{rest-is, left, left-none}
use Rattle.spelling.specs.Stored.{Stored}
use Rattle.spelling.specs.Spelling.{aligned}
use Rattle.spelling.specs.Figures.{is_narrow, figure_text}
use Rattle.spelling.proofs.FigureLaws.{figure-length}
use Rattle.writer.specs.Put.{Put}
use Rattle.writer.proofs.Putting.{Putting, putting-start, putting-room, putting-on, stored_on, stored_last, put-part}
use Rattle.sup.specs.Lines.{left_field, fields_line, date_text}
use Rattle.sup.specs.Printing.{are_narrow, named_text}

-- ---- the left field

-- a part of eleven blanks
pub blanks-part : (k : ℕ) → k ≤ 11 → take {A = ℕ} k (replicate 11 32) ≡ replicate k 32
blanks-part k h =
    let f : 11 ≡ k + (11 - k) = omega arith in
    ap (λ (m : ℕ). take {A = ℕ} k (replicate m 32)) f
    ∙ rw (← replicate-append-replicate {A = ℕ} k (11 - k) 32) (take_at (replicate k 32) (replicate (11 - k) 32) k (length-replicate {A = ℕ} k 32))

pub blank-size : (n : ℕ) → 11 - n ≡ length (take {A = ℕ} (11 - n) (replicate 11 32))
blank-size n = sym (length-take-le (11 - n) (replicate 11 32) (omega arith))

module _ (l : List ℕ) (at : ℕ) (name : List ℕ) (short : length name ≤ 11) (room : at + length (left_field name) ≤ length l) where
  abbrev pad : List ℕ
  pad = replicate (11 - length name) 32

  left-start : Putting l at (left_field name) l at (name ++ pad)
  unfolding left_field
  left-start = putting-start l at (left_field name) room

  pub left-done : {d : List ℕ} {n : ℕ} → Stored l at name d n → {e : List ℕ} {m : ℕ} → Stored d n (take {A = ℕ} (11 - length name) (replicate 11 32)) e m
      → Put l at (left_field name) e m
  left-done {d} {n} w {e} {m} b =
      stored_last (stored_on left-start name pad refl w) (subst (λ (x : List ℕ). Stored d n x e m) (blanks-part (11 - length name) (omega arith)) b)

-- ---- a line

abbrev ending : List ℕ
ending = 13 ∷ 10 ∷ []

module _ (l : List ℕ) (at : ℕ) (name right : List ℕ) (room : at + length (fields_line name right) ≤ length l) where
  line-start : Putting l at (fields_line name right) l at (left_field name ++ (right ++ ending))
  unfolding fields_line
  line-start =
      subst (λ (x : List ℕ). Putting l at (fields_line name right) l at x) (append_assoc (left_field name) right ending)
      (putting-start l at (fields_line name right) room)

  pub line-left : at + length (left_field name) ≤ length l
  line-left = putting-room line-start (left_field name) (right ++ ending) refl

  module _ {d : List ℕ} {n : ℕ} (w : Put l at (left_field name) d n) where
    pub line-right : Putting l at (fields_line name right) d n (right ++ ending)
    line-right = putting-on line-start (left_field name) (right ++ ending) refl w

    pub line_at : n ≤ length d
    line_at = omega (arith, line-right.room)

-- the figure is spelt in the part behind the left field
module _ (l : List ℕ) (at : ℕ) (name : List ℕ) (z : ℤ) (narrow : is_narrow z ≡ true)
    (room : at + length (fields_line name (figure_text z)) ≤ length l) {d : List ℕ} {n : ℕ} (w : Put l at (left_field name) d n) where
  figure-room : n + 12 ≤ length d
  figure-room =
      omega (arith, (line-right l at name (figure_text z) room w).room, length-append (figure_text z) ending, figure-length z narrow)

  pub figure-end : n + 10 ≤ length l
  figure-end = omega (arith, figure-room, (line-right l at name (figure_text z) room w).size)

module _ (l : List ℕ) (at : ℕ) (name : List ℕ) (z : ℤ) (narrow : is_narrow z ≡ true) (fits : mag z < 2 ^ 63)
    (room : at + length (fields_line name (figure_text z)) ≤ length l) {d : List ℕ} {n : ℕ} (w : Put l at (left_field name) d n)
    (r : Bool) (q : r ≡ (is_narrow (to_z w64 (of_z w64 z)) && leb 10 (length (tail d n)))) (e : List ℕ)
    (f : e ≡ cond r (over (figure_text (to_z w64 (of_z w64 z))) (tail d n)) (tail d n)) where
  pub line-ending : Putting l at (fields_line name (figure_text z)) (take n d ++ (e ++ drop (length d - n) (drop n d))) (n + 10) ending
  line-ending =
      let k : 10 ≤ length (tail d n) = rw (rest-is d n) (omega (arith, figure-room l at name z narrow room w, length-drop n d)) in
      let t : r ≡ true = q ∙ rw (back z fits, narrow, le-leb 10 (length (tail d n)) k) in
      let g : e ≡ over (figure_text z) (tail d n) = f ∙ rw (t, back z fits) in
      let p : Put d n (figure_text z) (take n d ++ (e ++ drop (length d - n) (drop n d))) (n + 10) = rw (← figure-length z narrow) (put-part d n (figure_text z) e g) in
      putting-on (line-right l at name (figure_text z) room w) (figure_text z) ending refl p

-- ---- the first line

module _ (l name date : List ℕ) (eight : length date ≡ 8) (room : length (fields_line name (date_text date)) ≤ length l) where
  date-is : date_text date ≡ 32 ∷ 32 ∷ date
  unfolding date_text aligned
  date-is = rw eight

  date-room : 0 + length (fields_line name (date_text date)) ≤ length l
  date-room = omega (arith, room)

  pub date-left : 0 + length (left_field name) ≤ length l
  date-left = line-left l 0 name (date_text date) date-room

  module _ {d : List ℕ} {n : ℕ} (w : Put l 0 (left_field name) d n) where
    date-right : Putting l 0 (fields_line name (date_text date)) d n ((32 ∷ 32 ∷ []) ++ (date ++ ending))
    date-right =
        subst (λ (x : List ℕ). Putting l 0 (fields_line name (date_text date)) d n x) (ap (λ (x : List ℕ). x ++ ending) date-is)
        (line-right l 0 name (date_text date) date-room w)

    pub date-done : {e : List ℕ} {m : ℕ} → Stored d n (32 ∷ 32 ∷ []) e m → {f : List ℕ} {k : ℕ} → Stored e m date f k → {g : List ℕ} {j : ℕ}
        → Stored f k ending g j → Put l 0 (fields_line name (date_text date)) g j
    date-done a b c = stored_last (stored_on (stored_on date-right (32 ∷ 32 ∷ []) (date ++ ending) refl a) date ending refl b) c

-- ---- lines one behind the other

module _ (names : List ℕ) (figures : List ℤ) (i : ℕ) where
  abbrev to_come : List ℕ
  to_come = named_text (drop (11 * i) names) (drop i figures)

  pub named-on : i < length figures
      → to_come ≡ fields_line (take 11 (drop (11 * i) names)) (figure_text (get_or figures i (pos 0))) ++ named_text (drop (11 * (i + 1)) names) (drop (i + 1) figures)
  unfolding named_text
  named-on h =
      let e : drop 11 (drop (11 * i) names) ≡ drop (11 * (i + 1)) names = drop-drop 11 (11 * i) names ∙ ap (λ (k : ℕ). drop k names) (let q : 11 * i + 11 ≡ 11 * (i + 1) = omega arith in q) in
      rw (left figures i (pos 0) h, e)

  pub named_end : length figures ≤ i → to_come ≡ []
  unfolding named_text
  named_end h = rw (left-none figures i h)

-- the name of line i, as the code cuts it out
module _ (names : List ℕ) (figures : List ℤ) (i : ℕ) (h : i < length figures) where
  abbrev piece : ℕ → List ℕ
  piece k = take k (drop (11 * i) names)

  piece_is : piece (11 * i + 11 - 11 * i) ≡ piece 11
  piece_is = ap piece (let e : 11 * i + 11 - 11 * i ≡ 11 = omega arith in e)

  pub piece-from : 11 * i ≤ 11 * i + 11
  piece-from = omega arith

  pub piece-to : length names ≡ 11 * length figures → 11 * i + 11 ≤ length names
  piece-to e = omega arith

  pub piece-short : length (piece (11 * i + 11 - 11 * i)) ≤ 11
  piece-short = subst (λ (x : List ℕ). length x ≤ 11) (sym piece_is) (omega (arith, length-take 11 (drop (11 * i) names)))

  module _ {l : List ℕ} {at : ℕ} {s d : List ℕ} {n : ℕ} (p : Putting l at s d n (to_come names figures i)) where
    abbrev line_with : List ℕ → List ℕ
    line_with x = fields_line x (figure_text (get_or figures i (pos 0)))

    abbrev behind : List ℕ
    behind = named_text (drop (11 * (i + 1)) names) (drop (i + 1) figures)

    pub piece-room : n + length (line_with (piece (11 * i + 11 - 11 * i))) ≤ length d
    piece-room =
        subst (λ (x : List ℕ). n + length (line_with x) ≤ length d) (sym piece_is) (putting-room p (line_with (piece 11)) behind (named-on names figures i h))

    pub piece-on : {e : List ℕ} {m : ℕ} → Put d n (line_with (piece (11 * i + 11 - 11 * i))) e m → Putting l at s e m behind
    piece-on {e} {m} w =
        putting-on p (line_with (piece 11)) behind (named-on names figures i h) (subst (λ (x : List ℕ). Put d n (line_with x) e m) piece_is w)

pub narrow_at : (s : List ℤ) (i : ℕ) → are_narrow s ≡ true → i < length s → is_narrow (get_or s i (pos 0)) ≡ true
unfolding are_narrow
narrow_at [] i e h = absurd (omega arith)
narrow_at (z ∷ s) zero e h = and_left (is_narrow z) (are_narrow s) e
narrow_at (z ∷ s) (suc i) e h = narrow_at s i (and_right (is_narrow z) (are_narrow s) e) (omega arith)
