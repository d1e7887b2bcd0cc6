-- The lines as they are stored, piece behind piece. Assumes nothing.
use Prim.Native.Nat.{ℕ, ◌+◌, ◌*◌, ◌≤◌, ◌<◌}
use mathlib.Core.Path.{◌≡◌, refl, sym, ap, subst}
use mathlib.Core.List.{List, [], ◌∷◌, ◌++◌}
use native.Mathlib.Omega.{arith}
use lib.ListN.{length, get_or, drop}
use lib.IntN.{ℤ}
use Rattle.laws.specs.Text.{text}
use Rattle.laws.proofs.ListLaws.{left, left-none}
use Rattle.spelling.specs.Stored.{Stored}
use Rattle.spelling.specs.Spelling.{count_text}
use Rattle.heading.specs.declared.Header.{Header}
use Rattle.made.specs.Made.{nat_of}
use Rattle.writer.specs.Put.{Put}
use Rattle.writer.proofs.Putting.{Putting, putting-start, putting-room, putting-on, putting-end, stored_on, stored_last}
use Rattle.listing.specs.Listing.{one_blank, line_feed, figure, figures, word_line, map_line, class_words, figure_at, four_of, class_line, class_lines, rows_line, refused_line, sheet_lines}

-- ---- a figure

pub figure-put : (l : List ℕ) (at n : ℕ) → at + length (figure n) ≤ length l → {d e : List ℕ} {next r : ℕ} → Stored l at one_blank d next
    → Stored d next (count_text n) e r → Put l at (figure n) e r
figure-put l at n room v w = stored_last (stored_on (putting-start l at (figure n) room) one_blank (count_text n) refl v) w

-- ---- the figures of a line

module _ (s : List ℕ) (i : ℕ) where
  pub figures-on : i < length s → figures (drop i s) ≡ figure (get_or s i 0) ++ figures (drop (i + 1) s)
  unfolding figures
  figures-on h = rw (left s i 0 h)

  pub figures-end : length s ≤ i → figures (drop i s) ≡ line_feed
  unfolding figures
  figures-end h = rw (left-none s i h)

-- ---- a line

module _ (l : List ℕ) (at : ℕ) (word s : List ℕ) (room : at + length (word_line word s) ≤ length l) where
  pub line-start : Putting l at (word_line word s) l at (word ++ figures s)
  unfolding word_line
  line-start = putting-start l at (word_line word s) room

-- the same figures, and the line of them
pub one-is : {a b : ℕ} → a ≡ b → a ∷ [] ≡ b ∷ []
one-is e = ap (λ (n : ℕ). n ∷ []) e

pub figures-room : {s t : List ℕ} → s ≡ t → (at size : ℕ) → at + length (figures t) ≤ size → at + length (figures s) ≤ size
figures-room e at size h = subst (λ (x : List ℕ). at + length (figures x) ≤ size) (sym e) h

pub figures-put : {s t : List ℕ} → s ≡ t → {l d : List ℕ} {at r : ℕ} → Put l at (figures s) d r → Put l at (figures t) d r
figures-put e {l} {d} {at} {r} p = subst (λ (x : List ℕ). Put l at (figures x) d r) e p

pub line-room : (word : List ℕ) {s t : List ℕ} → s ≡ t → (at size : ℕ) → at + length (word_line word t) ≤ size → at + length (word_line word s) ≤ size
line-room word e at size h = subst (λ (x : List ℕ). at + length (word_line word x) ≤ size) (sym e) h

pub line-put : (word : List ℕ) {s t : List ℕ} → s ≡ t → {l d : List ℕ} {at r : ℕ} → Put l at (word_line word s) d r → Put l at (word_line word t) d r
line-put word e {l} {d} {at} {r} p = subst (λ (x : List ℕ). Put l at (word_line word x) d r) e p

-- ---- the line of a refusal

pub refused-room : (number place offset column size : ℕ) → length (refused_line number place offset column) ≤ size
    → 0 + length (word_line (text "REFUSED") (number ∷ place ∷ offset ∷ column ∷ [])) ≤ size
unfolding refused_line
refused-room number place offset column size h = omega (arith, h)

-- ---- the line of a map

module _ (l : List ℕ) (h : Header) (room : length (map_line h) ≤ length l) where
  abbrev scale : List ℕ
  scale = figures (nat_of h.scale ∷ [])

  pub map-start : Putting l 0 (map_line h) l 0 (text "MAP" ++ (figure h.kind ++ (one_blank ++ (h.name ++ scale))))
  unfolding map_line
  map-start = putting-start l 0 (map_line h) (omega (arith, room))

  pub map-kind : {d : List ℕ} {n : ℕ} → Stored l 0 (text "MAP") d n → Putting l 0 (map_line h) d n (figure h.kind ++ (one_blank ++ (h.name ++ scale)))
  map-kind w = stored_on map-start (text "MAP") (figure h.kind ++ (one_blank ++ (h.name ++ scale))) refl w

  module _ {d : List ℕ} {n : ℕ} (w : Stored l 0 (text "MAP") d n) {e : List ℕ} {m : ℕ} (k : Put d n (figure h.kind) e m) where
    pub map-blank : Putting l 0 (map_line h) e m (one_blank ++ (h.name ++ scale))
    map-blank = putting-on (map-kind w) (figure h.kind) (one_blank ++ (h.name ++ scale)) refl k

    pub map-name : {f : List ℕ} {i : ℕ} → Stored e m one_blank f i → Putting l 0 (map_line h) f i (h.name ++ scale)
    map-name b = stored_on map-blank one_blank (h.name ++ scale) refl b

    pub map-scale : {f : List ℕ} {i : ℕ} → Stored e m one_blank f i → {g : List ℕ} {j : ℕ} → Stored f i h.name g j → Putting l 0 (map_line h) g j scale
    map-scale b p = stored_on (map-name b) h.name scale refl p

-- ---- the lines of the classes

-- those from class k on
abbrev pub classes_from : ℕ → List ℤ → List ℕ
classes_from k f = class_lines k (drop k class_words) f

classes-six : length class_words ≡ 6
unfolding class_words
classes-six = refl

class-next : (k : ℕ) (f : List ℤ) → k < 6 → classes_from k f ≡ class_line f k ++ classes_from (k + 1) f
unfolding class_lines
class-next k f h = rw (left class_words k [] (omega (arith, classes-six)))

pub four_is : (f : List ℤ) (k a b c d : ℕ) → a ≡ figure_at f (4 * k) → b ≡ figure_at f (4 * k + 1) → c ≡ figure_at f (4 * k + 2) → d ≡ figure_at f (4 * k + 3)
    → a ∷ b ∷ c ∷ d ∷ [] ≡ four_of f k
unfolding four_of
four_is f k a b c d p q r s = rw (p, q, r, s)

module _ (f : List ℤ) (k : ℕ) (h : k < 6) {l : List ℕ} {at : ℕ} {s d : List ℕ} {n : ℕ} (p : Putting l at s d n (classes_from k f)) where
  pub class-room : n + length (class_line f k) ≤ length d
  class-room = putting-room p (class_line f k) (classes_from (k + 1) f) (class-next k f h)

  pub class-on : {e : List ℕ} {m : ℕ} → Put d n (class_line f k) e m → Putting l at s e m (classes_from (k + 1) f)
  class-on w = putting-on p (class_line f k) (classes_from (k + 1) f) (class-next k f h) w

pub classes-end : (f : List ℤ) (k : ℕ) → 6 ≤ k → k ≤ 6 → {l : List ℕ} {at : ℕ} {s d : List ℕ} {n : ℕ} → Putting l at s d n (classes_from k f) → Put l at s d n
unfolding class_lines class_words
classes-end f k h j p = let e : k ≡ 6 = omega arith in putting-end p (rw e)

-- ---- the lines of a sheet

module _ (l : List ℕ) (h : Header) (count : ℕ) (f : List ℤ) (room : length (sheet_lines h count f) ≤ length l) where
  pub sheet-start : Putting l 0 (sheet_lines h count f) l 0 (map_line h ++ (classes_from 0 f ++ rows_line count))
  unfolding sheet_lines
  sheet-start = putting-start l 0 (sheet_lines h count f) (omega (arith, room))

  pub sheet-map : length (map_line h) ≤ length l
  sheet-map = omega (arith, putting-room sheet-start (map_line h) (classes_from 0 f ++ rows_line count) refl)

  pub sheet-classes : {d : List ℕ} {n : ℕ} → Put l 0 (map_line h) d n → Putting l 0 (sheet_lines h count f) d n (classes_from 0 f ++ rows_line count)
  sheet-classes w = putting-on sheet-start (map_line h) (classes_from 0 f ++ rows_line count) refl w

  pub sheet-rows : {d : List ℕ} {n : ℕ} → Put l 0 (map_line h) d n → {e : List ℕ} {m : ℕ} → Put d n (classes_from 0 f) e m
      → Putting l 0 (sheet_lines h count f) e m (word_line (text "ROWS") (count ∷ []))
  unfolding rows_line
  sheet-rows w k = putting-on (sheet-classes w) (classes_from 0 f) (rows_line count) refl k
