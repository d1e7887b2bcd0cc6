-- The element of a line, part behind part; o, c and v are counts that the code read: document 02, T-11. Assumes nothing.
use Prim.Native.Nat.{ℕ, ◌+◌, ◌*◌, ◌/◌, ◌≤◌, ◌<◌}
use mathlib.Core.Path.{◌≡◌, refl, sym, ◌∙◌, ap}
use mathlib.Core.List.{List, [], ◌++◌}
use mathlib.Core.Bool.{Bool, true, false, cond}
use native.Mathlib.Omega.{arith}
use lib.ListN.{length, take, length-append}
use lib.Seq.{length-take-le}
use lib.Dec.{eqb}
use lib.IntN.{ℤ}
use borrow.Author.Tests.{eq-eqb, ne_eqb, eqb-true}
use Rattle.laws.specs.Text.{text}
use Rattle.spelling.specs.Stored.{Stored}
use Rattle.spelling.specs.Spelling.{digits, count_text}
use Rattle.spelling.proofs.DigitLaws.{digits-most}
use Rattle.kinds.specs.Kinds.{code_place, vertices_place}
use Rattle.sheet.specs.Tables.{Tables}
use Rattle.made.specs.Made.{tables_of, are_reals}
use Rattle.row.specs.Walk.{cell_in}
use Rattle.writer.specs.Put.{Put}
use Rattle.writer.proofs.Putting.{Putting, putting-start, putting-room, putting-on, stored_on, stored_last}
use Rattle.cml.specs.Element.{Polyline, outside_word, opening, start_tag, element_text}
use Rattle.cml.specs.Lines.{line_kind, polyline_of}
use Rattle.cml.specs.Spaced.{spaced_text, row_element, Drawn}
use Rattle.cml.proofs.CoordLaws.{points-text}
use Rattle.cml.proofs.PairWays.{put-none, count-size, pairs-most}

-- ---- up to the code

pub opening-out : (o : ℕ) → o ≡ 1 → opening o ≡ text "<LINEA valenza=\"CONSOLID\" esterconf=\"SI\" cod=\""
unfolding opening outside_word
opening-out o e = rw (eq-eqb o 1 e)

pub opening-in : (o : ℕ) → (o ≡ 1 → ⊥) → opening o ≡ text "<LINEA valenza=\"CONSOLID\" esterconf=\"NO\" cod=\""
unfolding opening outside_word
opening-in o e = rw (ne_eqb o 1 e)

opening-length : (o : ℕ) → length (opening o) ≡ 46
unfolding opening outside_word
opening-length o = go (eqb o 1)
  where
    go : (t : Bool) → length (text "<LINEA valenza=\"CONSOLID\" esterconf=\"" ++ (cond t (text "SI") (text "NO") ++ text "\" cod=\"")) ≡ 46
    go true = refl
    go false = refl

-- ---- the start tag

abbrev counted : List ℕ
counted = text "\" n.vert=\""

abbrev ended : List ℕ
ended = text "\">"

module _ (o c n : ℕ) where
  tag-length : length (start_tag o c n) ≡ 58 + length (count_text c) + length (count_text n)
  unfolding start_tag
  tag-length =
      omega (
        arith,
        length-append (opening o) (count_text c ++ (counted ++ (count_text n ++ ended))),
        opening-length o,
        length-append (count_text c) (counted ++ (count_text n ++ ended)),
        length-append (count_text n) ended,
      )

  module _ (l : List ℕ) (at : ℕ) (room : at + length (start_tag o c n) ≤ length l) where
    tag-start : Putting l at (start_tag o c n) l at (opening o ++ (count_text c ++ (counted ++ (count_text n ++ ended))))
    unfolding start_tag
    tag-start = putting-start l at (start_tag o c n) room

    pub opening-room : at + length (opening o) ≤ length l
    opening-room = putting-room tag-start (opening o) (count_text c ++ (counted ++ (count_text n ++ ended))) refl

    pub tag-put : {d₁ d₂ d₃ d₄ d₅ : List ℕ} {n₁ n₂ n₃ n₄ n₅ : ℕ} → Put l at (opening o) d₁ n₁ → Stored d₁ n₁ (count_text c) d₂ n₂ → Stored d₂ n₂ counted d₃ n₃
        → Stored d₃ n₃ (count_text n) d₄ n₄ → Stored d₄ n₄ ended d₅ n₅ → Put l at (start_tag o c n) d₅ n₅
    tag-put p₁ p₂ p₃ p₄ p₅ =
        let q₁ = putting-on tag-start (opening o) (count_text c ++ (counted ++ (count_text n ++ ended))) refl p₁ in
        let q₂ = stored_on q₁ (count_text c) (counted ++ (count_text n ++ ended)) refl p₂ in
        let q₃ = stored_on q₂ counted (count_text n ++ ended) refl p₃ in
        let q₄ = stored_on q₃ (count_text n) ended refl p₄ in
        stored_last q₄ p₅

-- ---- the element

abbrev begun : List ℕ
begun = text "<COORD>"

abbrev closed : List ℕ
closed = text "</COORD></LINEA>\n"

module _ (rows points : List ℤ) (g : Drawn rows points) where
  abbrev t : Tables
  t = tables_of rows [] [] points

  abbrev a : Polyline
  a = polyline_of t

  abbrev n : ℕ
  n = cell_in rows vertices_place

  abbrev tag : List ℕ
  tag = start_tag (cell_in rows 1) (cell_in rows code_place) n

  abbrev s : List ℤ
  s = take (2 * n) points

  points-count : length s ≡ 2 * n
  points-count = length-take-le (2 * n) points g.held

  -- what the functions that write and measure the points ask
  pub vertices-asks : {v : ℕ} → v ≡ n → (v ≤ 9999) × (length (take (2 * v) points) ≡ 2 * v) × (are_reals (take (2 * v) points) ≡ true)
  vertices-asks e = rw e (g.vertices-most, points-count, g.reals)

  abbrev coords : List ℕ
  coords = begun ++ (spaced_text 0 s ++ closed)

  module _ (k : cell_in rows 0 ≡ line_kind) where
    element-is : element_text a ≡ tag ++ coords
    unfolding element_text
    element-is =
        let v : length s / 2 ≡ n = omega (arith, points-count) in
        rw (v, points-text n s points-count)

    -- ---- its size: the digits of code and count, and its points

    module _ {x c v m p : ℕ} (ex : x ≡ cell_in rows code_place) (ec : c ≡ length (digits 8 x)) (ev : v ≡ n) (em : m ≡ length (digits 8 v))
        (ep : p ≡ length (spaced_text 0 (take (2 * v) points))) where
      code-size : c ≡ length (count_text (cell_in rows code_place))
      code-size = ec ∙ rw ex (count-size (cell_in rows code_place) (g.code-most k))

      vertices-size : m ≡ length (count_text n)
      vertices-size = em ∙ rw ev (count-size n g.vertices-most)

      points-size : p ≡ length (spaced_text 0 s)
      points-size = ep ∙ rw ev

      pub element-size : 82 + c + m + p ≡ length (element_text a)
      element-size =
          omega (
            arith,
            ap length element-is,
            length-append tag coords,
            tag-length (cell_in rows 1) (cell_in rows code_place) n,
            length-append (spaced_text 0 s) closed,
            code-size,
            vertices-size,
            points-size,
          )

      pub element-sum : 82 + c + m + p ≤ 98 + 28 * n
      element-sum =
          omega (
            arith,
            ec,
            em,
            points-size,
            digits-most 8 x,
            digits-most 8 v,
            pairs-most n s n 0 points-count (omega arith) g.reals,
            g.vertices-most,
          )

    -- ---- its text

    module _ (l : List ℕ) (at : ℕ) (room : at + length (element_text a) ≤ length l) {o c v : ℕ} (eo : o ≡ cell_in rows 1) (ec : c ≡ cell_in rows code_place) (ev : v ≡ n) where
      line-start : Putting l at (element_text a) l at (tag ++ coords)
      line-start = rw element-is (putting-start l at (tag ++ coords) (rw element-is at room))

      pub tag-room : at + length (start_tag o c v) ≤ length l
      tag-room = rw (eo, ec, ev) (putting-room line-start tag coords refl)

      module _ {d₁ d₂ : List ℕ} {n₁ n₂ : ℕ} (p₁ : Put l at (start_tag o c v) d₁ n₁) (p₂ : Stored d₁ n₁ begun d₂ n₂) where
        pairing : Putting l at (element_text a) d₂ n₂ (spaced_text 0 s ++ closed)
        pairing = stored_on (putting-on line-start tag coords refl (rw (eo, ec, ev) at p₁)) begun (spaced_text 0 s ++ closed) refl p₂

        pub pairs-room : n₂ + length (spaced_text 0 (take (2 * v) points)) ≤ length d₂
        pairs-room = rw ev (putting-room pairing (spaced_text 0 s) closed refl)

        pub element-put : {d₃ d₄ : List ℕ} {n₃ n₄ : ℕ} → Put d₂ n₂ (spaced_text 0 (take (2 * v) points)) d₃ n₃ → Stored d₃ n₃ closed d₄ n₄ → Put l at (element_text a) d₄ n₄
        element-put p₃ p₄ = stored_last (putting-on pairing (spaced_text 0 s) closed refl (rw ev at p₃)) p₄

  -- ---- if the row is a line

  module _ {k : ℕ} (e : k ≡ cell_in rows 0) where
    module _ (f : k ≡ line_kind) where
      pub is-line : cell_in rows 0 ≡ line_kind
      is-line = sym e ∙ f

      row_line : row_element t ≡ element_text a
      unfolding row_element
      row_line = rw (eq-eqb (cell_in rows 0) line_kind is-line)

      pub row_room : (at size : ℕ) → at + length (row_element t) ≤ size → at + length (element_text a) ≤ size
      row_room at size h = rw row_line at h

      pub row_put : {l d : List ℕ} {at r : ℕ} → Put l at (element_text a) d r → Put l at (row_element t) d r
      row_put p = rw row_line p

      pub row_sized : {r : ℕ} → r ≡ length (element_text a) → r ≡ length (row_element t)
      row_sized q = q ∙ ap length (sym row_line)

    module _ (f : k ≡ line_kind → ⊥) where
      row-none : row_element t ≡ []
      unfolding row_element
      row-none = rw (ne_eqb (cell_in rows 0) line_kind (λ q. f (e ∙ q)))

      pub row-put-none : (l : List ℕ) (at : ℕ) → Put l at (row_element t) l at
      row-put-none l at = rw row-none (put-none l at)

      pub row-size-none : 0 ≡ length (row_element t)
      row-size-none = rw row-none

  -- ---- and at most so long

  pub element-most : length (row_element t) ≤ 98 + 28 * n
  unfolding row_element
  element-most = go (eqb (cell_in rows 0) line_kind) refl
    where
      go : (x : Bool) → eqb (cell_in rows 0) line_kind ≡ x → length (cond x (element_text a) []) ≤ 98 + 28 * n
      go true f = let k = eqb-true (cell_in rows 0) line_kind f in omega (arith, element-size k refl refl refl refl refl, element-sum k refl refl refl refl refl)
      go false f = omega arith
