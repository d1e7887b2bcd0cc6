-- No listing is longer than the array that holds it, and what is written lies in the buffer. Assumes nothing.
use Prim.Native.Nat.{ℕ, ◌+◌, ◌*◌, ◌≤◌}
use mathlib.Core.Path.{◌≡◌, refl, sym, ◌∙◌, ap}
use mathlib.Core.List.{List, [], ◌∷◌, ◌++◌}
use mathlib.Core.Bool.{Bool, true, false, cond, not, ◌&&◌, ◌||◌}
use Rattle.std.specs.Prelude.{Result, Ok, Err}
use native.Mathlib.Omega.{arith}
use lib.ListN.{length, drop, length-append}
use lib.Dec.{leb, eqb}
use lib.IntN.{ℤ, pos}
use lib.Signed.{lt_z, le_z}
use borrow.Author.Tests.{eqb-true}
use Rattle.laws.specs.Lists.{same, all_at, over}
use Rattle.laws.specs.Text.{text}
use Rattle.laws.proofs.Choice.{and_left, and_right, cond-elim}
use Rattle.record.specs.Refusals as Refusals
use Rattle.record.specs.declared.Mode.TheVariants.{Loose}
use Rattle.number.specs.Number.{real_most}
use Rattle.spelling.specs.Spelling.{count_text}
use Rattle.spelling.proofs.DigitLaws.{digits-most}
use Rattle.heading.specs.declared.Header.{Header}
use Rattle.heading.specs.Heading.{name_byte, is_name, is_header}
use Rattle.sheet.specs.Tables.{Tables, row_count}
use Rattle.sheet.specs.Reading.{Reading, sheet, refused, reading}
use Rattle.sheet.proofs.Meaning.{reading-meaning}
use Rattle.made.specs.Made.{nat_of}
use Rattle.layout.proofs.ReadMade.{reading-made}
use Rattle.tally.specs.Take.{tally_of, number_of, row_of}
use Rattle.reader.specs.Columns.{reading_column}
use Rattle.listing.specs.Listing.{one_blank, figure, figures, word_line, map_line, class_words, four_of, class_lines, rows_line, refused_line, sheet_lines, tallied_text, sheet_listing, read_text, input_most, listing_of}
use Rattle.listing.specs.Listed.{listed_of, listed_in, text_most}
use Rattle.listing.specs.declared.NoRoom.{NoRoom}

-- ---- lines

count_most : (n : ℕ) → length (count_text n) ≤ 20
unfolding count_text
count_most n = digits-most 20 n

pub figure-most : (n : ℕ) → length (figure n) ≤ 21
figure-most n = omega (arith, length-append one_blank (count_text n), count_most n)

figures-most : (s : List ℕ) → length (figures s) ≤ 21 * length s + 1
unfolding figures
figures-most [] = omega arith
figures-most (n ∷ s) = omega (arith, figures-most s, figure-most n, length-append (figure n) (figures s))

line-most : (w s : List ℕ) → length (word_line w s) ≤ length w + 21 * length s + 1
unfolding word_line
line-most w s = omega (arith, figures-most s, length-append w (figures s))

pub refused-most : (number place offset column : ℕ) → length (refused_line number place offset column) ≤ text_most
unfolding refused_line
refused-most number place offset column = omega (arith, line-most (text "REFUSED") (number ∷ place ∷ offset ∷ column ∷ []))

rows-most : (n : ℕ) → length (rows_line n) ≤ 26
unfolding rows_line
rows-most n = omega (arith, line-most (text "ROWS") (n ∷ []))

map-most : (h : Header) → length h.name ≡ 11 → length (map_line h) ≤ 58
unfolding map_line
map-most h e =
    let scale = figures (nat_of h.scale ∷ []) in
    omega (
      arith,
      length-append (text "MAP") (figure h.kind ++ (one_blank ++ (h.name ++ scale))),
      length-append (figure h.kind) (one_blank ++ (h.name ++ scale)),
      length-append one_blank (h.name ++ scale),
      length-append h.name scale,
      figure-most h.kind,
      figures-most (nat_of h.scale ∷ []),
    )

four-long : (f : List ℤ) (k : ℕ) → length (four_of f k) ≡ 4
unfolding four_of
four-long f k = refl

class-most : (w : List ℕ) (f : List ℤ) (k : ℕ) → length (word_line w (four_of f k)) ≤ length w + 85
class-most w f k = omega (arith, line-most w (four_of f k), four-long f k)

classes-most : (f : List ℤ) → length (class_lines 0 class_words f) ≤ 545
unfolding class_lines class_words
classes-most f =
    let l₀ = word_line (text "CONFINE") (four_of f 0) in
    let l₁ = word_line (text "OTHER") (four_of f 1) in
    let l₂ = word_line (text "ROAD") (four_of f 2) in
    let l₃ = word_line (text "WATER") (four_of f 3) in
    let l₄ = word_line (text "BUILDING") (four_of f 4) in
    let l₅ = word_line (text "PARCEL") (four_of f 5) in
    omega (
      arith,
      length-append l₀ (l₁ ++ (l₂ ++ (l₃ ++ (l₄ ++ (l₅ ++ []))))),
      length-append l₁ (l₂ ++ (l₃ ++ (l₄ ++ (l₅ ++ [])))),
      length-append l₂ (l₃ ++ (l₄ ++ (l₅ ++ []))),
      length-append l₃ (l₄ ++ (l₅ ++ [])),
      length-append l₄ (l₅ ++ []),
      length-append l₅ [],
      class-most (text "CONFINE") f 0,
      class-most (text "OTHER") f 1,
      class-most (text "ROAD") f 2,
      class-most (text "WATER") f 3,
      class-most (text "BUILDING") f 4,
      class-most (text "PARCEL") f 5,
    )

-- ---- the text

lines-most : (h : Header) (count : ℕ) (f : List ℤ) → length h.name ≡ 11 → length (sheet_lines h count f) ≤ text_most
unfolding sheet_lines
lines-most h count f e =
    omega (
      arith,
      length-append (map_line h) (class_lines 0 class_words f ++ rows_line count),
      length-append (class_lines 0 class_words f) (rows_line count),
      map-most h e,
      classes-most f,
      rows-most count,
    )

pub sheet-most : (h : Header) (count : ℕ) (o : Tables) → length h.name ≡ 11 → length (sheet_listing h count o) ≤ text_most
unfolding sheet_listing tallied_text
sheet-most h count o e =
    let t = tally_of h count o in
    cond-elim (λ (s : List ℕ). length s ≤ text_most) (eqb (number_of t.outcome) 0) (sheet_lines h count t.tally.figures) (refused_line (number_of t.outcome) (row_of t.outcome) 0 0)
    (λ _. lines-most h count t.tally.figures e)
    (λ _. refused-most (number_of t.outcome) (row_of t.outcome) 0 0)

-- a header that was read has a name of 11 bytes
pub name-long : (bs : List ℕ) (h : Header) (o : Tables) → reading Loose bs ≡ sheet h o → length h.name ≡ 11
unfolding is_header is_name
name-long bs h o q =
    let r = (reading-made Loose bs h o (reading-meaning Loose bs h o q).1).0 in
    let k = leb 1 h.kind && leb h.kind 3 in
    let n = eqb (length h.name) 11 && all_at name_byte 0 h.name && (not (eqb h.kind 3) || same (drop 9 h.name) (text "QU")) in
    let z = lt_z (pos 0) h.scale in
    let named = and_right k n (and_left (k && n) z (and_left (k && n && z) (le_z h.scale real_most) r)) in
    eqb-true (length h.name) 11
    (and_left (eqb (length h.name) 11) (all_at name_byte 0 h.name)
    (and_left (eqb (length h.name) 11 && all_at name_byte 0 h.name) (not (eqb h.kind 3) || same (drop 9 h.name) (text "QU")) named))

pub read-most : (bs : List ℕ) → length (read_text (reading_column Loose bs) (reading Loose bs)) ≤ text_most
read-most bs = by (reading Loose bs) refl
  where
    by : (x : Reading) → reading Loose bs ≡ x → length (read_text (reading_column Loose bs) x) ≤ text_most
    by (sheet h o) q = sheet-most h (row_count o) o (name-long bs h o q)
    by (refused m k at) q = refused-most (Refusals.number_of m) k at (reading_column Loose bs)

-- **no listing is longer than 640 bytes**
pub listing-most : (bs : List ℕ) → length (listing_of bs) ≤ text_most
unfolding listing_of
listing-most bs =
    cond-elim (λ (s : List ℕ). length s ≤ text_most) (leb (length bs) input_most) (read_text (reading_column Loose bs) (reading Loose bs)) (refused_line 1 0 0 0) (λ _. read-most bs) (λ _. refused-most 1 0 0 0)

-- what is written lies in the buffer
pub wrote-within : (s l d : List ℕ) (x : Result ℕ NoRoom) → x ≡ listed_of s (length l) → d ≡ listed_in x s l → (n : ℕ) → x ≡ Ok n → n ≤ length d
unfolding listed_of
wrote-within s l d x e w n q = go (leb (length s) (length l)) (sym e ∙ q)
  where
    held : d ≡ over s l
    held = w ∙ rw q

    go : (b : Bool) → cond {A = Result ℕ NoRoom} b (Ok (length s)) (Err (record { 0 = length s })) ≡ Ok n → n ≤ length d
    go true f = let z : length s ≡ n = cc in omega (arith, z, ap length held, length-append s (drop (length s) l))
    go false f = absurd cc
