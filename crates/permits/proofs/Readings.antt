-- What the contracts of `read_as`, `read` and `cxf_read`, as their sources write them, permit on some files: document 01, "Sheet tables"; document 02, T-04, T-05, T-07. Assumes nothing.
use Prim.Native.Nat.{ℕ}
use mathlib.Core.Path.{◌≡◌, refl, ◌∙◌, ap}
use mathlib.Core.List.{List, [], ◌∷◌, ◌++◌}
use lib.ListN.{length, drop, replicate}
use lib.IntN.{ℤ, pos, negsuc}
use contract.Lifetimes.{Lfts}
use borrow.Fn.World.{ArgsD, ResD}
use denote.Triple.Clauses.{AtExit}
use Rattle.laws.specs.Text.{text}
use Rattle.record.specs.declared.Mode.TheVariants.{Loose, Exact, Former}
use Rattle.record.specs.declared.refusal.Refusal.{Refusal}
use Rattle.heading.specs.declared.Header.{Header}
use Rattle.sheet.specs.Tables.{Tables}
use Rattle.sheet.specs.Reading.{sheet, reading}
use Rattle.sheet.specs.Examples.{listed, listed-is, scanned, scanned_header, scanned_tables, scanned-exact}
use Rattle.made.specs.Made.{tables_of}
use Rattle.reader.specs.declared.Needs.{Needs}
use Rattle.reader.specs.declared.Unread.TheVariants.{NoRoom}
use Rattle.reader.specs.Read.{Answer, Rooms, stopped_at, rooms_of, holds_all, read_with, refused_in, refused_with, read_of}
use Rattle.reader.specs.ExitExamples.{computed_column}
use Rattle.reader.specs.contracts.read_as as read_as
use Rattle.reader.proofs.read_as.Reads as read-as-reads
use Rattle.reader.specs.contracts.read as read
use Rattle.reader.proofs.read.Reads as read-reads
use Rattle.told.specs.Told.{read_told}
use Rattle.told.specs.Asked.{mode_of}
use Rattle.cabi.specs.contracts.cxf_read_default as cxf-read-default
use Rattle.cabi.proofs.cxf_read_default.Reads as cxf-read-default-reads
use Rattle.cabi.specs.contracts.cxf_read as cxf-read
use Rattle.cabi.proofs.cxf_read.Reads as cxf-read-reads

-- ---- the listing example of document 01: what it holds

abbrev pub header : Header
header = record { kind = 1; name = text "Z999_000100"; scale = pos 1000000 }

-- a border, and a text outside that says EOF, each with its starts
unfoldable pub rows_held : List ℤ
rows_held =
    pos 1 ∷ pos 0 ∷ pos 0 ∷ pos 18 ∷ pos 0 ∷ pos 1000 ∷ pos 1000 ∷ pos 1000 ∷ pos 1000 ∷ pos 1 ∷ pos 0 ∷ pos 5 ∷ pos 0 ∷ pos 0 ∷ pos 0 ∷
    pos 2 ∷ pos 1 ∷ pos 0 ∷ pos 18 ∷ pos 0 ∷ pos 3000 ∷ negsuc 4 ∷ pos 0 ∷ pos 0 ∷ pos 3 ∷ pos 0 ∷ pos 0 ∷ pos 1 ∷ pos 0 ∷ pos 5 ∷ []

unfoldable pub points_held : List ℤ
points_held = pos 0 ∷ pos 0 ∷ pos 10000 ∷ pos 0 ∷ pos 10000 ∷ pos 20000 ∷ pos 0 ∷ pos 20000 ∷ pos 0 ∷ pos 0 ∷ []

abbrev pub tables : Tables
tables = record { rows = rows_held; letters = text "7EOF"; islands = []; points = points_held }

abbrev pub needs : Needs
needs = record { rows = 2; letters = 4; islands = 0; points = 5 }

pub is : reading Loose listed ≡ sheet header tables
unfolding rows_held points_held
is = listed-is

-- ---- the answers, computed

-- RIFERIMENTO_RASTER with a final backslash where a keyword is due
abbrev pub raster : List ℕ
raster = text "MAPPA\nZ999_000100\n1000.000\nRIFERIMENTO_RASTER\\\n"

-- a byte behind the EOF record
abbrev pub tailed : List ℕ
tailed = text "MAPPA\r\nZ999_000100\r\n    1000.000\r\nEOF\r\nx"

-- a fourth decimal in the scale
abbrev pub bad_scale : List ℕ
bad_scale = text "MAPPA\nZ999_000100\n1000.0000\n"

-- a note behind the scale of a map without elements
abbrev pub noted : List ℕ
noted = text "MAPPA\nZ999_000100\n1000.000 x\nEOF"

abbrev pub its_sheet : Answer
its_sheet = read_with needs header

-- tables with room to spare, tables that are just long enough, and a row table one number short
spare : read_of Loose listed (rooms_of 45 6 1 11) ≡ its_sheet
unfolding read_of holds_all rows_held points_held
spare = rw is refl

enough : read_of Loose listed (rooms_of 30 4 0 10) ≡ its_sheet
unfolding read_of holds_all rows_held points_held
enough = rw is refl

short : read_of Loose listed (rooms_of 29 6 1 11) ≡ refused_with (NoRoom needs)
unfolding read_of holds_all rows_held points_held
short = rw is refl

-- a scanned sheet, in tables that are just long enough
abbrev pub scanned_needs : Needs
scanned_needs = record { rows = 2; letters = 22; islands = 0; points = 6 }

abbrev pub its_scan : Answer
its_scan = read_with scanned_needs scanned_header

scanned-read : read_of Exact scanned (rooms_of 30 22 0 12) ≡ its_scan
unfolding read_of holds_all scanned_tables
scanned-read = rw scanned-exact refl

scanned-short : read_of Exact scanned (rooms_of 29 22 0 12) ≡ refused_with (NoRoom scanned_needs)
unfolding read_of holds_all scanned_tables
scanned-short = rw scanned-exact refl

-- a refused file, whatever the tables
refused-raster : (x : Rooms) → read_of Loose raster x ≡ refused_in 0 (stopped_at Refusal.Keyword 4 27)
unfolding read_of computed_column
refused-raster x = refl

refused-tailed : (x : Rooms) → read_of Exact tailed x ≡ refused_in 0 (stopped_at Refusal.AfterEof 5 39)
unfolding read_of computed_column
refused-tailed x = refl

refused-listed : (x : Rooms) → read_of Exact listed x ≡ refused_in 0 (stopped_at Refusal.LineEnd 1 0)
unfolding read_of listed computed_column
refused-listed x = refl

refused-scale : (x : Rooms) → read_of Loose bad_scale x ≡ refused_in 9 (stopped_at Refusal.Number 3 18)
unfolding read_of computed_column
refused-scale x = refl

refused-noted : (x : Rooms) → read_of Loose noted x ≡ refused_in 10 (stopped_at Refusal.Number 3 18)
unfolding read_of computed_column
refused-noted x = refl

abbrev pub no_elements : Answer
no_elements = read_with (record { rows = 0; letters = 0; islands = 0; points = 0 }) header

noted-former : read_of Former noted (rooms_of 0 0 0 0) ≡ no_elements
unfolding read_of holds_all computed_column
noted-former = refl

-- ---- the four tables together

pub four : {t u : Tables} → t.rows ≡ u.rows → t.letters ≡ u.letters → t.islands ≡ u.islands → t.points ≡ u.points → t ≡ u
four p q r s i = record { rows = p i; letters = q i; islands = r i; points = s i }

-- tables that hold the example, and then the rest as it was
abbrev pub holding : Tables → Tables
holding t =
    record { rows = rows_held ++ drop 30 t.rows; letters = text "7EOF" ++ drop 4 t.letters; islands = t.islands; points = points_held ++ drop 10 t.points }

abbrev pub holding_scan : Tables → Tables
holding_scan t =
    record {
      rows = scanned_tables.rows ++ drop 30 t.rows;
      letters = scanned_tables.letters ++ drop 22 t.letters;
      islands = t.islands;
      points = scanned_tables.points ++ drop 12 t.points;
    }

-- ---- `read_as`

module _ (κs : Lfts 5) (a : ArgsD read_as.signature κs) (r : ResD read_as.signature κs) (e : AtExit read_as.ended κs) (post : read-as-reads.Learnt κs a r e) where
  -- the tables as they are lent, and at exit
  abbrev pub lent : Tables
  lent = tables_of a.1.1.0.now a.1.1.1.0.now a.1.1.1.1.0.now a.1.1.1.1.1.0.now

  abbrev pub left : Tables
  left = tables_of e.1.1.0.now e.1.1.1.0.now e.1.1.1.1.0.now e.1.1.1.1.1.0.now

  -- asked so, with tables of these lengths
  abbrev pub Lengths : ℕ → ℕ → ℕ → ℕ → Type 0
  Lengths n l i p = (length lent.rows ≡ n) × (length lent.letters ≡ l) × (length lent.islands ≡ i) × (length lent.points ≡ p)

  untouched : {refusal : Refusal} {nth offset column : ℕ} → r ≡ refused_in column (stopped_at refusal nth offset) → left ≡ lent
  untouched q = four (post.1.0 ∙ rw q refl) (post.1.1.0 ∙ rw q refl) (post.1.1.1.0 ∙ rw q refl) (post.1.1.1.1 ∙ rw q refl)

  module _ (m : a.0 ≡ Loose) (s : a.1.0.now ≡ listed) where
    -- shuts out a reader that refuses everything
    pub read-as-answers : Lengths 45 6 1 11 → r ≡ its_sheet
    read-as-answers n = post.0 ∙ rw (m, s, n.0, n.1, n.2, n.3) spare

    -- shuts out a reader that returns an empty sheet, and one that reads the first section and invents the rest
    pub read-as-not-empty : Lengths 45 6 1 11 → left ≡ holding lent
    unfolding rows_held points_held
    read-as-not-empty n =
        let q : r ≡ its_sheet = read-as-answers n in
        four (post.1.0 ∙ rw (q, m, s, is) refl) (post.1.1.0 ∙ rw (q, m, s, is) refl) (post.1.1.1.0 ∙ rw (q, m, s, is) refl) (post.1.1.1.1 ∙ rw (q, m, s, is) refl)

    -- shuts out a 14 without need: the tables are just long enough
    pub read-as-no-14-without-need : Lengths 30 4 0 10 → r ≡ its_sheet
    read-as-no-14-without-need n = post.0 ∙ rw (m, s, n.0, n.1, n.2, n.3) enough

    -- shuts out a made-up needed count: the row table is one number short
    pub read-as-needs : Lengths 29 6 1 11 → r ≡ refused_with (NoRoom needs)
    read-as-needs n = post.0 ∙ rw (m, s, n.0, n.1, n.2, n.3) short

    pub read-as-needs-untouched : Lengths 29 6 1 11 → left ≡ lent
    read-as-needs-untouched n =
        let q : r ≡ refused_with (NoRoom needs) = read-as-needs n in
        four (post.1.0 ∙ rw q refl) (post.1.1.0 ∙ rw q refl) (post.1.1.1.0 ∙ rw q refl) (post.1.1.1.1 ∙ rw q refl)

  module _ (m : a.0 ≡ Exact) (s : a.1.0.now ≡ scanned) where
    -- shuts out a reader that knows five kinds
    pub read-as-scanned : Lengths 30 22 0 12 → r ≡ its_scan
    read-as-scanned n = post.0 ∙ rw (m, s, n.0, n.1, n.2, n.3) scanned-read

    -- a row of 4 vertices that the file does not count, and their points as they stand
    pub read-as-scanned-stores : Lengths 30 22 0 12 → left ≡ holding_scan lent
    unfolding scanned_tables
    read-as-scanned-stores n =
        let q : r ≡ its_scan = read-as-scanned n in
        four (post.1.0 ∙ rw (q, m, s, scanned-exact) refl) (post.1.1.0 ∙ rw (q, m, s, scanned-exact) refl) (post.1.1.1.0 ∙ rw (q, m, s, scanned-exact) refl) (post.1.1.1.1 ∙ rw (q, m, s, scanned-exact) refl)

  -- number, record and offset
  pub read-as-refuses : a.0 ≡ Loose → a.1.0.now ≡ raster → r ≡ refused_in 0 (stopped_at Refusal.Keyword 4 27)
  read-as-refuses m s = post.0 ∙ rw (m, s) (refused-raster _)

  pub read-as-untouched : a.0 ≡ Loose → a.1.0.now ≡ raster → left ≡ lent
  read-as-untouched m s = untouched (read-as-refuses m s)

  pub read-as-after-eof : a.0 ≡ Exact → a.1.0.now ≡ tailed → r ≡ refused_in 0 (stopped_at Refusal.AfterEof 5 39)
  read-as-after-eof m s = post.0 ∙ rw (m, s) (refused-tailed _)

  pub read-as-after-eof-untouched : a.0 ≡ Exact → a.1.0.now ≡ tailed → left ≡ lent
  read-as-after-eof-untouched m s = untouched (read-as-after-eof m s)

  -- 8 says the column
  pub read-as-column : a.0 ≡ Loose → a.1.0.now ≡ bad_scale → r ≡ refused_in 9 (stopped_at Refusal.Number 3 18)
  read-as-column m s = post.0 ∙ rw (m, s) (refused-scale _)

  pub read-as-column-untouched : a.0 ≡ Loose → a.1.0.now ≡ bad_scale → left ≡ lent
  read-as-column-untouched m s = untouched (read-as-column m s)

-- ---- `read`: no mode is named, so it is exact: the scanned sheet is read, and the example, whose records end in LF alone, is refused

module _ (κs : Lfts 5) (a : ArgsD read.signature κs) (r : ResD read.signature κs) (e : AtExit read.ended κs) (post : read-reads.Learnt κs a r e) where
  abbrev pub read_lent : Tables
  read_lent = tables_of a.1.0.now a.1.1.0.now a.1.1.1.0.now a.1.1.1.1.0.now

  abbrev pub read_left : Tables
  read_left = tables_of e.1.0.now e.1.1.0.now e.1.1.1.0.now e.1.1.1.1.0.now

  abbrev pub ReadLengths : ℕ → ℕ → ℕ → ℕ → Type 0
  ReadLengths n l i p = (length read_lent.rows ≡ n) × (length read_lent.letters ≡ l) × (length read_lent.islands ≡ i) × (length read_lent.points ≡ p)

  pub read-answers : a.0.now ≡ scanned → ReadLengths 30 22 0 12 → r ≡ its_scan
  read-answers s n = post.0 ∙ rw (s, n.0, n.1, n.2, n.3) scanned-read

  pub read-not-empty : a.0.now ≡ scanned → ReadLengths 30 22 0 12 → read_left ≡ holding_scan read_lent
  unfolding scanned_tables
  read-not-empty s n =
      let q : r ≡ its_scan = read-answers s n in
      four (post.1.0 ∙ rw (q, s, scanned-exact) refl) (post.1.1.0 ∙ rw (q, s, scanned-exact) refl) (post.1.1.1.0 ∙ rw (q, s, scanned-exact) refl) (post.1.1.1.1 ∙ rw (q, s, scanned-exact) refl)

  pub read-needs : a.0.now ≡ scanned → ReadLengths 29 22 0 12 → r ≡ refused_with (NoRoom scanned_needs)
  read-needs s n = post.0 ∙ rw (s, n.0, n.1, n.2, n.3) scanned-short

  pub read-needs-untouched : a.0.now ≡ scanned → ReadLengths 29 22 0 12 → read_left ≡ read_lent
  read-needs-untouched s n =
      let q : r ≡ refused_with (NoRoom scanned_needs) = read-needs s n in
      four (post.1.0 ∙ rw q refl) (post.1.1.0 ∙ rw q refl) (post.1.1.1.0 ∙ rw q refl) (post.1.1.1.1 ∙ rw q refl)

  -- shuts out a reading that is loose
  pub read-refuses : a.0.now ≡ listed → r ≡ refused_in 0 (stopped_at Refusal.LineEnd 1 0)
  read-refuses s = post.0 ∙ rw s (refused-listed _)

  pub read-untouched : a.0.now ≡ listed → read_left ≡ read_lent
  read-untouched s =
      let q : r ≡ refused_in 0 (stopped_at Refusal.LineEnd 1 0) = read-refuses s in
      four (post.1.0 ∙ rw q refl) (post.1.1.0 ∙ rw q refl) (post.1.1.1.0 ∙ rw q refl) (post.1.1.1.1 ∙ rw q refl)

-- ---- `cxf_read_default`: the same from C

module _ (κs : Lfts 5) (a : ArgsD cxf-read-default.signature κs) (r : ResD cxf-read-default.signature κs) (e : AtExit cxf-read-default.ended κs) (post : cxf-read-default-reads.Learnt κs a r e) where
  abbrev pub default_lent : Tables
  default_lent = tables_of a.1.0.now a.1.1.0.now a.1.1.1.0.now a.1.1.1.1.0.now

  abbrev pub default_left : Tables
  default_left = tables_of e.1.0.now e.1.1.0.now e.1.1.1.0.now e.1.1.1.1.0.now

  abbrev pub DefaultLengths : ℕ → ℕ → ℕ → ℕ → Type 0
  DefaultLengths n l i p = (length default_lent.rows ≡ n) × (length default_lent.letters ≡ l) × (length default_lent.islands ≡ i) × (length default_lent.points ≡ p)

  module _ (s : a.0.now ≡ scanned) (n : DefaultLengths 30 22 0 12) where
    default-within : read_of Exact a.0.now (rooms_of (length default_lent.rows) (length default_lent.letters) (length default_lent.islands) (length default_lent.points)) ≡ its_scan
    default-within = rw (s, n.0, n.1, n.2, n.3) scanned-read

    pub cxf-read-default-answers : r ≡ record { number = 0; nth = 0; offset = 0; column = 0; rows = 2; letters = 22; islands = 0; points = 6; kind = 1; scale = pos 1000000; name = text "Z999_000100" }
    cxf-read-default-answers = post.0 ∙ ap read_told default-within

    pub cxf-read-default-stores : default_left ≡ holding_scan default_lent
    unfolding scanned_tables
    cxf-read-default-stores =
        let q = default-within in
        four (post.1.0 ∙ rw (q, s, scanned-exact) refl) (post.1.1.0 ∙ rw (q, s, scanned-exact) refl) (post.1.1.1.0 ∙ rw (q, s, scanned-exact) refl) (post.1.1.1.1 ∙ rw (q, s, scanned-exact) refl)

  pub cxf-read-default-refuses : a.0.now ≡ listed
      → r ≡ record { number = 3; nth = 1; offset = 0; column = 0; rows = 0; letters = 0; islands = 0; points = 0; kind = 0; scale = pos 0; name = replicate 11 0 }
  cxf-read-default-refuses s = post.0 ∙ rw (s, refused-listed _) refl

  pub cxf-read-default-untouched : a.0.now ≡ listed → default_left ≡ default_lent
  cxf-read-default-untouched s =
      let q = refused-listed (rooms_of (length default_lent.rows) (length default_lent.letters) (length default_lent.islands) (length default_lent.points)) in
      four (post.1.0 ∙ rw (s, q) refl) (post.1.1.0 ∙ rw (s, q) refl) (post.1.1.1.0 ∙ rw (s, q) refl) (post.1.1.1.1 ∙ rw (s, q) refl)

-- ---- `cxf_read`: mode 0 is loose, mode 2 the former reading, mode 3 exact

module _ (κs : Lfts 5) (a : ArgsD cxf-read.signature κs) (r : ResD cxf-read.signature κs) (e : AtExit cxf-read.ended κs) (post : cxf-read-reads.Learnt κs a r e) where
  abbrev pub cxf_lent : Tables
  cxf_lent = tables_of a.1.1.0.now a.1.1.1.0.now a.1.1.1.1.0.now a.1.1.1.1.1.0.now

  abbrev pub cxf_left : Tables
  cxf_left = tables_of e.1.1.0.now e.1.1.1.0.now e.1.1.1.1.0.now e.1.1.1.1.1.0.now

  abbrev pub CxfLengths : ℕ → ℕ → ℕ → ℕ → Type 0
  CxfLengths n l i p = (length cxf_lent.rows ≡ n) × (length cxf_lent.letters ≡ l) × (length cxf_lent.islands ≡ i) × (length cxf_lent.points ≡ p)

  -- what the library answers
  abbrev within : Answer
  within = read_of (mode_of a.1.0) a.0.now (rooms_of (length cxf_lent.rows) (length cxf_lent.letters) (length cxf_lent.islands) (length cxf_lent.points))

  cxf-told : (x : Answer) → within ≡ x → r ≡ read_told x
  cxf-told x q = post.0 ∙ ap read_told q

  cxf-untouched : (refusal : Refusal) (nth offset column : ℕ) → within ≡ refused_in column (stopped_at refusal nth offset) → cxf_left ≡ cxf_lent
  cxf-untouched refusal nth offset column q = four (post.1.0 ∙ rw q refl) (post.1.1.0 ∙ rw q refl) (post.1.1.1.0 ∙ rw q refl) (post.1.1.1.1 ∙ rw q refl)

  module _ (m : a.1.0 ≡ 0) (s : a.0.now ≡ listed) where
    cxf-within : {n l i p : ℕ} → CxfLengths n l i p → within ≡ read_of Loose listed (rooms_of n l i p)
    cxf-within n = rw (m, s, n.0, n.1, n.2, n.3) refl

    pub cxf-read-answers : CxfLengths 45 6 1 11
        → r ≡ record { number = 0; nth = 0; offset = 0; column = 0; rows = 2; letters = 4; islands = 0; points = 5; kind = 1; scale = pos 1000000; name = text "Z999_000100" }
    cxf-read-answers n = cxf-told its_sheet (cxf-within n ∙ spare)

    pub cxf-read-not-empty : CxfLengths 45 6 1 11 → cxf_left ≡ holding cxf_lent
    unfolding rows_held points_held
    cxf-read-not-empty n =
        let q : within ≡ its_sheet = cxf-within n ∙ spare in
        four (post.1.0 ∙ rw (q, m, s, is) refl) (post.1.1.0 ∙ rw (q, m, s, is) refl) (post.1.1.1.0 ∙ rw (q, m, s, is) refl) (post.1.1.1.1 ∙ rw (q, m, s, is) refl)

    pub cxf-read-no-14-without-need : CxfLengths 30 4 0 10
        → r ≡ record { number = 0; nth = 0; offset = 0; column = 0; rows = 2; letters = 4; islands = 0; points = 5; kind = 1; scale = pos 1000000; name = text "Z999_000100" }
    cxf-read-no-14-without-need n = cxf-told its_sheet (cxf-within n ∙ enough)

    pub cxf-read-needs : CxfLengths 29 6 1 11
        → r ≡ record { number = 14; nth = 0; offset = 0; column = 0; rows = 2; letters = 4; islands = 0; points = 5; kind = 0; scale = pos 0; name = replicate 11 0 }
    cxf-read-needs n = cxf-told (refused_with (NoRoom needs)) (cxf-within n ∙ short)

    pub cxf-read-needs-untouched : CxfLengths 29 6 1 11 → cxf_left ≡ cxf_lent
    cxf-read-needs-untouched n =
        let q : within ≡ refused_with (NoRoom needs) = cxf-within n ∙ short in
        four (post.1.0 ∙ rw q refl) (post.1.1.0 ∙ rw q refl) (post.1.1.1.0 ∙ rw q refl) (post.1.1.1.1 ∙ rw q refl)

  module _ (m : a.1.0 ≡ 1) (s : a.0.now ≡ scanned) where
    cxf-within-scan : CxfLengths 30 22 0 12 → within ≡ its_scan
    cxf-within-scan n = rw (m, s, n.0, n.1, n.2, n.3) scanned-read

    pub cxf-read-scanned : CxfLengths 30 22 0 12
        → r ≡ record { number = 0; nth = 0; offset = 0; column = 0; rows = 2; letters = 22; islands = 0; points = 6; kind = 1; scale = pos 1000000; name = text "Z999_000100" }
    cxf-read-scanned n = cxf-told its_scan (cxf-within-scan n)

    pub cxf-read-scanned-stores : CxfLengths 30 22 0 12 → cxf_left ≡ holding_scan cxf_lent
    unfolding scanned_tables
    cxf-read-scanned-stores n =
        let q : within ≡ its_scan = cxf-within-scan n in
        four (post.1.0 ∙ rw (q, m, s, scanned-exact) refl) (post.1.1.0 ∙ rw (q, m, s, scanned-exact) refl) (post.1.1.1.0 ∙ rw (q, m, s, scanned-exact) refl) (post.1.1.1.1 ∙ rw (q, m, s, scanned-exact) refl)

  pub cxf-read-refuses : a.1.0 ≡ 0 → a.0.now ≡ raster
      → r ≡ record { number = 7; nth = 4; offset = 27; column = 0; rows = 0; letters = 0; islands = 0; points = 0; kind = 0; scale = pos 0; name = replicate 11 0 }
  cxf-read-refuses m s = cxf-told (refused_in 0 (stopped_at Refusal.Keyword 4 27)) (rw (m, s) (refused-raster _))

  pub cxf-read-untouched : a.1.0 ≡ 0 → a.0.now ≡ raster → cxf_left ≡ cxf_lent
  cxf-read-untouched m s = cxf-untouched Refusal.Keyword 4 27 0 (rw (m, s) (refused-raster _))

  pub cxf-read-after-eof : a.1.0 ≡ 3 → a.0.now ≡ tailed
      → r ≡ record { number = 13; nth = 5; offset = 39; column = 0; rows = 0; letters = 0; islands = 0; points = 0; kind = 0; scale = pos 0; name = replicate 11 0 }
  cxf-read-after-eof m s = cxf-told (refused_in 0 (stopped_at Refusal.AfterEof 5 39)) (rw (m, s) (refused-tailed _))

  pub cxf-read-after-eof-untouched : a.1.0 ≡ 3 → a.0.now ≡ tailed → cxf_left ≡ cxf_lent
  cxf-read-after-eof-untouched m s = cxf-untouched Refusal.AfterEof 5 39 0 (rw (m, s) (refused-tailed _))

  -- a note behind a number: refused 8 in loose mode, at its first byte that is no blank; taken in the former reading
  pub cxf-read-noted : a.1.0 ≡ 0 → a.0.now ≡ noted
      → r ≡ record { number = 8; nth = 3; offset = 18; column = 10; rows = 0; letters = 0; islands = 0; points = 0; kind = 0; scale = pos 0; name = replicate 11 0 }
  cxf-read-noted m s = cxf-told (refused_in 10 (stopped_at Refusal.Number 3 18)) (rw (m, s) (refused-noted _))

  pub cxf-read-noted-untouched : a.1.0 ≡ 0 → a.0.now ≡ noted → cxf_left ≡ cxf_lent
  cxf-read-noted-untouched m s = cxf-untouched Refusal.Number 3 18 10 (rw (m, s) (refused-noted _))

  pub cxf-read-noted-former : a.1.0 ≡ 2 → a.0.now ≡ noted → CxfLengths 0 0 0 0
      → r ≡ record { number = 0; nth = 0; offset = 0; column = 0; rows = 0; letters = 0; islands = 0; points = 0; kind = 1; scale = pos 1000000; name = text "Z999_000100" }
  cxf-read-noted-former m s n = cxf-told no_elements (rw (m, s, n.0, n.1, n.2, n.3) noted-former)

  -- 8 says the column
  pub cxf-read-column : a.1.0 ≡ 0 → a.0.now ≡ bad_scale
      → r ≡ record { number = 8; nth = 3; offset = 18; column = 9; rows = 0; letters = 0; islands = 0; points = 0; kind = 0; scale = pos 0; name = replicate 11 0 }
  cxf-read-column m s = cxf-told (refused_in 9 (stopped_at Refusal.Number 3 18)) (rw (m, s) (refused-scale _))

  pub cxf-read-column-untouched : a.1.0 ≡ 0 → a.0.now ≡ bad_scale → cxf_left ≡ cxf_lent
  cxf-read-column-untouched m s = cxf-untouched Refusal.Number 3 18 9 (rw (m, s) (refused-scale _))
