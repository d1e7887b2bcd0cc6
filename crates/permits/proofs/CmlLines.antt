-- What the contracts of `cml_lines` and `cxf_cml_lines`, as their sources write them, permit on some sheets: document 02, T-11. Assumes nothing.
use Prim.Native.Nat.{ℕ}
use mathlib.Core.Path.{◌≡◌, refl, ◌∙◌, ap}
use mathlib.Core.List.{List, [], ◌++◌}
use lib.ListN.{length, drop}
use lib.IntN.{pos}
use Rattle.std.specs.Prelude.{Result, Ok, Err}
use contract.Lifetimes.{Lfts}
use borrow.Fn.World.{ArgsD, ResD}
use denote.Triple.Clauses.{AtExit}
use Rattle.laws.specs.Text.{text}
use Rattle.heading.specs.Heading.{no_header, is_header}
use Rattle.sheet.specs.Tables.{Tables}
use Rattle.made.specs.declared.Flaw.{Flaw}
use Rattle.made.specs.declared.Flaw.TheVariants.{BadHeader, Faulty}
use Rattle.made.specs.Made.{tables_of, judge_of}
use Rattle.made.specs.Made as Made
use Rattle.made.specs.Examples.{header, line, symbol, ring}
use Rattle.writer.specs.declared.Unwritten.{Unwritten}
use Rattle.writer.specs.declared.Unwritten.TheVariants.{NoRoom, Refused}
use Rattle.cml.specs.Lines.{cml_text, cml_of}
use Rattle.cml.specs.Examples.{computed, computed_text}
use Rattle.cml.specs.contracts.cml_lines as cml-lines
use Rattle.cml.proofs.cml_lines.Reads as cml-lines-reads
use Rattle.told.specs.Told.{write_told}
use Rattle.told.specs.Asked.{header_of}
use Rattle.cabi.specs.contracts.cxf_cml_lines as cxf-cml-lines
use Rattle.cabi.proofs.cxf_cml_lines.Reads as cxf-cml-lines-reads

-- ---- sheets of one row, and the answers to them, computed

-- a line of so many vertices: one is too few
abbrev drawn : ℕ → Tables
drawn vertices = tables_of (line vertices) [] [] (ring 0)

-- a symbol of a code that is not listed: no line
abbrev strange : Tables
strange = tables_of (symbol 12) [] [] []

abbrev element : List ℕ
element = text "<LINEA valenza=\"CONSOLID\" esterconf=\"NO\" cod=\"6\" n.vert=\"2\"><COORD>0.000,0.000 0.009,0.000</COORD></LINEA>\n"

spelt : cml_text 1 (drawn 2) ≡ element
unfolding computed_text
spelt = refl

spare : cml_of (header 1) 1 (drawn 2) 110 ≡ Ok 107
unfolding computed
spare = refl

enough : cml_of (header 1) 1 (drawn 2) 107 ≡ Ok 107
unfolding computed
enough = refl

short : cml_of (header 1) 1 (drawn 2) 106 ≡ Err (NoRoom 107)
unfolding computed
short = refl

none : cml_text 1 strange ≡ []
unfolding computed_text
none = refl

unlisted : cml_of (header 1) 1 strange 0 ≡ Ok 0
unfolding computed
unlisted = refl

-- refused, whatever the room
faulty : (room : ℕ) → cml_of (header 1) 1 (drawn 1) room ≡ Err (Refused (Faulty 0))
unfolding computed
faulty room = refl

-- a header that is none, whatever is to be written
no-header : (count : ℕ) (t : Tables) (room : ℕ) → cml_of no_header count t room ≡ Err (Refused BadHeader)
unfolding cml_of judge_of is_header
no-header count t room = refl

-- ---- `cml_lines`

module _ (κs : Lfts 3) (a : ArgsD cml-lines.signature κs) (r : ResD cml-lines.signature κs) (e : AtExit cml-lines.ended κs) (post : cml-lines-reads.Learnt κs a r e) where
  -- what is handed in, and the output as it is lent and at exit
  abbrev pub tables : Tables
  tables = Made.tables a.0.now.lent

  abbrev pub lent : List ℕ
  lent = a.1.0.now

  abbrev pub left : List ℕ
  left = e.1.0.now

  untouched : {f : Flaw} → r ≡ Err (Refused f) → left ≡ lent
  untouched q = post.1 ∙ rw q refl

  module _ (h : a.0.now.header ≡ header 1) (n : a.0.now.count ≡ 1) where
    module _ (t : tables ≡ drawn 2) where
      pub cml-answers : length lent ≡ 110 → r ≡ Ok 107
      cml-answers room = post.0 ∙ rw (h, n, t, room) spare

      pub cml-stores : length lent ≡ 110 → left ≡ element ++ drop 107 lent
      cml-stores room = post.1 ∙ rw (cml-answers room, n, t, spelt) refl

      -- shuts out a 14 without need
      pub cml-no-14-without-need : length lent ≡ 107 → r ≡ Ok 107
      cml-no-14-without-need room = post.0 ∙ rw (h, n, t, room) enough

      pub cml-needs : length lent ≡ 106 → r ≡ Err (NoRoom 107)
      cml-needs room = post.0 ∙ rw (h, n, t, room) short

      pub cml-needs-untouched : length lent ≡ 106 → left ≡ lent
      cml-needs-untouched room = post.1 ∙ rw (cml-needs room) refl

    -- no lines: no bytes, and no room is asked for; a code that is not listed is no refusal
    pub cml-unlisted : tables ≡ strange → length lent ≡ 0 → r ≡ Ok 0
    cml-unlisted t room = post.0 ∙ rw (h, n, t, room) unlisted

    pub cml-unlisted-untouched : tables ≡ strange → length lent ≡ 0 → left ≡ lent
    cml-unlisted-untouched t room = post.1 ∙ rw (cml-unlisted t room, n, t, none) refl

    pub cml-faulty : tables ≡ drawn 1 → r ≡ Err (Refused (Faulty 0))
    cml-faulty t = post.0 ∙ rw (h, n, t) (faulty _)

    pub cml-faulty-untouched : tables ≡ drawn 1 → left ≡ lent
    cml-faulty-untouched t = untouched (cml-faulty t)

  pub cml-no-header : a.0.now.header ≡ no_header → r ≡ Err (Refused BadHeader)
  cml-no-header h = post.0 ∙ rw h (no-header _ _ _)

  pub cml-no-header-untouched : a.0.now.header ≡ no_header → left ≡ lent
  cml-no-header-untouched h = untouched (cml-no-header h)

-- ---- `cxf_cml_lines`

module _ (κs : Lfts 6) (a : ArgsD cxf-cml-lines.signature κs) (r : ResD cxf-cml-lines.signature κs) (e : AtExit cxf-cml-lines.ended κs) (post : cxf-cml-lines-reads.Learnt κs a r e) where
  abbrev pub cxf_tables : Tables
  cxf_tables = tables_of a.1.1.1.1.0.now a.1.1.1.1.1.0.now a.1.1.1.1.1.1.0.now a.1.1.1.1.1.1.1.0.now

  abbrev pub cxf_lent : List ℕ
  cxf_lent = a.1.1.1.1.1.1.1.1.0.now

  abbrev pub cxf_left : List ℕ
  cxf_left = e.1.1.1.1.1.1.1.1.0.now

  -- what the library answers
  abbrev within : Result ℕ Unwritten
  within = cml_of (header_of a.0 a.1.0.now a.1.1.0) a.1.1.1.0 cxf_tables (length cxf_lent)

  cxf-told : (x : Result ℕ Unwritten) → within ≡ x → r ≡ write_told x
  cxf-told x q = post.0 ∙ ap write_told q

  cxf-untouched : (f : Flaw) → within ≡ Err (Refused f) → cxf_left ≡ cxf_lent
  cxf-untouched f q = post.1 ∙ rw q refl

  -- a name of 12 bytes is no name
  long-name : a.1.0.now ≡ text "Z999_0001000" → within ≡ Err (Refused BadHeader)
  unfolding header_of
  long-name name = rw name (no-header _ _ _)

  pub cxf-cml-long-name : a.1.0.now ≡ text "Z999_0001000" → r ≡ record { number = 6; row = 0; length = 0 }
  cxf-cml-long-name name = cxf-told (Err (Refused BadHeader)) (long-name name)

  pub cxf-cml-long-name-untouched : a.1.0.now ≡ text "Z999_0001000" → cxf_left ≡ cxf_lent
  cxf-cml-long-name-untouched name = cxf-untouched BadHeader (long-name name)

  module _ (kind : a.0 ≡ 1) (name : a.1.0.now ≡ text "Z999_000100") (scale : a.1.1.0 ≡ pos 1000000) (n : a.1.1.1.0 ≡ 1) where
    its-header : header_of a.0 a.1.0.now a.1.1.0 ≡ header 1
    unfolding header_of
    its-header = rw (kind, name, scale) refl

    module _ (t : cxf_tables ≡ drawn 2) where
      pub cxf-cml-answers : length cxf_lent ≡ 110 → r ≡ record { number = 0; row = 0; length = 107 }
      cxf-cml-answers room = cxf-told (Ok 107) (rw (its-header, n, t, room) spare)

      pub cxf-cml-stores : length cxf_lent ≡ 110 → cxf_left ≡ element ++ drop 107 cxf_lent
      cxf-cml-stores room = post.1 ∙ rw (its-header, n, t, room, spare, spelt) refl

      pub cxf-cml-needs : length cxf_lent ≡ 106 → r ≡ record { number = 14; row = 0; length = 107 }
      cxf-cml-needs room = cxf-told (Err (NoRoom 107)) (rw (its-header, n, t, room) short)

      pub cxf-cml-needs-untouched : length cxf_lent ≡ 106 → cxf_left ≡ cxf_lent
      cxf-cml-needs-untouched room = post.1 ∙ rw (its-header, n, t, room, short) refl

    pub cxf-cml-faulty : cxf_tables ≡ drawn 1 → r ≡ record { number = 15; row = 0; length = 0 }
    cxf-cml-faulty t = cxf-told (Err (Refused (Faulty 0))) (rw (its-header, n, t) (faulty _))

    pub cxf-cml-faulty-untouched : cxf_tables ≡ drawn 1 → cxf_left ≡ cxf_lent
    cxf-cml-faulty-untouched t = cxf-untouched (Faulty 0) (rw (its-header, n, t) (faulty _))
