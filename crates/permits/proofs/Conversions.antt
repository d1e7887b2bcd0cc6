-- What the contracts of `convert_text` and `cxf_convert`, as their sources write them, permit on some inputs: document 02, T-09. Assumes nothing.
use Prim.Native.Nat.{ℕ}
use mathlib.Core.Path.{◌≡◌, refl, ◌∙◌}
use mathlib.Core.List.{List, ◌++◌}
use lib.ListN.{length, drop}
use contract.Lifetimes.{Lfts}
use borrow.Fn.World.{ArgsD, ResD}
use denote.Triple.Clauses.{AtExit}
use Rattle.laws.specs.Text.{text}
use Rattle.std.specs.Prelude.{Ok, Err}
use Rattle.listing.specs.Listed.{listed_of}
use Rattle.conversion.specs.Conversion.{conversion_of}
use Rattle.conversion.specs.Examples.{computed}
use Rattle.conversion.specs.contracts.convert_text as convert-text
use Rattle.conversion.proofs.convert_text.Reads as convert-text-reads
use Rattle.cabi.specs.contracts.cxf_convert as cxf-convert
use Rattle.cabi.proofs.cxf_convert.Reads as cxf-convert-reads

-- ---- the answers, computed

-- a file of the first year, with a note behind its scale and each number of a SIMBOLO; its clean file
abbrev noted : List ℕ
noted = text "MAPPA\nZ999_000100\n1000.000 1:1000\nSIMBOLO\n4 4\n0.000 angolo\n+1.000 x\n-0.005 2.000\nEOF"

abbrev clean : List ℕ
clean = text "MAPPA\r\nZ999_000100\r\n    1000.000\r\nSIMBOLO\r\n   4\r\n       0.000\r\n       1.000\r\n      -0.005\r\nEOF\r\n"

its-clean-file : conversion_of noted ≡ clean
unfolding computed
its-clean-file = refl

-- a code that no table has, behind a row
abbrev strange : List ℕ
strange = text "MAPPA\nZ999_000100\n1000.000\nSIMBOLO\n4\n0.000\n0.000\n0.000\nSIMBOLO\n99 x\n0.000\n0.000\n0.000\nEOF"

abbrev refusal : List ℕ
refusal = text "REFUSED 10 1 0 0\n"

its-refusal : conversion_of strange ≡ refusal
unfolding computed
its-refusal = refl

spare : listed_of clean 100 ≡ Ok 96
unfolding listed_of
spare = refl

short : listed_of clean 95 ≡ Err (record { 0 = 96 })
unfolding listed_of
short = refl

refused-spare : listed_of refusal 18 ≡ Ok 17
unfolding listed_of
refused-spare = refl

-- ---- `convert_text`

module _ (κs : Lfts 2) (a : ArgsD convert-text.signature κs) (r : ResD convert-text.signature κs) (e : AtExit convert-text.ended κs) (post : convert-text-reads.Learnt κs a r e) where
  -- the output as it is lent, and at exit
  abbrev pub lent : List ℕ
  lent = a.1.0.now

  abbrev pub left : List ℕ
  left = e.1.0.now

  module _ (s : a.0.now ≡ noted) where
    pub convert-answers : length lent ≡ 100 → r ≡ Ok 96
    convert-answers room = post.0 ∙ rw (s, its-clean-file, room) spare

    pub convert-stores : length lent ≡ 100 → left ≡ clean ++ drop 96 lent
    convert-stores room = post.1 ∙ rw (convert-answers room, s, its-clean-file) refl

    pub convert-needs : length lent ≡ 95 → r ≡ Err (record { 0 = 96 })
    convert-needs room = post.0 ∙ rw (s, its-clean-file, room) short

    pub convert-untouched : length lent ≡ 95 → left ≡ lent
    convert-untouched room = post.1 ∙ rw (convert-needs room) refl

  module _ (s : a.0.now ≡ strange) (room : length lent ≡ 18) where
    pub convert-refused : r ≡ Ok 17
    convert-refused = post.0 ∙ rw (s, its-refusal, room) refused-spare

    pub convert-refused-stores : left ≡ refusal ++ drop 17 lent
    convert-refused-stores = post.1 ∙ rw (convert-refused, s, its-refusal) refl

-- ---- `cxf_convert`

module _ (κs : Lfts 2) (a : ArgsD cxf-convert.signature κs) (r : ResD cxf-convert.signature κs) (e : AtExit cxf-convert.ended κs) (post : cxf-convert-reads.Learnt κs a r e) where
  abbrev pub cxf_lent : List ℕ
  cxf_lent = a.1.0.now

  abbrev pub cxf_left : List ℕ
  cxf_left = e.1.0.now

  module _ (s : a.0.now ≡ noted) where
    pub cxf-convert-answers : length cxf_lent ≡ 100 → r ≡ record { number = 0; length = 96 }
    cxf-convert-answers room = post.0 ∙ rw (s, its-clean-file, room, spare) refl

    pub cxf-convert-stores : length cxf_lent ≡ 100 → cxf_left ≡ clean ++ drop 96 cxf_lent
    cxf-convert-stores room = post.1 ∙ rw (s, its-clean-file, room, spare) refl

    pub cxf-convert-needs : length cxf_lent ≡ 95 → r ≡ record { number = 14; length = 96 }
    cxf-convert-needs room = post.0 ∙ rw (s, its-clean-file, room, short) refl

    pub cxf-convert-untouched : length cxf_lent ≡ 95 → cxf_left ≡ cxf_lent
    cxf-convert-untouched room = post.1 ∙ rw (s, its-clean-file, room, short) refl

  module _ (s : a.0.now ≡ strange) (room : length cxf_lent ≡ 18) where
    pub cxf-convert-refused : r ≡ record { number = 0; length = 17 }
    cxf-convert-refused = post.0 ∙ rw (s, its-refusal, room, refused-spare) refl

    pub cxf-convert-refused-stores : cxf_left ≡ refusal ++ drop 17 cxf_lent
    cxf-convert-refused-stores = post.1 ∙ rw (s, its-refusal, room, refused-spare) refl
