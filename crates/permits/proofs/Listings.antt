-- What the contracts of `list_text` and `cxf_listing`, as their sources write them, permit on some inputs: document 01, "Listing program". Assumes nothing.
use Prim.Native.Nat.{ℕ}
use mathlib.Core.Path.{◌≡◌, refl, ◌∙◌}
use mathlib.Core.List.{List, [], ◌∷◌, ◌++◌}
use lib.ListN.{length, drop, replicate}
use lib.IntN.{pos}
use contract.Lifetimes.{Lfts}
use borrow.Fn.World.{ArgsD, ResD}
use denote.Triple.Clauses.{AtExit}
use Rattle.laws.specs.Text.{text}
use Rattle.tally.specs.Examples.{computed}
use Rattle.sheet.specs.Examples.{listed}
use Rattle.tally.specs.Take.{tally_of}
use Rattle.reader.specs.ExitExamples.{computed_column}
use Rattle.listing.specs.Listing.{tallied_text, sheet_listing, listing_of}
use Rattle.listing.specs.Examples.{computed_lines}
use Rattle.std.specs.Prelude.{Ok, Err}
use Rattle.listing.specs.Listed.{listed_of}
use Rattle.listing.specs.contracts.list_text as list-text
use Rattle.listing.proofs.list_text.Reads as list-text-reads
use Rattle.cabi.specs.contracts.cxf_listing as cxf-listing
use Rattle.cabi.proofs.cxf_listing.Reads as cxf-listing-reads
use Rattle.permits.proofs.Readings.{header, tables, rows_held, points_held, is, raster}

-- ---- the answers, computed

-- the listing of the document's example: one parcel
abbrev pub listing : List ℕ
listing = text "MAP 1 Z999_000100 1000000\nCONFINE 0 0 0 0\nOTHER 0 0 0 0\nROAD 0 0 0 0\nWATER 0 0 0 0\nBUILDING 0 0 0 0\nPARCEL 1 400000000 0 0\nROWS 2\n"

one-parcel : tally_of header 2 tables ≡ record { tally = record { figures = replicate 20 (pos 0) ++ pos 1 ∷ pos 400000000 ∷ pos 0 ∷ pos 0 ∷ [] }; outcome = Ok tt }
unfolding computed rows_held points_held
one-parcel = refl

its-listing : listing_of listed ≡ listing
unfolding listing_of sheet_listing tallied_text computed_lines listed rows_held
its-listing = rw (is, one-parcel) refl

-- a refused input
abbrev pub refusal : List ℕ
refusal = text "REFUSED 7 4 27 0\n"

its-refusal : listing_of raster ≡ refusal
unfolding listing_of computed_lines computed_column
its-refusal = refl

spare : listed_of listing 132 ≡ Ok 130
unfolding listed_of
spare = refl

short : listed_of listing 129 ≡ Err (record { 0 = 130 })
unfolding listed_of
short = refl

refused-spare : listed_of refusal 18 ≡ Ok 17
unfolding listed_of
refused-spare = refl

-- ---- `list_text`

module _ (κs : Lfts 2) (a : ArgsD list-text.signature κs) (r : ResD list-text.signature κs) (e : AtExit list-text.ended κs) (post : list-text-reads.Learnt κs a r e) where
  -- the output as it is lent, and at exit
  abbrev pub lent : List ℕ
  lent = a.1.0.now

  abbrev pub left : List ℕ
  left = e.1.0.now

  module _ (s : a.0.now ≡ listed) where
    pub list-answers : length lent ≡ 132 → r ≡ Ok 130
    list-answers room = post.0 ∙ rw (s, its-listing, room) spare

    pub list-stores : length lent ≡ 132 → left ≡ listing ++ drop 130 lent
    list-stores room = post.1 ∙ rw (list-answers room, s, its-listing) refl

    pub list-needs : length lent ≡ 129 → r ≡ Err (record { 0 = 130 })
    list-needs room = post.0 ∙ rw (s, its-listing, room) short

    pub list-untouched : length lent ≡ 129 → left ≡ lent
    list-untouched room = post.1 ∙ rw (list-needs room) refl

  module _ (s : a.0.now ≡ raster) (room : length lent ≡ 18) where
    pub list-refused : r ≡ Ok 17
    list-refused = post.0 ∙ rw (s, its-refusal, room) refused-spare

    pub list-refused-stores : left ≡ refusal ++ drop 17 lent
    list-refused-stores = post.1 ∙ rw (list-refused, s, its-refusal) refl

-- ---- `cxf_listing`

module _ (κs : Lfts 2) (a : ArgsD cxf-listing.signature κs) (r : ResD cxf-listing.signature κs) (e : AtExit cxf-listing.ended κs) (post : cxf-listing-reads.Learnt κs a r e) where
  abbrev pub cxf_lent : List ℕ
  cxf_lent = a.1.0.now

  abbrev pub cxf_left : List ℕ
  cxf_left = e.1.0.now

  module _ (s : a.0.now ≡ listed) where
    pub cxf-listing-answers : length cxf_lent ≡ 132 → r ≡ record { number = 0; length = 130 }
    cxf-listing-answers room = post.0 ∙ rw (s, its-listing, room, spare) refl

    pub cxf-listing-stores : length cxf_lent ≡ 132 → cxf_left ≡ listing ++ drop 130 cxf_lent
    cxf-listing-stores room = post.1 ∙ rw (s, its-listing, room, spare) refl

    pub cxf-listing-needs : length cxf_lent ≡ 129 → r ≡ record { number = 14; length = 130 }
    cxf-listing-needs room = post.0 ∙ rw (s, its-listing, room, short) refl

    pub cxf-listing-untouched : length cxf_lent ≡ 129 → cxf_left ≡ cxf_lent
    cxf-listing-untouched room = post.1 ∙ rw (s, its-listing, room, short) refl

  module _ (s : a.0.now ≡ raster) (room : length cxf_lent ≡ 18) where
    pub cxf-listing-refused : r ≡ record { number = 0; length = 17 }
    cxf-listing-refused = post.0 ∙ rw (s, its-refusal, room, refused-spare) refl

    pub cxf-listing-refused-stores : cxf_left ≡ refusal ++ drop 17 cxf_lent
    cxf-listing-refused-stores = post.1 ∙ rw (s, its-refusal, room, refused-spare) refl
