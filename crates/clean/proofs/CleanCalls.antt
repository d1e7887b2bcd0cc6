-- The terms of T-13's laws are what the contracts of `read_as` and `write`, as their sources write them, permit: document 02, T-13. Assumes nothing.
use mathlib.Core.Path.{◌≡◌, refl, ◌∙◌, ap, ap₂}
use mathlib.Core.List.{List}
use Prim.Native.Nat.{ℕ}
use contract.Lifetimes.{Lfts}
use borrow.Fn.World.{ArgsD, ResD}
use denote.Triple.Clauses.{AtExit}
use Rattle.record.specs.declared.Mode.{Mode}
use Rattle.record.specs.declared.Mode.TheVariants.{Loose}
use Rattle.sheet.specs.Tables.{Tables}
use Rattle.sheet.specs.Reading.{reading}
use Rattle.made.specs.Made.{tables, tables_of}
use Rattle.reader.specs.Read.{Answer, read_of, tables_in, header_of, counts_of}
use Rattle.reader.specs.Exit.{rooms_in, answer_to, at_exit, exit_of}
use Rattle.reader.specs.contracts.read_as as read_as
use Rattle.reader.proofs.read_as.Reads as read-as-reads
use Rattle.writer.specs.contracts.write as write
use Rattle.writer.proofs.write.Reads as write-reads
use Rattle.clean.specs.Clean.{written_of, left_of}

four : {t u : Tables} → t.rows ≡ u.rows → t.letters ≡ u.letters → t.islands ≡ u.islands → t.points ≡ u.points → t ≡ u
four p q r s i = record { rows = p i; letters = q i; islands = r i; points = s i }

-- a call of `read_as`
module _ (κs : Lfts 5) (a : ArgsD read_as.signature κs) (r : ResD read_as.signature κs) (e : AtExit read_as.ended κs) (post : read-as-reads.Learnt κs a r e) where
  abbrev pub src : List ℕ
  src = a.1.0.now

  -- the tables as they are lent, and at exit
  abbrev pub lent : Tables
  lent = tables_of a.1.1.0.now a.1.1.1.0.now a.1.1.1.1.0.now a.1.1.1.1.1.0.now

  abbrev pub kept : Tables
  kept = tables_of e.1.1.0.now e.1.1.1.0.now e.1.1.1.1.0.now e.1.1.1.1.1.0.now

  module _ (mode : a.0 ≡ Loose) where
    read-answers : r ≡ answer_to Loose src lent
    read-answers = post.0 ∙ ap (λ (m : Mode). read_of m src (rooms_in lent)) mode

    read-leaves : kept ≡ exit_of Loose src lent
    read-leaves =
        let q : kept ≡ at_exit r (tables_in (reading a.0 src)) lent = four post.1.0 post.1.1.0 post.1.1.1.0 post.1.1.1.1 in
        q ∙ ap₂ (λ (x : Answer) (m : Mode). at_exit x (tables_in (reading m src)) lent) read-answers mode

    -- and a call of `write` with what it answered and left
    module _ (κt : Lfts 3) (b : ArgsD write.signature κt) (w : ResD write.signature κt) (f : AtExit write.ended κt) (past : write-reads.Learnt κt b w f) where
      abbrev pub handed : Tables
      handed = tables b.0.now.lent

      abbrev pub out : List ℕ
      out = b.1.0.now

      abbrev pub left : List ℕ
      left = f.1.0.now

      module _ (header : b.0.now.header ≡ header_of r) (count : b.0.now.count ≡ (counts_of r).rows) (same : handed ≡ kept) where
        header_is : b.0.now.header ≡ header_of (answer_to Loose src lent)
        header_is = header ∙ ap header_of read-answers

        count-is : b.0.now.count ≡ (counts_of (answer_to Loose src lent)).rows
        count-is = count ∙ ap (λ (x : Answer). (counts_of x).rows) read-answers

        tables-are : handed ≡ exit_of Loose src lent
        tables-are = same ∙ read-leaves

        -- **the answer of `write`, and its output at exit, are those of T-13's laws**
        pub calls-write : w ≡ written_of src lent out
        unfolding written_of
        calls-write = past.0 ∙ rw (header_is, count-is, tables-are) refl

        pub calls-leave : left ≡ left_of src lent out
        unfolding left_of
        calls-leave = past.1 ∙ rw (calls-write, header_is, count-is, tables-are) refl
