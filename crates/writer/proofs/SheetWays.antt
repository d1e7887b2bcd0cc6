-- The sheet: what was judged, how long its text is, its three parts, and the writer's answers. Assumes nothing.
use Prim.Native.Nat.{ℕ, ◌+◌, ◌≤◌, ◌<◌, min}
use mathlib.Core.Path.{◌≡◌, refl, sym, ◌∙◌, ap}
use mathlib.Core.List.{List, ◌++◌}
use mathlib.Core.Bool.{true}
use native.Mathlib.Nat.{zero-add}
use native.Mathlib.Omega.{arith}
use lib.ListN.{length, drop, length-append}
use borrow.Author.Tests.{le-leb, lt-leb}
use Rattle.laws.specs.Lists.{over}
use Rattle.laws.specs.Text.{text}
use Rattle.laws.proofs.Choice.{cond-first}
use Rattle.record.specs.declared.Mode.TheVariants.{Exact}
use Rattle.record.specs.Refusals.{file_most}
use Rattle.heading.specs.declared.Header.{Header}
use Rattle.heading.specs.Heading.{is_header}
use Rattle.sheet.specs.Tables.{Tables}
use Rattle.std.specs.Prelude.{Ok, Err}
use Rattle.made.specs.declared.Flaw.TheVariants.{BadHeader}
use Rattle.made.specs.Made.{none_before, judge_rows, judge_of}
use Rattle.writer.specs.declared.Unwritten.TheVariants.{TooLong, NoRoom}
use Rattle.layout.specs.Sheet.{line, rows_text, header_text, sheet_text}
use Rattle.writer.specs.Write.{written_after}
use Rattle.writer.specs.Put.{Put}
use Rattle.writer.proofs.Putting.{Putting, putting-start, putting-room, putting-on, putting-last}

module _ (h : Header) (count : ℕ) (t : Tables) where
  pub judged-is : judge_of Exact h count t ≡ Ok tt → (is_header h ≡ true) × (judge_rows Exact count none_before t ≡ Ok tt)
  unfolding judge_of
  judged-is e = cond-first (is_header h) (judge_rows Exact count none_before t) (Err BadHeader) (Ok tt) (λ z. let y : ◌≡◌ {A = ℕ} 0 1 = cc in omega arith) e

  abbrev end : List ℕ
  end = line (text "EOF")

  abbrev sections : List ℕ
  sections = rows_text count t ++ end

  -- ---- its length

  pub sheet-size : length (sheet_text h count t) ≡ length (header_text h) + 5 + length (rows_text count t)
  unfolding sheet_text
  sheet-size = omega (arith, length-append (header_text h) sections, length-append (rows_text count t) end)

  -- ---- its text, part by part

  module _ (l : List ℕ) (room : length (sheet_text h count t) ≤ length l) where
    begun : Putting l 0 (sheet_text h count t) l 0 (header_text h ++ sections)
    unfolding sheet_text
    begun = putting-start l 0 (header_text h ++ sections) (omega (arith, room))

    pub sheet-header-room : 0 + length (header_text h) ≤ length l
    sheet-header-room = putting-room begun (header_text h) sections refl

    module _ {d : List ℕ} {n : ℕ} (p : Put l 0 (header_text h) d n) where
      headed : Putting l 0 (sheet_text h count t) d n sections
      headed = putting-on begun (header_text h) sections refl p

      pub sheet-rows-room : n + length (rows_text count t) ≤ length d
      sheet-rows-room = putting-room headed (rows_text count t) end refl

      module _ {e : List ℕ} {m : ℕ} (q : Put d n (rows_text count t) e m) where
        rowed : Putting l 0 (sheet_text h count t) e m end
        rowed = putting-on headed (rows_text count t) end refl q

        pub sheet-end-room : m + length end ≤ length e
        sheet-end-room = rowed.room

        pub sheet-put : {x : List ℕ} {r : ℕ} → Put e m end x r → x ≡ over (sheet_text h count t) l
        sheet-put w = (putting-last rowed w).is ∙ ap (λ (k : ℕ). sheet_text h count t ++ drop k l) (zero-add (length (sheet_text h count t)))

-- ---- the answers, by the needed length as the code has it

module _ (size room needed : ℕ) (q : needed ≡ min size (file_most + 1)) where
  pub wrote-long : file_most < needed → Err TooLong ≡ written_after (Ok tt) size room
  wrote-long h = rw (lt-leb size file_most (omega arith))

  module _ (h : needed ≤ file_most) where
    size_is : size ≡ needed
    size_is = omega arith

    pub wrote-tight : room < needed → Err (NoRoom needed) ≡ written_after (Ok tt) size room
    wrote-tight k = rw (size_is, le-leb needed file_most h, lt-leb needed room k)

    pub wrote-room : needed ≤ room → size ≤ room
    wrote-room k = omega (arith, size_is)

    pub wrote-whole : needed ≤ room → Ok needed ≡ written_after (Ok tt) size room
    wrote-whole k = rw (size_is, le-leb needed file_most h, le-leb needed room k)
