-- How long the text of a well made sheet is at most, by its rows and its tables. Assumes nothing.
use Prim.Native.Nat.{ℕ, zero, suc, ◌+◌, ◌*◌, ◌≤◌}
use mathlib.Core.Path.{◌≡◌}
use mathlib.Core.List.{◌++◌}
use native.Mathlib.Omega.{arith}
use lib.ListN.{length, length-append, length-drop}
use Rattle.laws.specs.Text.{text}
use Rattle.laws.proofs.Choice.{cond-first}
use Rattle.record.specs.declared.Mode.{Mode}
use Rattle.heading.specs.declared.Header.{Header}
use Rattle.heading.specs.Heading.{is_header}
use Rattle.heading.proofs.HeadingLaws.{header_is}
use Rattle.sheet.specs.Tables.{Tables}
use Rattle.std.specs.Prelude.{Ok, Err}
use Rattle.made.specs.declared.Flaw.TheVariants.{BadHeader}
use Rattle.made.specs.Made.{count_at, rest_of, Before, none_before, past_row, judge_rows, judge_of}
use Rattle.made.proofs.UsedLaws.{fine-on}
use Rattle.layout.specs.Sheet.{line, row_text, rows_text, header_text, sheet_text}
use Rattle.writer.proofs.RowFacts.{row_is}
use Rattle.writer.proofs.Sizes.{row-bound}
use Rattle.writer.proofs.HeaderWays.{header-most}

-- 98 bytes for each row, one for a letter, 6 for an island count, 14 for each number of a point
rows-size : (mode : Mode) (n : ℕ) (b : Before) (t : Tables) → judge_rows mode n b t ≡ Ok tt
    → length (rows_text n t) ≤ 98 * n + (length t.letters + 6 * length t.islands + 14 * length t.points)
unfolding rows_text
rows-size mode zero b t e = omega arith
rows-size mode (suc n) b t e =
    let m = fine-on mode n b t e in
    let w = row_is t m.0 in
    omega (
      arith,
      length-append (row_text t) (rows_text n (rest_of t)),
      row-bound t m.0,
      rows-size mode n (past_row b t) (rest_of t) m.1,
      w.letters-held,
      w.islands-held,
      w.points-held,
      length-drop (count_at t 9) t.letters,
      length-drop (count_at t 10) t.islands,
      length-drop (2 * count_at t 11) t.points,
    )

-- and 49 for the header and `EOF`
pub sheet-size : (mode : Mode) (h : Header) (n : ℕ) (t : Tables) → judge_of mode h n t ≡ Ok tt
    → length (sheet_text h n t) ≤ 98 * n + (length t.letters + 6 * length t.islands + 14 * length t.points) + 49
unfolding judge_of sheet_text
sheet-size mode h n t e =
    let m = cond-first (is_header h) (judge_rows mode n none_before t) (Err BadHeader) (Ok tt) (λ z. let y : ◌≡◌ {A = ℕ} 0 1 = cc in omega arith) e in
    omega (
      arith,
      length-append (header_text h) (rows_text n t ++ line (text "EOF")),
      length-append (rows_text n t) (line (text "EOF")),
      header-most h (header_is h m.0),
      rows-size mode n none_before t m.1,
    )
