-- Removing a row and then writing equals writing without that row's text; what is written of a moved sheet is read back as the moved sheet
-- (document 02, T-08). Assumes nothing.
use mathlib.Core.Path.{◌≡◌, refl, sym, ◌∙◌, ap, ap₂}
use mathlib.Core.List.{List, [], ◌∷◌, ◌++◌}
use mathlib.Core.Bool.{true}
use Prim.Native.Nat.{ℕ, zero, suc, ◌≤◌}
use lib.ListN.{length}
use lib.IntN.{ℤ}
use Rattle.std.proofs.Common.{Result, Ok, Err}
use Rattle.laws.specs.Text.{text}
use Rattle.record.specs.declared.Mode.TheVariants.{Exact}
use Rattle.record.specs.Refusals.{file_most}
use Rattle.heading.specs.declared.Header.{Header}
use Rattle.sheet.specs.Tables.{Tables, ◌then◌, Starts, starting_at}
use Rattle.sheet.specs.Reading.{sheet, reading}
use Rattle.made.specs.Made.{first_of, rest_of, is_made, judge_of, used_of}
use Rattle.made.proofs.RowWays.{made_held}
use Rattle.made.proofs.OwnLaws.{own_same, first-own}
use Rattle.made.proofs.StartLaws.{own-moved}
use Rattle.layout.specs.Sheet.{line, row_text, rows_text, header_text, sheet_text}
use Rattle.layout.proofs.TextLaws.{row-text-alike}
use Rattle.layout.proofs.WrittenLaws.{written-then-read}
use Rattle.edit.specs.Moves.{moved_tables, is_move}
use Rattle.edit.specs.Removals.{removed_tables}
use Rattle.edit.specs.Elements.{elements_of, less_one}
use Rattle.edit.proofs.MoveLaws.{moved-fine}
use Rattle.edit.proofs.RemoveLaws.{Says, removed-elements}
use Rattle.edited.specs.Together.{texts}

rows_are : (n : ℕ) (t : Tables) → rows_text n t ≡ texts (elements_of row_text n t)
unfolding rows_text texts elements_of
rows_are zero t = refl
rows_are (suc n) t = ap (λ (s : List ℕ). row_text t ++ s) (rows_are n (rest_of t))

text_says : Says row_text
text_says =
    record {
      behind = λ t u m. row-text-alike (first_of t then u) t (own_same (first_of t then u) t (first-own t u (made_held t m)));
      placed = λ s t m. row-text-alike (starting_at s t) t (own-moved s t);
    }

-- **removing and then writing equals writing without that row's text**
pub removed-text : (h : Header) (n : ℕ) (t : Tables) (k : ℕ) → judge_of Exact h (suc n) t ≡ Ok tt → k ≤ n
    → sheet_text h n (removed_tables (suc n) k t) ≡ header_text h ++ (texts (less_one k (elements_of row_text (suc n) t)) ++ line (text "EOF"))
unfolding sheet_text
removed-text h n t k e l =
    ap (λ (s : List ℕ). header_text h ++ (s ++ line (text "EOF"))) (rows_are n (removed_tables (suc n) k t) ∙ ap texts (removed-elements Exact h n t k e l row_text text_says))

-- and the whole sheet's text has it
pub whole-text : (h : Header) (n : ℕ) (t : Tables) → sheet_text h n t ≡ header_text h ++ (texts (elements_of row_text n t) ++ line (text "EOF"))
unfolding sheet_text
whole-text h n t = ap (λ (s : List ℕ). header_text h ++ (s ++ line (text "EOF"))) (rows_are n t)

-- **moving, writing and reading back gives the moved sheet**
pub moved-read : (h : Header) (n : ℕ) (t : Tables) (dx dy : ℤ) → judge_of Exact h n t ≡ Ok tt → is_move dx dy n t ≡ true → length (sheet_text h n (moved_tables dx dy n t)) ≤ file_most
    → reading Exact (sheet_text h n (moved_tables dx dy n t)) ≡ sheet h (used_of n (moved_tables dx dy n t))
moved-read h n t dx dy e m l = written-then-read h n (moved_tables dx dy n t) (moved-fine Exact h n t dx dy e m) l
