-- What stands behind the part of the tables that the rows use never matters to the text (document 01, "Sheet tables"); and the part that
-- is used of tables that were read into. Assumes nothing.
use mathlib.Core.Path.{◌≡◌, refl, ◌∙◌}
use mathlib.Core.List.{List}
use Prim.Native.Nat.{ℕ, zero, suc}
use Rattle.record.specs.declared.Mode.{Mode}
use Rattle.heading.specs.declared.Header.{Header}
use Rattle.sheet.specs.Tables.{Tables, ◌then◌, row_count}
use Rattle.sheet.specs.Reading.{sheet, meaning}
use Rattle.made.specs.Made.{rest_of, none_before, used_of}
use Rattle.made.proofs.OwnLaws.{own_same}
use Rattle.made.proofs.UsedLaws.{first-used, rest-used, used-then}
use Rattle.layout.specs.Sheet.{row_text, rows_text, sheet_text}
use Rattle.layout.proofs.TextLaws.{row-text-alike}
use Rattle.layout.proofs.ReadMade.{reading-made}

-- ---- the rows

row-text-used : (n : ℕ) (t : Tables) → row_text (used_of (suc n) t) ≡ row_text t
row-text-used n t = row-text-alike (used_of (suc n) t) t (own_same (used_of (suc n) t) t (first-used n t))

rows-text-used : (n : ℕ) (t : Tables) → rows_text n (used_of n t) ≡ rows_text n t
unfolding rows_text
rows-text-used zero t = refl
rows-text-used (suc n) t = rw (row-text-used n t, rest-used n t, rows-text-used n (rest_of t))

-- **what stands behind the used part never matters** to the text, of any tables
pub text-used : (h : Header) (n : ℕ) (t : Tables) → sheet_text h n (used_of n t) ≡ sheet_text h n t
unfolding sheet_text
text-used h n t = rw (rows-text-used n t)

-- ---- tables that were read into

-- their rows use what was read, whatever stands behind it
pub read-used : (mode : Mode) (bs : List ℕ) (h : Header) (o u : Tables) → meaning mode bs ≡ sheet h o → used_of (row_count o) (o then u) ≡ o
read-used mode bs h o u e = let m = reading-made mode bs h o e in used-then mode (row_count o) none_before o u m.1 ∙ m.2
