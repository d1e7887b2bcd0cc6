-- What the contracts of `remove_row`, `move_sheet`, `cxf_remove` and `cxf_move` permit on some sheets (document 02, T-08): one answer and one content of every lent table. Assumes nothing.
use Prim.Native.Nat.{ℕ}
use mathlib.Core.Path.{◌≡◌, refl, ◌∙◌, ap}
use mathlib.Core.List.{List, [], ◌∷◌, ◌++◌}
use lib.ListN.{take, drop}
use lib.IntN.{ℤ, pos, negsuc}
use Rattle.std.specs.Prelude.{Result, Ok, Err}
use contract.Lifetimes.{Lfts}
use borrow.Fn.World.{ArgsD, ResD}
use denote.Triple.Clauses.{AtExit}
use Rattle.laws.specs.Text.{text}
use Rattle.heading.specs.declared.Header.{Header}
use Rattle.heading.specs.Heading.{no_header}
use Rattle.sheet.specs.Tables.{Tables, empty}
use Rattle.made.specs.declared.Flaw.TheVariants.{BadHeader, Faulty}
use Rattle.made.specs.Made.{tables_of}
use Rattle.made.specs.Examples.{placed}
use Rattle.edit.specs.declared.Unedited.{Unedited}
use Rattle.edit.specs.declared.Unedited.TheVariants.{Missing, MovedOff, Refused}
use Rattle.edit.specs.Answers.{tables_at}
use Rattle.edit.specs.Removals.{removed_tables, remove_of}
use Rattle.edit.specs.RemoveExamples.{computed as computed_removal}
use Rattle.edit.specs.Moves.{moved_tables, move_of}
use Rattle.edit.specs.MoveExamples.{row, sheet_of, computed as computed_move}
use Rattle.edit.specs.contracts.removing.remove_row as remove-row
use Rattle.edit.proofs.removing.remove_row.Reads as remove-reads
use Rattle.edit.specs.contracts.moving.move_sheet as move-sheet
use Rattle.edit.proofs.moving.move_sheet.Reads as move-reads
use Rattle.told.specs.declared.edits.CxfEdited.{CxfEdited}
use Rattle.told.specs.Asked.{header_of}
use Rattle.told.specs.Edits.{edit_laid, edit_told}
use Rattle.cabi.specs.contracts.cxf_remove as cxf-remove
use Rattle.cabi.proofs.cxf_remove.Reads as cxf-remove-reads
use Rattle.cabi.specs.contracts.cxf_move as cxf-move
use Rattle.cabi.proofs.cxf_move.Reads as cxf-move-reads
use Rattle.permits.proofs.SmallSheets.{Lent, header, no_kind, long_name, in-C, no-kind-in-C, long-name-in-C, small, faulty, false_start}
use Rattle.permits.proofs.Readings.{four}

-- ---- a row taken out, computed

-- what is answered, and what the tables hold at exit
abbrev removal : Header → ℕ → Tables → ℕ → Result ℕ Unedited × Tables
removal h count t k = (remove_of h count t k, tables_at (remove_of h count t k) (removed_tables count k t) t)

-- the parcel of four rows: the text and the building close up, their starts less a letter, an island count and nine points; then the freed tails as they were
abbrev pub no_parcel : Tables
no_parcel =
    tables_of (take 15 small.rows ++ (placed 2 0 0 (drop 30 small.rows) ++ (placed 5 0 0 (drop 45 small.rows) ++ drop 45 small.rows))) (text "S7(7)8++") (4 ∷ [])
    (drop 18 small.points ++ drop 10 small.points)

parcel-out : removal header 4 small 1 ≡ (Ok 3, no_parcel)
unfolding computed_removal
parcel-out = refl

-- the same where three rows are used: the building stands behind them and stays where it is, and its letters and points
abbrev pub no_parcel_of_three : Tables
no_parcel_of_three = tables_of (take 15 small.rows ++ (placed 2 0 0 (drop 30 small.rows) ++ drop 30 small.rows)) (text "S7(7))8+") (4 ∷ []) small.points

parcel-of-three-out : removal header 3 small 1 ≡ (Ok 2, no_parcel_of_three)
unfolding computed_removal
parcel-of-three-out = refl

-- the first row, a text of two letters
abbrev pub no_text : Tables
no_text =
    tables_of (placed 0 0 0 (drop 15 small.rows) ++ (placed 1 1 9 (drop 30 small.rows) ++ (placed 4 1 9 (drop 45 small.rows) ++ drop 45 small.rows))) (text "9(7)8+8+") (4 ∷ []) small.points

text_out : removal header 4 small 0 ≡ (Ok 3, no_text)
unfolding computed_removal
text_out = refl

-- the last row, and the only one: all that they held is freed
last_out : removal header 4 small 3 ≡ (Ok 3, small)
unfolding computed_removal
last_out = refl

only_out : removal header 1 small 0 ≡ (Ok 0, small)
unfolding computed_removal
only_out = refl

-- 6, then 15, then 19
headed : removal no_kind 4 faulty 4 ≡ (Err (Refused BadHeader), faulty)
unfolding computed_removal
headed = refl

unnamed : removal no_header 4 small 1 ≡ (Err (Refused BadHeader), small)
unfolding computed_removal
unnamed = refl

made : removal header 4 faulty 4 ≡ (Err (Refused (Faulty 3)), faulty)
unfolding computed_removal
made = refl

misplaced : removal header 4 false_start 0 ≡ (Err (Refused (Faulty 3)), false_start)
unfolding computed_removal
misplaced = refl

past-rows : removal header 4 small 4 ≡ (Err Missing, small)
unfolding computed_removal
past-rows = refl

no_rows : removal header 0 small 0 ≡ (Err Missing, small)
unfolding computed_removal
no_rows = refl

-- ---- `remove_row`

module _ (κs : Lfts 4) (a : ArgsD remove-row.signature κs) (r : ResD remove-row.signature κs) (e : AtExit remove-row.ended κs) where
  -- the tables at exit
  abbrev pub remove_left : Tables
  remove_left = tables_of e.1.1.0.now e.1.1.1.0.now e.1.1.1.1.0.now e.1.1.1.1.1.0.now

  abbrev pub Removes : Header → ℕ → Tables → ℕ → Result ℕ Unedited × Tables → Type 0
  Removes h count t k x = a.0 ≡ h → Lent count t a.1.0 a.1.1.0.now a.1.1.1.0.now a.1.1.1.1.0.now a.1.1.1.1.1.0.now → a.1.1.1.1.1.1.0 ≡ k → remove-reads.Learnt κs a r e → (r ≡ x.0) × (remove_left ≡ x.1)

  removes : {h : Header} {count : ℕ} {t : Tables} {k : ℕ} {x : Result ℕ Unedited × Tables} → removal h count t k ≡ x → Removes h count t k x
  removes {h} {count} {t} {k} q p d n post =
      let y : r ≡ remove_of h count t k = post.0 ∙ rw (p, d.count-is, d.rows_are, d.letters-are, d.islands-are, d.points-are, n) refl in (
        y ∙ ap (λ (z : Result ℕ Unedited × Tables). z.0) q,
        four (post.1.0 ∙ rw (y, d.count-is, d.rows_are, d.letters-are, d.islands-are, d.points-are, n) refl) (post.1.1.0 ∙ rw (y, d.count-is, d.rows_are, d.letters-are, d.islands-are, d.points-are, n) refl)
            (post.1.1.1.0 ∙ rw (y, d.count-is, d.rows_are, d.letters-are, d.islands-are, d.points-are, n) refl) (post.1.1.1.1 ∙ rw (y, d.count-is, d.rows_are, d.letters-are, d.islands-are, d.points-are, n) refl)
            ∙ ap (λ (z : Result ℕ Unedited × Tables). z.1) q,
      )

  pub remove-parcel : Removes header 4 small 1 (Ok 3, no_parcel)
  remove-parcel = removes parcel-out

  -- shuts out a removal that touches what stands behind the used part
  pub remove-of-three : Removes header 3 small 1 (Ok 2, no_parcel_of_three)
  remove-of-three = removes parcel-of-three-out

  pub remove_first : Removes header 4 small 0 (Ok 3, no_text)
  remove_first = removes text_out

  -- shuts out a removal that clears the freed tail
  pub remove-last : Removes header 4 small 3 (Ok 3, small)
  remove-last = removes last_out

  pub remove-only : Removes header 1 small 0 (Ok 0, small)
  remove-only = removes only_out

  pub remove-bad-header : Removes no_kind 4 faulty 4 (Err (Refused BadHeader), faulty)
  remove-bad-header = removes headed

  pub remove-faulty-row : Removes header 4 faulty 4 (Err (Refused (Faulty 3)), faulty)
  remove-faulty-row = removes made

  pub remove-false-start : Removes header 4 false_start 0 (Err (Refused (Faulty 3)), false_start)
  remove-false-start = removes misplaced

  pub remove-no-row : Removes header 4 small 4 (Err Missing, small)
  remove-no-row = removes past-rows

  pub remove-of-none : Removes header 0 small 0 (Err Missing, small)
  remove-of-none = removes no_rows

-- ---- `cxf_remove`

module _ (κs : Lfts 5) (a : ArgsD cxf-remove.signature κs) (r : ResD cxf-remove.signature κs) (e : AtExit cxf-remove.ended κs) where
  abbrev pub cxf_remove_left : Tables
  cxf_remove_left = tables_of e.1.1.1.1.0.now e.1.1.1.1.1.0.now e.1.1.1.1.1.1.0.now e.1.1.1.1.1.1.1.0.now

  abbrev pub CxfRemoves : Header → ℕ → Tables → ℕ → CxfEdited × Tables → Type 0
  CxfRemoves h count t k x =
      a.0 ≡ h.kind → a.1.0.now ≡ h.name → a.1.1.0 ≡ h.scale → Lent count t a.1.1.1.0 a.1.1.1.1.0.now a.1.1.1.1.1.0.now a.1.1.1.1.1.1.0.now a.1.1.1.1.1.1.1.0.now → a.1.1.1.1.1.1.1.1.0 ≡ k → cxf-remove-reads.Learnt κs a r e
      → (r ≡ x.0) × (cxf_remove_left ≡ x.1)

  cxf-removes : {h h' : Header} {count : ℕ} {t : Tables} {k : ℕ} {x : Result ℕ Unedited × Tables} → header_of h.kind h.name h.scale ≡ h' → removal h' count t k ≡ x
      → CxfRemoves h count t k (edit_told x.0, x.1)
  cxf-removes p q kind name scale d n post = (
    post.0 ∙ rw (kind, name, scale, d.count-is, d.rows_are, d.letters-are, d.islands-are, d.points-are, n, p) (ap (λ (z : Result ℕ Unedited × Tables). edit_told z.0) q),
    four (post.1.0 ∙ rw (kind, name, scale, d.count-is, d.rows_are, d.letters-are, d.islands-are, d.points-are, n, p) refl)
        (post.1.1.0 ∙ rw (kind, name, scale, d.count-is, d.rows_are, d.letters-are, d.islands-are, d.points-are, n, p) refl)
        (post.1.1.1.0 ∙ rw (kind, name, scale, d.count-is, d.rows_are, d.letters-are, d.islands-are, d.points-are, n, p) refl)
        (post.1.1.1.1 ∙ rw (kind, name, scale, d.count-is, d.rows_are, d.letters-are, d.islands-are, d.points-are, n, p) refl)
        ∙ ap (λ (z : Result ℕ Unedited × Tables). z.1) q,
  )

  pub cxf-remove-parcel : CxfRemoves header 4 small 1 (edit_laid 0 0 3, no_parcel)
  cxf-remove-parcel = cxf-removes in-C parcel-out

  pub cxf-remove-of-three : CxfRemoves header 3 small 1 (edit_laid 0 0 2, no_parcel_of_three)
  cxf-remove-of-three = cxf-removes in-C parcel-of-three-out

  pub cxf-remove-last : CxfRemoves header 4 small 3 (edit_laid 0 0 3, small)
  cxf-remove-last = cxf-removes in-C last_out

  pub cxf-remove-bad-header : CxfRemoves no_kind 4 faulty 4 (edit_laid 6 0 0, faulty)
  cxf-remove-bad-header = cxf-removes no-kind-in-C headed

  -- a name of 12 bytes is no name
  pub cxf-remove-long-name : CxfRemoves long_name 4 small 1 (edit_laid 6 0 0, small)
  cxf-remove-long-name = cxf-removes long-name-in-C unnamed

  pub cxf-remove-faulty-row : CxfRemoves header 4 faulty 4 (edit_laid 15 3 0, faulty)
  cxf-remove-faulty-row = cxf-removes in-C made

  pub cxf-remove-no-row : CxfRemoves header 4 small 4 (edit_laid 19 0 0, small)
  cxf-remove-no-row = cxf-removes in-C past-rows

-- ---- a sheet that is moved, computed: a text, and a line from (z, 0) to (9, 0), in tables that hold more

abbrev move : Header → ℕ → Tables → ℤ → ℤ → Result ℕ Unedited × Tables
move h count t dx dy = (move_of h count t dx dy, tables_at (move_of h count t dx dy) (moved_tables dx dy count t) t)

abbrev pub text_and_line : ℤ → ℤ → List ℤ → Tables
text_and_line x y points =
    tables_of (row 2 (pos 18) (pos 4) x y (pos 0) (pos 0) 1 0 0 0 0 0 ++ row 5 (pos 0) (pos 0) (pos 0) (pos 0) (pos 0) (pos 0) 0 0 2 1 0 0 ++ pos 77 ∷ []) (text "7?") (4 ∷ []) points

-- both rows, and what stands behind their points stays
both-moved : move header 2 (sheet_of (pos 3000) (negsuc 4) (pos 0)) (pos 1000) (negsuc 1) ≡ (Ok 2, text_and_line (pos 4000) (negsuc 6) (pos 1000 ∷ negsuc 1 ∷ pos 1009 ∷ negsuc 1 ∷ pos 5 ∷ []))
unfolding computed_move
both-moved = refl

-- a vertex that just stays, and one that just leaves; the same of a position
vertex-stays : move header 2 (sheet_of (pos 0) (pos 0) (pos 0)) (pos 99999999990) (pos 0) ≡ (Ok 2, text_and_line (pos 99999999990) (pos 0) (pos 99999999990 ∷ pos 0 ∷ pos 99999999999 ∷ pos 0 ∷ pos 5 ∷ []))
unfolding computed_move
vertex-stays = refl

vertex-leaves : move header 2 (sheet_of (pos 0) (pos 0) (pos 0)) (pos 99999999991) (pos 0) ≡ (Err MovedOff, sheet_of (pos 0) (pos 0) (pos 0))
unfolding computed_move
vertex-leaves = refl

position-stays : move header 1 (sheet_of (pos 0) (pos 0) (pos 0)) (pos 0) (negsuc 9999999998) ≡ (Ok 1, text_and_line (pos 0) (negsuc 9999999998) (pos 0 ∷ pos 0 ∷ pos 9 ∷ pos 0 ∷ pos 5 ∷ []))
unfolding computed_move
position-stays = refl

position-leaves : move header 1 (sheet_of (pos 0) (pos 0) (pos 0)) (pos 0) (negsuc 9999999999) ≡ (Err MovedOff, sheet_of (pos 0) (pos 0) (pos 0))
unfolding computed_move
position-leaves = refl

-- from one end of the real range to the other; one millimetre more is too far, also for a sheet of no rows
whole-range : move header 1 (sheet_of (negsuc 9999999998) (pos 99999999999) (pos 0)) (pos 109999999998) (negsuc 109999999997)
    ≡ (Ok 1, text_and_line (pos 99999999999) (negsuc 9999999998) (pos 0 ∷ pos 0 ∷ pos 9 ∷ pos 0 ∷ pos 5 ∷ []))
unfolding computed_move
whole-range = refl

none-moved : move header 0 empty (pos 109999999998) (negsuc 109999999997) ≡ (Ok 0, empty)
unfolding computed_move
none-moved = refl

none-too-far : move header 0 empty (pos 109999999999) (pos 0) ≡ (Err MovedOff, empty)
unfolding computed_move
none-too-far = refl

none-too-far-down : move header 0 empty (pos 0) (negsuc 109999999998) ≡ (Err MovedOff, empty)
unfolding computed_move
none-too-far-down = refl

-- 6, then 15, then 24
move-headed : move no_kind 3 (sheet_of (pos 0) (pos 0) (pos 0)) (pos 109999999999) (pos 0) ≡ (Err (Refused BadHeader), sheet_of (pos 0) (pos 0) (pos 0))
unfolding computed_move
move-headed = refl

move-unnamed : move no_header 2 (sheet_of (pos 0) (pos 0) (pos 0)) (pos 1) (pos 0) ≡ (Err (Refused BadHeader), sheet_of (pos 0) (pos 0) (pos 0))
unfolding computed_move
move-unnamed = refl

move-made : move header 3 (sheet_of (pos 0) (pos 0) (pos 0)) (pos 109999999999) (pos 0) ≡ (Err (Refused (Faulty 2)), sheet_of (pos 0) (pos 0) (pos 0))
unfolding computed_move
move-made = refl

-- ---- `move_sheet`

module _ (κs : Lfts 4) (a : ArgsD move-sheet.signature κs) (r : ResD move-sheet.signature κs) (e : AtExit move-sheet.ended κs) where
  -- of the tables at exit, those that may be altered
  abbrev pub Moves : Header → ℕ → Tables → ℤ → ℤ → Result ℕ Unedited × Tables → Type 0
  Moves h count t dx dy x =
      a.0 ≡ h → Lent count t a.1.0 a.1.1.0.now a.1.1.1.0.now a.1.1.1.1.0.now a.1.1.1.1.1.0.now → a.1.1.1.1.1.1.0 ≡ dx → a.1.1.1.1.1.1.1.0 ≡ dy → move-reads.Learnt κs a r e
      → (r ≡ x.0) × (e.1.1.0.now ≡ x.1.rows) × (e.1.1.1.1.1.0.now ≡ x.1.points)

  moves : {h : Header} {count : ℕ} {t : Tables} {dx dy : ℤ} {x : Result ℕ Unedited × Tables} → move h count t dx dy ≡ x → Moves h count t dx dy x
  moves {h} {count} {t} {dx} {dy} q p d u v post =
      let y : r ≡ move_of h count t dx dy = post.0 ∙ rw (p, d.count-is, d.rows_are, d.letters-are, d.islands-are, d.points-are, u, v) refl in (
        y ∙ ap (λ (z : Result ℕ Unedited × Tables). z.0) q,
        post.1.0 ∙ rw (y, d.count-is, d.rows_are, d.letters-are, d.islands-are, d.points-are, u, v) (ap (λ (z : Result ℕ Unedited × Tables). z.1.rows) q),
        post.1.1 ∙ rw (y, d.count-is, d.rows_are, d.letters-are, d.islands-are, d.points-are, u, v) (ap (λ (z : Result ℕ Unedited × Tables). z.1.points) q),
      )

  pub move-both : Moves header 2 (sheet_of (pos 3000) (negsuc 4) (pos 0)) (pos 1000) (negsuc 1) (Ok 2, text_and_line (pos 4000) (negsuc 6) (pos 1000 ∷ negsuc 1 ∷ pos 1009 ∷ negsuc 1 ∷ pos 5 ∷ []))
  move-both = moves both-moved

  pub move-vertex-stays : Moves header 2 (sheet_of (pos 0) (pos 0) (pos 0)) (pos 99999999990) (pos 0) (Ok 2, text_and_line (pos 99999999990) (pos 0) (pos 99999999990 ∷ pos 0 ∷ pos 99999999999 ∷ pos 0 ∷ pos 5 ∷ []))
  move-vertex-stays = moves vertex-stays

  pub move-vertex-leaves : Moves header 2 (sheet_of (pos 0) (pos 0) (pos 0)) (pos 99999999991) (pos 0) (Err MovedOff, sheet_of (pos 0) (pos 0) (pos 0))
  move-vertex-leaves = moves vertex-leaves

  pub move-position-stays : Moves header 1 (sheet_of (pos 0) (pos 0) (pos 0)) (pos 0) (negsuc 9999999998) (Ok 1, text_and_line (pos 0) (negsuc 9999999998) (pos 0 ∷ pos 0 ∷ pos 9 ∷ pos 0 ∷ pos 5 ∷ []))
  move-position-stays = moves position-stays

  pub move-position-leaves : Moves header 1 (sheet_of (pos 0) (pos 0) (pos 0)) (pos 0) (negsuc 9999999999) (Err MovedOff, sheet_of (pos 0) (pos 0) (pos 0))
  move-position-leaves = moves position-leaves

  -- shuts out a limit on the pair that is less than the width of the real range
  pub move-whole-range : Moves header 1 (sheet_of (negsuc 9999999998) (pos 99999999999) (pos 0)) (pos 109999999998) (negsuc 109999999997)
      (Ok 1, text_and_line (pos 99999999999) (negsuc 9999999998) (pos 0 ∷ pos 0 ∷ pos 9 ∷ pos 0 ∷ pos 5 ∷ []))
  move-whole-range = moves whole-range

  pub move-none : Moves header 0 empty (pos 109999999998) (negsuc 109999999997) (Ok 0, empty)
  move-none = moves none-moved

  pub move-none-too-far : Moves header 0 empty (pos 109999999999) (pos 0) (Err MovedOff, empty)
  move-none-too-far = moves none-too-far

  pub move-none-too-far-down : Moves header 0 empty (pos 0) (negsuc 109999999998) (Err MovedOff, empty)
  move-none-too-far-down = moves none-too-far-down

  pub move-bad-header : Moves no_kind 3 (sheet_of (pos 0) (pos 0) (pos 0)) (pos 109999999999) (pos 0) (Err (Refused BadHeader), sheet_of (pos 0) (pos 0) (pos 0))
  move-bad-header = moves move-headed

  pub move-faulty-row : Moves header 3 (sheet_of (pos 0) (pos 0) (pos 0)) (pos 109999999999) (pos 0) (Err (Refused (Faulty 2)), sheet_of (pos 0) (pos 0) (pos 0))
  move-faulty-row = moves move-made

-- ---- `cxf_move`

module _ (κs : Lfts 5) (a : ArgsD cxf-move.signature κs) (r : ResD cxf-move.signature κs) (e : AtExit cxf-move.ended κs) where
  abbrev pub cxf_move_left : Tables
  cxf_move_left = tables_of e.1.1.1.1.0.now e.1.1.1.1.1.0.now e.1.1.1.1.1.1.0.now e.1.1.1.1.1.1.1.0.now

  abbrev pub CxfMoves : Header → ℕ → Tables → ℤ → ℤ → CxfEdited × Tables → Type 0
  CxfMoves h count t dx dy x =
      a.0 ≡ h.kind → a.1.0.now ≡ h.name → a.1.1.0 ≡ h.scale → Lent count t a.1.1.1.0 a.1.1.1.1.0.now a.1.1.1.1.1.0.now a.1.1.1.1.1.1.0.now a.1.1.1.1.1.1.1.0.now → a.1.1.1.1.1.1.1.1.0 ≡ dx → a.1.1.1.1.1.1.1.1.1.0 ≡ dy
      → cxf-move-reads.Learnt κs a r e → (r ≡ x.0) × (cxf_move_left ≡ x.1)

  -- letters and island counts are those of the sheet
  cxf-moves : {h h' : Header} {count : ℕ} {t u : Tables} {dx dy : ℤ} {x : Result ℕ Unedited} → header_of h.kind h.name h.scale ≡ h' → move h' count t dx dy ≡ (x, u) → t.letters ≡ u.letters
      → t.islands ≡ u.islands → CxfMoves h count t dx dy (edit_told x, u)
  cxf-moves p q l i kind name scale d v w post = (
    post.0 ∙ rw (kind, name, scale, d.count-is, d.rows_are, d.letters-are, d.islands-are, d.points-are, v, w, p) (ap (λ (z : Result ℕ Unedited × Tables). edit_told z.0) q),
    four (post.1.0 ∙ rw (kind, name, scale, d.count-is, d.rows_are, d.letters-are, d.islands-are, d.points-are, v, w, p) (ap (λ (z : Result ℕ Unedited × Tables). z.1.rows) q))
        (post.1.1.0 ∙ d.letters-are ∙ l) (post.1.1.1.0 ∙ d.islands-are ∙ i)
        (post.1.1.1.1 ∙ rw (kind, name, scale, d.count-is, d.rows_are, d.letters-are, d.islands-are, d.points-are, v, w, p) (ap (λ (z : Result ℕ Unedited × Tables). z.1.points) q)),
  )

  pub cxf-move-both : CxfMoves header 2 (sheet_of (pos 3000) (negsuc 4) (pos 0)) (pos 1000) (negsuc 1) (edit_laid 0 0 2, text_and_line (pos 4000) (negsuc 6) (pos 1000 ∷ negsuc 1 ∷ pos 1009 ∷ negsuc 1 ∷ pos 5 ∷ []))
  cxf-move-both = cxf-moves in-C both-moved refl refl

  pub cxf-move-vertex-leaves : CxfMoves header 2 (sheet_of (pos 0) (pos 0) (pos 0)) (pos 99999999991) (pos 0) (edit_laid 24 0 0, sheet_of (pos 0) (pos 0) (pos 0))
  cxf-move-vertex-leaves = cxf-moves in-C vertex-leaves refl refl

  pub cxf-move-whole-range : CxfMoves header 1 (sheet_of (negsuc 9999999998) (pos 99999999999) (pos 0)) (pos 109999999998) (negsuc 109999999997)
      (edit_laid 0 0 1, text_and_line (pos 99999999999) (negsuc 9999999998) (pos 0 ∷ pos 0 ∷ pos 9 ∷ pos 0 ∷ pos 5 ∷ []))
  cxf-move-whole-range = cxf-moves in-C whole-range refl refl

  pub cxf-move-none-too-far : CxfMoves header 0 empty (pos 109999999999) (pos 0) (edit_laid 24 0 0, empty)
  cxf-move-none-too-far = cxf-moves in-C none-too-far refl refl

  pub cxf-move-bad-header : CxfMoves no_kind 3 (sheet_of (pos 0) (pos 0) (pos 0)) (pos 109999999999) (pos 0) (edit_laid 6 0 0, sheet_of (pos 0) (pos 0) (pos 0))
  cxf-move-bad-header = cxf-moves no-kind-in-C move-headed refl refl

  -- a name of 12 bytes is no name
  pub cxf-move-long-name : CxfMoves long_name 2 (sheet_of (pos 0) (pos 0) (pos 0)) (pos 1) (pos 0) (edit_laid 6 0 0, sheet_of (pos 0) (pos 0) (pos 0))
  cxf-move-long-name = cxf-moves long-name-in-C move-unnamed refl refl

  pub cxf-move-faulty-row : CxfMoves header 3 (sheet_of (pos 0) (pos 0) (pos 0)) (pos 109999999999) (pos 0) (edit_laid 15 2 0, sheet_of (pos 0) (pos 0) (pos 0))
  cxf-move-faulty-row = cxf-moves in-C move-made refl refl
