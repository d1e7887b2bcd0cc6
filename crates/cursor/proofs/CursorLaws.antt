-- The theorems of a cursor: a refusal leaves it where it is, a record moves it on inside the file, and what it never does. Assumes nothing.
use Prim.Native.Nat.{ℕ, zero, suc, ◌≤◌, ◌<◌}
use mathlib.Core.Path.{◌≡◌, refl, ◌∙◌, ap, subst}
use mathlib.Core.List.{List}
use mathlib.Core.Bool.{Bool, false, not, ◌&&◌, ◌||◌}
use native.Mathlib.Omega.{arith}
use lib.ListN.{length, take, drop}
use lib.Dec.{leb, ltb}
use denote.Ref.{Bor}
use Rattle.laws.specs.Lists.{run, all, same}
use Rattle.laws.proofs.Choice.{cond-elim}
use Rattle.std.specs.Prelude.{Result, Ok, Err}
use Rattle.record.specs.Refusals.{file_most, record_most, number_of}
use Rattle.record.specs.declared.Mode.{Mode}
use Rattle.record.specs.declared.Line.{Line}
use Rattle.record.specs.declared.Found.{Found}
use Rattle.record.specs.declared.refusal.Refusal.{Refusal}
use Rattle.record.specs.Record.{is_exact, plain, not_lf, word_eof, ends_cr, content_is, line_is, line_of, found, placed, record_at}
use Rattle.record.specs.RecordView.{Lies}
use Rattle.record.proofs.RecordLaws.{record-long, record-end, record-lies}
use Rattle.cursor.specs.declared.Cursor.{Cursor}
use Rattle.cursor.specs.Cursor.{place_after, at_start, handed, moved_on, passing, nth_from, nth_record}

-- the file's length
abbrev size : Cursor → ℕ
size c = length c.src.now

module _ (c : Cursor) (due : Bool) where
  -- at or past the end of the file it answers 2
  pub at-end : size c ≤ file_most → size c ≤ c.at → handed c due ≡ Err Refusal.Cut
  at-end h k = record-end c.src.now c.at c.mode due h k

  -- for a file that is too long always 1
  pub too_long_lem : file_most < size c → handed c due ≡ Err Refusal.TooLong
  too_long_lem h = record-long c.src.now c.at c.mode due h

  module _ (refusal : Refusal) (e : handed c due ≡ Err refusal) where
    -- a refusal does not move the place
    pub refused-stays : moved_on c due ≡ c
    refused-stays = ap (λ (r : Result Found Refusal). record { src = c.src; at = place_after r c.at; mode = c.mode }) e

    -- so the same request is refused the same way again
    pub refused-again : handed (moved_on c due) due ≡ Err refusal
    refused-again = ap (λ (d : Cursor). handed d due) refused-stays ∙ e

  -- a record that is found is at the place and inside the file, and the place after it is its next one
  pub found-lies : (start len next : ℕ) → handed c due ≡ found start len next → Lies c.src.now c.at start len next × ((moved_on c due).at ≡ next)
  found-lies start len next e = (record-lies c.src.now c.at c.mode due start len next e, ap (λ (r : Result Found Refusal). place_after r c.at) e)

  -- the place never goes back, and never leaves the file
  pub place-on : (c.at ≤ (moved_on c due).at) × (c.at ≤ size c → (moved_on c due).at ≤ size c)
  place-on = go (handed c due) refl
    where
      go : (r : Result Found Refusal) → handed c due ≡ r → (c.at ≤ (moved_on c due).at) × (c.at ≤ size c → (moved_on c due).at ≤ size c)
      go (Ok r) e = let f = found-lies r.start r.len r.next e in (omega (arith, f.0.on, f.1), λ _. omega (arith, f.0.within, f.1))
      go (Err refusal) e = let f = ap (λ (d : Cursor). d.at) (refused-stays refusal e) in (omega arith, λ k. omega arith)

-- ---- the refusals' numbers

abbrev Told : {A : Type 0} → Result A Refusal → Type 0
Told (Ok x) = Unit {0}
Told (Err refusal) = (1 ≤ number_of refusal) × (number_of refusal ≤ 5)

content-told : (body : List ℕ) (width : ℕ) → Told (content_is body width)
unfolding content_is
content-told body width =
    cond-elim Told (leb (length body) record_most) _ _ (λ _. cond-elim Told (all plain body) _ _ (λ _. tt) (λ _. (omega arith, omega arith))) (λ _. (omega arith, omega arith))

line-told : (mode : Mode) (due : Bool) (bs : List ℕ) → Told (line_of mode due bs)
unfolding line_of line_is
line-told mode due bs =
    cond-elim Told (ltb (run not_lf bs) (length bs)) _ _
    (λ _. cond-elim Told (ends_cr (take (run not_lf bs) bs) || not (is_exact mode)) _ _ (λ _. content-told _ _) (λ _. (omega arith, omega arith)))
    (λ _. cond-elim Told (not (is_exact mode) && due && same bs word_eof) _ _ (λ _. tt) (λ _. (omega arith, omega arith)))

found-told : (s : List ℕ) (at : ℕ) (mode : Mode) (due : Bool) → Told (record_at s at mode due)
unfolding record_at
found-told s at mode due = cond-elim Told (leb (length s) file_most) _ _ (λ _. go (line_of mode due (drop at s)) (line-told mode due (drop at s))) (λ _. (omega arith, omega arith))
  where
    go : (l : Result Line Refusal) → Told l → Told (placed at l)
    go (Ok line) p = tt
    go (Err refusal) p = p

-- a cursor refuses by the numbers 1 to 5
pub refused-number : (c : Cursor) (due : Bool) (refusal : Refusal) → handed c due ≡ Err refusal → (1 ≤ number_of refusal) × (number_of refusal ≤ 5)
refused-number c due refusal e = subst Told e (found-told c.src.now c.at c.mode due)

-- ---- the record of a number

-- a cursor after n requests of records that are no keywords
abbrev pub turns : ℕ → Cursor → Cursor
turns zero c = c
turns (suc n) c = turns n (moved_on c false)

module _ (due : Bool) (start len next : ℕ) where
  abbrev Hands : ℕ → Cursor → Type 0
  Hands n c = nth_from c.src.now c.mode due n c.at ≡ found start len next → handed (turns n c) due ≡ found start len next

  hands : (n : ℕ) (c : Cursor) → Hands n c
  unfolding nth_from
  hands zero c e = e
  hands (suc n) c e = go (hands n (moved_on c false)) (handed c false) refl e
    where
      go : Hands n (moved_on c false) → (r : Result Found Refusal) → handed c false ≡ r → passing r (nth_from c.src.now c.mode due n) ≡ found start len next → handed (turns n (moved_on c false)) due ≡ found start len next
      go f (Ok r) q z = f (ap (λ (r : Result Found Refusal). nth_from c.src.now c.mode due n (place_after r c.at)) q ∙ z)
      go f (Err refusal) q z = absurd (let y : ◌≡◌ {A = ℕ} 0 1 = cc in omega arith)

  -- what `nth` finds, a cursor hands out after n requests
  pub nth-handed : (src : Bor (List ℕ)) (mode : Mode) (n : ℕ) → nth_record src.now mode n due ≡ found start len next
      → handed (turns n (at_start src mode)) due ≡ found start len next
  nth-handed src mode n = hands n (at_start src mode)
