-- Refusals are located: the record number is that of a record of the file, or one more than the last, and the offset is where it begins. Assumes nothing.
use mathlib.Core.Path.{◌≡◌, sym, ◌∙◌}
use mathlib.Core.List.{List, [], ◌∷◌}
use Prim.Native.Nat.{ℕ, zero, suc, ◌+◌, ◌-◌, ◌≤◌, ◌<◌, min}
use native.Mathlib.Omega.{arith}
use lib.ListN.{length, length-take, length-drop}
use Rattle.laws.specs.Lists.{run}
use Rattle.record.specs.declared.Mode.{Mode}
use Rattle.record.specs.declared.Mode.TheVariants.{Loose, Exact, Former}
use Rattle.record.specs.Record.{not_lf}
use Rattle.record.specs.declared.refusal.Refusal.{Refusal}
use Rattle.sheet.specs.Tables.{Tables}
use Rattle.sheet.specs.Reading.{Sections, read, stop, behind_eof, refused, meaning, records}
use Rattle.sheet.specs.First.{Stage, Given, passed, fault, last, given_by, front_of, past_front, Answers, refuses, passes, finishes}
use Rattle.sheet.proofs.Alone.{given-alone, given-none}
use Rattle.sheet.proofs.First.{meaning-first}

-- ---- places: n records behind the record k, which begins at a

-- the record k' begins at a', and the record before it inside the bytes
pub record Behind (k a : ℕ) (bs : List ℕ) (k' a' : ℕ) : Type 0 where
  pub n : ℕ
  pub record_is : k' ≡ k + n
  pub place_is : a' ≡ a + records n bs
  pub before : 0 < n → records (n - 1) bs < length bs

here : (k a : ℕ) (bs : List ℕ) → Behind k a bs k a
unfolding records
here k a bs = record { n = 0; record_is = omega arith; place_is = omega arith; before = λ h. absurd (omega arith) }

-- one record on
on : (k a : ℕ) (bs : List ℕ) → 0 < length bs → (k' a' : ℕ) → Behind (k + 1) (a + length (front_of bs)) (past_front bs) k' a' → Behind k a bs k' a'
unfolding records
on k a bs some k' a' b =
    record { n = suc b.n; record_is = omega (arith, b.record_is); place_is = b.place_is ∙ rw (← wide) (omega arith); before = λ h. go b.n b.before }
  where
    wide : length (front_of bs) ≡ min (run not_lf bs + 1) (length bs)
    wide = length-take (run not_lf bs + 1) bs

    go : (n : ℕ) → (0 < n → records (n - 1) (past_front bs) < length (past_front bs)) → records (suc n - 1) bs < length bs
    go zero g = some
    go (suc n) g =
        let z : suc (suc n) - 1 ≡ suc n = omega arith in
        let w : suc n - 1 ≡ n = omega arith in
        let r : records (suc n - 1) (past_front bs) < length (past_front bs) = g (omega arith) in
        rw (z, ← wide) (omega (arith, rw w at r, length-drop (length (front_of bs)) bs, wide))

-- ---- an answer's place

abbrev StopAt : ℕ → ℕ → List ℕ → Sections → Type 0
StopAt k a bs (read o eof) = Unit {0}
StopAt k a bs (stop m k' at) = Behind k a bs k' at

stop-on : (k a : ℕ) (bs : List ℕ) → 0 < length bs → (s : Sections) → StopAt (k + 1) (a + length (front_of bs)) (past_front bs) s → StopAt k a bs s
stop-on k a bs h (read o eof) b = tt
stop-on k a bs h (stop m k' at) b = on k a bs h k' at b

ended_at : (mode : Mode) (o : Tables) (eof k a : ℕ) (bs : List ℕ) → StopAt k a bs (behind_eof mode o eof k a bs)
ended_at Exact o eof k a [] = tt
ended_at Exact o eof k a (b ∷ bs) = here k a (b ∷ bs)
ended_at Loose o eof k a bs = tt
ended_at Former o eof k a bs = tt

-- a record that is not cut has bytes
not-cut : (mode : Mode) (w : Stage) (bs : List ℕ) (v : Given) → given_by mode w (front_of bs) ≡ v → (fault Refusal.Cut ≡ v → ⊥) → 0 < length bs
not-cut mode w [] v e n = absurd (n (sym (given-none mode w) ∙ sym (given-alone mode w []) ∙ e))
not-cut mode w (b ∷ bs) v e n = omega arith

answers_at : {mode : Mode} {w : Stage} {k a : ℕ} {bs : List ℕ} {s : Sections} → Answers mode w k a bs s → StopAt k a bs s
answers_at {k = k} {a} {bs} (refuses e) = here k a bs
answers_at {mode} {w} {k} {a} {bs} {s} (passes {w' = w'} e x) =
    stop-on k a bs (not-cut mode w bs (passed w') e (λ q. cc)) s (answers_at x)
answers_at {mode} {w} {k} {a} {bs} (finishes {o = o} e) =
    stop-on k a bs (not-cut mode w bs (last o) e (λ q. cc))
    (behind_eof mode o a (k + 1) (a + length (front_of bs)) (past_front bs)) (ended_at mode o a (k + 1) (a + length (front_of bs)) (past_front bs))

-- **refusals are located**: a refusal's offset is where the record of its number begins, and the record before that one
-- begins inside the file (so the number is that of a record of the file, or one more than the last)
pub meaning-located : (mode : Mode) (bs : List ℕ) (m : Refusal) (k at : ℕ) → meaning mode bs ≡ refused m k at
    → (1 ≤ k) × (at ≡ records (k - 1) bs) × (2 ≤ k → records (k - 2) bs < length bs)
meaning-located mode bs m k at q =
    let b : Behind 1 0 bs k at = answers_at (meaning-first mode bs m k at q) in
    let z : k - 1 ≡ b.n = omega (arith, b.record_is) in
    let w : k - 2 ≡ b.n - 1 = omega (arith, b.record_is) in
    (omega (arith, b.record_is), b.place_is ∙ rw z (omega arith), λ h. rw w (b.before (omega (arith, b.record_is))))
