-- One lemma for each way through the code of `nth`, its premises the facts that the code has there. Assumes nothing.
use Prim.Native.Nat.{ℕ, suc, ◌+◌, ◌-◌, ◌<◌, ◌≤◌}
use mathlib.Core.Path.{◌≡◌, sym, ◌∙◌, ap}
use mathlib.Core.Bool.{Bool, false}
use native.Mathlib.Omega.{arith}
use Rattle.std.proofs.Common.{Result, Ok, Err}
use Rattle.record.specs.declared.Found.{Found}
use Rattle.record.specs.declared.refusal.Refusal.{Refusal}
use Rattle.cursor.specs.declared.Cursor.{Cursor}
use Rattle.cursor.specs.Cursor.{handed, moved_on, passing, nth_from}

-- `w` is wanted: from the cursor on, the record of the number that is left after `i` of `n`
module _ (due : Bool) (n i : ℕ) (c : Cursor) (w : Result Found Refusal) (left : w ≡ nth_from c.src.now c.mode due (n - i) c.at) where
  turn : i < n → w ≡ passing (handed c false) (nth_from c.src.now c.mode due (n - (i + 1)))
  unfolding nth_from
  turn h = let e : n - i ≡ suc (n - (i + 1)) = omega arith in left ∙ ap (λ (k : ℕ). nth_from c.src.now c.mode due k c.at) e

  pub nth_on : i < n → {f : Found} {d : Cursor} → handed c false ≡ Ok f → d ≡ moved_on c false → w ≡ nth_from d.src.now d.mode due (n - (i + 1)) d.at
  nth_on h {f} {d} e q =
      turn h
      ∙ ap (λ (r : Result Found Refusal). passing r (nth_from c.src.now c.mode due (n - (i + 1)))) e
      ∙ rw (q, e)

  pub nth-refused : i < n → {e : Refusal} → handed c false ≡ Err e → Err e ≡ w
  nth-refused h e = sym (turn h ∙ ap (λ (r : Result Found Refusal). passing r (nth_from c.src.now c.mode due (n - (i + 1)))) e)

  pub nth_last : n ≤ i → handed c due ≡ w
  unfolding nth_from
  nth_last h = let e : n - i ≡ 0 = omega arith in sym (left ∙ ap (λ (k : ℕ). nth_from c.src.now c.mode due k c.at) e)
