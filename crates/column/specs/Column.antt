-- The column of a malformed number: document 02, T-04. Assumes nothing: these are definitions.
-- For any language, which is a test on lists of bytes. Those of the numbers stand in `Columns`.
use Rattle.std.specs.Prelude.{ℕ, ◌+◌, ◌-◌, ◌≤◌, ◌≡◌, List, ◌++◌, Bool, true, length, take}

-- something accepted begins so, and goes on by `rest`
pub record Beginning (L : List ℕ → Bool) (s : List ℕ) : Type 0 where
  pub rest : List ℕ
  pub accepted : L (s ++ rest) ≡ true

-- "the column, from 1, of the first byte that no accepted number could have there after the same beginning in that mode .. or one past
-- the end if it only stops early": (a) what stands before it is a beginning, (b) with the byte that stands there, if any does, it is none
pub record IsColumn (L : List ℕ → Bool) (s : List ℕ) (c : ℕ) : Type 0 where
  pub from : 1 ≤ c
  pub within : c ≤ length s + 1
  pub goes : Beginning L (take (c - 1) s)
  pub stops : c ≤ length s → Beginning L (take c s) → ⊥
