-- The set bits of the rows, counted in turn. Assumes nothing.
use mathlib.Core.Path.{◌≡◌, sym, ◌∙◌}
use mathlib.Core.List.{List}
use Prim.Native.Nat.{ℕ, ◌+◌, ◌≤◌, ◌<◌}
use native.Mathlib.Nat.{add_assoc, add-zero}
use lib.ListN.{length, get_or, drop}
use lib.Count.{ones}
use Rattle.laws.proofs.ListLaws.{left, left-none}
use Rattle.grid.specs.Words.{set_bits}

module _ (rows : List ℕ) (i n : ℕ) (q : set_bits rows ≡ n + set_bits (drop i rows)) where
  pub count-on : i < length rows → (k : ℕ) → k ≡ ones (get_or rows i 0) → set_bits rows ≡ n + k + set_bits (drop (i + 1) rows)
  unfolding set_bits
  count-on h k e = q ∙ rw (left rows i 0 h, ← e) (sym (add_assoc n k (set_bits (drop (i + 1) rows))))

  pub count-over : length rows ≤ i → n ≡ set_bits rows
  unfolding set_bits
  count-over h = sym (q ∙ rw (left-none rows i h) (add-zero n))
