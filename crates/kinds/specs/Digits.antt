-- The fields and the listed codes of a kind, each as one number. For private contracts alone. Assumes nothing: these are definitions.
use Rattle.std.specs.Prelude.{ℕ, ◌+◌, ◌*◌, ◌/◌, ◌%◌, ◌^◌, Bool, cond, eqb}
use Rattle.laws.specs.Lists.{below}
use Rattle.kinds.specs.Kinds.{own_width, next_of, is_listed}

-- hex digit p, from the right, is the place that follows p
abbrev pub is_next_at : ℕ → ℕ → ℕ → Bool
is_next_at kind n p = eqb (n / 2 ^ (4 * p) % 16) (next_of kind p)

unfoldable pub are_nexts : ℕ → ℕ → Bool
are_nexts kind n = below own_width (is_next_at kind n)

-- bit c, from the right, is 1 where code c is listed
abbrev pub is_code_at : ℕ → ℕ → ℕ → Bool
is_code_at kind n c = eqb (n / 2 ^ c % 2) (cond (is_listed kind c) 1 0)

-- no code above it is listed
abbrev pub code_most : ℕ
code_most = 35

unfoldable pub are_codes : ℕ → ℕ → Bool
are_codes kind n = below (code_most + 1) (is_code_at kind n)
