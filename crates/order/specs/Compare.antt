-- How one comes to another, before or after it: document 02, T-01, "by bytes of their code, equal codes by rising exact area". Assumes nothing:
-- these are definitions.
use Rattle.std.specs.Prelude.{ℕ, List, Bool, ℤ}
use Rattle.std.specs.declared.cmp.Ordering.{Ordering}
use Rattle.std.specs.Ordering.{nat_cmp, int_cmp, ordering_then, is_lt, is_gt}
use Rattle.std.specs.Cmp.Lexicographic.{slice_cmp}

-- the second question decides where the first does not
abbrev pub or_else : Ordering → Ordering → Ordering
or_else a b = ordering_then a b

abbrev pub is_before : Ordering → Bool
is_before o = is_lt o

abbrev pub is_after : Ordering → Bool
is_after o = is_gt o

abbrev pub by_number : ℕ → ℕ → Ordering
by_number a b = nat_cmp a b

-- whole numbers of either sign, rising
abbrev pub by_whole : ℤ → ℤ → Ordering
by_whole a b = int_cmp a b

-- "by bytes": unsigned, the first that differ decide, and a beginning comes before its continuation
abbrev pub by_bytes : List ℕ → List ℕ → Ordering
by_bytes a b = slice_cmp nat_cmp a b
