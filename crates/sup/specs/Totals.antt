-- The combined total of a SUP file; for private contracts alone, its high and low parts. Assumes nothing: these are definitions.
use Rattle.std.specs.Prelude.{cond, ℤ, pos, ◌+ℤ◌, Option, Some, None}
use Rattle.std.specs.Int.Signed.{quot_z, rem_z}
use Rattle.sup.specs.Sup.{is_limited}

abbrev pub billion : ℤ
billion = pos 1000000000

unfoldable pub high_sum : ℤ → ℤ → ℤ → ℤ → ℤ
high_sum a b c d = quot_z a billion +ℤ quot_z b billion +ℤ quot_z c billion +ℤ quot_z d billion

unfoldable pub low_sum : ℤ → ℤ → ℤ → ℤ → ℤ
low_sum a b c d = rem_z a billion +ℤ rem_z b billion +ℤ rem_z c billion +ℤ rem_z d billion

-- past the limit it is refused (18)
unfoldable pub total_of : ℤ → Option ℤ
total_of z = cond (is_limited z) (Some z) None
