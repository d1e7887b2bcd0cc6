-- Eight bytes as one number, a byte to a lane: what the digits among them are worth. Only contracts of private functions speak of it.
-- Assumes nothing: these are definitions.
use Rattle.std.specs.Prelude.{◌≡◌, ℕ, ◌+◌, ◌*◌, ◌/◌, ◌%◌, List, ℤ, bit_and, Some}
use Rattle.record.specs.declared.Mode.TheVariants.{Exact}
use Rattle.number.specs.Number.{real_of}
use Rattle.token.specs.Lex.{lift}

-- 1 in each lane whose byte is odd in its high half: a digit is, a blank and a minus are not
unfoldable pub marks_of : ℕ → ℕ
marks_of word = bit_and (word / 16) 0x0101010101010101

-- the low half of each marked lane, 0 elsewhere: what the digits are worth
unfoldable pub figures_of : ℕ → ℕ → ℕ
figures_of word marks = bit_and word (15 * marks)

-- neighbours are joined in all lanes at once, then every second lane is taken
abbrev pub pairs_of : ℕ → ℕ
pairs_of figures = figures * 10 + figures / 256

unfoldable pub number_of : ℕ → ℕ
number_of figures =
    pairs_of figures % 256 * 1000000 + pairs_of figures / 65536 % 256 * 10000 + pairs_of figures / 4294967296 % 256 * 100
    + pairs_of figures / 281474976710656 % 256

-- the real, lifted, of a content that is exact mode's
pub record Trusted (c : List ℕ) (v : ℕ) : Type 0 where
  pub lifted : (z : ℤ) → real_of Exact c ≡ Some z → v ≡ lift z
