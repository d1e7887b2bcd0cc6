-- For private contracts alone: lines that were exchanged, two at a time, and how many at the front are in order. Assumes nothing: these are definitions.
use Rattle.std.specs.Prelude.{ℕ, ◌+◌, ◌*◌, ◌≤◌, ◌<◌, ◌≡◌, List, false, length}
use Rattle.laws.specs.Lists.{pasted}
use Rattle.sorting.specs.Lines.{line_width, line_at, bytes_before}

-- line i is a whole one
abbrev pub Inside : List ℕ → ℕ → Type 0
Inside s i = line_width * i + line_width ≤ length s

-- each of two lines where the other stood
unfoldable pub exchanged : List ℕ → ℕ → ℕ → List ℕ
exchanged s i j = pasted (pasted s (line_width * i) (line_at s j)) (line_width * j) (line_at s i)

-- t is s after some exchanges
pub data Exchanges (s : List ℕ) : List ℕ → Type 0 where
  none_yet : Exchanges s s
  one_more : {t u : List ℕ} → Exchanges s t → (i j : ℕ) → i < j → Inside t j → u ≡ exchanged t i j → Exchanges s u

-- of the first n lines none comes before one that stands before it
abbrev pub InOrder : ℕ → List ℕ → Type 0
InOrder n s = (p q : ℕ) → p < q → q < n → bytes_before (line_at s q) (line_at s p) ≡ false
