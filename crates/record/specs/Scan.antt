-- Where the scan for a record's end stands, for private contracts. Assumes nothing: these are definitions.
use Rattle.std.specs.Prelude.{ℕ, ◌+◌, ◌<◌, ◌≡◌, List, Bool, false, ◌&&◌, length, get_or, eqb}
use Rattle.laws.specs.Lists.{run}
use Rattle.record.specs.Record.{plain}

-- a CR and an LF stand at `n`
unfoldable pub crlf_at : List ℕ → ℕ → Bool
crlf_at bs n = eqb (get_or bs n 0) 13 && eqb (get_or bs (n + 1) 0) 10

-- the first byte that a content may not hold stands at `n`, and is no line end
pub record Spoilt (bs : List ℕ) (n : ℕ) : Type 0 where
  pub front : n ≡ run plain bs
  pub inside : n < length bs
  pub no_lf : get_or bs n 0 ≡ 10 → ⊥
  pub no_end : crlf_at bs n ≡ false
