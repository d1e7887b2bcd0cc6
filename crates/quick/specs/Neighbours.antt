-- A record judged by pairs of neighbouring bytes, from the LF before it on: which byte may stand behind which in exact mode's form of a real. Only contracts of private functions speak of it.
-- Assumes nothing: these are definitions.
use Rattle.std.specs.Prelude.{◌≡◌, ℕ, ◌+◌, ◌-◌, ◌≤◌, Bool, not, ◌&&◌, ◌||◌, List, take, drop, ◌==◌, slice_index, slice_index_or}
use Rattle.laws.specs.Lists.{run}
use Rattle.record.specs.declared.Mode.{Mode}
use Rattle.number.specs.Number.{digit}
use Rattle.quick.specs.Seen.{Ender, Usual}

-- behind a digit a digit, behind any other byte a digit that is no zero, behind a blank or the LF before the record a blank or a minus too
unfoldable pub follows : ℕ → ℕ → Bool
follows a b = (digit b && (digit a || not (b == 48))) || ((a == 32 || a == 10) && (b == 32 || b == 45))

-- the bytes at place i and behind it
abbrev pub pair_at : List ℕ → ℕ → Bool
pair_at c i = follows (slice_index c i) (slice_index c (i + 1))

-- no blank and no minus before the point, the point, three digits behind it, and the two bytes of a line end that are asked for
pub record Tailed (s : List ℕ) (at width end : ℕ) : Type 0 where
  pub units : 48 ≤ slice_index s (at + 7)
  pub point : slice_index_or s (at + 8) 0 ≡ 46
  pub places : run digit (drop 9 (take 12 (drop at s))) ≡ 3
  pub ender : slice_index_or s (at + 12) 0 ≡ end
  pub last : slice_index_or s (at + (width - 1)) 0 ≡ 10

-- n records from `at` on, whose line end begins with `end`
pub record Judged (s : List ℕ) (at width end n : ℕ) : Type 0 where
  pub usual : (mode : Mode) → Ender mode width end → Usual mode s at width n
