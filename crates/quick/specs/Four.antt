-- What the quick way has seen of the four bytes of a content, exact mode's form of an integer. Only contracts of private functions speak of it.
-- Assumes nothing: these are definitions.
use Rattle.std.specs.Prelude.{◌≡◌, ℕ, ◌+◌, ◌≤◌, Bool, true, false, ◌&&◌, ◌||◌, List, length, take, drop, ◌==◌, nat_le}
use Rattle.laws.specs.Lists.{all}
use Rattle.record.specs.declared.Mode.{Mode}
use Rattle.record.specs.Record.{plain, got, line_of}
use Rattle.number.specs.Number.{digit}

-- a digit that may stand first of several
unfoldable pub lead : ℕ → Bool
lead b = nat_le 49 b && nat_le b 57

-- what may stand before the last digit: behind two blanks a blank or a digit, else two digits behind a blank, or three
unfoldable pub is_two : ℕ → Bool
is_two c = c == 32 || lead c

unfoldable pub is_long : ℕ → ℕ → ℕ → Bool
is_long a b c = digit c && (a == 32 && lead b || lead a && digit b)

-- a line end stands behind 4 characters
pub record FourEnds (mode : Mode) (s : List ℕ) (at width : ℕ) : Type 0 where
  pub inside : at + 6 ≤ length s
  pub line : all plain (take 4 (drop at s)) ≡ true → line_of mode false (drop at s) ≡ got 4 width
