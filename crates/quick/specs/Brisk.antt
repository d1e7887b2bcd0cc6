-- What the quick way has seen of loose mode's form of a real, or of an integer in a mode that is not exact, from the left. Only contracts of private functions speak of it.
-- Assumes nothing: these are definitions.
use Rattle.std.specs.Prelude.{◌≡◌, ℕ, ◌+◌, ◌^◌, ◌<◌, ◌≤◌, true, false, List, length, take, drop, ℤ, slice_index_or, Some}
use Rattle.laws.specs.Lists.{run, all}
use Rattle.record.specs.declared.Mode.{Mode}
use Rattle.record.specs.Record.{plain, got, line_of}
use Rattle.number.specs.Words.{blank}
use Rattle.number.specs.Number.{digit, value, ended, thousandths, real_of}
use Rattle.token.specs.Lex.{lift}

-- n digits at the front, eight at most, and their number
pub record Leads (u : List ℕ) (n v : ℕ) : Type 0 where
  pub within : n ≤ 8
  pub inside : n ≤ length u
  pub digits : all digit (take n u) ≡ true
  pub number : v ≡ value 0 (take n u)
  pub small : v < 10 ^ n

-- n digits, a point, three digits, and at least one byte more
pub record Worthy (u : List ℕ) (n m : ℕ) : Type 0 where
  pub least : 1 ≤ n
  pub most : n ≤ 8
  pub inside : n + 5 ≤ length u
  pub whole : all digit (take n u) ≡ true
  pub point : slice_index_or u n 0 ≡ 46
  pub places : run digit (take 3 (drop (n + 1) u)) ≡ 3
  pub worth : m ≡ thousandths u n

-- the first e bytes are a real in loose mode, lifted
pub record Briskly (t : List ℕ) (e v : ℕ) : Type 0 where
  pub some : 0 < e
  pub inside : e < length t
  pub bytes : all plain (take e t) ≡ true
  pub z : ℤ
  pub real : real_of Mode.Loose (take e t) ≡ Some z
  pub lifted : v ≡ lift z

-- the first e bytes are k blanks, n digits, one to four, and j bytes that the mode lets stand behind a number
pub record Loosely (mode : Mode) (t : List ℕ) (e v : ℕ) : Type 0 where
  pub k : ℕ
  pub n : ℕ
  pub j : ℕ
  pub blanks : k ≡ run blank t
  pub leads : Leads (drop k t) n v
  pub least : 1 ≤ n
  pub most : n ≤ 4
  pub size : e ≡ k + (n + j)
  pub inside : e < length t
  pub behind : ended mode (take j (drop n (drop k t))) ≡ true
  pub bytes : all plain (take j (drop n (drop k t))) ≡ true

-- w bytes at place e are a line end
pub record EndsAt (t : List ℕ) (e w : ℕ) : Type 0 where
  pub few : w ≤ 2
  pub line : e ≤ 255 → all plain (take e t) ≡ true → line_of Mode.Loose false t ≡ got e (e + w)
