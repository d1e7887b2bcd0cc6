-- What the quick way has seen of the twelve bytes of a content, exact mode's form of a real. Only contracts of private functions speak of it.
-- Assumes nothing: these are definitions.
use Rattle.std.specs.Prelude.{◌≡◌, ℕ, ◌+◌, ◌-◌, ◌*◌, ◌<◌, ◌≤◌, true, List, length, take, drop, ℤ, Some}
use Rattle.laws.specs.Lists.{run, all}
use Rattle.record.specs.declared.Mode.TheVariants as Mode
use Rattle.record.specs.Record.{plain}
use Rattle.number.specs.Number.{digit, value, lean, real_of}
use Rattle.token.specs.Lex.{lift}

-- what stands from place i up to place 8
abbrev pub to_point : List ℕ → ℕ → List ℕ
to_point c i = take (8 - i) (drop i c)

-- digits from place i up to place 8, and their number
pub record Front (c : List ℕ) (i v : ℕ) : Type 0 where
  pub within : i ≤ 8
  pub digits : all digit (take (8 - i) (drop i c)) ≡ true
  pub number : v ≡ value 0 (take (8 - i) (drop i c))
  pub small : v < 100000000

-- digits from place d to a point at place 8, and three more
pub record Figures (c : List ℕ) (d m : ℕ) : Type 0 where
  pub some : d ≤ 7
  pub whole : run digit (drop d c) ≡ 8 - d
  pub places : run digit (drop 9 c) ≡ 3
  pub thin : lean (drop d c) (8 - d) ≡ true
  pub worth : m ≡ value 0 (take (8 - d) (drop d c)) * 1000 + value 0 (take 3 (drop 9 c))

pub record Figured (c : List ℕ) (d : ℕ) : Type 0 where
  pub m : ℕ
  pub figures : Figures c d m

-- an exact real, lifted
pub record Neat (c : List ℕ) (v : ℕ) : Type 0 where
  pub size : length c ≡ 12
  pub z : ℤ
  pub real : real_of Mode.Exact c ≡ Some z
  pub lifted : v ≡ lift z
  pub bytes : all plain c ≡ true

pub record Sound (c : List ℕ) : Type 0 where
  pub v : ℕ
  pub neat : Neat c v
