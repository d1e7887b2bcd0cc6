-- What the quick way answers for: a real's record at a place of a file, and vertices one behind the other. Document 01, "Records", "Sections".
-- Assumes nothing: these are definitions.
use Rattle.std.specs.Prelude.{◌≡◌, ℕ, ◌+◌, ◌*◌, ◌<◌, ◌≤◌, true, false, List, length, take, drop, ℤ, slice_index, Some, Ok}
use Rattle.laws.specs.Lists.{all}
use Rattle.record.specs.declared.Mode.{Mode}
use Rattle.record.specs.declared.Mode.TheVariants.{Exact}
use Rattle.record.specs.Record.{is_exact, plain, got, line_of}
use Rattle.number.specs.Number.{real_of}
use Rattle.token.specs.Lex.{lift, lex_of}
use Rattle.token.specs.declared.Want.TheVariants.{Int, Real}

-- a record of `width` bytes stands at a place, and says a real, lifted
pub record RealAt (mode : Mode) (s : List ℕ) (at width v : ℕ) : Type 0 where
  pub len : ℕ
  pub line : line_of mode false (drop at s) ≡ got len width
  pub says : lex_of mode Real (take len (drop at s)) ≡ Ok v

pub record SomeReal (mode : Mode) (s : List ℕ) (at width : ℕ) : Type 0 where
  pub v : ℕ
  pub real : RealAt mode s at width v

-- its content is 12 characters
pub record Padded (mode : Mode) (s : List ℕ) (at width v : ℕ) : Type 0 where
  pub line : line_of mode false (drop at s) ≡ got 12 width
  pub says : lex_of mode Real (take 12 (drop at s)) ≡ Ok v

-- its content is the 12 characters of exact mode, whatever the mode: a real in its usual form
pub record UsualAt (mode : Mode) (s : List ℕ) (at width : ℕ) : Type 0 where
  pub line : line_of mode false (drop at s) ≡ got 12 width
  pub z : ℤ
  pub real : real_of Exact (take 12 (drop at s)) ≡ Some z

-- n such reals from `at` on, each in a record of `width` bytes
pub record Usual (mode : Mode) (s : List ℕ) (at width n : ℕ) : Type 0 where
  pub inside : at ≤ length s → at + width * n ≤ length s
  pub each : (j : ℕ) → j < n → UsualAt mode s (at + width * j) width

-- an integer's record of `width` bytes stands at a place, and says n
pub record IntegerAt (mode : Mode) (s : List ℕ) (at width n : ℕ) : Type 0 where
  pub len : ℕ
  pub line : line_of mode false (drop at s) ≡ got len width
  pub says : lex_of mode Int (take len (drop at s)) ≡ Ok n

-- eight bytes as one number, the first the lowest
abbrev pub word_of8 : List ℕ → ℕ
word_of8 c =
    slice_index c 0 + 256 * (slice_index c 1 + 256 * (slice_index c 2 + 256 * slice_index c 3))
    + 4294967296 * (slice_index c 4 + 256 * (slice_index c 5 + 256 * (slice_index c 6 + 256 * slice_index c 7)))

-- what the first eight bytes as one number and the last three say, where the twelve are exact mode's: the real, lifted
pub record Valued (word x y z v : ℕ) : Type 0 where
  pub lifted : (c : List ℕ) (n : ℤ) → length c ≡ 12 → word ≡ word_of8 c → x ≡ slice_index c 9 → y ≡ slice_index c 10 → z ≡ slice_index c 11 → real_of Exact c ≡ Some n → v ≡ lift n

-- the real at a place, lifted, wherever one stands there in its usual form
pub record ValueAt (s : List ℕ) (at v : ℕ) : Type 0 where
  pub lifted : (mode : Mode) (w : ℕ) (u : UsualAt mode s at w) → v ≡ lift u.z

-- the byte behind 12 characters that begins the line end of a record of `width` bytes
pub data Ender : Mode → ℕ → ℕ → Type 0 where
  cr-lf : {mode : Mode} → Ender mode 14 13
  lf-alone : {mode : Mode} → is_exact mode ≡ false → Ender mode 13 10

-- a line end stands behind 12 characters
pub record Ends (mode : Mode) (s : List ℕ) (at width : ℕ) : Type 0 where
  pub few : width ≤ 14
  pub inside : at + 14 ≤ length s
  pub line : all plain (take 12 (drop at s)) ≡ true → line_of mode false (drop at s) ≡ got 12 width

-- k vertices, an x and a y each, from `at` up to a place
pub data Vertices (mode : Mode) (s : List ℕ) (at : ℕ) : ℕ → ℕ → Type 0 where
  none : Vertices mode s at 0 at
  more : {k a w x w' y : ℕ} → Vertices mode s at k a → RealAt mode s a w x → RealAt mode s (a + w) w' y → Vertices mode s at (k + 1) (a + w + w')
