-- The characters that exact mode has for a number: document 01, "Records". Assumes nothing: these are definitions.
use Rattle.std.specs.Prelude.{ℕ, zero, suc, ◌+◌, ◌-◌, ◌/◌, ◌%◌, List, [], ◌∷◌, ◌++◌, cond, length, replicate, ltb, ℤ, pos, nat_abs}
use Rattle.std.specs.Int.Signed.{lt_z}

-- the greatest integer, and the characters that an integer and a real take
abbrev pub integer_most : ℕ
integer_most = 9999

abbrev pub integer_width : ℕ
integer_width = 4

abbrev pub real_width : ℕ
real_width = 12

-- the digits that a number of 64 bits has at most
abbrev pub count_width : ℕ
count_width = 20

-- the digits of n, at most w of them, no zero in front except for 0 itself
unfoldable pub digits : ℕ → ℕ → List ℕ
digits zero n = []
digits (suc w) n = cond (ltb n 10) ((48 + n) ∷ []) (digits w (n / 10) ++ (48 + n % 10) ∷ [])

-- the last w digits of n, zeros in front where it has fewer
unfoldable pub places : ℕ → ℕ → List ℕ
places zero n = []
places (suc w) n = places w (n / 10) ++ (48 + n % 10) ∷ []

-- a number as it is listed: no zero in front except for 0 itself
unfoldable pub count_text : ℕ → List ℕ
count_text n = digits count_width n

-- right aligned with blanks, w characters
unfoldable pub aligned : ℕ → List ℕ → List ℕ
aligned w s = replicate (w - length s) 32 ++ s

-- an integer: 4 characters, right aligned with blanks, no zero in front except for 0 itself
unfoldable pub integer_text : ℕ → List ℕ
integer_text v = aligned integer_width (digits integer_width v)

-- `-` below zero, no `+`, no minus zero
unfoldable pub minus : ℤ → List ℕ
minus z = cond (lt_z z (pos 0)) (45 ∷ []) []

-- digits, a point, three digits: m thousandths
unfoldable pub decimal : ℕ → List ℕ
decimal m = digits 8 (m / 1000) ++ 46 ∷ places 3 (m % 1000)

-- a real with no blank in front: no needless zero, three decimals
unfoldable pub bare_real : ℤ → List ℕ
bare_real z = minus z ++ decimal (nat_abs z)

-- a real: 12 characters, right aligned
unfoldable pub real_text : ℤ → List ℕ
real_text z = aligned real_width (bare_real z)
