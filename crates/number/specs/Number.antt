-- The numbers that a record's content holds: document 01, "Records"; what may stand behind them: document 02, T-09. Assumes nothing: these are definitions.
-- Each form is one row of tests, left to right as the characters stand; what exact mode asks besides stands at its end.
use Rattle.std.specs.Prelude.{ℕ, ◌+◌, ◌-◌, ◌*◌, List, [], ◌∷◌, Bool, true, cond, not, ◌&&◌, ◌||◌, length, get_or, take, drop, leb, eqb, ℤ, pos, neg_ℤ, Option, Some, None}
use Rattle.std.specs.Int.Signed.{le_z}
use Rattle.laws.specs.Lists.{run, all}
use Rattle.record.specs.declared.Mode.{Mode}
use Rattle.record.specs.Record.{is_exact, is_former}
use Rattle.record.specs.Refusals.{malformed}
use Rattle.number.specs.Words.{blank, unled}

abbrev pub digit : ℕ → Bool
digit b = leb 48 b && leb b 57

-- the number that digits spell, after those that spell `a`
unfoldable pub value : ℕ → List ℕ → ℕ
value a [] = a
value a (b ∷ s) = value (a * 10 + (b - 48)) s

-- the end, or a blank and any tail
unfoldable pub parted : List ℕ → Bool
parted [] = true
parted (b ∷ s) = blank b

-- what may stand behind a number: blanks alone; in the former reading a blank and any tail
unfoldable pub ended : Mode → List ℕ → Bool
ended mode s = cond (is_former mode) (parted s) (all blank s)

-- a note: a blank, and somewhere behind it a byte that is none
unfoldable pub is_note : List ℕ → Bool
is_note s = parted s && not (all blank s)

-- of n digits at the front, no zero comes first except where it is the only one
unfoldable pub lean : List ℕ → ℕ → Bool
lean t n = eqb n 1 || not (eqb (get_or t 0 0) 48)

-- ---- integer, 0 to 9999

-- any blanks, 1 to 4 digits, then what the mode lets stand behind a number;
-- exact: 4 characters, right aligned with blanks, no zero in front except for 0 itself
-- (`size` is the content's length, `t` what follows its blanks, `n` the digits at the front of that)
unfoldable pub integer_is : Mode → ℕ → List ℕ → ℕ → Option ℕ
integer_is mode size t n =
    cond (leb 1 n && leb n 4 && ended mode (drop n t) && (not (is_exact mode) || eqb size 4 && eqb (length t) n && lean t n))
    (Some (value 0 (take n t)))
    None

unfoldable pub integer_at : Mode → ℕ → List ℕ → Option ℕ
integer_at mode size t = integer_is mode size t (run digit t)

unfoldable pub integer_of : Mode → List ℕ → Option ℕ
integer_of mode c = integer_at mode (length c) (unled c)

-- what stands behind its digits
unfoldable pub behind_integer : List ℕ → List ℕ
behind_integer c = drop (run digit (unled c)) (unled c)

-- ---- real, held in thousandths

-- the sign at the front, `+` or `-`, or 0 for none; how many characters it takes; a number with it
unfoldable pub sign_of : List ℕ → ℕ
sign_of t = cond (eqb (get_or t 0 0) 43 || eqb (get_or t 0 0) 45) (get_or t 0 0) 0

unfoldable pub signs : ℕ → ℕ
signs sign = cond (eqb sign 0) 0 1

unfoldable pub signed : ℕ → ℕ → ℤ
signed sign m = cond (eqb sign 45) (neg_ℤ (pos m)) (pos m)

-- n digits at the front, a point, and three digits: their value in thousandths
unfoldable pub thousandths : List ℕ → ℕ → ℕ
thousandths u n = value 0 (take n u) * 1000 + value 0 (take 3 (drop (n + 1) u))

-- token: optional sign, 1 to 8 digits, a point, 3 digits, at most 12 characters altogether
-- (`u` is what follows the sign, `n` the digits at the front of that)
unfoldable pub is_token : ℕ → List ℕ → ℕ → Bool
is_token sign u n =
    leb 1 n && leb n 8 && eqb (get_or u n 0) 46 && eqb (run digit (drop (n + 1) u)) 3 && leb (signs sign + n + 4) 12

-- exact: 12 characters, right aligned, no `+`, no minus zero, no needless zero in front
unfoldable pub is_neat : ℕ → ℕ → List ℕ → ℕ → Bool
is_neat size sign u n =
    eqb size 12 && eqb (length u) (n + 4) && not (eqb sign 43) && not (eqb sign 45 && eqb (thousandths u n) 0) && lean u n

-- a token, then what the mode lets stand behind a number
unfoldable pub real_is : Mode → ℕ → ℕ → List ℕ → ℕ → Option ℤ
real_is mode size sign u n =
    cond (is_token sign u n && ended mode (drop (n + 4) u) && (not (is_exact mode) || is_neat size sign u n)) (Some (signed sign (thousandths u n))) None

unfoldable pub real_at : Mode → ℕ → ℕ → List ℕ → Option ℤ
real_at mode size sign u = real_is mode size sign u (run digit u)

unfoldable pub real_signed : Mode → ℕ → List ℕ → Option ℤ
real_signed mode size t = real_at mode size (sign_of t) (drop (signs (sign_of t)) t)

unfoldable pub real_of : Mode → List ℕ → Option ℤ
real_of mode c = real_signed mode (length c) (unled c)

-- what follows its sign, and what stands behind its token
unfoldable pub unsigned : List ℕ → List ℕ
unsigned c = drop (signs (sign_of (unled c))) (unled c)

unfoldable pub behind_real : List ℕ → List ℕ
behind_real c = drop (run digit (unsigned c) + 4) (unsigned c)

-- range -9,999,999,999 to 99,999,999,999
abbrev pub real_least : ℤ
real_least = neg_ℤ (pos 9999999999)

abbrev pub real_most : ℤ
real_most = pos 99999999999

unfoldable pub is_real : ℤ → Bool
is_real z = le_z real_least z && le_z z real_most

-- ---- the paper's number and value: 8, and no value, where it is malformed

abbrev pub integer_number : Option ℕ → ℕ
integer_number (Some n) = 0
integer_number None = malformed

abbrev pub integer_value : Option ℕ → ℤ
integer_value (Some n) = pos n
integer_value None = pos 0

abbrev pub real_number : Option ℤ → ℕ
real_number (Some z) = 0
real_number None = malformed

abbrev pub real_value : Option ℤ → ℤ
real_value (Some z) = z
real_value None = pos 0
