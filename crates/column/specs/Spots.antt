-- Integer and real, exact and loose and as they were formerly, read one byte at a time: document 01, "Records", and 02, T-09. Assumes nothing: these are definitions.
-- A spot says what may come next. It is `Stuck` as soon as no number goes on so, and from every other spot some number does.
use Rattle.std.specs.Prelude.{ℕ, zero, suc, List, [], ◌∷◌, Bool, true, false, cond, ◌||◌, eqb}
use Rattle.record.specs.declared.Mode.{Mode}
use Rattle.record.specs.Record.{is_exact, is_former}
use Rattle.number.specs.Words.{blank}
use Rattle.number.specs.Number.{digit}
use Rattle.column.specs.declared.Spot.{Spot}
use Rattle.column.specs.declared.Spot.TheVariants.{Stuck, IntegerPad, LastDigits, RealPad, Negative, ToPoint, NegativeZero, NotAllZero, LooseInteger, AtMost, LooseReal, AfterSign, UpToPoint, Decimals, Tail}

abbrev pub is_sign : ℕ → Bool
is_sign b = eqb b 43 || eqb b 45

unfoldable pub integer_start : Mode → Spot
integer_start mode = cond (is_exact mode) (IntegerPad 3) LooseInteger

unfoldable pub real_start : Mode → Spot
real_start mode = cond (is_exact mode) (RealPad 7) LooseReal

-- where a byte leads
unfoldable pub spot_after : Spot → ℕ → Spot
spot_after Stuck b = Stuck
-- exact integer: only blanks so far, of which k more may come, and a last character behind them
spot_after (IntegerPad zero) b = cond (digit b) (LastDigits 0) Stuck
spot_after (IntegerPad (suc k)) b = cond (blank b) (IntegerPad k) (cond (eqb b 48) Stuck (cond (digit b) (LastDigits (suc k)) Stuck))
-- k digits, and the end
spot_after (LastDigits zero) b = Stuck
spot_after (LastDigits (suc k)) b = cond (digit b) (LastDigits k) Stuck
-- exact real: only blanks so far, of which k more may come, and a last digit before the point
spot_after (RealPad zero) b = cond (digit b) (ToPoint 0) Stuck
spot_after (RealPad (suc k)) b = cond (blank b) (RealPad k) (cond (eqb b 45) (Negative k) (cond (eqb b 48) Stuck (cond (digit b) (ToPoint (suc k)) Stuck)))
-- a minus, and a digit with k behind it before the point
spot_after (Negative zero) b = cond (eqb b 48) NegativeZero (cond (digit b) (ToPoint 0) Stuck)
spot_after (Negative (suc k)) b = cond (eqb b 48) Stuck (cond (digit b) (ToPoint (suc k)) Stuck)
-- k digits, the point, three digits
spot_after (ToPoint zero) b = cond (eqb b 46) (LastDigits 3) Stuck
spot_after (ToPoint (suc k)) b = cond (digit b) (ToPoint k) Stuck
-- minus zero so far: the point; a digit and k behind it, not all of them zero
spot_after NegativeZero b = cond (eqb b 46) (NotAllZero 2) Stuck
spot_after (NotAllZero zero) b = cond (eqb b 48) Stuck (cond (digit b) (LastDigits 0) Stuck)
spot_after (NotAllZero (suc k)) b = cond (eqb b 48) (NotAllZero k) (cond (digit b) (LastDigits (suc k)) Stuck)
-- loose integer: blanks; at most k digits more, then the end or a blank
spot_after LooseInteger b = cond (blank b) LooseInteger (cond (digit b) (AtMost 3) Stuck)
spot_after (AtMost zero) b = cond (blank b) Tail Stuck
spot_after (AtMost (suc k)) b = cond (blank b) Tail (cond (digit b) (AtMost k) Stuck)
-- loose real: blanks; a sign; at most k digits more, then the point; a digit and k behind it, then the end or a blank
spot_after LooseReal b = cond (blank b) LooseReal (cond (is_sign b) AfterSign (cond (digit b) (UpToPoint 7) Stuck))
spot_after AfterSign b = cond (digit b) (UpToPoint 6) Stuck
spot_after (UpToPoint zero) b = cond (eqb b 46) (Decimals 2) Stuck
spot_after (UpToPoint (suc k)) b = cond (eqb b 46) (Decimals 2) (cond (digit b) (UpToPoint k) Stuck)
spot_after (Decimals zero) b = cond (digit b) (AtMost 0) Stuck
spot_after (Decimals (suc k)) b = cond (digit b) (Decimals k) Stuck
-- behind a blank behind a number: blanks
spot_after Tail b = cond (blank b) Tail Stuck

-- there the former reading takes any bytes
unfoldable pub is_free : Mode → Spot → Bool
is_free mode Stuck = false
is_free mode (IntegerPad k) = false
is_free mode (LastDigits k) = false
is_free mode (RealPad k) = false
is_free mode (Negative k) = false
is_free mode (ToPoint k) = false
is_free mode NegativeZero = false
is_free mode (NotAllZero k) = false
is_free mode LooseInteger = false
is_free mode (AtMost k) = false
is_free mode LooseReal = false
is_free mode AfterSign = false
is_free mode (UpToPoint k) = false
is_free mode (Decimals k) = false
is_free mode Tail = is_former mode

unfoldable pub spot_in : Mode → Spot → ℕ → Spot
spot_in mode at b = cond (is_free mode at) Tail (spot_after at b)

-- a number may end here
unfoldable pub may_end : Spot → Bool
may_end Stuck = false
may_end (IntegerPad k) = false
may_end (LastDigits zero) = true
may_end (LastDigits (suc k)) = false
may_end (RealPad k) = false
may_end (Negative k) = false
may_end (ToPoint k) = false
may_end NegativeZero = false
may_end (NotAllZero k) = false
may_end LooseInteger = false
may_end (AtMost k) = true
may_end LooseReal = false
may_end AfterSign = false
may_end (UpToPoint k) = false
may_end (Decimals k) = false
may_end Tail = true

unfoldable pub is_stuck : Spot → Bool
is_stuck Stuck = true
is_stuck (IntegerPad k) = false
is_stuck (LastDigits k) = false
is_stuck (RealPad k) = false
is_stuck (Negative k) = false
is_stuck (ToPoint k) = false
is_stuck NegativeZero = false
is_stuck (NotAllZero k) = false
is_stuck LooseInteger = false
is_stuck (AtMost k) = false
is_stuck LooseReal = false
is_stuck AfterSign = false
is_stuck (UpToPoint k) = false
is_stuck (Decimals k) = false
is_stuck Tail = false

-- the bytes are what is left of a number
unfoldable pub takes : Mode → Spot → List ℕ → Bool
takes mode at [] = may_end at
takes mode at (b ∷ s) = takes mode (spot_in mode at b) s

-- how many bytes at the front go, before no number goes on so
unfoldable pub stretch : Mode → Spot → List ℕ → ℕ
stretch mode at [] = 0
stretch mode at (b ∷ s) = cond (is_stuck (spot_in mode at b)) 0 (suc (stretch mode (spot_in mode at b) s))
