-- A column is the only one; and how far the spots go is the column in the language that they take. Assumes nothing.
use Prim.Native.Nat.{ℕ, zero, suc, ◌+◌, ◌-◌, ◌≤◌, ◌<◌}
use mathlib.Core.Path.{◌≡◌, refl, sym, ap, ◌∙◌}
use mathlib.Core.List.{List, [], ◌∷◌, ◌++◌}
use mathlib.Core.Bool.{Bool, true, false}
use native.Mathlib.Omega.{arith}
use lib.ListN.{length, take, drop}
use Rattle.laws.proofs.Choice.{true≢false, false≢true, cond-elim}
use Rattle.record.specs.declared.Mode.{Mode}
use Rattle.column.specs.Column.{Beginning, IsColumn}
use Rattle.column.specs.Spots.{spot_after, is_free, spot_in, may_end, is_stuck, takes, stretch}
use Rattle.column.specs.declared.Spot.{Spot}
use Rattle.column.specs.declared.Spot.TheVariants.{Stuck, IntegerPad, LastDigits, RealPad, Negative, ToPoint, NegativeZero, NotAllZero, LooseInteger, AtMost, LooseReal, AfterSign, UpToPoint, Decimals, Tail}

-- ---- the only one

-- a beginning's beginning
shorter : (L : List ℕ → Bool) (s : List ℕ) (i j : ℕ) → i ≤ j → Beginning L (take j s) → Beginning L (take i s)
shorter L s i j h b = record { rest = drop i (take j s) ++ b.rest; accepted = rw (← parts s i j b.rest h) b.accepted }
  where
    parts : (s : List ℕ) (i j : ℕ) (t : List ℕ) → i ≤ j → take j s ++ t ≡ take i s ++ (drop i (take j s) ++ t)
    parts s zero j t h = refl
    parts [] (suc i) zero t h = absurd (omega arith)
    parts [] (suc i) (suc j) t h = refl
    parts (x ∷ s) (suc i) zero t h = absurd (omega arith)
    parts (x ∷ s) (suc i) (suc j) t h = ap {B = List ℕ} (λ r. x ∷ r) (parts s i j t (omega arith))

not_after : (L : List ℕ → Bool) (s : List ℕ) (c d : ℕ) → IsColumn L s c → IsColumn L s d → c < d → ⊥
not_after L s c d p q h = p.stops (omega (arith, q.within)) (shorter L s c (d - 1) (omega arith) q.goes)

pub column-only : (L : List ℕ → Bool) (s : List ℕ) (c d : ℕ) → IsColumn L s c → IsColumn L s d → c ≡ d
column-only L s c d p q =
    let a : c < d → ⊥ = not_after L s c d p q in
    let b : d < c → ⊥ = not_after L s d c q p in
    omega arith

-- two tests that agree have the same columns
pub column-alike : (L M : List ℕ → Bool) (s : List ℕ) (c : ℕ) → ((t : List ℕ) → L t ≡ M t) → IsColumn M s c → IsColumn L s c
column-alike L M s c e p =
    record {
      from = p.from;
      within = p.within;
      goes = record { rest = p.goes.rest; accepted = e (take (c - 1) s ++ p.goes.rest) ∙ p.goes.accepted };
      stops = λ h b. p.stops h (record { rest = b.rest; accepted = sym (e (take c s ++ b.rest)) ∙ b.accepted });
    }

-- ---- how far the spots go

pub stuck-never : (mode : Mode) (s : List ℕ) → takes mode Stuck s ≡ false
unfolding takes spot_in is_free spot_after may_end
stuck-never mode [] = refl
stuck-never mode (b ∷ s) = stuck-never mode s

stuck-is : (at : Spot) → is_stuck at ≡ true → at ≡ Stuck
unfolding is_stuck
stuck-is Stuck e = refl
stuck-is (IntegerPad k) e = absurd (false≢true e)
stuck-is (LastDigits k) e = absurd (false≢true e)
stuck-is (RealPad k) e = absurd (false≢true e)
stuck-is (Negative k) e = absurd (false≢true e)
stuck-is (ToPoint k) e = absurd (false≢true e)
stuck-is NegativeZero e = absurd (false≢true e)
stuck-is (NotAllZero k) e = absurd (false≢true e)
stuck-is LooseInteger e = absurd (false≢true e)
stuck-is (AtMost k) e = absurd (false≢true e)
stuck-is LooseReal e = absurd (false≢true e)
stuck-is AfterSign e = absurd (false≢true e)
stuck-is (UpToPoint k) e = absurd (false≢true e)
stuck-is (Decimals k) e = absurd (false≢true e)
stuck-is Tail e = absurd (false≢true e)

-- a way to the end from each spot: ones
ones : ℕ → List ℕ → List ℕ
ones zero t = t
ones (suc k) t = 49 ∷ ones k t

finish : Spot → List ℕ
finish Stuck = []
finish (IntegerPad k) = 49 ∷ ones k []
finish (LastDigits k) = ones k []
finish (RealPad k) = 49 ∷ ones k (46 ∷ ones 3 [])
finish (Negative k) = 49 ∷ ones k (46 ∷ ones 3 [])
finish (ToPoint k) = ones k (46 ∷ ones 3 [])
finish NegativeZero = 46 ∷ ones 3 []
finish (NotAllZero k) = ones (suc k) []
finish LooseInteger = 49 ∷ []
finish (AtMost k) = []
finish LooseReal = 49 ∷ 46 ∷ ones 3 []
finish AfterSign = 49 ∷ 46 ∷ ones 3 []
finish (UpToPoint k) = 46 ∷ ones 3 []
finish (Decimals k) = ones (suc k) []
finish Tail = []

figures-end : (mode : Mode) (k : ℕ) → takes mode (LastDigits k) (ones k []) ≡ true
unfolding takes spot_in is_free spot_after may_end ones
figures-end mode zero = refl
figures-end mode (suc k) = figures-end mode k

whole-end : (mode : Mode) (k : ℕ) → takes mode (ToPoint k) (ones k (46 ∷ ones 3 [])) ≡ true
unfolding takes spot_in is_free spot_after may_end ones
whole-end mode zero = refl
whole-end mode (suc k) = whole-end mode k

fraction_end : (mode : Mode) (k : ℕ) → takes mode (Decimals k) (ones (suc k) []) ≡ true
unfolding takes spot_in is_free spot_after may_end ones
fraction_end mode zero = refl
fraction_end mode (suc k) = fraction_end mode k

finish-ends : (mode : Mode) (at : Spot) → is_stuck at ≡ false → takes mode at (finish at) ≡ true
unfolding takes spot_in is_free spot_after may_end ones finish is_stuck
finish-ends mode Stuck e = absurd (true≢false e)
finish-ends mode (IntegerPad zero) e = refl
finish-ends mode (IntegerPad (suc k)) e = figures-end mode (suc k)
finish-ends mode (LastDigits k) e = figures-end mode k
finish-ends mode (RealPad zero) e = refl
finish-ends mode (RealPad (suc k)) e = whole-end mode (suc k)
finish-ends mode (Negative zero) e = refl
finish-ends mode (Negative (suc k)) e = whole-end mode (suc k)
finish-ends mode (ToPoint k) e = whole-end mode k
finish-ends mode NegativeZero e = refl
finish-ends mode (NotAllZero zero) e = refl
finish-ends mode (NotAllZero (suc k)) e = figures-end mode (suc k)
finish-ends mode LooseInteger e = refl
finish-ends mode (AtMost k) e = refl
finish-ends mode LooseReal e = refl
finish-ends mode AfterSign e = refl
finish-ends mode (UpToPoint zero) e = refl
finish-ends mode (UpToPoint (suc k)) e = refl
finish-ends mode (Decimals k) e = fraction_end mode k
finish-ends mode Tail e = refl

-- the k bytes at the front go, and no more
record Reach (L : List ℕ → Bool) (s : List ℕ) (k : ℕ) : Type 0 where
  within : k ≤ length s
  goes : Beginning L (take k s)
  stops : k < length s → Beginning L (take (suc k) s) → ⊥

here : (mode : Mode) (at : Spot) (s : List ℕ) → is_stuck at ≡ false → Beginning (takes mode at) (take 0 s)
here mode at s e = record { rest = finish at; accepted = finish-ends mode at e }

reaches : (mode : Mode) (at : Spot) (s : List ℕ) → is_stuck at ≡ false → Reach (takes mode at) s (stretch mode at s)
unfolding takes stretch
reaches mode at [] e = record { within = omega arith; goes = here mode at [] e; stops = λ h b. absurd (omega arith) }
reaches mode at (b ∷ s) e =
    cond-elim (Reach (takes mode at) (b ∷ s)) (is_stuck (spot_in mode at b)) 0 (suc (stretch mode (spot_in mode at b) s))
    (λ f. no at b s e (stuck-is (spot_in mode at b) f)) (λ f. on at b s (stretch mode (spot_in mode at b) s) (reaches mode (spot_in mode at b) s f))
  where
    no : (at : Spot) (b : ℕ) (s : List ℕ) → is_stuck at ≡ false → spot_in mode at b ≡ Stuck → Reach (takes mode at) (b ∷ s) 0
    no at b s e q =
        record {
          within = omega arith;
          goes = here mode at (b ∷ s) e;
          stops = λ h g. false≢true (sym (stuck-never mode g.rest) ∙ ap (λ x. takes mode x g.rest) (sym q) ∙ g.accepted);
        }

    on : (at : Spot) (b : ℕ) (s : List ℕ) (k : ℕ) → Reach (takes mode (spot_in mode at b)) s k → Reach (takes mode at) (b ∷ s) (suc k)
    on at b s k r =
        record {
          within = omega (arith, r.within);
          goes = record { rest = r.goes.rest; accepted = r.goes.accepted };
          stops = λ h g. r.stops (omega arith) (record { rest = g.rest; accepted = g.accepted });
        }

pub stretch-column : (mode : Mode) (at : Spot) (s : List ℕ) → is_stuck at ≡ false → IsColumn (takes mode at) s (suc (stretch mode at s))
stretch-column mode at s e =
    let r = reaches mode at s e in
    let k = stretch mode at s in
    let q : suc k - 1 ≡ k = omega arith in
    record {
      from = omega arith;
      within = omega (arith, r.within);
      goes = rw q r.goes;
      stops = λ h. r.stops (omega arith);
    }
