-- The spots of an integer take what `integer_of` takes. Assumes nothing.
use Prim.Native.Nat.{ℕ, zero, suc, ◌≤◌}
use mathlib.Core.Path.{◌≡◌, refl, sym, ◌∙◌}
use mathlib.Core.List.{List, [], ◌∷◌}
use mathlib.Core.Bool.{Bool, true, false, cond, not, ◌&&◌, ◌||◌}
use native.Mathlib.Omega.{arith}
use lib.ListN.{length, take, drop, length-drop}
use lib.Dec.{eqb, leb, leb-zero, leb-suc-zero, leb-suc-suc, eqb-suc-suc, eqb-zero-suc, eqb-suc-zero}
use borrow.Author.Tests.{ne_eqb, le-leb, eqb-true}
use Rattle.laws.specs.Lists.{run, all}
use Rattle.laws.proofs.Choice.{and-false}
use Rattle.laws.proofs.ListLaws.{left-none}
use Rattle.std.specs.Prelude.{is_some, Some, None}
use Rattle.record.specs.declared.Mode.{Mode}
use Rattle.record.specs.declared.Mode.TheVariants.{Loose, Exact, Former}
use Rattle.record.specs.Record.{is_exact, is_former}
use Rattle.number.specs.Words.{blank, unled}
use Rattle.number.specs.Number.{digit, value, ended, lean, integer_is, integer_at, integer_of}
use Rattle.number.proofs.NumberLaws.{ended-nothing, ended-blank, ended-other}
use Rattle.column.specs.Spots.{spot_after, is_free, spot_in, may_end, is_stuck, takes, stretch, integer_start}
use Rattle.column.specs.declared.Spot.TheVariants.{Stuck, IntegerPad, LastDigits, LooseInteger, AtMost, Tail}
use Rattle.column.proofs.ColumnLaws.{stuck-never, column-alike, stretch-column}
use Rattle.column.specs.Column.{IsColumn}
use Rattle.column.specs.Columns.{accepts_integer, integer_column}
use Rattle.column.proofs.Alike.{alike, never, both, and-true, or-true, or-false, digit_not, blank-no-digit}

-- ---- loose

-- behind a blank: blanks, in the former reading any bytes
tail-takes : (mode : Mode) (t : List ℕ) → takes mode Tail t ≡ (is_former mode || all blank t)
unfolding takes spot_in is_free spot_after may_end all
tail-takes mode [] = sym (or-true (is_former mode))
tail-takes mode (b ∷ t) = go (is_former mode) refl (blank b) (tail-takes mode t)
  where
    go : (x : Bool) → is_former mode ≡ x → (w : Bool) → takes mode Tail t ≡ (is_former mode || all blank t)
        → takes mode (cond x Tail (cond w Tail Stuck)) t ≡ (x || w && all blank t)
    go true e w ih = rw e at ih
    go false e true ih = rw e at ih
    go false e false ih = stuck-never mode t

-- at most k digits more, then what the mode lets stand behind a number
pub at-most-takes : (mode : Mode) (k : ℕ) (t : List ℕ) → takes mode (AtMost k) t ≡ (leb (run digit t) k && ended mode (drop (run digit t) t))
unfolding takes spot_in is_free spot_after may_end run
at-most-takes mode k [] = rw (leb-zero k) (sym (ended-nothing mode))
at-most-takes mode k (b ∷ t) = go k (digit b) refl (blank b) refl (λ j. at-most-takes mode j t)
  where
    go : (k : ℕ) (d : Bool) → digit b ≡ d → (w : Bool) → blank b ≡ w
        → ((j : ℕ) → takes mode (AtMost j) t ≡ (leb (run digit t) j && ended mode (drop (run digit t) t)))
        → takes mode (spot_after (AtMost k) b) t ≡ (leb (cond d (suc (run digit t)) 0) k && ended mode (drop (cond d (suc (run digit t)) 0) (b ∷ t)))
    go zero true e w f ih = rw (digit_not b 32 e (omega arith), leb-suc-zero (run digit t)) (stuck-never mode t)
    go (suc k) true e w f ih = rw (digit_not b 32 e (omega arith), e, leb-suc-suc (run digit t) k) (ih k)
    go zero false e true f ih = rw (f, ended-blank mode b t f) (tail-takes mode t)
    go zero false e false f ih = rw (f, ended-other mode b t f) (stuck-never mode t)
    go (suc k) false e true f ih = rw (f, leb-zero (suc k), ended-blank mode b t f) (tail-takes mode t)
    go (suc k) false e false f ih = rw (f, e, leb-zero (suc k), ended-other mode b t f) (stuck-never mode t)

-- what follows the blanks is a loose integer
few : Mode → List ℕ → Bool
few mode t = leb 1 (run digit t) && leb (run digit t) 4 && ended mode (drop (run digit t) t)

loose-takes : (mode : Mode) (c : List ℕ) → takes mode LooseInteger c ≡ few mode (unled c)
unfolding takes spot_in is_free spot_after may_end run unled few
loose-takes mode [] = refl
loose-takes mode (b ∷ c) = go (blank b) refl (digit b) refl (loose-takes mode c)
  where
    go : (w : Bool) → blank b ≡ w → (d : Bool) → digit b ≡ d → takes mode LooseInteger c ≡ few mode (unled c)
        → takes mode (spot_after LooseInteger b) c ≡ few mode (drop (cond w (suc (run blank c)) 0) (b ∷ c))
    go true f d e ih = rw f ih
    go false f true e ih =
        rw (f, e, le-leb 1 (suc (run digit c)) (omega arith), leb-suc-suc (run digit c) 3) (at-most-takes mode 3 c)
    go false f false e ih = rw (f, e) (stuck-never mode c)

cond-said : (b : Bool) (v : ℕ) → is_some (cond b (Some v) None) ≡ b
cond-said true v = refl
cond-said false v = refl

integer-loose : (mode : Mode) (c : List ℕ) → is_exact mode ≡ false → accepts_integer mode c ≡ takes mode LooseInteger c
unfolding accepts_integer integer_of integer_at integer_is few
integer-loose mode c m =
    let t = unled c in
    rw m (cond-said (few mode t && true) (value 0 (take (run digit t) t)) ∙ and-true (few mode t) ∙ sym (loose-takes mode c))

-- ---- exact

-- k digits and the end
pub digits-take : (k : ℕ) (t : List ℕ) → takes Exact (LastDigits k) t ≡ (eqb (length t) k && eqb (length t) (run digit t))
unfolding takes spot_in is_free spot_after may_end run
digits-take zero [] = refl
digits-take (suc k) [] = rw (eqb-zero-suc k)
digits-take zero (b ∷ t) = rw (eqb-suc-zero (length t)) (stuck-never Exact t)
digits-take (suc k) (b ∷ t) = go (digit b) refl (digits-take k t)
  where
    go : (d : Bool) → digit b ≡ d → takes Exact (LastDigits k) t ≡ (eqb (length t) k && eqb (length t) (run digit t))
        → takes Exact (spot_after (LastDigits (suc k)) b) t ≡ (eqb (suc (length t)) (suc k) && eqb (suc (length t)) (cond d (suc (run digit t)) 0))
    go true e ih = rw (e, eqb-suc-suc (length t) k, eqb-suc-suc (length t) (run digit t)) ih
    go false e ih = rw (e, eqb-suc-zero (length t), and-false (eqb (suc (length t)) (suc k))) (stuck-never Exact t)

-- blanks, of which k may come, and digits, in k + 1 characters
neat : ℕ → ℕ → List ℕ → Bool
neat k size t = eqb size (suc k) && leb 1 (run digit t) && eqb (length t) (run digit t) && lean t (run digit t)

pub dead : (a b c : Bool) → (a && false && b && c) ≡ false
dead true b c = refl
dead false b c = refl

neat-on : (k size : ℕ) (t : List ℕ) → neat (suc k) (suc size) t ≡ neat k size t
unfolding neat
neat-on k size t = rw (eqb-suc-suc size (suc k))

-- no room for a digit behind the last blank
neat-full : (size : ℕ) (c : List ℕ) → neat 0 (suc (length c)) (unled c) ≡ false
unfolding neat unled run
neat-full size [] = refl
neat-full size (x ∷ c) = rw (ne_eqb (suc (suc (length c))) 1 (omega arith))

neat-digit : (b k : ℕ) (c : List ℕ) → digit b ≡ true → neat k (suc (length c)) (b ∷ c)
    ≡ (eqb (length c) k && eqb (length c) (run digit c) && (eqb (suc (run digit c)) 1 || not (eqb b 48)))
unfolding neat run lean
neat-digit b k c e =
    rw (e, eqb-suc-suc (length c) k, le-leb 1 (suc (run digit c)) (omega arith), eqb-suc-suc (length c) (run digit c), and-true (eqb (length c) k))

neat-other : (b k : ℕ) (c : List ℕ) → digit b ≡ false → neat k (suc (length c)) (b ∷ c) ≡ false
unfolding neat run
neat-other b k c e = rw e (dead (eqb (suc (length c)) (suc k)) (eqb (suc (length c)) 0) (lean (b ∷ c) 0))

-- a zero in front: it stands alone, or it is refused
lone : (b : ℕ) (c : List ℕ) → (eqb (length c) 0 && eqb (length c) (run digit c))
    ≡ (eqb (length c) 0 && eqb (length c) (run digit c) && (eqb (suc (run digit c)) 1 || not (eqb b 48)))
unfolding run
lone b [] = refl
lone b (x ∷ c) = rw (eqb-suc-zero (length c))

module _ (b k : ℕ) (c : List ℕ) where
  led : eqb b 48 ≡ true → (eqb (length c) (suc k) && eqb (length c) (run digit c) && (eqb (suc (run digit c)) 1 || not (eqb b 48))) ≡ false
  led g =
      rw (g, or-false (eqb (suc (run digit c)) 1))
      (never (eqb (length c) (suc k) && eqb (length c) (run digit c) && eqb (suc (run digit c)) 1)
      (λ h. let p = both (eqb (length c) (suc k) && eqb (length c) (run digit c)) (eqb (suc (run digit c)) 1) h in
      let q = both (eqb (length c) (suc k)) (eqb (length c) (run digit c)) p.0 in
      omega (arith, eqb-true (length c) (suc k) q.0, eqb-true (length c) (run digit c) q.1, eqb-true (suc (run digit c)) 1 p.1)))

  unled-by : eqb b 48 ≡ false → (eqb (length c) (suc k) && eqb (length c) (run digit c) && (eqb (suc (run digit c)) 1 || not (eqb b 48)))
      ≡ (eqb (length c) (suc k) && eqb (length c) (run digit c))
  unled-by g = rw (g, or-true (eqb (suc (run digit c)) 1)) (and-true (eqb (length c) (suc k) && eqb (length c) (run digit c)))

integer-pad-takes : (k : ℕ) (c : List ℕ) → takes Exact (IntegerPad k) c ≡ neat k (length c) (unled c)
unfolding takes spot_in is_free spot_after may_end run unled
integer-pad-takes k [] = unfold neat in rw (eqb-zero-suc k)
integer-pad-takes k (b ∷ c) = go k (blank b) refl (digit b) refl (eqb b 48) refl (λ j. integer-pad-takes j c)
  where
    go : (k : ℕ) (w : Bool) → blank b ≡ w → (d : Bool) → digit b ≡ d → (z : Bool) → eqb b 48 ≡ z
        → ((j : ℕ) → takes Exact (IntegerPad j) c ≡ neat j (length c) (unled c))
        → takes Exact (spot_after (IntegerPad k) b) c ≡ neat k (suc (length c)) (drop (cond w (suc (run blank c)) 0) (b ∷ c))
    go zero true f d e z g ih = rw (blank-no-digit b f) (stuck-never Exact c ∙ sym (neat-full 0 c))
    go (suc k) true f d e z g ih = rw f (ih k ∙ sym (neat-on k (length c) (unled c)))
    go zero false f true e z g ih = rw e (digits-take 0 c ∙ lone b c ∙ sym (neat-digit b 0 c e))
    go zero false f false e z g ih = rw e (stuck-never Exact c ∙ sym (neat-other b 0 c e))
    go (suc k) false f true e true g ih = rw (f, g) (stuck-never Exact c ∙ sym (neat-digit b (suc k) c e ∙ led b k c g))
    go (suc k) false f true e false g ih = rw (f, g, e) (digits-take (suc k) c ∙ sym (neat-digit b (suc k) c e ∙ unled-by b k c g))
    go (suc k) false f false e true g ih = rw (f, g) (stuck-never Exact c ∙ sym (neat-other b (suc k) c e))
    go (suc k) false f false e false g ih = rw (f, g, e) (stuck-never Exact c ∙ sym (neat-other b (suc k) c e))

-- the tests of loose mode say nothing more
module _ (size n : ℕ) (t : List ℕ) (h : length t ≤ size) where
  ended-all : length t ≡ n → ended Exact (drop n t) ≡ true
  unfolding ended all
  ended-all e = rw (left-none t n (omega arith))

  exact-row : (leb 1 n && leb n 4 && ended Exact (drop n t) && (eqb size 4 && eqb (length t) n && lean t n))
      ≡ (eqb size 4 && leb 1 n && eqb (length t) n && lean t n)
  exact-row =
      alike (leb 1 n && leb n 4 && ended Exact (drop n t) && (eqb size 4 && eqb (length t) n && lean t n))
      (eqb size 4 && leb 1 n && eqb (length t) n && lean t n)
      (λ e.
      let p = both (leb 1 n && leb n 4 && ended Exact (drop n t)) (eqb size 4 && eqb (length t) n && lean t n) e in
      let q = both (leb 1 n && leb n 4) (ended Exact (drop n t)) p.0 in
      let r = both (leb 1 n) (leb n 4) q.0 in
      let a = both (eqb size 4 && eqb (length t) n) (lean t n) p.1 in
      let b = both (eqb size 4) (eqb (length t) n) a.0 in
      rw (b.0, r.0, b.1, a.1))
      (λ e.
      let p = both (eqb size 4 && leb 1 n && eqb (length t) n) (lean t n) e in
      let q = both (eqb size 4 && leb 1 n) (eqb (length t) n) p.0 in
      let r = both (eqb size 4) (leb 1 n) q.0 in
      let l = eqb-true (length t) n q.1 in
      rw (r.1, le-leb n 4 (omega (arith, eqb-true size 4 r.0)), ended-all l, r.0, q.1, p.1))

pub unled-le : (c : List ℕ) → length (unled c) ≤ length c
unfolding unled
unled-le c = rw (length-drop (run blank c) c) (omega arith)

integer-exact : (c : List ℕ) → accepts_integer Exact c ≡ takes Exact (IntegerPad 3) c
unfolding accepts_integer integer_of integer_at integer_is neat
integer-exact c =
    let t = unled c in
    let n = run digit t in
    cond-said (leb 1 n && leb n 4 && ended Exact (drop n t) && (eqb (length c) 4 && eqb (length t) n && lean t n)) (value 0 (take n t)) ∙
    exact-row (length c) n t (unled-le c) ∙ sym (integer-pad-takes 3 c)

-- ---- the column of an integer that is malformed is that of T-04

integer-takes : (mode : Mode) (c : List ℕ) → accepts_integer mode c ≡ takes mode (integer_start mode) c
unfolding integer_start
integer-takes Loose c = integer-loose Loose c refl
integer-takes Exact c = integer-exact c
integer-takes Former c = integer-loose Former c refl

integer-starts : (mode : Mode) → is_stuck (integer_start mode) ≡ false
unfolding integer_start is_stuck
integer-starts Loose = refl
integer-starts Exact = refl
integer-starts Former = refl

pub integer-column : (mode : Mode) (c : List ℕ) → IsColumn (accepts_integer mode) c (integer_column mode c)
unfolding integer_column
integer-column mode c =
    column-alike (accepts_integer mode) (takes mode (integer_start mode)) c (suc (stretch mode (integer_start mode) c)) (integer-takes mode)
    (stretch-column mode (integer_start mode) c (integer-starts mode))
