-- Lines in a table: what stands at each place, before and after two are exchanged. Assumes nothing.
use Prim.Native.Nat.{ℕ, zero, suc, ◌+◌, ◌-◌, ◌*◌, ◌/◌, ◌≤◌, ◌<◌}
use mathlib.Core.Path.{◌≡◌, refl, sym, ap, subst, ◌∙◌}
use mathlib.Core.List.{List, [], ◌++◌, append_assoc, append-nil}
use mathlib.Core.Bool.{Bool, true, false}
use native.Mathlib.Omega.{arith}
use native.Mathlib.Nat.{mul-div_cancel_left}
use lib.ListN.{length, get_or, take, drop, set, length-append, length-drop, length-set}
use lib.Dec.{ltb, eqb}
use borrow.Author.Tests.{ltb-true, ltb-false, eqb-true, eqb-false}
use lib.Seq.{take-add, take_at, drop_at, take-append-le, drop-append-le, drop-append-add, drop-drop, length-take-le, ext_get_or, get_or-set_same, get_or-set_other}
use Rattle.laws.specs.Lists.{over, pasted}
use Rattle.laws.proofs.TableLaws.{length-pasted}
use Rattle.laws.proofs.ListLaws.{front-part, left-none}
use Rattle.order.specs.Sorting.{EachOf, EachOf.each_nil, EachOf.each_on, Sorted, Sorted.sorted-nil, Sorted.sorted-on}
use Rattle.sorting.specs.Lines.{line_width, line_at, lines_in, joined, bytes_before}
use Rattle.sorting.specs.Exchanges.{Inside, exchanged, InOrder}

pub line-length : (s : List ℕ) (i : ℕ) → Inside s i → length (line_at s i) ≡ line_width
line-length s i h = length-take-le line_width (drop (line_width * i) s) (omega (arith, length-drop (line_width * i) s))

-- ---- a line that is stored

module _ (s : List ℕ) (i : ℕ) (x : List ℕ) (w : length x ≡ 23) (h : Inside s i) where
  abbrev behind : List ℕ
  behind = drop (23 * i + length x) s

  front_length : length (take (23 * i) s) ≡ 23 * i
  front_length = length-take-le (23 * i) s (omega arith)

  pub stored-length : length (pasted s (23 * i) x) ≡ length s
  stored-length = length-pasted s (23 * i) x (omega arith)

  pub stored_here : line_at (pasted s (23 * i) x) i ≡ x
  stored_here = rw (append_assoc (take (23 * i) s) x behind, drop_at (take (23 * i) s) (x ++ behind) (23 * i) front_length) (take_at x behind 23 w)

  pub stored-before : (k : ℕ) → k < i → line_at (pasted s (23 * i) x) k ≡ line_at s k
  stored-before k l =
      let r : List ℕ = x ++ behind in
      let m : length (drop (23 * k) (take (23 * i) s)) ≡ 23 * i - 23 * k = length-drop (23 * k) (take (23 * i) s) ∙ rw front_length in
      rw (append_assoc (take (23 * i) s) x behind, drop-append-le (23 * k) (take (23 * i) s) r (omega (arith, front_length)), take-append-le 23 (drop (23 * k) (take (23 * i) s)) r (omega (arith, m)))
      (front-part s (23 * i) (23 * k) 23 (omega arith))

  pub stored-rest : (k : ℕ) → i < k → drop (23 * k) (pasted s (23 * i) x) ≡ drop (23 * k) s
  stored-rest k l =
      let f : List ℕ = take (23 * i) s ++ x in
      let n : length f ≡ 23 * i + 23 = length-append (take (23 * i) s) x ∙ omega (arith, front_length, w) in
      let m : 23 * k ≡ length f + (23 * k - (23 * i + 23)) = omega (arith, n) in
      let o : 23 * i + length x + (23 * k - (23 * i + 23)) ≡ 23 * k = omega (arith, w) in
      ap (λ (j : ℕ). drop j (f ++ behind)) m
      ∙ drop-append-add f behind (23 * k - (23 * i + 23)) ∙ drop-drop (23 * k - (23 * i + 23)) (23 * i + length x) s ∙ ap (λ (j : ℕ). drop j s) o

  pub stored_other : (k : ℕ) → (k ≡ i → ⊥) → line_at (pasted s (23 * i) x) k ≡ line_at s k
  stored_other k d = go (ltb k i) refl
    where
      go : (b : Bool) → ltb k i ≡ b → line_at (pasted s (23 * i) x) k ≡ line_at s k
      go true e = stored-before k (ltb-true k i e)
      go false e = let l : i ≤ k = ltb-false k i e in let m : i < k = on (eqb k i) refl l in ap (take 23) (stored-rest k m)
        where
          on : (b : Bool) → eqb k i ≡ b → i ≤ k → i < k
          on true q l = absurd (d (eqb-true k i q))
          on false q l = let n : k ≡ i → ⊥ = eqb-false k i q in omega arith

-- ---- two lines that are exchanged

module _ (s : List ℕ) (i j : ℕ) (h : i < j) (k : Inside s j) where
  first-in : Inside s i
  first-in = omega arith

  abbrev one : List ℕ
  one = pasted s (23 * i) (line_at s j)

  one-length : length one ≡ length s
  one-length = stored-length s i (line_at s j) (line-length s j k) first-in

  second-in : Inside one j
  second-in = rw one-length k

  pub exchanged-length : length (exchanged s i j) ≡ length s
  unfolding exchanged
  exchanged-length = stored-length one j (line_at s i) (line-length s i first-in) second-in ∙ one-length

  pub exchanged-second : line_at (exchanged s i j) j ≡ line_at s i
  unfolding exchanged
  exchanged-second = stored_here one j (line_at s i) (line-length s i first-in) second-in

  pub exchanged-first : line_at (exchanged s i j) i ≡ line_at s j
  unfolding exchanged
  exchanged-first =
      stored-before one j (line_at s i) (line-length s i first-in) second-in i h ∙ stored_here s i (line_at s j) (line-length s j k) first-in

  pub exchanged-other : (m : ℕ) → (m ≡ i → ⊥) → (m ≡ j → ⊥) → line_at (exchanged s i j) m ≡ line_at s m
  unfolding exchanged
  exchanged-other m d e =
      stored_other one j (line_at s i) (line-length s i first-in) second-in m e ∙ stored_other s i (line_at s j) (line-length s j k) first-in m d

  pub exchanged-rest : (n : ℕ) → j < n → drop (23 * n) (exchanged s i j) ≡ drop (23 * n) s
  unfolding exchanged
  exchanged-rest n l =
      stored-rest one j (line_at s i) (line-length s i first-in) second-in n l ∙ stored-rest s i (line_at s j) (line-length s j k) first-in n (omega arith)

-- ---- the first n lines

pub line_on : (s : List ℕ) (i : ℕ) → line_at (drop 23 s) i ≡ line_at s (suc i)
line_on s i = let n : 23 + 23 * i ≡ 23 * suc i = omega arith in ap (take 23) (drop-drop (23 * i) 23 s ∙ ap (λ (k : ℕ). drop k s) n)

pub lines-length : (n : ℕ) (s : List ℕ) → length (lines_in n s) ≡ n
unfolding lines_in
lines-length zero s = refl
lines-length (suc n) s = ap suc (lines-length n (drop 23 s))

pub lines_at : (n : ℕ) (s : List ℕ) (i : ℕ) → i < n → get_or (lines_in n s) i [] ≡ line_at s i
unfolding lines_in
lines_at zero s i h = absurd (omega arith)
lines_at (suc n) s zero h = refl
lines_at (suc n) s (suc i) h = lines_at n (drop 23 s) i (omega arith) ∙ line_on s i

pub lines-each : (P : List ℕ → Type 0) (n : ℕ) (s : List ℕ) → ((i : ℕ) → i < n → P (line_at s i)) → EachOf P (lines_in n s)
unfolding lines_in
lines-each P zero s f = each_nil
lines-each P (suc n) s f = each_on (f 0 (omega arith)) (lines-each P n (drop 23 s) (λ i l. subst P (sym (line_on s i)) (f (suc i) (omega arith))))

pub lines-sorted : (n : ℕ) (s : List ℕ) → InOrder n s → Sorted bytes_before (lines_in n s)
unfolding lines_in
lines-sorted zero s f = sorted-nil
lines-sorted (suc n) s f =
    sorted-on (lines-each (λ (x : List ℕ). bytes_before x (take 23 s) ≡ false) n (drop 23 s) (λ i l. rw (line_on s i) (f 0 (suc i) (omega arith) (omega arith))))
    (lines-sorted n (drop 23 s) (λ p q l m. rw (line_on s p, line_on s q) (f (suc p) (suc q) (omega arith) (omega arith))))

-- they are all of the table up to there
pub lines-joined : (n : ℕ) (s : List ℕ) → joined (lines_in n s) ≡ take (23 * n) s
unfolding lines_in joined
lines-joined zero s = refl
lines-joined (suc n) s =
    let m : 23 + 23 * n ≡ 23 * suc n = omega arith in
    ap (λ (l : List ℕ). take 23 s ++ l) (lines-joined n (drop 23 s)) ∙ sym (take-add 23 (23 * n) s) ∙ ap (λ (k : ℕ). take k s) m

-- exchanged in the table, they are exchanged in the list
module _ (n : ℕ) (s : List ℕ) (i j : ℕ) (h : i < j) (k : Inside s j) (l : j < n) where
  abbrev u : List ℕ
  u = exchanged s i j

  abbrev a : List (List ℕ)
  a = lines_in n s

  abbrev x : List ℕ
  x = get_or a i []

  abbrev y : List ℕ
  y = get_or a j []

  other_place : (m : ℕ) → m < n → line_at u m ≡ get_or (set (set a i y) j x) m []
  other_place m p = go (eqb m j) (eqb m i) refl refl
    where
      go : (b c : Bool) → eqb m j ≡ b → eqb m i ≡ c → line_at u m ≡ get_or (set (set a i y) j x) m []
      go true c e d =
          let q : m ≡ j = eqb-true m j e in
          rw q (exchanged-second s i j h k ∙ sym (lines_at n s i (omega arith)) ∙ sym (get_or-set_same (set a i y) j x [] (omega (arith, length-set a i y, lines-length n s))))
      go false true e d =
          let q : m ≡ i = eqb-true m i d in
          let o : i ≡ j → ⊥ = λ r. absurd (omega arith) in
          rw q (exchanged-first s i j h k ∙ sym (lines_at n s j l) ∙ sym (get_or-set_same a i y [] (omega (arith, lines-length n s))) ∙ sym (get_or-set_other (set a i y) j i x [] o))
      go false false e d =
          exchanged-other s i j h k m (eqb-false m i d) (eqb-false m j e) ∙ sym (lines_at n s m p)
          ∙ sym (get_or-set_other a i m y [] (eqb-false m i d)) ∙ sym (get_or-set_other (set a i y) j m x [] (eqb-false m j e))

  pub lines-exchanged : lines_in n u ≡ set (set a i y) j x
  lines-exchanged =
      ext_get_or [] (lines_in n u) (set (set a i y) j x) (lines-length n u ∙ sym (length-set (set a i y) j x ∙ length-set a i y ∙ lines-length n s))
      (λ m p. let q : m < n = omega (arith, lines-length n u) in lines_at n u m q ∙ other_place m q)

-- ---- whole lines one behind the other are the lines

pub record Whole (x : List ℕ) : Type 0 where
  pub wide : length x ≡ line_width

pub joined_length : {l : List (List ℕ)} → EachOf Whole l → length (joined l) ≡ line_width * length l
unfolding joined
joined_length each_nil = refl
joined_length (each_on {x} {s} w e) = omega (arith, length-append x (joined s), w.wide, joined_length e)

pub joined-lines : {l : List (List ℕ)} → EachOf Whole l → lines_in (length l) (joined l) ≡ l
unfolding joined lines_in
joined-lines each_nil = refl
joined-lines (each_on {x} {s} w e) = rw (take_at x (joined s) 23 w.wide, drop_at x (joined s) 23 w.wide, joined-lines e)

-- so many of them
pub joined-count : {l : List (List ℕ)} → EachOf Whole l → length (joined l) / line_width ≡ length l
joined-count {l} e = rw (joined_length e) (mul-div_cancel_left (length l) {n = 23} (omega arith))

-- what is stored over a table of the same length
pub over-all : (s l : List ℕ) → length s ≡ length l → over s l ≡ s
over-all s l e = rw (left-none l (length s) (omega arith)) (append-nil s)
