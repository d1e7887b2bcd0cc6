-- The ways through the code: the loop that places digits, and a lemma for each answer. Assumes nothing.
use Prim.Native.Nat.{ℕ, zero, suc, ◌+◌, ◌-◌, ◌*◌, ◌/◌, ◌%◌, ◌^◌, ◌≤◌, ◌<◌, zero-le}
use mathlib.Core.Path.{◌≡◌, refl, sym, ◌∙◌, ap}
use mathlib.Core.List.{List, [], ◌∷◌, ◌++◌, append_assoc, append-nil}
use mathlib.Core.Bool.{Bool, true, false, ◌&&◌}
use native.Mathlib.Omega.{arith}
use lib.ListN.{length, get_or, take, drop, set, replicate, length-append, length-replicate, replicate-append-replicate}
use lib.Seq.{take_at, take-append-le, drop-append-add, drop-drop, length-take-le}
use lib.Dec.{leb}
use lib.IntN.{ℤ, pos, negsuc, neg_ℤ, nat_abs}
use lib.Signed.{lt_z, le_z}
use mir.Syntax.{w64}
use mir.Val.{SFits, Fits, to_z, of_z}
use mir.ValLaws.{to_z-of_z}
use borrow.Author.Tests.{lt-leb, le-leb, leb-true}
use Rattle.laws.specs.Lists.{tail, over, pasted}
use Rattle.laws.proofs.TableLaws.{pasted-none, pasted-front, pasted-before, pasted-one, pasted-part, length-pasted, length_over, over-next, over-whole}
use Rattle.number.specs.Number.{is_real}
use Rattle.spelling.specs.Stored.{has_room, Stored}
use Rattle.spelling.specs.Spelling.{digits, count_text, aligned, integer_text, minus}
use Rattle.spelling.specs.Figures.{whole_text, is_narrow, figure_text}
use Rattle.spelling.proofs.DigitLaws.{digits-few, digits_more, digits-some, digits-fit, digits-most, digits-wider, digits-below, digits-alike, shorter}
use Rattle.spelling.proofs.SpellingLaws.{in-plus, in-minus, minus-none}
use Rattle.spelling.proofs.FigureLaws.{narrow-plus, narrow-minus}

-- ---- the digits, last one first: `done` stands from `at` on, and `rest` has those that are missing

pub record Placing (l : List ℕ) (end n : ℕ) (text : List ℕ) (at rest : ℕ) : Type 0 where
  pub done : List ℕ
  pub room : 1 ≤ at
  pub inside : end ≤ length l
  pub left : rest < 10 ^ at
  pub ends : at + length done ≡ end
  pub split : digits end n ≡ digits at rest ++ done
  pub is : text ≡ pasted l at done

pub placing-start : (l : List ℕ) (end n : ℕ) → 1 ≤ end → end ≤ length l → n < 10 ^ end → Placing l end n l end n
placing-start l end n h k e =
    record { done = []; room = h; inside = k; left = e; ends = omega arith; split = sym (append-nil (digits end n)); is = pasted-none l end }

module _ (l : List ℕ) (end n : ℕ) (text : List ℕ) (at rest : ℕ) (p : Placing l end n text at rest) where
  placing-length : length text ≡ length l
  placing-length = ap length p.is ∙ length-pasted l at p.done (omega (arith, p.ends, p.inside))

  stored : (v : ℕ) → set text (at - 1) v ≡ pasted l (at - 1) (v ∷ p.done)
  stored v = rw p.is (pasted-before l (at - 1) at v p.done (omega (arith, p.room)) (omega (arith, p.ends, p.inside)))

  at_suc : at ≡ suc (at - 1)
  at_suc = omega (arith, p.room)

  pub placing-step : (v : ℕ) → v ≡ 48 + rest % 10 → 10 ≤ rest → Placing l end n (set text (at - 1) v) (at - 1) (rest / 10)
  placing-step v e h =
      let s = shorter (at - 1) rest h (rw at_suc at p.left) in
      let q : digits at rest ≡ digits (at - 1) (rest / 10) ++ v ∷ []
      = ap (λ (k : ℕ). digits k rest) at_suc ∙ rw e (digits_more (at - 1) rest h) in
      record {
        done = v ∷ p.done;
        room = s.0;
        inside = p.inside;
        left = s.1;
        ends = omega (arith, p.ends, p.room);
        split = p.split ∙ rw (q, append_assoc);
        is = stored v;
      }

  pub placing-end : (v : ℕ) → v ≡ 48 + rest % 10 → rest < 10
      → (at - 1 + length (digits end n) ≡ end) × (set text (at - 1) v ≡ pasted l (at - 1) (digits end n))
  placing-end v e h =
      let w : 48 + rest ≡ v = omega arith in
      let q : digits end n ≡ v ∷ p.done
      = p.split ∙ ap (λ (k : ℕ). digits k rest ++ p.done) at_suc ∙ rw (digits-few (at - 1) rest h, w) in
      rw q (omega (arith, p.ends, p.room), stored v)

  -- the places that the code stores at
  pub placing-at : at - 1 < length text
  placing-at = omega (arith, placing-length, p.room, p.inside, p.ends)

-- two digits at once

module _ (l : List ℕ) (end n : ℕ) (text : List ℕ) (at rest : ℕ) (p : Placing l end n text at rest) where
  module _ (v : ℕ) (e : v ≡ 48 + rest % 10) (h : 10 ≤ rest) where
    one_less : Placing l end n (set text (at - 1) v) (at - 1) (rest / 10)
    one_less = placing-step l end n text at rest p v e h

    pub two-room : 2 ≤ at
    two-room = omega (arith, one_less.room)

    two-less : at - 1 - 1 ≡ at - 2
    two-less = omega (arith, two-room)

    pub placing-two : (u : ℕ) → u ≡ 48 + rest / 10 % 10 → 100 ≤ rest → Placing l end n (set (set text (at - 1) v) (at - 2) u) (at - 2) (rest / 100)
    placing-two u f k =
        let q : rest / 10 / 10 ≡ rest / 100 = omega arith in
        rw (two-less, q) at (placing-step l end n (set text (at - 1) v) (at - 1) (rest / 10) one_less u f (omega arith))

    pub placing-both : (u : ℕ) → u ≡ 48 + rest / 10 % 10 → rest < 100
        → (at - 2 + length (digits end n) ≡ end) × (set (set text (at - 1) v) (at - 2) u ≡ pasted l (at - 2) (digits end n))
    placing-both u f k = rw two-less at (placing-end l end n (set text (at - 1) v) (at - 1) (rest / 10) one_less u f (omega arith))

  -- the digits that are missing, placed by themselves
  pub placing-lead : (r : ℕ) (d : List ℕ) → (r + length (digits at rest) ≡ at) × (d ≡ pasted text r (digits at rest))
      → (r + length (digits end n) ≡ end) × (d ≡ pasted l r (digits end n))
  placing-lead r d e = (
    omega (arith, e.0, p.ends, ap length p.split, length-append (digits at rest) p.done),
    e.1 ∙ rw p.is (pasted-front l r at (digits at rest) p.done e.0 (omega (arith, p.ends, p.inside))) ∙ ap (pasted l r) (sym p.split),
  )

  pub placing-size : length text ≡ length l
  placing-size = placing-length l end n text at rest p

pub ruleset placing_ways = (placing-start, placing-end, placing-both, placing-two, placing-lead, placing-size)

-- ---- point and places

-- the code's product, below 1000
pub hundredth : (m : ℕ) → m < 1000 → m * 41 / 4096 ≡ m / 100
hundredth m h = omega arith

-- ---- the sign; a signed number is read back from its bits

module _ (z : ℤ) (f : SFits w64 z) where
  pub back : to_z w64 (of_z w64 z) ≡ z
  back = to_z-of_z w64 z f

  below : (k : ℤ) (x : Bool) → lt_z (to_z w64 (of_z w64 z)) k ≡ x → lt_z z k ≡ x
  below k x e = rw back at e

  pub sign-long : lt_z (to_z w64 (of_z w64 z)) (pos 0) ≡ true → minus z ≡ 45 ∷ []
  unfolding minus
  sign-long e = rw (below (pos 0) true e)

  pub sign-short : lt_z (to_z w64 (of_z w64 z)) (pos 0) ≡ false → minus z ≡ []
  unfolding minus
  sign-short e = rw (below (pos 0) false e)

  module _ (text : List ℕ) (at : ℕ) where
    pub sign-put : lt_z (to_z w64 (of_z w64 z)) (pos 0) ≡ true → length (minus z) ≤ at → at ≤ length text
        → set text (at - 1) 45 ≡ pasted text (at - length (minus z)) (minus z)
    sign-put e h k =
        let m : 1 ≤ at = rw (sign-long e) at h in
        rw (sign-long e) (pasted-one text (at - 1) 45 (omega arith))

    pub sign_at : lt_z (to_z w64 (of_z w64 z)) (pos 0) ≡ true → length (minus z) ≤ at → at ≤ length text → (1 ≤ at) × (at - 1 < length text)
    sign_at e h k = let m : 1 ≤ at = rw (sign-long e) at h in (m, omega arith)

    pub sign-left : lt_z (to_z w64 (of_z w64 z)) (pos 0) ≡ false → text ≡ pasted text (at - length (minus z)) (minus z)
    sign-left e = rw (sign-short e) (pasted-none text (at - 0))

pub ruleset sign_ways = (sign-put, sign_at, sign-left)

-- ---- a number without its sign

pub abs-most : (z : ℤ) → is_real z ≡ true → nat_abs z ≤ 99999999999
abs-most (pos a) h = in-plus a h
abs-most (negsuc a) h = omega (arith, in-minus a h)

-- ---- the whole text

abbrev pub blanks : ℕ → List ℕ
blanks w = replicate w 32

-- stored over n blanks, up to their end or past it, a text is aligned
pub aligned-over : (w n i : ℕ) (s l : List ℕ) → i + length s ≡ w → i ≤ n → n ≤ w → pasted (over (blanks n) l) i s ≡ over (aligned w s) l
unfolding aligned
aligned-over w n i s l e h k =
    let o : w - length s ≡ i = omega arith in
    let z : length (blanks n) ≡ n = length-replicate {A = ℕ} n 32 in
    let y : length (blanks i) ≡ i = length-replicate {A = ℕ} i 32 in
    let r : List ℕ = drop (length (blanks n)) l in
    let f : n ≡ i + (n - i) = omega arith in
    let t : take i (blanks n) ≡ blanks i
    = ap (λ (m : ℕ). take i (blanks m)) f ∙ rw (← replicate-append-replicate {A = ℕ} i (n - i) 32) (take_at (blanks i) (blanks (n - i)) i y) in
    let a : take i (blanks n ++ r) ≡ blanks i = take-append-le i (blanks n) r (omega arith) ∙ t in
    let q : i + length s ≡ length (blanks n) + (w - n) = omega arith in
    let m : length (blanks n) + (w - n) ≡ length (blanks i ++ s) = omega (arith, length-append (blanks i) s) in
    let b : drop (i + length s) (blanks n ++ r) ≡ drop (length (blanks i ++ s)) l
    = ap (λ (x : ℕ). drop x (blanks n ++ r)) q ∙ drop-append-add (blanks n) r (w - n) ∙ drop-drop (w - n) (length (blanks n)) l ∙ ap (λ (x : ℕ). drop x l) m in
    rw (o, a, b)

pub integer-made : (v r : ℕ) (l d : List ℕ) → (r + length (digits 4 v) ≡ 4) × (d ≡ pasted (over (blanks 4) l) r (digits 4 v)) → d ≡ over (integer_text v) l
unfolding integer_text
integer-made v r l d e = e.1 ∙ aligned-over 4 4 r (digits 4 v) l e.0 (omega (arith, e.0)) (omega arith)

-- ---- a figure

pub narrow_is : (z : ℤ) → is_narrow z ≡ (le_z (neg_ℤ (pos 999999999)) z && le_z z (pos 9999999999))
narrow_is (pos a) = narrow-plus a
narrow_is (negsuc a) = narrow-minus a ∙ go (leb a 999999998)
  where
    go : (x : Bool) → x ≡ (x && true)
    go true = refl
    go false = refl

-- a figure is within the range of a real, below ten digits, and its sign finds room before them
record Narrow (z : ℤ) : Type 0 where
  pub real : is_real z ≡ true
  pub few : nat_abs z < 10000000000
  pub room : length (minus z) + length (digits 10 (nat_abs z)) ≤ 10

narrow_has : (z : ℤ) → is_narrow z ≡ true → Narrow z
unfolding is_real minus
narrow_has (pos a) e =
    let k : a ≤ 9999999999 = leb-true a 9999999999 (sym (narrow-plus a) ∙ e) in
    record {
      real = le-leb a 99999999999 (omega arith);
      few = omega arith;
      room = rw (minus-none a) (omega (arith, digits-most 10 a));
    }
narrow_has (negsuc a) e =
    let k : a ≤ 999999998 = leb-true a 999999998 (sym (narrow-minus a) ∙ e) in
    record {
      real = rw (le-leb a 9999999998 (omega arith));
      few = omega arith;
      room = omega (arith, digits-fit 10 9 (suc a) (omega arith) (omega arith));
    }

module _ (z : ℤ) (f : SFits w64 z) (h : is_narrow z ≡ true) where
  pub figure-real : is_real (to_z w64 (of_z w64 z)) ≡ true
  figure-real = ap is_real (back z f) ∙ (narrow_has z h).real

  module _ (m : ℕ) (e : m ≡ nat_abs (to_z w64 (of_z w64 z))) where
    figure-abs : m ≡ nat_abs z
    figure-abs = e ∙ ap nat_abs (back z f)

    pub figure-few : m < 10000000000
    figure-few = omega (arith, (narrow_has z h).few, figure-abs)

    pub figure-sign : (r : ℕ) → r + length (digits 10 m) ≡ 10 → length (minus (to_z w64 (of_z w64 z))) ≤ r
    figure-sign r q =
        let w : r + length (digits 10 (nat_abs z)) ≡ 10 = rw figure-abs at q in
        rw (back z f) (omega (arith, (narrow_has z h).room))

    -- digits and sign over blanks
    pub figure-made : (r : ℕ) (l b d : List ℕ) → 10 ≤ length l
        → (r + length (digits 10 m) ≡ 10) × (b ≡ pasted (over (blanks 10) l) r (digits 10 m))
        → d ≡ pasted b (r - length (minus (to_z w64 (of_z w64 z)))) (minus (to_z w64 (of_z w64 z))) → d ≡ over (figure_text z) l
    unfolding figure_text whole_text count_text
    figure-made r l b d room q e =
        let n = nat_abs z in
        let few : n < 10000000000 = (narrow_has z h).few in
        let base : List ℕ = over (blanks 10) l in
        let o : length base ≡ length l = length_over (blanks 10) l (omega arith) in
        let g : length (minus z) + length (digits 10 n) ≤ 10 = (narrow_has z h).room in
        let w : r + length (digits 10 n) ≡ 10 = rw figure-abs at q.0 in
        let x : b ≡ pasted base r (digits 10 n) = q.1 ∙ rw figure-abs in
        let k : r - length (minus z) + length (minus z) ≡ r = omega arith in
        e ∙ rw (back z f, x, digits-wider 10 20 n (omega arith) (omega arith) few)
        (pasted-front base (r - length (minus z)) r (minus z) (digits 10 n) k (omega arith)
        ∙ aligned-over 10 10 (r - length (minus z)) (minus z ++ digits 10 n) l (omega (arith, length-append (minus z) (digits 10 n))) (omega arith) (omega arith))

-- ---- the digits of a listed number

-- the digits of a listed number are counted as they are taken off, the last first: `rest` has those to come, fewer than `left`
pub record Counting (v size rest : ℕ) : Type 0 where
  pub left : ℕ
  pub some : 1 ≤ left
  pub all : size + left ≡ 21
  pub few : rest < 10 ^ left
  pub counted : length (count_text v) + 1 ≡ size + length (digits left rest)

pub counting-start : (v : ℕ) → v < 10 ^ 20 → Counting v 1 v
unfolding count_text
counting-start v h = record { left = 20; some = omega arith; all = refl; few = h; counted = omega arith }

module _ (v size rest : ℕ) (p : Counting v size rest) where
  pub counting-step : 10 ≤ rest → Counting v (size + 1) (rest / 10)
  counting-step h = go p.left p.all p.few p.counted
    where
      go : (w : ℕ) → size + w ≡ 21 → rest < 10 ^ w → length (count_text v) + 1 ≡ size + length (digits w rest) → Counting v (size + 1) (rest / 10)
      go zero a f c = absurd (omega arith)
      go (suc w) a f c =
          let s = shorter w rest h f in
          let d = ap length (digits_more w rest h) ∙ length-append (digits w (rest / 10)) ((48 + rest % 10) ∷ []) in
          record { left = w; some = s.0; all = omega arith; few = s.1; counted = omega arith }

  pub counting-fits : Fits w64 (size + 1)
  counting-fits = record { fits = omega (arith, p.all) }

  pub counting-end : rest < 10 → size ≡ length (count_text v)
  counting-end h = go p.left p.some p.counted
    where
      go : (w : ℕ) → 1 ≤ w → length (count_text v) + 1 ≡ size + length (digits w rest) → size ≡ length (count_text v)
      go zero s c = absurd (omega arith)
      go (suc w) s c = omega (arith, ap length (digits-few w rest h))

pub ruleset counting_ways = (counting-start, counting-fits, counting-step, counting-end)

-- ---- the copy: the first `i` characters stand over what was there

pub record Copying (text l out : List ℕ) (i : ℕ) : Type 0 where
  pub within : i ≤ length text
  pub room : length text ≤ length l
  pub is : out ≡ over (take i text) l

pub copying-start : (text l : List ℕ) → length text ≤ length l → Copying text l l 0
copying-start text l h = record { within = zero-le; room = h; is = refl }

module _ (text l out : List ℕ) (i : ℕ) (p : Copying text l out i) where
  pub copying-length : length out ≡ length l
  copying-length = ap length p.is ∙ length_over (take i text) l (omega (arith, length-take-le i text p.within, p.within, p.room))

  pub copying-step : i < length text → Copying text l (set out i (get_or text i 0)) (i + 1)
  copying-step h = record { within = omega arith; room = p.room; is = rw p.is (over-next text l i 0 h p.room) }

  pub copying-end : length text ≤ i → out ≡ over text l
  copying-end h = p.is ∙ over-whole text l i h

-- ---- bytes at a place

module _ (l : List ℕ) (at : ℕ) (s : List ℕ) where
  pub stored-tight : length l < at + length s → Stored l at s l at
  unfolding has_room
  stored-tight h = let t = lt-leb (at + length s) (length l) h in record { is = rw t; next = rw t }

  pub stored-done : at ≤ length l → length s ≤ length l - at → (e : List ℕ) → e ≡ over s (tail l at)
      → Stored l at s (take at l ++ (e ++ drop (length l - at) (drop at l))) (at + length s)
  unfolding has_room
  stored-done h k e q = let t = le-leb (at + length s) (length l) (omega arith) in record { is = rw (q, t) (pasted-part l s at); next = rw t }

-- digits at a place: they end before the place that is counted ahead
module _ (l : List ℕ) (at v size : ℕ) (h : v < 10 ^ 20) (e : size ≡ length (count_text v)) where
  pub count-asks : (1 ≤ at + size) × (v < 10 ^ (at + size))
  unfolding count_text
  count-asks = (omega (arith, digits-some 20 v (omega arith)), digits-below 20 v (at + size) h (omega arith))

  count-digits : digits (at + size) v ≡ count_text v
  unfolding count_text
  count-digits = digits-alike 20 v (at + size) h (omega arith) (omega arith) count-asks.0

  pub count-tight : length l - at < size → Stored l at (count_text v) l at
  count-tight k = stored-tight l at (count_text v) (omega (arith, count-asks.0))

  pub count-done : at ≤ length l → size ≤ length l - at → (r : ℕ) (d : List ℕ)
      → (r + length (digits (at + size) v) ≡ at + size) × (d ≡ pasted l r (digits (at + size) v)) → Stored l at (count_text v) d (at + size)
  unfolding has_room
  count-done a k r d q =
      let o : r ≡ at = omega (arith, q.0, ap length count-digits) in
      let t = le-leb (at + length (count_text v)) (length l) (omega arith) in
      record { is = rw t (q.1 ∙ rw (count-digits, o)); next = rw (t, e) }
