-- Texts that are stored one behind the other. `Putting l at s d n r`: of the text s, to stand in l from `at` on, d holds all but r,
-- which is to come at n. Assumes nothing.
use Prim.Native.Nat.{ℕ, ◌+◌, ◌-◌, ◌≤◌, ◌<◌}
use mathlib.Core.Path.{◌≡◌, refl, sym, ◌∙◌, ap, subst}
use mathlib.Core.List.{List, [], ◌∷◌, ◌++◌}
use mathlib.Core.Bool.{Bool, true, cond, ◌&&◌}
use native.Mathlib.Omega.{arith}
use lib.ListN.{length, set, take, drop, length-append, length-drop}
use lib.Dec.{leb}
use lib.IntN.{ℤ, pos, negsuc}
use mir.Syntax.{w64}
use mir.Val.{to_z, of_z}
use mir.ValLaws.{to_z-of_z}
use borrow.Author.Tests.{le-leb}
use Rattle.laws.specs.Lists.{tail, over, pasted}
use Rattle.laws.proofs.TableLaws.{pasted-none, pasted-one, pasted-behind, pasted-part, length-pasted}
use Rattle.laws.proofs.ListLaws.{rest-is}
use Rattle.number.specs.Number.{is_real}
use Rattle.spelling.specs.Stored.{has_room, Stored}
use Rattle.spelling.specs.Spelling.{integer_text, real_text}
use Rattle.spelling.proofs.SpellingLaws.{integer-length, real-length, in-plus, in-minus}
use Rattle.layout.specs.Sheet.{line}
use Rattle.writer.specs.Put.{Put}

pub record Putting (l : List ℕ) (at : ℕ) (s d : List ℕ) (n : ℕ) (r : List ℕ) : Type 0 where
  pub size : length d ≡ length l
  pub room : n + length r ≤ length d
  pub place : n + length r ≡ at + length s
  pub is : pasted d n r ≡ pasted l at s

pub putting-start : (l : List ℕ) (at : ℕ) (s : List ℕ) → at + length s ≤ length l → Putting l at s l at s
putting-start l at s h = record { size = refl; room = h; place = refl; is = refl }

-- bytes that find room
pub stored-put : {l : List ℕ} {at : ℕ} {s d : List ℕ} {r : ℕ} → at + length s ≤ length l → Stored l at s d r → Put l at s d r
unfolding has_room
stored-put {l} {at} {s} h w = let t = le-leb (at + length s) (length l) h in record { is = w.is ∙ rw t; next = w.next ∙ rw t }

module _ {l : List ℕ} {at : ℕ} {s d : List ℕ} {n : ℕ} {r : List ℕ} (p : Putting l at s d n r) where
  -- the next part of what is to come
  pub putting-room : (a b : List ℕ) → r ≡ a ++ b → n + length a ≤ length d
  putting-room a b q = omega (arith, p.room, ap length q, length-append a b)

  pub putting-on : (a b : List ℕ) {e : List ℕ} {m : ℕ} → r ≡ a ++ b → Put d n a e m → Putting l at s e m b
  putting-on a b {e} {m} q w =
      let h : n + length a ≤ length d = putting-room a b q in
      let k : length e ≡ length d = ap length w.is ∙ length-pasted d n a h in
      let j : length r ≡ length a + length b = ap length q ∙ length-append a b in
      record {
        size = k ∙ p.size;
        room = omega (arith, k, j, w.next, p.room);
        place = omega (arith, j, w.next, p.place);
        is = rw (w.is, w.next) (pasted-behind d n a b h) ∙ ap (pasted d n) (sym q) ∙ p.is;
      }

  -- the same, of bytes that are stored
  pub stored_on : (a b : List ℕ) {e : List ℕ} {m : ℕ} → r ≡ a ++ b → Stored d n a e m → Putting l at s e m b
  stored_on a b q w = putting-on a b q (stored-put (putting-room a b q) w)

  -- nothing is to come
  pub putting-end : r ≡ [] → Put l at s d n
  putting-end q =
      record {
        is = pasted-none d n ∙ ap (pasted d n) (sym q) ∙ p.is;
        next = omega (arith, ap length q, p.place);
      }

  -- the last part
  pub putting-last : {e : List ℕ} {m : ℕ} → Put d n r e m → Put l at s e m
  putting-last {e} {m} w = record { is = w.is ∙ p.is; next = w.next ∙ p.place }

  pub stored_last : {e : List ℕ} {m : ℕ} → Stored d n r e m → Put l at s e m
  stored_last w = putting-last (stored-put p.room w)

-- the record of the same content
pub line-room : {s t : List ℕ} → s ≡ t → (at size : ℕ) → at + length (line s) ≤ size → at + length (line t) ≤ size
line-room e at size h = subst (λ (x : List ℕ). at + length (line x) ≤ size) e h

pub line-put : {s t : List ℕ} → s ≡ t → {l d : List ℕ} {at r : ℕ} → Put l at (line t) d r → Put l at (line s) d r
line-put e {l} {d} {at} {r} p = subst (λ (x : List ℕ). Put l at (line x) d r) (sym e) p

-- a text at the start of the part `&mut l[at..]`
pub put-part : (l : List ℕ) (at : ℕ) (s e : List ℕ) → e ≡ over s (tail l at) → Put l at s (take at l ++ (e ++ drop (length l - at) (drop at l))) (at + length s)
put-part l at s e q = record { is = rw q (pasted-part l s at); next = refl }

-- a number that is spelt in that part: `fits` is the spelling's own test of the number
module _ (l : List ℕ) (at : ℕ) (s : List ℕ) (width : ℕ) (wide : length s ≡ width) (room : at + length (line s) ≤ length l) where
  line-spelt : (fits r : Bool) (e : List ℕ) → fits ≡ true → r ≡ (fits && leb width (length (tail l at))) → e ≡ cond r (over s (tail l at)) (tail l at)
      → Putting l at (line s) (take at l ++ (e ++ drop (length l - at) (drop at l))) (at + width) (13 ∷ 10 ∷ [])
  line-spelt fits r e f q w =
      let n : at + width ≤ length l = omega (arith, room, wide, length-append s (13 ∷ 10 ∷ [])) in
      let k : width ≤ length (tail l at) = rw (rest-is l at) (omega (arith, n, length-drop at l)) in
      let t : r ≡ true = q ∙ rw (f, le-leb width (length (tail l at)) k) in
      let p : Put l at s (take at l ++ (e ++ drop (length l - at) (drop at l))) (at + width) = rw (← wide) (put-part l at s e (w ∙ rw t)) in
      putting-on (putting-start l at (line s) room) s (13 ∷ 10 ∷ []) refl p

-- the record of an integer
pub integer-line : (l : List ℕ) (at n : ℕ) → n ≤ 9999 → at + length (line (integer_text n)) ≤ length l → (r : Bool) (e : List ℕ)
    → r ≡ (leb n 9999 && leb 4 (length (tail l at))) → e ≡ cond r (over (integer_text n) (tail l at)) (tail l at)
    → Putting l at (line (integer_text n)) (take at l ++ (e ++ drop (length l - at) (drop at l))) (at + 4) (13 ∷ 10 ∷ [])
integer-line l at n h room r e q w = line-spelt l at (integer_text n) 4 (integer-length n) room (leb n 9999) r e (le-leb n 9999 h) q w

-- a real that is handed on as bits
pub real-back : (z : ℤ) → is_real z ≡ true → to_z w64 (of_z w64 z) ≡ z
real-back (pos a) h = to_z-of_z w64 (pos a) (record { sfits = omega (arith, in-plus a h) })
real-back (negsuc a) h = to_z-of_z w64 (negsuc a) (record { sfits = omega (arith, in-minus a h) })

module _ (z : ℤ) (h : is_real z ≡ true) where
  pub real-asked : (at size : ℕ) → at + length (line (real_text z)) ≤ size
      → (is_real (to_z w64 (of_z w64 z)) ≡ true) × (at + length (line (real_text (to_z w64 (of_z w64 z)))) ≤ size)
  real-asked at size room = (ap is_real (real-back z h) ∙ h, line-room (ap real_text (sym (real-back z h))) at size room)

  pub real-put : {l d : List ℕ} {at r : ℕ} → Put l at (line (real_text (to_z w64 (of_z w64 z)))) d r → Put l at (line (real_text z)) d r
  real-put p = line-put (ap real_text (sym (real-back z h))) p

  -- the record of a real
  pub real-line : (l : List ℕ) (at : ℕ) → at + length (line (real_text z)) ≤ length l → (r : Bool) (e : List ℕ)
      → r ≡ (is_real (to_z w64 (of_z w64 z)) && leb 12 (length (tail l at))) → e ≡ cond r (over (real_text (to_z w64 (of_z w64 z))) (tail l at)) (tail l at)
      → Putting l at (line (real_text z)) (take at l ++ (e ++ drop (length l - at) (drop at l))) (at + 12) (13 ∷ 10 ∷ [])
  real-line l at room r e q w =
      line-spelt l at (real_text z) 12 (real-length z h) room (is_real z) r e h (rw (real-back z h) at q) (rw (real-back z h) at w)
