-- The ways through the functions that store raw lines, and that put figures into them. Assumes nothing.
use Prim.Native.Nat.{ℕ, zero, suc, ◌+◌, ◌-◌, ◌*◌, ◌/◌, ◌%◌, ◌≤◌, ◌<◌}
use mathlib.Core.Path.{◌≡◌, refl, sym, ap, subst, ◌∙◌}
use mathlib.Core.List.{List, [], ◌∷◌, ◌++◌, append_assoc, map}
use mathlib.Core.Bool.{Bool, true, false, cond, ◌&&◌}
use native.Mathlib.Nat.{mul-div-le}
use native.Mathlib.Omega.{arith}
use lib.ListN.{length, get_or, take, drop, length-drop, take-append-drop}
use lib.Seq.{take-add, take-take, drop-drop, drop-append-le, get_or-take, get_or-drop, length-take-le}
use lib.Dec.{T, leb, ltb}
use lib.IntN.{ℤ, pos, negsuc, nat_abs, ◌+ℤ◌, ◌-ℤ◌}
use lib.Signed.{lt_z, non_neg}
use mir.Syntax.{w64}
use mir.Val.{SFits, Fits, to_z, of_z}
use mir.Facts.{to_z-of_z, Fits-nat_abs}
use mir.ValLaws.{to_z_pos}
use borrow.Author.Tests.{le-leb, ltb-true, ltb-false}
use Rattle.laws.specs.Lists.{tail, over, pasted}
use Rattle.laws.proofs.Choice.{false≢true}
use Rattle.laws.proofs.Parts.{one-part, add_parts, sub-parts-ℤ, parts-fit, lt-false}
use Rattle.laws.proofs.ListLaws.{rest-is}
use Rattle.laws.proofs.TableLaws.{pasted-part, pasted-none, length-pasted}
use Rattle.spelling.specs.Figures.{is_narrow, figure_text}
use Rattle.spelling.proofs.FigureLaws.{figure-length}
use Rattle.sorting.specs.Lines.{line_at, lines_in, joined}
use Rattle.sorting.specs.Exchanges.{Inside}
use Rattle.sorting.proofs.LineLaws.{line-length, stored-length, stored_here, stored-before, stored-rest, lines-joined, line_on}
use Rattle.sup.specs.Raw.{raw_number, raw_bytes, raw_field, number_from, figure_in, figured, figured_lines}
use Rattle.sup.proofs.RawLaws.{narrow_below, narrow-above, raw-parts}

-- ---- a figure raised

module _ (z : ℤ) (h : is_narrow z ≡ true) where
  figure-fits : SFits w64 z
  figure-fits = parts-fit z (omega (arith, narrow-above z h)) (omega (arith, narrow_below z h))

  sum_fits : SFits w64 (z +ℤ pos 1000000000)
  sum_fits =
      parts-fit (z +ℤ pos 1000000000) (omega (arith, narrow-above z h, narrow_below z h, add_parts z (pos 1000000000), one-part (z +ℤ pos 1000000000), one-part z))
      (omega (arith, narrow-above z h, narrow_below z h, add_parts z (pos 1000000000), one-part (z +ℤ pos 1000000000), one-part z))

  sum_is : to_z w64 (of_z w64 z) +ℤ pos 1000000000 ≡ z +ℤ pos 1000000000
  sum_is = ap (λ (y : ℤ). y +ℤ pos 1000000000) (to_z-of_z figure-fits)

  pub raised-asks : SFits w64 (to_z w64 (of_z w64 z) +ℤ pos 1000000000)
  raised-asks = subst (SFits w64) (sym sum_is) sum_fits

  raised-back : to_z w64 (of_z w64 (to_z w64 (of_z w64 z) +ℤ pos 1000000000)) ≡ z +ℤ pos 1000000000
  raised-back = to_z-of_z raised-asks ∙ sum_is

  pub raised-cast : T (non_neg (to_z w64 (of_z w64 (to_z w64 (of_z w64 z) +ℤ pos 1000000000)))) × Fits w64 (nat_abs (to_z w64 (of_z w64 (to_z w64 (of_z w64 z) +ℤ pos 1000000000))))
  raised-cast =
      rw raised-back (not_neg (z +ℤ pos 1000000000) (lt-false (z +ℤ pos 1000000000) (pos 0) (omega (arith, narrow_below z h, add_parts z (pos 1000000000), one-part (z +ℤ pos 1000000000), one-part z))), Fits-nat_abs tt sum_fits)
    where
      not_neg : (y : ℤ) → lt_z y (pos 0) ≡ false → T (non_neg y)
      not_neg (pos n) e = tt
      not_neg (negsuc n) e = absurd (false≢true (sym e))

  pub raised_is : nat_abs (to_z w64 (of_z w64 (to_z w64 (of_z w64 z) +ℤ pos 1000000000))) ≡ raw_number z
  unfolding raw_number
  raised_is = ap nat_abs raised-back

  raised-small : raw_number z ≤ 10999999999
  raised-small = omega (arith, raw-parts z h, narrow-above z h)

  module _ (n : ℕ) (q : n ≡ raw_number (to_z w64 (of_z w64 z))) where
    e : n ≡ raw_number z
    e = q ∙ ap raw_number (to_z-of_z figure-fits)

    pub first_byte : n / 256 / 256 / 256 / 256 < 256
    first_byte = omega (arith, mul-div-le n 256, mul-div-le (n / 256) 256, mul-div-le (n / 256 / 256) 256, mul-div-le (n / 256 / 256 / 256) 256, raised-small, e)

    pub field_is : 0 ∷ 0 ∷ 0 ∷ 0 ∷ 0 ∷ (n / 256 / 256 / 256 / 256) ∷ (n / 256 / 256 / 256 % 256) ∷ (n / 256 / 256 % 256) ∷ (n / 256 % 256) ∷ (n % 256) ∷ [] ≡ raw_field z
    unfolding raw_field raw_bytes
    field_is = rw e

-- ---- a number from its bytes

module _ (s : List ℕ) (at : ℕ) (k : (i : ℕ) → get_or s i 0 < 256) where
  pub number_is : (((get_or s at 0 * 256 + get_or s (at + 1) 0) * 256 + get_or s (at + 2) 0) * 256 + get_or s (at + 3) 0) * 256 + get_or s (at + 4) 0 ≡ number_from s at
  unfolding number_from
  number_is = refl

  pub number-most : (((get_or s at 0 * 256 + get_or s (at + 1) 0) * 256 + get_or s (at + 2) 0) * 256 + get_or s (at + 3) 0) * 256 + get_or s (at + 4) 0 < 1099511627776
  number-most = omega (arith, k at, k (at + 1), k (at + 2), k (at + 3), k (at + 4))

-- ---- the figure of a line in place of its bytes

-- what is stored in a part is stored in the whole
part-pasted : (s : List ℕ) (p k : ℕ) (x : List ℕ) → k + length x ≤ 23 → p + 23 ≤ length s → pasted s (p + k) x ≡ pasted s p (pasted (take 23 (drop p s)) k x)
part-pasted s p k x h r =
    let u : List ℕ = drop p s in
    let l : List ℕ = take 23 u in
    let c : List ℕ = drop 23 u in
    let n : length l ≡ 23 = length-take-le 23 u (omega (arith, length-drop p s)) in
    let m : length (pasted l k x) ≡ 23 = length-pasted l k x (omega arith) ∙ n in
    let front : take (p + k) s ≡ take p s ++ take k l = take-add p k s ∙ ap (λ (y : List ℕ). take p s ++ y) (sym (take-take k 23 u (omega arith))) in
    let rest : drop (p + k + length x) s ≡ drop (k + length x) l ++ c
    = (let q : p + k + length x ≡ p + (k + length x) = omega arith in ap (λ (j : ℕ). drop j s) q) ∙ sym (drop-drop (k + length x) p s)
    ∙ ap (drop (k + length x)) (sym (take-append-drop 23 u)) ∙ drop-append-le (k + length x) l c (omega arith) in
    let back : drop (p + length (pasted l k x)) s ≡ c = ap (λ (j : ℕ). drop (p + j) s) m ∙ sym (drop-drop 23 p s) in
    rw (front, rest, back) (simp append_assoc)

-- a line stored where it stands
line_stays : (s : List ℕ) (i : ℕ) → Inside s i → pasted s (23 * i) (line_at s i) ≡ s
line_stays s i h =
    rw (line-length s i h, ← drop-drop 23 (23 * i) s, append_assoc (take (23 * i) s) (line_at s i) (drop 23 (drop (23 * i) s)), take-append-drop 23 (drop (23 * i) s)) (take-append-drop (23 * i) s)

byte-in : (s : List ℕ) (i k : ℕ) → k < 23 → get_or (line_at s i) k 0 ≡ get_or s (23 * i + k) 0
byte-in s i k h = get_or-take 23 (drop (23 * i) s) k 0 h ∙ get_or-drop (23 * i) s k 0

number_in : (s : List ℕ) (i : ℕ) → number_from (line_at s i) 16 ≡ number_from s (23 * i + 16)
unfolding number_from
number_in s i =
    let a : 23 * i + 17 ≡ 23 * i + 16 + 1 = omega arith in
    let b : 23 * i + 18 ≡ 23 * i + 16 + 2 = omega arith in
    let c : 23 * i + 19 ≡ 23 * i + 16 + 3 = omega arith in
    let d : 23 * i + 20 ≡ 23 * i + 16 + 4 = omega arith in
    rw (byte-in s i 16 (omega arith), byte-in s i 17 (omega arith), byte-in s i 18 (omega arith), byte-in s i 19 (omega arith), byte-in s i 20 (omega arith), a, b, c, d)

pub figured-length : (x : List ℕ) → length x ≡ 23 → length (figured x) ≡ 23
unfolding figured
figured-length x e = go (is_narrow (figure_in x)) refl
  where
    go : (b : Bool) → is_narrow (figure_in x) ≡ b → length (cond b (pasted x 11 (figure_text (figure_in x))) x) ≡ 23
    go true q = let n = figure-length (figure_in x) q in length-pasted x 11 (figure_text (figure_in x)) (omega arith) ∙ e
    go false q = e

module _ (s : List ℕ) (i : ℕ) (h : Inside s i) (n : ℕ) (e : n ≡ number_from s (23 * i + 16)) (l : n < 1099511627776) where
  lowered-fits : SFits w64 (pos n -ℤ pos 1000000000)
  lowered-fits =
      parts-fit (pos n -ℤ pos 1000000000) (omega (arith, sub-parts-ℤ (pos n) (pos 1000000000), one-part (pos n -ℤ pos 1000000000)))
      (omega (arith, sub-parts-ℤ (pos n) (pos 1000000000), one-part (pos n -ℤ pos 1000000000)))

  lowered_is : to_z w64 n -ℤ pos 1000000000 ≡ pos n -ℤ pos 1000000000
  lowered_is = ap (λ (y : ℤ). y -ℤ pos 1000000000) (to_z_pos w64 n (omega arith))

  pub lowered-asks : SFits w64 (to_z w64 n -ℤ pos 1000000000)
  lowered-asks = subst (SFits w64) (sym lowered_is) lowered-fits

  abbrev amount : ℤ
  amount = to_z w64 (of_z w64 (to_z w64 n -ℤ pos 1000000000))

  amount-is : amount ≡ figure_in (line_at s i)
  unfolding figure_in
  amount-is = to_z-of_z lowered-asks ∙ lowered_is ∙ ap (λ (k : ℕ). pos k -ℤ pos 1000000000) (e ∙ sym (number_in s i))

  pub figured-stored : (r : Bool) → r ≡ (is_narrow amount && leb 10 (length (tail s (23 * i + 11)))) → (t : List ℕ)
      → t ≡ cond r (over (figure_text amount) (tail s (23 * i + 11))) (tail s (23 * i + 11))
      → take (23 * i + 11) s ++ (t ++ drop (length s - (23 * i + 11)) (drop (23 * i + 11) s)) ≡ pasted s (23 * i) (figured (line_at s i))
  unfolding figured
  figured-stored r q t f =
      let k : 10 ≤ length (tail s (23 * i + 11)) = rw (rest-is s (23 * i + 11)) (omega (arith, length-drop (23 * i + 11) s)) in
      go (is_narrow (figure_in (line_at s i))) refl (q ∙ rw (le-leb 10 (length (tail s (23 * i + 11))) k, amount-is))
    where
      go : (b : Bool) → is_narrow (figure_in (line_at s i)) ≡ b → r ≡ (is_narrow (figure_in (line_at s i)) && true)
          → take (23 * i + 11) s ++ (t ++ drop (length s - (23 * i + 11)) (drop (23 * i + 11) s))
          ≡ pasted s (23 * i) (cond b (pasted (line_at s i) 11 (figure_text (figure_in (line_at s i)))) (line_at s i))
      go true d c =
          let m = figure-length (figure_in (line_at s i)) d in
          rw (f, c, d, amount-is, pasted-part s (figure_text (figure_in (line_at s i))) (23 * i + 11)) (part-pasted s (23 * i) 11 (figure_text (figure_in (line_at s i))) (omega arith) (omega arith))
      go false d c = rw (f, c, d) (pasted-part s [] (23 * i + 11) ∙ sym (pasted-none s (23 * i + 11)) ∙ sym (line_stays s i h))

-- ---- the loop: the lines before i have their figures

pub record Figuring (l s : List ℕ) (i : ℕ) : Type 0 where
  pub size : length s ≡ length l
  pub done : (k : ℕ) → k < i → line_at s k ≡ figured (line_at l k)
  pub rest : drop (23 * i) s ≡ drop (23 * i) l

pub figuring-start : (l : List ℕ) → Figuring l l 0
figuring-start l = record { size = refl; done = λ k h. absurd (omega arith); rest = refl }

module _ {l s : List ℕ} {i : ℕ} (g : Figuring l s i) where
  pub figuring-in : i < length l / 23 → Inside s i
  figuring-in h = omega (arith, mul-div-le (length l) 23, g.size)

  pub figuring-on : i < length l / 23 → {t : List ℕ} → t ≡ pasted s (23 * i) (figured (line_at s i)) → Figuring l t (i + 1)
  figuring-on h {t} q =
      let w = figuring-in h in
      let x : List ℕ = figured (line_at s i) in
      let n : length x ≡ 23 = figured-length (line_at s i) (line-length s i w) in
      record {
        size = ap length q ∙ stored-length s i x n w ∙ g.size;
        done = λ k m. rw q (one k m n w);
        rest =
            let a : 23 * (i + 1) ≡ 23 * i + 23 = omega arith in
            ap (drop (23 * (i + 1))) q ∙ stored-rest s i x n w (i + 1) (omega arith) ∙ ap (λ (j : ℕ). drop j s) a ∙ sym (drop-drop 23 (23 * i) s)
            ∙ ap (drop 23) g.rest ∙ drop-drop 23 (23 * i) l ∙ ap (λ (j : ℕ). drop j l) (sym a);
      }
    where
      one : (k : ℕ) → k < i + 1 → length (figured (line_at s i)) ≡ 23 → Inside s i → line_at (pasted s (23 * i) (figured (line_at s i))) k ≡ figured (line_at l k)
      one k m n w = go (ltb k i) refl
        where
          go : (b : Bool) → ltb k i ≡ b → line_at (pasted s (23 * i) (figured (line_at s i))) k ≡ figured (line_at l k)
          go true e = stored-before s i (figured (line_at s i)) n w k (ltb-true k i e) ∙ g.done k (ltb-true k i e)
          go false e =
              let z : k ≡ i = let y = ltb-false k i e in omega arith in
              rw z (stored_here s i (figured (line_at s i)) n w ∙ ap (λ (x : List ℕ). figured (take 23 x)) g.rest)

lines-figured : (n : ℕ) (s l : List ℕ) → ((k : ℕ) → k < n → line_at s k ≡ figured (line_at l k)) → lines_in n s ≡ map figured (lines_in n l)
unfolding lines_in
lines-figured zero s l f = refl
lines-figured (suc n) s l f =
    rw (f 0 (omega arith), lines-figured n (drop 23 s) (drop 23 l) (λ k h. line_on s k ∙ f (suc k) (omega arith) ∙ ap figured (sym (line_on l k))))

pub figuring-end : {l s : List ℕ} {i : ℕ} → Figuring l s i → i ≡ length l / 23 → s ≡ figured_lines l
unfolding figured_lines
figuring-end {l} {s} {i} g e =
    let a : joined (map figured (lines_in i l)) ≡ take (23 * i) s = ap joined (sym (lines-figured i s l g.done)) ∙ lines-joined i s in
    let n : length (take (23 * i) s) ≡ 23 * i = length-take-le (23 * i) s (omega (arith, g.size, mul-div-le (length l) 23)) in
    rw (← e, a, n, ← g.rest) (sym (take-append-drop (23 * i) s))
