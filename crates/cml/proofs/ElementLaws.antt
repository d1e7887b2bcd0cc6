-- The text of lines says which lines they are. A number ends where something else begins (an integer at the quote behind it, a real
-- after its three decimals), and `n.vert` says how many pairs follow: so each text is read off its front, whatever stands behind. Assumes nothing.
use Prim.Native.Nat.{ℕ, zero, suc, ◌+◌, ◌-◌, ◌*◌, ◌/◌, ◌%◌, ◌≤◌}
use mathlib.Core.Path.{◌≡◌, refl, sym, ◌∙◌, ap}
use mathlib.Core.List.{List, [], ◌∷◌, ◌++◌, append_assoc}
use mathlib.Core.Bool.{true, false}
use native.Mathlib.Omega.{arith}
use lib.ListN.{length, get_or, take, drop}
use lib.Seq.{take_at, drop_at}
use lib.IntN.{ℤ, pos, negsuc}
use borrow.Author.Tests.{le-ltb}
use Rattle.laws.specs.Lists.{all}
use Rattle.laws.specs.Text.{text}
use Rattle.laws.proofs.Choice.{and_left, and_right, false≢true}
use Rattle.number.specs.Number.{digit, value, is_real}
use Rattle.spelling.specs.Spelling.{digits, places, count_text, minus, decimal, bare_real}
use Rattle.spelling.proofs.DigitLaws.{digits-all, digits-some, digits_value, places-length, places-value}
use Rattle.spelling.proofs.SpellingLaws.{in-plus, in-minus}
use Rattle.made.specs.Made.{are_reals}
use Rattle.cml.specs.Element.{Polyline, vertices_of, pair_text, outside_word, opening, start_tag, element_text, elements_text}
use Rattle.cml.specs.Spaced.{mark, spaced_text}
use Rattle.cml.proofs.CoordLaws.{points-text}

-- ---- fronts of lists

-- fronts of one length
same-front : (p q : List ℕ) {r s : List ℕ} → length p ≡ length q → p ++ r ≡ q ++ s → (p ≡ q) × (r ≡ s)
same-front p q {r} {s} n e = (
  sym (take_at p r (length p) refl) ∙ ap (take (length p)) e ∙ take_at q s (length p) (sym n),
  sym (drop_at p r (length p) refl) ∙ ap (drop (length p)) e ∙ drop_at q s (length p) (sym n),
)

-- the same front
behind : (p : List ℕ) {r s : List ℕ} → p ++ r ≡ p ++ s → r ≡ s
behind p e = (same-front p p refl e).1

-- fronts of digits, each up to something else
cut : (s t : List ℕ) {a b : ℕ} {r q : List ℕ} → all digit s ≡ true → all digit t ≡ true → digit a ≡ false → digit b ≡ false
    → s ++ a ∷ r ≡ t ++ b ∷ q → (s ≡ t) × (a ∷ r ≡ b ∷ q)
unfolding all
cut [] [] f g h k e = (refl, e)
cut [] (c ∷ t) {a} f g h k e =
    let x : a ≡ c = ap (λ (l : List ℕ). get_or l 0 0) e in
    absurd (false≢true (sym h ∙ ap digit x ∙ and_left (digit c) (all digit t) g))
cut (c ∷ s) [] {a} {b} f g h k e =
    let x : c ≡ b = ap (λ (l : List ℕ). get_or l 0 0) e in
    absurd (false≢true (sym k ∙ ap digit (sym x) ∙ and_left (digit c) (all digit s) f))
cut (c ∷ s) (d ∷ t) f g h k e =
    let x : c ≡ d = ap (λ (l : List ℕ). get_or l 0 0) e in
    let y = cut s t (and_right (digit c) (all digit s) f) (and_right (digit d) (all digit t) g) h k (ap (drop 1) e) in
    (rw (x, y.0), y.1)

-- ---- numbers

-- an integer and the quote behind it
count_cut : (m n : ℕ) {r q : List ℕ} → m ≤ 9999 → n ≤ 9999 → count_text m ++ 34 ∷ r ≡ count_text n ++ 34 ∷ q → (m ≡ n) × (34 ∷ r ≡ 34 ∷ q)
unfolding count_text
count_cut m n h k e =
    let c = cut (digits 20 m) (digits 20 n) (digits-all 20 m) (digits-all 20 n) refl refl e in
    (omega (arith, digits_value 20 m (omega arith), digits_value 20 n (omega arith), ap (value 0) c.0), c.1)

decimal-front : (a : ℕ) (r : List ℕ) → decimal a ++ r ≡ digits 8 (a / 1000) ++ 46 ∷ (places 3 (a % 1000) ++ r)
unfolding decimal
decimal-front a r = append_assoc (digits 8 (a / 1000)) (46 ∷ places 3 (a % 1000)) r

decimal-cut : (a b : ℕ) {r q : List ℕ} → a ≤ 99999999999 → b ≤ 99999999999 → decimal a ++ r ≡ decimal b ++ q → (a ≡ b) × (r ≡ q)
decimal-cut a b {r} {q} h k e =
    let c = cut (digits 8 (a / 1000)) (digits 8 (b / 1000)) (digits-all 8 (a / 1000)) (digits-all 8 (b / 1000)) refl refl
    (sym (decimal-front a r) ∙ e ∙ decimal-front b q) in
    let p = same-front (places 3 (a % 1000)) (places 3 (b % 1000)) (places-length 3 (a % 1000) ∙ sym (places-length 3 (b % 1000))) (ap (drop 1) c.1) in (
      omega (
        arith,
        digits_value 8 (a / 1000) (omega arith),
        digits_value 8 (b / 1000) (omega arith),
        ap (value 0) c.0,
        places-value 3 (a % 1000) (omega arith),
        places-value 3 (b % 1000) (omega arith),
        ap (value 0) p.0,
      ),
      p.1,
    )

bare-plus : (a : ℕ) → bare_real (pos a) ≡ decimal a
unfolding bare_real minus
bare-plus a = rw (le-ltb a 0 (omega arith))

bare-minus : (a : ℕ) → bare_real (negsuc a) ≡ 45 ∷ decimal (suc a)
unfolding bare_real minus
bare-minus a = refl

-- digits and a point are no minus
no_minus : (a : ℕ) (r q : List ℕ) → decimal a ++ r ≡ 45 ∷ q → ⊥
unfolding all
no_minus a r q e =
    let c = cut (digits 8 (a / 1000)) [] {b = 45} {q = q} (digits-all 8 (a / 1000)) refl refl refl (sym (decimal-front a r) ∙ e) in
    omega (arith, digits-some 8 (a / 1000) (omega arith), ap length c.0)

real-cut : (z y : ℤ) {r q : List ℕ} → is_real z ≡ true → is_real y ≡ true → bare_real z ++ r ≡ bare_real y ++ q → (z ≡ y) × (r ≡ q)
real-cut (pos a) (pos b) {r} {q} h k e =
    let c = decimal-cut a b (in-plus a h) (in-plus b k) (ap (λ (l : List ℕ). l ++ r) (sym (bare-plus a)) ∙ e ∙ ap (λ (l : List ℕ). l ++ q) (bare-plus b)) in
    (ap pos c.0, c.1)
real-cut (pos a) (negsuc b) {r} {q} h k e =
    absurd (no_minus a r (decimal (suc b) ++ q) (ap (λ (l : List ℕ). l ++ r) (sym (bare-plus a)) ∙ e ∙ ap (λ (l : List ℕ). l ++ q) (bare-minus b)))
real-cut (negsuc a) (pos b) {r} {q} h k e =
    absurd (no_minus b q (decimal (suc a) ++ r) (ap (λ (l : List ℕ). l ++ q) (sym (bare-plus b)) ∙ sym e ∙ ap (λ (l : List ℕ). l ++ r) (bare-minus a)))
real-cut (negsuc a) (negsuc b) {r} {q} h k e =
    let c = decimal-cut (suc a) (suc b) (omega (arith, in-minus a h)) (omega (arith, in-minus b k))
    (ap (drop 1) (ap (λ (l : List ℕ). l ++ r) (sym (bare-minus a)) ∙ e ∙ ap (λ (l : List ℕ). l ++ q) (bare-minus b))) in
    let x : a ≡ b = omega (arith, c.0) in
    (ap negsuc x, c.1)

-- ---- the coordinates: as many on both sides

coordinate-front : (j : ℕ) (z : ℤ) (s : List ℤ) (r : List ℕ) → spaced_text j (z ∷ s) ++ r ≡ mark j ++ (bare_real z ++ (spaced_text (j + 1) s ++ r))
unfolding spaced_text
coordinate-front j z s r = simp append_assoc

real-head : (z : ℤ) (s : List ℤ) → are_reals (z ∷ s) ≡ true → (is_real z ≡ true) × (are_reals s ≡ true)
unfolding are_reals
real-head z s e = (and_left (is_real z) (are_reals s) e, and_right (is_real z) (are_reals s) e)

coordinates-cut : (s t : List ℤ) (j : ℕ) {r q : List ℕ} → length s ≡ length t → are_reals s ≡ true → are_reals t ≡ true
    → spaced_text j s ++ r ≡ spaced_text j t ++ q → (s ≡ t) × (r ≡ q)
unfolding spaced_text
coordinates-cut [] [] j n h k e = (refl, e)
coordinates-cut [] (y ∷ t) j n h k e = absurd (omega arith)
coordinates-cut (x ∷ s) [] j n h k e = absurd (omega arith)
coordinates-cut (x ∷ s) (y ∷ t) j {r} {q} n h k e =
    let a = real-head x s h in
    let b = real-head y t k in
    let f = real-cut x y a.0 b.0 (behind (mark j) (sym (coordinate-front j x s r) ∙ e ∙ coordinate-front j y t q)) in
    let z = coordinates-cut s t (j + 1) (omega arith) a.1 b.1 f.1 in
    (rw (f.0, z.0), z.1)

-- ---- a line

-- what a well made row gives
pub record Good (a : Polyline) : Type 0 where
  pub mark : a.outside ≤ 1
  pub code_in : a.code ≤ 9999
  pub vertices : ℕ
  pub most : vertices ≤ 9999
  pub pairs : length a.points ≡ 2 * vertices
  pub reals : are_reals a.points ≡ true

pub good-count : {a : Polyline} (g : Good a) → vertices_of a ≡ g.vertices
good-count g = omega (arith, g.pairs)

word-length : (o : ℕ) → o ≤ 1 → length (outside_word o) ≡ 2
unfolding outside_word
word-length zero h = refl
word-length (suc zero) h = refl
word-length (suc (suc o)) h = absurd (omega arith)

word_cut : (o p : ℕ) → o ≤ 1 → p ≤ 1 → outside_word o ≡ outside_word p → o ≡ p
unfolding outside_word
word_cut zero zero h k e = refl
word_cut zero (suc zero) h k e = let z : ◌≡◌ {A = ℕ} 78 83 = ap (λ (l : List ℕ). get_or l 0 0) e in absurd (omega arith)
word_cut (suc zero) zero h k e = let z : ◌≡◌ {A = ℕ} 83 78 = ap (λ (l : List ℕ). get_or l 0 0) e in absurd (omega arith)
word_cut (suc zero) (suc zero) h k e = refl
word_cut (suc (suc o)) p h k e = absurd (omega arith)
word_cut zero (suc (suc p)) h k e = absurd (omega arith)
word_cut (suc zero) (suc (suc p)) h k e = absurd (omega arith)

-- the parts between its numbers
abbrev opened : List ℕ
opened = text "<LINEA valenza=\"CONSOLID\" esterconf=\""

abbrev coded : List ℕ
coded = text "\" cod=\""

abbrev counted : List ℕ
counted = text "\" n.vert=\""

abbrev begun : List ℕ
begun = text "\"><COORD>"

abbrev closed : List ℕ
closed = text "</COORD></LINEA>\n"

spread : (a b c d e z r : List ℕ) → ((a ++ (b ++ (c ++ (d ++ e)))) ++ z) ++ r ≡ a ++ (b ++ (c ++ (d ++ (e ++ (z ++ r)))))
spread a b c d e z r = simp append_assoc

front : (a b c r : List ℕ) → (a ++ (b ++ c)) ++ r ≡ a ++ (b ++ (c ++ r))
front a b c r = simp append_assoc

element-front : (a : Polyline) (r : List ℕ) → Good a
    → element_text a ++ r
    ≡ opened ++ (outside_word a.outside ++ (coded ++ (count_text a.code ++ (counted ++ (count_text (vertices_of a) ++ (begun ++ (spaced_text 0 a.points ++ (closed ++ r))))))))
unfolding element_text start_tag opening
element-front a r g =
    let n = vertices_of a in
    let p : length a.points ≡ 2 * n = omega (arith, g.pairs) in
    let z = text "<COORD>" ++ (spaced_text 0 a.points ++ closed) in
    ap (λ (x : List ℕ). (start_tag a.outside a.code n ++ x) ++ r) (points-text n a.points p)
    ∙ spread (opening a.outside) (count_text a.code) counted (count_text n) (text "\">") z r
    ∙ front opened (outside_word a.outside) coded (count_text a.code ++ (counted ++ (count_text n ++ (text "\">" ++ (z ++ r)))))
    ∙ ap (λ (x : List ℕ). opened ++ (outside_word a.outside ++ (coded ++ (count_text a.code ++ (counted ++ (count_text n ++ (begun ++ x))))))) (append_assoc (spaced_text 0 a.points) closed r)

polyline-same : (a b : Polyline) → a.outside ≡ b.outside → a.code ≡ b.code → a.points ≡ b.points → a ≡ b
polyline-same a b e f g =
    ap (λ (o : ℕ). record { outside = o; code = a.code; points = a.points }) e
    ∙ ap (λ (c : ℕ). record { outside = b.outside; code = c; points = a.points }) f
    ∙ ap (λ (s : List ℤ). record { outside = b.outside; code = b.code; points = s }) g

element-cut : (a b : Polyline) {r q : List ℕ} → Good a → Good b → element_text a ++ r ≡ element_text b ++ q → (a ≡ b) × (r ≡ q)
element-cut a b {r} {q} g h e =
    let o = same-front (outside_word a.outside) (outside_word b.outside) (word-length a.outside g.mark ∙ sym (word-length b.outside h.mark))
    (behind opened (sym (element-front a r g) ∙ e ∙ element-front b q h)) in
    let c = count_cut a.code b.code g.code_in h.code_in (behind coded o.1) in
    let n = count_cut (vertices_of a) (vertices_of b) (omega (arith, good-count g, g.most)) (omega (arith, good-count h, h.most)) (behind counted c.1) in
    let v : length a.points ≡ length b.points = omega (arith, n.0, g.pairs, h.pairs) in
    let p = coordinates-cut a.points b.points 0 v g.reals h.reals (behind begun n.1) in
    (polyline-same a b (word_cut a.outside b.outside g.mark h.mark o.0) c.0 p.0, behind closed p.1)

-- ---- all lines

unfoldable pub AllGood : List Polyline → Type 0
AllGood [] = Unit
AllGood (a ∷ s) = Good a × AllGood s

element-some : (a : Polyline) (r : List ℕ) → element_text a ++ r ≡ [] → ⊥
unfolding element_text start_tag opening
element-some a r e = let z : ◌≡◌ {A = ℕ} 60 0 = ap (λ (l : List ℕ). get_or l 0 0) e in omega arith

-- **the text says the lines**: their order, outside marks, codes and points
pub elements-only : (s t : List Polyline) → AllGood s → AllGood t → elements_text s ≡ elements_text t → s ≡ t
unfolding elements_text AllGood
elements-only [] [] g h e = refl
elements-only [] (b ∷ t) g h e = absurd (element-some b (elements_text t) (sym e))
elements-only (a ∷ s) [] g h e = absurd (element-some a (elements_text s) e)
elements-only (a ∷ s) (b ∷ t) g h e =
    let c = element-cut a b g.0 h.0 e in
    let r = elements-only s t g.1 h.1 c.1 in
    rw (c.0, r)
