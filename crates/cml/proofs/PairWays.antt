-- The points of a line, written coordinate by coordinate and measured vertex by vertex: document 02, T-11. Assumes nothing.
use Prim.Native.Nat.{ℕ, zero, suc, ◌+◌, ◌*◌, ◌/◌, ◌%◌, ◌≤◌, ◌<◌}
use mathlib.Core.Path.{◌≡◌, refl, sym, ◌∙◌, ap}
use mathlib.Core.List.{List, [], ◌∷◌, ◌++◌, append_assoc}
use mathlib.Core.Bool.{Bool, true, false, cond, ◌&&◌}
use native.Mathlib.Omega.{arith}
use lib.ListN.{length, get_or, set, drop, length-append}
use lib.Dec.{eqb}
use lib.IntN.{ℤ, pos}
use mir.Syntax.{w64}
use mir.Val.{to_z, of_z}
use borrow.Author.Tests.{eqb-true, eqb-false}
use Rattle.laws.specs.Text.{text}
use Rattle.laws.proofs.Choice.{and_left, and_right}
use Rattle.laws.proofs.ListLaws.{left, left-none}
use Rattle.laws.proofs.TableLaws.{pasted-none, pasted-one}
use Rattle.number.specs.Number.{is_real}
use Rattle.spelling.specs.Stored.{Stored}
use Rattle.spelling.specs.Spelling.{digits, count_text, bare_real}
use Rattle.spelling.proofs.DigitLaws.{digits-wider}
use Rattle.spelling.proofs.BareWays.{bare-most}
use Rattle.made.specs.Made.{are_reals}
use Rattle.writer.specs.Put.{Put}
use Rattle.writer.proofs.Putting.{Putting, putting-start, putting-room, putting-on, stored-put, stored_last, real-back}
use Rattle.cml.specs.Element.{pair_text}
use Rattle.cml.specs.Spaced.{gap, gaps_to, mark, spaced_text}
use Rattle.cml.proofs.CoordLaws.{gap-first, gap-full, gap-blank, mark-comma, mark-gap, spaced-none, spaced-two}

-- ---- nothing, and bytes that are the text

pub put-none : (l : List ℕ) (at : ℕ) → Put l at [] l at
put-none l at = record { is = pasted-none l at; next = omega arith }

pub put_same : {s t : List ℕ} → t ≡ s → {l d : List ℕ} {at r : ℕ} → at + length t ≤ length l → Stored l at s d r → Put l at t d r
put_same {s} {t} e {l} {d} {at} {r} room w = rw e (stored-put (rw e at room) w)

pub put_one : (l : List ℕ) (at v : ℕ) → at + 1 ≤ length l → Put l at (v ∷ []) (set l at v) (at + 1)
put_one l at v h = record { is = pasted-one l at v (omega arith); next = refl }

-- ---- what stands before a vertex

pub gap-none-put : (l : List ℕ) (at i : ℕ) → i ≡ 0 → Put l at (gap i) l at
gap-none-put l at i e = rw (gap-first i e) (put-none l at)

pub blank-room : (l : List ℕ) (at i : ℕ) → (i ≡ 0 → ⊥) → (i % 1000 ≡ 0 → ⊥) → at + length (gap i) ≤ length l → at + 1 ≤ length l
blank-room l at i h k room = omega (arith, room, ap length (gap-blank i h k))

pub blank-put : (l : List ℕ) (at i : ℕ) → (i ≡ 0 → ⊥) → (i % 1000 ≡ 0 → ⊥) → at + 1 ≤ length l → Put l at (gap i) (set l at 32) (at + 1)
blank-put l at i h k room = rw (gap-blank i h k) (put_one l at 32 room)

-- what stands before the vertices up to i, and before that one
some : (k : ℕ) → (k ≡ 0 → ⊥) → 1 ≤ k
some zero h = absurd (h refl)
some (suc k) h = omega arith

pub gaps-next : (i : ℕ) → gaps_to (i + 1) ≡ gaps_to i + length (gap i)
gaps-next i = go (eqb i 0) refl (eqb (i % 1000) 0) refl
  where
    go : (a : Bool) → eqb i 0 ≡ a → (b : Bool) → eqb (i % 1000) 0 ≡ b → gaps_to (i + 1) ≡ gaps_to i + length (gap i)
    go true e b f = let z = eqb-true i 0 e in omega (arith, z, ap length (gap-first i z))
    go false e true f =
        let n : i ≡ 0 → ⊥ = eqb-false i 0 e in
        let z = eqb-true (i % 1000) 0 f in
        let w : 1 ≤ i = some i n in
        omega (arith, w, z, ap length (gap-full i n z))
    go false e false f =
        let n : i ≡ 0 → ⊥ = eqb-false i 0 e in
        let z : 1 ≤ i % 1000 = some (i % 1000) (eqb-false (i % 1000) 0 f) in
        omega (arith, z, ap length (gap-blank i n (eqb-false (i % 1000) 0 f)))

-- ---- a real that is handed on as bits

abbrev told : ℤ → List ℕ
told z = cond (is_real z) (bare_real z) []

told_is : (z : ℤ) → is_real z ≡ true → told (to_z w64 (of_z w64 z)) ≡ bare_real z
told_is z h = rw (real-back z h, h)

abbrev size_of : ℤ → ℕ
size_of z = cond (is_real z) (length (bare_real z)) 0

size-told : (z : ℤ) → is_real z ≡ true → size_of (to_z w64 (of_z w64 z)) ≡ length (bare_real z)
size-told z h = rw (real-back z h, h)

-- ---- what stands before a coordinate

module _ (l : List ℕ) (at j : ℕ) (room : at + length (mark j) ≤ length l) where
  module _ (e : j % 2 ≡ 1) where
    pub comma-room : at + 1 ≤ length l
    comma-room = omega (arith, room, ap length (mark-comma j e))

    pub comma-put : Put l at (mark j) (set l at 44) (at + 1)
    comma-put = rw (mark-comma j e) (put_one l at 44 comma-room)

  module _ (f : j % 2 ≡ 1 → ⊥) where
    pub mark-room : at + length (gap (j / 2)) ≤ length l
    mark-room = rw (mark-gap j f) at room

    pub mark-put : {d : List ℕ} {r : ℕ} → Put l at (gap (j / 2)) d r → Put l at (mark j) d r
    mark-put p = rw (mark-gap j f) p

-- ---- a coordinate

module _ (l : List ℕ) (at j : ℕ) (z : ℤ) (h : is_real z ≡ true) (room : at + length (mark j ++ bare_real z) ≤ length l) where
  coordinate-start : Putting l at (mark j ++ bare_real z) l at (mark j ++ bare_real z)
  coordinate-start = putting-start l at (mark j ++ bare_real z) room

  pub before-room : at + length (mark j) ≤ length l
  before-room = putting-room coordinate-start (mark j) (bare_real z) refl

  pub coordinate-put : {d e : List ℕ} {n m : ℕ} → Put l at (mark j) d n → Stored d n (told (to_z w64 (of_z w64 z))) e m → Put l at (mark j ++ bare_real z) e m
  coordinate-put p w = stored_last (putting-on coordinate-start (mark j) (bare_real z) refl p) (rw (told_is z h) at w)

-- ---- the coordinates from j on

module _ (s : List ℤ) (j : ℕ) where
  abbrev Z : ℤ
  Z = get_or s j (pos 0)

  module _ (h : j < length s) where
    one_left : drop j s ≡ Z ∷ drop (j + 1) s
    one_left = left s j (pos 0) h

    coordinate-here : spaced_text j (drop j s) ≡ (mark j ++ bare_real Z) ++ spaced_text (j + 1) (drop (j + 1) s)
    unfolding spaced_text
    coordinate-here = rw one_left (sym (append_assoc (mark j) (bare_real Z) (spaced_text (j + 1) (drop (j + 1) s))))

    module _ (q : are_reals (drop j s) ≡ true) where
      both-real : (is_real Z && are_reals (drop (j + 1) s)) ≡ true
      unfolding are_reals
      both-real = rw one_left at q

      here-real : is_real Z ≡ true
      here-real = and_left (is_real Z) (are_reals (drop (j + 1) s)) both-real

      pub rest-real : are_reals (drop (j + 1) s) ≡ true
      rest-real = and_right (is_real Z) (are_reals (drop (j + 1) s)) both-real

      -- what the function that writes it asks
      pub coordinate-asks : {l : List ℕ} {at : ℕ} {u d : List ℕ} {m : ℕ} → Putting l at u d m (spaced_text j (drop j s))
          → (is_real (to_z w64 (of_z w64 Z)) ≡ true) × (m + length (mark j ++ bare_real (to_z w64 (of_z w64 Z))) ≤ length d)
      coordinate-asks p = rw (real-back Z here-real) (here-real, putting-room p (mark j ++ bare_real Z) (spaced_text (j + 1) (drop (j + 1) s)) coordinate-here)

      pub coordinates-on : {l : List ℕ} {at : ℕ} {u d : List ℕ} {m : ℕ} → Putting l at u d m (spaced_text j (drop j s)) → {v : List ℕ} {r : ℕ}
          → Put d m (mark j ++ bare_real (to_z w64 (of_z w64 Z))) v r → Putting l at u v r (spaced_text (j + 1) (drop (j + 1) s))
      coordinates-on p w = putting-on p (mark j ++ bare_real Z) (spaced_text (j + 1) (drop (j + 1) s)) coordinate-here (rw (real-back Z here-real) at w)

  pub coordinates-over : length s ≤ j → spaced_text j (drop j s) ≡ []
  coordinates-over h = rw (left-none s j h) (spaced-none j)

-- ---- the size of a vertex

module _ (i : ℕ) (x y : ℤ) (hx : is_real x ≡ true) (hy : is_real y ≡ true) where
  pair-length : length (gap i ++ pair_text x y) ≡ length (gap i) + length (bare_real x) + 1 + length (bare_real y)
  unfolding pair_text
  pair-length = omega (arith, length-append (gap i) (bare_real x ++ 44 ∷ bare_real y), length-append (bare_real x) (44 ∷ bare_real y))

pub pair-sized : (x y : ℤ) → is_real x ≡ true → is_real y ≡ true → (a b : ℕ) → a ≡ size_of (to_z w64 (of_z w64 x)) → b ≡ size_of (to_z w64 (of_z w64 y))
    → a + b ≡ length (bare_real x) + length (bare_real y)
pair-sized x y hx hy a b f h = omega (arith, f ∙ size-told x hx, h ∙ size-told y hy)

pub size-most : (z : ℤ) → is_real z ≡ true → (a : ℕ) → a ≡ size_of (to_z w64 (of_z w64 z)) → a ≤ 12
size-most z h a e = omega (arith, e ∙ size-told z h, bare-most z h)

-- ---- the vertices from i on, measured

module _ (s : List ℤ) (n : ℕ) (e : length s ≡ 2 * n) (i : ℕ) where
  abbrev X : ℤ
  X = get_or s (2 * i) (pos 0)

  abbrev Y : ℤ
  Y = get_or s (2 * i + 1) (pos 0)

  module _ (h : i < n) where
    two-left : drop (2 * i) s ≡ X ∷ Y ∷ drop (2 * (i + 1)) s
    two-left =
        let z : 2 * i + 1 + 1 ≡ 2 * (i + 1) = omega arith in
        left s (2 * i) (pos 0) (omega arith) ∙ ap (λ (r : List ℤ). X ∷ r) (left s (2 * i + 1) (pos 0) (omega arith) ∙ ap (λ (k : ℕ). Y ∷ drop k s) z)

    pub pairs-here : spaced_text (2 * i) (drop (2 * i) s) ≡ (gap i ++ pair_text X Y) ++ spaced_text (2 * (i + 1)) (drop (2 * (i + 1)) s)
    pairs-here =
        ap (spaced_text (2 * i)) two-left
        ∙ spaced-two i X Y (drop (2 * (i + 1)) s)
        ∙ sym (append_assoc (gap i) (pair_text X Y) (spaced_text (2 * (i + 1)) (drop (2 * (i + 1)) s)))

    reals-here : are_reals (drop (2 * i) s) ≡ true → (is_real X ≡ true) × (is_real Y ≡ true) × (are_reals (drop (2 * (i + 1)) s) ≡ true)
    unfolding are_reals
    reals-here q =
        let r = drop (2 * (i + 1)) s in
        let a : (is_real X && (is_real Y && are_reals r)) ≡ true = rw two-left at q in
        let b = and_right (is_real X) (is_real Y && are_reals r) a in
        (and_left (is_real X) (is_real Y && are_reals r) a, and_left (is_real Y) (are_reals r) b, and_right (is_real Y) (are_reals r) b)

    module _ (q : are_reals (drop (2 * i) s) ≡ true) where
      pub x-real : is_real X ≡ true
      x-real = (reals-here q).0

      pub y-real : is_real Y ≡ true
      y-real = (reals-here q).1

      pub reals-next : are_reals (drop (2 * (i + 1)) s) ≡ true
      reals-next = (reals-here q).2

      -- what the function that measures it asks
      pub pair-sizes : (is_real (to_z w64 (of_z w64 X)) ≡ true) × (is_real (to_z w64 (of_z w64 Y)) ≡ true)
      pair-sizes = rw (real-back X x-real, real-back Y y-real) (x-real, y-real)

      -- the numbers' sizes so far, commas and what stands before the vertices, and what is to come
      module _ (total : ℕ) (w : total + (i + gaps_to i) + length (spaced_text (2 * i) (drop (2 * i) s)) ≡ length (spaced_text 0 s)) (r : ℕ)
          (v : r ≡ length (bare_real (to_z w64 (of_z w64 X))) + length (bare_real (to_z w64 (of_z w64 Y)))) where
        measured-is : r ≡ length (bare_real X) + length (bare_real Y)
        measured-is = v ∙ rw (real-back X x-real, real-back Y y-real)

        pub measured-most : r ≤ 24
        measured-most = omega (arith, measured-is, bare-most X x-real, bare-most Y y-real)

        pub measured-on : total + r + (i + 1 + gaps_to (i + 1)) + length (spaced_text (2 * (i + 1)) (drop (2 * (i + 1)) s)) ≡ length (spaced_text 0 s)
        measured-on =
            omega (
              arith,
              w,
              measured-is,
              gaps-next i,
              pair-length i X Y x-real y-real,
              ap length pairs-here,
              length-append (gap i ++ pair_text X Y) (spaced_text (2 * (i + 1)) (drop (2 * (i + 1)) s)),
            )

  pub pairs-over : n ≤ i → spaced_text (2 * i) (drop (2 * i) s) ≡ []
  pairs-over h = coordinates-over s (2 * i) (omega arith)

  pub measured-end : i ≤ n → n ≤ i → (total g : ℕ) → total + (i + gaps_to i) + length (spaced_text (2 * i) (drop (2 * i) s)) ≡ length (spaced_text 0 s) → g ≡ gaps_to n
      → total + n + g ≡ length (spaced_text 0 s)
  measured-end k h total g w q = let z : i ≡ n = omega arith in omega (arith, w, ap length (pairs-over h), q ∙ ap (λ (j : ℕ). gaps_to j) (sym z), z)

-- ---- the size of a count

pub count-size : (n : ℕ) → n ≤ 9999 → length (digits 8 n) ≡ length (count_text n)
unfolding count_text
count-size n h = ap length (sym (digits-wider 8 20 n (omega arith) (omega arith) (omega arith)))

-- ---- the size of all: 25 bytes a vertex at most, and what stands before them

pub pairs-most : (k : ℕ) (s : List ℤ) (n i : ℕ) → length s ≡ 2 * n → i + k ≡ n → are_reals (drop (2 * i) s) ≡ true
    → length (spaced_text (2 * i) (drop (2 * i) s)) + gaps_to i ≤ 25 * k + gaps_to n
pairs-most zero s n i e h q = let z : i ≡ n = omega arith in omega (arith, ap length (pairs-over s n e i (omega arith)), z)
pairs-most (suc k) s n i e h q =
    let l : i < n = omega arith in
    let r = pairs-most k s n (i + 1) e (omega arith) (reals-next s n e i l q) in
    let x = x-real s n e i l q in
    let y = y-real s n e i l q in
    omega (
      arith,
      r,
      gaps-next i,
      ap length (pairs-here s n e i l),
      length-append (gap i ++ pair_text (X s n e i) (Y s n e i)) (spaced_text (2 * (i + 1)) (drop (2 * (i + 1)) s)),
      pair-length i (X s n e i) (Y s n e i) x y,
      bare-most (X s n e i) x,
      bare-most (Y s n e i) y,
    )
