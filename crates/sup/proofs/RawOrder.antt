-- Raw lines in the order of their bytes are the listed borders in order, and with their figures they are the file's lines. Assumes nothing.
use Prim.Native.Nat.{ℕ, zero, suc, ◌+◌, ◌-◌, ◌*◌, ◌≤◌, ◌<◌}
use mathlib.Core.Path.{◌≡◌, refl, sym, ap, ◌∙◌}
use mathlib.Core.List.{List, [], ◌∷◌, ◌++◌, append_assoc, map}
use mathlib.Core.Bool.{Bool, true, false, cond, not, ◌&&◌}
use native.Mathlib.Omega.{arith}
use lib.ListN.{length, get_or, take, drop, replicate, length-append, length-replicate, length-map}
use lib.Seq.{take_at, drop_at, get_or-append-add, length-take-le}
use lib.Dec.{ltb, leb}
use lib.IntN.{ℤ, pos, ◌-ℤ◌}
use lib.Signed.{lt_z}
use borrow.Author.Tests.{ltb-true, ltb-false, eqb-false, leb-true, not-true}
use Rattle.std.specs.Prelude.{Ok}
use Rattle.laws.specs.Lists.{all}
use Rattle.laws.proofs.Choice.{and_left, and_right, false≢true}
use Rattle.record.specs.Record.{plain}
use Rattle.record.specs.declared.Mode.TheVariants.{Loose}
use Rattle.number.specs.Words.{blank}
use Rattle.heading.specs.declared.Header.{Header}
use Rattle.sheet.specs.Tables.{Tables}
use Rattle.made.specs.Made.{letters_of, count_at, none_before, judge_rows, are_numbers, are_letters, are_counts, are_points, kind_of, islands_of, is_made}
use Rattle.row.specs.declared.Stand.{Stand}
use Rattle.row.specs.Walk.{first_stand, stand_after, left_at}
use Rattle.row.proofs.Walk.{Walk, walk_start, walk-on, walk-left}
use Rattle.spelling.specs.Figures.{is_narrow, figure_text}
use Rattle.spelling.proofs.FigureLaws.{figure-length}
use Rattle.std.specs.declared.cmp.Ordering.{Ordering}
use Rattle.std.specs.declared.cmp.Ordering.TheVariants.{Less, Equal, Greater}
use Rattle.order.specs.Compare.{or_else, is_before, by_number, by_whole, by_bytes}
use Rattle.order.specs.Sorting.{sort_by, EachOf, EachOf.each_nil, EachOf.each_on, Sorted, Sorted.sorted-nil, Sorted.sorted-on}
use Rattle.order.specs.SupBorders.{is_in_sup, with_if, sup_borders, sup_borders_from}
use Rattle.order.specs.SupOrder.{net_left, by_code_and_net, paper_before, goes_before, sup_in_order}
use Rattle.order.proofs.CompareLaws.{turned, bytes-total}
use Rattle.order.specs.Windows.{Small}
use Rattle.order.proofs.OrderLaws.{walk_after, in-order-sorted, in-order-each, in-order-length}
use Rattle.order.proofs.LongLaws.{Fits}
use Rattle.sorting.specs.Lines.{joined, bytes_before, sorted_lines}
use Rattle.sorting.proofs.SwapLaws.{sort-again, sorted-stays}
use Rattle.sorting.proofs.LineLaws.{Whole, joined_length, joined-lines, joined-count, over-all}
use Rattle.sorting.proofs.SortedLaws.{bytes-strict, sorted-joined}
use Rattle.sup.specs.Metres.{metres_of}
use Rattle.sup.specs.Lines.{left_field, fields_line, lines_text}
use Rattle.sup.specs.Sup.{listed_lines}
use Rattle.sup.specs.Answer.{code_nets, codes_in_order}
use Rattle.sup.specs.Printing.{metres_left}
use Rattle.sup.specs.Raw.{raw_field, raw_number, number_from, figure_in, figured, figured_lines, raw_line, raw_text}
use Rattle.sup.proofs.SupLaws.{line-length}
use Rattle.sup.proofs.RawLaws.{or_assoc, or-none, number-before, number_same, field-order, raw-number, raw-length, raw-back, metres-rise}

-- ---- blanks behind a name do not alter its order: no byte of it is below a blank, and the last is no blank

pub data Named : List ℕ → Type 0 where
  named-nil : Named []
  named-last : {b : ℕ} → 32 < b → Named (b ∷ [])
  named-on : {b c : ℕ} {s : List ℕ} → 32 ≤ b → Named (c ∷ s) → Named (b ∷ c ∷ s)

named-tail : {b : ℕ} {s : List ℕ} → Named (b ∷ s) → Named s
named-tail (named-last h) = named-nil
named-tail (named-on h n) = n

bytes_same : (s : List ℕ) → by_bytes s s ≡ Equal
bytes_same [] = refl
bytes_same (b ∷ s) = rw (number_same b, bytes_same s)

blanks-first : {b : ℕ} {s : List ℕ} → Named (b ∷ s) → (m n : ℕ) → m ≡ suc (length s) + n → by_bytes (replicate m 32) (b ∷ s ++ replicate n 32) ≡ Less
blanks-first named zero n e = absurd (omega arith)
blanks-first (named-last {b} h) (suc m) n e = rw (number-before 32 b h)
blanks-first (named-on {b} {c} {s} h k) (suc m) n e = go (ltb 32 b) refl (blanks-first k m n (omega arith))
  where
    go : (x : Bool) → ltb 32 b ≡ x → by_bytes (replicate m 32) (c ∷ s ++ replicate n 32) ≡ Less → or_else (by_number 32 b) (by_bytes (replicate m 32) (c ∷ s ++ replicate n 32)) ≡ Less
    go true q r = rw (number-before 32 b (ltb-true 32 b q))
    go false q r = let z : b ≡ 32 = let y = ltb-false 32 b q in omega arith in rw z r

pad-order : (a b : List ℕ) (m n : ℕ) → length a + m ≡ length b + n → Named a → Named b → by_bytes (a ++ replicate m 32) (b ++ replicate n 32) ≡ by_bytes a b
pad-order [] [] m n e x y = let z : m ≡ n = omega arith in rw z (bytes_same (replicate n 32))
pad-order [] (b ∷ t) m n e x y = blanks-first y m n (omega arith)
pad-order (a ∷ s) [] m n e x y =
    bytes-total.turn (replicate n 32) (a ∷ s ++ replicate m 32) ∙ ap turned (blanks-first x n m (omega arith))
pad-order (a ∷ s) (b ∷ t) m n e x y = ap (or_else (by_number a b)) (pad-order s t m n (omega arith) (named-tail x) (named-tail y))

left-order : (a b : List ℕ) → length a ≤ 11 → length b ≤ 11 → Named a → Named b → by_bytes (left_field a) (left_field b) ≡ by_bytes a b
unfolding left_field
left-order a b h k x y = pad-order a b (11 - length a) (11 - length b) (omega arith) x y

-- ---- raw lines compare as codes, then as figures

parts-order : (a b x y : List ℕ) → length a ≡ length b → by_bytes (a ++ x) (b ++ y) ≡ or_else (by_bytes a b) (by_bytes x y)
parts-order [] [] x y e = refl
parts-order [] (b ∷ t) x y e = absurd (omega arith)
parts-order (a ∷ s) [] x y e = absurd (omega arith)
parts-order (a ∷ s) (b ∷ t) x y e = ap (or_else (by_number a b)) (parts-order s t x y (omega arith)) ∙ or_assoc (by_number a b) (by_bytes s t) (by_bytes x y)

left-length : (a : List ℕ) → length a ≤ 11 → length (left_field a) ≡ 11
unfolding left_field
left-length a h = omega (arith, length-append a (replicate (11 - length a) 32), length-replicate {A = ℕ} (11 - length a) 32)

fields-order : (a b f g : List ℕ) → length a ≤ 11 → length b ≤ 11 → Named a → Named b → length f ≡ length g
    → by_bytes (fields_line a f) (fields_line b g) ≡ or_else (by_bytes a b) (by_bytes f g)
unfolding fields_line
fields-order a b f g h k x y e =
    let l : length (left_field a) ≡ length (left_field b) = left-length a h ∙ sym (left-length b k) in
    let m : length (left_field a ++ f) ≡ length (left_field b ++ g) = omega (arith, length-append (left_field a) f, length-append (left_field b) g) in
    parts-order (left_field a ++ f) (left_field b ++ g) (13 ∷ 10 ∷ []) (13 ∷ 10 ∷ []) m
    ∙ rw (bytes_same (13 ∷ 10 ∷ []), or-none (by_bytes (left_field a ++ f) (left_field b ++ g))) (parts-order (left_field a) (left_field b) f g l ∙ ap (λ (c : Ordering). or_else c (by_bytes f g)) (left-order a b h k x y))

-- ---- a smaller exact area has no greater figure

not-whole : (x y : ℤ) → is_before (by_whole x y) ≡ false → lt_z x y ≡ false
not-whole x y = go (lt_z x y) (lt_z y x)
  where
    go : (a b : Bool) → is_before (cond a Less (cond b Greater Equal)) ≡ false → a ≡ false
    go true b e = absurd (false≢true (sym e))
    go false b e = refl

whole-not : (x y : ℤ) → lt_z x y ≡ false → is_before (by_whole x y) ≡ false
whole-not x y e = rw e (go (lt_z y x))
  where
    go : (b : Bool) → is_before (cond b Greater Equal) ≡ false
    go true = refl
    go false = refl

figures-rise : (c : Ordering) (x y : ℤ) → is_before (or_else c (by_whole y x)) ≡ false → is_before (or_else c (by_whole (metres_of y) (metres_of x))) ≡ false
figures-rise Less x y f = f
figures-rise Equal x y f = whole-not (metres_of y) (metres_of x) (metres-rise x y (not-whole y x f))
figures-rise Greater x y f = refl

-- ---- a border whose line is written

pub record Ready (t : Tables) (d : Stand) : Type 0 where
  pub short : length (letters_of (left_at t d)) ≤ 11
  pub narrow : is_narrow (metres_left (left_at t d)) ≡ true
  pub named : Named (letters_of (left_at t d))

module _ (t : Tables) where
  abbrev raw_at : Stand → List ℕ
  raw_at d = raw_line (left_at t d)

  raw-whole : (d : Stand) → Ready t d → Whole (raw_at d)
  unfolding raw_line
  raw-whole d r = record { wide = line-length (letters_of (left_at t d)) (raw_field (metres_left (left_at t d))) r.short (raw-length (metres_left (left_at t d))) }

  raw-before : (a b : Stand) → Ready t a → Ready t b → paper_before t b a ≡ false → bytes_before (raw_at b) (raw_at a) ≡ false
  unfolding raw_line by_code_and_net metres_left
  raw-before a b r s e =
      let A : Tables = left_at t a in
      let B : Tables = left_at t b in
      let m = metres_of (net_left A) in
      let n = metres_of (net_left B) in
      ap is_before (fields-order (letters_of B) (letters_of A) (raw_field n) (raw_field m) s.short r.short s.named r.named (raw-length n ∙ sym (raw-length m))
      ∙ ap (or_else (by_bytes (letters_of B) (letters_of A))) (field-order n m s.narrow r.narrow))
      ∙ figures-rise (by_bytes (letters_of B) (letters_of A)) (net_left A) (net_left B) e

  raw-sorted : {s : List Stand} → EachOf (Ready t) s → Sorted (paper_before t) s → Sorted bytes_before (map raw_at s)
  raw-sorted each_nil sorted-nil = sorted-nil
  raw-sorted (each_on {x} r e) (sorted-on b o) = sorted-on (behind r e b) (raw-sorted e o)
    where
      behind : {x : Stand} {s : List Stand} → Ready t x → EachOf (Ready t) s → EachOf (λ (y : Stand). paper_before t y x ≡ false) s
          → EachOf (λ (y : List ℕ). bytes_before y (raw_at x) ≡ false) (map raw_at s)
      behind r each_nil each_nil = each_nil
      behind {x} r (each_on {x = y} q e) (each_on d b) = each_on (raw-before x y r q d) (behind r e b)

  raws-whole : {s : List Stand} → EachOf (Ready t) s → EachOf Whole (map raw_at s)
  raws-whole each_nil = each_nil
  raws-whole (each_on {x} r e) = each_on (raw-whole x r) (raws-whole e)

  -- ---- with its figure

  byte_past : (a b : List ℕ) (k j : ℕ) → get_or (a ++ b) (length a + k + j) 0 ≡ get_or b (k + j) 0
  byte_past a b k j = let p : length a + k + j ≡ length a + (k + j) = omega arith in ap (λ (i : ℕ). get_or (a ++ b) i 0) p ∙ get_or-append-add a b (k + j) 0

  number_past : (a b : List ℕ) (k : ℕ) → number_from (a ++ b) (length a + k) ≡ number_from b k
  unfolding number_from
  number_past a b k = rw (get_or-append-add a b k 0, byte_past a b k 1, byte_past a b k 2, byte_past a b k 3, byte_past a b k 4)

  module _ (name : List ℕ) (z : ℤ) (h : length name ≤ 11) (n : is_narrow z ≡ true) where
    figure-back : figure_in (fields_line name (raw_field z)) ≡ z
    unfolding figure_in fields_line raw_field
    figure-back =
        let e : 16 ≡ length (left_field name) + 5 = omega (arith, left-length name h) in
        ap (λ (l : List ℕ). pos (number_from l 16) -ℤ pos 1000000000) (append_assoc (left_field name) (raw_field z) (13 ∷ 10 ∷ []))
        ∙ ap (λ (k : ℕ). pos (number_from (left_field name ++ (raw_field z ++ 13 ∷ 10 ∷ [])) k) -ℤ pos 1000000000) e
        ∙ ap (λ (k : ℕ). pos k -ℤ pos 1000000000) (number_past (left_field name) (raw_field z ++ 13 ∷ 10 ∷ []) 5 ∙ raw-number (raw_number z) (13 ∷ 10 ∷ []))
        ∙ raw-back z n

    figured-line : figured (fields_line name (raw_field z)) ≡ fields_line name (figure_text z)
    unfolding figured fields_line
    figured-line =
        let x : List ℕ = left_field name ++ raw_field z ++ 13 ∷ 10 ∷ [] in
        let l : length (left_field name ++ raw_field z) ≡ 21 = omega (arith, length-append (left_field name) (raw_field z), left-length name h, raw-length z) in
        let f : take 11 x ≡ left_field name = ap (take 11) (append_assoc (left_field name) (raw_field z) (13 ∷ 10 ∷ [])) ∙ take_at (left_field name) (raw_field z ++ 13 ∷ 10 ∷ []) 11 (left-length name h) in
        let b : drop 21 x ≡ 13 ∷ 10 ∷ [] = drop_at (left_field name ++ raw_field z) (13 ∷ 10 ∷ []) 21 l in
        rw (figure-back, n, figure-length z n, f, b)

  raws-figured : {s : List Stand} → EachOf (Ready t) s → joined (map figured (map raw_at s)) ≡ lines_text (listed_lines (code_nets t s))
  unfolding joined lines_text listed_lines code_nets raw_line metres_left
  raws-figured each_nil = refl
  raws-figured (each_on {x} {s} r e) =
      rw (figured-line (letters_of (left_at t x)) (metres_of (net_left (left_at t x))) r.short r.narrow, raws-figured e)

  figured-whole : {s : List Stand} → EachOf (Ready t) s → EachOf Whole (map figured (map raw_at s))
  unfolding raw_line metres_left
  figured-whole each_nil = each_nil
  figured-whole (each_on {x} {s} r e) =
      let z = metres_of (net_left (left_at t x)) in
      let a = letters_of (left_at t x) in
      let w : Whole (figured (raw_at x)) = record { wide = rw (figured-line a z r.short r.narrow) (line-length a (figure_text z) r.short (figure-length z r.narrow)) } in
      each_on w (figured-whole e)

  figured-all : {s : List Stand} → EachOf (Ready t) s → figured_lines (raw_text t s) ≡ lines_text (listed_lines (code_nets t s))
  unfolding figured_lines
  figured-all {s} e =
      let n : length (joined (map figured (map raw_at s))) ≡ length (raw_text t s) = joined_length (figured-whole e) ∙ ap (λ (k : ℕ). 23 * k) (length-map (map raw_at s) figured) ∙ sym (joined_length (raws-whole e)) in
      rw (joined-count (raws-whole e), joined-lines (raws-whole e)) (over-all (joined (map figured (map raw_at s))) (raw_text t s) n ∙ raws-figured e)

-- ---- all of them

sorted-again : (h : Header) (count : ℕ) (t : Tables) → sort_by bytes_before (map (raw_at t) (sup_in_order h count t)) ≡ sort_by bytes_before (map (raw_at t) (sup_borders h count t))
unfolding sup_in_order
sorted-again h count t = sort-again bytes-strict (raw_at t) (goes_before t) (sup_borders h count t)

-- the lines in row order, sorted and with their figures, are the file's
pub arranged : (h : Header) (count : ℕ) (t : Tables) → EachOf (Ready t) (sup_borders h count t)
    → figured_lines (sorted_lines (raw_text t (sup_borders h count t))) ≡ lines_text (listed_lines (codes_in_order h count t))
unfolding codes_in_order
arranged h count t e =
    let o : EachOf (Ready t) (sup_in_order h count t) = in-order-each (Ready t) h count t e in
    let again : sort_by bytes_before (map (raw_at t) (sup_in_order h count t)) ≡ sort_by bytes_before (map (raw_at t) (sup_borders h count t)) = sorted-again h count t in
    ap figured_lines (sorted-joined (raws-whole t e) ∙ ap joined (sym again ∙ sorted-stays bytes-strict (raw-sorted t o (in-order-sorted h count t))))
    ∙ figured-all t o

pub arranged-length : (h : Header) (count : ℕ) (t : Tables) → EachOf (Ready t) (sup_borders h count t)
    → length (raw_text t (sup_borders h count t)) ≡ length (lines_text (listed_lines (codes_in_order h count t)))
unfolding codes_in_order
arranged-length h count t e =
    let o : EachOf (Ready t) (sup_in_order h count t) = in-order-each (Ready t) h count t e in
    let a = length-map (sup_borders h count t) (raw_at t) in
    let b = length-map (map (raw_at t) (sup_in_order h count t)) figured in
    let c = length-map (sup_in_order h count t) (raw_at t) in
    omega (arith, joined_length (raws-whole t e), joined_length (figured-whole t o), a, b, c, in-order-length h count t, ap (λ (x : List ℕ). length x) (raws-figured t o))

-- ---- in a judged sheet each listed border is ready, where none has a long code or a wide figure

named-of : (s : List ℕ) → all plain s ≡ true → blank (get_or s (length s - 1) 0) ≡ false → Named s
unfolding all
named-of [] a e = named-nil
named-of (b ∷ []) a e =
    let h : 32 ≤ b = leb-true 32 b (and_left (leb 32 b) (leb b 126) (and_left (plain b) true a)) in
    let k : b ≡ 32 → ⊥ = eqb-false b 32 e in
    let l : 32 < b = omega arith in named-last l
named-of (b ∷ c ∷ s) a e =
    let q : length (b ∷ c ∷ s) - 1 ≡ suc (length (c ∷ s) - 1) = omega arith in
    named-on (leb-true 32 b (and_left (leb 32 b) (leb b 126) (and_left (plain b) (all plain (c ∷ s)) a))) (named-of (c ∷ s) (and_right (plain b) (all plain (c ∷ s)) a) (sym (ap (λ (k : ℕ). blank (get_or (b ∷ c ∷ s) k 0)) q) ∙ e))

made-named : (t : Tables) → is_made t ≡ true → Named (letters_of t)
unfolding is_made are_letters
made-named t e =
    let n = count_at t 9 in
    let s = letters_of t in
    let a = leb n (length t.letters) in
    let b = all plain s in
    let c = not (blank (get_or s 0 0)) in
    let d = not (blank (get_or s (n - 1) 0)) in
    let L = a && b && c && d in
    let r = are_numbers t.rows in
    let counts = are_counts (kind_of t) (count_at t 10) (count_at t 11) t.islands in
    let rest = are_points (kind_of t) (count_at t 11) (islands_of t) t.points in
    let l : L ≡ true = and_right r L (and_left (r && L) counts (and_left (r && L && counts) rest e)) in
    let m : length s ≡ n = length-take-le n t.letters (leb-true n (length t.letters) (and_left a b (and_left (a && b) c (and_left (a && b && c) d l)))) in
    named-of s (and_right a b (and_left (a && b) c (and_left (a && b && c) d l))) (rw m (not-true (blank (get_or s (n - 1) 0)) (and_right (a && b && c) d l)))

from_named : (h : Header) (t : Tables) (count : ℕ) → Small t → (n : ℕ) (d : Stand) (k : ℕ) → k + n ≡ count → Walk Loose t count d k
    → EachOf (λ (x : Stand). Named (letters_of (left_at t x))) (sup_borders_from h t n d)
unfolding sup_borders_from
from_named h t count m zero d k e w = each_nil
from_named h t count m (suc n) d k e w =
    let l : k < count = omega arith in
    let q = walk_after m w l in
    go (is_in_sup h (left_at t d)) (made-named (left_at t d) (walk-left w l)) (from_named h t count m n (stand_after t.rows d) (k + 1) (omega arith) (walk-on w l (stand_after t.rows d) q))
  where
    go : (b : Bool) → Named (letters_of (left_at t d)) → EachOf (λ (x : Stand). Named (letters_of (left_at t x))) (sup_borders_from h t n (stand_after t.rows d))
        → EachOf (λ (x : Stand). Named (letters_of (left_at t x))) (with_if b d (sup_borders_from h t n (stand_after t.rows d)))
    go true p r = each_on p r
    go false p r = r

all-ready : {t : Tables} {s : List Stand} → EachOf (Fits t) s → EachOf (λ (d : Stand). is_narrow (metres_left (left_at t d)) ≡ true) s
    → EachOf (λ (d : Stand). Named (letters_of (left_at t d))) s → EachOf (Ready t) s
all-ready each_nil each_nil each_nil = each_nil
all-ready (each_on a x) (each_on b y) (each_on c z) = each_on (record { short = a; narrow = b; named = c }) (all-ready x y z)

pub listed-ready : (h : Header) (count : ℕ) (t : Tables) → Small t → judge_rows Loose count none_before t ≡ Ok tt → EachOf (Fits t) (sup_borders h count t)
    → EachOf (λ (d : Stand). is_narrow (metres_left (left_at t d)) ≡ true) (sup_borders h count t) → EachOf (Ready t) (sup_borders h count t)
listed-ready h count t m f a b = all-ready a b (from_named h t count m count first_stand 0 (omega arith) (walk_start Loose t count f))
