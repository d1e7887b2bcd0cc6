-- What holds of every SUP file: document 02, T-01. Assumes nothing.
use Prim.Native.Nat.{ℕ, zero, suc, ◌+◌, ◌-◌, ◌*◌, ◌/◌, ◌≤◌}
use mathlib.Core.Path.{◌≡◌, refl, ap}
use mathlib.Core.List.{List, [], ◌∷◌, ◌++◌}
use mathlib.Core.Bool.{Bool, true, false, cond}
use native.Mathlib.Omega.{arith}
use lib.ListN.{length, replicate, length-append, length-replicate}
use lib.IntN.{ℤ, pos, negsuc, ◌+ℤ◌, ◌-ℤ◌, ◌*ℤ◌}
use lib.Signed.{le_z, lt_z, shr_z}
use lib.Dec.{lit≤}
use Rattle.std.specs.Prelude.{None}
use Rattle.laws.proofs.Parts.{num, diff, sum, eq-parts, neg-P, neg-N, le-true, lt-true}
use Rattle.heading.specs.declared.Header.{Header}
use Rattle.spelling.specs.Spelling.{aligned}
use Rattle.spelling.specs.Figures.{is_narrow, figure_text}
use Rattle.spelling.proofs.SpellingLaws.{aligned-length}
use Rattle.spelling.proofs.FigureLaws.{figure-length}
use Rattle.sheet.specs.Tables.{Tables}
use Rattle.row.specs.declared.Stand.{Stand}
use Rattle.order.specs.Sorting.{EachOf, EachOf.each_nil, EachOf.each_on}
use Rattle.order.specs.SupBorders.{sup_borders, first_long}
use Rattle.order.specs.SupOrder.{sup_in_order}
use Rattle.order.proofs.OrderLaws.{in-order-length}
use Rattle.order.proofs.LongLaws.{Fits, codes-fit}
use Rattle.sup.specs.Answer.{code_nets, codes_in_order}
use Rattle.sup.specs.Metres.{metres_of}
use Rattle.sup.specs.Lines.{FigureLine, left_field, fields_line, date_text, lines_text}
use Rattle.sup.specs.Sup.{exact_total, exact_confine, head_lines, CodeNet, listed_lines, balance, foot_lines, figure_lines, sup_text, figures_in, wide_from, first_wide}

-- ---- square metres: 2,000,000 F is at most D + 1,000,000, and 2,000,000 (F + 1) is more

floor-low : (x : ℤ) → le_z (pos 2000000 *ℤ shr_z x 2000000) x ≡ true
floor-low (pos a) = le-true (pos (2000000 * (a / 2000000))) (pos a) (omega arith)
floor-low (negsuc a) =
    le-true (pos 2000000 *ℤ negsuc (a / 2000000)) (negsuc a)
    (omega (arith, neg-P (pos (2000000 * suc (a / 2000000))), neg-N (pos (2000000 * suc (a / 2000000)))))

floor-high : (x : ℤ) → lt_z x (pos 2000000 *ℤ (shr_z x 2000000 +ℤ pos 1)) ≡ true
floor-high (pos a) = lt-true (pos a) (pos (2000000 * (a / 2000000 + 1))) (omega arith)
floor-high (negsuc a) = go (a / 2000000) refl
  where
    go : (q : ℕ) → a / 2000000 ≡ q → lt_z (negsuc a) (pos 2000000 *ℤ (negsuc q +ℤ pos 1)) ≡ true
    go zero e = refl
    go (suc q) e =
        let m : negsuc (suc q) +ℤ pos 1 ≡ negsuc q = eq-parts (negsuc (suc q) +ℤ pos 1) (negsuc q) (omega (arith, sum (negsuc (suc q)) (pos 1))) in
        rw m (lt-true (negsuc a) (pos 2000000 *ℤ negsuc q) (omega (arith, neg-P (pos (2000000 * suc q)), neg-N (pos (2000000 * suc q)))))

pub metres-low : (d : ℤ) → le_z (pos 2000000 *ℤ metres_of d) (d +ℤ pos 1000000) ≡ true
unfolding metres_of
metres-low d = floor-low (d +ℤ pos 1000000)

pub metres-high : (d : ℤ) → lt_z (d +ℤ pos 1000000) (pos 2000000 *ℤ (metres_of d +ℤ pos 1)) ≡ true
unfolding metres_of
metres-high d = floor-high (d +ℤ pos 1000000)

-- ---- the balance

less-itself : (z : ℤ) → z -ℤ z ≡ pos 0
less-itself z = eq-parts (z -ℤ z) (pos 0) (omega (arith, num z, diff z z))

-- "a balanced sheet prints 0"
pub balanced-zero : (kind : ℕ) (f : List ℤ) → exact_total kind f ≡ exact_confine kind f → balance kind f ≡ pos 0
unfolding balance
balanced-zero kind f e = rw e (less-itself (metres_of (exact_confine kind f)))

-- and so does a union sheet, whose two totals are one sum
pub union-zero : (f : List ℤ) → balance 3 f ≡ pos 0
unfolding exact_total exact_confine
union-zero f = balanced-zero 3 f refl

-- ---- the length

-- a name that finds room in its field, and a figure that does
pub record Fitting (x : FigureLine) : Type 0 where
  pub short : length x.name ≤ 11
  pub narrow : is_narrow x.amount ≡ true

pub data Fittings : List FigureLine → Type 0 where
  none : Fittings []
  more : {x : FigureLine} {s : List FigureLine} → Fitting x → Fittings s → Fittings (x ∷ s)

pub line-length : (left right : List ℕ) → length left ≤ 11 → length right ≡ 10 → length (fields_line left right) ≡ 23
unfolding fields_line left_field
line-length left right h e =
    let pad = replicate {A = ℕ} (11 - length left) 32 in
    omega (arith, length-append ((left ++ pad) ++ right) (13 ∷ 10 ∷ []), length-append (left ++ pad) right, length-append left pad, length-replicate {A = ℕ} (11 - length left) 32)

pub lines-length : {s : List FigureLine} → Fittings s → length (lines_text s) ≡ 23 * length s
unfolding lines_text
lines-length none = refl
lines-length (more {x} {s} a f) =
    omega (arith, length-append (fields_line x.name (figure_text x.amount)) (lines_text s), line-length x.name (figure_text x.amount) a.short (figure-length x.amount a.narrow), lines-length f)

pub listed-count : (s : List CodeNet) → length (listed_lines s) ≡ length s
unfolding listed_lines
listed-count [] = refl
listed-count (b ∷ s) = ap suc (listed-count s)

-- thirteen lines with a figure, and one for each border that is listed
pub lines-count : (kind : ℕ) (f : List ℤ) (s : List CodeNet) → length (figure_lines kind f s) ≡ 13 + length s
unfolding figure_lines head_lines foot_lines
lines-count kind f s = omega (arith, length-append (head_lines f) (listed_lines s ++ foot_lines kind f), length-append (listed_lines s) (foot_lines kind f), listed-count s)

-- "the length is 23 times the lines"
pub text-length : (h : Header) (date : List ℕ) (f : List ℤ) (s : List CodeNet) → length h.name ≤ 11 → length date ≤ 10
    → Fittings (figure_lines h.kind f s) → length (sup_text h date f s) ≡ 23 * (14 + length s)
unfolding sup_text date_text
text-length h date f s n d x =
    omega (
      arith,
      length-append (fields_line h.name (aligned 10 date)) (lines_text (figure_lines h.kind f s)),
      line-length h.name (aligned 10 date) n (aligned-length 10 date d),
      lines-length x,
      lines-count h.kind f s,
    )

-- ---- a file that is written: its lines fit

pub nets-count : (t : Tables) (s : List Stand) → length (code_nets t s) ≡ length s
unfolding code_nets
nets-count t [] = refl
nets-count t (d ∷ s) = ap suc (nets-count t s)

pub data ShortNames : List FigureLine → Type 0 where
  unnamed : ShortNames []
  named : {x : FigureLine} {s : List FigureLine} → length x.name ≤ 11 → ShortNames s → ShortNames (x ∷ s)

narrow-lines : (k : ℕ) (s : List FigureLine) → 1 ≤ k → wide_from k (figures_in s) ≡ 0 → ShortNames s → Fittings s
unfolding wide_from figures_in
narrow-lines k [] i e n = none
narrow-lines k (x ∷ s) i e (named h n) = go (is_narrow x.amount) refl e (narrow-lines (k + 1) s (omega arith))
  where
    go : (t : Bool) → is_narrow x.amount ≡ t → cond t (wide_from (k + 1) (figures_in s)) k ≡ 0
        → (wide_from (k + 1) (figures_in s) ≡ 0 → ShortNames s → Fittings s) → Fittings (x ∷ s)
    go true q f g = more (record { short = h; narrow = q }) (g f n)
    go false q f g = absurd (omega arith)

short-names : (kind : ℕ) (f : List ℤ) (s : List CodeNet) → ShortNames (listed_lines s) → ShortNames (figure_lines kind f s)
unfolding figure_lines head_lines foot_lines
short-names kind f s n =
    named (lit≤ tt) (named (lit≤ tt) (named (lit≤ tt) (named (lit≤ tt) (named (lit≤ tt) (named (lit≤ tt) (go (listed_lines s) n))))))
  where
    go : (l : List FigureLine) → ShortNames l → ShortNames (l ++ foot_lines kind f)
    go [] unnamed =
        named (lit≤ tt) (named (lit≤ tt) (named (lit≤ tt) (named (lit≤ tt) (named (lit≤ tt) (named (lit≤ tt) (named (lit≤ tt) unnamed))))))
    go (x ∷ l) (named h m) = named h (go l m)

listed-short : (t : Tables) (s : List Stand) → EachOf (Fits t) s → ShortNames (listed_lines (code_nets t s))
unfolding listed_lines code_nets
listed-short t [] each_nil = unnamed
listed-short t (d ∷ s) (each_on h e) = named h (listed-short t s e)

-- where neither 22 nor 23 is met, every line fits
pub lines_fit : (h : Header) (count : ℕ) (t : Tables) (f : List ℤ) → first_long h count t ≡ None → first_wide h.kind f (codes_in_order h count t) ≡ 0
    → Fittings (figure_lines h.kind f (codes_in_order h count t))
unfolding codes_in_order
lines_fit h count t f l w =
    let s = code_nets t (sup_in_order h count t) in
    narrow-lines 2 (figure_lines h.kind f s) (omega arith) w (short-names h.kind f s (listed-short t (sup_in_order h count t) (codes-fit h count t l)))

-- and "the length is 23 times the lines": fourteen, and one for each border that is listed
pub sup-length : (h : Header) (count : ℕ) (t : Tables) (date : List ℕ) (f : List ℤ) → length h.name ≤ 11 → length date ≤ 10
    → first_long h count t ≡ None → first_wide h.kind f (codes_in_order h count t) ≡ 0
    → length (sup_text h date f (codes_in_order h count t)) ≡ 23 * (14 + length (sup_borders h count t))
unfolding codes_in_order
sup-length h count t date f n d l w =
    let s = code_nets t (sup_in_order h count t) in
    omega (arith, text-length h date f s n d (lines_fit h count t f l w), nets-count t (sup_in_order h count t), in-order-length h count t)
