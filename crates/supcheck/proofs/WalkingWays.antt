-- The ways through the functions that count right lines: those behind the walk are right. Assumes nothing.
use Prim.Native.Nat.{ℕ, suc, ◌+◌, ◌-◌, ◌*◌, ◌^◌, ◌≤◌, ◌<◌}
use mathlib.Core.Path.{◌≡◌, sym, ap, ◌∙◌}
use mathlib.Core.List.{List, [], ◌∷◌}
use mathlib.Core.Bool.{Bool, true, false, cond, not}
use native.Mathlib.Nat.{sub-zero}
use native.Mathlib.Omega.{arith}
use lib.ListN.{length, get_or, take, drop}
use lib.IntN.{ℤ, pos}
use lib.Signed.{mag}
use mir.Syntax.{w64}
use mir.Val.{to_z, of_z}
use borrow.Author.Tests.{not-true, not-false}
use Rattle.std.specs.Prelude.{Some, None, Ok}
use Rattle.laws.proofs.Bits.{back}
use Rattle.laws.proofs.ListLaws.{left as from_at, left-none}
use Rattle.record.specs.declared.Mode.TheVariants.{Loose}
use Rattle.heading.specs.declared.Header.{Header}
use Rattle.kinds.specs.Kinds.{row_width}
use Rattle.sheet.specs.Tables.{Tables}
use Rattle.made.specs.Made.{tables_of, letters_of, none_before, judge_rows}
use Rattle.row.specs.declared.Stand.{Stand}
use Rattle.row.specs.Walk.{left_at}
use Rattle.order.specs.declared.Window.{Window}
use Rattle.order.specs.SupOrder.{net_left, sup_in_order}
use Rattle.order.specs.Windows.{window_width, Shows, window_of, Small}
use Rattle.order.proofs.OrderLaws.{in-order-length}
use Rattle.order.proofs.TurnLaws.{Turning, turning-start, turning-end, turning-more, turning-item, turning-on, turning-next}
use Rattle.sup.specs.Sup.{listed_lines}
use Rattle.sup.specs.Answer.{code_nets, codes_in_order}
use Rattle.sup.proofs.ListedWays.{listed-held}
use Rattle.supline.specs.Right.{due, DueLine, due_line, line_from, is_right_line}
use Rattle.supcheck.specs.Due.{due_under, listed_dues, listed_due}
use Rattle.supcheck.specs.Checked.{right_from}
use Rattle.supcheck.specs.Walking.{packed_from, packed_due}

-- ---- lines whose names stand one behind the other

pub record Righting (s : List ℕ) (first : ℕ) (names : List ℕ) (exact allowed : List ℤ) (i : ℕ) : Type 0 where
  pub within : i ≤ length exact
  pub rest : right_from first (packed_due names exact allowed) s ≡ i + right_from (first + i) (packed_from names exact allowed i (length exact - i)) s

pub righting-start : (s : List ℕ) (first : ℕ) (names : List ℕ) (exact allowed : List ℤ) → Righting s first names exact allowed 0
righting-start s first names exact allowed =
    let e : first ≡ first + 0 = omega arith in
    let r : right_from first (packed_due names exact allowed) s ≡ right_from (first + 0) (packed_from names exact allowed 0 (length exact - 0)) s
    = ap (λ (k : ℕ). right_from k (packed_due names exact allowed) s) e ∙ ap (λ (k : ℕ). right_from (first + 0) (packed_from names exact allowed 0 k) s) (sym (sub-zero (length exact))) in
    record { within = omega arith; rest = omega (arith, r) }

module _ {s : List ℕ} {first : ℕ} {names : List ℕ} {exact allowed : List ℤ} {i : ℕ} (g : Righting s first names exact allowed i) where
  pub righting-end : length exact ≤ i → i ≡ right_from first (packed_due names exact allowed) s
  unfolding packed_from right_from
  righting-end h = let z : length exact - i ≡ 0 = omega arith in sym (g.rest ∙ rw z (omega arith))

  module _ (h : i < length exact) (u : List ℕ) (eu : u ≡ line_from s (first + i))
      (me : mag (get_or exact i (pos 0)) < 2 ^ 63) (ma : mag (get_or allowed i (pos 0)) < 2 ^ 63)
      (b : Bool) (eb : b ≡ is_right_line (due_line (take (11 * i + 11 - 11 * i) (drop (11 * i) names)) (due (to_z w64 (of_z w64 (get_or exact i (pos 0)))) (to_z w64 (of_z w64 (get_or allowed i (pos 0)))))) u) where
    abbrev here : DueLine
    here = due_line (take 11 (drop (11 * i) names)) (due (get_or exact i (pos 0)) (get_or allowed i (pos 0)))

    test-is : is_right_line here (line_from s (first + i)) ≡ b
    test-is =
        let e : 11 * i + 11 - 11 * i ≡ 11 = omega arith in
        sym (eb ∙ rw (eu, back (get_or exact i (pos 0)) me, back (get_or allowed i (pos 0)) ma, e))

    rest-here : right_from first (packed_due names exact allowed) s
        ≡ i + cond b (suc (right_from (first + i + 1) (packed_from names exact allowed (i + 1) (length exact - (i + 1))) s)) 0
    unfolding packed_from right_from
    rest-here = let n : length exact - i ≡ suc (length exact - (i + 1)) = omega arith in g.rest ∙ rw (n, test-is)

    pub righting-stop : not b ≡ true → i ≡ right_from first (packed_due names exact allowed) s
    righting-stop t = sym (rest-here ∙ rw (not-true b t) (omega arith))

    pub righting-on : not b ≡ false → Righting s first names exact allowed (i + 1)
    righting-on t =
        let k : first + i + 1 ≡ first + (i + 1) = omega arith in
        let tail : List DueLine = packed_from names exact allowed (i + 1) (length exact - (i + 1)) in
        let r : right_from (first + i + 1) tail s ≡ right_from (first + (i + 1)) tail s = ap (λ (m : ℕ). right_from m tail s) k in
        let q : right_from first (packed_due names exact allowed) s ≡ i + suc (right_from (first + i + 1) tail s) = rest-here ∙ rw (not-false b t) in
        record { within = omega arith; rest = omega (arith, r, q) }

-- ---- one border

module _ (rows : List ℤ) (letters islands : List ℕ) (points : List ℤ) (d : Stand) where
  pub border-known : (s : List ℕ) (z : ℤ) → z ≡ net_left (left_at (tables_of rows letters islands points) d) → mag z < 2 ^ 63
      → (n : List ℕ) → n ≡ letters_of (left_at (tables_of rows letters [] []) d) → (b : Bool) → b ≡ is_right_line (due_line n (due (to_z w64 (of_z w64 z)) (pos 1))) s
      → b ≡ is_right_line (due_line (letters_of (left_at (tables_of rows letters islands points) d)) (due (net_left (left_at (tables_of rows letters islands points) d)) (pos 1))) s
  border-known s z ez mz n en b eb = eb ∙ rw (back z mz, ez, en)

-- ---- the listed borders

abbrev pub listed_from : Header → ℕ → Tables → ℕ → List DueLine
listed_from h count t i = listed_due (code_nets t (drop i (sup_in_order h count t)))

module _ (h : Header) (count : ℕ) (t : Tables) (i : ℕ) where
  from_on : (z : Stand) → i < length (sup_in_order h count t)
      → listed_from h count t i
      ≡ due_line (letters_of (left_at t (get_or (sup_in_order h count t) i z))) (due (net_left (left_at t (get_or (sup_in_order h count t) i z))) (pos 1)) ∷ listed_from h count t (i + 1)
  unfolding listed_due listed_dues listed_lines due_under code_nets
  from_on z l = rw (from_at (sup_in_order h count t) i z l)

  from_end : length (sup_in_order h count t) ≤ i → listed_from h count t i ≡ []
  unfolding listed_due listed_dues listed_lines due_under code_nets
  from_end l = rw (left-none (sup_in_order h count t) i l)

pub record Counting (h : Header) (count : ℕ) (t : Tables) (s : List ℕ) (w : Window) (i j : ℕ) : Type 0 where
  pub turns : Turning h count t w i j
  pub rest : right_from 7 (listed_from h count t 0) s ≡ i + right_from (7 + i) (listed_from h count t i) s

pub counting-start : (h : Header) (count : ℕ) (t : Tables) (s : List ℕ) → Small t → judge_rows Loose count none_before t ≡ Ok tt → (w : Window) → Shows w (window_of h count t None)
    → Counting h count t s w 0 0
counting-start h count t s m f w x = record { turns = turning-start h count t m f w x; rest = omega arith }

module _ {h : Header} {count : ℕ} {t : Tables} {s : List ℕ} {w : Window} {i j : ℕ} (g : Counting h count t s w i j) where
  pub counting-end : w.count ≤ j → i ≡ right_from 7 (listed_due (codes_in_order h count t)) s
  unfolding codes_in_order right_from
  counting-end e = sym (g.rest ∙ rw (from_end h count t i (omega (arith, turning-end g.turns e))) (omega arith))

  pub counting-small : j < w.count → row_width * i < length t.rows
  counting-small e = omega (arith, turning-more g.turns e, in-order-length h count t, listed-held h count t g.turns.fine)

  module _ (e : j < w.count) (z : Stand) (u : List ℕ) (eu : u ≡ line_from s (7 + i)) (b : Bool)
      (q : b ≡ is_right_line (due_line (letters_of (left_at t (get_or w.items j z))) (due (net_left (left_at t (get_or w.items j z))) (pos 1))) u) where
    counted-here : right_from 7 (listed_from h count t 0) s ≡ i + cond b (suc (right_from (7 + i + 1) (listed_from h count t (i + 1)) s)) 0
    unfolding right_from
    counted-here =
        g.rest ∙ rw (from_on h count t i z (turning-more g.turns e), ← turning-item g.turns e z, ← eu, ← q)

    pub counting-stop : not b ≡ true → i ≡ right_from 7 (listed_due (codes_in_order h count t)) s
    unfolding codes_in_order
    counting-stop f = sym (counted-here ∙ rw (not-true b f) (omega arith))

    counted-on : not b ≡ false → right_from 7 (listed_from h count t 0) s ≡ (i + 1) + right_from (7 + (i + 1)) (listed_from h count t (i + 1)) s
    counted-on f =
        let k : 7 + i + 1 ≡ 7 + (i + 1) = omega arith in
        let r : right_from (7 + i + 1) (listed_from h count t (i + 1)) s ≡ right_from (7 + (i + 1)) (listed_from h count t (i + 1)) s = ap (λ (m : ℕ). right_from m (listed_from h count t (i + 1)) s) k in
        let c : right_from 7 (listed_from h count t 0) s ≡ i + suc (right_from (7 + i + 1) (listed_from h count t (i + 1)) s) = counted-here ∙ rw (not-false b f) in
        omega (arith, r, c)

    pub counting-on : not b ≡ false → (j + 1 ≡ window_width → ⊥) → Counting h count t s w (i + 1) (j + 1)
    counting-on f k = record { turns = turning-on g.turns e k; rest = counted-on f }

    pub counting-next : not b ≡ false → (v : Window) → Shows v (window_of h count t (Some (get_or w.items j z))) → Counting h count t s v (i + 1) 0
    counting-next f v x = record { turns = turning-next g.turns e z v x; rest = counted-on f }
