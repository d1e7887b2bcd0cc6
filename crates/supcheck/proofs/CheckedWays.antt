-- The ways through the functions that count all right lines of a file, and answer. Assumes nothing.
use Prim.Native.Nat.{ℕ, suc, ◌+◌, ◌*◌, ◌^◌, ◌≤◌, ◌<◌}
use mathlib.Core.Path.{◌≡◌, sym, ap, ◌∙◌}
use mathlib.Core.List.{List, ◌++◌}
use mathlib.Core.Bool.{Bool, true, false, cond, not}
use native.Mathlib.Omega.{arith}
use lib.ListN.{length}
use lib.Dec.{eqb}
use lib.IntN.{ℤ}
use lib.Signed.{mag}
use borrow.Author.Tests.{not-true, not-false, eq-eqb, ne_eqb}
use Rattle.std.specs.Prelude.{Option, Some, None, Ok, Err}
use Rattle.laws.proofs.Choice.{and-false}
use Rattle.record.specs.declared.Mode.TheVariants.{Loose}
use Rattle.heading.specs.declared.Header.{Header}
use Rattle.sheet.specs.Tables.{Tables}
use Rattle.made.specs.Made.{none_before, judge_rows}
use Rattle.row.proofs.SeekLaws.{fine-rows}
use Rattle.order.specs.SupBorders.{sup_borders}
use Rattle.tally.specs.declared.Untallied.{Untallied}
use Rattle.tally.specs.Tally.{Good}
use Rattle.tally.specs.Take.{tally_of}
use Rattle.tally.proofs.RunningLaws.{tally-good, tally-fine}
use Rattle.sup.specs.declared.ExactSheet.{ExactSheet}
use Rattle.sup.specs.Sup.{CodeNet, exact_total}
use Rattle.sup.specs.Totals.{total_of}
use Rattle.sup.specs.ExactAreas.{exact_areas, exact_of}
use Rattle.sup.specs.Answer.{codes_in_order}
use Rattle.sup.proofs.TextWays.{past_is, is-is, limited-small}
use Rattle.sup.proofs.ListedWays.{listed-held}
use Rattle.supcheck.specs.declared.Unaccepted.TheVariants.{Refused, PastTotal, WrongLine}
use Rattle.supline.specs.Right.{DueLine, is_right_date}
use Rattle.supcheck.specs.Due.{head_due, listed_due, foot_due, due_with, balance_in, due_lines}
use Rattle.supcheck.specs.Checked.{right_from, right_lines, checked_lines, total_checked, sup_checked}
use Rattle.supcheck.proofs.RightLaws.{right-most, right-past, right-in}
use Rattle.supcheck.proofs.DueLaws.{codes-count, head-count, listed-due-count, foot-count, due-count}

-- ---- the lines of a file, part by part

module _ (h : Header) (count : ℕ) (t : Tables) (f : List ℤ) (s : List ℕ) (a : Bool) (ea : a ≡ is_right_date h.name s) where
  abbrev codes : List CodeNet
  codes = codes_in_order h count t

  abbrev feet : List DueLine
  feet = foot_due h.kind f (balance_in (length codes) s)

  pub count-date : not a ≡ true → 0 ≡ right_lines h f codes s
  unfolding right_lines
  count-date q = rw (← ea, not-true a q)

  module _ (ta : not a ≡ false) (x : ℕ) (ex : x ≡ right_from 1 (head_due f) s) where
    behind-date : right_lines h f codes s ≡ suc (right_from 1 (head_due f ++ (listed_due codes ++ feet)) s)
    unfolding right_lines due_lines due_with
    behind-date = rw (← ea, not-false a ta)

    pub count_head : x < 6 → 1 + x ≡ right_lines h f codes s
    count_head l =
        let q = right-in s 1 (head_due f) (listed_due codes ++ feet) (omega (arith, ex, head-count f)) in
        omega (arith, behind-date, q, ex)

    module _ (lx : 6 ≤ x) (y : ℕ) (ey : y ≡ right_from 7 (listed_due codes) s) (n : ℕ) (en : n ≡ length (sup_borders h count t)) where
      behind-head : right_lines h f codes s ≡ 7 + right_from 7 (listed_due codes ++ feet) s
      behind-head =
          let m : right_from 1 (head_due f) s ≡ length (head_due f) = omega (arith, ex, head-count f, right-most s 1 (head_due f)) in
          let q = right-past s 1 (head_due f) (listed_due codes ++ feet) m in
          let r : right_from (1 + length (head_due f)) (listed_due codes ++ feet) s ≡ right_from 7 (listed_due codes ++ feet) s
          = ap (λ (k : ℕ). right_from (1 + k) (listed_due codes ++ feet) s) (head-count f) in
          omega (arith, behind-date, q, r, head-count f)

      size : length (listed_due codes) ≡ n
      size = listed-due-count codes ∙ codes-count h count t ∙ sym en

      pub count-listed : y < n → 7 + y ≡ right_lines h f codes s
      count-listed l =
          let q = right-in s 7 (listed_due codes) feet (omega (arith, ey, size)) in
          omega (arith, behind-head, q, ey)

      pub count-foot : n ≤ y → (z : ℕ) → z ≡ right_from (7 + n) (foot_due h.kind f (balance_in n s)) s → 7 + n + z ≡ right_lines h f codes s
      count-foot l z ez =
          let m : right_from 7 (listed_due codes) s ≡ length (listed_due codes) = omega (arith, ey, size, right-most s 7 (listed_due codes)) in
          let q = right-past s 7 (listed_due codes) feet m in
          let c : length codes ≡ n = codes-count h count t ∙ sym en in
          let r : right_from (7 + length (listed_due codes)) feet s ≡ z
          = rw (size, c) (sym ez) in
          omega (arith, behind-head, q, r, size)

pub foot-few : (k kind : ℕ) (f : List ℤ) (b : ℤ) (s : List ℕ) (r : ℕ) → r ≡ right_from k (foot_due kind f b) s → r ≤ 7
foot-few k kind f b s r e = omega (arith, e, right-most s k (foot_due kind f b), foot-count kind f b)

-- no more lines than rows, and fourteen
pub listed_small : (h : Header) (count : ℕ) (t : Tables) → judge_rows Loose count none_before t ≡ Ok tt → (n : ℕ) → n ≡ length (sup_borders h count t) → n ≤ length t.rows
listed_small h count t f n e = omega (arith, e, listed-held h count t f)

pub lines-most : (h : Header) (f : List ℤ) (c : List CodeNet) (s : List ℕ) → right_lines h f c s ≤ 14 + length c
unfolding right_lines due_lines
lines-most h f c s = go (is_right_date h.name s)
  where
    go : (b : Bool) → cond b (suc (right_from 1 (due_with h.kind f c (balance_in (length c) s)) s)) 0 ≤ 14 + length c
    go true = omega (arith, right-most s 1 (due_with h.kind f c (balance_in (length c) s)), due-count h.kind f c (balance_in (length c) s))
    go false = omega arith

-- ---- the answers

module _ (h : Header) (count : ℕ) (t : Tables) (f : List ℤ) (s : List ℕ) where
  module _ (n : ℕ) (en : n ≡ length (sup_borders h count t)) (r : ℕ) (er : r ≡ right_lines h f (codes_in_order h count t) s) where
    listed-is : length (codes_in_order h count t) ≡ n
    listed-is = codes-count h count t ∙ sym en

    pub right-few : r ≤ 14 + n
    right-few = omega (arith, er, listed-is, lines-most h f (codes_in_order h count t) s)

    pub lines-wrong : (r ≡ 14 + n → ⊥) → Err (WrongLine (r + 1)) ≡ checked_lines h f (codes_in_order h count t) s
    unfolding checked_lines
    lines-wrong x = rw (← er, listed-is, ne_eqb r (14 + n) x)

    pub bytes-behind : r ≡ 14 + n → (length s ≡ 23 * r → ⊥) → Err (WrongLine (r + 1)) ≡ checked_lines h f (codes_in_order h count t) s
    unfolding checked_lines
    bytes-behind x y = rw (← er, listed-is, ne_eqb (length s) (23 * (14 + n)) (λ z. y (omega arith)), and-false (eqb r (14 + n)))

    pub lines-accepted : r ≡ 14 + n → length s ≡ 23 * r → Ok tt ≡ checked_lines h f (codes_in_order h count t) s
    unfolding checked_lines
    lines-accepted x y = rw (← er, listed-is, eq-eqb r (14 + n) x, eq-eqb (length s) (23 * (14 + n)) (omega arith))

  module _ (x : Option ℤ) (e : x ≡ total_of (exact_total h.kind f)) where
    pub total-past : x ≡ None → Err PastTotal ≡ total_checked h f (codes_in_order h count t) s
    unfolding total_checked
    total-past p = rw (past_is (exact_total h.kind f) (sym e ∙ p))

    module _ (d : ℤ) (p : x ≡ Some d) where
      pub total-known : d ≡ exact_total h.kind f
      total-known = (is-is (exact_total h.kind f) d (sym e ∙ p)).1

      pub total-small : mag d < 2 ^ 63
      total-small = rw total-known (limited-small (exact_total h.kind f) (is-is (exact_total h.kind f) d (sym e ∙ p)).0)

      pub total-on : checked_lines h f (codes_in_order h count t) s ≡ total_checked h f (codes_in_order h count t) s
      unfolding total_checked
      total-on = rw (is-is (exact_total h.kind f) d (sym e ∙ p)).0

module _ (h : Header) (count : ℕ) (t : Tables) (s : List ℕ) (x : ExactSheet) (e : x ≡ exact_of h count t) where
  pub tally-refused : (u : Untallied) → x.outcome ≡ Err u → Err (Refused u) ≡ sup_checked h count t s
  unfolding sup_checked exact_of
  tally-refused u q = let z : (tally_of h count t).outcome ≡ Err u = sym (ap (λ (y : ExactSheet). y.outcome) e) ∙ q in rw z

  module _ (q : x.outcome ≡ Ok tt) where
    none_is : (tally_of h count t).outcome ≡ Ok tt
    unfolding exact_of
    none_is = sym (ap (λ (y : ExactSheet). y.outcome) e) ∙ q

    pub tally-asks : (judge_rows Loose count none_before t ≡ Ok tt) × Good x.figures × (x.areas ≡ exact_areas h.kind x.figures) × (x.total ≡ total_of (exact_total h.kind x.figures))
    unfolding exact_of
    tally-asks =
        (fine-rows h count t (tally-fine h count t none_is), rw e (tally-good h count t), rw e, rw e)

    pub tally-checked : total_checked h x.figures (codes_in_order h count t) s ≡ sup_checked h count t s
    unfolding sup_checked exact_of
    tally-checked = rw (none_is, e)
