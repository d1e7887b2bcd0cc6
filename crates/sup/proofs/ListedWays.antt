-- The ways through the functions that go over the listed borders: what is to come are the figures of those not yet behind.
-- Assumes nothing.
use Prim.Native.Nat.{ℕ, zero, suc, ◌+◌, ◌-◌, ◌*◌, ◌^◌, ◌≤◌, ◌<◌}
use mathlib.Core.Path.{◌≡◌, refl, sym, ap, ◌∙◌}
use mathlib.Core.List.{List, [], ◌∷◌}
use mathlib.Core.Bool.{Bool, true, false, not, ◌&&◌, ◌||◌, cond}
use native.Mathlib.Nat.{sub-zero}
use native.Mathlib.Omega.{arith}
use lib.ListN.{length, get_or, drop}
use lib.IntN.{ℤ}
use lib.Signed.{mag}
use mir.Syntax.{w64}
use mir.Val.{to_z, of_z}
use borrow.Author.Tests.{not-true, not-false}
use Rattle.std.specs.Prelude.{Some, None, Ok}
use Rattle.laws.proofs.Bits.{back}
use Rattle.laws.proofs.Choice.{false≢true}
use Rattle.laws.proofs.ListLaws.{left as from_at, left-none}
use Rattle.kinds.specs.Kinds.{row_width}
use Rattle.heading.specs.declared.Header.{Header}
use Rattle.record.specs.declared.Mode.TheVariants.{Loose}
use Rattle.sheet.specs.Tables.{Tables}
use Rattle.made.specs.Made.{tables_of, none_before, judge_rows}
use Rattle.made.proofs.UsedLaws.{fine-long}
use Rattle.row.specs.declared.Stand.{Stand}
use Rattle.row.specs.Walk.{first_stand, stand_after, left_at}
use Rattle.border.specs.Borders.{border_of}
use Rattle.spelling.specs.Figures.{is_narrow}
use Rattle.order.specs.declared.Window.{Window}
use Rattle.order.specs.Sorting.{EachOf, EachOf.each_nil, EachOf.each_on}
use Rattle.order.specs.SupBorders.{is_in_sup, with_if, sup_borders, sup_borders_from}
use Rattle.order.specs.SupOrder.{sup_in_order}
use Rattle.order.specs.Windows.{window_width, Shows, window_of, Small}
use Rattle.order.proofs.OrderLaws.{in-order-each, in-order-length}
use Rattle.order.proofs.TurnLaws.{Turning, turning-start, turning-end, turning-more, turning-item, turning-on, turning-next}
use Rattle.sup.specs.Sup.{listed_lines, figures_in, wide_from}
use Rattle.sup.specs.Answer.{code_nets, codes_in_order}
use Rattle.sup.specs.Printing.{metres_left, is_wide_listed, is_any_wide_from}

-- ---- one border

-- which tables its being listed depends on
pub listed-own : (h : Header) (rows : List ℤ) (letters islands : List ℕ) (points : List ℤ) (d : Stand)
    → is_in_sup h (left_at (tables_of rows letters [] []) d) ≡ is_in_sup h (left_at (tables_of rows letters islands points) d)
unfolding is_in_sup border_of
listed-own h rows letters islands points d = refl

-- whether it is narrow
pub narrow-known : (t : Tables) (z : ℤ) → z ≡ metres_left t → mag z < 2 ^ 63 → (b : Bool) → b ≡ is_narrow (to_z w64 (of_z w64 z)) → b ≡ is_narrow (metres_left t)
narrow-known t z q m b g = g ∙ ap is_narrow (back z m ∙ q)

-- ---- the walk that looks for a wide figure: none of the k rows behind it has one

pub record Searching (h : Header) (count : ℕ) (t : Tables) (d : Stand) (k : ℕ) : Type 0 where
  pub within : k ≤ count
  pub rest : is_any_wide_from h t count first_stand ≡ is_any_wide_from h t (count - k) d

pub searching-start : (h : Header) (count : ℕ) (t : Tables) → Searching h count t first_stand 0
searching-start h count t = record { within = omega arith; rest = rw (sub-zero count) }

module _ {h : Header} {count : ℕ} {t : Tables} {d : Stand} {k : ℕ} (c : Searching h count t d k) where
  pub searching-end : count ≤ k → false ≡ is_any_wide_from h t count first_stand
  unfolding is_any_wide_from
  searching-end l = let z : count - k ≡ 0 = omega arith in sym (c.rest ∙ rw z)

  module _ (l : k < count) (b : Bool) (e : b ≡ is_wide_listed h (left_at t d)) where
    one_more : count - k ≡ suc (count - (k + 1))
    one_more = omega arith

    pub searching-found : b ≡ true → true ≡ is_any_wide_from h t count first_stand
    unfolding is_any_wide_from
    searching-found f = sym (c.rest ∙ rw (one_more, ← e, f))

    pub searching-on : b ≡ false → (s : Stand) → s ≡ stand_after t.rows d → Searching h count t s (k + 1)
    unfolding is_any_wide_from
    searching-on f s q = record { within = omega arith; rest = c.rest ∙ rw (one_more, ← e, f, q) }

-- where none is found each listed figure is narrow
abbrev pub Narrow : Tables → Stand → Type 0
Narrow t d = is_narrow (metres_left (left_at t d)) ≡ true

from-narrow : (h : Header) (t : Tables) (n : ℕ) (d : Stand) → is_any_wide_from h t n d ≡ false → EachOf (Narrow t) (sup_borders_from h t n d)
unfolding is_any_wide_from sup_borders_from is_wide_listed
from-narrow h t zero d e = each_nil
from-narrow h t (suc n) d e =
    go (is_in_sup h (left_at t d)) (is_narrow (metres_left (left_at t d))) refl e (from-narrow h t n (stand_after t.rows d))
  where
    go : (x y : Bool) → is_narrow (metres_left (left_at t d)) ≡ y → ((x && not y) || is_any_wide_from h t n (stand_after t.rows d)) ≡ false
        → (is_any_wide_from h t n (stand_after t.rows d) ≡ false → EachOf (Narrow t) (sup_borders_from h t n (stand_after t.rows d)))
        → EachOf (Narrow t) (with_if x d (sup_borders_from h t n (stand_after t.rows d)))
    go false y q f g = g f
    go true false q f g = absurd (false≢true (sym f))
    go true true q f g = each_on q (g f)

pub none-wide : (h : Header) (count : ℕ) (t : Tables) → is_any_wide_from h t count first_stand ≡ false → EachOf (Narrow t) (sup_in_order h count t)
none-wide h count t e = in-order-each (Narrow t) h count t (from-narrow h t count first_stand e)

-- ---- the figures of the borders from i on

abbrev pub figures_from : Header → ℕ → Tables → ℕ → List ℤ
figures_from h count t i = figures_in (listed_lines (code_nets t (drop i (sup_in_order h count t))))

module _ (h : Header) (count : ℕ) (t : Tables) (i : ℕ) where
  figures-on : (z : Stand) → i < length (sup_in_order h count t)
      → figures_from h count t i ≡ metres_left (left_at t (get_or (sup_in_order h count t) i z)) ∷ figures_from h count t (i + 1)
  unfolding figures_in listed_lines code_nets metres_left
  figures-on z l = rw (from_at (sup_in_order h count t) i z l)

  figures-end : length (sup_in_order h count t) ≤ i → figures_from h count t i ≡ []
  unfolding figures_in listed_lines code_nets
  figures-end l = rw (left-none (sup_in_order h count t) i l)

-- ---- there are no more of them than rows

listed-few : (h : Header) (t : Tables) (n : ℕ) (d : Stand) → length (sup_borders_from h t n d) ≤ n
unfolding sup_borders_from
listed-few h t zero d = omega arith
listed-few h t (suc n) d = go (is_in_sup h (left_at t d)) (listed-few h t n (stand_after t.rows d))
  where
    go : (b : Bool) → length (sup_borders_from h t n (stand_after t.rows d)) ≤ n → length (with_if b d (sup_borders_from h t n (stand_after t.rows d))) ≤ suc n
    go true k = omega arith
    go false k = omega arith

pub listed-held : (h : Header) (count : ℕ) (t : Tables) → judge_rows Loose count none_before t ≡ Ok tt → row_width * length (sup_borders h count t) ≤ length t.rows
listed-held h count t f = omega (arith, listed-few h t count first_stand, (fine-long Loose count none_before t f).rows_in)

-- ---- the loop over windows that looks for a wide figure

pub record Widening (h : Header) (count : ℕ) (t : Tables) (w : Window) (i j : ℕ) : Type 0 where
  pub turns : Turning h count t w i j
  pub rest : wide_from 8 (figures_from h count t 0) ≡ wide_from (8 + i) (figures_from h count t i)

pub widening-start : (h : Header) (count : ℕ) (t : Tables) → Small t → judge_rows Loose count none_before t ≡ Ok tt → (w : Window) → Shows w (window_of h count t None) → Widening h count t w 0 0
widening-start h count t m f w s = record { turns = turning-start h count t m f w s; rest = refl }

module _ {h : Header} {count : ℕ} {t : Tables} {w : Window} {i j : ℕ} (g : Widening h count t w i j) where
  pub widening-end : w.count ≤ j → 0 ≡ wide_from 8 (figures_in (listed_lines (codes_in_order h count t)))
  unfolding wide_from codes_in_order
  widening-end e = sym (g.rest ∙ rw (figures-end h count t i (omega (arith, turning-end g.turns e))))

  pub widening-small : j < w.count → row_width * i < length t.rows
  widening-small e =
      omega (arith, turning-more g.turns e, in-order-length h count t, listed-held h count t g.turns.fine)

  module _ (e : j < w.count) (z : Stand) (b : Bool) (q : b ≡ is_narrow (metres_left (left_at t (get_or w.items j z)))) where
    rest-here : wide_from 8 (figures_from h count t 0) ≡ cond b (wide_from (8 + i + 1) (figures_from h count t (i + 1))) (8 + i)
    unfolding wide_from
    rest-here = g.rest ∙ rw (figures-on h count t i z (turning-more g.turns e), ← turning-item g.turns e z, ← q)

    pub widening-found : not b ≡ true → 8 + i ≡ wide_from 8 (figures_in (listed_lines (codes_in_order h count t)))
    unfolding codes_in_order
    widening-found f = sym (rest-here ∙ rw (not-true b f))

    rest-on : not b ≡ false → wide_from 8 (figures_from h count t 0) ≡ wide_from (8 + (i + 1)) (figures_from h count t (i + 1))
    rest-on f = rest-here ∙ rw (not-false b f) (let k : 8 + i + 1 ≡ 8 + (i + 1) = omega arith in ap (λ (m : ℕ). wide_from m (figures_from h count t (i + 1))) k)

    pub widening-on : not b ≡ false → (j + 1 ≡ window_width → ⊥) → Widening h count t w (i + 1) (j + 1)
    widening-on f k = record { turns = turning-on g.turns e k; rest = rest-on f }

    pub widening-next : not b ≡ false → (u : Window) → Shows u (window_of h count t (Some (get_or w.items j z))) → Widening h count t u (i + 1) 0
    widening-next f u s = record { turns = turning-next g.turns e z u s; rest = rest-on f }
