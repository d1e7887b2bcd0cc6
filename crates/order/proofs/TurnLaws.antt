-- A loop over all windows: `i` borders are behind it, and the next one stands at place `j` of the window. Assumes nothing.
use Prim.Native.Nat.{ℕ, suc, ◌+◌, ◌-◌, ◌≤◌, ◌<◌, min}
use mathlib.Core.Path.{◌≡◌, ◌∙◌}
use native.Mathlib.Omega.{arith}
use lib.ListN.{length, get_or}
use Rattle.std.specs.Prelude.{Some, None, Ok}
use Rattle.heading.specs.declared.Header.{Header}
use Rattle.record.specs.declared.Mode.TheVariants.{Loose}
use Rattle.sheet.specs.Tables.{Tables}
use Rattle.made.specs.Made.{none_before, judge_rows}
use Rattle.row.specs.declared.Stand.{Stand}
use Rattle.order.specs.declared.Window.{Window}
use Rattle.order.specs.SupOrder.{sup_in_order}
use Rattle.order.specs.Windows.{window_width, Shows, window_of, Small}
use Rattle.order.proofs.WindowLaws.{Viewing, view_first, view-count, view-item, view-next}

pub record Turning (h : Header) (count : ℕ) (t : Tables) (w : Window) (i j : ℕ) : Type 0 where
  pub small : Small t
  pub fine : judge_rows Loose count none_before t ≡ Ok tt
  pub views : Viewing h count t small fine w (i - j)
  pub past : j ≤ i
  pub within : j ≤ w.count
  pub inside : j < window_width
  pub reached : i ≤ length (sup_in_order h count t)

pub turning-start : (h : Header) (count : ℕ) (t : Tables) → Small t → judge_rows Loose count none_before t ≡ Ok tt → (w : Window) → Shows w (window_of h count t None) → Turning h count t w 0 0
turning-start h count t m f w s =
    record { small = m; fine = f; views = view_first h count t m f w s; past = omega arith; within = omega arith; inside = omega arith; reached = omega arith }

module _ {h : Header} {count : ℕ} {t : Tables} {w : Window} {i j : ℕ} (g : Turning h count t w i j) where
  views-count : w.count ≡ min window_width (length (sup_in_order h count t) - (i - j))
  views-count = view-count h count t g.small g.fine g.views

  -- a window that is not full ends with the last border
  pub turning-end : w.count ≤ j → i ≡ length (sup_in_order h count t)
  turning-end e = omega (arith, views-count, g.within, g.inside, g.past, g.reached)

  module _ (e : j < w.count) where
    pub turning-more : i < length (sup_in_order h count t)
    turning-more = omega (arith, views-count, g.past)

    pub turning-item : (z : Stand) → get_or w.items j z ≡ get_or (sup_in_order h count t) i z
    turning-item z =
        let k : i - j + j ≡ i = omega (arith, g.past) in
        view-item h count t g.small g.fine g.views j z e ∙ rw k

    pub turning-on : (j + 1 ≡ window_width → ⊥) → Turning h count t w (i + 1) (j + 1)
    turning-on n =
        record {
          small = g.small;
          fine = g.fine;
          views = let k : i + 1 - (j + 1) ≡ i - j = omega arith in rw k g.views;
          past = omega (arith, g.past);
          within = omega arith;
          inside = omega (arith, g.inside);
          reached = omega (arith, turning-more);
        }

    pub turning-next : (z : Stand) (u : Window) → Shows u (window_of h count t (Some (get_or w.items j z))) → Turning h count t u (i + 1) 0
    turning-next z u s =
        record {
          small = g.small;
          fine = g.fine;
          views =
              let k : suc (i - j + j) ≡ i + 1 - 0 = omega (arith, g.past) in
              rw (← k) (view-next h count t g.small g.fine g.views u j z e s);
          past = omega arith;
          within = omega arith;
          inside = omega arith;
          reached = omega (arith, turning-more);
        }
