-- Windows on the borders of a SUP file in order: a window past one of them is on what stands behind it, so that a loop over windows reads
-- them all. Assumes nothing.
use Prim.Native.Nat.{ℕ, suc, ◌+◌, ◌-◌, ◌<◌, min}
use mathlib.Core.Path.{◌≡◌, refl, sym, ap, ◌∙◌}
use mathlib.Core.List.{List, []}
use native.Mathlib.Omega.{arith}
use lib.ListN.{length, get_or, take, drop, length-take, length-drop}
use lib.Seq.{get_or-take, get_or-drop}
use Rattle.std.specs.Prelude.{Option, Some, None, Ok}
use Rattle.heading.specs.declared.Header.{Header}
use Rattle.record.specs.declared.Mode.TheVariants.{Loose}
use Rattle.sheet.specs.Tables.{Tables}
use Rattle.made.specs.Made.{none_before, judge_rows}
use Rattle.row.specs.declared.Stand.{Stand}
use Rattle.order.specs.declared.Window.{Window}
use Rattle.order.specs.Sorting.{filter, Sorted}
use Rattle.order.specs.SupBorders.{sup_borders}
use Rattle.order.specs.SupOrder.{goes_before, sup_in_order}
use Rattle.order.specs.Windows.{is_past, window_width, Shows, window_of, Small}
use Rattle.order.proofs.EachLaws.{each_of}
use Rattle.order.proofs.SortLaws.{filter-all, filter-sort, rising-past}
use Rattle.order.proofs.TotalLaws.{before-through, before-turn}
use Rattle.order.proofs.OrderLaws.{in-order-rising}

module _ (h : Header) (count : ℕ) (t : Tables) (m : Small t) (f : judge_rows Loose count none_before t ≡ Ok tt) where
  window-is : (since : Option Stand) → window_of h count t since ≡ take window_width (filter (is_past t since) (sup_in_order h count t))
  unfolding window_of sup_in_order filter
  window-is since = ap (take window_width) (sym (filter-sort (goes_before t) (before-through t) (before-turn t) (is_past t since) [] (sup_borders h count t) Sorted.sorted-nil))

  pub window-first : window_of h count t None ≡ take window_width (sup_in_order h count t)
  unfolding is_past
  window-first = window-is None ∙ ap (take window_width) (filter-all (goes_before t) (before-through t) (before-turn t) (is_past t None) (sup_in_order h count t) (each_of (sup_in_order h count t) (λ d. refl)))

  pub window-past : (i : ℕ) (z : Stand) → i < length (sup_in_order h count t) → window_of h count t (Some (get_or (sup_in_order h count t) i z)) ≡ take window_width (drop (suc i) (sup_in_order h count t))
  unfolding is_past
  window-past i z l =
      window-is (Some (get_or (sup_in_order h count t) i z)) ∙ ap (take window_width) (rising-past (goes_before t) (before-through t) (before-turn t) (sup_in_order h count t) i z (in-order-rising h count t m f) l)

  -- ---- reading them all through windows: the window stands on those from `from` on

  pub record Viewing (w : Window) (from : ℕ) : Type 0 where
    pub shows : Shows w (take window_width (drop from (sup_in_order h count t)))

  pub view_first : (w : Window) → Shows w (window_of h count t None) → Viewing w 0
  view_first w s = record { shows = rw window-first at s }

  module _ {w : Window} {from : ℕ} (v : Viewing w from) where
    pub view-count : w.count ≡ min window_width (length (sup_in_order h count t) - from)
    view-count = v.shows.count-is ∙ length-take window_width (drop from (sup_in_order h count t)) ∙ rw (length-drop from (sup_in_order h count t))

    -- what stands at a place of it
    pub view-item : (j : ℕ) (z : Stand) → j < w.count → get_or w.items j z ≡ get_or (sup_in_order h count t) (from + j) z
    view-item j z l =
        sym (get_or-take w.count w.items j z l) ∙ ap (λ (s : List Stand). get_or s j z) v.shows.items-are
        ∙ get_or-take window_width (drop from (sup_in_order h count t)) j z (omega (arith, view-count)) ∙ get_or-drop from (sup_in_order h count t) j z

    -- past its last: the next window
    pub view-next : (u : Window) (j : ℕ) (z : Stand) → j < w.count → Shows u (window_of h count t (Some (get_or w.items j z))) → Viewing u (suc (from + j))
    view-next u j z l s = record { shows = rw (view-item j z l, window-past (from + j) z (omega (arith, view-count))) at s }
