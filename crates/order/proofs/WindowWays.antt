-- The walk that fills a window, of those that pass a test `p` as well. Assumes nothing.
use Prim.Native.Nat.{ℕ, suc, ◌+◌, ◌-◌, ◌≤◌, ◌<◌, min}
use mathlib.Core.Path.{◌≡◌, refl, sym, ap, ◌∙◌}
use mathlib.Core.List.{List}
use mathlib.Core.Bool.{Bool, true, false, ◌&&◌, ◌||◌}
use mathlib.Core.Logic.{◌⊎◌, ⊎_elim}
use native.Mathlib.Nat.{sub-zero}
use native.Mathlib.Omega.{arith}
use lib.ListN.{length, get_or, take, set, length-take, length-set}
use lib.Seq.{get_or-take, take_all}
use lib.Dec.{ltb}
use borrow.Author.Tests.{ltb-false}
use Rattle.std.specs.Prelude.{Option}
use Rattle.laws.proofs.Choice.{false≢true}
use Rattle.heading.specs.declared.Header.{Header}
use Rattle.sheet.specs.Tables.{Tables}
use Rattle.row.specs.declared.Stand.{Stand}
use Rattle.row.specs.Walk.{first_stand, stand_after, left_at}
use Rattle.order.specs.Sorting.{insert, sort_into, filter, Sorted}
use Rattle.order.specs.SupBorders.{is_in_sup, sup_borders_from}
use Rattle.order.specs.SupOrder.{goes_before}
use Rattle.order.specs.Windows.{is_past, window_width, Shows}
use Rattle.order.specs.WindowTurn.{joins_window}
use Rattle.order.proofs.GuideLaws.{window_among}
use Rattle.order.proofs.PlaceWays.{place_of, place-le, insert-is, Halving, halving-start}
use Rattle.order.proofs.ShiftWays.{Shifting, shift-start, shift-end}
use Rattle.order.proofs.TotalLaws.{before-through, before-turn}
use Rattle.order.proofs.SortLaws.{take-sort, insert-sorted, take-sorted, full-stays}

-- ---- the walk: what is to come is put into what is held

pub record Filling (h : Header) (count : ℕ) (t : Tables) (since : Option Stand) (p : Stand → Bool) (items : List Stand) (n : ℕ) (d : Stand) (k : ℕ) : Type 0 where
  pub within : k ≤ count
  pub size : length items ≡ window_width + 1
  pub room : n ≤ window_width
  pub ordered : Sorted (goes_before t) (take n items)
  pub rest : window_among h count t since p ≡ take window_width (sort_into (goes_before t) (take n items) (filter p (filter (is_past t since) (sup_borders_from h t (count - k) d))))

pub filling-start : (h : Header) (count : ℕ) (t : Tables) (since : Option Stand) (p : Stand → Bool) (items : List Stand) → length items ≡ window_width + 1 → (d : Stand) → d ≡ first_stand → Filling h count t since p items 0 d 0
unfolding window_among
filling-start h count t since p items s d q =
    rw q (record { within = omega arith; size = s; room = omega arith; ordered = Sorted.sorted-nil; rest = rw (sub-zero count) })

module _ {h : Header} {count : ℕ} {t : Tables} {since : Option Stand} {p : Stand → Bool} {items : List Stand} {n : ℕ} {d : Stand} {k : ℕ} (f : Filling h count t since p items n d k) where
  held-size : length (take n items) ≡ n
  held-size = omega (arith, length-take n items, f.size, f.room)

  -- where to look for the place of its row
  pub filling-halves : Halving (goes_before t) d items n 0 n
  filling-halves = halving-start (goes_before t) d items n (before-through t) f.ordered (omega (arith, f.size, f.room))

  pub filling-end : count ≤ k → Shows (record { items = items; count = n }) (window_among h count t since p)
  unfolding sup_borders_from filter sort_into
  filling-end l =
      let z : count - k ≡ 0 = omega arith in
      let e : window_among h count t since p ≡ take n items = f.rest ∙ rw z (take_all window_width (take n items) (omega (arith, held-size, f.room))) in
      record { items-are = sym e; count-is = sym held-size ∙ sym (ap length e) }

  module _ (l : k < count) where
    abbrev next : Stand
    next = stand_after t.rows d

    abbrev later : List Stand
    later = filter p (filter (is_past t since) (sup_borders_from h t (count - (k + 1)) next))

    abbrev goal : List Stand → Type 0
    goal s = window_among h count t since p ≡ take window_width (sort_into (goes_before t) s later)

    one_more : count - k ≡ suc (count - (k + 1))
    one_more = omega arith

    skip-unlisted : is_in_sup h (left_at t d) ≡ false → goal (take n items)
    unfolding sup_borders_from
    skip-unlisted e = f.rest ∙ rw (one_more, e)

    skip-not-past : is_in_sup h (left_at t d) ≡ true → is_past t since d ≡ false → goal (take n items)
    unfolding sup_borders_from filter
    skip-not-past e g = f.rest ∙ rw (one_more, e, g)

    skip-failing : is_in_sup h (left_at t d) ≡ true → is_past t since d ≡ true → p d ≡ false → goal (take n items)
    unfolding sup_borders_from filter
    skip-failing e g u = f.rest ∙ rw (one_more, e, g, u)

    filling-same : goal (take n items) → (v : List Stand) → v ≡ items → (c : ℕ) → c ≡ n → (m : Stand) → m ≡ next → Filling h count t since p v c m (k + 1)
    filling-same q v e c o m r = rw (e, o, r) (record { within = omega arith; size = f.size; room = f.room; ordered = f.ordered; rest = q })

    -- a row that is passed by
    passed : (p d ≡ false) ⊎ (is_past t since d ≡ false) → goal (take n items)
    passed w = go (is_in_sup h (left_at t d)) (is_past t since d) refl refl
      where
        go : (x y : Bool) → is_in_sup h (left_at t d) ≡ x → is_past t since d ≡ y → goal (take n items)
        go false y e g = skip-unlisted e
        go true false e g = skip-not-past e g
        go true true e g = ⊎_elim (λ u. skip-failing e g u) (λ u. absurd (false≢true (sym u ∙ g))) w

    pub filling-past : (p d ≡ false) ⊎ (is_past t since d ≡ false) → (v : List Stand) → v ≡ items → (c : ℕ) → c ≡ n → (m : Stand) → m ≡ next → Filling h count t since p v c m (k + 1)
    filling-past w = filling-same (passed w)

    -- a row that passes
    module _ (u : p d ≡ true) where
      take-one : is_in_sup h (left_at t d) ≡ true → is_past t since d ≡ true → goal (take window_width (insert (goes_before t) d (take n items)))
      unfolding sup_borders_from filter sort_into
      take-one e g = f.rest ∙ rw (one_more, e, g, u) (take-sort (goes_before t) window_width (insert (goes_before t) d (take n items)) later)

      -- the last of a full window
      full : (z : Stand) → window_width ≤ n → goes_before t d (get_or items 383 z) ≡ false → take window_width (insert (goes_before t) d (take n items)) ≡ take n items
      full z g e =
          full-stays (goes_before t) (before-through t) (before-turn t) window_width d (take n items) 383 z f.ordered (omega (arith, held-size, f.room)) refl (rw (get_or-take n items 383 z (omega arith)) e)

      module _ (z : Stand) (b : Bool) (e : b ≡ joins_window h t since n (get_or items 383 z) d) where
        stays : b ≡ false → goal (take n items)
        unfolding joins_window
        stays q = go (is_in_sup h (left_at t d)) (is_past t since d) (ltb n window_width) (goes_before t d (get_or items 383 z)) refl refl refl refl (sym e ∙ q)
          where
            go : (x y u v : Bool) → is_in_sup h (left_at t d) ≡ x → is_past t since d ≡ y → ltb n window_width ≡ u → goes_before t d (get_or items 383 z) ≡ v
                → (y && ((u || v) && x)) ≡ false → goal (take n items)
            go false y u v p q r s g = skip-unlisted p
            go true false u v p q r s g = skip-not-past p q
            go true true true v p q r s g = absurd (false≢true (sym g))
            go true true false true p q r s g = absurd (false≢true (sym g))
            go true true false false p q r s g = rw (full z (ltb-false n window_width r) s) at (take-one p q)

        pub filling-by : b ≡ false → (v : List Stand) → v ≡ items → (c : ℕ) → c ≡ n → (m : Stand) → m ≡ next → Filling h count t since p v c m (k + 1)
        filling-by q = filling-same (stays q)

        goes : b ≡ true → goal (take window_width (insert (goes_before t) d (take n items)))
        unfolding joins_window
        goes q = go (is_in_sup h (left_at t d)) (is_past t since d) (ltb n window_width || goes_before t d (get_or items 383 z)) refl refl (sym e ∙ q)
          where
            go : (x y u : Bool) → is_in_sup h (left_at t d) ≡ x → is_past t since d ≡ y → (y && (u && x)) ≡ true → goal (take window_width (insert (goes_before t) d (take n items)))
            go x false u p q g = absurd (false≢true g)
            go x true false p q g = absurd (false≢true g)
            go false true true p q g = absurd (false≢true g)
            go true true true p q g = take-one p q

        -- the place of the row, and what is carried behind it
        module _ (at : ℕ) (a : at ≡ place_of (goes_before t) d (take n items)) where
          pub filling-shift : Shifting (window_width + 1) items n at d items d at
          filling-shift = shift-start (window_width + 1) items n at d (omega (arith, f.room)) (omega (arith, place-le (goes_before t) d (take n items), held-size)) f.size

          pub filling-in : b ≡ true → {v : List Stand} {y : Stand} {i : ℕ} → Shifting (window_width + 1) items n at d v y i → n ≤ i → (c : ℕ) → c ≡ min (n + 1) window_width
              → (x : List Stand) → x ≡ set v n y → (m : Stand) → m ≡ next → Filling h count t since p x c m (k + 1)
          filling-in q {v} {y} {i} w j c o x r m s =
              let z : take c (set v n y) ≡ take window_width (insert (goes_before t) d (take n items))
              = shift-end w window_width j c o ∙ rw (a, ← insert-is (goes_before t) d (take n items)) in
              rw (r, s) (record {
                within = omega arith;
                size = length-set v n y ∙ w.wide;
                room = omega arith;
                ordered = rw z (take-sorted (goes_before t) window_width (insert-sorted (goes_before t) (before-through t) (before-turn t) d f.ordered));
                rest = rw z (goes q);
              })
