-- A guide never changes a window: what comes before a row that is up to the guide is up to it as well, so those rows stand first, and where they
-- fill a window, it is the window. Assumes nothing.
use Prim.Native.Nat.{ℕ, zero, suc, ◌≤◌}
use mathlib.Core.Path.{◌≡◌, refl, sym, ap, ◌∙◌}
use mathlib.Core.List.{List, [], ◌∷◌}
use mathlib.Core.Bool.{Bool, true, false, cond, not, ◌&&◌}
use mathlib.Core.Logic.{◌⊎◌, inl, inr}
use native.Mathlib.Omega.{arith}
use lib.ListN.{length, take, length-take}
use lib.IntN.{ℤ}
use Rattle.std.specs.Prelude.{Option, Some, None}
use Rattle.laws.proofs.Choice.{false≢true}
use Rattle.heading.specs.declared.Header.{Header}
use Rattle.sheet.specs.Tables.{Tables}
use Rattle.made.specs.Made.{tables_of, letters_of}
use Rattle.row.specs.declared.Stand.{Stand}
use Rattle.row.specs.Walk.{left_at}
use Rattle.std.specs.declared.cmp.Ordering.{Ordering}
use Rattle.std.specs.declared.cmp.Ordering.TheVariants.{Less, Equal, Greater}
use Rattle.order.specs.declared.Window.{Window}
use Rattle.order.specs.Compare.{is_after, by_bytes}
use Rattle.order.specs.Sorting.{sort_by, filter, EachOf, EachOf.each_nil, EachOf.each_on, Sorted, Sorted.sorted-nil, Sorted.sorted-on}
use Rattle.order.specs.SupBorders.{sup_borders}
use Rattle.order.specs.SupOrder.{by_code_and_net, comes_at, goes_before}
use Rattle.order.specs.Windows.{window_width, is_past, window_of, Shows}
use Rattle.order.specs.WindowTurn.{since_letters, is_up_to, is_within}
use Rattle.order.proofs.CompareLaws.{turned, alike_right, bytes-total}
use Rattle.order.proofs.EachLaws.{each_map, each_of}
use Rattle.order.proofs.SortLaws.{filter-all, filter-sort, sort_sorted}
use Rattle.order.proofs.TotalLaws.{before-through, before-turn}

-- ---- of a list in order, those that pass a test stand first, where what comes before one of them passes too

module _ {A : Type 0} (lt : A → A → Bool) (p : A → Bool) (down : (x y : A) → lt y x ≡ false → p y ≡ true → p x ≡ true) where
  none_pass : {s : List A} → EachOf (λ (y : A). p y ≡ false) s → filter p s ≡ []
  unfolding filter
  none_pass each_nil = refl
  none_pass (each_on q e) = rw (q, none_pass e)

  -- behind one that does not pass none does
  none-later : (x : A) → p x ≡ false → (y : A) → lt y x ≡ false → p y ≡ false
  none-later x e y d = go (p y) refl
    where
      go : (b : Bool) → p y ≡ b → b ≡ false
      go true q = absurd (false≢true (sym e ∙ down x y d q))
      go false q = refl

  pub filter-first : (w : ℕ) {s : List A} → Sorted lt s → w ≤ length (filter p s) → take w (filter p s) ≡ take w s
  unfolding filter
  filter-first zero o h = refl
  filter-first (suc w) sorted-nil h = refl
  filter-first (suc w) (sorted-on {x} {s} e o) h = go (p x) refl h (filter-first w o)
    where
      go : (b : Bool) → p x ≡ b → suc w ≤ length (cond b (x ∷ filter p s) (filter p s)) → (w ≤ length (filter p s) → take w (filter p s) ≡ take w s)
          → take (suc w) (cond b (x ∷ filter p s) (filter p s)) ≡ x ∷ take w s
      go true q l f = ap (λ (u : List A). x ∷ u) (f (omega arith))
      go false q l f = absurd (let z : length (filter p s) ≡ 0 = ap length (none_pass (each_map (none-later x q) e)) in omega arith)

-- ---- the window on those that pass a test as well

unfoldable pub window_among : Header → ℕ → Tables → Option Stand → (Stand → Bool) → List Stand
window_among h count t since p = take window_width (sort_by (goes_before t) (filter p (filter (is_past t since) (sup_borders h count t))))

-- ---- letters

none_after : (s : List ℕ) → is_after (by_bytes [] s) ≡ false
none_after [] = refl
none_after (b ∷ s) = refl

module _ (t : Tables) where
  abbrev code : Stand → List ℕ
  code d = letters_of (left_at t d)

  -- letters decide first
  letters-after : (a b : Stand) → by_bytes (code a) (code b) ≡ Greater → goes_before t a b ≡ false
  unfolding goes_before comes_at by_code_and_net
  letters-after a b e = rw e

  letters-before : (a b : Stand) → by_bytes (code a) (code b) ≡ Less → goes_before t a b ≡ true
  unfolding goes_before comes_at by_code_and_net
  letters-before a b e = rw e

  -- what comes before the border that was had last, by its letters, is not past it
  module _ (since : Option Stand) (d : Stand) where
    before-first : is_after (by_bytes (since_letters t since) (code d)) ≡ true → is_past t since d ≡ false
    unfolding since_letters is_past
    before-first = go since
      where
        one : (a : Stand) (x : Ordering) → by_bytes (code a) (code d) ≡ x → is_after x ≡ true → goes_before t a d ≡ false
        one a Less q e = absurd (false≢true e)
        one a Equal q e = absurd (false≢true e)
        one a Greater q e = letters-after a d q

        go : (v : Option Stand) → is_after (by_bytes (since_letters t v) (code d)) ≡ true → is_past t v d ≡ false
        go None e = absurd (false≢true (sym (none_after (code d)) ∙ e))
        go (Some a) e = one a (by_bytes (code a) (code d)) refl e

  -- ---- the guide

  module _ (guide : List ℕ) (guided : Bool) where
    abbrev pub up_to : Stand → Bool
    up_to d = is_up_to guide guided (code d)

    up-down : (x y : Stand) → goes_before t y x ≡ false → up_to y ≡ true → up_to x ≡ true
    unfolding is_up_to
    up-down x y e = go guided
      where
        on : (v u : Ordering) → by_bytes (code y) (code x) ≡ v → by_bytes (code y) guide ≡ u → not (is_after u) ≡ true → not (is_after (by_bytes (code x) guide)) ≡ true
        on Less u p q f = absurd (false≢true (sym e ∙ letters-before y x p))
        on Equal u p q f = rw (← bytes-total.alike (code y) (code x) guide p, q) f
        on Greater Less p q f = rw (bytes-total.through (code x) (code y) guide (bytes-total.turn (code y) (code x) ∙ ap turned p) q)
        on Greater Equal p q f = rw (alike_right bytes-total (code x) (code y) guide q, bytes-total.turn (code y) (code x), p)
        on Greater Greater p q f = absurd (false≢true f)

        go : (g : Bool) → is_up_to guide g (code y) ≡ true → is_up_to guide g (code x) ≡ true
        go false f = refl
        go true f = on (by_bytes (code y) (code x)) (by_bytes (code y) guide) refl refl f

    module _ (h : Header) (count : ℕ) (since : Option Stand) where
      abbrev all : List Stand
      all = sort_by (goes_before t) (filter (is_past t since) (sup_borders h count t))

      among-is : window_among h count t since up_to ≡ take window_width (filter up_to all)
      unfolding window_among filter
      among-is =
          ap (take window_width) (sym (filter-sort (goes_before t) (before-through t) (before-turn t) up_to [] (filter (is_past t since) (sup_borders h count t)) Sorted.sorted-nil))

      -- a full window is the window
      pub guided-full : (w : Window) → Shows w (window_among h count t since up_to) → w.count ≡ window_width → Shows w (window_of h count t since)
      unfolding window_of
      guided-full w s n =
          let l : length (window_among h count t since up_to) ≡ window_width = sym s.count-is ∙ n in
          let m : window_width ≤ length (filter up_to all) = omega (arith, l, ap length among-is, length-take window_width (filter up_to all)) in
          let e : window_among h count t since up_to ≡ take window_width all
          = among-is ∙ filter-first (goes_before t) up_to up-down window_width (sort_sorted (goes_before t) (before-through t) (before-turn t) (filter (is_past t since) (sup_borders h count t))) m in
          rw e at s

  -- and so is one without a guide
  pub unguided : (guide : List ℕ) (guided : Bool) → guided ≡ false → (h : Header) (count : ℕ) (since : Option Stand) (w : Window) → Shows w (window_among h count t since (up_to guide guided))
      → Shows w (window_of h count t since)
  unfolding window_of window_among is_up_to
  unguided guide guided g h count since w s =
      let e : filter (up_to guide guided) (filter (is_past t since) (sup_borders h count t)) ≡ filter (is_past t since) (sup_borders h count t)
      = filter-all (goes_before t) (before-through t) (before-turn t) (up_to guide guided) (filter (is_past t since) (sup_borders h count t)) (each_of (filter (is_past t since) (sup_borders h count t)) (λ d. rw g)) in
      rw e at s

-- ---- rows that are looked at, and those that are passed by

module _ (rows : List ℤ) (letters islands : List ℕ) (points : List ℤ) (d : Stand) (since : Option Stand) (guide : List ℕ) (guided : Bool) where
  abbrev tables : Tables
  tables = tables_of rows letters islands points

  since-is : since_letters (tables_of rows letters [] []) since ≡ since_letters tables since
  unfolding since_letters
  since-is = go since
    where
      go : (v : Option Stand) → since_letters (tables_of rows letters [] []) v ≡ since_letters tables v
      go None = refl
      go (Some e) = refl

  module _ (from s : List ℕ) (ef : from ≡ since_letters (tables_of rows letters [] []) since) (es : s ≡ letters_of (left_at (tables_of rows letters [] []) d)) (b : Bool) (eb : b ≡ is_within from guide guided s) where
    pub within-up : b ≡ true → up_to tables guide guided d ≡ true
    unfolding is_within
    within-up f = go (is_after (by_bytes from (code tables d))) (rw es at (sym eb ∙ f))
      where
        go : (x : Bool) → (not x && up_to tables guide guided d) ≡ true → up_to tables guide guided d ≡ true
        go false e = e
        go true e = absurd (false≢true e)

    pub passed-by : b ≡ false → (up_to tables guide guided d ≡ false) ⊎ (is_past tables since d ≡ false)
    unfolding is_within
    passed-by f = go (is_after (by_bytes from (code tables d))) refl (rw es at (sym eb ∙ f))
      where
        go : (x : Bool) → is_after (by_bytes from (code tables d)) ≡ x → (not x && up_to tables guide guided d) ≡ false
            → (up_to tables guide guided d ≡ false) ⊎ (is_past tables since d ≡ false)
        go false q e = inl e
        go true q e = inr (before-first tables since d (rw (ef, since-is) at q))
