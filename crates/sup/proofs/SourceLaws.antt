-- A SUP file and the sheet's tally never disagree: the borders that it lists are as many as the tally counts of their class, and their exact
-- nets together are the tally's (document 02, T-01). Assumes nothing.
use Prim.Native.Nat.{ℕ, zero, suc, ◌+◌, ◌*◌, ◌<◌}
use mathlib.Core.Path.{◌≡◌, refl, sym, ap, ap₂, ◌∙◌}
use mathlib.Core.List.{List, [], ◌∷◌}
use mathlib.Core.Bool.{Bool, true, false, cond, not, ◌&&◌}
use native.Mathlib.Omega.{arith}
use lib.ListN.{length}
use lib.Dec.{eqb}
use lib.IntN.{ℤ, pos, ◌+ℤ◌, ◌-ℤ◌, +ℤ_assoc, +ℤ_idl, +ℤ_idr}
use Rattle.laws.proofs.Choice.{false≢true, and_left, and_right}
use Rattle.laws.proofs.Parts.{sum, diff, eq-parts}
use Rattle.record.specs.declared.Mode.TheVariants.{Loose}
use Rattle.heading.specs.declared.Header.{Header}
use Rattle.sheet.specs.Tables.{Tables}
use Rattle.made.specs.Made.{rest_of}
use Rattle.row.specs.declared.Stand.{Stand}
use Rattle.row.specs.Walk.{first_stand, stand_after, left_at}
use Rattle.row.proofs.Walk.{Walk, walk_start, walk-on, left-next}
use Rattle.row.proofs.SeekLaws.{fine-rows}
use Rattle.classes.specs.declared.Class.{Class}
use Rattle.classes.specs.declared.Class.TheVariants.{Confine, Other, Road, Water, Building, Parcel}
use Rattle.classes.specs.Classes.{index_of}
use Rattle.border.specs.Borders.{is_border, border_of}
use Rattle.area.specs.declared.Areas.{Areas}
use Rattle.area.specs.BorderRings.{both_areas}
use Rattle.plane.specs.declared.NoArea.{NoArea}
use Rattle.area.specs.Questions.{net_area_of}
use Rattle.std.specs.Prelude.{Result, Ok, Err}
use Rattle.tally.specs.declared.Untallied.{Untallied}
use Rattle.tally.specs.Tally.{no_figures, plus, figures_of}
use Rattle.tally.specs.Take.{taken_with, borders_areas, tally_of}
use Rattle.tally.specs.Sums.{area_figures, area_fits, row_figures, row_fits, rows_figures, rows_fit}
use Rattle.tally.proofs.SumLaws.{row-length, rows-length}
use Rattle.tally.proofs.TallyJoin.{Tallied, tallied}
use Rattle.tally.proofs.CountLaws.{plus-at}
use Rattle.order.specs.Sorting.{insert, sort_into}
use Rattle.order.specs.SupBorders.{lists_class, is_wanted, is_in_sup, with_if, sup_borders, sup_borders_from}
use Rattle.order.specs.SupOrder.{net_left, goes_before, sup_in_order}
use Rattle.order.specs.Windows.{Small}
use Rattle.order.proofs.OrderLaws.{walk_after}
use Rattle.sup.specs.Sup.{borders_in, outer_in, inner_in, net_in, exact_total}
use Rattle.sup.specs.Answer.{code_nets, codes_in_order}
use Rattle.sup.specs.ListedSums.{listed_class, net_sum}

-- ---- a sum over borders is the same in any order

-- v of what is left at each of these
unfoldable sum_at : (Tables → ℤ) → Tables → List Stand → ℤ
sum_at v t [] = pos 0
sum_at v t (d ∷ s) = v (left_at t d) +ℤ sum_at v t s

second-first : (a b c : ℤ) → (a +ℤ b) +ℤ c ≡ b +ℤ (a +ℤ c)
second-first a b c = eq-parts ((a +ℤ b) +ℤ c) (b +ℤ (a +ℤ c)) (omega (arith, sum a b, sum (a +ℤ b) c, sum a c, sum b (a +ℤ c)))

module _ (v : Tables → ℤ) (t : Tables) (lt : Stand → Stand → Bool) where
  insert-sum : (x : Stand) (s : List Stand) → sum_at v t (insert lt x s) ≡ v (left_at t x) +ℤ sum_at v t s
  unfolding sum_at insert
  insert-sum x [] = refl
  insert-sum x (y ∷ s) = go (lt x y) (insert-sum x s)
    where
      go : (b : Bool) → sum_at v t (insert lt x s) ≡ v (left_at t x) +ℤ sum_at v t s
          → sum_at v t (cond b (x ∷ y ∷ s) (y ∷ insert lt x s)) ≡ v (left_at t x) +ℤ (v (left_at t y) +ℤ sum_at v t s)
      go true e = refl
      go false e =
          ap (λ (z : ℤ). v (left_at t y) +ℤ z) e ∙ sym (+ℤ_assoc (v (left_at t y)) (v (left_at t x)) (sum_at v t s))
          ∙ second-first (v (left_at t y)) (v (left_at t x)) (sum_at v t s)

  sort-sum : (acc s : List Stand) → sum_at v t (sort_into lt acc s) ≡ sum_at v t acc +ℤ sum_at v t s
  unfolding sum_at sort_into
  sort-sum acc [] = sym (+ℤ_idr (sum_at v t acc))
  sort-sum acc (x ∷ s) =
      sort-sum (insert lt x acc) s ∙ ap (λ (z : ℤ). z +ℤ sum_at v t s) (insert-sum x acc) ∙ second-first (v (left_at t x)) (sum_at v t acc) (sum_at v t s)

-- ---- what one row adds to the figures of the listed class

-- whether a class is the listed one, in a union sheet or another
abbrev is_of : Bool → Class → Bool
is_of b Confine = false
is_of b Other = b
is_of b Road = false
is_of b Water = false
is_of b Building = false
is_of b Parcel = not b

lists-is : (kind : ℕ) (c : Class) → lists_class kind c ≡ is_of (eqb kind 3) c
lists-is kind Confine = refl
lists-is kind Other = refl
lists-is kind Road = refl
lists-is kind Water = refl
lists-is kind Building = refl
lists-is kind Parcel = refl

-- a reading of figures: nothing of none, sums of sums, and of one border's own figures what it is to be where its class is the listed one
record Reads (kind : ℕ) (g : List ℤ → ℤ) (v : ℤ → ℤ → ℤ) : Type 0 where
  none : g no_figures ≡ pos 0
  add : (a b : List ℤ) → length a ≡ length b → g (plus a b) ≡ g a +ℤ g b
  own : (c : Class) (outer islands inner : ℤ) → g (figures_of (index_of c) outer islands inner) ≡ cond (is_of (eqb kind 3) c) (v outer inner) (pos 0)

-- a border's own value
abbrev Values : (Tables → ℤ) → (ℤ → ℤ → ℤ) → Type 0
Values value v = (t : Tables) → is_border t ≡ true → (outer inner : ℤ) → borders_areas t ≡ Ok (both_areas outer inner) → value t ≡ v outer inner

module _ (h : Header) (g : List ℤ → ℤ) (v : ℤ → ℤ → ℤ) (r : Reads h.kind g v) (value : Tables → ℤ) (own : Values value v) where
  border-adds : (t : Tables) → is_border t ≡ true → (x : Result Areas NoArea) → borders_areas t ≡ x → area_fits (border_of h t) x ≡ true
      → g (area_figures (border_of h t) x) ≡ cond (is_wanted h.kind (border_of h t)) (value t) (pos 0)
  border-adds t b (Ok a) q e =
      r.own (border_of h t).class a.outer (pos (border_of h t).islands) a.inner ∙ rw (lists-is h.kind (border_of h t).class, own t b a.outer a.inner q)
  border-adds t b (Err x) q e = absurd (false≢true e)

  row-adds : (t : Tables) → row_fits h t ≡ true → g (row_figures h t) ≡ cond (is_in_sup h t) (value t) (pos 0)
  unfolding row_fits row_figures is_in_sup
  row-adds t e = go (is_border t) refl e
    where
      go : (b : Bool) → is_border t ≡ b → cond b (area_fits (border_of h t) (borders_areas t)) true ≡ true
          → g (cond b (area_figures (border_of h t) (borders_areas t)) no_figures) ≡ cond (b && is_wanted h.kind (border_of h t)) (value t) (pos 0)
      go true q f = border-adds t q (borders_areas t) refl f
      go false q f = r.none

  -- ---- all rows

  one_more : (t : Tables) (b : Bool) (d : Stand) (s : List Stand) → sum_at value t (with_if b d s) ≡ cond b (value (left_at t d)) (pos 0) +ℤ sum_at value t s
  unfolding sum_at
  one_more t true d s = refl
  one_more t false d s = sym (+ℤ_idl (sum_at value t s))

  module _ (count : ℕ) (t : Tables) (m : Small t) where
    rows-add : (n : ℕ) (d : Stand) (k : ℕ) → k + n ≡ count → Walk Loose t count d k → rows_fit h n (left_at t d) ≡ true
        → sum_at value t (sup_borders_from h t n d) ≡ g (rows_figures h n (left_at t d))
    unfolding sum_at sup_borders_from rows_fit rows_figures
    rows-add zero d k e w f = sym r.none
    rows-add (suc n) d k e w f =
        let l : k < count = omega arith in
        let a = walk_after m w l in
        let here = left_at t d in
        let next = stand_after t.rows d in
        let q : left_at t next ≡ rest_of here = ap (λ (x : Stand). left_at t x) a ∙ left-next t d in
        let rest : sum_at value t (sup_borders_from h t n next) ≡ g (rows_figures h n (rest_of here))
        = rows-add n next (k + 1) (omega arith) (walk-on w l next a) (ap (rows_fit h n) q ∙ and_right (row_fits h here) (rows_fit h n (rest_of here)) f) ∙ ap (λ (x : Tables). g (rows_figures h n x)) q in
        one_more t (is_in_sup h here) d (sup_borders_from h t n next)
        ∙ ap₂ (λ (x y : ℤ). x +ℤ y) (sym (row-adds here (and_left (row_fits h here) (rows_fit h n (rest_of here)) f))) rest
        ∙ sym (r.add (row_figures h here) (rows_figures h n (rest_of here)) (row-length h here ∙ sym (rows-length h n (rest_of here))))

    module _ (e : (tally_of h count t).outcome ≡ Ok tt) where
      abbrev figures : List ℤ
      figures = (tally_of h count t).tally.figures

      of-tally : Tallied h count t figures
      of-tally = tallied h count t (tally_of h count t).tally (ap (λ (x : Result Unit Untallied). taken_with (tally_of h count t).tally x) e)

      -- in row order, and so in the file's
      listed-add : sum_at value t (sup_borders h count t) ≡ g figures
      listed-add =
          rows-add count first_stand 0 (omega arith) (walk_start Loose t count (fine-rows h count t of-tally.fine)) of-tally.fit ∙ ap g (sym of-tally.is)

      ordered-add : sum_at value t (sup_in_order h count t) ≡ g figures
      unfolding sup_in_order sum_at
      ordered-add =
          sort-sum value t (goes_before t) [] (sup_borders h count t) ∙ +ℤ_idl (sum_at value t (sup_borders h count t)) ∙ listed-add

-- ---- the two readings: the borders of a class, and its net

abbrev one_each : Tables → ℤ
one_each t = pos 1

abbrev counts : ℤ → ℤ → ℤ
counts outer inner = pos 1

abbrev nets : ℤ → ℤ → ℤ
nets outer inner = outer -ℤ inner

none_read : (b : Bool) → (borders_in no_figures (cond b Other Parcel) ≡ pos 0) × (net_in no_figures (cond b Other Parcel) ≡ pos 0)
none_read true = (refl, refl)
none_read false = (refl, refl)

own_read : (b : Bool) (c : Class) (o n i : ℤ)
    → (borders_in (figures_of (index_of c) o n i) (cond b Other Parcel) ≡ cond (is_of b c) (pos 1) (pos 0))
    × (net_in (figures_of (index_of c) o n i) (cond b Other Parcel) ≡ cond (is_of b c) (o -ℤ i) (pos 0))
unfolding figures_of
own_read true Confine o n i = (refl, refl)
own_read true Other o n i = (refl, refl)
own_read true Road o n i = (refl, refl)
own_read true Water o n i = (refl, refl)
own_read true Building o n i = (refl, refl)
own_read true Parcel o n i = (refl, refl)
own_read false Confine o n i = (refl, refl)
own_read false Other o n i = (refl, refl)
own_read false Road o n i = (refl, refl)
own_read false Water o n i = (refl, refl)
own_read false Building o n i = (refl, refl)
own_read false Parcel o n i = (refl, refl)

less-apart : (a b x y : ℤ) → (a +ℤ b) -ℤ (x +ℤ y) ≡ (a -ℤ x) +ℤ (b -ℤ y)
less-apart a b x y =
    eq-parts ((a +ℤ b) -ℤ (x +ℤ y)) ((a -ℤ x) +ℤ (b -ℤ y))
    (omega (arith, sum a b, sum x y, diff (a +ℤ b) (x +ℤ y), diff a x, diff b y, sum (a -ℤ x) (b -ℤ y)))

reads-borders : (kind : ℕ) → Reads kind (λ (f : List ℤ). borders_in f (listed_class kind)) counts
reads-borders kind =
    record {
      none = (none_read (eqb kind 3)).0;
      add = λ a b l. plus-at a b (4 * index_of (listed_class kind)) l;
      own = λ c o n i. (own_read (eqb kind 3) c o n i).0;
    }

reads-net : (kind : ℕ) → Reads kind (λ (f : List ℤ). net_in f (listed_class kind)) nets
reads-net kind =
    record {
      none = (none_read (eqb kind 3)).1;
      add = λ a b l. let c = listed_class kind in
          rw (plus-at a b (4 * index_of c + 1) l, plus-at a b (4 * index_of c + 3) l) (less-apart (outer_in a c) (outer_in b c) (inner_in a c) (inner_in b c));
      own = λ c o n i. (own_read (eqb kind 3) c o n i).1;
    }

net-left : Values net_left nets
unfolding net_left net_area_of
net-left t b o i q = rw (b, q)

-- ---- the laws

nets-sum : (t : Tables) (s : List Stand) → net_sum (code_nets t s) ≡ sum_at net_left t s
unfolding net_sum code_nets sum_at
nets-sum t [] = refl
nets-sum t (d ∷ s) = ap (λ (z : ℤ). net_left (left_at t d) +ℤ z) (nets-sum t s)

ones-sum : (t : Tables) (s : List Stand) → sum_at one_each t s ≡ pos (length (code_nets t s))
unfolding code_nets sum_at
ones-sum t [] = refl
ones-sum t (d ∷ s) = ap (λ (z : ℤ). pos 1 +ℤ z) (ones-sum t s) ∙ ap pos (omega arith)

-- of a sheet whose tally is not refused
module _ (h : Header) (count : ℕ) (t : Tables) (m : Small t) (e : (tally_of h count t).outcome ≡ Ok tt) where
  -- "the figures are those of the sheet's tally": the exact nets that the file lists are together the net of their class
  pub listed-nets : net_sum (codes_in_order h count t) ≡ net_in (tally_of h count t).tally.figures (listed_class h.kind)
  unfolding codes_in_order
  listed-nets = nets-sum t (sup_in_order h count t) ∙ ordered-add h _ nets (reads-net h.kind) net_left net-left count t m e

  -- so PARTIC rounds the sum of what is listed, and in a union sheet TOTALE and CONFINE do
  pub parcels-listed : eqb h.kind 3 ≡ false → net_in (tally_of h count t).tally.figures Parcel ≡ net_sum (codes_in_order h count t)
  parcels-listed k = sym (rw k at listed-nets)

  pub union-listed : eqb h.kind 3 ≡ true → exact_total h.kind (tally_of h count t).tally.figures ≡ net_sum (codes_in_order h count t)
  unfolding exact_total
  union-listed k = rw k (sym (rw k at listed-nets))

  -- and they are as many as it counts
  pub listed-borders : borders_in (tally_of h count t).tally.figures (listed_class h.kind) ≡ pos (length (codes_in_order h count t))
  unfolding codes_in_order
  listed-borders =
      sym (ordered-add h _ counts (reads-borders h.kind) one_each (λ u b o i q. refl) count t m e) ∙ ones-sum t (sup_in_order h count t)
