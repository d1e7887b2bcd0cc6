-- A border added to a tally: its four figures are added in their places, and that is its own figures added. Assumes nothing.
use mathlib.Core.Path.{◌≡◌, refl, sym, ap, ap₂, ◌∙◌}
use mathlib.Core.List.{List, [], ◌∷◌, ◌++◌}
use mathlib.Core.Bool.{Bool, true, false, cond, not, ◌&&◌}
use Prim.Native.Nat.{ℕ, zero, suc, ◌+◌, ◌-◌, ◌*◌, ◌^◌, ◌≤◌, ◌<◌}
use native.Mathlib.Omega.{arith}
use lib.Dec.{lit≤}
use lib.ListN.{length, get_or, set, replicate, length-append, length-replicate}
use lib.IntN.{ℤ, pos, ◌+ℤ◌, +ℤ_idr}
use lib.Signed.{mag, le_z}
use mir.Syntax.{w64}
use mir.Val.{SFits, to_z, of_z}
use mir.Facts.{to_z-of_z, to_z_pos}
use borrow.Author.Tests.{not-true, not-false, lt-leb}
use Rattle.laws.proofs.Bits.{back}
use Rattle.laws.proofs.Chains.{and-off-second}
use Rattle.laws.proofs.Choice.{and_left, and_right, and-false, cond-elim}
use Rattle.border.specs.declared.Border.{Border}
use Rattle.classes.specs.declared.Class.{Class}
use Rattle.classes.specs.declared.Class.TheVariants.{Confine, Other, Road, Water, Building, Parcel}
use Rattle.classes.specs.Classes.{index_of}
use Rattle.tally.specs.Tally.{Added, limit, is_figure, is_tally, plus, figures_of, refused_at, with_figures, add_of, is_fit, are_fit, Good, tally_on}
use Rattle.tally.proofs.TallyLaws.{plus_none, plus-length}
use Rattle.tally.proofs.TallyWays.{tally-at, figure-fits}

-- four figures behind m, and nothing else
abbrev own : ℕ → ℕ → ℤ → ℤ → ℤ → ℤ → List ℤ
own m r a b c d = replicate m (pos 0) ++ a ∷ b ∷ c ∷ d ∷ replicate r (pos 0)

and-true : (a : Bool) → (a && true) ≡ a
and-true true = refl
and-true false = refl

-- both tests of two pairs
pairs : (a b c d : Bool) → ((a && b) && (c && d)) ≡ ((a && c) && (b && d))
pairs true true c d = refl
pairs true false true d = refl
pairs true false false d = refl
pairs false b c d = refl

eight : (p q r s p' q' r' s' : Bool) → ((p && (q && (r && s))) && (p' && (q' && (r' && s')))) ≡ ((p && p') && ((q && q') && ((r && r') && (s && s'))))
eight p q r s p' q' r' s' =
    pairs p (q && (r && s)) p' (q' && (r' && s'))
    ∙ ap (λ (x : Bool). (p && p') && x) (pairs q (r && s) q' (r' && s') ∙ ap (λ (x : Bool). (q && q') && x) (pairs r s r' s'))

none-tally : (r : ℕ) → is_tally (replicate r (pos 0)) ≡ true
unfolding is_tally is_figure
none-tally zero = refl
none-tally (suc r) = none-tally r

-- they are added in their places
module _ (a b c d : ℤ) where
  abbrev four : ℕ → List ℤ → List ℤ
  four m s =
      set
      (set
      (set (set s m (get_or s m (pos 0) +ℤ a)) (suc m) (get_or s (suc m) (pos 0) +ℤ b))
      (suc (suc m)) (get_or s (suc (suc m)) (pos 0) +ℤ c))
      (suc (suc (suc m))) (get_or s (suc (suc (suc m))) (pos 0) +ℤ d)

  plus-own : (m r : ℕ) (s : List ℤ) → length s ≡ m + (4 + r) → plus s (own m r a b c d) ≡ four m s
  unfolding plus
  plus-own zero r (x ∷ y ∷ z ∷ w ∷ s) h = ap (λ (u : List ℤ). (x +ℤ a) ∷ (y +ℤ b) ∷ (z +ℤ c) ∷ (w +ℤ d) ∷ u) (plus_none s r (omega arith))
  plus-own zero r [] h = absurd (omega arith)
  plus-own zero r (x ∷ []) h = absurd (omega arith)
  plus-own zero r (x ∷ y ∷ []) h = absurd (omega arith)
  plus-own zero r (x ∷ y ∷ z ∷ []) h = absurd (omega arith)
  plus-own (suc m) r [] h = absurd (omega arith)
  plus-own (suc m) r (x ∷ s) h = ap₂ (λ (y : ℤ) (u : List ℤ). y ∷ u) (+ℤ_idr x) (plus-own m r s (omega arith))

  -- the border's own figures are figures
  abbrev Owns : Bool
  Owns = is_figure a && (is_figure b && (is_figure c && is_figure d))

  own-tally : (m r : ℕ) → is_tally (own m r a b c d) ≡ Owns
  unfolding is_tally is_figure
  own-tally zero r = rw (none-tally r, and-true (is_figure d))
  own-tally (suc m) r = own-tally m r

  -- and so are the sums
  abbrev Keeps : ℕ → List ℤ → Bool
  Keeps m s =
      is_figure (get_or s m (pos 0) +ℤ a)
      && (is_figure (get_or s (suc m) (pos 0) +ℤ b)
      && (is_figure (get_or s (suc (suc m)) (pos 0) +ℤ c) && is_figure (get_or s (suc (suc (suc m))) (pos 0) +ℤ d)))

  four-tally : (m r : ℕ) (s : List ℤ) → length s ≡ m + (4 + r) → is_tally s ≡ true → is_tally (four m s) ≡ Keeps m s
  unfolding is_tally
  four-tally zero r (x ∷ y ∷ z ∷ w ∷ s) h e =
      rw (and_right (is_figure w) (is_tally s) (and_right (is_figure z) (is_figure w && is_tally s) (and_right (is_figure y) (is_figure z && (is_figure w && is_tally s)) (and_right (is_figure x) (is_figure y && (is_figure z && (is_figure w && is_tally s))) e))), and-true (is_figure (w +ℤ d)))
  four-tally zero r [] h e = absurd (omega arith)
  four-tally zero r (x ∷ []) h e = absurd (omega arith)
  four-tally zero r (x ∷ y ∷ []) h e = absurd (omega arith)
  four-tally zero r (x ∷ y ∷ z ∷ []) h e = absurd (omega arith)
  four-tally (suc m) r [] h e = absurd (omega arith)
  four-tally (suc m) r (x ∷ s) h e = rw (and_left (is_figure x) (is_tally s) e) (four-tally m r s (omega arith) (and_right (is_figure x) (is_tally s) e))

  -- figure by figure
  abbrev Fits : ℕ → List ℤ → Bool
  Fits m s =
      is_fit (get_or s m (pos 0)) a
      && (is_fit (get_or s (suc m) (pos 0)) b
      && (is_fit (get_or s (suc (suc m)) (pos 0)) c && is_fit (get_or s (suc (suc (suc m))) (pos 0)) d))

  fits-are : (m : ℕ) (s : List ℤ) → (Owns && Keeps m s) ≡ Fits m s
  unfolding is_fit
  fits-are m s =
      eight (is_figure a) (is_figure b) (is_figure c) (is_figure d) (is_figure (get_or s m (pos 0) +ℤ a)) (is_figure (get_or s (suc m) (pos 0) +ℤ b))
      (is_figure (get_or s (suc (suc m)) (pos 0) +ℤ c)) (is_figure (get_or s (suc (suc (suc m))) (pos 0) +ℤ d))

-- ---- the border

abbrev fitting : List ℤ → Added
fitting s = record { fits = true; tally = record { figures = s } }

index_below : (c : Class) → index_of c ≤ 5
index_below Confine = lit≤ tt
index_below Other = lit≤ tt
index_below Road = lit≤ tt
index_below Water = lit≤ tt
index_below Building = lit≤ tt
index_below Parcel = lit≤ tt

pub index-most : (c : Class) {k : ℕ} → k ≡ index_of c → k ≤ 5
index-most c e = omega (arith, index_below c)

-- added in one, the same is judged
with-is : (a b c d : ℤ) (m r : ℕ) (s : List ℤ) → length s ≡ m + (4 + r) → is_tally s ≡ true
    → with_figures (tally_on s) (own m r a b c d) ≡ cond (Fits a b c d m s) (fitting (four a b c d m s)) (refused_at (tally_on s))
unfolding with_figures
with-is a b c d m r s l h = rw (h, own-tally a b c d m r, plus-own a b c d m r s l, four-tally a b c d m r s l h, fits-are a b c d m s)

pub own-count : (c : Class) (o : ℤ) (n : ℕ) (i : ℤ) → length (figures_of (index_of c) o (pos n) i) ≡ 24
unfolding figures_of
own-count c o n i =
    let k = index_of c in
    let l = index_below c in
    rw (
      length-append (replicate (4 * k) (pos 0)) (pos 1 ∷ o ∷ pos n ∷ i ∷ replicate (4 * (5 - k)) (pos 0)),
      length-replicate (4 * k) (pos 0),
      length-replicate (4 * (5 - k)) (pos 0),
    ) (omega arith)

-- a tally stays one
pub added-good : (s : List ℤ) → Good s → (b : Border) (o i : ℤ) → Good (add_of (tally_on s) b o i).tally.figures
unfolding add_of with_figures
added-good s g b o i =
    let own = figures_of (index_of b.class) o (pos b.islands) i in
    cond-elim (λ (x : Added). Good x.tally.figures) (is_tally s && (is_tally own && is_tally (plus s own))) (fitting (plus s own)) (refused_at (tally_on s))
    (λ t. record {
      each = and_right (is_tally own) (is_tally (plus s own)) (and_right (is_tally s) (is_tally own && is_tally (plus s own)) t);
      count = plus-length s own (g.count ∙ sym (own-count b.class o b.islands i)) ∙ g.count;
    })
    (λ t. g)

-- ---- four figures and a border's, as the code has them

-- a signed number in a local
abbrev bits : ℤ → ℤ
bits z = to_z w64 (of_z w64 z)

all-four : (p q r s : Bool) → (p && (q && (r && s))) ≡ true → (p ≡ true) × (q ≡ true) × (r ≡ true) × (s ≡ true)
all-four p q r s e =
    let f = and_right p (q && (r && s)) e in
    let g = and_right q (r && s) f in
    (and_left p (q && (r && s)) e, and_left q (r && s) f, and_left r s g, and_right r s g)

module _ (y z : ℤ) (e : is_fit y z ≡ true) where
  more-fits : SFits w64 z
  unfolding is_fit
  more-fits = figure-fits z (and_left (is_figure z) (is_figure (y +ℤ z)) e)

  sum_fits : SFits w64 (y +ℤ z)
  unfolding is_fit
  sum_fits = figure-fits (y +ℤ z) (and_right (is_figure z) (is_figure (y +ℤ z)) e)

module _ (a b c d outer : ℤ) (n : ℕ) (inner : ℤ) where
  -- a count that no signed number holds
  pub fit-huge : (SFits w64 (pos n) → ⊥) → false ≡ are_fit a b c d outer n inner
  unfolding are_fit
  fit-huge f = go (is_fit c (pos n)) refl
    where
      go : (t : Bool) → is_fit c (pos n) ≡ t → false ≡ (is_fit a (pos 1) && (is_fit b outer && (t && is_fit d inner)))
      go true e = absurd (f (more-fits c (pos n) e))
      go false e = rw (and-false (is_fit b outer), and-false (is_fit a (pos 1)))

module _ (s : List ℤ) (k : ℕ) (border : Border) (e : k ≡ index_of border.class) (g : Good s) (outer inner : ℤ) where
  abbrev n : ℕ
  n = border.islands

  abbrev figure : ℕ → ℤ
  figure i = get_or s i (pos 0)

  abbrev fit : Bool
  fit = are_fit (figure (4 * k)) (figure (4 * k + 1)) (figure (4 * k + 2)) (figure (4 * k + 3)) outer n inner

  abbrev sums : List ℤ
  sums =
      set
      (set (set (set s (4 * k) (figure (4 * k) +ℤ pos 1)) (4 * k + 1) (figure (4 * k + 1) +ℤ outer)) (4 * k + 2) (figure (4 * k + 2) +ℤ pos n))
      (4 * k + 3) (figure (4 * k + 3) +ℤ inner)

  added_is : add_of (tally_on s) border outer inner ≡ cond fit (fitting sums) (refused_at (tally_on s))
  unfolding add_of figures_of are_fit
  added_is =
      let e1 : 4 * k + 1 ≡ suc (4 * k) = omega arith in
      let e2 : 4 * k + 2 ≡ suc (suc (4 * k)) = omega arith in
      let e3 : 4 * k + 3 ≡ suc (suc (suc (4 * k))) = omega arith in
      rw (e1, e2, e3, ← e) (with-is (pos 1) outer (pos n) inner (4 * k) (4 * (5 - k)) s (omega (arith, index-most border.class e, g.count)) g.each)

  -- each is read into a local
  module _ (m0 : mag (figure (4 * k)) < 2 ^ 63) (m1 : mag (figure (4 * k + 1)) < 2 ^ 63) (m2 : mag (figure (4 * k + 2)) < 2 ^ 63) (m3 : mag (figure (4 * k + 3)) < 2 ^ 63) where
    pub grow-figures : (is_figure (bits (figure (4 * k))) ≡ true) × (is_figure (bits (figure (4 * k + 1))) ≡ true) × (is_figure (bits (figure (4 * k + 2))) ≡ true) × (is_figure (bits (figure (4 * k + 3))) ≡ true)
    grow-figures =
        rw (back (figure (4 * k)) m0, back (figure (4 * k + 1)) m1, back (figure (4 * k + 2)) m2, back (figure (4 * k + 3)) m3)
        (tally-at s (4 * k) g.each, tally-at s (4 * k + 1) g.each, tally-at s (4 * k + 2) g.each, tally-at s (4 * k + 3) g.each)

    module _ (fo : SFits w64 outer) (fi : SFits w64 inner) {r : Bool}
        (q : r ≡ are_fit (bits (figure (4 * k))) (bits (figure (4 * k + 1))) (bits (figure (4 * k + 2))) (bits (figure (4 * k + 3))) (bits outer) n (bits inner)) where
      judged : r ≡ fit
      judged = rw (back (figure (4 * k)) m0, back (figure (4 * k + 1)) m1, back (figure (4 * k + 2)) m2, back (figure (4 * k + 3)) m3, to_z-of_z fo, to_z-of_z fi) at q

      pub grow-not : not r ≡ true → (false ≡ (add_of (tally_on s) border outer inner).fits) × (s ≡ (add_of (tally_on s) border outer inner).tally.figures)
      grow-not t = rw (added_is, sym judged ∙ not-true r t) (refl, refl)

      module _ (t : not r ≡ false) where
        fits : fit ≡ true
        fits = sym judged ∙ not-false r t

        each : (is_fit (figure (4 * k)) (pos 1) ≡ true) × (is_fit (figure (4 * k + 1)) outer ≡ true) × (is_fit (figure (4 * k + 2)) (pos n) ≡ true) × (is_fit (figure (4 * k + 3)) inner ≡ true)
        unfolding are_fit
        each = all-four (is_fit (figure (4 * k)) (pos 1)) (is_fit (figure (4 * k + 1)) outer) (is_fit (figure (4 * k + 2)) (pos n)) (is_fit (figure (4 * k + 3)) inner) fits

        pub grow_first : SFits w64 (bits (figure (4 * k)) +ℤ pos 1)
        grow_first = rw (back (figure (4 * k)) m0) (sum_fits (figure (4 * k)) (pos 1) each.0)

        pub grow-second : SFits w64 (bits (figure (4 * k + 1)) +ℤ bits outer)
        grow-second = rw (back (figure (4 * k + 1)) m1, to_z-of_z fo) (sum_fits (figure (4 * k + 1)) outer each.1)

        pub grow-count : SFits w64 (pos n)
        grow-count = more-fits (figure (4 * k + 2)) (pos n) each.2

        count : to_z w64 n ≡ pos n
        count = to_z_pos w64 {n = n} grow-count.sfits

        pub grow-third : SFits w64 (bits (figure (4 * k + 2)) +ℤ to_z w64 n)
        grow-third = rw (back (figure (4 * k + 2)) m2, count) (sum_fits (figure (4 * k + 2)) (pos n) each.2)

        pub grow-fourth : SFits w64 (bits (figure (4 * k + 3)) +ℤ bits inner)
        grow-fourth = rw (back (figure (4 * k + 3)) m3, to_z-of_z fi) (sum_fits (figure (4 * k + 3)) inner each.3)

        pub grow-is : (true ≡ (add_of (tally_on s) border outer inner).fits)
            × (set
            (set
            (set (set s (4 * k) (bits (bits (figure (4 * k)) +ℤ pos 1))) (4 * k + 1) (bits (bits (figure (4 * k + 1)) +ℤ bits outer)))
            (4 * k + 2) (bits (bits (figure (4 * k + 2)) +ℤ to_z w64 n)))
            (4 * k + 3) (bits (bits (figure (4 * k + 3)) +ℤ bits inner))
            ≡ (add_of (tally_on s) border outer inner).tally.figures)
        grow-is =
            rw (
              to_z-of_z grow_first,
              to_z-of_z grow-second,
              to_z-of_z grow-third,
              to_z-of_z grow-fourth,
              back (figure (4 * k)) m0,
              back (figure (4 * k + 1)) m1,
              back (figure (4 * k + 2)) m2,
              back (figure (4 * k + 3)) m3,
              to_z-of_z fo,
              to_z-of_z fi,
              count,
              added_is,
              fits,
            ) (refl, refl)
