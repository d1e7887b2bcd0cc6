-- The order of a sheet's rows is total. Assumes nothing.
use mathlib.Core.Path.{◌≡◌, refl}
use mathlib.Core.Bool.{true, false}
use Rattle.sheet.specs.Tables.{Tables}
use Rattle.made.specs.Made.{letters_of}
use Rattle.row.specs.declared.Stand.{Stand}
use Rattle.row.specs.Walk.{left_at}
use Rattle.std.specs.declared.cmp.Ordering.{Ordering}
use Rattle.std.specs.declared.cmp.Ordering.TheVariants.{Less, Equal, Greater}
use Rattle.order.specs.Compare.{or_else, is_before, by_number}
use Rattle.order.specs.SupOrder.{net_left, by_code_and_net, paper_before, comes_at, goes_before}
use Rattle.order.proofs.CompareLaws.{Total, number-total, whole-total, bytes-total, by_key, by_both, not_through, not-both}

pub code-and-net-total : (t : Tables) → Total (by_code_and_net t)
unfolding by_code_and_net
code-and-net-total t =
    by_both (by_key (λ (d : Stand). letters_of (left_at t d)) bytes-total) (by_key (λ (d : Stand). net_left (left_at t d)) whole-total)

pub comes-total : (t : Tables) → Total (comes_at t)
unfolding comes_at
comes-total t = by_both (code-and-net-total t) (by_key (λ (d : Stand). d.row) number-total)

pub before-through : (t : Tables) (a b c : Stand) → goes_before t b a ≡ false → goes_before t c b ≡ false → goes_before t c a ≡ false
unfolding goes_before
before-through t = not_through (comes_at t) (comes-total t)

pub before-turn : (t : Tables) (a b : Stand) → goes_before t a b ≡ true → goes_before t b a ≡ false
unfolding goes_before
before-turn t = not-both (comes_at t) (comes-total t)

-- what comes before by code and net comes before
pub before-code : (t : Tables) (a b : Stand) → goes_before t a b ≡ false → paper_before t a b ≡ false
unfolding goes_before comes_at
before-code t a b = go (by_code_and_net t a b)
  where
    go : (x : Ordering) → is_before (or_else x (by_number a.row b.row)) ≡ false → is_before x ≡ false
    go Less e = e
    go Equal e = refl
    go Greater e = refl
