-- The ways through the loop, and through the columns above it. Assumes nothing.
use Prim.Native.Nat.{ℕ, suc, ◌+◌, ◌*◌, ◌^◌, ◌≤◌, ◌<◌}
use mathlib.Core.Path.{◌≡◌, sym, ◌∙◌, ap}
use mathlib.Core.List.{List, [], ◌∷◌}
use mathlib.Core.Bool.{Bool, true, false, cond}
use native.Mathlib.Omega.{arith}
use lib.ListN.{length, get_or, take, drop}
use mir.Syntax.{w64}
use mir.Val.{Fits}
use borrow.Author.Tests.{ne_eqb}
use Rattle.laws.specs.Lists.{tail}
use Rattle.laws.proofs.ListLaws.{left, left-none, rest-is}
use Rattle.std.specs.Prelude.{Result, Ok}
use Rattle.record.specs.declared.Mode.{Mode}
use Rattle.record.specs.declared.refusal.Refusal.{Refusal}
use Rattle.record.specs.declared.Line.{Line}
use Rattle.record.specs.Record.{line_of}
use Rattle.record.proofs.RecordLaws.{line-none, line_view}
use Rattle.token.specs.declared.Want.{Want}
use Rattle.column.specs.Spots.{spot_in, is_stuck, stretch}
use Rattle.column.specs.Columns.{record_column, refusal_column}
use Rattle.column.specs.declared.Spot.{Spot}

-- ---- the loop

stretch-le : (mode : Mode) (at : Spot) (s : List ℕ) → stretch mode at s ≤ length s
unfolding stretch
stretch-le mode at [] = omega arith
stretch-le mode at (b ∷ s) = go (is_stuck (spot_in mode at b)) (stretch-le mode (spot_in mode at b) s)
  where
    go : (x : Bool) → stretch mode (spot_in mode at b) s ≤ length s → cond x 0 (suc (stretch mode (spot_in mode at b) s)) ≤ suc (length s)
    go true h = omega arith
    go false h = omega arith

module _ (mode : Mode) (start at : Spot) (s : List ℕ) (i : ℕ) (q : stretch mode start s ≡ i + stretch mode at (drop i s)) where
  pub stretch-end : length s ≤ i → length s ≡ stretch mode start s
  unfolding stretch
  stretch-end h = omega (arith, q, stretch-le mode start s, ap (stretch mode at) (left-none s i h))

  module _ (h : i < length s) (to : Spot) (e : to ≡ spot_in mode at (get_or s i 0)) (r : Bool) (f : r ≡ is_stuck to) where
    here : stretch mode at (drop i s) ≡ cond r 0 (suc (stretch mode to (drop (i + 1) s)))
    unfolding stretch
    here = rw (left s i 0 h, f, e)

    pub stretch-stop : r ≡ true → i ≡ stretch mode start s
    stretch-stop g = omega (arith, q, rw g at here)

    pub stretch-on : r ≡ false → stretch mode start s ≡ i + 1 + stretch mode to (drop (i + 1) s)
    stretch-on g = omega (arith, q, rw g at here)

pub ruleset stretch_ways = (stretch-end, stretch-stop, stretch-on)

-- ---- a column

pub stretch_fits : (mode : Mode) (at : Spot) (s : List ℕ) (r : ℕ) → r ≡ stretch mode at s → length s * 1 < 2 ^ 63 → Fits w64 (r + 1)
stretch_fits mode at s r e h = record { fits = omega (arith, stretch-le mode at s) }

-- ---- a refusal

pub line_counted : (mode : Mode) (bs : List ℕ) (l : Result Line Refusal) (x : Line) → l ≡ line_of mode false bs → l ≡ Ok x → x.len ≡ length (take x.len bs)
line_counted mode bs l x q e = sym (line_view mode false bs x.len x.width (sym q ∙ e)).counted

module _ (mode : Mode) (want : Want) (m : ℕ) (s : List ℕ) (at : ℕ) where
  pub column-other : (m ≡ 8 → ⊥) → 0 ≡ refusal_column mode want m (drop at s)
  unfolding refusal_column
  column-other n = rw (ne_eqb m 8 n)

  pub column-outside : m ≡ 8 → length s < at → 0 ≡ refusal_column mode want m (drop at s)
  unfolding refusal_column record_column
  column-outside e h = rw (e, left-none s at (omega arith), line-none mode false)

  pub column-inside : (r : ℕ) → m ≡ 8 → r ≡ record_column mode want (tail s at) → r ≡ refusal_column mode want m (drop at s)
  unfolding refusal_column
  column-inside r e q = rw (e, ← rest-is s at) q

pub ruleset refusal_ways = (column-other, column-outside, column-inside)
