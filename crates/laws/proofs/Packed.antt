-- A table of lists packed one behind the other, with their starts: its entry at each index, by one computed test. Assumes nothing.
use Prim.Native.Nat.{ℕ, ◌+◌, ◌-◌, ◌≤◌, ◌<◌}
use mathlib.Core.Path.{◌≡◌}
use mathlib.Core.List.{List, []}
use mathlib.Core.Bool.{Bool, true, ◌&&◌}
use lib.ListN.{length, get_or, take, drop}
use lib.Dec.{leb}
use borrow.Author.Tests.{leb-true}
use Rattle.laws.specs.Lists.{same, packed_at, packed}
use Rattle.laws.proofs.Choice.{and_left, and_right}
use Rattle.laws.proofs.ListLaws.{same-is, below_at}

module _ (bytes starts : List ℕ) (lists : List (List ℕ)) (e : packed bytes starts lists ≡ true) (k : ℕ) (h : k < length lists) where
  abbrev start : ℕ
  start = get_or starts k 0

  abbrev end : ℕ
  end = get_or starts (k + 1) 0

  abbrev bounds : Bool
  bounds = leb start end && leb end (length bytes)

  abbrev part : List ℕ
  part = take (end - start) (drop start bytes)

  tests : (bounds && same part (get_or lists k [])) ≡ true
  unfolding packed packed_at
  tests = below_at (length lists) (packed_at bytes starts lists) k e h

  -- it ends at or past its start
  pub packed-from : get_or starts k 0 ≤ get_or starts (k + 1) 0
  packed-from = leb-true start end (and_left (leb start end) (leb end (length bytes)) (and_left bounds (same part (get_or lists k [])) tests))

  -- it ends within the bytes
  pub packed-to : get_or starts (k + 1) 0 ≤ length bytes
  packed-to = leb-true end (length bytes) (and_right (leb start end) (leb end (length bytes)) (and_left bounds (same part (get_or lists k [])) tests))

  -- what stands there is the list
  pub packed-is : take (get_or starts (k + 1) 0 - get_or starts k 0) (drop (get_or starts k 0) bytes) ≡ get_or lists k []
  packed-is = same-is part (get_or lists k []) (and_right bounds (same part (get_or lists k [])) tests)
