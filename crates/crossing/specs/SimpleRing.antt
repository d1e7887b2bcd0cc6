-- What document 01 calls a simple ring ("Ring check"), in its words: by shared points over exact fractions, not by the tests. Assumes nothing: these are definitions.
use Rattle.std.specs.Prelude.{List, ◌≡◌, ℕ, ◌+◌, ◌<◌, ℤ}
use Rattle.crossing.specs.Edges.{point_at}
use Rattle.crossing.specs.Shared.{Shared, OnlyAt, SharedElsewhere}

-- "no edge has equal ends, neighbouring edges share only their common vertex, and other edges share no point"; "first and last edge are neighbours": in a closed ring the one ends where the other starts
pub record SimpleRing (ps : List ℤ) (from edges : ℕ) : Type 0 where
  pub ends-differ : (k : ℕ) → k < edges → point_at ps (from + k) ≡ point_at ps (from + (k + 1)) → ⊥
  pub next-only : (k : ℕ) → k + 1 < edges → OnlyAt (point_at ps (from + k)) (point_at ps (from + (k + 1))) (point_at ps (from + (k + 1 + 1)))
  pub closing-only : (l : ℕ) → 1 < l → l + 1 ≡ edges → OnlyAt (point_at ps (from + l)) (point_at ps (from + (l + 1))) (point_at ps (from + (0 + 1)))
  pub others_apart : (k l : ℕ) → k + 1 < l → l < edges → (k ≡ 0 → l + 1 ≡ edges → ⊥) → Shared (point_at ps (from + k)) (point_at ps (from + (k + 1))) (point_at ps (from + l)) (point_at ps (from + (l + 1))) → ⊥

-- edges i and j, j not before i, break one of these words
pub data Broken (ps : List ℤ) (from edges i j : ℕ) : Type 0 where
  ends-equal : i ≡ j → point_at ps (from + i) ≡ point_at ps (from + (i + 1)) → Broken ps from edges i j
  next_more : i + 1 ≡ j → SharedElsewhere (point_at ps (from + i)) (point_at ps (from + (i + 1))) (point_at ps (from + (j + 1))) → Broken ps from edges i j
  closing-more : i ≡ 0 → 1 < j → j + 1 ≡ edges → SharedElsewhere (point_at ps (from + j)) (point_at ps (from + (j + 1))) (point_at ps (from + (i + 1))) → Broken ps from edges i j
  others-share : i + 1 < j → (i ≡ 0 → j + 1 ≡ edges → ⊥) → Shared (point_at ps (from + i)) (point_at ps (from + (i + 1))) (point_at ps (from + j)) (point_at ps (from + (j + 1))) → Broken ps from edges i j
