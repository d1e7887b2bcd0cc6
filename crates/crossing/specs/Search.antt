-- The first faulty pair of a ring's edges (document 01, "Ring check"): "lowest first edge, then lowest second, edges from 0".
use Rattle.std.specs.Prelude.{◌⊎◌, Bool, true, false, cond, ◌&&◌, List, [], ◌∷◌, ◌≡◌, ℕ, zero, suc, ◌+◌, ◌-◌, ◌≤◌, ◌<◌, ltb, eqb, length, ℤ, Option, Some, None, Result, Ok, Err}
use Rattle.record.specs.Refusals.{too_wide, no_such}
use Rattle.plane.specs.declared.NoArea.{NoArea}
use Rattle.plane.specs.declared.NoArea.TheVariants.{Wide, Missing}
use Rattle.plane.specs.Rings.{held, narrow}
use Rattle.crossing.specs.declared.FaultyPair.{FaultyPair}
use Rattle.crossing.specs.Edges.{point_at, equal-ends, neighbours-overlap, edges-meet}

-- edges i and j, j not before i, of a ring of so many edges: an edge of no length is the pair of itself; first and last edge are neighbours
unfoldable pub faulty-pair : List ℤ → ℕ → ℕ → ℕ → ℕ → Bool
faulty-pair ps from edges i j =
    cond (eqb i j) (equal-ends (point_at ps (from + i)) (point_at ps (from + (i + 1))))
    (cond (eqb (i + 1) j) (neighbours-overlap (point_at ps (from + i)) (point_at ps (from + (i + 1))) (point_at ps (from + (j + 1))))
    (cond (eqb i 0 && eqb (j + 1) edges) (neighbours-overlap (point_at ps (from + j)) (point_at ps (from + (j + 1))) (point_at ps (from + (i + 1))))
    (edges-meet (point_at ps (from + i)) (point_at ps (from + (i + 1))) (point_at ps (from + j)) (point_at ps (from + (j + 1))))))

-- the least of the f numbers from a on that p holds of; a + f where there is none
unfoldable pub least : (ℕ → Bool) → ℕ → ℕ → ℕ
least p a zero = a
least p a (suc f) = cond (p a) a (least p (suc a) f)

-- the lowest edge that makes a faulty pair with edge i, and is not before it; `edges` where there is none
unfoldable pub second-edge : List ℤ → ℕ → ℕ → ℕ → ℕ
second-edge ps from edges i = least (faulty-pair ps from edges i) i (edges - i)

-- the lowest edge that has one
unfoldable pub first_edge : List ℤ → ℕ → ℕ → ℕ
first_edge ps from edges = least (λ i. ltb (second-edge ps from edges i) edges) 0 edges

-- what the search finds
pub record FirstFault (ps : List ℤ) (from edges i j : ℕ) : Type 0 where
  pub lowest : i ≡ first_edge ps from edges
  pub then : i < edges → j ≡ second-edge ps from edges i

-- the verdict on a ring that may be searched: the pair of edges i and j is the first faulty one, or there is none
abbrev pub fault_at : ℕ → ℕ → Option FaultyPair
fault_at i j = Some (record { first = i; second = j })

-- on a ring of so many edges
unfoldable pub searched : List ℤ → ℕ → ℕ → Option FaultyPair
searched ps from edges =
    cond (ltb (first_edge ps from edges) edges)
    (fault_at (first_edge ps from edges) (second-edge ps from edges (first_edge ps from edges)))
    None

-- the answer: a ring of n vertices has n - 1 edges
unfoldable pub verdict_of : List ℤ → ℕ → ℕ → Result (Option FaultyPair) NoArea
verdict_of ps from n = cond (held (length ps) from n) (cond (narrow ps from n) (Ok (searched ps from (n - 1))) (Err Wide)) (Err Missing)

-- an answer in the paper's terms: the refusal's number, or 0 and the first faulty pair, if there is one
abbrev pub verdict-told : Result (Option FaultyPair) NoArea → ℕ × List ℕ
verdict-told (Ok None) = (0, [])
verdict-told (Ok (Some p)) = (0, p.first ∷ p.second ∷ [])
verdict-told (Err Wide) = (too_wide, [])
verdict-told (Err Missing) = (no_such, [])

-- what the first faulty pair is: a faulty one, and every pair before it in the order is good
pub record FirstPair (ps : List ℤ) (from edges i j : ℕ) : Type 0 where
  pub ordered : i ≤ j
  pub inside : j < edges
  pub faulty : faulty-pair ps from edges i j ≡ true
  pub before : (k l : ℕ) → k ≤ l → l < edges → (k < i) ⊎ ((k ≡ i) × (l < j)) → faulty-pair ps from edges k l ≡ false
