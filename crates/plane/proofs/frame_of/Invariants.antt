-- `plane::frame_of` meets its contract: the loop keeps the least and the greatest so far. Assumes nothing.
use Rattle.plane.specs.Rings.{x-at, y-at}
use Rattle.plane.specs.Frames.{Least, Greatest}
use Prim.Native.Nat.{◌+◌}
use Rattle.plane.proofs.frame_of.Given as goal

abbrev pub invariant-loop-k : goal.invariant-loop-k
invariant-loop-k l = Least (λ j. x-at l.points (l.from + j)) l.k l.west × Greatest (λ j. x-at l.points (l.from + j)) l.k l.east × Least (λ j. y-at l.points (l.from + j)) l.k l.south × Greatest (λ j. y-at l.points (l.from + j)) l.k l.north
