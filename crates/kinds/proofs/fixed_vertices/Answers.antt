-- `kinds::fixed_vertices` meets its contract: the table is the definition's. Assumes nothing.
use Rattle.kinds.specs.Kinds.{fixed, fixed_vertices}
use Rattle.kinds.proofs.KindLaws.{fixed-none}
use Rattle.kinds.proofs.fixed_vertices.Goals as goal

pub returns-then-kind-gt-KINDS : goal.returns-then-kind-gt-KINDS
returns-then-kind-gt-KINDS c = fixed-none _ c.if-kind-gt-KINDS.true

pub returns : goal.returns
unfolding fixed_vertices fixed
returns c = c.from.ensures
