-- `reader::skim_rows` meets its contract. Assumes nothing.
use Rattle.reader.proofs.Rows.{skimmed-start, skimmed-on, skimmed-less}
use Rattle.reader.proofs.pieces.skim_rows.Goals as goal

pub loop-mode-init : goal.loop-mode-init
loop-mode-init c = skimmed-start _ _ _ c.requires

pub skim_piece-e-requires : goal.skim_piece-e-requires
skim_piece-e-requires c = c.loop-mode.invariant.within

pub returns-then-e-at : goal.returns-then-e-at
returns-then-e-at c = (skimmed-on c.loop-mode.invariant _ c.skim_piece-e.ensures).turns

pub loop-mode-smaller : goal.loop-mode-smaller
loop-mode-smaller c = skimmed-less c.loop-mode.invariant _ c.skim_piece-e.ensures c.if-e-at.false

pub loop-mode-preserved : goal.loop-mode-preserved
loop-mode-preserved c = skimmed-on c.loop-mode.invariant _ c.skim_piece-e.ensures
