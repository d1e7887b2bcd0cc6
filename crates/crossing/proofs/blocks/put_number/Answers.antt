-- `crossing::blocks::put_number` meets its contract: one number is stored. Assumes nothing.
use Rattle.crossing.proofs.blocks.put_number.Goals as goal

pub bounds-boxes-at : goal.bounds-boxes-at
bounds-boxes-at c = c.requires
