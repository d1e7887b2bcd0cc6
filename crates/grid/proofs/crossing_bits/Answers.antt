-- `grid::crossing_bits` meets its contract: the columns counted are the cells_set that the rule gives. Assumes nothing.
use Rattle.grid.proofs.CentreWays.{crossing-step-asks, crossing-south, crossing-north, crossing-moment-asks, crossing-before-asks, crossing-returns}
use Rattle.grid.proofs.crossing_bits.Goals as goal

pub step_of-step-requires : goal.step_of-step-requires
step_of-step-requires c = let p = c.requires in let f = c.ranges in crossing-step-asks _ _ _ _ _ f.nx f.nv f.sx f.sv f.w p.0 p.1 p.2 p.3 p.4 p.5 p.6 _ p.8

pub overflow_sub-sv : goal.overflow_sub-sv
overflow_sub-sv c = let p = c.requires in let f = c.ranges in crossing-south _ _ _ _ _ f.nx f.nv f.sx f.sv f.w p.0 p.1 p.2 p.3 p.4 p.5 p.6

pub overflow_sub-w : goal.overflow_sub-w
overflow_sub-w c = let p = c.requires in let f = c.ranges in crossing-north _ _ _ _ _ f.nx f.nv f.sx f.sv f.w p.0 p.1 p.2 p.3 p.4 p.5 p.6

pub moment-m-requires : goal.moment-m-requires
moment-m-requires c = let p = c.requires in let f = c.ranges in crossing-moment-asks _ _ _ _ _ f.nx f.nv f.sx f.sv f.w p.0 p.1 p.2 p.3 p.4 p.5 p.6

pub centres_before-requires : goal.centres_before-requires
centres_before-requires c = let p = c.requires in let f = c.ranges in crossing-before-asks _ _ _ _ _ f.nx f.nv f.sx f.sv f.w p.0 p.1 p.2 p.3 p.4 p.5 p.6 _ _ _ c.step_of-step.ensures c.moment-m.ensures c.moment-m.type_inv p.7 p.8

pub returns : goal.returns
returns c = let p = c.requires in let f = c.ranges in crossing-returns _ _ _ _ _ f.nx f.nv f.sx f.sv f.w p.0 p.1 p.2 p.3 p.4 p.5 p.6 _ _ _ c.step_of-step.ensures c.moment-m.ensures c.moment-m.type_inv _ _ c.centres_before.ensures c.west_bits.ensures
