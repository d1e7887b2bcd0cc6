-- What the contract of `cxf_interface`, as its source writes it, permits: the number that `include/cxf.h` has. Assumes nothing.
use mathlib.Core.Path.{◌≡◌}
use contract.Lifetimes.{Lfts}
use borrow.Fn.World.{ArgsD, ResD}
use denote.Triple.Clauses.{AtExit}
use Rattle.cabi.specs.contracts.cxf_interface as cxf-interface
use Rattle.cabi.proofs.cxf_interface.Reads as cxf-interface-reads

module _ (κs : Lfts 0) (a : ArgsD cxf-interface.signature κs) (r : ResD cxf-interface.signature κs) (e : AtExit cxf-interface.ended κs) (post : cxf-interface-reads.Learnt κs a r e) where
  pub cxf-interface-answers : r ≡ 4
  cxf-interface-answers = post
