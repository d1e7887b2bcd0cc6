-- `made::are_counts`: of the kinds that are no borders only lines have a count. Assumes nothing.
use Rattle.std.proofs.Common.{rules}
use Rattle.made.proofs.FieldWays.{count_ways}
use Rattle.made.proofs.rings.are_counts.Goals as goal

pub returns-in-5 : goal.returns-in-5
returns-in-5 c = search (count_ways, rules)

pub returns-in_default : goal.returns-in_default
returns-in_default c = search (count_ways, rules)
