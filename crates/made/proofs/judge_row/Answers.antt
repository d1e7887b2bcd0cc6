-- `made::judge_row`: a row that is made is wholly held. Assumes nothing.
use Rattle.std.proofs.Common.{sym, ◌∙◌}
use Rattle.made.specs.Made.{tables}
use Rattle.made.proofs.RowWays.{made_held}
use Rattle.made.proofs.judge_row.Goals as goal

pub are_starts-requires : goal.are_starts-requires
are_starts-requires c = (made_held (tables c.args.part.now) (sym c.is_made.ensures ∙ c.if-not-is_made.false)).row
