-- `sup_check` meets its contract: the tally's own refusals, then what follows. Assumes nothing.
use mathlib.Core.Path.{◌∙◌}
use Rattle.std.proofs.lemmas.Result.{err_from_is_err_and}
use Rattle.made.specs.Made.{tables}
use Rattle.supcheck.proofs.CheckedWays.{tally-refused, tally-asks, tally-checked}
use Rattle.supcheck.proofs.sup_check.Goals as goal

pub total_checked-requires : goal.total_checked-requires
total_checked-requires c = tally-asks c.args.sheet.now.header c.args.sheet.now.count (tables c.args.sheet.now.lent) c.args.s.now _ c.sheet_exact-exact.ensures c.in_ok-exact.was

pub returns : goal.returns
returns c = c.total_checked.ensures ∙ tally-checked c.args.sheet.now.header c.args.sheet.now.count (tables c.args.sheet.now.lent) c.args.s.now _ c.sheet_exact-exact.ensures c.in_ok-exact.was

pub returns-in_err-exact : goal.returns-in_err-exact
returns-in_err-exact c =
    let p = err_from_is_err_and c.from_residual.result c.from_residual.ensures.1 in
    rw (p.1, p.2) (tally-refused c.args.sheet.now.header c.args.sheet.now.count (tables c.args.sheet.now.lent) c.args.s.now _ c.sheet_exact-exact.ensures _ c.in_err-exact.was)
