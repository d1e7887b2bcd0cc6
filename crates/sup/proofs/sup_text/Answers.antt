-- `sup_text` meets its contract: the tally's own refusals, then what follows. Assumes nothing.
use mathlib.Core.Path.{ap, ◌∙◌}
use lib.ListN.{length}
use Rattle.std.proofs.lemmas.Result.{err_from_is_err_and}
use Rattle.made.specs.Made.{tables}
use Rattle.sup.specs.Answer.{sup_output}
use Rattle.sup.proofs.TextWays.{tally-refused, tally-asks, tally-on, tally-text}
use Rattle.sup.proofs.sup_text.Goals as goal

pub dated_sup-requires : goal.dated_sup-requires
dated_sup-requires c = tally-asks c.args.sheet.now.header c.args.sheet.now.count (tables c.args.sheet.now.lent) c.args.date.now (length c.args.out.now) _ c.tally_sheet-taken.ensures c.in_ok-taken.was

pub returns : goal.returns
returns c =
    let q = c.in_ok-taken.was in
    record {
      value = c.dated_sup.ensures.value ∙ tally-on c.args.sheet.now.header c.args.sheet.now.count (tables c.args.sheet.now.lent) c.args.date.now (length c.args.out.now) _ c.tally_sheet-taken.ensures q;
      out_after = c.dated_sup.ensures.out_after ∙ ap (λ x. sup_output c.dated_sup.result x c.args.out.now) (tally-text c.args.sheet.now.header c.args.sheet.now.count (tables c.args.sheet.now.lent) c.args.date.now (length c.args.out.now) _ c.tally_sheet-taken.ensures q);
    }

pub returns-in_err-taken-clause-value : goal.returns-in_err-taken-clause-value
returns-in_err-taken-clause-value c =
    let p = err_from_is_err_and c.from_residual.result c.from_residual.ensures.1 in
    rw (p.1, p.2) (tally-refused c.args.sheet.now.header c.args.sheet.now.count (tables c.args.sheet.now.lent) c.args.date.now (length c.args.out.now) _ c.tally_sheet-taken.ensures _ c.in_err-taken.was)
