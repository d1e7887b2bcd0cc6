-- `reader::run_into` meets its contract. Assumes nothing.
use Rattle.reader.proofs.Running.{into-runs, into-on}
use Rattle.reader.specs.Store.{still}
use Rattle.reader.proofs.second_runs.run_into.Goals as goal

pub returns-then-r-lt2 : goal.returns-then-r-lt2
returns-then-r-lt2 c = still

pub fresh_into-requires : goal.fresh_into-requires
fresh_into-requires c = record { in_file = c.requires; state_value = (c.in-X.is, c.if-r.true, c.if-r-lt2.false) }

pub returns-then-r : goal.returns-then-r
returns-then-r c = c.fresh_into.ensures

pub shut_into-requires : goal.shut_into-requires
shut_into-requires c = into-runs c.args.mode c.args.src.now c.args.d c.requires _ c.in-X.is c.if-r.false c.if-r-lt2.false _ _ c.store_run-run.result.count c.store_run-run.result.next c.store_run-run.ensures

pub returns-in_default : goal.returns-in_default
returns-in_default c = still

pub returns : goal.returns
returns c = into-on c.args.mode c.args.src.now c.args.d c.requires _ c.in-X.is c.if-r.false c.if-r-lt2.false _ _ c.store_run-run.result.count c.store_run-run.result.next c.store_run-run.ensures _ _ c.shut_into.ensures
