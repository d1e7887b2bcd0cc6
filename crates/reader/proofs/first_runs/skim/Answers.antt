-- `reader::skim` meets its contract. Assumes nothing.
use Rattle.reader.proofs.Running.{skim-runs, skim-on}
use Rattle.reader.specs.Turn.{still}
use Rattle.reader.proofs.first_runs.skim.Goals as goal

pub returns-then-r-lt2 : goal.returns-then-r-lt2
returns-then-r-lt2 c = still

pub shut_at-requires : goal.shut_at-requires
shut_at-requires c = skim-runs c.args.mode c.args.src.now c.args.d c.requires _ c.in-X.is c.if-r.false c.if-r-lt2.false c.vertices-run.result.count c.vertices-run.result.next c.vertices-run.ensures

pub returns-in_default : goal.returns-in_default
returns-in_default c = still

pub returns : goal.returns
returns c = skim-on c.args.mode c.args.src.now c.args.d c.requires _ c.in-X.is c.if-r.false c.if-r-lt2.false c.vertices-run.result.count c.vertices-run.result.next c.vertices-run.ensures _ c.shut_at.ensures
