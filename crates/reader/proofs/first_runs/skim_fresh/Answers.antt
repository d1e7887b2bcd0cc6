-- `reader::skim_fresh` meets its contract. Assumes nothing.
use Rattle.reader.proofs.Running.{fresh-runs, fresh_on}
use Rattle.reader.specs.Turn.{still}
use Rattle.reader.proofs.first_runs.skim_fresh.Goals as goal

pub returns-in_default : goal.returns-in_default
returns-in_default c = still

pub shut_at-requires : goal.shut_at-requires
shut_at-requires c = fresh-runs c.args.mode c.args.src.now c.args.d c.requires.in_file c.args.r c.requires.state_value c.in-Some.f.x c.in-Some.f.y c.in-Some.f.next c.in-Some.ensures c.vertices-run.result.count c.vertices-run.result.next c.vertices-run.ensures c.begun_at.result c.begun_at.ensures

pub returns : goal.returns
returns c = fresh_on c.args.mode c.args.src.now c.args.d c.requires.in_file c.args.r c.requires.state_value c.in-Some.f.x c.in-Some.f.y c.in-Some.f.next c.in-Some.ensures c.vertices-run.result.count c.vertices-run.result.next c.vertices-run.ensures c.begun_at.result c.begun_at.ensures _ c.shut_at.ensures
