-- `reader::fresh_into` meets its contract. Assumes nothing.
use Rattle.reader.proofs.Running.{fresh-runs, stored-run, fresh-most, fresh-into-on}
use Rattle.reader.specs.Store.{still}
use native.Mathlib.Omega.{arith}
use borrow.Author.Rules.{rules}
use Rattle.reader.proofs.second_runs.fresh_into.Goals as goal

pub returns-then-p-points : goal.returns-then-p-points
returns-then-p-points c = still

pub returns-in_default : goal.returns-in_default
returns-in_default c = still

pub put_real-requires : goal.put_real-requires
put_real-requires c = (omega (arith, c.if-p-points.false), (fresh-most c.args.mode c.args.src.now c.args.d c.requires.in_file c.args.r c.requires.state_value c.in-Some.f.x c.in-Some.f.y c.in-Some.f.next c.in-Some.ensures).0)

pub put_real-requires-2 : goal.put_real-requires-2
put_real-requires-2 c = (search rules, (fresh-most c.args.mode c.args.src.now c.args.d c.requires.in_file c.args.r c.requires.state_value c.in-Some.f.x c.in-Some.f.y c.in-Some.f.next c.in-Some.ensures).1)

pub overflow_add-run : goal.overflow_add-run
overflow_add-run c = omega (arith, (fresh-runs c.args.mode c.args.src.now c.args.d c.requires.in_file c.args.r c.requires.state_value c.in-Some.f.x c.in-Some.f.y c.in-Some.f.next c.in-Some.ensures c.store_run-run.result.count c.store_run-run.result.next (c.store_run-run.ensures.0, stored-run c.store_run-run.ensures.1) c.begun_at.result c.begun_at.ensures).points)

pub shut_into-requires : goal.shut_into-requires
shut_into-requires c = fresh-runs c.args.mode c.args.src.now c.args.d c.requires.in_file c.args.r c.requires.state_value c.in-Some.f.x c.in-Some.f.y c.in-Some.f.next c.in-Some.ensures c.store_run-run.result.count c.store_run-run.result.next (c.store_run-run.ensures.0, stored-run c.store_run-run.ensures.1) c.begun_at.result c.begun_at.ensures

pub returns : goal.returns
returns c = fresh-into-on c.args.mode c.args.src.now c.args.d c.requires.in_file c.args.r c.requires.state_value c.in-Some.f.x c.in-Some.f.y c.in-Some.f.next c.in-Some.ensures _ _ _ _ c.put_real.ensures c.put_real-2.ensures c.store_run-run.result.count c.store_run-run.result.next c.store_run-run.ensures c.begun_at.result c.begun_at.ensures _ _ c.shut_into.ensures
