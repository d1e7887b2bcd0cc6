-- `reader::judge` meets its contract. Assumes nothing.
use mathlib.Core.Path.{ap, ◌∙◌}
use Rattle.std.specs.Prelude.{Ok}
use Rattle.sheet.specs.Tables.{empty}
use Rattle.reader.proofs.Aiming.{aim-start}
use Rattle.reader.proofs.Judging.{at-start, at_on, past-less, stands-past, judge-refused, judge-done}
use Rattle.reader.proofs.first_pass.judge.Goals as goal

pub loop-turn-init : goal.loop-turn-init
loop-turn-init c = (empty, rw c.first_stand-d.ensures (at-start _ c.args.src.now c.args.start c.requires.0 c.requires.1), rw c.first_stand-d.ensures (aim-start _ c.args.src.now c.args.start))

pub turn_at-requires : goal.turn_at-requires
turn_at-requires c = c.loop-turn.invariant.1.within

pub skim_rows-d-requires : goal.skim_rows-d-requires
skim_rows-d-requires c = (at_on c.args.mode c.args.src.now _ c.loop-turn.invariant.0 c.loop-turn.d c.loop-turn.invariant.1 c.turn_at.result c.turn_at.ensures _ _ _ (c.in-Ok-Some.is ∙ ap Ok c.in-Ok-Some.field-0-is)).then.within

pub loop-turn-smaller : goal.loop-turn-smaller
loop-turn-smaller c = past-less c.args.mode c.args.src.now _ c.loop-turn.invariant.0 c.loop-turn.d c.loop-turn.invariant.1 c.turn_at.result c.turn_at.ensures _ _ _ (c.in-Ok-Some.is ∙ ap Ok c.in-Ok-Some.field-0-is) _ c.skim_rows-d.ensures

pub loop-turn-preserved : goal.loop-turn-preserved
loop-turn-preserved c = stands-past c.args.mode c.args.src.now c.args.start c.loop-turn.d c.loop-turn.invariant c.turn_at.result c.turn_at.ensures _ _ _ (c.in-Ok-Some.is ∙ ap Ok c.in-Ok-Some.field-0-is) _ c.skim_rows-d.ensures

pub returns-in-Err : goal.returns-in-Err
returns-in-Err c = judge-refused c.args.mode c.args.src.now c.args.start c.loop-turn.d c.loop-turn.invariant c.turn_at.result c.turn_at.ensures _ _ _ c.in-Err.is _ c.wanted.ensures _ c.located.ensures

pub returns-in-Ok-None : goal.returns-in-Ok-None
returns-in-Ok-None c = judge-done c.args.mode c.args.src.now _ c.loop-turn.invariant.0 c.loop-turn.d c.loop-turn.invariant.1 c.turn_at.result c.turn_at.ensures _ (c.in-Ok-None.is ∙ ap Ok c.in-Ok-None.field-0-is)
