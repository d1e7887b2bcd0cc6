-- `put_lead` meets its contract: one step of `Placing`, or two.
use native.Mathlib.Omega.{arith}
use Rattle.spelling.proofs.Ways.{placing-start, placing-end, placing-both}
use Rattle.spelling.proofs.put_lead.Goals as goal

pub returns-then-n-lt10 : goal.returns-then-n-lt10
returns-then-n-lt10 c = placing-end _ _ _ _ _ _ (placing-start c.args.text.now c.args.end c.args.n c.requires.0 c.requires.1 c.requires.2) _ c.glyph.ensures c.if-n-lt10.true

pub returns : goal.returns
returns c =
    placing-both _ _ _ _ _ _ (placing-start c.args.text.now c.args.end c.args.n c.requires.0 c.requires.1 c.requires.2) _ c.ones.ensures c.if-n-lt10.false _ (omega (arith, c.tens.ensures)) c.requires.3
