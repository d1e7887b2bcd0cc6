-- `put_figure` meets its contract: over blanks digits and sign, each before the last.
use borrow.Author.Rules.{rules}
use native.Mathlib.Omega.{arith}
use Rattle.spelling.proofs.Ways.{figure-real, figure-few, figure-sign, figure-made}
use Rattle.spelling.proofs.put_figure.Goals as goal

pub magnitude-m-requires : goal.magnitude-m-requires
magnitude-m-requires c = figure-real _ c.ranges.value c.requires.0

pub put_digits-at-requires : goal.put_digits-at-requires
put_digits-at-requires c =
    (omega arith, search rules, figure-few _ c.ranges.value c.requires.0 _ c.magnitude-m.ensures)

pub put_sign-requires : goal.put_sign-requires
put_sign-requires c =
    (figure-sign _ c.ranges.value c.requires.0 _ c.magnitude-m.ensures _ c.put_digits-at.ensures.0, search rules)

pub returns : goal.returns
returns c =
    figure-made _ c.ranges.value c.requires.0 _ c.magnitude-m.ensures _ c.args.out.now _ _ c.requires.1
    (rw c.copy.ensures at c.put_digits-at.ensures) c.put_sign.ensures
