-- `reader::numbers_into` meets its contract. Assumes nothing.
use native.Mathlib.Omega.{arith}
use Rattle.reader.proofs.HeadWays.{cells-border, cells-note, cells-sign, cells-mark, cells-path}
use Rattle.reader.proofs.heads.numbers_into.Goals as goal

pub returns-in-1 : goal.returns-in-1
returns-in-1 c = cells-border _ _ _ _ c.in-1.is c.border_into.ensures

pub returns-in-2 : goal.returns-in-2
returns-in-2 c = cells-note _ _ _ _ (λ e. omega (arith, e, c.in-2.is)) c.in-2.is c.note_into.ensures

pub returns-in-3 : goal.returns-in-3
returns-in-3 c = cells-sign _ _ _ _ (λ e. omega (arith, e, c.in-3.is)) (λ e. omega (arith, e, c.in-3.is)) c.in-3.is c.sign_into.ensures

pub returns-in-4 : goal.returns-in-4
returns-in-4 c = cells-mark _ _ _ _ (λ e. omega (arith, e, c.in-4.is)) (λ e. omega (arith, e, c.in-4.is)) (λ e. omega (arith, e, c.in-4.is)) c.in-4.is c.mark_into.ensures

pub returns-in_default : goal.returns-in_default
returns-in_default c = let d = c.in_default in cells-path _ _ _ _ (λ e. omega (arith, e)) (λ e. omega (arith, e)) (λ e. omega (arith, e)) (λ e. omega (arith, e)) c.path_into.ensures
