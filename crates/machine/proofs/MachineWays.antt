-- What the code of the machine has in hand of a record. Assumes nothing.
use Prim.Native.Nat.{ℕ}
use mathlib.Core.Path.{◌≡◌, sym, ◌∙◌}
use mathlib.Core.Bool.{Bool}
use mathlib.Core.List.{List}
use lib.ListN.{length, take}
use Rattle.std.specs.Prelude.{Result, Ok}
use Rattle.record.specs.declared.Mode.{Mode}
use Rattle.record.specs.declared.Line.{Line}
use Rattle.record.specs.declared.refusal.Refusal.{Refusal}
use Rattle.record.specs.Record.{line_of}
use Rattle.record.proofs.RecordLaws.{line_view}
use Rattle.token.specs.Lex.{lex_of}
use Rattle.machine.specs.declared.State.{State}
use Rattle.machine.specs.declared.One.{One}
use Rattle.machine.specs.Machine.{want_of, is_due, of_token, one_of}

pub line_counted : (mode : Mode) (due : Bool) (bs : List ℕ) (l : Result Line Refusal) (x : Line) → l ≡ line_of mode due bs → l ≡ Ok x → x.len ≡ length (take x.len bs)
line_counted mode due bs l x q e = sym (line_view mode due bs x.len x.width (sym q ∙ e)).counted

pub one-got : (mode : Mode) (st : State) (next : ℕ) (bs : List ℕ) (due : Bool) (l : Result Line Refusal) (x : Line) (o : Result One Refusal)
    → due ≡ is_due st → l ≡ line_of mode due bs → l ≡ Ok x → o ≡ of_token mode st next (length (take x.len bs)) x.width (lex_of mode (want_of st) (take x.len bs)) → o ≡ one_of mode st next bs
unfolding one_of
one-got mode st next bs due l x o d q e g = rw (← d, ← q, e) (g ∙ rw (← line_counted mode due bs l x q e))
