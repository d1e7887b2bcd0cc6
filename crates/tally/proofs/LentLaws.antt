-- The contract of `take_in` as its source has it: a refused border alters none of the tally that its owner lent (document 01, "Areas"). Assumes
-- nothing.
use mathlib.Core.Path.{◌≡◌, sym, ap, ◌∙◌}
use mathlib.Core.Bool.{false}
use seplogic.Ra.Ura.{Ura}
use base.Logic.{SProp, ent}
use prog.Memory.{Memory}
use prog.Routine.{Routine}
use types.Logic.{Logic}
use contract.Lifetimes.{Lfts}
use contract.Monad.{Fun, fact, fact_mono}
use denote.Triple.Clauses.{AtExit}
use denote.Triple.Entry.{Args, Res}
use Rattle.std.specs.Result.{is_ok}
use Rattle.made.specs.Made.{tables}
use Rattle.tally.specs.contracts.take_in.{signature, ended, clauses}
use Rattle.tally.proofs.RunningLaws.{refused-leaves}

module _ {M : Type 1} {𝓤 : Ura M} (𝓛 : Logic 𝓤) (at_mem : Memory → SProp 𝓤) (run : Routine → Fun 𝓤)
    (κs : Lfts signature.lifetimes) (a : Args signature κs) (r : Res signature κs) (e : AtExit ended κs) where
  pub refused-untouched : ent 𝓤 ((clauses 𝓛 at_mem run κs a).ensures tt r e) (fact 𝓤 (is_ok r ≡ false → e.0.now ≡ a.0.now))
  refused-untouched =
      let s = a.1.0.now in
      fact_mono 𝓤 _ _ (λ p n. p.1 ∙ refused-leaves a.0.now s.header s.count (tables s.lent) a.1.1.0 (sym (ap is_ok p.0) ∙ n))
