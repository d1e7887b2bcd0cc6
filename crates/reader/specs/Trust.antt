-- A file that was judged fine, as the second pass may trust it. For contracts of private functions alone. Assumes nothing: these are definitions.
use Rattle.std.specs.Prelude.{ℕ, ◌≡◌, List, Bool, true}
use Rattle.machine.specs.declared.State.TheVariants.{Due}
use Rattle.record.specs.declared.Mode.{Mode}
use Rattle.record.specs.declared.refusal.Refusal.{Refusal}
use Rattle.reader.specs.Turn.{halted, turn_of, Turns}
use Rattle.reader.specs.declared.ReadStand.{ReadStand}

-- no turn from a stand on is refused
pub record Sure (mode : Mode) (s : List ℕ) (d : ReadStand) : Type 0 where
  pub never : (e : ReadStand) → Turns mode s d e → (m : Refusal) (k a : ℕ) → turn_of mode s e ≡ halted m k a → ⊥

-- a keyword is due at a place, and from there on no turn is refused
pub record SureAt (mode : Mode) (s : List ℕ) (at : ℕ) : Type 0 where
  pub d : ReadStand
  pub due : d.state ≡ Due
  pub here : d.at ≡ at
  pub sure : Sure mode s d

-- what a function that is told that the file was judged may rely on
abbrev pub Vouched : Mode → List ℕ → ℕ → Bool → Type 0
Vouched mode s at judged = judged ≡ true → SureAt mode s at
