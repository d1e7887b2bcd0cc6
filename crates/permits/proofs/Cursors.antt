-- What the contracts of `new`, `next`, `next_at` and `nth`, as their sources write them, permit on some files: document 01, "Records". Assumes nothing.
use Prim.Native.Nat.{ℕ}
use mathlib.Core.Path.{◌≡◌, refl, ◌∙◌}
use mathlib.Core.List.{List}
use mathlib.Core.Bool.{Bool, false}
use seplogic.Ra.Ura.{Ura}
use base.Logic.{SProp, ent}
use prog.Memory.{Memory}
use prog.Routine.{Routine}
use types.Logic.{Logic}
use contract.Lifetimes.{Lfts}
use contract.Monad.{Fun, fact, fact_mono}
use denote.Triple.Entry.{Args, Res}
use borrow.Fn.World.{ArgsD, ResD}
use denote.Triple.Clauses.{AtExit}
use Rattle.record.specs.declared.Mode.{Mode}
use Rattle.record.specs.declared.Mode.TheVariants.{Loose, Exact}
use Rattle.record.specs.declared.Found.{Found}
use Rattle.std.specs.Prelude.{Result, Err}
use Rattle.record.specs.declared.refusal.Refusal.{Refusal}
use Rattle.record.specs.declared.refusal.Refusal.TheVariants.{Cut}
use Rattle.record.specs.Record.{found, record_at}
use Rattle.cursor.specs.declared.Cursor.{Cursor}
use Rattle.cursor.specs.Cursor.{place_after, handed, nth_from, nth_record}
use Rattle.cursor.specs.contracts.new as new
use Rattle.cursor.specs.contracts.next as next
use Rattle.cursor.specs.contracts.next_at as next-at
use Rattle.cursor.proofs.next_at.Reads as next-at-reads
use Rattle.cursor.specs.contracts.nth as nth
use Rattle.cursor.proofs.nth.Reads as nth-reads
use Rattle.record.proofs.RecordExamples.{computed}
use Rattle.permits.proofs.Records.{two, unended, second, third, eof-not-due}

-- ---- the answers, computed

of_two : nth_record two Exact 1 false ≡ found 7 5 14
unfolding computed nth_from two
of_two = refl

past_two : nth_record two Exact 2 false ≡ Err Cut
unfolding computed nth_from two
past_two = refl

-- ---- `next_at`: an answer, and the place after it

module _ (κs : Lfts 1) (a : ArgsD next-at.signature κs) (r : ResD next-at.signature κs) (e : AtExit next-at.ended κs) (post : next-at-reads.Learnt κs a r e) where
  -- on these bytes, asked so, this answer and this place alone are permitted
  abbrev pub Only : List ℕ → ℕ → Mode → Bool → Result Found Refusal → ℕ → Type 0
  Only s at mode due x place = a.0.now ≡ s → a.1.0 ≡ at → a.1.1.0 ≡ mode → a.1.1.1.0 ≡ due → r ≡ record { found = x; at = place }

  only : {s : List ℕ} {at : ℕ} {mode : Mode} {due : Bool} {x : Result Found Refusal} → record_at s at mode due ≡ x → Only s at mode due x (place_after x at)
  only q s at mode due = post ∙ rw (s, at, mode, due, q) refl

  pub next-at-answers : Only two 7 Exact false (found 7 5 14) 14
  next-at-answers = only second

  -- a refusal does not move the place
  pub next-at-unmoved : Only two 14 Exact false (Err Cut) 14
  next-at-unmoved = only third

  pub next-at-eof-unmoved : Only unended 2 Loose false (Err Cut) 2
  next-at-eof-unmoved = only eof-not-due

-- ---- `nth`

module _ (κs : Lfts 1) (a : ArgsD nth.signature κs) (r : ResD nth.signature κs) (e : AtExit nth.ended κs) (post : nth-reads.Learnt κs a r e) where
  abbrev pub NthOnly : List ℕ → Mode → ℕ → Bool → Result Found Refusal → Type 0
  NthOnly s mode n due x = a.0.now ≡ s → a.1.0 ≡ mode → a.1.1.0 ≡ n → a.1.1.1.0 ≡ due → r ≡ x

  nth-only : {s : List ℕ} {mode : Mode} {n : ℕ} {due : Bool} {x : Result Found Refusal} → nth_record s mode n due ≡ x → NthOnly s mode n due x
  nth-only q s mode n due = post ∙ rw (s, mode, n, due) q

  pub nth-answers : NthOnly two Exact 1 false (found 7 5 14)
  nth-answers = nth-only of_two

  pub nth-past-the-last : NthOnly two Exact 2 false (Err Cut)
  nth-past-the-last = nth-only past_two

-- ---- `new` and `next`, which are proved by hand: what their `ensures` says, as the clause stands in the contract

module _ {M : Type 1} {𝓤 : Ura M} (𝓛 : Logic 𝓤) (mem : Memory → SProp 𝓤) (run : Routine → Fun 𝓤) where
  -- at the file's start, in the mode that is named
  pub new-answers : (κs : Lfts 1) (a : Args new.signature κs) (r : Res new.signature κs) (e : AtExit new.ended κs) → a.0.now ≡ two → a.1.0 ≡ Exact
      → ent 𝓤 ((new.clauses 𝓛 mem run κs a).ensures tt r e) (fact 𝓤 ((r.src.now ≡ two) × (r.at ≡ 0) × (r.mode ≡ Exact)))
  new-answers κs a r e s m = fact_mono 𝓤 _ _ (λ p. (rw (p, s) refl, rw p refl, rw (p, m) refl))

  module _ (κs : Lfts 2) (a : Args next.signature κs) (r : Res next.signature κs) (e : AtExit next.ended κs) where
    abbrev pub lent : Cursor
    lent = a.0.now

    abbrev pub left : Cursor
    left = e.0.now

    -- the claims that what `next` says entails
    abbrev pub Says : Type 0 → Type 1
    Says φ = ent 𝓤 ((next.clauses 𝓛 mem run κs a).ensures tt r e) (fact 𝓤 φ)

    -- the record at the place, and the cursor past it; its file and mode stay
    pub next-answers : lent.src.now ≡ two → lent.at ≡ 7 → lent.mode ≡ Exact → a.1.0 ≡ false
        → Says ((r ≡ found 7 5 14) × (left ≡ record { src = lent.src; at = 14; mode = lent.mode }))
    next-answers s at m due =
        let q : handed lent a.1.0 ≡ found 7 5 14 = rw (s, at, m, due) second in
        fact_mono 𝓤 _ _ (λ p. (p.0 ∙ q, p.1 ∙ rw q refl))

    -- a refusal does not move it
    pub next-unmoved : lent.src.now ≡ two → lent.at ≡ 14 → lent.mode ≡ Exact → a.1.0 ≡ false → Says ((r ≡ Err Cut) × (left ≡ lent))
    next-unmoved s at m due =
        let q : handed lent a.1.0 ≡ Err Cut = rw (s, at, m, due) third in
        fact_mono 𝓤 _ _ (λ p. (p.0 ∙ q, p.1 ∙ rw q refl))
