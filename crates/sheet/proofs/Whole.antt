-- What was read is whole rows, and whole points but where a y is due. Document 01, "Sheet tables". Assumes nothing.
use mathlib.Core.Path.{◌≡◌, refl, subst}
use mathlib.Core.List.{List, [], ◌∷◌}
use mathlib.Core.Bool.{not, ◌&&◌}
use Prim.Native.Nat.{ℕ, ◌+◌, ◌*◌, ◌/◌, ◌%◌}
use native.Mathlib.Omega.{arith}
use lib.ListN.{length, length-append, length-set}
use lib.Dec.{leb, eqb}
use Rattle.std.specs.Prelude.{Some, None, Ok, Err}
use Rattle.laws.proofs.Choice.{cond-elim}
use Rattle.record.specs.declared.Mode.{Mode}
use Rattle.record.specs.Record.{is_exact}
use Rattle.token.specs.Lex.{unlift}
use Rattle.kinds.specs.Kinds.{row_width, next_of, fixed_vertices, is_listed}
use Rattle.machine.specs.declared.State.{State}
use Rattle.machine.specs.declared.State.TheVariants.{Due, Field, Island, X, Y}
use Rattle.machine.specs.Machine.{Step, vertices_of, fields_end, field_of, island_of, is_shut, ring_step, vertex_of, key_step, step_of}
use Rattle.sheet.specs.Tables.{Tables, empty, starts_of, new_row, set_last, put}
use Rattle.sheet.proofs.Pass.{Pass, done, more}

-- an x without its y
abbrev pub odd_of : State → ℕ
odd_of Due = 0
odd_of (Field k p i) = 0
odd_of (Island l s r) = 0
odd_of (X r) = 0
odd_of (Y r x) = 1

-- after an x a y is wanted, and nowhere else
abbrev pub StepOdd : ℕ → Step → Type 0
StepOdd n (Ok (Some st)) = odd_of st ≡ n
StepOdd n (Ok None) = Unit {0}
StepOdd n (Err m) = Unit {0}

abbrev pub odd_next : State → ℕ
odd_next Due = 0
odd_next (Field k p i) = 0
odd_next (Island l s r) = 0
odd_next (X r) = 1
odd_next (Y r x) = 0

vertices-odd : (kind i n : ℕ) → StepOdd 0 (vertices_of kind i n)
unfolding vertices_of
vertices-odd kind i n =
    let Q = StepOdd 0 in
    cond-elim Q (eqb kind 1) _ _
    (λ _. cond-elim Q (leb (4 + 4 * i) n) _ _ (λ _. cond-elim Q (eqb i 0) _ _ (λ _. refl) (λ _. refl)) (λ _. tt))
    (λ _. cond-elim Q (leb 2 n) _ _ (λ _. refl) (λ _. tt))

end-odd : (kind : ℕ) → StepOdd 0 (fields_end kind)
unfolding fields_end
end-odd kind = cond-elim (StepOdd 0) (eqb (fixed_vertices kind) 0) _ _ (λ _. refl) (λ _. vertices-odd kind 0 (fixed_vertices kind))

pub step-odd : (mode : Mode) (st : State) (t next : ℕ) → StepOdd (odd_next st) (step_of mode st t next)
unfolding step_of key_step field_of island_of vertex_of ring_step
step-odd mode Due t next =
    let Q = StepOdd 0 in
    cond-elim Q (eqb t 0) _ _ (λ _. tt) (λ _. cond-elim Q (eqb (next_of (t / 2) 0) 0) _ _ (λ _. tt) (λ _. refl))
step-odd mode (Field kind p i) t next =
    let Q = StepOdd 0 in
    cond-elim Q (eqb p 2 && is_exact mode && not (is_listed kind t)) _ _ (λ _. tt)
    (λ _. cond-elim Q (eqb p 11) _ _ (λ _. vertices-odd kind i t)
    (λ _. cond-elim Q (eqb (next_of kind p) 0) _ _ (λ _. end-odd kind) (λ _. refl)))
step-odd mode (Island l s r) t next =
    let Q = StepOdd 0 in
    cond-elim Q (leb 4 t && leb (t + 4) s) _ _ (λ _. cond-elim Q (leb l 1) _ _ (λ _. refl) (λ _. refl)) (λ _. tt)
step-odd mode (X r) t next = refl
step-odd mode (Y r x) t next =
    let Q = StepOdd 0 in
    cond-elim Q (leb r.left 1) _ _
    (λ _. cond-elim Q (is_shut r.closed _ _ x t) _ _ (λ _. cond-elim Q (eqb r.rings 0) _ _ (λ _. refl) (λ _. refl)) (λ _. tt))
    (λ _. refl)

-- rows are whole, and points are pairs
pub record Whole (st : State) (o : Tables) : Type 0 where
  pub rows : length o.rows % row_width ≡ 0
  pub points : length o.points % 2 ≡ odd_of st

whole_by : (st st' : State) (t : ℕ) (c : List ℕ) (o : Tables) → Whole st o → odd_of st' ≡ odd_next st → Whole st' (put st t c o)
unfolding put set_last
whole_by Due st' t c o h e =
    record { rows = omega (arith, length-append o.rows (new_row t (starts_of o)), h.rows); points = omega (arith, h.points) }
whole_by (Field k p i) st' t c o h e = record { rows = simp length-set h.rows; points = omega (arith, h.points) }
whole_by (Island l s r) st' t c o h e = record { rows = h.rows; points = omega (arith, h.points) }
whole_by (X r) st' t c o h e = record { rows = h.rows; points = omega (arith, length-append o.points (unlift t ∷ []), h.points) }
whole_by (Y r x) st' t c o h e = record { rows = h.rows; points = omega (arith, length-append o.points (unlift t ∷ []), h.points) }

pub go-whole : (mode : Mode) (st st' : State) (t next : ℕ) (c : List ℕ) (o : Tables) → Whole st o → step_of mode st t next ≡ Ok (Some st') → Whole st' (put st t c o)
go-whole mode st st' t next c o h g = whole_by st st' t c o h (subst (StepOdd (odd_next st)) g (step-odd mode st t next))

pub pass-whole : {mode : Mode} {st st' : State} {o o' : Tables} {bs : List ℕ} → Whole st o → Pass mode st o bs st' o' → Whole st' o'
pass-whole h done = h
pass-whole {mode} {st} {o = o} h (more {st₁ = st₁} {t = t} {c = c} g p) = pass-whole (go-whole mode st st₁ t _ c o h g.steps) p

pub empty-whole : Whole Due empty
empty-whole = record { rows = refl; points = refl }
