-- What holds of each state that the machine comes to, and what was read before does not matter. Assumes nothing.
use mathlib.Core.Path.{◌≡◌, refl, sym, ◌∙◌, ap, subst}
use mathlib.Core.List.{List, [], ◌∷◌, ◌++◌, append_assoc}
use mathlib.Core.Bool.{not, ◌&&◌}
use Prim.Native.Nat.{ℕ, ◌+◌, ◌-◌, ◌*◌, ◌/◌, ◌%◌, ◌≤◌}
use native.Mathlib.Omega.{arith}
use lib.ListN.{length, get_or, set, length-append, length-set}
use lib.Seq.{get_or-append-add}
use lib.Dec.{leb, eqb}
use lib.IntN.{ℤ}
use borrow.Author.Tests.{leb-true, leb-false}
use Rattle.std.proofs.lemmas.List.{set-append_right}
use Rattle.std.specs.Prelude.{Some, None, Ok, Err}
use Rattle.record.specs.declared.Mode.{Mode}
use Rattle.record.specs.Record.{is_exact}
use Rattle.laws.proofs.Choice.{cond-elim}
use Rattle.kinds.specs.Kinds.{row_width, next_of, fixed_vertices, is_listed, want_at}
use Rattle.machine.specs.Machine.{Step, vertices_of, fields_end, field_of, island_of, is_shut, ring_step, vertex_of, key_step, step_of}
use Rattle.sheet.specs.Tables.{Tables, Starts, starts_of, moved_on, ◌followed◌, new_row, cell_of, set_last, put, ring_after}
use Rattle.machine.specs.declared.Ring.{Ring}
use Rattle.machine.specs.declared.State.{State}
use Rattle.machine.specs.declared.State.TheVariants.{Due, Field, Island, X, Y}
use Rattle.kinds.proofs.KindLaws.{next-most}
use Rattle.sheet.proofs.StartLaws.{length_moved, moved-append, moved-set, moved_new, starts-followed}

-- a field has a row, and stands inside it; the islands that are to come are in the table
abbrev pub Okay : State → Tables → Type 0
Okay Due o = Unit {0}
Okay (Field kind p i) o = (row_width ≤ length o.rows) × (p ≤ 11)
Okay (Island l s r) o = r ≤ length o.islands + l
Okay (X r) o = r.rings ≤ length o.islands
Okay (Y r x) o = r.rings ≤ length o.islands

abbrev StepOkay : Tables → Step → Type 0
StepOkay o (Ok (Some st)) = Okay st o
StepOkay o (Ok None) = Unit {0}
StepOkay o (Err m) = Unit {0}

key-okay : (t : ℕ) (o : Tables) → row_width ≤ length o.rows → StepOkay o (key_step t)
unfolding key_step
key-okay t o h =
    let Q = StepOkay o in
    cond-elim Q (eqb t 0) _ _ (λ _. tt) (λ _. cond-elim Q (eqb (next_of (t / 2) 0) 0) _ _ (λ _. tt) (λ _. (h, next-most (t / 2) 0)))

vertices-okay : (kind i n : ℕ) (o : Tables) → StepOkay o (vertices_of kind i n)
unfolding vertices_of
vertices-okay kind i n o =
    let Q = StepOkay o in
    cond-elim Q (eqb kind 1) _ _
    (λ _. cond-elim Q (leb (4 + 4 * i) n) _ _ (λ _. cond-elim Q (eqb i 0) _ _ (λ _. omega arith) (λ _. omega arith)) (λ _. tt))
    (λ _. cond-elim Q (leb 2 n) _ _ (λ _. omega arith) (λ _. tt))

end-okay : (kind : ℕ) (o : Tables) → StepOkay o (fields_end kind)
unfolding fields_end
end-okay kind o = cond-elim (StepOkay o) (eqb (fixed_vertices kind) 0) _ _ (λ _. tt) (λ _. vertices-okay kind 0 (fixed_vertices kind) o)

field-okay : (mode : Mode) (kind p i n : ℕ) (o : Tables) → row_width ≤ length o.rows → StepOkay o (field_of mode kind p i n)
unfolding field_of
field-okay mode kind p i n o h =
    let Q = StepOkay o in
    cond-elim Q (eqb p 2 && is_exact mode && not (is_listed kind n)) _ _ (λ _. tt)
    (λ _. cond-elim Q (eqb p 11) _ _ (λ _. vertices-okay kind i n o)
    (λ _. cond-elim Q (eqb (next_of kind p) 0) _ _ (λ _. end-okay kind o) (λ _. (h, next-most kind p))))

island-okay : (l s r n : ℕ) (o : Tables) → r ≤ length o.islands + l - 1 → r ≤ length o.islands + l → StepOkay o (island_of l s r n)
unfolding island_of
island-okay l s r n o h k =
    let Q = StepOkay o in
    cond-elim Q (leb 4 n && leb (n + 4) s) _ _
    (λ _. cond-elim Q (leb l 1) _ _ (λ e. omega (arith, leb-true l 1 e)) (λ e. omega (arith, leb-false l 1 e)))
    (λ _. tt)

ring-okay : (r : Ring) (fx fy x y next : ℕ) (o : Tables) → r.rings ≤ length o.islands → StepOkay o (ring_step r fx fy x y next)
unfolding ring_step
ring-okay r fx fy x y next o h =
    let Q = StepOkay o in
    cond-elim Q (leb r.left 1) _ _
    (λ _. cond-elim Q (is_shut r.closed fx fy x y) _ _ (λ _. cond-elim Q (eqb r.rings 0) _ _ (λ _. tt) (λ _. omega arith)) (λ _. tt))
    (λ _. h)

step-okay : (mode : Mode) (st : State) (t next : ℕ) (c : List ℕ) (o : Tables) → Okay st o → StepOkay (put st t c o) (step_of mode st t next)
unfolding step_of put set_last vertex_of
step-okay mode Due t next c o h = key-okay t (put Due t c o) (omega (arith, length-append o.rows (new_row t (starts_of o))))
step-okay mode (Field kind p i) t next c o h = field-okay mode kind p i t (put (Field kind p i) t c o) (simp length-set h.0)
step-okay mode (Island l s r) t next c o h =
    let e = length-append o.islands (t ∷ []) in
    island-okay l s r t (put (Island l s r) t c o) (omega arith) (omega arith)
step-okay mode (X r) t next c o h = h
step-okay mode (Y r x) t next c o h = ring-okay r _ _ x t next (put (Y r x) t c o) h

pub go-okay : (mode : Mode) (st st' : State) (t next : ℕ) (c : List ℕ) (o : Tables) → Okay st o → step_of mode st t next ≡ Ok (Some st') → Okay st' (put st t c o)
go-okay mode st st' t next c o h e = subst (StepOkay (put st t c o)) e (step-okay mode st t next c o h)

-- ---- tables put before

last-right : (xs ys : List ℤ) (p : ℕ) (v : ℤ) → row_width ≤ length ys → set_last (xs ++ ys) p v ≡ xs ++ set_last ys p v
unfolding set_last
last-right xs ys p v h =
    set-append_right xs ys (length xs) (length (xs ++ ys) - row_width + p) v refl (omega (arith, length-append xs ys))
    ∙ ap (λ (k : ℕ). xs ++ set ys k v) (omega (arith, length-append xs ys))

get_d-right : (xs ys : List ℕ) (r : ℕ) → r ≤ length ys → get_or (xs ++ ys) (length (xs ++ ys) - r) 0 ≡ get_or ys (length ys - r) 0
get_d-right xs ys r h =
    let e : length (xs ++ ys) - r ≡ length xs + (length ys - r) = omega (arith, length-append xs ys) in
    ap (λ (k : ℕ). get_or (xs ++ ys) k 0) e ∙ get_or-append-add xs ys (length ys - r) 0

-- a new row behind those that were moved on, and a number put into the last of them
row-join : (t : ℕ) (a o : Tables) → length a.points % 2 ≡ 0 → length o.rows % row_width ≡ 0
    → a.rows ++ moved_on (starts_of a) o.rows ++ new_row t (starts_of (a followed o)) ≡ a.rows ++ moved_on (starts_of a) (o.rows ++ new_row t (starts_of o))
row-join t a o e k =
    let s = starts_of a in
    append_assoc a.rows (moved_on s o.rows) (new_row t (starts_of (a followed o)))
    ∙ ap (λ (l : List ℤ). a.rows ++ l)
    (ap (λ (r : Starts). moved_on s o.rows ++ new_row t r) (starts-followed a o e)
    ∙ ap (λ (l : List ℤ). moved_on s o.rows ++ l) (sym (moved_new t s (starts_of o)))
    ∙ sym (moved-append s o.rows (new_row t (starts_of o)) k))

field-join : (a o : Tables) (p : ℕ) (v : ℤ) → row_width ≤ length o.rows → p ≤ 11 → length o.rows % row_width ≡ 0
    → set_last (a.rows ++ moved_on (starts_of a) o.rows) p v ≡ a.rows ++ moved_on (starts_of a) (set_last o.rows p v)
unfolding set_last
field-join a o p v h k e =
    let n = length_moved (starts_of a) o.rows in
    last-right a.rows (moved_on (starts_of a) o.rows) p v (omega arith)
    ∙ ap (λ (l : List ℤ). a.rows ++ l)
    (ap (λ (j : ℕ). set (moved_on (starts_of a) o.rows) (j - row_width + p) v) n
    ∙ sym (moved-set (starts_of a) o.rows (length o.rows - row_width + p) v (omega arith)))

-- the size of the next ring is the same whatever was read before
pub ring-join : (st : State) (a o : Tables) → Okay st o → ring_after st (a followed o) ≡ ring_after st o
unfolding ring_after
ring-join Due a o h = get_d-right a.islands o.islands 0 (omega arith)
ring-join (Field k p i) a o h = get_d-right a.islands o.islands 0 (omega arith)
ring-join (Island l s r) a o h = get_d-right a.islands o.islands 0 (omega arith)
ring-join (X r) a o h = get_d-right a.islands o.islands r.rings h
ring-join (Y r x) a o h = get_d-right a.islands o.islands r.rings h

-- and a record is put behind it
pub put-join : (st : State) (t : ℕ) (c : List ℕ) (a o : Tables) → length a.points % 2 ≡ 0 → Okay st o → length o.rows % row_width ≡ 0
    → put st t c (a followed o) ≡ a followed put st t c o
unfolding put
put-join Due t c a o e h k = rw (row-join t a o e k)
put-join (Field kd p i) t c a o e h k = rw (field-join a o p (cell_of (want_at p) t) h.0 h.1 k, append_assoc)
put-join (Island l s r) t c a o e h k = rw append_assoc
put-join (X r) t c a o e h k = rw append_assoc
put-join (Y r x) t c a o e h k = rw append_assoc
