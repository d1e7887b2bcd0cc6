-- The sizes of the rings that are to come: those of the table are those that stand in the file. Assumes nothing.
use Rattle.std.specs.Prelude.{Option, Some, None, Ok, Err}
use Rattle.record.specs.declared.refusal.Refusal.TheVariants as Refusal
use Rattle.machine.specs.Machine.{Step}
use Rattle.record.specs.Record.{got}
use mathlib.Core.Path.{◌≡◌, refl, sym, ◌∙◌, ap, subst}
use mathlib.Core.Bool.{Bool, true, false, cond, not, ◌&&◌}
use mathlib.Core.List.{List, [], ◌∷◌, ◌++◌, append_assoc}
use Prim.Native.Nat.{ℕ, zero, suc, ◌+◌, ◌-◌, ◌*◌, ◌/◌, ◌≤◌, ◌<◌}
use native.Mathlib.Omega.{arith}
use lib.ListN.{length, take, drop, get_or, length-append, drop_of_length-le}
use lib.Seq.{get_or-drop, drop-drop, drop-append-le}
use lib.Dec.{leb, eqb}
use borrow.Author.Tests.{leb-true, leb-false, eqb-false}
use Rattle.laws.proofs.Choice.{cond-elim}
use Rattle.record.specs.declared.Mode.{Mode}
use Rattle.record.specs.Record.{is_exact, line_of}
use Rattle.number.specs.Number.{integer_of}
use Rattle.token.specs.Lex.{of_whole, lex_of}
use Rattle.kinds.specs.Kinds.{next_of, fixed_vertices, is_listed}
use Rattle.machine.specs.Machine.{want_of, is_due, vertices_of, fields_end, field_of, island_of, is_shut, ring_step, vertex_of, key_step, step_of}
use Rattle.machine.specs.declared.Ring.{Ring}
use Rattle.machine.specs.declared.State.{State}
use Rattle.machine.specs.declared.State.TheVariants.{Due, Field, Island, X, Y}
use Rattle.sheet.specs.Tables.{Tables, put, ring_after}
use Rattle.reader.specs.Turn.{no_size, sized, size_of, is_turning, size_next, isl_next}

-- the first n numbers of the records
unfoldable pub counts : Mode → ℕ → List ℕ → List ℕ
counts mode zero bs = []
counts mode (suc n) bs = (size_of mode bs).n ∷ counts mode n (drop (size_of mode bs).width bs)

-- the island counts still to come, in the table `I` so far and from `at` on, are those that stand at `ring`
abbrev pub Pend : Mode → List ℕ → State → List ℕ → ℕ → ℕ → Type 0
Pend mode s Due I at ring = Unit {0}
Pend mode s (Field k p i) I at ring = Unit {0}
Pend mode s (Island l sp r) I at ring = (1 ≤ l) × (l ≤ r) × (r ≤ length I + l) × (drop (length I + l - r) I ++ counts mode l (drop at s) ≡ counts mode r (drop ring s))
Pend mode s (X r) I at ring = (r.rings ≤ length I) × (drop (length I - r.rings) I ≡ counts mode r.rings (drop ring s))
Pend mode s (Y r x) I at ring = (r.rings ≤ length I) × (drop (length I - r.rings) I ≡ counts mode r.rings (drop ring s))

-- the first of the counts
counts-head : (mode : Mode) (q : ℕ) (I bs : List ℕ) → (q ≡ 0 → ⊥) → drop (length I - q) I ≡ counts mode q bs → get_or I (length I - q) 0 ≡ (size_of mode bs).n
unfolding counts
counts-head mode zero I bs n e = absurd (n refl)
counts-head mode (suc q) I bs n e =
    let i = length I - suc q in
    let z : i ≡ i + 0 = omega arith in
    ap (λ (k : ℕ). get_or I k 0) z ∙ sym (get_or-drop i I 0 0) ∙ ap (λ (l : List ℕ). get_or l 0 0) e

-- where a ring ends and another follows, its size is read from the file
pub ring-next : (mode : Mode) (s : List ℕ) (st : State) (o : Tables) (at ring : ℕ) → Pend mode s st o.islands at ring → is_turning st ≡ true
    → ring_after st o ≡ (size_next mode st (drop ring s)).n
unfolding ring_after size_next
ring-next mode s Due o at ring h t = absurd (let z : ◌≡◌ {A = ℕ} 0 1 = cc in omega arith)
ring-next mode s (Field k p i) o at ring h t = absurd (let z : ◌≡◌ {A = ℕ} 0 1 = cc in omega arith)
ring-next mode s (Island l sp r) o at ring h t = absurd (let z : ◌≡◌ {A = ℕ} 0 1 = cc in omega arith)
ring-next mode s (X r) o at ring h t = absurd (let z : ◌≡◌ {A = ℕ} 0 1 = cc in omega arith)
ring-next mode s (Y r x) o at ring h t = rw t (counts-head mode r.rings o.islands (drop ring s) (more (leb r.left 1) (eqb r.rings 0) refl t) h.1)
  where
    more : (a b : Bool) → eqb r.rings 0 ≡ b → (a && not b) ≡ true → r.rings ≡ 0 → ⊥
    more true true e t = absurd (let z : ◌≡◌ {A = ℕ} 0 1 = cc in omega arith)
    more true false e t = eqb-false r.rings 0 e
    more false b e t = absurd (let z : ◌≡◌ {A = ℕ} 0 1 = cc in omega arith)

-- ---- after a record

abbrev StepPend : Mode → List ℕ → List ℕ → ℕ → ℕ → Step → Type 0
StepPend mode s I at ring (Ok (Some st)) = Pend mode s st I at ring
StepPend mode s I at ring (Err m) = Unit {0}
StepPend mode s I at ring (Ok None) = Unit {0}

module _ (mode : Mode) (s I : List ℕ) (at : ℕ) where
  none_left : (ring : ℕ) → (0 ≤ length I) × (drop (length I - 0) I ≡ counts mode 0 (drop ring s))
  unfolding counts
  none_left ring = (omega arith, drop_of_length-le I {i = length I - 0} (omega arith))

  all_left : (i n : ℕ) → (i ≡ 0 → ⊥) → Pend mode s (Island i n i) I at at
  all_left i n h =
      (omega arith, omega arith, omega arith, ap (λ (x : List ℕ). x ++ counts mode i (drop at s)) (drop_of_length-le I {i = length I + i - i} (omega arith)))

  vertices-pend : (kind i n : ℕ) → StepPend mode s I at at (vertices_of kind i n)
  unfolding vertices_of
  vertices-pend kind i n =
      let Q = StepPend mode s I at at in
      cond-elim Q (eqb kind 1) _ _
      (λ _. cond-elim Q (leb (4 + 4 * i) n) _ _
      (λ _. cond-elim Q (eqb i 0) _ _ (λ _. none_left at) (λ e. all_left i n (eqb-false i 0 e))) (λ _. tt))
      (λ _. cond-elim Q (leb 2 n) _ _ (λ _. none_left at) (λ _. tt))

  end-pend : (kind : ℕ) → StepPend mode s I at at (fields_end kind)
  unfolding fields_end
  end-pend kind = cond-elim (StepPend mode s I at at) (eqb (fixed_vertices kind) 0) _ _ (λ _. tt) (λ _. vertices-pend kind 0 (fixed_vertices kind))

  field-pend : (kind p i t : ℕ) → StepPend mode s I at at (field_of mode kind p i t)
  unfolding field_of
  field-pend kind p i t =
      let Q = StepPend mode s I at at in
      cond-elim Q (eqb p 2 && is_exact mode && not (is_listed kind t)) _ _ (λ _. tt)
      (λ _. cond-elim Q (eqb p 11) _ _ (λ _. vertices-pend kind i t)
      (λ _. cond-elim Q (eqb (next_of kind p) 0) _ _ (λ _. end-pend kind) (λ _. tt)))

  key-pend : (ring t : ℕ) → StepPend mode s I at ring (key_step t)
  unfolding key_step
  key-pend ring t =
      let Q = StepPend mode s I at ring in
      cond-elim Q (eqb t 0) _ _ (λ _. tt) (λ _. cond-elim Q (eqb (next_of (t / 2) 0) 0) _ _ (λ _. tt) (λ _. tt))

-- an island's count is one more of the table, and stands at the front of the file's
counts-one : (mode : Mode) (l : ℕ) (bs : List ℕ) (t width : ℕ) → 1 ≤ l → size_of mode bs ≡ record { n = t; width = width }
    → counts mode l bs ≡ t ∷ counts mode (l - 1) (drop width bs)
unfolding counts
counts-one mode zero bs t width h e = absurd (omega arith)
counts-one mode (suc l) bs t width h e =
    let z : suc l - 1 ≡ l = omega arith in
    rw (e, z)

counts-last : (mode : Mode) (l t : ℕ) (bs : List ℕ) → l ≡ 0 → t ∷ counts mode l bs ≡ t ∷ []
unfolding counts
counts-last mode l t bs z = rw z

more_of : (I : List ℕ) (t k m : ℕ) → k ≤ length I → m ≡ k → drop m (I ++ t ∷ []) ≡ drop k I ++ t ∷ []
more_of I t k m h e = ap (λ (j : ℕ). drop j (I ++ t ∷ [])) e ∙ drop-append-le k I (t ∷ []) h

island-pend : (mode : Mode) (s I : List ℕ) (at width ring l sp r t : ℕ) → Pend mode s (Island l sp r) I at ring
    → size_of mode (drop at s) ≡ record { n = t; width = width }
    → StepPend mode s (I ++ t ∷ []) (at + width) ring (island_of l sp r t)
unfolding island_of
island-pend mode s I at width ring l sp r t h e =
    let Q = StepPend mode s (I ++ t ∷ []) (at + width) ring in
    let one : counts mode l (drop at s) ≡ t ∷ counts mode (l - 1) (drop (at + width) s) =
    counts-one mode l (drop at s) t width h.0 e ∙ ap (λ (x : List ℕ). t ∷ counts mode (l - 1) x) (drop-drop width at s) in
    let k = length I + l - r in
    let kk : k ≤ length I = omega arith in
    let n : length (I ++ t ∷ []) ≡ length I + 1 = length-append I (t ∷ []) in
    cond-elim Q (leb 4 t && leb (t + 4) sp) _ _
    (λ _. cond-elim Q (leb l 1) _ _
    (λ y. let l1 : l ≤ 1 = leb-true l 1 y in
    let z : l - 1 ≡ 0 = omega arith in (
      omega arith,
      more_of I t k (length (I ++ t ∷ []) - r) kk (omega arith)
          ∙ ap (λ (x : List ℕ). drop k I ++ x) (sym (one ∙ counts-last mode (l - 1) t (drop (at + width) s) z))
          ∙ h.3,
    ))
    (λ y. let l1 : 1 < l = leb-false l 1 y in (
      omega arith,
      omega arith,
      omega arith,
      ap (λ (x : List ℕ). x ++ counts mode (l - 1) (drop (at + width) s)) (more_of I t k (length (I ++ t ∷ []) + (l - 1) - r) kk (omega arith))
          ∙ append_assoc (drop k I) (t ∷ []) (counts mode (l - 1) (drop (at + width) s))
          ∙ ap (λ (x : List ℕ). drop k I ++ x) (sym one)
          ∙ h.3,
    )))
    (λ _. tt)

-- the ring after this one: the sizes after its own stand behind that record
counts-tail : (mode : Mode) (q : ℕ) (I bs : List ℕ) → (q ≡ 0 → ⊥) → q ≤ length I → drop (length I - q) I ≡ counts mode q bs
    → drop (length I - (q - 1)) I ≡ counts mode (q - 1) (drop (size_of mode bs).width bs)
unfolding counts
counts-tail mode zero I bs ne h e = absurd (ne refl)
counts-tail mode (suc q) I bs ne h e =
    let z : suc q - 1 ≡ q = omega arith in
    let w : length I - q ≡ length I - suc q + 1 = omega arith in
    rw (z, w) (sym (drop-drop 1 (length I - suc q) I) ∙ ap (λ (l : List ℕ). drop 1 l) e)

ring-pend : (mode : Mode) (s I : List ℕ) (at ring next : ℕ) (r : Ring) (fx fy x y : ℕ)
    → (r.rings ≤ length I) × (drop (length I - r.rings) I ≡ counts mode r.rings (drop ring s))
    → StepPend mode s I at (ring + (cond (leb r.left 1 && not (eqb r.rings 0)) (size_of mode (drop ring s)) no_size).width) (ring_step r fx fy x y next)
unfolding ring_step
ring-pend mode s I at ring next r fx fy x y h = go (leb r.left 1) (eqb r.rings 0) refl
  where
    stay : (a : ℕ) → a ≡ ring + 0 → (r.rings ≤ length I) × (drop (length I - r.rings) I ≡ counts mode r.rings (drop a s))
    stay a e = let z : ring ≡ a = omega arith in subst (λ (k : ℕ). (r.rings ≤ length I) × (drop (length I - r.rings) I ≡ counts mode r.rings (drop k s))) z h

    go : (a b : Bool) → eqb r.rings 0 ≡ b
        → StepPend mode s I at (ring + (cond (a && not b) (size_of mode (drop ring s)) no_size).width)
        (cond a (cond (is_shut r.closed fx fy x y) (cond b (Ok (Some Due)) (Ok (Some (X (record { closed = r.closed; fresh = true; rings = r.rings - 1; left = next; fx = 0; fy = 0 }))))) (Err Refusal.OpenRing))
        (Ok (Some (X (record { closed = r.closed; fresh = false; rings = r.rings; left = r.left - 1; fx = fx; fy = fy })))))
    go true true e = cond-elim (StepPend mode s I at (ring + 0)) (is_shut r.closed fx fy x y) _ _ (λ _. tt) (λ _. tt)
    go true false e =
        cond-elim (StepPend mode s I at (ring + (size_of mode (drop ring s)).width)) (is_shut r.closed fx fy x y) _ _
        (λ _. (
          omega arith,
          counts-tail mode r.rings I (drop ring s) (eqb-false r.rings 0 e) h.0 h.1
              ∙ ap (counts mode (r.rings - 1)) (drop-drop (size_of mode (drop ring s)).width ring s),
        ))
        (λ _. tt)
    go false b e = stay (ring + 0) refl

-- a record that says an island's count, by its line
size_is : (mode : Mode) (bs : List ℕ) (len width t : ℕ) → line_of mode false bs ≡ got len width → of_whole (integer_of mode (take len bs)) ≡ Ok t
    → size_of mode bs ≡ record { n = t; width = width }
unfolding size_of
size_is mode bs len width t e f = rw e (go (integer_of mode (take len bs)) f)
  where
    go : (w : Option ℕ) → of_whole w ≡ Ok t → sized width w ≡ record { n = t; width = width }
    go (Some n) q = let z : n ≡ t = cc in ap (λ (k : ℕ). record { n = k; width = width }) z
    go None q = absurd (let z : ◌≡◌ {A = ℕ} 0 1 = cc in omega arith)

-- the sizes to come, after any record
step-pend : (mode : Mode) (s : List ℕ) (st : State) (t len width : ℕ) (c : List ℕ) (o : Tables) (at ring next : ℕ)
    → Pend mode s st o.islands at ring → line_of mode (is_due st) (drop at s) ≡ got len width → lex_of mode (want_of st) (take len (drop at s)) ≡ Ok t
    → StepPend mode s (put st t c o).islands (at + width) (isl_next st ring (size_next mode st (drop ring s)).width (at + width)) (step_of mode st t next)
unfolding step_of put size_next want_of lex_of vertex_of
step-pend mode s Due t len width c o at ring next h e f = key-pend mode s o.islands (at + width) ring t
step-pend mode s (Field kind p i) t len width c o at ring next h e f = field-pend mode s o.islands (at + width) kind p i t
step-pend mode s (Island l sp r) t len width c o at ring next h e f =
    island-pend mode s o.islands at width ring l sp r t h (size_is mode (drop at s) len width t e f)
step-pend mode s (X r) t len width c o at ring next h e f = h
step-pend mode s (Y r x) t len width c o at ring next h e f = ring-pend mode s o.islands (at + width) ring next r _ _ x t h

pub go-pend : (mode : Mode) (s : List ℕ) (st st' : State) (t len width : ℕ) (c : List ℕ) (o : Tables) (at ring next : ℕ)
    → Pend mode s st o.islands at ring → line_of mode (is_due st) (drop at s) ≡ got len width → lex_of mode (want_of st) (take len (drop at s)) ≡ Ok t
    → step_of mode st t next ≡ Ok (Some st')
    → Pend mode s st' (put st t c o).islands (at + width) (isl_next st ring (size_next mode st (drop ring s)).width (at + width))
go-pend mode s st st' t len width c o at ring next h e f g =
    subst (StepPend mode s (put st t c o).islands (at + width) (isl_next st ring (size_next mode st (drop ring s)).width (at + width))) g (step-pend mode s st t len width c o at ring next h e f)

-- where no ring ends the size of the next does not matter
pub step-free : (mode : Mode) (st : State) (t a b : ℕ) → is_turning st ≡ false → step_of mode st t a ≡ step_of mode st t b
unfolding step_of vertex_of ring_step
step-free mode Due t a b e = refl
step-free mode (Field k p i) t a b e = refl
step-free mode (Island l s r) t a b e = refl
step-free mode (X r) t a b e = refl
step-free mode (Y r x) t a b e = go (leb r.left 1) (eqb r.rings 0) e
  where
    last : Bool → ℕ → Step
    last q n = cond (is_shut r.closed (cond r.fresh x r.fx) (cond r.fresh t r.fy) x t)
        (cond q (Ok (Some Due)) (Ok (Some (X (record { closed = r.closed; fresh = true; rings = r.rings - 1; left = n; fx = 0; fy = 0 }))))) (Err Refusal.OpenRing)

    on : Step
    on = Ok (Some (X (record { closed = r.closed; fresh = false; rings = r.rings; left = r.left - 1; fx = cond r.fresh x r.fx; fy = cond r.fresh t r.fy })))

    go : (p q : Bool) → (p && not q) ≡ false → cond p (last q a) on ≡ cond p (last q b) on
    go true true e = refl
    go true false e = absurd (let z : ◌≡◌ {A = ℕ} 0 1 = cc in omega arith)
    go false q e = refl
