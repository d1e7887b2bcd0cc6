-- The points and the island counts that a writer gives are read back: a ring, the rings of a border, the vertices of a line. Assumes nothing.
use Prim.Native.Nat.{ℕ, suc, ◌+◌, ◌-◌, ◌*◌, ◌≤◌, ◌<◌}
use mathlib.Core.Path.{◌≡◌, refl, sym, ◌∙◌, ap, subst}
use mathlib.Core.List.{List, [], ◌∷◌, ◌++◌, append_assoc, append-nil}
use mathlib.Core.Bool.{Bool, true, false, cond, ◌&&◌}
use native.Mathlib.Omega.{arith}
use lib.ListN.{length, get_or, take, drop, length-append, length-drop}
use lib.Seq.{length-take-le, get_or-take, take-add}
use lib.Dec.{leb, eqb}
use lib.IntN.{ℤ, pos}
use borrow.Author.Tests.{leb-true, le-leb, lt-leb, eq-eqb, ne_eqb}
use Rattle.laws.specs.Lists.{all}
use Rattle.laws.specs.Whole.{eq_z}
use Rattle.laws.proofs.Choice.{and_left, and_right}
use Rattle.laws.proofs.Bits.{eq_z-same}
use Rattle.std.specs.Prelude.{Some, Ok}
use Rattle.record.specs.declared.Mode.{Mode}
use Rattle.number.specs.Number.{is_real}
use Rattle.spelling.specs.Spelling.{real_text}
use Rattle.token.specs.Lex.{lift, unlift}
use Rattle.token.proofs.TokenLaws.{lift-unlift}
use Rattle.machine.specs.declared.Ring.{Ring}
use Rattle.machine.specs.declared.State.{State}
use Rattle.machine.specs.declared.State.TheVariants.{Due, Island, X, Y}
use Rattle.machine.specs.Machine.{Step, want_of, fresh_ring, island_of, is_shut, ring_step, vertex_of, step_of}
use Rattle.sheet.specs.Tables.{Tables, put, ring_after}
use Rattle.sheet.proofs.Pass.{Pass, done}
use Rattle.sheet.proofs.Join.{pass-append}
use Rattle.made.specs.Made.{sum, four_at_least, are_reals, is_closed, are_closed, ring_sizes}
use Rattle.layout.specs.Sheet.{line, integers_text, reals_text}
use Rattle.layout.proofs.Contents.{integer-reads, real-reads, line-pass}

-- tables with more points, and with more island counts
abbrev pub pointed : Tables → List ℤ → Tables
pointed o s = record { rows = o.rows; letters = o.letters; islands = o.islands; points = o.points ++ s }

abbrev pub islanded : Tables → List ℕ → Tables
islanded o s = record { rows = o.rows; letters = o.letters; islands = o.islands ++ s; points = o.points }

-- ---- one vertex

vertex-pass : {mode : Mode} {st st₂ : State} {o o₂ : Tables} {bs : List ℕ} (r : Ring) (x y : ℤ) → is_real x ≡ true → is_real y ≡ true
    → vertex_of r (lift x) (lift y) (ring_after (X r) o) ≡ Ok (Some st) → Pass mode st (pointed o (x ∷ y ∷ [])) bs st₂ o₂
    → Pass mode (X r) o (line (real_text x) ++ (line (real_text y) ++ bs)) st₂ o₂
unfolding want_of step_of put ring_after
vertex-pass {mode} {st} {st₂} {o} {o₂} {bs} r x y hx hy s p =
    let e : (o.points ++ unlift (lift x) ∷ []) ++ unlift (lift y) ∷ [] ≡ o.points ++ x ∷ y ∷ [] = rw (lift-unlift x hx, lift-unlift y hy, append_assoc) in
    line-pass {st₁ = Y r (lift x)} {t = lift x} (real-reads x hx) refl
    (line-pass {st₁ = st} {t = lift y} (real-reads y hy) s
    (subst (λ (l : List ℤ). Pass mode st (record { rows = o.rows; letters = o.letters; islands = o.islands; points = l }) bs st₂ o₂) (sym e) p))

-- ---- a ring

-- where the last vertex of a ring leads
abbrev after_ring : Bool → ℕ → ℕ → State
after_ring closed rings next = cond (eqb rings 0) Due (X (fresh_ring closed (rings - 1) next))

pub go-cond : (b : Bool) (s t : State) → ◌≡◌ {A = Step} (cond b (Ok (Some s)) (Ok (Some t))) (Ok (Some (cond b s t)))
go-cond true s t = refl
go-cond false s t = refl

-- the vertices s of a ring, the first of them (fx, fy) or the first of s, meet in a point
abbrev Meets : Ring → List ℤ → Type 0
Meets r s =
    is_shut r.closed (cond r.fresh (lift (get_or s 0 (pos 0))) r.fx) (cond r.fresh (lift (get_or s 1 (pos 0))) r.fy)
    (lift (get_or s (length s - 2) (pos 0))) (lift (get_or s (length s - 1) (pos 0))) ≡ true

abbrev later : Ring → ℤ → ℤ → Ring
later r x y =
    record { closed = r.closed; fresh = false; rings = r.rings; left = r.left - 1; fx = cond r.fresh (lift x) r.fx; fy = cond r.fresh (lift y) r.fy }

step-last : (r : Ring) (x y : ℤ) (next : ℕ) → r.left ≤ 1 → Meets r (x ∷ y ∷ []) → vertex_of r (lift x) (lift y) next ≡ Ok (Some (after_ring r.closed r.rings next))
unfolding vertex_of ring_step
step-last r x y next h e = rw (le-leb r.left 1 h, e) (go-cond (eqb r.rings 0) Due (X (fresh_ring r.closed (r.rings - 1) next)))

step-on : (r : Ring) (x y : ℤ) (next : ℕ) → 1 < r.left → vertex_of r (lift x) (lift y) next ≡ Ok (Some (X (later r x y)))
unfolding vertex_of ring_step
step-on r x y next h = rw (lt-leb r.left 1 h)

ring-pass : {mode : Mode} (s : List ℤ) (r : Ring) (o : Tables) → length s ≡ 2 * r.left → 1 ≤ r.left → are_reals s ≡ true → Meets r s
    → Pass mode (X r) o (reals_text s) (after_ring r.closed r.rings (ring_after (X r) o)) (pointed o s)
unfolding reals_text are_reals ring_after
ring-pass [] r o l h e q = absurd (omega arith)
ring-pass (x ∷ []) r o l h e q = absurd (omega arith)
ring-pass (x ∷ y ∷ []) r o l h e q =
    let f = and_right (is_real x) (is_real y && true) e in
    vertex-pass r x y (and_left (is_real x) (is_real y && true) e) (and_left (is_real y) true f) (step-last r x y (ring_after (X r) o) (omega arith) q) done
ring-pass {mode} (x ∷ y ∷ a ∷ s) r o l h e q =
    let f = and_right (is_real x) (is_real y && are_reals (a ∷ s)) e in
    let m = length (a ∷ s) in
    let i : length (x ∷ y ∷ a ∷ s) - 2 ≡ suc (suc (m - 2)) = omega arith in
    let j : length (x ∷ y ∷ a ∷ s) - 1 ≡ suc (suc (m - 1)) = omega arith in
    let p = ring-pass {mode = mode} (a ∷ s) (later r x y) (pointed o (x ∷ y ∷ [])) (omega arith) (omega arith) (and_right (is_real y) (are_reals (a ∷ s)) f) (rw (i, j) at q) in
    vertex-pass r x y (and_left (is_real x) (is_real y && are_reals (a ∷ s)) e) (and_left (is_real y) (are_reals (a ∷ s)) f) (step-on r x y (ring_after (X r) o) (omega arith))
    (rw (append_assoc o.points (x ∷ y ∷ []) (a ∷ s)) at p)

-- ---- rings one behind the other

reals-append : (s t : List ℤ) → reals_text (s ++ t) ≡ reals_text s ++ reals_text t
unfolding reals_text
reals-append [] t = refl
reals-append (z ∷ s) t = ap (λ (x : List ℕ). line (real_text z) ++ x) (reals-append s t) ∙ sym (append_assoc (line (real_text z)) (reals_text s) (reals_text t))

are-reals-append : (s t : List ℤ) → are_reals (s ++ t) ≡ (are_reals s && are_reals t)
unfolding are_reals
are-reals-append [] t = refl
are-reals-append (z ∷ s) t = go (is_real z) (are-reals-append s t)
  where
    go : (x : Bool) → are_reals (s ++ t) ≡ (are_reals s && are_reals t) → (x && are_reals (s ++ t)) ≡ (x && are_reals s && are_reals t)
    go true h = h
    go false h = refl

-- a ring that is closed meets
closed-meets : (rings n : ℕ) (s : List ℤ) → 1 ≤ n → 2 * n ≤ length s → is_closed n s ≡ true → Meets (fresh_ring true rings n) (take (2 * n) s)
unfolding is_closed is_shut
closed-meets rings n s h l e =
    let i : length (take (2 * n) s) - 2 ≡ 2 * (n - 1) = omega (arith, length-take-le (2 * n) s l) in
    let j : length (take (2 * n) s) - 1 ≡ 2 * (n - 1) + 1 = omega (arith, length-take-le (2 * n) s l) in
    let x = eq_z (get_or s (2 * (n - 1)) (pos 0)) (get_or s 0 (pos 0)) in
    let y = eq_z (get_or s (2 * (n - 1) + 1) (pos 0)) (get_or s 1 (pos 0)) in
    let a = eq_z-same (get_or s (2 * (n - 1)) (pos 0)) (get_or s 0 (pos 0)) (and_left x y e) in
    let b = eq_z-same (get_or s (2 * (n - 1) + 1) (pos 0)) (get_or s 1 (pos 0)) (and_right x y e) in
    rw (
      i,
      j,
      get_or-take (2 * n) s 0 (pos 0) (omega arith),
      get_or-take (2 * n) s 1 (pos 0) (omega arith),
      get_or-take (2 * n) s (2 * (n - 1)) (pos 0) (omega arith),
      get_or-take (2 * n) s (2 * (n - 1) + 1) (pos 0) (omega arith),
      a,
      b,
      eq-eqb (lift (get_or s 0 (pos 0))) (lift (get_or s 0 (pos 0))) refl,
      eq-eqb (lift (get_or s 1 (pos 0))) (lift (get_or s 1 (pos 0))) refl,
    )

-- the size of the ring behind a ring is the first of the sizes that are to come
next-size : (a : List ℕ) (m : ℕ) (ms : List ℕ) → get_or (a ++ m ∷ ms) (length (a ++ m ∷ ms) - suc (length ms)) 0 ≡ m
next-size a m ms =
    let i : length (a ++ m ∷ ms) - suc (length ms) ≡ length a = omega (arith, length-append a (m ∷ ms)) in
    rw i (lib.Seq.get_or-append_seam a m ms 0)

after_is : (k next m : ℕ) → next ≡ m → after_ring true (suc k) next ≡ X (fresh_ring true k m)
after_is k next m e =
    let i : suc k - 1 ≡ k = omega arith in
    rw (e, ne_eqb (suc k) 0 (λ z. omega arith), i)

-- the outer ring of n vertices and the islands of sizes ns behind it
pub rings-pass : {mode : Mode} (ns : List ℕ) (n : ℕ) (s : List ℤ) (a : List ℕ) (o : Tables) → o.islands ≡ a ++ ns → 1 ≤ n → all four_at_least ns ≡ true
    → 2 * (n + sum ns) ≤ length s → are_reals (take (2 * (n + sum ns)) s) ≡ true → are_closed (n ∷ ns) s ≡ true
    → Pass mode (X (fresh_ring true (length ns) n)) o (reals_text (take (2 * (n + sum ns)) s)) Due (pointed o (take (2 * (n + sum ns)) s))
unfolding sum all are_closed ring_after
rings-pass [] n s a o q h f l e c =
    let i : 2 * (n + 0) ≡ 2 * n = omega arith in
    rw i (ring-pass (take (2 * n) s) (fresh_ring true 0 n) o (length-take-le (2 * n) s (omega arith)) h (rw i at e) (closed-meets 0 n s h (omega arith) (and_left (is_closed n s) true c)))
rings-pass {mode} (m ∷ ms) n s a o q h f l e c =
    let k = 2 * (m + sum ms) in
    let i : 2 * (n + (m + sum ms)) ≡ 2 * n + k = omega arith in
    let t : take (2 * (n + (m + sum ms))) s ≡ take (2 * n) s ++ take k (drop (2 * n) s) = rw i (take-add (2 * n) k s) in
    let e₁ : (are_reals (take (2 * n) s) && are_reals (take k (drop (2 * n) s))) ≡ true = sym (are-reals-append (take (2 * n) s) (take k (drop (2 * n) s))) ∙ rw t at e in
    let e₂ = and_left (are_reals (take (2 * n) s)) (are_reals (take k (drop (2 * n) s))) e₁ in
    let e₃ = and_right (are_reals (take (2 * n) s)) (are_reals (take k (drop (2 * n) s))) e₁ in
    let c₁ = and_left (is_closed n s) (are_closed (m ∷ ms) (drop (2 * n) s)) c in
    let c₂ = and_right (is_closed n s) (are_closed (m ∷ ms) (drop (2 * n) s)) c in
    let four = leb-true 4 m (and_left (leb 4 m) (all four_at_least ms) f) in
    let size : ring_after (X (fresh_ring true (suc (length ms)) n)) o ≡ m = rw q (next-size a m ms) in
    let first = ring-pass {mode = mode} (take (2 * n) s) (fresh_ring true (suc (length ms)) n) o (length-take-le (2 * n) s (omega arith)) h e₂ (closed-meets (suc (length ms)) n s h (omega arith) c₁) in
    let rest = rings-pass {mode = mode} ms m (drop (2 * n) s) (a ++ m ∷ []) (pointed o (take (2 * n) s)) (q ∙ sym (append_assoc a (m ∷ []) ms)) (omega arith)
    (and_right (leb 4 m) (all four_at_least ms) f) (omega (arith, length-drop (2 * n) s)) e₃ c₂ in
    rw (t, reals-append (take (2 * n) s) (take k (drop (2 * n) s)), ← append_assoc o.points (take (2 * n) s) (take k (drop (2 * n) s)))
    (pass-append (subst (λ (st : State). Pass mode (X (fresh_ring true (suc (length ms)) n)) o (reals_text (take (2 * n) s)) st (pointed o (take (2 * n) s))) (after_is (length ms) _ m size) first) rest)

-- the vertices of a line
pub line-points-pass : {mode : Mode} (n : ℕ) (s : List ℤ) (o : Tables) → 1 ≤ n → length s ≡ 2 * n → are_reals s ≡ true
    → Pass mode (X (fresh_ring false 0 n)) o (reals_text s) Due (pointed o s)
unfolding is_shut
line-points-pass n s o h l e = ring-pass s (fresh_ring false 0 n) o l h e refl

-- ---- island counts

pub islands-pass : {mode : Mode} (ns : List ℕ) (spare rings : ℕ) (o : Tables) → all four_at_least ns ≡ true → sum ns + 4 ≤ spare → spare ≤ 9999 → 1 ≤ length ns
    → Pass mode (Island (length ns) spare rings) o (integers_text ns) (X (fresh_ring true rings (spare - sum ns))) (islanded o ns)
unfolding sum all integers_text want_of step_of island_of put
islands-pass [] spare rings o f l m h = absurd (omega arith)
islands-pass (n ∷ []) spare rings o f l m h =
    let four = leb-true 4 n (and_left (leb 4 n) true f) in
    let i : spare - (n + 0) ≡ spare - n = omega arith in
    line-pass {t = n} (integer-reads n (omega arith)) (rw (i, le-leb 4 n four, le-leb (n + 4) spare (omega arith))) done
islands-pass {mode} (n ∷ k ∷ ns) spare rings o f l m h =
    let four = leb-true 4 n (and_left (leb 4 n) (all four_at_least (k ∷ ns)) f) in
    let i : spare - n - (k + sum ns) ≡ spare - (n + (k + sum ns)) = omega arith in
    let j : suc (suc (length ns)) - 1 ≡ suc (length ns) = omega arith in
    let p = islands-pass {mode = mode} (k ∷ ns) (spare - n) rings (islanded o (n ∷ [])) (and_right (leb 4 n) (all four_at_least (k ∷ ns)) f) (omega arith) (omega arith) (omega arith) in
    line-pass {st₁ = Island (suc (length ns)) (spare - n) rings} {t = n} (integer-reads n (omega arith))
    (rw (le-leb 4 n four, le-leb (n + 4) spare (omega arith), lt-leb (suc (suc (length ns))) 1 (omega arith), j))
    (rw (i, append_assoc o.islands (n ∷ []) (k ∷ ns)) at p)

-- ---- a border: its island counts, then its rings

pub border-pass : {mode : Mode} (ns : List ℕ) (v : ℕ) (s : List ℤ) (o : Tables) → all four_at_least ns ≡ true → sum ns + 4 ≤ v → v ≤ 9999
    → 2 * v ≤ length s → are_reals (take (2 * v) s) ≡ true → are_closed (ring_sizes v ns) s ≡ true
    → Pass mode (cond (eqb (length ns) 0) (X (fresh_ring true 0 v)) (Island (length ns) v (length ns))) o (integers_text ns ++ reals_text (take (2 * v) s)) Due
    (pointed (islanded o ns) (take (2 * v) s))
unfolding ring_sizes sum integers_text
border-pass {mode} ns v s o f l m h e c =
    let i : 2 * (v - sum ns + sum ns) ≡ 2 * v = omega arith in
    let p = rings-pass {mode = mode} ns (v - sum ns) s o.islands (islanded o ns) refl (omega arith) f (omega arith) (rw i e) c in
    go ns (rw i at p) f l
  where
    go : (ns : List ℕ) → Pass mode (X (fresh_ring true (length ns) (v - sum ns))) (islanded o ns) (reals_text (take (2 * v) s)) Due (pointed (islanded o ns) (take (2 * v) s))
        → all four_at_least ns ≡ true → sum ns + 4 ≤ v
        → Pass mode (cond (eqb (length ns) 0) (X (fresh_ring true 0 v)) (Island (length ns) v (length ns))) o (integers_text ns ++ reals_text (take (2 * v) s)) Due
        (pointed (islanded o ns) (take (2 * v) s))
    go [] p f l =
        let i : v - 0 ≡ v = omega arith in
        rw (append-nil o.islands) (rw (append-nil o.islands, i) at p)
    go (n ∷ ns) p f l = rw (ne_eqb (suc (length ns)) 0 (λ z. omega arith)) (pass-append (islands-pass (n ∷ ns) v (suc (length ns)) o f l m (omega arith)) p)
