-- A run of vertices is so many turns of the walk, two a vertex. Assumes nothing.
use Rattle.reader.specs.Turn.{onward}
use mathlib.Core.Path.{◌≡◌, refl, sym, ◌∙◌, ap, subst}
use mathlib.Core.Bool.{Bool, true, false}
use mathlib.Core.List.{List}
use Prim.Native.Nat.{ℕ, ◌+◌, ◌-◌, ◌*◌, ◌≤◌, ◌<◌}
use native.Mathlib.Omega.{arith}
use lib.ListN.{length, set, length-set}
use lib.IntN.{ℤ}
use borrow.Author.Tests.{le-leb, lt-leb}
use Rattle.record.specs.declared.Mode.{Mode}
use Rattle.token.specs.Lex.{unlift}
use Rattle.machine.specs.Machine.{want_of, is_shut, ring_step, vertex_of, step_of, one_of}
use Rattle.machine.specs.declared.Ring.{Ring}
use Rattle.machine.specs.declared.State.TheVariants.{X, Y}
use Rattle.quick.specs.declared.RealTaken.{RealTaken}
use Rattle.quick.specs.Seen.{RealAt, Vertices, none, more}
use Rattle.quick.proofs.Places.{real-inside, real-most}
use Rattle.sheet.specs.Tables.{Tables}
use Rattle.sheet.specs.Reading.{Sections}
use Rattle.reader.specs.Turn.{size_next, added, turn_of, InFile, Turns, still, on, past_vertices, behind_rings, begun, Runs, FirstAt}
use Rattle.reader.specs.Store.{token_most}
use Rattle.reader.specs.Store as Store
use Rattle.reader.specs.declared.ReadStand.{ReadStand}
use Rattle.reader.proofs.Standing.{At, Moved, TurnOk, turn-ok}

-- ---- one vertex

-- after an x, k vertices further
abbrev pub half : ReadStand → Ring → ℕ → ℕ → ℕ → ReadStand
half d r k x at =
    record {
      state = Y (record { closed = r.closed; fresh = false; rings = r.rings; left = r.left - k; fx = r.fx; fy = r.fy }) x;
      at = at;
      nth = d.nth + 2 * k + 1;
      ring = d.ring;
      needs = record { rows = d.needs.rows; letters = d.needs.letters; islands = d.needs.islands; points = d.needs.points + k };
    }

module _ (mode : Mode) (s : List ℕ) (d : ReadStand) (r : Ring) (k a : ℕ) where
  pub x-turn : (w x : ℕ) (p : RealAt mode s a w x) → turn_of mode s (past_vertices d r k a) ≡ onward (half d r k x (a + w)) x p.len
  unfolding turn_of one_of want_of step_of added
  x-turn w x p = rw (p.line, p.says)

  y-turn : (w x y : ℕ) (p : RealAt mode s a w y) → k + 1 < r.left → turn_of mode s (half d r k x a) ≡ onward (past_vertices d r (k + 1) (a + w)) y p.len
  unfolding turn_of one_of want_of step_of vertex_of ring_step added size_next
  y-turn w x y p h =
      let e : r.left - k - 1 ≡ r.left - (k + 1) = omega arith in
      let f : d.nth + 2 * k + 1 + 1 ≡ d.nth + 2 * (k + 1) = omega arith in
      let g : d.needs.points + k + 1 ≡ d.needs.points + (k + 1) = omega arith in
      let z : d.ring + 0 ≡ d.ring = omega arith in
      rw (p.line, p.says, lt-leb (r.left - k) 1 (omega arith), e, f, g, z)

-- ---- many

past-none : (d : ReadStand) (r : Ring) (at : ℕ) → d.state ≡ X r → r.fresh ≡ false → d.at ≡ at → d ≡ past_vertices d r 0 at
past-none d r at e f q =
    let a : r.left ≡ r.left - 0 = omega arith in
    let b : d.nth ≡ d.nth + 2 * 0 = omega arith in
    let c : d.needs.points ≡ d.needs.points + 0 = omega arith in
    let g : X r ≡ X (record { closed = r.closed; fresh = false; rings = r.rings; left = r.left - 0; fx = r.fx; fy = r.fy }) =
    (λ i. X (record { closed = r.closed; fresh = f i; rings = r.rings; left = a i; fx = r.fx; fy = r.fy })) in
    λ i. record {
      state = (e ∙ g) i;
      at = q i;
      nth = b i;
      ring = d.ring;
      needs = record { rows = d.needs.rows; letters = d.needs.letters; islands = d.needs.islands; points = c i };
    }

module _ {mode : Mode} {s : List ℕ} {at : ℕ} where
  -- a record takes a byte at least
  pub run_inside : {k a : ℕ} → Vertices mode s at k a → at ≤ length s → (at + 2 * k ≤ a) × (a ≤ length s)
  run_inside none h = (omega arith, h)
  run_inside (more v p q) h =
      let i = run_inside v h in
      let x = real-inside p in
      let y = real-inside q in
      (omega arith, y.1)

  run-turns : (d e : ReadStand) (r : Ring) (j : ℕ) {k a : ℕ} → Vertices mode s at k a → j + k < r.left → Turns mode s e (past_vertices d r j at) → Turns mode s e (past_vertices d r (j + k) a)
  run-turns d e r j none h t =
      let z : j ≡ j + 0 = omega arith in
      subst (λ (n : ℕ). Turns mode s e (past_vertices d r n at)) z t
  run-turns d e r j (more {k} {a} {w} {x} {w'} {y} v p q) h t =
      let z : j + k + 1 ≡ j + (k + 1) = omega arith in
      let g = run-turns d e r j v (omega arith) t in
      subst (λ (n : ℕ). Turns mode s e (past_vertices d r n (a + w + w'))) z (on (on g (x-turn mode s d r (j + k) a w x p)) (y-turn mode s d r (j + k) (a + w) w' x y q (omega arith)))

pub turns-join : {mode : Mode} {s : List ℕ} {d e f : ReadStand} → Turns mode s d e → Turns mode s e f → Turns mode s d f
turns-join p still = p
turns-join p (on q t) = on (turns-join p q) t

-- the ways of `skim`
module _ (mode : Mode) (s : List ℕ) (d : ReadStand) (w : InFile s d) (r : Ring) (e : d.state ≡ X r) (f : r.fresh ≡ false) (m : 2 ≤ r.left)
    (k a : ℕ) (v : (k ≤ r.left - 1) × Vertices mode s d.at k a) where
  pub skim-runs : Runs s d r k a
  skim-runs =
      let i = run_inside v.1 w.here in
      record { left = omega (arith, v.0); here = i.1; counted = omega (arith, w.small, w.counted, i); points = omega (arith, w.small, w.points, i) }

  pub skim-on : (b : ReadStand) → Turns mode s (past_vertices d r k a) b → Turns mode s d b
  skim-on b q =
      let z : 0 + k ≡ k = omega arith in
      turns-join (subst (λ (n : ℕ). Turns mode s d (past_vertices d r n a)) z
      (run-turns d d r 0 v.1 (omega (arith, v.0)) (subst (Turns mode s d) (past-none d r d.at e f refl) still))) q

-- the first vertex
module _ (mode : Mode) (s : List ℕ) (d : ReadStand) (r : Ring) where
  -- after its x
  abbrev opened : ℕ → ℕ → ReadStand
  opened x at = record { state = Y r x; at = at; nth = d.nth + 1; ring = d.ring; needs = d.needs }

  first-x : (w x : ℕ) (p : RealAt mode s d.at w x) → d.state ≡ X r → turn_of mode s d ≡ onward (opened x (d.at + w)) x p.len
  unfolding turn_of one_of want_of step_of added
  first-x w x p e = rw (e, p.line, p.says)

  first-y : (a w x y : ℕ) (p : RealAt mode s a w y) → r.fresh ≡ true → 2 ≤ r.left → turn_of mode s (opened x a) ≡ onward (past_vertices d (begun r x y) 1 (a + w)) y p.len
  unfolding turn_of one_of want_of step_of vertex_of ring_step added size_next
  first-y a w x y p f h =
      let g : d.nth + 1 + 1 ≡ d.nth + 2 * 1 = omega arith in
      let z : d.ring + 0 ≡ d.ring = omega arith in
      rw (p.line, p.says, f, lt-leb r.left 1 (omega arith), g, z)

-- the ways of `first_at`
module _ (mode : Mode) (s : List ℕ) (at : ℕ) (x y : RealTaken) (f : 0 < x.width → RealAt mode s at x.width x.value) (n : x.width ≡ 0 → ⊥) where
  pub first-mid : at + x.width ≤ length s
  first-mid = (real-inside (f (omega arith))).1

  module _ (g : 0 < y.width → RealAt mode s (at + x.width) y.width y.value) (o : y.width ≡ 0 → ⊥) where
    pub first-end : at + x.width + y.width ≤ length s
    first-end = (real-inside (g (omega arith))).1

    pub first-is : FirstAt mode s at x.value y.value (at + x.width + y.width)
    first-is = record { w = x.width; w' = y.width; real-x = f (omega arith); real-y = g (omega arith); there = refl }

-- the ways of `skim_fresh`
module _ (mode : Mode) (s : List ℕ) (d : ReadStand) (w : InFile s d) (r : Ring) (c : (d.state ≡ X r) × (r.fresh ≡ true) × (2 ≤ r.left))
    (x y n : ℕ) (the-first : FirstAt mode s d.at x y n) (k a : ℕ) (v : (k ≤ r.left - 2) × Vertices mode s n k a) where
  pub fresh-bounds : (d.at + 2 ≤ n) × (n + 2 * k ≤ a) × (a ≤ length s)
  fresh-bounds =
      let p = real-inside the-first.real-x in
      let q = real-inside the-first.real-y in
      let t = the-first.there in
      let i = run_inside v.1 (omega (arith, q, t)) in
      (omega (arith, p, q, t), i.0, i.1)

  module _ (b : Ring) (g : b ≡ begun r x y) where
    pub fresh-runs : Runs s d b (k + 1) a
    fresh-runs =
        let i = fresh-bounds in
        rw g (record { left = omega (arith, v.0, c.2); here = i.2; counted = omega (arith, w.small, w.counted, i); points = omega (arith, w.small, w.points, i) })

    pub fresh_on : (e : ReadStand) → Turns mode s (past_vertices d b (k + 1) a) e → Turns mode s d e
    fresh_on e q =
        let t = the-first in
        let u : 1 + k ≡ k + 1 = omega arith in
        let h : Turns mode s d (past_vertices d (begun r x y) 1 n) =
        rw t.there (on (on still (first-x mode s d r t.w x t.real-x c.0)) (first-y mode s d r (d.at + t.w) t.w' x y t.real-y c.1 c.2)) in
        turns-join (rw g (subst (λ (j : ℕ). Turns mode s d (past_vertices d (begun r x y) j a)) u (run-turns d d (begun r x y) 1 v.1 (omega (arith, v.0, c.2)) h))) q

-- ---- the last vertex of the last ring

module _ (mode : Mode) (s : List ℕ) (d : ReadStand) (r : Ring) (k a : ℕ) where
  last-y : (w x y : ℕ) (p : RealAt mode s a w y) → r.left - k ≤ 1 → r.rings ≡ 0 → is_shut r.closed r.fx r.fy x y ≡ true
      → turn_of mode s (half d r k x a) ≡ onward (behind_rings d (k + 1) (a + w)) y p.len
  unfolding turn_of one_of want_of step_of vertex_of ring_step added size_next
  last-y w x y p h z q =
      let f : d.nth + 2 * k + 1 + 1 ≡ d.nth + 2 * (k + 1) = omega arith in
      let g : d.needs.points + k + 1 ≡ d.needs.points + (k + 1) = omega arith in
      let o : d.ring + 0 ≡ d.ring = omega arith in
      rw (p.line, p.says, le-leb (r.left - k) 1 h, q, z, f, g, o)

-- the ways of `shut_at`
module _ (mode : Mode) (s : List ℕ) (d : ReadStand) (r : Ring) (k at : ℕ) (v : Runs s d r k at) where
  pub shut-asks : (k ≤ r.left) × (d.nth + 2 * k < 18446744073709551616) × (d.needs.points + k < 18446744073709551616)
  shut-asks = (omega (arith, v.left), omega (arith, v.counted), omega (arith, v.points))

  pub ended-asks : (d.nth + 2 * (k + 1) < 18446744073709551616) × (d.needs.points + (k + 1) < 18446744073709551616)
  ended-asks = (v.counted, omega (arith, v.points))

  pub shut-still : (e : ReadStand) → e ≡ past_vertices d r k at → Turns mode s (past_vertices d r k at) e
  shut-still e q = rw q still

  module _ (z : (r.left - k ≤ 1) × (r.rings ≡ 0)) (x y n : ℕ) (last : FirstAt mode s at x y n) (b : Bool) (g : b ≡ is_shut r.closed r.fx r.fy x y) (t : b ≡ true) where
    last-x-turn : turn_of mode s (past_vertices d r k at) ≡ onward (half d r k x (at + last.w)) x last.real-x.len
    last-x-turn = x-turn mode s d r k at last.w x last.real-x

    last-y-turn : turn_of mode s (half d r k x (at + last.w)) ≡ onward (behind_rings d (k + 1) n) y last.real-y.len
    last-y-turn = last-y mode s d r k (at + last.w) last.w' x y last.real-y z.0 z.1 (sym g ∙ t)
        ∙ ap (λ (z : ℕ). onward (behind_rings d (k + 1) z) y last.real-y.len) (sym last.there)

    pub shut-on : (e : ReadStand) → e ≡ behind_rings d (k + 1) n → Turns mode s (past_vertices d r k at) e
    shut-on e q = rw q (on (on still last-x-turn) last-y-turn)

    pub shut-most : (x ≤ token_most) × (y ≤ token_most)
    shut-most = (real-most last.real-x, real-most last.real-y)

    pub shut-stored : (l l₁ l₂ : List ℤ) → l₁ ≡ set l (2 * (d.needs.points + k)) (unlift x) → l₂ ≡ set l₁ (2 * (d.needs.points + k) + 1) (unlift y)
        → (e : ReadStand) → e ≡ behind_rings d (k + 1) n → Store.Stores mode s (past_vertices d r k at) l e l₂
    shut-stored l l₁ l₂ p p' e q = rw (q, p', p) (Store.on (Store.on Store.still tt last-x-turn) tt last-y-turn)

  pub shut-kept : (l : List ℤ) (e : ReadStand) → e ≡ past_vertices d r k at → Store.Stores mode s (past_vertices d r k at) l e l
  shut-kept l e q = rw q Store.still

-- ---- the same with the points stored

module _ {mode : Mode} {s : List ℕ} {at from : ℕ} {l : List ℤ} where
  pub stored-run : {k a : ℕ} {m : List ℤ} → Store.VerticesStored mode s at from l k a m → Vertices mode s at k a
  stored-run Store.none = none
  stored-run (Store.more v p q) = more (stored-run v) p q

  pub stored-length : {k a : ℕ} {m : List ℤ} → Store.VerticesStored mode s at from l k a m → length m ≡ length l
  stored-length Store.none = refl
  stored-length (Store.more {k} {x = x} {m = m} v p q) = simp (length-set, stored-length v)

module _ {mode : Mode} {s : List ℕ} {at : ℕ} where
  run-stores : (d e : ReadStand) (r : Ring) (j : ℕ) (l₀ l : List ℤ) {k a : ℕ} {m : List ℤ} → Store.VerticesStored mode s at (d.needs.points + j) l k a m → j + k < r.left
      → Store.Stores mode s e l₀ (past_vertices d r j at) l → Store.Stores mode s e l₀ (past_vertices d r (j + k) a) m
  run-stores d e r j l₀ l Store.none h t =
      let z : j ≡ j + 0 = omega arith in
      subst (λ (n : ℕ). Store.Stores mode s e l₀ (past_vertices d r n at) l) z t
  run-stores d e r j l₀ l (Store.more {k} {a} {w} {x} {w'} {y} {m} v p q) h t =
      let z : j + k + 1 ≡ j + (k + 1) = omega arith in
      let u : d.needs.points + j + k ≡ d.needs.points + (j + k) = omega arith in
      let g = run-stores d e r j l₀ l v (omega arith) t in
      let m₁ = set (set m (2 * (d.needs.points + (j + k))) (unlift x)) (2 * (d.needs.points + (j + k)) + 1) (unlift y) in
      rw u (subst (λ (n : ℕ). Store.Stores mode s e l₀ (past_vertices d r n (a + w + w')) m₁) z
      (Store.on (Store.on g tt (x-turn mode s d r (j + k) a w x p)) tt (y-turn mode s d r (j + k) (a + w) w' x y q (omega arith))))

pub stores-join : {mode : Mode} {s : List ℕ} {d e : ReadStand} {l m : List ℤ} {f : ReadStand} {n : List ℤ} → Store.Stores mode s d l e m → Store.Stores mode s e m f n → Store.Stores mode s d l f n
stores-join p Store.still = p
stores-join p (Store.on q v t) = Store.on (stores-join p q) v t

pub stores-turns : {mode : Mode} {s : List ℕ} {d : ReadStand} {l : List ℤ} {e : ReadStand} {m : List ℤ} → Store.Stores mode s d l e m → Turns mode s d e
stores-turns Store.still = still
stores-turns (Store.on q v t) = on (stores-turns q) t

-- the ways of `run_into`
module _ (mode : Mode) (s : List ℕ) (d : ReadStand) (w : InFile s d) (r : Ring) (e : d.state ≡ X r) (f : r.fresh ≡ false) (n : 2 ≤ r.left)
    (l m : List ℤ) (k a : ℕ) (v : (k ≤ r.left - 1) × Store.VerticesStored mode s d.at d.needs.points l k a m) where
  pub into-runs : Runs s d r k a
  into-runs = skim-runs mode s d w r e f n k a (v.0, stored-run v.1)

  pub into-on : (b : ReadStand) (m' : List ℤ) → Store.Stores mode s (past_vertices d r k a) m b m' → Store.Stores mode s d l b m'
  into-on b m' q =
      let o : d.needs.points ≡ d.needs.points + 0 = omega arith in
      let z : 0 + k ≡ k = omega arith in
      let g : Store.VerticesStored mode s d.at (d.needs.points + 0) l k a m = subst (λ (x : ℕ). Store.VerticesStored mode s d.at x l k a m) o v.1 in
      stores-join (subst (λ (x : ℕ). Store.Stores mode s d l (past_vertices d r x a) m) z
      (run-stores d d r 0 l l g (omega (arith, v.0)) (subst (λ (x : ReadStand). Store.Stores mode s d l x l) (past-none d r d.at e f refl) Store.still))) q

-- the ways of `fresh_into`
module _ (mode : Mode) (s : List ℕ) (d : ReadStand) (w : InFile s d) (r : Ring) (c : (d.state ≡ X r) × (r.fresh ≡ true) × (2 ≤ r.left))
    (x y n : ℕ) (t : FirstAt mode s d.at x y n) where
  pub fresh-most : (x ≤ token_most) × (y ≤ token_most)
  fresh-most = (real-most t.real-x, real-most t.real-y)

  module _ (l l₁ l₂ m : List ℤ) (p : l₁ ≡ set l (2 * d.needs.points) (unlift x)) (p' : l₂ ≡ set l₁ (2 * d.needs.points + 1) (unlift y))
      (k a : ℕ) (v : (k ≤ r.left - 2) × Store.VerticesStored mode s n (d.needs.points + 1) l₂ k a m) (b : Ring) (g : b ≡ begun r x y) where
    pub fresh-into-on : (e : ReadStand) (m' : List ℤ) → Store.Stores mode s (past_vertices d b (k + 1) a) m e m' → Store.Stores mode s d l e m'
    fresh-into-on e m' q =
        let u : 1 + k ≡ k + 1 = omega arith in
        let q₀ : Store.points_put d.state x d.needs l ≡ set l (2 * d.needs.points) (unlift x) = rw c.0 in
        let h₁ : Store.Stores mode s d l (opened mode s d r x (d.at + t.w)) (set l (2 * d.needs.points) (unlift x)) =
        subst (Store.Stores mode s d l (opened mode s d r x (d.at + t.w))) q₀
        (Store.on Store.still (subst Store.AtVertex (sym c.0) tt) (first-x mode s d r t.w x t.real-x c.0)) in
        let h : Store.Stores mode s d l (past_vertices d (begun r x y) 1 n) l₂ =
        rw (p', p, t.there) (Store.on h₁ tt (first-y mode s d r (d.at + t.w) t.w' x y t.real-y c.1 c.2)) in
        stores-join (rw g (subst (λ (j : ℕ). Store.Stores mode s d l (past_vertices d (begun r x y) j a) m) u (run-stores d d (begun r x y) 1 l l₂ v.1 (omega (arith, v.0, c.2)) h))) q

-- the ways of `store_run`
module _ (mode : Mode) (s : List ℕ) (at from : ℕ) (l m : List ℤ) (k here : ℕ) (x y : RealTaken) (v : Store.VerticesStored mode s at from l k here m) (f : 0 < x.width → RealAt mode s here x.width x.value) (n : x.width ≡ 0 → ⊥) where
  pub stored-x : (here + x.width ≤ length s) × (x.value ≤ token_most)
  stored-x = let r = f (omega arith) in ((real-inside r).1, real-most r)

  module _ (g : 0 < y.width → RealAt mode s (here + x.width) y.width y.value) (o : y.width ≡ 0 → ⊥) where
    pub stored-y : (here + x.width + y.width ≤ length s) × (y.value ≤ token_most)
    stored-y = let r = g (omega arith) in ((real-inside r).1, real-most r)

    pub stored_on : (m₁ m₂ : List ℤ) → m₁ ≡ set m (2 * (from + k)) (unlift x.value) → m₂ ≡ set m₁ (2 * (from + k) + 1) (unlift y.value)
        → Store.VerticesStored mode s at from l (k + 1) (here + x.width + y.width) m₂
    stored_on m₁ m₂ p q = rw (q, p) (Store.more v (f (omega arith)) (g (omega arith)))

-- ---- the first pass goes on behind the turns

pub record Reached (mode : Mode) (s : List ℕ) (target : Sections) (from : ℕ) (d : ReadStand) : Type 0 where
  pub tables : Tables
  pub stands : At mode s target tables d
  pub past-it : from ≤ d.at

pub turns-reach : {mode : Mode} {s : List ℕ} {target : Sections} {o : Tables} {d e : ReadStand} → At mode s target o d → Turns mode s d e → Reached mode s target d.at e
turns-reach h still = record { tables = _; stands = h; past-it = omega arith }
turns-reach {mode} {s} {target} {o} {d} h (on {e} {f} {t} {len} p q) =
    let b = turns-reach h p in
    let m : Moved mode s target b.tables e f t len = subst (TurnOk mode s target b.tables e) q (turn-ok mode s target b.tables e b.stands) in
    record { tables = _; stands = m.then; past-it = omega (arith, b.past-it, m.on) }
