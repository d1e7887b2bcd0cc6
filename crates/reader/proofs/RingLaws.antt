-- A whole ring in its usual form is so many turns of the walk. Assumes nothing.
use Rattle.std.specs.Prelude.{Option, Some, None, Ok}
use Rattle.record.specs.declared.refusal.Refusal.TheVariants as Refusal
use Rattle.machine.specs.Machine.{Step}
use Rattle.reader.specs.Turn.{onward, halted}
use mathlib.Core.Path.{◌≡◌, refl, sym, ◌∙◌, ap, subst}
use mathlib.Core.Bool.{Bool, true, false, not, ◌&&◌, ◌||◌}
use mathlib.Core.List.{List, []}
use Prim.Native.Nat.{ℕ, zero, suc, ◌+◌, ◌-◌, ◌*◌, ◌≤◌, ◌<◌}
use native.Mathlib.Nat.{mul-suc, add-sub_cancel_left}
use native.Mathlib.Numerals.{add-one}
use native.Mathlib.Omega.{arith}
use lib.ListN.{length, get_or, take, drop, set, length-set, length-drop}
use lib.Seq.{ext_get_or}
use lib.Dec.{eqb}
use lib.IntN.{ℤ}
use borrow.Author.Tests.{le-leb, eq-eqb, eqb-true, eqb-false, not-false}
use Rattle.laws.specs.Lists.{tail}
use Rattle.laws.proofs.ListLaws.{rest-is}
use Rattle.laws.proofs.Choice.{and_left, and_right}
use Rattle.record.specs.declared.Mode.{Mode}
use Rattle.record.specs.declared.Mode.TheVariants.{Exact}
use Rattle.record.specs.Record.{is_exact}
use Rattle.record.specs.Refusals.{file_most}
use Rattle.record.proofs.RecordLaws.{line_view}
use Rattle.number.specs.Number.{integer_of, real_of}
use Rattle.number.proofs.NumberLaws.{integer-most}
use Rattle.token.specs.Lex.{unlift, of_whole, lex_of}
use Rattle.token.specs.declared.Want.TheVariants.{Int}
use Rattle.quick.specs.declared.IntegerTaken.{IntegerTaken}
use Rattle.quick.specs.Seen.{RealAt, UsualAt, Usual, ValueAt, IntegerAt}
use Rattle.quick.proofs.Places.{real-inside, real-most}
use Rattle.quick.proofs.UsualLaws.{usual-long, usual-real}
use Rattle.machine.specs.Machine.{want_of, is_shut, ring_step, vertex_of, step_of, one_of}
use Rattle.machine.specs.declared.Ring.{Ring}
use Rattle.machine.specs.declared.State.{State}
use Rattle.machine.specs.declared.State.TheVariants.{Island, X}
use Rattle.reader.specs.Turn.{size_of, size_next, added, turn_of, InFile, Turns, still, on, begun, FirstAt}
use Rattle.reader.specs.Store.{token_most}
use Rattle.reader.specs.Store as Store
use Rattle.reader.specs.Trust.{Sure}
use Rattle.reader.specs.RingRun.{of_real, real_in, stored_reals, Storable, ShutAt, past_ring, behind_ring, past_islands, IslandsPut}
use Rattle.reader.specs.declared.Size.{Size}
use Rattle.reader.specs.declared.ReadStand.{ReadStand}
use Rattle.reader.proofs.Standing.{size-width}
use Rattle.reader.proofs.Running.{half, x-turn, fresh-into-on, stores-turns}
use Rattle.reader.proofs.Fields.{SizeRead, size-read}
use Rattle.reader.proofs.Trusted.{sure-usual}

-- ---- reals in their usual form

module _ {mode : Mode} {s : List ℕ} {at w : ℕ} (u : UsualAt mode s at w) where
  pub usual-in : RealAt mode s at w (real_in s at)
  unfolding real_in
  usual-in = rw u.real (usual-real u)

  pub value_in : (v : ℕ) → ValueAt s at v → v ≡ real_in s at
  unfolding real_in
  value_in v h = h.lifted mode w u ∙ rw u.real

-- two more in the table
stored-two : (s : List ℕ) (at w cell : ℕ) (l : List ℤ) (i : ℕ) → stored_reals s at w cell l (suc (suc i))
    ≡ set (set (stored_reals s at w cell l i) (cell + i) (unlift (real_in s (at + w * i)))) (cell + suc i) (unlift (real_in s (at + w * suc i)))
unfolding stored_reals
stored-two s at w cell l i = refl

stored-none : (s : List ℕ) (at w cell : ℕ) (l : List ℤ) → stored_reals s at w cell l 0 ≡ l
unfolding stored_reals
stored-none s at w cell l = refl

-- a place two records further
second-place : (at w i : ℕ) → at + w * suc i ≡ at + w * i + w
second-place at w i = rw (mul-suc w i) (omega arith)

stored_next : (s : List ℕ) (at w from : ℕ) (l : List ℤ) (k : ℕ)
    → set (set (stored_reals s at w (2 * from) l (2 * k)) (2 * (from + k)) (unlift (real_in s (at + w * (2 * k))))) (2 * (from + k) + 1) (unlift (real_in s (at + w * (2 * k) + w)))
    ≡ stored_reals s at w (2 * from) l (2 * (k + 1))
stored_next s at w from l k =
    let q : 2 * (k + 1) ≡ suc (suc (2 * k)) = omega arith in
    let b : 2 * (from + k) + 1 ≡ 2 * from + suc (2 * k) = omega arith in
    let c : 2 * (from + k) ≡ 2 * from + 2 * k = omega arith in
    rw (b, c, ← second-place at w (2 * k), q, stored-two s at w (2 * from) l (2 * k))

next_place : (at w k : ℕ) → at + w * (2 * k) + w + w ≡ at + w * (2 * (k + 1))
next_place at w k =
    let q : 2 * (k + 1) ≡ suc (suc (2 * k)) = omega arith in
    rw (q, mul-suc w (suc (2 * k)), mul-suc w (2 * k)) (omega arith)

-- one vertex of a run, and the vertices behind the first
module _ (mode : Mode) (s : List ℕ) (at w n : ℕ) (u : Usual mode s at w n) where
  x-there : (k : ℕ) → 2 * k < n → RealAt mode s (at + w * (2 * k)) w (real_in s (at + w * (2 * k)))
  x-there k h = usual-in (u.each (2 * k) h)

  y-there : (k : ℕ) → 2 * k + 1 < n → RealAt mode s (at + w * (2 * k) + w) w (real_in s (at + w * (2 * k) + w))
  y-there k h = rw (← second-place at w (2 * k)) (usual-in (u.each (suc (2 * k)) (omega arith)))

  vertex-there : (k : ℕ) → 2 * (k + 1) ≤ n → FirstAt mode s (at + w * (2 * k)) (real_in s (at + w * (2 * k))) (real_in s (at + w * (2 * k) + w)) (at + w * (2 * (k + 1)))
  vertex-there k h = record { w = w; w' = w; real-x = x-there k (omega arith); real-y = y-there k (omega arith); there = sym (next_place at w k) }

  rest-stored : (from : ℕ) (l : List ℤ) (k : ℕ) → 2 * (k + 1) ≤ n
      → Store.VerticesStored mode s (at + w * (2 * 1)) (from + 1) (stored_reals s at w (2 * from) l (2 * 1)) k (at + w * (2 * (k + 1))) (stored_reals s at w (2 * from) l (2 * (k + 1)))
  rest-stored from l zero h = Store.none
  rest-stored from l (suc k) h =
      let i = k + 1 in
      let a : from + 1 + k ≡ from + i = omega arith in
      let m = stored_reals s at w (2 * from) l (2 * i) in
      let Upto : ℕ → ℕ → List ℤ → Type 0 = λ j p t. Store.VerticesStored mode s (at + w * (2 * 1)) (from + 1) (stored_reals s at w (2 * from) l (2 * 1)) j p t in
      let v : Upto (k + 1) (at + w * (2 * i) + w + w) (set (set m (2 * (from + 1 + k)) (unlift (real_in s (at + w * (2 * i))))) (2 * (from + 1 + k) + 1) (unlift (real_in s (at + w * (2 * i) + w)))) =
      Store.more (rest-stored from l k (omega arith)) (x-there i (omega arith)) (y-there i (omega arith)) in
      let v₁ = subst (λ (j : ℕ). Upto (k + 1) (at + w * (2 * i) + w + w) (set (set m (2 * j) (unlift (real_in s (at + w * (2 * i))))) (2 * j + 1) (unlift (real_in s (at + w * (2 * i) + w))))) a v in
      let v₂ = subst (λ (t : List ℤ). Upto (k + 1) (at + w * (2 * i) + w + w) t) (stored_next s at w from l i) v₁ in
      let v₃ = subst (λ (p : ℕ). Upto (k + 1) p (stored_reals s at w (2 * from) l (2 * (i + 1)))) (next_place at w i) v₂ in
      subst (λ (j : ℕ). Upto j (at + w * (2 * (j + 1))) (stored_reals s at w (2 * from) l (2 * (j + 1)))) (add-one k) v₃

-- ---- the last vertex of a ring

module _ (mode : Mode) (s : List ℕ) (d : ReadStand) (r : Ring) (k a w x y : ℕ) (p : RealAt mode s a w y) (e : k + 1 ≡ r.left) where
  last-any : is_shut r.closed r.fx r.fy x y ≡ true → turn_of mode s (half d r k x a) ≡ onward (behind_ring mode s d r (a + w)) y p.len
  unfolding turn_of one_of want_of step_of vertex_of ring_step added size_next behind_ring
  last-any q = go (eqb r.rings 0) refl
    where
      f : d.nth + 2 * k + 1 + 1 ≡ d.nth + 2 * r.left
      f = omega arith

      g : d.needs.points + k + 1 ≡ d.needs.points + r.left
      g = omega arith

      o : d.ring + 0 ≡ d.ring
      o = omega arith

      go : (b : Bool) → eqb r.rings 0 ≡ b → turn_of mode s (half d r k x a) ≡ onward (behind_ring mode s d r (a + w)) y p.len
      go true z = rw (p.line, p.says, le-leb (r.left - k) 1 (omega arith), q, z, f, g, o)
      go false z = rw (p.line, p.says, le-leb (r.left - k) 1 (omega arith), q, z, f, g)

  last-open : is_shut r.closed r.fx r.fy x y ≡ false → turn_of mode s (half d r k x a) ≡ halted Refusal.OpenRing (d.nth + 2 * k + 1) a
  unfolding turn_of one_of want_of step_of vertex_of ring_step
  last-open q = rw (p.line, p.says, le-leb (r.left - k) 1 (omega arith), q)

  last-shut : Sure mode s d → Turns mode s d (half d r k x a) → is_shut r.closed r.fx r.fy x y ≡ true
  last-shut h t = go (is_shut r.closed r.fx r.fy x y) refl
    where
      go : (b : Bool) → is_shut r.closed r.fx r.fy x y ≡ b → is_shut r.closed r.fx r.fy x y ≡ true
      go true z = z
      go false z = absurd (h.never (half d r k x a) t Refusal.OpenRing (d.nth + 2 * k + 1) a (last-open z))

behind-begun : (mode : Mode) (s : List ℕ) (d : ReadStand) (r : Ring) (x y at : ℕ) → behind_ring mode s d (begun r x y) at ≡ behind_ring mode s d r at
unfolding behind_ring
behind-begun mode s d r x y at = refl

-- ---- a whole ring

module _ (mode : Mode) (s : List ℕ) (d : ReadStand) (i : InFile s d) (r : Ring) (c : (d.state ≡ X r) × (r.fresh ≡ true) × (2 ≤ r.left)) (w : ℕ) (u : Usual mode s d.at w (2 * r.left)) (l : List ℤ) where
  -- all of its vertices but one
  abbrev k : ℕ
  k = r.left - 2 + 1

  abbrev x₀ : ℕ
  x₀ = real_in s d.at

  abbrev y₀ : ℕ
  y₀ = real_in s (d.at + w)

  abbrev last : ℕ
  last = d.at + w * (2 * k)

  abbrev table : ℕ → List ℤ
  table n = stored_reals s d.at w (2 * d.needs.points) l n

  head : FirstAt mode s d.at x₀ y₀ (d.at + w * (2 * 1))
  head =
      let z : d.at + w * (2 * 0) ≡ d.at = omega arith in
      subst (λ (a : ℕ). FirstAt mode s a (real_in s a) (real_in s (a + w)) (d.at + w * (2 * 1))) z (vertex-there mode s d.at w (2 * r.left) u 0 (omega (arith, c.2)))

  head-stored : table (2 * 1) ≡ set (set l (2 * d.needs.points) (unlift x₀)) (2 * d.needs.points + 1) (unlift y₀)
  head-stored =
      let z : d.at + w * (2 * 0) ≡ d.at = omega arith in
      let p : 2 * (d.needs.points + 0) ≡ 2 * d.needs.points = omega arith in
      let T : ℕ → ℕ → List ℤ → Type 0 = λ a n m. table (2 * 1) ≡ set (set m n (unlift (real_in s a))) (n + 1) (unlift (real_in s (a + w))) in
      let e : T (d.at + w * (2 * 0)) (2 * (d.needs.points + 0)) (table (2 * 0)) = sym (stored_next s d.at w d.needs.points l 0) in
      let e₁ = subst (λ (a : ℕ). T a (2 * (d.needs.points + 0)) (table (2 * 0))) z e in
      let e₂ = subst (λ (n : ℕ). T d.at n (table (2 * 0))) p e₁ in
      subst (λ (m : List ℤ). T d.at (2 * d.needs.points) m) (stored-none s d.at w (2 * d.needs.points) l) e₂

  -- up to its last y
  ring-half : Store.Stores mode s d l (half d (begun r x₀ y₀) k (real_in s last) (last + w)) (set (table (2 * k)) (2 * (d.needs.points + k)) (unlift (real_in s last)))
  ring-half =
      let h = head in
      let a = real-inside h.real-x in
      let b = real-inside h.real-y in
      fresh-into-on mode s d i r c x₀ y₀ (d.at + w * (2 * 1)) h l (set l (2 * d.needs.points) (unlift x₀)) (table (2 * 1)) (table (2 * k)) refl head-stored
      (r.left - 2) last (omega arith, rest-stored mode s d.at w (2 * r.left) u d.needs.points l (r.left - 2) (omega (arith, c.2))) (begun r x₀ y₀) refl
      (half d (begun r x₀ y₀) k (real_in s last) (last + w)) _
      (Store.on Store.still tt (x-turn mode s d (begun r x₀ y₀) k last w (real_in s last) (x-there mode s d.at w (2 * r.left) u k (omega (arith, c.2)))))

  last-real : RealAt mode s (last + w) w (real_in s (last + w))
  last-real = y-there mode s d.at w (2 * r.left) u k (omega (arith, c.2))

  all_left : k + 1 ≡ r.left
  all_left = omega (arith, c.2)

  pub ring-shut : Sure mode s d → is_shut r.closed x₀ y₀ (real_in s last) (real_in s (last + w)) ≡ true
  ring-shut h = last-shut mode s d (begun r x₀ y₀) k (last + w) w (real_in s last) (real_in s (last + w)) last-real all_left h (stores-turns ring-half)

  pub ring-stores : is_shut r.closed x₀ y₀ (real_in s last) (real_in s (last + w)) ≡ true → Store.Stores mode s d l (behind_ring mode s d r (d.at + w * (2 * r.left))) (table (2 * r.left))
  ring-stores q =
      let e = all_left in
      let t = last-any mode s d (begun r x₀ y₀) k (last + w) w (real_in s last) (real_in s (last + w)) last-real e q in
      let v = Store.on ring-half tt t in
      let v₁ = subst (λ (m : List ℤ). Store.Stores mode s d l (behind_ring mode s d (begun r x₀ y₀) (last + w + w)) m) (stored_next s d.at w d.needs.points l k) v in
      let v₂ = subst (λ (b : ReadStand). Store.Stores mode s d l b (table (2 * (k + 1)))) (behind-begun mode s d r x₀ y₀ (last + w + w)) v₁ in
      let v₃ = subst (λ (p : ℕ). Store.Stores mode s d l (behind_ring mode s d r p) (table (2 * (k + 1)))) (next_place d.at w k) v₂ in
      subst (λ (j : ℕ). Store.Stores mode s d l (behind_ring mode s d r (d.at + w * (2 * j))) (table (2 * j))) e v₃

-- ---- the ways of `size_at`

said-whole : (mode : Mode) (c : List ℕ) (n : ℕ) → lex_of mode Int c ≡ Ok n → integer_of mode c ≡ Some n
unfolding lex_of
said-whole mode c n = go (integer_of mode c) refl
  where
    go : (w : Option ℕ) → integer_of mode c ≡ w → of_whole w ≡ Ok n → integer_of mode c ≡ Some n
    go (Some t) e q = let z : t ≡ n = cc in e ∙ ap Some z
    go None e q = absurd (let z : ◌≡◌ {A = ℕ} 0 1 = cc in omega arith)

pub size-quick : (mode : Mode) (s : List ℕ) (at : ℕ) (q : IntegerTaken) → (0 < q.width → IntegerAt mode s at q.width q.value) → 0 < q.width → record { n = q.value; width = q.width } ≡ size_of mode (drop at s)
unfolding size_of
size-quick mode s at q f h = let r = f h in rw (r.line, said-whole mode (take r.len (drop at s)) q.value r.says)

pub size-slow : (mode : Mode) (s : List ℕ) (at : ℕ) (z : Size) → z ≡ size_of mode (tail s at) → z ≡ size_of mode (drop at s)
size-slow mode s at z e = e ∙ ap (size_of mode) (rest-is s at)

-- ---- the same real twice

-- the tests at 0 to n, as code joins them
abbrev up_to : ℕ → (ℕ → Bool) → Bool
up_to zero p = p 0
up_to (suc n) p = up_to n p && p (suc n)

up-to-at : (n : ℕ) (p : ℕ → Bool) → up_to n p ≡ true → (i : ℕ) → i ≤ n → p i ≡ true
up-to-at zero p q i h = let z : i ≡ 0 = omega arith in rw z q
up-to-at (suc n) p q i h = go (eqb i (suc n)) refl (up-to-at n p (and_left (up_to n p) (p (suc n)) q) i)
  where
    go : (b : Bool) → eqb i (suc n) ≡ b → (i ≤ n → p i ≡ true) → p i ≡ true
    go true e f = rw (eqb-true i (suc n) e) (and_right (up_to n p) (p (suc n)) q)
    go false e f = let g = eqb-false i (suc n) e in f (omega arith)

-- the way of `is_same_real`
pub same_bytes : (a b : List ℕ) → (length a ≡ 12) × (length b ≡ 12) → up_to 11 (λ i. eqb (get_or a i 0) (get_or b i 0)) ≡ true → a ≡ b
same_bytes a b l q =
    let each : (i : ℕ) → i < length a → get_or a i 0 ≡ get_or b i 0 = λ i h. eqb-true (get_or a i 0) (get_or b i 0) (up-to-at 11 (λ j. eqb (get_or a j 0) (get_or b j 0)) q i (omega (arith, l.0))) in
    ext_get_or 0 a b (l.0 ∙ sym l.1) each

-- equal bytes are one real
same_in : (s : List ℕ) (a b : ℕ) → take (a + 12 - a) (drop a s) ≡ take (b + 12 - b) (drop b s) → real_in s a ≡ real_in s b
unfolding real_in
same_in s a b q = ap (λ (c : List ℕ). of_real (real_of Exact c)) (rw (add-sub_cancel_left a 12, add-sub_cancel_left b 12) at q)

or-true : (b : Bool) → (b || true) ≡ true
or-true true = refl
or-true false = refl

-- the ways of `is_shut_there`
module _ (s : List ℕ) (at w last : ℕ) (closed : Bool) where
  pub shut_open : not closed ≡ true → ShutAt s at w last closed
  unfolding is_shut
  shut_open q = record { shut = λ mode a b c e. rw q }

  pub shut-same : (x y : Bool) → (x ≡ true → take (at + 12 - at) (drop at s) ≡ take (last + 12 - last) (drop last s))
      → (y ≡ true → take (at + w + 12 - (at + w)) (drop (at + w) s) ≡ take (last + w + 12 - (last + w)) (drop (last + w) s)) → (x && y) ≡ true → ShutAt s at w last closed
  unfolding is_shut
  shut-same x y f g q =
      let a = same_in s at last (f (and_left x y q)) in
      let b = same_in s (at + w) (last + w) (g (and_right x y q)) in
      record { shut = λ mode _ _ _ _. rw (a, b, eq-eqb (real_in s last) (real_in s last) refl, eq-eqb (real_in s (last + w)) (real_in s (last + w)) refl) (or-true (not closed)) }

-- ---- a run that is a ring: what a width that was found says, of n vertices

module _ (mode : Mode) (s : List ℕ) (at w n : ℕ) (run-usual : Usual mode s at w (2 * n)) where
  pub run_inside : at ≤ length s → at + w * (2 * n) ≤ length s
  run_inside = run-usual.inside

  nth-usual : (j : ℕ) (a : ℕ) → at + w * j ≡ a → j < 2 * n → UsualAt mode s a w
  nth-usual j a q h = subst (λ (p : ℕ). UsualAt mode s p w) q (run-usual.each j h)

  module _ (h : 2 ≤ n) where
    abbrev end : ℕ
    end = at + w * (2 * n - 2)

    second-usual : UsualAt mode s (at + w) w
    second-usual = nth-usual 1 (at + w) (omega arith) (omega arith)

    end-usual : UsualAt mode s end w
    end-usual = run-usual.each (2 * n - 2) (omega arith)

    behind-usual : UsualAt mode s (end + w) w
    behind-usual = nth-usual (suc (2 * n - 2)) (end + w) (second-place at w (2 * n - 2)) (omega arith)

    -- what `is_shut_there` asks
    pub run_ends : length s ≤ file_most → (at + w + 12 ≤ length s) × (end + w + 12 ≤ length s) × (length s ≤ file_most)
    run_ends m = (usual-long second-usual, usual-long behind-usual, m)

    pub run-shut : (closed : Bool) → ShutAt s at w end closed → is_shut closed (real_in s at) (real_in s (at + w)) (real_in s end) (real_in s (end + w)) ≡ true
    run-shut closed q = q.shut mode (nth-usual 0 at (omega arith) (omega arith)) second-usual end-usual behind-usual

-- what `values_into` asks: a table holds n points behind `from` points
pub run_room : (mode : Mode) (s : List ℕ) (at w n from : ℕ) → Usual mode s at w (2 * n) → length s ≤ file_most → at ≤ length s → (l : List ℤ) (v : Bool)
    → (v ≡ true → 2 * (from + n) ≤ length l) → not v ≡ false → Storable s at w (2 * n) (length l) (2 * from)
run_room mode s at w n from u m h l v f t = let a = f (not-false v t) in record { mode = mode; usual = u; small = m; here = h; room = omega arith }

-- a ring of at least two vertices, all of it to come
module _ (mode : Mode) (s : List ℕ) (d : ReadStand) (i : InFile s d) (r : Ring) (c : (d.state ≡ X r) × (r.fresh ≡ true) × (2 ≤ r.left)) (w : ℕ)
    (usual : Usual mode s d.at w (2 * r.left)) where
  place : d.at + w * (2 * r.left - 2) ≡ d.at + w * (2 * (r.left - 2 + 1))
  place = let a = c.2 in ap (λ (j : ℕ). d.at + w * j) (omega arith)

  pub ring-turns : ShutAt s d.at w (d.at + w * (2 * r.left - 2)) r.closed → Turns mode s d (behind_ring mode s d r (d.at + w * (2 * r.left)))
  ring-turns q =
      let h = run-shut mode s d.at w r.left usual c.2 r.closed q in
      let k = subst (λ (p : ℕ). is_shut r.closed (real_in s d.at) (real_in s (d.at + w)) (real_in s p) (real_in s (p + w)) ≡ true) place h in
      stores-turns (ring-stores mode s d i r c w usual [] k)

  pub ring-stored : Sure mode s d → (l : List ℤ) → Store.Stores mode s d l (behind_ring mode s d r (d.at + w * (2 * r.left))) (stored_reals s d.at w (2 * d.needs.points) l (2 * r.left))
  ring-stored h l = ring-stores mode s d i r c w usual l (ring-shut mode s d i r c w usual l h)

-- ---- the ways of `ring_skim` and `ring_into`

module _ (mode : Mode) (s : List ℕ) (d : ReadStand) (i : InFile s d) (r : Ring) (e : d.state ≡ X r) (b : Bool) (f : b ≡ true → (r.fresh ≡ true) × (2 ≤ r.left) × (r.left ≤ length s)) (t : not b ≡ false) where
  pub ring-whole : (r.fresh ≡ true) × (2 ≤ r.left) × (r.left ≤ length s)
  ring-whole = f (not-false b t)

  fresh-is : (d.state ≡ X r) × (r.fresh ≡ true) × (2 ≤ r.left)
  fresh-is = (e, ring-whole.0, ring-whole.1)

  pub sure-width : Sure mode s d → is_exact mode ≡ true → Usual mode s d.at 14 (2 * r.left)
  sure-width h x = sure-usual mode s d h x r e

  -- behind it: the size of the next ring, and the stand
  module _ (z : Size) (q : z ≡ size_of mode (drop d.ring s)) where
    pub whole-counted : (d.nth + 2 * r.left < 18446744073709551616) × (d.needs.points + r.left < 18446744073709551616) × (d.ring + z.width < 18446744073709551616)
    whole-counted =
        let a = ring-whole in
        let g = size-width mode (drop d.ring s) in
        let k : z.width ≤ length (drop d.ring s) = rw q g in
        (omega (arith, a.2, i.small, i.counted, i.here), omega (arith, a.2, i.small, i.points, i.here), omega (arith, length-drop d.ring s, i.small, i.rings))

    behind-is : (at : ℕ) (y : ReadStand) → y ≡ past_ring d r at z → y ≡ behind_ring mode s d r at
    unfolding behind_ring
    behind-is at y h = h ∙ rw q

    module _ (w : ℕ) (g : Usual mode s d.at w (2 * r.left)) (y : ReadStand) (h : y ≡ past_ring d r (d.at + w * (2 * r.left)) z) where
      pub skim-on : (b' : Bool) → (b' ≡ true → ShutAt s d.at w (d.at + w * (2 * r.left - 2)) r.closed) → not b' ≡ false → Turns mode s d y
      skim-on b' f' t' = rw (behind-is (d.at + w * (2 * r.left)) y h) (ring-turns mode s d i r fresh-is w g (f' (not-false b' t')))

      pub into-on : Sure mode s d → (l m : List ℤ) → m ≡ stored_reals s d.at w (2 * d.needs.points) l (2 * r.left) → Store.Stores mode s d l y m
      into-on k l m p = rw (p, behind-is (d.at + w * (2 * r.left)) y h) (ring-stored mode s d i r fresh-is w g k l)

-- ---- the ways of `values_into`

pub record Storing (s : List ℕ) (at width n cell : ℕ) (l : List ℤ) (k here : ℕ) (m : List ℤ) : Type 0 where
  pub within : k ≤ n
  pub place : here ≡ at + width * k
  pub table : m ≡ stored_reals s at width cell l k

pub stored-length : (s : List ℕ) (at w cell : ℕ) (l : List ℤ) (n : ℕ) → length (stored_reals s at w cell l n) ≡ length l
unfolding stored_reals
stored-length s at w cell l zero = refl
stored-length s at w cell l (suc n) = length-set (stored_reals s at w cell l n) (cell + n) (unlift (real_in s (at + w * n))) ∙ stored-length s at w cell l n

pub storing-start : (s : List ℕ) (at w n cell : ℕ) (l : List ℤ) → Storing s at w n cell l 0 at l
storing-start s at w n cell l = record { within = omega arith; place = omega arith; table = sym (stored-none s at w cell l) }

stored_one : (s : List ℕ) (at w cell : ℕ) (l : List ℤ) (k : ℕ) → stored_reals s at w cell l (suc k) ≡ set (stored_reals s at w cell l k) (cell + k) (unlift (real_in s (at + w * k)))
unfolding stored_reals
stored_one s at w cell l k = refl

module _ (s : List ℕ) (at w n cell : ℕ) (l : List ℤ) (a : Storable s at w n (length l) cell) (k here : ℕ) (m : List ℤ) (g : Storing s at w n cell l k here m) where
  pub storing-kept : length m ≡ length l
  storing-kept = ap length g.table ∙ stored-length s at w cell l k

  pub storing-end : n ≤ k → m ≡ stored_reals s at w cell l n
  storing-end h = let z : k ≡ n = omega (arith, g.within) in g.table ∙ ap (stored_reals s at w cell l) z

  module _ (h : k < n) where
    here-usual : UsualAt a.mode s here w
    here-usual = subst (λ (p : ℕ). UsualAt a.mode s p w) (sym g.place) (a.usual.each k h)

    pub storing-inside : (here + w ≤ length s) × (length s ≤ 16777216) × (cell + k < length l)
    storing-inside = ((real-inside (usual-in here-usual)).1, a.small, omega (arith, a.room))

    module _ (v : ℕ) (q : ValueAt s here v) where
      pub storing-asks : (cell + k < length m) × (v ≤ token_most)
      storing-asks = (omega (arith, a.room, storing-kept), subst (λ (x : ℕ). x ≤ token_most) (sym (value_in here-usual v q)) (real-most (usual-in here-usual)))

      pub storing-on : (m' : List ℤ) → m' ≡ set m (cell + k) (unlift v) → Storing s at w n cell l (k + 1) (here + w) m'
      storing-on m' p =
          let x : v ≡ real_in s (at + w * k) = value_in here-usual v q ∙ ap (real_in s) g.place in
          let o : k + 1 ≡ suc k = add-one k in
          record {
            within = omega arith;
            place = ap (λ (z : ℕ). z + w) g.place ∙ sym (second-place at w k) ∙ ap (λ (z : ℕ). at + w * z) (sym o);
            table = p ∙ rw (x, g.table, o, stored_one s at w cell l k);
          }

-- ---- island counts

module _ (mode : Mode) (s : List ℕ) (d : ReadStand) (a b c here k : ℕ) (z : Size) (r : SizeRead mode (drop here s) z) where
  island-turn : (st : State) → step_of mode (Island a b c) z.n 0 ≡ Ok (Some st) → turn_of mode s (past_islands d (Island a b c) here k) ≡ onward (past_islands d st (here + z.width) (k + 1)) z.n r.len
  unfolding turn_of one_of want_of lex_of added size_next
  island-turn st g =
      let p : d.nth + k + 1 ≡ d.nth + (k + 1) = omega arith in
      let q : d.needs.islands + k + 1 ≡ d.needs.islands + (k + 1) = omega arith in
      rw (r.line, r.number, g, p, q)

islands-none : (d : ReadStand) → d ≡ past_islands d d.state d.at 0
islands-none d =
    let b : d.nth ≡ d.nth + 0 = omega arith in
    let c : d.needs.islands ≡ d.needs.islands + 0 = omega arith in
    λ i. record {
      state = d.state;
      at = d.at;
      nth = b i;
      ring = d.ring;
      needs = record { rows = d.needs.rows; letters = d.needs.letters; islands = c i; points = d.needs.points };
    }

-- the ways of `islands_skim` and `islands_into`: i is what the table was, m what it is
pub record Counting (mode : Mode) (s : List ℕ) (d : ReadStand) (i : List ℕ) (st : State) (here k : ℕ) (m : List ℕ) : Type 0 where
  pub put : IslandsPut mode s d i (past_islands d st here k) m
  pub far : d.at + k ≤ here
  pub inside : here ≤ length s
  pub kept : length m ≡ length i

pub counting-start : (mode : Mode) (s : List ℕ) (d : ReadStand) → InFile s d → (i : List ℕ) → Counting mode s d i d.state d.at 0 i
counting-start mode s d w i =
    record {
      put = record { puts = λ r l p. subst (λ (z : ReadStand). Store.Puts mode s d r l i p z r l i p) (islands-none d) Store.no-turn };
      far = omega arith;
      inside = w.here;
      kept = refl;
    }

module _ (mode : Mode) (s : List ℕ) (d : ReadStand) (w : InFile s d) (i : List ℕ) (st : State) (here k : ℕ) (m : List ℕ) (v : Counting mode s d i st here k m) where
  pub counting-few : (d.nth + k < 18446744073709551616) × (d.needs.islands + k < 18446744073709551616)
  counting-few = (omega (arith, w.small, w.counted, v.far, v.inside), omega (arith, w.small, w.islands, v.far, v.inside))

  pub counting-is : (e : ReadStand) → e ≡ past_islands d st here k → IslandsPut mode s d i e m
  counting-is e q = rw q v.put

  pub counting-at : (a b c : ℕ) → st ≡ Island a b c → (e : ReadStand) → e ≡ past_islands d (Island a b c) here k → IslandsPut mode s d i e m
  counting-at a b c p e q = rw q (rw p at v.put)

  module _ (z : Size) (q : z ≡ size_of mode (drop here s)) (n : z.width ≡ 0 → ⊥) where
    count-read : SizeRead mode (drop here s) z
    count-read = size-read mode (drop here s) z q (omega arith)

    pub count-inside : (0 < z.width) × (here + z.width ≤ length s) × (z.n ≤ 9999)
    count-inside =
        let r = count-read in
        let l = line_view mode false (drop here s) r.len z.width r.line in
        (l.some, omega (arith, l.some, l.within, length-drop here s), integer-most mode (take r.len (drop here s)) z.n r.number)

    module _ (a b c : ℕ) (p : st ≡ Island a b c) (x : Step) (g : x ≡ step_of mode (Island a b c) z.n 0) (st' : State) (h : x ≡ Ok (Some st')) where
      pub counting-on : (m' : List ℕ) → m' ≡ set m (d.needs.islands + k) z.n → Counting mode s d i st' (here + z.width) (k + 1) m'
      counting-on m' o =
          let f = count-inside in
          let t : IslandsPut mode s d i (past_islands d (Island a b c) here k) m = rw p at v.put in
          let turn = island-turn mode s d a b c here k z count-read st' (sym g ∙ h) in
          record {
            put = rw o (record { puts = λ r l y. Store.turned (t.puts r l y) turn });
            far = omega (arith, v.far, f.0);
            inside = f.1;
            kept = rw o (length-set m (d.needs.islands + k) z.n ∙ v.kept);
          }

-- the first pass keeps no table
pub record Counted (mode : Mode) (s : List ℕ) (d : ReadStand) (st : State) (here k : ℕ) : Type 0 where
  pub turns : Turns mode s d (past_islands d st here k)
  pub far : d.at + k ≤ here
  pub inside : here ≤ length s

pub counted_start : (mode : Mode) (s : List ℕ) (d : ReadStand) → InFile s d → Counted mode s d d.state d.at 0
counted_start mode s d w = record { turns = subst (Turns mode s d) (islands-none d) still; far = omega arith; inside = w.here }

module _ (mode : Mode) (s : List ℕ) (d : ReadStand) (w : InFile s d) (st : State) (here k : ℕ) (v : Counted mode s d st here k) where
  pub counted-few : (d.nth + k < 18446744073709551616) × (d.needs.islands + k < 18446744073709551616)
  counted-few = (omega (arith, w.small, w.counted, v.far, v.inside), omega (arith, w.small, w.islands, v.far, v.inside))

  pub counted_is : (e : ReadStand) → e ≡ past_islands d st here k → Turns mode s d e
  counted_is e q = rw q v.turns

  pub counted-at : (a b c : ℕ) → st ≡ Island a b c → (e : ReadStand) → e ≡ past_islands d (Island a b c) here k → Turns mode s d e
  counted-at a b c p e q = rw q (rw p at v.turns)

  module _ (z : Size) (q : z ≡ size_of mode (drop here s)) (n : z.width ≡ 0 → ⊥) where
    said : SizeRead mode (drop here s) z
    said = size-read mode (drop here s) z q (omega arith)

    pub said_in : (0 < z.width) × (here + z.width ≤ length s)
    said_in =
        let r = said in
        let l = line_view mode false (drop here s) r.len z.width r.line in
        (l.some, omega (arith, l.some, l.within, length-drop here s))

    module _ (a b c : ℕ) (p : st ≡ Island a b c) (x : Step) (g : x ≡ step_of mode (Island a b c) z.n 0) (st' : State) (h : x ≡ Ok (Some st')) where
      pub counted-on : Counted mode s d st' (here + z.width) (k + 1)
      counted-on =
          let f = said_in in
          let t : Turns mode s d (past_islands d (Island a b c) here k) = rw p at v.turns in
          record { turns = on t (island-turn mode s d a b c here k z said st' (sym g ∙ h)); far = omega (arith, v.far, f); inside = f.1 }
