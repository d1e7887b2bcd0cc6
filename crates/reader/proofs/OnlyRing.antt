-- A row whose vertices are one ring in its usual form, or none, from behind its counts on. Assumes nothing.
use mathlib.Core.Path.{◌≡◌, refl, sym, ◌∙◌, subst}
use mathlib.Core.Bool.{Bool, true, false}
use mathlib.Core.List.{List}
use Prim.Native.Nat.{ℕ, ◌+◌, ◌-◌, ◌*◌, ◌≤◌, ◌<◌}
use native.Mathlib.Omega.{arith}
use lib.IntN.{ℤ}
use lib.Dec.{eqb}
use borrow.Author.Tests.{ne_eqb}
use Rattle.record.specs.declared.Mode.{Mode}
use Rattle.record.specs.Record.{is_exact}
use Rattle.quick.specs.Seen.{Usual}
use Rattle.machine.specs.Machine.{fresh_ring}
use Rattle.machine.specs.declared.State.TheVariants.{Due, Island, X}
use Rattle.reader.specs.Turn.{InFile, Turns, still, behind_rings}
use Rattle.reader.specs.Store as Store
use Rattle.reader.specs.Trust.{Sure}
use Rattle.reader.specs.Heads.{opened_by}
use Rattle.reader.specs.RingRun.{stored_reals, ShutAt, behind_ring, RingOver, RingInto}
use Rattle.reader.specs.declared.ReadStand.{ReadStand}
use Rattle.reader.proofs.RingLaws.{ring-turns, ring-stored}

-- ---- the ways of `opened`

module _ (kind islands n : ℕ) where
  pub opened-none : n ≡ 0 → Due ≡ opened_by kind islands n
  unfolding opened_by
  opened-none e = rw e

  module _ (o : n ≡ 0 → ⊥) where
    pub opened-islands : eqb kind 1 ≡ true → 0 < islands → Island islands n islands ≡ opened_by kind islands n
    unfolding opened_by
    opened-islands k h = rw (ne_eqb n 0 o, k, ne_eqb islands 0 (λ e. omega arith))

    -- no islands, so one ring
    pub opened_one : islands ≤ 0 → X (fresh_ring (eqb kind 1) 0 n) ≡ opened_by kind islands n
    unfolding opened_by
    opened_one h = let z : islands ≡ 0 = omega arith in go z (eqb kind 1) refl
      where
        go : islands ≡ 0 → (b : Bool) → eqb kind 1 ≡ b → X (fresh_ring (eqb kind 1) 0 n) ≡ opened_by kind islands n
        go z true k = rw (ne_eqb n 0 o, k, z)
        go z false k = rw (ne_eqb n 0 o, k)

    pub opened-open : eqb kind 1 ≡ false → X (fresh_ring (eqb kind 1) 0 n) ≡ opened_by kind islands n
    unfolding opened_by
    opened-open k = rw (ne_eqb n 0 o, k)

-- ---- no vertices: the stand stays

behind-none : (d : ReadStand) (n at : ℕ) → n ≡ 0 → d.state ≡ Due → d.at ≡ at → d ≡ behind_rings d n at
behind-none d n at z e p =
    let b : d.nth ≡ d.nth + 2 * n = omega arith in
    let c : d.needs.points ≡ d.needs.points + n = omega arith in
    λ i. record {
      state = e i;
      at = p i;
      nth = b i;
      ring = d.ring;
      needs = record { rows = d.needs.rows; letters = d.needs.letters; islands = d.needs.islands; points = c i };
    }

-- ---- one ring: the stand behind it is the stand behind the row

behind-one : (mode : Mode) (s : List ℕ) (d : ReadStand) (closed : Bool) (n at : ℕ) → behind_ring mode s d (fresh_ring closed 0 n) at ≡ behind_rings d n at
unfolding behind_ring
behind-one mode s d closed n at = refl

module _ (mode : Mode) (s : List ℕ) (at islands n : ℕ) where
  -- ---- the ways of `only_ring`

  pub only_none : n ≡ 0 → (kind : ℕ) → RingOver mode s at kind islands n at
  only_none z kind =
      record { over = λ d i e p. subst (Turns mode s d) (behind-none d n at z (e ∙ sym (opened-none kind islands n z)) p) still }

  module _ (o : n ≡ 0 → ⊥) (g : islands ≤ 0) (h : 2 ≤ n) (w : ℕ) (f : Usual mode s at w (2 * n)) where
    module _ (kind : ℕ) (d : ReadStand) (i : InFile s d) (e : d.state ≡ opened_by kind islands n) (p : d.at ≡ at) where
      one-is : (d.state ≡ X (fresh_ring (eqb kind 1) 0 n)) × ((fresh_ring (eqb kind 1) 0 n).fresh ≡ true) × (2 ≤ n)
      one-is = (e ∙ sym (opened_one kind islands n o g), refl, h)

      found : Usual mode s d.at w (2 * n)
      found = rw p f

      one-turns : ShutAt s at w (at + w * (2 * n - 2)) (eqb kind 1) → Turns mode s d (behind_rings d n (at + w * (2 * n)))
      one-turns q =
          let u = ring-turns mode s d i (fresh_ring (eqb kind 1) 0 n) one-is w found (rw p q) in
          let v = subst (Turns mode s d) (behind-one mode s d (eqb kind 1) n (d.at + w * (2 * n))) u in
          subst (λ (a : ℕ). Turns mode s d (behind_rings d n (a + w * (2 * n)))) p v

      one-stored : (from : ℕ) → d.needs.points ≡ from → Sure mode s d → (l : List ℤ) → Store.Stores mode s d l (behind_rings d n (at + w * (2 * n))) (stored_reals s at w (2 * from) l (2 * n))
      one-stored from y x l =
          let u = ring-stored mode s d i (fresh_ring (eqb kind 1) 0 n) one-is w found x l in
          let S : ℕ → ℕ → Type 0 = λ a m. Store.Stores mode s d l (behind_rings d n (a + w * (2 * n))) (stored_reals s a w (2 * m) l (2 * n)) in
          let v : S d.at d.needs.points =
          subst (λ (b : ReadStand). Store.Stores mode s d l b (stored_reals s d.at w (2 * d.needs.points) l (2 * n))) (behind-one mode s d (eqb kind 1) n (d.at + w * (2 * n))) u in
          let v₁ : S at d.needs.points = subst (λ (a : ℕ). S a d.needs.points) p v in
          subst (S at) y v₁

    pub only-over : (kind : ℕ) (b : Bool) → (b ≡ true → ShutAt s at w (at + w * (2 * n - 2)) (eqb kind 1)) → b ≡ true → RingOver mode s at kind islands n (at + w * (2 * n))
    only-over kind b q t = record { over = λ d i e p. one-turns kind d i e p (q t) }

    -- ---- the ways of `only_into`

    pub only-stored : (from : ℕ) (l m : List ℤ) → m ≡ stored_reals s at w (2 * from) l (2 * n) → RingInto mode s at islands n from l (at + w * (2 * n)) m
    only-stored from l m q = record { stores = λ kind d i x e p y. rw q (one-stored kind d i e p from y x l) }

  module _ (from : ℕ) (l : List ℤ) where
    pub into-none : n ≡ 0 → RingInto mode s at islands n from l at l
    into-none z =
        record { stores = λ kind d i x e p y. subst (λ (b : ReadStand). Store.Stores mode s d l b l) (behind-none d n at z (e ∙ sym (opened-none kind islands n z)) p) Store.still }

  -- what `trusted_width` asks
  pub trusts : (0 < n → islands ≡ 0 → is_exact mode ≡ true → Usual mode s at 14 (2 * n)) → (n ≡ 0 → ⊥) → islands ≤ 0 → is_exact mode ≡ true → Usual mode s at 14 (2 * n)
  trusts f o h = f (omega arith) (omega arith)
