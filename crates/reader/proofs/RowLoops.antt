-- Whole rows one behind the other: what a head and its only ring make of a stand, and what they leave in the tables. Assumes nothing.
use Rattle.std.specs.Prelude.{Result, Ok, Err}
use Rattle.record.specs.declared.refusal.Refusal.{Refusal}
use Rattle.record.specs.declared.refusal.Refusal.TheVariants as Refusal
use Rattle.reader.specs.Turn.{onward, halted, finished}
use mathlib.Core.Path.{◌≡◌, refl, sym, ◌∙◌, ap, subst}
use mathlib.Core.Bool.{Bool, true, false, cond}
use mathlib.Core.List.{List, []}
use Prim.Native.Nat.{ℕ, ◌+◌, ◌-◌, ◌*◌, ◌/◌, ◌≤◌, ◌<◌}
use native.Mathlib.Omega.{arith}
use lib.ListN.{length, take, drop}
use lib.Dec.{leb, eqb}
use lib.IntN.{ℤ}
use borrow.Author.Tests.{ne_eqb}
use Rattle.laws.specs.Lists.{pasted}
use Rattle.laws.proofs.Choice.{false≢true}
use Rattle.record.specs.declared.Mode.{Mode}
use Rattle.record.specs.declared.Mode.TheVariants.{Loose, Exact, Former}
use Rattle.record.specs.Record.{is_exact}
use Rattle.record.specs.Refusals.{file_most}
use Rattle.kinds.specs.Kinds.{row_width}
use Rattle.quick.specs.Seen.{Usual}
use Rattle.machine.specs.Machine.{fresh_ring, one_of}
use Rattle.machine.specs.declared.State.{State}
use Rattle.machine.specs.declared.State.TheVariants.{Due, Island, X}
use Rattle.machine.specs.declared.One.{One}
use Rattle.sheet.specs.Tables.{new_row}
use Rattle.sheet.proofs.Pass.{OneView, one-view}
use Rattle.reader.specs.Turn.{row_more, points_more, size_next, closing, turned, turn_of, InFile, Turns, still, on, stand_of, behind_rings}
use Rattle.reader.specs.Store.{Counted, starts_behind, Stores, Puts, RowsPut}
use Rattle.reader.specs.Trust.{Sure, Vouched}
use Rattle.reader.specs.Heads.{opened_by, behind_head, rows_head, HeadFew, HeadAt, HeadRead}
use Rattle.reader.specs.RingRun.{RingOver, RingInto}
use Rattle.reader.specs.declared.Needs.{Needs}
use Rattle.reader.specs.declared.ReadStand.{ReadStand}
use Rattle.reader.specs.declared.RowHead.{RowHead}
use Rattle.reader.proofs.Standing.{onward-is}
use Rattle.reader.proofs.Running.{turns-join, stores-turns}
use Rattle.reader.proofs.HeadTurns.{puts-turns}
use Rattle.reader.proofs.Trusted.{sure-on, sure-usual}
use Rattle.reader.proofs.Rows.{turns-inside, Skimmed, skimmed-on, puts-join, stores-puts, Putting, putting-start, putting-on}

-- ---- turns go forward

-- a record has a byte at least
turn-past : (mode : Mode) (s : List ℕ) (d e : ReadStand) (t len : ℕ) → turn_of mode s d ≡ onward e t len → d.at < e.at
unfolding turn_of
turn-past mode s d e t len q = by (one_of mode d.state (size_next mode d.state (drop d.ring s)).n (drop d.at s)) (one-view mode d.state (size_next mode d.state (drop d.ring s)).n (drop d.at s)) q
  where
    shut : (m : Mode) (k next size : ℕ) → closing m k next size ≡ onward e t len → d.at < e.at
    shut Loose k next size r = absurd (let z : ◌≡◌ {A = ℕ} 0 1 = cc in omega arith)
    shut Former k next size r = absurd (let z : ◌≡◌ {A = ℕ} 0 1 = cc in omega arith)
    shut Exact k next size r = go (leb size next) r
      where
        go : (x : Bool) → cond x finished (halted Refusal.AfterEof k next) ≡ onward e t len → d.at < e.at
        go true y = absurd (let z : ◌≡◌ {A = ℕ} 0 1 = cc in omega arith)
        go false y = absurd (let z : ◌≡◌ {A = ℕ} 0 1 = cc in omega arith)

    by : (w : Result One Refusal) → OneView mode d.state (size_next mode d.state (drop d.ring s)).n (drop d.at s) w
        → turned mode d (length s) (size_next mode d.state (drop d.ring s)).width w ≡ onward e t len → d.at < e.at
    by (Ok (One.Go st t' len' w)) v r =
        let z : d.at + w ≡ e.at = ap (λ (x : ReadStand). x.at) (onward-is r) in
        omega (arith, v.line.some)
    by (Err m) v r = absurd (let z : ◌≡◌ {A = ℕ} 0 1 = cc in omega arith)
    by (Ok (One.End w)) v r = shut mode (d.nth + 1) (d.at + w) (length s) r

turns-past : {mode : Mode} {s : List ℕ} {d e : ReadStand} → Turns mode s d e → d.at ≤ e.at
turns-past still = omega arith
turns-past {mode} {s} (on {e} {f} {t} {len} p q) = omega (arith, turns-past p, turn-past mode s e f t len q)

-- turns that count a row go further
row-past : {mode : Mode} {s : List ℕ} {d e : ReadStand} → Turns mode s d e → d.needs.rows < e.needs.rows → d.at < e.at
row-past still h = absurd (omega arith)
row-past {mode} {s} (on {e} {f} {t} {len} p q) h = omega (arith, turns-past p, turn-past mode s e f t len q)

-- a stand where a keyword is due, by its numbers
pub due-is : (d : ReadStand) → d.state ≡ Due → stand_of Due d.at d.nth d.ring d.needs ≡ d
due-is d e = ap (λ (x : State). stand_of x d.at d.nth d.ring d.needs) (sym e)

-- a file that was not judged is not vouched for
pub not-vouched : (mode : Mode) (s : List ℕ) (at : ℕ) → Vouched mode s at false
not-vouched mode s at e = absurd (false≢true e)

-- ---- a head, from a stand by its numbers

module _ {mode : Mode} {s : List ℕ} {at nth ring : ℕ} {needs : Needs} (w : InFile s (stand_of Due at nth ring needs))
    {judged : Bool} (h : RowHead) (f : HeadRead mode s at judged h) where
  abbrev here : ReadStand
  here = stand_of Due at nth ring needs

  head-turns : Turns mode s here (behind_head here h)
  head-turns = puts-turns (f.head.puts here refl refl [] [] [] [])

  head-within : InFile s (behind_head here h)
  head-within = turns-inside w head-turns

  -- what is asked behind a head
  pub row-asks : (needs.rows + 1 < 18446744073709551616) × (needs.letters + h.letters < 18446744073709551616)
  row-asks = let i = head-within in (omega (arith, i.rows, i.here, i.small), omega (arith, i.letters, i.here, i.small))

  pub nth-asks : nth + h.records < 18446744073709551616
  nth-asks = let i = head-within in omega (arith, i.counted, i.here, i.small)

  pub ring-asks : (h.next ≤ length s) × (length s ≤ file_most)
  ring-asks = let i = head-within in (i.here, i.small)

  -- the stand behind it
  module _ (st : State) (q : st ≡ opened_by (h.token / 2) h.islands h.vertices) (b : Needs) (k : b ≡ row_more needs h.letters)
      (e : ReadStand) (g : e ≡ stand_of st h.next (nth + h.records) h.next b) where
    behind-is : behind_head here h ≡ e
    behind-is = sym (g ∙ rw (q, k))

    pub behind-turns : Turns mode s here e
    behind-turns = subst (Turns mode s here) behind-is head-turns

  -- behind its only ring
  module _ (e : ℕ) (p : Turns mode s (behind_head here h) (behind_rings (behind_head here h) h.vertices e)) where
    row-turns : Turns mode s here (behind_rings (behind_head here h) h.vertices e)
    row-turns = turns-join head-turns p

    row_within : InFile s (behind_rings (behind_head here h) h.vertices e)
    row_within = turns-inside w row-turns

    pub end-asks : (2 * h.vertices < 18446744073709551616) × (nth + h.records + 2 * h.vertices < 18446744073709551616) × (needs.points + h.vertices < 18446744073709551616)
    end-asks =
        let i = row_within in (
          omega (arith, i.counted, i.here, i.small),
          omega (arith, i.counted, i.here, i.small),
          omega (arith, i.points, i.here, i.small),
        )

    pub end-less : length s - e < length s - at
    end-less = omega (arith, row-past row-turns (omega arith), row_within.here)

    -- the same stand by its numbers
    module _ (b a : Needs) (k : b ≡ row_more needs h.letters) (j : a ≡ points_more b h.vertices) where
      pub end_is : behind_rings (behind_head here h) h.vertices e ≡ stand_of Due e (nth + h.records + 2 * h.vertices) h.next a
      end_is = rw (j, k)

-- ---- the first pass

module _ {mode : Mode} {s : List ℕ} {d₀ : ReadStand} {at nth ring : ℕ} {needs : Needs} (v : Skimmed mode s d₀ (stand_of Due at nth ring needs))
    (h : RowHead) (f : HeadRead mode s at false h)
    (e : ℕ) (g : RingOver mode s h.next (h.token / 2) h.islands h.vertices e) where
  -- over the only ring
  pub ring-turns : (let b = behind_head (stand_of Due at nth ring needs) h in Turns mode s b (behind_rings b h.vertices e))
  ring-turns = g.over (behind_head (stand_of Due at nth ring needs) h) (head-within v.within h f) refl refl

  pub skim-again : (b a : Needs) → b ≡ row_more needs h.letters → a ≡ points_more b h.vertices
      → Skimmed mode s d₀ (stand_of Due e (nth + h.records + 2 * h.vertices) h.next a)
  skim-again b a k j =
      subst (Skimmed mode s d₀) (end_is v.within h f e ring-turns b a k j)
      (skimmed-on v _ (row-turns v.within h f e ring-turns))

-- ---- the second pass

-- what the rows so far left in the tables, whatever the island counts are
abbrev pub Rowing : Mode → List ℕ → ReadStand → List ℤ → List ℕ → List ℤ → ReadStand → List ℤ → List ℕ → List ℤ → Type 0
Rowing mode s d₀ r₀ l₀ p₀ d r l p = (i : List ℕ) → Putting mode s d₀ r₀ l₀ i p₀ d r l i p

pub rowing_start : (mode : Mode) (s : List ℕ) (d : ReadStand) (r : List ℤ) (l : List ℕ) (p : List ℤ) → d.state ≡ Due → InFile s d → Sure mode s d
    → (let e = stand_of Due d.at d.nth d.ring d.needs in Rowing mode s e r l p e r l p)
rowing_start mode s d r l p z w k i =
    let q = sym (due-is d z) in
    putting-start mode s (stand_of Due d.at d.nth d.ring d.needs) r l i p (subst (InFile s) q w, subst (Sure mode s) q k)

rowing-on : {mode : Mode} {s : List ℕ} {d₀ d : ReadStand} {r₀ r p₀ p : List ℤ} {l₀ l : List ℕ} → Rowing mode s d₀ r₀ l₀ p₀ d r l p → (e : ReadStand) {r' p' : List ℤ} {l' : List ℕ}
    → RowsPut mode s d r l p e r' l' p' → length r' ≡ length r → length l' ≡ length l → length p' ≡ length p → Rowing mode s d₀ r₀ l₀ p₀ e r' l' p'
rowing-on v e q a b c i = putting-on (v i) e (q i) (record { rows-kept = a; letters-kept = b; islands-kept = refl; points_kept = c })

pub rowing-vouched : {mode : Mode} {s : List ℕ} {d₀ : ReadStand} {r₀ r p₀ p : List ℤ} {l₀ l : List ℕ} {at nth ring : ℕ} {needs : Needs}
    → Rowing mode s d₀ r₀ l₀ p₀ (stand_of Due at nth ring needs) r l p → Vouched mode s at true
rowing-vouched {at = at} {nth} {ring} {needs} v e = record { d = stand_of Due at nth ring needs; due = refl; here = refl; sure = (v []).sure }

pub rowing-puts : {mode : Mode} {s : List ℕ} {r₀ r p₀ p : List ℤ} {l₀ l : List ℕ} {e : ReadStand} (d : ReadStand) → d.state ≡ Due
    → Rowing mode s (stand_of Due d.at d.nth d.ring d.needs) r₀ l₀ p₀ e r l p → (x : ReadStand) → x ≡ e → RowsPut mode s d r₀ l₀ p₀ x r l p
rowing-puts {mode} {s} {r₀} {r} {p₀} {p} {l₀} {l} {e} d z v x q i =
    subst (λ (y : ReadStand). Puts mode s y r₀ l₀ i p₀ x r l i p) (due-is d z)
    (subst (λ (y : ReadStand). Puts mode s (stand_of Due d.at d.nth d.ring d.needs) r₀ l₀ i p₀ y r l i p) (sym q) (v i).puts)

-- a ring alone
opened-only : (kind islands n : ℕ) → 0 < n → islands ≡ 0 → opened_by kind islands n ≡ X (fresh_ring (eqb kind 1) 0 n)
unfolding opened_by
opened-only kind islands n h z = rw (ne_eqb n 0 (λ q. omega arith), z) (by (eqb kind 1))
  where
    by : (b : Bool) → cond b (cond (eqb 0 0) (X (fresh_ring true 0 n)) (Island 0 n 0)) (X (fresh_ring false 0 n)) ≡ X (fresh_ring b 0 n)
    by true = refl
    by false = refl

module _ {mode : Mode} {s : List ℕ} {d₀ : ReadStand} {r₀ r p₀ p : List ℤ} {l₀ l : List ℕ} {at nth ring : ℕ} {needs : Needs} (v : Rowing mode s d₀ r₀ l₀ p₀ (stand_of Due at nth ring needs) r l p)
    (h : RowHead) (f : HeadRead mode s at true h) where
  -- the head with its points
  judged-head : HeadAt mode s at h
  judged-head = subst (HeadAt mode s at) (f.same refl) f.head

  abbrev behind : ReadStand
  behind = behind_head (stand_of Due at nth ring needs) h

  behind-within : InFile s behind
  behind-within = head-within (v []).within h f

  behind-sure : Sure mode s behind
  behind-sure = sure-on (v []).sure (head-turns (v []).within h f)

  -- what is asked before it is stored
  pub store_asks : HeadFew h × Counted needs × (h.word + h.letters ≤ length s) × (length s ≤ file_most)
  store_asks =
      let w = (v []).within in
      let a = judged-head in (
        a.few,
        (omega (arith, w.small, w.here, w.letters), omega (arith, w.small, w.here, w.islands), omega (arith, w.small, w.here, w.points)),
        a.word,
        w.small,
      )

  -- a ring alone that was judged in exact mode
  pub into-asks : 0 < h.vertices → h.islands ≡ 0 → is_exact mode ≡ true → Usual mode s h.next 14 (2 * h.vertices)
  into-asks k z x =
      sure-usual mode s behind behind-sure x (fresh_ring (eqb (h.token / 2) 1) 0 h.vertices) (opened-only (h.token / 2) h.islands h.vertices k z)

  -- over the only ring
  stores-ring : (e : ℕ) (p₁ : List ℤ) → RingInto mode s h.next h.islands h.vertices needs.points p e p₁ → Stores mode s behind p (behind_rings behind h.vertices e) p₁
  stores-ring e p₁ q = q.stores (h.token / 2) behind behind-within behind-sure refl refl refl

  pub into-turns : (e : ℕ) (p₁ : List ℤ) → RingInto mode s h.next h.islands h.vertices needs.points p e p₁ → Turns mode s behind (behind_rings behind h.vertices e)
  into-turns e p₁ q = stores-turns (stores-ring e p₁ q)

  module _ (r₁ : List ℤ) (l₁ : List ℕ) (a : r₁ ≡ rows_head h (row_width * needs.rows) (pasted r (row_width * needs.rows) (new_row h.token (starts_behind needs))))
      (b : l₁ ≡ pasted l needs.letters (take h.letters (drop h.word s))) where
    head_puts : RowsPut mode s (stand_of Due at nth ring needs) r l p behind r₁ l₁ p
    head_puts i = rw (a, b) (judged-head.puts (stand_of Due at nth ring needs) refl refl r l i p)

    module _ (lr : length r₁ ≡ length r) (ll : length l₁ ≡ length l) where
      -- the row is left behind its head
      pub put-behind : (p₁ : List ℤ) → p₁ ≡ p → (st : State) → st ≡ opened_by (h.token / 2) h.islands h.vertices → (c : Needs) → c ≡ row_more needs h.letters
          → Rowing mode s d₀ r₀ l₀ p₀ (stand_of st h.next (nth + h.records) h.next c) r₁ l₁ p₁
      put-behind p₁ z st t c k =
          rw (t, k) (rowing-on v behind (subst (λ (y : List ℤ). RowsPut mode s (stand_of Due at nth ring needs) r l p behind r₁ l₁ y) (sym z) head_puts) lr ll (ap (λ (y : List ℤ). length y) z))

      -- it is stored whole
      pub put-again : (e : ℕ) (p₁ : List ℤ) (q : RingInto mode s h.next h.islands h.vertices needs.points p e p₁) → length p₁ ≡ length p
          → (c d : Needs) → c ≡ row_more needs h.letters → d ≡ points_more c h.vertices
          → Rowing mode s d₀ r₀ l₀ p₀ (stand_of Due e (nth + h.records + 2 * h.vertices) h.next d) r₁ l₁ p₁
      put-again e p₁ q lp c d k j =
          rw (j, k) (rowing-on v (behind_rings behind h.vertices e) (λ i. puts-join (head_puts i) (stores-puts r₁ l₁ i (stores-ring e p₁ q))) lr ll lp)

-- the way of `head_into`
pub stored-head : (h : RowHead) (s : List ℕ) (b from : ℕ) (new r r₁ r₂ : List ℤ) (l l₁ : List ℕ) → r₁ ≡ pasted r b new → r₂ ≡ rows_head h b r₁
    → l₁ ≡ pasted l from (take (h.word + h.letters - h.word) (drop h.word s)) → (r₂ ≡ rows_head h b (pasted r b new)) × (l₁ ≡ pasted l from (take h.letters (drop h.word s)))
stored-head h s b from new r r₁ r₂ l l₁ a c e =
    let z : h.word + h.letters - h.word ≡ h.letters = omega arith in
    (rw a at c, e ∙ ap (λ (k : ℕ). pasted l from (take k (drop h.word s))) z)
