-- Pieces of rows one behind the other: any turns keep the walk inside the file, and each table holds what they store. Assumes nothing.
use Rattle.std.specs.Prelude.{Option, Result}
use Rattle.header.specs.declared.Stopped.{Stopped}
use Rattle.reader.specs.Turn.{onward}
use mathlib.Core.Path.{◌≡◌, refl, sym, ◌∙◌, ap, subst}
use mathlib.Core.List.{List}
use Prim.Native.Nat.{ℕ, ◌+◌, ◌-◌, ◌<◌}
use native.Mathlib.Omega.{arith}
use native.Mathlib.Nat.{add-sub_cancel_left}
use lib.ListN.{length, take, drop}
use lib.IntN.{ℤ}
use Rattle.record.specs.declared.Mode.{Mode}
use Rattle.sheet.specs.Reading.{Sections}
use Rattle.reader.specs.Turn.{turn_of, InFile, Turns, still, on}
use Rattle.reader.specs.Store.{rows_put, letters_put, islands_put, points_put, Room, Puts, no-turn, turned}
use Rattle.reader.specs.Store as Store
use Rattle.reader.specs.Trust.{Sure}
use Rattle.reader.specs.declared.ReadStand.{ReadStand}
use Rattle.reader.specs.declared.Turn.{Turn}
use Rattle.reader.proofs.Standing.{turn_inside}
use Rattle.reader.proofs.Judging.{at_on}
use Rattle.reader.proofs.Running.{turns-join}
use Rattle.reader.proofs.HeadTurns.{puts-turns}
use Rattle.reader.proofs.Filled.{Filled, Kept, Onward, fill_on, kept-rows, kept-letters, kept-islands, kept-letters', kept-islands', kept-points}
use Rattle.reader.proofs.Trusted.{sure-on, filled-sure}

pub turns-inside : {mode : Mode} {s : List ℕ} {d e : ReadStand} → InFile s d → Turns mode s d e → InFile s e
turns-inside w still = w
turns-inside {mode} {s} w (on {e} {f} {t} {len} p q) = turn_inside mode s e f t len (turns-inside w p) q

-- ---- the first pass

pub record Skimmed (mode : Mode) (s : List ℕ) (d₀ d : ReadStand) : Type 0 where
  pub turns : Turns mode s d₀ d
  pub within : InFile s d

pub skimmed-start : (mode : Mode) (s : List ℕ) (d : ReadStand) → InFile s d → Skimmed mode s d d
skimmed-start mode s d w = record { turns = still; within = w }

pub skimmed-on : {mode : Mode} {s : List ℕ} {d₀ d : ReadStand} → Skimmed mode s d₀ d → (e : ReadStand) → Turns mode s d e → Skimmed mode s d₀ e
skimmed-on h e p = record { turns = turns-join h.turns p; within = turns-inside h.within p }

pub skimmed-less : {mode : Mode} {s : List ℕ} {d₀ d : ReadStand} → Skimmed mode s d₀ d → (e : ReadStand) → Turns mode s d e → d.at < e.at → length s - e.at < length s - d.at
skimmed-less h e p l = omega (arith, (turns-inside h.within p).here)

-- ---- the second pass

pub puts-join : {mode : Mode} {s : List ℕ} {d e : ReadStand} {r r' p p' : List ℤ} {l l' i i' : List ℕ} {f : ReadStand} {r'' p'' : List ℤ} {l'' i'' : List ℕ}
    → Puts mode s d r l i p e r' l' i' p' → Puts mode s e r' l' i' p' f r'' l'' i'' p'' → Puts mode s d r l i p f r'' l'' i'' p''
puts-join a no-turn = a
puts-join a (turned b t) = turned (puts-join a b) t

-- turns at numbers of a row, and at vertices
pub enters-puts : {mode : Mode} {s : List ℕ} {d : ReadStand} {r : List ℤ} {e : ReadStand} {r' : List ℤ} (l i : List ℕ) (p : List ℤ) → Store.Enters mode s d r e r' → Puts mode s d r l i p e r' l i p
enters-puts l i p Store.at_rest = no-turn
enters-puts {mode} {s} {d} {r = r} l i p (Store.entered {e} {f} {m} {t} {len} q v h) =
    subst (λ (x : List ℤ). Puts mode s d r l i p f (rows_put e.state t e.needs m) l i x) (sym (kept-points e.state t e.needs p v))
    (subst (λ (x : List ℕ). Puts mode s d r l i p f (rows_put e.state t e.needs m) l x (points_put e.state t e.needs p)) (sym (kept-islands' e.state t e.needs i v))
    (subst (λ (x : List ℕ). Puts mode s d r l i p f (rows_put e.state t e.needs m) x (islands_put e.state t e.needs i) (points_put e.state t e.needs p))
    (sym (kept-letters' e.state (take len (drop e.at s)) e.needs l v))
    (turned (enters-puts l i p q) h)))

pub stores-puts : {mode : Mode} {s : List ℕ} {d : ReadStand} {p : List ℤ} {e : ReadStand} {p' : List ℤ} (r : List ℤ) (l i : List ℕ) → Store.Stores mode s d p e p' → Puts mode s d r l i p e r l i p'
stores-puts r l i Store.still = no-turn
stores-puts {mode} {s} {d} {p = p} r l i (Store.on {e} {f} {m} {t} {len} q v h) =
    subst (λ (x : List ℤ). Puts mode s d r l i p f x l i (points_put e.state t e.needs m)) (sym (kept-rows e.state t e.needs r v))
    (subst (λ (x : List ℕ). Puts mode s d r l i p f (rows_put e.state t e.needs r) l x (points_put e.state t e.needs m)) (sym (kept-islands e.state t e.needs i v))
    (subst (λ (x : List ℕ). Puts mode s d r l i p f (rows_put e.state t e.needs r) x (islands_put e.state t e.needs i) (points_put e.state t e.needs m))
    (sym (kept-letters e.state (take len (drop e.at s)) e.needs l v))
    (turned (stores-puts r l i q) h)))

pub record Putting (mode : Mode) (s : List ℕ) (d₀ : ReadStand) (r₀ : List ℤ) (l₀ i₀ : List ℕ) (p₀ : List ℤ) (d : ReadStand) (r : List ℤ) (l i : List ℕ) (p : List ℤ) : Type 0 where
  pub puts : Puts mode s d₀ r₀ l₀ i₀ p₀ d r l i p
  pub within : InFile s d
  pub sure : Sure mode s d
  pub kept : Kept r₀ l₀ i₀ p₀ r l i p

kept_on : {r₀ r r' p₀ p p' : List ℤ} {l₀ l l' i₀ i i' : List ℕ} → Kept r₀ l₀ i₀ p₀ r l i p → Kept r l i p r' l' i' p' → Kept r₀ l₀ i₀ p₀ r' l' i' p'
kept_on a b =
    record {
      rows-kept = b.rows-kept ∙ a.rows-kept;
      letters-kept = b.letters-kept ∙ a.letters-kept;
      islands-kept = b.islands-kept ∙ a.islands-kept;
      points_kept = b.points_kept ∙ a.points_kept;
    }

pub putting-start : (mode : Mode) (s : List ℕ) (d : ReadStand) (r : List ℤ) (l i : List ℕ) (p : List ℤ) → InFile s d × Sure mode s d → Putting mode s d r l i p d r l i p
putting-start mode s d r l i p w = record { puts = no-turn; within = w.0; sure = w.1; kept = record { rows-kept = refl; letters-kept = refl; islands-kept = refl; points_kept = refl } }

module _ {mode : Mode} {s : List ℕ} {d₀ d : ReadStand} {r₀ r p₀ p : List ℤ} {l₀ l i₀ i : List ℕ} (h : Putting mode s d₀ r₀ l₀ i₀ p₀ d r l i p)
    (e : ReadStand) {r' p' : List ℤ} {l' i' : List ℕ} (q : Puts mode s d r l i p e r' l' i' p') (k : Kept r l i p r' l' i' p') where
  pub putting-on : Putting mode s d₀ r₀ l₀ i₀ p₀ e r' l' i' p'
  putting-on = record { puts = puts-join h.puts q; within = turns-inside h.within (puts-turns q); sure = sure-on h.sure (puts-turns q); kept = kept_on h.kept k }

  pub putting-less : d.at < e.at → length s - e.at < length s - d.at
  putting-less l = omega (arith, putting-on.within.here)

-- what turns store, over what was read so far
pub puts-filled : {mode : Mode} {s : List ℕ} {target : Sections} {rows₀ : List ℤ} {letters₀ islands₀ : List ℕ} {points₀ : List ℤ} {rows : List ℤ} {letters islands : List ℕ} {points : List ℤ}
    {d e : ReadStand} {rows' : List ℤ} {letters' islands' : List ℕ} {points' : List ℤ} → Room target (length rows₀) (length letters₀) (length islands₀) (length points₀)
    → Filled mode s target rows₀ letters₀ islands₀ points₀ rows letters islands points d → Puts mode s d rows letters islands points e rows' letters' islands' points'
    → Onward mode s target rows₀ letters₀ islands₀ points₀ rows' letters' islands' points' d.at e
puts-filled room h no-turn = record { filled = h; past-it = omega arith }
puts-filled {mode} {s} {target} room h (turned {e} {f} {r'} {p'} {l'} {i'} {t} {len} p q) =
    let b = puts-filled room h p in
    let w = at_on mode s target b.filled.tables e b.filled.stands (turn_of mode s e) refl f t len q in
    record {
      filled = fill_on room b.filled (turn_of mode s e) refl f t len q _ _ _ _ refl
          (ap (λ (n : ℕ). letters_put e.state (take n (drop e.at s)) e.needs l') (sym (add-sub_cancel_left e.at len))) refl refl;
      past-it = omega (arith, b.past-it, w.on);
    }

-- a turn, what it stores, and the pieces behind it
module _ {mode : Mode} {s : List ℕ} {target : Sections} {rows₀ : List ℤ} {letters₀ islands₀ : List ℕ} {points₀ : List ℤ} {rows : List ℤ} {letters islands : List ℕ} {points : List ℤ} {d : ReadStand}
    (room : Room target (length rows₀) (length letters₀) (length islands₀) (length points₀))
    (h : Filled mode s target rows₀ letters₀ islands₀ points₀ rows letters islands points d) (r : Result (Option Turn) Stopped) (q : r ≡ turn_of mode s d) (d' : ReadStand) (t len : ℕ) (e : r ≡ onward d' t len)
    (rows' : List ℤ) (letters' islands' : List ℕ) (points' : List ℤ) (a₁ : rows' ≡ rows_put d.state t d.needs rows)
    (a₂ : letters' ≡ letters_put d.state (take (d.at + len - d.at) (drop d.at s)) d.needs letters)
    (a₃ : islands' ≡ islands_put d.state t d.needs islands) (a₄ : points' ≡ points_put d.state t d.needs points) where
  stored : Filled mode s target rows₀ letters₀ islands₀ points₀ rows' letters' islands' points' d'
  stored = fill_on room h r q d' t len e rows' letters' islands' points' a₁ a₂ a₃ a₄

  pub fill-asks : InFile s d' × Sure mode s d'
  fill-asks = (stored.stands.within, filled-sure room stored)

  module _ (b : ReadStand) {rows'' points'' : List ℤ} {letters'' islands'' : List ℕ} (p : Puts mode s d' rows' letters' islands' points' b rows'' letters'' islands'' points'') where
    pub fill-past : Onward mode s target rows₀ letters₀ islands₀ points₀ rows'' letters'' islands'' points'' (d.at + 1) b
    fill-past =
        let o = puts-filled room stored p in
        let w = at_on mode s target h.tables d h.stands r q d' t len e in
        record { filled = o.filled; past-it = omega (arith, o.past-it, w.on) }

    pub fill-less : length s - b.at < length s - d.at
    fill-less = let o = fill-past in omega (arith, o.past-it, o.filled.stands.within.here)
