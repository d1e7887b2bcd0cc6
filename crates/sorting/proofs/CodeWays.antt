-- The ways through the functions that copy a line and exchange two. Assumes nothing.
use Prim.Native.Nat.{ℕ, ◌+◌, ◌*◌, ◌≤◌, ◌<◌}
use mathlib.Core.Path.{◌≡◌, refl, ap, ◌∙◌}
use mathlib.Core.List.{List}
use native.Mathlib.Omega.{arith}
use lib.ListN.{length, get_or, take, drop, set, length-set}
use lib.Seq.{get_or-take, get_or-drop}
use Rattle.laws.proofs.ListLaws.{copy_step, copy_done}
use Rattle.laws.specs.Lists.{pasted}
use Rattle.spelling.specs.Stored.{Stored, has_room}
use borrow.Author.Tests.{le-leb}
use Rattle.sorting.specs.Lines.{line_at}
use Rattle.sorting.specs.Exchanges.{Inside, exchanged}
use Rattle.sorting.proofs.LineLaws.{line-length, stored-length}

-- ---- a line copied, k bytes of it so far

pub record Copied (s : List ℕ) (i : ℕ) (d : List ℕ) (k : ℕ) : Type 0 where
  pub inside : Inside s i
  pub upto : k ≤ 23
  pub size : length d ≡ 23
  pub same : take k d ≡ take k (line_at s i)

pub copied-start : (s : List ℕ) (i : ℕ) (d : List ℕ) → Inside s i → length d ≡ 23 → Copied s i d 0
copied-start s i d h n = record { inside = h; upto = omega arith; size = n; same = refl }

module _ {s : List ℕ} {i : ℕ} {d : List ℕ} {k : ℕ} (g : Copied s i d k) where
  pub copied_on : k < 23 → Copied s i (set d k (get_or s (23 * i + k) 0)) (k + 1)
  copied_on h =
      let n = line-length s i g.inside in
      let b : get_or (line_at s i) k 0 ≡ get_or s (23 * i + k) 0 = get_or-take 23 (drop (23 * i) s) k 0 h ∙ get_or-drop (23 * i) s k 0 in
      record {
        inside = g.inside;
        upto = omega arith;
        size = length-set d k (get_or s (23 * i + k) 0) ∙ g.size;
        same = rw (← b) (copy_step (line_at s i) d k g.same 0 (omega (arith, g.size)) (omega (arith, n)));
      }

  pub copied-end : 23 ≤ k → d ≡ line_at s i
  copied-end h = copy_done (line_at s i) d k g.same (omega (arith, g.size)) (omega (arith, line-length s i g.inside))

-- ---- two lines stored

module _ (s : List ℕ) (i j : ℕ) (hi : Inside s i) (hj : Inside s j) (a b : List ℕ) (ea : a ≡ line_at s i) (eb : b ≡ line_at s j) where
  length-a : length a ≡ 23
  length-a = ap length ea ∙ line-length s i hi

  length-b : length b ≡ 23
  length-b = ap length eb ∙ line-length s j hj

  module _ {t : List ℕ} {m : ℕ} (p : Stored s (23 * i) b t m) where
    first-is : t ≡ pasted s (23 * i) b
    unfolding has_room
    first-is = p.is ∙ rw (le-leb (23 * i + length b) (length s) (omega (arith, length-b)))

    pub first-length : length t ≡ length s
    first-length = ap length first-is ∙ stored-length s i b length-b hi

    pub both_stored : {u : List ℕ} {n : ℕ} → Stored t (23 * j) a u n → u ≡ exchanged s i j
    unfolding has_room exchanged
    both_stored {u} q =
        q.is ∙ rw (le-leb (23 * j + length a) (length t) (omega (arith, length-a, first-length)), first-is, ea, eb)
