-- The stores into lent tables: a list that is copied, a row that is new, a real, a word. Assumes nothing.
use mathlib.Core.Path.{◌≡◌, refl, sym, ◌∙◌, ap, subst}
use mathlib.Core.Bool.{Bool, true, false, cond}
use mathlib.Core.List.{List, [], ◌∷◌}
use Prim.Native.Nat.{ℕ, zero, suc, ◌+◌, ◌-◌, ◌/◌, ◌%◌, ◌^◌, ◌≤◌, ◌<◌, zero-le}
use native.Mathlib.Omega.{arith}
use lib.ListN.{length, take, drop, get_or, set}
use lib.Seq.{paste, paste-zero, length-paste}
use lib.Dec.{eqb, ltb}
use lib.IntN.{ℤ, pos, negsuc, ◌-ℤ◌}
use lib.Signed.{mag}
use mir.Syntax.{w64}
use mir.Val.{SFits, to_z, of_z}
use mir.ValLaws.{to_z_pos, to_z-of_z}
use borrow.Author.Tests.{ne_eqb}
use Rattle.std.specs.Prelude.{Option, Some, None}
use Rattle.laws.specs.Lists.{pasted}
use Rattle.laws.proofs.TableLaws.{paste_more, paste_all, pasted-behind}
use Rattle.record.specs.declared.Mode.TheVariants.{Loose}
use Rattle.number.specs.declared.Word.{Word}
use Rattle.number.specs.Words.{word_of, trimmed}
use Rattle.number.proofs.WordLaws.{word-is}
use Rattle.token.specs.Lex.{lift_by, unlift}
use Rattle.kinds.specs.Kinds.{row_width, own_width, vertices_place, fixed_vertices, unsaid}
use Rattle.kinds.proofs.KindLaws.{fixed-few}
use Rattle.sheet.specs.Tables.{Starts, start_cells, own_cells, new_row}
use Rattle.sheet.proofs.StartLaws.{own_at}
use Rattle.reader.specs.Store.{token_most}

-- ---- a copy: the first `j` of `s` stand in `d`, from `at` on

pub record Pasting {A : Type 0} (l : List A) (at : ℕ) (s d : List A) (j : ℕ) : Type 0 where
  pub within : j ≤ length s
  pub room : at + length s ≤ length l
  pub is : d ≡ paste l at s j

pub pasting-start : {A : Type 0} (l : List A) (at : ℕ) (s : List A) → at + length s ≤ length l → Pasting l at s l 0
pasting-start l at s h = record { within = zero-le; room = h; is = paste-zero l at s }

module _ {A : Type 0} (l : List A) (at : ℕ) (s d : List A) (j : ℕ) (p : Pasting l at s d j) where
  pub pasting-length : length d ≡ length l
  pasting-length = ap length p.is ∙ length-paste l at s j (omega (arith, p.within, p.room)) p.within

  pub pasting-at : j < length s → at + j < length d
  pasting-at h = omega (arith, pasting-length, p.room)

  pub pasting-step : (z v : A) (e : List A) → j < length s → v ≡ get_or s j z → e ≡ set d (at + j) v → Pasting l at s e (j + 1)
  pasting-step z v e h q r =
      record { within = omega arith; room = p.room; is = r ∙ rw (q, p.is) (paste_more l at s j z (omega (arith, p.room)) h) }

  pub pasting-end : length s ≤ j → d ≡ pasted l at s
  pasting-end h = p.is ∙ paste_all l at s j (omega (arith, p.within))

-- ---- a new row

abbrev cell_at : ℕ → ℕ → ℕ
cell_at j t = cond (eqb j 0) (t / 2) (cond (eqb j 1) (t % 2) (unsaid (t / 2) j))

module _ (j t v : ℕ) (e : v ≡ cell_at j t) where
  pub cell-is : j < own_width → pos v ≡ get_or (own_cells t) j (pos 0)
  cell-is h = ap pos e ∙ go j h
    where
      go : (j : ℕ) → j < own_width → pos (cell_at j t) ≡ get_or (own_cells t) j (pos 0)
      go zero h = refl
      go (suc zero) h = refl
      go (suc (suc j)) h =
          rw (ne_eqb (suc (suc j)) 0 (λ z. omega arith), ne_eqb (suc (suc j)) 1 (λ z. omega arith))
          (sym (own_at t (suc (suc j)) (omega arith) (omega arith)))

  pub cell-most : t ≤ token_most → v ≤ token_most
  unfolding unsaid
  cell-most h = rw e (go (eqb j 0) (eqb j 1) (eqb j vertices_place))
    where
      go : (a b c : Bool) → cond a (t / 2) (cond b (t % 2) (cond c (fixed_vertices (t / 2)) 0)) ≤ token_most
      go true b c = omega arith
      go false true c = omega arith
      go false false true = omega (arith, fixed-few (t / 2))
      go false false false = omega arith

-- three numbers, one behind the other
pub starts-stored : (l d e f : List ℤ) (at : ℕ) (x y z : ℤ) → at + 3 ≤ length l → d ≡ set l at x → e ≡ set d (at + 1) y → f ≡ set e (at + 2) z
    → f ≡ pasted l at (x ∷ y ∷ z ∷ [])
starts-stored l d e f at x y z h p q r =
    let s = x ∷ y ∷ z ∷ [] in
    let zero : at ≡ at + 0 = omega arith in
    let one = pasting-step l at s l 0 (pasting-start l at s h) (pos 0) x d (omega arith) refl (p ∙ ap (λ (i : ℕ). set l i x) zero) in
    let two = pasting-step l at s d 1 one (pos 0) y e (omega arith) refl q in
    let three = pasting-step l at s e 2 two (pos 0) z f (omega arith) refl r in
    pasting-end l at s f 3 three (omega arith)

-- the starts behind what the section gives
pub row-stored : (l d e : List ℤ) (at t : ℕ) (s : Starts) → at + row_width ≤ length l → d ≡ pasted l at (own_cells t) → e ≡ pasted d (at + own_width) (start_cells s)
    → e ≡ pasted l at (new_row t s)
row-stored l d e at t s h p q = q ∙ ap (λ (x : List ℤ). pasted x (at + own_width) (start_cells s)) p ∙ pasted-behind l at (own_cells t) (start_cells s) (omega arith)

-- ---- a real, from its token

module _ (t : ℕ) (h : t ≤ token_most) where
  unlift-fits : SFits w64 (unlift t)
  unfolding unlift
  unlift-fits = record { sfits = go (ltb t lift_by) }
    where
      go : (b : Bool) → mag (cond b (negsuc (lift_by - suc t)) (pos (t - lift_by))) < 2 ^ 63
      go true = omega arith
      go false = omega arith

  unlift-is : to_z w64 t -ℤ pos lift_by ≡ unlift t
  unfolding unlift
  unlift-is = ap (λ (z : ℤ). z -ℤ pos lift_by) (to_z_pos w64 t (omega arith))

  pub real_asks : SFits w64 (to_z w64 t -ℤ pos lift_by)
  real_asks = subst (SFits w64) (sym unlift-is) unlift-fits

  pub real-stored : to_z w64 (of_z w64 (to_z w64 t -ℤ pos lift_by)) ≡ unlift t
  real-stored = to_z-of_z w64 _ real_asks ∙ unlift-is

-- ---- the word of a content

module _ (c : List ℕ) (w : Option Word) (e : w ≡ word_of Loose c) where
  -- loose mode drops blanks, so it takes every content
  pub never-padded : w ≡ None → ⊥
  unfolding word_of
  never-padded f = let z : ◌≡◌ {A = ℕ} 0 1 = cc in omega arith

  module _ (start len : ℕ) (f : w ≡ Some (record { start = start; len = len })) where
    pub word_in : start + len ≤ length c
    word_in = (word-is Loose c start len (sym e ∙ f)).0

    pub word-part : take (start + len - start) (drop start c) ≡ trimmed c
    word-part =
        let z : start + len - start ≡ len = omega arith in
        rw z (word-is Loose c start len (sym e ∙ f)).1
