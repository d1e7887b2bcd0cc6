-- The ways through the functions that see a record of a head. Assumes nothing.
use Rattle.std.specs.Prelude.{Result, Ok}
use Rattle.record.specs.declared.refusal.Refusal.{Refusal}
use Rattle.record.specs.Record.{got}
use mathlib.Core.Path.{◌≡◌, refl, sym, ◌∙◌, ap}
use mathlib.Core.Bool.{Bool, true, false}
use mathlib.Core.List.{List}
use Prim.Native.Nat.{ℕ, ◌+◌, ◌/◌, ◌≤◌, ◌<◌}
use native.Mathlib.Omega.{arith}
use lib.ListN.{length, take, drop, set}
use lib.IntN.{ℤ}
use borrow.Author.Tests.{eq-eqb, ne_eqb}
use Rattle.laws.specs.Lists.{tail}
use Rattle.laws.proofs.ListLaws.{rest-is}
use Rattle.record.specs.declared.Mode.{Mode}
use Rattle.record.specs.declared.Line.{Line}
use Rattle.record.specs.Record.{line_of}
use Rattle.record.proofs.RecordLaws.{line_view}
use Rattle.token.specs.Lex.{lex_of}
use Rattle.token.specs.declared.Want.TheVariants.{Key}
use Rattle.quick.specs.Seen.{IntegerAt}
use Rattle.reader.specs.Turn.{size_of}
use Rattle.reader.specs.Heads.{KeySays, IsTrim, WordSays, LeadAt, CountsAt, border_cells, note_cells, sign_cells, mark_cells, path_cells, rows_head}
use Rattle.reader.specs.declared.RowHead.{RowHead}
use Rattle.reader.specs.declared.Said.{Said}
use Rattle.reader.specs.declared.Size.{Size}
use Rattle.reader.proofs.Fields.{size-read}
use Rattle.reader.proofs.HeadTurns.{integer-inside, word-inside}

module _ (mode : Mode) (s : List ℕ) (at : ℕ) (l : Result Line Refusal) (len width : ℕ) (f : l ≡ got len width) where
  pub key-said : (x : Result ℕ Refusal) (t : ℕ) → x ≡ Ok t → l ≡ line_of mode true (tail s at) → x ≡ lex_of mode Key (take len (tail s at)) → KeySays mode s at width t
  key-said x t h q g = record { len = len; line = rw (rest-is s at) at (sym q ∙ f); says = rw (rest-is s at) at (sym g ∙ h) }

  pub word-said : (b : Bool) → l ≡ line_of mode false (tail s at) → (b ≡ true → IsTrim (take len (tail s at))) → b ≡ true → WordSays mode s at width len
  word-said b q g h =
      let a : line_of mode false (drop at s) ≡ got len width = rw (rest-is s at) at (sym q ∙ f) in
      let t : IsTrim (take len (drop at s)) = rw (rest-is s at) at (g h) in
      let k : length (take len (drop at s)) ≡ len = (line_view mode false (drop at s) len width a).counted in
      record { line = a; says = t.says mode ∙ ap Ok k; bare = t.bare }

module _ (mode : Mode) (s : List ℕ) (at : ℕ) where
  pub integer-slow : (z : Size) → z ≡ size_of mode (tail s at) → 0 < z.width → IntegerAt mode s at z.width z.n
  unfolding lex_of
  integer-slow z q h =
      let r = size-read mode (drop at s) z (q ∙ ap (size_of mode) (rest-is s at)) h in
      record { len = r.len; line = r.line; says = rw r.number }

-- ---- two records

module _ (mode : Mode) (s : List ℕ) (at : ℕ) (x y : Said) where
  module _ (f : WordSays mode s at x.width x.token) where
    pub lead-mid : at + x.width ≤ length s
    lead-mid = (word-inside f).1

    module _ (g : IntegerAt mode s (at + x.width) y.width y.token) where
      pub lead-end : at + x.width + y.width ≤ length s
      lead-end = (integer-inside g).1

      pub lead_is : LeadAt mode s at x.token y.token (at + x.width + y.width)
      lead_is = record { w = x.width; w' = y.width; word = f; number = g; there = refl }

  module _ (f : IntegerAt mode s at x.width x.token) where
    pub counts-mid : at + x.width ≤ length s
    counts-mid = (integer-inside f).1

    module _ (g : IntegerAt mode s (at + x.width) y.width y.token) where
      pub counts_end : at + x.width + y.width ≤ length s
      counts_end = (integer-inside g).1

      pub counts-is : CountsAt mode s at x.token y.token (at + x.width + y.width)
      counts-is = record { w = x.width; w' = y.width; first = f; second = g; there = refl }

-- ---- the numbers of a head, by its kind

module _ (h : RowHead) (b : ℕ) (l m : List ℤ) where
  pub cells-border : h.token / 2 ≡ 1 → m ≡ border_cells h b l → m ≡ rows_head h b l
  unfolding rows_head
  cells-border e q = rw (eq-eqb (h.token / 2) 1 e) q

  module _ (n : h.token / 2 ≡ 1 → ⊥) where
    pub cells-note : h.token / 2 ≡ 2 → m ≡ note_cells h b l → m ≡ rows_head h b l
    unfolding rows_head
    cells-note e q = rw (ne_eqb (h.token / 2) 1 n, eq-eqb (h.token / 2) 2 e) q

    module _ (o : h.token / 2 ≡ 2 → ⊥) where
      pub cells-sign : h.token / 2 ≡ 3 → m ≡ sign_cells h b l → m ≡ rows_head h b l
      unfolding rows_head
      cells-sign e q = rw (ne_eqb (h.token / 2) 1 n, ne_eqb (h.token / 2) 2 o, eq-eqb (h.token / 2) 3 e) q

      module _ (u : h.token / 2 ≡ 3 → ⊥) where
        pub cells-mark : h.token / 2 ≡ 4 → m ≡ mark_cells h b l → m ≡ rows_head h b l
        unfolding rows_head
        cells-mark e q = rw (ne_eqb (h.token / 2) 1 n, ne_eqb (h.token / 2) 2 o, ne_eqb (h.token / 2) 3 u, eq-eqb (h.token / 2) 4 e) q

        pub cells-path : (h.token / 2 ≡ 4 → ⊥) → m ≡ path_cells h b l → m ≡ rows_head h b l
        unfolding rows_head
        cells-path e q = rw (ne_eqb (h.token / 2) 1 n, ne_eqb (h.token / 2) 2 o, ne_eqb (h.token / 2) 3 u, ne_eqb (h.token / 2) 4 e) q

-- ---- for the proof files

pub some_of : (n : ℕ) → (n ≡ 0 → ⊥) → 0 < n
some_of n h = omega arith

-- one number more is stored
pub then-set : (i : ℕ) (v : ℤ) {k l m : List ℤ} → l ≡ k → m ≡ set l i v → m ≡ set k i v
then-set i v e f = f ∙ ap (λ (z : List ℤ). set z i v) e
