-- The records of the header, each with what the code has in hand there, and their length. Assumes nothing.
use Prim.Native.Nat.{ℕ, ◌+◌, ◌-◌, ◌≤◌}
use mathlib.Core.Path.{◌≡◌, refl, ap}
use mathlib.Core.List.{List, [], ◌++◌}
use mathlib.Core.Bool.{Bool, true, false}
use native.Mathlib.Omega.{arith}
use lib.ListN.{length, get_or, length-append}
use lib.Dec.{eqb}
use borrow.Author.Tests.{eqb-true, eqb-false}
use Rattle.laws.specs.Text.{text}
use Rattle.spelling.specs.Spelling.{real_text}
use Rattle.spelling.proofs.SpellingLaws.{real-length}
use Rattle.heading.specs.declared.Header.{Header}
use Rattle.header.specs.Header.{first_words}
use Rattle.heading.specs.Heading.{is_header}
use Rattle.heading.proofs.HeadingLaws.{IsHeader, header_is}
use Rattle.layout.specs.Sheet.{line, header_text}
use Rattle.writer.specs.Put.{Put}
use Rattle.writer.proofs.Putting.{Putting, putting-start, putting-room, putting-on}
use Rattle.writer.proofs.Sizes.{line-length}

-- ---- its first word

module _ (kind : ℕ) where
  pub first-1 : kind ≡ 1 → get_or first_words (kind - 1) [] ≡ text "MAPPA"
  unfolding first_words
  first-1 e = rw e

  pub first-2 : kind ≡ 2 → get_or first_words (kind - 1) [] ≡ text "MAPPA FONDIARIO"
  unfolding first_words
  first-2 e = rw e

  pub first-3 : 1 ≤ kind → kind ≤ 3 → (kind ≡ 1 → ⊥) → (kind ≡ 2 → ⊥) → get_or first_words (kind - 1) [] ≡ text "QUADRO D'UNIONE"
  unfolding first_words
  first-3 l h f g = let e : kind ≡ 3 = omega arith in rw e

-- ---- its length

module _ (h : Header) (w : IsHeader h) where
  header-size : length (header_text h) ≡ length (get_or first_words (h.kind - 1) []) + 29
  unfolding header_text
  header-size =
      let a : List ℕ = line (get_or first_words (h.kind - 1) []) in
      let b : List ℕ = line h.name in
      let c : List ℕ = line (real_text h.scale) in
      omega (
        arith,
        length-append a (b ++ c),
        length-append b c,
        line-length (get_or first_words (h.kind - 1) []),
        line-length h.name,
        w.long,
        line-length (real_text h.scale),
        real-length h.scale w.real,
      )

  pub header-short : h.kind ≡ 1 → 34 ≡ length (header_text h)
  header-short e = omega (arith, header-size, ap length (first-1 h.kind e))

  pub header-long : (h.kind ≡ 1 → ⊥) → 44 ≡ length (header_text h)
  header-long f = go (eqb h.kind 2) refl
    where
      go : (x : Bool) → eqb h.kind 2 ≡ x → 44 ≡ length (header_text h)
      go true e = omega (arith, header-size, ap length (first-2 h.kind (eqb-true h.kind 2 e)))
      go false e = omega (arith, header-size, ap length (first-3 h.kind w.low w.high f (eqb-false h.kind 2 e)))

  pub header-most : length (header_text h) ≤ 44
  header-most = go (eqb h.kind 1) refl
    where
      go : (x : Bool) → eqb h.kind 1 ≡ x → length (header_text h) ≤ 44
      go true e = omega (arith, header-short (eqb-true h.kind 1 e))
      go false e = omega (arith, header-long (eqb-false h.kind 1 e))

pub header_sizes : (h : Header) → is_header h ≡ true → (h.kind ≡ 1 → 34 ≡ length (header_text h)) × ((h.kind ≡ 1 → ⊥) → 44 ≡ length (header_text h))
header_sizes h e = (header-short h (header_is h e), header-long h (header_is h e))

pub ruleset lengths = (header_sizes)

-- ---- its records, one behind the other

module _ (h : Header) (l : List ℕ) (at : ℕ) (room : at + length (header_text h) ≤ length l) where
  abbrev word : List ℕ
  word = get_or first_words (h.kind - 1) []

  abbrev behind : List ℕ
  behind = line h.name ++ line (real_text h.scale)

  start : Putting l at (header_text h) l at (line word ++ behind)
  unfolding header_text
  start = putting-start l at (line word ++ behind) room

  pub first-room : at + length (line word) ≤ length l
  first-room = putting-room start (line word) behind refl

  module _ {d : List ℕ} {n : ℕ} (p : Put l at (line word) d n) where
    named : Putting l at (header_text h) d n behind
    named = putting-on start (line word) behind refl p

    pub name-room : n + length (line h.name) ≤ length d
    name-room = putting-room named (line h.name) (line (real_text h.scale)) refl

    pub name-put : {e : List ℕ} {m : ℕ} → Put d n (line h.name) e m → Putting l at (header_text h) e m (line (real_text h.scale))
    name-put q = putting-on named (line h.name) (line (real_text h.scale)) refl q
