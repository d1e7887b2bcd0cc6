-- Keyword, first word, letters, name: document 01, "Records". Assumes nothing: these are definitions.
use Rattle.std.specs.Prelude.{ℕ, List, Bool, cond, not, ◌||◌, length, take, drop, eqb, Option, Some, None}
use Rattle.laws.specs.Lists.{run, kept}
use Rattle.record.specs.declared.Mode.{Mode}
use Rattle.record.specs.Record.{is_exact}
use Rattle.number.specs.declared.Word.{Word}

abbrev pub blank : ℕ → Bool
blank b = eqb b 32

-- a content without the blanks at its front, and without those at both ends
unfoldable pub unled : List ℕ → List ℕ
unled c = drop (run blank c) c

unfoldable pub trimmed : List ℕ → List ℕ
trimmed c = take (kept blank (unled c)) (unled c)

-- a word's place and length
abbrev pub word_at : ℕ → ℕ → Option Word
word_at start len = Some (record { start = start; len = len })

-- exact mode permits no blank at either end, every other mode drops them
unfoldable pub word_of : Mode → List ℕ → Option Word
word_of mode c = cond (not (is_exact mode) || eqb (length (trimmed c)) (length c)) (word_at (run blank c) (length (trimmed c))) None
