-- What a content says, by what it is to be read as: document 01, "Records" and "Sections". Assumes nothing: these are definitions.
use Rattle.std.specs.Prelude.{ℕ, ◌+◌, ◌-◌, ◌*◌, ◌/◌, ◌%◌, List, [], ◌∷◌, ◌++◌, Bool, cond, ◌&&◌, ◌||◌, length, get_or, take, drop, leb, eqb, ℤ, pos, negsuc, ◌-ℤ◌, Option, Some, None, Result, Ok, Err}
use Rattle.laws.specs.Lists.{same, place}
use Rattle.laws.specs.Text.{text}
use Rattle.record.specs.declared.Mode.{Mode}
use Rattle.record.specs.Record.{word_eof}
use Rattle.record.specs.declared.refusal.Refusal.{Refusal}
use Rattle.record.specs.declared.refusal.Refusal.TheVariants as Refusal
use Rattle.number.specs.declared.Word.{Word}
use Rattle.number.specs.Words.{word_of}
use Rattle.number.specs.Number.{integer_of, behind_integer, real_of, behind_real}
use Rattle.token.specs.declared.Want.{Want}
use Rattle.token.specs.declared.Want.TheVariants.{Key, Text, Int, Real}

-- a real as a token, and back: a lifted real is never below 0
abbrev pub lift_by : ℕ
lift_by = 10000000000

unfoldable pub lift : ℤ → ℕ
lift (pos n) = n + lift_by
lift (negsuc n) = lift_by - 1 - n

unfoldable pub unlift : ℕ → ℤ
unlift t = pos t -ℤ pos lift_by

-- the keywords by kind, from 1
unfoldable pub keywords : List (List ℕ)
keywords = text "BORDO" ∷ text "TESTO" ∷ text "SIMBOLO" ∷ text "FIDUCIALE" ∷ text "LINEA" ∷ text "RIFERIMENTO_RASTER" ∷ text "LIBRETTO" ∷ []

-- the last kind: how many keywords there are
abbrev pub kind_most : ℕ
kind_most = 7

-- TESTO, SIMBOLO, FIDUCIALE and LINEA may carry a final `\`: outside
unfoldable pub may_lie_outside : ℕ → Bool
may_lie_outside kind = leb 2 kind && leb kind 5

-- a keyword with a final `\`: what stands before it
unfoldable pub unmarked : List ℕ → List ℕ
unmarked w = take (length w - 1) w

unfoldable pub is_marked : List ℕ → Bool
is_marked w = eqb (get_or w (length w - 1) 0) 92 && may_lie_outside (place 1 keywords (unmarked w))

-- a word where a keyword is due: EOF, a keyword, a keyword that lies outside; or 7
unfoldable pub key_of : List ℕ → Result ℕ Refusal
key_of w =
    cond (same w word_eof) (Ok 0)
    (cond (leb 1 (place 1 keywords w)) (Ok (2 * place 1 keywords w))
    (cond (is_marked w) (Ok (2 * place 1 keywords (unmarked w) + 1)) (Err Refusal.Keyword)))

-- the numbers that a word says there, and the exact mode's content for each
unfoldable pub is_key : ℕ → Bool
is_key t = eqb t 0 || leb 1 (t / 2) && leb (t / 2) kind_most && (eqb (t % 2) 0 || may_lie_outside (t / 2))

unfoldable pub key_text : ℕ → List ℕ
key_text t = cond (eqb t 0) word_eof (get_or keywords (t / 2 - 1) [] ++ cond (eqb (t % 2) 1) (92 ∷ []) [])

abbrev pub of_key : List ℕ → Option Word → Result ℕ Refusal
of_key c (Some w) = key_of (take w.len (drop w.start c))
of_key c None = Err Refusal.Keyword

-- letters are never empty; in exact mode a blank at an end is 9 too
abbrev pub of_text : Option Word → Result ℕ Refusal
of_text (Some w) = cond (eqb w.len 0) (Err Refusal.Letters) (Ok w.len)
of_text None = Err Refusal.Letters

abbrev pub of_whole : Option ℕ → Result ℕ Refusal
of_whole (Some n) = Ok n
of_whole None = Err Refusal.Number

abbrev pub of_decimal : Option ℤ → Result ℕ Refusal
of_decimal (Some z) = Ok (lift z)
of_decimal None = Err Refusal.Number

unfoldable pub lex_of : Mode → Want → List ℕ → Result ℕ Refusal
lex_of mode Key c = of_key c (word_of mode c)
lex_of mode Text c = of_text (word_of mode c)
lex_of mode Int c = of_whole (integer_of mode c)
lex_of mode Real c = of_decimal (real_of mode c)

-- what stands behind the number that a content is to be read as; letters and keywords are none
abbrev pub behind_number : Want → List ℕ → List ℕ
behind_number Key c = []
behind_number Text c = []
behind_number Int c = behind_integer c
behind_number Real c = behind_real c
