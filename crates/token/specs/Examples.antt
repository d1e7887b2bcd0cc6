-- What contents say, computed: document 01, "Records" and the keywords of "Sections".
use Rattle.std.specs.Prelude.{ℕ, ◌≡◌, refl, List, [], ◌∷◌, map, length, pos, negsuc, Result, Ok, Err}
use Prim.Native.String.{String}
use Rattle.laws.specs.Lists.{same, place}
use Rattle.laws.specs.Text.{text}
use Rattle.record.specs.declared.Mode.{Mode}
use Rattle.record.specs.declared.Mode.TheVariants.{Loose, Exact, Former}
use Rattle.record.specs.declared.refusal.Refusal.{Refusal}
use Rattle.record.specs.declared.refusal.Refusal.TheVariants as Refusal
use Rattle.number.specs.Examples.{computed_integer, computed_real, computed_word}
use Rattle.token.specs.declared.Want.{Want}
use Rattle.token.specs.declared.Want.TheVariants.{Key, Text, Int, Real}
use Rattle.token.specs.Lex.{lift, unlift, keywords, kind_most, may_lie_outside, unmarked, is_marked, key_of, key_text, lex_of}

-- `lex_of` with every definition opened, so that it computes
unfoldable pub computed : Mode → Want → List ℕ → Result ℕ Refusal
unfolding lex_of key_of is_marked unmarked may_lie_outside keywords lift unlift same place computed_integer computed_real computed_word
computed mode want c = lex_of mode want c

-- what texts say where a keyword is due
keys : Mode → List String → List (Result ℕ Refusal)
unfolding computed
keys mode ss = map (λ s. lex_of mode Key (text s)) ss

-- EOF says 0, a keyword twice its kind, one more with its `\`, in exact and in loose mode
keywords-said : (keys Exact ("EOF" ∷ "BORDO" ∷ "TESTO" ∷ "SIMBOLO" ∷ "FIDUCIALE" ∷ "LINEA" ∷ "RIFERIMENTO_RASTER" ∷ "LIBRETTO" ∷ []) ≡ Ok 0 ∷ Ok 2 ∷ Ok 4 ∷ Ok 6 ∷ Ok 8 ∷ Ok 10 ∷ Ok 12 ∷ Ok 14 ∷ [])
    × (keys Loose ("TESTO\\" ∷ "SIMBOLO\\" ∷ "FIDUCIALE\\" ∷ "LINEA\\" ∷ []) ≡ Ok 5 ∷ Ok 7 ∷ Ok 9 ∷ Ok 11 ∷ [])
unfolding keys
keywords-said = (refl, refl)

-- the last kind is the last keyword
keywords-counted : length keywords ≡ kind_most
unfolding computed
keywords-counted = refl

-- no other word is one: BORDO, RIFERIMENTO_RASTER and LIBRETTO take no `\`, EOF none, no keyword two, none behind a blank; no note, no lower case, nothing
no-keyword : keys Loose ("BORDO\\" ∷ "RIFERIMENTO_RASTER\\" ∷ "LIBRETTO\\" ∷ "RIFERIMENTO" ∷ "EOF\\" ∷ "TESTO\\\\" ∷ "TESTO \\" ∷ "EOF note" ∷ "testo" ∷ "SIMBOLI" ∷ "\\" ∷ "" ∷ [])
    ≡ Err Refusal.Keyword ∷ Err Refusal.Keyword ∷ Err Refusal.Keyword ∷ Err Refusal.Keyword ∷ Err Refusal.Keyword ∷ Err Refusal.Keyword ∷ Err Refusal.Keyword ∷ Err Refusal.Keyword ∷ Err Refusal.Keyword ∷ Err Refusal.Keyword ∷ Err Refusal.Keyword ∷ Err Refusal.Keyword ∷ []
unfolding keys
no-keyword = refl

-- a blank at an end: dropped in loose mode, no keyword in exact mode
key-blanks : (keys Loose (" TESTO" ∷ "TESTO " ∷ "TESTO\\ " ∷ "EOF " ∷ []) ≡ Ok 4 ∷ Ok 4 ∷ Ok 5 ∷ Ok 0 ∷ [])
    × (keys Exact (" TESTO" ∷ "TESTO " ∷ "TESTO\\ " ∷ "EOF " ∷ []) ≡ Err Refusal.Keyword ∷ Err Refusal.Keyword ∷ Err Refusal.Keyword ∷ Err Refusal.Keyword ∷ [])
unfolding keys
key-blanks = (refl, refl)

-- letters say how many they are, without the blanks at their ends and with those inside; a keyword may stand there
letters-said : (lex_of Loose Text (text " a  b ") ≡ Ok 4) × (lex_of Exact Text (text "a  b") ≡ Ok 4) × (lex_of Exact Text (text "EOF") ≡ Ok 3)
    × (lex_of Exact Text (text "a ") ≡ Err Refusal.Letters) × (lex_of Exact Text (text " a") ≡ Err Refusal.Letters) × (lex_of Loose Text (text "  ") ≡ Err Refusal.Letters) × (lex_of Exact Text (text "") ≡ Err Refusal.Letters)
unfolding computed
letters-said = (refl, refl, refl, refl, refl, refl, refl)

-- a malformed number is 8; a real is lifted, so that the least says 1
numbers-said : (lex_of Exact Int (text "  18") ≡ Ok 18) × (lex_of Exact Int (text "18") ≡ Err Refusal.Number) × (lex_of Loose Real (text "0.000") ≡ Ok 10000000000)
    × (lex_of Loose Real (text "-0.005") ≡ Ok 9999999995) × (lex_of Exact Real (text "-9999999.999") ≡ Ok 1) × (lex_of Loose Real (text "5") ≡ Err Refusal.Number)
unfolding computed
numbers-said = (refl, refl, refl, refl, refl, refl)

-- a tail is 8, but in the former reading
tails-said : (lex_of Former Int (text "18 8") ≡ Ok 18) × (lex_of Loose Int (text "18 8") ≡ Err Refusal.Number) × (lex_of Former Real (text "0.000 x1") ≡ Ok 10000000000)
    × (lex_of Loose Real (text "0.000 x1") ≡ Err Refusal.Number) × (lex_of Former Text (text "18 8") ≡ Ok 4) × (lex_of Former Key (text "EOF 8") ≡ Err Refusal.Keyword)
unfolding computed
tails-said = (refl, refl, refl, refl, refl, refl)

-- a lifted real is had back
lifted-back : (unlift (lift (negsuc 4)) ≡ negsuc 4) × (unlift (lift (pos 7)) ≡ pos 7) × (unlift 0 ≡ negsuc 9999999999)
unfolding computed
lifted-back = (refl, refl, refl)

-- the exact mode's content for what is said
keys-written : map key_text (0 ∷ 2 ∷ 7 ∷ 11 ∷ 12 ∷ 14 ∷ []) ≡ text "EOF" ∷ text "BORDO" ∷ text "SIMBOLO\\" ∷ text "LINEA\\" ∷ text "RIFERIMENTO_RASTER" ∷ text "LIBRETTO" ∷ []
unfolding key_text computed
keys-written = refl
