-- The three records of the header: document 01, "Header and EOF". Assumes nothing: these are definitions.
use Rattle.std.specs.Prelude.{ℕ, ◌+◌, List, [], ◌∷◌, Bool, true, false, cond, ◌&&◌, take, drop, eqb, ℤ, pos, Option, Some, None, Result, Ok, Err}
use Rattle.std.specs.Int.Signed.{lt_z}
use Rattle.laws.specs.Lists.{place}
use Rattle.laws.specs.Text.{text}
use Rattle.record.specs.declared.Mode.{Mode}
use Rattle.record.specs.declared.Line.{Line}
use Rattle.record.specs.declared.refusal.Refusal.{Refusal}
use Rattle.record.specs.Record.{line_of}
use Rattle.number.specs.declared.Word.{Word}
use Rattle.number.specs.Words.{word_of, trimmed}
use Rattle.number.specs.Number.{real_of}
use Rattle.heading.specs.Heading.{is_name}
use Rattle.heading.specs.declared.Header.{Header}
use Rattle.header.specs.declared.Headed.{Headed}
use Rattle.header.specs.declared.Stopped.{Stopped}

-- kinds 1, 2 and 3 by the first word
unfoldable pub first_words : List (List ℕ)
first_words = text "MAPPA" ∷ text "MAPPA FONDIARIO" ∷ text "QUADRO D'UNIONE" ∷ []

-- a header, and where the sections begin; or the refusal with its record's number and place
abbrev pub begins : Header → ℕ → Result Headed Stopped
begins header at = Ok (record { header = header; at = at })

abbrev pub stopped : Refusal → ℕ → ℕ → Result Headed Stopped
stopped refusal record' offset = Err (record { refusal = refusal; «record» = record'; offset = offset })

abbrev pub is_word : Option Word → Bool
is_word (Some word) = true
is_word None = false

-- record 1 is one of the first words: its kind, or 0
unfoldable pub kind_said : Mode → List ℕ → ℕ
kind_said mode c = cond (is_word (word_of mode c)) (place 1 first_words (trimmed c)) 0

-- record 2 is the name
unfoldable pub is_named : Mode → ℕ → List ℕ → Bool
is_named mode kind c = is_word (word_of mode c) && is_name kind (trimmed c)

-- record 3 is the scale, a real above 0: form (8) first, then 6
abbrev pub of_scale : ℕ → List ℕ → ℕ → ℕ → Option ℤ → Result Headed Stopped
of_scale kind name at width (Some z) =
    cond (lt_z (pos 0) z)
    (begins (record { kind = kind; name = name; scale = z }) (at + width))
    (stopped Refusal.Header 3 at)
of_scale kind name at width None = stopped Refusal.Number 3 at

abbrev pub scale_line : Mode → ℕ → List ℕ → ℕ → List ℕ → Result Line Refusal → Result Headed Stopped
scale_line mode kind name at bs (Ok line) = of_scale kind name at line.width (real_of mode (take line.len bs))
scale_line mode kind name at bs (Err refusal) = stopped refusal 3 at

unfoldable pub head_scale : Mode → ℕ → List ℕ → ℕ → List ℕ → Result Headed Stopped
head_scale mode kind name at bs = scale_line mode kind name at bs (line_of mode false bs)

abbrev pub name_line : Mode → ℕ → ℕ → List ℕ → Result Line Refusal → Result Headed Stopped
name_line mode kind at bs (Ok line) =
    cond (is_named mode kind (take line.len bs))
    (head_scale mode kind (trimmed (take line.len bs)) (at + line.width) (drop line.width bs))
    (stopped Refusal.Header 2 at)
name_line mode kind at bs (Err refusal) = stopped refusal 2 at

unfoldable pub head_name : Mode → ℕ → ℕ → List ℕ → Result Headed Stopped
head_name mode kind at bs = name_line mode kind at bs (line_of mode false bs)

abbrev pub first_line : Mode → List ℕ → Result Line Refusal → Result Headed Stopped
first_line mode bs (Ok line) =
    cond (eqb (kind_said mode (take line.len bs)) 0)
    (stopped Refusal.Header 1 0)
    (head_name mode (kind_said mode (take line.len bs)) line.width (drop line.width bs))
first_line mode bs (Err refusal) = stopped refusal 1 0

-- the header of a file, and where its sections begin
unfoldable pub headed : Mode → List ℕ → Result Headed Stopped
headed mode bs = first_line mode bs (line_of mode false bs)
