-- The values of a header: document 01, "Header and EOF" and refusal 6. Assumes nothing: these are definitions.
use Rattle.std.specs.Prelude.{ℕ, List, Bool, cond, not, ◌&&◌, ◌||◌, length, drop, replicate, leb, eqb, pos}
use Rattle.std.specs.Int.Signed.{lt_z, le_z}
use Rattle.laws.specs.Lists.{same, all_at}
use Rattle.laws.specs.Text.{text}
use Rattle.number.specs.Number.{digit, real_most}
use Rattle.heading.specs.declared.Header.{Header}

abbrev pub capital : ℕ → Bool
capital b = leb 65 b && leb b 90

-- a capital letter, three digits, a capital letter or `_`, four digits, then two of 0-9 or A-Z
unfoldable pub name_byte : ℕ → ℕ → Bool
name_byte i b =
    cond (eqb i 0) (capital b) (cond (leb i 3) (digit b) (cond (eqb i 4) (capital b || eqb b 95) (cond (leb i 8) (digit b) (digit b || capital b))))

-- a name of that form; for kind 3 the last two are `QU`
unfoldable pub is_name : ℕ → List ℕ → Bool
is_name kind s = eqb (length s) 11 && all_at name_byte 0 s && (not (eqb kind 3) || same (drop 9 s) (text "QU"))

-- a header that is handed in: kind 1 to 3, a name of its form, a scale above 0 and within the real range
unfoldable pub is_header : Header → Bool
is_header h = leb 1 h.kind && leb h.kind 3 && is_name h.kind h.name && lt_z (pos 0) h.scale && le_z h.scale real_most

-- beside a refusal
abbrev pub no_header : Header
no_header = record { kind = 0; name = replicate 11 0; scale = pos 0 }
