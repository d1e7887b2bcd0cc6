-- What a caller in another language asks, in the library's terms. Assumes nothing: these are definitions.
use Rattle.std.specs.Prelude.{ℕ, List, ◌≡◌, refl, Bool, false, cond, not, length, eqb, ℤ}
use Rattle.record.specs.declared.Mode.{Mode}
use Rattle.record.specs.declared.Mode.TheVariants.{Loose, Exact, Former}
use Rattle.heading.specs.declared.Header.{Header}
use Rattle.heading.specs.Heading.{no_header, is_header}

-- 0 is loose, 2 is the former reading, anything else is exact
abbrev pub mode_of : ℕ → Mode
mode_of m = cond (eqb m 0) Loose (cond (eqb m 2) Former Exact)

-- 0 is no, anything else is yes
abbrev pub is_keyword_due : ℕ → Bool
is_keyword_due d = not (eqb d 0)

-- a name of another length than 11 is a wrong name
unfoldable pub header_of : ℕ → List ℕ → ℤ → Header
header_of kind name scale = cond (eqb (length name) 11) (record { kind = kind; name = name; scale = scale }) no_header

-- so it is refused 6
no_name : is_header no_header ≡ false
unfolding is_header
no_name = refl
