-- Headers as document 01, "Header and EOF", means them, computed.
use Prim.Native.String.{String}
use Rattle.std.specs.Prelude.{ℕ, ◌≡◌, refl, true, false, List, pos, Result}
use Rattle.laws.specs.Lists.{run, kept, all, same, all_at, place}
use Rattle.laws.specs.Text.{text}
use Rattle.record.specs.declared.Mode.{Mode}
use Rattle.record.specs.declared.Mode.TheVariants.{Loose, Exact, Former}
use Rattle.record.specs.declared.refusal.Refusal.TheVariants as Refusal
use Rattle.record.specs.Record.{ends_cr, content, content_is, line_is, line_of}
use Rattle.number.specs.Words.{unled, trimmed, word_of}
use Rattle.number.specs.Number.{value, parted, ended, lean, sign_of, signs, signed, thousandths, is_token, is_neat, real_is, real_at, real_signed, real_of}
use Rattle.heading.specs.declared.Header.{Header}
use Rattle.header.specs.declared.Headed.{Headed}
use Rattle.header.specs.declared.Stopped.{Stopped}
use Rattle.header.specs.Header.{first_words, begins, stopped, kind_said, is_named, head_scale, head_name, headed}
use Rattle.heading.specs.Heading.{name_byte, is_name, is_header}

-- `headed` with every definition opened, so that it computes
unfoldable pub computed : Mode → List ℕ → Result Headed Stopped
unfolding headed head_name head_scale kind_said is_named is_name name_byte first_words place all_at same line_of line_is content_is content ends_cr run all word_of trimmed unled kept real_of real_signed real_at real_is is_neat is_token thousandths signed signs sign_of lean ended parted value
computed mode bs = headed mode bs

-- the header of a text
read : Mode → String → Result Headed Stopped
unfolding computed
read mode s = headed mode (text s)

abbrev header : ℕ → String → ℕ → Header
header kind name scale = record { kind = kind; name = text name; scale = pos scale }

-- one is found, and the sections begin at a place
abbrev found : ℕ → String → ℕ → ℕ → Result Headed Stopped
found kind name scale at = begins (header kind name scale) at

-- ---- the three kinds

map : read Exact "MAPPA\r\nH501_0123A0\r\n    2000.000\r\n" ≡ found 1 "H501_0123A0" 2000000 34
unfolding read
map = refl

land-map : read Exact "MAPPA FONDIARIO\r\nH501A012300\r\n    1000.000\r\n" ≡ found 2 "H501A012300" 1000000 44
unfolding read
land-map = refl

union : read Exact "QUADRO D'UNIONE\r\nH501_0000QU\r\n   10000.000\r\n" ≡ found 3 "H501_0000QU" 10000000 44
unfolding read
union = refl

-- a name that ends so does not itself demand kind 3
map-QU : read Exact "MAPPA\r\nH501_0000QU\r\n    2000.000\r\n" ≡ found 1 "H501_0000QU" 2000000 34
unfolding read
map-QU = refl

-- loose mode drops blanks at the ends, and the name is held without them
blanks-loose : read Loose " MAPPA \n H501_0123A0\n2000.000  \n" ≡ found 1 "H501_0123A0" 2000000 32
unfolding read
blanks-loose = refl

-- a note behind the scale is the former reading's alone
note : (read Former " MAPPA \n H501_0123A0\n2000.000 m\n" ≡ found 1 "H501_0123A0" 2000000 32) × (read Loose " MAPPA \n H501_0123A0\n2000.000 m\n" ≡ stopped Refusal.Number 3 21)
unfolding read
note = (refl, refl)

blanks-exact : read Exact "MAPPA \r\nH501_0123A0\r\n    2000.000\r\n" ≡ stopped Refusal.Header 1 0
unfolding read
blanks-exact = refl

-- ---- refused

two-blanks : read Loose "MAPPA  FONDIARIO\r\nH501A012300\r\n    1000.000\r\n" ≡ stopped Refusal.Header 1 0
unfolding read
two-blanks = refl

union-no-QU : read Loose "QUADRO D'UNIONE\r\nH501_012300\r\n   10000.000\r\n" ≡ stopped Refusal.Header 2 17
unfolding read
union-no-QU = refl

minus-zero-loose : read Loose "MAPPA\r\nH501_0123A0\r\n      -0.000\r\n" ≡ stopped Refusal.Header 3 20
unfolding read
minus-zero-loose = refl

minus-zero-exact : read Exact "MAPPA\r\nH501_0123A0\r\n      -0.000\r\n" ≡ stopped Refusal.Number 3 20
unfolding read
minus-zero-exact = refl

zero : read Exact "MAPPA\r\nH501_0123A0\r\n       0.000\r\n" ≡ stopped Refusal.Header 3 20
unfolding read
zero = refl

lower-case : (read Loose "MAPPA\nh501_0123A0\n2000.000\n" ≡ stopped Refusal.Header 2 6) × (read Loose "mappa\nH501_0123A0\n2000.000\n" ≡ stopped Refusal.Header 1 0)
unfolding read
lower-case = (refl, refl)

-- of 10 and of 12 characters
name-length : (read Loose "MAPPA\nH501_0123A\n2000.000\n" ≡ stopped Refusal.Header 2 6) × (read Loose "MAPPA\nH501_0123A00\n2000.000\n" ≡ stopped Refusal.Header 2 6)
unfolding read
name-length = (refl, refl)

-- a padded name is refused at its own record
name-padded : read Exact "MAPPA\r\nH501_0123A0 \r\n    2000.000\r\n" ≡ stopped Refusal.Header 2 7
unfolding read
name-padded = refl

-- form comes before value: a scale that is no real is 8, also where it would not be above 0
scale-form : (read Loose "MAPPA\nH501_0123A0\n2000\n" ≡ stopped Refusal.Number 3 18) × (read Loose "MAPPA\nH501_0123A0\n-1\n" ≡ stopped Refusal.Number 3 18)
    × (read Loose "MAPPA\nH501_0123A0\n-1.000\n" ≡ stopped Refusal.Header 3 18)
unfolding read
scale-form = (refl, refl, refl)

-- ---- handed in

handed-union : is_header (header 3 "H501_0000QU" 1) ≡ true
unfolding read is_header
handed-union = refl

handed-no-QU : is_header (header 3 "H501_012300" 1) ≡ false
unfolding read is_header
handed-no-QU = refl

handed-zero : is_header (header 1 "H501_012300" 0) ≡ false
unfolding read is_header
handed-zero = refl

handed-most : is_header (header 1 "H501_012300" 99999999999) ≡ true
unfolding read is_header
handed-most = refl
