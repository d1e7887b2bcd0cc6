-- Each kind's records and listed codes, computed: document 01's table of sections. Assumes nothing.
use Rattle.std.specs.Prelude.{ℕ, ◌+◌, ◌≡◌, refl, List, [], ◌∷◌, map, Bool, true, false, length}
use Rattle.laws.specs.Lists.{holds}
use Rattle.token.specs.Lex.{kind_most}
use Rattle.token.specs.declared.Want.{Want}
use Rattle.token.specs.declared.Want.TheVariants.{Text, Int, Real}
use Rattle.kinds.specs.Kinds.{code_place, size_place, angle_place, x_place, y_place, x2_place, y2_place, letters_place, islands_place, vertices_place, row_width, own_width, first_letter_place, first_island_place, first_point_place, want_at, schedule, next_in, next_of, fixed, fixed_vertices, unsaid, codes, is_listed}

-- the definitions opened, so that they compute
unfoldable pub computed : ℕ → ℕ → ℕ × (Want × Bool)
unfolding next_of next_in schedule want_at is_listed codes holds fixed_vertices fixed unsaid
computed kind n = (next_of kind n, (want_at n, is_listed kind n))

-- what follows each of the places, and what each of the codes is
follows : ℕ → List ℕ → List ℕ
unfolding computed
follows kind ps = map (next_of kind) ps

listed : ℕ → List ℕ → List Bool
unfolding computed
listed kind ns = map (is_listed kind) ns

-- BORDO: letters, size, angle, x, y, x, y, islands, vertices
border-fields : follows 1 (0 ∷ letters_place ∷ size_place ∷ angle_place ∷ x_place ∷ y_place ∷ x2_place ∷ y2_place ∷ islands_place ∷ vertices_place ∷ [])
    ≡ letters_place ∷ size_place ∷ angle_place ∷ x_place ∷ y_place ∷ x2_place ∷ y2_place ∷ islands_place ∷ vertices_place ∷ 0 ∷ []
unfolding follows
border-fields = refl

-- TESTO: letters, size, angle, x, y
text-fields : follows 2 (0 ∷ letters_place ∷ size_place ∷ angle_place ∷ x_place ∷ y_place ∷ []) ≡ letters_place ∷ size_place ∷ angle_place ∷ x_place ∷ y_place ∷ 0 ∷ []
unfolding follows
text-fields = refl

-- SIMBOLO: code, angle, x, y
symbol-fields : follows 3 (0 ∷ code_place ∷ angle_place ∷ x_place ∷ y_place ∷ []) ≡ code_place ∷ angle_place ∷ x_place ∷ y_place ∷ 0 ∷ []
unfolding follows
symbol-fields = refl

-- FIDUCIALE: letters, code, x, y, x, y
fiducial-fields : follows 4 (0 ∷ letters_place ∷ code_place ∷ x_place ∷ y_place ∷ x2_place ∷ y2_place ∷ []) ≡ letters_place ∷ code_place ∷ x_place ∷ y_place ∷ x2_place ∷ y2_place ∷ 0 ∷ []
unfolding follows
fiducial-fields = refl

-- LINEA: code, vertices
line-fields : follows 5 (0 ∷ code_place ∷ vertices_place ∷ []) ≡ code_place ∷ vertices_place ∷ 0 ∷ []
unfolding follows
line-fields = refl

-- RIFERIMENTO_RASTER: letters; LIBRETTO: letters, code, vertices; there is no kind 0 and none after 7
raster-fields : (follows 6 (0 ∷ letters_place ∷ []) ≡ letters_place ∷ 0 ∷ []) × (follows 7 (0 ∷ letters_place ∷ code_place ∷ vertices_place ∷ []) ≡ letters_place ∷ code_place ∷ vertices_place ∷ 0 ∷ [])
    × (follows 0 (0 ∷ []) ≡ 0 ∷ []) × (follows 8 (0 ∷ []) ≡ 0 ∷ [])
unfolding follows
raster-fields = (refl, refl, refl, refl)

-- a raster has four points and no record that counts them; no other kind, and nothing else in its row, is given so
raster-vertices : (map fixed_vertices (0 ∷ 1 ∷ 2 ∷ 3 ∷ 4 ∷ 5 ∷ 6 ∷ 7 ∷ 8 ∷ []) ≡ 0 ∷ 0 ∷ 0 ∷ 0 ∷ 0 ∷ 0 ∷ 4 ∷ 0 ∷ 0 ∷ [])
    × (map (unsaid 6) (code_place ∷ size_place ∷ x_place ∷ islands_place ∷ vertices_place ∷ []) ≡ 0 ∷ 0 ∷ 0 ∷ 0 ∷ 4 ∷ []) × (unsaid 7 vertices_place ≡ 0)
unfolding computed
raster-vertices = (refl, refl, refl)

-- each table has a row for every kind
rows-of-tables : (length schedule ≡ kind_most + 1) × (length codes ≡ kind_most + 1) × (length fixed ≡ kind_most + 1)
unfolding computed
rows-of-tables = (refl, refl, refl)

-- a row's three starts stand behind what its section gives, and fill it
start-places : (first_letter_place ≡ own_width) × (first_island_place ≡ first_letter_place + 1) × (first_point_place ≡ first_island_place + 1) × (row_width ≡ first_point_place + 1)
start-places = (refl, refl, refl, refl)

-- letters are text; angle and coordinates are reals; code, size, islands and vertices integers
wanted : map want_at (code_place ∷ size_place ∷ angle_place ∷ x_place ∷ y_place ∷ x2_place ∷ y2_place ∷ letters_place ∷ islands_place ∷ vertices_place ∷ [])
    ≡ Int ∷ Int ∷ Real ∷ Real ∷ Real ∷ Real ∷ Real ∷ Text ∷ Int ∷ Int ∷ []
unfolding computed
wanted = refl

-- symbols 1-11, 13-16, 20: 12 is not listed and 13 is
symbol-codes : listed 3 (0 ∷ 1 ∷ 11 ∷ 12 ∷ 13 ∷ 16 ∷ 17 ∷ 19 ∷ 20 ∷ 21 ∷ []) ≡ false ∷ true ∷ true ∷ false ∷ true ∷ true ∷ false ∷ false ∷ true ∷ false ∷ []
unfolding listed
symbol-codes = refl

-- fiducials 8, 20
fiducial-codes : listed 4 (0 ∷ 1 ∷ 7 ∷ 8 ∷ 9 ∷ 19 ∷ 20 ∷ 21 ∷ []) ≡ false ∷ false ∷ false ∷ true ∷ false ∷ false ∷ true ∷ false ∷ []
unfolding listed
fiducial-codes = refl

-- lines 1, 5, 6, 11, 12, 29-35
line-codes : listed 5 (0 ∷ 1 ∷ 2 ∷ 4 ∷ 5 ∷ 6 ∷ 7 ∷ 10 ∷ 11 ∷ 12 ∷ 13 ∷ 28 ∷ 29 ∷ 35 ∷ 36 ∷ [])
    ≡ false ∷ true ∷ false ∷ false ∷ true ∷ true ∷ false ∷ false ∷ true ∷ true ∷ false ∷ false ∷ true ∷ true ∷ false ∷ []
unfolding listed
line-codes = refl

-- a survey book's lines 1 alone; a raster has no code
book-codes : (listed 7 (0 ∷ 1 ∷ 2 ∷ 5 ∷ []) ≡ false ∷ true ∷ false ∷ false ∷ []) × (listed 6 (0 ∷ 1 ∷ []) ≡ false ∷ false ∷ [])
unfolding listed
book-codes = (refl, refl)
