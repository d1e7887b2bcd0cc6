-- Lists of bytes and of numbers, as every chapter speaks of them. Assumes nothing: these are definitions.
use Rattle.std.specs.Prelude.{ℕ, zero, suc, ◌+◌, ◌-◌, List, [], ◌∷◌, ◌++◌, Bool, true, false, cond, ◌&&◌, ◌||◌, length, get_or, take, drop, eqb, leb}

-- how many at the front pass the test: all of them, where none fails it
unfoldable pub run : (ℕ → Bool) → List ℕ → ℕ
run p [] = 0
run p (b ∷ s) = cond (p b) (suc (run p s)) 0

-- how many are left when those at the end that pass the test are dropped
unfoldable pub kept : (ℕ → Bool) → List ℕ → ℕ
kept p [] = 0
kept p (b ∷ s) = cond (p b && eqb (kept p s) 0) 0 (suc (kept p s))

-- every one passes the test
unfoldable pub all : (ℕ → Bool) → List ℕ → Bool
all p [] = true
all p (b ∷ s) = p b && all p s

-- two lists are the same
unfoldable pub same : List ℕ → List ℕ → Bool
same [] [] = true
same [] (b ∷ t) = false
same (a ∷ s) [] = false
same (a ∷ s) (b ∷ t) = eqb a b && same s t

-- every one passes the test of its place, counted from i
unfoldable pub all_at : (ℕ → ℕ → Bool) → ℕ → List ℕ → Bool
all_at p i [] = true
all_at p i (b ∷ s) = p i b && all_at p (suc i) s

-- every number below n passes the test
unfoldable pub below : ℕ → (ℕ → Bool) → Bool
below zero p = true
below (suc n) p = p n && below n p

-- one of them is n
unfoldable pub holds : List ℕ → ℕ → Bool
holds [] n = false
holds (a ∷ s) n = eqb n a || holds s n

-- the place of a word in a list of words, counted from k; 0 where it stands nowhere
unfoldable pub place : ℕ → List (List ℕ) → List ℕ → ℕ
place k [] w = 0
place k (v ∷ vs) w = cond (same w v) k (place (suc k) vs w)

-- lists packed one behind the other: list k runs from start k to start k + 1, within the bytes
unfoldable pub packed_at : List ℕ → List ℕ → List (List ℕ) → ℕ → Bool
packed_at bytes starts lists k =
    leb (get_or starts k 0) (get_or starts (k + 1) 0) &&
    leb (get_or starts (k + 1) 0) (length bytes) &&
    same (take (get_or starts (k + 1) 0 - get_or starts k 0) (drop (get_or starts k 0) bytes)) (get_or lists k [])

unfoldable pub packed : List ℕ → List ℕ → List (List ℕ) → Bool
packed bytes starts lists = below (length lists) (packed_at bytes starts lists)

-- the part `&s[i..]` of a slice, as the borrow checker states it
abbrev pub tail {ℓ} : {A : Type ℓ} → List A → ℕ → List A
tail s i = take (length s - i) (drop i s)

-- a table that held `l` and now holds `xs` from its start: past `xs` nothing is altered
abbrev pub over {ℓ} : {A : Type ℓ} → List A → List A → List A
over xs l = xs ++ drop (length xs) l

-- a table that held `l` and now holds `xs` from place `i` on
abbrev pub pasted {ℓ} : {A : Type ℓ} → List A → ℕ → List A → List A
pasted l i xs = take i l ++ xs ++ drop (i + length xs) l
