-- The fields that a writer gives are read back, along the schedule of their kind. Assumes nothing.
-- While the fields at the places ps are to come, the row has 0 there and its own number everywhere else.
use Prim.Native.Nat.{ℕ, ◌+◌, ◌-◌, ◌*◌, ◌≤◌, ◌<◌}
use mathlib.Core.Path.{◌≡◌, refl, sym, ◌∙◌, ap, subst}
use mathlib.Core.List.{List, [], ◌∷◌, ◌++◌, append-nil}
use mathlib.Core.Bool.{Bool, true, false, cond, not, ◌&&◌, ◌||◌}
use native.Mathlib.Omega.{arith}
use lib.ListN.{length, get_or, take, set, length-set, length-append}
use lib.Seq.{length-take-le, get_or-set_same, get_or-set_other, set-append_left}
use lib.Dec.{leb, eqb}
use lib.IntN.{ℤ, pos, negsuc}
use lib.Signed.{le_z}
use borrow.Author.Tests.{leb-true, le-leb, ne_eqb, eqb-true, eqb-false, not-true}
use Rattle.laws.specs.Lists.{all, below, holds}
use Rattle.laws.proofs.Choice.{and_left, and_right, false≢true}
use Rattle.laws.proofs.Bits.{eq_z-same}
use Rattle.laws.proofs.ListLaws.{below_at, holds-here, holds-there, values, values-at, values_length, values-are}
use Rattle.layout.proofs.Tails.{Lettered}
use Rattle.std.specs.Prelude.{Some, Ok}
use Rattle.record.specs.declared.Mode.{Mode}
use Rattle.record.specs.Record.{is_exact, plain}
use Rattle.number.specs.Words.{blank, trimmed}
use Rattle.number.proofs.WordLaws.{untrimmed}
use Rattle.token.specs.declared.Want.{Want}
use Rattle.token.specs.declared.Want.TheVariants.{Key, Text, Int, Real}
use Rattle.token.specs.Lex.{kind_most, lift}
use Rattle.token.proofs.TokenLaws.{lift-unlift}
use Rattle.machine.specs.declared.State.{State}
use Rattle.machine.specs.declared.State.TheVariants.{Due, Field, Island, X}
use Rattle.kinds.specs.Kinds.{row_width, own_width, schedule, next_in, next_of, fixed_vertices, unsaid, is_listed, want_at}
use Rattle.machine.specs.Machine.{want_of, fresh_ring, vertices_of, fields_end, field_of, step_of}
use Rattle.sheet.specs.Tables.{Tables, no_starts, start_cells, cell_of, set_last, put}
use Rattle.sheet.proofs.Pass.{Pass, done}
use Rattle.made.specs.Made.{cell_at, nat_of, count_at, kind_of, letters_of, sum, four_at_least, in_range, has_field, is_cell, are_letters, are_counts, is_coded}
use Rattle.layout.specs.Sheet.{field_text, fields_text}
use Rattle.layout.proofs.ScheduleLaws.{bare-kind, fixed-enough}
use Rattle.layout.proofs.RingPass.{go-cond}
use Rattle.layout.proofs.Contents.{Reads, integer-reads, real-reads, letters-read, line-pass}

-- ---- the tables while the fields at ps are to come

abbrev cell_due : Tables → List ℕ → ℕ → ℤ
cell_due t ps q = cond (holds ps q) (pos 0) (cell_at t q)

abbrev pub partly : Tables → List ℕ → Tables
partly t ps = record { rows = values (cell_due t ps) own_width ++ start_cells no_starts; letters = cond (holds ps 9) [] (letters_of t); islands = []; points = [] }

-- the islands that a field's state knows
abbrev pub islands_due : Tables → List ℕ → ℕ
islands_due t ps = cond (holds ps 10) 0 (count_at t 10)

-- a kind has points: its section counts them, or has so many
abbrev pub has_points : ℕ → Bool
has_points kind = has_field kind 11 || not (eqb (fixed_vertices kind) 0)

-- the state behind the fields
abbrev pub behind : ℕ → ℕ → ℕ → State
behind kind i v = cond (has_points kind) (cond (eqb kind 1) (cond (eqb i 0) (X (fresh_ring true 0 v)) (Island i v i)) (X (fresh_ring false 0 v))) Due

abbrev pub state_at : Tables → List ℕ → State
state_at t [] = behind (kind_of t) (count_at t 10) (count_at t 11)
state_at t (p ∷ ps) = Field (kind_of t) p (islands_due t (p ∷ ps))

-- ---- the schedule, a computed test: places of the row, none of them twice, the vertices last of all; and the machine's next place is the next of the list

abbrev is_last : ℕ → ℕ → List ℕ → Bool
is_last kind p [] = eqb p 11 || not (has_field kind 11)
is_last kind p (q ∷ qs) = not (eqb p 11) && not (eqb q 0)

abbrev is_place : ℕ → ℕ → List ℕ → Bool
is_place kind p ps = leb 2 p && leb p 11 && has_field kind p && not (holds ps p) && eqb (next_of kind p) (get_or ps 0 0) && is_last kind p ps

pub walks : ℕ → List ℕ → Bool
walks kind [] = true
walks kind (p ∷ ps) = is_place kind p ps && walks kind ps

record Place (kind p : ℕ) (ps : List ℕ) : Type 0 where
  pub low : 2 ≤ p
  pub high : p ≤ 11
  pub has : has_field kind p ≡ true
  pub once : holds ps p ≡ false
  pub next : next_of kind p ≡ get_or ps 0 0
  pub last : is_last kind p ps ≡ true

place_is : (kind p : ℕ) (ps : List ℕ) → is_place kind p ps ≡ true → Place kind p ps
place_is kind p ps e =
    let a = leb 2 p in
    let b = leb p 11 in
    let c = has_field kind p in
    let d = not (holds ps p) in
    let f = eqb (next_of kind p) (get_or ps 0 0) in
    let g = is_last kind p ps in
    let e₅ = and_left (a && b && c && d && f) g e in
    let e₄ = and_left (a && b && c && d) f e₅ in
    let e₃ = and_left (a && b && c) d e₄ in
    let e₂ = and_left (a && b) c e₃ in
    record {
      low = leb-true 2 p (and_left a b e₂);
      high = leb-true p 11 (and_right a b e₂);
      has = and_right (a && b) c e₃;
      once = not-true (holds ps p) (and_right (a && b && c) d e₄);
      next = eqb-true (next_of kind p) (get_or ps 0 0) (and_right (a && b && c && d) f e₅);
      last = and_right (a && b && c && d && f) g e;
    }

-- and a kind's schedule begins where the machine does; only a border has islands
abbrev is_walk : ℕ → List ℕ → Bool
is_walk kind ps =
    walks kind ps && not (has_field kind 0) && not (has_field kind 1) && eqb (next_of kind 0) (get_or ps 0 0) && not (eqb (get_or ps 0 0) 0) && (eqb kind 1 || not (has_field kind 10))

is_scheduled : ℕ → Bool
is_scheduled kind = eqb kind 0 || is_walk kind (get_or schedule kind [])

all-scheduled : below (kind_most + 1) is_scheduled ≡ true
unfolding below is_scheduled walks has_field holds next_of next_in schedule
all-scheduled = refl

pub record Scheduled (kind : ℕ) (ps : List ℕ) : Type 0 where
  pub walked : walks kind ps ≡ true
  pub no_kind : has_field kind 0 ≡ false
  pub no_outside : has_field kind 1 ≡ false
  pub first : next_of kind 0 ≡ get_or ps 0 0
  pub some : get_or ps 0 0 ≡ 0 → ⊥
  pub border : (eqb kind 1 || not (has_field kind 10)) ≡ true

pub scheduled : (kind : ℕ) → 1 ≤ kind → kind ≤ kind_most → Scheduled kind (get_or schedule kind [])
unfolding is_scheduled
scheduled kind l h =
    let ps = get_or schedule kind [] in
    let a = walks kind ps in
    let b = not (has_field kind 0) in
    let c = not (has_field kind 1) in
    let d = eqb (next_of kind 0) (get_or ps 0 0) in
    let f = not (eqb (get_or ps 0 0) 0) in
    let g = eqb kind 1 || not (has_field kind 10) in
    let e₆ = rw (ne_eqb kind 0 (λ z. omega arith)) at (below_at (kind_most + 1) is_scheduled kind all-scheduled (omega arith)) in
    let e₅ = and_left (a && b && c && d && f) g e₆ in
    let e₄ = and_left (a && b && c && d) f e₅ in
    let e₃ = and_left (a && b && c) d e₄ in
    let e₂ = and_left (a && b) c e₃ in
    record {
      walked = and_left a b e₂;
      no_kind = not-true (has_field kind 0) (and_right a b e₂);
      no_outside = not-true (has_field kind 1) (and_right (a && b) c e₃);
      first = eqb-true (next_of kind 0) (get_or ps 0 0) (and_right (a && b && c) d e₄);
      some = eqb-false (get_or ps 0 0) 0 (not-true (eqb (get_or ps 0 0) 0) (and_right (a && b && c && d) f e₅));
      border = and_right (a && b && c && d && f) g e₆;
    }

-- ---- the token of a field

abbrev token_of : Want → ℤ → ℕ
token_of Key z = 0
token_of Text z = nat_of z
token_of Int z = nat_of z
token_of Real z = lift z

abbrev token_at : Tables → ℕ → ℕ
token_at t p = token_of (want_at p) (cell_at t p)

-- a count between two others
pub counted : (least most : ℕ) (z : ℤ) → (le_z (pos least) z && le_z z (pos most)) ≡ true → (z ≡ pos (nat_of z)) × (least ≤ nat_of z) × (nat_of z ≤ most)
counted least most (pos n) e = (refl, leb-true least n (and_left (leb least n) (leb n most) e), leb-true n most (and_right (leb least n) (leb n most) e))
counted least most (negsuc n) e = absurd (false≢true e)

token_back : (w : Want) (z : ℤ) → in_range w z ≡ true → cell_of w (token_of w z) ≡ z
unfolding in_range
token_back Key z e = absurd (false≢true e)
token_back Text z e = sym (counted 1 255 z e).0
token_back Int z e = sym (counted 0 9999 z e).0
token_back Real z e = lift-unlift z e

-- only the letters are a text
text-place : (p : ℕ) → want_at p ≡ Text → p ≡ 9
unfolding want_at
text-place p = go (eqb p 9) refl (leb 4 p && leb p 8)
  where
    go : (x : Bool) → eqb p 9 ≡ x → (y : Bool) → cond x Text (cond y Real Int) ≡ Text → p ≡ 9
    go true q y e = eqb-true p 9 q
    go false q true e = absurd cc
    go false q false e = absurd cc

-- ---- the letters

letters-are : (n : ℕ) (s : List ℕ) → are_letters n s ≡ true → Lettered n (take n s)
unfolding are_letters
letters-are n s e =
    let a = leb n (length s) in
    let b = all plain (take n s) in
    let c = not (blank (get_or (take n s) 0 0)) in
    let d = not (blank (get_or (take n s) (n - 1) 0)) in
    let e₃ = and_left (a && b && c) d e in
    let e₂ = and_left (a && b) c e₃ in
    let l : length (take n s) ≡ n = length-take-le n s (leb-true n (length s) (and_left a b e₂)) in
    record {
      counted = l;
      good = and_right a b e₂;
      first = not-true (blank (get_or (take n s) 0 0)) (and_right (a && b) c e₃);
      last = rw l (not-true (blank (get_or (take n s) (n - 1) 0)) (and_right (a && b && c) d e));
    }

-- ---- the counts of a border, and of a line

pub record Border (i v : ℕ) (s : List ℕ) : Type 0 where
  pub enough : 4 + 4 * i ≤ v
  pub held : i ≤ length s
  pub fours : all four_at_least (take i s) ≡ true
  pub spare : sum (take i s) + 4 ≤ v

pub border-is : (kind i v : ℕ) (s : List ℕ) → eqb kind 1 ≡ true → are_counts kind i v s ≡ true → Border i v s
unfolding are_counts
border-is kind i v s q e =
    let a = leb (4 + 4 * i) v in
    let b = leb i (length s) in
    let c = all four_at_least (take i s) in
    let d = leb (sum (take i s) + 4) v in
    let e₄ = rw q at e in
    let e₃ = and_left (a && b && c) d e₄ in
    let e₂ = and_left (a && b) c e₃ in
    record {
      enough = leb-true (4 + 4 * i) v (and_left a b e₂);
      held = leb-true i (length s) (and_right a b e₂);
      fours = and_right (a && b) c e₃;
      spare = leb-true (sum (take i s) + 4) v (and_right (a && b && c) d e₄);
    }

pub line-is : (kind i v : ℕ) (s : List ℕ) → eqb kind 1 ≡ false → has_field kind 11 ≡ true → are_counts kind i v s ≡ true → 2 ≤ v
unfolding are_counts
line-is kind i v s q h e = leb-true 2 v (rw (q, h) at e)

-- ---- a row that is well made

module _ (mode : Mode) (t : Tables) (cells : (p : ℕ) → p < 12 → is_cell (kind_of t) p (cell_at t p) ≡ true) (letters : are_letters (count_at t 9) t.letters ≡ true)
    (counts : are_counts (kind_of t) (count_at t 10) (count_at t 11) t.islands ≡ true) (coded : is_coded mode (kind_of t) (count_at t 2) ≡ true) where
  -- a field of the kind is within its range
  pub field_in : (p : ℕ) → 2 ≤ p → p ≤ 11 → has_field (kind_of t) p ≡ true → in_range (want_at p) (cell_at t p) ≡ true
  unfolding is_cell
  field_in p l h e = rw (ne_eqb p 0 (λ z. omega arith), ne_eqb p 1 (λ z. omega arith), e) at (cells p (omega arith))

  -- a field that the kind lacks is as its section leaves it
  pub field-none : (p : ℕ) → 2 ≤ p → p ≤ 11 → has_field (kind_of t) p ≡ false → cell_at t p ≡ pos (unsaid (kind_of t) p)
  unfolding is_cell
  field-none p l h e = eq_z-same (cell_at t p) (pos (unsaid (kind_of t) p)) (rw (ne_eqb p 0 (λ z. omega arith), ne_eqb p 1 (λ z. omega arith), e) at (cells p (omega arith)))

  field-reads : (p : ℕ) (w : Want) → want_at p ≡ w → in_range w (cell_at t p) ≡ true → Reads w (field_text t p w) (token_of w (cell_at t p))
  unfolding in_range
  field-reads p Key q e = absurd (false≢true e)
  field-reads p Text q e =
      let l = letters-are (count_at t 9) t.letters letters in
      let n : count_at t p ≡ length (letters_of t) = ap (count_at t) (text-place p q) ∙ sym l.counted in
      let c = counted 1 255 (cell_at t p) e in
      rw n (letters-read (letters_of t) l.good (omega arith) (omega arith) l.first l.last)
  field-reads p Int q e = integer-reads (count_at t p) (counted 0 9999 (cell_at t p) e).2
  field-reads p Real q e = real-reads (cell_at t p) e

  -- ---- what it puts into the tables

  module _ (p : ℕ) (ps : List ℕ) (h : Place (kind_of t) p ps) where
    cell-put : (q : ℕ) → q < 12 → get_or (set (values (cell_due t (p ∷ ps)) 12) p (cell_at t p)) q (pos 0) ≡ cell_due t ps q
    cell-put q l = go (eqb q p) refl
      where
        go : (x : Bool) → eqb q p ≡ x → get_or (set (values (cell_due t (p ∷ ps)) 12) p (cell_at t p)) q (pos 0) ≡ cell_due t ps q
        go true e = rw (eqb-true q p e, h.once) (get_or-set_same (values (cell_due t (p ∷ ps)) 12) p (cell_at t p) (pos 0) (omega (arith, h.high, values_length (cell_due t (p ∷ ps)) 12)))
        go false e =
            get_or-set_other (values (cell_due t (p ∷ ps)) 12) p q (cell_at t p) (pos 0) (eqb-false q p e)
            ∙ values-at (cell_due t (p ∷ ps)) 12 q (pos 0) l ∙ rw (holds-there ps p q (eqb-false q p e))

    row_put : set_last (values (cell_due t (p ∷ ps)) own_width ++ start_cells no_starts) p (cell_of (want_at p) (token_at t p)) ≡ values (cell_due t ps) own_width ++ start_cells no_starts
    unfolding set_last
    row_put =
        let old = values (cell_due t (p ∷ ps)) own_width in
        let n = values_length (cell_due t (p ∷ ps)) own_width in
        let i : length (old ++ start_cells no_starts) - row_width + p ≡ p = omega (arith, n, length-append old (start_cells no_starts)) in
        rw (i, token_back (want_at p) (cell_at t p) (field_in p h.low h.high h.has))
        (set-append_left old (start_cells no_starts) p (cell_at t p) (omega (arith, n, h.high))
        ∙ ap (λ (l : List ℤ). l ++ start_cells no_starts) (values-are (set old p (cell_at t p)) (cell_due t ps) own_width (pos 0) (length-set old p (cell_at t p) ∙ n) cell-put))

    letters-put : cond (holds (p ∷ ps) 9) [] (letters_of t) ++ cond (eqb p 9) (trimmed (field_text t p (want_at p))) [] ≡ cond (holds ps 9) [] (letters_of t)
    unfolding want_at
    letters-put = go (eqb p 9) refl
      where
        go : (x : Bool) → eqb p 9 ≡ x → cond (holds (p ∷ ps) 9) [] (letters_of t) ++ cond x (trimmed (field_text t p (want_at p))) [] ≡ cond (holds ps 9) [] (letters_of t)
        go true e =
            let l = letters-are (count_at t 9) t.letters letters in
            let q : p ≡ 9 = eqb-true p 9 e in
            let o : holds ps 9 ≡ false = rw q at h.once in
            rw q (rw (holds-here ps 9 9 refl, o, untrimmed (letters_of t) l.first l.last))
        go false e =
            let n : 9 ≡ p → ⊥ = λ z. eqb-false p 9 e (sym z) in
            append-nil (cond (holds (p ∷ ps) 9) [] (letters_of t)) ∙ rw (holds-there ps p 9 n)

    field_put : (i : ℕ) → put (Field (kind_of t) p i) (token_at t p) (field_text t p (want_at p)) (partly t (p ∷ ps)) ≡ partly t ps
    unfolding put
    field_put i = rw (row_put, letters-put)

    -- ---- where it leads

    -- a code that is to be listed is
    code-passes : (n : ℕ) → (p ≡ 2 → n ≡ count_at t 2) → (eqb p 2 && is_exact mode && not (is_listed (kind_of t) n)) ≡ false
    unfolding is_coded
    code-passes n f = go (eqb p 2) refl
      where
        listed : (x y : Bool) → (not x || false || y) ≡ true → (x && not y) ≡ false
        listed false y e = refl
        listed true true e = refl
        listed true false e = absurd (false≢true e)

        go : (x : Bool) → eqb p 2 ≡ x → (x && is_exact mode && not (is_listed (kind_of t) n)) ≡ false
        go false e = refl
        go true e =
            let q : p ≡ 2 = eqb-true p 2 e in
            let has : has_field (kind_of t) 2 ≡ true = rw q at h.has in
            rw (f q) (listed (is_exact mode) (is_listed (kind_of t) (count_at t 2)) (rw has at coded))

    -- the islands are known from their field on
    islands-known : (n : ℕ) → (p ≡ 10 → n ≡ count_at t 10) → cond (eqb p 10) n (islands_due t (p ∷ ps)) ≡ islands_due t ps
    islands-known n f = go (eqb p 10) refl
      where
        go : (x : Bool) → eqb p 10 ≡ x → cond x n (islands_due t (p ∷ ps)) ≡ islands_due t ps
        go true e =
            let q : p ≡ 10 = eqb-true p 10 e in
            let o : holds ps 10 ≡ false = rw q at h.once in
            rw o (f q)
        go false e = rw (holds-there ps p 10 (λ z. eqb-false p 10 e (sym z)))

  -- the count of vertices leads to the points
  vertices-on : has_field (kind_of t) 11 ≡ true → vertices_of (kind_of t) (count_at t 10) (count_at t 11) ≡ Ok (Some (behind (kind_of t) (count_at t 10) (count_at t 11)))
  unfolding vertices_of
  vertices-on e = go (eqb (kind_of t) 1) refl
    where
      go : (x : Bool) → eqb (kind_of t) 1 ≡ x → vertices_of (kind_of t) (count_at t 10) (count_at t 11) ≡ Ok (Some (behind (kind_of t) (count_at t 10) (count_at t 11)))
      go true q =
          let b = border-is (kind_of t) (count_at t 10) (count_at t 11) t.islands q counts in
          rw (e, q, le-leb (4 + 4 * count_at t 10) (count_at t 11) b.enough) (go-cond (eqb (count_at t 10) 0) (X (fresh_ring true 0 (count_at t 11))) (Island (count_at t 10) (count_at t 11) (count_at t 10)))
      go false q = rw (e, q, le-leb 2 (count_at t 11) (line-is (kind_of t) (count_at t 10) (count_at t 11) t.islands q e counts))

  kind-low : kind_of t ≤ kind_most
  unfolding is_cell
  kind-low = (counted 1 kind_most (cell_at t 0) (cells 0 (omega arith))).2

  -- and so does the last field of a section that has points and does not count them
  end_on : has_field (kind_of t) 11 ≡ false → fields_end (kind_of t) ≡ Ok (Some (behind (kind_of t) (count_at t 10) (count_at t 11)))
  unfolding fields_end vertices_of unsaid
  end_on e = go (eqb (fixed_vertices (kind_of t)) 0) refl
    where
      go : (x : Bool) → eqb (fixed_vertices (kind_of t)) 0 ≡ x
          → cond x (Ok (Some Due)) (vertices_of (kind_of t) 0 (fixed_vertices (kind_of t))) ≡ Ok (Some (behind (kind_of t) (count_at t 10) (count_at t 11)))
      go true q = rw (e, q)
      go false q =
          let v : count_at t 11 ≡ fixed_vertices (kind_of t) = ap nat_of (field-none 11 (omega arith) (omega arith) e) in
          let l = fixed-enough (kind_of t) kind-low (eqb-false (fixed_vertices (kind_of t)) 0 q) in
          rw (e, q, bare-kind (kind_of t) e, v, le-leb 2 (fixed_vertices (kind_of t)) l)

  field-on : (p : ℕ) (ps : List ℕ) → Place (kind_of t) p ps → (n : ℕ) → (p ≡ 2 → n ≡ count_at t 2) → (p ≡ 10 → n ≡ count_at t 10) → (p ≡ 11 → n ≡ count_at t 11)
      → field_of mode (kind_of t) p (islands_due t (p ∷ ps)) n ≡ Ok (Some (state_at t ps))
  unfolding field_of holds
  field-on p [] h n f g k = rw (code-passes p [] h n f) (go (eqb p 11) refl)
    where
      go : (x : Bool) → eqb p 11 ≡ x
          → cond x (vertices_of (kind_of t) (islands_due t (p ∷ [])) n) (cond (eqb (next_of (kind_of t) p) 0) (fields_end (kind_of t)) (Ok (Some (Field (kind_of t) (next_of (kind_of t) p) (cond (eqb p 10) n (islands_due t (p ∷ [])))))))
          ≡ Ok (Some (state_at t []))
      go true e =
          let q : p ≡ 11 = eqb-true p 11 e in
          rw (k q, q) (vertices-on (rw q at h.has))
      go false e =
          let none : has_field (kind_of t) 11 ≡ false = not-true (has_field (kind_of t) 11) (rw e at h.last) in
          rw h.next (end_on none)
  field-on p (q ∷ qs) h n f g k =
      let a = and_left (not (eqb p 11)) (not (eqb q 0)) h.last in
      let b = and_right (not (eqb p 11)) (not (eqb q 0)) h.last in
      rw (code-passes p (q ∷ qs) h n f, not-true (eqb p 11) a, h.next, not-true (eqb q 0) b, islands-known p (q ∷ qs) h n g)

  -- ---- all of them

  pub fields-pass : (ps : List ℕ) → walks (kind_of t) ps ≡ true → Pass mode (state_at t ps) (partly t ps) (fields_text t ps) (state_at t []) (partly t [])
  unfolding walks fields_text want_of step_of want_at
  fields-pass [] w = done
  fields-pass (p ∷ ps) w =
      let h = place_is (kind_of t) p ps (and_left (is_place (kind_of t) p ps) (walks (kind_of t) ps) w) in
      let rest = fields-pass ps (and_right (is_place (kind_of t) p ps) (walks (kind_of t) ps) w) in
      line-pass {t = token_at t p} (field-reads p (want_at p) refl (field_in p h.low h.high h.has))
      (field-on p ps h (token_at t p) (λ e. rw e) (λ e. rw e) (λ e. rw e))
      (subst (λ (o : Tables). Pass mode (state_at t ps) o (fields_text t ps) (state_at t []) (partly t [])) (sym (field_put p ps h (islands_due t (p ∷ ps)))) rest)
