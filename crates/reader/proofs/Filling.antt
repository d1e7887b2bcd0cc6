-- What is stored: each table holds what was read so far over what it held at entry. Assumes nothing.
use mathlib.Core.Path.{◌≡◌, refl, sym, ◌∙◌, ap, ap₂}
use mathlib.Core.Bool.{Bool, true, false, cond}
use mathlib.Core.List.{List, [], ◌∷◌, ◌++◌, append-nil}
use Prim.Native.Nat.{ℕ, ◌+◌, ◌-◌, ◌*◌, ◌≤◌}
use native.Mathlib.Omega.{arith}
use lib.ListN.{length, take, drop, set, length-append, length-set}
use lib.Dec.{eqb}
use lib.IntN.{ℤ}
use Rattle.laws.specs.Lists.{over, pasted}
use Rattle.laws.proofs.TableLaws.{over-more, over-one, over-set}
use Rattle.record.specs.declared.Mode.{Mode}
use Rattle.number.specs.Words.{trimmed}
use Rattle.token.specs.Lex.{unlift}
use Rattle.kinds.specs.Kinds.{row_width, want_at}
use Rattle.machine.specs.declared.State.{State}
use Rattle.machine.specs.declared.State.TheVariants.{Due, Field, Island, X, Y}
use Rattle.sheet.specs.Tables.{Tables, Starts, starts_of, new_row, cell_of, set_last, put}
use Rattle.sheet.specs.Reading.{Sections, read, stop}
use Rattle.sheet.proofs.Okay.{Okay}
use Rattle.sheet.proofs.Pass.{Pass, done, more, walk-accepts}
use Rattle.reader.specs.Store.{rows_put, letters_put, islands_put, points_put, PutRoom, Room}
use Rattle.reader.specs.declared.Needs.{Needs}
use Rattle.reader.specs.declared.ReadStand.{ReadStand}
use Rattle.reader.proofs.Standing.{Sized, starts-are, At, Moved}

-- ---- one record, table by table

put-rows : (st : State) (t : ℕ) (c : List ℕ) (o : Tables) (a : Needs) (l : List ℤ) → Sized st o a → Okay st o → length (put st t c o).rows ≤ length l
    → rows_put st t a (over o.rows l) ≡ over (put st t c o).rows l
unfolding put set_last
put-rows Due t c o a l h k r =
    ap₂ (λ (n : ℕ) (s : Starts). pasted (over o.rows l) n (new_row t s)) (sym h.rows) (starts-are o a h)
    ∙ over-more o.rows (new_row t (starts_of o)) l (omega (arith, length-append o.rows (new_row t (starts_of o))))
put-rows (Field kd p i) t c o a l h k r =
    let z : row_width * (a.rows - 1) + p ≡ length o.rows - row_width + p = omega (arith, h.rows, k.0) in
    ap (λ (n : ℕ). set (over o.rows l) n (cell_of (want_at p) t)) z
    ∙ over-set o.rows l (length o.rows - row_width + p) (cell_of (want_at p) t) (omega (arith, k.0, k.1))
put-rows (Island l' s r') t c o a l h k r = refl
put-rows (X r') t c o a l h k r = refl
put-rows (Y r' x) t c o a l h k r = refl

put-letters : (st : State) (t : ℕ) (c : List ℕ) (o : Tables) (a : Needs) (l : List ℕ) → Sized st o a → length (put st t c o).letters ≤ length l
    → letters_put st c a (over o.letters l) ≡ over (put st t c o).letters l
unfolding put
put-letters Due t c o a l h r = refl
put-letters (Field kd p i) t c o a l h r = go (eqb p 9) r
  where
    go : (b : Bool) → length (o.letters ++ cond b (trimmed c) []) ≤ length l
        → cond b (pasted (over o.letters l) a.letters (trimmed c)) (over o.letters l) ≡ over (o.letters ++ cond b (trimmed c) []) l
    go true q =
        ap (λ (n : ℕ). pasted (over o.letters l) n (trimmed c)) (sym h.letters) ∙ over-more o.letters (trimmed c) l (omega (arith, length-append o.letters (trimmed c)))
    go false q = rw append-nil
put-letters (Island l' s r') t c o a l h r = refl
put-letters (X r') t c o a l h r = refl
put-letters (Y r' x) t c o a l h r = refl

put-islands : (st : State) (t : ℕ) (c : List ℕ) (o : Tables) (a : Needs) (l : List ℕ) → Sized st o a → length (put st t c o).islands ≤ length l
    → islands_put st t a (over o.islands l) ≡ over (put st t c o).islands l
unfolding put
put-islands Due t c o a l h r = refl
put-islands (Field kd p i) t c o a l h r = refl
put-islands (Island l' s r') t c o a l h r =
    ap (λ (n : ℕ). set (over o.islands l) n t) (sym h.islands) ∙ over-one o.islands l t (omega (arith, length-append o.islands (t ∷ [])))
put-islands (X r') t c o a l h r = refl
put-islands (Y r' x) t c o a l h r = refl

put-points : (st : State) (t : ℕ) (c : List ℕ) (o : Tables) (a : Needs) (l : List ℤ) → Sized st o a → length (put st t c o).points ≤ length l
    → points_put st t a (over o.points l) ≡ over (put st t c o).points l
unfolding put
put-points Due t c o a l h r = refl
put-points (Field kd p i) t c o a l h r = refl
put-points (Island l' s r') t c o a l h r = refl
put-points (X r') t c o a l h r =
    let z : 2 * a.points ≡ length o.points = omega (arith, h.points) in
    ap (λ (n : ℕ). set (over o.points l) n (unlift t)) z ∙ over-one o.points l (unlift t) (omega (arith, length-append o.points (unlift t ∷ [])))
put-points (Y r' x) t c o a l h r =
    let z : 2 * a.points + 1 ≡ length o.points = omega (arith, h.points) in
    ap (λ (n : ℕ). set (over o.points l) n (unlift t)) z ∙ over-one o.points l (unlift t) (omega (arith, length-append o.points (unlift t ∷ [])))

put-room : (st : State) (t : ℕ) (c : List ℕ) (o : Tables) (a : Needs) (rows letters islands points : ℕ) → Sized st o a → Okay st o
    → length (put st t c o).rows ≤ rows → length (put st t c o).letters ≤ letters → length (put st t c o).islands ≤ islands → length (put st t c o).points ≤ points
    → PutRoom st c a rows letters islands points
unfolding put set_last
put-room Due t c o a rows letters islands points h k r₁ r₂ r₃ r₄ = omega (arith, length-append o.rows (new_row t (starts_of o)), h.rows)
put-room (Field kd p i) t c o a rows letters islands points h k r₁ r₂ r₃ r₄ = (
  omega (arith, h.rows, k.0),
  omega (arith, h.rows, length-set o.rows (length o.rows - row_width + p) (cell_of (want_at p) t)),
  k.1,
  omega (arith, h.letters, length-append o.letters (cond (eqb p 9) (trimmed c) []), few (eqb p 9)),
)
  where
    few : (b : Bool) → cond b (length (trimmed c)) 0 ≡ length (cond b (trimmed c) [])
    few true = refl
    few false = refl
put-room (Island l' s r') t c o a rows letters islands points h k r₁ r₂ r₃ r₄ = omega (arith, length-append o.islands (t ∷ []), h.islands)
put-room (X r') t c o a rows letters islands points h k r₁ r₂ r₃ r₄ = omega (arith, length-append o.points (unlift t ∷ []), h.points)
put-room (Y r' x) t c o a rows letters islands points h k r₁ r₂ r₃ r₄ = omega (arith, length-append o.points (unlift t ∷ []), h.points)

-- ---- tables only grow

pub record Longer (a b : Tables) : Type 0 where
  pub rows : length a.rows ≤ length b.rows
  pub letters : length a.letters ≤ length b.letters
  pub islands : length a.islands ≤ length b.islands
  pub points : length a.points ≤ length b.points

put-longer : (st : State) (t : ℕ) (c : List ℕ) (o : Tables) → Longer o (put st t c o)
unfolding put set_last
put-longer Due t c o = omega (arith, length-append o.rows (new_row t (starts_of o)))
put-longer (Field kd p i) t c o =
    omega (arith, length-set o.rows (length o.rows - row_width + p) (cell_of (want_at p) t), length-append o.letters (cond (eqb p 9) (trimmed c) []))
put-longer (Island l s r) t c o = omega (arith, length-append o.islands (t ∷ []))
put-longer (X r) t c o = omega (arith, length-append o.points (unlift t ∷ []))
put-longer (Y r x) t c o = omega (arith, length-append o.points (unlift t ∷ []))

pass-longer : {mode : Mode} {st st' : State} {o o' : Tables} {bs : List ℕ} → Pass mode st o bs st' o' → Longer o o'
pass-longer done = omega arith
pass-longer {st = st} {o = o} (more {t = t} {c = c} g p) =
    let a = put-longer st t c o in
    let b = pass-longer p in
    omega arith

-- what was read so far is no longer than all that is read
at-longer : (mode : Mode) (s : List ℕ) (target : Sections) (o : Tables) (d : ReadStand) → At mode s target o d → (o' : Tables) (eof : ℕ) → target ≡ read o' eof → Longer o o'
at-longer mode s target o d h o' eof q =
    pass-longer (walk-accepts h.fuel mode d.state o o' d.nth d.at eof (drop d.at s) (sym h.same ∙ q)).pass

-- ---- a turn of the second pass

-- the tables hold what was read so far, over what they held at entry
pub record Holding (o : Tables) (rows₀ rows : List ℤ) (letters₀ letters islands₀ islands : List ℕ) (points₀ points : List ℤ) : Type 0 where
  pub rows_are : rows ≡ over o.rows rows₀
  pub letters-are : letters ≡ over o.letters letters₀
  pub islands-are : islands ≡ over o.islands islands₀
  pub points-are : points ≡ over o.points points₀

-- room for all that is read is room for what was read so far
pub record Fits (o : Tables) (rows letters islands points : ℕ) : Type 0 where
  pub rows_fit : length o.rows ≤ rows
  pub letters-fit : length o.letters ≤ letters
  pub islands-fit : length o.islands ≤ islands
  pub points-fit : length o.points ≤ points

pub at-fits : (mode : Mode) (s : List ℕ) (target : Sections) (o : Tables) (d : ReadStand) (rows letters islands points : ℕ) → At mode s target o d → Room target rows letters islands points
    → Fits o rows letters islands points
at-fits mode s (read o' eof) o d rows letters islands points h r =
    let g = at-longer mode s (read o' eof) o d h o' eof refl in
    record { rows_fit = omega (arith, g.rows, r.0); letters-fit = omega (arith, g.letters, r.1); islands-fit = omega (arith, g.islands, r.2); points-fit = omega (arith, g.points, r.3) }
at-fits mode s (stop m k a) o d rows letters islands points h r = absurd r

module _ (mode : Mode) (s : List ℕ) (target : Sections) (o : Tables) (d d' : ReadStand) (t len : ℕ) (h : At mode s target o d) (m : Moved mode s target o d d' t len)
    (rows₀ : List ℤ) (letters₀ islands₀ : List ℕ) (points₀ : List ℤ) (r : Room target (length rows₀) (length letters₀) (length islands₀) (length points₀)) where
  abbrev c : List ℕ
  c = take len (drop d.at s)

  f : Fits (put d.state t c o) (length rows₀) (length letters₀) (length islands₀) (length points₀)
  f = at-fits mode s target (put d.state t c o) d' (length rows₀) (length letters₀) (length islands₀) (length points₀) m.then r

  pub store-room : PutRoom d.state c d.needs (length rows₀) (length letters₀) (length islands₀) (length points₀)
  store-room =
      put-room d.state t c o d.needs (length rows₀) (length letters₀) (length islands₀) (length points₀) h.sized h.okay
      f.rows_fit f.letters-fit f.islands-fit f.points-fit

  pub store-holds : (rows : List ℤ) (letters islands : List ℕ) (points : List ℤ) → Holding o rows₀ rows letters₀ letters islands₀ islands points₀ points
      → Holding (put d.state t c o) rows₀ (rows_put d.state t d.needs rows) letters₀ (letters_put d.state c d.needs letters)
      islands₀ (islands_put d.state t d.needs islands) points₀ (points_put d.state t d.needs points)
  store-holds rows letters islands points g =
      record {
        rows_are = ap (rows_put d.state t d.needs) g.rows_are ∙ put-rows d.state t c o d.needs rows₀ h.sized h.okay f.rows_fit;
        letters-are = ap (letters_put d.state c d.needs) g.letters-are ∙ put-letters d.state t c o d.needs letters₀ h.sized f.letters-fit;
        islands-are = ap (islands_put d.state t d.needs) g.islands-are ∙ put-islands d.state t c o d.needs islands₀ h.sized f.islands-fit;
        points-are = ap (points_put d.state t d.needs) g.points-are ∙ put-points d.state t c o d.needs points₀ h.sized f.points-fit;
      }
