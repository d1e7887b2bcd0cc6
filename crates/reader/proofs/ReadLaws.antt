-- Demand 3, as theorems on readings into lent tables: by the answer, then by what the tables hold at exit. Assumes nothing.
use mathlib.Core.Path.{◌≡◌, refl, sym, ◌∙◌, ap, ap₂, subst}
use mathlib.Core.Bool.{Bool, true, false, cond, ◌&&◌}
use mathlib.Core.List.{List}
use Prim.Native.Nat.{ℕ, ◌*◌, ◌/◌, ◌≤◌}
use native.Mathlib.Omega.{arith}
use lib.ListN.{length, take, drop}
use lib.Seq.{take_at}
use lib.Dec.{leb}
use borrow.Author.Tests.{leb-true, le-leb}
use Rattle.std.specs.Prelude.{Ok, Err}
use Rattle.laws.specs.Lists.{over}
use Rattle.laws.proofs.Choice.{and_left, and_right}
use Rattle.record.specs.declared.Mode.{Mode}
use Rattle.record.specs.Record.{is_exact, widens}
use Rattle.record.specs.Refusals.{line_end, unlisted_code, after_eof, no_room, file_most}
use Rattle.heading.specs.declared.Header.{Header}
use Rattle.kinds.specs.Kinds.{row_width}
use Rattle.sheet.specs.Tables.{Tables, ◌followed◌, over_of, row_count}
use Rattle.sheet.specs.Reading.{Reading, sheet, refused, reading, joined}
use Rattle.sheet.proofs.Modes.{reading-widens}
use Rattle.sheet.proofs.Join.{joining}
use Rattle.sheet.proofs.Numbered.{reading-numbers, loose-never}
use Rattle.reader.specs.Columns.{reading_column}
use Rattle.reader.specs.Read.{Answer, needs_of, Rooms, holds_all, read_with, refused_with, answered, read_of, tables_in, number_of, record_of, offset_of, column_of, header_of, counts_of}
use Rattle.reader.specs.Exit.{rooms_in, answer_to, at_exit, exit_of, used_part}
use Rattle.reader.specs.declared.Needs.{Needs}
use Rattle.reader.specs.declared.Reading as Declared
use Rattle.reader.specs.declared.Unread.TheVariants as Unread
use Rattle.reader.proofs.Bytes.{tables-whole}

-- ---- what an answer says of the file

-- a file is read exactly where it is sound and the tables hold it
pub record IsRead (mode : Mode) (bs : List ℕ) (r : Rooms) (a : Needs) (h : Header) : Type 0 where
  pub tables : Tables
  pub sound : reading mode bs ≡ sheet h tables
  pub room : holds_all (needs_of tables) r ≡ true
  pub counts : a ≡ needs_of tables

-- 14 is given exactly where the file is sound and some table is too small for it, and the needs are the reading's
pub record IsShort (mode : Mode) (bs : List ℕ) (r : Rooms) (a : Needs) : Type 0 where
  pub header : Header
  pub tables : Tables
  pub sound : reading mode bs ≡ sheet header tables
  pub short : holds_all (needs_of tables) r ≡ false
  pub counts : a ≡ needs_of tables

abbrev View : Mode → List ℕ → Rooms → Answer → Type 0
View mode bs r (Ok x) = IsRead mode bs r x.needs x.header
View mode bs r (Err (Unread.NoRoom a)) = IsShort mode bs r a
View mode bs r (Err (Unread.Refused s column)) = reading mode bs ≡ refused s.refusal s.«record» s.offset

view : (mode : Mode) (bs : List ℕ) (r : Rooms) → View mode bs r (read_of mode bs r)
unfolding read_of
view mode bs r = by (reading mode bs) refl
  where
    room : (h : Header) (o : Tables) → reading mode bs ≡ sheet h o → (b : Bool) → holds_all (needs_of o) r ≡ b
        → View mode bs r (cond b (read_with (needs_of o) h) (refused_with (Unread.NoRoom (needs_of o))))
    room h o e true f = record { tables = o; sound = e; room = f; counts = refl }
    room h o e false f = record { header = h; tables = o; sound = e; short = f; counts = refl }

    by : (x : Reading) → reading mode bs ≡ x → View mode bs r (answered (reading_column mode bs) x r)
    by (sheet h o) e = room h o e (holds_all (needs_of o) r) refl
    by (refused m k at) e = e

module _ (mode : Mode) (bs : List ℕ) (r : Rooms) where
  pub read_is : (a : Needs) (h : Header) → read_of mode bs r ≡ read_with a h → IsRead mode bs r a h
  read_is a h e = subst (View mode bs r) e (view mode bs r)

  -- **room**: 14 only where the file is sound and some table is too small; the needs are the reading's
  pub no-room-is : (a : Needs) → read_of mode bs r ≡ refused_with (Unread.NoRoom a) → IsShort mode bs r a
  no-room-is a e = subst (View mode bs r) e (view mode bs r)

  pub is_read : (h : Header) (o : Tables) → reading mode bs ≡ sheet h o → holds_all (needs_of o) r ≡ true → read_of mode bs r ≡ read_with (needs_of o) h
  unfolding read_of
  is_read h o e f = rw (e, f)

  -- **room**: and there it is given
  pub is-no-room : (h : Header) (o : Tables) → reading mode bs ≡ sheet h o → holds_all (needs_of o) r ≡ false → read_of mode bs r ≡ refused_with (Unread.NoRoom (needs_of o))
  unfolding read_of
  is-no-room h o e f = rw (e, f)

-- **room**: "no room" by its number. The answer's number is 14 exactly where the file is sound and some table is too small
pub fourteen-is : (mode : Mode) (bs : List ℕ) (r : Rooms) → number_of (read_of mode bs r) ≡ no_room → IsShort mode bs r (counts_of (read_of mode bs r))
fourteen-is mode bs r = go (read_of mode bs r) (view mode bs r)
  where
    go : (x : Answer) → View mode bs r x → number_of x ≡ no_room → IsShort mode bs r (counts_of x)
    go (Ok a) v e = absurd (omega arith)
    go (Err (Unread.NoRoom a)) v e = v
    go (Err (Unread.Refused s column)) v e = absurd (omega (arith, (reading-numbers mode bs s.refusal s.«record» s.offset v).1))

pub is-fourteen : (mode : Mode) (bs : List ℕ) (r : Rooms) (a : Needs) → IsShort mode bs r a → number_of (read_of mode bs r) ≡ no_room
is-fourteen mode bs r a s = rw (is-no-room mode bs r s.header s.tables s.sound s.short)

-- 0 exactly where the file is read
pub zero_is : (mode : Mode) (bs : List ℕ) (r : Rooms) → number_of (read_of mode bs r) ≡ 0 → IsRead mode bs r (counts_of (read_of mode bs r)) (header_of (read_of mode bs r))
zero_is mode bs r = go (read_of mode bs r) (view mode bs r)
  where
    go : (x : Answer) → View mode bs r x → number_of x ≡ 0 → IsRead mode bs r (counts_of x) (header_of x)
    go (Ok a) v e = v
    go (Err (Unread.NoRoom a)) v e = absurd (omega arith)
    go (Err (Unread.Refused s column)) v e = absurd (omega (arith, (reading-numbers mode bs s.refusal s.«record» s.offset v).0))

-- ---- larger tables

pub record Larger (r r' : Rooms) : Type 0 where
  pub rows : r.rows ≤ r'.rows
  pub letters : r.letters ≤ r'.letters
  pub islands : r.islands ≤ r'.islands
  pub points : r.points ≤ r'.points

holds_more : (a : Needs) (r r' : Rooms) → Larger r r' → holds_all a r ≡ true → holds_all a r' ≡ true
unfolding holds_all
holds_more a r r' l e =
    let t₁ = leb a.rows (r.rows / row_width) in
    let t₂ = leb a.letters r.letters in
    let t₃ = leb a.islands r.islands in
    let e₃ = and_left (t₁ && t₂ && t₃) (leb a.points (r.points / 2)) e in
    let e₂ = and_left (t₁ && t₂) t₃ e₃ in
    let r₁ = leb-true a.rows (r.rows / row_width) (and_left t₁ t₂ e₂) in
    let r₂ = leb-true a.letters r.letters (and_right t₁ t₂ e₂) in
    let r₃ = leb-true a.islands r.islands (and_right (t₁ && t₂) t₃ e₃) in
    let r₄ = leb-true a.points (r.points / 2) (and_right (t₁ && t₂ && t₃) (leb a.points (r.points / 2)) e) in
    rw (
      le-leb a.rows (r'.rows / row_width) (omega (arith, l.rows)),
      le-leb a.letters r'.letters (omega (arith, l.letters)),
      le-leb a.islands r'.islands (omega (arith, l.islands)),
      le-leb a.points (r'.points / 2) (omega (arith, l.points)),
    )

abbrev NotShort : Answer → Type 0
NotShort (Ok a) = Unit {0}
NotShort (Err (Unread.NoRoom a)) = ⊥
NotShort (Err (Unread.Refused s column)) = Unit {0}

-- **room**: larger tables change no answer but "no room"
pub larger-tables : (mode : Mode) (bs : List ℕ) (r r' : Rooms) → Larger r r' → NotShort (read_of mode bs r) → read_of mode bs r' ≡ read_of mode bs r
unfolding read_of
larger-tables mode bs r r' l n = by (reading mode bs) n
  where
    room : (h : Header) (o : Tables) (b : Bool) → holds_all (needs_of o) r ≡ b
        → NotShort (cond b (read_with (needs_of o) h) (refused_with (Unread.NoRoom (needs_of o))))
        → cond (holds_all (needs_of o) r') (read_with (needs_of o) h) (refused_with (Unread.NoRoom (needs_of o)))
        ≡ cond b (read_with (needs_of o) h) (refused_with (Unread.NoRoom (needs_of o)))
    room h o true e n = rw (holds_more (needs_of o) r r' l e)
    room h o false e n = absurd n

    by : (x : Reading) → NotShort (answered (reading_column mode bs) x r) → answered (reading_column mode bs) x r' ≡ answered (reading_column mode bs) x r
    by (sheet h o) n = room h o (holds_all (needs_of o) r) refl n
    by (refused m k at) n = refl

-- ---- three modes, one meaning

-- **exact within loose within former**: a sheet that one mode accepts with given tables is accepted by a wider one with the same tables,
-- the same header, and the same tables at exit (`written` of equal answers and equal tables)
pub read-widens : (from to : Mode) → widens from to ≡ true → (bs : List ℕ) (r : Rooms) (a : Needs) (h : Header) → read_of from bs r ≡ read_with a h
    → (read_of to bs r ≡ read_with a h) × (tables_in (reading to bs) ≡ tables_in (reading from bs))
read-widens from to wide bs r a h e =
    let v = read_is from bs r a h e in
    let l = reading-widens from to wide bs h v.tables v.sound in
    (is_read to bs r h v.tables l v.room ∙ ap (λ (x : Needs). read_with x h) (sym v.counts), rw (l, v.sound))

-- ---- two maps in one file

-- **joining**: a second accepted map's elements put just before the EOF record of a first: if the joined file keeps the length
-- limit and has room, its elements are the first map's followed by the second's
pub joined-read : (mode : Mode) (a b : List ℕ) (h h' : Header) (o o' : Tables) (r : Rooms) → reading mode a ≡ sheet h o → reading mode b ≡ sheet h' o'
    → length (joined mode a b) ≤ file_most → holds_all (needs_of (o followed o')) r ≡ true
    → (read_of mode (joined mode a b) r ≡ read_with (needs_of (o followed o')) h) × (tables_in (reading mode (joined mode a b)) ≡ o followed o')
joined-read mode a b h h' o o' r e e' l f =
    let j = joining mode a b h h' o o' e e' l in
    (is_read mode (joined mode a b) r h (o followed o') j f, rw j)

-- ---- by the paper's numbers, and by what the lent tables hold at exit

-- **3, 10 and 13 come in exact mode alone**
pub loose-numbers : (mode : Mode) (bs : List ℕ) (r : Rooms) → is_exact mode ≡ false → let m = number_of (read_of mode bs r) in (m ≡ line_end → ⊥) × (m ≡ unlisted_code → ⊥) × (m ≡ after_eof → ⊥)
loose-numbers mode bs r l = go (read_of mode bs r) (view mode bs r)
  where
    go : (x : Answer) → View mode bs r x → (number_of x ≡ line_end → ⊥) × (number_of x ≡ unlisted_code → ⊥) × (number_of x ≡ after_eof → ⊥)
    go (Ok a) v = (λ e. omega (arith, e), λ e. omega (arith, e), λ e. omega (arith, e))
    go (Err (Unread.NoRoom a)) v = (λ e. omega (arith, e), λ e. omega (arith, e), λ e. omega (arith, e))
    go (Err (Unread.Refused s column)) v = loose-never mode bs s.refusal s.«record» s.offset l v

part-is {ℓ} : {A : Type ℓ} (n : ℕ) (xs l : List A) → length xs ≡ n → take n (over xs l) ≡ xs
part-is n xs l e = take_at xs (drop (length xs) l) n e

-- **the used part at exit is the meaning's tables**, where the answer is not 14. (With a refusal it is empty)
pub exit-used : (mode : Mode) (bs : List ℕ) (t : Tables) → (number_of (answer_to mode bs t) ≡ no_room → ⊥)
    → used_part (counts_of (answer_to mode bs t)) (exit_of mode bs t) ≡ tables_in (reading mode bs)
exit-used mode bs t = go (answer_to mode bs t) (view mode bs (rooms_in t))
  where
    whole : (h : Header) (o : Tables) (a : Declared.Reading) → reading mode bs ≡ sheet h o → used_part (needs_of o) (at_exit (Ok a) o t) ≡ o
    whole h o a e =
        let w = tables-whole mode bs h o e in
        let rows = part-is (row_width * (needs_of o).rows) o.rows t.rows w.0 in
        let letters = part-is (length o.letters) o.letters t.letters refl in
        let islands = part-is (length o.islands) o.islands t.islands refl in
        let points = part-is (2 * (needs_of o).points) o.points t.points w.1 in
        λ i. record { rows = rows i; letters = letters i; islands = islands i; points = points i }

    go : (x : Answer) → View mode bs (rooms_in t) x → (number_of x ≡ no_room → ⊥) → used_part (counts_of x) (at_exit x (tables_in (reading mode bs)) t) ≡ tables_in (reading mode bs)
    go (Ok a) v n = rw (v.sound, v.counts) (whole a.header v.tables a v.sound)
    go (Err (Unread.NoRoom a)) v n = absurd (n refl)
    go (Err (Unread.Refused s column)) v n = rw v refl

-- **what a caller has in hand**: accepted (0), the tables at exit are what was read over what they held, and the counts say its rows
pub exit-over : (mode : Mode) (bs : List ℕ) (t : Tables) → number_of (answer_to mode bs t) ≡ 0
    → (exit_of mode bs t ≡ over_of (tables_in (reading mode bs)) t) × ((counts_of (answer_to mode bs t)).rows ≡ row_count (tables_in (reading mode bs)))
exit-over mode bs t e =
    let v = zero_is mode bs (rooms_in t) e in
    let x = is_read mode bs (rooms_in t) (header_of (answer_to mode bs t)) v.tables v.sound v.room in
    (rw x refl, rw (x, v.sound) refl)

-- **a refusal alters nothing**: whatever its number, the tables at exit are as they were
pub refused-exit : (mode : Mode) (bs : List ℕ) (t : Tables) → (number_of (answer_to mode bs t) ≡ 0 → ⊥) → exit_of mode bs t ≡ t
refused-exit mode bs t = by (answer_to mode bs t)
  where
    by : (a : Answer) → (number_of a ≡ 0 → ⊥) → at_exit a (tables_in (reading mode bs)) t ≡ t
    by (Ok a) n = absurd (n refl)
    by (Err u) n = refl

-- **exact within loose within former**: where one mode accepts (0) with given tables, a wider one accepts with the same tables, the same header and counts, and
-- each of the four tables holds the same at exit
pub exit-widens : (from to : Mode) → widens from to ≡ true → (bs : List ℕ) (t : Tables) → number_of (answer_to from bs t) ≡ 0
    → (number_of (answer_to to bs t) ≡ 0) × (header_of (answer_to to bs t) ≡ header_of (answer_to from bs t)) × (counts_of (answer_to to bs t) ≡ counts_of (answer_to from bs t))
    × (exit_of to bs t ≡ exit_of from bs t)
exit-widens from to wide bs t e =
    let v = zero_is from bs (rooms_in t) e in
    let h = header_of (answer_to from bs t) in
    let x = is_read from bs (rooms_in t) h v.tables v.sound v.room in
    let w = read-widens from to wide bs (rooms_in t) (needs_of v.tables) h x in
    (ap number_of w.0, ap header_of w.0, ap counts_of (w.0 ∙ sym x), ap₂ (λ (y : Answer) (o : Tables). at_exit y o t) (w.0 ∙ sym x) w.1)

-- **room**: larger tables change no number, record, offset, column, count or header, and no used part at exit, but where the number was 14
pub larger-exit : (mode : Mode) (bs : List ℕ) (t u : Tables) → Larger (rooms_in t) (rooms_in u) → (number_of (answer_to mode bs t) ≡ no_room → ⊥)
    → (number_of (answer_to mode bs u) ≡ number_of (answer_to mode bs t)) × (record_of (answer_to mode bs u) ≡ record_of (answer_to mode bs t))
    × (offset_of (answer_to mode bs u) ≡ offset_of (answer_to mode bs t)) × (counts_of (answer_to mode bs u) ≡ counts_of (answer_to mode bs t))
    × (header_of (answer_to mode bs u) ≡ header_of (answer_to mode bs t))
    × (used_part (counts_of (answer_to mode bs u)) (exit_of mode bs u) ≡ used_part (counts_of (answer_to mode bs t)) (exit_of mode bs t))
    × (column_of (answer_to mode bs u) ≡ column_of (answer_to mode bs t))
larger-exit mode bs t u l n =
    let x : answer_to mode bs u ≡ answer_to mode bs t = larger-tables mode bs (rooms_in t) (rooms_in u) l (not_short (answer_to mode bs t) n) in
    let m : number_of (answer_to mode bs u) ≡ number_of (answer_to mode bs t) = ap number_of x in (
      m,
      ap record_of x,
      ap offset_of x,
      ap counts_of x,
      ap header_of x,
      exit-used mode bs u (λ e. n (sym m ∙ e)) ∙ sym (exit-used mode bs t n),
      ap column_of x,
    )
  where
    not_short : (a : Answer) → (number_of a ≡ no_room → ⊥) → NotShort a
    not_short (Ok a) n = tt
    not_short (Err (Unread.NoRoom a)) n = n refl
    not_short (Err (Unread.Refused s column)) n = tt

-- **joining**: where two files are accepted (0), and the joined one keeps the length limit and has room, it is accepted with the first's
-- header, and the used part at exit is the first's followed by the second's
pub joined-exit : (mode : Mode) (a b : List ℕ) (t u v : Tables) → number_of (answer_to mode a t) ≡ 0 → number_of (answer_to mode b u) ≡ 0
    → length (joined mode a b) ≤ file_most → (number_of (answer_to mode (joined mode a b) v) ≡ no_room → ⊥)
    → (number_of (answer_to mode (joined mode a b) v) ≡ 0) × (header_of (answer_to mode (joined mode a b) v) ≡ header_of (answer_to mode a t))
    × (used_part (counts_of (answer_to mode (joined mode a b) v)) (exit_of mode (joined mode a b) v)
    ≡ used_part (counts_of (answer_to mode a t)) (exit_of mode a t) followed used_part (counts_of (answer_to mode b u)) (exit_of mode b u))
joined-exit mode a b t u v e e' l n =
    let p = zero_is mode a (rooms_in t) e in
    let q = zero_is mode b (rooms_in u) e' in
    let o = p.tables followed q.tables in
    let h = header_of (answer_to mode a t) in
    let h' = header_of (answer_to mode b u) in
    let room = enough h o (joining mode a b h h' p.tables q.tables p.sound q.sound l) (holds_all (needs_of o) (rooms_in v)) refl in
    let w = joined-read mode a b h h' p.tables q.tables (rooms_in v) p.sound q.sound l room in (
      ap number_of w.0,
      ap header_of w.0,
      exit-used mode (joined mode a b) v n ∙ w.1 ∙ sym (ap₂ (λ (y z : Tables). y followed z) (used mode a t e ∙ ap tables_in p.sound) (used mode b u e' ∙ ap tables_in q.sound)),
    )
  where
    enough : (h : Header) (o : Tables) → reading mode (joined mode a b) ≡ sheet h o → (x : Bool) → holds_all (needs_of o) (rooms_in v) ≡ x → holds_all (needs_of o) (rooms_in v) ≡ true
    enough h o j true f = f
    enough h o j false f = absurd (n (ap number_of (is-no-room mode (joined mode a b) (rooms_in v) h o j f)))

    used : (mode : Mode) (bs : List ℕ) (t : Tables) → number_of (answer_to mode bs t) ≡ 0 → used_part (counts_of (answer_to mode bs t)) (exit_of mode bs t) ≡ tables_in (reading mode bs)
    used mode bs t e = exit-used mode bs t (λ f. omega (arith, e, f))
