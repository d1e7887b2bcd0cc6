-- The whole reading: what it answers, and what the tables hold at exit. Assumes nothing.
use mathlib.Core.Path.{◌≡◌, refl, sym, ◌∙◌, ap}
use mathlib.Core.Bool.{Bool, true, false, ◌&&◌}
use mathlib.Core.List.{List, []}
use Prim.Native.Nat.{ℕ, ◌/◌, ◌≤◌, ◌<◌}
use native.Mathlib.Omega.{arith}
use lib.ListN.{length, drop}
use lib.Dec.{leb}
use lib.IntN.{ℤ}
use borrow.Author.Tests.{leb-true, lt-leb, le-leb}
use Rattle.std.specs.Prelude.{Result, Ok, Err}
use Rattle.record.specs.declared.refusal.Refusal.TheVariants as Refusal
use Rattle.header.specs.declared.Stopped.{Stopped}
use Rattle.laws.specs.Lists.{over}
use Rattle.laws.proofs.Choice.{and_left, and_right}
use Rattle.record.specs.declared.Mode.{Mode}
use Rattle.record.specs.Refusals.{file_most}
use Rattle.heading.specs.declared.Header.{Header}
use Rattle.header.specs.declared.Headed.{Headed}
use Rattle.header.specs.Header.{headed}
use Rattle.header.proofs.HeadLaws.{head-local}
use Rattle.machine.specs.declared.State.{State}
use Rattle.machine.specs.declared.State.TheVariants.{Due}
use Rattle.kinds.specs.Kinds.{row_width}
use Rattle.sheet.specs.Tables.{Tables, empty}
use Rattle.sheet.specs.Reading.{Sections, read, stop, walk_from, under, meaning, reading}
use Rattle.sheet.proofs.Pass.{Pass, done, more, walk-accepts}
use Rattle.token.specs.declared.Want.TheVariants.{Real}
use Rattle.reader.specs.Columns.{column_from, reading_column, located_in}
use Rattle.reader.specs.Turn.{no_needs, added}
use Rattle.reader.specs.Store.{section_tables, Room}
use Rattle.reader.specs.Read.{Answer, needs_of, stopped_at, judged_of, Rooms, rooms_of, holds_all, read_with, refused_in, refused_with, answered, read_of, tables_in, written}
use Rattle.reader.specs.declared.Needs.{Needs}
use Rattle.reader.specs.declared.Unread.{Unread}
use Rattle.reader.specs.declared.Unread.TheVariants as Unread
use Rattle.reader.proofs.Standing.{Sized, sized-put}

-- ---- tables that are read hold whole rows and whole points

pub pass-sized : {mode : Mode} {st st' : State} {o o' : Tables} {bs : List ℕ} → Pass mode st o bs st' o' → (a : Needs) → Sized st o a → (b : Needs) × Sized st' o' b
pass-sized done a h = (a, h)
pass-sized {mode} {st} {o = o} (more {st₁ = st₁} {t = t} {c = c} g p) a h = pass-sized p (added a st t) (sized-put mode st st₁ t _ c o a h g.says g.steps)

pub read-sized : (mode : Mode) (s : List ℕ) (start : ℕ) (o : Tables) (eof : ℕ) → walk_from mode s start ≡ read o eof → (b : Needs) × Sized Due o b
unfolding walk_from
read-sized mode s start o eof e =
    pass-sized (walk-accepts (length s) mode Due empty o 4 start eof (drop start s) e).pass no_needs
    (record { rows = omega arith; letters = refl; islands = refl; points = omega arith })

-- room by the paper's counts is room for the tables
room-is : (o : Tables) (b : Needs) (rows letters islands points : ℕ) → Sized Due o b → holds_all (needs_of o) (rooms_of rows letters islands points) ≡ true
    → (length o.rows ≤ rows) × (length o.letters ≤ letters) × (length o.islands ≤ islands) × (length o.points ≤ points)
unfolding holds_all
room-is o b rows letters islands points h e =
    let a = needs_of o in
    let t₁ = leb a.rows (rows / row_width) in
    let t₂ = leb a.letters letters in
    let t₃ = leb a.islands islands in
    let e₃ = and_left (t₁ && t₂ && t₃) (leb a.points (points / 2)) e in
    let e₂ = and_left (t₁ && t₂) t₃ e₃ in
    let r₁ = leb-true (length o.rows / row_width) (rows / row_width) (and_left t₁ t₂ e₂) in
    let r₄ = leb-true (length o.points / 2) (points / 2) (and_right (t₁ && t₂ && t₃) (leb a.points (points / 2)) e) in
    (omega (arith, h.rows), leb-true (length o.letters) letters (and_right t₁ t₂ e₂), leb-true (length o.islands) islands (and_right (t₁ && t₂) t₃ e₃), omega (arith, h.points))

-- ---- the answers, in the order of the code

module _ (mode : Mode) (s : List ℕ) (r : Rooms) where
  pub answer-long : file_most < length s → refused_in 0 (stopped_at Refusal.TooLong 0 0) ≡ read_of mode s r
  unfolding read_of reading reading_column
  answer-long h = rw (lt-leb (length s) file_most h)

  module _ (h : length s ≤ file_most) (x : Result Headed Stopped) (q : x ≡ headed mode s) where
    pub answer-header : (e : Stopped) → x ≡ Err e → (u : Unread) → u ≡ located_in mode s Real e → refused_with u ≡ read_of mode s r
    unfolding read_of reading meaning reading_column
    answer-header e f u c = rw (c, le-leb (length s) file_most h, ← q, f)

    module _ (k : Headed) (e : x ≡ Ok k) where
      pub starts-inside : k.at ≤ length s
      starts-inside = (head-local mode s k.header k.at (sym q ∙ e) []).0

      reading-is : reading mode s ≡ under k.header (walk_from mode s k.at)
      unfolding reading meaning
      reading-is = rw (le-leb (length s) file_most h, ← q, e)

      column-is : reading_column mode s ≡ column_from mode s k.at
      unfolding reading_column
      column-is = rw (le-leb (length s) file_most h, ← q, e)

      module _ (j : Result Needs Unread) (f : j ≡ judged_of (column_from mode s k.at) (walk_from mode s k.at)) where
        pub answer-refused : (u : Unread) → j ≡ Err u → refused_with u ≡ read_of mode s r
        unfolding read_of
        answer-refused u g = rw (reading-is, column-is) (by (walk_from mode s k.at) (sym f ∙ g))
          where
            by : (t : Sections) → judged_of (column_from mode s k.at) t ≡ Err u → refused_with u ≡ answered (column_from mode s k.at) (under k.header t) r
            by (read o eof) g = absurd (let z : ◌≡◌ {A = ℕ} 0 1 = cc in omega arith)
            by (stop m₁ k₁ a₁) g = let z : u ≡ Unread.Refused (stopped_at m₁ k₁ a₁) (column_from mode s k.at) = cc in ap refused_with z

        -- the sections are read, and what they need was counted
        pub record Counted (needs : Needs) : Type 0 where
          pub tables : Tables
          pub eof : ℕ
          pub sections : walk_from mode s k.at ≡ read tables eof
          pub counts : needs_of tables ≡ needs

        pub counted : (needs : Needs) → j ≡ Ok needs → Counted needs
        counted needs g = by (walk_from mode s k.at) refl (sym f ∙ g)
          where
            by : (t : Sections) → walk_from mode s k.at ≡ t → judged_of (column_from mode s k.at) t ≡ Ok needs → Counted needs
            by (read o eof) e g = record { tables = o; eof = eof; sections = e; counts = (cc) }
            by (stop m₁ k₁ a₁) e g = absurd (let z : ◌≡◌ {A = ℕ} 0 1 = cc in omega arith)

        module _ (needs : Needs) (g : j ≡ Ok needs) (b : Bool) (w : b ≡ holds_all needs r) where
          pub answer-short : b ≡ false → refused_with (Unread.NoRoom needs) ≡ read_of mode s r
          unfolding read_of
          answer-short t =
              let c = counted needs g in
              rw (reading-is, c.sections, c.counts, ← w, t)

          pub answer-read : b ≡ true → read_with needs k.header ≡ read_of mode s r
          unfolding read_of
          answer-read t =
              let c = counted needs g in
              rw (reading-is, c.sections, c.counts, ← w, t)

      -- the tables of the file are those of its sections
      pub tables-are : tables_in (reading mode s) ≡ section_tables (walk_from mode s k.at)
      tables-are = rw reading-is (by (walk_from mode s k.at))
        where
          by : (t : Sections) → tables_in (under k.header t) ≡ section_tables t
          by (read o eof) = refl
          by (stop m k a) = refl

-- what the second pass asks
pub fill-asks : (mode : Mode) (s : List ℕ) (at rows letters islands points : ℕ) (j : Result Needs Unread) (needs : Needs) (b : Bool) → at ≤ length s → length s ≤ file_most
    → j ≡ judged_of (column_from mode s at) (walk_from mode s at) → j ≡ Ok needs → b ≡ holds_all needs (rooms_of rows letters islands points) → b ≡ true
    → ((at ≤ length s) × (length s ≤ file_most)) × Room (walk_from mode s at) rows letters islands points
fill-asks mode s at rows letters islands points j needs b h k f g w t = ((h, k), by (walk_from mode s at) refl (sym f ∙ g))
  where
    by : (x : Sections) → walk_from mode s at ≡ x → judged_of (column_from mode s at) x ≡ Ok needs → Room x rows letters islands points
    by (read o eof) e q =
        let z : needs_of o ≡ needs = cc in
        let n = read-sized mode s at o eof e in
        room-is o n.0 rows letters islands points n.1 (rw z (sym w ∙ t))
    by (stop m k₁ a) e q = absurd (let z : ◌≡◌ {A = ℕ} 0 1 = cc in omega arith)

-- ---- the tables at exit

-- what `read_as` says of its answer and of the four tables
abbrev pub Said : Mode → List ℕ → Rooms → Answer → List ℤ → List ℤ → List ℕ → List ℕ → List ℕ → List ℕ → List ℤ → List ℤ → Type 0
Said mode s r x rows₀ rows letters₀ letters islands₀ islands points₀ points =
    (x ≡ read_of mode s r) × ((rows ≡ written x (tables_in (reading mode s)).rows rows₀) × ((letters ≡ written x (tables_in (reading mode s)).letters letters₀)
    × ((islands ≡ written x (tables_in (reading mode s)).islands islands₀) × (points ≡ written x (tables_in (reading mode s)).points points₀))))

-- a refusal alters nothing
pub said-refused : (mode : Mode) (s : List ℕ) (r : Rooms) (rows : List ℤ) (letters islands : List ℕ) (points : List ℤ) (u : Unread) → refused_with u ≡ read_of mode s r
    → Said mode s r (refused_with u) rows rows letters letters islands islands points points
said-refused mode s r rows letters islands points u q = (q, (refl, (refl, (refl, refl))))

pub said-short : (mode : Mode) (s : List ℕ) (r : Rooms) (rows : List ℤ) (letters islands : List ℕ) (points : List ℤ) (needs : Needs) → refused_with (Unread.NoRoom needs) ≡ read_of mode s r
    → Said mode s r (refused_with (Unread.NoRoom needs)) rows rows letters letters islands islands points points
said-short mode s r rows letters islands points needs q = said-refused mode s r rows letters islands points (Unread.NoRoom needs) q

-- past what was read nothing is altered
pub said_read : (mode : Mode) (s : List ℕ) (r : Rooms) (needs : Needs) (h : Header) (t : Tables) (rows₀ rows : List ℤ) (letters₀ letters islands₀ islands : List ℕ) (points₀ points : List ℤ)
    → read_with needs h ≡ read_of mode s r → tables_in (reading mode s) ≡ t
    → rows ≡ over t.rows rows₀ → letters ≡ over t.letters letters₀ → islands ≡ over t.islands islands₀ → points ≡ over t.points points₀
    → Said mode s r (read_with needs h) rows₀ rows letters₀ letters islands₀ islands points₀ points
said_read mode s r needs h t rows₀ rows letters₀ letters islands₀ islands points₀ points q e a b c d = rw e (q, (a, (b, (c, d))))
