-- The ways through the functions that read the input and tally it: one lemma for each answer. Assumes nothing.
use Prim.Native.Nat.{ℕ, ◌+◌, ◌*◌, ◌≤◌, ◌<◌}
use mathlib.Core.Path.{◌≡◌, refl, sym, ◌∙◌, ap, subst}
use mathlib.Core.List.{List}
use Rattle.std.specs.Prelude.{Result, Ok, Err}
use native.Mathlib.Omega.{arith}
use lib.ListN.{length, take, drop, replicate, length-append, length-replicate}
use lib.Seq.{take_at}
use lib.IntN.{ℤ, pos}
use borrow.Author.Tests.{le-leb, lt-leb, eq-eqb, ne_eqb}
use Rattle.laws.specs.Lists.{over}
use Rattle.record.specs.declared.Mode.TheVariants.{Loose}
use Rattle.record.specs.declared.refusal.Refusal.{Refusal}
use Rattle.record.specs.Refusals as Refusals
use Rattle.heading.specs.declared.Header.{Header}
use Rattle.kinds.specs.Kinds.{row_width}
use Rattle.sheet.specs.Tables.{Tables}
use Rattle.sheet.specs.Reading.{Reading, sheet, reading}
use Rattle.reader.specs.declared.Needs.{Needs}
use Rattle.reader.specs.declared.Reading as Declared
use Rattle.reader.specs.declared.Unread.{Unread}
use Rattle.reader.specs.Columns.{reading_column}
use Rattle.reader.specs.Read.{Answer, needs_of, Rooms, rooms_of, stopped_at, read_of, tables_in, written}
use Rattle.reader.proofs.Bytes.{tables-whole}
use Rattle.reader.proofs.NeedLaws.{Enough}
use Rattle.reader.proofs.EnoughLaws.{Told, told-by, table-read}
use Rattle.made.specs.Made.{tables_of}
use Rattle.writer.specs.Put.{Put}
use Rattle.writer.proofs.Putting.{stored-put}
use Rattle.spelling.specs.Stored.{Stored}
use Rattle.tally.specs.declared.Taken.{Taken}
use Rattle.tally.specs.Take.{tally_of, number_of, row_of}
use Rattle.listing.proofs.ListLaws.{refused-most, read-most}
use Rattle.listing.specs.Listing.{refused_line, sheet_lines, tallied_text, sheet_listing, read_text, input_most, listing_of}
use Rattle.reader.specs.Exit.{used_part}
use Rattle.listing.specs.Listed.{listed_of, listed_in, text_most, UsedFits}
use Rattle.listing.specs.declared.NoRoom.{NoRoom}

-- the same text
pub put_same : {s t : List ℕ} → s ≡ t → {l d : List ℕ} {at r : ℕ} → Put l at s d r → Put l at t d r
put_same e {l} {d} {at} {r} p = subst (λ (x : List ℕ). Put l at x d r) e p

pub room-same : {s t : List ℕ} → s ≡ t → (n : ℕ) → length t ≤ n → length s ≤ n
room-same e n h = subst (λ (x : List ℕ). length x ≤ n) (sym e) h

-- the array that holds the text holds any refusal, and any sheet's text
pub read-fits-in : (bs : List ℕ) (n : ℕ) → text_most ≤ n → length (read_text (reading_column Loose bs) (reading Loose bs)) ≤ n
read-fits-in bs n h = omega (arith, read-most bs, h)

pub refused-fits : (number place offset column n : ℕ) → text_most ≤ n → length (refused_line number place offset column) ≤ n
refused-fits number place offset column n h = omega (arith, refused-most number place offset column, h)

-- ---- after the tally: `m` is the number of its refusal, `k` the row that it names

module _ (h : Header) (count : ℕ) (o : Tables) (t : Taken) (e : t ≡ tally_of h count o) (m : ℕ) (q : m ≡ number_of t.outcome) where
  pub tallied-lines : m ≡ 0 → sheet_lines h count t.tally.figures ≡ sheet_listing h count o
  unfolding sheet_listing tallied_text
  tallied-lines z = rw (← e, ← q, eq-eqb m 0 z)

  pub tallied-refused : (m ≡ 0 → ⊥) → (k : ℕ) → k ≡ row_of t.outcome → refused_line m k 0 0 ≡ sheet_listing h count o
  unfolding sheet_listing tallied_text
  tallied-refused n k r = rw (← e, ← q, ← r, ne_eqb m 0 n)

-- ---- the used part of the tables

pub used-is : (h : Header) (a : Needs) (rows : List ℤ) (letters islands : List ℕ) (points : List ℤ)
    → sheet_listing h a.rows (tables_of (take (row_width * a.rows) rows) (take a.letters letters) (take a.islands islands) (take (2 * a.points) points))
    ≡ sheet_listing h a.rows (used_part a (tables_of rows letters islands points))
used-is h a rows letters islands points = refl

module _ {ℓ} {A : Type ℓ} (xs l t : List A) (e : t ≡ over xs l) (n : ℕ) (q : n ≡ length xs) where
  part_in : n ≤ length t
  part_in = omega (arith, ap length e, length-append xs (drop (length xs) l))

  part-is : take n t ≡ xs
  part-is = ap (take n) e ∙ take_at xs (drop (length xs) l) n (sym q)

-- the tables that the code has
pub enough-tables : Enough input_most (rooms_of (length (replicate 4380 (pos 0))) (length (replicate {A = ℕ} 8192 0)) (length (replicate {A = ℕ} 4096 0)) (length (replicate 1365 (pos 0))))
enough-tables =
    let a : length (replicate 4380 (pos 0)) ≡ 4380 = length-replicate 4380 (pos 0) in
    let b : length (replicate {A = ℕ} 8192 0) ≡ 8192 = length-replicate {A = ℕ} 8192 0 in
    let c : length (replicate {A = ℕ} 4096 0) ≡ 4096 = length-replicate {A = ℕ} 4096 0 in
    let d : length (replicate 1365 (pos 0)) ≡ 1365 = length-replicate 1365 (pos 0) in
    rw (a, b, c, d) (record { rows = omega arith; letters = omega arith; islands = omega arith; points = omega arith })

-- ---- after the reading, into tables that hold any input

module _ (bs : List ℕ) (r : Rooms) (short : length bs ≤ input_most) (enough : Enough input_most r) where
  module _ (x : Answer) (e : x ≡ read_of Loose bs r) where
    its : (a : Answer) → x ≡ a → Told Loose bs a
    its = told-by Loose bs input_most r short enough x e

    pub read-refused : (u : Unread) → x ≡ Err u → (m : Refusal) (k at column : ℕ) → u ≡ Unread.Refused (stopped_at m k at) column → (n : ℕ) → n ≡ Refusals.number_of m
        → refused_line n k at column ≡ read_text (reading_column Loose bs) (reading Loose bs)
    read-refused u q m k at column w n f =
        let t = its (Err (Unread.Refused (stopped_at m k at) column)) (q ∙ ap Err w) in
        rw (f, t.1) (sym (ap (read_text (reading_column Loose bs)) t.0))

    pub read_short : (u : Unread) → x ≡ Err u → (a : Needs) → u ≡ Unread.NoRoom a → ⊥
    read_short u q a w = its (Err (Unread.NoRoom a)) (q ∙ ap Err w)

    -- the tables at exit
    module _ (h : Header) (a : Needs) (q : x ≡ Ok (record { header = h; needs = a }))
        (rows₀ rows : List ℤ) (letters₀ letters islands₀ islands : List ℕ) (points₀ points : List ℤ)
        (w₁ : rows ≡ written x (tables_in (reading Loose bs)).rows rows₀)
        (w₂ : letters ≡ written x (tables_in (reading Loose bs)).letters letters₀)
        (w₃ : islands ≡ written x (tables_in (reading Loose bs)).islands islands₀)
        (w₄ : points ≡ written x (tables_in (reading Loose bs)).points points₀) where
      abbrev its_reading : Declared.Reading
      its_reading = record { header = h; needs = a }

      abbrev o : Tables
      o = (its (Ok its_reading) q).0

      sound : reading Loose bs ≡ sheet h o
      sound = (its (Ok its_reading) q).1

      counts : a ≡ needs_of o
      counts = (its (Ok its_reading) q).2

      whole-rows : row_width * a.rows ≡ length o.rows
      whole-rows = ap (λ (y : Needs). row_width * y.rows) counts ∙ sym (tables-whole Loose bs h o sound).0

      whole-points : 2 * a.points ≡ length o.points
      whole-points = ap (λ (y : Needs). 2 * y.points) counts ∙ sym (tables-whole Loose bs h o sound).1

      rows_are : rows ≡ over o.rows rows₀
      rows_are = table-read x its_reading q (ap (λ (y : Reading). (tables_in y).rows) sound) rows rows₀ w₁

      letters-are : letters ≡ over o.letters letters₀
      letters-are = table-read x its_reading q (ap (λ (y : Reading). (tables_in y).letters) sound) letters letters₀ w₂

      islands-are : islands ≡ over o.islands islands₀
      islands-are = table-read x its_reading q (ap (λ (y : Reading). (tables_in y).islands) sound) islands islands₀ w₃

      points-are : points ≡ over o.points points₀
      points-are = table-read x its_reading q (ap (λ (y : Reading). (tables_in y).points) sound) points points₀ w₄

      letters-count : a.letters ≡ length o.letters
      letters-count = ap (λ (y : Needs). y.letters) counts

      islands-count : a.islands ≡ length o.islands
      islands-count = ap (λ (y : Needs). y.islands) counts

      pub read_fits : UsedFits a (length rows) (length letters) (length islands) (length points)
      read_fits =
          record {
            rows_in = part_in o.rows rows₀ rows rows_are (row_width * a.rows) whole-rows;
            letters-in = part_in o.letters letters₀ letters letters-are a.letters letters-count;
            islands-in = part_in o.islands islands₀ islands islands-are a.islands islands-count;
            points-in = part_in o.points points₀ points points-are (2 * a.points) whole-points;
          }

      used-whole : used_part a (tables_of rows letters islands points) ≡ o
      used-whole =
          rw (
            part-is o.rows rows₀ rows rows_are (row_width * a.rows) whole-rows,
            part-is o.letters letters₀ letters letters-are a.letters letters-count,
            part-is o.islands islands₀ islands islands-are a.islands islands-count,
            part-is o.points points₀ points points-are (2 * a.points) whole-points,
          )

      pub read-sheet : sheet_listing h a.rows (used_part a (tables_of rows letters islands points)) ≡ read_text (reading_column Loose bs) (reading Loose bs)
      read-sheet =
          ap (sheet_listing h a.rows) used-whole ∙ ap (λ (y : Needs). sheet_listing h y.rows o) counts ∙ sym (ap (read_text (reading_column Loose bs)) sound)

-- ---- the whole text

pub listing-long : (bs : List ℕ) → input_most < length bs → refused_line 1 0 0 0 ≡ listing_of bs
unfolding listing_of
listing-long bs h = rw (lt-leb (length bs) input_most h)

pub listing-short : (bs : List ℕ) → length bs ≤ input_most → read_text (reading_column Loose bs) (reading Loose bs) ≡ listing_of bs
unfolding listing_of
listing-short bs h = rw (le-leb (length bs) input_most h)

-- ---- the answer

module _ (s out : List ℕ) where
  pub text-none : length out < length s → (Err (record { 0 = length s }) ≡ listed_of s (length out)) × (out ≡ listed_in (Err (record { 0 = length s })) s out)
  unfolding listed_of
  text-none h = (rw (lt-leb (length s) (length out) h), refl)

  pub text-wrote : length s ≤ length out → (d : List ℕ) (r : ℕ) → Stored out 0 s d r → (Ok (length s) ≡ listed_of s (length out)) × (d ≡ listed_in (Ok (length s)) s out)
  unfolding listed_of
  text-wrote h d r w =
      let p = stored-put (omega (arith, h)) w in
      let z : 0 + length s ≡ length s = omega arith in
      (rw (le-leb (length s) (length out) h), p.is ∙ rw z)

-- the text s in an array of its own
module _ (s l text : List ℕ) (size : ℕ) (w : Put l 0 s text size) where
  size_is : size ≡ length s
  size_is = omega (arith, w.next)

  text-is : take size text ≡ s
  text-is = ap (take size) w.is ∙ take_at s (drop (0 + length s) l) size (sym size_is)

  pub text_in : size ≤ length text
  text_in = omega (arith, size_is, ap length w.is, length-append s (drop (0 + length s) l))

  pub text-handed : (x : Result ℕ NoRoom) (out d : List ℕ) → x ≡ listed_of (take size text) (length out) → d ≡ listed_in x (take size text) out
      → (x ≡ listed_of s (length out)) × (d ≡ listed_in x s out)
  text-handed x out d p q = (rw text-is at p, rw text-is at q)
