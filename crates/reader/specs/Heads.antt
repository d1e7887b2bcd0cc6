-- A row from its keyword up to its vertices, at once. For private contracts alone. Assumes nothing: these are definitions.
use Rattle.std.specs.Prelude.{ℕ, ◌+◌, ◌*◌, ◌/◌, ◌≤◌, ◌≡◌, List, Some, Ok, Bool, true, false, cond, length, take, drop, set, eqb, ℤ, pos}
use Rattle.laws.specs.Lists.{pasted}
use Rattle.record.specs.declared.Mode.{Mode}
use Rattle.record.specs.Record.{line_of}
use Rattle.number.specs.Words.{trimmed}
use Rattle.token.specs.Lex.{lex_of, unlift}
use Rattle.token.specs.declared.Want.TheVariants.{Key, Text}
use Rattle.kinds.specs.Kinds.{row_width, code_place, vertices_place}
use Rattle.quick.specs.Seen.{IntegerAt, ValueAt}
use Rattle.machine.specs.Machine.{fresh_ring, field_of}
use Rattle.machine.specs.declared.State.{State}
use Rattle.machine.specs.declared.State.TheVariants.{Due, Island, X}
use Rattle.sheet.specs.Tables.{new_row}
use Rattle.reader.specs.Turn.{row_more, FirstAt}
use Rattle.reader.specs.Store.{token_most, starts_behind, Puts}
use Rattle.reader.specs.declared.First.{First}
use Rattle.reader.specs.declared.TwoPoints.{TwoPoints}
use Rattle.reader.specs.declared.ReadStand.{ReadStand}
use Rattle.reader.specs.declared.RowHead.{RowHead}

-- a keyword stands there, in a record of `width` bytes
pub record KeySays (mode : Mode) (s : List ℕ) (at width t : ℕ) : Type 0 where
  pub len : ℕ
  pub line : line_of mode true (drop at s) ≡ Ok (record { len = len; width = width })
  pub says : lex_of mode Key (take len (drop at s)) ≡ Ok t

-- t letters stand there, which are the whole content
pub record WordSays (mode : Mode) (s : List ℕ) (at width t : ℕ) : Type 0 where
  pub line : line_of mode false (drop at s) ≡ Ok (record { len = t; width = width })
  pub says : lex_of mode Text (take t (drop at s)) ≡ Ok t
  pub bare : trimmed (take t (drop at s)) ≡ take t (drop at s)

-- some letters, with no blank at an end: they are what is read of them
pub record IsTrim (c : List ℕ) : Type 0 where
  pub bare : trimmed c ≡ c
  pub says : (mode : Mode) → lex_of mode Text c ≡ Ok (length c)

-- letters and an integer from `at` up to `next`
pub record LeadAt (mode : Mode) (s : List ℕ) (at t n next : ℕ) : Type 0 where
  pub w : ℕ
  pub w' : ℕ
  pub word : WordSays mode s at w t
  pub number : IntegerAt mode s (at + w) w' n
  pub there : next ≡ at + w + w'

-- two integers from `at` up to `next`
pub record CountsAt (mode : Mode) (s : List ℕ) (at n m next : ℕ) : Type 0 where
  pub w : ℕ
  pub w' : ℕ
  pub first : IntegerAt mode s at w n
  pub second : IntegerAt mode s (at + w) w' m
  pub there : next ≡ at + w + w'

-- a code that the mode takes
pub record CodeGoes (mode : Mode) (kind n : ℕ) : Type 0 where
  pub st : State
  pub goes : field_of mode kind code_place 0 n ≡ Ok (Some st)

-- the state behind the counts of a row
unfoldable pub opened_by : ℕ → ℕ → ℕ → State
opened_by kind islands n =
    cond (eqb n 0) Due (cond (eqb kind 1) (cond (eqb islands 0) (X (fresh_ring true 0 n)) (Island islands n islands)) (X (fresh_ring false 0 n)))

-- counts that a row of a kind may have
pub record Countable (kind islands n : ℕ) : Type 0 where
  pub goes : (mode : Mode) → field_of mode kind vertices_place islands n ≡ Ok (Some (opened_by kind islands n))

-- ---- the points of a row: their numbers are read where the file was judged

-- two reals of one width
pub record PointIn (s : List ℕ) (at width : ℕ) (judged : Bool) (r : First) : Type 0 where
  pub there : r.next ≡ at + 2 * width
  pub values : judged ≡ true → ValueAt s at r.x × ValueAt s (at + width) r.y

pub record PointAt (mode : Mode) (s : List ℕ) (at : ℕ) (judged : Bool) (x y next : ℕ) : Type 0 where
  pub fx : ℕ
  pub fy : ℕ
  pub first : FirstAt mode s at fx fy next
  pub same : judged ≡ true → (x ≡ fx) × (y ≡ fy)

pub record PointsAt (mode : Mode) (s : List ℕ) (at : ℕ) (judged : Bool) (r : TwoPoints) : Type 0 where
  pub mid : ℕ
  pub fx : ℕ
  pub fy : ℕ
  pub fx2 : ℕ
  pub fy2 : ℕ
  pub first : FirstAt mode s at fx fy mid
  pub second : FirstAt mode s mid fx2 fy2 r.next
  pub same : judged ≡ true → (r.x ≡ fx) × (r.y ≡ fy) × (r.x2 ≡ fx2) × (r.y2 ≡ fy2)

-- ---- the head

-- the stand behind a head
abbrev pub behind_head : ReadStand → RowHead → ReadStand
behind_head d h =
    record {
      state = opened_by (h.token / 2) h.islands h.vertices;
      at = h.next;
      nth = d.nth + h.records;
      ring = h.next;
      needs = row_more d.needs h.letters;
    }

-- what the records behind the keyword leave in the table, in the file's order, where the row begins at b
abbrev pub border_cells : RowHead → ℕ → List ℤ → List ℤ
border_cells h b l =
    set (set (set (set (set (set (set (set (set l (b + 9) (pos h.letters)) (b + 3) (pos h.number)) (b + 4) (unlift h.angle)) (b + 5) (unlift h.x)) (b + 6) (unlift h.y))
    (b + 7) (unlift h.x2)) (b + 8) (unlift h.y2)) (b + 10) (pos h.islands)) (b + 11) (pos h.vertices)

abbrev pub note_cells : RowHead → ℕ → List ℤ → List ℤ
note_cells h b l =
    set (set (set (set (set l (b + 9) (pos h.letters)) (b + 3) (pos h.number)) (b + 4) (unlift h.angle)) (b + 5) (unlift h.x)) (b + 6) (unlift h.y)

abbrev pub sign_cells : RowHead → ℕ → List ℤ → List ℤ
sign_cells h b l = set (set (set (set l (b + 2) (pos h.number)) (b + 4) (unlift h.angle)) (b + 5) (unlift h.x)) (b + 6) (unlift h.y)

abbrev pub mark_cells : RowHead → ℕ → List ℤ → List ℤ
mark_cells h b l =
    set (set (set (set (set (set l (b + 9) (pos h.letters)) (b + 2) (pos h.number)) (b + 5) (unlift h.x)) (b + 6) (unlift h.y)) (b + 7) (unlift h.x2)) (b + 8)
    (unlift h.y2)

abbrev pub path_cells : RowHead → ℕ → List ℤ → List ℤ
path_cells h b l = set (set l (b + 2) (pos h.number)) (b + 11) (pos h.vertices)

unfoldable pub rows_head : RowHead → ℕ → List ℤ → List ℤ
rows_head h b l =
    cond (eqb (h.token / 2) 1) (border_cells h b l)
    (cond (eqb (h.token / 2) 2) (note_cells h b l)
    (cond (eqb (h.token / 2) 3) (sign_cells h b l)
    (cond (eqb (h.token / 2) 4) (mark_cells h b l) (path_cells h b l))))

-- each number fits a cell
pub record HeadFew (h : RowHead) : Type 0 where
  pub token : h.token ≤ token_most
  pub letters : h.letters ≤ token_most
  pub number : h.number ≤ token_most
  pub angle : h.angle ≤ token_most
  pub x : h.x ≤ token_most
  pub y : h.y ≤ token_most
  pub x2 : h.x2 ≤ token_most
  pub y2 : h.y2 ≤ token_most
  pub islands : h.islands ≤ token_most
  pub vertices : h.vertices ≤ token_most

-- a head stands at a place: turns from any stand there, and what they leave in any tables
pub record HeadAt (mode : Mode) (s : List ℕ) (at : ℕ) (h : RowHead) : Type 0 where
  pub puts : (d : ReadStand) → d.state ≡ Due → d.at ≡ at → (r : List ℤ) (l i : List ℕ) (p : List ℤ)
      → Puts mode s d r l i p (behind_head d h) (rows_head h (row_width * d.needs.rows) (pasted r (row_width * d.needs.rows) (new_row h.token (starts_behind d.needs))))
      (pasted l d.needs.letters (take h.letters (drop h.word s))) i p
  pub few : HeadFew h
  pub records : h.records ≤ 10
  pub word : h.word + h.letters ≤ length s
  pub inside : h.next ≤ length s

-- with the points that stand there
abbrev pub with_points : RowHead → ℕ → ℕ → ℕ → ℕ → RowHead
with_points h x y x2 y2 =
    record {
      token = h.token;
      letters = h.letters;
      word = h.word;
      number = h.number;
      angle = h.angle;
      x = x;
      y = y;
      x2 = x2;
      y2 = y2;
      islands = h.islands;
      vertices = h.vertices;
      records = h.records;
      next = h.next;
    }

-- a head stands there, and it is h but for points that are not read; they are where the file was judged
pub record HeadRead (mode : Mode) (s : List ℕ) (at : ℕ) (judged : Bool) (h : RowHead) : Type 0 where
  pub fx : ℕ
  pub fy : ℕ
  pub fx2 : ℕ
  pub fy2 : ℕ
  pub head : HeadAt mode s at (with_points h fx fy fx2 fy2)
  pub same : judged ≡ true → with_points h fx fy fx2 fy2 ≡ h
