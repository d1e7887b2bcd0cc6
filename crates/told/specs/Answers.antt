-- The answers to questions about a sheet, as the structs of the C interface. "`row` is filled only where the papers name a row".
-- Assumes nothing: these are definitions.
use Rattle.std.specs.Prelude.{ℕ, ◌+◌, Bool, cond, ℤ, pos, Option, Some, None, Result, Ok, Err}
use Rattle.classes.specs.Classes.{index_of}
use Rattle.row.specs.declared.Unfound.{Unfound}
use Rattle.border.specs.declared.Border.{Border}
use Rattle.border.specs.BorderAt as BorderAt
use Rattle.border.specs.declared.Text.{Text}
use Rattle.border.specs.TextAt as TextAt
use Rattle.area.specs.declared.AreaRefusal.{AreaRefusal}
use Rattle.area.specs.Questions as Questions
use Rattle.crossing.specs.declared.FaultyPair.{FaultyPair}
use Rattle.ring.specs.RingCheck as RingCheck
use Rattle.told.specs.declared.question.CxfBorder.{CxfBorder}
use Rattle.told.specs.declared.question.CxfText.{CxfText}
use Rattle.told.specs.declared.question.CxfArea.{CxfArea}
use Rattle.told.specs.declared.question.CxfRing.{CxfRing}

-- a value of the border; none where it is refused
abbrev pub of_border {ℓ} : {A : Type ℓ} → A → (Border → A) → Result Border Unfound → A
of_border none f (Ok b) = f b
of_border none f (Err e) = none

-- the classes from 1 on; the other fields are the row's own
abbrev pub border_told : Result Border Unfound → CxfBorder
border_told a =
    record {
      number = BorderAt.number_of a;
      row = BorderAt.row_of a;
      class = of_border 0 (λ b. index_of b.class + 1) a;
      size = of_border (pos 0) (λ b. b.size) a;
      angle = of_border (pos 0) (λ b. b.angle) a;
      x = of_border (pos 0) (λ b. b.x) a;
      y = of_border (pos 0) (λ b. b.y) a;
      x2 = of_border (pos 0) (λ b. b.x2) a;
      y2 = of_border (pos 0) (λ b. b.y2) a;
      letters = of_border 0 (λ b. b.letters) a;
      islands = of_border 0 (λ b. b.islands) a;
      vertices = of_border 0 (λ b. b.vertices) a;
    }

-- 1 is yes; a text that is refused is neither
abbrev pub text_flag : (Text → Bool) → Result Text Unfound → ℕ
text_flag f (Ok t) = cond (f t) 1 0
text_flag f (Err e) = 0

abbrev pub text_told : Result Text Unfound → CxfText
text_told a = record { number = TextAt.number_of a; row = TextAt.row_of a; surface = text_flag (λ t. t.surface) a; centroid = text_flag (λ t. t.centroid) a }

abbrev pub doubled_of : Result ℤ AreaRefusal → ℤ
doubled_of (Ok d) = d
doubled_of (Err e) = pos 0

abbrev pub area_told : Result ℤ AreaRefusal → CxfArea
area_told a = record { number = Questions.number_of a; row = Questions.row_of a; doubled = doubled_of a }

-- 1 is yes
abbrev pub simple_of : Result (Option FaultyPair) AreaRefusal → ℕ
simple_of (Ok None) = 1
simple_of (Ok (Some p)) = 0
simple_of (Err e) = 0

-- an edge of the faulty pair, where the ring is not simple
abbrev pub of_pair : (FaultyPair → ℕ) → Result (Option FaultyPair) AreaRefusal → ℕ
of_pair f (Ok (Some p)) = f p
of_pair f (Ok None) = 0
of_pair f (Err e) = 0

abbrev pub ring_told : Result (Option FaultyPair) AreaRefusal → CxfRing
ring_told a = record { number = RingCheck.number_of a; row = RingCheck.row_of a; simple = simple_of a; first = of_pair (λ p. p.first) a; second = of_pair (λ p. p.second) a }

-- ---- for private contracts: refused by a number and a row

abbrev pub no_border : ℕ → ℕ → CxfBorder
no_border number row =
    record {
      number = number;
      row = row;
      class = 0;
      size = pos 0;
      angle = pos 0;
      x = pos 0;
      y = pos 0;
      x2 = pos 0;
      y2 = pos 0;
      letters = 0;
      islands = 0;
      vertices = 0;
    }

abbrev pub no_ring : ℕ → ℕ → CxfRing
no_ring number row = record { number = number; row = row; simple = 0; first = 0; second = 0 }
