-- Each answer as the struct of the C interface: "In every answer `number` is 0 where the question was answered, else the refusal of
-- document 01; a field that the answer, or the paper, does not name is 0". Assumes nothing: these are definitions.
use Rattle.std.specs.Prelude.{ℕ, ℤ, Option, Result, Ok, Err}
use Rattle.std.specs.Result.{result_ok}
use Rattle.record.specs.declared.Found.{Found}
use Rattle.record.specs.declared.refusal.Refusal.{Refusal}
use Rattle.record.specs.Record as Record
use Rattle.number.specs.Number.{integer_number, integer_value, real_number, real_value}
use Rattle.column.specs.Columns.{column_of}
use Rattle.heading.specs.declared.Header.{Header}
use Rattle.reader.specs.declared.Needs.{Needs}
use Rattle.reader.specs.Read.{Answer}
use Rattle.reader.specs.Read as Read
use Rattle.writer.specs.declared.Unwritten.{Unwritten}
use Rattle.writer.specs.Write as Write
use Rattle.tile.specs.declared.Offset.{Offset}
use Rattle.tile.specs.Tiles.{east_of, south_of}
use Rattle.tile.specs.Tiles as Tiles
use Rattle.listing.specs.declared.NoRoom.{NoRoom}
use Rattle.listing.specs.Listed as Listed
use Rattle.told.specs.declared.CxfReading.{CxfReading}
use Rattle.told.specs.declared.CxfWritten.{CxfWritten}
use Rattle.told.specs.declared.CxfRecord.{CxfRecord}
use Rattle.told.specs.declared.CxfNumber.{CxfNumber}
use Rattle.told.specs.declared.CxfTile.{CxfTile}
use Rattle.told.specs.declared.CxfListed.{CxfListed}

-- the number of the interface: it rises whenever a struct, a width or a meaning changes, so that an old binding can refuse a new library
abbrev pub interface_number : ℕ
interface_number = 4

-- a value of a record that is found; 0 where it is refused
abbrev pub of_found : (Found → ℕ) → Result Found Refusal → ℕ
of_found f (Ok found) = f found
of_found f (Err refusal) = 0

abbrev pub record_told : Result Found Refusal → CxfRecord
record_told a = record { number = Record.number_of a; start = of_found (λ found. found.start) a; length = of_found (λ found. found.len) a; next = of_found (λ found. found.next) a }

abbrev pub integer_told : Result ℕ ℕ → CxfNumber
integer_told a = record { number = integer_number (result_ok a); column = column_of a; value = integer_value (result_ok a) }

abbrev pub real_told : Result ℤ ℕ → CxfNumber
real_told a = record { number = real_number (result_ok a); column = column_of a; value = real_value (result_ok a) }

abbrev pub reading_of : ℕ → ℕ → ℕ → ℕ → Needs → Header → CxfReading
reading_of number nth offset column a h =
    record {
      number = number;
      nth = nth;
      offset = offset;
      column = column;
      rows = a.rows;
      letters = a.letters;
      islands = a.islands;
      points = a.points;
      kind = h.kind;
      scale = h.scale;
      name = h.name;
    }

-- the counts are used where it is read, needed where there is no room (14); what is refused has an all-zero header
abbrev pub read_told : Answer → CxfReading
read_told a = reading_of (Read.number_of a) (Read.record_of a) (Read.offset_of a) (Read.column_of a) (Read.counts_of a) (Read.header_of a)

abbrev pub write_told : Result ℕ Unwritten → CxfWritten
write_told w = record { number = Write.number_of w; row = Write.row_of w; length = Write.length_of w }

abbrev pub tile_told : Option Offset → CxfTile
tile_told a = record { number = Tiles.number_of a; east = east_of a; south = south_of a }

abbrev pub listed_told : Result ℕ NoRoom → CxfListed
listed_told a = record { number = Listed.number_of a; length = Listed.length_of a }
