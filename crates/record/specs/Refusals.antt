-- The refusals of document 01 by name, and the limits of a file and of a record. Assumes nothing: these are definitions.
use Rattle.std.specs.Prelude.{ℕ}
use Rattle.record.specs.declared.refusal.Refusal.{Refusal}

abbrev pub too_long : ℕ
too_long = 1

abbrev pub cut : ℕ
cut = 2

abbrev pub line_end : ℕ
line_end = 3

abbrev pub record_length : ℕ
record_length = 4

abbrev pub bad_byte : ℕ
bad_byte = 5

abbrev pub bad_header : ℕ
bad_header = 6

abbrev pub not_keyword : ℕ
not_keyword = 7

abbrev pub malformed : ℕ
malformed = 8

abbrev pub bad_letters : ℕ
bad_letters = 9

abbrev pub unlisted_code : ℕ
unlisted_code = 10

abbrev pub bad_count : ℕ
bad_count = 11

abbrev pub open_ring : ℕ
open_ring = 12

abbrev pub after_eof : ℕ
after_eof = 13

abbrev pub no_room : ℕ
no_room = 14

abbrev pub not_made : ℕ
not_made = 15

abbrev pub too_wide : ℕ
too_wide = 17

abbrev pub past_limit : ℕ
past_limit = 18

abbrev pub no_such : ℕ
no_such = 19

abbrev pub off_tile : ℕ
off_tile = 20

-- those of document 02, T-01: a SUP file's date, the code of a border that it lists, a figure
abbrev pub bad_date : ℕ
bad_date = 21

abbrev pub long_code : ℕ
long_code = 22

abbrev pub wide_figure : ℕ
wide_figure = 23

-- a refusal's number
abbrev pub number_of : Refusal → ℕ
number_of Refusal.TooLong = too_long
number_of Refusal.Cut = cut
number_of Refusal.LineEnd = line_end
number_of Refusal.Length = record_length
number_of Refusal.Byte = bad_byte
number_of Refusal.Header = bad_header
number_of Refusal.Keyword = not_keyword
number_of Refusal.Number = malformed
number_of Refusal.Letters = bad_letters
number_of Refusal.Code = unlisted_code
number_of Refusal.Count = bad_count
number_of Refusal.OpenRing = open_ring
number_of Refusal.AfterEof = after_eof
number_of Refusal.NoRoom = no_room
number_of Refusal.NotMade = not_made
number_of Refusal.TooWide = too_wide
number_of Refusal.PastLimit = past_limit
number_of Refusal.NoSuch = no_such
number_of Refusal.OffTile = off_tile
number_of Refusal.BadDate = bad_date
number_of Refusal.LongCode = long_code
number_of Refusal.WideFigure = wide_figure

-- a file is at most so many bytes
abbrev pub file_most : ℕ
file_most = 16777216

-- a record's content is at most so many bytes
abbrev pub record_most : ℕ
record_most = 255
