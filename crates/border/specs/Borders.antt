-- A row as a border, or as a text: document 01, "Border classes". Assumes nothing: these are definitions.
use Rattle.classes.specs.declared.Class.{Class}
use Rattle.classes.specs.Classes.{class_of, is_surface}
use Rattle.std.specs.Prelude.{◌-◌, Bool, ◌&&◌, eqb, pos}
use Rattle.laws.specs.Text.{text}
use Rattle.laws.specs.Whole.{eq_z}
use Rattle.kinds.specs.Kinds.{size_place, angle_place, x_place, y_place, x2_place, y2_place, letters_place, islands_place, vertices_place}
use Rattle.heading.specs.declared.Header.{Header}
use Rattle.sheet.specs.Tables.{Tables}
use Rattle.made.specs.Made.{cell_at, count_at, kind_of, letters_of}
use Rattle.border.specs.declared.Border.{Border}
use Rattle.border.specs.declared.Text.{Text}

abbrev pub is_border : Tables → Bool
is_border t = eqb (kind_of t) 1

abbrev pub is_text : Tables → Bool
is_text t = eqb (kind_of t) 2

-- a border row answers as one record, with its class inside
abbrev pub border_with : Class → Tables → Border
border_with c t =
    record {
      class = c;
      size = cell_at t size_place;
      angle = cell_at t angle_place;
      x = cell_at t x_place;
      y = cell_at t y_place;
      x2 = cell_at t x2_place;
      y2 = cell_at t y2_place;
      letters = count_at t letters_place;
      islands = count_at t islands_place;
      vertices = count_at t vertices_place;
    }

unfoldable pub border_of : Header → Tables → Border
border_of h t = border_with (class_of h.kind h.name (letters_of t)) t

-- such a TESTO is a surface right, one of size 0 a raster parcel's centroid; any other row is neither
unfoldable pub text_of : Tables → Text
text_of t = record { surface = is_text t && is_surface (letters_of t); centroid = is_text t && eq_z (cell_at t size_place) (pos 0) }
