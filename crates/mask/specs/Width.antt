-- For private contracts: what refuses an area (17, 19), without the area. Assumes nothing: these are definitions.
use Rattle.std.specs.Prelude.{ℤ, Result, Ok, Err}
use Rattle.plane.specs.declared.NoArea.{NoArea}
use Rattle.area.specs.declared.Areas.{Areas}

abbrev pub width_of : Result ℤ NoArea → Result Unit NoArea
width_of (Ok d) = Ok tt
width_of (Err e) = Err e

abbrev pub widths_of : Result Areas NoArea → Result Unit NoArea
widths_of (Ok a) = Ok tt
widths_of (Err e) = Err e
