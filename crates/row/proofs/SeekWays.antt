-- The ways through the search for a row: by its own starts, then the answer. Assumes nothing.
use Rattle.std.proofs.Common.{◌≡◌, ℕ, ◌+◌, ◌*◌, ◌<◌, ◌≤◌, length, length-drop, ap, arith, le-ltb, lt-ltb, Ok, Err}
use Rattle.record.specs.declared.Mode.TheVariants.{Loose}
use Rattle.heading.specs.declared.Header.{Header}
use Rattle.kinds.specs.Kinds.{row_width}
use Rattle.sheet.specs.Tables.{Tables}
use Rattle.made.specs.Made.{judge_of}
use Rattle.made.proofs.RowWays.{made_held}
use Rattle.row.specs.declared.Stand.{Stand}
use Rattle.row.specs.declared.Unfound.TheVariants.{Missing}
use Rattle.row.specs.Walk.{stand_of, own_stand, left_at}
use Rattle.row.specs.Seek.{sought_of}
use Rattle.row.proofs.Walk.{Walk, walk-to, walk-own, walk-left}
use Rattle.row.proofs.SeekLaws.{fine-rows}

-- ---- the answer

module _ (h : Header) (count : ℕ) (t : Tables) (k : ℕ) (f : judge_of Loose h count t ≡ Ok tt) where
  module _ (g : k < count) where
    to_row : Walk Loose t count (stand_of k t.rows) k
    to_row = walk-to Loose t count (fine-rows h count t f) k (omega arith)

    -- the row's own starts say where it stands
    stand-own : stand_of k t.rows ≡ own_stand k t.rows
    stand-own = walk-own to_row g

    -- and it is wholly held there
    pub own_held : row_width * k + row_width ≤ length t.rows
    own_held =
        let d = stand_of k t.rows in
        let e : d.row ≡ row_width * k = ap (λ (x : Stand). x.row) stand-own in
        omega (arith, e, to_row.stands.row_in, (made_held (left_at t d) (walk-left to_row g)).row, length-drop d.row t.rows)

    pub sought_at : (d : Stand) → d ≡ own_stand k t.rows → Ok d ≡ sought_of h count t k
    unfolding sought_of
    sought_at d q = rw (f, lt-ltb k count g, stand-own, q)

  pub sought_missing : count ≤ k → Err Missing ≡ sought_of h count t k
  unfolding sought_of
  sought_missing g = rw (f, le-ltb k count g)

-- a row of a sheet that is fine is found where the rows before it end
pub sought-is : (h : Header) (count : ℕ) (t : Tables) (k : ℕ) → judge_of Loose h count t ≡ Ok tt → k < count → Ok (stand_of k t.rows) ≡ sought_of h count t k
sought-is h count t k f g = sought_at h count t k f g (stand_of k t.rows) (stand-own h count t k f g)
