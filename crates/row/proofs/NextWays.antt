-- Past the row that a walk stands at: what the code has in hand there, and that no sum wraps in a walk within the tables. Assumes nothing.
use Rattle.std.proofs.Common.{◌≡◌, ℕ, ◌+◌, ◌*◌, ◌<◌, ◌≤◌, List, length, drop, ℤ, ◌∙◌, mod-eq_of_lt, arith, le-leb}
use borrow.Author.Tests.{lt-leb}
use Rattle.laws.specs.Lists.{tail}
use Rattle.laws.proofs.ListLaws.{rest-is}
use Rattle.kinds.specs.Kinds.{vertices_place}
use Rattle.row.specs.declared.Stand.{Stand}
use Rattle.row.specs.Walk.{word_most, cell_in, next_stand, wrap, stand_after, Stands}

module _ (rows : List ℤ) (d : Stand) where
  abbrev left_in : ℕ → ℕ
  left_in p = cell_in (tail rows d.row) p

  pub after-past : length rows < d.row → d ≡ stand_after rows d
  unfolding stand_after
  after-past h = rw (lt-leb d.row (length rows) h)

  pub after_is : d.row ≤ length rows → (a b c r l i m p : ℕ) → a ≡ left_in 9 → b ≡ left_in 10 → c ≡ left_in 11
      → r ≡ wrap d.row 15 → l ≡ wrap d.letters a → i ≡ wrap d.islands b → m ≡ wrap c c → p ≡ wrap d.points m
      → record { row = r; letters = l; islands = i; points = p } ≡ stand_after rows d
  unfolding stand_after
  after_is h a b c r l i m p ea eb ec er el ei em ep = rw (le-leb d.row (length rows) h, er, el, ei, ep, em, ea, eb, ec, rest-is rows d.row)

wrap-small : (a b : ℕ) → a + b ≤ word_most → wrap a b ≡ a + b
wrap-small a b h = mod-eq_of_lt (omega arith)

-- within the tables a step is the next stand
pub after_next : (rows : List ℤ) (d : Stand) → d.row ≤ length rows → Stands word_most word_most word_most word_most (next_stand rows d) → stand_after rows d ≡ next_stand rows d
unfolding stand_after next_stand
after_next rows d h s =
    let n = cell_in (drop d.row rows) vertices_place in
    let t : wrap n n ≡ 2 * n = wrap-small n n (omega (arith, s.points-in)) ∙ (let e : n + n ≡ 2 * n = omega arith in e) in
    rw (le-leb d.row (length rows) h, wrap-small d.row 15 s.row_in, wrap-small d.letters _ s.letters-in, wrap-small d.islands _ s.islands-in, t, wrap-small d.points (2 * n) s.points-in)
