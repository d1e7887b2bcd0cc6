-- What a SUP file answers for small sheets, computed: document 02, T-01, its refusals in their order. Assumes nothing.
use Rattle.std.specs.Prelude.{ℕ, ◌≡◌, refl, List, [], ◌∷◌, ◌++◌, replicate, ℤ, pos, Ok, Err}
use Rattle.laws.specs.Text.{text}
use Rattle.heading.specs.declared.Header.{Header}
use Rattle.sheet.specs.Tables.{Tables}
use Rattle.made.specs.declared.Flaw.TheVariants as Flaw
use Rattle.made.specs.Made.{tables_of}
use Rattle.made.specs.Examples.{header, at_first}
use Rattle.tally.specs.declared.Untallied.TheVariants.{Sheet, Wide}
use Rattle.tally.specs.Tally.{limit}
use Rattle.tally.specs.Examples.{computed as computed_tally}
use Rattle.order.specs.Examples.{computed as computed_order}
use Rattle.sup.specs.declared.NoSup.TheVariants.{NoRoom, Refused, BadDate, CodeTooLong, PastTotal, WideFigure}
use Rattle.sup.specs.Date.{is_date}
use Rattle.sup.specs.Examples.{computed as computed_text}
use Rattle.sup.specs.Answer.{SupAnswer, code_nets, codes_in_order, stored_sup, lined_sup, printed_sup, dated_sup, sup_of}

-- the definitions opened, so that they compute
unfoldable pub computed : Header → ℕ → Tables → List ℕ → ℕ → SupAnswer
unfolding sup_of dated_sup printed_sup lined_sup stored_sup codes_in_order code_nets is_date computed_text computed_order computed_tally
computed h count t date room = sup_of h count t date room

abbrev today : List ℕ
today = text "20261115"

abbrev empty : Tables
empty = tables_of [] [] [] []

-- fourteen lines; one byte less is refused with the needed length
room : (sup_of (header 1) 0 empty today 322 ≡ Ok 322) × (sup_of (header 1) 0 empty today 321 ≡ Err (NoRoom 322))
unfolding computed
room = (refl, refl)

-- 6 before 21 before 14
first-refused : (sup_of (header 4) 0 empty (text "2026") 0 ≡ Err (Refused (Sheet Flaw.BadHeader))) × (sup_of (header 1) 0 empty (text "20261315") 0 ≡ Err BadDate)
unfolding computed
first-refused = (refl, refl)

-- one border of so many letters, a triangle whose side along both axes is so long
abbrev one : ℕ → ℕ → List ℕ → Tables
one letters side code =
    tables_of
    (pos 1 ∷ pos 0 ∷ pos 0 ∷ pos 18 ∷ pos 0 ∷ pos 1 ∷ pos 1 ∷ pos 1 ∷ pos 1 ∷ pos letters ∷ pos 0 ∷ pos 4 ∷ at_first)
    code [] (pos 0 ∷ pos 0 ∷ pos side ∷ pos 0 ∷ pos 0 ∷ pos side ∷ pos 0 ∷ pos 0 ∷ [])

-- the tally's 17 before 21; 21 before 22; 22 before 14; a triangle of 2 m2 finds room
sides : (sup_of (header 1) 1 (one 1 20000001 (text "7")) (text "2026") 0 ≡ Err (Refused (Wide 0)))
    × (sup_of (header 1) 1 (one 12 2000 (text "123456789012")) (text "2026") 0 ≡ Err BadDate)
    × (sup_of (header 1) 1 (one 12 2000 (text "123456789012")) today 0 ≡ Err (CodeTooLong 0))
    × (sup_of (header 1) 1 (one 1 2000 (text "7")) today 345 ≡ Ok 345)
unfolding computed
sides = (refl, refl, refl, refl)

-- a tally of one road and one parcel, by their doubled areas
abbrev tallied : ℕ → ℕ → List ℤ
tallied road parcel = replicate 8 (pos 0) ++ (pos 1 ∷ pos road ∷ replicate 10 (pos 0)) ++ (pos 1 ∷ pos parcel ∷ pos 0 ∷ pos 0 ∷ [])

-- 22 before 18 of TOTALE before 23 before 14; the limit itself is no 18
totals : (dated_sup (header 1) 1 (one 12 2000 (text "123456789012")) today (tallied limit limit) 0 ≡ Err (CodeTooLong 0))
    × (dated_sup (header 1) 1 (one 1 2000 (text "7")) today (tallied 1 limit) 0 ≡ Err PastTotal)
    × (dated_sup (header 1) 1 (one 1 2000 (text "7")) today (tallied 0 limit) 0 ≡ Err (WideFigure 9))
    × (dated_sup (header 1) 1 (one 1 2000 (text "7")) today (tallied 0 2000000) 0 ≡ Err (NoRoom 345))
unfolding computed
totals = (refl, refl, refl, refl)
