-- When a SUP file is written, and how long it is: where none of the refusals is met, and then only (document 02, T-01). Assumes nothing.
use Prim.Native.Nat.{ℕ, ◌+◌, ◌*◌, ◌≤◌}
use mathlib.Core.Path.{◌≡◌, refl, sym, ◌∙◌}
use mathlib.Core.List.{List}
use mathlib.Core.Bool.{true}
use native.Mathlib.Omega.{arith}
use lib.ListN.{length}
use lib.Dec.{leb, eqb}
use lib.IntN.{ℤ}
use borrow.Author.Tests.{le-leb, leb-true, eqb-true}
use Rattle.std.specs.Prelude.{Option, Some, None, Result, Ok, Err}
use Rattle.laws.proofs.Choice.{cond-first}
use Rattle.record.specs.declared.Mode.TheVariants.{Loose}
use Rattle.heading.specs.declared.Header.{Header}
use Rattle.heading.specs.Heading.{is_header}
use Rattle.heading.proofs.HeadingLaws.{header_is}
use Rattle.sheet.specs.Tables.{Tables}
use Rattle.made.specs.declared.Flaw.TheVariants.{BadHeader}
use Rattle.made.specs.Made.{none_before, judge_rows, judge_of}
use Rattle.tally.specs.declared.Untallied.{Untallied}
use Rattle.tally.specs.Take.{tally_of}
use Rattle.tally.proofs.RunningLaws.{tally-fine}
use Rattle.order.specs.SupBorders.{sup_borders, first_long}
use Rattle.sup.specs.declared.NoSup.TheVariants.{NoRoom, BadDate, PastTotal, WideFigure}
use Rattle.sup.specs.Date.{is_date}
use Rattle.sup.specs.Sup.{CodeNet, exact_total, is_limited, first_wide, sup_text}
use Rattle.sup.specs.Answer.{SupAnswer, codes_in_order, sheet_sup, stored_sup, lined_sup, printed_sup, after_codes, dated_sup, after_tally, sup_of}
use Rattle.sup.proofs.SupLaws.{sup-length}
use Rattle.sup.proofs.DateWays.{date-eight}

-- the sheet is written in n bytes
pub record SupWritten (h : Header) (count : ℕ) (t : Tables) (date : List ℕ) (room n : ℕ) : Type 0 where
  pub tallied : (tally_of h count t).outcome ≡ Ok tt
  pub dated : is_date date ≡ true
  pub short : first_long h count t ≡ None
  pub limited : is_limited (exact_total h.kind (tally_of h count t).tally.figures) ≡ true
  pub narrow : first_wide h.kind (tally_of h count t).tally.figures (codes_in_order h count t) ≡ 0
  pub size : n ≡ 23 * (14 + length (sup_borders h count t))
  pub held : n ≤ room

-- ---- the length of the text

pub header-named : (h : Header) (count : ℕ) (t : Tables) → judge_of Loose h count t ≡ Ok tt → length h.name ≤ 11
unfolding judge_of
header-named h count t e =
    let q = cond-first (is_header h) (judge_rows Loose count none_before t) (Err BadHeader) (Ok tt) (λ f. let z : ◌≡◌ {A = ℕ} 0 1 = cc in omega arith) e in
    omega (arith, (header_is h q.0).long)

module _ (h : Header) (count : ℕ) (t : Tables) (date : List ℕ) where
  abbrev figures : List ℤ
  figures = (tally_of h count t).tally.figures

  abbrev codes : List CodeNet
  codes = codes_in_order h count t

  pub written-length : (tally_of h count t).outcome ≡ Ok tt → is_date date ≡ true → first_long h count t ≡ None
      → first_wide h.kind (tally_of h count t).tally.figures (codes_in_order h count t) ≡ 0
      → length (sheet_sup h count t date) ≡ 23 * (14 + length (sup_borders h count t))
  unfolding sheet_sup
  written-length e d s w = sup-length h count t date figures (header-named h count t (tally-fine h count t e)) (omega (arith, date-eight date d)) s w

  -- ---- from the answer

  module _ (room n : ℕ) where
    past-tally : (r : Result Unit Untallied) (x : SupAnswer) → after_tally r x ≡ Ok n → (r ≡ Ok tt) × (x ≡ Ok n)
    past-tally (Ok u) x e = (refl, e)
    past-tally (Err u) x e = absurd cc

    past-codes : (r : Option ℕ) (x : SupAnswer) → after_codes r x ≡ Ok n → (r ≡ None) × (x ≡ Ok n)
    past-codes None x e = (refl, e)
    past-codes (Some k) x e = absurd cc

    wrote-eq : (m : ℕ) → ◌≡◌ {A = SupAnswer} (Ok m) (Ok n) → m ≡ n
    wrote-eq m e = cc

    stored-fits : (s : List ℕ) → stored_sup s room ≡ Ok n → (length s ≡ n) × (n ≤ room)
    unfolding stored_sup
    stored-fits s e =
        let q = cond-first (leb (length s) room) (Ok (length s)) (Err (NoRoom (length s))) (Ok n) (λ f. let z : ◌≡◌ {A = ℕ} 0 1 = cc in omega arith) e in
        let m = wrote-eq (length s) q.1 in
        (m, omega (arith, leb-true (length s) room q.0))

    pub wrote-sheet : sup_of h count t date room ≡ Ok n → SupWritten h count t date room n
    unfolding sup_of dated_sup printed_sup lined_sup sheet_sup
    wrote-sheet e =
        let a = past-tally (tally_of h count t).outcome (dated_sup h count t date figures room) e in
        let b = cond-first (is_date date) (after_codes (first_long h count t) (printed_sup h date figures codes room)) (Err BadDate) (Ok n) (λ f. let z : ◌≡◌ {A = ℕ} 0 1 = cc in omega arith) a.1 in
        let c = past-codes (first_long h count t) (printed_sup h date figures codes room) b.1 in
        let d = cond-first (is_limited (exact_total h.kind figures)) (lined_sup h date figures codes room) (Err PastTotal) (Ok n) (λ f. let z : ◌≡◌ {A = ℕ} 0 1 = cc in omega arith) c.1 in
        let w = first_wide h.kind figures codes in
        let x = cond-first (eqb w 0) (stored_sup (sup_text h date figures codes) room) (Err (WideFigure w)) (Ok n) (λ f. let z : ◌≡◌ {A = ℕ} 0 1 = cc in omega arith) d.1 in
        let y = stored-fits (sup_text h date figures codes) x.1 in
        let none = eqb-true w 0 x.0 in
        record {
          tallied = a.0;
          dated = b.0;
          short = c.0;
          limited = d.0;
          narrow = none;
          size = sym y.0 ∙ written-length a.0 b.0 c.0 none;
          held = y.1;
        }

    -- ---- and back

    pub sheet-wrote : SupWritten h count t date room n → sup_of h count t date room ≡ Ok n
    unfolding sup_of dated_sup printed_sup lined_sup stored_sup sheet_sup
    sheet-wrote w =
        let l : length (sup_text h date figures codes) ≡ n = written-length w.tallied w.dated w.short w.narrow ∙ sym w.size in
        rw (w.tallied, w.dated, w.short, w.limited, w.narrow, l, le-leb n room w.held)
