-- A row that was found: where it stands, that its tables hold it there, and that it is well made. Assumes nothing.
use Rattle.std.proofs.Common.{◌≡◌, ℕ, ◌<◌, Bool, true, false, cond, ltb, length, sym, refl, ◌∙◌, arith, ltb-true, Result, Ok, Err}
use Rattle.record.specs.declared.Mode.TheVariants.{Loose}
use Rattle.heading.specs.declared.Header.{Header}
use Rattle.heading.specs.Heading.{is_header}
use Rattle.sheet.specs.Tables.{Tables}
use Rattle.made.specs.declared.Flaw.{Flaw}
use Rattle.made.specs.declared.Flaw.TheVariants.{BadHeader}
use Rattle.made.specs.Made.{is_made, none_before, judge_rows, judge_of}
use Rattle.row.specs.declared.Stand.{Stand}
use Rattle.row.specs.declared.Unfound.{Unfound}
use Rattle.row.specs.declared.Unfound.TheVariants.{Missing}
use Rattle.row.specs.Walk.{stand_of, left_at, Stands}
use Rattle.row.specs.Seek.{sought_after, sought_of}
use Rattle.row.proofs.Walk.{walk-to, walk-left}

-- a sheet that is fine has rows that are
pub fine-rows : (h : Header) (count : ℕ) (t : Tables) → judge_of Loose h count t ≡ Ok tt → judge_rows Loose count none_before t ≡ Ok tt
unfolding judge_of
fine-rows h count t e = go (is_header h) e
  where
    go : (b : Bool) → cond b (judge_rows Loose count none_before t) (Err BadHeader) ≡ Ok tt → judge_rows Loose count none_before t ≡ Ok tt
    go true e = e
    go false e = absurd (let z : ◌≡◌ {A = ℕ} 0 1 = cc in omega arith)

pub record Stood (h : Header) (count : ℕ) (t : Tables) (k : ℕ) (d : Stand) : Type 0 where
  pub fine : judge_of Loose h count t ≡ Ok tt
  pub row : k < count
  pub is : d ≡ stand_of k t.rows
  pub stands : Stands (length t.rows) (length t.letters) (length t.islands) (length t.points) d
  pub made : is_made (left_at t d) ≡ true

module _ (h : Header) (count : ℕ) (t : Tables) (k : ℕ) (d : Stand) where
  stood-fine : judge_of Loose h count t ≡ Ok tt → k < count → d ≡ stand_of k t.rows → Stood h count t k d
  stood-fine f l q =
      let w = walk-to Loose t count (fine-rows h count t f) k (omega arith) in
      record { fine = f; row = l; is = q; stands = rw q w.stands; made = rw q (walk-left w l) }

  pub stood : (r : Result Stand Unfound) → r ≡ sought_of h count t k → r ≡ Ok d → Stood h count t k d
  unfolding sought_of
  stood r e f = go (judge_of Loose h count t) (ltb k count) refl refl (sym e ∙ f)
    where
      go : (v : Result Unit Flaw) (b : Bool) → judge_of Loose h count t ≡ v → ltb k count ≡ b → sought_after v count t k ≡ Ok d → Stood h count t k d
      go (Ok u) b p q g = on b q (rw q at g)
        where
          on : (b : Bool) → ltb k count ≡ b → cond b (Ok (stand_of k t.rows)) (Err Missing) ≡ Ok d → Stood h count t k d
          on true q g = stood-fine p (ltb-true k count q) (let z : d ≡ stand_of k t.rows = cc in z)
          on false q g = absurd (let z : ◌≡◌ {A = ℕ} 0 1 = cc in omega arith)
      go (Err w) b p q g = absurd (let z : ◌≡◌ {A = ℕ} 0 1 = cc in omega arith)
