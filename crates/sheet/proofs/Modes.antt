-- Three modes, one meaning: what one mode accepts, a wider one accepts, with the same header and tables. Assumes nothing.
use mathlib.Core.Path.{◌≡◌, refl, sym, ◌∙◌, subst}
use mathlib.Core.List.{List}
use mathlib.Core.Bool.{Bool, true, false, cond, not, ◌&&◌}
use Prim.Native.Nat.{ℕ}
use native.Mathlib.Omega.{arith}
use lib.ListN.{length, take, drop}
use lib.Dec.{eqb}
use Rattle.std.specs.Prelude.{Some, Ok, Err}
use Rattle.laws.proofs.Choice.{true≢false, false≢true}
use Rattle.record.specs.declared.Mode.{Mode}
use Rattle.record.specs.declared.Mode.TheVariants.{Loose, Exact, Former}
use Rattle.record.specs.declared.refusal.Refusal.TheVariants as Refusal
use Rattle.record.specs.Record.{is_exact, widens}
use Rattle.record.proofs.RecordLaws.{still-loose, end-widens, line-widens}
use Rattle.heading.specs.declared.Header.{Header}
use Rattle.header.proofs.HeadLaws.{head-widens}
use Rattle.kinds.specs.Kinds.{next_of, is_listed}
use Rattle.token.proofs.TokenLaws.{lex-widens}
use Rattle.machine.specs.Machine.{want_of, vertices_of, fields_end, field_of, step_of, one_of}
use Rattle.sheet.specs.Tables.{Tables, empty}
use Rattle.sheet.specs.Reading.{walk_from, sheet, meaning, reading}
use Rattle.token.specs.declared.Want.TheVariants.{Key}
use Rattle.machine.specs.declared.State.{State}
use Rattle.machine.specs.declared.State.TheVariants.{Due, Field, Island, X, Y}
use Rattle.sheet.proofs.Pass.{Pass, done, more, Ended, OneView, one-view, TailOk, IsEnd, Accepts, walk-accepts, accepts-walk}
use Rattle.sheet.proofs.Meaning.{meaning-file, file-meaning, reading-meaning, meaning-reading}

module _ (from to : Mode) (wide : widens from to ≡ true) where
  -- a step that is no refusal is the same in a wider mode, which lists every code that the first lists
  pub step-widens : (st st' : State) (t next : ℕ) → step_of from st t next ≡ Ok (Some st') → step_of to st t next ≡ Ok (Some st')
  unfolding step_of field_of
  step-widens Due st' t next q = q
  step-widens (Field kind p i) st' t next q = go (is_exact from) refl (is_exact to) refl (eqb p 2) (is_listed kind t) q
    where
      go : (f : Bool) → is_exact from ≡ f → (g : Bool) → is_exact to ≡ g → (x y : Bool)
          → cond (x && f && not y) (Err Refusal.Code) (cond (eqb p 11) (vertices_of kind i t) (cond (eqb (next_of kind p) 0) (fields_end kind) (Ok (Some (Field kind (next_of kind p) (cond (eqb p 10) t i)))))) ≡ Ok (Some st')
          → cond (x && g && not y) (Err Refusal.Code) (cond (eqb p 11) (vertices_of kind i t) (cond (eqb (next_of kind p) 0) (fields_end kind) (Ok (Some (Field kind (next_of kind p) (cond (eqb p 10) t i)))))) ≡ Ok (Some st')
      go true ef true eg x y q = q
      go true ef false eg true true q = q
      go true ef false eg true false q = absurd cc
      go true ef false eg false y q = q
      go false ef true eg x y q = absurd (true≢false (sym eg ∙ still-loose from to wide ef))
      go false ef false eg x y q = q
  step-widens (Island l s r) st' t next q = q
  step-widens (X r) st' t next q = q
  step-widens (Y r x) st' t next q = q

  pub pass-widens : {st st' : State} {o o' : Tables} {bs : List ℕ} → Pass from st o bs st' o' → Pass to st o bs st' o'
  pass-widens done = done
  pass-widens (more g p) =
      more (record { good = g.good; most = g.most; end = end-widens from to wide _ g.end; says = lex-widens from to wide _ _ _ g.says; steps = step-widens _ _ _ _ g.steps }) (pass-widens p)

tail-widens : (from to : Mode) → widens from to ≡ true → (rest : List ℕ) → TailOk from rest → TailOk to rest
tail-widens Loose Loose w rest h = tt
tail-widens Loose Exact w rest h = absurd (false≢true w)
tail-widens Loose Former w rest h = tt
tail-widens Exact Loose w rest h = tt
tail-widens Exact Exact w rest h = h
tail-widens Exact Former w rest h = tt
tail-widens Former Loose w rest h = tt
tail-widens Former Exact w rest h = absurd (false≢true w)
tail-widens Former Former w rest h = tt

module _ (from to : Mode) (wide : widens from to ≡ true) where
  file-ends-widens : (z : List ℕ) → IsEnd from z → IsEnd to z
  unfolding one_of step_of want_of
  file-ends-widens z e =
      let v : Ended from Due 0 z e.width = subst (OneView from Due 0 z) e.ends (one-view from Due 0 z) in
      record {
        width = e.width;
        ends = simp (line-widens from to wide true z v.len e.width v.found, lex-widens from to wide Key (take v.len z) v.t v.says, v.steps);
        ok = tail-widens from to wide (drop e.width z) e.ok;
      }

  -- **exact within loose within former**, the length limit apart
  pub meaning-widens : (bs : List ℕ) (h : Header) (o : Tables) → meaning from bs ≡ sheet h o → meaning to bs ≡ sheet h o
  unfolding walk_from
  meaning-widens bs h o q =
      let f = meaning-file from bs h o q in
      let r = walk-accepts (length bs) from Due empty o 4 f.at f.eof (drop f.at bs) f.walked in
      let l : Accepts to Due empty f.at (drop f.at bs) o f.eof = record { body = r.body; rest = r.rest; split = r.split; pass = pass-widens from to wide r.pass; end = file-ends-widens r.rest r.end; long = r.long } in
      file-meaning to bs h o (record {
        at = f.at;
        eof = f.eof;
        head = head-widens from to wide bs h f.at f.head;
        walked = accepts-walk (length bs) to Due empty o 4 f.at f.eof (drop f.at bs) l (omega (arith, lib.ListN.length-drop f.at bs));
      })

  -- **exact within loose within former**: a file that one mode accepts is accepted by a wider one with the same header and tables
  pub reading-widens : (bs : List ℕ) (h : Header) (o : Tables) → reading from bs ≡ sheet h o → reading to bs ≡ sheet h o
  reading-widens bs h o q = let m = reading-meaning from bs h o q in meaning-reading to bs h o m.0 (meaning-widens bs h o m.1)
