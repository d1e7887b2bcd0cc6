-- Two maps in one file: a second map's elements put just before the EOF record of a first are read as the first's
-- elements followed by the second's. Assumes nothing.
use mathlib.Core.Path.{◌≡◌, sym, ◌∙◌, ap, ap₂, subst}
use mathlib.Core.List.{List, ◌++◌, append_assoc}
use Prim.Native.Nat.{ℕ, ◌-◌, ◌%◌, ◌≤◌}
use native.Mathlib.Omega.{arith}
use lib.ListN.{length, take, drop, length-append}
use lib.Seq.{take_at, drop_at, take-append_seam}
use Rattle.record.specs.declared.Mode.{Mode}
use Rattle.record.specs.Refusals.{file_most}
use Rattle.heading.specs.declared.Header.{Header}
use Rattle.sheet.specs.Tables.{Tables, ring_after, ◌followed◌}
use Rattle.sheet.specs.Reading.{sheet, meaning, reading, sections_at, eof_at, section_bytes, joined}
use Rattle.machine.specs.declared.State.{State}
use Rattle.machine.specs.declared.State.TheVariants.{Due}
use Rattle.sheet.proofs.Okay.{Okay, go-okay, ring-join, put-join}
use Rattle.sheet.proofs.StartLaws.{followed-empty}
use Rattle.sheet.proofs.Whole.{Whole, go-whole, pass-whole, empty-whole}
use Rattle.sheet.proofs.Pass.{Goes, Pass, done, more}
use Rattle.sheet.proofs.Meaning.{File, meaning-file, file-meaning, file-at, file-eof, file-parts, parts-file, reading-meaning, meaning-reading}

-- what was read before does not matter
pub pass-join : {mode : Mode} {st st' : State} {o o' : Tables} {bs : List ℕ} (a : Tables) → length a.points % 2 ≡ 0 → Okay st o → Whole st o
    → Pass mode st o bs st' o' → Pass mode st (a followed o) bs st' (a followed o')
pass-join a q h w done = done
pass-join {mode} {st} {st'} {o} {o'} a q h w (more {st₁ = st₁} {t = t} {c = c} {e = e} {bs = bs} g p) =
    more {t = t} {c = c} {e = e} (subst (λ (n : ℕ). Goes mode st n c e t st₁) (sym (ring-join st a o h)) g)
    (subst (λ (x : Tables). Pass mode st₁ x bs st' (a followed o')) (sym (put-join st t c a o q h w.rows))
    (pass-join a q (go-okay mode st st₁ t (ring_after st o) c o h g.steps) (go-whole mode st st₁ t (ring_after st o) c o w g.steps) p))

-- one after the other
pub pass-append : {mode : Mode} {st st₁ st₂ : State} {o o₁ o₂ : Tables} {xs bs : List ℕ} → Pass mode st o xs st₁ o₁ → Pass mode st₁ o₁ bs st₂ o₂ → Pass mode st o (xs ++ bs) st₂ o₂
pass-append done q = q
pass-append {mode} {st} {st₂ = st₂} {o} {o₂ = o₂} {bs = z} (more {c = c} {e = e} {bs = bs} g p) q =
    let assoc : c ++ (e ++ (bs ++ z)) ≡ (c ++ (e ++ bs)) ++ z = simp append_assoc in
    subst (λ (x : List ℕ). Pass mode st o x st₂ o₂) assoc (more g (pass-append p q))

-- the joined file, by the parts of the two
joined-parts : (mode : Mode) (a b : List ℕ) (h h' : Header) (o o' : Tables) (f : File mode a h o) (g : File mode b h' o')
    → joined mode a b ≡ (file-parts mode a h o f).0.head ++ (((file-parts mode a h o f).0.body ++ (file-parts mode b h' o' g).0.body) ++ (file-parts mode a h o f).0.rest)
unfolding joined section_bytes
joined-parts mode a b h h' o o' f g =
    let (p, n, m) = file-parts mode a h o f in
    let (q, k, l) = file-parts mode b h' o' g in
    let front = p.head ++ p.body in
    let long : length front ≡ f.eof = omega (arith, length-append p.head p.body, m) in
    let a-is : a ≡ front ++ p.rest = p.split ∙ sym (append_assoc p.head p.body p.rest) in
    let t : take (eof_at mode a) a ≡ front = rw (file-eof mode a h o f) (ap (take f.eof) a-is ∙ take_at front p.rest f.eof long) in
    let d : drop (eof_at mode a) a ≡ p.rest = rw (file-eof mode a h o f) (ap (drop f.eof) a-is ∙ drop_at front p.rest f.eof long) in
    let size : g.eof - g.at ≡ length q.body = omega (arith, k, l) in
    let s : take (eof_at mode b - sections_at mode b) (drop (sections_at mode b) b) ≡ q.body =
    rw (file-eof mode b h' o' g, file-at mode b h' o' g)
    (ap₂ take size (ap (drop g.at) q.split ∙ drop_at q.head (q.body ++ q.rest) g.at k) ∙ take-append_seam q.body q.rest) in
    rw (t, d, s) (simp append_assoc)

-- **joining**, the length limit apart. (That the two header values are equal is not even needed: the joined file has the first's.)
pub meaning-joined : (mode : Mode) (a b : List ℕ) (h h' : Header) (o o' : Tables) → meaning mode a ≡ sheet h o → meaning mode b ≡ sheet h' o'
    → meaning mode (joined mode a b) ≡ sheet h (o followed o')
meaning-joined mode a b h h' o o' e e' =
    let f = meaning-file mode a h o e in
    let g = meaning-file mode b h' o' e' in
    let p = (file-parts mode a h o f).0 in
    let q = (file-parts mode b h' o' g).0 in
    file-meaning mode (joined mode a b) h (o followed o')
    (parts-file mode (joined mode a b) h (o followed o') (record {
      head = p.head;
      body = p.body ++ q.body;
      rest = p.rest;
      split = joined-parts mode a b h h' o o' f g;
      begins = p.begins;
      pass = pass-append p.pass (subst (λ (x : Tables). Pass mode Due x q.body Due (o followed o')) (followed-empty o)
          (pass-join o (pass-whole empty-whole p.pass).points tt empty-whole q.pass));
      end = p.end;
    })).0

-- **joining**: for two files accepted in one mode, the file that has the second's sections just before the first's EOF record,
-- if it keeps the length limit, is read as the first's elements followed by the second's
pub joining : (mode : Mode) (a b : List ℕ) (h h' : Header) (o o' : Tables) → reading mode a ≡ sheet h o → reading mode b ≡ sheet h' o'
    → length (joined mode a b) ≤ file_most → reading mode (joined mode a b) ≡ sheet h (o followed o')
joining mode a b h h' o o' e e' l =
    meaning-reading mode (joined mode a b) h (o followed o') l
    (meaning-joined mode a b h h' o o' (reading-meaning mode a h o e).1 (reading-meaning mode b h' o' e').1)
