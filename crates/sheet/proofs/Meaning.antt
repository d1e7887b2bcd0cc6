-- A meaning by its parts: the header, the records of the sections, the end. Assumes nothing.
use mathlib.Core.Path.{◌≡◌, refl, sym, ◌∙◌, ap}
use mathlib.Core.List.{List, [], ◌++◌}
use mathlib.Core.Bool.{Bool, true, false, cond}
use Prim.Native.Nat.{ℕ, ◌+◌, ◌≤◌, ◌<◌}
use native.Mathlib.Omega.{arith}
use lib.ListN.{length, take, drop, length-drop, take-append-drop}
use lib.Dec.{leb}
use borrow.Author.Tests.{leb-true, le-leb, lt-leb}
use Rattle.std.specs.Prelude.{Result, Ok, Err}
use Rattle.record.specs.declared.Mode.{Mode}
use Rattle.record.specs.declared.refusal.Refusal.{Refusal}
use Rattle.record.specs.Refusals.{file_most}
use Rattle.heading.specs.declared.Header.{Header}
use Rattle.header.specs.declared.Headed.{Headed}
use Rattle.header.specs.declared.Stopped.{Stopped}
use Rattle.header.specs.Header.{begins, headed}
use Rattle.header.proofs.HeadLaws.{head-local}
use Rattle.sheet.specs.Tables.{Tables, empty}
use Rattle.sheet.specs.Reading.{Sections, read, stop, walk_from, sheet, refused, under, beyond, sections_of, meant, meaning, reading, sections_at, eof_at}
use Rattle.machine.specs.declared.State.TheVariants.{Due}
use Rattle.sheet.proofs.Pass.{Pass, IsEnd, Accepts, walk-accepts, accepts-walk}

-- a file that is accepted, the length limit apart: where its sections begin, and where its EOF record stands
pub record File (mode : Mode) (bs : List ℕ) (h : Header) (o : Tables) : Type 0 where
  pub at : ℕ
  pub eof : ℕ
  pub head : headed mode bs ≡ begins h at
  pub walked : walk_from mode bs at ≡ read o eof

module _ (mode : Mode) (bs : List ℕ) (h : Header) (o : Tables) where
  pub meaning-file : meaning mode bs ≡ sheet h o → File mode bs h o
  unfolding meaning
  meaning-file q = by (headed mode bs) refl q
    where
      sections : (x : Headed) → headed mode bs ≡ Ok x → (s : Sections) → walk_from mode bs x.at ≡ s → under x.header s ≡ sheet h o → File mode bs h o
      sections x e (read o₁ eof) w q =
          let hh : x.header ≡ h = cc in
          let oo : o₁ ≡ o = cc in
          record { at = x.at; eof = eof; head = rw (← hh) e; walked = w ∙ ap (λ (y : Tables). read y eof) oo }
      sections x e (stop m k a) w q = absurd cc

      by : (x : Result Headed Stopped) → headed mode bs ≡ x → meant mode bs x ≡ sheet h o → File mode bs h o
      by (Ok x) e q = sections x e (walk_from mode bs x.at) refl q
      by (Err s) e q = absurd cc

  pub file-meaning : File mode bs h o → meaning mode bs ≡ sheet h o
  unfolding meaning
  file-meaning f = rw (f.head, f.walked)

  -- where the sections begin and where the EOF record stands
  pub file-at : (f : File mode bs h o) → sections_at mode bs ≡ f.at
  unfolding sections_at
  file-at f = rw f.head

  pub file-eof : (f : File mode bs h o) → eof_at mode bs ≡ f.eof
  unfolding eof_at sections_of
  file-eof f = rw (f.head, f.walked)

  -- a reading is a meaning within the limit
  pub reading-meaning : reading mode bs ≡ sheet h o → (length bs ≤ file_most) × (meaning mode bs ≡ sheet h o)
  unfolding reading
  reading-meaning q = go (leb (length bs) file_most) refl q
    where
      go : (x : Bool) → leb (length bs) file_most ≡ x → cond x (meaning mode bs) (refused Refusal.TooLong 0 0) ≡ sheet h o → (length bs ≤ file_most) × (meaning mode bs ≡ sheet h o)
      go true e q = (leb-true (length bs) file_most e, q)
      go false e q = absurd cc

  pub meaning-reading : length bs ≤ file_most → meaning mode bs ≡ sheet h o → reading mode bs ≡ sheet h o
  unfolding reading
  meaning-reading l q = rw (le-leb (length bs) file_most l) q

-- a meaning and what the sections answer
module _ (mode : Mode) (bs : List ℕ) where
  pub sections-read : (o : Tables) (eof : ℕ) → sections_of mode bs ≡ read o eof → (h : Header) × (meaning mode bs ≡ sheet h o)
  unfolding meaning sections_of
  sections-read o eof q = by (headed mode bs) q
    where
      by : (x : Result Headed Stopped) → beyond mode bs x ≡ read o eof → (h : Header) × (meant mode bs x ≡ sheet h o)
      by (Ok x) q = (x.header, ap (under x.header) q)
      by (Err s) q = absurd cc

  pub sections-refused : (m : Refusal) (k at : ℕ) → sections_of mode bs ≡ stop m k at → meaning mode bs ≡ refused m k at
  unfolding meaning sections_of
  sections-refused m k at q = by (headed mode bs) q
    where
      by : (x : Result Headed Stopped) → beyond mode bs x ≡ stop m k at → meant mode bs x ≡ refused m k at
      by (Ok x) q = ap (under x.header) q
      by (Err s) q = cc

  pub refused-sections : (m : Refusal) (k at : ℕ) → meaning mode bs ≡ refused m k at → sections_of mode bs ≡ stop m k at
  unfolding meaning sections_of
  refused-sections m k at q = by (headed mode bs) q
    where
      sections : (h : Header) (s : Sections) → under h s ≡ refused m k at → s ≡ stop m k at
      sections h (read o eof) q = absurd cc
      sections h (stop m' k' at') q = cc

      by : (x : Result Headed Stopped) → meant mode bs x ≡ refused m k at → beyond mode bs x ≡ stop m k at
      by (Ok x) q = sections x.header (walk_from mode bs x.at) q
      by (Err s) q = cc

-- refusal 1 comes before all
pub reading-long : (mode : Mode) (bs : List ℕ) → file_most < length bs → reading mode bs ≡ refused Refusal.TooLong 0 0
unfolding reading
reading-long mode bs h = rw (lt-leb (length bs) file_most h)

-- ---- by its bytes: head, records of the elements, end

pub record Parts (mode : Mode) (bs : List ℕ) (h : Header) (o : Tables) : Type 0 where
  pub head : List ℕ
  pub body : List ℕ
  pub rest : List ℕ
  pub split : bs ≡ head ++ (body ++ rest)
  pub begins : (z : List ℕ) → headed mode (head ++ z) ≡ begins h (length head)
  pub pass : Pass mode Due empty body Due o
  pub end : IsEnd mode rest

pub file-parts : (mode : Mode) (bs : List ℕ) (h : Header) (o : Tables) (f : File mode bs h o)
    → (p : Parts mode bs h o) × (length p.head ≡ f.at) × (length p.head + length p.body ≡ f.eof)
unfolding walk_from
file-parts mode bs h o f =
    let at = f.at in
    let within : at ≤ length bs = (head-local mode bs h at f.head []).0 in
    let n : length (take at bs) ≡ at = lib.Seq.length-take-le at bs within in
    let r = walk-accepts (length bs) mode Due empty o 4 at f.eof (drop at bs) f.walked in (
      record {
        head = take at bs;
        body = r.body;
        rest = r.rest;
        split = sym (take-append-drop at bs) ∙ ap (λ (x : List ℕ). take at bs ++ x) r.split;
        begins = λ z. rw n (head-local mode bs h at f.head z).1;
        pass = r.pass;
        end = r.end;
      },
      n,
      omega (arith, n, r.long),
    )

pub parts-file : (mode : Mode) (bs : List ℕ) (h : Header) (o : Tables) (p : Parts mode bs h o) → (f : File mode bs h o) × (f.eof ≡ length p.head + length p.body)
unfolding walk_from
parts-file mode bs h o p =
    let at = length p.head in
    let d : drop at bs ≡ p.body ++ p.rest = ap (drop at) p.split ∙ lib.Seq.drop-append_seam p.head (p.body ++ p.rest) in
    let acc : Accepts mode Due empty at (drop at bs) o (at + length p.body) = record { body = p.body; rest = p.rest; split = d; pass = p.pass; end = p.end; long = refl } in (
      record {
        at = at;
        eof = at + length p.body;
        head = ap (headed mode) p.split ∙ p.begins (p.body ++ p.rest);
        walked = accepts-walk (length bs) mode Due empty o 4 at (at + length p.body) (drop at bs) acc (omega (arith, length-drop at bs));
      },
      refl,
    )
