-- The theorems on records: what a found record is by its bytes, what makes one, and how the modes relate. Assumes nothing.
use Prim.Native.Nat.{ℕ, ◌+◌, ◌-◌, ◌≤◌, ◌<◌}
use mathlib.Core.Path.{◌≡◌, refl, sym, ◌∙◌, ap}
use mathlib.Core.List.{List, [], ◌∷◌, ◌++◌}
use mathlib.Core.Bool.{Bool, true, false, cond, not, ◌&&◌, ◌||◌}
use native.Mathlib.Omega.{arith}
use lib.ListN.{length, get_or, take, drop, length-append, length-take, length-drop, take-append-drop, get_or-eq_default}
use lib.Seq.{length-take-le, get_or-take, get_or-append_seam, get_or-append-add}
use lib.Dec.{leb, ltb}
use borrow.Author.Tests.{le-leb, lt-leb, eqb-true, leb-true, ltb-true, ltb-false, not-true}
use Rattle.std.specs.Prelude.{Result, Ok, Err}
use Rattle.laws.specs.Lists.{run, all, same}
use Rattle.laws.proofs.Choice.{and_left, and_right, and-false, cond-elim, false≢true, true≢false}
use Rattle.laws.proofs.ListLaws.{left, left-none, run_past, same-is}
use Rattle.record.specs.Refusals.{file_most, record_most}
use Rattle.record.specs.declared.refusal.Refusal.{Refusal}
use Rattle.record.specs.declared.Line.{Line}
use Rattle.record.specs.declared.Found.{Found}
use Rattle.record.specs.declared.Mode.{Mode}
use Rattle.record.specs.declared.Mode.TheVariants.{Loose, Exact, Former}
use Rattle.record.specs.Record.{is_exact, widens, plain, not_lf, word_eof, ends_cr, content_is, line_is, got, found, line_of, placed, record_at}
use Rattle.record.specs.Scan.{crlf_at}
use Rattle.record.specs.RecordView.{LineEnd, crlf, lf, Ending, line_ended, bare, IsLine, IsRecord, Lies}
use Rattle.record.proofs.RecordCases.{LF-at, no-LF, to-CR, to-bare, at-LF, at-CRLF, crlf-yes}

end-some : (mode : Mode) (e : List ℕ) → LineEnd mode e → 0 < length e
end-some mode e (crlf q) = rw q (omega arith)
end-some mode e (lf m q) = rw q (omega arith)

-- a line that ends in a CR
CR-at : (bs : List ℕ) (r : ℕ) → r < length bs → ends_cr (take r bs) ≡ true → (0 < r) × (get_or bs (r - 1) 0 ≡ 13)
unfolding ends_cr
CR-at bs r h e =
    let l : length (take r bs) ≡ r = length-take-le r bs (omega arith) in
    let z : get_or (take r bs) (r - 1) 0 ≡ 13 = eqb-true (get_or (take r bs) (r - 1) 0) 13 (rw l at e) in
    let k : 0 < r = some z in
    (k, sym (get_or-take r bs (r - 1) 0 (omega arith)) ∙ z)
  where
    some : get_or (take r bs) (r - 1) 0 ≡ 13 → 0 < r
    some z = go (ltb 0 r) refl
      where
        go : (x : Bool) → ltb 0 r ≡ x → 0 < r
        go true t = ltb-true 0 r t
        go false t = absurd (omega (arith, get_or-eq_default (take r bs) 0 {n = r - 1} (omega (arith, length-take r bs, ltb-false 0 r t))))

-- ---- a found record by its bytes

module _ (mode : Mode) (due : Bool) (bs : List ℕ) where
  abbrev View : Result Line Refusal → Type 0
  View (Ok line) = IsLine mode due bs line.len line.width
  View (Err refusal) = Unit {0}

  view-content : (c : List ℕ) (n width : ℕ) → length c ≡ n → (n ≤ record_most → all plain c ≡ true → IsLine mode due bs n width) → View (content_is c width)
  unfolding content_is
  view-content c n width l ok =
      rw l (cond-elim View (leb n record_most) _ _
      (λ t. cond-elim View (all plain c) _ _ (λ p. ok (leb-true n record_most t) p) (λ _. tt)) (λ _. tt))

  -- content and a line end
  view-end : (n : ℕ) (e : List ℕ) → n ≤ length bs → drop n bs ≡ e ++ drop (n + length e) bs → LineEnd mode e → n ≤ record_most → all plain (take n bs) ≡ true
      → IsLine mode due bs n (n + length e)
  view-end n e h d k m p =
      let l : length (take n bs) ≡ n = length-take-le n bs h in
      let z = ap length d in
      let within : n + length e ≤ length bs = omega (arith, end-some mode e k, simp (length-append, length-drop) at z) in
      record {
        counted = l;
        most = m;
        all_plain = p;
        some = omega (arith, end-some mode e k);
        past = omega arith;
        within = within;
        ending = line_ended e k (sym (take-append-drop n bs) ∙ ap (λ (t : List ℕ). take n bs ++ t) d) refl;
      }

  -- the LF stands at `r`, and a CR before it
  view-CRLF : (r : ℕ) → r ≡ run not_lf bs → r < length bs → 0 < r → get_or bs (r - 1) 0 ≡ 13 → View (content_is (take (r - 1) bs) (r + 1))
  view-CRLF r q h k cr =
      let w : r + 1 ≡ r - 1 + 2 = omega arith in
      let up : r - 1 + 1 ≡ r = omega arith in
      let two : drop (r - 1) bs ≡ 13 ∷ 10 ∷ drop (r - 1 + 2) bs =
      left bs (r - 1) 0 (omega arith) ∙ rw (up, ← w, cr, left bs r 0 h, LF-at bs r q h) in
      rw w (view-content (take (r - 1) bs) (r - 1) (r - 1 + 2) (length-take-le (r - 1) bs (omega arith))
      (view-end (r - 1) (13 ∷ 10 ∷ []) (omega arith) two (crlf refl)))

  view-LF : (r : ℕ) → r ≡ run not_lf bs → r < length bs → is_exact mode ≡ false → View (content_is (take r bs) (r + 1))
  view-LF r q h m =
      let one : drop r bs ≡ 10 ∷ drop (r + 1) bs = left bs r 0 h ∙ rw (LF-at bs r q h) in
      view-content (take r bs) r (r + 1) (length-take-le r bs (omega arith)) (view-end r (10 ∷ []) (omega arith) one (lf m refl))

  view-line : (r : ℕ) → r ≡ run not_lf bs → r < length bs → View (line_of mode due bs)
  view-line r q h = go (ends_cr (take r bs)) refl
    where
      go : (x : Bool) → ends_cr (take r bs) ≡ x → View (line_of mode due bs)
      go true e = let z = CR-at bs r h e in rw (to-CR mode due bs r q h z.0 z.1) (view-CRLF r q h z.0 z.1)
      go false e = rw (to-bare mode due bs r q h e) (cond-elim View (not (is_exact mode)) _ _ (λ t. view-LF r q h (not-true (is_exact mode) t)) (λ _. tt))

  view-EOF : (not (is_exact mode) && due && same bs word_eof) ≡ true → IsLine mode due bs 3 3
  unfolding all
  view-EOF t =
      let lo = and_left (not (is_exact mode) && due) (same bs word_eof) t in
      let eof : bs ≡ word_eof = same-is bs word_eof (and_right (not (is_exact mode) && due) (same bs word_eof) t) in
      record {
        counted = rw eof;
        most = omega arith;
        all_plain = rw eof;
        some = omega arith;
        past = omega arith;
        within = rw eof (omega arith);
        ending = bare (not-true (is_exact mode) (and_left (not (is_exact mode)) due lo)) (and_right (not (is_exact mode)) due lo) eof refl refl;
      }

  view : View (line_of mode due bs)
  view = go (ltb (run not_lf bs) (length bs)) refl
    where
      go : (x : Bool) → ltb (run not_lf bs) (length bs) ≡ x → View (line_of mode due bs)
      go true t = view-line (run not_lf bs) refl (ltb-true (run not_lf bs) (length bs) t)
      go false t = rw (no-LF mode due bs (run not_lf bs) refl (ltb-false (run not_lf bs) (length bs) t))
          (cond-elim View (not (is_exact mode) && due && same bs word_eof) _ _ view-EOF (λ _. tt))

-- a record that is found has a content, a line end and a rest, or is the loose `EOF`
pub line_view : (mode : Mode) (due : Bool) (bs : List ℕ) (len width : ℕ) → line_of mode due bs ≡ got len width → IsLine mode due bs len width
line_view mode due bs len width e = rw e at (view mode due bs)

-- ---- what makes a record

-- plain content of at most 255 bytes and a line end are a record, whatever follows
pub line-make : (mode : Mode) (due : Bool) (c e rest : List ℕ) → all plain c ≡ true → length c ≤ record_most → LineEnd mode e
    → line_of mode due (c ++ (e ++ rest)) ≡ got (length c) (length c + length e)
unfolding run
line-make mode due c e rest p h (crlf q) =
    let bs = c ++ 13 ∷ 10 ∷ rest in
    let n : length c ≡ run plain bs = omega (arith, run_past plain c (13 ∷ 10 ∷ rest) p) in
    let k : crlf_at bs (length c) ≡ true = sym (crlf-yes bs (length c) (get_or-append_seam c 13 (10 ∷ rest) 0) (get_or-append-add c (13 ∷ 10 ∷ rest) 1 0)) in
    rw q (at-CRLF bs (length c) n mode due k ∙ rw (le-leb (length c) record_most h))
line-make mode due c e rest p h (lf m q) =
    let bs = c ++ 10 ∷ rest in
    let n : length c ≡ run plain bs = omega (arith, run_past plain c (10 ∷ rest) p) in
    let l : length c < length bs = omega (arith, length-append c (10 ∷ rest)) in
    rw q (at-LF bs (length c) n mode due l (get_or-append_seam c 10 rest 0) ∙ rw (m, le-leb (length c) record_most h))

-- in a mode that is not exact, where a keyword is due, `EOF` alone is a record
pub eof-make : (mode : Mode) → is_exact mode ≡ false → line_of mode true word_eof ≡ got 3 3
unfolding line_of run same
eof-make mode m = rw m

-- ---- the modes, and whether a keyword is due

-- a mode that is not exact widens to none that is
pub still-loose : (from to : Mode) → widens from to ≡ true → is_exact from ≡ false → is_exact to ≡ false
still-loose Loose Loose w e = refl
still-loose Loose Exact w e = absurd (false≢true w)
still-loose Loose Former w e = refl
still-loose Exact to w e = absurd (false≢true (sym e))
still-loose Former Loose w e = refl
still-loose Former Exact w e = absurd (false≢true w)
still-loose Former Former w e = refl

-- loose mode is the least of those that are not exact
pub loose-widens : (mode : Mode) → is_exact mode ≡ false → widens Loose mode ≡ true
loose-widens Loose e = refl
loose-widens Exact e = absurd (true≢false e)
loose-widens Former e = refl

-- and the former reading is the widest
pub former-widest : (mode : Mode) → widens mode Former ≡ true
former-widest Loose = refl
former-widest Exact = refl
former-widest Former = refl

-- what exact mode alone asks is not asked where the mode is wider
pub rule-widens : (from to : Mode) → widens from to ≡ true → (x : Bool) → (not (is_exact from) || x) ≡ true → (not (is_exact to) || x) ≡ true
rule-widens from to wide x e = go (is_exact from) refl (is_exact to) refl e
  where
    go : (f : Bool) → is_exact from ≡ f → (t : Bool) → is_exact to ≡ t → (not f || x) ≡ true → (not t || x) ≡ true
    go true p true q h = h
    go true p false q h = refl
    go false p true q h = absurd (true≢false (sym q ∙ still-loose from to wide p))
    go false p false q h = refl

-- two modes that are both exact, or both not, find the same
pub line-alike : (mode mode' : Mode) (due : Bool) (bs : List ℕ) → is_exact mode ≡ is_exact mode' → line_of mode due bs ≡ line_of mode' due bs
unfolding line_of line_is
line-alike mode mode' due bs e = rw e

module _ (from to : Mode) (wide : widens from to ≡ true) where
  pub end-widens : (e : List ℕ) → LineEnd from e → LineEnd to e
  end-widens e (crlf q) = crlf q
  end-widens e (lf m q) = lf (still-loose from to wide m) q

  -- what one mode finds, a wider one finds
  pub line-widens : (due : Bool) (bs : List ℕ) (l w : ℕ) → line_of from due bs ≡ got l w → line_of to due bs ≡ got l w
  line-widens due bs l w h = let v = line_view from due bs l w h in go v v.ending
    where
      go : IsLine from due bs l w → Ending from due bs l w → line_of to due bs ≡ got l w
      go v (line_ended e k d r) =
          ap (line_of to due) d
          ∙ line-make to due (take l bs) e (drop w bs) v.all_plain (omega (arith, v.counted, v.most)) (end-widens e k)
          ∙ rw (v.counted, r)
      go v (bare m d q l₁ w₁) = rw (d, q, l₁, w₁) (eof-make to (still-loose from to wide m))

-- what is not exactly `EOF` is the same whether a keyword is due or not
pub due-matters-for-EOF-alone : (mode : Mode) (due due' : Bool) (bs : List ℕ) → (bs ≡ word_eof → ⊥) → line_of mode due bs ≡ line_of mode due' bs
unfolding line_of
due-matters-for-EOF-alone mode due due' bs n = rw (no (same bs word_eof) refl, and-false (not (is_exact mode) && due), and-false (not (is_exact mode) && due'))
  where
    no : (x : Bool) → same bs word_eof ≡ x → same bs word_eof ≡ false
    no true e = absurd (n (same-is bs word_eof e))
    no false e = e

-- ---- records of a file

-- no byte is no record
pub line-none : (mode : Mode) (due : Bool) → line_of mode due [] ≡ Err Refusal.Cut
unfolding line_of run same
line-none Loose true = refl
line-none Loose false = refl
line-none Exact due = refl
line-none Former true = refl
line-none Former false = refl

module _ (s : List ℕ) (at : ℕ) (mode : Mode) (due : Bool) where
  -- a file that is too long is always refused 1
  pub record-long : file_most < length s → record_at s at mode due ≡ Err Refusal.TooLong
  unfolding record_at
  record-long h = rw (lt-leb (length s) file_most h)

  -- in another file it is the record at the front of the bytes from the place on
  pub record-line : length s ≤ file_most → record_at s at mode due ≡ placed at (line_of mode due (drop at s))
  unfolding record_at
  record-line h = rw (le-leb (length s) file_most h)

  -- and at or past the end of that it is 2
  pub record-end : length s ≤ file_most → length s ≤ at → record_at s at mode due ≡ Err Refusal.Cut
  record-end h k = record-line h ∙ rw (left-none s at k, line-none mode due)

module _ (s : List ℕ) (at : ℕ) (mode : Mode) (due : Bool) (start len next : ℕ) (e : record_at s at mode due ≡ found start len next) where
  -- a found record is the one at the front of the bytes from its place on
  pub record-view : IsRecord s at mode due start len next
  unfolding record_at
  record-view = go (leb (length s) file_most) refl (line_of mode due (drop at s)) refl e
    where
      go : (x : Bool) → leb (length s) file_most ≡ x → (l : Result Line Refusal) → line_of mode due (drop at s) ≡ l → cond x (placed at l) (Err Refusal.TooLong) ≡ found start len next
          → IsRecord s at mode due start len next
      go true t (Ok line) q z =
          let same : ◌≡◌ {A = Found} (record { start = at; len = line.len; next = at + line.width }) (record { start = start; len = len; next = next }) = cc in
          record {
            small = leb-true (length s) file_most t;
            here = sym (ap (λ (x : Found). x.start) same);
            width = line.width;
            line = q ∙ ap (λ n. got n line.width) (ap (λ (x : Found). x.len) same);
            after = sym (ap (λ (x : Found). x.next) same);
          }
      go true t (Err refusal) q z = absurd (let y : ◌≡◌ {A = ℕ} 0 1 = cc in omega arith)
      go false t l q z = absurd (let y : ◌≡◌ {A = ℕ} 0 1 = cc in omega arith)

  -- it lies inside the file, and the next place is past it
  pub record-lies : Lies s at start len next
  record-lies =
      let r = record-view in
      let v = line_view mode due (drop at s) len r.width r.line in
      let l = length-drop at s in
      record { here = r.here; most = v.most; past = omega arith; on = omega arith; within = omega arith }

-- what one mode finds in a file, a wider one finds
pub record-widens : (from to : Mode) → widens from to ≡ true → (s : List ℕ) (at : ℕ) (due : Bool) (start len next : ℕ) → record_at s at from due ≡ found start len next
    → record_at s at to due ≡ found start len next
record-widens from to wide s at due start len next e =
    let r = record-view s at from due start len next e in
    record-line s at to due r.small ∙ ap (placed at) (line-widens from to wide due (drop at s) len r.width r.line) ∙ cc (r.here, r.after)
