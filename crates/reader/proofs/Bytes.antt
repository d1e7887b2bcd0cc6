-- What a file's tables hold is bounded by its bytes, so that tables large enough for every file of a length can be lent. Assumes nothing.
-- A row takes 28 bytes of the file at least, a letter one, an island count two, a point twelve.
use Rattle.std.specs.Prelude.{Option, Some, None, Result, Ok, Err}
use Rattle.record.specs.declared.refusal.Refusal.{Refusal}
use Rattle.record.specs.declared.refusal.Refusal.TheVariants as Refusal
use Rattle.machine.specs.Machine.{Step}
use mathlib.Core.Path.{◌≡◌, refl, sym, ap, subst}
use mathlib.Core.Bool.{Bool, true, false, cond, not, ◌&&◌, ◌||◌}
use mathlib.Core.List.{List, [], ◌∷◌, ◌++◌}
use Prim.Native.Nat.{ℕ, zero, suc, ◌+◌, ◌-◌, ◌*◌, ◌/◌, ◌≤◌}
use native.Mathlib.Omega.{arith}
use lib.ListN.{length, get_or, take, drop, length-append, length-set, length-drop}
use lib.Dec.{leb, eqb}
use lib.IntN.{ℤ}
use borrow.Author.Tests.{leb-true, leb-false, eqb-true, eqb-false}
use Rattle.laws.specs.Lists.{run, below}
use Rattle.laws.proofs.Choice.{and_left, and_right, cond-elim}
use Rattle.laws.proofs.ListLaws.{run-le, below_at}
use Rattle.record.specs.declared.Mode.{Mode}
use Rattle.record.specs.Record.{is_exact}
use Rattle.number.specs.declared.Word.{Word}
use Rattle.number.specs.Words.{blank, unled, trimmed, word_of}
use Rattle.number.specs.Number.{digit, ended, integer_is, integer_at, integer_of, sign_of, signs, signed, thousandths, is_token, is_neat, real_is, real_at, real_signed, real_of}
use Rattle.number.proofs.WordLaws.{trimmed-le, word-is}
use Rattle.token.specs.declared.Want.{Want}
use Rattle.token.specs.declared.Want.TheVariants.{Key, Text, Int, Real}
use Rattle.token.specs.Lex.{unlift, keywords, key_text, of_key, of_text, of_decimal, lex_of}
use Rattle.token.proofs.TokenLaws.{key-read, key-most, key_most}
use Rattle.kinds.specs.Kinds.{row_width, want_at, schedule, next_in, next_of, fixed, fixed_vertices, is_listed}
use Rattle.machine.specs.Machine.{want_of, fresh_ring, vertices_of, fields_end, field_of, is_shut, ring_step, vertex_of, key_step, step_of}
use Rattle.machine.specs.declared.Ring.{Ring}
use Rattle.machine.specs.declared.State.{State}
use Rattle.machine.specs.declared.State.TheVariants.{Due, Field, Island, X, Y}
use Rattle.heading.specs.declared.Header.{Header}
use Rattle.sheet.specs.Tables.{Tables, starts_of, new_row, cell_of, set_last, put}
use Rattle.sheet.specs.Reading.{sheet, reading}
use Rattle.sheet.proofs.Pass.{Pass, done, more, end-some}
use Rattle.sheet.proofs.Meaning.{Parts, meaning-file, reading-meaning, file-parts}
use Rattle.reader.specs.declared.Needs.{Needs}
use Rattle.reader.specs.Read.{needs_of}
use Rattle.reader.proofs.Answering.{pass-sized}

-- ---- the least content of a record, by what it is read as

-- letters are never empty
text-some : (mode : Mode) (c : List ℕ) (t : ℕ) → lex_of mode Text c ≡ Ok t → 1 ≤ length c
unfolding lex_of
text-some mode c t q = go (word_of mode c) refl q
  where
    go : (w : Option Word) → word_of mode c ≡ w → of_text w ≡ Ok t → 1 ≤ length c
    go (Some w) e q =
        cond-elim (λ (x : Result ℕ Refusal). x ≡ Ok t → 1 ≤ length c) (eqb w.len 0) (Err Refusal.Letters) (Ok w.len)
        (λ _ d. absurd (let z : ◌≡◌ {A = ℕ} 0 1 = cc in omega arith))
        (λ f _. some (eqb-false w.len 0 f) (word-is mode c w.start w.len e).0) q
      where
        some : (w.len ≡ 0 → ⊥) → w.start + w.len ≤ length c → 1 ≤ length c
        some n h = omega arith
    go None e q = absurd (let z : ◌≡◌ {A = ℕ} 0 1 = cc in omega arith)

-- an integer has a digit
int-some : (mode : Mode) (c : List ℕ) (t : ℕ) → lex_of mode Int c ≡ Ok t → 1 ≤ length c
unfolding lex_of integer_of integer_at integer_is unled run
int-some mode [] t q = absurd (let z : ◌≡◌ {A = ℕ} 0 1 = cc in omega arith)
int-some mode (b ∷ c) t q = omega arith

-- a real has a digit, a point, and three digits
token-long : (sign : ℕ) (u : List ℕ) → is_token sign u (run digit u) ≡ true → 5 ≤ length u
unfolding is_token
token-long sign u e =
    let n = run digit u in
    let t₁ = leb 1 n in
    let t₂ = t₁ && leb n 8 in
    let t₃ = t₂ && eqb (get_or u n 0) 46 in
    let t₄ = t₃ && eqb (run digit (drop (n + 1) u)) 3 in
    let e₄ = and_left t₄ (leb (signs sign + n + 4) 12) e in
    let e₁ = and_left t₁ (leb n 8) (and_left t₂ (eqb (get_or u n 0) 46) (and_left t₃ (eqb (run digit (drop (n + 1) u)) 3) e₄)) in
    let three = eqb-true (run digit (drop (n + 1) u)) 3 (and_right t₃ (eqb (run digit (drop (n + 1) u)) 3) e₄) in
    omega (arith, leb-true 1 n e₁, three, run-le digit (drop (n + 1) u), length-drop (n + 1) u)

real-long : (mode : Mode) (c : List ℕ) (t : ℕ) → lex_of mode Real c ≡ Ok t → 5 ≤ length c
unfolding lex_of real_of real_signed real_at real_is unled
real-long mode c t q =
    let s = unled c in
    let u = drop (signs (sign_of s)) s in
    let token = is_token (sign_of s) u (run digit u) in
    let end = ended mode (drop (run digit u + 4) u) in
    let row = is-token (token && end) (not (is_exact mode) || is_neat (length c) (sign_of s) u (run digit u)) (signed (sign_of s) (thousandths u (run digit u))) q in
    omega (arith, token-long (sign_of s) u (and_left token end row), length-drop (signs (sign_of s)) s, length-drop (run blank c) c)
  where
    is-token : (a b : Bool) (z : ℤ) → of_decimal (cond (a && b) (Some z) None) ≡ Ok t → a ≡ true
    is-token true b z q = refl
    is-token false b y q = absurd (let z : ◌≡◌ {A = ℕ} 0 1 = cc in omega arith)

-- the bytes that a record of a row takes at least, with its line end
abbrev least_of : Want → ℕ
least_of Key = 0
least_of Text = 2
least_of Int = 2
least_of Real = 6

least-long : (mode : Mode) (w : Want) (c : List ℕ) (t : ℕ) → lex_of mode w c ≡ Ok t → least_of w ≤ length c + 1
least-long mode Key c t q = omega arith
least-long mode Text c t q = omega (arith, text-some mode c t q)
least-long mode Int c t q = omega (arith, int-some mode c t q)
least-long mode Real c t q = omega (arith, real-long mode c t q)

-- ---- the least bytes of a row: 28, as a TESTO of one letter or a SIMBOLO has

-- what a row takes at least from its field at p on (k fields at most), the two vertices of a line and those that no record counts with it
unfoldable owed : ℕ → ℕ → ℕ → ℕ
owed zero kind p = 0
owed (suc k) kind p =
    least_of (want_at p) + cond (eqb p 11) (cond (eqb kind 1) 0 24) (cond (eqb (next_of kind p) 0) (12 * fixed_vertices kind) (owed k kind (next_of kind p)))

cond-le : (b : Bool) (x y z : ℕ) → y ≤ z → cond b x y ≤ cond b x z
cond-le true x y z h = omega arith
cond-le false x y z h = h

owed_more : (k kind p : ℕ) → owed k kind p ≤ owed (suc k) kind p
unfolding owed
owed_more zero kind p = omega arith
owed_more (suc k) kind p =
    let n = next_of kind p in
    let h = cond-le (eqb p 11) (cond (eqb kind 1) 0 24) _ _ (cond-le (eqb n 0) (12 * fixed_vertices kind) _ _ (owed_more k kind n)) in
    omega (arith, h)

-- what a row takes at least from a state on
abbrev owing : State → ℕ
owing Due = 0
owing (Field kind p i) = owed 9 kind p
owing (Island l s r) = 0
owing (X r) = 12 * r.left
owing (Y r x) = 12 * r.left - 6

-- a step that goes on still owes w
abbrev Pays : ℕ → Step → Type 0
Pays w (Ok (Some st)) = w ≤ owing st
Pays w (Err m) = Unit {0}
Pays w (Ok None) = Unit {0}

vertices-pays : (kind i n : ℕ) → Pays (cond (eqb kind 1) 0 24) (vertices_of kind i n)
unfolding vertices_of
vertices-pays kind i n = go (eqb kind 1)
  where
    go : (b : Bool) → Pays (cond b 0 24) (cond b
        (cond (leb (4 + 4 * i) n) (cond (eqb i 0) (Ok (Some (X (fresh_ring true 0 n)))) (Ok (Some (Island i n i)))) (Err Refusal.Count))
        (cond (leb 2 n) (Ok (Some (X (fresh_ring false 0 n)))) (Err Refusal.Count)))
    go true = cond-elim (Pays 0) (leb (4 + 4 * i) n) _ _ (λ _. cond-elim (Pays 0) (eqb i 0) _ _ (λ _. omega arith) (λ _. omega arith)) (λ _. tt)
    go false = cond-elim (Pays 24) (leb 2 n) _ _ (λ e. omega (arith, leb-true 2 n e)) (λ _. tt)

end-pays : (kind : ℕ) → Pays (12 * fixed_vertices kind) (fields_end kind)
unfolding fields_end vertices_of
end-pays kind =
    let n = fixed_vertices kind in
    let Q = Pays (12 * n) in
    cond-elim Q (eqb n 0) _ _ (λ e. omega (arith, eqb-true n 0 e))
    (λ _. cond-elim Q (eqb kind 1) _ _ (λ _. cond-elim Q (leb (4 + 4 * 0) n) _ _ (λ _. omega arith) (λ _. tt)) (λ _. cond-elim Q (leb 2 n) _ _ (λ _. omega arith) (λ _. tt)))

field-pays : (mode : Mode) (kind p i n : ℕ)
    → Pays (cond (eqb p 11) (cond (eqb kind 1) 0 24) (cond (eqb (next_of kind p) 0) (12 * fixed_vertices kind) (owed 8 kind (next_of kind p)))) (field_of mode kind p i n)
unfolding field_of
field-pays mode kind p i n = cond-elim (Pays _) (eqb p 2 && is_exact mode && not (is_listed kind n)) _ _ (λ _. tt) (λ _. at (eqb p 11))
  where
    on : (b : Bool) → Pays (cond b (12 * fixed_vertices kind) (owed 8 kind (next_of kind p))) (cond b (fields_end kind) (Ok (Some (Field kind (next_of kind p) (cond (eqb p 10) n i)))))
    on true = end-pays kind
    on false = owed_more 8 kind (next_of kind p)

    at : (b : Bool) → Pays (cond b (cond (eqb kind 1) 0 24) (cond (eqb (next_of kind p) 0) (12 * fixed_vertices kind) (owed 8 kind (next_of kind p))))
        (cond b (vertices_of kind i n) (cond (eqb (next_of kind p) 0) (fields_end kind) (Ok (Some (Field kind (next_of kind p) (cond (eqb p 10) n i))))))
    at true = vertices-pays kind i n
    at false = on (eqb (next_of kind p) 0)

ring-pays : (r : Ring) (fx fy x y next : ℕ) → Pays (12 * r.left - 12) (ring_step r fx fy x y next)
unfolding ring_step
ring-pays r fx fy x y next =
    let Q = Pays (12 * r.left - 12) in
    cond-elim Q (leb r.left 1) _ _
    (λ e. cond-elim Q (is_shut r.closed fx fy x y) _ _
    (λ _. cond-elim Q (eqb r.rings 0) _ _ (λ _. omega (arith, leb-true r.left 1 e)) (λ _. omega (arith, leb-true r.left 1 e)))
    (λ _. tt))
    (λ e. omega (arith, leb-false r.left 1 e))

-- a keyword that opens a row, and the row's fields
abbrev is_long : ℕ → Bool
is_long t = eqb (next_of (t / 2) 0) 0 || leb 27 (length (key_text t) + owed 9 (t / 2) (next_of (t / 2) 0))

all-long : below (key_most + 1) is_long ≡ true
unfolding below key_text keywords owed next_of next_in schedule fixed_vertices fixed want_at
all-long = refl

-- a step that goes on opens a row by the keyword t
abbrev Opens : ℕ → Step → Type 0
Opens t (Ok (Some st)) = (eqb (next_of (t / 2) 0) 0 ≡ false) × (owed 9 (t / 2) (next_of (t / 2) 0) ≤ owing st)
Opens t (Err m) = Unit {0}
Opens t (Ok None) = Unit {0}

key-opens : (t : ℕ) → Opens t (key_step t)
unfolding key_step
key-opens t =
    cond-elim (Opens t) (eqb t 0) _ _ (λ _. tt)
    (λ _. cond-elim (Opens t) (eqb (next_of (t / 2) 0) 0) _ _ (λ _. tt) (λ e. (e, omega arith)))

key-long : (mode : Mode) (c : List ℕ) (t : ℕ) → lex_of mode Key c ≡ Ok t → eqb (next_of (t / 2) 0) 0 ≡ false → 27 ≤ length c + owed 9 (t / 2) (next_of (t / 2) 0)
unfolding lex_of
key-long mode c t q n = go (word_of mode c) refl q
  where
    long : (w : List ℕ) → key_text t ≡ w → (x : Bool) → x ≡ false → (x || leb 27 (length (key_text t) + owed 9 (t / 2) (next_of (t / 2) 0))) ≡ true
        → 27 ≤ length w + owed 9 (t / 2) (next_of (t / 2) 0)
    long w e true f h = absurd (let z : ◌≡◌ {A = ℕ} 0 1 = cc in omega arith)
    long w e false f h = subst (λ (x : List ℕ). 27 ≤ length x + owed 9 (t / 2) (next_of (t / 2) 0)) e (leb-true 27 _ h)

    go : (w : Option Word) → word_of mode c ≡ w → of_key c w ≡ Ok t → 27 ≤ length c + owed 9 (t / 2) (next_of (t / 2) 0)
    go (Some x) e q =
        let v = word-is mode c x.start x.len e in
        let w = take x.len (drop x.start c) in
        let k : 27 ≤ length w + owed 9 (t / 2) (next_of (t / 2) 0) =
        long w (sym (key-read w t q).1) (eqb (next_of (t / 2) 0) 0) n (below_at (key_most + 1) is_long t all-long (omega (arith, key-most w t q))) in
        omega (arith, k, ap length v.1, trimmed-le c)
    go None e q = absurd (let z : ◌≡◌ {A = ℕ} 0 1 = cc in omega arith)

-- a row is 15 numbers, so 15 times its bytes are 28 for each
put-rows : (mode : Mode) (st st' : State) (next t : ℕ) (c : List ℕ) (o : Tables) (n : ℕ) → lex_of mode (want_of st) c ≡ Ok t → step_of mode st t next ≡ Ok (Some st')
    → length c + 1 ≤ n → 28 * length (put st t c o).rows + row_width * owing st ≤ 28 * length o.rows + row_width * n + row_width * owing st'
unfolding put want_of step_of set_last vertex_of owed
put-rows mode Due st' next t c o n q g h =
    let k = subst (Opens t) g (key-opens t) in
    omega (arith, k.1, key-long mode c t q k.0, length-append o.rows (new_row t (starts_of o)))
put-rows mode (Field kind p i) st' next t c o n q g h =
    let k = subst (Pays _) g (field-pays mode kind p i t) in
    omega (arith, k, least-long mode (want_at p) c t q, length-set o.rows (length o.rows - row_width + p) (cell_of (want_at p) t))
put-rows mode (Island l s r) st' next t c o n q g h = omega arith
put-rows mode (X r) st' next t c o n q g h =
    let k : 12 * r.left - 6 ≤ owing st' = subst (Pays (12 * r.left - 6)) g (omega arith) in
    omega (arith, k, real-long mode c t q)
put-rows mode (Y r x) st' next t c o n q g h =
    let k = subst (Pays _) g (ring-pays r _ _ x t next) in
    omega (arith, k, real-long mode c t q)

pass-rows : {mode : Mode} {st st₁ : State} {o o₁ : Tables} {body : List ℕ} → Pass mode st o body st₁ o₁
    → 28 * length o₁.rows + row_width * owing st ≤ 28 * length o.rows + row_width * length body + row_width * owing st₁
pass-rows done = omega arith
pass-rows {mode} {st} {o = o} (more {st₁ = stm} {t = t} {c = c} {e = e} {bs = bs} g p) =
    omega (
      arith,
      put-rows mode st stm _ t c o (length c + length e) g.says g.steps (omega (arith, end-some mode e g.end)),
      pass-rows p,
      length-append c (e ++ bs),
      length-append e bs,
    )

-- ---- letters, island counts and points

-- the bytes that they take at least
abbrev weight : Tables → ℕ
weight o = length o.letters + 2 * length o.islands + 6 * length o.points

put-weight : (mode : Mode) (st : State) (t : ℕ) (c : List ℕ) (o : Tables) (n : ℕ) → lex_of mode (want_of st) c ≡ Ok t
    → length c + 1 ≤ n → weight (put st t c o) ≤ weight o + n
unfolding put want_of
put-weight mode Due t c o n q h = omega arith
put-weight mode (Field kind p i) t c o n q h = omega (arith, few (eqb p 9), length-append o.letters (cond (eqb p 9) (trimmed c) []))
  where
    few : (b : Bool) → length (cond b (trimmed c) []) ≤ length c
    few true = trimmed-le c
    few false = omega arith
put-weight mode (Island l s r) t c o n q h = omega (arith, int-some mode c t q, length-append o.islands (t ∷ []))
put-weight mode (X r) t c o n q h = omega (arith, real-long mode c t q, length-append o.points (unlift t ∷ []))
put-weight mode (Y r x) t c o n q h = omega (arith, real-long mode c t q, length-append o.points (unlift t ∷ []))

pass-weight : {mode : Mode} {st st₁ : State} {o o₁ : Tables} {body : List ℕ} → Pass mode st o body st₁ o₁ → weight o₁ ≤ weight o + length body
pass-weight done = omega arith
pass-weight {mode} {st} {o = o} (more {t = t} {c = c} {e = e} {bs = bs} g p) =
    omega (
      arith,
      put-weight mode st t c o (length c + length e) g.says (omega (arith, end-some mode e g.end)),
      pass-weight p,
      length-append c (e ++ bs),
      length-append e bs,
    )

-- ---- the tables of a file

module _ (mode : Mode) (bs : List ℕ) (h : Header) (o : Tables) (q : reading mode bs ≡ sheet h o) where
  parts : Parts mode bs h o
  parts = (file-parts mode bs h o (meaning-file mode bs h o (reading-meaning mode bs h o q).1)).0

  -- **the tables of a file are bounded by its bytes**
  pub tables-most : (28 * length o.rows ≤ row_width * length bs) × (length o.letters + 2 * length o.islands + 6 * length o.points ≤ length bs)
  tables-most =
      let a = ap length parts.split in
      let b = length-append parts.head (parts.body ++ parts.rest) in
      let c = length-append parts.body parts.rest in
      (omega (arith, pass-rows parts.pass, a, b, c), omega (arith, pass-weight parts.pass, a, b, c))

  -- rows have 15 numbers and points two: nothing is left over
  pub tables-whole : (length o.rows ≡ row_width * (needs_of o).rows) × (length o.points ≡ 2 * (needs_of o).points)
  tables-whole =
      let none : Needs = record { rows = 0; letters = 0; islands = 0; points = 0 } in
      let (b, s) = pass-sized parts.pass none (record { rows = refl; letters = refl; islands = refl; points = refl }) in
      (omega (arith, s.rows), omega (arith, s.points))
