-- The tail of a section's fields, record by record. Assumes nothing.
use mathlib.Core.Path.{◌≡◌, refl, sym, ◌∙◌, ap, subst}
use mathlib.Core.List.{List, [], ◌∷◌, ◌++◌, append_assoc, append-nil}
use mathlib.Core.Bool.{Bool, true, false, cond, not, ◌&&◌, ◌||◌}
use Prim.Native.Nat.{ℕ, ◌+◌, ◌-◌, ◌*◌, ◌≤◌}
use native.Mathlib.Omega.{arith}
use lib.ListN.{length, set, length-append, length-set}
use lib.Seq.{get_or-set_same, get_or-set_other, take_at}
use lib.Dec.{leb, eqb}
use lib.IntN.{ℤ, pos}
use borrow.Author.Tests.{leb-true, eqb-true, eqb-false, le-leb, eq-eqb, ne_eqb}
use Rattle.laws.specs.Lists.{all, holds}
use Rattle.laws.proofs.Choice.{cond-elim, false≢true, true≢false}
use Rattle.laws.proofs.ListLaws.{holds-here, holds-there}
use Rattle.std.specs.Prelude.{Some, None, Ok, Err}
use Rattle.record.specs.declared.Mode.{Mode}
use Rattle.record.specs.declared.Mode.TheVariants.{Exact}
use Rattle.record.specs.Record.{is_exact, plain}
use Rattle.record.specs.RecordView.{LineEnd}
use Rattle.number.specs.Words.{trimmed}
use Rattle.number.proofs.WordLaws.{trimmed-first, trimmed-last, trimmed-plain}
use Rattle.token.specs.Lex.{lex_of}
use Rattle.kinds.specs.Kinds.{row_width, next_of, fixed_vertices, unsaid, is_listed, want_at}
use Rattle.machine.specs.Machine.{Step, fresh_ring, vertices_of, fields_end, field_of}
use Rattle.machine.specs.declared.State.TheVariants.{Field}
use Rattle.kinds.proofs.KindLaws.{next-most}
use Rattle.sheet.specs.Tables.{Tables, cell_of, set_last, put}
use Rattle.made.specs.Made.{cell_at, count_at, nat_of, has_field, sum, four_at_least, are_counts, are_reals, are_closed, is_closed, ring_sizes, are_points}
use Rattle.layout.specs.Sheet.{line, field_text, fields_text, integers_text, reals_text}
use Rattle.layout.proofs.ScheduleLaws.{ahead, ahead_step, ahead-once, next_field, ahead-end, vertices-last, line-islands, bare-end, bare-kind}
use Rattle.layout.proofs.TokenSays.{field-ranged, field-spelt, text_says, line-spelt}
use Rattle.layout.proofs.Tails.{sizes_left, closing, PointsTail, IslandsTail, Lettered, Body, Lacking, FieldsTail, AtField, StepTail}

-- one of two numbers, or another
by_cases : {A : Type 0} (q p : ℕ) → (q ≡ p → A) → ((q ≡ p → ⊥) → A) → A
by_cases {A} q p f g = go (eqb q p) refl
  where
    go : (x : Bool) → eqb q p ≡ x → A
    go true e = f (eqb-true q p e)
    go false e = g (eqb-false q p e)

-- ---- what follows the fields is right

module _ (kind i v : ℕ) (now : Tables) (a : count_at now 10 ≡ i) (b : count_at now 11 ≡ v) (n : length now.points ≡ 2 * v) (f : are_reals now.points ≡ true) where
  points-right : ((after : List ℤ) → (not (eqb kind 1) || are_closed (ring_sizes v now.islands) (now.points ++ after)) ≡ true)
      → (after : List ℤ) → are_points kind v now.islands (now.points ++ after) ≡ true
  unfolding are_points
  points-right g after =
      rw (le-leb (2 * v) (length (now.points ++ after)) (omega (arith, n, length-append now.points after)), take_at now.points after (2 * v) n, f) (g after)

  body-make : length now.islands ≡ i → ((after : List ℕ) → are_counts kind i v (now.islands ++ after) ≡ true)
      → ((after : List ℤ) → (not (eqb kind 1) || are_closed (ring_sizes v now.islands) (now.points ++ after)) ≡ true) → Body kind now
  body-make m c g = record {
    islands = rw a m;
    points = rw b n;
    counts = λ after. rw (a, b) (c after);
    closes = λ after. rw b (points-right g after);
  }

  -- a border's
  border-body : eqb kind 1 ≡ true → 4 + 4 * i ≤ v → length now.islands ≡ i → all four_at_least now.islands ≡ true → sum now.islands + 4 ≤ v
      → ((after : List ℤ) → are_closed ((v - sum now.islands) ∷ now.islands) (now.points ++ after) ≡ true) → Body kind now
  unfolding are_counts ring_sizes
  border-body e h m four most g =
      body-make m
      (λ after. rw (
        e,
        le-leb (4 + 4 * i) v h,
        le-leb i (length (now.islands ++ after)) (omega (arith, m, length-append now.islands after)),
        take_at now.islands after i m,
        four,
        le-leb (sum now.islands + 4) v most,
      ))
      (λ after. rw e (g after))

  -- a line's, or that of a section with no points
  line-body : eqb kind 1 ≡ false → i ≡ 0 → now.islands ≡ [] → (not (has_field kind 11) || leb 2 v) ≡ true → Body kind now
  unfolding are_counts
  line-body e z m g = body-make (rw (m, z)) (λ after. rw e g) (λ after. rw e)

-- what holds of the section's end, by what follows
step_map : (mode : Mode) (part : Tables) (P Q : Tables → List ℕ → Type 0) (s : Step) → ((now : Tables) (cs : List ℕ) → P now cs → Q now cs) → StepTail mode part P s → StepTail mode part Q s
step_map mode part P Q (Ok (Some st)) f w = (w.0, λ now cs x. f now cs (w.1 now cs x))
step_map mode part P Q (Ok None) f w = tt
step_map mode part P Q (Err m) f w = tt

-- ---- a field's record

module _ (mode : Mode) (c e : List ℕ) (t : ℕ) (l : LineEnd mode e) (kind p i : ℕ) (part : Tables)
    (good : all plain c ≡ true) (short : length c ≤ 255) (says : lex_of mode (want_at p) c ≡ Ok t)
    (k : AtField kind p i part) (listed : p ≡ 2 → (not (is_exact mode) || is_listed kind t) ≡ true) where
  abbrev cell : ℤ
  cell = cell_of (want_at p) t

  abbrev part₁ : Tables
  part₁ = record { rows = set part.rows p cell; letters = part.letters ++ cond (eqb p 9) (trimmed c) []; islands = part.islands; points = part.points }

  put_is : put (Field kind p i) t c part ≡ part₁
  unfolding put set_last
  put_is =
      let z : length part.rows - row_width + p ≡ p = omega (arith, k.wide) in
      rw z

  abbrev next : ℕ
  next = next_of kind p

  cell-here : cell_at part₁ p ≡ cell
  cell-here = get_or-set_same part.rows p cell (pos 0) (omega (arith, k.wide, k.most))

  cell_other : (q : ℕ) → (q ≡ p → ⊥) → cell_at part₁ q ≡ cell_at part q
  cell_other q n = get_or-set_other part.rows p q cell (pos 0) n

  abbrev ps : List ℕ
  ps = ahead kind next

  once : holds ps p ≡ false
  once = ahead-once kind p k.low k.most k.field

  -- what the fields behind this one leave of it
  module _ (now : Tables) (cs : List ℕ) (w : FieldsTail mode kind ps part₁ now cs) where
    cell-now : cell_at now p ≡ cell
    cell-now = w.kept p once ∙ cell-here

    letters-now : p ≡ 9 → now.letters ≡ trimmed c
    letters-now e₉ =
        w.no_letters (subst (λ (q : ℕ). holds ps q ≡ false) e₉ once)
        ∙ rw (eq-eqb p 9 e₉, k.letters (rw (ahead_step kind p k.low k.most k.field) (holds-here ps p 9 (sym e₉))))

    lettered-now : p ≡ 9 → Lettered (count_at now 9) now.letters
    unfolding want_at
    lettered-now e₉ =
        let s = text_says mode c t (subst (λ (q : ℕ). lex_of mode (want_at q) c ≡ Ok t) e₉ says) in
        let n : cell_at now 9 ≡ pos t = subst (λ (q : ℕ). cell_at now q ≡ cell_of (want_at q) t) e₉ cell-now in
        rw (n, letters-now e₉) (record { counted = s.counted; good = trimmed-plain c good; first = trimmed-first c; last = trimmed-last c })

    coded_now : p ≡ 2 → (not (is_exact mode) || is_listed kind (count_at now 2)) ≡ true
    unfolding want_at
    coded_now e₂ =
        let n : cell_at now 2 ≡ pos t = subst (λ (q : ℕ). cell_at now q ≡ cell_of (want_at q) t) e₂ cell-now in
        rw n (listed e₂)

    fields-more : FieldsTail mode kind (p ∷ ps) part now (c ++ (e ++ cs))
    unfolding fields_text
    fields-more = record {
      wide = w.wide;
      kept = λ q h. by_cases q p (λ z. absurd (true≢false (sym (holds-here ps p q z) ∙ h))) (λ n. w.kept q (sym (holds-there ps p q n) ∙ h) ∙ cell_other q n);
      ranged = λ q h. by_cases q p (λ z. rw (z, cell-now) (field-ranged mode p c t short says)) (λ n. w.ranged q (sym (holds-there ps p q n) ∙ h));
      no_letters = λ h. by_cases 9 p (λ z. absurd (true≢false (sym (holds-here ps p 9 z) ∙ h)))
          (λ n. w.no_letters (sym (holds-there ps p 9 n) ∙ h) ∙ rw (ne_eqb p 9 (λ z. n (sym z))) (append-nil part.letters));
      lettered = λ h. by_cases 9 p (λ z. lettered-now (sym z)) (λ n. w.lettered (sym (holds-there ps p 9 n) ∙ h));
      coded = λ h. by_cases 2 p (λ z. coded_now (sym z)) (λ n. w.coded (sym (holds-there ps p 2 n) ∙ h));
      body = w.body;
      text = λ m o b.
          append_assoc (line (field_text o p (want_at p))) (fields_text o ps) (integers_text now.islands ++ reals_text now.points)
          ∙ line-spelt mode c (field_text o p (want_at p)) e (fields_text o ps ++ (integers_text now.islands ++ reals_text now.points)) cs m l
          (field-spelt mode p c t o m says (b.cells p k.most ∙ cell-now) (λ e₉. b.letters ∙ letters-now e₉)) (w.text m o b);
    }

  -- one more field before those that follow
  field-more : (now : Tables) (cs : List ℕ) → FieldsTail mode kind ps part₁ now cs → FieldsTail mode kind (ahead kind p) part now (c ++ (e ++ cs))
  field-more now cs w = rw (ahead_step kind p k.low k.most k.field) (fields-more now cs w)

  -- ---- where this field is the last

  abbrev Fielded : Tables → List ℕ → Type 0
  Fielded now cs = FieldsTail mode kind ps part₁ now cs

  fields-end : next ≡ 0 → (now : Tables) (cs : List ℕ) → now.rows ≡ part₁.rows → now.letters ≡ part₁.letters → (Lacking kind now → Body kind now)
      → (mode ≡ Exact → integers_text now.islands ++ reals_text now.points ≡ cs) → Fielded now cs
  unfolding holds fields_text
  fields-end z now cs f g b t = rw (ahead-end kind p k.low k.most k.field z) (record {
    wide = rw f (length-set part.rows p cell ∙ k.wide);
    kept = λ q h. rw f refl;
    ranged = λ q h. absurd (false≢true h);
    no_letters = λ _. g;
    lettered = λ h. absurd (false≢true h);
    coded = λ h. absurd (false≢true h);
    body = b;
    text = λ m o x. t m;
  })

  -- no points follow
  due-fields : next ≡ 0 → (p ≡ 11 → ⊥) → fixed_vertices kind ≡ 0 → (now : Tables) (cs : List ℕ) → (now ≡ part₁) × (cs ≡ []) → Fielded now cs
  unfolding are_reals integers_text reals_text unsaid
  due-fields z n f now cs w =
      let (h, j) = bare-end kind p k.low k.most k.field z n in
      let I : now.islands ≡ [] = ap (λ (o : Tables). o.islands) w.0 ∙ k.islands in
      let P : now.points ≡ [] = ap (λ (o : Tables). o.points) w.0 ∙ k.points in
      fields-end z now cs (ap (λ (o : Tables). o.rows) w.0) (ap (λ (o : Tables). o.letters) w.0)
      (λ zeros. line-body kind 0 0 now (ap nat_of (zeros 10 (omega arith) (omega arith) h)) (ap nat_of (zeros 11 (omega arith) (omega arith) j) ∙ f) (rw P) (rw P) (bare-kind kind j) refl I (rw j))
      (λ m. rw (I, P) (sym w.1))

  -- the points of one ring, or of a line, follow
  module _ (z : next ≡ 0) (n : ℕ) (closed : Bool) (now : Tables) (cs : List ℕ) (w : PointsTail mode (fresh_ring closed 0 n) [] part₁ now cs) where
    rows-now : now.rows ≡ part₁.rows
    rows-now = ap (λ (o : Tables). o.rows) w.is

    islands-now : now.islands ≡ []
    islands-now = ap (λ (o : Tables). o.islands) w.is ∙ k.islands

    points-now : now.points ≡ w.more
    points-now = ap (λ (o : Tables). o.points) w.is ∙ rw k.points

    none-behind : sizes_left (fresh_ring closed 0 n) part₁ ≡ []
    none-behind = rw k.islands

    long-now : length now.points ≡ 2 * n
    unfolding sum
    long-now = rw points-now (omega (arith, rw none-behind at w.long))

    one-fields : (Lacking kind now → Body kind now) → Fielded now cs
    unfolding integers_text
    one-fields b = fields-end z now cs rows-now (ap (λ (o : Tables). o.letters) w.is) b (λ m. rw (islands-now, points-now) (w.text m))

    reals-now : are_reals now.points ≡ true
    reals-now = rw points-now w.reals

  -- points that no record counts follow
  fixed-fields : next ≡ 0 → (p ≡ 11 → ⊥) → (now : Tables) (cs : List ℕ) → PointsTail mode (fresh_ring false 0 (fixed_vertices kind)) [] part₁ now cs → Fielded now cs
  unfolding unsaid
  fixed-fields z n now cs w =
      let (h, j) = bare-end kind p k.low k.most k.field z n in
      let v = fixed_vertices kind in
      one-fields z v false now cs w
      (λ zeros. line-body kind 0 v now (ap nat_of (zeros 10 (omega arith) (omega arith) h)) (ap nat_of (zeros 11 (omega arith) (omega arith) j))
      (long-now z v false now cs w) (reals-now z v false now cs w) (bare-kind kind j) refl (islands-now z v false now cs w) (rw j))

  module _ (v : p ≡ 11) where
    last : next ≡ 0
    last = vertices-last kind p k.low k.most k.field v

    islands-said : count_at part₁ 10 ≡ i
    islands-said = ap nat_of (cell_other 10 (λ z. omega arith)) ∙ k.count

    vertices-said : count_at part₁ 11 ≡ t
    unfolding want_at
    vertices-said = ap nat_of (subst (λ (q : ℕ). cell_at part₁ q ≡ cell_of (want_at q) t) v cell-here)

    counts-now : (closed : Bool) (now : Tables) (cs : List ℕ) → PointsTail mode (fresh_ring closed 0 t) [] part₁ now cs → count_at now 11 ≡ t
    counts-now closed now cs w = rw (rows-now last t closed now cs w) vertices-said

    -- a line's points follow
    line-fields : eqb kind 1 ≡ false → 2 ≤ t → (now : Tables) (cs : List ℕ) → PointsTail mode (fresh_ring false 0 t) [] part₁ now cs → Fielded now cs
    unfolding unsaid
    line-fields n h now cs w =
        one-fields last t false now cs w
        (λ zeros. line-body kind 0 t now (ap nat_of (zeros 10 (omega arith) (omega arith) (line-islands kind p k.low k.most k.field v n))) (counts-now false now cs w)
        (long-now last t false now cs w) (reals-now last t false now cs w) n refl (islands-now last t false now cs w) (either (has_field kind 11)))
      where
        either : (b : Bool) → (not b || leb 2 t) ≡ true
        either true = le-leb 2 t h
        either false = refl

    -- a border's with no islands
    ring-fields : eqb kind 1 ≡ true → 4 + 4 * i ≤ t → i ≡ 0 → (now : Tables) (cs : List ℕ) → PointsTail mode (fresh_ring true 0 t) [] part₁ now cs → Fielded now cs
    unfolding sum all closing are_closed is_closed
    ring-fields n h z now cs w =
        let I = islands-now last t true now cs w in
        let o : t - 0 ≡ t = omega arith in
        one-fields last t true now cs w
        (λ _. border-body kind i t now (rw (rows-now last t true now cs w) islands-said) (counts-now true now cs w) (long-now last t true now cs w) (reals-now last t true now cs w)
        n h (rw (I, z)) (rw I) (rw I (omega arith))
        (λ after. rw (I, points-now last t true now cs w, o) (rw (none-behind last t true now cs w) at (w.closes refl after))))

    -- a border's island counts, and its points
    islands-fields : eqb kind 1 ≡ true → 4 + 4 * i ≤ t → (now : Tables) (cs : List ℕ) → IslandsTail mode i t part₁ now cs → Fielded now cs
    islands-fields n h now cs w =
        let R : now.rows ≡ part₁.rows = ap (λ (o : Tables). o.rows) w.is in
        let I : now.islands ≡ w.counts = ap (λ (o : Tables). o.islands) w.is ∙ rw k.islands in
        let P : now.points ≡ w.more = ap (λ (o : Tables). o.points) w.is ∙ rw k.points in
        fields-end last now cs R (ap (λ (o : Tables). o.letters) w.is)
        (λ _. border-body kind i t now (rw R islands-said) (rw R vertices-said) (rw P (omega (arith, w.most, rw k.islands at w.long))) (rw P w.reals)
        n h (rw I w.counted) (rw I w.four) (rw I w.most) (λ after. rw (I, P) (rw k.islands at (w.closes after))))
        (λ m. rw (I, P) (w.text m))

  -- ---- where the field leads

  more-known : (next ≡ 0 → ⊥) → AtField kind next (cond (eqb p 10) t i) part₁
  unfolding want_at
  more-known n = record {
    low = k.low;
    most = next-most kind p;
    field = next_field kind p k.low k.most k.field n;
    wide = length-set part.rows p cell ∙ k.wide;
    islands = k.islands;
    points = k.points;
    count = by_cases 10 p
        (λ z. ap nat_of (subst (λ (q : ℕ). cell_at part₁ q ≡ cell_of (want_at q) t) (sym z) cell-here) ∙ rw (eq-eqb p 10 (sym z)))
        (λ m. ap nat_of (cell_other 10 m) ∙ k.count ∙ rw (ne_eqb p 10 (λ z. m (sym z))));
    letters = λ h. by_cases 9 p
        (λ z. absurd (true≢false (sym h ∙ subst (λ (q : ℕ). holds ps q ≡ false) (sym z) once)))
        (λ m. rw (ne_eqb p 9 (λ z. m (sym z)), k.letters (rw (ahead_step kind p k.low k.most k.field) (holds-there ps p 9 m ∙ h))));
  }

  four-none : all four_at_least part.islands ≡ true
  unfolding all
  four-none = rw k.islands

  abbrev leads : Step
  leads = cond (eqb p 11) (vertices_of kind i t) (cond (eqb next 0) (fields_end kind) (Ok (Some (Field kind next (cond (eqb p 10) t i)))))

  next-tail : StepTail mode part₁ Fielded leads
  unfolding vertices_of fields_end
  next-tail =
      let Q = StepTail mode part₁ Fielded in
      cond-elim Q (eqb p 11) _ _
      (λ v. let v₁ = eqb-true p 11 v in
      cond-elim Q (eqb kind 1) _ _
      (λ n. cond-elim Q (leb (4 + 4 * i) t) _ _
      (λ h. let h₁ = leb-true (4 + 4 * i) t h in
      cond-elim Q (eqb i 0) _ _
      (λ z. (record { some = omega arith; all_in = omega arith; four = four-none }, ring-fields v₁ n h₁ (eqb-true i 0 z)))
      (λ z. let z₁ = eqb-false i 0 z in (record { some = omega arith; all_in = rw k.islands (omega arith); four = four-none }, islands-fields v₁ n h₁)))
      (λ _. tt))
      (λ n. cond-elim Q (leb 2 t) _ _
      (λ h. let h₁ = leb-true 2 t h in (record { some = omega arith; all_in = omega arith; four = four-none }, line-fields v₁ n h₁))
      (λ _. tt)))
      (λ v. cond-elim Q (eqb next 0) _ _
      (λ z. let z₁ = eqb-true next 0 z in
      let v₁ = eqb-false p 11 v in
      cond-elim Q (eqb (fixed_vertices kind) 0) _ _
      (λ f. (tt, due-fields z₁ v₁ (eqb-true (fixed_vertices kind) 0 f)))
      (λ _. cond-elim Q (eqb kind 1) _ _
      (λ n. absurd (true≢false (sym n ∙ bare-kind kind (bare-end kind p k.low k.most k.field z₁ v₁).1)))
      (λ _. cond-elim Q (leb 2 (fixed_vertices kind)) _ _
      (λ h. let h₁ = leb-true 2 (fixed_vertices kind) h in (record { some = omega arith; all_in = omega arith; four = four-none }, fixed-fields z₁ v₁))
      (λ _. tt))))
      (λ z. (more-known (eqb-false next 0 z), λ now cs w. w)))

  abbrev Whole : Tables → List ℕ → Type 0
  Whole now cs = FieldsTail mode kind (ahead kind p) part now (c ++ (e ++ cs))

  whole-tail : StepTail mode (put (Field kind p i) t c part) Whole leads
  whole-tail = rw put_is (step_map mode part₁ Fielded Whole leads field-more next-tail)

-- a code that was not refused
listed_by : (p kind t : ℕ) (mode : Mode) → (eqb p 2 && is_exact mode && not (is_listed kind t)) ≡ false → p ≡ 2 → (not (is_exact mode) || is_listed kind t) ≡ true
listed_by p kind t mode e z = go (is_exact mode) (is_listed kind t) (rw (eq-eqb p 2 z) at e)
  where
    go : (a b : Bool) → (a && not b) ≡ false → (not a || b) ≡ true
    go false b e = refl
    go true true e = refl
    go true false e = absurd (true≢false e)

pub field-tail : (mode : Mode) (c e : List ℕ) (t : ℕ) → LineEnd mode e → (kind p i : ℕ) (part : Tables) → all plain c ≡ true → length c ≤ 255 → lex_of mode (want_at p) c ≡ Ok t
    → AtField kind p i part
    → StepTail mode (put (Field kind p i) t c part) (λ now cs. FieldsTail mode kind (ahead kind p) part now (c ++ (e ++ cs))) (field_of mode kind p i t)
unfolding field_of
field-tail mode c e t l kind p i part good short says k =
    cond-elim (StepTail mode (put (Field kind p i) t c part) (λ now cs. FieldsTail mode kind (ahead kind p) part now (c ++ (e ++ cs))))
    (eqb p 2 && is_exact mode && not (is_listed kind t)) _ _ (λ _. tt)
    (λ a. whole-tail mode c e t l kind p i part good short says k (listed_by p kind t mode a))
