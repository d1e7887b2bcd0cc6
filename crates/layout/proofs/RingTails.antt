-- The tail of a section's rings and island counts, record by record. Assumes nothing.
use mathlib.Core.Path.{◌≡◌, refl, sym, ◌∙◌, ap}
use mathlib.Core.List.{List, [], ◌∷◌, ◌++◌, append_assoc, append-nil}
use mathlib.Core.Bool.{Bool, true, false, cond, ◌&&◌}
use Prim.Native.Nat.{ℕ, suc, ◌+◌, ◌-◌, ◌*◌, ◌≤◌, ◌<◌}
use native.Mathlib.Omega.{arith}
use lib.ListN.{length, get_or, drop, length-append}
use lib.Seq.{append_snoc, drop-length}
use lib.Dec.{leb, eqb}
use lib.IntN.{ℤ}
use borrow.Author.Tests.{leb-true, leb-false, eqb-true, eqb-false}
use Rattle.laws.specs.Lists.{all}
use Rattle.laws.proofs.Choice.{and_left, and_right, and_both, cond-elim}
use Rattle.laws.proofs.ListLaws.{left, all-each, all_append}
use Rattle.laws.proofs.Bits.{eq_z-yes}
use Rattle.record.specs.declared.Mode.{Mode}
use Rattle.record.specs.declared.Mode.TheVariants.{Exact}
use Rattle.record.specs.RecordView.{LineEnd}
use Rattle.number.specs.Number.{is_real}
use Rattle.spelling.specs.Spelling.{integer_text, real_text}
use Rattle.token.specs.Lex.{unlift}
use Rattle.machine.specs.Machine.{fresh_ring, island_of, is_shut, ring_step, vertex_of}
use Rattle.machine.specs.declared.Ring.{Ring}
use Rattle.machine.specs.declared.State.TheVariants.{X}
use Rattle.sheet.specs.Tables.{Tables, put}
use Rattle.made.specs.Made.{sum, four_at_least, are_reals, is_closed, are_closed}
use Rattle.layout.specs.Sheet.{line, integers_text, reals_text}
use Rattle.layout.proofs.TokenSays.{SaysInt, SaysReal, line-spelt}
use Rattle.layout.proofs.Tails.{sizes_left, closing, PointsTail, IslandsTail, AtIsland, AtRing, StepTail}

-- ---- an x

-- one more number before those to come
reals-more : (z : ℤ) (s : List ℤ) → is_real z ≡ true → are_reals s ≡ true → are_reals (z ∷ s) ≡ true
unfolding are_reals
reals-more z s e f = and_both (is_real z) (are_reals s) e f

reals-line : (mode : Mode) (t : ℕ) (s : List ℤ) (c e cs : List ℕ) → mode ≡ Exact → LineEnd mode e → SaysReal mode c t → reals_text s ≡ cs
    → reals_text (unlift t ∷ s) ≡ c ++ (e ++ cs)
unfolding reals_text
reals-line mode t s c e cs m l q f = line-spelt mode c (real_text (unlift t)) e (reals_text s) cs m l (q.spelt m) f

module _ (mode : Mode) (c e : List ℕ) (t : ℕ) (l : LineEnd mode e) where
  pub x-tail : (r : Ring) (part now : Tables) (cs : List ℕ) → SaysReal mode c t → PointsTail mode r (unlift t ∷ []) (put (X r) t c part) now cs
      → PointsTail mode r [] part now (c ++ (e ++ cs))
  unfolding put
  x-tail r part now cs q p = record {
    more = unlift t ∷ p.more;
    is = p.is ∙ ap (λ (z : List ℤ). record { rows = part.rows; letters = part.letters; islands = part.islands; points = z }) (append_snoc part.points (unlift t) p.more);
    long = p.long;
    reals = reals-more (unlift t) p.more q.within p.reals;
    closes = p.closes;
    text = λ m. reals-line mode t p.more c e cs m l q (p.text m);
  }

-- ---- a y: the ring goes on, or ends

-- the first of a ring, as it is kept
first-kept : (fresh : Bool) (x fx : ℕ) → cond fresh (unlift x) (unlift fx) ≡ unlift (cond fresh x fx)
first-kept true x fx = refl
first-kept false x fx = refl

shut-sides : (fx fy x y : ℕ) → is_shut true fx fy x y ≡ true → (x ≡ fx) × (y ≡ fy)
unfolding is_shut
shut-sides fx fy x y e = (eqb-true x fx (and_left (eqb x fx) (eqb y fy) e), eqb-true y fy (and_right (eqb x fx) (eqb y fy) e))

module _ (fresh : Bool) (left fx fy : ℕ) (ms : List ℕ) (x y : ℕ) (s : List ℤ) where
  abbrev fx' : ℕ
  fx' = cond fresh x fx

  abbrev fy' : ℕ
  fy' = cond fresh y fy

  close-last : left ≡ 1 → is_shut true fx' fy' x y ≡ true → are_closed ms s ≡ true → closing fresh left fx fy ms (unlift x ∷ unlift y ∷ s) ≡ true
  unfolding closing
  close-last e sh f =
      let (a, b) = shut-sides fx' fy' x y sh in
      rw (e, first-kept fresh x fx, first-kept fresh y fy, ← a, ← b, eq_z-yes (unlift x) (unlift x) refl, eq_z-yes (unlift y) (unlift y) refl) f

  close-on : 2 ≤ left → closing false (left - 1) fx' fy' ms s ≡ true → closing fresh left fx fy ms (unlift x ∷ unlift y ∷ s) ≡ true
  unfolding closing
  close-on h f =
      let a : 2 * (left - 1) ≡ suc (suc (2 * (left - 1 - 1))) = omega arith in
      let b : 2 * (left - 1) + 1 ≡ suc (suc (2 * (left - 1 - 1) + 1)) = omega arith in
      let d : 2 * left ≡ suc (suc (2 * (left - 1))) = omega arith in
      rw (b, a, d, first-kept fresh x fx, first-kept fresh y fy) f

-- the sizes behind a ring, where one follows it
sizes-next : (I : List ℕ) (n : ℕ) → 1 ≤ n → n ≤ length I → drop (length I - n) I ≡ get_or I (length I - n) 0 ∷ drop (length I - (n - 1)) I
sizes-next I n h k =
    let z : length I - n + 1 ≡ length I - (n - 1) = omega arith in
    left I (length I - n) 0 (omega arith) ∙ ap (λ (j : ℕ). get_or I (length I - n) 0 ∷ drop j I) z

sizes-none : (I : List ℕ) → drop (length I - 0) I ≡ []
sizes-none I = let z : length I - 0 ≡ length I = omega arith in rw z (drop-length I)

module _ (mode : Mode) (c e : List ℕ) (x y next : ℕ) (l : LineEnd mode e) (r : Ring) (part : Tables) (k : AtRing r part) (q : SaysReal mode c y)
    (nx : next ≡ get_or part.islands (length part.islands - r.rings) 0) where
  abbrev fx₁ : ℕ
  fx₁ = cond r.fresh x r.fx

  abbrev fy₁ : ℕ
  fy₁ = cond r.fresh y r.fy

  abbrev part₁ : Tables
  part₁ = record { rows = part.rows; letters = part.letters; islands = part.islands; points = part.points ++ unlift y ∷ [] }

  abbrev Now : Tables → List ℕ → Type 0
  Now now cs = PointsTail mode r (unlift x ∷ []) part now (c ++ (e ++ cs))

  -- the points that follow this y, and what they make of the ring
  y-more : (s : List ℤ) (now : Tables) (cs : List ℕ) → now ≡ record { rows = part.rows; letters = part.letters; islands = part.islands; points = part.points ++ unlift y ∷ [] ++ s }
      → length s + 2 ≡ 2 * (r.left + sum (sizes_left r part)) → are_reals s ≡ true
      → (r.closed ≡ true → (after : List ℤ) → closing r.fresh r.left r.fx r.fy (sizes_left r part) (unlift x ∷ unlift y ∷ (s ++ after)) ≡ true)
      → (mode ≡ Exact → reals_text s ≡ cs) → Now now cs
  y-more s now cs i n f g t = record {
    more = unlift y ∷ s;
    is = i ∙ ap (λ (z : List ℤ). record { rows = part.rows; letters = part.letters; islands = part.islands; points = z }) (append_snoc part.points (unlift y) s);
    long = omega (arith, n);
    reals = reals-more (unlift y) s q.within f;
    closes = g;
    text = λ m. reals-line mode y s c e cs m l q (t m);
  }

  y-due : r.left ≤ 1 → r.rings ≡ 0 → is_shut r.closed fx₁ fy₁ x y ≡ true → (now : Tables) (cs : List ℕ) → (now ≡ part₁) × (cs ≡ []) → Now now cs
  unfolding sum are_closed reals_text are_reals
  y-due h z sh now cs w =
      let ms : sizes_left r part ≡ [] = rw z (sizes-none part.islands) in
      y-more [] now cs (w.0 ∙ ap (λ (p : List ℤ). record { rows = part.rows; letters = part.letters; islands = part.islands; points = p }) (sym (append-nil (part.points ++ unlift y ∷ []))))
      (rw ms (omega (arith, k.some))) refl
      (λ t after. close-last r.fresh r.left r.fx r.fy (sizes_left r part) x y after (omega (arith, k.some)) (rw t at sh) (rw ms))
      (λ _. sym w.1)

  y-ring : r.left ≤ 1 → (r.rings ≡ 0 → ⊥) → is_shut r.closed fx₁ fy₁ x y ≡ true → (now : Tables) (cs : List ℕ) → PointsTail mode (fresh_ring r.closed (r.rings - 1) next) [] part₁ now cs → Now now cs
  unfolding sum are_closed is_closed closing
  y-ring h z sh now cs w =
      let ms : sizes_left r part ≡ next ∷ sizes_left (fresh_ring r.closed (r.rings - 1) next) part₁ = rw nx (sizes-next part.islands r.rings (omega arith) k.all_in) in
      y-more w.more now cs w.is (rw ms (omega (arith, w.long, k.some))) w.reals
      (λ t after. close-last r.fresh r.left r.fx r.fy (sizes_left r part) x y (w.more ++ after) (omega (arith, k.some)) (rw t at sh) (rw ms (w.closes t after)))
      w.text

  y-on : 1 < r.left → (now : Tables) (cs : List ℕ) → PointsTail mode (record { closed = r.closed; fresh = false; rings = r.rings; left = r.left - 1; fx = fx₁; fy = fy₁ }) [] part₁ now cs → Now now cs
  y-on h now cs w = y-more w.more now cs w.is (omega (arith, w.long)) w.reals (λ t after. close-on r.fresh r.left r.fx r.fy (sizes_left r part) x y (w.more ++ after) h (w.closes t after)) w.text

  pub y-tail : StepTail mode part₁ Now (vertex_of r x y next)
  unfolding vertex_of ring_step
  y-tail =
      let Q = StepTail mode part₁ Now in
      cond-elim Q (leb r.left 1) _ _
      (λ h. cond-elim Q (is_shut r.closed fx₁ fy₁ x y) _ _
      (λ sh. cond-elim Q (eqb r.rings 0) _ _
      (λ z. (tt, y-due (leb-true r.left 1 h) (eqb-true r.rings 0 z) sh))
      (λ z. let nz = eqb-false r.rings 0 z in
      (record { some = omega (arith, leb-true 4 (get_or part.islands (length part.islands - r.rings) 0) (all-each four_at_least part.islands (length part.islands - r.rings) k.four (omega (arith, k.all_in)))); all_in = omega (arith, k.all_in); four = k.four }, y-ring (leb-true r.left 1 h) nz sh)))
      (λ _. tt))
      (λ h. let g = leb-false r.left 1 h in (record { some = omega arith; all_in = k.all_in; four = k.four }, y-on g))

-- ---- an island's count

integers-line : (mode : Mode) (t : ℕ) (s : List ℕ) (rest : List ℕ) (c e cs : List ℕ) → mode ≡ Exact → LineEnd mode e → SaysInt mode c t → integers_text s ++ rest ≡ cs
    → integers_text (t ∷ s) ++ rest ≡ c ++ (e ++ cs)
unfolding integers_text
integers-line mode t s rest c e cs m l q f = append_assoc (line (integer_text t)) (integers_text s) rest ∙ line-spelt mode c (integer_text t) e (integers_text s ++ rest) cs m l (q.spelt m) f

four-more : (s : List ℕ) (t : ℕ) → all four_at_least s ≡ true → leb 4 t ≡ true → all four_at_least (s ++ t ∷ []) ≡ true
unfolding all
four-more s t e f = rw (all_append four_at_least s (t ∷ []), e, f)

module _ (mode : Mode) (c e : List ℕ) (t : ℕ) (l : LineEnd mode e) (left₀ spare rings : ℕ) (part : Tables) (k : AtIsland left₀ rings part) (q : SaysInt mode c t) where
  abbrev part₂ : Tables
  part₂ = record { rows = part.rows; letters = part.letters; islands = part.islands ++ t ∷ []; points = part.points }

  abbrev Then : Tables → List ℕ → Type 0
  Then now cs = IslandsTail mode left₀ spare part now (c ++ (e ++ cs))

  module _ (least : leb 4 t ≡ true) (most : t + 4 ≤ spare) where
    -- the last count: the rings follow
    island-last : left₀ ≤ 1 → (now : Tables) (cs : List ℕ) → PointsTail mode (fresh_ring true rings (spare - t)) [] part₂ now cs → Then now cs
    unfolding sum all closing are_closed is_closed integers_text
    island-last h now cs w =
        let z : length (part.islands ++ t ∷ []) - rings ≡ 0 = omega (arith, length-append part.islands (t ∷ []), k.all_in, k.some) in
        let o : t + 0 ≡ t = omega arith in
        let ms : sizes_left (fresh_ring true rings (spare - t)) part₂ ≡ part.islands ++ t ∷ [] = rw z in
        record {
          counts = t ∷ [];
          more = w.more;
          is = w.is;
          counted = omega (arith, k.some);
          four = rw least;
          most = omega arith;
          long = rw o (rw ms at w.long);
          reals = w.reals;
          closes = λ after. rw o (rw ms at (w.closes refl after));
          text = λ m. integers-line mode t [] (reals_text w.more) c e cs m l q (w.text m);
        }

    -- another follows
    island-on : 1 < left₀ → (now : Tables) (cs : List ℕ) → IslandsTail mode (left₀ - 1) (spare - t) part₂ now cs → Then now cs
    unfolding sum all
    island-on h now cs w =
        let a : part.islands ++ t ∷ [] ++ w.counts ≡ part.islands ++ t ∷ w.counts = append_snoc part.islands t w.counts in
        let n : spare - t - sum w.counts ≡ spare - (t + sum w.counts) = omega arith in
        record {
          counts = t ∷ w.counts;
          more = w.more;
          is = w.is ∙ rw a;
          counted = omega (arith, w.counted);
          four = and_both (leb 4 t) (all four_at_least w.counts) least w.four;
          most = omega (arith, w.most);
          long = rw (← a, ← n) w.long;
          reals = w.reals;
          closes = λ after. rw (← a, ← n) (w.closes after);
          text = λ m. integers-line mode t w.counts (reals_text w.more) c e cs m l q (w.text m);
        }

  pub island-tail : StepTail mode part₂ Then (island_of left₀ spare rings t)
  unfolding island_of
  island-tail =
      let Q = StepTail mode part₂ Then in
      let n = length-append part.islands (t ∷ []) in
      cond-elim Q (leb 4 t && leb (t + 4) spare) _ _
      (λ b. let least = and_left (leb 4 t) (leb (t + 4) spare) b in
      let most = leb-true (t + 4) spare (and_right (leb 4 t) (leb (t + 4) spare) b) in
      let four = four-more part.islands t k.four least in
      cond-elim Q (leb left₀ 1) _ _
      (λ h. let h₁ = leb-true left₀ 1 h in (record { some = omega arith; all_in = omega (arith, k.all_in); four = four }, island-last least most h₁))
      (λ h. let h₁ = leb-false left₀ 1 h in (record { some = omega arith; all_in = omega (arith, k.all_in); four = four }, island-on least most h₁)))
      (λ _. tt)
