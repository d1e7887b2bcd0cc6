-- The files that are accepted for one sheet are T-01's text with any date that it takes and any figures that are allowed, and nothing else: so two such files
-- differ in the date and in figures within the allowances, and nowhere else (document 02, T-10). Assumes nothing.
use Prim.Native.Nat.{ℕ, zero, suc, ◌+◌, ◌*◌, ◌<◌}
use mathlib.Core.Path.{◌≡◌, refl, sym, ap, ap₂, subst, ◌∙◌}
use mathlib.Core.List.{List, [], ◌∷◌, ◌++◌, append_assoc, append-nil}
use mathlib.Core.Bool.{Bool, true, false, cond, ◌&&◌}
use native.Mathlib.Omega.{arith}
use lib.ListN.{length, get_or, take, drop, length-append}
use lib.Dec.{eqb}
use lib.IntN.{ℤ, pos, ◌-ℤ◌}
use borrow.Author.Tests.{eqb-true, eq-eqb}
use Rattle.laws.proofs.Choice.{cond-first, and_left, and_right}
use Rattle.laws.proofs.ListLaws.{left-none}
use Rattle.heading.specs.declared.Header.{Header}
use Rattle.sheet.specs.Tables.{Tables}
use Rattle.classes.specs.declared.Class.TheVariants.{Confine, Road, Water, Building, Parcel}
use Rattle.std.specs.Prelude.{Result, Ok, Err}
use Rattle.tally.specs.declared.Untallied.{Untallied}
use Rattle.tally.specs.Take.{tally_of}
use Rattle.spelling.specs.Figures.{figure_text}
use Rattle.spelling.proofs.FigureLaws.{figure-length}
use Rattle.sup.specs.Lines.{FigureLine, fields_line, date_text, lines_text}
use Rattle.sup.specs.Sup.{CodeNet, borders_in, islands_in, exact_total, is_limited, head_lines, figure_lines, figures_in}
use Rattle.sup.specs.Answer.{codes_in_order}
use Rattle.sup.proofs.SupLaws.{line-length}
use Rattle.supcheck.specs.declared.Unaccepted.{Unaccepted}
use Rattle.supcheck.specs.declared.Unaccepted.TheVariants.{PastTotal, WrongLine}
use Rattle.supline.specs.Right.{counted, DueLine, due_line, line_from, figure_in, date_in, is_right_line, is_right_date}
use Rattle.supcheck.specs.Due.{due_under, head_dues, head_due, due_with, balance_in, due_lines}
use Rattle.supcheck.specs.Checked.{SupChecked, right_from, right_lines, checked_lines, total_checked, after_tally, sup_checked}
use Rattle.supcheck.specs.Allowed.{lines_with, Allowed, Allowed.none_due, Allowed.next_due, balance_of, text_with, AllowedFile}
use Rattle.supcheck.proofs.RightLaws.{AllRight, AllRight.nothing, AllRight.onward, right-all, all_right}
use Rattle.supcheck.proofs.DueLaws.{SameNames, SameNames.nameless, SameNames.alike, due-count, due-names}
use Rattle.supline.proofs.NearWays.{near-itself}
use Rattle.supline.proofs.LineLaws.{next-line, behind-line, figure-back, line-right, right-line, date-long, date-right, right-date}

-- the figures that stand in lines, from line k on
unfoldable pub figures_at : List ℕ → ℕ → List DueLine → List ℤ
figures_at s k [] = []
figures_at s k (x ∷ l) = figure_in (line_from s k) ∷ figures_at s (k + 1) l

figures-at : (s : List ℕ) (k : ℕ) (l : List DueLine) (i : ℕ) → i < length l → get_or (figures_at s k l) i (pos 0) ≡ figure_in (line_from s (k + i))
unfolding figures_at
figures-at s k [] i h = absurd (omega arith)
figures-at s k (x ∷ l) zero h = ap (λ (m : ℕ). figure_in (line_from s m)) (let e : k ≡ k + 0 = omega arith in e)
figures-at s k (x ∷ l) (suc i) h =
    figures-at s (k + 1) l i (omega arith) ∙ ap (λ (m : ℕ). figure_in (line_from s m)) (let e : k + 1 + i ≡ k + suc i = omega arith in e)

refused≢fine : (u : Unaccepted) → ◌≡◌ {A = SupChecked} (Err u) (Ok tt) → ⊥
refused≢fine u e = cc

-- ---- right lines are T-01's lines with their figures

right-allowed : {s : List ℕ} {k : ℕ} {l : List DueLine} → AllRight s k l → Allowed l (figures_at s k l)
unfolding figures_at
right-allowed nothing = none_due
right-allowed {s} {k} (onward {x = x} q a) =
    let w = right-line x (line_from s k) q in
    next_due w.line.short w.narrow w.near (right-allowed a)

right-text : (s : List ℕ) (k : ℕ) {a : List FigureLine} {l : List DueLine} → SameNames a l → AllRight s k l
    → line_from s k ≡ lines_text (lines_with a (figures_at s k l)) ++ line_from s (k + length l)
unfolding figures_at lines_with lines_text
right-text s k nameless nothing = ap (line_from s) (let e : k ≡ k + 0 = omega arith in e)
right-text s k (alike {x = y} {y = x} {a = a} {b = l} e m) (onward q r) =
    let w = right-line x (line_from s k) q in
    let here : List ℕ = fields_line y.name (figure_text (figure_in (line_from s k))) in
    let rest : List ℕ = lines_text (lines_with a (figures_at s (k + 1) l)) in
    let n : k + 1 + length l ≡ k + suc (length l) = omega arith in
    let on : drop 23 (line_from s k) ≡ rest ++ line_from s (k + suc (length l))
    = next-line s k ∙ right-text s (k + 1) m r ∙ ap (λ (i : ℕ). rest ++ line_from s i) n in
    let at : line_from s k ≡ here ++ drop 23 (line_from s k)
    = w.line.is ∙ ap (λ (i : List ℕ). fields_line i (figure_text (figure_in (line_from s k))) ++ drop 23 (line_from s k)) (sym e) in
    at ∙ ap (λ (i : List ℕ). here ++ i) on ∙ sym (append_assoc here rest (line_from s (k + suc (length l))))

-- ---- and such lines are right

pub record Found (s : List ℕ) (k : ℕ) (l : List DueLine) (z : List ℤ) : Type 0 where
  pub right : AllRight s k l
  pub figures : figures_at s k l ≡ z

text-right : (s : List ℕ) (k : ℕ) {a : List FigureLine} {l : List DueLine} {z : List ℤ} (r : List ℕ) → SameNames a l → Allowed l z
    → line_from s k ≡ lines_text (lines_with a z) ++ r → Found s k l z
unfolding figures_at lines_with lines_text
text-right s k r nameless none_due e = record { right = nothing; figures = refl }
text-right s k r (alike {x = y} {y = x} {a = a} {b = l} e m) (next_due {y = v} {z = z} h n d g) q =
    let here : List ℕ = fields_line x.name (figure_text v) in
    let rest : List ℕ = lines_text (lines_with a z) ++ r in
    let u : line_from s k ≡ here ++ rest
    = q ∙ append_assoc (fields_line y.name (figure_text v)) (lines_text (lines_with a z)) r ∙ ap (λ (i : List ℕ). fields_line i (figure_text v) ++ rest) e in
    let on : line_from s (k + 1) ≡ rest
    = sym (next-line s k) ∙ ap (drop 23) u ∙ behind-line x.name (figure_text v) rest h (figure-length v n) in
    let f = text-right s (k + 1) r m g on in
    record {
      right = onward (ap (is_right_line x) u ∙ line-right x v rest h n d) f.right;
      figures = ap₂ (λ (i : ℤ) (j : List ℤ). i ∷ j) (ap figure_in u ∙ figure-back x.name rest v h n) f.figures;
    }

text-long : {a : List FigureLine} {l : List DueLine} {z : List ℤ} → SameNames a l → Allowed l z → length (lines_text (lines_with a z)) ≡ 23 * length l
unfolding lines_with lines_text
text-long nameless none_due = refl
text-long (alike {x = y} {y = x} {a = a} {b = l} e m) (next_due {y = v} {z = z} h n d g) =
    omega (
      arith,
      length-append (fields_line y.name (figure_text v)) (lines_text (lines_with a z)),
      line-length y.name (figure_text v) (omega (arith, ap length e)) (figure-length v n),
      text-long m g,
    )

-- ---- the whole file

module _ (h : Header) (f : List ℤ) (c : List CodeNet) (s : List ℕ) where
  abbrev size : ℕ
  size = length c

  -- the balance of the figures that were found is that of the file
  balance-same : (b : ℤ) (z : List ℤ) → figures_at s 1 (due_with h.kind f c b) ≡ z → balance_in size s ≡ balance_of size z
  unfolding balance_in balance_of
  balance-same b z e =
      let l = due_with h.kind f c b in
      let n = due-count h.kind f c b in
      let p : 1 + (10 + size) ≡ 11 + size = omega arith in
      let q : 1 + (11 + size) ≡ 12 + size = omega arith in
      sym (rw (← e) (ap₂ (λ (x y : ℤ). x -ℤ y) (figures-at s 1 l (10 + size) (omega (arith, n)) ∙ ap (λ (m : ℕ). figure_in (line_from s m)) p) (figures-at s 1 l (11 + size) (omega (arith, n)) ∙ ap (λ (m : ℕ). figure_in (line_from s m)) q)))

  pub accepted-lines : checked_lines h f c s ≡ Ok tt → (right_lines h f c s ≡ 14 + size) × (length s ≡ 23 * (14 + size))
  unfolding checked_lines
  accepted-lines e =
      let a = eqb (right_lines h f c s) (14 + size) in
      let b = eqb (length s) (23 * (14 + size)) in
      let q = cond-first (a && b) (Ok tt) (Err (WrongLine (right_lines h f c s + 1))) (Ok tt) (refused≢fine (WrongLine (right_lines h f c s + 1))) e in
      (eqb-true (right_lines h f c s) (14 + size) (and_left a b q.0), eqb-true (length s) (23 * (14 + size)) (and_right a b q.0))

  lines-count : length (due_lines h.kind f c s) ≡ 13 + size
  unfolding due_lines
  lines-count = due-count h.kind f c (balance_in size s)

  lines-right : right_lines h f c s ≡ 14 + size → (is_right_date h.name s ≡ true) × AllRight s 1 (due_lines h.kind f c s)
  unfolding right_lines
  lines-right e = go (is_right_date h.name s) refl e
    where
      go : (t : Bool) → is_right_date h.name s ≡ t → cond t (suc (right_from 1 (due_lines h.kind f c s) s)) 0 ≡ 14 + size
          → (is_right_date h.name s ≡ true) × AllRight s 1 (due_lines h.kind f c s)
      go true q g = (q, right-all s 1 (due_lines h.kind f c s) (omega (arith, lines-count)))
      go false q g = absurd (omega arith)

  -- the file ends behind its last line
  all_read : length s ≡ 23 * (14 + size) → line_from s (1 + length (due_lines h.kind f c s)) ≡ []
  unfolding line_from
  all_read e = left-none s (23 * (1 + length (due_lines h.kind f c s))) (omega (arith, lines-count))

  -- an accepted file is T-01's text, with a date that it takes and figures that are allowed
  pub accepted-file : checked_lines h f c s ≡ Ok tt → AllowedFile h f c s
  unfolding text_with due_lines line_from
  accepted-file e =
      let a = accepted-lines e in
      let b = lines-right a.0 in
      let l = due_with h.kind f c (balance_in size s) in
      let z = figures_at s 1 l in
      let d = right-date h.name s b.0 in
      let lines : List ℕ = lines_text (lines_with (figure_lines h.kind f c) z) in
      let rest : drop 23 s ≡ lines
      = right-text s 1 (due-names h.kind f c (balance_in size s)) b.1 ∙ ap (λ (x : List ℕ). lines ++ x) (all_read a.1) ∙ append-nil lines in
      record {
        date = date_in s;
        figures = z;
        named = d.1.short;
        dated = d.0;
        allowed = subst (λ (x : ℤ). Allowed (due_with h.kind f c x) z) (balance-same (balance_in size s) z refl) (right-allowed b.1);
        is = d.1.is ∙ ap (λ (x : List ℕ). fields_line h.name (date_text (date_in s)) ++ x) rest;
      }

  -- and every such text is accepted
  module _ (g : AllowedFile h f c s) where
    abbrev found : List ℤ
    found = g.figures

    abbrev lines : List ℕ
    lines = lines_text (lines_with (figure_lines h.kind f c) found)

    abbrev balance : ℤ
    balance = balance_of size found

    text-is : s ≡ fields_line h.name (date_text g.date) ++ lines
    unfolding text_with
    text-is = g.is

    names-are : SameNames (figure_lines h.kind f c) (due_with h.kind f c balance)
    names-are = due-names h.kind f c balance

    behind-first : line_from s 1 ≡ lines ++ []
    unfolding line_from
    behind-first = ap (drop 23) text-is ∙ behind-line h.name (date_text g.date) lines g.named (date-long g.date g.dated) ∙ sym (append-nil lines)

    reads : Found s 1 (due_with h.kind f c balance) found
    reads = text-right s 1 [] names-are g.allowed behind-first

    file-lines : right_lines h f c s ≡ 14 + size
    unfolding right_lines due_lines
    file-lines =
        let same : balance_in size s ≡ balance = balance-same balance found reads.figures in
        let day : is_right_date h.name s ≡ true = ap (is_right_date h.name) text-is ∙ date-right g.date g.dated h.name lines g.named in
        let n = all_right s 1 (due_with h.kind f c balance) reads.right in
        rw (same, day) (omega (arith, n, due-count h.kind f c balance))

    file-long : length s ≡ 23 * (14 + size)
    file-long =
        omega (
          arith,
          ap length text-is,
          length-append (fields_line h.name (date_text g.date)) lines,
          line-length h.name (date_text g.date) g.named (date-long g.date g.dated),
          text-long names-are g.allowed,
          due-count h.kind f c balance,
        )

    pub file-accepted : checked_lines h f c s ≡ Ok tt
    unfolding checked_lines
    file-accepted = rw (eq-eqb (right_lines h f c s) (14 + size) file-lines, eq-eqb (length s) (23 * (14 + size)) file-long)

-- ---- of the whole sheet

-- an accepted file's sheet has its tally, whose combined total keeps the limit
pub accepted-sheet : (h : Header) (count : ℕ) (t : Tables) (s : List ℕ) → sup_checked h count t s ≡ Ok tt
    → ((tally_of h count t).outcome ≡ Ok tt) × AllowedFile h (tally_of h count t).tally.figures (codes_in_order h count t) s
unfolding sup_checked total_checked
accepted-sheet h count t s e = go (tally_of h count t).outcome refl e
  where
    f : List ℤ
    f = (tally_of h count t).tally.figures

    c : List CodeNet
    c = codes_in_order h count t

    go : (r : Result Unit Untallied) → (tally_of h count t).outcome ≡ r → after_tally r (cond (is_limited (exact_total h.kind f)) (checked_lines h f c s) (Err PastTotal)) ≡ Ok tt
        → ((tally_of h count t).outcome ≡ Ok tt) × AllowedFile h f c s
    go (Ok u) q g =
        (q, accepted-file h f c s (cond-first (is_limited (exact_total h.kind f)) (checked_lines h f c s) (Err PastTotal) (Ok tt) (refused≢fine PastTotal) g).1)
    go (Err u) q g = absurd cc

-- ---- its counts are T-01's

five-counted : (a b c d e : ℤ) (na nb nc nd ne : List ℕ) (l : List DueLine) {z : List ℤ}
    → Allowed (due_line na (counted a) ∷ due_line nb (counted b) ∷ due_line nc (counted c) ∷ due_line nd (counted d) ∷ due_line ne (counted e) ∷ l) z
    → take 5 z ≡ a ∷ b ∷ c ∷ d ∷ e ∷ []
five-counted a b c d e na nb nc nd ne l (next_due {y = v} i j p (next_due {y = w} k m q (next_due {y = x} n o r (next_due {y = y} f g u (next_due {y = z} h t v1 rest))))) =
    rw (near-itself v a p, near-itself w b q, near-itself x c r, near-itself y d u, near-itself z e v1)

pub counts-are : (h : Header) (f : List ℤ) (c : List CodeNet) (s : List ℕ) (g : AllowedFile h f c s) → take 5 g.figures ≡ take 5 (figures_in (head_lines f))
unfolding due_with head_due head_dues head_lines due_under figures_in
counts-are h f c s g =
    five-counted (borders_in f Building) (borders_in f Parcel) (borders_in f Road) (borders_in f Water) (islands_in f Confine) _ _ _ _ _ _ g.allowed
