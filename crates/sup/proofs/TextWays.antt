-- The ways through the functions that judge and store all lines: those before the listed borders, theirs, those behind. Assumes nothing.
use Prim.Native.Nat.{ℕ, suc, ◌+◌, ◌*◌, ◌^◌, ◌≤◌, ◌<◌}
use mathlib.Core.Path.{◌≡◌, refl, sym, ap, subst, ◌∙◌}
use mathlib.Core.List.{List, [], ◌∷◌, ◌++◌, map, append_assoc}
use mathlib.Core.Bool.{Bool, true, false, cond, not, ◌&&◌}
use native.Mathlib.Nat.{zero-add}
use native.Mathlib.Omega.{arith}
use lib.ListN.{length, drop, length-map}
use lib.IntN.{ℤ, pos, negsuc}
use lib.Signed.{mag, le_z}
use borrow.Author.Tests.{not-true, not-false, ne_eqb, le-leb, lt-leb}
use Rattle.std.specs.Prelude.{Option, Some, None, Ok, Err}
use Rattle.laws.specs.Lists.{over}
use Rattle.laws.specs.Text.{text}
use Rattle.laws.proofs.Parts.{le_yes}
use Rattle.laws.proofs.Choice.{and_left, and_right}
use Rattle.heading.specs.declared.Header.{Header}
use Rattle.sheet.specs.Tables.{Tables}
use Rattle.record.specs.declared.Mode.TheVariants.{Loose}
use Rattle.made.specs.Made.{tables_of, none_before, judge_rows}
use Rattle.row.proofs.SeekLaws.{fine-rows}
use Rattle.row.specs.declared.Stand.{Stand}
use Rattle.row.specs.Walk.{first_stand}
use Rattle.spelling.specs.Figures.{is_narrow, figure_text}
use Rattle.writer.specs.Put.{Put}
use Rattle.writer.proofs.Putting.{Putting, putting-start, putting-room, putting-on, putting-last}
use Rattle.order.specs.Sorting.{EachOf, EachOf.each_nil, EachOf.each_on}
use Rattle.order.specs.SupBorders.{sup_borders, first_long}
use Rattle.order.specs.SupOrder.{sup_in_order}
use Rattle.order.proofs.OrderLaws.{in-order-counted, in-order-length}
use Rattle.order.proofs.LongLaws.{long-own}
use Rattle.tally.specs.declared.Untallied.{Untallied}
use Rattle.tally.specs.declared.Taken.{Taken}
use Rattle.tally.specs.Tally.{Good}
use Rattle.tally.specs.Take.{tally_of}
use Rattle.tally.proofs.RunningLaws.{tally-good, tally-fine}
use Rattle.sup.specs.declared.NoSup.TheVariants.{NoRoom, Refused, BadDate, CodeTooLong, PastTotal, WideFigure}
use Rattle.sup.specs.Date.{is_date}
use Rattle.sup.specs.Lines.{FigureLine, left_field, fields_line, date_text, lines_text}
use Rattle.sup.specs.Sup.{exact_total, is_limited, head_lines, foot_lines, listed_lines, figure_lines, figures_in, wide_from, first_wide, sup_text, CodeNet}
use Rattle.sup.specs.Answer.{code_nets, codes_in_order, sheet_sup, stored_sup, lined_sup, printed_sup, dated_sup, sup_of}
use Rattle.sup.specs.Printing.{are_narrow, named_text, metres_left, is_any_wide_from}
use Rattle.sup.specs.ExactAreas.{exact_areas, exact_of}
use Rattle.sup.specs.Totals.{total_of}
use Rattle.sup.proofs.DateWays.{date-eight}
use Rattle.sup.proofs.SupLaws.{sup-length}
use Rattle.sup.proofs.WroteLaws.{header-named}
use Rattle.sup.proofs.ListedWays.{Narrow, none-wide}

-- ---- the first wide figure of lists one behind the other

wide-past : (k : ℕ) (a b : List ℤ) → 1 ≤ k → wide_from k a ≡ 0 → wide_from k (a ++ b) ≡ wide_from (k + length a) b
unfolding wide_from
wide-past k [] b l e = let q : k ≡ k + 0 = omega arith in ap (λ (m : ℕ). wide_from m b) q
wide-past k (z ∷ a) b l e = go (is_narrow z) e (λ f. wide-past (k + 1) a b (omega arith) f)
  where
    go : (t : Bool) → cond t (wide_from (k + 1) a) k ≡ 0 → (wide_from (k + 1) a ≡ 0 → wide_from (k + 1) (a ++ b) ≡ wide_from (k + 1 + length a) b)
        → cond t (wide_from (k + 1) (a ++ b)) k ≡ wide_from (k + suc (length a)) b
    go true f g = let q : k + 1 + length a ≡ k + suc (length a) = omega arith in g f ∙ ap (λ (m : ℕ). wide_from m b) q
    go false f g = absurd (omega arith)

wide-in : (k : ℕ) (a b : List ℤ) → (wide_from k a ≡ 0 → ⊥) → wide_from k (a ++ b) ≡ wide_from k a
unfolding wide_from
wide-in k [] b n = absurd (n refl)
wide-in k (z ∷ a) b n = go (is_narrow z) n (λ f. wide-in (k + 1) a b f)
  where
    go : (t : Bool) → (cond t (wide_from (k + 1) a) k ≡ 0 → ⊥) → ((wide_from (k + 1) a ≡ 0 → ⊥) → wide_from (k + 1) (a ++ b) ≡ wide_from (k + 1) a)
        → cond t (wide_from (k + 1) (a ++ b)) k ≡ cond t (wide_from (k + 1) a) k
    go true f g = g f
    go false f g = refl

-- none is wide where each is narrow
narrow-none : (k : ℕ) (t : Tables) (s : List Stand) → EachOf (Narrow t) s → wide_from k (figures_in (listed_lines (code_nets t s))) ≡ 0
unfolding wide_from figures_in listed_lines code_nets metres_left
narrow-none k t [] each_nil = refl
narrow-none k t (d ∷ s) (each_on p e) = rw p (narrow-none (k + 1) t s e)

pub none-listed : (h : Header) (count : ℕ) (t : Tables) (b : Bool) → b ≡ is_any_wide_from h t count first_stand → b ≡ false
    → 0 ≡ wide_from 8 (figures_in (listed_lines (codes_in_order h count t)))
unfolding codes_in_order
none-listed h count t b e f = sym (narrow-none 8 t (sup_in_order h count t) (none-wide h count t (sym e ∙ f)))

figures-append : (a b : List FigureLine) → figures_in (a ++ b) ≡ figures_in a ++ figures_in b
unfolding figures_in
figures-append [] b = refl
figures-append (x ∷ a) b = ap (λ (s : List ℤ). x.amount ∷ s) (figures-append a b)

listed-figures : (t : Tables) (s : List Stand) → length (figures_in (listed_lines (code_nets t s))) ≡ length s
unfolding figures_in listed_lines code_nets
listed-figures t [] = refl
listed-figures t (d ∷ s) = ap suc (listed-figures t s)

-- ---- the first wide line of all

module _ (h : Header) (count : ℕ) (t : Tables) (f : List ℤ) where
  abbrev heads : List ℤ
  heads = figures_in (head_lines f)

  abbrev listed : List ℤ
  listed = figures_in (listed_lines (codes_in_order h count t))

  abbrev feet : List ℤ
  feet = figures_in (foot_lines h.kind f)

  figures-are : figures_in (figure_lines h.kind f (codes_in_order h count t)) ≡ heads ++ (listed ++ feet)
  unfolding figure_lines
  figures-are =
      figures-append (head_lines f) (listed_lines (codes_in_order h count t) ++ foot_lines h.kind f)
      ∙ ap (λ (s : List ℤ). heads ++ s) (figures-append (listed_lines (codes_in_order h count t)) (foot_lines h.kind f))

  first-is : first_wide h.kind f (codes_in_order h count t) ≡ wide_from 2 (heads ++ (listed ++ feet))
  first-is = ap (wide_from 2) figures-are

  heads-length : length heads ≡ 6
  unfolding figures_in head_lines
  heads-length = refl

  listed-length : length listed ≡ length (sup_borders h count t)
  unfolding codes_in_order
  listed-length = listed-figures t (sup_in_order h count t) ∙ in-order-length h count t

  module _ (a : List ℤ) (ea : a ≡ heads) (x : ℕ) (ex : x ≡ wide_from 2 a) where
    pub wide-head : (x ≡ 0 → ⊥) → x ≡ first_wide h.kind f (codes_in_order h count t)
    wide-head n =
        let q : x ≡ wide_from 2 heads = ex ∙ ap (wide_from 2) ea in
        q ∙ sym (first-is ∙ wide-in 2 heads (listed ++ feet) (λ z. n (q ∙ z)))

    module _ (zx : x ≡ 0) where
      behind-head : first_wide h.kind f (codes_in_order h count t) ≡ wide_from 8 (listed ++ feet)
      behind-head =
          first-is ∙ wide-past 2 heads (listed ++ feet) (omega arith) (sym (ap (wide_from 2) ea) ∙ sym ex ∙ zx)
          ∙ ap (λ (m : ℕ). wide_from (2 + m) (listed ++ feet)) heads-length

      module _ (y : ℕ) (ey : y ≡ wide_from 8 listed) where
        pub wide-list : (y ≡ 0 → ⊥) → y ≡ first_wide h.kind f (codes_in_order h count t)
        wide-list n = ey ∙ sym (behind-head ∙ wide-in 8 listed feet (λ z. n (ey ∙ z)))

        pub wide-foot : y ≡ 0 → (b : List ℤ) → b ≡ feet → (n : ℕ) → n ≡ length (sup_borders h count t) → (r : ℕ) → r ≡ wide_from (8 + n) b
            → r ≡ first_wide h.kind f (codes_in_order h count t)
        wide-foot zy b eb n en r er =
            er ∙ rw (eb, en, ← listed-length) (sym (behind-head ∙ wide-past 8 listed feet (omega arith) (sym ey ∙ zy)))

  pub feet-few : (b : List ℤ) → b ≡ feet → length b ≡ 7
  unfolding figures_in foot_lines
  feet-few b e = ap length e

-- ---- the text, part by part

-- a name's eleven places, by way of a map of it
pub name-fits : {A : Type 0} (B : Type 0) (g : A → B) (s : List A) → length (map g s) ≡ 11 → length s ≤ 11
name-fits B g s e = omega (arith, length-map s g)

lines-append : (a b : List FigureLine) → lines_text (a ++ b) ≡ lines_text a ++ lines_text b
unfolding lines_text
lines-append [] b = refl
lines-append (x ∷ a) b =
    ap (λ (s : List ℕ). fields_line x.name (figure_text x.amount) ++ s) (lines-append a b)
    ∙ sym (append_assoc (fields_line x.name (figure_text x.amount)) (lines_text a) (lines_text b))

abbrev pub head_names : List ℕ
head_names = text "N.FABBRIC  N.PARTIC   N.STRADE   N.ACQUE    N.SVIL-ALL FABBRIC    "

abbrev pub foot_names : List ℕ
foot_names = text "PARTIC     STRADE     ACQUE      SVIL-ALL   TOTALE     CONFINE    SBILANCIO  "

head-text : (f : List ℤ) → named_text head_names (figures_in (head_lines f)) ≡ lines_text (head_lines f)
unfolding named_text figures_in head_lines lines_text fields_line left_field
head-text f = refl

foot-text : (kind : ℕ) (f : List ℤ) → named_text foot_names (figures_in (foot_lines kind f)) ≡ lines_text (foot_lines kind f)
unfolding named_text figures_in foot_lines lines_text fields_line left_field
foot-text kind f = refl

narrow-append : (a b : List ℤ) → are_narrow (a ++ b) ≡ true → (are_narrow a ≡ true) × (are_narrow b ≡ true)
unfolding are_narrow
narrow-append [] b e = (refl, e)
narrow-append (z ∷ a) b e =
    let n = and_left (is_narrow z) (are_narrow (a ++ b)) e in
    let r = narrow-append a b (and_right (is_narrow z) (are_narrow (a ++ b)) e) in
    (rw (n, r.0), r.1)

none-narrow : (k : ℕ) (s : List ℤ) → 1 ≤ k → wide_from k s ≡ 0 → are_narrow s ≡ true
unfolding wide_from are_narrow
none-narrow k [] l e = refl
none-narrow k (z ∷ s) l e = go (is_narrow z) e (λ f. none-narrow (k + 1) s (omega arith) f)
  where
    go : (t : Bool) → cond t (wide_from (k + 1) s) k ≡ 0 → (wide_from (k + 1) s ≡ 0 → are_narrow s ≡ true) → (t && are_narrow s) ≡ true
    go true f g = g f
    go false f g = absurd (omega arith)

module _ (h : Header) (count : ℕ) (t : Tables) (f : List ℤ) (none : first_wide h.kind f (codes_in_order h count t) ≡ 0) where
  parts-narrow : are_narrow (heads h count t f ++ (listed h count t f ++ feet h count t f)) ≡ true
  parts-narrow = none-narrow 2 (heads h count t f ++ (listed h count t f ++ feet h count t f)) (omega arith) (sym (first-is h count t f) ∙ none)

  pub head-asks : (a : List ℤ) → a ≡ heads h count t f → (66 ≡ 11 * length a) × (are_narrow a ≡ true)
  head-asks a e =
      rw e (omega (arith, heads-length h count t f), (narrow-append (heads h count t f) (listed h count t f ++ feet h count t f) parts-narrow).0)

  behind-narrow : are_narrow (listed h count t f ++ feet h count t f) ≡ true
  behind-narrow = (narrow-append (heads h count t f) (listed h count t f ++ feet h count t f) parts-narrow).1

  pub listed-narrow : are_narrow (listed h count t f) ≡ true
  listed-narrow = (narrow-append (listed h count t f) (feet h count t f) behind-narrow).0

  pub foot-asks : (b : List ℤ) → b ≡ feet h count t f → (77 ≡ 11 * length b) × (are_narrow b ≡ true)
  foot-asks b e =
      (omega (arith, feet-few h count t f b e), rw e (narrow-append (listed h count t f) (feet h count t f) behind-narrow).1)

module _ (h : Header) (count : ℕ) (t : Tables) (f : List ℤ) (date : List ℕ) (a : List ℤ) (ea : a ≡ heads h count t f) (b : List ℤ) (eb : b ≡ feet h count t f)
    (l : List ℕ) (room : length (sup_text h date f (codes_in_order h count t)) ≤ length l) where
  abbrev whole : List ℕ
  whole = sup_text h date f (codes_in_order h count t)

  abbrev first : List ℕ
  first = fields_line h.name (date_text date)

  abbrev lines : List ℕ
  lines = lines_text (listed_lines (codes_in_order h count t))

  text-is : whole ≡ first ++ (named_text head_names a ++ (lines ++ named_text foot_names b))
  unfolding sup_text figure_lines
  text-is =
      rw (ea, eb, head-text f, foot-text h.kind f)
      (ap (λ (s : List ℕ). first ++ s) (lines-append (head_lines f) (listed_lines (codes_in_order h count t) ++ foot_lines h.kind f)
      ∙ ap (λ (s : List ℕ). lines_text (head_lines f) ++ s) (lines-append (listed_lines (codes_in_order h count t)) (foot_lines h.kind f))))

  begun : Putting l 0 whole l 0 (first ++ (named_text head_names a ++ (lines ++ named_text foot_names b)))
  begun = subst (λ (s : List ℕ). Putting l 0 whole l 0 s) text-is (putting-start l 0 whole (omega (arith, room)))

  pub date-room : length first ≤ length l
  date-room = omega (arith, putting-room begun first (named_text head_names a ++ (lines ++ named_text foot_names b)) refl)

  module _ {o : List ℕ} {n : ℕ} (p : Put l 0 first o n) where
    dated : Putting l 0 whole o n (named_text head_names a ++ (lines ++ named_text foot_names b))
    dated = putting-on begun first (named_text head_names a ++ (lines ++ named_text foot_names b)) refl p

    pub head-room : n + length (named_text head_names a) ≤ length o
    head-room = putting-room dated (named_text head_names a) (lines ++ named_text foot_names b) refl

    module _ {q : List ℕ} {m : ℕ} (w : Put o n (named_text head_names a) q m) where
      headed : Putting l 0 whole q m (lines ++ named_text foot_names b)
      headed = putting-on dated (named_text head_names a) (lines ++ named_text foot_names b) refl w

      pub listed-room : m + length lines ≤ length q
      listed-room = putting-room headed lines (named_text foot_names b) refl

      module _ {r : List ℕ} {k : ℕ} (x : Put q m lines r k) where
        lined : Putting l 0 whole r k (named_text foot_names b)
        lined = putting-on headed lines (named_text foot_names b) refl x

        pub foot-room : k + length (named_text foot_names b) ≤ length r
        foot-room = lined.room

        pub store-done : {z : List ℕ} {j : ℕ} → Put r k (named_text foot_names b) z j → z ≡ over whole l
        store-done y = (putting-last lined y).is ∙ ap (λ (i : ℕ). whole ++ drop i l) (zero-add (length whole))

-- ---- the answers

pub past_is : (z : ℤ) → total_of z ≡ None → is_limited z ≡ false
unfolding total_of
past_is z = go (is_limited z)
  where
    go : (b : Bool) → cond b (Some z) None ≡ None → b ≡ false
    go true q = absurd cc
    go false q = refl

pub is-is : (z d : ℤ) → total_of z ≡ Some d → (is_limited z ≡ true) × (d ≡ z)
unfolding total_of
is-is z d = go (is_limited z)
  where
    go : (b : Bool) → cond b (Some z) None ≡ Some d → (b ≡ true) × (d ≡ z)
    go true q = (refl, cc)
    go false q = absurd cc

-- what keeps the limit fits
pub limited-small : (z : ℤ) → is_limited z ≡ true → mag z < 2 ^ 63
unfolding is_limited
limited-small (pos a) e = omega (arith, le_yes (pos a) (pos 9000000000000000000) (and_right (le_z (negsuc 8999999999999999999) (pos a)) (le_z (pos a) (pos 9000000000000000000)) e))
limited-small (negsuc a) e = omega (arith, le_yes (negsuc 8999999999999999999) (negsuc a) (and_left (le_z (negsuc 8999999999999999999) (negsuc a)) (le_z (negsuc a) (pos 9000000000000000000)) e))

module _ (h : Header) (count : ℕ) (rows : List ℤ) (letters islands : List ℕ) (points : List ℤ) where
  abbrev tables : Tables
  tables = tables_of rows letters islands points

  pub listed-counted : (n : ℕ) → n ≡ length (sup_borders h count (tables_of rows letters [] [])) → n ≡ length (sup_borders h count tables)
  listed-counted n e = e ∙ sym (in-order-counted h count rows letters islands points) ∙ in-order-length h count tables

  pub long-known : (x : Option ℕ) → x ≡ first_long h count (tables_of rows letters [] []) → x ≡ first_long h count tables
  long-known x e = e ∙ sym (long-own h count rows letters islands points)

module _ (h : Header) (count : ℕ) (t : Tables) (date : List ℕ) (f : List ℤ) (room : ℕ) where
  abbrev codes : List CodeNet
  codes = codes_in_order h count t

  module _ (w : ℕ) (e : w ≡ first_wide h.kind f codes) where
    pub lined-wide : (w ≡ 0 → ⊥) → Err (WideFigure w) ≡ lined_sup h date f codes room
    unfolding lined_sup
    lined-wide n = rw (← e, ne_eqb w 0 n)

    module _ (z : w ≡ 0) (name : length h.name ≤ 11) (fit : first_long h count t ≡ None) (day : is_date date ≡ true)
        (n : ℕ) (en : n ≡ length (sup_borders h count t)) where
      none_is : first_wide h.kind f codes ≡ 0
      none_is = sym e ∙ z

      size_is : length (sup_text h date f codes) ≡ 23 * (14 + n)
      size_is = sup-length h count t date f name (omega (arith, date-eight date day)) fit none_is ∙ rw en

      pub lined-tight : room < 23 * (14 + n) → Err (NoRoom (23 * (14 + n))) ≡ lined_sup h date f codes room
      unfolding lined_sup stored_sup
      lined-tight k = rw (none_is, size_is, lt-leb (23 * (14 + n)) room k)

      pub lined-room : 23 * (14 + n) ≤ room → length (sup_text h date f codes) ≤ room
      lined-room k = omega (arith, size_is)

      pub lined-whole : 23 * (14 + n) ≤ room → Ok (23 * (14 + n)) ≡ lined_sup h date f codes room
      unfolding lined_sup stored_sup
      lined-whole k = rw (none_is, size_is, le-leb (23 * (14 + n)) room k)

  module _ (x : Option ℤ) (e : x ≡ total_of (exact_total h.kind f)) where
    pub total-past : x ≡ None → Err PastTotal ≡ printed_sup h date f codes room
    unfolding printed_sup
    total-past p = rw (past_is (exact_total h.kind f) (sym e ∙ p))

    module _ (d : ℤ) (p : x ≡ Some d) where
      pub total-is : d ≡ exact_total h.kind f
      total-is = (is-is (exact_total h.kind f) d (sym e ∙ p)).1

      pub total-small : mag d < 2 ^ 63
      total-small = rw total-is (limited-small (exact_total h.kind f) (is-is (exact_total h.kind f) d (sym e ∙ p)).0)

      pub total-on : lined_sup h date f codes room ≡ printed_sup h date f codes room
      unfolding printed_sup
      total-on = rw (is-is (exact_total h.kind f) d (sym e ∙ p)).0

  pub date-bad : (b : Bool) → b ≡ is_date date → not b ≡ true → Err BadDate ≡ dated_sup h count t date f room
  unfolding dated_sup
  date-bad b e q = rw (← e, not-true b q)

  module _ (b : Bool) (e : b ≡ is_date date) (q : not b ≡ false) (x : Option ℕ) (ex : x ≡ first_long h count t) where
    pub date-good : is_date date ≡ true
    date-good = sym e ∙ not-false b q

    pub code-long : (k : ℕ) → x ≡ Some k → Err (CodeTooLong k) ≡ dated_sup h count t date f room
    unfolding dated_sup
    code-long k p = rw (date-good, ← ex, p)

    pub codes-fine : x ≡ None → printed_sup h date f codes room ≡ dated_sup h count t date f room
    unfolding dated_sup
    codes-fine p = rw (date-good, ← ex, p)

module _ (h : Header) (count : ℕ) (t : Tables) (date : List ℕ) (room : ℕ) (x : Taken) (e : x ≡ tally_of h count t) where
  -- refused, the answer is the tally's refusal
  pub tally-refused : (u : Untallied) → x.outcome ≡ Err u → Err (Refused u) ≡ sup_of h count t date room
  unfolding sup_of
  tally-refused u q = rw (← e, q)

  module _ (q : x.outcome ≡ Ok tt) where
    pub tally-asks : (judge_rows Loose count none_before t ≡ Ok tt) × Good x.tally.figures × (length h.name ≤ 11)
    tally-asks =
        let f = tally-fine h count t (sym (ap (λ (y : Taken). y.outcome) e) ∙ q) in
        (fine-rows h count t f, rw e (tally-good h count t), header-named h count t f)

    pub tally-on : dated_sup h count t date x.tally.figures room ≡ sup_of h count t date room
    unfolding sup_of
    tally-on = rw (← e, q)

    pub tally-text : sup_text h date x.tally.figures (codes_in_order h count t) ≡ sheet_sup h count t date
    unfolding sheet_sup
    tally-text = rw e

-- ---- a sheet's exact areas

module _ (h : Header) (count : ℕ) (t : Tables) (x : Taken) (e : x ≡ tally_of h count t) where
  pub exact-good : Good x.tally.figures
  exact-good = rw e (tally-good h count t)

  pub exact-is : (y : Option ℤ) → y ≡ total_of (exact_total h.kind x.tally.figures) → (a : List ℤ) → a ≡ exact_areas h.kind x.tally.figures
      → record { outcome = x.outcome; figures = x.tally.figures; total = y; areas = a } ≡ exact_of h count t
  unfolding exact_of
  exact-is y ey a ea = rw (ey, ea, e)
