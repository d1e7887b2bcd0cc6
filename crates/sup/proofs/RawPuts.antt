-- The ways through the functions that store the listed borders' lines: raw in row order, then arranged. Assumes nothing.
use Prim.Native.Nat.{ℕ, suc, ◌+◌, ◌-◌, ◌^◌, ◌≤◌, ◌<◌}
use mathlib.Core.Path.{◌≡◌, refl, sym, ap, subst, ◌∙◌}
use mathlib.Core.List.{List, [], ◌∷◌, ◌++◌, append_assoc}
use mathlib.Core.Bool.{Bool, true, false, cond}
use native.Mathlib.Nat.{sub-zero}
use native.Mathlib.Omega.{arith}
use lib.ListN.{length, take, drop, length-append}
use lib.Seq.{take_at, drop_at, length-take-le}
use lib.IntN.{ℤ}
use lib.Signed.{mag}
use mir.Syntax.{w64}
use mir.Val.{to_z, of_z}
use Rattle.std.specs.Prelude.{None, Ok}
use Rattle.laws.proofs.Bits.{back}
use Rattle.laws.proofs.Choice.{and_left, and_right}
use Rattle.heading.specs.declared.Header.{Header}
use Rattle.record.specs.declared.Mode.TheVariants.{Loose}
use Rattle.sheet.specs.Tables.{Tables}
use Rattle.made.specs.Made.{tables_of, letters_of, none_before, judge_rows}
use Rattle.row.specs.declared.Stand.{Stand}
use Rattle.row.specs.Walk.{first_stand, stand_after, left_at}
use Rattle.spelling.specs.Figures.{is_narrow}
use Rattle.spelling.specs.Stored.{Stored}
use Rattle.writer.specs.Put.{Put}
use Rattle.writer.proofs.Putting.{Putting, putting-start, putting-room, putting-on, putting-end, stored_on, stored_last}
use Rattle.order.specs.Windows.{Small}
use Rattle.order.specs.Sorting.{insert, sort_into, EachOf, EachOf.each_nil, EachOf.each_on}
use Rattle.order.specs.SupBorders.{is_in_sup, with_if, sup_borders, sup_borders_from, first_long}
use Rattle.order.specs.SupOrder.{net_left, goes_before, sup_in_order}
use Rattle.order.proofs.LongLaws.{Fits, codes-fit}
use Rattle.sorting.specs.Lines.{joined, sorted_lines}
use Rattle.sup.specs.Metres.{metres_of}
use Rattle.sup.specs.Lines.{left_field, fields_line, lines_text}
use Rattle.sup.specs.Sup.{listed_lines, figures_in}
use Rattle.sup.specs.Answer.{code_nets, codes_in_order}
use Rattle.sup.specs.Printing.{are_narrow, metres_left}
use Rattle.sup.specs.Raw.{raw_field, figured_lines, raw_line, raw_text}
use Rattle.sup.proofs.LineWays.{line-left, line-right}
use Rattle.sup.proofs.ListedWays.{Narrow}
use Rattle.sup.proofs.RawOrder.{Ready, listed-ready, arranged, arranged-length}

-- ---- one line, with what the code has in hand: the letters, the figure's bytes

module _ (rows : List ℤ) (letters islands : List ℕ) (points : List ℤ) (d : Stand)
    (z : ℤ) (q : z ≡ metres_left (left_at (tables_of rows letters islands points) d)) (m : mag z < 2 ^ 63) where
  abbrev left : Tables
  left = left_at (tables_of rows letters islands points) d

  figure-is : to_z w64 (of_z w64 z) ≡ metres_left left
  figure-is = back z m ∙ q

  pub raw-narrow : is_narrow (metres_left left) ≡ true → is_narrow (to_z w64 (of_z w64 z)) ≡ true
  raw-narrow n = rw figure-is n

  module _ (f : List ℕ) (g : f ≡ raw_field (to_z w64 (of_z w64 z))) (s : List ℕ) (e : s ≡ letters_of (left_at (tables_of rows letters [] []) d)) where
    raw-is : fields_line s f ≡ raw_line left
    unfolding raw_line
    raw-is = rw (g, figure-is, e)

    raw-room : (at size : ℕ) → at + length (raw_line left) ≤ size → at + length (fields_line s f) ≤ size
    raw-room at size r = rw raw-is r

    pub raw-asks : (l : List ℕ) (at : ℕ) → length (letters_of left) ≤ 11 → at + length (raw_line left) ≤ length l
        → (length s ≤ 11) × (at + length (left_field s) ≤ length l)
    raw-asks l at h r = (rw e h, line-left l at s f (raw-room at (length l) r))

    pub raw-put : (l : List ℕ) (at : ℕ) → at + length (raw_line left) ≤ length l → {a b o : List ℕ} {i j r : ℕ} → Put l at (left_field s) a i → Stored a i f b j
        → Stored b j (13 ∷ 10 ∷ []) o r → Put l at (raw_line left) o r
    raw-put l at h {a} {b} {o} {i} {j} {r} x y w =
        subst (λ (v : List ℕ). Put l at v o r) raw-is (stored_last (stored_on (line-right l at s f (raw-room at (length l) h) x) f (13 ∷ 10 ∷ []) refl y) w)

-- ---- what holds of each in order holds of each in row order

module _ {A : Type 0} (lt : A → A → Bool) (P : A → Type 0) where
  each-out : (x : A) (s : List A) → EachOf P (insert lt x s) → P x × EachOf P s
  unfolding insert
  each-out x [] (each_on p e) = (p, e)
  each-out x (y ∷ s) e = go (lt x y) (each-out x s) e
    where
      go : (b : Bool) → (EachOf P (insert lt x s) → P x × EachOf P s) → EachOf P (cond b (x ∷ y ∷ s) (y ∷ insert lt x s)) → P x × EachOf P (y ∷ s)
      go true f (each_on p e) = (p, e)
      go false f (each_on p e) = ((f e).0, each_on p (f e).1)

  each-unsorted : (acc s : List A) → EachOf P (sort_into lt acc s) → EachOf P acc × EachOf P s
  unfolding sort_into
  each-unsorted acc [] e = (e, each_nil)
  each-unsorted acc (x ∷ s) e = let f = each-unsorted (insert lt x acc) s e in let g = each-out x acc f.0 in (g.1, each_on g.0 f.1)

row-order : (P : Stand → Type 0) (h : Header) (count : ℕ) (t : Tables) → EachOf P (sup_in_order h count t) → EachOf P (sup_borders h count t)
unfolding sup_in_order
row-order P h count t e = (each-unsorted (goes_before t) P [] (sup_borders h count t) e).1

each-narrow : (t : Tables) (s : List Stand) → are_narrow (figures_in (listed_lines (code_nets t s))) ≡ true → EachOf (Narrow t) s
unfolding are_narrow figures_in listed_lines code_nets metres_left
each-narrow t [] e = each_nil
each-narrow t (d ∷ s) e =
    let rest = are_narrow (figures_in (listed_lines (code_nets t s))) in
    each_on (and_left (is_narrow (metres_of (net_left (left_at t d)))) rest e) (each-narrow t s (and_right (is_narrow (metres_of (net_left (left_at t d)))) rest e))

rows-narrow : (h : Header) (count : ℕ) (t : Tables) → are_narrow (figures_in (listed_lines (codes_in_order h count t))) ≡ true → EachOf (Narrow t) (sup_borders h count t)
unfolding codes_in_order
rows-narrow h count t e = row-order (Narrow t) h count t (each-narrow t (sup_in_order h count t) e)

-- ---- the loop over rows: the lines of those behind it are stored

first : {P : Stand → Type 0} {d : Stand} {s : List Stand} → EachOf P (d ∷ s) → P d
first (each_on p e) = p

others : {P : Stand → Type 0} {d : Stand} {s : List Stand} → EachOf P (d ∷ s) → EachOf P s
others (each_on p e) = e

none_left : (h : Header) (t : Tables) (d : Stand) (n : ℕ) → n ≡ 0 → raw_text t (sup_borders_from h t n d) ≡ []
unfolding sup_borders_from joined
none_left h t d n z = rw z

pub record RawStoring (h : Header) (count : ℕ) (t : Tables) (l : List ℕ) (at : ℕ) (out : List ℕ) (d : Stand) (next k : ℕ) : Type 0 where
  pub within : k ≤ count
  pub fits : EachOf (Fits t) (sup_borders_from h t (count - k) d)
  pub narrow : EachOf (Narrow t) (sup_borders_from h t (count - k) d)
  pub puts : Putting l at (raw_text t (sup_borders h count t)) out next (raw_text t (sup_borders_from h t (count - k) d))

pub raws-start : (h : Header) (count : ℕ) (t : Tables) (l : List ℕ) (at : ℕ) → first_long h count t ≡ None
    → are_narrow (figures_in (listed_lines (codes_in_order h count t))) ≡ true → at + length (raw_text t (sup_borders h count t)) ≤ length l
    → RawStoring h count t l at l first_stand at 0
raws-start h count t l at c n r =
    record {
      within = omega arith;
      fits = rw (sub-zero count) (row-order (Fits t) h count t (codes-fit h count t c));
      narrow = rw (sub-zero count) (rows-narrow h count t n);
      puts = rw (sub-zero count) (putting-start l at (raw_text t (sup_borders h count t)) r);
    }

module _ {h : Header} {count : ℕ} {t : Tables} {l : List ℕ} {at : ℕ} {out : List ℕ} {d : Stand} {next k : ℕ} (g : RawStoring h count t l at out d next k) where
  pub raws-end : count ≤ k → Put l at (raw_text t (sup_borders h count t)) out next
  raws-end e = putting-end g.puts (none_left h t d (count - k) (omega arith))

  module _ (e : k < count) (b : Bool) (q : b ≡ is_in_sup h (left_at t d)) where
    abbrev rest : List Stand
    rest = sup_borders_from h t (count - (k + 1)) (stand_after t.rows d)

    here : sup_borders_from h t (count - k) d ≡ with_if b d rest
    unfolding sup_borders_from
    here = let m : count - k ≡ suc (count - (k + 1)) = omega arith in rw (m, ← q)

    module _ (f : b ≡ true) where
      listed : sup_borders_from h t (count - k) d ≡ d ∷ rest
      listed = here ∙ rw f

      text-here : raw_text t (sup_borders_from h t (count - k) d) ≡ raw_line (left_at t d) ++ raw_text t rest
      unfolding joined
      text-here = rw listed

      pub raws-fits : Fits t d
      raws-fits = first (subst (EachOf (Fits t)) listed g.fits)

      pub raws-narrow : Narrow t d
      raws-narrow = first (subst (EachOf (Narrow t)) listed g.narrow)

      pub raws-room : next + length (raw_line (left_at t d)) ≤ length out
      raws-room = putting-room g.puts (raw_line (left_at t d)) (raw_text t rest) text-here

      pub raws-on : {o : List ℕ} {n : ℕ} → Put out next (raw_line (left_at t d)) o n → (a : List ℕ) (i : ℕ) (s : Stand) → a ≡ o → i ≡ n → s ≡ stand_after t.rows d
          → RawStoring h count t l at a s i (k + 1)
      raws-on p a i s u v w =
          rw (u, v, w) (record {
            within = omega arith;
            fits = others (subst (EachOf (Fits t)) listed g.fits);
            narrow = others (subst (EachOf (Narrow t)) listed g.narrow);
            puts = putting-on g.puts (raw_line (left_at t d)) (raw_text t rest) text-here p;
          })

    pub raws-past : b ≡ false → (a : List ℕ) (i : ℕ) (s : Stand) → a ≡ out → i ≡ next → s ≡ stand_after t.rows d → RawStoring h count t l at a s i (k + 1)
    raws-past f a i s u v w =
        let z : sup_borders_from h t (count - k) d ≡ rest = here ∙ rw f in
        rw (u, v, w) (record {
          within = omega arith;
          fits = subst (EachOf (Fits t)) z g.fits;
          narrow = subst (EachOf (Narrow t)) z g.narrow;
          puts = subst (λ (x : List Stand). Putting l at (raw_text t (sup_borders h count t)) out next (raw_text t x)) z g.puts;
        })

-- ---- the whole list

module _ (h : Header) (count : ℕ) (t : Tables) (m : Small t) (f : judge_rows Loose count none_before t ≡ Ok tt) (c : first_long h count t ≡ None)
    (n : are_narrow (figures_in (listed_lines (codes_in_order h count t))) ≡ true) where
  abbrev raw : List ℕ
  raw = raw_text t (sup_borders h count t)

  abbrev text : List ℕ
  text = lines_text (listed_lines (codes_in_order h count t))

  ready : EachOf (Ready t) (sup_borders h count t)
  ready = listed-ready h count t m f (row-order (Fits t) h count t (codes-fit h count t c)) (rows-narrow h count t n)

  same-room : length raw ≡ length text
  same-room = arranged-length h count t ready

  pub list-room : (l : List ℕ) (at : ℕ) → at + length text ≤ length l → at + length raw ≤ length l
  list-room l at r = rw same-room r

  module _ (l : List ℕ) (at : ℕ) (r : at + length text ≤ length l) {o : List ℕ} {end : ℕ} (p : Put l at raw o end) where
    at_front : length (take at l) ≡ at
    at_front = length-take-le at l (omega arith)

    abbrev past : List ℕ
    past = drop (at + length raw) l

    stored_is : o ≡ take at l ++ (raw ++ past)
    stored_is = p.is ∙ append_assoc (take at l) raw past

    size_is : end - at ≡ length raw
    size_is = omega (arith, p.next)

    tail-is : drop at o ≡ raw ++ past
    tail-is = ap (drop at) stored_is ∙ drop_at (take at l) (raw ++ past) at at_front

    part-is : take (end - at) (drop at o) ≡ raw
    part-is = rw (tail-is, size_is) (take_at raw past (length raw) refl)

    pub list-from : at ≤ end
    list-from = omega (arith, p.next)

    pub list-to : end ≤ length o
    list-to = omega (arith, p.next, same-room, ap length stored_is, length-append (take at l) (raw ++ past), length-append raw past, at_front)

    pub list_done : (e : List ℕ) → e ≡ figured_lines (sorted_lines (take (end - at) (drop at o))) → Put l at text (take at o ++ (e ++ drop (end - at) (drop at o))) end
    list_done e q =
        let x : e ≡ text = q ∙ ap (λ (y : List ℕ). figured_lines (sorted_lines y)) part-is ∙ arranged h count t ready in
        let a : take at o ≡ take at l = ap (take at) stored_is ∙ take_at (take at l) (raw ++ past) at at_front in
        let b : drop (end - at) (drop at o) ≡ past = rw (tail-is, size_is) (drop_at raw past (length raw) refl) in
        record {
          is = rw (x, a, b, same-room) (sym (append_assoc (take at l) text (drop (at + length text) l)));
          next = p.next ∙ rw same-room;
        }
