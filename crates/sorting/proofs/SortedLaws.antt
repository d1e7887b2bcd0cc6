-- Lines that were exchanged until they are in order are the lines sorted. Assumes nothing.
use Prim.Native.Nat.{ℕ, ◌+◌, ◌*◌, ◌/◌, ◌≤◌, ◌<◌}
use mathlib.Core.Path.{◌≡◌, refl, sym, ap, ◌∙◌}
use mathlib.Core.List.{List, []}
use mathlib.Core.Bool.{false}
use native.Mathlib.Omega.{arith}
use native.Mathlib.Nat.{mul-div-le, lt-mul-div-succ, zero-add}
use lib.ListN.{length, take, drop, take-append-drop}
use lib.Seq.{length-take-le}
use Rattle.std.specs.declared.cmp.Ordering.{Ordering}
use Rattle.std.specs.declared.cmp.Ordering.TheVariants.{Less, Equal, Greater}
use Rattle.order.specs.Compare.{is_before, by_bytes}
use Rattle.order.specs.Sorting.{sort_by, EachOf}
use Rattle.order.proofs.SortLaws.{each-sort, length-sort}
use Rattle.order.proofs.CompareLaws.{turned, bytes-total, bytes_eq, not_through, not-both}
use Rattle.laws.proofs.Choice.{false≢true}
use Rattle.sorting.specs.Lines.{line_width, lines_in, joined, bytes_before, sorted_lines}
use Rattle.sorting.specs.Exchanges.{Exchanges, Exchanges.none_yet, Exchanges.one_more, InOrder}
use Rattle.sorting.proofs.SwapLaws.{Strict, sort-set, sorted-stays}
use Rattle.sorting.proofs.LineLaws.{lines-length, lines-exchanged, lines-sorted, lines-joined, exchanged-length, exchanged-rest, Whole, joined_length, joined-lines, joined-count, over-all}

bytes-alike : (a b : List ℕ) → bytes_before a b ≡ false → bytes_before b a ≡ false → a ≡ b
bytes-alike a b e d = go (by_bytes a b) refl
  where
    go : (x : Ordering) → by_bytes a b ≡ x → a ≡ b
    go Less q = absurd (false≢true (sym e ∙ ap is_before q))
    go Equal q = bytes_eq a b q
    go Greater q = absurd (false≢true (sym d ∙ ap is_before (bytes-total.turn a b ∙ ap turned q)))

pub bytes-strict : Strict bytes_before
bytes-strict = record { through = not_through by_bytes bytes-total; turn = not-both by_bytes bytes-total; alike = bytes-alike }

-- ---- exchanges alter neither the length, nor what is left behind the lines, nor the lines once they are sorted

pub exchanges-length : {s t : List ℕ} → Exchanges s t → length t ≡ length s
exchanges-length none_yet = refl
exchanges-length (one_more {t} {u} e i j h k q) = ap length q ∙ exchanged-length t i j h k ∙ exchanges-length e

module _ (n : ℕ) where
  pub exchanges-rest : {s t : List ℕ} → Exchanges s t → length s < line_width * n + line_width → drop (line_width * n) t ≡ drop (line_width * n) s
  exchanges-rest none_yet l = refl
  exchanges-rest (one_more {t} {u} e i j h k q) l =
      ap (drop (line_width * n)) q ∙ exchanged-rest t i j h k n (omega (arith, exchanges-length e)) ∙ exchanges-rest e l

  pub exchanges-sorted : {s t : List ℕ} → Exchanges s t → length s < line_width * n + line_width → sort_by bytes_before (lines_in n t) ≡ sort_by bytes_before (lines_in n s)
  exchanges-sorted none_yet l = refl
  exchanges-sorted (one_more {t} {u} e i j h k q) l =
      let m : j < n = omega (arith, exchanges-length e) in
      ap (λ (x : List ℕ). sort_by bytes_before (lines_in n x)) q
      ∙ ap (sort_by bytes_before) (lines-exchanged n t i j h k m)
      ∙ sort-set bytes-strict (lines_in n t) i j [] h (omega (arith, lines-length n t))
      ∙ exchanges-sorted e l

-- ---- the whole

pub lines-few : (s : List ℕ) → line_width * (length s / line_width) ≤ length s
lines-few s = mul-div-le (length s) line_width

pub sorted-is : {s t : List ℕ} → Exchanges s t → InOrder (length s / line_width) t → t ≡ sorted_lines s
unfolding sorted_lines
sorted-is {s} {t} e o =
    let n : ℕ = length s / line_width in
    let l : length s < line_width * n + line_width = omega (arith, lt-mul-div-succ (length s) {b = 23} (omega arith)) in
    let g : joined (sort_by bytes_before (lines_in n s)) ≡ take (line_width * n) t
    = ap joined (sym (exchanges-sorted n e l) ∙ sorted-stays bytes-strict (lines-sorted n t o)) ∙ lines-joined n t in
    let m : length (take (line_width * n) t) ≡ line_width * n = length-take-le (line_width * n) t (omega (arith, exchanges-length e, lines-few s)) in
    sym (take-append-drop (line_width * n) t) ∙ rw (g, m, exchanges-rest n e l)

-- ---- of lines that stand one behind the other

pub sorted-joined : {l : List (List ℕ)} → EachOf Whole l → sorted_lines (joined l) ≡ joined (sort_by bytes_before l)
unfolding sorted_lines
sorted-joined {l} e =
    let n = joined-count e in
    let w : EachOf Whole (sort_by bytes_before l) = each-sort bytes_before Whole [] l EachOf.each_nil e in
    rw (n, joined-lines e) (over-all (joined (sort_by bytes_before l)) (joined l) (joined_length w ∙ ap (λ (k : ℕ). line_width * k) (length-sort bytes_before [] l ∙ zero-add (length l)) ∙ sym (joined_length e)))
