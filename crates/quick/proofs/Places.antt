-- Twelve bytes and a line end are a real's record, in every mode. Assumes nothing.
use Rattle.std.proofs.Common.{◌≡◌, ℕ, ◌+◌, ◌-◌, ◌<◌, ◌≤◌, Bool, true, false, List, [], ◌∷◌, ◌++◌, length, get_or, take, drop, sym, refl, ap, ◌∙◌, arith, length-drop, take-append-drop, length-take-le, drop-drop}
use native.Mathlib.Nat.{add-sub_cancel_left}
use Rattle.laws.specs.Lists.{all}
use Rattle.laws.proofs.ListLaws.{left}
use Rattle.record.specs.declared.Mode.{Mode}
use Rattle.record.specs.declared.Mode.TheVariants.{Loose, Exact}
use Rattle.record.specs.Record.{got, is_exact, plain, line_of}
use Rattle.record.specs.RecordView.{LineEnd, crlf, lf}
use Rattle.record.proofs.RecordLaws.{line-make, line_view, line-widens, loose-widens}
use Rattle.number.proofs.NumberLaws.{real-widens}
use Rattle.token.specs.Lex.{lex_of}
use Rattle.token.specs.declared.Want.TheVariants.{Real}
use Rattle.token.proofs.TokenLaws.{says-most, lex-widens}
use Rattle.quick.specs.declared.RealTaken.{RealTaken}
use Rattle.quick.specs.Neat.{Neat, Sound}
use Rattle.quick.specs.Seen.{RealAt, SomeReal, Padded, Ender, cr-lf, lf-alone, Ends, Vertices, more}

-- plain bytes and a line end at a place are a record
pub line_at : (mode : Mode) (s : List ℕ) (at n : ℕ) (e : List ℕ) → at + n ≤ length s → n ≤ 255 → all plain (take n (drop at s)) ≡ true → LineEnd mode e
    → drop (at + n) s ≡ e ++ drop (at + n + length e) s → line_of mode false (drop at s) ≡ got n (n + length e)
line_at mode s at n e h k p l q =
    let c : length (take n (drop at s)) ≡ n = length-take-le n (drop at s) (omega (arith, length-drop at s)) in
    let split : drop at s ≡ take n (drop at s) ++ (e ++ drop (at + n + length e) s) =
    sym (take-append-drop n (drop at s)) ∙ ap (λ (x : List ℕ). take n (drop at s) ++ x) (drop-drop n at s ∙ q) in
    ap (line_of mode false) split ∙ line-make mode false (take n (drop at s)) e (drop (at + n + length e) s) p (omega arith) l ∙ rw c

-- the ways of `ending`
module _ (mode : Mode) (s : List ℕ) (at : ℕ) (h : 14 ≤ length s) (k : at ≤ length s - 14) where
  pub ends-cr : get_or s (at + 12) 0 ≡ 13 → get_or s (at + 13) 0 ≡ 10 → Ends mode s at 14
  ends-cr x y =
      let a : at + 12 + 1 ≡ at + 13 = omega arith in
      let b : at + 13 + 1 ≡ at + 12 + 2 = omega arith in
      let two : drop (at + 12) s ≡ 13 ∷ 10 ∷ drop (at + 12 + 2) s = left s (at + 12) 0 (omega arith) ∙ rw (x, a, left s (at + 13) 0 (omega arith), y, b) in
      record { few = omega arith; inside = omega arith; line = λ p. line_at mode s at 12 (13 ∷ 10 ∷ []) (omega arith) (omega arith) p (crlf refl) two }

  pub ends-lf : (y : Bool) → y ≡ is_exact mode → y ≡ false → get_or s (at + 12) 0 ≡ 10 → Ends mode s at 13
  ends-lf y m f x =
      record {
        few = omega arith;
        inside = omega arith;
        line = λ p. line_at mode s at 12 (10 ∷ []) (omega arith) (omega arith) p (lf (sym m ∙ f) refl) (left s (at + 12) 0 (omega arith) ∙ rw x);
      }

pub ender-cr : {mode : Mode} {n : ℕ} → n ≡ 13 → Ender mode 14 n
ender-cr x = rw x cr-lf

pub ender-lf : {mode : Mode} {n : ℕ} (y : Bool) → y ≡ is_exact mode → y ≡ false → n ≡ 10 → Ender mode 13 n
ender-lf y m f x = rw x (lf-alone (sym m ∙ f))

real_of : (mode : Mode) (s : List ℕ) (at w v : ℕ) → Ends mode s at w → Neat (take 12 (drop at s)) v → Padded mode s at w v
unfolding lex_of
real_of mode s at w v e n =
    record { line = e.line n.bytes; says = rw (real-widens Exact mode refl (take 12 (drop at s)) n.z n.real, n.lifted) }

pub padded-real : {mode : Mode} {s : List ℕ} {at w v : ℕ} → Padded mode s at w v → RealAt mode s at w v
padded-real p = record { len = 12; line = p.line; says = p.says }

-- ---- a real's record in a file

module _ {mode : Mode} {s : List ℕ} {at w v : ℕ} (r : RealAt mode s at w v) where
  pub real-most : v ≤ 109999999999
  real-most =
      let l = line_view mode false (drop at s) r.len w r.line in
      says-most mode Real (take r.len (drop at s)) v (omega (arith, l.counted, l.most)) r.says

  pub real-inside : (0 < w) × (at + w ≤ length s)
  real-inside =
      let l = line_view mode false (drop at s) r.len w r.line in
      (l.some, omega (arith, l.some, l.within, length-drop at s))

pub some-inside : {mode : Mode} {s : List ℕ} {at w : ℕ} → SomeReal mode s at w → (0 < w) × (at + w ≤ length s)
some-inside r = real-inside r.real

-- the ways of `padded` and `padded_width`
module _ (mode : Mode) (s : List ℕ) (at w : ℕ) (f : 0 < w → Ends mode s at w) (o : w ≡ 0 → ⊥) where
  pub twelve-in : at + 12 ≤ length s
  twelve-in = omega (arith, (f (omega arith)).inside)

  module _ (v : ℕ) (g : 0 < v → Neat (take (at + 12 - at) (drop at s)) v) (n : v ≡ 0 → ⊥) where
    real : Padded mode s at w v
    real =
        let p : 0 < v = omega arith in
        real_of mode s at w v (f (omega arith)) (rw (add-sub_cancel_left at 12) at (g p))

    pub padded-is : 0 < w → Padded mode s at w v
    padded-is _ = real

  pub width_is : (b : Bool) → (b ≡ true → Sound (take (at + 12 - at) (drop at s))) → b ≡ true → SomeReal mode s at w
  width_is b g t =
      let p : Sound (take 12 (drop at s)) = rw (add-sub_cancel_left at 12) at (g t) in
      record { v = p.v; real = padded-real (real_of mode s at w p.v (f (omega arith)) p.neat) }

pub quick-real : (mode : Mode) (s : List ℕ) (at : ℕ) (r : RealTaken) → (0 < r.width → Padded mode s at r.width r.value) → 0 < r.width → RealAt mode s at r.width r.value
quick-real mode s at r f o = padded-real (f o)

-- a record of loose mode is one of each mode that is not exact
module _ (mode : Mode) (s : List ℕ) (at : ℕ) (r : RealTaken) (y : Bool) (m : y ≡ is_exact mode) (e : y ≡ false) (f : 0 < r.width → RealAt Loose s at r.width r.value) where
  pub loose-real : 0 < r.width → RealAt mode s at r.width r.value
  loose-real o =
      let l = f o in
      let wide = loose-widens mode (sym m ∙ e) in
      record {
        len = l.len;
        line = line-widens Loose mode wide false (drop at s) l.len r.width l.line;
        says = lex-widens Loose mode wide Real (take l.len (drop at s)) r.value l.says;
      }

  pub loose-width : 0 < r.width → SomeReal mode s at r.width
  loose-width o = record { v = r.value; real = loose-real o }

-- the ways of `vertices`
module _ (mode : Mode) (s : List ℕ) (at k here x y : ℕ) (v : Vertices mode s at k here) (f : 0 < x → SomeReal mode s here x) (n : x ≡ 0 → ⊥) where
  pub past-x : here + x ≤ length s
  past-x = (some-inside (f (omega arith))).1

  module _ (g : 0 < y → SomeReal mode s (here + x) y) (m : y ≡ 0 → ⊥) where
    pub past-y : here + x + y ≤ length s
    past-y = (some-inside (g (omega arith))).1

    pub vertices-on : Vertices mode s at (k + 1) (here + x + y)
    vertices-on = more v (f (omega arith)).real (g (omega arith)).real

pub ruleset ending_ways = (ends-cr, ends-lf, ender-cr, ender-lf)

pub ruleset padded_ways = (twelve-in, padded-is)

pub ruleset padded_width_ways = (twelve-in, width_is)

pub ruleset real_at_ways = (quick-real, loose-real)

pub ruleset width_at_ways = (loose-width)
