-- The ways of the functions that read loose mode's form of a real, from the left. Assumes nothing.
use Rattle.std.proofs.Common.{◌≡◌, ℕ, zero, suc, ◌+◌, ◌-◌, ◌*◌, ◌<◌, ◌≤◌, Bool, true, false, cond, List, [], ◌∷◌, ◌++◌, length, get_or, take, drop, sym, refl, ap, ◌∙◌, pow-suc, add-one, arith, length-drop, length-take, length-take-le, get_or-drop, take_all, get_or-take, take-suc, take-take, drop-drop, take-add, drop_at, eq-eqb, ne_eqb, le-leb}
use Rattle.laws.specs.Lists.{run, all, tail}
use Rattle.laws.proofs.Choice.{and_left, and_right}
use Rattle.laws.proofs.ListLaws.{left, left-none, rest-is, run-stop, run-from, all-run, all-weaken}
use Rattle.std.specs.Prelude.{Some, Ok}
use Rattle.record.specs.declared.Mode.TheVariants.{Loose}
use Rattle.record.specs.Record.{plain}
use Rattle.record.specs.RecordView.{crlf, lf}
use Rattle.number.specs.Words.{blank, unled}
use Rattle.number.specs.Number.{digit, value, ended, sign_of, signs, signed, thousandths, is_token, real_is, real_at, real_signed, real_of}
use Rattle.number.proofs.IntegerWays.{eight, digit-is, digit-from}
use Rattle.number.proofs.NumberLaws.{ended-nothing, real-in}
use Rattle.spelling.proofs.DigitLaws.{value-last}
use Rattle.token.specs.Lex.{lift, lex_of}
use Rattle.quick.specs.Brisk.{Leads, Worthy, Briskly, EndsAt}
use Rattle.quick.specs.Seen.{RealAt}
use Rattle.quick.proofs.Twelve.{Figure}
use Rattle.quick.proofs.Tokens.{all_join, digit-plain, blank-plain, plus-most, minus-most, lift-plus}
use Rattle.quick.proofs.Places.{line_at}

all_snoc : (p : ℕ → Bool) (s : List ℕ) (b : ℕ) → all p s ≡ true → p b ≡ true → all p (s ++ (b ∷ [])) ≡ true
unfolding all
all_snoc p [] b e f = rw f
all_snoc p (x ∷ s) b e f = rw (and_left (p x) (all p s) e) (all_snoc p s b (and_right (p x) (all p s) e) f)

pub leads-start : (u : List ℕ) → Leads u 0 0
unfolding all value
leads-start u = record { within = omega arith; inside = omega arith; digits = refl; number = refl; small = omega arith }

pub leads-on : (u : List ℕ) (i v w : ℕ) → Leads u i v → i < length u → i ≤ 7 → Figure (get_or u i 0) w → w ≤ 9 → Leads u (i + 1) (v * 10 + w)
leads-on u i v w l h k f n =
    let x = f n in
    record {
      within = omega arith;
      inside = omega arith;
      digits = rw (add-one, take-suc u i 0 h) (all_snoc digit (take i u) (get_or u i 0) l.digits (digit-is (get_or u i 0) x.0 x.1));
      number = rw (add-one, take-suc u i 0 h, value-last 0 (take i u) (get_or u i 0), x.2, l.number);
      small = rw add-one (omega (arith, pow-suc 10 i, l.small, n));
    }

pub leads-most : (u : List ℕ) (n v : ℕ) → Leads u n v → v < 100000000
leads-most u n v l = omega (arith, l.small, eight n l.within)

run-three : (s : List ℕ) (a b c : ℕ) → s ≡ a ∷ b ∷ c ∷ [] → digit a ≡ true → digit b ≡ true → digit c ≡ true → run digit s ≡ 3
unfolding run
run-three s a b c e p q r = rw (e, p, q, r)

worth-three : (u : List ℕ) (n v x y z : ℕ) → v ≡ value 0 (take n u) → take 3 (drop (n + 1) u) ≡ get_or u (n + 1) 0 ∷ get_or u (n + 2) 0 ∷ get_or u (n + 3) 0 ∷ []
    → x ≡ get_or u (n + 1) 0 - 48 → y ≡ get_or u (n + 2) 0 - 48 → z ≡ get_or u (n + 3) 0 - 48 → v * 1000 + (x * 100 + y * 10 + z) ≡ thousandths u n
unfolding thousandths value
worth-three u n v x y z e t p q r = rw (← e, t) (omega arith)

pub body_is : (u : List ℕ) (n v x y z : ℕ) → Leads u n v → 1 ≤ n → n + 5 ≤ length u → get_or u n 0 ≡ 46
    → Figure (get_or u (n + 1) 0) x → x ≤ 9 → Figure (get_or u (n + 2) 0) y → y ≤ 9 → Figure (get_or u (n + 3) 0) z → z ≤ 9
    → 0 < n + 4 → Worthy u (n + 4 - 4) (v * 1000 + (x * 100 + y * 10 + z))
body_is u n v x y z l h k p fx x9 fy y9 fz z9 _ =
    let e : n + 4 - 4 ≡ n = omega arith in
    rw e (record { least = h; most = l.within; inside = k; whole = l.digits; point = p; places = runs; worth = worth })
  where
    three : take 3 (drop (n + 1) u) ≡ get_or u (n + 1) 0 ∷ get_or u (n + 2) 0 ∷ get_or u (n + 3) 0 ∷ []
    three =
        let a : n + 1 + 1 ≡ n + 2 = omega arith in
        let b : n + 2 + 1 ≡ n + 3 = omega arith in
        rw (left u (n + 1) 0 (omega arith), a, left u (n + 2) 0 (omega arith), b, left u (n + 3) 0 (omega arith))

    runs : run digit (take 3 (drop (n + 1) u)) ≡ 3
    runs = run-three (take 3 (drop (n + 1) u)) (get_or u (n + 1) 0) (get_or u (n + 2) 0) (get_or u (n + 3) 0) three
        (digit-is (get_or u (n + 1) 0) (fx x9).0 (fx x9).1) (digit-is (get_or u (n + 2) 0) (fy y9).0 (fy y9).1) (digit-is (get_or u (n + 3) 0) (fz z9).0 (fz z9).1)

    worth : v * 1000 + (x * 100 + y * 10 + z) ≡ thousandths u n
    worth = worth-three u n v x y z l.number three (fx x9).2 (fy y9).2 (fz z9).2

-- a part of a part
pub drop_of_take : (d m : ℕ) (t : List ℕ) → d ≤ length t → drop d (take (d + m) t) ≡ take m (drop d t)
drop_of_take d m t h = rw (take-add d m t) (drop_at (take d t) (take m (drop d t)) d (length-take-le d t h))

run_take : (p : ℕ → Bool) (e : ℕ) (t : List ℕ) → run p t ≤ e → run p (take e t) ≡ run p t
unfolding run
run_take p zero t h = sym (omega arith)
run_take p (suc e) [] h = refl
run_take p (suc e) (b ∷ s) h = go (p b) refl h (λ k. run_take p e s k)
  where
    go : (y : Bool) → p b ≡ y → cond y (suc (run p s)) 0 ≤ suc e → (run p s ≤ e → run p (take e s) ≡ run p s) → cond y (suc (run p (take e s))) 0 ≡ cond y (suc (run p s)) 0
    go true q k f = ap suc (f (omega arith))
    go false q k f = refl

-- a token that ends its content
module _ (u : List ℕ) (n m : ℕ) (w : Worthy u n m) where
  cut-length : length (take (n + 4) u) ≡ n + 4
  cut-length = let k = w.inside in length-take-le (n + 4) u (omega arith)

  cut-front : take n (take (n + 4) u) ≡ take n u
  cut-front = take-take n (n + 4) u (omega arith)

  cut-point : get_or (take (n + 4) u) n 0 ≡ 46
  cut-point = get_or-take (n + 4) u n 0 (omega arith) ∙ w.point

  cut-places : drop (n + 1) (take (n + 4) u) ≡ take 3 (drop (n + 1) u)
  cut-places = let k = w.inside in let z : n + 4 ≡ n + 1 + 3 = omega arith in rw z (drop_of_take (n + 1) 3 u (omega arith))

  cut-over : drop (n + 4) (take (n + 4) u) ≡ []
  cut-over = left-none (take (n + 4) u) (n + 4) (omega (arith, cut-length))

  cut-stop : run digit (drop n (take (n + 4) u)) ≡ 0
  cut-stop = run-stop digit (take (n + 4) u) n (omega (arith, cut-length)) (rw cut-point)

  cut-run : run digit (take (n + 4) u) ≡ n
  cut-run = run-from digit (take (n + 4) u) n (omega (arith, cut-length)) (rw cut-front w.whole) ∙ rw cut-stop (omega arith)

  cut-worth : thousandths (take (n + 4) u) n ≡ m
  unfolding thousandths
  cut-worth = rw (cut-front, cut-places, take-take 3 3 (drop (n + 1) u) (omega arith)) (sym w.worth)

  cut-ended : ended Loose (drop (n + 4) (take (n + 4) u)) ≡ true
  cut-ended = rw cut-over (ended-nothing Loose)

  cut-shape : (sg : ℕ) → signs sg + n + 4 ≤ 12 → is_token sg (take (n + 4) u) n ≡ true
  unfolding is_token
  cut-shape sg h =
      rw (le-leb 1 n w.least, le-leb n 8 w.most, eq-eqb (get_or (take (n + 4) u) n 0) 46 cut-point, cut-places, w.places, le-leb (signs sg + n + 4) 12 h)

  cut-real : (size sg : ℕ) → signs sg + n + 4 ≤ 12 → real_at Loose size sg (take (n + 4) u) ≡ Some (signed sg m)
  unfolding real_at real_is
  cut-real size sg h = rw (cut-run, cut-shape sg h, cut-ended, cut-worth)

  three-plain : all plain (take 3 (drop (n + 1) u)) ≡ true
  three-plain =
      let l : length (take 3 (drop (n + 1) u)) ≤ 3 = simp length-take (omega arith) in
      all-weaken digit plain digit-plain (take 3 (drop (n + 1) u))
      (rw (w.places, take_all 3 (take 3 (drop (n + 1) u)) l) at (all-run digit (take 3 (drop (n + 1) u))))

  rest_plain : all plain (drop n (take (n + 4) u)) ≡ true
  unfolding all
  rest_plain = rw (left (take (n + 4) u) n 0 (omega (arith, cut-length)), cut-point, cut-places) three-plain

  cut-plain : all plain (take (n + 4) u) ≡ true
  cut-plain = all_join plain n (take (n + 4) u) (rw cut-front (all-weaken digit plain digit-plain (take n u) w.whole)) rest_plain

  first-digit : digit (get_or u 0 0) ≡ true
  unfolding run
  first-digit = go (digit (get_or u 0 0)) refl
    where
      go : (x : Bool) → digit (get_or u 0 0) ≡ x → x ≡ true
      go true e = refl
      go false e =
          let k = w.inside in
          let z : run digit (take (n + 4) u) ≡ 0 = run-stop digit (take (n + 4) u) 0 (omega (arith, cut-length)) (rw (get_or-take (n + 4) u 0 0 (omega arith)) e) in
          absurd (omega (arith, z, cut-run, w.least))

module _ (t : List ℕ) (k : ℕ) (q : k ≡ run blank t) where
  module _ (e : ℕ) (le : k < e) where
    pub blanks-in : run blank (take e t) ≡ k
    blanks-in = run_take blank e t (omega (arith, q)) ∙ sym q

    sign-in : get_or (drop k (take e t)) 0 0 ≡ get_or t k 0
    sign-in = let z : k + 0 ≡ k = omega arith in get_or-drop k (take e t) 0 0 ∙ ap (λ (i : ℕ). get_or (take e t) i 0) z ∙ get_or-take e t k 0 le

    pub front-plain : all plain (take k (take e t)) ≡ true
    front-plain = all-weaken blank plain blank-plain (take k (take e t)) (rw (← blanks-in) (all-run blank (take e t)))

  module _ (n m : ℕ) where
    -- without a sign
    module _ (h : k ≤ length t) (w : Worthy (drop k t) n m) where
      plain-cut : drop k (take (k + (n + 4)) t) ≡ take (n + 4) (drop k t)
      plain-cut = drop_of_take k (n + 4) t h

      first-here : digit (get_or t k 0) ≡ true
      first-here = let z : k + 0 ≡ k = omega arith in rw (get_or-drop k t 0 0, z) at (first-digit (drop k t) n m w)

      plus-real : real_of Loose (take (k + (n + 4)) t) ≡ Some (signed 0 m)
      unfolding real_of real_signed unled sign_of signs
      plus-real =
          let d = digit-from (get_or t k 0) first-here in
          rw (blanks-in (k + (n + 4)) (omega arith), sign-in (k + (n + 4)) (omega arith), ne_eqb (get_or t k 0) 43 (omega arith), ne_eqb (get_or t k 0) 45 (omega arith), plain-cut)
          (cut-real (drop k t) n m w (length (take (k + (n + 4)) t)) 0 (zero-signs w.most))
        where
          zero-signs : n ≤ 8 → 0 + n + 4 ≤ 12
          zero-signs o = omega arith

      plus-plain : all plain (take (k + (n + 4)) t) ≡ true
      plus-plain = all_join plain k (take (k + (n + 4)) t) (front-plain (k + (n + 4)) (omega arith)) (rw plain-cut (cut-plain (drop k t) n m w))

    -- with a minus
    module _ (h : k + 1 ≤ length t) (s : get_or t k 0 ≡ 45) (w : Worthy (drop (k + 1) t) n m) (o : n ≤ 7) where
      minus-cut : drop (k + 1) (take (k + 1 + (n + 4)) t) ≡ take (n + 4) (drop (k + 1) t)
      minus-cut = drop_of_take (k + 1) (n + 4) t h

      minus-real : real_of Loose (take (k + 1 + (n + 4)) t) ≡ Some (signed 45 m)
      unfolding real_of real_signed unled sign_of signs
      minus-real =
          rw (blanks-in (k + 1 + (n + 4)) (omega arith), sign-in (k + 1 + (n + 4)) (omega arith), s, drop-drop 1 k (take (k + 1 + (n + 4)) t), minus-cut)
          (cut-real (drop (k + 1) t) n m w (length (take (k + 1 + (n + 4)) t)) 45 (omega arith))

      minus-tail : all plain (drop k (take (k + 1 + (n + 4)) t)) ≡ true
      unfolding all
      minus-tail =
          let i = w.inside in
          let l : length (take (k + 1 + (n + 4)) t) ≡ k + 1 + (n + 4) = length-take-le (k + 1 + (n + 4)) t (omega (arith, length-drop (k + 1) t)) in
          rw (left (take (k + 1 + (n + 4)) t) k 0 (omega arith), get_or-take (k + 1 + (n + 4)) t k 0 (omega arith), s, minus-cut) (cut-plain (drop (k + 1) t) n m w)

      minus-plain : all plain (take (k + 1 + (n + 4)) t) ≡ true
      minus-plain = all_join plain k (take (k + 1 + (n + 4)) t) (front-plain (k + 1 + (n + 4)) (omega arith)) minus-tail

lift-minus-all : (m : ℕ) → m ≤ 10000000000 → lift (signed 45 m) ≡ 10000000000 - m
unfolding lift signed
lift-minus-all zero h = refl
lift-minus-all (suc m) h = omega arith

-- the ways of `brisk`
module _ (t : List ℕ) (k g len m : ℕ) (q : k ≡ run blank t) (h : k < length t) (s : (g ≤ 1) × (0 < g → get_or t k 0 ≡ 45))
    (b : 0 < len → Worthy (tail t (k + g)) (len - 4) m) (o : 1 ≤ len) where
  there : Worthy (drop (k + g) t) (len - 4) m
  there = rw (rest-is t (k + g)) at (b o)

  five : len ≡ len - 4 + 4
  five = let w = there.least in omega arith

  pub brisk-inside : k + g + len < length t
  brisk-inside = omega (arith, length-drop (k + g) t, there.inside, five)

  module _ (e : k + g ≡ k) where
    plus-w : Worthy (drop k t) (len - 4) m
    plus-w = rw e at there

    plus-z : real_of Loose (take (k + len) t) ≡ Some (signed 0 m)
    plus-z = rw five (plus-real t k q (len - 4) m (omega arith) plus-w)

    pub plus-small : m ≤ 99999999999
    plus-small = plus-most m (real-in Loose (take (k + len) t) (signed 0 m) plus-z)

    pub brisk-plus : 0 < k + g + len → Briskly t (k + g + len) (m + 10000000000)
    brisk-plus _ =
        rw e (record {
          some = omega arith;
          inside = omega (arith, brisk-inside);
          bytes = rw five (plus-plain t k q (len - 4) m (omega arith) plus-w);
          z = signed 0 m;
          real = plus-z;
          lifted = sym (lift-plus m);
        })

  module _ (n : k + g ≡ k → ⊥) (l : len ≤ 11) where
    one : g ≡ 1
    one = omega (arith, s.0, n)

    minus-w : Worthy (drop (k + 1) t) (len - 4) m
    minus-w = rw one at there

    sign : get_or t k 0 ≡ 45
    sign = s.1 (omega (arith, one))

    minus-z : real_of Loose (take (k + 1 + len) t) ≡ Some (signed 45 m)
    minus-z = rw five (minus-real t k q (len - 4) m (omega arith) sign minus-w (omega arith))

    pub minus-small : m ≤ 9999999999
    minus-small = minus-most m (real-in Loose (take (k + 1 + len) t) (signed 45 m) minus-z)

    pub brisk-minus : 0 < k + g + len → Briskly t (k + g + len) (10000000000 - m)
    brisk-minus _ =
        let i = brisk-inside in
        rw one (record {
          some = omega arith;
          inside = omega (arith, one);
          bytes = rw five (minus-plain t k q (len - 4) m (omega arith) sign minus-w (omega arith));
          z = signed 45 m;
          real = minus-z;
          lifted = sym (lift-minus-all m (omega (arith, minus-small)));
        })

-- the ways of `line_end`
module _ (t : List ℕ) (e : ℕ) (h : e < length t) where
  pub end-lf : get_or t e 0 ≡ 10 → EndsAt t e 1
  end-lf x =
      let z : 0 + e ≡ e = omega arith in
      record { few = omega arith; line = λ l p. line_at Loose t 0 e (10 ∷ []) (omega arith) l p (lf refl refl) (rw z (left t e 0 h ∙ rw x)) }

  pub end-cr : get_or t e 0 ≡ 13 → e + 1 < length t → get_or t (e + 1) 0 ≡ 10 → EndsAt t e 2
  end-cr x k y =
      let z : 0 + e ≡ e = omega arith in
      let a : e + 1 + 1 ≡ e + 2 = omega arith in
      record { few = omega arith; line = λ l p. line_at Loose t 0 e (13 ∷ 10 ∷ []) (omega arith) l p (crlf refl) (rw z (left t e 0 h ∙ rw (x, left t (e + 1) 0 k, y, a))) }

-- the ways of `bare`
module _ (s : List ℕ) (at e v : ℕ) (b : 0 < e → Briskly (tail s at) e v) (o : 1 ≤ e) (l : e ≤ 255) where
  pub bare-in : e < length (tail s at)
  bare-in = (b o).inside

  pub bare-is : (w : ℕ) → (0 < w → EndsAt (tail s at) e w) → (w ≡ 0 → ⊥) → 0 < e + w → RealAt Loose s at (e + w) v
  unfolding lex_of
  bare-is w f n _ =
      let here : Briskly (drop at s) e v = rw (rest-is s at) at (b o) in
      let ends : EndsAt (drop at s) e w = rw (rest-is s at) at (f (omega arith)) in
      record { len = e; line = ends.line l here.bytes; says = rw here.real (ap Ok (sym here.lifted)) }

pub ruleset bare_ways = (bare-in, bare-is)

pub ruleset body_ways = (leads-most, body_is)

pub ruleset brisk_ways = (brisk-inside, plus-small, brisk-plus, minus-small, brisk-minus)

pub ruleset line_end_ways = (end-lf, end-cr)
