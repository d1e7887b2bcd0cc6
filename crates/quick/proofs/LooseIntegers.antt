-- Blanks, digits, what the mode lets stand behind them, and a line end are an integer's record of a mode that is not exact. Assumes nothing.
use Rattle.std.proofs.Common.{◌≡◌, ℕ, zero, suc, ◌+◌, ◌-◌, ◌<◌, ◌≤◌, Bool, true, false, not, List, [], ◌∷◌, length, get_or, take, drop, sym, refl, ap, ◌∙◌, arith, length-drop, length-take, get_or-drop, get_or-take, take-take, drop-drop, eqb-true, le-leb}
use borrow.Author.Tests.{not-false}
use Rattle.laws.specs.Lists.{run, all, tail}
use Rattle.laws.proofs.Choice.{and_left}
use Rattle.laws.proofs.ListLaws.{rest-is, run-from, all-run, all-each, all-weaken}
use Rattle.std.specs.Prelude.{Some}
use Rattle.record.specs.declared.Mode.{Mode}
use Rattle.record.specs.declared.Mode.TheVariants.{Loose, Exact, Former}
use Rattle.record.specs.Record.{is_exact, is_former, plain}
use Rattle.record.proofs.RecordLaws.{line-widens, loose-widens}
use Rattle.number.specs.Words.{blank, unled}
use Rattle.number.specs.Number.{digit, parted, ended, integer_is, integer_at, integer_of}
use Rattle.number.proofs.IntegerWays.{digit-from}
use Rattle.number.proofs.NumberLaws.{ended-widens}
use Rattle.token.specs.Lex.{lex_of}
use Rattle.quick.specs.Brisk.{Leads, Loosely, EndsAt}
use Rattle.quick.specs.Seen.{IntegerAt}
use Rattle.quick.proofs.Tokens.{all_join, digit-plain, blank-plain}
use Rattle.quick.proofs.Leading.{drop_of_take, blanks-in, front-plain}

-- what loose mode lets stand behind a number, every mode does
ended-loose : (mode : Mode) (s : List ℕ) → ended Loose s ≡ true → ended mode s ≡ true
unfolding ended
ended-loose Loose s e = e
ended-loose Exact s e = e
ended-loose Former s e = ended-widens Loose Former refl s e

-- no digit stands first of what may stand behind a number
parted-run : (s : List ℕ) → parted s ≡ true → run digit s ≡ 0
unfolding parted run
parted-run [] e = refl
parted-run (b ∷ s) e = rw (eqb-true b 32 e)

ended-run : (mode : Mode) (s : List ℕ) → ended mode s ≡ true → run digit s ≡ 0
unfolding ended
ended-run Loose s e = parted-run s (ended-widens Loose Former refl s e)
ended-run Exact s e = parted-run s (ended-widens Exact Former refl s e)
ended-run Former s e = parted-run s e

-- n digits, and j bytes behind them
module _ (mode : Mode) (u : List ℕ) (n v j : ℕ) (l : Leads u n v) (q : ended mode (take j (drop n u)) ≡ true) where
  cut-behind : drop n (take (n + j) u) ≡ take j (drop n u)
  cut-behind = drop_of_take n j u l.inside

  cut-digits : take n (take (n + j) u) ≡ take n u
  cut-digits = take-take n (n + j) u (omega arith)

  cut-run : run digit (take (n + j) u) ≡ n
  cut-run =
      let h : n ≤ length (take (n + j) u) = simp length-take (omega (arith, l.inside)) in
      run-from digit (take (n + j) u) n h (rw cut-digits l.digits) ∙ rw (cut-behind, ended-run mode (take j (drop n u)) q) (omega arith)

  cut-integer : (size : ℕ) → is_exact mode ≡ false → 1 ≤ n → n ≤ 4 → integer_at mode size (take (n + j) u) ≡ Some v
  unfolding integer_at integer_is
  cut-integer size x a b = rw (cut-run, le-leb 1 n a, le-leb n 4 b, cut-behind, q, x, cut-digits) (ap Some (sym l.number))

  cut-plain : all plain (take j (drop n u)) ≡ true → all plain (take (n + j) u) ≡ true
  cut-plain p = all_join plain n (take (n + j) u) (rw cut-digits (all-weaken digit plain digit-plain (take n u) l.digits)) (rw cut-behind p)

-- the first e bytes are plain, and an integer
module _ (mode : Mode) (t : List ℕ) (e v : ℕ) (y : Loosely mode t e v) where
  cut : drop y.k (take (y.k + (y.n + y.j)) t) ≡ take (y.n + y.j) (drop y.k t)
  cut = drop_of_take y.k (y.n + y.j) t (omega (arith, y.size, y.inside))

  loosely-plain : all plain (take e t) ≡ true
  loosely-plain =
      rw y.size
      (all_join plain y.k (take (y.k + (y.n + y.j)) t) (front-plain t y.k y.blanks (y.k + (y.n + y.j)) (omega arith))
      (rw cut (cut-plain mode (drop y.k t) y.n v y.j y.leads y.behind y.bytes)))

  loosely-whole : is_exact mode ≡ false → integer_of mode (take e t) ≡ Some v
  unfolding integer_of unled
  loosely-whole x =
      rw y.size
      (rw (blanks-in t y.k y.blanks (y.k + (y.n + y.j)) (omega arith), cut)
      (cut-integer mode (drop y.k t) y.n v y.j y.leads y.behind (length (take (y.k + (y.n + y.j)) t)) x y.least y.most))

-- the ways of `loose_body`
module _ (t : List ℕ) (k n v j : ℕ) (q : k ≡ run blank t) (h : k ≤ length t) (g : Leads (tail t k) n v) (a : 1 ≤ n) (b : n ≤ 4) where
  module _ (p : j ≡ run blank (tail t (k + n))) (i : k + n + j < length t) where
    blanks-behind : all blank (take j (drop n (drop k t))) ≡ true
    blanks-behind =
        let e : j ≡ run blank (drop n (drop k t)) = rw (rest-is t (k + n), ← drop-drop n k t) at p in
        rw e (all-run blank (drop n (drop k t)))

    pub loosely : 0 < k + n + j → Loosely Loose t (k + n + j) v
    unfolding ended
    loosely _ =
        record {
          k = k;
          n = n;
          j = j;
          blanks = q;
          leads = rw (rest-is t k) at g;
          least = a;
          most = b;
          size = omega arith;
          inside = i;
          behind = blanks-behind;
          bytes = all-weaken blank plain blank-plain (take j (drop n (drop k t))) blanks-behind;
        }

-- where the last byte is a blank, some stand behind the digits
some-behind : (t : List ℕ) (k n v j : ℕ) → Leads (drop k t) n v → 1 ≤ n → get_or t (k + (n + j) - 1) 0 ≡ 32 → 1 ≤ j
some-behind t k n v (suc j) l a z = omega arith
some-behind t k n v zero l a z =
    let c = take n (drop k t) in
    let i : k + (n + 0) - 1 ≡ k + (n - 1) = omega arith in
    let last : get_or c (n - 1) 0 ≡ 32 = get_or-take n (drop k t) (n - 1) 0 (omega arith) ∙ get_or-drop k t (n - 1) 0 ∙ (rw i at z) in
    absurd (omega (arith, last, digit-from (get_or c (n - 1) 0) (all-each digit c (n - 1) l.digits (simp length-take (omega (arith, l.inside))))))

-- blanks and more begin with a blank
blanks-part : (s : List ℕ) (j i : ℕ) → 1 ≤ j → 1 ≤ i → ended Loose (take j s) ≡ true → parted (take i s) ≡ true
unfolding ended parted all
blanks-part s zero i h k e = absurd (omega arith)
blanks-part s (suc j) zero h k e = absurd (omega arith)
blanks-part [] (suc j) (suc i) h k e = refl
blanks-part (b ∷ s) (suc j) (suc i) h k e = and_left (blank b) (all blank (take j s)) e

parted-ends : (mode : Mode) (s : List ℕ) → is_former mode ≡ true → parted s ≡ true → ended mode s ≡ true
unfolding ended
parted-ends mode s x p = rw x p

-- the ways of `noted_body`
module _ (mode : Mode) (t : List ℕ) (e v : ℕ) (b : 0 < e → Loosely Loose t e v) where
  pub body-any : 0 < e → Loosely mode t e v
  body-any o =
      let y = b o in
      record {
        k = y.k;
        n = y.n;
        j = y.j;
        blanks = y.blanks;
        leads = y.leads;
        least = y.least;
        most = y.most;
        size = y.size;
        inside = y.inside;
        behind = ended-loose mode (take y.j (drop y.n (drop y.k t))) y.behind;
        bytes = y.bytes;
      }

  module _ (o : 1 ≤ e) where
    pub body-in : e < length t
    body-in = (b o).inside

    module _ (r : Bool) (m : r ≡ is_former mode) (f : not r ≡ false) (z : get_or t (e - 1) 0 ≡ 32) (i : ℕ) (p : i ≡ run plain (tail t e)) (h : e + i < length t) where
      pub body-noted : 0 < e + i → Loosely mode t (e + i) v
      body-noted _ =
          let y = b o in
          let s = drop y.n (drop y.k t) in
          let some = some-behind t y.k y.n v y.j y.leads y.least (rw y.size at z) in
          let x : is_former mode ≡ true = sym m ∙ not-false r f in
          let far : drop e t ≡ drop y.j s = rw y.size (sym (drop-drop y.j y.n (drop y.k t) ∙ drop-drop (y.n + y.j) y.k t)) in
          let note : all plain (take i (drop y.j s)) ≡ true = rw (p, rest-is t e, far) (all-run plain (drop y.j s)) in
          let long : y.j ≤ length s = simp length-drop (omega (arith, y.size, y.inside)) in
          record {
            k = y.k;
            n = y.n;
            j = y.j + i;
            blanks = y.blanks;
            leads = y.leads;
            least = y.least;
            most = y.most;
            size = omega (arith, y.size);
            inside = h;
            behind = parted-ends mode (take (y.j + i) s) x (blanks-part s y.j (y.j + i) some (omega (arith, some)) y.behind);
            bytes = all_join plain y.j (take (y.j + i) s) (rw (take-take y.j (y.j + i) s (omega arith)) y.bytes) (rw (drop_of_take y.j i s long) note);
          }

-- the ways of `loose_integer`
module _ (mode : Mode) (s : List ℕ) (at e v : ℕ) (b : 0 < e → Loosely mode (tail s at) e v) (o : 1 ≤ e) (l : e ≤ 255) where
  pub loose-in : e < length (tail s at)
  loose-in = (b o).inside

  pub loose-is : (w : ℕ) → (0 < w → EndsAt (tail s at) e w) → (w ≡ 0 → ⊥) → 0 < e + w → is_exact mode ≡ false → IntegerAt mode s at (e + w) v
  unfolding lex_of
  loose-is w f n _ x =
      let here : Loosely mode (drop at s) e v = rw (rest-is s at) at (b o) in
      let ends : EndsAt (drop at s) e w = rw (rest-is s at) at (f (omega arith)) in
      let line = ends.line l (loosely-plain mode (drop at s) e v here) in
      record {
        len = e;
        line = line-widens Loose mode (loose-widens mode x) false (drop at s) e (e + w) line;
        says = rw (loosely-whole mode (drop at s) e v here x);
      }

pub ruleset loose_integer_ways = (loose-in, loose-is)

pub ruleset noted_body_ways = (body-any, body-in, body-noted)
