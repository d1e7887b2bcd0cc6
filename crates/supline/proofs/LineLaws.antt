-- A right line is T-01's line of its name and the figure that stands there, and such a line is right (document 02, T-10). Assumes nothing.
use Prim.Native.Nat.{ℕ, ◌+◌, ◌-◌, ◌*◌, ◌≤◌}
use mathlib.Core.Path.{◌≡◌, refl, sym, ap, ◌∙◌}
use mathlib.Core.List.{List, [], ◌∷◌, ◌++◌, append_assoc}
use mathlib.Core.Bool.{Bool, true, false}
use native.Mathlib.Omega.{arith}
use lib.ListN.{length, take, drop, replicate, length-append, length-take, length-replicate, take-append-drop}
use lib.Seq.{take_at, drop-drop, drop-append_seam}
use lib.IntN.{ℤ}
use Rattle.laws.proofs.Choice.{and_left, and_right}
use Rattle.laws.proofs.ListLaws.{same-is, same_refl}
use Rattle.spelling.specs.Spelling.{aligned}
use Rattle.spelling.specs.Figures.{is_narrow, figure_text}
use Rattle.spelling.proofs.FigureLaws.{figure-length}
use Rattle.sup.specs.Date.{is_date}
use Rattle.sup.specs.Lines.{left_field, fields_line, date_text}
use Rattle.sup.proofs.SupLaws.{line-length}
use Rattle.sup.proofs.DateWays.{date-eight}
use Rattle.supline.specs.Right.{DueLine, line_from, right_field, figure_in, date_in, is_fields, is_near, is_right_line, is_right_date}
use Rattle.supline.proofs.SaidLaws.{figure-said, figure-sizes, narrow-by-size}

-- line k + 1 stands behind line k
pub next-line : (s : List ℕ) (k : ℕ) → drop 23 (line_from s k) ≡ line_from s (k + 1)
unfolding line_from
next-line s k = drop-drop 23 (23 * k) s ∙ ap (λ (n : ℕ). drop n s) (let e : 23 * k + 23 ≡ 23 * (k + 1) = omega arith in e)

-- ---- the form of a line

pub fields-size : (n r : List ℕ) → length (fields_line n r) ≡ (11 - length n) + length n + length r + 2
unfolding fields_line left_field
fields-size n r =
    let pad = replicate {A = ℕ} (11 - length n) 32 in
    omega (arith, length-append ((n ++ pad) ++ r) (13 ∷ 10 ∷ []), length-append (n ++ pad) r, length-append n pad, length-replicate {A = ℕ} (11 - length n) 32)

-- the first line of u
pub record LineIs (n r u : List ℕ) : Type 0 where
  pub short : length n ≤ 11
  pub ten : length r ≡ 10
  pub is : u ≡ fields_line n r ++ drop 23 u

fields-line : (n r u : List ℕ) → 10 ≤ length r → is_fields n r u ≡ true → LineIs n r u
unfolding is_fields
fields-line n r u h e =
    let q : take 23 u ≡ fields_line n r = same-is (take 23 u) (fields_line n r) e in
    let l : length (take 23 u) ≡ length (fields_line n r) = ap length q in
    record {
      short = omega (arith, l, length-take 23 u, fields-size n r);
      ten = omega (arith, l, length-take 23 u, fields-size n r);
      is = sym (take-append-drop 23 u) ∙ ap (λ (x : List ℕ). x ++ drop 23 u) q;
    }

module _ (n r q : List ℕ) (short : length n ≤ 11) (ten : length r ≡ 10) where
  fields-right : is_fields n r (fields_line n r ++ q) ≡ true
  unfolding is_fields
  fields-right = rw (take_at (fields_line n r) q 23 (line-length n r short ten)) (same_refl (fields_line n r))

  pub behind-line : drop 23 (fields_line n r ++ q) ≡ q
  behind-line = ap (λ (k : ℕ). drop k (fields_line n r ++ q)) (sym (line-length n r short ten)) ∙ drop-append_seam (fields_line n r) q

  left-long : length (left_field n) ≡ 11
  unfolding left_field
  left-long = omega (arith, length-append n (replicate (11 - length n) 32), length-replicate {A = ℕ} (11 - length n) 32)

  pub behind-name : drop 11 (fields_line n r ++ q) ≡ r ++ ((13 ∷ 10 ∷ []) ++ q)
  unfolding fields_line
  behind-name =
      ap (drop 11) (append_assoc (left_field n ++ r) (13 ∷ 10 ∷ []) q ∙ append_assoc (left_field n) r ((13 ∷ 10 ∷ []) ++ q))
      ∙ ap (λ (k : ℕ). drop k (left_field n ++ (r ++ ((13 ∷ 10 ∷ []) ++ q)))) (sym left-long)
      ∙ drop-append_seam (left_field n) (r ++ ((13 ∷ 10 ∷ []) ++ q))

  field_back : right_field (fields_line n r ++ q) ≡ r
  unfolding right_field
  field_back = rw behind-name (take_at r ((13 ∷ 10 ∷ []) ++ q) 10 ten)

-- ---- a line with a figure

pub figure-back : (n q : List ℕ) (y : ℤ) → length n ≤ 11 → is_narrow y ≡ true → figure_in (fields_line n (figure_text y) ++ q) ≡ y
unfolding figure_in
figure-back n q y h e = rw (field_back n (figure_text y) q h (figure-length y e)) (figure-said y e)

-- T-01's line with a figure that is near enough is right
pub line-right : (x : DueLine) (y : ℤ) (q : List ℕ) → length x.name ≤ 11 → is_narrow y ≡ true → is_near y x.figure.exact x.figure.allowance ≡ true
    → is_right_line x (fields_line x.name (figure_text y) ++ q) ≡ true
unfolding is_right_line
line-right x y q h e n =
    rw (figure-back x.name q y h e, fields-right x.name (figure_text y) q h (figure-length y e), n)

-- and a right line is one
pub record RightLine (x : DueLine) (u : List ℕ) : Type 0 where
  pub line : LineIs x.name (figure_text (figure_in u)) u
  pub narrow : is_narrow (figure_in u) ≡ true
  pub near : is_near (figure_in u) x.figure.exact x.figure.allowance ≡ true

pub right-line : (x : DueLine) (u : List ℕ) → is_right_line x u ≡ true → RightLine x u
unfolding is_right_line
right-line x u e =
    let a = is_fields x.name (figure_text (figure_in u)) u in
    let b = is_near (figure_in u) x.figure.exact x.figure.allowance in
    let w = fields-line x.name (figure_text (figure_in u)) u (figure-sizes (figure_in u)).0 (and_left a b e) in
    record { line = w; narrow = narrow-by-size (figure_in u) (omega (arith, w.ten)); near = and_right a b e }

-- a figure that finds no room stands in no right line
pub narrow-line : (x : DueLine) (u : List ℕ) → is_narrow (figure_in u) ≡ false → is_right_line x u ≡ false
narrow-line x u e = go (is_right_line x u) refl
  where
    go : (b : Bool) → is_right_line x u ≡ b → b ≡ false
    go true q = sym (right-line x u q).narrow ∙ e
    go false q = refl

-- ---- the first line

module _ (date : List ℕ) (e : is_date date ≡ true) where
  date-is : date_text date ≡ 32 ∷ 32 ∷ date
  unfolding date_text aligned
  date-is = rw (date-eight date e)

  pub date-long : length (date_text date) ≡ 10
  date-long = omega (arith, ap length date-is, date-eight date e)

  module _ (n q : List ℕ) (h : length n ≤ 11) where
    date-back : date_in (fields_line n (date_text date) ++ q) ≡ date
    unfolding date_in
    date-back =
        ap (take 8) (sym (drop-drop 2 11 (fields_line n (date_text date) ++ q)) ∙ ap (drop 2) (behind-name n (date_text date) q h date-long ∙ ap (λ (x : List ℕ). x ++ ((13 ∷ 10 ∷ []) ++ q)) date-is))
        ∙ take_at date ((13 ∷ 10 ∷ []) ++ q) 8 (date-eight date e)

    pub date-right : is_right_date n (fields_line n (date_text date) ++ q) ≡ true
    unfolding is_right_date
    date-right = rw (date-back, e) (fields-right n (date_text date) q h date-long)

pub right-date : (n u : List ℕ) → is_right_date n u ≡ true → (is_date (date_in u) ≡ true) × LineIs n (date_text (date_in u)) u
unfolding is_right_date
right-date n u e =
    let b = is_fields n (date_text (date_in u)) u in
    let d = and_left (is_date (date_in u)) b e in
    (d, fields-line n (date_text (date_in u)) u (omega (arith, date-long (date_in u) d)) (and_right (is_date (date_in u)) b e))
