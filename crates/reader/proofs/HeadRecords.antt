-- The ways through the functions that see one record of a head, or a point of it. Assumes nothing.
use mathlib.Core.Path.{◌≡◌, refl, sym, ◌∙◌, ap, subst}
use mathlib.Core.Bool.{Bool, true, false, not}
use mathlib.Core.List.{List, [], ◌∷◌, ◌++◌}
use Prim.Native.Nat.{ℕ, ◌+◌, ◌-◌, ◌*◌, ◌/◌, ◌≤◌, ◌<◌}
use native.Mathlib.Nat.{add-sub_cancel_left}
use native.Mathlib.Omega.{arith}
use lib.ListN.{length, get_or, take, drop, take-append-drop}
use lib.Seq.{drop-drop}
use lib.Dec.{leb, eqb}
use borrow.Author.Tests.{leb-true, le-leb, eq-eqb, ne_eqb, not-false}
use Rattle.std.specs.Prelude.{Option, Some, None, Ok, IfSome}
use Rattle.laws.specs.Lists.{all, same}
use Rattle.laws.specs.Text.{text}
use Rattle.laws.proofs.ListLaws.{left, same-is}
use Rattle.record.specs.declared.Mode.{Mode}
use Rattle.record.specs.declared.Mode.TheVariants.{Exact}
use Rattle.record.specs.Record.{is_exact, plain, line_of}
use Rattle.record.specs.RecordView.{LineEnd, crlf, lf}
use Rattle.record.specs.Refusals.{file_most}
use Rattle.record.proofs.RecordLaws.{line-make}
use Rattle.number.proofs.WordWays.{blank-not}
use Rattle.number.proofs.WordLaws.{untrimmed, word-make}
use Rattle.token.specs.Lex.{lex_of, key_text, keywords, is_key, may_lie_outside}
use Rattle.token.specs.declared.Want.TheVariants.{Key}
use Rattle.token.proofs.TokenLaws.{key-spelt, lex-widens}
use Rattle.quick.specs.Seen.{RealAt, UsualAt, Usual, ValueAt}
use Rattle.kinds.specs.Kinds.{vertices_place}
use Rattle.machine.specs.Machine.{field_of, vertices_of}
use Rattle.reader.specs.Turn.{FirstAt}
use Rattle.reader.specs.RingRun.{real_in}
use Rattle.reader.specs.Heads.{KeySays, IsTrim, Countable, opened_by, PointIn, PointAt, PointsAt}
use Rattle.reader.specs.declared.First.{First}
use Rattle.reader.specs.declared.TwoPoints.{TwoPoints}
use Rattle.reader.proofs.RingLaws.{usual-in, value_in}

-- ---- BORDO's record

-- its bytes may stand in a content
border-plain : all plain (text "BORDO") ≡ true
unfolding all
border-plain = refl

-- it says a border that does not lie outside, in every mode
border-said : (mode : Mode) → lex_of mode Key (text "BORDO") ≡ Ok 2
unfolding key_text keywords is_key may_lie_outside
border-said mode = lex-widens Exact mode refl Key (text "BORDO") 2 (key-spelt 2 refl)

-- the ways of `border_key`: its five bytes and a line end
module _ (mode : Mode) (s : List ℕ) (at : ℕ) (h : 7 ≤ length s) (k : at ≤ length s - 7) (x : Bool) (f : x ≡ same (take (at + 5 - at) (drop at s)) (text "BORDO")) (n : not x ≡ false) where
  border-bytes : take 5 (drop at s) ≡ text "BORDO"
  border-bytes =
      let q : same (take 5 (drop at s)) (text "BORDO") ≡ true = rw (add-sub_cancel_left at 5) at (sym f ∙ not-false x n) in
      same-is (take 5 (drop at s)) (text "BORDO") q

  border-ended : (e : List ℕ) → LineEnd mode e → drop (at + 5) s ≡ e ++ drop (at + 5 + length e) s → KeySays mode s at (5 + length e) 2
  border-ended e l q =
      let split : drop at s ≡ text "BORDO" ++ (e ++ drop (at + 5 + length e) s) =
      sym (take-append-drop 5 (drop at s)) ∙ rw (border-bytes, drop-drop 5 at s, q) in
      record { len = 5; line = ap (line_of mode true) split ∙ line-make mode true (text "BORDO") e (drop (at + 5 + length e) s) border-plain (omega arith) l; says = rw border-bytes (border-said mode) }

  pub border-cr : get_or s (at + 5) 0 ≡ 13 → get_or s (at + 5 + 1) 0 ≡ 10 → KeySays mode s at 7 2
  border-cr y z =
      let b : at + 5 + 1 + 1 ≡ at + 5 + 2 = omega arith in
      border-ended (13 ∷ 10 ∷ []) (crlf refl) (left s (at + 5) 0 (omega arith) ∙ rw (y, left s (at + 5 + 1) 0 (omega arith), z, b))

  pub border-lf : (y : Bool) → y ≡ is_exact mode → y ≡ false → get_or s (at + 5) 0 ≡ 10 → KeySays mode s at 6 2
  border-lf y m e z = border-ended (10 ∷ []) (lf (sym m ∙ e) refl) (left s (at + 5) 0 (omega arith) ∙ rw z)

-- ---- letters with no blank at an end

-- the way of `is_trim`
pub trim-is : (c : List ℕ) → (length c ≡ 0 → ⊥) → (get_or c 0 0 ≡ 32 → ⊥) → (get_or c (length c - 1) 0 ≡ 32 → ⊥) → IsTrim c
unfolding lex_of
trim-is c n f l =
    let a = blank-not (get_or c 0 0) f in
    let b = blank-not (get_or c (length c - 1) 0) l in
    record { bare = untrimmed c a b; says = λ mode. rw (word-make mode c a b, ne_eqb (length c) 0 n) }

-- ---- counts

-- the ways of `is_countable`: no border, and a border
pub few-countable : (kind islands n : ℕ) → (kind ≡ 1 → ⊥) → leb 2 n ≡ true → Countable kind islands n
unfolding field_of vertices_of opened_by
few-countable kind islands n k e = record { goes = λ mode. rw (ne_eqb kind 1 k, e, ne_eqb n 0 (λ z. let h = leb-true 2 n e in omega arith)) }

pub border-countable : (kind islands n : ℕ) → kind ≡ 1 → 4 ≤ n → leb islands ((n - 4) / 4) ≡ true → Countable kind islands n
unfolding field_of vertices_of opened_by
border-countable kind islands n k h e = record { goes = λ mode. go mode (eqb islands 0) refl }
  where
    m : 4 + 4 * islands ≤ n
    m = omega (arith, leb-true islands ((n - 4) / 4) e)

    some : eqb n 0 ≡ false
    some = ne_eqb n 0 (λ z. omega arith)

    go : (mode : Mode) (b : Bool) → eqb islands 0 ≡ b → field_of mode kind vertices_place islands n ≡ Ok (Some (opened_by kind islands n))
    go mode true z = rw (eq-eqb kind 1 k, le-leb (4 + 4 * islands) n m, some, z)
    go mode false z = rw (eq-eqb kind 1 k, le-leb (4 + 4 * islands) n m, some, z)

-- ---- points of one width

module _ {mode : Mode} {s : List ℕ} {at w n : ℕ} (u : Usual mode s at w n) where
  -- one of the reals, by its place
  nth-usual : (j a : ℕ) → j < n → a ≡ at + w * j → UsualAt mode s a w
  nth-usual j a h e = subst (λ (p : ℕ). UsualAt mode s p w) (sym e) (u.each j h)

  -- the way of `angle_at`
  pub angle-usual : 0 < n → (v : ℕ) → ValueAt s at v → RealAt mode s at w v
  angle-usual h v q =
      let y = nth-usual 0 at h (omega arith) in
      rw (value_in y v q) (usual-in y)

  module _ (judged : Bool) where
    -- the point that the reals j and i are
    point-there : (j i a : ℕ) → j < n → i < n → a ≡ at + w * j → a + w ≡ at + w * i → (r : First) → PointIn s a w judged r → PointAt mode s a judged r.x r.y r.next
    point-there j i a h k e f r p =
        let x = nth-usual j a h e in
        let y = nth-usual i (a + w) k f in
        record {
          fx = real_in s a;
          fy = real_in s (a + w);
          first = record { w = w; w' = w; real-x = usual-in x; real-y = usual-in y; there = omega (arith, p.there) };
          same = λ t. (value_in x r.x (p.values t).0, value_in y r.y (p.values t).1);
        }

-- the ways of `point_at`
module _ (mode : Mode) (s : List ℕ) (at : ℕ) (judged : Bool) where
  module _ (w : ℕ) (i : (at ≤ length s) × (length s ≤ file_most)) (f : Usual mode s at w 2) where
    pub point-asks : at + 2 * w < 18446744073709551616
    point-asks = omega (arith, f.inside i.0, i.1)

    pub point-usual : (r : First) → PointIn s at w judged r → PointAt mode s at judged r.x r.y r.next
    point-usual r p = point-there f judged 0 1 at (omega arith) (omega arith) (omega arith) (omega arith) r p

  pub point-first : (o : Option First) → IfSome o (λ r. FirstAt mode s at r.x r.y r.next) → IfSome o (λ r. PointAt mode s at judged r.x r.y r.next)
  point-first (Some r) f = record { fx = r.x; fy = r.y; first = f; same = λ _. (refl, refl) }
  point-first None f = tt

-- two points
abbrev pub both : First → First → TwoPoints
both p q = record { x = p.x; y = p.y; x2 = q.x; y2 = q.y; next = q.next }

-- the ways of `points_at`
module _ (mode : Mode) (s : List ℕ) (at : ℕ) (judged : Bool) where
  module _ (w : ℕ) (i : (at ≤ length s) × (length s ≤ file_most)) (f : Usual mode s at w 4) where
    pub points-asks : at + 2 * w < 18446744073709551616
    points-asks = omega (arith, f.inside i.0, i.1)

    module _ (p : First) (a : PointIn s at w judged p) where
      pub points-more : p.next + 2 * w < 18446744073709551616
      points-more = omega (arith, f.inside i.0, i.1, a.there)

      pub points-usual : (q : First) → PointIn s p.next w judged q → PointsAt mode s at judged (both p q)
      points-usual q b =
          let x = point-there f judged 0 1 at (omega arith) (omega arith) (omega arith) (omega arith) p a in
          let y = point-there f judged 2 3 p.next (omega arith) (omega arith) (omega (arith, a.there)) (omega (arith, a.there)) q b in
          record {
            mid = p.next;
            fx = x.fx;
            fy = x.fy;
            fx2 = y.fx;
            fy2 = y.fy;
            first = x.first;
            second = y.first;
            same = λ t. ((x.same t).0, (x.same t).1, (y.same t).0, (y.same t).1);
          }

  module _ (p q : First) (f : FirstAt mode s at p.x p.y p.next) where
    pub points-first : FirstAt mode s p.next q.x q.y q.next → PointsAt mode s at judged (both p q)
    points-first g =
        record {
          mid = p.next;
          fx = p.x;
          fy = p.y;
          fx2 = q.x;
          fy2 = q.y;
          first = f;
          second = g;
          same = λ _. (refl, refl, refl, refl);
        }
