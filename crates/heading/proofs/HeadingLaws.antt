-- What a header that passes the check is. Assumes nothing.
use Prim.Native.Nat.{ℕ, ◌≤◌}
use mathlib.Core.Path.{◌≡◌}
use mathlib.Core.List.{List}
use mathlib.Core.Bool.{true, not, ◌&&◌, ◌||◌}
use lib.ListN.{length, drop}
use lib.Dec.{leb, eqb}
use lib.IntN.{ℤ, pos, negsuc}
use lib.Signed.{lt_z, le_z}
use borrow.Author.Tests.{leb-true, eqb-true}
use Rattle.laws.specs.Lists.{same, all_at}
use Rattle.laws.specs.Text.{text}
use Rattle.laws.proofs.Choice.{and_left, and_right, false≢true}
use Rattle.number.specs.Number.{real_most, is_real}
use Rattle.heading.specs.declared.Header.{Header}
use Rattle.heading.specs.Heading.{name_byte, is_name, is_header}

pub record IsHeader (h : Header) : Type 0 where
  pub low : 1 ≤ h.kind
  pub high : h.kind ≤ 3
  pub name : is_name h.kind h.name ≡ true
  pub long : length h.name ≡ 11
  pub above : lt_z (pos 0) h.scale ≡ true
  pub real : is_real h.scale ≡ true

above-real : (z : ℤ) → lt_z (pos 0) z ≡ true → le_z z real_most ≡ true → is_real z ≡ true
unfolding is_real
above-real (pos n) a b = b
above-real (negsuc n) a b = absurd (false≢true a)

pub name-long : (kind : ℕ) (s : List ℕ) → is_name kind s ≡ true → length s ≡ 11
unfolding is_name
name-long kind s e =
    let a = eqb (length s) 11 in
    let b = all_at name_byte 0 s in
    let c = not (eqb kind 3) || same (drop 9 s) (text "QU") in
    eqb-true (length s) 11 (and_left a b (and_left (a && b) c e))

pub header_is : (h : Header) → is_header h ≡ true → IsHeader h
unfolding is_header
header_is h e =
    let a = leb 1 h.kind in
    let b = leb h.kind 3 in
    let c = is_name h.kind h.name in
    let d = lt_z (pos 0) h.scale in
    let f = le_z h.scale real_most in
    let e₃ = and_left (a && b && c && d) f e in
    let e₂ = and_left (a && b && c) d e₃ in
    let e₁ = and_left (a && b) c e₂ in
    record {
      low = leb-true 1 h.kind (and_left a b e₁);
      high = leb-true h.kind 3 (and_right a b e₁);
      name = and_right (a && b) c e₂;
      long = name-long h.kind h.name (and_right (a && b) c e₂);
      above = and_right (a && b && c) d e₃;
      real = above-real h.scale (and_right (a && b && c) d e₃) (and_right (a && b && c && d) f e);
    }
