-- The theorems on headers: what a header is by its bytes, what makes one, and how the modes relate. Assumes nothing.
use mathlib.Core.Path.{◌≡◌, refl, sym, ◌∙◌, ap, subst}
use mathlib.Core.List.{List, ◌++◌, append_assoc}
use mathlib.Core.Bool.{Bool, true, false, cond}
use Prim.Native.Nat.{ℕ, ◌+◌, ◌≤◌}
use native.Mathlib.Omega.{arith}
use lib.ListN.{length, take, drop, length-append}
use lib.Seq.{take-append_seam, drop-append_seam, drop-append-add}
use lib.Dec.{eqb}
use lib.IntN.{pos}
use lib.Signed.{lt_z}
use borrow.Author.Tests.{eqb-false, ne_eqb}
use Rattle.std.specs.Prelude.{ℤ, Option, Some, None, Result, Ok, Err}
use Rattle.laws.specs.Lists.{all, place}
use Rattle.laws.proofs.Choice.{and_left, and_right, cond-elim}
use Rattle.record.specs.declared.Mode.{Mode}
use Rattle.record.specs.declared.Line.{Line}
use Rattle.record.specs.declared.refusal.Refusal.{Refusal}
use Rattle.record.specs.Record.{plain, widens, got, line_of}
use Rattle.record.specs.RecordView.{LineEnd, Ending, line_ended, bare, IsLine}
use Rattle.record.proofs.RecordLaws.{line_view, line-make, end-widens}
use Rattle.number.specs.declared.Word.{Word}
use Rattle.number.specs.Words.{word_of, trimmed}
use Rattle.number.specs.Number.{real_of}
use Rattle.number.proofs.NumberLaws.{real-widens}
use Rattle.number.proofs.WordLaws.{word-widens}
use Rattle.heading.specs.declared.Header.{Header}
use Rattle.header.specs.declared.Headed.{Headed}
use Rattle.header.specs.declared.Stopped.{Stopped}
use Rattle.header.specs.Header.{first_words, begins, is_word, kind_said, is_named, of_scale, scale_line, head_scale, name_line, head_name, first_line, headed}
use Rattle.heading.specs.Heading.{is_name}

-- a content and the line end behind it
pub record Whole (mode : Mode) (c e : List ℕ) : Type 0 where
  pub good : all plain c ≡ true
  pub most : length c ≤ 255
  pub end : LineEnd mode e

pub whole-line : {mode : Mode} {c e : List ℕ} → Whole mode c e → (due : Bool) (rest : List ℕ) → line_of mode due (c ++ (e ++ rest)) ≡ got (length c) (length c + length e)
whole-line {mode} {c} {e} w due rest = line-make mode due c e rest w.good w.most w.end

pub past-line : (c e rest : List ℕ) → drop (length c + length e) (c ++ (e ++ rest)) ≡ rest
past-line c e rest = drop-append-add c (e ++ rest) (length e) ∙ drop-append_seam e rest

-- where no keyword is due a record is a content and a line end
pub record Front (mode : Mode) (bs : List ℕ) (len width : ℕ) : Type 0 where
  pub e : List ℕ
  pub whole : Whole mode (take len bs) e
  pub split : bs ≡ take len bs ++ (e ++ drop width bs)
  pub counted : length (take len bs) ≡ len
  pub wide : width ≡ length (take len bs) + length e

pub line-front : (mode : Mode) (bs : List ℕ) (len width : ℕ) → line_of mode false bs ≡ got len width → Front mode bs len width
line-front mode bs len width q = by (line_view mode false bs len width q)
  where
    go : IsLine mode false bs len width → Ending mode false bs len width → Front mode bs len width
    go v (line_ended e k d w) =
        record { e = e; whole = record { good = v.all_plain; most = omega (arith, v.counted, v.most); end = k }; split = d; counted = v.counted; wide = omega (arith, v.counted) }
    go v (bare m f z l w) = absurd (let y : ◌≡◌ {A = ℕ} 0 1 = cc in omega arith)

    by : IsLine mode false bs len width → Front mode bs len width
    by v = go v v.ending

-- the three contents of a header, and what they say
pub record Says (mode : Mode) (h : Header) (c₁ c₂ c₃ : List ℕ) : Type 0 where
  pub kind : kind_said mode c₁ ≡ h.kind
  pub known : h.kind ≡ 0 → ⊥
  pub named : is_named mode h.kind c₂ ≡ true
  pub name : trimmed c₂ ≡ h.name
  pub scale : real_of mode c₃ ≡ Some h.scale
  pub above : lt_z (pos 0) h.scale ≡ true

-- the bytes begin with the three records of a header, `at` bytes long
pub record IsHead (mode : Mode) (bs : List ℕ) (h : Header) (at : ℕ) : Type 0 where
  pub c₁ : List ℕ
  pub e₁ : List ℕ
  pub c₂ : List ℕ
  pub e₂ : List ℕ
  pub c₃ : List ℕ
  pub e₃ : List ℕ
  pub rest : List ℕ
  pub split : bs ≡ c₁ ++ (e₁ ++ (c₂ ++ (e₂ ++ (c₃ ++ (e₃ ++ rest)))))
  pub first : Whole mode c₁ e₁
  pub second : Whole mode c₂ e₂
  pub third : Whole mode c₃ e₃
  pub says : Says mode h c₁ c₂ c₃
  pub long : at ≡ length c₁ + length e₁ + (length c₂ + length e₂) + (length c₃ + length e₃)

-- ---- what makes a header

module _ {mode : Mode} {h : Header} {c₁ e₁ c₂ e₂ c₃ e₃ : List ℕ} (rest : List ℕ) (w₁ : Whole mode c₁ e₁) (w₂ : Whole mode c₂ e₂) (w₃ : Whole mode c₃ e₃) (s : Says mode h c₁ c₂ c₃) where
  scale-make : (at : ℕ) → head_scale mode h.kind h.name at (c₃ ++ (e₃ ++ rest)) ≡ begins h (at + (length c₃ + length e₃))
  unfolding head_scale
  scale-make at = simp (whole-line w₃ false rest, take-append_seam c₃ (e₃ ++ rest), s.scale, s.above)

  name-make : (at : ℕ) → head_name mode h.kind at (c₂ ++ (e₂ ++ (c₃ ++ (e₃ ++ rest))))
      ≡ begins h (at + (length c₂ + length e₂) + (length c₃ + length e₃))
  unfolding head_name
  name-make at =
      let z = c₃ ++ (e₃ ++ rest) in
      simp (whole-line w₂ false z, take-append_seam c₂ (e₂ ++ z), s.named, s.name, past-line c₂ e₂ z) (scale-make (at + (length c₂ + length e₂)))

  pub head-make : headed mode (c₁ ++ (e₁ ++ (c₂ ++ (e₂ ++ (c₃ ++ (e₃ ++ rest))))))
      ≡ begins h (length c₁ + length e₁ + (length c₂ + length e₂) + (length c₃ + length e₃))
  unfolding headed
  head-make =
      let z = c₂ ++ (e₂ ++ (c₃ ++ (e₃ ++ rest))) in
      simp (whole-line w₁ false z, take-append_seam c₁ (e₁ ++ z), s.kind, ne_eqb h.kind 0 s.known, past-line c₁ e₁ z) (name-make (length c₁ + length e₁))

-- ---- what a header is by its bytes: the records from the last to the first

-- the scale's record stands at the front of the bytes
record Third (mode : Mode) (kind : ℕ) (name : List ℕ) (at : ℕ) (bs : List ℕ) (h : Header) (at' : ℕ) : Type 0 where
  pub c₃ : List ℕ
  pub e₃ : List ℕ
  pub rest : List ℕ
  pub split : bs ≡ c₃ ++ (e₃ ++ rest)
  pub third : Whole mode c₃ e₃
  pub scale : real_of mode c₃ ≡ Some h.scale
  pub above : lt_z (pos 0) h.scale ≡ true
  pub kind-is : h.kind ≡ kind
  pub name-is : h.name ≡ name
  pub long : at' ≡ at + (length c₃ + length e₃)

-- the name's record, and then the scale's
record Second (mode : Mode) (kind : ℕ) (at : ℕ) (bs : List ℕ) (h : Header) (at' : ℕ) : Type 0 where
  pub c₂ : List ℕ
  pub e₂ : List ℕ
  pub rest : List ℕ
  pub split : bs ≡ c₂ ++ (e₂ ++ rest)
  pub second : Whole mode c₂ e₂
  pub named : is_named mode kind c₂ ≡ true
  pub third : Third mode kind (trimmed c₂) (at + (length c₂ + length e₂)) rest h at'

-- what is said of a header that was found
abbrev FoundIn : (Header → ℕ → Type 0) → Result Headed Stopped → Type 0
FoundIn P (Ok x) = P x.header x.at
FoundIn P (Err s) = Unit {0}

third-view : (mode : Mode) (kind : ℕ) (name : List ℕ) (at : ℕ) (bs : List ℕ) → FoundIn (Third mode kind name at bs) (head_scale mode kind name at bs)
unfolding head_scale
third-view mode kind name at bs = by-line (line_of mode false bs) refl
  where
    by-real : (len width : ℕ) → Front mode bs len width → (d : Option ℤ) → real_of mode (take len bs) ≡ d → FoundIn (Third mode kind name at bs) (of_scale kind name at width d)
    by-real len width f (Some z) q =
        cond-elim (FoundIn (Third mode kind name at bs)) (lt_z (pos 0) z) _ _
        (λ a. record { c₃ = take len bs; e₃ = f.e; rest = drop width bs; split = f.split; third = f.whole; scale = q; above = a; kind-is = refl; name-is = refl; long = ap (λ (n : ℕ). at + n) f.wide })
        (λ _. tt)
    by-real len width f None q = tt

    by-line : (l : Result Line Refusal) → line_of mode false bs ≡ l → FoundIn (Third mode kind name at bs) (scale_line mode kind name at bs l)
    by-line (Ok x) q = by-real x.len x.width (line-front mode bs x.len x.width q) (real_of mode (take x.len bs)) refl
    by-line (Err m) q = tt

-- what follows from a header that was found, is said of it
found_map : (P Q : Header → ℕ → Type 0) (r : Result Headed Stopped) → ((h : Header) (at : ℕ) → P h at → Q h at) → FoundIn P r → FoundIn Q r
found_map P Q (Ok x) f p = f x.header x.at p
found_map P Q (Err s) f p = tt

second-view : (mode : Mode) (kind at : ℕ) (bs : List ℕ) → FoundIn (Second mode kind at bs) (head_name mode kind at bs)
unfolding head_name
second-view mode kind at bs = by-line (line_of mode false bs) refl
  where
    by-line : (l : Result Line Refusal) → line_of mode false bs ≡ l → FoundIn (Second mode kind at bs) (name_line mode kind at bs l)
    by-line (Ok x) q =
        let width = x.width in
        let f = line-front mode bs x.len width q in
        let c = take x.len bs in
        let r = head_scale mode kind (trimmed c) (at + width) (drop width bs) in
        cond-elim (FoundIn (Second mode kind at bs)) (is_named mode kind c) _ _
        (λ n. found_map (Third mode kind (trimmed c) (at + width) (drop width bs)) (Second mode kind at bs) r
        (λ h at' t. record {
          c₂ = c;
          e₂ = f.e;
          rest = drop width bs;
          split = f.split;
          second = f.whole;
          named = n;
          third = subst (λ (w : ℕ). Third mode kind (trimmed c) (at + w) (drop width bs) h at') f.wide t;
        })
        (third-view mode kind (trimmed c) (at + width) (drop width bs)))
        (λ _. tt)
    by-line (Err m) q = tt

first-view : (mode : Mode) (bs : List ℕ) → FoundIn (IsHead mode bs) (headed mode bs)
unfolding headed
first-view mode bs = by-line (line_of mode false bs) refl
  where
    by-line : (l : Result Line Refusal) → line_of mode false bs ≡ l → FoundIn (IsHead mode bs) (first_line mode bs l)
    by-line (Ok x) q =
        let width = x.width in
        let f = line-front mode bs x.len width q in
        let c = take x.len bs in
        let kind = kind_said mode c in
        let r = head_name mode kind width (drop width bs) in
        cond-elim (FoundIn (IsHead mode bs)) (eqb kind 0) _ _
        (λ _. tt)
        (λ n. found_map (Second mode kind width (drop width bs)) (IsHead mode bs) r
        (λ h at' t. let u = t.third in
        record {
          c₁ = c;
          e₁ = f.e;
          c₂ = t.c₂;
          e₂ = t.e₂;
          c₃ = u.c₃;
          e₃ = u.e₃;
          rest = u.rest;
          split = f.split ∙ ap (λ (x : List ℕ). c ++ (f.e ++ x)) (t.split ∙ ap (λ (x : List ℕ). t.c₂ ++ (t.e₂ ++ x)) u.split);
          first = f.whole;
          second = t.second;
          third = u.third;
          says = record {
            kind = sym u.kind-is;
            known = λ z. eqb-false kind 0 n (sym u.kind-is ∙ z);
            named = subst (λ (k : ℕ). is_named mode k t.c₂ ≡ true) (sym u.kind-is) t.named;
            name = sym u.name-is;
            scale = u.scale;
            above = u.above;
          };
          long = u.long ∙ ap (λ (w : ℕ). w + (length t.c₂ + length t.e₂) + (length u.c₃ + length u.e₃)) f.wide;
        })
        (second-view mode kind width (drop width bs)))
    by-line (Err m) q = tt

-- a header that is found is three records, and its values are what they say
pub head-view : (mode : Mode) (bs : List ℕ) (h : Header) (at : ℕ) → headed mode bs ≡ begins h at → IsHead mode bs h at
head-view mode bs h at q = subst (FoundIn (IsHead mode bs)) q (first-view mode bs)

-- ---- the laws

at-is : {h : Header} {at n : ℕ} → at ≡ n → begins h n ≡ begins h at
at-is {h} e = ap (begins h) (sym e)

-- the three records stand at the front, whatever follows them
pub head-local : (mode : Mode) (bs : List ℕ) (h : Header) (at : ℕ) → headed mode bs ≡ begins h at → (z : List ℕ)
    → (at ≤ length bs) × (headed mode (take at bs ++ z) ≡ begins h at)
head-local mode bs h at q z =
    let v = head-view mode bs h at q in
    let front = v.c₁ ++ (v.e₁ ++ (v.c₂ ++ (v.e₂ ++ (v.c₃ ++ v.e₃)))) in
    let n : length front ≡ at = simp length-append (omega (arith, v.long)) in
    let s : bs ≡ front ++ v.rest = v.split ∙ simp append_assoc in
    let t : take at bs ≡ front = ap (take at) s ∙ lib.Seq.take_at front v.rest at n in
    let g : front ++ z ≡ v.c₁ ++ (v.e₁ ++ (v.c₂ ++ (v.e₂ ++ (v.c₃ ++ (v.e₃ ++ z))))) = simp append_assoc in (
      omega (arith, n, ap length s, length-append front v.rest),
      rw (t, g) (head-make z v.first v.second v.third v.says ∙ at-is v.long),
    )

module _ (from to : Mode) (wide : widens from to ≡ true) where
  is-word-widens : (c : List ℕ) → is_word (word_of from c) ≡ true → is_word (word_of to c) ≡ true
  is-word-widens c = go (word_of from c) refl
    where
      go : (w : Option Word) → word_of from c ≡ w → is_word w ≡ true → is_word (word_of to c) ≡ true
      go (Some w) e t = rw (word-widens from to wide c w.start w.len e)
      go None e t = absurd (let y : ◌≡◌ {A = ℕ} 0 1 = cc in omega arith)

  kind-widens : (c : List ℕ) → (kind_said from c ≡ 0 → ⊥) → kind_said to c ≡ kind_said from c
  unfolding kind_said
  kind-widens c = go (is_word (word_of from c)) refl
    where
      go : (x : Bool) → is_word (word_of from c) ≡ x → (cond x (place 1 first_words (trimmed c)) 0 ≡ 0 → ⊥)
          → cond (is_word (word_of to c)) (place 1 first_words (trimmed c)) 0 ≡ cond x (place 1 first_words (trimmed c)) 0
      go true e n = rw (is-word-widens c e)
      go false e n = absurd (n refl)

  named-widens : (kind : ℕ) (c : List ℕ) → is_named from kind c ≡ true → is_named to kind c ≡ true
  unfolding is_named
  named-widens kind c e =
      rw (is-word-widens c (and_left (is_word (word_of from c)) (is_name kind (trimmed c)) e)) (and_right (is_word (word_of from c)) (is_name kind (trimmed c)) e)

  whole-widens : {c e : List ℕ} → Whole from c e → Whole to c e
  whole-widens {c} {e} w = record { good = w.good; most = w.most; end = end-widens from to wide e w.end }

  -- a header that one mode accepts, a wider one accepts as the same
  pub head-widens : (bs : List ℕ) (h : Header) (at : ℕ) → headed from bs ≡ begins h at → headed to bs ≡ begins h at
  head-widens bs h at q =
      let v = head-view from bs h at q in
      let s = v.says in
      let says : Says to h v.c₁ v.c₂ v.c₃ = record {
        kind = kind-widens v.c₁ (λ z. s.known (sym s.kind ∙ z)) ∙ s.kind;
        known = s.known;
        named = named-widens h.kind v.c₂ s.named;
        name = s.name;
        scale = real-widens from to wide v.c₃ h.scale s.scale;
        above = s.above;
      } in
      rw v.split (head-make v.rest (whole-widens v.first) (whole-widens v.second) (whole-widens v.third) says ∙ at-is v.long)
