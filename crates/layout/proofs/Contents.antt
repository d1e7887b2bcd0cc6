-- The contents that a writer gives are read as what they spell, in every mode. Assumes nothing.
use Prim.Native.Nat.{ℕ, ◌+◌, ◌-◌, ◌≤◌}
use mathlib.Core.Path.{◌≡◌, refl, sym, subst}
use mathlib.Core.List.{List, [], ◌∷◌, ◌++◌, append_assoc}
use mathlib.Core.Bool.{Bool, true, false, not, ◌&&◌, ◌||◌}
use native.Mathlib.Omega.{arith}
use lib.ListN.{length, get_or}
use lib.Dec.{leb}
use lib.IntN.{ℤ}
use borrow.Author.Tests.{leb-true, ne_eqb}
use Rattle.laws.specs.Lists.{all, below}
use Rattle.laws.proofs.Choice.{and_left, and_right}
use Rattle.laws.proofs.ListLaws.{below_at}
use Rattle.std.specs.Prelude.{Some, Ok}
use Rattle.record.specs.declared.Mode.{Mode}
use Rattle.record.specs.declared.Mode.TheVariants.{Exact}
use Rattle.record.specs.Record.{plain}
use Rattle.record.specs.RecordView.{crlf}
use Rattle.number.specs.Words.{blank}
use Rattle.number.specs.Number.{is_real}
use Rattle.number.proofs.WordLaws.{word-make}
use Rattle.spelling.specs.Spelling.{integer_text, real_text}
use Rattle.spelling.proofs.SpellingLaws.{integer-spelt, real-spelt, integer-length, real-length, integer-plain, real-plain}
use Rattle.token.specs.declared.Want.{Want}
use Rattle.token.specs.declared.Want.TheVariants.{Key, Text, Int, Real}
use Rattle.token.specs.Lex.{lift, keywords, may_lie_outside, is_key, key_text, lex_of}
use Rattle.token.proofs.TokenLaws.{key_most, key-spelt, lex-widens}
use Rattle.machine.specs.declared.State.{State}
use Rattle.machine.specs.Machine.{want_of, step_of}
use Rattle.sheet.specs.Tables.{Tables, put, ring_after}
use Rattle.sheet.proofs.Pass.{Pass, more}
use Rattle.layout.specs.Sheet.{line}

-- a content that a record may hold, and that exact mode reads as the token
pub record Reads (w : Want) (c : List ℕ) (t : ℕ) : Type 0 where
  pub good : all plain c ≡ true
  pub most : length c ≤ 255
  pub says : lex_of Exact w c ≡ Ok t

-- so every mode does
says-in : (mode : Mode) {w : Want} {c : List ℕ} {t : ℕ} → Reads w c t → lex_of mode w c ≡ Ok t
says-in mode {w} {c} {t} r = lex-widens Exact mode refl w c t r.says

-- ---- what each kind of content says

pub integer-reads : (v : ℕ) → v ≤ 9999 → Reads Int (integer_text v) v
unfolding lex_of
integer-reads v h = record { good = integer-plain v; most = omega (arith, integer-length v); says = rw (integer-spelt v h) }

pub real-reads : (z : ℤ) → is_real z ≡ true → Reads Real (real_text z) (lift z)
unfolding lex_of
real-reads z h = record { good = real-plain z; most = omega (arith, real-length z h); says = rw (real-spelt z h) }

-- letters, not empty and with no blank at an end, say their length
pub letters-read : (s : List ℕ) → all plain s ≡ true → 1 ≤ length s → length s ≤ 255 → blank (get_or s 0 0) ≡ false → blank (get_or s (length s - 1) 0) ≡ false → Reads Text s (length s)
unfolding lex_of
letters-read s p some few first last =
    record { good = p; most = few; says = rw (word-make Exact s first last, ne_eqb (length s) 0 (λ z. omega arith)) }

-- a keyword's text is short and plain: one computed test
abbrev is_short : ℕ → Bool
is_short t = not (is_key t) || all plain (key_text t) && leb (length (key_text t)) 255

all_short : below (key_most + 1) is_short ≡ true
unfolding below is_key key_text may_lie_outside keywords all
all_short = refl

pub key_reads : (t : ℕ) → t ≤ key_most → is_key t ≡ true → Reads Key (key_text t) t
key_reads t l h =
    let s = rw h at (below_at (key_most + 1) is_short t all_short (omega arith)) in
    record {
      good = and_left (all plain (key_text t)) (leb (length (key_text t)) 255) s;
      most = leb-true (length (key_text t)) 255 (and_right (all plain (key_text t)) (leb (length (key_text t)) 255) s);
      says = key-spelt t h;
    }

-- ---- such a content, written as a record, is one that the machine goes on by

pub line-pass : {mode : Mode} {st st₁ st₂ : State} {o o₂ : Tables} {t : ℕ} {c bs : List ℕ} → Reads (want_of st) c t → step_of mode st t (ring_after st o) ≡ Ok (Some st₁)
    → Pass mode st₁ (put st t c o) bs st₂ o₂ → Pass mode st o (line c ++ bs) st₂ o₂
line-pass {mode} {st} {st₁} {st₂} {o} {o₂} {t} {c} {bs} r s p =
    subst (λ (x : List ℕ). Pass mode st o x st₂ o₂) (sym (append_assoc c (13 ∷ 10 ∷ []) bs))
    (more {t = t} {c = c} {e = 13 ∷ 10 ∷ []} (record { good = r.good; most = r.most; end = crlf refl; says = says-in mode r; steps = s }) p)
