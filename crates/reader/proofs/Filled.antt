-- The second pass: the loop's steps. Its invariant is that of the first, and that each table holds what was read so far. Assumes nothing.
use Rattle.std.specs.Prelude.{Option, Some, None, Result, Ok}
use Rattle.record.specs.declared.refusal.Refusal.{Refusal}
use Rattle.header.specs.declared.Stopped.{Stopped}
use Rattle.reader.specs.Turn.{onward, halted, finished}
use mathlib.Core.Path.{◌≡◌, refl, sym, ◌∙◌, ap, subst}
use mathlib.Core.List.{List}
use Prim.Native.Nat.{ℕ, ◌+◌, ◌-◌, ◌≤◌}
use native.Mathlib.Omega.{arith}
use native.Mathlib.Nat.{add-sub_cancel_left}
use lib.ListN.{length, take, drop}
use lib.IntN.{ℤ}
use Rattle.laws.proofs.TableLaws.{length_over}
use Rattle.record.specs.declared.Mode.{Mode}
use Rattle.record.specs.Refusals.{file_most}
use Rattle.number.specs.Number.{integer_of}
use Rattle.number.proofs.NumberLaws.{integer-most}
use Rattle.token.specs.Lex.{of_whole, lex_of}
use Rattle.token.specs.declared.Want.TheVariants.{Int}
use Rattle.token.proofs.TokenLaws.{says-most}
use Rattle.machine.specs.Machine.{want_of}
use Rattle.machine.specs.declared.State.{State}
use Rattle.machine.specs.declared.State.TheVariants.{Due, Field, Island, X, Y}
use Rattle.sheet.specs.Tables.{Tables, empty, put}
use Rattle.sheet.specs.Reading.{Sections, read, stop, walk_from}
use Rattle.reader.specs.Turn.{stand_at, turn_of}
use Rattle.reader.specs.Store.{token_most, Counted, IslandToken, rows_put, letters_put, islands_put, points_put, PutRoom, section_tables, Room, AtNumber, AtVertex}
use Rattle.reader.specs.declared.Needs.{Needs}
use Rattle.reader.specs.declared.ReadStand.{ReadStand}
use Rattle.reader.specs.declared.Turn.{Turn}
use Rattle.reader.proofs.Standing.{At, Moved, TurnOk, turn-ok}
use Rattle.reader.proofs.Judging.{at-start, at_on}
use Rattle.reader.proofs.Filling.{Holding, at-fits, store-room, store-holds}

-- ---- an island's count is an integer

int-most : (mode : Mode) (c : List ℕ) (t : ℕ) → lex_of mode Int c ≡ Ok t → t ≤ 9999
unfolding lex_of
int-most mode c t = go (integer_of mode c) refl
  where
    go : (w : Option ℕ) → integer_of mode c ≡ w → of_whole w ≡ Ok t → t ≤ 9999
    go (Some n) e q = let z : n ≡ t = cc in omega (arith, integer-most mode c n e)
    go None e q = absurd (let z : ◌≡◌ {A = ℕ} 0 1 = cc in omega arith)

island-token : (mode : Mode) (st : State) (c : List ℕ) (t : ℕ) → lex_of mode (want_of st) c ≡ Ok t → IslandToken st t
unfolding want_of
island-token mode Due c t q = tt
island-token mode (Field k p i) c t q = tt
island-token mode (Island l s r) c t q = int-most mode c t q
island-token mode (X r) c t q = tt
island-token mode (Y r x) c t q = tt

-- ---- the loop

pub record Filled (mode : Mode) (s : List ℕ) (target : Sections) (rows₀ : List ℤ) (letters₀ islands₀ : List ℕ) (points₀ : List ℤ) (rows : List ℤ) (letters islands : List ℕ) (points : List ℤ) (d : ReadStand) : Type 0 where
  pub tables : Tables
  pub stands : At mode s target tables d
  pub holds : Holding tables rows₀ rows letters₀ letters islands₀ islands points₀ points

-- the tables keep their lengths
pub record Kept (rows₀ : List ℤ) (letters₀ islands₀ : List ℕ) (points₀ : List ℤ) (rows : List ℤ) (letters islands : List ℕ) (points : List ℤ) : Type 0 where
  pub rows-kept : length rows ≡ length rows₀
  pub letters-kept : length letters ≡ length letters₀
  pub islands-kept : length islands ≡ length islands₀
  pub points_kept : length points ≡ length points₀

pub filled-start : (mode : Mode) (s : List ℕ) (start : ℕ) (rows : List ℤ) (letters islands : List ℕ) (points : List ℤ) → start ≤ length s → length s ≤ file_most
    → Filled mode s (walk_from mode s start) rows letters islands points rows letters islands points (stand_at start)
filled-start mode s start rows letters islands points h k =
    record { tables = empty; stands = at-start mode s start h k; holds = record { rows_are = refl; letters-are = refl; islands-are = refl; points-are = refl } }

module _ {mode : Mode} {s : List ℕ} {target : Sections} {rows₀ : List ℤ} {letters₀ islands₀ : List ℕ} {points₀ : List ℤ} {rows : List ℤ} {letters islands : List ℕ} {points : List ℤ} {d : ReadStand}
    (room : Room target (length rows₀) (length letters₀) (length islands₀) (length points₀))
    (h : Filled mode s target rows₀ letters₀ islands₀ points₀ rows letters islands points d) where
  pub filled-kept : Kept rows₀ letters₀ islands₀ points₀ rows letters islands points
  filled-kept =
      let o = h.tables in
      let f = at-fits mode s target o d (length rows₀) (length letters₀) (length islands₀) (length points₀) h.stands room in
      let g = h.holds in
      record {
        rows-kept = ap length g.rows_are ∙ length_over o.rows rows₀ f.rows_fit;
        letters-kept = ap length g.letters-are ∙ length_over o.letters letters₀ f.letters-fit;
        islands-kept = ap length g.islands-are ∙ length_over o.islands islands₀ f.islands-fit;
        points_kept = ap length g.points-are ∙ length_over o.points points₀ f.points-fit;
      }

  module _ (r : Result (Option Turn) Stopped) (q : r ≡ turn_of mode s d) where
    module _ (d' : ReadStand) (t len : ℕ) (e : r ≡ onward d' t len) where
      went : Moved mode s target h.tables d d' t len
      went = at_on mode s target h.tables d h.stands r q d' t len e

      pub fill-inside : d.at + len ≤ length s
      fill-inside = went.inside

      abbrev part : List ℕ
      part = take (d.at + len - d.at) (drop d.at s)

      part-is : part ≡ take len (drop d.at s)
      part-is = ap (λ (n : ℕ). take n (drop d.at s)) (add-sub_cancel_left d.at len)

      pub fill-token : (t ≤ token_most) × IslandToken d.state t × Counted d.needs
      fill-token =
          let c = take len (drop d.at s) in
          let w = h.stands.within in (
            says-most mode (want_of d.state) c t went.short went.says,
            island-token mode d.state c t went.says,
            (omega (arith, w.letters, w.here, w.small), omega (arith, w.islands, w.here, w.small), omega (arith, w.points, w.here, w.small)),
          )

      pub fill-room : PutRoom d.state part d.needs (length rows) (length letters) (length islands) (length points)
      fill-room =
          let k = filled-kept in
          rw (part-is, k.rows-kept, k.letters-kept, k.islands-kept, k.points_kept)
          (store-room mode s target h.tables d d' t len h.stands went rows₀ letters₀ islands₀ points₀ room)

      pub fill_on : (rows' : List ℤ) (letters' islands' : List ℕ) (points' : List ℤ) → rows' ≡ rows_put d.state t d.needs rows → letters' ≡ letters_put d.state part d.needs letters
          → islands' ≡ islands_put d.state t d.needs islands → points' ≡ points_put d.state t d.needs points
          → Filled mode s target rows₀ letters₀ islands₀ points₀ rows' letters' islands' points' d'
      fill_on rows' letters' islands' points' a b c e =
          let g = store-holds mode s target h.tables d d' t len h.stands went rows₀ letters₀ islands₀ points₀ room rows letters islands points h.holds in
          record {
            tables = put d.state t (take len (drop d.at s)) h.tables;
            stands = went.then;
            holds = record {
              rows_are = a ∙ g.rows_are;
              letters-are = b ∙ ap (λ (x : List ℕ). letters_put d.state x d.needs letters) part-is ∙ g.letters-are;
              islands-are = c ∙ g.islands-are;
              points-are = e ∙ g.points-are;
            };
          }

    -- sections that are read are not refused
    pub fill-refused : {X : Type 0} (m : Refusal) (k a : ℕ) → r ≡ halted m k a → X
    fill-refused m k a e =
        let z : target ≡ stop m k a = subst (TurnOk mode s target h.tables d) (sym q ∙ e) (turn-ok mode s target h.tables d h.stands) in
        absurd (subst (λ (x : Sections). Room x (length rows₀) (length letters₀) (length islands₀) (length points₀)) z room)

    -- at the end the tables hold all
    pub fill_done : r ≡ finished → Holding (section_tables target) rows₀ rows letters₀ letters islands₀ islands points₀ points
    fill_done e =
        let z : target ≡ read h.tables d.at = (subst (TurnOk mode s target h.tables d) (sym q ∙ e) (turn-ok mode s target h.tables d h.stands)).0 in
        subst (λ (x : Sections). Holding (section_tables x) rows₀ rows letters₀ letters islands₀ islands points₀ points) (sym z) h.holds

-- ---- a run of vertices

pub kept-rows : (st : State) (t : ℕ) (a : Needs) (l : List ℤ) → AtVertex st → l ≡ rows_put st t a l
kept-rows (X r) t a l h = refl
kept-rows (Y r x) t a l h = refl
kept-rows Due t a l h = elim h [ ]
kept-rows (Field _ _ _) t a l h = elim h [ ]
kept-rows (Island _ _ _) t a l h = elim h [ ]

pub kept-letters : (st : State) (c : List ℕ) (a : Needs) (l : List ℕ) → AtVertex st → l ≡ letters_put st c a l
kept-letters (X r) c a l h = refl
kept-letters (Y r x) c a l h = refl
kept-letters Due c a l h = elim h [ ]
kept-letters (Field _ _ _) c a l h = elim h [ ]
kept-letters (Island _ _ _) c a l h = elim h [ ]

pub kept-islands : (st : State) (t : ℕ) (a : Needs) (l : List ℕ) → AtVertex st → l ≡ islands_put st t a l
kept-islands (X r) t a l h = refl
kept-islands (Y r x) t a l h = refl
kept-islands Due t a l h = elim h [ ]
kept-islands (Field _ _ _) t a l h = elim h [ ]
kept-islands (Island _ _ _) t a l h = elim h [ ]

pub record Onward (mode : Mode) (s : List ℕ) (target : Sections) (rows₀ : List ℤ) (letters₀ islands₀ : List ℕ) (points₀ : List ℤ) (rows : List ℤ) (letters islands : List ℕ) (points : List ℤ) (from : ℕ) (d : ReadStand) : Type 0 where
  pub filled : Filled mode s target rows₀ letters₀ islands₀ points₀ rows letters islands points d
  pub past-it : from ≤ d.at

pub kept-letters' : (st : State) (c : List ℕ) (a : Needs) (l : List ℕ) → AtNumber st → l ≡ letters_put st c a l
kept-letters' (Field k p i) c a l h = rw h
kept-letters' Due c a l h = elim h [ ]
kept-letters' (Island _ _ _) c a l h = elim h [ ]
kept-letters' (X _) c a l h = elim h [ ]
kept-letters' (Y _ _) c a l h = elim h [ ]

pub kept-islands' : (st : State) (t : ℕ) (a : Needs) (l : List ℕ) → AtNumber st → l ≡ islands_put st t a l
kept-islands' (Field k p i) t a l h = refl
kept-islands' Due t a l h = elim h [ ]
kept-islands' (Island _ _ _) t a l h = elim h [ ]
kept-islands' (X _) t a l h = elim h [ ]
kept-islands' (Y _ _) t a l h = elim h [ ]

pub kept-points : (st : State) (t : ℕ) (a : Needs) (l : List ℤ) → AtNumber st → l ≡ points_put st t a l
kept-points (Field k p i) t a l h = refl
kept-points Due t a l h = elim h [ ]
kept-points (Island _ _ _) t a l h = elim h [ ]
kept-points (X _) t a l h = elim h [ ]
kept-points (Y _ _) t a l h = elim h [ ]
