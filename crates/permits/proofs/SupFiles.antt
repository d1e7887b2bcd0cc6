-- What the contracts of `sup_text` and `cxf_sup_write` permit on some sheets: document 02, T-01. Assumes nothing.
use Prim.Native.Nat.{ℕ, ◌+◌}
use mathlib.Core.Path.{◌≡◌, refl, ◌∙◌, ap}
use mathlib.Core.List.{List, [], ◌∷◌, ◌++◌}
use lib.ListN.{length, drop}
use lib.IntN.{ℤ, pos, negsuc}
use Rattle.std.specs.Prelude.{Ok, Err}
use contract.Lifetimes.{Lfts}
use borrow.Fn.World.{ArgsD, ResD}
use denote.Triple.Clauses.{AtExit}
use Rattle.laws.specs.Text.{text}
use Rattle.heading.specs.declared.Header.{Header}
use Rattle.heading.specs.Heading.{no_header}
use Rattle.sheet.specs.Tables.{Tables, Starts, no_starts, start_cells}
use Rattle.made.specs.declared.Flaw.TheVariants.{BadHeader}
use Rattle.made.specs.Made.{tables_of, starts_at}
use Rattle.tally.specs.declared.Untallied.TheVariants.{Sheet, Wide}
use Rattle.sup.specs.declared.NoSup.TheVariants.{NoRoom, Refused, BadDate, CodeTooLong, WideFigure}
use Rattle.sup.specs.Answer.{SupAnswer, sheet_sup, sup_of, sup_output}
use Rattle.sup.specs.AnswerExamples.{computed}
use Rattle.sup.specs.contracts.sup_text as sup-text
use Rattle.sup.proofs.sup_text.Reads as sup-reads
use Rattle.told.specs.declared.sup_files.CxfSup.{CxfSup}
use Rattle.told.specs.Asked.{header_of}
use Rattle.told.specs.SupFiles.{sup_told}
use Rattle.cabi.specs.contracts.cxf_sup_write as cxf-sup-write
use Rattle.cabi.proofs.cxf_sup_write.Reads as cxf-sup-reads
use Rattle.permits.proofs.SmallSheets.{Handed, Tabled, header, no_kind, long_name, in-C, no-kind-in-C, long-name-in-C}

-- ---- sheets, and the answers to them, computed

-- a border of so many letters, islands and vertices, behind others that have so many letters, island counts and points
abbrev pub border_row : ℕ → ℕ → ℕ → Starts → List ℤ
border_row letters islands vertices s = pos 1 ∷ pos 0 ∷ pos 0 ∷ pos 18 ∷ pos 0 ∷ pos 5 ∷ pos 5 ∷ pos 5 ∷ pos 5 ∷ pos letters ∷ pos islands ∷ pos vertices ∷ start_cells s

abbrev pub rectangle : ℕ → ℕ → List ℤ
rectangle width height = pos 0 ∷ pos 0 ∷ pos width ∷ pos 0 ∷ pos width ∷ pos height ∷ pos 0 ∷ pos height ∷ pos 0 ∷ pos 0 ∷ []

-- from its middle around a square of 40 km, of 1,600,000,000 m2
abbrev pub around : List ℤ
around =
    pos 0 ∷ pos 0 ∷ pos 20000000 ∷ pos 20000000 ∷ negsuc 19999999 ∷ pos 20000000 ∷ negsuc 19999999 ∷ negsuc 19999999 ∷ pos 20000000 ∷ negsuc 19999999 ∷ pos 20000000 ∷ pos 20000000 ∷ pos 0 ∷ pos 0 ∷ []

-- row 0 is the border of the sheet, of 16 m2; row 1 parcel 9, of 9 m2 without its island, whose ring has k vertices; row 2 a parcel of 6 m2
abbrev pub parcels : List ℕ → ℕ → List ℤ → Tables
parcels code k island =
    tables_of (border_row 11 0 5 no_starts ++ (border_row 1 1 (5 + k) (starts_at 11 0 5) ++ border_row (length code) 0 5 (starts_at 12 1 (10 + k)))) (text "Z999_0001009" ++ code) (k ∷ []) (rectangle 4000 4000 ++ (rectangle 3000 3000 ++ (island ++ rectangle 2000 3000)))

abbrev pub two_parcels : Tables
two_parcels = parcels (text "10") 5 (rectangle 1000 1000)

abbrev pub long_coded : Tables
long_coded = parcels (text "123456789012") 5 (rectangle 1000 1000)

abbrev pub wide_ringed : Tables
wide_ringed = parcels (text "123456789012") 5 (rectangle 20000001 1)

abbrev pub wide_figured : Tables
wide_figured = parcels (text "10") 7 around

abbrev pub today : List ℕ
today = text "20261115"

abbrev pub month13 : List ℕ
month13 = text "20261315"

abbrev pub file : List ℕ
file = text "Z999_000100  20261115\r\nN.FABBRIC           0\r\nN.PARTIC            2\r\nN.STRADE            0\r\nN.ACQUE             0\r\nN.SVIL-ALL          0\r\nFABBRIC             0\r\n10                  6\r\n9                   8\r\nPARTIC             14\r\nSTRADE              0\r\nACQUE               0\r\nSVIL-ALL            0\r\nTOTALE             14\r\nCONFINE            16\r\nSBILANCIO          -2\r\n"

spelt : sheet_sup header 3 two_parcels today ≡ file
unfolding sheet_sup computed
spelt = refl

spare : sup_of header 3 two_parcels today 400 ≡ Ok 368
unfolding computed
spare = refl

enough : sup_of header 3 two_parcels today 368 ≡ Ok 368
unfolding computed
enough = refl

short : sup_of header 3 two_parcels today 367 ≡ Err (NoRoom 368)
unfolding computed
short = refl

-- refused, whatever the room: the first in the order of the paper
headed : (room : ℕ) → sup_of no_kind 3 wide_ringed month13 room ≡ Err (Refused (Sheet BadHeader))
unfolding computed
headed room = refl

no-header : (count : ℕ) (t : Tables) (date : List ℕ) (room : ℕ) → sup_of no_header count t date room ≡ Err (Refused (Sheet BadHeader))
unfolding computed
no-header count t date room = refl

ringed : (room : ℕ) → sup_of header 3 wide_ringed month13 room ≡ Err (Refused (Wide 1))
unfolding computed
ringed room = refl

dated : (room : ℕ) → sup_of header 3 long_coded month13 room ≡ Err BadDate
unfolding computed
dated room = refl

coded : (room : ℕ) → sup_of header 3 long_coded today room ≡ Err (CodeTooLong 2)
unfolding computed
coded room = refl

-- the minus counts: -1599999991 has 11 characters, in the ninth line
figured : (room : ℕ) → sup_of header 3 wide_figured today room ≡ Err (WideFigure 9)
unfolding computed
figured room = refl

-- ---- `sup_text`

module _ (κs : Lfts 4) (a : ArgsD sup-text.signature κs) (r : ResD sup-text.signature κs) (e : AtExit sup-text.ended κs) (post : sup-reads.Learnt κs a r e) where
  abbrev pub date : List ℕ
  date = a.1.0.now

  -- the output as it is lent and at exit
  abbrev pub lent : List ℕ
  lent = a.1.1.0.now

  abbrev pub left : List ℕ
  left = e.1.1.0.now

  -- this answer, and the output as it was
  abbrev pub Refuses : SupAnswer → Type 0
  Refuses x = (r ≡ x) × (left ≡ lent)

  module _ {h : Header} {t : Tables} {day : List ℕ} (d : Handed h 3 t a.0.now) (q : date ≡ day) where
    answer : {x : SupAnswer} (room : ℕ) → length lent ≡ room → sup_of h 3 t day room ≡ x → r ≡ x
    answer room l f = post.0 ∙ rw (d.header-is, d.count-is, d.tables-are, q, l) f

    -- refused whatever the room: an answer that leaves the output as it was
    refused : (x : SupAnswer) → ((s l : List ℕ) → sup_output x s l ≡ l) → ((room : ℕ) → sup_of h 3 t day room ≡ x) → Refuses x
    refused x u f = let y = answer (length lent) refl (f (length lent)) in (y, post.1 ∙ rw y (u _ lent))

  module _ (d : Handed header 3 two_parcels a.0.now) (q : date ≡ today) where
    pub sup-answers : length lent ≡ 400 → r ≡ Ok 368
    sup-answers l = answer d q 400 l spare

    -- shuts out a writer that stores nothing, lists by rows, prints gross areas or a plus
    pub sup-stores : length lent ≡ 400 → left ≡ file ++ drop 368 lent
    sup-stores l = post.1 ∙ rw (sup-answers l, d.header-is, d.count-is, d.tables-are, q, spelt) refl

    -- shuts out a 14 without need
    pub sup-no-14-without-need : length lent ≡ 368 → r ≡ Ok 368
    sup-no-14-without-need l = answer d q 368 l enough

    -- shuts out a made-up needed length
    pub sup-needs : length lent ≡ 367 → Refuses (Err (NoRoom 368))
    sup-needs l = let y = answer d q 367 l short in (y, post.1 ∙ rw y refl)

  -- the header comes before the rings and the date
  pub sup-bad-header : Handed no_kind 3 wide_ringed a.0.now → date ≡ month13 → Refuses (Err (Refused (Sheet BadHeader)))
  sup-bad-header d q = refused d q (Err (Refused (Sheet BadHeader))) (λ s l. refl) headed

  -- the tally's own refusal comes before the date and the codes
  pub sup-too-wide : Handed header 3 wide_ringed a.0.now → date ≡ month13 → Refuses (Err (Refused (Wide 1)))
  sup-too-wide d q = refused d q (Err (Refused (Wide 1))) (λ s l. refl) ringed

  -- the date comes before the codes
  pub sup-bad-date : Handed header 3 long_coded a.0.now → date ≡ month13 → Refuses (Err BadDate)
  sup-bad-date d q = refused d q (Err BadDate) (λ s l. refl) dated

  pub sup-long-code : Handed header 3 long_coded a.0.now → date ≡ today → Refuses (Err (CodeTooLong 2))
  sup-long-code d q = refused d q (Err (CodeTooLong 2)) (λ s l. refl) coded

  pub sup-wide-figure : Handed header 3 wide_figured a.0.now → date ≡ today → Refuses (Err (WideFigure 9))
  sup-wide-figure d q = refused d q (Err (WideFigure 9)) (λ s l. refl) figured

-- ---- `cxf_sup_write`

module _ (κs : Lfts 7) (a : ArgsD cxf-sup-write.signature κs) (r : ResD cxf-sup-write.signature κs) (e : AtExit cxf-sup-write.ended κs) (post : cxf-sup-reads.Learnt κs a r e) where
  -- this header is handed in
  abbrev pub Headed : Header → Type 0
  Headed h = (a.0 ≡ h.kind) × (a.1.0.now ≡ h.name) × (a.1.1.0 ≡ h.scale)

  abbrev pub cxf_date : List ℕ
  cxf_date = a.1.1.1.1.1.1.1.1.0.now

  abbrev pub cxf_lent : List ℕ
  cxf_lent = a.1.1.1.1.1.1.1.1.1.0.now

  abbrev pub cxf_left : List ℕ
  cxf_left = e.1.1.1.1.1.1.1.1.1.0.now

  abbrev pub RefusesCxf : CxfSup → Type 0
  RefusesCxf x = (r ≡ x) × (cxf_left ≡ cxf_lent)

  module _ {h h' : Header} {t : Tables} {day : List ℕ} (in_c : header_of h.kind h.name h.scale ≡ h') (p : Headed h) (d : Tabled 3 t a.1.1.1) (q : cxf_date ≡ day) where
    cxf-answer : {x : SupAnswer} (room : ℕ) → length cxf_lent ≡ room → sup_of h' 3 t day room ≡ x → r ≡ sup_told x
    cxf-answer room l f = post.0 ∙ rw (p.0, p.1, p.2, d.count-is, d.rows_are, d.letters-are, d.islands-are, d.points-are, q, l, in_c) (ap sup_told f)

    cxf-output : {x : SupAnswer} (room : ℕ) → length cxf_lent ≡ room → sup_of h' 3 t day room ≡ x → cxf_left ≡ sup_output x (sheet_sup h' 3 t day) cxf_lent
    cxf-output room l f = post.1 ∙ rw (p.0, p.1, p.2, d.count-is, d.rows_are, d.letters-are, d.islands-are, d.points-are, q, l, in_c, f) refl

    cxf-refused : (x : SupAnswer) → ((s l : List ℕ) → sup_output x s l ≡ l) → ((room : ℕ) → sup_of h' 3 t day room ≡ x) → RefusesCxf (sup_told x)
    cxf-refused x u f = (cxf-answer (length cxf_lent) refl (f (length cxf_lent)), cxf-output (length cxf_lent) refl (f (length cxf_lent)) ∙ u _ cxf_lent)

  module _ (p : Headed header) (d : Tabled 3 two_parcels a.1.1.1) (q : cxf_date ≡ today) where
    pub cxf-sup-answers : length cxf_lent ≡ 400 → r ≡ record { number = 0; row = 0; line = 0; length = 368 }
    cxf-sup-answers l = cxf-answer in-C p d q 400 l spare

    pub cxf-sup-stores : length cxf_lent ≡ 400 → cxf_left ≡ file ++ drop 368 cxf_lent
    cxf-sup-stores l = cxf-output in-C p d q 400 l spare ∙ rw spelt refl

    pub cxf-sup-no-14-without-need : length cxf_lent ≡ 368 → r ≡ record { number = 0; row = 0; line = 0; length = 368 }
    cxf-sup-no-14-without-need l = cxf-answer in-C p d q 368 l enough

    pub cxf-sup-needs : length cxf_lent ≡ 367 → RefusesCxf (record { number = 14; row = 0; line = 0; length = 368 })
    cxf-sup-needs l = (cxf-answer in-C p d q 367 l short, cxf-output in-C p d q 367 l short)

  pub cxf-sup-bad-header : Headed no_kind → Tabled 3 wide_ringed a.1.1.1 → cxf_date ≡ month13 → RefusesCxf (record { number = 6; row = 0; line = 0; length = 0 })
  cxf-sup-bad-header p d q = cxf-refused no-kind-in-C p d q (Err (Refused (Sheet BadHeader))) (λ s l. refl) headed

  -- a name of 12 bytes is no name
  pub cxf-sup-long-name : Headed long_name → Tabled 3 two_parcels a.1.1.1 → cxf_date ≡ today → RefusesCxf (record { number = 6; row = 0; line = 0; length = 0 })
  cxf-sup-long-name p d q = cxf-refused long-name-in-C p d q (Err (Refused (Sheet BadHeader))) (λ s l. refl) (no-header 3 two_parcels today)

  pub cxf-sup-too-wide : Headed header → Tabled 3 wide_ringed a.1.1.1 → cxf_date ≡ month13 → RefusesCxf (record { number = 17; row = 1; line = 0; length = 0 })
  cxf-sup-too-wide p d q = cxf-refused in-C p d q (Err (Refused (Wide 1))) (λ s l. refl) ringed

  pub cxf-sup-bad-date : Headed header → Tabled 3 long_coded a.1.1.1 → cxf_date ≡ month13 → RefusesCxf (record { number = 21; row = 0; line = 0; length = 0 })
  cxf-sup-bad-date p d q = cxf-refused in-C p d q (Err BadDate) (λ s l. refl) dated

  pub cxf-sup-long-code : Headed header → Tabled 3 long_coded a.1.1.1 → cxf_date ≡ today → RefusesCxf (record { number = 22; row = 2; line = 0; length = 0 })
  cxf-sup-long-code p d q = cxf-refused in-C p d q (Err (CodeTooLong 2)) (λ s l. refl) coded

  pub cxf-sup-wide-figure : Headed header → Tabled 3 wide_figured a.1.1.1 → cxf_date ≡ today → RefusesCxf (record { number = 23; row = 0; line = 9; length = 0 })
  cxf-sup-wide-figure p d q = cxf-refused in-C p d q (Err (WideFigure 9)) (λ s l. refl) figured
